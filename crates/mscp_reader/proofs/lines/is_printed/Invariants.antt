use Rattle.mscp_reader.proofs.Common.{◌≡◌, take, list_all, is_printed}
use Rattle.mscp_reader.proofs.lines.is_printed.Given as goal

abbrev pub invariant-loop-byte : goal.invariant-loop-byte
invariant-loop-byte l = l.all ≡ list_all is_printed (take l.byte-index l.line)
