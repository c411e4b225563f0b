use Rattle.mscpjudge.proofs.Common.{flat_map, outstanding_text, take, ◌++◌, ◌≡◌}
use Rattle.mscpjudge.proofs.wire.put_outstanding.Given as goal

abbrev pub invariant-loop-command : goal.invariant-loop-command
invariant-loop-command g l =
    l.text.items ≡ l.fn.text.items ++ flat_map outstanding_text (take l.command-index l.commands)
