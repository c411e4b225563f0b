use Rattle.mscpjudge.specs.Told.{IsAt}
use Rattle.mscpjudge.proofs.telling.tell_ports.Given as goal

abbrev pub invariant-loop-port : goal.invariant-loop-port
invariant-loop-port l = IsAt l.port l.extent l.fn.log.items l.telling
