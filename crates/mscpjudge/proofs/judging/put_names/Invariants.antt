use Rattle.mscpjudge.proofs.Common.{flat_map, spaced_name, take, ◌++◌, ◌≡◌}
use Rattle.mscpjudge.proofs.judging.put_names.Given as goal

abbrev pub invariant-loop-named : goal.invariant-loop-named
invariant-loop-named g l = l.text.items ≡ l.fn.text.items ++ flat_map spaced_name (take l.named-index l.names)
