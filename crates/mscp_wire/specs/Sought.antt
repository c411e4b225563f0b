-- Which command is sought among those that are outstanding.
use Rattle.std.specs.Prelude.{Bool}
use Rattle.mscp_wire.specs.Wire.{aborts, is_named, is_turning, keeps_back, polls, turns_beside, waits_on}
use Rattle.mscp_wire.specs.declared.held.Sought.{Sought}
use Rattle.mscp_wire.specs.declared.held.Sought.TheVariants.{AbortOf, Beside, Keeping, Named, PollOf, Turning, WaitedFor}
use Rattle.mscp_wire.specs.declared.sent.Sent.{Sent}

-- a command is one that is sought
abbrev pub is_sought : Sought → Sent → Bool
is_sought (Named via number) s = is_named via number s
is_sought (AbortOf y) s = aborts y s
is_sought (Keeping y) s = keeps_back y s
is_sought (PollOf y) s = polls y s
is_sought (WaitedFor via) s = waits_on via s
is_sought (Turning via unit) s = is_turning via unit s
is_sought (Beside y) s = turns_beside y s
