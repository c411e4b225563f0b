-- What goes over the wire between a port and its host, as whoever judges the wire sees it: the messages for the disks,
-- as they are taken, and the disk's ends, as the slots of their packets are given back.
use Rattle.std.specs.Prelude.{◌++◌, ◌∷◌, [], ℕ, Bool, false, if◌then◌else◌, List, flat_map, map, None}
use Rattle.mscp_drive.specs.declared.connection.Connection.TheVariants.{First}
use Rattle.mscp_port.specs.declared.port.Outgoing.{Outgoing}
use Rattle.mscp_port.specs.declared.port.Port.{Port}
use Rattle.mscp_port.specs.declared.task.Task.{Task}
use Rattle.mscp_port.specs.declared.task.Task.TheVariants as tasks
use Rattle.mscp_ported.specs.Departures.{leaves}
use Rattle.mscp_port.specs.Histories.{Answered, Call, Picking}
use Rattle.mscp_ported.specs.Ends.{end_said}
use Rattle.mscp_ported.specs.Talk.{since}
use Rattle.mscp_ported.specs.Told.{accepted_by}
use Rattle.mscp_wire.specs.Wire.{History}
use Rattle.mscp_wire.specs.declared.moment.Moment.{Moment}
use Rattle.mscp_wire.specs.declared.moment.Moment.TheVariants as moments

-- the text in hand is for the diagnostic and utilities protocol, and none of the disks'
abbrev pub is_foreign : Task → Bool
is_foreign (tasks.Text slot size foreign) = foreign
is_foreign task = false

abbrev pub message_of : List ℕ → Moment
message_of text = moments.Message First (record { items = text }) None

abbrev pub end_of : List ℕ → Moment
end_of text = moments.End First (record { items = text })

-- the message that is taken by a call, if it is for the disks
abbrev pub messages_by : {K : Type 0} → Call → Port K → History
messages_by call old = if is_foreign old.task then [] else map message_of (accepted_by call old)

-- the end in what goes out, if it is one of the disk's
abbrev pub ends_in : Outgoing → History
ends_in o = map end_of (end_said o.kind o.bytes.items)

-- what is seen by a call
abbrev pub seen_by : {K : Type 0} → Call → Port K → Port K → History
seen_by call old new = messages_by call old ++ flat_map ends_in (leaves old.outgoing new.outgoing)

-- and since all was forgotten last, the first moment first
abbrev pub logged : {K : Type 0} (picks : Picking K) (start p : Port K) (calls : List Call)
    → Answered picks start calls p → History
logged picks start p [] a = []
logged picks start p (call ∷ earlier) a =
    since p.stage call (logged picks start a.0 earlier a.1) (seen_by call a.0 p)
