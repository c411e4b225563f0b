-- What a trace shows on the wire between the hosts and the controller. A message is there where it is taken: one
-- that is
-- refused for want of a credit, for its size or for its number is none that a host may send. An end is there where its
-- host takes it.
use Rattle.std.specs.Prelude.{[], ◌∷◌, flat_map, None, Some, Ok}
use Rattle.mscp_drive.specs.declared.event.Event.{Event}
use Rattle.mscp_drive.specs.declared.event.Event.TheVariants as events
use Rattle.mscp_controller.specs.History.{Trace}
use Rattle.mscp_controller.specs.declared.entry.Entry.{Entry}
use Rattle.mscp_controller.specs.declared.entry.Entry.TheVariants as entries
use Rattle.mscp_wire.specs.Wire.{History}
use Rattle.mscp_wire.specs.declared.moment.Moment.TheVariants as wire

-- what an event and its answer show on the wire
abbrev pub shown_by : Event → Entry → History
shown_by (events.Send via b) (entries.Sent other (Ok sent)) = wire.Message via b None ∷ []
shown_by (events.Take via) (entries.Taken other (Some b)) = wire.End via b ∷ []
shown_by event entry = []

-- what a trace shows on the wire, in the order of its moments
unfoldable pub shown : Trace → History
shown t = flat_map (λ m. shown_by m.0 m.1) t
