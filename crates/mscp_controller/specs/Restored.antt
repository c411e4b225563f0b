-- What a controller can be made of again: what callers see of one that was.
use Rattle.std.specs.Prelude.{◌≡◌, ◌+◌, ◌≤◌, true, List, length, All, Option}
use Rattle.mscp_packet.specs.declared.end.End.{End}
use Rattle.mscp_packet.specs.Ends.{IsOfKind}
use Rattle.mscp_queue.specs.declared.drive.Drive.{Drive}
use Rattle.mscp_drive.specs.declared.connection.Connection.{Connection}
use Rattle.mscp_drive.specs.declared.connection.Connection.TheVariants.{First, Second}
use Rattle.mscp_queue.specs.declared.name.Name.{Name}
use Rattle.mscp_queue.specs.Kept.{ArePassedInOrder, units_of}
use Rattle.mscp_queue.specs.Kept as queue
use Rattle.mscp_queue.specs.Records.{Record}
use Rattle.mscp_drive.specs.Both.{of}
use Rattle.mscp_controller.specs.Holdings.{Holdings, waiting_on}
use Rattle.mscp_drive.specs.Settings.{Settings, IsValid, credits_of, room, room_of}

-- all that callers see of a controller
abbrev pub made_of : {K : Type 0} → Settings → List Record → List End → List End → List Drive → Option Name → K
    → Holdings K
made_of c waiting first second drives begun picker = record {
  settings = c;
  waiting = waiting;
  untaken = record { first = first; second = second };
  drives = drives;
  begun = begun;
  picker = picker;
}

-- the credits of a connection cover its waiting commands and its untaken ends, one credit is kept for commands that are
-- answered when they come, and each of those ends has the body of its endcode
pub record IsCovered (c : Settings) (rs : List Record) (via : Connection) (ends : List End) : Type 0 where
  pub covered : length (waiting_on via rs) + length ends ≤ credits_of c via
  pub fits : length (waiting_on via rs) ≤ room_of c via
  pub shaped : All IsOfKind ends

-- what is true of all that callers see of a controller, whatever came to it
pub record IsSound {K : Type 0} (h : Holdings K) : Type 0 where
  pub valid : IsValid h.settings
  -- its queue is one
  pub queue : queue.IsHeld (room h.settings) h.settings.budget h.settings.longest h.waiting h.drives h.begun true
  -- who came earlier was passed at least as often
  pub order : ArePassedInOrder h.waiting
  -- each unit has a drive
  pub units : units_of h.drives ≡ h.settings.units
  pub first : IsCovered h.settings h.waiting First (of First h.untaken)
  pub second : IsCovered h.settings h.waiting Second (of Second h.untaken)
