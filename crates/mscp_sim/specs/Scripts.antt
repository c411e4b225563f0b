-- What a script that was read stands for.
use Rattle.std.specs.Prelude.{List}
use Rattle.mscp_drive.specs.Settings.{Settings}
use Rattle.mscp_drive.specs.declared.event.Event.{Event}
use Rattle.mscp_sim.specs.declared.reading.Script.{Script}

-- its settings, and its events
abbrev pub meaning_of : {A : Type 0} → Script A → Settings × List Event
meaning_of script = (script.config, script.events.items)
