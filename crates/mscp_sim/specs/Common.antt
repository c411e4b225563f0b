-- What the code of this crate takes from specifications.
pub use Rattle.mscp_drive.specs.Both.{Both, of, put}
pub use Rattle.mscp_drive.specs.Settings.{IsValid, Settings}
pub use Rattle.mscp_drive.specs.declared.event.Event.{Event}
pub use Rattle.mscp_drive.specs.declared.event.Event.TheVariants.{Step}
pub use Rattle.mscp_host.specs.Accounts.{Account, fresh, heard, polls_oldest, submits}
pub use Rattle.mscp_packet.specs.Commands.{command_bytes}
pub use Rattle.mscp_reader.specs.Grammar.{Begins, HasGone, IsFault, Reads}
pub use Rattle.mscp_reader.specs.Outcome.{Tells, rest_outcome, script_outcome}
pub use Rattle.mscp_reader.specs.Requests.{events_of}
pub use Rattle.mscp_reader.specs.declared.events.TheConstants.{MOST_EVENTS}
pub use Rattle.mscp_sim.specs.Conversing.{Goes, GoesOn}
pub use Rattle.mscp_sim.specs.Matches.{Match}
pub use Rattle.mscp_sim.specs.Rooms.{HasRoom}
pub use Rattle.mscp_sim.specs.Scripts.{meaning_of}
pub use Rattle.mscp_sim.specs.TwoEnds.{AreTwoEnds}
pub use Rattle.std.specs.Prelude.{unwrap_or}
