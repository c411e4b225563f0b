-- What the code of this crate takes from specifications.
pub use Rattle.mscp_drive.specs.UnitList.{IsUnitList, NumbersRise}
pub use Rattle.mscp_drive.specs.Both.{Both}
pub use Rattle.mscp_drive.specs.Settings.{Settings}
pub use Rattle.mscp_drive.specs.declared.block.Block.TheVariants.{Good}
pub use Rattle.mscp_drive.specs.declared.connection.Connection.TheVariants.{First}
pub use Rattle.mscp_drive.specs.declared.event.Event.{Event}
pub use Rattle.mscp_packet.specs.Steps.{Gives}
pub use Rattle.mscp_reader.specs.Causes.{cause_word}
pub use Rattle.mscp_reader.specs.Grammar.{Begins, HasCredits, HasGone, HasTimeout, HasUnits, IsFault, IsInHeader, Place, Reads, asked_after, said_at}
pub use Rattle.mscp_reader.specs.Outcome.{Heads, Leads, Sets, asked_next, both_of, budget_of, headed_on, in_line, limited, place_after, rest_headed, rest_outcome, script_outcome, settled}
pub use Rattle.mscp_reader.specs.Plain.{Asks, CutsWord, Ends, IsNumeral, IsPlain, is_letter}
pub use Rattle.mscp_reader.specs.Requests.{IsValidForm, bytes_in, events_of, sent}
pub use Rattle.mscp_reader.specs.declared.events.TheConstants.{MOST_EVENTS, MOST_STEPS}
pub use Rattle.mscp_reader.specs.declared.fault.ScriptFault.{ScriptFault}
pub use Rattle.mscp_reader.specs.declared.script.TheConstants.{MOST_BYTES}
pub use Rattle.std.specs.List.{list_all}
pub use Rattle.std.specs.Str.Lines.{strip_carriage_return}
