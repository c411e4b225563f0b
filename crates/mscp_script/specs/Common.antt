-- What the code of this crate takes from specifications.
pub use Rattle.arrayvec.specs.ArrayString.{array_string_len}
pub use Rattle.mscp_drive.specs.Settings.{Settings}
pub use Rattle.mscp_packet.specs.Steps.{Gives}
pub use Rattle.mscp_reader.specs.Grammar.{Begins, HasGone, IsFault}
pub use Rattle.mscp_reader.specs.Outcome.{rest_outcome}
pub use Rattle.mscp_script.specs.Chosen.{chosen, seen}
pub use Rattle.mscp_script.specs.Endings.{error_line, exit_status, fault_status, fault_text, show_text}
pub use Rattle.mscp_script.specs.Printed.{Prints, PrintsOnce}
pub use Rattle.mscp_script.specs.Running.{Runs, RunsTo, TellsReport}
pub use Rattle.mscp_script.specs.Simulated.{IsGiven, IsReport, LeavesRest, WritesOnce, WritesReport, sim_of_reading, sim_of_script}
pub use Rattle.mscp_script.specs.Text.{aborted_part, block_word, connection_word, ended_part, entry_lines, figure_line, last_line, refusal_word, sent_line, step_line}
pub use Rattle.mscp_text.specs.Shown.{shown}
pub use Rattle.std.specs.Fmt.{decimal}
pub use Rattle.std.specs.List.{flat_map}
pub use Rattle.std.specs.Prelude.{map}
pub use Rattle.std.specs.String.{string_bytes}
