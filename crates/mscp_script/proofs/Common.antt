-- What the lemmas of this crate take from elsewhere.
pub use Rattle.std.proofs.Common.{Err, IfOk, List, OnOk, Option, Result, [], ap, arith, drop, false, get_or, is_some, length, length-append, map, refl, replicate, subst, take, true, vec_len, ℕ, ◌++◌, ◌+◌, ◌-◌, ◌<◌, ◌∙◌, ◌∷◌, ◌≡◌, ◌≤◌}
pub use Rattle.std.proofs.Math.ListN.{drop_of_length-le}
pub use Rattle.std.proofs.lemmas.Bool.{true≢false}
pub use Rattle.std.proofs.lemmas.Grind.{common_steps}
pub use Rattle.std.proofs.lemmas.List.{append_assoc, drop-set, flat_map_more, length-drop, length-take, replicate_more, take-append-le}
pub use Rattle.std.proofs.lemmas.List.Sums.{sum_by_push}
pub use Rattle.std.proofs.lemmas.Slice.Eq.{bytes_eq-Decides}
pub use Rattle.std.specs.Io.KnownBytes.{Appends, Consumes, IsAtEnd}
pub use Rattle.std.specs.List.{flat_map}
pub use Rattle.std.specs.Prelude.{IsErrAnd, codes}
pub use Rattle.mscp_controller.specs.Holdings.{Answered, Answers, Holdings, fresh}
pub use Rattle.mscp_controller.specs.declared.entry.Entry.{Entry}
pub use Rattle.mscp_drive.specs.Settings.{Settings}
pub use Rattle.mscp_drive.specs.declared.event.Event.{Event}
pub use Rattle.mscp_drive.specs.declared.memory.OutOfMemory.{OutOfMemory}
pub use Rattle.mscp_queue.specs.Pickers.{IsSweep}
pub use Rattle.mscp_queue.specs.declared.picker.Sweep.{Sweep}
pub use Rattle.mscp_queue.specs.declared.view.Choice.{Choice}
pub use Rattle.mscp_reader.proofs.Digits.{few_digits}
pub use Rattle.mscp_reader.proofs.Outcomes.{ends, goes_on, goes_wrong}
pub use Rattle.mscp_reader.proofs.Sound.{is_read}
pub use Rattle.mscp_reader.specs.Grammar.{Begins, HasGone, IsFault}
pub use Rattle.mscp_reader.specs.Lexical.{lines}
pub use Rattle.mscp_reader.specs.Outcome.{lines_outcome, rest_outcome}
pub use Rattle.mscp_reader.specs.Requests.{events_of}
pub use Rattle.mscp_reader.specs.declared.fault.ReadFault.{ReadFault}
pub use Rattle.mscp_reader.specs.declared.fault.ScriptFault.{ScriptFault}
pub use Rattle.mscp_script.specs.Chosen.{chosen}
pub use Rattle.mscp_script.specs.Running.{Meets, Ran, Runs, TellsReport}
pub use Rattle.mscp_script.specs.Simulated.{IsReport, sim_of_reading, sim_of_script}
pub use Rattle.mscp_script.specs.Text.{Reported, entry_lines, figure_line, finished, reported, with_entry}
pub use Rattle.mscp_script.specs.Whole.{IsFront, IsRest, most_read}
pub use Rattle.mscp_script.specs.declared.reading.ReadAllFault.{ReadAllFault}
pub use Rattle.mscp_script.specs.declared.running.Run.{Run}
pub use Rattle.mscp_script.specs.declared.simulation.SimFault.{SimFault}
