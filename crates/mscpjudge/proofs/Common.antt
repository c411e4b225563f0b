-- What the lemmas of this crate take from elsewhere.
pub use Rattle.std.proofs.Common.{Bool, Err, List, None, Ok, Option, Result, Some, [], add-one, ap, append_assoc, arith, below_more, codes, cond, false, get_or, if◌then◌else◌, inl, inr, length, length-set, map, nat_eq, nat_le, nat_lt, refl, set, subst, suc, sym, take, true, zero, ℕ, ◌&&◌, ◌++◌, ◌+◌, ◌<◌, ◌||◌, ◌∙◌, ◌∷◌, ◌≡◌, ◌≢◌, ◌≤◌, ◌⊎◌}
pub use Rattle.std.proofs.Math.Nat.{eq-or-lt_of_le}
pub use Rattle.std.proofs.lemmas.Bool.Decides.{nat_tests}
pub use Rattle.std.proofs.lemmas.Grind.{common_steps, flat_map-append}
pub use Rattle.std.proofs.lemmas.List.{append-nil, get_or-map, get_or-set_other, get_or-set_same, length-map, map-append, map-set}
pub use Rattle.std.proofs.lemmas.Result.{err_from_is_err_and}
pub use Rattle.std.specs.Fmt.{decimal}
pub use Rattle.std.specs.List.{flat_map}
pub use Rattle.std.specs.Ordering.{is_eq, nat_cmp}
pub use Rattle.std.specs.Prelude.{count_by, slice_index}
pub use Rattle.std.specs.Result.{OnOk}
pub use Rattle.mscp_drive.specs.declared.connection.Connection.{Connection}
pub use Rattle.mscp_drive.specs.declared.connection.Connection.TheVariants.{First, Second}
pub use Rattle.mscp_packet.specs.Steps.{◌>>=◌}
pub use Rattle.mscp_reader.specs.Lexical.{lines}
unfoldable pub use Rattle.mscp_reader.specs.Lexical.{said, words}
pub use Rattle.mscp_reader.specs.Outcome.{Fails, Tells, in_line}
pub use Rattle.mscp_reader.specs.declared.fault.ReadFault.{ReadFault}
pub use Rattle.mscp_reader.specs.declared.fault.ScriptFault.{ScriptFault}
pub use Rattle.mscp_script.specs.Whole.{IsFront, most_read}
pub use Rattle.mscp_wire.specs.Course.{Findings, GoesOn, IsOn, findings_with, listed}
pub use Rattle.mscp_wire.specs.Doubts.{doubts_of}
pub use Rattle.mscp_wire.specs.Log.{Log, line_says}
unfoldable pub use Rattle.mscp_wire.specs.Log.{without_time}
pub use Rattle.mscp_wire.specs.Right.{Comes, Judges, Says}
pub use Rattle.mscp_wire.specs.Totals.{totals_of}
pub use Rattle.mscp_wire.specs.Wire.{key, same_connection}
pub use Rattle.mscp_wire.specs.declared.course.Course.{Course}
pub use Rattle.mscp_wire.specs.declared.course.Finding.{Finding}
pub use Rattle.mscp_wire.specs.declared.log.Verdict.{Verdict}
pub use Rattle.mscp_wire.specs.declared.wrong.Wrong.{Wrong}
pub use Rattle.mscpjudge.specs.Counted.{ended_text, sent_text}
unfoldable pub use Rattle.mscpjudge.specs.Counted.{texts}
pub use Rattle.mscpjudge.specs.Credited.{ComesOf, JudgesAll, came_by, came_with, judged_by}
pub use Rattle.mscpjudge.specs.Credits.{after_line, credits_by, first_of, line_breach, log_breach, unknown}
unfoldable pub use Rattle.mscpjudge.specs.Credits.{account_in, breach_from}
pub use Rattle.mscpjudge.specs.Found.{Gathered, all_text, breach_by, breaches_by, breaks, broken_of, broken_rules_text, finding_text, found_beside, found_text, gathered_after, lines_found, newest, nothing_gathered, rule_text, rules_in_order, verdict_found}
unfoldable pub use Rattle.mscpjudge.specs.Found.{gathered_in}
pub use Rattle.mscpjudge.specs.Heard.{heard_outcome}
pub use Rattle.mscpjudge.specs.Numbers.{fault_by, number_by}
pub use Rattle.mscpjudge.specs.Ports.{Part, fault_after, fault_or, first_fault, has_ports, is_port, kind_in, no_part, number_in, occurs, part_after, part_at, part_by, part_end, part_of, port_after, port_fault, port_log, shown, with_line}
unfoldable pub use Rattle.mscpjudge.specs.Ports.{fault_in, have_ports, kind_by, line_kind, part_in}
pub use Rattle.mscpjudge.specs.Said.{fault_of_log, spaced_name}
pub use Rattle.mscpjudge.specs.Showing.{line_shown}
unfoldable pub use Rattle.mscpjudge.specs.Showing.{lines_shown}
pub use Rattle.mscpjudge.specs.Times.{at_text, line_time, no_time, time_of}
unfoldable pub use Rattle.mscpjudge.specs.Times.{lines_time}
pub use Rattle.mscpjudge.specs.Timing.{IsTimed, Timed, after_moment, after_said, nothing_timed, with_waiting}
unfoldable pub use Rattle.mscpjudge.specs.Timing.{after_lines}
pub use Rattle.mscpjudge.specs.Told.{Answers, Goes, IsAt, IsFault, IsFaultAt, IsFaultBelow, IsFirstBelow, Stands, TellsBy, TellsOne, TellsWire, earlier, extent_text, port_text, verdict_by, worse}
unfoldable pub use Rattle.mscpjudge.specs.Told.{SaysBelow}
pub use Rattle.mscpjudge.specs.Wired.{came_outcome, came_text, counted_text, doubts_text, wire_outcome, wire_text}
unfoldable pub use Rattle.mscpjudge.specs.Wired.{line_text, outstanding_text}
pub use Rattle.mscpjudge.specs.declared.credits.Account.{Account}
pub use Rattle.mscpjudge.specs.declared.judging.Outcome.{Outcome}
pub use Rattle.mscpjudge.specs.declared.ports.Kind.{Kind}
pub use Rattle.mscpjudge.specs.declared.ports.Section.{Section}
pub use Rattle.mscpjudge.specs.declared.telling.Extent.{Extent}
pub use Rattle.mscpjudge.specs.declared.telling.Telling.{Telling}
pub use Rattle.mscpjudge.specs.declared.telling.Told.{Told}
pub use Rattle.mscpjudge.specs.declared.timing.Waiting.{Waiting}
pub use mathlib.Core.Path.{fun_ext}
