-- What the lemmas of this crate take from elsewhere.
pub use Rattle.std.proofs.Common.{Bool, Err, List, None, Ok, Option, Result, Some, [], ap, append_assoc, arith, cond, drop, false, get_or, if◌then◌else◌, inl, inr, length, length-append, length-take-le, map, nat_lt, not, refl, rules, set, subst, suc, sym, take, take-append-drop, take_all, true, zero, ℕ, ⊎_elim, ◌%◌, ◌&&◌, ◌++◌, ◌+◌, ◌-◌, ◌<◌, ◌||◌, ◌∙◌, ◌∷◌, ◌≡◌, ◌≢◌, ◌≤◌, ◌⊎◌}
pub use Rattle.std.proofs.Math.ListN.{get_or-append}
pub use Rattle.std.proofs.Math.Seq.{get_or-append_seam, take-append_seam}
pub use Rattle.std.proofs.lemmas.Bool.{cases_eq, cases_lt, eqb-false, eqb-true, false≢true, le-leb, lt-ltb, not-false, not-true, or_parts, true≢false}
pub use Rattle.std.proofs.lemmas.Bool.Decides.{nat_tests}
pub use Rattle.std.proofs.lemmas.Fn.{filter_same}
pub use Rattle.std.proofs.lemmas.Grind.{get_or-set_at, get_or_default_zero}
pub use Rattle.std.proofs.lemmas.List.{append-nil, drop_more, get_or-append_right, get_or-drop, get_or-set_other, get_or-set_same, get_or-take, get_or_default, length-drop, length-set, length-take, set-append_left, set-append_right, set-get_or, set_past, take-append-le}
pub use Rattle.std.proofs.lemmas.List.Edits.{map_over_more}
pub use Rattle.std.proofs.lemmas.List.Elements.{filter_map-append}
pub use Rattle.std.proofs.lemmas.List.Folds.{list_any_more}
pub use Rattle.std.proofs.lemmas.List.Sums.{fold_push, sum_by-append, sum_by-cons, sum_by-remove, sum_by-set, sum_by_push}
pub use Rattle.std.proofs.lemmas.Option.{slice_get_past, slice_get_read}
pub use Rattle.std.proofs.lemmas.Result.{IfOk-equal, IfOk-from_err, MatchResult-from_err, err_from_is_err_and}
pub use Rattle.std.specs.List.{filter, list_any, position, position_or_len, remove, slice_get}
pub use Rattle.std.specs.Ordering.{is_eq, nat_cmp}
pub use Rattle.std.specs.Prelude.{IfSome, IsSome, count_by, find, is_none, is_some, max, nat_eq, nat_le, option_map, replicate}
pub use Rattle.std.specs.Result.{IfOk, OnOk}
pub use Rattle.arrayvec.specs.ArrayVec.{ArrayVec}
pub use Rattle.mscp_drive.specs.declared.connection.Connection.{Connection}
pub use Rattle.mscp_drive.specs.declared.connection.Connection.TheVariants.{First, Second}
pub use Rattle.mscp_packet.specs.Number.{num}
pub use Rattle.mscp_packet.specs.Steps.{◌>>=◌}
pub use Rattle.mscp_reader.specs.Lexical.{lines}
pub use Rattle.mscp_reader.specs.Outcome.{in_line}
pub use Rattle.mscp_reader.specs.declared.fault.Cause.{Cause}
pub use Rattle.mscp_reader.specs.declared.fault.ReadFault.{ReadFault}
pub use Rattle.mscp_reader.specs.declared.fault.ScriptFault.{ScriptFault}
pub use Rattle.mscp_wire.specs.Begun.{has_met, has_sent, has_turned, is_about_sent, is_figure, is_initial, is_middle, is_slow, is_sure, is_unnamed, names, sends, spares, spares_end, turns_unit}
pub use Rattle.mscp_wire.specs.Course.{Findings, GoesOn, IsOn, counts, finding_by, findings_after, findings_with, first_or, has_name, has_place, has_room, is_named_in, listed, mention_after, mention_of, mentions_after, mentions_counted, no_findings, or_no_mention, places_by, tells_of, told_in, with_counted, with_told}
unfoldable pub use Rattle.mscp_wire.specs.Course.{first_in}
pub use Rattle.mscp_wire.specs.Doubts.{doubt_of, doubt_with, doubtful, doubtful_at, doubtful_end, doubtful_found, doubts_at, doubts_of, doubts_with, found_at, is_another, is_called_twice, is_held_by_another, is_odd, is_past, no_doubt, or_last, skips, slow_at, writes_protected}
unfoldable pub use Rattle.mscp_wire.specs.Doubts.{first_of, many}
pub use Rattle.mscp_wire.specs.Kept.{AreTagged, IsCounted, IsFound, IsKept, IsNext, IsTally, NoneIn, about, aside, asks, besides, by_asked, by_fence, by_line, by_name, by_next, by_status, cell, fewer, heard, is_lined, is_on, leaves, more, place, place_if, sents, slot, slot_if, slot_of, stands, tag, tag_if, tag_of, tells, with_figure}
pub use Rattle.mscp_wire.specs.Log.{Log, broken_in, broken_said, broken_unless, is_first, is_fresh, is_outstanding, is_strange, is_stranger, line_says, nothing, spared, with_either, with_moment, with_said, with_stranger}
unfoldable pub use Rattle.mscp_wire.specs.Log.{AreRightLines, with_line, with_lines}
pub use Rattle.mscp_wire.specs.Middle.{IsMiddle, IsMiddleOf, Shows, has_other, keeps_unit, kept_name, name_in, name_with}
pub use Rattle.mscp_wire.specs.Right.{Comes, Goes, HasFew, IsAfter, IsFirstFault, IsFirstWrong, IsOf, IsRightLog, IsTooLarge, Judges, Reaches, Says, Tell}
pub use Rattle.mscp_wire.specs.Rows.{counted, entry_with, found, has_any, kept_at, kept_in, no_numbers, no_pair, pair_has_any, pair_of, row_of}
pub use Rattle.mscp_wire.specs.Sought.{is_sought}
pub use Rattle.mscp_wire.specs.Totals.{code_told, counted_at, counts_of, fall, fall_after, falls_of, lesser, opcode_sent, totals_of}
unfoldable pub use Rattle.mscp_wire.specs.Totals.{greatest, least, longest, tally}
pub use Rattle.mscp_wire.specs.Units.{after_other, after_own, other_side, told_after_end, told_after_message, told_to}
pub use Rattle.mscp_wire.specs.Wire.{AreRight, History, IsRight, Standing, aborts, after, answer_by, answered_by, asking, asks_oldest, broken, broken_at, broken_by, broken_message, called, called_after, called_in, command_at, command_at_place, command_of, controller, controller_after, count_on, four_in, has_credit, hears, is_immediate, is_it, is_long, is_message, is_named, is_new, is_ordered, is_polled, is_sequential, is_settled_at, is_turning, keeps_back, kept, kept_called, key, left, limit_of, moment_at, others_of, outstanding, passed_of, place_of, polled_by, polls, same_connection, seen_before, seen_nothing, seen_of, sent_by, settles, standing_after, standing_first, timed, timeout, timeout_after, told, told_after, told_nothing, turns, turns_beside, unit_before, unless, waits_on}
pub use Rattle.mscp_wire.specs.declared.answer.Answer.{Answer}
pub use Rattle.mscp_wire.specs.declared.course.Course.{Course}
pub use Rattle.mscp_wire.specs.declared.course.Finding.{Finding}
pub use Rattle.mscp_wire.specs.declared.doubts.Doubtful.{Doubtful}
pub use Rattle.mscp_wire.specs.declared.doubts.Doubts.{Doubts}
pub use Rattle.mscp_wire.specs.declared.doubts.Found.{Found}
pub use Rattle.mscp_wire.specs.declared.falls.Falls.{Falls}
pub use Rattle.mscp_wire.specs.declared.identity.Identity.{Identity}
pub use Rattle.mscp_wire.specs.declared.judge.Judge.{Judge}
pub use Rattle.mscp_wire.specs.declared.judge.Stepped.{Stepped}
pub use Rattle.mscp_wire.specs.declared.line.Said.{Said}
pub use Rattle.mscp_wire.specs.declared.log.Verdict.{Verdict}
pub use Rattle.mscp_wire.specs.declared.mentions.Mention.{Mention}
pub use Rattle.mscp_wire.specs.declared.middle.Middle.{Middle}
pub use Rattle.mscp_wire.specs.declared.moment.Moment.{Moment}
pub use Rattle.mscp_wire.specs.declared.moment.Moment.TheVariants.{Reset}
pub use Rattle.mscp_wire.specs.declared.reading.Reading.{Reading}
pub use Rattle.mscp_wire.specs.declared.row.Entry.{Entry}
pub use Rattle.mscp_wire.specs.declared.row.Numbers.{Numbers}
pub use Rattle.mscp_wire.specs.declared.row.Pair.{Pair}
pub use Rattle.mscp_wire.specs.declared.row.Row.{Row}
pub use Rattle.mscp_wire.specs.declared.rule.Rule.{Rule}
pub use Rattle.mscp_wire.specs.declared.sent.Asked.{Asked}
pub use Rattle.mscp_wire.specs.declared.sent.Asked.TheVariants.{Gone, Nothing, Oldest}
pub use Rattle.mscp_wire.specs.declared.sent.Sent.{Sent}
pub use Rattle.mscp_wire.specs.declared.table.Table.{Table}
pub use Rattle.mscp_wire.specs.declared.tallies.Tallies.{Tallies}
pub use Rattle.mscp_wire.specs.declared.told.Seen.{Seen}
pub use Rattle.mscp_wire.specs.declared.told.State.{State}
pub use Rattle.mscp_wire.specs.declared.told.State.TheVariants.{Shared}
pub use Rattle.mscp_wire.specs.declared.told.Told.{Told}
pub use Rattle.mscp_wire.specs.declared.totals.Totals.{Totals}
pub use Rattle.mscp_wire.specs.declared.wrong.Wrong.{Wrong}
