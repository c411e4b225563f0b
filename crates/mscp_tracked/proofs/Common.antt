-- What the lemmas of this crate take from elsewhere.
pub use Rattle.std.proofs.Common.{All, Bool, List, None, Ok, Option, Some, [], ap, append-nil, append_assoc, arith, cond, drop, false, get_or, inl, inr, length, map, not, refl, subst, suc, sym, take, true, zero, ℕ, ⊎_elim, ◌%◌, ◌&&◌, ◌*◌, ◌++◌, ◌+◌, ◌-◌, ◌<◌, ◌^◌, ◌||◌, ◌∙◌, ◌∷◌, ◌≡◌, ◌≢◌, ◌≤◌, ◌⊎◌}
pub use Rattle.std.proofs.lemmas.Bool.{and_parts, eq-eqb, eqb-false, eqb-true, false≢true, le-ltb, leb-true, lt-ltb, ltb-true, ne_eqb, true≢false}
pub use Rattle.std.proofs.lemmas.List.{drop_at, get_or_append_left, get_or_at, length-append, length-drop, length-map, length-take-le, take_at}
pub use Rattle.std.proofs.lemmas.List.Edits.{length-remove}
pub use Rattle.std.proofs.lemmas.List.Quantifiers.{position-Some}
pub use Rattle.std.specs.List.{AllByRecursion, list_all, list_any, position}
pub use Rattle.std.specs.Prelude.{Err, IfNone, IfSome, Result, filter, find, flat_map, if◌then◌else◌, is_none, is_ok, is_some, nat_eq, nat_le, nat_lt, option_map, option_to_list, remove, slice_get, slice_index_or, unwrap_or}
pub use Rattle.mscp_packet.specs.Commands.{IsCommand}
unfoldable pub use Rattle.mscp_packet.specs.Commands.{command_of}
pub use Rattle.mscp_packet.specs.declared.command.Command.{Command}
pub use Rattle.mscp_packet.specs.declared.command.Order.{Order}
pub use Rattle.mscp_packet.specs.declared.end.End.{End}
pub use Rattle.mscp_drive.specs.Both.{Both, of, put}
pub use Rattle.mscp_drive.specs.Settings.{IsValid, Settings, credits_of}
pub use Rattle.mscp_drive.specs.declared.block.Block.{Block}
pub use Rattle.mscp_drive.specs.declared.connection.Connection.{Connection}
pub use Rattle.mscp_drive.specs.declared.connection.Connection.TheVariants.{First, Second}
pub use Rattle.mscp_queue.proofs.Aborts.{aborts_none}
pub use Rattle.mscp_queue.proofs.Named.{differ_is, is_differ, is_same, own_side, same_is}
pub use Rattle.mscp_queue.proofs.Placed.{find_cases, find_first, find_none, found_is, position_first, position_none}
pub use Rattle.mscp_queue.specs.Kept.{begun_name}
pub use Rattle.mscp_queue.specs.Lines.{BeginsAt, Line, ServesAt, begun_at}
pub use Rattle.mscp_queue.specs.Names.{name_on, same_connection, same_name}
pub use Rattle.mscp_queue.specs.Records.{IsAlone, Record, aborted_record, has_name, advanced, drive_at, name_of, no_record, passed_by, record_at, remains, step_charge, without}
pub use Rattle.mscp_queue.specs.Serving.{IsNext, begun_without, is_begun, place_begun, report_of, touched, upcoming_begun, upcoming_of, waiting_after}
pub use Rattle.mscp_queue.specs.Drives.{drive_of}
pub use Rattle.mscp_queue.specs.Serving.{end_given, end_in}
pub use Rattle.mscp_queue.specs.declared.drive.Drive.{Drive}
pub use Rattle.mscp_queue.specs.declared.name.Name.{Name}
pub use Rattle.mscp_queue.specs.declared.report.Report.{Report}
pub use Rattle.mscp_queue.specs.declared.report.Report.TheVariants.{Idle, Served}
pub use Rattle.mscp_queue.specs.declared.upcoming.Upcoming.{Upcoming}
pub use Rattle.mscp_queue.specs.declared.view.Choice.{Choice}
pub use Rattle.mscp_controller.proofs.Promise.Sides.{sides_length}
pub use Rattle.mscp_controller.specs.Arrival.{is_queued, refusal}
pub use Rattle.mscp_controller.specs.Holdings.{Foretells, Holdings, IsBalanced, Steps, aborting, after_message, answer_to_message, answered_end, arrives, balance_of, begun_after, begun_step, ends_after, ends_reported, held_unless, line_of, outstanding_of, queued, record_aborted, reference_aborted, sent_unless, taken_as, unaborted, with_end}
pub use Rattle.mscp_controller.specs.Restored.{IsSound}
pub use Rattle.mscp_controller.specs.declared.entry.NotBegun.{NotBegun}
pub use Rattle.mscp_controller.specs.declared.entry.SendFault.{SendFault}
pub use Rattle.mscp_controller.specs.declared.entry.Sent.{Sent}
pub use Rattle.mscp_tracked.specs.Cookies.{CanCome, CanLeave, CanReport, Cookies, cookie_in, ended, left, no_cookies, reported, sent, taken, waited}
pub use Rattle.mscp_tracked.specs.Trackings.{AreBeside, Begins, BeginsAfter, BeginsAnew, Finishes, IsReportOf, IsTracked, Serves, Tracking, after_message_with, beginning, beginning_of, cookie_begun, cookies_sent, counted, has_serial, new_after, next_serial, number_aborted, place_aborted, place_of, place_served}
pub use Rattle.mscp_tracked.specs.declared.tracked.Beginning.{Beginning}
pub use Rattle.mscp_tracked.specs.declared.tracked.Finished.{Finished}
pub use Rattle.arrayvec.specs.ArrayVec.{array_vec_len}
pub use Rattle.byteorder.specs.Endian.{little_bytes}
pub use Rattle.mscp_packet.proofs.Parts.{each_more, written_more}
pub use Rattle.mscp_controller.specs.Calls.{upcoming_name}
pub use Rattle.mscp_saved.proofs.PartsRead.{part_more}
pub use Rattle.mscp_tracked.specs.Saved.{behind, cookie_count, own_length, resumed, rest_bytes, restored, saved_bytes, tracking_in, word_in, words_bytes, words_in}
pub use Rattle.mscp_tracked.specs.Calls.{AnsweredCalls, AnswersCall, Call, FailuresAreNothing, FinishesAreOwn, FinishesWhatWasTold, KeepsSerials, SerialsAreOwn, lets_go, was_let_go}
pub use Rattle.std.proofs.lemmas.List.Elements.{recursion_from_All}
pub use Rattle.mscp_packet.proofs.Numbers.{eight}
pub use Rattle.mscp_saved.proofs.BackParts.{IsBack, parts_long, parts_rest, parts_said}
pub use Rattle.mscp_saved.specs.Restored.{first_of, frame_fault, is_framed}
pub use Rattle.mscp_saved.proofs.Outcomes.{ok_is}
pub use Rattle.mscp_packet.specs.Number.{num}
pub use Rattle.mscp_saved.specs.declared.fault.RestoreFault.{RestoreFault}
pub use Rattle.std.proofs.lemmas.List.{drop-map, get_or-map, map-append, take-map}
pub use Rattle.mscp_queue.proofs.Nexts.{name_found}
pub use Rattle.mscp_queue.proofs.Placed.{cut_at}
pub use Rattle.mscp_queue.specs.Kept.{AreApart, names}
pub use Rattle.mscp_controller.proofs.Bridge.Judging.{holds_either, none_waits}
pub use Rattle.mscp_controller.specs.Arrival.{holds}
pub use Rattle.mscp_controller.specs.Holdings.{fresh}
pub use Rattle.mscp_queue.specs.Records.{fresh_record}
pub use Rattle.mscp_controller.specs.Outcomes.{own_end_with}
pub use Rattle.mscp_tracked.specs.Cookied.{CookiesAreKept, HasCookie, IsEndWith, SoundlyAnswered, TellsCookies, cookie_sent, cookie_since, cookie_with}
pub use Rattle.mscp_controller.specs.Restored.{IsSound}
pub use Rattle.std.proofs.lemmas.Bool.{or_parts}
pub use Rattle.mscp_tracked.specs.Trackings.{end_taken, oldest_end}
pub use Rattle.mscp_tracked.specs.declared.tracked.Ended.{Ended}
pub use Rattle.mscp_packet.specs.Ends.{end_bytes}
pub use Rattle.mscp_tracked.specs.declared.tracked.Taken.{Taken}
