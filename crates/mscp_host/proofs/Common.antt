-- What the lemmas of this crate take from elsewhere.
pub use Rattle.std.proofs.Common.{All, Bool, List, [], ap, append-nil, arith, cond, drop, false, length, map, nat_eq, refl, rules, subst, suc, sym, take, true, zero, ℕ, ⊎_elim, ◌&&◌, ◌*◌, ◌++◌, ◌+◌, ◌-◌, ◌<◌, ◌^◌, ◌||◌, ◌↔◌, ◌∙◌, ◌∷◌, ◌≡◌, ◌≤◌}
pub use Rattle.std.proofs.Math.Bool.{and-false, and-true, or-false}
pub use Rattle.std.proofs.Math.ListN.{get_or-map}
pub use Rattle.std.proofs.lemmas.Bool.{and_parts, cases_eq, cases_lt, eq-eqb, eqb-true, false_from_ne_true, false≢true, le-leb, le-ltb, leb-true, lt-ltb, ltb-false, ltb-true, not-true, or_left, or_parts, or_right, true≢false}
pub use Rattle.std.proofs.lemmas.Bool.Decides.{nat_tests}
pub use Rattle.std.proofs.lemmas.Grind.{flat_map-append}
pub use Rattle.std.proofs.lemmas.List.{drop-drop, drop_all, drop_more, length-append, length-drop, length-map, length-take-le, map-append, map-id, take-append-le, take_all, take_more}
pub use Rattle.std.proofs.lemmas.List.Elements.{filter-append}
pub use Rattle.std.proofs.lemmas.List.Folds.{find-append, list_all-append, list_any-append}
pub use Rattle.std.proofs.lemmas.List.FromFn.{map-range_with_len_more}
pub use Rattle.std.proofs.lemmas.List.Sums.{count_by-le-length, length-filter, sum_by-cons}
pub use Rattle.std.proofs.lemmas.Slice.Eq.{bytes_eq-Decides}
pub use Rattle.std.specs.List.{AllByRecursion, last_or, list_all, list_any, position, position_or_len, range_with_len, refill}
pub use Rattle.std.specs.Option.{option_or}
pub use Rattle.std.specs.Prelude.{Err, IfSome, None, Ok, Option, Result, Some, filter, find, flat_map, if◌then◌else◌, is_none, is_ok, is_some, min, nat_lt, not, option_map, option_to_list, remove, slice_index, slice_index_or, slice_set}
pub use Rattle.std.specs.Str.{bytes_eq}
pub use Rattle.byteorder.specs.Endian.{little_bytes}
pub use Rattle.arrayvec.specs.ArrayVec.{ArrayVec, array_vec_len}
pub use Rattle.mscp_host.specs.Accounts.{Account, answered, asks, asks_unless, balance, end_in, fresh, has_reference, heard, heard_in, heard_of, is_about_polled, is_code_of, is_immediate, may_end, news_of_figure, news_with, oldest, or_unreadable, outstanding_with, poll_of, polled_is_outstanding, polls_oldest, received, refusal, status_end, submission_of, submits, submits_unless, submitted, told_of as told_of_submission, watch_after, watching, with_told, without}
pub use Rattle.mscp_host.specs.Apart.{are_apart}
pub use Rattle.mscp_host.specs.Histories.{Ask, History, Moment, Other, Receive, Settle, Submit, account_at, asked_for, asks_about, before, end_heard, end_or_none, figure_from, figure_in, found_stands, handed_over, in_flight, is_end_of, is_ended, is_it, is_outstanding, is_poll, is_sent, last_found, last_told, moment, news_at, news_heard, opcode_in, reference, reference_found, says_of, submission_at, told_at, unit_found, unit_in, unit_named, watch_at}
unfoldable pub use Rattle.mscp_host.specs.Histories.{outstanding}
pub use Rattle.mscp_host.specs.Law.{Answered, Answers, HostsKeepTheirHistory, IsHeard, IsLost, IsTold, Settles, Stands}
pub use Rattle.mscp_host.specs.Messages.{message_in}
pub use Rattle.mscp_host.specs.PortAccounts.{PortAccount, as_read, asked_of, attention_of, credit_fault, end_says, ended, ended_of, ends_of, fresh_of_port, granted, is_of, is_to_poll, may_be_of, news_said, noted, noted_poll, polled_with, submits_unless_faulty, submitted_with, without_by}
pub use Rattle.mscp_host.specs.PortHistories.{Hear, IsSavedAs, PortAnswered, PortAnswers, PortHistory, PortMoment, Resume, asked_at, ended_in, ends_in, news_in, seen, seen_message, sent_in}
pub use Rattle.mscp_host.specs.PortLaw.{PortHostsKeepCount, PortHostsKeepTheirHistory}
pub use Rattle.mscp_host.specs.PortRestored.{asked_count, asked_in, asked_with, host_part, port_account_in, port_head_fault, port_restored, port_restored_unless, port_restored_with, port_whose}
pub use Rattle.mscp_host.specs.PortSaved.{HasAskedRange, HasPortRange, flag_byte, port_frame_bytes, port_saved_bytes, size_bytes}
pub use Rattle.mscp_host.specs.Ported.{IsPorted, Name, name_of_asked, name_of_submission}
pub use Rattle.mscp_host.specs.Restored.{account_fault, account_in, count_in, head_fault, restored, submission_in, told_in}
pub use Rattle.mscp_host.specs.Saved.{HasRange, HasSubmissionRange, saved_bytes, submission_bytes, told_bytes}
pub use Rattle.mscp_host.specs.Sound.{IsSound, waiting}
pub use Rattle.mscp_host.specs.Watched.{are_told, is_about_somebody, is_numbered, is_oldest, is_polled, is_status, is_watched, oldest_of}
pub use Rattle.mscp_host.specs.Watching.{Lately, Tick, Told, WatchMoment, Watched, WatchesArePatient, advice, advised, counted, is_answer, is_owed, is_silent, is_tick, is_unpolled, is_waiting, ticked}
pub use Rattle.mscp_host.specs.declared.asked.Asked.{Asked}
pub use Rattle.mscp_host.specs.declared.envelope.Envelope.{Envelope}
pub use Rattle.mscp_host.specs.declared.heard.Heard.{Heard}
pub use Rattle.mscp_host.specs.declared.message.HearFault.{HearFault}
pub use Rattle.mscp_host.specs.declared.message.Message.{Message}
pub use Rattle.mscp_host.specs.declared.news.HostFault.{HostFault}
pub use Rattle.mscp_host.specs.declared.news.News.{News}
pub use Rattle.mscp_host.specs.declared.news.Poll.{Poll}
pub use Rattle.mscp_host.specs.declared.restoring.RestoreFault.{RestoreFault}
pub use Rattle.mscp_host.specs.declared.submission.Submission.{Submission}
pub use Rattle.mscp_host.specs.declared.ticking.Advice.{Advice}
pub use Rattle.mscp_host.specs.declared.watch.Watch.{Watch}
pub use Rattle.mscp_packet.proofs.Numbers.{four, two}
pub use Rattle.mscp_packet.proofs.Parts.{each_more, from_place, read_all, read_more, written_more}
pub use Rattle.mscp_packet.specs.Commands.{opcode_byte}
pub use Rattle.mscp_packet.specs.Number.{num}
pub use Rattle.mscp_packet.specs.Parts.{parts_in}
pub use Rattle.mscp_packet.specs.declared.command.Command.{Command}
pub use Rattle.mscp_packet.specs.declared.end.End.{End}
pub use Rattle.mscp_packet.specs.declared.reading.EndFault.{EndFault}
