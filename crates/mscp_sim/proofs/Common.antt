-- What the lemmas of this crate take from elsewhere.
pub use Rattle.std.proofs.Common.{Bool, List, [], ap, append-nil, append_assoc, arith, cond, drop, false, get_or, inl, inr, length, length-append, map, not, refl, rules, subst, suc, sym, take, true, vec_len, zero, ℕ, ⊎_elim, ◌&&◌, ◌++◌, ◌+◌, ◌-◌, ◌<◌, ◌^◌, ◌↔◌, ◌∙◌, ◌∷◌, ◌≡◌, ◌≤◌, ◌⊎◌}
pub use Rattle.std.proofs.Math.Bool.{and-false}
pub use Rattle.std.proofs.Math.Seq.{take-append_seam}
pub use Rattle.std.proofs.lemmas.Bool.{and_parts, cases_eq, cases_lt, eq-eqb, eqb-true, false≢true, true_from_ne_false, true≢false}
pub use Rattle.std.proofs.lemmas.Bool.Decides.{nat_tests}
pub use Rattle.std.proofs.lemmas.Grind.{flat_map-append}
pub use Rattle.std.proofs.lemmas.List.{drop-drop, get_or-drop, get_or-map, length-drop, map-append, take_all, take_more}
pub use Rattle.std.proofs.lemmas.List.Elements.{filter-append}
pub use Rattle.std.proofs.lemmas.List.Folds.{list_any-append}
pub use Rattle.std.specs.List.{AllByRecursion, list_any}
pub use Rattle.std.specs.Option.{option_or}
pub use Rattle.std.specs.Prelude.{Contains, Err, None, Ok, Option, Result, Some, find, if◌then◌else◌, is_ok, is_some, nat_eq, nat_lt, option_map, option_to_list, replicate, slice_get, slice_index, unwrap_or, zip, ◌||◌, ◌≢◌}
pub use Rattle.arrayvec.specs.ArrayVec.{ArrayVec}
pub use Rattle.mscp_controller.proofs.Bridge.Accounts.{of_more}
pub use Rattle.mscp_controller.proofs.Bridge.Owning.{owner_kept}
pub use Rattle.mscp_controller.proofs.Promise.Grows.{command_last, connection_last, is_waiting_before, is_waiting_last, moment_last, name_before}
pub use Rattle.mscp_controller.proofs.Promise.Sides.{queues_by}
pub use Rattle.mscp_controller.proofs.Promise.Waits.{cut, waiting_waits, waits_below}
pub use Rattle.mscp_controller.specs.Arrival.{credit_fault, fault_of, holds, is_queued, refusal}
pub use Rattle.mscp_controller.specs.Calls.{AnsweredCalls, AnswersCall, Call, Plain}
pub use Rattle.mscp_controller.specs.Commands.{ends_in, is_waiting, name, sent_command, waiting}
pub use Rattle.mscp_controller.specs.Controllers.{ControllersKeepThePromise, KeepsPromise}
pub use Rattle.mscp_controller.specs.Figures.{figure, figure_found}
unfoldable pub use Rattle.mscp_controller.specs.Figures.{figure_of}
pub use Rattle.mscp_controller.specs.Headline.{Promise}
pub use Rattle.mscp_controller.specs.History.{Moment, Trace, connection_of, is_step, queues}
pub use Rattle.mscp_controller.specs.Holdings.{Answered, Holdings, Steps, aborting, after_message, after_take, answer_to_message, answered_end, arrives, balance_of, end_taken, ends_reported, held_unless, more_ends, numbers, numbers_ended, outstanding_of, queued, taken_as, waiting_on, with_end}
pub use Rattle.mscp_controller.specs.Legal.{IsLegal, IsPicked}
pub use Rattle.mscp_controller.specs.Outcomes.{own_end_with}
pub use Rattle.mscp_controller.specs.Runs.{RunsKeepThePromise}
pub use Rattle.mscp_controller.specs.Sweeping.{IsSweeping}
pub use Rattle.mscp_controller.specs.declared.entry.Entry.{Entry}
pub use Rattle.mscp_controller.specs.declared.entry.SendFault.{SendFault}
pub use Rattle.mscp_controller.specs.declared.entry.Sent.{Sent}
pub use Rattle.mscp_drive.specs.Both.{Both, of, put}
pub use Rattle.mscp_drive.specs.Settings.{IsValid, Settings, credits_of}
pub use Rattle.mscp_drive.specs.declared.block.Block.{Block}
pub use Rattle.mscp_drive.specs.declared.connection.Connection.{Connection}
pub use Rattle.mscp_drive.specs.declared.connection.Connection.TheVariants.{First, Second}
pub use Rattle.mscp_drive.specs.declared.event.Event.{Event}
pub use Rattle.mscp_host.proofs.Collected.{found_before, found_out, last_then, out_below, out_new, out_old, was_out}
pub use Rattle.mscp_host.proofs.Hearing.{heard_ok}
pub use Rattle.mscp_host.proofs.Kept.{oldest_is}
pub use Rattle.mscp_host.proofs.Lists.{any_map, found, none_any}
pub use Rattle.mscp_host.proofs.Promised.{it_is, losses_if, resets_if, start}
pub use Rattle.mscp_host.proofs.Received.{IsApart, flies, flight_back, flight_new}
pub use Rattle.mscp_host.proofs.Stepping.{step}
pub use Rattle.mscp_host.specs.Accounts.{Account, answered, asks, asks_unless, balance, end_in, fresh, has_reference, heard, is_about_polled, is_code_of, is_immediate, news_with, oldest, outstanding_with, poll_of, polls_oldest, received, submission_of, submits, submits_unless, submitted, told_in, watch_after, watching, with_told}
pub use Rattle.mscp_host.specs.Histories.{History, Other, asked_for, asks_about, end_heard, figure_from, figure_in, found_stands, handed_over, in_flight, is_end_of, is_it, is_outstanding, is_poll, is_sent, last_told, moment, news_heard, reference, reference_found, reference_in, submission_at, told_at, watch_at}
pub use Rattle.mscp_host.specs.Law.{Answers, Stands}
pub use Rattle.mscp_host.specs.declared.news.HostFault.{HostFault}
pub use Rattle.mscp_host.specs.declared.news.News.{News}
pub use Rattle.mscp_host.specs.declared.news.Poll.{Poll}
pub use Rattle.mscp_host.specs.declared.submission.Submission.{Submission}
pub use Rattle.mscp_host.specs.declared.watch.Watch.{Watch}
pub use Rattle.mscp_packet.proofs.Commands.{command_bytes_are_messages, command_read}
pub use Rattle.mscp_packet.proofs.Kept.{opcode_kept}
pub use Rattle.mscp_packet.proofs.Numbers.{four}
pub use Rattle.mscp_packet.specs.Commands.{HasCommandRange, IsCommand, IsValidOrder, command_bytes, opcode_byte, order_with, parameters}
unfoldable pub use Rattle.mscp_packet.specs.Commands.{command_of}
pub use Rattle.mscp_packet.specs.Ends.{IsEnd, end_bytes}
pub use Rattle.mscp_packet.specs.Number.{num}
pub use Rattle.mscp_packet.specs.Opcodes.{opcode_of, opcodes, row_of}
pub use Rattle.mscp_packet.specs.Statuses.{invalid_length}
pub use Rattle.mscp_packet.specs.declared.class.Opcode.{Opcode}
pub use Rattle.mscp_packet.specs.declared.command.Command.{Command}
pub use Rattle.mscp_packet.specs.declared.command.Order.{Order}
pub use Rattle.mscp_packet.specs.declared.end.End.{End}
pub use Rattle.mscp_packet.specs.declared.end.EndBody.{EndBody}
pub use Rattle.mscp_queue.proofs.Lists.{every_append, every_both, every_from, every_parts, every_weaker, filter_filter, filter_on}
pub use Rattle.mscp_queue.proofs.Named.{one_side, other_side, own_side, same_is}
pub use Rattle.mscp_queue.proofs.Placed.{Found, cut_at, find_cases, find_first, find_none, found_is}
pub use Rattle.mscp_queue.specs.Figures.{figure_of_name}
pub use Rattle.mscp_queue.specs.Kept.{names}
pub use Rattle.mscp_queue.specs.Names.{name_on, same_connection, same_name}
pub use Rattle.mscp_queue.specs.Orders.{endcode}
pub use Rattle.mscp_queue.specs.Outcomes.{outcome_at}
pub use Rattle.mscp_queue.specs.Records.{Record, aborted_record, drive_at, fresh_record, has_name, name_of, no_record, passed_by, record_at, remains, without}
pub use Rattle.mscp_queue.specs.Serving.{end_given}
pub use Rattle.mscp_queue.specs.declared.drive.Drive.{Drive}
pub use Rattle.mscp_queue.specs.declared.name.Name.{Name}
pub use Rattle.mscp_queue.specs.declared.report.Report.{Report}
pub use Rattle.mscp_queue.specs.declared.view.Choice.{Choice}
pub use Rattle.mscp_reader.proofs.Outcomes.{ends, goes_on, goes_wrong}
pub use Rattle.mscp_reader.proofs.Whole.{outcome_of_fault, outcome_of_read, told_of}
pub use Rattle.mscp_reader.specs.Grammar.{HasGone}
pub use Rattle.mscp_reader.specs.Outcome.{rest_outcome}
pub use Rattle.mscp_script.specs.Text.{reported}
pub use Rattle.mscp_sim.specs.Conversing.{AnswersTurn, Converses, Goes, GoesOn, IsSound, Says}
pub use Rattle.mscp_sim.specs.Matches.{Flight, HasFlight, HasOwnEndcode, IsAwaited, IsFlight, IsKnown, IsSmall, Match, MatchOn, Matches, commands, opcode_found, references, times}
pub use Rattle.mscp_sim.specs.Rooms.{HasRoom}
pub use Rattle.mscp_sim.specs.Scripts.{meaning_of}
pub use Rattle.mscp_sim.specs.Talks.{Said, Talk, account_at, accounts_at, figure_told, heard_by, history, receives_in, said, submits_in, trace_of}
pub use Rattle.mscp_sim.specs.TwoEnds.{AreTwoEnds, IsHanded, IsHeard, IsPolled, IsStepTurn, IsSubmitted, StepsSincePolls}
pub use Rattle.mscp_sim.specs.declared.conversing.Heard.{Heard}
pub use Rattle.mscp_sim.specs.declared.conversing.Talk.{Talk as Lists}
pub use Rattle.mscp_sim.specs.declared.conversing.Turn.{Turn}
