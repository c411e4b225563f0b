-- What the lemmas of this crate take from elsewhere.
pub use Rattle.std.proofs.Common.{inr}
pub use Rattle.std.proofs.lemmas.Bool.{and_from, cases_lt, le-leb, ltb-false, ltb-true, or_cases, or_parts}
pub use Rattle.std.proofs.lemmas.Bool.Decides.{nat_tests}
pub use Rattle.std.proofs.lemmas.Grind.{flat_map-append}
pub use Rattle.std.proofs.lemmas.List.{get_or-take, get_or_past, length-take-le, length_push, take-take, take_all}
pub use Rattle.std.proofs.lemmas.List.Quantifiers.{position-Some}
pub use Rattle.std.proofs.lemmas.List.Sums.{fold_push, get_or-le-sum_by, sum_by-drop_more, sum_by-take-drop, sum_by_push}
pub use Rattle.std.specs.List.{list_all, position, position_or_len}
pub use Rattle.std.specs.Prelude.{bit_or, find, fold, min, nat_le, nat_lt, slice_index, ◌%◌, ◌/◌, ◌^◌}
pub use Rattle.mscp_controller.proofs.Basics.{All, All-from_recursion, AllByRecursion, Apart, ArrayVec, Block, Bool, Command, Connection, Contains, End, Err, Event, IsLegal, IsOfKind, IsRight, IsServed, List, Moment, Name, None, Ok, Option, Order, Promise, Report, Service, Settings, Shape, Some, Step, Trace, [], aborted, aborted_end, aborted_unless, aborts, alone, and-false, and_parts, ap, append-nil, append_assoc, arith, arrival, arrives, bound, changes, command_before, command_last, cond, connection, connection_of, count_by, credits_of, cut, differ_is, done, done_before, done_last, drop, drop-drop, drop_last, drop_more, each_push, each_queued, earlier, end_bytes, end_of, ends_at, ends_in, ends_more, eq-eqb, eqb-false, eqb-true, every_append, every_both, every_filter, every_from, every_kept, every_mapped, every_parts, every_weaker, false, false≢true, fault_of, figure, filter, filter_all, filter_filter, filter_on, get_or, good_before, holds, if◌then◌else◌, in_service, inl, is_differ, is_good, is_queued, is_same, is_some, is_startable, is_step, is_waiting, is_waiting_before, le-ltb, left, length, list_any, list_any-append, lt-ltb, map, name, name_on, nat_eq, ne_eqb, not, one_side, option_map, option_to_list, order, own_end, own_side, queued_open, queues, queues_by, recursion_from_All, reference, refl, same_connection, same_is, same_name, sent_bytes, serves_in, service_in, service_name, slice_get, some_same, startable_parts, state_after, step_right, subst, suc, sum_by, sum_by-append, sum_by-cons, sum_on, sym, take, take-append-drop, take-append-le, take_at, taken_more, taken_when, takes, true, true≢false, unit, unit_found, unit_shape, untaken_more, waiting_below, waiting_by, waiting_by_more, waiting_more, waiting_waits, waits_below, zero, ℕ, ⊎_elim, ◌&&◌, ◌*◌, ◌++◌, ◌+◌, ◌-◌, ◌<◌, ◌||◌, ◌∙◌, ◌∷◌, ◌≡◌, ◌≢◌, ◌≤◌, ◌⊎◌}
unfoldable pub use Rattle.mscp_controller.proofs.Basics.{answer, balance, collect, command, command_of, ends, figure_of, good, is_free, moment, outcome, outstanding, untaken, waiting}
pub use Rattle.mscp_controller.proofs.Promise.Apart.{name_last, queued_name}
pub use Rattle.mscp_controller.proofs.Promise.Arrivals.{IsTaken}
pub use Rattle.mscp_controller.proofs.Promise.Grows.{is_waiting_last, moment_before, moment_last, name_before}
pub use Rattle.mscp_controller.proofs.Promise.Known.{Known, known, more_at}
pub use Rattle.mscp_controller.proofs.Promise.Progress.{progress, waits_in}
pub use Rattle.mscp_controller.proofs.Promise.Served.{Serves, ends_served, kept_own}
pub use Rattle.mscp_controller.proofs.Promise.Shaped.{shaped}
pub use Rattle.mscp_controller.proofs.Promise.States.{is_online_empty, is_online_ended, is_online_kept, is_online_other, is_online_unended}
pub use Rattle.mscp_controller.specs.Account.{outstanding as outstanding_in}
pub use Rattle.mscp_controller.specs.Arrival.{is_immediate, move_fault, order_fault, unit_fault, version_fault}
pub use Rattle.mscp_controller.specs.Commands.{service_is}
pub use Rattle.mscp_controller.specs.Credits.{aborted_reference}
pub use Rattle.mscp_controller.specs.Ends.{figure_asked}
pub use Rattle.mscp_controller.specs.Figures.{figure_found}
pub use Rattle.mscp_controller.specs.Outcomes.{answer_body, answer_status, outcome_of, own_end_with}
pub use Rattle.mscp_controller.specs.Passing.{fences}
pub use Rattle.mscp_controller.specs.Units.{is_online}
pub use Rattle.mscp_controller.specs.declared.entry.Entry.{Entry}
pub use Rattle.mscp_drive.specs.Settings.{IsValid}
pub use Rattle.mscp_drive.specs.declared.block.Block.TheVariants.{Bad, Good}
pub use Rattle.mscp_drive.specs.declared.connection.Connection.TheVariants.{First, Second}
pub use Rattle.mscp_packet.proofs.Ends.{length_span}
pub use Rattle.mscp_packet.proofs.Numbers.{four, two}
pub use Rattle.mscp_packet.specs.Commands.{opcode_byte, order_with, parameters}
pub use Rattle.mscp_packet.specs.Common.{little_bytes}
pub use Rattle.mscp_packet.specs.Ends.{end_length, endcodes, kind_of_body, kind_of_code, least_end, refused_body, zero_body}
pub use Rattle.mscp_packet.specs.Number.{num}
pub use Rattle.mscp_packet.specs.Opcodes.{least, least_of, may_have_status, move_byte, opcode_of, opcodes, row_of}
pub use Rattle.mscp_packet.specs.Statuses.{invalid_length, invalid_opcode}
pub use Rattle.mscp_packet.specs.declared.class.Opcode.{Opcode}
pub use Rattle.mscp_packet.specs.declared.command.MoveKind.{MoveKind}
pub use Rattle.mscp_packet.specs.declared.end.BodyKind.{BodyKind}
pub use Rattle.mscp_packet.specs.declared.end.EndBody.{EndBody}
pub use Rattle.mscp_queue.proofs.Lists.{every_of, pairs_append}
pub use Rattle.mscp_queue.proofs.Placed.{find_cases, find_first, find_none, found_is, position_first, sum_by_map}
pub use Rattle.mscp_queue.specs.Orders.{endcode, is_sequential, order_weight}
pub use Rattle.mscp_queue.specs.Outcomes.{goes_on, is_good_block, is_success, moved_body, outcome_body, outcome_status, touches}
pub use Rattle.mscp_queue.specs.Pairs.{Pairs}
pub use Rattle.mscp_shown.specs.Keeping.{AreBytes, Covers, IsPatient, IsPossible, LegalTracesAreRight, Polls}
pub use Rattle.mscp_shown.specs.Shown.{shown_by}
unfoldable pub use Rattle.mscp_shown.specs.Shown.{shown}
pub use Rattle.mscp_wire.proofs.Passing.{told_push}
pub use Rattle.mscp_wire.specs.Wire.{History, Standing, after_other, after_own, agrees, answer_by, asked_about, asked_by, asking, brings, command_at, controller as controller_of, controller_after, count_of, count_on, fits, has_abort, has_code, has_count, has_credit, has_endcode, has_number, has_one_of, has_status, is_about, is_about_another, is_apart, is_below, is_counted, is_hasty, is_it, is_known, is_known_unit, is_late, is_long, is_moved, is_named, is_of_unit, is_oldest, is_plain, is_polled, is_refused, is_required, is_same_unit, is_settled_at, is_short, is_single, is_transfer, is_unknown, is_unsure, is_whole, keeps_back, later_of, learns, leaves, limit_of, may_ask, moment_at, moves, names_unit, noted_other, noted_own, other_of, passes_none, place_of, points_into, polled_by, says_away, says_online, sent_by, settles, shares, status_code, succeeds, suits_state, tells_unit, timed, told, told_after, told_after_end, told_after_message, turned, waits_on, was_online, went}
pub use Rattle.mscp_wire.specs.declared.answer.Answer.{Answer, Answer as Answered}
pub use Rattle.mscp_wire.specs.declared.identity.Identity.{Identity}
pub use Rattle.mscp_wire.specs.declared.moment.Moment.{Moment as Wired}
pub use Rattle.mscp_wire.specs.declared.noted.Noted.{Noted}
pub use Rattle.mscp_wire.specs.declared.sent.Asked.{Asked}
pub use Rattle.mscp_wire.specs.declared.sent.Asked.TheVariants.{Gone, Nothing, Oldest}
pub use Rattle.mscp_wire.specs.declared.sent.Sent.{Sent, Sent as Out}
pub use Rattle.mscp_wire.specs.declared.told.Seen.{Seen}
pub use Rattle.mscp_wire.specs.declared.told.State.{State}
pub use Rattle.mscp_wire.specs.declared.told.State.TheVariants.{Away, Open, Shared}
pub use Rattle.mscp_wire.specs.declared.told.Told.{Told}
