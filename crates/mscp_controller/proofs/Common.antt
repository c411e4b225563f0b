-- What the lemmas of this crate take from elsewhere.
pub use Rattle.std.proofs.Common.{Bool, List, None, Ok, Option, Some, [], ap, append-nil, append_assoc, arith, cond, drop, false, get_or, inl, inr, length, map, not, refl, subst, suc, sym, take, true, zero, ℕ, ⊎_elim, ◌&&◌, ◌*◌, ◌++◌, ◌+◌, ◌-◌, ◌<◌, ◌||◌, ◌∙◌, ◌∷◌, ◌≡◌, ◌≢◌, ◌≤◌, ◌⊎◌}
pub use Rattle.std.proofs.Math.Bool.{and-false}
pub use Rattle.std.proofs.lemmas.Bool.{and_left, and_parts, and_right, cases_lt, eq-eqb, eqb-false, eqb-true, false≢true, le-ltb, leb-true, lt-ltb, ltb-false, ltb-true, ne_eqb, or_cases, or_parts, true≢false}
pub use Rattle.std.proofs.lemmas.Grind.{common_steps, flat_map-append}
pub use Rattle.std.proofs.lemmas.List.{drop-append-le, drop-drop, drop-map, drop_all, drop_more, get_or-map, get_or-take, get_or_append_left, get_or_at, get_or_past, length-append, length-drop, length-map, length-take, length-take-le, length_push, map-append, take-append-drop, take-append-le, take-map, take_at, take_more}
pub use Rattle.std.proofs.lemmas.List.Concat.{flat_map-cons}
pub use Rattle.std.proofs.lemmas.List.Elements.{All-contains, All-from_recursion, Contains-get_or, filter-append, recursion_from_All}
pub use Rattle.std.proofs.lemmas.List.Folds.{list_all-append, list_all-map, list_any-append}
pub use Rattle.std.proofs.lemmas.List.Sums.{sum_by-append, sum_by-cons, sum_by-le, sum_by_push}
pub use Rattle.std.specs.List.{AllByRecursion, list_all, list_any, position, range_with_len}
pub use Rattle.std.specs.Prelude.{All, Contains, Err, IfSome, Result, count_by, filter, find, flat_map, if◌then◌else◌, is_none, is_some, nat_eq, nat_le, nat_lt, option_map, option_to_list, slice_get, slice_index, slice_index_or, sum_by, unwrap_or, vec_capacity, vec_len, zip}
pub use Rattle.arrayvec.specs.ArrayVec.{ArrayVec}
unfoldable pub use Rattle.mscp_controller.specs.Account.{balance, ends, outstanding, untaken}
pub use Rattle.mscp_controller.specs.Accounts.{CanEnd, account, put_account, reported, taken, untaken_in}
pub use Rattle.mscp_controller.specs.Arrival.{credit_fault, fault_of, holds, is_immediate, is_queued, order_fault, refusal}
pub use Rattle.mscp_controller.specs.Calls.{AnsweredCalls, AnswersCall, AtEachCall, Begin, Call, Finish, HoldsToBegun, IsAsTold, IsBegun, IsBegunSince, IsChosen, IsRightCall, NothingBegun, Plain, StartsChosen, call_at, foretold, history, moments_of, start_of, starts, steps, upcoming_in, upcoming_name}
pub use Rattle.mscp_controller.specs.Commands.{aborts, connection, earlier, ends_in, in_service, is_idle, later, left, name, order, reference, serves_in, service_ends, service_is, service_name, starts_in, steps_after, unit, waiting_by, weight}
unfoldable pub use Rattle.mscp_controller.specs.Commands.{command, done, good, is_waiting, waiting}
pub use Rattle.mscp_controller.specs.Controllers.{KeepsPromise, drive_now}
pub use Rattle.mscp_controller.specs.Credits.{aborted_reference, taken_in, taken_unless}
unfoldable pub use Rattle.mscp_controller.specs.Credits.{arrival}
pub use Rattle.mscp_controller.specs.Ends.{aborted, aborted_unless, ends_at, named}
unfoldable pub use Rattle.mscp_controller.specs.Ends.{answer, outcome}
pub use Rattle.mscp_controller.specs.Figures.{figure_found}
unfoldable pub use Rattle.mscp_controller.specs.Figures.{figure, figure_of}
pub use Rattle.mscp_controller.specs.Headline.{IsFreeStart, IsUntouched, LeavesOther, Promise, TellsFigure}
pub use Rattle.mscp_controller.specs.History.{Moment, Service, Trace, WhenStarted, comes_by, connection_of, is_good, is_step, last_or, positions, queues, sent_bytes, service_in, takes}
unfoldable pub use Rattle.mscp_controller.specs.History.{collect, moment}
pub use Rattle.mscp_controller.specs.Holders.{holder, holders_found, keeps_back}
unfoldable pub use Rattle.mscp_controller.specs.Holders.{holders, holders_of}
pub use Rattle.mscp_controller.specs.Holdings.{Answered, Answers, Finishes, Foretells, Holdings, Steps, aborting, after_message, after_take, answer_to_message, answered_end, arrives, balance_of, begun_after, ends_after, ends_reported, figure_polled, fresh, held_unless, line_of, more_ends, numbers, numbers_ended, outstanding_of, queued, record_aborted, reference_aborted, sent_unless, taken_as, unaborted, waiting_on, with_end}
pub use Rattle.mscp_controller.specs.Kept.{IsAccount, IsHeld}
pub use Rattle.mscp_controller.specs.Legal.{IsLegal, IsPick, IsPicked, IsRight, IsServed, choice, end_of, seek_to, shown, view}
unfoldable pub use Rattle.mscp_controller.specs.Legal.{block_of}
pub use Rattle.mscp_controller.specs.Outcomes.{answer_body, own_end, own_end_with}
pub use Rattle.mscp_controller.specs.Passing.{charge, fences, is_affordable, is_unstarted}
unfoldable pub use Rattle.mscp_controller.specs.Passing.{is_free, is_startable, passed, passed_at, startable}
pub use Rattle.mscp_controller.specs.Replacing.{AnsweredInTurn, Called, KeepsPromiseInTurn, Replaced, Turn, calls_of, picker_at}
pub use Rattle.mscp_controller.specs.Restored.{IsCovered, IsSound}
pub use Rattle.mscp_controller.specs.Runs.{IsRun}
pub use Rattle.mscp_controller.specs.Sweeping.{IsSweeping, IsSwept, Sweeps, goes_before}
unfoldable pub use Rattle.mscp_controller.specs.Sweeping.{swept}
pub use Rattle.mscp_controller.specs.Units.{cylinder_touched, head, states_at, states_ended, states_served, way, way_started}
unfoldable pub use Rattle.mscp_controller.specs.Units.{cost, head_cylinder, head_up, is_online}
pub use Rattle.mscp_controller.specs.declared.account.Account.{Account}
pub use Rattle.mscp_controller.specs.declared.account.Accounts.{Accounts}
pub use Rattle.mscp_controller.specs.declared.entry.Entry.{Entry}
pub use Rattle.mscp_controller.specs.declared.entry.NotBegun.{NotBegun}
pub use Rattle.mscp_controller.specs.declared.entry.SendFault.{SendFault}
pub use Rattle.mscp_controller.specs.declared.entry.SendFault.TheVariants.{Short}
pub use Rattle.mscp_controller.specs.declared.entry.Sent.{Sent}
pub use Rattle.mscp_drive.specs.Shape.{Shape, cylinder_of}
pub use Rattle.mscp_drive.specs.UnitList.{IsUnitList}
pub use Rattle.mscp_drive.specs.declared.head.Head.{Head}
pub use Rattle.mscp_drive.specs.Both.{Both, of, put}
pub use Rattle.mscp_drive.specs.Settings.{IsValid, Settings, bound, credits_of, room, room_of, unit_found, unit_shape}
pub use Rattle.mscp_drive.specs.declared.block.Block.{Block}
pub use Rattle.mscp_drive.specs.declared.connection.Connection.{Connection}
pub use Rattle.mscp_drive.specs.declared.connection.Connection.TheVariants.{First, Second}
pub use Rattle.mscp_drive.specs.declared.event.Event.{Event}
pub use Rattle.mscp_packet.specs.Commands.{IsCommand, order_with, parameters}
unfoldable pub use Rattle.mscp_packet.specs.Commands.{command_of}
pub use Rattle.mscp_packet.specs.Ends.{IsEnd, IsOfKind, end_bytes, kind_of_body, kind_of_code}
pub use Rattle.mscp_packet.specs.Number.{num}
pub use Rattle.mscp_packet.specs.Opcodes.{class, is_immediate_class, opcode_of, opcodes, row_of}
pub use Rattle.mscp_packet.specs.Statuses.{invalid_length}
pub use Rattle.mscp_packet.specs.declared.class.Opcode.{Opcode}
pub use Rattle.mscp_packet.specs.declared.command.Command.{Command}
pub use Rattle.mscp_packet.specs.declared.command.Order.{Order}
pub use Rattle.mscp_packet.specs.declared.end.End.{End}
pub use Rattle.mscp_queue.proofs.Aborts.{found_once}
pub use Rattle.mscp_queue.proofs.Held.{some_steps}
pub use Rattle.mscp_queue.proofs.Lists.{every_append, every_both, every_filter, every_from, every_kept, every_mapped, every_parts, every_weaker, fewer, filter_all, filter_filter, filter_none, filter_on, filter_one, flat_on, pairs_append, pairs_filter, pairs_middle, pairs_range, range_below, range_more, sum_none, sum_on}
pub use Rattle.mscp_queue.proofs.Named.{differ_is, is_differ, is_same, one_side, other_side, own_side, same_is}
pub use Rattle.mscp_queue.proofs.Placed.{at_place, cut_at, each_push, filter_map_of, find_cases, find_first, find_none, found_is, map_map, map_on, position_first, position_none, sum_by_map}
pub use Rattle.mscp_queue.proofs.Shaped.{aborted_kind, ended_kind, refused_kind}
pub use Rattle.mscp_queue.proofs.Turns.{units_found}
pub use Rattle.mscp_queue.specs.Drives.{drive_of, fresh_drive, has_number, replaced}
pub use Rattle.mscp_queue.specs.Figures.{figure_at, figure_at_place, figure_between, figure_of_name, figures, figures_from}
pub use Rattle.mscp_queue.specs.Kept.{AreApart, ArePassedInOrder, names, units_of}
pub use Rattle.mscp_queue.specs.Lines.{Begins, BeginsAt, Line, Serves, ServesAt}
pub use Rattle.mscp_queue.specs.Names.{name_on, same_connection, same_name}
pub use Rattle.mscp_queue.specs.Orders.{endcode, order_weight}
pub use Rattle.mscp_queue.specs.Outcomes.{IsCoded, aborted_end, head_after, state_after}
pub use Rattle.mscp_queue.specs.Pairs.{Pairs}
pub use Rattle.mscp_queue.specs.Pickers.{IsFirstLeast}
pub use Rattle.mscp_queue.specs.Records.{Record, aborted_record, advanced, drive_at, fresh_record, has_name, is_in_service, left_of, name_of, no_record, passed_by, record_at, remains, step_charge, without}
pub use Rattle.mscp_queue.specs.Serving.{IsNext, drive_after, end_given, end_in, is_begun, report_of, state_left, touched, upcoming_of, waiting_after}
pub use Rattle.mscp_queue.specs.Views.{choice_of, is_open_at, open_places, view_of}
pub use Rattle.mscp_queue.specs.Why.{holders_of_name, is_nobody}
pub use Rattle.mscp_queue.specs.declared.drive.Drive.{Drive}
pub use Rattle.mscp_queue.specs.declared.name.Name.{Name}
pub use Rattle.mscp_queue.specs.declared.report.Report.{Report}
pub use Rattle.mscp_queue.specs.declared.upcoming.Upcoming.{Upcoming}
pub use Rattle.mscp_queue.specs.declared.view.Choice.{Choice}
pub use Rattle.mscp_queue.specs.declared.why.Holder.{Holder}
