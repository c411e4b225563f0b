-- What the later lemmas take from elsewhere and from the first ones, about single moments and what waits.
pub use Rattle.mscp_controller.proofs.Common.{Account, Accounts, All, All-contains, All-from_recursion, AllByRecursion, Answered, AnsweredCalls, Answers, AnswersCall, AreApart, ArrayVec, AtEachCall, Begin, BeginsAt, Block, Bool, Both, Call, CanEnd, Choice, Command, Connection, Contains, Contains-get_or, Drive, End, Entry, Err, Event, Finish, Finishes, First, Foretells, Head, Holdings, HoldsToBegun, IfSome, IsAccount, IsAsTold, IsBegun, IsBegunSince, IsChosen, IsEnd, IsFirstLeast, IsFreeStart, IsHeld, IsLegal, IsNext, IsOfKind, IsPick, IsPicked, IsRight, IsRightCall, IsServed, IsSweeping, IsSwept, IsUnitList, IsUntouched, IsValid, LeavesOther, Line, List, Moment, Name, None, NotBegun, NothingBegun, Ok, Option, Order, Pairs, Plain, Promise, Record, Report, Result, Second, SendFault, Sent, Serves, ServesAt, Service, Settings, Shape, Some, StartsChosen, Steps, Sweeps, TellsFigure, Trace, Upcoming, WhenStarted, [], aborted, aborted_end, aborted_record, aborted_reference, aborted_unless, aborting, aborts, account, advanced, after_message, after_take, and-false, and_parts, and_right, answer_to_message, answered_end, ap, append-nil, append_assoc, arith, balance_of, begun_after, bound, call_at, cases_lt, charge, choice, choice_of, comes_by, common_steps, cond, connection, connection_of, count_by, credits_of, cut_at, cylinder_of, cylinder_touched, differ_is, drive_after, drive_at, drive_now, drive_of, drop, drop-append-le, drop-drop, drop-map, drop_all, drop_more, each_push, earlier, end_bytes, end_given, end_in, end_of, ends_after, ends_at, ends_in, ends_reported, eq-eqb, eqb-false, eqb-true, every_append, every_both, every_filter, every_from, every_kept, every_mapped, every_parts, every_weaker, false, false≢true, fault_of, fewer, figure_polled, figures, filter, filter-append, filter_all, filter_filter, filter_map_of, filter_none, filter_on, find, find_cases, find_first, find_none, flat_map, flat_map-append, foretold, found_once, fresh, fresh_drive, fresh_record, get_or, get_or-map, get_or_append_left, get_or_at, goes_before, has_name, has_number, head, head_after, held_unless, history, holds, if◌then◌else◌, in_service, inl, is_begun, is_differ, is_good, is_idle, is_open_at, is_queued, is_same, is_some, is_step, last_or, le-ltb, left, length, length-append, length-drop, length-map, length_push, line_of, list_all, list_all-append, list_all-map, list_any, list_any-append, lt-ltb, ltb-true, map, map-append, map_map, map_on, moments_of, name, name_of, name_on, named, names, nat_eq, nat_lt, ne_eqb, no_record, not, of, one_side, open_places, option_map, option_to_list, or_parts, order, order_weight, other_side, outstanding_of, own_end, own_side, pairs_filter, pairs_middle, passed_by, positions, put, put_account, queued, queues, range_below, range_with_len, record_aborted, record_at, recursion_from_All, reference, reference_aborted, refl, refusal, remains, replaced, report_of, reported, room, room_of, same_connection, same_is, same_name, seek_to, sent_bytes, sent_unless, serves_in, service_in, service_name, slice_get, start_of, state_after, state_left, states_at, states_ended, states_served, step_charge, steps, steps_after, subst, suc, sum_by, sum_by-append, sum_by-cons, sum_by-le, sum_on, sym, take, take-append-drop, take-append-le, take-map, take_at, take_more, taken, taken_in, taken_unless, takes, touched, true, true≢false, unaborted, unit, unit_found, unit_shape, units_found, units_of, untaken_in, unwrap_or, upcoming_in, upcoming_name, upcoming_of, view, view_of, waiting_after, waiting_by, waiting_on, way, way_started, weight, with_end, without, zero, zip, ℕ, ⊎_elim, ◌&&◌, ◌*◌, ◌++◌, ◌+◌, ◌-◌, ◌<◌, ◌||◌, ◌∙◌, ◌∷◌, ◌≡◌, ◌≢◌, ◌≤◌, ◌⊎◌}
unfoldable pub use Rattle.mscp_controller.proofs.Common.{answer, arrival, balance, block_of, collect, command, command_of, cost, done, ends, figure, figure_of, good, head_cylinder, head_up, is_free, is_online, is_startable, is_waiting, moment, outcome, outstanding, passed, startable, swept, untaken, waiting}
pub use Rattle.mscp_controller.proofs.Promise.Grows.{collect_more, command_before, command_last, connection_before, connection_last, done_before, done_last, drop_last, ends_more, good_before, is_waiting_before, last_or-append, steps_last, steps_more, taken_more, untaken_more, waiting_more}
pub use Rattle.mscp_controller.proofs.Promise.Shaped.{coded, shaped}
pub use Rattle.mscp_controller.proofs.Promise.Arrivals.{Queues, arrives, queued_right, taken_when}
pub use Rattle.mscp_controller.proofs.Promise.Starts.{startable_of, startable_parts}
pub use Rattle.mscp_controller.proofs.Promise.Waits.{cut, cut_of, earlier_is, later_is, passed_last, waiting_below, waiting_rises, waiting_waits, waits_below}
pub use Rattle.mscp_controller.proofs.Promise.Apart.{Apart}
pub use Rattle.mscp_controller.proofs.Promise.Sides.{queues_by, sides_length, waiting_by_length, waiting_by_more}
pub use Rattle.mscp_controller.proofs.Promise.Queued.{Short, each_queued, queued_open, short_more, two_free}
pub use Rattle.mscp_controller.proofs.Promise.Among.{Alone, alone, figure_of_one, one_waits}
pub use Rattle.mscp_controller.proofs.Promise.Served.{Step, below_parts, changes, kept_own, some_same, step_right}
pub use Rattle.mscp_controller.proofs.Promise.Passed.{none_starts, passed_behind, passed_front}
pub use Rattle.mscp_controller.proofs.Promise.Steady.{Single, Steady, done_kept, idle_others, more_left, steady_more, weight_before}
pub use Rattle.mscp_controller.proofs.Bridge.Legals.{legal_more, picked_more, service_by}
pub use Rattle.mscp_controller.proofs.Bridge.Owning.{owner_kept, stays, unbegun_kept}
pub use Rattle.mscp_controller.proofs.Bridge.Accounts.{each_account, of_more, seen_left, seen_of}
pub use Rattle.mscp_controller.proofs.Bridge.Judging.{none_waits}
