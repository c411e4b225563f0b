-- What the last lemmas take from elsewhere and from the first ones, about what a controller holds.
pub use Rattle.mscp_controller.proofs.Basics.{All, All-contains, All-from_recursion, AllByRecursion, Answered, AnsweredCalls, Answers, AnswersCall, Apart, ArrayVec, AtEachCall, Begin, BeginsAt, Block, Bool, Both, Call, Choice, Command, Connection, Contains, Drive, End, Entry, Err, Event, Finish, Finishes, Foretells, Holdings, HoldsToBegun, IfSome, IsAsTold, IsBegun, IsBegunSince, IsChosen, IsEnd, IsFreeStart, IsHeld, IsLegal, IsNext, IsPick, IsPicked, IsRight, IsRightCall, IsServed, IsValid, LeavesOther, Line, List, Moment, Name, None, NotBegun, NothingBegun, Ok, Option, Plain, Promise, Record, Report, Result, SendFault, ServesAt, Service, Settings, Some, StartsChosen, Steady, Step, Steps, TellsFigure, Trace, Upcoming, WhenStarted, [], advanced, after_take, alone, and-false, and_parts, ap, append-nil, append_assoc, arith, balance_of, below_parts, bound, call_at, cases_lt, changes, command_before, common_steps, cond, connection, connection_before, cut, cut_of, differ_is, done_before, done_kept, drive_after, drive_of, drop, drop-append-le, drop-map, drop_all, each_push, end_bytes, end_of, ends_after, ends_in, ends_more, ends_reported, eq-eqb, eqb-false, every_append, every_both, every_from, every_mapped, every_parts, every_weaker, false, false≢true, figure_of_one, figures, filter, flat_map-append, foretold, fresh, get_or, get_or-map, get_or_append_left, get_or_at, good_before, held_unless, history, holds, if◌then◌else◌, in_service, inl, is_begun, is_good, is_idle, is_same, is_some, is_step, is_waiting_before, left, legal_more, length, length-append, length-map, length_push, line_of, list_all, list_any, list_any-append, lt-ltb, map, map-append, map_map, map_on, moments_of, name, name_of, name_on, nat_eq, none_starts, none_waits, not, of, one_waits, open_places, option_map, option_to_list, or_parts, order, order_weight, outstanding_of, owner_kept, passed_behind, passed_by, passed_front, picked_more, positions, put, range_with_len, record_at, recursion_from_All, reference, refl, refusal, replaced, report_of, same_connection, same_is, same_name, seek_to, seen_of, sent_unless, serves_in, service_by, service_in, service_name, shaped, slice_get, some_same, start_of, startable_of, startable_parts, step_charge, step_right, steps, steps_after, subst, suc, sym, take, take-append-drop, take-append-le, take-map, take_at, takes, true, true≢false, unbegun_kept, unit, unit_found, untaken_more, unwrap_or, upcoming_in, upcoming_name, upcoming_of, view, waiting_after, waiting_below, waiting_waits, waits_below, weight, zero, zip, ℕ, ◌&&◌, ◌++◌, ◌+◌, ◌<◌, ◌||◌, ◌∙◌, ◌∷◌, ◌≡◌, ◌≢◌, ◌≤◌}
unfoldable pub use Rattle.mscp_controller.proofs.Basics.{answer, block_of, collect, command_of, done, ends, figure, figure_of, good, is_free, is_startable, is_waiting, moment, passed, startable, untaken, waiting}
pub use Rattle.mscp_controller.proofs.Promise.Known.{Known, known, known_empty, known_more, more_at}
pub use Rattle.mscp_controller.proofs.Bridge.Keeping.{free_seen, held_taken, room_left, taken_kind}
pub use Rattle.mscp_controller.proofs.Bridge.Drives.{Driven, drive_by, drive_found, driven_fresh, driven_served, end_held}
pub use Rattle.mscp_controller.proofs.Bridge.Quiet.{held_same, records_kept, untaken_taken}
pub use Rattle.mscp_controller.proofs.Bridge.Held.{figure_of_held, figures_held, has_held, held_of}
pub use Rattle.mscp_controller.proofs.Bridge.Viewed.{cut_at, filter_places, front_held, record_held, startable_held, startable_places, view_held, waiting_at}
pub use Rattle.mscp_controller.proofs.Bridge.Sending.{Agrees, IsUntaken, Sends, balance_held, ends_on, ends_stay, quiet, sends}
