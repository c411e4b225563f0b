-- What the later lemmas take from elsewhere and from the first ones.
pub use Rattle.mscp_queue.proofs.Common.{All, All-from_recursion, All-take, AllByRecursion, AreApart, AreDue, AreEarlier, AreKept, AreMasks, AreOnDrive, ArePassedInOrder, AreSlots, AreTimed, Block, Bool, CanBeShown, Choice, Command, Connection, Drive, HasLeft, Head, Holder, IfSome, IsAlone, IsBehind, IsHeld, IsInside, IsKept, IsLowestFree, IsMaskOf, IsNext, IsOfUnit, IsOnUnit, IsPick, IsReady, IsServable, IsSet, IsShut, IsStillServable, IsSweep, IsUnitList, IsWaitable, Kind, Line, List, Masks, Name, None, Option, Order, Plan, Record, Served, Shape, Slot, Some, Target, Upcoming, Waiters, [], aborting, advanced, and_le_l, and_parts, ap, append-nil, append_assoc, arith, begun_name, begun_without, bit, bit_and, bit_at, bit_at-suc, bit_at-trailing_ones, bit_at-trailing_zeros, bit_at-zero, bit_at_clear_other, bit_at_clear_same, bit_at_lowest, bit_at_set_other, bit_at_set_same, charge, choice_of, choices_at, cond, cost_on, count_ones, cylinder_of, drive_after, drive_at, drive_of, drop, drop-map, end_given, eq-eqb, eqb-false, eqb-true, ext_get_or, false, false≢true, figure_at, filter, filter-append, find, first_block, fresh_drive, fresh_record, get_or, get_or-append_right, get_or-drop, get_or-map, get_or-map-range_with_len, get_or-replicate, get_or-set_other, get_or-set_same, get_or-take, get_or_append_left, get_or_at, get_or_default, has, has_block, has_name, held, holder_of, holders_among, if◌then◌else◌, inl, inr, is_affordable, is_begun, is_free, is_in_service, is_known, is_move, is_nobody, is_open, is_open_at, is_sequential, is_some, is_unfenced, is_unfenced_at, is_unstarted, items, keeps_back, kind_at, kind_of, kinds_of, last_cylinder, le-leb, leb-true, left_if_serving, left_of, length, length-append, length-drop, length-map, length-range_with_len, length-set, length-take-le, list_all, list_all_more, list_any, lowered, lowered_by, lt-leb, lt-ltb, ltb-false, ltb-true, map, map-append, map-id, min, name_of, name_on, names, nat_eq, nat_le, nat_lt, ne_eqb, no_kind, no_record, no_slot, no_target, not, one_block, open_places, option_map, option_to_list, order_cost, order_weight, passed_by, place_begun, place_served, place_without, plan_of, position, range_with_len, record_at, recursion_from_All, refill, refl, remove, replaced, report_of, same_name, served, set, set_at, shown, slice_index_or, slot_at, state_left, step_charge, subst, suc, sum_by, sum_by-append, sum_by-cons, sweep_cost, sym, take, take-map, take_all, take_more, target_of, targets, targets_of, touched, touches, trailing_of_zero, trailing_ones, trailing_zeros, true, true≢false, unit_place, units_of, unwrap_or, upcoming_begun, upcoming_of, w64, waiting_after, with_item, without, zero, ℕ, ⊎_elim, ◌%◌, ◌&&◌, ◌*◌, ◌++◌, ◌+◌, ◌-◌, ◌/◌, ◌<◌, ◌^◌, ◌||◌, ◌∙◌, ◌∷◌, ◌≡◌, ◌≢◌, ◌≤◌, ◌⊎◌, IsDue, bare, due_of, last_end, left_in_service, told}
pub use Rattle.mscp_queue.proofs.Placed.{Found, cut_at, find_cases, find_first, find_none, map_map, position_any, position_first, position_none}
pub use Rattle.mscp_queue.proofs.Masked.{after_bit, not_last, one_bit, same_or, slot_has, slot_low, some_free}
pub use Rattle.mscp_queue.proofs.Named.{is_differ, is_same, same_is}
pub use Rattle.mscp_queue.proofs.Mapped.{mapped_more, refilled, removed_at}
pub use Rattle.mscp_queue.proofs.Freed.{earlier_at}
pub use Rattle.mscp_queue.proofs.Lists.{every_append, every_from, every_kept, every_of, every_parts, every_weaker, fewer, filter_all, filter_none, filter_one, pairs_append, pairs_cut, range_below, range_more}
pub use Rattle.mscp_queue.proofs.Sums.{figure_small, figures_more, held_small}
pub use Rattle.mscp_queue.proofs.Departed.{once_in}
pub use Rattle.mscp_queue.proofs.Restored.{begun_back, held_seen, ready_restored}
pub use Rattle.mscp_queue.proofs.Begun.{picked_opens, still_aborted, still_begun}
pub use Rattle.mscp_queue.proofs.Shown.{IsNumber, all_shown, cut_order, item_at, item_set, kept_advanced, kept_left, kept_pushed, long_shown, number_of, shown_left, shown_pushed, slot_is, unfenced_at}
pub use Rattle.mscp_queue.proofs.Held.{AreIdle, held_fresh, held_pushed, held_renewed, others_idle, passed_idle, renewed}
pub use Rattle.mscp_queue.proofs.Turns.{StepMade, head_kept, held_step, inside_of, next_turn, pairs_rise, touched_inside, units_step}
pub use Rattle.mscp_queue.proofs.Dues.{due_pushed, due_stepped, fallen, idle_left, items_append, items_fallen, late, lowered_none, passes, serving_left, stepped, tells, told_back, told_front, told_item, told_left, told_most, told_long, told_pushed, told_stepped, told_within, unspent_tells}
pub use Rattle.mscp_queue.proofs.Leaving.{abort_enough, due_aborted, due_ended, end_enough, told_aborted, told_ended}
pub use Rattle.mscp_queue.proofs.Drives.{apart_by_place, drive_place, known_at, place_is, set_replaced}
pub use Rattle.mscp_queue.proofs.Targets.{LeadsTo, cylinder_within, has_drive, has_drive_there, leads_to, led, led_inside, own_blocks, own_target, place_inside, place_same, range_low, target_made, targets_cut, targets_kept, targets_pushed}
