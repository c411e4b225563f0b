-- What the lemmas of this crate take from elsewhere.
pub use Rattle.std.proofs.Common.{zero-add, All, Bool, Fits, IfNone, IfSome, List, Option, [], ap, append-nil, append_assoc, arith, bit_and, cond, count_ones, drop, eqb, false, get_or, inl, inr, length, ltb, map, min, nat_eq, not, refl, replicate, set, subst, suc, sym, take, true, w64, zero, ℕ, ⊎_elim, ◌%◌, ◌&&◌, ◌*◌, ◌++◌, ◌+◌, ◌-◌, ◌/◌, ◌<◌, ◌^◌, ◌||◌, ◌∙◌, ◌∷◌, ◌≡◌, ◌≢◌, ◌≤◌, ◌⊎◌}
pub use Rattle.std.proofs.Math.Nat.{div-mul-le_self, mul-le-mul_right}
pub use Rattle.std.proofs.lemmas.Bool.{and_parts, and_right, cases_lt, eq-eqb, eqb-false, eqb-true, false≢true, le-leb, le-ltb, leb-true, lt-leb, lt-ltb, ltb-false, ltb-true, ne_eqb, or_parts, true≢false}
pub use Rattle.std.proofs.lemmas.Bool.Decides.{nat_tests}
pub use Rattle.std.proofs.lemmas.List.{drop-map, drop_all, drop_at, drop_more, ext_get_or, get_or-append_right, get_or-drop, get_or-map, get_or-set_other, get_or-set_same, get_or-take, get_or_append_left, get_or_at, get_or_default, get_or_past, length-append, length-drop, length-map, length-set, length-take-le, map-append, map-id, set_at, take-append-drop, take-append-le, take-map, take_all, take_at, take_more}
pub use Rattle.std.proofs.lemmas.List.Elements.{All-from_recursion, All-nil, All-take, filter-append, recursion_from_All}
pub use Rattle.std.proofs.lemmas.List.Folds.{list_all_more}
pub use Rattle.std.proofs.lemmas.List.FromFn.{get_or-map-range_with_len, get_or-range_with_len, length-range_with_len, map-range_with_len_more}
pub use Rattle.std.proofs.lemmas.List.Quantifiers.{position-Some}
pub use Rattle.std.proofs.lemmas.List.Sums.{sum_by-append, sum_by-cons}
pub use Rattle.std.proofs.lemmas.Nat.{and_le_l, le-div, shr-shr}
pub use Rattle.std.proofs.lemmas.Nat.Bits.{and_pow, bit_at-lt, bit_at-suc, bit_at-trailing_ones, bit_at-trailing_zeros, bit_at-zero, bit_at_above, bit_at_and, bit_at_clear_other, bit_at_clear_same, bit_at_lowest, bit_at_not, bit_at_ones, bit_at_ones_above, bit_at_set_other, bit_at_set_same}
pub use Rattle.std.proofs.lemmas.Simd.{Each1-get_or, bit_mask_l, bitmask_splat, get_or-chunk, get_or-replicate, get_or-sel_l, get_or-zip2, length-chunk, length-sel_l, length-zip2, put_chunk_whole, tops_compared}
pub use Rattle.std.specs.Int.{bit_at, trailing_ones, trailing_zeros}
pub use Rattle.std.specs.Int.Count.{trailing_of_zero}
pub use Rattle.std.specs.List.{AllByRecursion, list_all, list_any, position, position_or_len, range_with_len, refill}
pub use Rattle.std.specs.Prelude.{None, Some, count_by, filter, find, flat_map, if◌then◌else◌, is_some, nat_le, nat_lt, option_map, option_to_list, remove, slice_index, slice_index_or, sum_by, unwrap_or}
pub use Rattle.std.specs.Simd.Lanes.{chunk, put_chunk, sel_l, top, zip2}
pub use Rattle.mscp_drive.specs.Heads.{sweep_cost}
pub use Rattle.mscp_drive.specs.Shape.{Shape, cylinder_of, last_cylinder, one_block}
pub use Rattle.mscp_drive.specs.UnitList.{IsUnitList, NumbersRise, unit_found}
pub use Rattle.mscp_drive.specs.declared.head.Head.{Head}
pub use Rattle.mscp_drive.specs.declared.block.Block.{Block}
pub use Rattle.mscp_drive.specs.declared.connection.Connection.{Connection}
pub use Rattle.mscp_packet.specs.Ends.{IsOfKind, kind_of_body, kind_of_code, refused_body, zero_body}
pub use Rattle.mscp_packet.specs.declared.command.Command.{Command}
pub use Rattle.mscp_packet.specs.declared.command.Order.{Order}
pub use Rattle.mscp_packet.specs.declared.end.BodyKind.{BodyKind}
pub use Rattle.mscp_packet.specs.declared.end.End.{End}
pub use Rattle.mscp_queue.specs.Buckets.{AreBuckets, IsPut, bucket_at, bucket_of}
pub use Rattle.mscp_queue.specs.Starts.{closed, comes_before, is_one, place_closed, start_of}
pub use Rattle.mscp_queue.specs.Favorites.{AreFavored, AreOnDrive, IsAhead, IsBest, IsClear, IsClearOn, IsFirstOf, IsLearned, IsNearOf, IsOpenOn, KnowsNothing, bars, command_at, commands, cost_at, cost_of, cost_on, cost_there, drive_in, is_clear, kind_there, knows, start_in}
pub use Rattle.mscp_queue.specs.Drives.{IsOnUnit, drive_of, fresh_drive, has_number, replaced}
pub use Rattle.mscp_queue.specs.Dues.{AreDue, AreTimed, IsDue, due_of, last_end, left_in_service, told}
pub use Rattle.mscp_queue.specs.Figures.{figure_at, figures_from, looked_at}
pub use Rattle.mscp_queue.specs.Kept.{AreApart, ArePassedInOrder, CanBeShown, HasBlocks, IsHeld, IsInside, IsKept, IsOfUnit, IsReady, IsShut, IsStillServable, IsWaitable, begun_name, is_known, names, place_served, place_without, units_of}
pub use Rattle.mscp_queue.specs.Lanes.{HasLanes, IsCost, IsFirst, IsLane, IsLeast, IsLow, lowered}
pub use Rattle.mscp_queue.specs.Lines.{Line, aborting, served}
pub use Rattle.mscp_queue.specs.Masks.{AreClasses, AreEarlier, AreMasks, AreSlots, HasCome, HasLeft, IsBehind, IsFence, IsFront, IsInFront, IsLowestFree, IsMaskOf, IsNarrowed, IsSet, Kind, bit, fences, has, keeps_back}
pub use Rattle.mscp_queue.specs.Names.{name_on, same_connection, same_name}
pub use Rattle.mscp_queue.specs.Orders.{endcode, first_block, is_move, is_sequential, order_cost, order_weight}
pub use Rattle.mscp_queue.specs.Outcomes.{IsCoded, aborted_end, moved_body, outcome_at, outcome_body, touches}
pub use Rattle.mscp_queue.specs.Pairs.{Pairs}
pub use Rattle.mscp_queue.specs.Pickers.{IsRow, IsSweep, costs}
pub use Rattle.mscp_queue.specs.Ranges.{AreRanged, IsAbove, IsBelow, IsIn, IsNearest, IsSooner, range_at}
pub use Rattle.mscp_queue.specs.Records.{IsAlone, Record, advanced, bare, charge, drive_at, fresh_record, has_name, is_in_service, is_unstarted, left_if_serving, left_of, name_of, no_record, passed_by, record_at, step_charge, without}
pub use Rattle.mscp_queue.specs.Serving.{IsNext, IsServable, begun_without, drive_after, end_given, has_block, is_begun, place_begun, plan_of, report_of, state_left, touched, upcoming_begun, upcoming_of, waiting_after}
pub use Rattle.mscp_queue.specs.Slots.{AreKept, AreRanges, AreSlotted, IsLowestUntaken, Slot, filled, held, is_unfenced, is_unfenced_at, items, kind_at, kind_of, kinds, kinds_of, lowered_by, no_kind, no_slot, numbers, shown, slot_at, targets, with_item}
pub use Rattle.mscp_queue.specs.Targets.{IsTargeted, no_target, range_of, target_of, targets_of, unit_place}
pub use Rattle.mscp_queue.specs.Views.{IsPick, MayAllPass, choice_name, choice_of, choices_at, is_affordable, is_free, is_open, is_open_at, open_places, view_of}
pub use Rattle.mscp_queue.specs.Waiters.{Waiters}
pub use Rattle.mscp_queue.specs.Why.{holder_of, holders_among, is_nobody}
pub use Rattle.mscp_queue.specs.declared.drive.Drive.{Drive}
pub use Rattle.mscp_queue.specs.declared.masks.Masks.{Masks}
pub use Rattle.mscp_queue.specs.declared.name.Name.{Name}
pub use Rattle.mscp_queue.specs.declared.plan.Plan.{Plan}
pub use Rattle.mscp_queue.specs.declared.report.Report.TheVariants.{Served}
pub use Rattle.mscp_queue.specs.declared.slots.Content.{Content}
pub use Rattle.mscp_queue.specs.declared.target.Target.{Target}
pub use Rattle.mscp_queue.specs.declared.upcoming.Upcoming.{Upcoming}
pub use Rattle.mscp_queue.specs.declared.view.Choice.{Choice}
pub use Rattle.mscp_queue.specs.declared.why.Holder.{Holder}
