-- What the code of this crate takes from specifications.
pub use Rattle.mscp_drive.specs.Heads.{distance}
pub use Rattle.mscp_drive.specs.Shape.{last_cylinder, one_block}
pub use Rattle.mscp_drive.specs.UnitList.{IsUnitList}
pub use Rattle.mscp_drive.specs.declared.connection.Connection.TheVariants.{First}
pub use Rattle.mscp_packet.specs.Ends.{IsOfKind}
pub use Rattle.mscp_packet.specs.declared.class.Class.TheVariants.{Immediate}
pub use Rattle.mscp_queue.specs.Buckets.{IsPut, bucket_of}
pub use Rattle.mscp_queue.specs.Favorites.{AreFavored, AreOnDrive, IsBest, IsClearOn, IsFirstOf, IsLearned, IsNearOf, IsOpenOn, IsPrepared, KnowsNothing, commands, cost_at, cost_on, cost_there, drive_in, knows, start_in}
pub use Rattle.mscp_queue.specs.Starts.{closed, comes_before, cost_end}
pub use Rattle.mscp_queue.specs.Drives.{IsOnUnit, drive_of, fresh_drive, has_number, is_online_in}
pub use Rattle.mscp_queue.specs.Dues.{AreTimed, clock_end, due_of, told}
pub use Rattle.mscp_queue.specs.Figures.{figure_at, figure_of_name, figures}
pub use Rattle.mscp_queue.specs.Kept.{AreApart, ArePassedInOrder, CanBeShown, IsHeld, IsOfUnit, IsShut, IsWaitable, begun_name, is_known, names, place_served, place_without, units_of}
pub use Rattle.mscp_queue.specs.Lanes.{HasLanes, IsCost, IsFirst, IsLane, IsLeast, lowered}
pub use Rattle.mscp_queue.specs.Lines.{Begins, BeginsAt, Line, Serves, ServesAt, aborting, fresh, pushed}
pub use Rattle.mscp_queue.specs.Masks.{HasCome, HasLeft, IsBehind, IsFront, IsLowestFree, IsNarrowed, IsSet}
pub use Rattle.mscp_queue.specs.Names.{name_on}
pub use Rattle.mscp_queue.specs.Orders.{endcode, first_block, is_move, is_sequential, order_cost, order_weight}
pub use Rattle.mscp_queue.specs.Outcomes.{aborted_end, bad_status, end_with, goes_on, good_status, head_after, is_success, moved_body, online_body, outcome_at, outcome_body, outcome_status, state_after, touches}
pub use Rattle.mscp_queue.specs.Pickers.{IsRow}
pub use Rattle.mscp_queue.specs.Ranges.{AreRanged, IsAbove, IsBelow, IsNearest}
pub use Rattle.mscp_queue.specs.Records.{IsAlone, IsServing, aborted_record, advanced, bare, drive_at, fresh_record, has_name, is_in_service, is_unstarted, left_if_serving, left_of, name_of, no_record, passed_by, record_at, step_charge, without}
pub use Rattle.mscp_queue.specs.Serving.{IsNext, end_given, end_in, is_begun, place_begun, plan_of, state_left, touched, upcoming_begun, upcoming_of}
pub use Rattle.mscp_queue.specs.Slots.{AreSlotted, IsLowestUntaken, dues, filled, is_unfenced, is_unfenced_at, items, kinds, kinds_of, lowered_by, shown, slot_at, targets, with_item}
pub use Rattle.mscp_queue.specs.Targets.{IsTargeted, no_target, range_of, target_of, targets_of, unit_place}
pub use Rattle.mscp_queue.specs.Views.{IsPick, MayAllPass, choice_of, is_open_at, open_places, view_of}
pub use Rattle.mscp_queue.specs.Waiters.{Waiters}
pub use Rattle.mscp_queue.specs.Why.{holder_of, holders_at, holders_of_name, is_nobody, is_overdrawn}
pub use Rattle.mscp_queue.specs.declared.report.Report.TheVariants.{Served}
pub use Rattle.std.specs.Int.{bit_at}
pub use Rattle.std.specs.List.{list_any, position}
pub use Rattle.std.specs.Option.{option_copied}
pub use Rattle.std.specs.Prelude.{List}
