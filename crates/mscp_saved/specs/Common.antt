-- What the code of this crate takes from specifications.
pub use Rattle.arrayvec.specs.ArrayVec.{array_vec_len}
pub use Rattle.mscp_controller.specs.Arrival.{is_queued}
pub use Rattle.mscp_controller.specs.Holdings.{waiting_on}
pub use Rattle.mscp_controller.specs.Restored.{IsSound, made_of}
pub use Rattle.mscp_drive.specs.Shape.{shape}
pub use Rattle.mscp_drive.specs.Settings.{IsValid}
pub use Rattle.mscp_packet.specs.Commands.{command_of}
pub use Rattle.mscp_packet.specs.Ends.{HasEndRange}
pub use Rattle.mscp_queue.specs.Kept.{IsWaitable, units_of}
pub use Rattle.mscp_queue.specs.Orders.{order_weight}
pub use Rattle.mscp_queue.specs.Records.{has_name, is_in_service, is_unstarted, name_of}
pub use Rattle.mscp_queue.specs.Views.{fences, is_affordable, is_free, is_open}
pub use Rattle.mscp_saved.specs.Ranges.{HasDriveRange, HasIdentifiersRange, HasLimitRange, HasSizesRange, HasWaitingRange}
pub use Rattle.mscp_saved.specs.Read.{all_waiting_in, begun_in, connection_in, drive_in, drives_in, end_in, first_count, first_in, first_place, held_in, part, parts_in, second_count, second_in, second_place, settings_in, sized, unit_in, waiting_count, waiting_in, waiting_place}
pub use Rattle.mscp_saved.specs.Restored.{IsSaved, are_apart, are_ends, are_on_units, are_passed, are_queued, are_unfinished, first_of, form_fault, form_unless, frame_fault, is_covered, is_framed, may_be_begun, may_serve, parts_fault, restored, settings_fault, unless}
pub use Rattle.mscp_saved.specs.Saved.{begun_bytes, connection_byte, counts_bytes, counts_of, drive_bytes, end_cell, flag_byte, frame_bytes, head_with, identifiers_bytes, limits_bytes, padded, saved_bytes, settings_bytes, sizes_bytes, waiting_bytes}
pub use Rattle.std.specs.List.{list_all, position}
