-- What the lemmas of this crate take from elsewhere.
pub use Rattle.std.proofs.Common.{All, Bool, List, [], add-one, ap, append-nil, append_assoc, arith, drop, false, get_or, length, refl, rules, subst, suc, sym, take, true, zero, ℕ, ◌&&◌, ◌*◌, ◌++◌, ◌+◌, ◌<◌, ◌^◌, ◌||◌, ◌∙◌, ◌∷◌, ◌≡◌, ◌≢◌, ◌≤◌}
pub use Rattle.std.proofs.lemmas.Bool.{and_from, and_parts, eq-eqb, eqb-false, eqb-true, false_from_ne_true, false≢true, le-leb, le-ltb, leb-true, lt-leb, lt-ltb, ltb-true, ne_eqb, not-true, not_from_false, or_left, or_right, true≢false}
pub use Rattle.std.proofs.lemmas.List.{drop-drop, length-append, length-map, length-take-le, take_rest}
pub use Rattle.std.proofs.lemmas.List.Elements.{All-from_recursion, All-nil, All-push, recursion_from_All}
pub use Rattle.std.proofs.lemmas.List.Folds.{list_all_more}
pub use Rattle.std.proofs.lemmas.List.Quantifiers.{position-Some}
pub use Rattle.std.proofs.lemmas.Slice.Eq.{bytes_eq-Decides}
pub use Rattle.std.specs.List.{AllByRecursion, list_all, position}
pub use Rattle.std.specs.Prelude.{Err, IfNone, IfSome, None, Ok, Option, Some, filter, flat_map, if◌then◌else◌, is_none, is_some, nat_eq, nat_le, nat_lt, not, slice_index, unwrap_or, ◌==◌, ◌⊎◌}
pub use Rattle.arrayvec.specs.ArrayVec.{array_vec_len}
pub use Rattle.byteorder.specs.Endian.{little_bytes}
pub use Rattle.mscp_controller.proofs.Bridge.Judging.{command_is}
pub use Rattle.mscp_controller.proofs.Promise.Sides.{sides_length}
pub use Rattle.mscp_controller.specs.Arrival.{is_queued, move_fault, unit_fault}
pub use Rattle.mscp_controller.specs.Holdings.{Holdings, waiting_on}
pub use Rattle.mscp_controller.specs.Restored.{IsCovered, IsSound, made_of}
pub use Rattle.mscp_drive.specs.Extent.{weight}
pub use Rattle.mscp_drive.specs.Shape.{Shape, one_block}
pub use Rattle.mscp_drive.specs.UnitList.{IsUnitList, NumbersRise}
pub use Rattle.mscp_drive.specs.Settings.{IsValid, Settings, credits_of, limit_fault, room_of}
pub use Rattle.mscp_drive.specs.declared.config.ConfigFault.{ConfigFault}
pub use Rattle.mscp_drive.specs.declared.connection.Connection.{Connection}
pub use Rattle.mscp_drive.specs.declared.connection.Connection.TheVariants.{First, Second}
pub use Rattle.mscp_packet.proofs.Numbers.{eight, four, two}
pub use Rattle.mscp_packet.proofs.Parts.{each_more, written_more}
pub use Rattle.mscp_packet.specs.Commands.{command_bytes}
unfoldable pub use Rattle.mscp_packet.specs.Commands.{command_of}
pub use Rattle.mscp_packet.specs.Ends.{HasEndRange, IsOfKind, body_at, kind_of_body, kind_of_code}
pub use Rattle.mscp_packet.specs.Number.{num}
pub use Rattle.mscp_packet.specs.declared.command.Command.{Command}
pub use Rattle.mscp_packet.specs.declared.command.Order.{Order}
pub use Rattle.mscp_packet.specs.declared.end.BodyKind.{BodyKind}
pub use Rattle.mscp_packet.specs.declared.end.End.{End}
pub use Rattle.mscp_packet.specs.declared.end.EndBody.{EndBody}
pub use Rattle.mscp_queue.proofs.Lists.{every_of, every_weaker}
pub use Rattle.mscp_queue.proofs.Named.{differ_is, is_differ, same_is}
pub use Rattle.mscp_queue.proofs.Nexts.{name_found}
pub use Rattle.mscp_queue.specs.Drives.{IsOnUnit}
pub use Rattle.mscp_queue.specs.Kept.{AreApart, ArePassedInOrder, IsKept, IsStillServable, IsWaitable, names, units_of}
pub use Rattle.mscp_queue.specs.Orders.{is_move, is_sequential, order_weight}
pub use Rattle.mscp_queue.specs.Records.{Record, has_name, is_in_service, is_unstarted, name_of, no_record, record_at}
pub use Rattle.mscp_queue.specs.Serving.{IsServable}
pub use Rattle.mscp_queue.specs.Views.{is_open_at}
pub use Rattle.mscp_queue.specs.declared.drive.Drive.{Drive}
pub use Rattle.mscp_queue.specs.declared.name.Name.{Name}
pub use Rattle.mscp_saved.specs.Faithful.{RestoringIsFaithful}
pub use Rattle.mscp_saved.specs.Ranges.{HasDriveRange, HasLimitRange, HasRange, HasSizesRange, HasWaitingRange}
pub use Rattle.mscp_saved.specs.Read.{all_waiting_in, begun_in, connection_in, drive_count, drive_in, drives_in, end_in, end_with, first_count, first_in, first_place, held_in, name_in, part, parts_in, second_count, second_in, second_place, settings_in, sized, waiting_count, waiting_in, waiting_place}
pub use Rattle.mscp_saved.specs.Restored.{IsSaved, are_apart, are_ends, are_on_units, are_passed, are_queued, are_unfinished, are_units, first_of, form_fault, form_unless, frame_fault, is_covered, is_framed, may_be_begun, may_serve, may_serve_at, parts_fault, restored, rise_above, settings_fault, unless}
pub use Rattle.mscp_saved.specs.Saved.{begun_connection, begun_reference, connection_byte, drive_bytes, end_cell, end_size, flag_byte, padded, saved_bytes, saved_length, waiting_bytes, waiting_size}
pub use Rattle.mscp_saved.specs.declared.fault.RestoreFault.{RestoreFault}
