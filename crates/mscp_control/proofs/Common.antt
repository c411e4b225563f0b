-- What the lemmas of this crate take from elsewhere.
pub use Rattle.std.proofs.Common.{Bool, List, [], ap, append-nil, arith, cond, drop, false, length, map, not, refl, subst, suc, sym, take, true, zero, ℕ, ◌&&◌, ◌*◌, ◌++◌, ◌+◌, ◌-◌, ◌/◌, ◌<◌, ◌^◌, ◌∙◌, ◌∷◌, ◌≡◌, ◌≢◌, ◌≤◌}
pub use Rattle.std.proofs.Math.Bool.{and-false}
pub use Rattle.std.proofs.Math.Nat.{zero-div}
pub use Rattle.std.proofs.lemmas.Bool.{and_parts, eq-eqb, eqb-true, false≢true, le-leb, le-ltb, leb-true, lt-leb, lt-ltb, ltb-false, ltb-true, ne_eqb, true≢false}
pub use Rattle.std.proofs.lemmas.Grind.{common_steps}
pub use Rattle.std.proofs.lemmas.List.{length-append, length-map, length-take-le, length_push, map-append, take_all, take_at}
pub use Rattle.std.proofs.lemmas.List.Elements.{All-contains, All-from_recursion}
pub use Rattle.std.proofs.lemmas.List.FromFn.{length-range_with_len}
pub use Rattle.std.specs.List.{AllByRecursion, range_with_len}
pub use Rattle.std.specs.Prelude.{None, Ok, Option, Some, filter, find, if◌then◌else◌, is_some, max, nat_eq, nat_le, nat_lt, option_copied, option_map, slice_get, slice_index, vec_capacity, vec_len}
pub use Rattle.arrayvec.specs.ArrayVec.{ArrayVec}
pub use Rattle.mscp_control.specs.Longest.{WaitsTheBound, can_wait_the_bound, has_longest}
pub use Rattle.mscp_control.specs.Worst.{block_before, come_on, connection_at, handing, long_read, online_command, online_end, opened, pass_on, queueing, read_command, read_end, read_report, rest_on, runs_on, short_read, stepping, steps_on, worst_of}
pub use Rattle.mscp_control.specs.declared.worst_case.Transfer.{Transfer}
pub use Rattle.mscp_controller.proofs.Bridge.Drives.{Driven, find_map, found_number}
pub use Rattle.mscp_controller.proofs.Bridge.Following.{none_held, turns}
pub use Rattle.mscp_controller.proofs.Bridge.Held.{Follows}
pub use Rattle.mscp_controller.proofs.Bridge.Legals.{legal_more}
pub use Rattle.mscp_controller.proofs.Bridge.Sending.{Agrees, sends}
pub use Rattle.mscp_controller.proofs.Bridge.Stepped.{turns_at}
pub use Rattle.mscp_controller.proofs.Promise.Grows.{command_before, command_last, connection_last, is_waiting_before, is_waiting_last, name_before, steps_last, steps_more}
pub use Rattle.mscp_controller.proofs.Promise.Known.{more_at}
pub use Rattle.mscp_controller.proofs.Promise.Progress.{progress, waits_in}
pub use Rattle.mscp_controller.proofs.Promise.Served.{some_same}
pub use Rattle.mscp_controller.proofs.Promise.Sides.{sides_length}
pub use Rattle.mscp_controller.proofs.Promise.Waits.{waiting_waits}
pub use Rattle.mscp_controller.specs.Arrival.{holds, is_queued, refusal}
pub use Rattle.mscp_controller.specs.Commands.{ends_in, is_waiting, name, steps_after, unit, waiting}
pub use Rattle.mscp_controller.specs.Figures.{figure}
pub use Rattle.mscp_controller.specs.Headline.{Promise}
pub use Rattle.mscp_controller.specs.History.{Moment, Trace, is_step, moment}
pub use Rattle.mscp_controller.specs.Holdings.{Holdings, aborting, after_message, after_take, answer_to_message, answered_end, balance_of, ends_after, fresh, held_unless, line_of, numbers, numbers_ended, outstanding_of, queued, reference_aborted, sent_unless, waiting_on, with_end}
pub use Rattle.mscp_controller.specs.Legal.{IsLegal}
pub use Rattle.mscp_drive.specs.Heads.{distance}
pub use Rattle.mscp_drive.specs.Shape.{Shape, cylinder_of}
pub use Rattle.mscp_drive.specs.declared.head.Head.{Head}
pub use Rattle.mscp_drive.specs.Both.{Both, of, put}
pub use Rattle.mscp_drive.specs.Settings.{IsValid, Settings, bound, credits_of, room, room_of, unit_found}
pub use Rattle.mscp_drive.specs.declared.block.Block.TheVariants.{Good}
pub use Rattle.mscp_drive.specs.declared.connection.Connection.{Connection}
pub use Rattle.mscp_drive.specs.declared.connection.Connection.TheVariants.{First}
pub use Rattle.mscp_packet.proofs.Commands.{command_bytes_are_messages}
pub use Rattle.mscp_packet.specs.Commands.{HasCommandRange, IsCommand, IsValidOrder, command_bytes}
unfoldable pub use Rattle.mscp_packet.specs.Commands.{command_of}
pub use Rattle.mscp_packet.specs.Ends.{end_bytes}
pub use Rattle.mscp_packet.specs.Number.{num}
pub use Rattle.mscp_packet.specs.Opcodes.{class, is_immediate_class}
pub use Rattle.mscp_packet.specs.declared.command.Command.{Command}
pub use Rattle.mscp_packet.specs.declared.end.End.{End}
pub use Rattle.mscp_queue.proofs.Lists.{every_append, range_more}
pub use Rattle.mscp_queue.proofs.Named.{is_differ, is_same}
pub use Rattle.mscp_queue.proofs.Placed.{at_place, map_map}
pub use Rattle.mscp_queue.specs.Drives.{drive_of, fresh_drive, has_number, replaced}
pub use Rattle.mscp_queue.specs.Lines.{ServesAt}
pub use Rattle.mscp_queue.specs.Names.{name_on, same_name}
pub use Rattle.mscp_queue.specs.Outcomes.{head_after}
pub use Rattle.mscp_queue.specs.Records.{Record, fresh_record, name_of, no_record, passed_by, record_at, remains, step_charge}
pub use Rattle.mscp_queue.specs.Serving.{IsServable, drive_after, drives_after, end_given, report_of, waiting_after}
pub use Rattle.mscp_queue.specs.Views.{is_affordable, is_free}
pub use Rattle.mscp_queue.specs.declared.drive.Drive.{Drive}
pub use Rattle.mscp_queue.specs.declared.name.Name.{Name}
pub use Rattle.mscp_queue.specs.declared.report.Report.{Report}
pub use Rattle.mscp_queue.specs.declared.report.Report.TheVariants.{Served}
pub use Rattle.mscp_queue.specs.declared.view.Choice.{Choice}
