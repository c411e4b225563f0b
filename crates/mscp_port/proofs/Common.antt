-- What the lemmas of this crate take from elsewhere.
pub use Rattle.std.proofs.Common.{All, Bool, Contains, IfSome, List, MatchOption, None, Option, Some, [], ap, append_assoc, arith, below_more, drop, false, filter, get_or, get_or-set_other, get_or-set_same, inl, inr, length, map, nat_eq, nat_le, not, refl, replicate, rules, subst, sym, take, true, ℕ, ◌%◌, ◌*◌, ◌++◌, ◌+◌, ◌-◌, ◌<◌, ◌^◌, ◌∙◌, ◌∷◌, ◌≡◌, ◌≢◌, ◌≤◌, ◌⊎◌}
pub use Rattle.std.proofs.Math.Seq.{drop-append_seam, take-append_seam}
pub use Rattle.std.proofs.lemmas.Bool.{and_from, and_parts, cases_eq, cases_lt, eq-eqb, eqb-true, false≢true, le-leb, lt-ltb, or_left, or_parts, or_right}
pub use Rattle.std.proofs.lemmas.List.{append-nil, append_cancel_right, drop-drop, drop_more, get_or-drop, get_or_past, length-append, length-drop, length-set, length-take, map_more, take-append-drop, take-replicate, take_all}
pub use Rattle.std.proofs.lemmas.List.Elements.{All-contains, All-contains_itself, All-filter, Contains-push_cases, recursion_from_All}
pub use Rattle.std.proofs.lemmas.List.Quantifiers.{position-Some}
pub use Rattle.std.proofs.lemmas.Option.{none-some, same_Some}
pub use Rattle.std.proofs.lemmas.Slice.Eq.{bytes_eq-Decides}
pub use Rattle.std.specs.List.{AllByRecursion, position}
pub use Rattle.std.specs.Prelude.{Err, IfOk, IsOk, Ok, Result, flat_map, if◌then◌else◌, slice_index}
pub use Rattle.std.specs.Str.{bytes_eq}
pub use Rattle.byteorder.specs.Endian.{little_bytes}
pub use Rattle.arrayvec.proofs.ArrayVecLemmas.{filter-from_retain}
pub use Rattle.arrayvec.specs.ArrayVec.{array_vec_len}
pub use Rattle.mscp_controller.specs.Holdings.{Foretells, Holdings, after_message, after_take, balance_of, begun_step}
pub use Rattle.mscp_controller.specs.Restored.{IsSound}
pub use Rattle.mscp_controller.specs.declared.entry.Sent.{Sent}
pub use Rattle.mscp_drive.specs.Both.{of}
pub use Rattle.mscp_drive.specs.declared.connection.Connection.{Connection}
pub use Rattle.mscp_drive.specs.declared.connection.Connection.TheVariants.{First}
pub use Rattle.mscp_packet.proofs.Numbers.{eight, four, two}
pub use Rattle.mscp_packet.proofs.Parts.{each_more, from_place, written_more}
pub use Rattle.mscp_packet.specs.Number.{num}
pub use Rattle.mscp_packet.specs.declared.command.MoveKind.{MoveKind}
pub use Rattle.mscp_packet.specs.declared.command.Order.{Order}
pub use Rattle.mscp_packet.specs.declared.end.End.{End}
pub use Rattle.mscp_port.specs.Areas.{AreRings, Rings}
pub use Rattle.mscp_port.specs.Blocks.{changed_verdict, good_step, has_changed, is_available, kept_of, move_of, move_task, moved_by, part_task, part_with, refusal_of, takes_any_volume, task_of, unless_fault}
pub use Rattle.mscp_port.specs.Buffers.{IsInBuffer, is_of, part_of}
pub use Rattle.mscp_port.specs.Calls.{ChangesByActing, StaysInStage, Wants}
pub use Rattle.mscp_port.specs.Codes.{IsTask, bus_byte, bus_in, coded_task, has_size, number_or_none, optional, some_byte, stage_byte, stage_in, stage_word, task_in}
pub use Rattle.mscp_port.specs.Decided.{answer_of, decided_answers, decided_in}
pub use Rattle.mscp_port.specs.Messages.{number_or_zero}
pub use Rattle.mscp_port.specs.Moved.{BeginsBlock, GoesOnWithBlock, TakesBlock, begun_task, block_begun, known_task, move_wanted, part_at, part_now, part_wanted}
pub use Rattle.mscp_port.specs.Outgoings.{KeepsSaying, Says, TakesEnd, TellsNews}
pub use Rattle.mscp_port.specs.Ports.{IsDue, IsInSomeBuffer, IsOfBlock, IsReadingSlot, IsReadingText, asks_blocks, in_hand}
pub use Rattle.mscp_port.specs.Restored.{IsFramed, all_decided_in, area_in, buffer_count, buffer_in, buffer_place, buffers_in, coded_in, controller_in, controller_place, decided_count, decided_place, frame_fault, front_in, held_in, is_framed, outgoing_in, over, port_in, restored, restored_unless, rings_if, text_count, text_in, told_front, unless, volume_in, volumes_in, whose}
pub use Rattle.mscp_port.specs.Saved.{HasBufferRange, HasDecidedRange, HasRange, HasVolumeRange, buffer_bytes, coded_bytes, decided_bytes, frame_bytes, front_bytes, hand_bytes, hardware_bytes, length_before, length_of, outgoing_byte, outgoing_text, rings_bytes, rings_or_none, saved_bytes, stage_bytes, state_bytes, volume_bytes, words_bytes, written_bytes}
pub use Rattle.mscp_port.specs.Seen.{Sends, answered_to}
pub use Rattle.mscp_port.specs.Sizes.{clear_size, text_size}
pub use Rattle.mscp_port.specs.Slots.{is_owned}
pub use Rattle.mscp_port.specs.Volumes.{no_volume, place_in, volume_at, volume_reset}
pub use Rattle.mscp_port.specs.Wanted.{IsMovedFor}
pub use Rattle.mscp_port.specs.declared.buffers.Buffer.{Buffer}
pub use Rattle.mscp_port.specs.declared.decided.Decided.{Decided}
pub use Rattle.mscp_port.specs.declared.hardware.Bus.{Bus}
pub use Rattle.mscp_port.specs.declared.port.Outgoing.{Outgoing}
pub use Rattle.mscp_port.specs.declared.port.Port.{Port}
pub use Rattle.mscp_port.specs.declared.port.restoring.RestoreFault.{RestoreFault}
pub use Rattle.mscp_port.specs.declared.rings.Side.{Side}
pub use Rattle.mscp_port.specs.declared.slot.Descriptor.{Descriptor}
pub use Rattle.mscp_port.specs.declared.stage.Stage.{Stage}
pub use Rattle.mscp_port.specs.declared.task.Task.{Task}
pub use Rattle.mscp_port.specs.declared.verdict.Verdict.{Verdict}
pub use Rattle.mscp_port.specs.declared.volumes.Volume.{Volume}
pub use Rattle.mscp_queue.specs.declared.name.Name.{Name}
pub use Rattle.mscp_queue.specs.declared.upcoming.Upcoming.{Upcoming}
pub use Rattle.mscp_queue.specs.declared.view.Choice.{Choice}
pub use Rattle.mscp_saved.proofs.Back.{flag_back}
pub use Rattle.mscp_saved.proofs.BackParts.{IsBack, parts_rest, parts_said}
pub use Rattle.mscp_saved.proofs.Bytes.{first, grow, more}
pub use Rattle.mscp_saved.proofs.Faithful.{same_of}
pub use Rattle.mscp_saved.proofs.Parted.{parts_long}
pub use Rattle.mscp_saved.proofs.PartsRead.{part_more}
pub use Rattle.mscp_saved.specs.Read.{held_in as controller_said, parts_in}
pub use Rattle.mscp_saved.specs.Restored.{restored as controller_restored}
pub use Rattle.mscp_saved.specs.Saved.{flag_byte, saved_bytes as controller_bytes}
pub use Rattle.mscp_saved.specs.declared.fault.RestoreFault.{RestoreFault as ControllerFault}
