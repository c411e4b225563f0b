-- What the code of this crate takes from specifications.
pub use Rattle.arrayvec.specs.ArrayVec.{array_vec_len}
pub use Rattle.byteorder.specs.Endian.{little_bytes}
pub use Rattle.mscp_controller.specs.Holdings.{Foretells, after_message, after_take, balance_of, begun_step}
pub use Rattle.mscp_controller.specs.Restored.{IsSound}
pub use Rattle.mscp_drive.specs.Both.{of}
pub use Rattle.mscp_drive.specs.UnitList.{unit_found}
pub use Rattle.mscp_drive.specs.declared.connection.Connection.TheVariants.{First}
pub use Rattle.mscp_packet.specs.Number.{num}
pub use Rattle.mscp_port.specs.Acted.{Clears, GivesBack, WritesOut, counted, step_task, vector_in}
pub use Rattle.mscp_port.specs.Areas.{AreRings, IsInArea, end_of, rings_named, slot_in, slots_of}
pub use Rattle.mscp_port.specs.Blocks.{kept_of, move_of, part_with, refusal_of, task_of}
pub use Rattle.mscp_port.specs.Buffers.{IsInBuffer, is_of, kept_beside, part_of, without, without_aborted}
pub use Rattle.mscp_port.specs.Calls.{ChangesByReading, ChangesBySaying, ChangesByService, ChangesByWord, Dies, Goes, GoesBy, Hears, IsMadeOf, ReadsIp, TakesStep, Wants, WritesIp, WritesSa, sa_of}
pub use Rattle.mscp_port.specs.Watching.{Changes, IsQuiet, LooksAgain, PutsIn, Ticks, step_again}
pub use Rattle.mscp_port.specs.Codes.{number_or_none, optional, stage_in, stage_word}
pub use Rattle.mscp_port.specs.Decided.{answer_decided, decided_after, decided_answers, decided_step, decided_in}
pub use Rattle.mscp_port.specs.Leaving.{news_at, told_end}
pub use Rattle.mscp_port.specs.Messages.{bare_end, handed, next_unit, volume_of}
pub use Rattle.mscp_port.specs.Moved.{BeginsBlock, GoesOnWithBlock, MayMoveOn, MayMoveUnit, TakesBegun, TakesBlock, begun_task, block_begun, block_served, move_wanted, part_now, volumes_after}
pub use Rattle.mscp_port.specs.Outgoings.{AnswersItself, IsNews, KeepsSaying, MayBegin, Says, TakesEnd, TellsNews, news_place}
pub use Rattle.mscp_port.specs.Packets.{connection_of, credits_told, end_kind, packet_of}
pub use Rattle.mscp_port.specs.Ports.{HasNothingToHear, HasNothingToSay, block_is_due, IsAlive, IsAsNew, IsDue, IsIdleUp, IsInSomeBuffer, IsOfBlock, IsOutcomeOf, IsWithin, asked, asks_blocks, in_hand, seconds}
pub use Rattle.mscp_port.specs.Restored.{IsFramed, IsSaved, all_decided_in, area_in, buffer_in, buffers_in, coded_in, controller_in, controller_place, frame_fault, front_in, hardware_in, held_in, is_framed, kind_in, outgoing_in, port_in, restored, rings_if, text_in, told_front, unless, volume_in, volumes_in, words_in}
pub use Rattle.mscp_port.specs.Saved.{HasBufferRange, HasCodedRange, HasDecidedRange, HasHandRange, HasStateRange, HasVolumeRange, area_bytes, buffer_bytes, coded_bytes, counts_bytes, decided_bytes, frame_bytes, hand_bytes, hardware_bytes, kind_byte, outgoing_byte, outgoing_text, rings_bytes, saved_bytes, stage_bytes, state_bytes, volume_bytes, words_bytes, written_bytes}
pub use Rattle.mscp_port.specs.Seen.{SeesHeader, SeesText, answered_to, changes_at, heeded, neighbour_seen, settings_heeded, slot_seen}
pub use Rattle.mscp_port.specs.Serials.{next_serial, serial_after, serial_begun}
pub use Rattle.mscp_port.specs.Slots.{given_back, is_owned, text_of}
pub use Rattle.mscp_port.specs.Volumes.{IsOnVolume, MayMove, medium_answer, place_in, volume_at, volume_changed, volume_found, volume_heeded, volume_in_place, volume_protected, volume_put, volume_reset}
pub use Rattle.mscp_port.specs.Wanted.{IsMovedFor, IsWanted, bytes_wanted, clear_count, clear_from, given_in, packet_out, vector_of}
pub use Rattle.mscp_port.specs.declared.rings.Side.{Side}
pub use Rattle.mscp_port.specs.declared.rings.Side.TheVariants.{Commands, Responses}
pub use Rattle.mscp_port.specs.declared.slot.Descriptor.{Descriptor}
pub use Rattle.mscp_queue.specs.Kept.{IsOfUnit}
pub use Rattle.mscp_queue.specs.Serving.{has_block}
pub use Rattle.mscp_saved.specs.Read.{parts_in}
pub use Rattle.mscp_saved.specs.Saved.{flag_byte}
pub use Rattle.std.specs.List.{position}
pub use Rattle.std.specs.Option.{option_copied}
pub use Rattle.std.specs.Str.{bytes_eq}
