-- What the lemmas of this crate take from elsewhere.
pub use Rattle.std.proofs.Common.{All, Bool, Contains, IfSome, IsSomeAnd, List, MatchOption, None, Option, Some, [], ap, append_assoc, arith, cond, drop, false, filter, get_or, inl, inr, length, map, min, mod-lt, nat_eq, nat_le, nat_lt, not, pow_pos, refl, set, subst, suc, sym, take, true, zero, ℕ, ◌%◌, ◌&&◌, ◌*◌, ◌++◌, ◌+◌, ◌-◌, ◌/◌, ◌<◌, ◌^◌, ◌∙◌, ◌∷◌, ◌≡◌, ◌≢◌, ◌≤◌, ◌⊎◌}
pub use Rattle.std.proofs.Math.Nat.{min-le_left, mod-add-mod}
pub use Rattle.std.proofs.Math.Pow.{mod-mod-pow}
pub use Rattle.std.proofs.Math.Seq.{drop-append_seam, take-length}
pub use Rattle.std.proofs.lemmas.Grind.{flat_map-append}
pub use Rattle.std.proofs.lemmas.List.{append-nil, length-append, length-map, map-append, take_all, take_at}
pub use Rattle.std.proofs.lemmas.List.Elements.{All-append, All-cons, All-contains, All-drop, All-filter, All-get_or, All-head, All-map, All-nil, All-push, All-tail, All-take, Contains-append_left, Contains-append_right, Contains-push, filter-append, filter_passes}
pub use Rattle.std.proofs.lemmas.List.Folds.{list_any-append}
pub use Rattle.std.proofs.lemmas.Option.{get_or_from_slice_get, none-some, same_Some}
pub use Rattle.std.specs.List.{AllByRecursion, list_any, position}
pub use Rattle.std.specs.Prelude.{Err, IsOk, Ok, Result, bit_or, find, flat_map, if◌then◌else◌, is_none, is_ok, option_map, option_to_list, slice_get, slice_index, ◌==◌, ◌||◌, ◌↔◌}
pub use Rattle.byteorder.specs.Endian.{little_bytes}
pub use Rattle.mscp_controller.proofs.Bridge.Basics.{owner_kept}
pub use Rattle.mscp_controller.proofs.Promise.Apart.{name_last, new_name, queued_name}
pub use Rattle.mscp_controller.proofs.Promise.Falling.{Falling}
pub use Rattle.mscp_controller.proofs.Promise.Grows.{moment_last, name_before, waiting_more}
pub use Rattle.mscp_controller.proofs.Promise.Progress.{waits_in}
pub use Rattle.mscp_controller.proofs.Promise.Waits.{waiting_waits, waits_below}
pub use Rattle.mscp_controller.specs.Account.{ends}
unfoldable pub use Rattle.mscp_controller.specs.Account.{untaken}
pub use Rattle.mscp_controller.specs.Arrival.{fault_of, holds, is_queued, move_fault, refusal}
pub use Rattle.mscp_controller.specs.Calls.{AnsweredCalls, AnswersCall, Begin, Call as Made, Finish, Plain, history, moments_of}
pub use Rattle.mscp_controller.specs.Commands.{ends_in, is_waiting, name, waiting_by}
unfoldable pub use Rattle.mscp_controller.specs.Commands.{waiting}
pub use Rattle.mscp_controller.specs.Controllers.{ControllersKeepThePromise, KeepsPromise}
pub use Rattle.mscp_controller.specs.Figures.{figure, figure_found}
unfoldable pub use Rattle.mscp_controller.specs.Figures.{figure_of}
pub use Rattle.mscp_controller.specs.Headline.{AtEach, EachWaiting, Promise}
pub use Rattle.mscp_controller.specs.History.{Moment, Trace, is_step, queues}
pub use Rattle.mscp_controller.specs.Holdings.{Finishes, Foretells, Holdings, aborting, after_message, after_take, answer_to_message, answered_end, arrives, balance_of, begun_step, end_taken, figure_polled, fresh, held_unless, numbers, numbers_ended, outstanding_of, queued, record_aborted, reference_aborted, sent_unless, taken_as, unaborted, waiting_on, with_end}
pub use Rattle.mscp_controller.specs.Legal.{IsLegal, IsRight}
pub use Rattle.mscp_controller.specs.Outcomes.{own_end_with}
pub use Rattle.mscp_controller.specs.declared.entry.NotBegun.{NotBegun}
pub use Rattle.mscp_controller.specs.declared.entry.SendFault.{SendFault}
pub use Rattle.mscp_controller.specs.declared.entry.Sent.{Sent}
pub use Rattle.mscp_drive.specs.Both.{of}
pub use Rattle.mscp_drive.specs.Extent.{blocks, blocks as blocks_in, range_fault}
pub use Rattle.mscp_drive.specs.Settings.{IsValid, Settings, credits_of}
pub use Rattle.mscp_drive.specs.Shape.{Shape, one_block}
pub use Rattle.mscp_drive.specs.UnitList.{IsUnitList, unit_found}
pub use Rattle.mscp_drive.specs.declared.block.Block.{Block}
pub use Rattle.mscp_drive.specs.declared.connection.Connection.{Connection}
pub use Rattle.mscp_drive.specs.declared.connection.Connection.TheVariants.{First, Second}
pub use Rattle.mscp_packet.proofs.Numbers.{four, two}
pub use Rattle.mscp_packet.specs.Commands.{order_with, parameters}
unfoldable pub use Rattle.mscp_packet.specs.Commands.{command_of}
pub use Rattle.mscp_packet.specs.Ends.{IsOfKind, end_bytes, end_length, endcodes, kind_of_body, kind_of_code, refused_body, zero_body}
pub use Rattle.mscp_packet.specs.Number.{num}
pub use Rattle.mscp_packet.specs.Opcodes.{class, is_immediate_class, least, move_byte, opcode_of, opcodes, row_of}
pub use Rattle.mscp_packet.specs.declared.class.Opcode.{Opcode}
pub use Rattle.mscp_packet.specs.declared.command.Command.{Command}
pub use Rattle.mscp_packet.specs.declared.command.MoveKind.{MoveKind}
pub use Rattle.mscp_packet.specs.declared.command.Order.{Order}
pub use Rattle.mscp_packet.specs.declared.end.BodyKind.{BodyKind}
pub use Rattle.mscp_packet.specs.declared.end.BodyKind.TheVariants.{Moved}
pub use Rattle.mscp_packet.specs.declared.end.End.{End}
pub use Rattle.mscp_packet.specs.declared.end.EndBody.{EndBody}
pub use Rattle.mscp_port.proofs.Among.{none_among}
pub use Rattle.mscp_port.proofs.Begun.{taken_or_not}
pub use Rattle.mscp_port.proofs.Common.{Contains-push_cases, and_parts, cases_eq, cases_lt, drop_more, eq-eqb, eqb-true, false≢true, get_or-set_other, get_or-set_same, get_or_past, length-set, or_parts, position-Some, take-append-drop}
pub use Rattle.mscp_port.specs.Acted.{Clears, GivesBack, WritesOut, counted, hears_of, step_task, vector_in}
pub use Rattle.mscp_port.specs.Areas.{Rings, end_of, rings_named, slot_in, slots_of, start_of, word_of}
pub use Rattle.mscp_port.specs.Blocks.{block_of, block_told, changed_verdict, fault_with, good_step, has_changed, is_available, kept_at, kept_of, move_of, move_task, moved_by, part_task, part_with, refusal_of, takes_any_volume, task_of, writes}
pub use Rattle.mscp_port.specs.Buffers.{buffer_in, is_of, kept_beside, part_of, without as without_kept, without_aborted}
pub use Rattle.mscp_port.specs.Calls.{ChangesByWord, Dies, Goes, Hears, Hears as Reads, HoldsPacket, IsMadeOf, ReadsIp, StaysInStage, TakesStep, Wants, WritesSa, read_again, step_answered}
pub use Rattle.mscp_port.specs.Watching.{Changes, ChangesVolume, PutsIn, Ticks, step_again, step_at}
pub use Rattle.mscp_port.specs.Decided.{answer_of, end_decided, status_told}
pub use Rattle.mscp_ported.specs.Departures.{IsDelivered, IsForgotten, IsWritten, Told, begins, begun, disk_credits, gone, leaves}
pub use Rattle.mscp_ported.specs.Fair.{HearsPoll, TellsStep}
pub use Rattle.mscp_port.specs.Formalities.{code_told, ends_formality, is_formality, stand_in}
unfoldable pub use Rattle.mscp_packet.specs.Opcodes.{port_answers}
pub use Rattle.mscp_port.specs.Histories.{Answered, Becomes, Call, LookAgain, Next, Picking, Protect, PutAside, ReadIp, Tick, VolumeCame, VolumeWent, WasRead, Went, WriteIp, WriteSa}
pub use Rattle.mscp_ported.specs.Kept.{IsSaidBy, WasSaid}
pub use Rattle.mscp_port.specs.Leaving.{attention, end_left, end_told, end_with_body, head, told_end}
pub use Rattle.mscp_port.specs.Messages.{asks_for_next, bare_end, handed, next_named, own_end, own_end_of, refused_end, volume_refusal}
unfoldable pub use Rattle.mscp_packet.specs.Opcodes.{is_transfer_opcode}
pub use Rattle.mscp_port.specs.Moved.{BeginsBlock, GoesOnWithBlock, HeedsStep, IsStepping, Moves, TakesBegun, TakesBlock, begun_task, block_begun, block_served, decided_ended, end_brought, kept_after, known_task, move_wanted, moved_step, part_at, part_now, part_served, part_wanted, place_heeded, volumes_after}
pub use Rattle.mscp_port.specs.Outgoings.{AnswersItself, IsNews, IsNews as TellsOf, LooksForOut, MayBegin, Says, TakesEnd, TellsNews, news_place}
pub use Rattle.mscp_port.specs.Packets.{connection_of, credits_by, credits_with, end_kind, packet_of}
pub use Rattle.mscp_port.specs.Ports.{Drops, IsAlive, IsAsNew, IsDue, IsInRingsOrPacket, IsInSomeBuffer, IsOfBlock, IsOutcomeOf, IsReadingSlot, IsReadingText, IsWithin, Leaves, aside, block_is_due, in_hand, read_size}
pub use Rattle.mscp_port.specs.Seen.{SeesText, Sends, answered_to, bytes_read, changes_at, connection_in, header_fault, heard, is_poll, kept_of_sent, length_in, slot_seen, stays}
pub use Rattle.mscp_port.specs.Slots.{given_back, is_flagged, is_owned, text_of}
pub use Rattle.mscp_port.specs.Volumes.{MayMove, no_volume, place_in, protected_by, volume_at, volume_changed, volume_found, volume_heeded, volume_protected, volume_put, volumes_heeded, volumes_with}
pub use Rattle.mscp_port.specs.Wanted.{IsWanted, bytes_wanted, given_in, packet_out}
pub use Rattle.mscp_port.specs.declared.action.Action.{Action}
pub use Rattle.mscp_port.specs.declared.action.Outcome.{Outcome}
pub use Rattle.mscp_port.specs.declared.action.Unasked.{Unasked}
pub use Rattle.mscp_port.specs.declared.buffers.Buffer.{Buffer}
pub use Rattle.mscp_port.specs.declared.decided.Decided.{Decided}
pub use Rattle.mscp_port.specs.declared.hardware.Hardware.{Hardware}
pub use Rattle.mscp_port.specs.declared.port.Outgoing.{Outgoing}
pub use Rattle.mscp_port.specs.declared.port.OutgoingKind.{OutgoingKind}
pub use Rattle.mscp_port.specs.declared.port.Port.{Port}
pub use Rattle.mscp_port.specs.declared.rings.Side.{Side}
pub use Rattle.mscp_port.specs.declared.rings.Side.TheVariants.{Commands, Responses}
pub use Rattle.mscp_port.specs.declared.slot.Descriptor.{Descriptor}
pub use Rattle.mscp_port.specs.declared.stage.Stage.{Stage}
pub use Rattle.mscp_port.specs.declared.task.Task.{Task}
pub use Rattle.mscp_port.specs.declared.verdict.Verdict.{Verdict}
pub use Rattle.mscp_port.specs.declared.volumes.Volume.{Volume}
pub use Rattle.mscp_ported.specs.Answers.{IsHandedOver, IsOwnAnswer, Own, asks_next, asks_nothing, is_for_utilities, moves_data, own_answer, own_refusal, own_text, text_handed, volume_named}
pub use Rattle.mscp_ported.specs.Asking.{AsksBehindPolls, AsksForBlocks}
pub use Rattle.mscp_ported.specs.Awaited.{Deals, IsEnding, IsWhole, ReadsBytes, awaited, bytes_in, has_number, is_taken_text, taken_by, without_ends}
pub use Rattle.mscp_ported.specs.Ends.{Fields, Leaving, answer_left, came, came_by, code_said, come, end_text, ends_begun, ends_said, ends_said_by, fields_with, status_said, step_left, text_left, verdict_in, verdict_of}
pub use Rattle.mscp_ported.specs.Figures.{Lowers, figure_on}
pub use Rattle.mscp_ported.specs.Fitting.{Fits, IsCodeFor, IsUnitFor}
pub use Rattle.mscp_ported.specs.Making.{AreMade, IsFinish, Makes, begin_made, send_made, step_told, take_made, told_as, told_of, told_unless, transfer_told, unless_own}
pub use Rattle.mscp_ported.specs.Mounts.{IsOfItsVolume, IsOnItsVolume, IsOnline, Succeeds, changed, changed_by}
pub use Rattle.mscp_ported.specs.Moved.{IsEmpty, WasMoved, block_moved}
pub use Rattle.mscp_ported.specs.News.{IsAvailable}
pub use Rattle.mscp_ported.specs.Owed.{IsCalm, IsOwed}
pub use Rattle.mscp_ported.specs.Passing.{HoldsAwaited, IsServedSince, PassesOn, Pending, ServesBetweenPolls, TakesPoll, figure_in, pending_end, pending_held, pending_in, pending_said}
pub use Rattle.mscp_ported.specs.Polls.{poll_brings, polls_bring}
pub use Rattle.mscp_ported.specs.Rings.{slot_place, slots_in, word_place}
pub use Rattle.mscp_ported.specs.Soon.{AreGiven, HasRoom, HasToTell, HaveToTell, IsGiven, acts}
pub use Rattle.mscp_ported.specs.Talk.{AsksAlways, Due, Idle, Looks, Marks, Message, Opened, Packet, Read, Slot, Taken, Talk, Turn, Wish, Written, address_in, answered, at_step, given, given_turn, interrupts, is_dead, read_by, read_turn, side_at, silence, since, stepped, takes, talk_after, talk_by, talk_of, wish, written}
pub use Rattle.mscp_ported.specs.Told.{AreAccepted, Said, StandInOrder, TellAll, Tells, accepted, accepted_by, accepted_text, accepts, connection_told, credits_in, left_after, message_slot, message_text, packet_slot, said, said_in}
pub use Rattle.mscp_ported.specs.Transfers.{Counts, StandsFor, asked, comes, done_by, is_done, is_moving, is_queued_text, is_step_of, moved, transfers, wanted}
pub use Rattle.mscp_queue.proofs.Lists.{every_append, every_kept, every_weaker}
pub use Rattle.mscp_queue.proofs.Named.{is_same, same_is}
pub use Rattle.mscp_queue.proofs.Placed.{find_cases, find_first, find_none, found_is, position_first, position_none}
pub use Rattle.mscp_queue.specs.Drives.{drive_of}
pub use Rattle.mscp_queue.specs.Figures.{figure_at_place, figure_of_name}
pub use Rattle.mscp_queue.specs.Lines.{Line}
pub use Rattle.mscp_queue.specs.Names.{name_on, same_connection, same_name}
pub use Rattle.mscp_queue.specs.Orders.{endcode, order_weight}
pub use Rattle.mscp_queue.specs.Outcomes.{block_touched, goes_on, good_status, is_good_block, moved_body, outcome_at, outcome_body, outcome_status, touches}
pub use Rattle.mscp_queue.specs.Records.{Record, aborted_record, advanced, drive_at, fresh_record, has_name, left_of, name_of, no_record, passed_by, record_at, remains, step_charge, without}
pub use Rattle.mscp_queue.specs.Serving.{end_given, is_begun, upcoming_begun, upcoming_of, waiting_after}
pub use Rattle.mscp_queue.specs.declared.drive.Drive.{Drive}
pub use Rattle.mscp_queue.specs.declared.name.Name.{Name}
pub use Rattle.mscp_queue.specs.declared.report.Report.{Report}
pub use Rattle.mscp_queue.specs.declared.upcoming.Upcoming.{Upcoming}
pub use Rattle.mscp_queue.specs.declared.view.Choice.{Choice}
pub use Rattle.mscp_ported.specs.Named.{HasCredit, HasInOrder, IsNamed, IsNamedForData, IsNamedForRings, NamesArea, NamesBuffer, NamesPacket, reads, words}
pub use Rattle.std.proofs.lemmas.Bool.{eqb-false, le-ltb, ltb-false, ltb-true, or_left, or_right}
pub use Rattle.std.proofs.lemmas.Map.Views.{any-filter_same}
pub use Rattle.mscp_queue.specs.declared.report.Report.TheVariants.{Served}
pub use Rattle.mscp_ported.specs.Mounted.{Ends, IsChangeAt, IsMounted, IsRemounted, Mount, flagged, mount_after, offline}
pub use Rattle.mscp_port.specs.declared.volumes.Medium.{Medium}
pub use Rattle.mscp_port.specs.declared.port.watching.NoUnit.{NoUnit}
pub use Rattle.mscp_port.specs.declared.volumes.VolumeFault.{VolumeFault}
pub use Rattle.mscp_queue.proofs.Masked.{eq_false, eq_true}
pub use Rattle.mscp_ported.specs.Loaded.{is_loaded, is_locked}
pub use Rattle.mscp_port.specs.declared.port.Words.{Words}
pub use Rattle.mscp_ported.specs.Places.{AsksFirst, IsPut, IsPutForData, IsPutForRings, PutsBuffer, PutsPacket, read_from, reads_at, with_read}
