-- What the lemmas of this crate take from elsewhere.
pub use Rattle.std.proofs.Common.{All, Bool, IsSomeAnd, List, None, Option, Some, [], ap, append_assoc, arith, cond, drop, false, filter, inl, inr, length, map, nat_eq, not, refl, set, subst, suc, sym, take, true, zero, ℕ, ⊎_elim, ◌++◌, ◌+◌, ◌-◌, ◌<◌, ◌^◌, ◌∙◌, ◌∷◌, ◌≡◌, ◌≢◌, ◌≤◌, ◌⊎◌}
pub use Rattle.std.proofs.lemmas.Bool.{le-leb}
pub use Rattle.std.proofs.lemmas.List.{append-nil, get_or_append_left, length-append, take-append-le}
pub use Rattle.std.proofs.lemmas.List.Elements.{All-from_recursion, filter-append}
pub use Rattle.std.proofs.lemmas.List.Sums.{fold_push}
pub use Rattle.std.proofs.lemmas.Option.{none-some, same_Some}
pub use Rattle.std.specs.List.{AllByRecursion, list_all, list_any, position}
pub use Rattle.std.specs.Prelude.{Err, Ok, Result, find, flat_map, fold, if◌then◌else◌, is_some, nat_le, nat_lt, option_map, option_to_list, replicate, slice_get, slice_index, slice_index_or, unwrap_or, ◌%◌, ◌&&◌, ◌/◌, ◌==◌, ◌||◌}
pub use Rattle.arrayvec.specs.ArrayVec.{ArrayVec}
pub use Rattle.byteorder.specs.Endian.{little_bytes}
pub use Rattle.mscp_controller.proofs.Basics.{queued_open}
pub use Rattle.mscp_controller.specs.Arrival.{fault_of, is_immediate, is_queued, order_fault, refusal}
pub use Rattle.mscp_controller.specs.Calls.{AnsweredCalls, Call as Made, history}
pub use Rattle.mscp_controller.specs.Controllers.{ControllersKeepThePromise, KeepsPromise, drive_now}
pub use Rattle.mscp_controller.specs.Holdings.{Holdings, after_message, answered_end, balance_of, begun_step, figure_polled, fresh, held_unless, numbers, numbers_ended, outstanding_of, record_aborted, unaborted, waiting_on}
pub use Rattle.mscp_controller.specs.Outcomes.{answer_status, own_end, own_end_with}
pub use Rattle.mscp_controller.specs.declared.entry.SendFault.{SendFault}
pub use Rattle.mscp_drive.specs.Both.{of}
pub use Rattle.mscp_drive.specs.Extent.{blocks}
pub use Rattle.mscp_drive.specs.Settings.{IsValid, Settings}
pub use Rattle.mscp_drive.specs.Shape.{Shape, one_block}
pub use Rattle.mscp_drive.specs.UnitList.{unit_found}
pub use Rattle.mscp_drive.specs.declared.block.Block.{Block}
pub use Rattle.mscp_drive.specs.declared.connection.Connection.{Connection}
pub use Rattle.mscp_drive.specs.declared.connection.Connection.TheVariants.{First, Second}
pub use Rattle.mscp_logged.specs.Logged.{end_of, ends_in, is_foreign, logged, message_of, messages_by, seen_by}
pub use Rattle.mscp_logged.specs.Rules.{HostIsRight, IsFaultTold, Keeps, TellsFaults, is_message, is_of_drives, is_of_polls}
pub use Rattle.mscp_packet.proofs.Numbers.{two}
unfoldable pub use Rattle.mscp_packet.specs.Commands.{command_of}
pub use Rattle.mscp_packet.specs.Ends.{IsOfKind, end_bytes, end_length, kind_of_body, kind_of_code, least_end}
pub use Rattle.mscp_packet.specs.Number.{num}
pub use Rattle.mscp_packet.specs.Opcodes.{opcode_of}
pub use Rattle.mscp_packet.specs.declared.command.Command.{Command}
pub use Rattle.mscp_packet.specs.declared.command.MoveKind.{MoveKind}
pub use Rattle.mscp_packet.specs.declared.command.Order.{Order}
pub use Rattle.mscp_packet.specs.declared.end.BodyKind.{BodyKind}
pub use Rattle.mscp_packet.specs.declared.end.End.{End}
pub use Rattle.mscp_packet.specs.declared.end.EndBody.{EndBody}
pub use Rattle.mscp_port.proofs.Common.{and_parts, cases_eq, cases_lt, drop_more, eq-eqb, eqb-true, false≢true, get_or-set_other, get_or-set_same, get_or_past, length-set, or_left, or_parts, or_right, take-append-drop}
pub use Rattle.mscp_ported.proofs.Kept.{apart_numbers, is_numbered}
pub use Rattle.mscp_ported.proofs.Loads.{looks_or_not}
pub use Rattle.mscp_ported.proofs.Said.{none_or_some}
pub use Rattle.mscp_port.specs.Blocks.{block_told, faulted, kept_of, move_of, move_task, moved_by, part_task, part_with}
pub use Rattle.mscp_port.specs.Buffers.{is_of}
pub use Rattle.mscp_port.specs.Calls.{Dies, Goes, Hears, IsMadeOf, Wants}
pub use Rattle.mscp_port.specs.Decided.{end_decided, found_decided, status_after, status_told, unit_state}
pub use Rattle.mscp_ported.specs.Departures.{begins, leaves}
pub use Rattle.mscp_ported.specs.Fair.{TellsStep}
pub use Rattle.mscp_port.specs.Formalities.{code_told, ends_formality, formal_status, is_formality}
unfoldable pub use Rattle.mscp_packet.specs.Opcodes.{port_answers}
pub use Rattle.mscp_port.specs.Histories.{Answered, Becomes, Call, LookAgain, Next, Picking, Protect, PutAside, ReadIp, Tick, VolumeCame, VolumeWent, WasRead, Went, WriteIp, WriteSa}
pub use Rattle.mscp_port.specs.Leaving.{end_told, end_with_body, head, told_end}
pub use Rattle.mscp_port.specs.Messages.{asks_for_next, handed, next_unit, own_end_of}
unfoldable pub use Rattle.mscp_packet.specs.Opcodes.{is_transfer_opcode}
pub use Rattle.mscp_port.specs.Moved.{block_begun, block_served, known_task, part_at, part_served, volumes_after}
pub use Rattle.mscp_port.specs.Outgoings.{AnswersItself, IsNews, TakesEnd, news_place}
pub use Rattle.mscp_port.specs.Packets.{end_kind}
pub use Rattle.mscp_port.specs.Ports.{IsAsNew}
pub use Rattle.mscp_port.specs.Volumes.{no_volume, place_in, volume_at, volume_found, volume_heeded, volume_in_place, volumes_with}
pub use Rattle.mscp_port.specs.declared.action.Action.{Action}
pub use Rattle.mscp_port.specs.declared.action.Outcome.{Outcome}
pub use Rattle.mscp_port.specs.declared.buffers.Buffer.{Buffer}
pub use Rattle.mscp_port.specs.declared.decided.Decided.{Decided}
pub use Rattle.mscp_port.specs.declared.hardware.Hardware.{Hardware}
pub use Rattle.mscp_port.specs.declared.port.Outgoing.{Outgoing}
pub use Rattle.mscp_port.specs.declared.port.OutgoingKind.{OutgoingKind}
pub use Rattle.mscp_port.specs.declared.port.Port.{Port}
pub use Rattle.mscp_port.specs.declared.slot.Descriptor.{Descriptor}
pub use Rattle.mscp_port.specs.declared.stage.Stage.{Stage}
pub use Rattle.mscp_port.specs.declared.task.Task.{Task}
pub use Rattle.mscp_port.specs.declared.verdict.Verdict.{Verdict}
pub use Rattle.mscp_port.specs.declared.volumes.Volume.{Volume}
pub use Rattle.mscp_ported.proofs.Answering.{own_so}
pub use Rattle.mscp_ported.proofs.Awaiting.{IsNoReset, Kept}
pub use Rattle.mscp_ported.proofs.Awaits.{end_named, its_own, no_other, no_such, served_found, served_own}
pub use Rattle.mscp_ported.proofs.Behind.{aborts_behind, any_more, is_abort}
pub use Rattle.mscp_ported.proofs.Buffered.{FitsBuffer}
pub use Rattle.mscp_ported.proofs.ByOpcode.{fitting}
pub use Rattle.mscp_ported.proofs.Codes.{answered_code, answered_unit, handed_coded}
pub use Rattle.mscp_ported.proofs.Coming.{brought_for, ends_of, few_ends}
pub use Rattle.mscp_ported.proofs.Dealing.{left_awaited, named, passive_taken, whole}
pub use Rattle.mscp_ported.proofs.Decided.{Whole, kept as whole_kept, passive_said}
pub use Rattle.mscp_ported.proofs.Ended.{bytes_small, kept, no_ends, nothing_two}
pub use Rattle.mscp_ported.proofs.Ending.{left_with, zipped}
pub use Rattle.mscp_ported.proofs.Fitted.{Fitting}
pub use Rattle.mscp_ported.proofs.Fitting.{IsPlainEnd, answer_told, bare_same, decided_code, decided_status, given_plain as given_of, kept_one}
pub use Rattle.mscp_ported.proofs.Followed.{IsFollowed, IsReply, IsStepped}
pub use Rattle.mscp_ported.proofs.Following.{asked_before}
pub use Rattle.mscp_ported.proofs.Formal.{formal_queued}
pub use Rattle.mscp_ported.proofs.Growing.{begun_one}
pub use Rattle.mscp_ported.proofs.Itself.{IsPast, own_cases, own_coded, own_formal, own_number, own_refused, own_whole, since_alive}
pub use Rattle.mscp_ported.proofs.Keeping.{end_number}
pub use Rattle.mscp_ported.proofs.Mounting.{Ended, ended_so, one_ended}
pub use Rattle.mscp_ported.proofs.Moving.{IsBegunStep, steps}
pub use Rattle.mscp_ported.proofs.Numbered.{At, IsNothing, ends_numbered, first_of_one, none_beside, none_of_it, none_stays, other_number, some_none}
pub use Rattle.mscp_ported.proofs.Numbering.{ended_none, served_waits, still_none}
pub use Rattle.mscp_ported.proofs.Opcodes.{IsSaid, said_fits}
pub use Rattle.mscp_ported.proofs.Origins.{IsAborted, IsAnswer, IsMade, IsOf, IsServed, IsText, IsToldSo, told_same}
pub use Rattle.mscp_ported.proofs.Promised.{knows}
pub use Rattle.mscp_ported.proofs.Reading.{Answers, Gets, Queues, and_false, answer_decided, answer_ends, read_is}
pub use Rattle.mscp_ported.proofs.Silent.{none_waits}
pub use Rattle.mscp_ported.proofs.Sole.{other_one, served_goes_on, served_itself, served_other, sole_comes, sole_left, this_one}
pub use Rattle.mscp_ported.proofs.Staying.{IsPassive, Stays, passive_stays}
pub use Rattle.mscp_ported.proofs.Stepping.{IsHow, Serves, drive_in, end_served, serves_grow, went_is}
pub use Rattle.mscp_ported.proofs.Tables.{decided_by}
pub use Rattle.mscp_ported.proofs.Taking.{begun_end, says_is}
pub use Rattle.mscp_ported.proofs.Transferring.{begun_record}
pub use Rattle.mscp_ported.proofs.Units.{IsUnitIn, small_unit}
pub use Rattle.mscp_ported.proofs.Whole.{code_of}
pub use Rattle.mscp_ported.specs.Answers.{Own, asks_next, own_answer, own_text, volume_named}
pub use Rattle.mscp_ported.specs.Awaited.{Deals, IsAnswering, IsEnding, IsTaking, IsWhole, PortsEndWhatTheyTook, ReadsBytes, awaited, has_number, taken_by, without_ends}
pub use Rattle.mscp_ported.specs.Ends.{Leaving, came, end_said, ends_begun, ends_said, ends_said_by}
pub use Rattle.mscp_ported.specs.Figures.{PortsLowerFigures, figure_on}
pub use Rattle.mscp_ported.specs.Fitting.{Fits, IsCodeFor, IsUnitFor}
pub use Rattle.mscp_ported.specs.Passing.{HoldsAwaited, HoldsEnd, IsServedSince, PassesOn, Pending, PortsHoldWhatIsAwaited, PortsPassEndsOn, ServesBetweenPolls, TakesPoll, pending_end, pending_held, pending_in, pending_said}
pub use Rattle.mscp_ported.specs.Talk.{AsksAlways, is_dead, since}
pub use Rattle.mscp_ported.specs.Told.{PortsTellInOrder, Said, accepted_by, held, said, said_in}
pub use Rattle.mscp_queue.proofs.Lists.{every_append, every_parts}
pub use Rattle.mscp_queue.proofs.Named.{is_same}
pub use Rattle.mscp_queue.proofs.Placed.{Found, each_push, find_cases, find_first, find_none, found_is, position_first, position_none}
pub use Rattle.mscp_queue.specs.Drives.{drive_of, fresh_drive, replaced}
pub use Rattle.mscp_queue.specs.Names.{name_on}
pub use Rattle.mscp_queue.specs.Orders.{endcode, is_move, order_weight}
pub use Rattle.mscp_queue.specs.Outcomes.{bad_status, block_touched, goes_on, is_good_block, is_success, online_body, outcome_at, outcome_body, outcome_status, touches}
pub use Rattle.mscp_queue.specs.Records.{Record, aborted_record, advanced, fresh_record, has_name, is_in_service, left_of, name_of, passed_by, record_at, remains, step_charge}
pub use Rattle.mscp_queue.specs.Serving.{IsServable, drive_after, end_given, state_left, touched, upcoming_of, waiting_after}
pub use Rattle.mscp_queue.specs.Views.{fences, is_affordable}
pub use Rattle.mscp_queue.specs.declared.drive.Drive.{Drive}
pub use Rattle.mscp_queue.specs.declared.name.Name.{Name}
pub use Rattle.mscp_queue.specs.declared.upcoming.Upcoming.{Upcoming}
pub use Rattle.mscp_shown.proofs.Fitting.{IsSmallCommand, aborted_fit, ended_small, outcome_fit, own_fit, small_command}
pub use Rattle.mscp_shown.proofs.Identity.{BodyControls}
pub use Rattle.mscp_shown.proofs.Keeping.{keeps}
pub use Rattle.mscp_shown.proofs.Reading.{BodyReads, IsBodyFit}
pub use Rattle.mscp_shown.proofs.Saying.{IsLong, Says, Says as AsksFor, sent_long, sent_says}
pub use Rattle.mscp_shown.proofs.Suited.{IsFine, Suits}
pub use Rattle.mscp_shown.proofs.Suiting.{Ends, IsFault, aborted_ends, outcome_fine, outcome_suits, own_ends, refused_apart, valid_order}
pub use Rattle.mscp_shown.specs.Keeping.{AreBytes}
pub use Rattle.mscp_wire.specs.Wire.{History, IsRight, aborts, after, after_end, after_other, after_own, agrees, answer_by, asked_about, asked_by, asking, asks_oldest, brings, broken, broken_at, broken_by, broken_end, command_at, controller, controller_after, controller_in, count_of, count_on, describes, fits, four_in, has_abort, has_code, has_count, has_endcode, has_figure, has_status, hears, is_about, is_about_another, is_apart, is_it, is_known, is_known_unit, is_late, is_long, is_moved, is_named, is_new, is_of_unit, is_plain, is_polled, is_refused, is_required, is_same_unit, is_settled_at, is_single, is_turning, is_unsure, keeps_back, learns, left, may_ask, may_be, may_tell, moment_at, names_unit, other_of, outstanding, passes_none, place_of, points_into, polled_by, polls, same_connection, says_away, says_online, seen_of, sent_by, settles, standing_after, standing_first, status_code, succeeds, suits_state, tells, tells_unit, timed, timeout, told, told_after, told_after_end, told_after_message, told_nothing, turned, unit_before, unless, was_online, went}
pub use Rattle.mscp_wire.specs.declared.answer.Answer.{Answer}
pub use Rattle.mscp_wire.specs.declared.identity.Identity.{Identity}
pub use Rattle.mscp_wire.specs.declared.moment.Moment.{Moment}
pub use Rattle.mscp_wire.specs.declared.rule.Rule.{Rule}
pub use Rattle.mscp_wire.specs.declared.sent.Asked.{Asked}
pub use Rattle.mscp_wire.specs.declared.sent.Asked.TheVariants.{Gone, Nothing, Oldest}
pub use Rattle.mscp_wire.specs.declared.sent.Sent.{Sent}
pub use Rattle.mscp_wire.specs.declared.told.Seen.{Seen}
pub use Rattle.mscp_wire.specs.declared.told.State.{State}
pub use Rattle.mscp_wire.specs.declared.told.State.TheVariants.{Away, Open, Shared}
pub use Rattle.mscp_wire.specs.declared.told.Told.{Told}
