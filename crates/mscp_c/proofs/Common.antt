-- What the lemmas of this crate take from elsewhere.
pub use Rattle.std.proofs.Common.{Bool, Err, IfOk, List, None, Ok, Option, Result, Some, [], add-one, ap, append-nil, append_assoc, drop, false, length, map, nat_eq, nat_lt, not, of_z, pos, refl, rules, slice_index_or, subst, suc, sym, take, to_z, true, w32, zero, ℕ, ℤ, ◌&&◌, ◌++◌, ◌+◌, ◌-◌, ◌/◌, ◌<◌, ◌==◌, ◌∙◌, ◌∷◌, ◌≡◌, ◌≤◌}
pub use Rattle.std.proofs.lemmas.Bool.{false_from_ne_true, false≢true}
pub use Rattle.std.proofs.lemmas.List.{length-map}
pub use Rattle.std.specs.Prelude.{IsErr, IsSome, MatchBool, MatchOption, OnErr, filter, if◌then◌else◌, ◌↔◌}
pub use Rattle.arrayvec.specs.ArrayVec.{ArrayVec}
pub use Rattle.mscp_c.specs.Given.{connection_given, first_fault, numbers_rise, rises_above, unit_given, units_fault}
pub use Rattle.mscp_c.specs.HandleCalls.{AnsweredByHandle, AnswersFinish, AnswersHandle, AnswersOf, AnswersSend, AnswersTake, AnswersWhy, HandleCall, HandlesKeepThePromise, Refuses, Tells, TellsAll, TellsBlock, TellsFinished, TellsRefused, TellsSent, TellsStepped, TellsTaken, TellsWhy}
pub use Rattle.mscp_c.specs.Hosted.{message_read, submits_read}
pub use Rattle.mscp_c.specs.PortGiven.{outcome_given}
pub use Rattle.mscp_c.specs.PortHandleCalls.{Begun, Configured, Hardware, KeepsPortPromise, Look, LookAgain, Next, NextMessage, Protect, ReadIp, ReadSa, Resume, State, TellsOutcome, Tick, Volume, VolumeCame, VolumeWent, WasRead, Went, WentBy, Why, WriteIp, WriteSa}
pub use Rattle.mscp_c.specs.PortMade.{port_init_answer, port_init_fault}
pub use Rattle.mscp_c.specs.PortServed.{TellsAnswer, put_code, TellsWanted, TellsWent, TellsWentBy, told_code, volume_code}
pub use Rattle.mscp_c.specs.PortTold.{action_told, next_code, serial_told}
pub use Rattle.mscp_c.specs.Restoring.{policy_named, policy_number, restored_by, saved_by}
pub use Rattle.mscp_c.specs.Saving.{placed_or, restores_unless, room_after, save_code}
pub use Rattle.mscp_c.specs.Served.{TellsFinish, TellsStep}
pub use Rattle.mscp_c.specs.Told.{block_told, figure_in, figure_told, figures_in, flag, holder_told, holders_in, holders_told}
pub use Rattle.mscp_c.specs.declared.outs.ActionOut.{ActionOut}
pub use Rattle.mscp_c.specs.declared.outs.HolderOut.{HolderOut}
pub use Rattle.mscp_c.specs.declared.outs.PacketOut.{PacketOut}
pub use Rattle.mscp_c.specs.declared.outs.ReportOut.{ReportOut}
pub use Rattle.mscp_c.specs.declared.outs.SentOut.{SentOut}
pub use Rattle.mscp_c.specs.declared.port_given.PortInitFault.{PortInitFault}
pub use Rattle.mscp_c.specs.declared.status.TheConstants.{BAD_CONNECTION, BAD_OUTCOME, BAD_STATUS, UNASKED}
pub use Rattle.mscp_c.specs.declared.units.UnitIn.{UnitIn}
pub use Rattle.mscp_controller.proofs.Bridge.Judging.{command_is}
pub use Rattle.mscp_controller.proofs.Bridge.Owning.{owner_kept}
pub use Rattle.mscp_controller.specs.Account.{balance, untaken}
pub use Rattle.mscp_controller.specs.Calls.{AnsweredCalls, AnswersCall, Call, history}
pub use Rattle.mscp_controller.specs.Commands.{connection, name, waiting, waiting_by}
pub use Rattle.mscp_controller.specs.Controllers.{ControllersKeepThePromise}
pub use Rattle.mscp_controller.specs.Figures.{figure_of}
pub use Rattle.mscp_controller.specs.History.{Trace}
pub use Rattle.mscp_controller.specs.Holders.{holders_of}
pub use Rattle.mscp_controller.specs.Holdings.{Holdings, answer_to_message, balance_of, end_taken, fresh, waiting_on}
pub use Rattle.mscp_drive.specs.Shape.{Shape}
pub use Rattle.mscp_drive.specs.UnitList.{IsUnitList, NumbersRise}
pub use Rattle.mscp_drive.specs.declared.units.UnitsFault.{UnitsFault}
pub use Rattle.mscp_drive.specs.declared.units.UnitsFault.TheVariants.{Empty, NotAscending, TooMany}
pub use Rattle.mscp_drive.specs.Both.{of}
pub use Rattle.mscp_drive.specs.Settings.{IsValid, Settings}
pub use Rattle.mscp_drive.specs.declared.block.Block.{Block}
pub use Rattle.mscp_drive.specs.declared.connection.Connection.{Connection}
pub use Rattle.mscp_host.specs.Accounts.{Account}
pub use Rattle.mscp_memory.specs.ControllerHandles.{memory_fault, placed}
pub use Rattle.mscp_memory.specs.Policies.{PolicyPicks}
pub use Rattle.mscp_memory.specs.PortHandles.{Handle, Held, with_held}
pub use Rattle.mscp_memory.specs.Rooms.{HandleOf}
pub use Rattle.mscp_memory.specs.declared.fault.RoomFault.{RoomFault}
pub use Rattle.mscp_memory.specs.declared.policy.Policy.{Policy}
pub use Rattle.mscp_memory.specs.declared.policy.Policy.TheVariants.{Oldest, Sweep}
pub use Rattle.mscp_packet.specs.Commands.{IsCommand, command_of}
pub use Rattle.mscp_packet.specs.declared.command.Command.{Command}
pub use Rattle.mscp_packet.specs.declared.reading.PacketFault.{PacketFault}
pub use Rattle.mscp_port.proofs.Comes.{number_told}
pub use Rattle.mscp_port.specs.Calls.{Goes, GoesBy, Hears, Wants}
pub use Rattle.mscp_port.specs.Watching.{Changes, PutsIn}
pub use Rattle.mscp_port.specs.Histories.{Answered, Becomes}
pub use Rattle.mscp_port.specs.declared.action.Action.{Action}
pub use Rattle.mscp_port.specs.declared.action.Outcome.{Outcome}
pub use Rattle.mscp_port.specs.declared.action.Unasked.{Unasked}
pub use Rattle.mscp_port.specs.Serials.{is_of_serial}
pub use Rattle.mscp_port.specs.declared.port.restoring.RestoreFault.{RestoreFault as PortFault}
pub use Rattle.mscp_queue.proofs.Placed.{filter_map_of}
pub use Rattle.mscp_queue.specs.Drives.{is_online_in}
pub use Rattle.mscp_queue.specs.Figures.{figure_of_name}
pub use Rattle.mscp_queue.specs.Lines.{Line}
pub use Rattle.mscp_queue.specs.Names.{name_on, same_connection}
pub use Rattle.mscp_queue.specs.Records.{Record, name_of}
pub use Rattle.mscp_queue.specs.Why.{holders_of_name}
pub use Rattle.mscp_queue.specs.declared.drive.Drive.{Drive}
pub use Rattle.mscp_queue.specs.declared.name.Name.{Name}
pub use Rattle.mscp_queue.specs.declared.view.Choice.{Choice}
pub use Rattle.mscp_queue.specs.declared.why.Holder.{Holder}
pub use Rattle.mscp_saved.specs.Read.{held_in}
pub use Rattle.mscp_saved.specs.Restored.{restored, unless}
pub use Rattle.mscp_saved.specs.Saved.{saved_bytes}
pub use Rattle.mscp_saved.specs.declared.fault.RestoreFault.{RestoreFault}
