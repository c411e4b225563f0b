-- What the lemmas of this crate take from elsewhere.
pub use Rattle.std.proofs.Common.{All, Bool, List, None, Option, Some, [], ap, append_assoc, arith, cond, drop, false, filter, inl, inr, length, map, nat_eq, nat_le, nat_lt, not, refl, subst, suc, sym, take, true, zero, ℕ, ◌&&◌, ◌*◌, ◌++◌, ◌+◌, ◌-◌, ◌/◌, ◌<◌, ◌^◌, ◌||◌, ◌∙◌, ◌∷◌, ◌≡◌, ◌≢◌, ◌≤◌, ◌⊎◌}
pub use Rattle.std.proofs.lemmas.Grind.{flat_map-append}
pub use Rattle.std.proofs.lemmas.List.{append-nil, drop-append-le, get_or-take, length-append, length-map, length-take, map-append, take_all}
pub use Rattle.std.proofs.lemmas.List.Elements.{filter-append}
pub use Rattle.std.proofs.lemmas.Option.{none-some, same_Some}
pub use Rattle.std.specs.List.{AllByRecursion, list_any}
pub use Rattle.std.specs.Prelude.{Err, Ok, Result, find, flat_map, slice_get, slice_index, ◌%◌}
pub use Rattle.arrayvec.specs.ArrayVec.{ArrayVec}
pub use Rattle.mscp_controller.specs.Calls.{AnsweredCalls, Call as Made}
pub use Rattle.mscp_controller.specs.Holdings.{Holdings, fresh, outstanding_of}
pub use Rattle.mscp_drive.specs.Both.{of}
pub use Rattle.mscp_drive.specs.Settings.{IsValid, Settings}
pub use Rattle.mscp_drive.specs.declared.connection.Connection.TheVariants.{First}
pub use Rattle.mscp_heard.specs.Deeds.{AreJoined, Called, Deed, Did, HasNumber, HaveNumbers, HearsInOrder, IsCopyOf, IsPacket, IsTextOf, Likeness, ReadsInOrder, calls_in, did, hearings, is_hearing, sent, sent_by}
pub use Rattle.mscp_heard.specs.Hearing.{HearsItsOwn}
pub use Rattle.mscp_host.specs.Accounts.{Account, answered, asks, end_in, has_reference, is_about, is_about_polled, is_code_of, is_immediate, last_told, news_of_figure, news_with, oldest, outstanding_with, poll_of, polled_is_outstanding, refusal, submission_of, submits_unless, told_of, watch_after, with_told, without}
pub use Rattle.mscp_host.specs.Histories.{History, submission_at}
pub use Rattle.mscp_host.specs.Messages.{any_end, bare_end, envelope_in, message_in, sequential_in, typed_in}
pub use Rattle.mscp_host.specs.PortAccounts.{PortAccount, as_read, asked_of, bytes_of, credit_fault, end_says, ended, ends_of, fresh_of_port, granted, heard_of, hears, is_of, is_poll_of, is_too_much, may_be_of, news_said, port_polls, port_submits, submits_unless_faulty, submitted_with, without_by}
pub use Rattle.mscp_host.specs.PortHistories.{Ask, Hear, Other, PortAnswered, PortAnswers, PortHistory, PortMoment, Resume, Submit, asked_at}
pub use Rattle.mscp_host.specs.PortLaw.{PortHostsKeepTheirHistory}
pub use Rattle.mscp_host.specs.declared.asked.Asked.{Asked}
pub use Rattle.mscp_host.specs.declared.envelope.Envelope.{Envelope}
pub use Rattle.mscp_host.specs.declared.heard.Heard.{Heard}
pub use Rattle.mscp_host.specs.declared.message.HearFault.{HearFault}
pub use Rattle.mscp_host.specs.declared.message.Message.{Message}
pub use Rattle.mscp_host.specs.declared.news.HostFault.{HostFault}
pub use Rattle.mscp_host.specs.declared.news.News.{News}
pub use Rattle.mscp_host.specs.declared.news.Poll.{Poll}
pub use Rattle.mscp_host.specs.declared.submission.Submission.{Submission}
pub use Rattle.mscp_host.specs.declared.watch.Watch.{Watch}
pub use Rattle.mscp_packet.proofs.Numbers.{four}
pub use Rattle.mscp_packet.specs.Commands.{command_bytes, opcode_byte}
pub use Rattle.mscp_packet.specs.Ends.{body_at, end_at, end_length, kind_of_code, reading_with}
pub use Rattle.mscp_packet.specs.Number.{num}
pub use Rattle.mscp_packet.specs.declared.command.Command.{Command}
pub use Rattle.mscp_packet.specs.declared.command.Order.{Order}
pub use Rattle.mscp_packet.specs.declared.end.BodyKind.{BodyKind}
pub use Rattle.mscp_packet.specs.declared.end.End.{End}
pub use Rattle.mscp_port.proofs.Common.{eq-eqb, eqb-true, false≢true}
pub use Rattle.mscp_port.specs.Calls.{IsMadeOf}
pub use Rattle.mscp_ported.specs.Departures.{begins}
pub use Rattle.mscp_ported.specs.Fair.{TellsStep}
pub use Rattle.mscp_port.specs.Histories.{Answered, Call, Picking, WasRead, WriteIp}
pub use Rattle.mscp_port.specs.declared.hardware.Hardware.{Hardware}
pub use Rattle.mscp_port.specs.declared.port.Outgoing.{Outgoing}
pub use Rattle.mscp_port.specs.declared.port.OutgoingKind.{OutgoingKind}
pub use Rattle.mscp_port.specs.declared.port.Port.{Port}
pub use Rattle.mscp_ported.proofs.Dealing.{one_of}
pub use Rattle.mscp_ported.proofs.Ended.{bytes_small}
pub use Rattle.mscp_ported.proofs.Itself.{own_coded}
pub use Rattle.mscp_ported.proofs.Numbered.{first_of_one, none_beside, none_of_it, none_stays}
pub use Rattle.mscp_ported.proofs.Sole.{sole_comes}
pub use Rattle.mscp_ported.specs.Answers.{PortsAnswerAsTheyMay, is_for_utilities, kind_answered, own_answer, volume_named}
pub use Rattle.mscp_ported.specs.Awaited.{Deals, IsAnswering, IsTaking, IsWhole, PortsEndWhatTheyTook, ReadsBytes, awaited, bytes_in, has_number, taken_by, without_ends}
pub use Rattle.mscp_ported.specs.Ends.{ends_said_by}
pub use Rattle.mscp_ported.specs.Figures.{PortsLowerFigures, figure_on}
pub use Rattle.mscp_ported.specs.Fitting.{Fits, IsCodeFor, PortsEndByOpcode}
pub use Rattle.mscp_ported.specs.Passing.{HoldsAwaited, IsServedSince, Pending, PortsHoldWhatIsAwaited, PortsPassEndsOn, ServesBetweenPolls, TakesPoll, pending_end, pending_held, pending_in, pending_said}
pub use Rattle.mscp_ported.specs.Talk.{AsksAlways, Opened, Packet, Slot, Talk, is_dead, talk_of}
pub use Rattle.mscp_ported.specs.Told.{AreAccepted, PortsHearInOrder, PortsOpenWhatTheyAccept, PortsTellInOrder, Said, TellAll, Tells, accepted, accepted_by, connection_told, credits_in, held, left_after, said, said as all_said, said_in}
pub use Rattle.mscp_queue.proofs.Lists.{every_append, every_kept, every_parts, every_weaker}
