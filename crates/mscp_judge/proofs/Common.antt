-- What the lemmas of this crate take from elsewhere.
pub use Rattle.std.proofs.Common.{Bool, Err, List, Ok, [], ap, append-nil, append_assoc, arith, cond, drop, drop-drop, false, get_or, inl, inr, length, length-append, length-drop, map, not, refl, replicate, subst, suc, sym, take, true, zero, ℕ, ⊎_elim, ◌%◌, ◌*◌, ◌++◌, ◌+◌, ◌-◌, ◌/◌, ◌<◌, ◌==◌, ◌^◌, ◌||◌, ◌∙◌, ◌∷◌, ◌≡◌, ◌≢◌, ◌≤◌, ◌⊎◌}
pub use Rattle.std.proofs.Math.Seq.{drop-append_seam, get_or-append_seam, take-append_seam}
pub use Rattle.std.proofs.lemmas.Bool.{and_from, and_parts, cases_Bool, cases_lt, eq-eqb, eqb-true, false≢true, le-leb, leb-true, lt-ltb, ltb-true, true≢false}
pub use Rattle.std.proofs.lemmas.Bool.Decides.{Decides-eqb, nat_tests}
pub use Rattle.std.proofs.lemmas.Fmt.{decimal_is_IsNumeral}
pub use Rattle.std.proofs.lemmas.Grind.{common_steps, flat_map-append}
pub use Rattle.std.proofs.lemmas.List.{append_cancel_left, append_cancel_right, get_or-map, length-map, length-replicate, length-take-le, map-append, take-append-le, take_all}
pub use Rattle.std.proofs.lemmas.List.Elements.{All-contains, All-contains_itself, All-from_recursion, filter-append, filter_more, recursion_from_All}
pub use Rattle.std.proofs.lemmas.List.Quantifiers.{position-Some}
pub use Rattle.std.proofs.lemmas.List.Sums.{sum_by_push}
pub use Rattle.std.proofs.lemmas.Result.{err_from_is_err_and}
pub use Rattle.std.proofs.lemmas.Slice.Eq.{bytes_eq-Decides, starts_is}
pub use Rattle.std.proofs.lemmas.Str.Parse.{digit_from_value}
pub use Rattle.std.specs.Char.{digit_value}
pub use Rattle.std.specs.Fmt.{decimal, digits_onto}
unfoldable pub use Rattle.std.specs.Fmt.{digits}
pub use Rattle.std.specs.Int.{byte_at, bytes_high_first, bytes_low_first, to_be_bytes, w16}
pub use Rattle.std.specs.List.{AllByRecursion, flat_map, list_all}
pub use Rattle.std.specs.Option.{option_map}
pub use Rattle.std.specs.Prelude.{All, Contains, IfOk, IfSome, None, OnOk, Option, Result, Some, codes, filter, find, if◌then◌else◌, nat_eq, nat_lt, position, slice_get, slice_index, slice_index_or, ◌&&◌, ◌↔◌}
pub use Rattle.std.specs.Result.{result_ok}
pub use Rattle.std.specs.Str.{bytes_eq}
pub use Rattle.std.specs.Str.Parse.{AllDigits}
pub use Rattle.arrayvec.specs.ArrayVec.{ArrayVec}
pub use Rattle.byteorder.specs.Endian.{little_bytes}
pub use Rattle.hex.specs.Hex.{encode_lower, lower_digits}
unfoldable pub use Rattle.hex.specs.Hex.{encode_with}
pub use Rattle.mscp_controller.proofs.Bridge.Following.{none_held, turns}
pub use Rattle.mscp_controller.proofs.Bridge.Held.{figure_of_held, figures_held, held_of}
pub use Rattle.mscp_controller.proofs.Bridge.Holders.{holders_of_held, startable_unheld}
pub use Rattle.mscp_controller.proofs.Bridge.Judging.{command_is}
pub use Rattle.mscp_controller.proofs.Bridge.Legals.{by_serving, legal_more}
pub use Rattle.mscp_controller.proofs.Bridge.Owning.{owner_kept, unbegun_kept}
pub use Rattle.mscp_controller.proofs.Bridge.Sending.{Agrees}
pub use Rattle.mscp_controller.proofs.Bridge.Servable.{all_of, waits_at}
pub use Rattle.mscp_controller.proofs.Bridge.Stepped.{Turns}
pub use Rattle.mscp_controller.proofs.Bridge.Viewed.{record_held, waiting_at}
pub use Rattle.mscp_controller.proofs.Promise.Alone.{oldest_starts}
pub use Rattle.mscp_controller.proofs.Promise.Among.{alone, one_waits}
pub use Rattle.mscp_controller.proofs.Promise.Apart.{name_last}
pub use Rattle.mscp_controller.proofs.Promise.Arrivals.{arrives, queued_right, taken_when}
pub use Rattle.mscp_controller.proofs.Promise.Falling.{falling}
pub use Rattle.mscp_controller.proofs.Promise.Falls.{every_split}
pub use Rattle.mscp_controller.proofs.Promise.Grows.{is_waiting_last, waiting_more}
pub use Rattle.mscp_controller.proofs.Promise.Known.{Known}
pub use Rattle.mscp_controller.proofs.Promise.Progress.{progress, waits_in}
pub use Rattle.mscp_controller.proofs.Promise.Starts.{startable_of, startable_parts}
pub use Rattle.mscp_controller.proofs.Promise.Steady.{Single, idle_others}
pub use Rattle.mscp_controller.proofs.Promise.Waits.{cut, cut_of, waiting_waits, waits_below}
pub use Rattle.mscp_controller.specs.Arrival.{is_queued}
pub use Rattle.mscp_controller.specs.Commands.{connection, done, ends_in, in_service, is_idle, is_waiting, name, reference, service_name, unit}
unfoldable pub use Rattle.mscp_controller.specs.Commands.{waiting}
pub use Rattle.mscp_controller.specs.Credits.{arrival}
pub use Rattle.mscp_controller.specs.Figures.{figure, figure_found}
unfoldable pub use Rattle.mscp_controller.specs.Figures.{figure_of}
pub use Rattle.mscp_controller.specs.Headline.{EachWaiting}
pub use Rattle.mscp_controller.specs.History.{Moment, Service, Trace, WhenStarted, is_step, queues, service_in}
unfoldable pub use Rattle.mscp_controller.specs.History.{moment}
pub use Rattle.mscp_controller.specs.Holders.{holders, holders_found}
unfoldable pub use Rattle.mscp_controller.specs.Holders.{holders_of}
pub use Rattle.mscp_controller.specs.Holdings.{Answers, Holdings, Steps, fresh}
pub use Rattle.mscp_controller.specs.Legal.{IsLegal, IsPick, IsRight, IsServed, block_of, choice, end_of, seek_to, shown, view}
pub use Rattle.mscp_controller.specs.Passing.{is_startable, passed}
unfoldable pub use Rattle.mscp_controller.specs.Passing.{startable}
pub use Rattle.mscp_controller.specs.declared.entry.Entry.{Entry}
pub use Rattle.mscp_controller.specs.declared.entry.SendFault.{SendFault}
pub use Rattle.mscp_controller.specs.declared.entry.Sent.{Sent}
pub use Rattle.mscp_drive.specs.Both.{Both, of}
pub use Rattle.mscp_drive.specs.Settings.{IsValid, Settings, bound}
pub use Rattle.mscp_drive.specs.declared.block.Block.{Block}
pub use Rattle.mscp_drive.specs.declared.connection.Connection.{Connection}
pub use Rattle.mscp_drive.specs.declared.connection.Connection.TheVariants.{First, Second}
pub use Rattle.mscp_drive.specs.declared.event.Event.{Event}
pub use Rattle.mscp_drive.specs.declared.memory.OutOfMemory.{OutOfMemory}
pub use Rattle.mscp_host.specs.Accounts.{Account}
pub use Rattle.mscp_judge.specs.Heard.{FailsLine, Heard, IsHeard, after_answer, after_request, command_in, heard_behind, heard_log, hosts_after_all, sends_on, silence}
pub use Rattle.mscp_judge.specs.Judged.{Breaks, HasLegalTrace, Hears, IsAhead, IsBroken, IsLegalVerdict, IsTold, Judges, JudgesBehind, JudgesLog, Passed, Tells}
pub use Rattle.mscp_judge.specs.Logs.{AreAnswers, Asked, IsAnswerLine, IsLegalLog, IsRightThere, Log, Mark, MayGoOn, Told, after_words, answers_in, asking, events_in, is_answer, is_answer_word, is_second_answer, nothing, telling, told, transcript, whole, written}
unfoldable pub use Rattle.mscp_judge.specs.Logs.{after_line, after_lines}
pub use Rattle.mscp_judge.specs.Naming.{IsNamed, choice_at, is_wanted, numbered, wanting}
unfoldable pub use Rattle.mscp_judge.specs.Naming.{name_in, served}
pub use Rattle.mscp_judge.specs.Rights.{HasStepped, IsOpen, IsRightNext, IsServiceLine, IsStepLine, report_in}
pub use Rattle.mscp_judge.specs.Rules.{IsRule, IsStepRule, answer_rule, due_rule, is_service}
pub use Rattle.mscp_judge.specs.Standing.{BeginsWith, Came, Counted, EndsLine, HasShortLine, Held, IsFirstLine, IsHeld, IsNamedAhead, IsSettled, Led, Stands, Stood, due, marked, owed, run_of, totals_of, with_picker}
pub use Rattle.mscp_judge.specs.Starts.{is_open, named, named_in, names, starts_in}
pub use Rattle.mscp_judge.specs.Totals.{Adds, AreTotals, IsLarger, IsLargest, figure_queued}
pub use Rattle.mscp_judge.specs.declared.judge.Judge.{Judge}
pub use Rattle.mscp_judge.specs.declared.judging.Verdict.{Verdict}
pub use Rattle.mscp_queue.specs.declared.name.Name.{Name}
pub use Rattle.mscp_judge.specs.declared.naming.Wanted.{Wanted}
pub use Rattle.mscp_judge.specs.declared.rules.Rule.{Rule}
pub use Rattle.mscp_judge.specs.declared.totals.Totals.{Totals}
pub use Rattle.mscp_packet.proofs.Ends.{bytes_span}
pub use Rattle.mscp_packet.specs.Commands.{IsCommand, command_of}
pub use Rattle.mscp_packet.specs.Ends.{HasBody, IsEnd, body_bytes, end_bytes}
pub use Rattle.mscp_packet.specs.Steps.{◌>>=◌}
pub use Rattle.mscp_packet.specs.declared.command.Command.{Command}
pub use Rattle.mscp_packet.specs.declared.end.BodyKind.{BodyKind}
pub use Rattle.mscp_packet.specs.declared.end.End.{End}
pub use Rattle.mscp_packet.specs.declared.end.EndBody.{EndBody}
pub use Rattle.mscp_packet.specs.declared.reading.PacketFault.{PacketFault}
pub use Rattle.mscp_queue.proofs.Lists.{every_append, every_from, every_kept, every_mapped, every_parts, every_weaker, filter_none, filter_on}
pub use Rattle.mscp_queue.proofs.Named.{is_differ, is_same, same_is}
pub use Rattle.mscp_queue.proofs.Placed.{cut_at, filter_map_of, find_cases, find_first, find_none, map_map}
pub use Rattle.mscp_queue.specs.Figures.{figure_of_name}
pub use Rattle.mscp_queue.specs.Names.{name_on, same_name}
pub use Rattle.mscp_queue.specs.Records.{IsServing, Record, record_at}
pub use Rattle.mscp_queue.specs.Views.{choice_name}
pub use Rattle.mscp_queue.specs.Why.{holders_of_name, is_nobody}
pub use Rattle.mscp_queue.specs.declared.name.Name.{Name}
pub use Rattle.mscp_queue.specs.declared.report.Report.{Report}
pub use Rattle.mscp_queue.specs.declared.report.Report.TheVariants.{Idle, Served}
pub use Rattle.mscp_queue.specs.declared.view.Choice.{Choice}
pub use Rattle.mscp_queue.specs.declared.why.Holder.{Holder}
pub use Rattle.mscp_reader.proofs.Digits.{few_digits}
pub use Rattle.mscp_reader.proofs.Headers.{headed_gone}
pub use Rattle.mscp_reader.proofs.Outcomes.{from_ok}
pub use Rattle.mscp_reader.proofs.PlainLines.{AllSolid, plain_lines, said_plain, solid_digits, word_front}
pub use Rattle.mscp_reader.specs.Grammar.{Begins, HasGone, Place, asked_after, said_at}
pub use Rattle.mscp_reader.specs.Lexical.{is_comment, is_digit, is_printed, lines, wide}
unfoldable pub use Rattle.mscp_reader.specs.Lexical.{number, said, words}
pub use Rattle.mscp_reader.specs.Outcome.{Fails, asked_at, asked_next, headed, in_line}
pub use Rattle.mscp_reader.specs.Plain.{IsApart}
pub use Rattle.mscp_reader.specs.Requests.{asked_if, events_of}
unfoldable pub use Rattle.mscp_reader.specs.Requests.{event_form, form_of, message_form, plain_form, request, second_request}
pub use Rattle.mscp_reader.specs.declared.fault.Cause.{Cause}
pub use Rattle.mscp_reader.specs.declared.fault.ReadFault.{ReadFault}
pub use Rattle.mscp_reader.specs.declared.fault.ScriptFault.{ScriptFault}
pub use Rattle.mscp_script.specs.Text.{Reported, aborted_part, block_word, connection_word, ended_part, entry_lines, figure_line, message_line, refusal_word, reported, step_count, step_line, take_line, with_entry}
pub use Rattle.mscp_text.specs.Lines.{line, status_text}
