-- What the lemmas of this crate take from elsewhere.
pub use Rattle.std.proofs.Common.{Bool, Err, List, Ok, [], ap, arith, cond, drop, false, get_or, inl, inr, length, not, refl, rules, subst, suc, sym, take, true, zero, ℕ, ⊎_elim, ◌&&◌, ◌*◌, ◌++◌, ◌+◌, ◌-◌, ◌<◌, ◌==◌, ◌^◌, ◌∙◌, ◌∷◌, ◌≡◌, ◌≢◌, ◌≤◌, ◌⊎◌}
pub use Rattle.std.proofs.lemmas.Bool.{and_from, and_parts, cases_lt, lt-ltb}
pub use Rattle.std.proofs.lemmas.Bool.Decides.{nat_tests}
pub use Rattle.std.proofs.lemmas.Fmt.{length-decimal-le}
pub use Rattle.std.proofs.lemmas.Grind.{common_steps}
pub use Rattle.std.proofs.lemmas.Int.Digits.{digits_value_more}
pub use Rattle.std.proofs.lemmas.List.{append-nil, append_assoc, length-append, length-drop, length-take-le, take-append-drop, take_all}
pub use Rattle.std.proofs.lemmas.List.Folds.{list_all_more}
pub use Rattle.std.proofs.lemmas.List.Sums.{position_or_len_is}
pub use Rattle.std.proofs.lemmas.Result.{err_from_is_err_and}
pub use Rattle.std.proofs.lemmas.Str.{digit_value_digit}
pub use Rattle.std.specs.Fmt.{decimal}
pub use Rattle.std.specs.List.{filter, list_all, position_or_len, slice_split}
pub use Rattle.std.specs.Prelude.{None, Option, Result, Some, codes, if◌then◌else◌, nat_le, nat_lt, position, replicate, unwrap_or}
pub use Rattle.std.specs.Str.Lines.{strip_carriage_return}
pub use Rattle.std.specs.Str.Parse.{digits_value}
pub use Rattle.memchr.specs.Find.{IsFirstByte, is_byte}
pub use Rattle.mscp_drive.specs.Shape.{Shape}
pub use Rattle.mscp_drive.specs.UnitList.{IsUnitList, NumbersRise}
pub use Rattle.mscp_drive.specs.Both.{Both}
pub use Rattle.mscp_drive.specs.Settings.{Settings}
pub use Rattle.mscp_drive.specs.declared.block.Block.TheVariants.{Good}
pub use Rattle.mscp_drive.specs.declared.connection.Connection.TheVariants.{First}
pub use Rattle.mscp_drive.specs.declared.event.Event.{Event}
pub use Rattle.mscp_packet.specs.Steps.{Gives, ◌>>=◌}
pub use Rattle.mscp_packet.specs.declared.command.MoveKind.{MoveKind}
pub use Rattle.mscp_packet.specs.declared.command.Order.{Order}
pub use Rattle.mscp_reader.specs.Grammar.{Begins, HasCredits, HasGone, HasLongest, HasNoGo, HasTimeout, HasUnits, IsAtFault, IsFault, IsInHeader, Place, Reads, asked_after, credits, first_units, has_room, limit, limits, next_unless_skipped, said_at, unit_or_go}
unfoldable pub use Rattle.mscp_reader.specs.Grammar.{after_line, after_lines, next}
pub use Rattle.mscp_reader.specs.Lexical.{is_comment, is_digit, is_numeral, is_printed, is_some_word, narrow, steps_in, wide, without_empty_last}
unfoldable pub use Rattle.mscp_reader.specs.Lexical.{lines, number, said, words}
pub use Rattle.mscp_reader.specs.Outcome.{Heads, Leads, Sets, Tells, all_read, asked_next, both_of, budget_of, gone_or, in_line, limited, rest_headed, rest_outcome, script_outcome, settled}
unfoldable pub use Rattle.mscp_reader.specs.Outcome.{headed, headed_on, lines_outcome}
pub use Rattle.mscp_reader.specs.Plain.{Asks, Cuts, CutsWord, Ends, IsApart, IsNumeral, IsPlain, is_letter}
pub use Rattle.mscp_reader.specs.Requests.{IsValidForm, five, four, sent, two}
unfoldable pub use Rattle.mscp_reader.specs.Requests.{asked, event_form, form_of, message_form, plain_form, request}
pub use Rattle.mscp_reader.specs.declared.events.Form.{Form}
pub use Rattle.mscp_reader.specs.declared.fault.Cause.{Cause}
pub use Rattle.mscp_reader.specs.declared.fault.ReadFault.{ReadFault}
pub use Rattle.mscp_reader.specs.declared.fault.ScriptFault.{ScriptFault}
pub use Rattle.mscp_reader.specs.declared.header.Limit.{Limit}
