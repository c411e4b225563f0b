-- What the lemmas of this crate take from elsewhere.
pub use Rattle.std.proofs.Common.{All, Bool, List, None, Option, Some, [], ap, append-nil, append_assoc, arith, cond, drop, false, get_or, inr, length, refl, rules, subst, suc, sym, take, tests, true, zero, ℕ, ◌%◌, ◌*◌, ◌++◌, ◌+◌, ◌-◌, ◌/◌, ◌<◌, ◌^◌, ◌∙◌, ◌∷◌, ◌≡◌, ◌≤◌}
pub use Rattle.std.proofs.lemmas.Bool.{eqb-true, false≢true, ltb-false, ltb-true}
pub use Rattle.std.proofs.lemmas.Iterator.{YieldsList-from_slice}
pub use Rattle.std.proofs.lemmas.Iterator.Consumers.{YieldsList-from_copied}
pub use Rattle.std.proofs.lemmas.Iterator.Search.{find_from_yields_List}
pub use Rattle.std.proofs.lemmas.List.{drop-drop, length-drop, take_all, take_more}
pub use Rattle.std.proofs.lemmas.List.Elements.{All-more}
pub use Rattle.std.specs.Option.{option_map}
pub use Rattle.std.specs.Prelude.{Err, Ok, Result, find, flat_map, if◌then◌else◌, is_some, nat_eq, nat_lt, slice_index}
pub use Rattle.mscp_packet.specs.Commands.{CommandBytesAreMessages, HasRange, IsCommand, IsValidOrder, command_bytes, command_fields, opcode_byte, order_with, written}
unfoldable pub use Rattle.mscp_packet.specs.Commands.{command_of}
pub use Rattle.mscp_packet.specs.Ends.{EndBytesAreMessages, HasBodyRange, IsEnd, IsUnder, body_at, end_at, end_bytes, end_fields, end_length, kind_of_body, kind_of_code, reading_with}
pub use Rattle.mscp_packet.specs.Opcodes.{foreign_of, foreign_row, least, opcode_of, opcodes, row_of}
pub use Rattle.mscp_packet.specs.Parts.{parts_in}
pub use Rattle.mscp_packet.specs.Places.{Field, IsZeroBeside, is_named}
pub use Rattle.mscp_packet.specs.Table.{IsSound}
pub use Rattle.mscp_packet.specs.declared.class.Foreign.{Foreign}
pub use Rattle.mscp_packet.specs.declared.class.Opcode.{Opcode}
pub use Rattle.mscp_packet.specs.declared.command.Command.{Command}
pub use Rattle.mscp_packet.specs.declared.command.Order.{Order}
pub use Rattle.mscp_packet.specs.declared.end.BodyKind.{BodyKind}
pub use Rattle.mscp_packet.specs.declared.end.End.{End}
pub use Rattle.mscp_packet.specs.declared.end.EndBody.{EndBody}
pub use Rattle.mscp_packet.specs.declared.reading.EndFault.{EndFault}
