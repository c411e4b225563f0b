-- What the code of this crate takes from specifications.
pub use Rattle.arrayvec.specs.ArrayVec.{array_vec_len}
pub use Rattle.byteorder.specs.Endian.{little_bytes}
pub use Rattle.hex.specs.Hex.{decode_of}
pub use Rattle.mscp_packet.specs.Commands.{CommandBytesAreMessages, HasCommandRange, HasRange, IsCommand, IsValidOrder, command_bytes, command_fields, command_of, opcode_byte, order_class, order_name, order_opcode, order_with, parameter_bytes, parameters, written}
pub use Rattle.mscp_packet.specs.Ends.{EndBytesAreMessages, HasBodyRange, HasEndRange, IsEnd, IsOfKind, IsUnder, body_at, body_bytes, end_bytes, end_fields, end_length, least_end, kind_of_body, kind_of_code, reading_with, unit_bytes}
pub use Rattle.mscp_packet.specs.Number.{num}
pub use Rattle.mscp_packet.specs.Opcodes.{least, opcode_of}
pub use Rattle.mscp_packet.specs.Places.{IsZeroBeside}
pub use Rattle.mscp_packet.specs.Statuses.{success, already_online, invalid_length, invalid_opcode, invalid_version, invalid_block, aborted, unit_offline, no_volume, unit_available, protected_by_host, protected, different, odd_address, odd_count, missing, parity, unmapped, drive_error}
pub use Rattle.mscp_packet.specs.Steps.{Gives}
pub use Rattle.mscp_packet.specs.Table.{IsSound}
pub use Rattle.std.specs.Prelude.{ok_or}
