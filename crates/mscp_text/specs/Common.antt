-- What the code of this crate takes from specifications.
pub use Rattle.mscp_packet.specs.Steps.{Gives}
pub use Rattle.mscp_text.specs.Lines.{status_text}
pub use Rattle.mscp_text.specs.Shown.{Shows, body_text, code_text, command_text, end_text, invalid_name, message_of, of_end, of_message, order_text, packet_line, packet_of, shown}
pub use Rattle.std.specs.Char.{is_ascii_hexdigit}
pub use Rattle.std.specs.List.{list_all}
