-- What the code of this crate takes from specifications.
pub use Rattle.mscp_control.specs.Longest.{WaitsTheBound, is_shown}
pub use Rattle.mscp_control.specs.Worst.{block_before, come_on, handing, long_read, online_command, online_end, opened, pass_on, queueing, read_report, rest_on, runs_on, short_read, steps_on, worst_of}
pub use Rattle.mscp_controller.specs.Legal.{IsLegal}
pub use Rattle.mscp_drive.specs.Settings.{bound, room}
pub use Rattle.mscp_packet.specs.Commands.{command_bytes}
