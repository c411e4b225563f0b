-- What the code of this crate takes from specifications.
pub use Rattle.mscp_c.specs.DriverHandleCalls.{DriverHandlesKeepTheirHistory}
pub use Rattle.mscp_c.specs.HandleCalls.{AnswersHandle, HandlesKeepThePromise}
pub use Rattle.mscp_c.specs.HostHandleCalls.{HostHandlesKeepTheirHistory}
pub use Rattle.mscp_c.specs.Hosted.{message_read}
pub use Rattle.mscp_c.specs.Made.{init_answer, init_code, init_fault, made_unless}
pub use Rattle.mscp_c.specs.PortHandleCalls.{PortHandlesKeepThePromise}
pub use Rattle.mscp_c.specs.PortMade.{port_init_answer, port_init_code, port_init_fault}
pub use Rattle.mscp_c.specs.PortServed.{MakesPort, TellsWanted, put_code, told_code, volume_code}
pub use Rattle.mscp_c.specs.PortTold.{action_told, next_code, of_kind, of_memory, of_transfer, serial_told, with_bytes}
pub use Rattle.mscp_c.specs.Restoring.{policy_number}
pub use Rattle.mscp_c.specs.Running.{HasText, IsLine, IsNoPacket, IsShort, TellsFault, cause_code, show_code}
pub use Rattle.mscp_c.specs.Saving.{length_told, room_after, save_code}
pub use Rattle.mscp_c.specs.Statuses.{hear_code, host_code, host_restore_code, limits_code, minus, port_restore_code, restore_code, room_code, send_fault_code, unit_code, units_code}
pub use Rattle.mscp_controller.specs.Holdings.{fresh}
pub use Rattle.mscp_drive.specs.Settings.{IsValid}
pub use Rattle.mscp_host.specs.Restored.{restored}
pub use Rattle.mscp_host.specs.Saved.{saved_bytes}
pub use Rattle.mscp_memory.specs.ControllerHandles.{Handle}
pub use Rattle.mscp_packet.specs.Opcodes.{move_byte}
pub use Rattle.mscp_port.specs.Wanted.{bytes_wanted}
pub use Rattle.mscp_reader.specs.Grammar.{IsFault}
pub use Rattle.mscp_script.specs.Simulated.{IsReport}
pub use Rattle.mscp_text.specs.Shown.{shown}
