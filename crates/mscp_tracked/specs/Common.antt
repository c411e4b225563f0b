-- What the code of this crate takes from specifications.
pub use Rattle.arrayvec.specs.ArrayVec.{array_vec_len}
pub use Rattle.mscp_controller.specs.Holdings.{Holdings, answer_to_message, unaborted}
pub use Rattle.mscp_controller.specs.Restored.{IsSound}
pub use Rattle.mscp_drive.specs.Both.{of}
pub use Rattle.mscp_packet.specs.Commands.{IsCommand, command_of}
pub use Rattle.mscp_packet.specs.declared.command.Command.{Command}
pub use Rattle.mscp_queue.specs.Names.{name_on}
pub use Rattle.mscp_queue.specs.Records.{IsAlone}
pub use Rattle.mscp_queue.specs.Serving.{is_begun, place_begun}
pub use Rattle.mscp_tracked.specs.Cookies.{CanCome, CanLeave, CanReport, Cookies, cookie_in, ended, left, no_cookies, reported, sent, taken, waited}
pub use Rattle.mscp_tracked.specs.Saved.{behind, own_length, restored, resumed, saved_bytes, word_in, words_bytes, words_in}
pub use Rattle.mscp_tracked.specs.Trackings.{Begins, BeginsAnew, Finishes, IsTracked, Serves, Tracking, after_message_with, after_take, beginning, beginning_of, end_taken, has_serial, new_after, number_aborted, oldest_end, place_aborted}
