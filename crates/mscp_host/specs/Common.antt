-- What the code of this crate takes from specifications.
pub use Rattle.arrayvec.specs.ArrayVec.{array_vec_len}
pub use Rattle.mscp_host.specs.Accounts.{Account, answered, balance, end_in, fresh, has_reference, heard, is_about_polled, last_told, news_with, oldest, or_unreadable, outstanding_with, polled_is_outstanding, polls_oldest, received, refusal, submits, submitted, watch_after, with_told, without}
pub use Rattle.mscp_host.specs.Apart.{are_apart}
pub use Rattle.mscp_host.specs.Restored.{account_fault, account_in, count_in, head_fault, is_framed, outstanding_in, restored, submission_in, watch_in}
pub use Rattle.mscp_host.specs.Saved.{HasRange, HasSubmissionRange, HasWatchRange, frame_bytes, saved_bytes, submission_bytes, told_bytes, watch_bytes}
pub use Rattle.mscp_host.specs.Sound.{IsSound, waiting}
pub use Rattle.mscp_host.specs.Watched.{are_told, is_about_somebody, is_oldest, is_poll, is_polled, is_status, is_watched, oldest_of}
pub use Rattle.mscp_packet.specs.Commands.{command_bytes, opcode_byte}
pub use Rattle.mscp_packet.specs.Parts.{parts_in}
pub use Rattle.std.specs.List.{list_any, position}
