-- What the code of this crate takes from specifications.
pub use Rattle.mscp_controller.specs.Accounts.{CanEnd, account, come, ended, left, put_account, reported, taken, untaken_in}
pub use Rattle.mscp_controller.specs.Arrival.{credit_fault, fault_of, holds, is_queued, judged, move_fault, unit_fault, version_fault}
pub use Rattle.mscp_controller.specs.Controllers.{ControllersKeepThePromise}
pub use Rattle.mscp_controller.specs.Headline.{Headline, LegalTracesMakeProgress}
pub use Rattle.mscp_controller.specs.Holdings.{Answered, Answers, Finishes, Foretells, Holdings, IsBalanced, Steps, aborting, after_message, after_take, answer_to_message, answered_end, arrives, balance_of, begun_step, end_taken, outstanding_of, queued, reference_aborted, taken_as, waiting_on, with_end}
pub use Rattle.mscp_controller.specs.Kept.{IsHeld}
pub use Rattle.mscp_controller.specs.Legal.{IsPicked}
pub use Rattle.mscp_controller.specs.Outcomes.{controller_body, refused_end, unit_body, unit_status}
pub use Rattle.mscp_controller.specs.Replacing.{PromiseIsKeptInTurn}
pub use Rattle.mscp_controller.specs.Restored.{IsSound, made_of}
pub use Rattle.mscp_controller.specs.Runs.{RunsKeepThePromise}
pub use Rattle.mscp_controller.specs.Sweeping.{IsSweeping, Sweeps}
pub use Rattle.mscp_drive.specs.Extent.{weighed, weight}
pub use Rattle.mscp_drive.specs.Both.{of}
pub use Rattle.mscp_drive.specs.Settings.{IsValid, credits_of, unit_found}
pub use Rattle.mscp_drive.specs.declared.connection.Connection.TheVariants.{First, Second}
pub use Rattle.mscp_packet.specs.Ends.{IsEnd, IsOfKind}
pub use Rattle.mscp_packet.specs.Opcodes.{class, is_immediate_class}
pub use Rattle.mscp_packet.specs.Statuses.{success}
pub use Rattle.mscp_queue.specs.Drives.{is_online_in}
pub use Rattle.mscp_queue.specs.Figures.{figure_of_name, figures}
pub use Rattle.mscp_queue.specs.Kept.{IsOfUnit, begun_name}
pub use Rattle.mscp_queue.specs.Names.{name_on}
pub use Rattle.mscp_queue.specs.Orders.{first_block, order_weight}
pub use Rattle.mscp_packet.specs.Commands.{IsCommand}
pub use Rattle.mscp_queue.specs.Outcomes.{IsCoded, end_with}
pub use Rattle.mscp_queue.specs.Records.{IsAlone, IsServing, has_name, record_at, without}
pub use Rattle.mscp_queue.specs.Serving.{place_begun}
pub use Rattle.mscp_queue.specs.Views.{is_open_at}
pub use Rattle.mscp_queue.specs.Why.{holders_of_name, is_nobody}
pub use Rattle.std.specs.List.{list_any, position}
