-- What the lemmas of this crate take from elsewhere.
pub use Rattle.std.proofs.Common.{Bool, Bor, Err, List, Ok, [], ap, arith, false, length, map, refl, subst, suc, sym, take, true, w64, zero, ℕ, ◌*◌, ◌++◌, ◌+◌, ◌<◌, ◌^◌, ◌∷◌, ◌≡◌}
pub use Rattle.std.proofs.alloc.Calls.{Al, Answer, Answer-Ok, Answer-err, Answer-typed, Answered, Gives, Gives-Gives, Gives-goes, Takes, Takes-gives, Takes-goes, answer_val, answers, at_gives, at_takes, gives_key, seen, takes_key, token, α}
pub use Rattle.std.proofs.alloc.Shapes.{after}
pub use Rattle.std.proofs.lemmas.Bool.{eqb-true, false≢true, true≢false}
pub use Rattle.std.specs.Prelude.{None, Option, Result, Some, is_ok, is_some, replicate, slice_index, unwrap_or}
pub use Rattle.arrayvec.specs.ArrayVec.{ArrayVec}
unfoldable pub use Rattle.mscp_controller.proofs.Bridge.Legals.{answers_by}
pub use Rattle.mscp_controller.proofs.Promise.Waits.{waits_below}
pub use Rattle.mscp_controller.specs.Calls.{Begin, Call, Finish, HoldsToBegun, IsBegunSince, Plain}
pub use Rattle.mscp_controller.specs.Figures.{figure}
pub use Rattle.mscp_controller.specs.History.{Moment, Service, Trace}
pub use Rattle.mscp_controller.specs.Legal.{IsRight, IsServed}
unfoldable pub use Rattle.mscp_controller.specs.Sweeping.{swept}
unfoldable pub use Rattle.mscp_controller.specs.Units.{cost}
pub use Rattle.mscp_controller.specs.declared.entry.NotBegun.{NotBegun}
pub use Rattle.mscp_controller.specs.declared.entry.SendFault.{SendFault}
pub use Rattle.mscp_controller.specs.declared.entry.Sent.{Sent}
pub use Rattle.mscp_drive.specs.Shape.{Shape}
pub use Rattle.mscp_drive.specs.Settings.{Settings}
pub use Rattle.mscp_drive.specs.declared.block.Block.{Block}
pub use Rattle.mscp_drive.specs.declared.block.Block.TheVariants.{Bad, Good}
pub use Rattle.mscp_drive.specs.declared.connection.Connection.{Connection}
pub use Rattle.mscp_drive.specs.declared.connection.Connection.TheVariants.{First, Second}
pub use Rattle.mscp_drive.specs.declared.event.Event.{Event}
pub use Rattle.mscp_host.specs.Histories.{asks_about, is_outstanding, last_told}
unfoldable pub use Rattle.mscp_host.specs.Histories.{outstanding}
pub use Rattle.mscp_host.specs.Law.{Stands}
pub use Rattle.mscp_packet.specs.Commands.{command_bytes}
pub use Rattle.mscp_packet.specs.Ends.{end_bytes}
pub use Rattle.mscp_packet.specs.declared.command.Order.{Order}
pub use Rattle.mscp_packet.specs.declared.end.End.{End}
pub use Rattle.mscp_packet.specs.declared.end.EndBody.{EndBody}
pub use Rattle.mscp_queue.specs.declared.upcoming.Upcoming.{Upcoming}
pub use Rattle.mscp_sim.specs.Talks.{Said, Talk, history}
