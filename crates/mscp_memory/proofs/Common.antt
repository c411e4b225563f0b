-- What the proofs of this crate take from elsewhere.
pub use Rattle.mscp_memory.specs.Rooms.{fault_unless, if_fml, place_fault}
pub use Rattle.std.proofs.Common.{List, MutBor, [], ap, lit<, refl, sym, ℕ, ◌++◌, ◌∙◌, ◌∷◌, ◌≡◌}
pub use Rattle.std.proofs.VecSteps.Shapes.{after}
pub use Rattle.std.proofs.raw_atomic.Walks.{proved, proved_at}
pub use Rattle.std.specs.Prelude.{None, Option, Some, is_none, nat_eq, ◌<◌, ◌^◌}
pub use base.Fml.{Fml, GName, flft, fsep, ftrue}
pub use base.Fraction.{full_share}
pub use base.Logic.{emp, ent, guard_i, id⊢, sep, via}
pub use borrow.Table.OneValue.{part_in}
pub use contract.Lifetimes.{Lfts}
pub use contract.Monad.{fact}
pub use contract.Running.{tables}
pub use denote.Exit.{Kept, Last, left, no, rest, yes}
pub use denote.Follow.{Part, follows, lends_Part}
pub use denote.Laws.{Typed, shows}
pub use denote.Memory.{cell_at, lone, mem}
unfoldable pub use denote.Memory.{part_of}
pub use denote.Param.Mute.{blank, had}
pub use denote.RattleType.{RattleType}
pub use denote.RawPtr.{Ptr, block_ptr, in_a_block, lies_at, ptr_val, room_at}
pub use denote.Ref.{MutRef, mut_Tells, mut_vals}
pub use denote.Shadow.{makes_shadow}
pub use denote.Signature.{Slot, mut_ref_to, plain}
pub use denote.Steps.{closes, facts, heard, nothing, opens, peeks}
pub use denote.Struct.Owning.{shape, to}
pub use denote.Struct.Struct.{Struct}
pub use denote.Triple.Walked.{Goes, Goes-dropped, Goes-ref, Goes-spent_ref, Stays, ends_at, says, stay_dropped, stay_ref, walk_of}
pub use mathlib.Core.Bool.{Bool, false, true}
pub use mir.Syntax.{Ty, Width, int_big, named, w64}
pub use mir.Val.{Fits, Val, WT, has_ty, vint, vptr, vunit}
pub use prog.Wp.{Env, WpFn}
pub use seplogic.Ra.Ura.{Ura}
pub use types.ByLocal.{alloc_all, env, free_all, get, look_at, pass_all, sets, sets_last, through}
pub use types.Kit.{ !, Item, at_ret, await, by, done, drop, feq_i, fjoin, fpack, frame, fsplit, fsplit3, group, join, keep, later, move, pick, prop, qed, raw, regoal, rewrite, some, split, suffices, use0, use1, use2, ‵, ◌$◌, ◌∵◌, ◌⊛◌}
pub use types.Logic.{Logic, sem}
pub use types.Part.{look_in, store_in, sub, whole}
pub use types.Run.{Opd, addr, assigns, assigns_last, blocks, enter, exec, first, fld, init, load, of_opd, returns, stop, unit_lit}
