-- A part of what is kept of a command, where its block may be moved.
use Rattle.mscp_ported.proofs.Common.{Buffer, Err, IfSome, MoveKind, Ok, Some, Verdict, Volume, arith, asks_nothing, changed_verdict, false, fault_with, min, nat_eq, none-some, part_of, part_with, refusal_of, ℕ, ◌*◌, ◌+◌, ◌-◌, ◌<◌, ◌≡◌, ◌≢◌, ◌≤◌}
use Rattle.mscp_drive.specs.declared.block.Block.TheVariants as blocks
use Rattle.mscp_port.specs.declared.verdict.Verdict.TheVariants as verdicts

-- ---- parts of buffers

-- no step goes well that may not go on
abbrev IsNoGood : Verdict → Type 0
IsNoGood verdict = verdict ≢ verdicts.Served blocks.Good

refused : (kind : MoveKind) (block : ℕ) (b : Buffer) (v : Volume) → IfSome (refusal_of kind block b v) IsNoGood
refused kind block b v = grind arith

pub changed_bad : (v : Volume) → IsNoGood (changed_verdict v)
changed_bad v = grind arith

faulty : (kind : MoveKind) (block : ℕ) (b : Buffer) (v : Volume) → IfSome (fault_with kind block b v) IsNoGood
faulty kind block b v = grind (arith, changed_bad, refused)

-- this part of a buffer is left, where a step may go on
pub part_left : (kind : MoveKind) (block at : ℕ) (b : Buffer) (v : Volume) (part : ℕ × ℕ)
    → part_with kind block at b v ≡ Ok part → part_of b at ≡ Some part
part_left kind block at b v part e = grind arith

pub no_good_part : (kind : MoveKind) (block at : ℕ) (b : Buffer) (v : Volume) (verdict : Verdict)
    → part_with kind block at b v ≡ Err verdict → IsNoGood verdict
no_good_part kind block at b v verdict e = grind (arith, faulty)

pub part_is : (b : Buffer) (at : ℕ) (part : ℕ × ℕ) → part_of b at ≡ Some part
    → (part.0 ≡ b.address + at * 512) × (part.1 ≡ min (b.count - at * 512) 512)
part_is b at part e = grind (arith, none-some)

-- and its command asks something of the disk
pub has_data : (b : Buffer) (at : ℕ) (part : ℕ × ℕ) → part_of b at ≡ Some part → asks_nothing b.opcode ≡ false
has_data b at part e = grind (arith, none-some)

pub some_left : (n m k : ℕ) → k ≡ min (n - m) 512 → nat_eq k 0 ≡ false → m < n
some_left n m k e f = search (arith, e, f)

pub none_left : (n m : ℕ) → min (n - m) 512 ≡ 0 → n ≤ m
none_left n m e = search (arith, e)
