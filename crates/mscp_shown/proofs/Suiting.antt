-- The ends that a controller makes suit their commands.
use Rattle.mscp_shown.proofs.Common.{Bad, Block, Bool, Command, End, EndBody, Good, MoveKind, None, Option, Order, Sent, Settings, Shape, Some, aborted_end, arith, cond, endcode, false, fault_of, goes_on, is_good_block, is_immediate, is_queued, may_have_status, move_fault, nat_tests, opcode_byte, order_fault, order_weight, outcome_body, outcome_of, outcome_status, own_end, own_end_with, queued_open, refl, refused_body, touches, true, unit_shape, ℕ, ◌%◌, ◌&&◌, ◌+◌, ◌-◌, ◌<◌, ◌^◌, ◌≡◌, ◌≢◌, ◌≤◌, ◌⊎◌}
use Rattle.mscp_packet.specs.declared.command.Order.TheVariants as orders
use Rattle.mscp_shown.proofs.Saying.{Says}
use Rattle.mscp_shown.proofs.Suited.{IsFine, Suits}

-- an end suits the command that it ends
pub record Ends (k : Command) (e : End) : Type 0 where
  pub reference : e.reference ≡ k.reference
  pub unit : e.unit ≡ k.unit
  pub code : e.code ≡ endcode k.order
  pub suits : Suits k.order e.status e.body
  pub fine : IsFine k.order e.status

-- ---- refused
abbrev refused : Order → EndBody
refused o = refused_body (endcode o)

pub move_refused : (c : Settings) (kind : MoveKind) (count block status : ℕ) (u : Option Shape)
    → move_fault c count block u ≡ Some status → (status % 32 ≡ 1) ⊎ (status % 32 ≡ 3)
move_refused c kind count block status u h = grind arith

-- a transfer that is refused
move_suits : (kind : MoveKind) (count block status : ℕ) → (status % 32 ≡ 1) ⊎ (status % 32 ≡ 3)
    → Suits (orders.Move kind count block) status (refused (orders.Move kind count block))
move_suits kind count block status h = grind arith

refused_suits : (c : Settings) (unit status : ℕ) (o : Order) → order_fault c unit o ≡ Some status
    → Suits o status (refused o)
refused_suits c unit status o h = grind (arith, move_suits, move_refused)

refused_fine : (c : Settings) (unit status : ℕ) (o : Order) → order_fault c unit o ≡ Some status → IsFine o status
refused_fine c unit status order h = grind arith

-- ---- answered when it comes
own_with : (c : Settings) (online : Bool) (figure : ℕ) (k : Command) (f : Option ℕ) → fault_of c k ≡ f
    → (f ≡ None → is_immediate k.order ≡ true)
    → Ends k (own_end_with c online figure k f)
own_with c online figure k None e h = grind arith
own_with c online figure k (Some status) e h = record {
  reference = refl;
  unit = refl;
  code = refl;
  suits = refused_suits c k.unit status k.order e;
  fine = refused_fine c k.unit status k.order e;
}

-- the end of a command that isn't queued
pub own_ends : (c : Settings) (online : Bool) (figure : ℕ) (k : Command) → is_queued c k ≡ false
    → Ends k (own_end c online figure k)
own_ends c online figure k h = grind (arith, own_with)

-- ---- served
-- the status of a bad block is one that a drive or a medium may have (manual)
abbrev pub IsFault : Block → Type 0
IsFault Good = Unit {0}
IsFault (Bad status) = (status < 2 ^ 16) × (5 ≤ status % 32) × (status % 32 ≤ 11)

-- and so one that a command which waits may have
waiting_fault : (o : Order) (code : ℕ) → is_immediate o ≡ false → ((byte why : ℕ) → o ≢ orders.Invalid byte why)
    → 5 ≤ code → code ≤ 11 → may_have_status (opcode_byte o) code ≡ true
waiting_fault o code h n low high = grind (arith, nat_tests)

module _ (shape : Shape) (good done : ℕ) (same : good ≡ done) where
  move_ends : (kind : MoveKind) (count block : ℕ) (online : Bool) (k : Block) → IsFault k
      → goes_on online (orders.Move kind count block) k (order_weight (orders.Move kind count block) - done) ≡ false
      → let o = orders.Move kind count block in
      let status = outcome_status online o k in
      Suits o status (outcome_body shape status o (good + cond (touches online o && is_good_block k) 1 0))
  move_ends kind count block true (Bad status) fault last = grind arith
  move_ends kind count block online k fault last = grind arith

  pub outcome_suits : (online : Bool) (o : Order) (k : Block) → IsFault k → is_immediate o ≡ false
      → ((byte why : ℕ) → o ≢ orders.Invalid byte why)
      → goes_on online o k (order_weight o - done) ≡ false
      → Suits o (outcome_status online o k)
      (outcome_body shape (outcome_status online o k) o (good + cond (touches online o && is_good_block k) 1 0))
  outcome_suits online (orders.Move kind count block) k fault h n last =
      move_ends kind count block online k fault last
  outcome_suits online (orders.Invalid byte why) k fault h n last = absurd (n byte why refl)
  outcome_suits online o k fault h n last = grind (arith, waiting_fault)

pub outcome_fine : (online : Bool) (o : Order) (k : Block) → IsFault k → is_immediate o ≡ false
    → ((byte why : ℕ) → o ≢ orders.Invalid byte why) → IsFine o (outcome_status online o k)
outcome_fine online o k fault h n = grind arith

-- ---- the ends of commands that were queued
-- a command that is queued is none that a message can't ask for
pub valid_order : (c : Settings) (unit : ℕ) (o : Order) → order_fault c unit o ≡ None → (byte why : ℕ)
    → o ≢ orders.Invalid byte why
valid_order c unit o h byte why e = grind arith

pub aborted_ends : (c : Settings) (k : Command) (good : ℕ) → is_queued c k ≡ true → Ends k (aborted_end k good)
aborted_ends c k good q = grind arith

pub outcome_ends : (c : Settings) (online : Bool) (k : Command) (good done : ℕ) (block : Block)
    → is_queued c k ≡ true → IsFault block → good ≡ done
    → goes_on online k.order block (order_weight k.order - done) ≡ false
    → Ends k (outcome_of c online k good block)
outcome_ends c online k good done block q fault same last =
    let sound = queued_open c k q in
    record {
      reference = refl;
      unit = refl;
      code = refl;
      suits = outcome_suits (unit_shape c k.unit) good done same online k.order block fault sound.waits
          (valid_order c k.unit k.order sound.sound) last;
      fine = outcome_fine online k.order block fault sound.waits (valid_order c k.unit k.order sound.sound);
    }

-- a refused command has Invalid Command or Unit-Offline
pub refused_apart : (c : Settings) (unit status : ℕ) (o : Order) (s : Sent) → Says o s
    → order_fault c unit o ≡ Some status
    → (status % 32 ≡ 1) ⊎ (status % 32 ≡ 3)
refused_apart c unit status order s says h = grind arith
