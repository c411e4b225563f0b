-- What the ends that a controller makes say of the states of their units.
use Rattle.mscp_shown.proofs.Common.{Block, Bool, Command, None, Order, Sent, Settings, and_parts, arith, endcode, eqb-true, false, is_immediate, is_moved, is_of_unit, is_queued, nat_eq, outcome_of, outcome_status, own_end, refl, state_after, true, unit_fault, unit_found, ℕ, ◌%◌, ◌&&◌, ◌/◌, ◌||◌, ◌∙◌, ◌≡◌, ◌≢◌, ◌≤◌}
use Rattle.mscp_packet.specs.declared.command.Order.TheVariants as orders
use Rattle.mscp_shown.proofs.Saying.{Says}
use Rattle.mscp_shown.proofs.Suiting.{IsFault, valid_order}

-- ---- by endcode and status
-- it says that its unit is online
abbrev pub online_of : ℕ → ℕ → Bool
online_of code status =
    nat_eq (status % 32) 0
    && (is_moved code || nat_eq code 0x83 || (nat_eq code 0x89 && nat_eq (status / 256 % 2) 1))

-- or that it isn't
abbrev pub away_of : ℕ → ℕ → Bool
away_of code status =
    (nat_eq (status % 32) 0 && (nat_eq code 0x88 && nat_eq (status / 512 % 2) 0))
    || (nat_eq (status % 32) 4 && (is_of_unit code || nat_eq code 0x83))
    || (nat_eq (status % 32) 3 && is_of_unit code)

-- or it brings it online
abbrev pub brings_of : ℕ → ℕ → Bool
brings_of code status = nat_eq code 0x89 && nat_eq (status % 32) 0

-- what it says is so, of a unit that was online or not as it was made, and is then
pub record Effects (old new : Bool) (code status : ℕ) : Type 0 where
  pub says : online_of code status ≡ true → old ≡ true
  pub away : away_of code status ≡ true → new ≡ false
  pub stays : brings_of code status ≡ false → old ≡ false → new ≡ false

-- ---- the ends of a controller
-- one that is answered when it comes
pub own_effects : (c : Settings) (online : Bool) (figure : ℕ) (k : Command) (s : Sent) → is_queued c k ≡ false
    → Says k.order s → (online ≡ true → unit_fault (unit_found c k.unit) ≡ None)
    → Effects online online (own_end c online figure k).code (own_end c online figure k).status
own_effects c online figure k s q says there = grind arith

-- ---- a step
-- a bad block's status says nothing, and changes nothing
bad_effects : (online new : Bool) (code status : ℕ) → 5 ≤ status % 32 → new ≡ online
    → Effects online new code status
bad_effects online new code status h same = record {
  says = λ e. absurd (omega (
    arith,
    h,
    eqb-true (status % 32) 0 (and_parts (nat_eq (status % 32) 0)
        (is_moved code || nat_eq code 0x83 || (nat_eq code 0x89 && nat_eq (status / 256 % 2) 1)) e).0,
  ));
  away = λ e. absurd (which (nat_eq (status % 32) 0) (nat_eq code 0x88 && nat_eq (status / 512 % 2) 0)
      (nat_eq (status % 32) 4) (is_of_unit code || nat_eq code 0x83) (nat_eq (status % 32) 3) (is_of_unit code) e
      (λ z. omega (arith, h, eqb-true (status % 32) 0 z)) (λ z. omega (arith, h, eqb-true (status % 32) 4 z))
      (λ z. omega (arith, h, eqb-true (status % 32) 3 z)));
  stays = λ n e. same ∙ e;
}
  where
    which : (a x b w c y : Bool) → ((a && x) || (b && w) || (c && y)) ≡ true → (a ≡ true → ⊥) → (b ≡ true → ⊥)
        → (c ≡ true → ⊥) → ⊥
    which a x b w c y e p q r = grind arith

outcome_effects : (online : Bool) (o : Order) (k : Block) → IsFault k → is_immediate o ≡ false
    → ((byte why : ℕ) → o ≢ orders.Invalid byte why)
    → Effects online (state_after online o (outcome_status online o k)) (endcode o) (outcome_status online o k)
outcome_effects online (orders.Invalid byte why) k fault h n = absurd (n byte why refl)
outcome_effects online o k fault h n = grind (arith, bad_effects)

-- one that a step ends
pub served_effects : (c : Settings) (online : Bool) (k : Command) (good : ℕ) (block : Block) → is_queued c k ≡ true
    → IsFault block → let e = outcome_of c online k good block in
    Effects online (state_after online k.order e.status) e.code e.status
served_effects c online k good block q fault = grind (arith, outcome_effects, valid_order)
