-- The best starts of the drives, one after the other, are the best of all.
use Rattle.mscp_queue.proofs.Basics.{◌≡◌, ◌≢◌, ◌⊎◌, ⊎_elim, ℕ, ◌+◌, ◌<◌, Bool, true, cond, List, length, get_or, refl, ap, sym, ◌∙◌, arith, get_or_default, length-map, Command, Drive, IsUnitList, CanBeShown, is_known, units_of, drive_place, fresh_drive, known_at, place_is, pairs_rise, same_or, Record, no_record, Target}
use Rattle.mscp_queue.proofs.Common.{IsBest, IsClear, IsClearOn, IsFirstOf, command_at, commands, comes_before, cost_at, cost_of, drive_in, one_block}
use Rattle.mscp_queue.specs.Starts.{Start}
use Rattle.mscp_queue.proofs.Best.{best_none, best_of_two, best_same}
use Rattle.mscp_queue.proofs.Favored.{command_is}

-- the command at a place is on one of the first so many drives, and nobody in front keeps it back
pub record IsBelow (ds : List Drive) (cs : List Command) (n place : ℕ) : Type 0 where
  pub drive : ℕ
  pub below : drive < n
  pub clear : IsClearOn cs (drive_in ds drive).unit.number place

pub none_below : {ds : List Drive} {cs : List Command} {c : ℕ → ℕ} (s : Start) → s.place ≡ 64 → IsBest
    (IsBelow ds cs 0) c s
none_below {ds} {cs} {c} s e = best_none s e (λ p h. let l = h.below in omega (arith, l))

module _ {ds : List Drive} {rs : List Record} {own : List Target} (shown : CanBeShown ds rs own)
    (units : IsUnitList (units_of ds)) where
  abbrev cs : List Command
  cs = commands rs

  as_many : length cs ≡ length rs
  as_many = length-map rs (λ (r : Record). r.command)

  known : (place : ℕ) → place < length cs → is_known (units_of ds) (command_at cs place).unit ≡ true
  known place l =
      let below : place < length rs = omega (arith, l, as_many) in
      ap (λ (c : Command). is_known (units_of ds) c.unit) (command_is rs place below)
      ∙ (shown.inside place no_record below).0

  -- on its drive it costs what it costs
  cost_same : (k place : ℕ) → k < length ds → IsClearOn cs (drive_in ds k).unit.number place
      → cost_at (drive_in ds k) cs place ≡ cost_of ds cs place
  cost_same k place l h =
      let n = (command_at cs place).unit in
      let at = place_is ds k n (drive_in ds k) (pairs_rise (units_of ds) units.rising) l
      (get_or_default ds k (fresh_drive one_block) (drive_in ds k) l) (sym h.unit) in
      ap (λ d. cost_at d cs place) (ap (λ i. get_or ds i (fresh_drive one_block)) (sym at)
      ∙ (known_at ds n (fresh_drive one_block) (known place h.inside)).drive)

  pub below_more : {n : ℕ} {one other : Start} (s : Start) (b : Bool) → n < length ds
      → IsBest (IsBelow ds cs n) (cost_of ds cs) one
      → IsBest (IsClearOn cs (drive_in ds n).unit.number) (cost_at (drive_in ds n) cs) other
      → b ≡ comes_before other one → s ≡ cond b other one → IsBest (IsBelow ds cs (n + 1)) (cost_of ds cs) s
  below_more {n} {one} {other} s b l h k e f =
      best_same {P = λ p. IsBelow ds cs n p ⊎ IsClearOn cs (drive_in ds n).unit.number p}
      (λ p x. (⊎_elim (λ y. more p y) (λ y. last p y) x, refl)) (λ p x. split p x (same_or x.drive n))
      (best_of_two s b h (best_same (λ p y. (y, cost_same n p l y)) (λ p y. y) k) e f)
    where
      more : (p : ℕ) → IsBelow ds cs n p → IsBelow ds cs (n + 1) p
      more p y = record { drive = y.drive; below = (let l = y.below in omega (arith, l)); clear = y.clear }

      last : (p : ℕ) → IsClearOn cs (drive_in ds n).unit.number p → IsBelow ds cs (n + 1) p
      last p y = record { drive = n; below = omega arith; clear = y }

      split : (p : ℕ) → (x : IsBelow ds cs (n + 1) p) → (x.drive ≡ n) ⊎ (x.drive ≢ n)
          → IsBelow ds cs n p ⊎ IsClearOn cs (drive_in ds n).unit.number p
      split p x h3 = grind arith

  -- each that nobody keeps back is on a drive
  all_below : (place : ℕ) → IsClear cs place → IsBelow ds cs (length ds) place
  all_below place h =
      let at = known_at ds (command_at cs place).unit (fresh_drive one_block) (known place h.inside) in
      record {
        drive = drive_place ds (command_at cs place).unit;
        below = at.inside;
        clear = record { inside = h.inside; unit = sym at.number; clear = h.clear };
      }

  pub best_first : (s : Start) → IsBest (IsBelow ds cs (length ds)) (cost_of ds cs) s → 0 < length rs
      → IsFirstOf ds cs s.place
  best_first s h some = ⊎_elim (λ e. absurd (let l = low in omega (arith, e, l))) (λ x. record {
    is = record { inside = x.0.clear.inside; clear = x.0.clear.clear };
    each = grind (arith, all_below);
  }) h.is
    where
      low : s.place < 64
      low = (h.each 0 (all_below 0 (record { inside = omega (arith, some, as_many); clear = refl }))).0
