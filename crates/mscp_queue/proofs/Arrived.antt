-- The best starts once a command came, behind all that wait.
use Rattle.mscp_queue.proofs.Basics.{◌≡◌, ◌≢◌, ◌⊎◌, inl, inr, ⊎_elim, ℕ, ◌+◌, ◌<◌, ◌≤◌, true, false, List, take, length, get_or, refl, ap, sym, ◌∙◌, subst, arith, ext_get_or, false≢true, get_or-take, get_or_default, length-map, length-take-le, Command, Drive, Target, IsUnitList, CanBeShown, is_known, units_of, drive_place, fresh_drive, known_at, place_is, pairs_rise, same_or, Record, no_record, record_at, drive_at, order_cost}
use Rattle.mscp_queue.proofs.Common.{AreFavored, IsBest, IsClearOn, IsLearned, comes_before, cond, command_at, commands, cost_at, drive_in, is_clear, knows, nat_eq, not, one_block, start_in}
use Rattle.mscp_queue.specs.declared.favorites.Favorites.{Favorites}
use Rattle.mscp_queue.specs.Starts.{Start}
use Rattle.mscp_queue.proofs.Best.{best_of_two, best_same}
use Rattle.mscp_queue.proofs.Favored.{command_is}

take_take : {X : Type 0} (d : X) (p n : ℕ) (xs : List X) → p ≤ n → n ≤ length xs → take p (take n xs) ≡ take p xs
take_take d p n xs l k =
    let front = length-take-le n xs k in
    let one = length-take-le p (take n xs) (omega (arith, l, front)) in
    ext_get_or d (take p (take n xs)) (take p xs) (one ∙ sym (length-take-le p xs (omega (arith, l, k)))) (λ i b.
    let below : i < p = omega (arith, b, one) in
    get_or-take p (take n xs) i d below
    ∙ (get_or-take n xs i d (omega (arith, below, l)) ∙ sym (get_or-take p xs i d below)))

-- ---- those in front of the last
module _ (cs : List Command) (n : ℕ) (long : length cs ≡ n + 1) where
  front_long : length (take n cs) ≡ n
  front_long = length-take-le n cs (omega (arith, long))

  front_at : (p : ℕ) → p < n → command_at (take n cs) p ≡ command_at cs p
  front_at p l = get_or-take n cs p no_record.command l

  front_clear : (p : ℕ) → p < n → is_clear (take n cs) p ≡ is_clear cs p
  front_clear p l = grind (arith, front_at, take_take)

  to_all : (number p : ℕ) → IsClearOn (take n cs) number p → IsClearOn cs number p
  to_all number p h =
      let l : p < n = (let b = h.inside in omega (arith, b, front_long)) in
      record {
        inside = omega (arith, l, long);
        unit = ap (λ (c : Command). c.unit) (sym (front_at p l)) ∙ h.unit;
        clear = sym (front_clear p l) ∙ h.clear;
      }

  to_front : (number p : ℕ) → IsClearOn cs number p → p ≢ n → IsClearOn (take n cs) number p
  to_front number p h d =
      let l : p < n = (let b = h.inside in omega (arith, b, long, d)) in
      record {
        inside = omega (arith, l, front_long);
        unit = ap (λ (c : Command). c.unit) (front_at p l) ∙ h.unit;
        clear = front_clear p l ∙ h.clear;
      }

  below_n : (number p : ℕ) → IsClearOn (take n cs) number p → p < n
  below_n number p h = let b = h.inside in omega (arith, b, front_long)

  cost_front : (d : Drive) (p : ℕ) → p < n → cost_at d (take n cs) p ≡ cost_at d cs p
  cost_front d p l = ap (λ (c : Command). order_cost d.unit d.head c.order) (front_at p l)

  -- the last isn't one that is open on a drive
  pub best_still : (number : ℕ) (d : Drive) (s : Start) → (IsClearOn cs number n → ⊥)
      → IsBest (IsClearOn (take n cs) number) (cost_at d (take n cs)) s → IsBest (IsClearOn cs number) (cost_at d cs) s
  best_still number d s none h = best_same
      (λ p x. (to_all number p x, cost_front d p (below_n number p x)))
      (λ p x. to_front number p x (λ e. none (subst (IsClearOn cs number) e x))) h

  -- or it is
  pub best_last : (number : ℕ) (d : Drive) (s t : Start) → IsClearOn cs number n → n < 64 → t.place ≡ n
      → t.cost ≡ cost_at d cs n → IsBest (IsClearOn (take n cs) number) (cost_at d (take n cs)) s
      → IsBest (IsClearOn cs number) (cost_at d cs) (cond (comes_before s t) s t)
  best_last number d s t own few place cost h = best_same
      (λ p x. (⊎_elim (λ e. subst (IsClearOn cs number) (sym e) own) (λ y. y.0) x, refl))
      (λ p x. split p x (same_or p n))
      (best_of_two _ (comes_before s t) alone (best_same {Q = λ p. IsClearOn cs number p × (p < n)}
      (λ p x. ((to_all number p x, below_n number p x), cost_front d p (below_n number p x)))
      (λ p x. to_front number p x.0 (λ e. let l = x.1 in omega (arith, e, l))) h) refl refl)
    where
      alone : IsBest (λ p. p ≡ n) (cost_at d cs) t
      alone = grind arith

      split : (p : ℕ) → IsClearOn cs number p → (p ≡ n) ⊎ (p ≢ n) → (p ≡ n) ⊎ (IsClearOn cs number p × (p < n))
      split p x h3 = grind arith

-- ---- so each best start that is known stays one, once that of the drive that the last leads to was looked at
module _ {ds : List Drive} {rs : List Record} {own : List Target} (shown : CanBeShown ds rs own)
    (units : IsUnitList (units_of ds)) (n : ℕ) (long : length rs ≡ n + 1) where
  abbrev cs : List Command
  cs = commands rs

  inside : n < length rs
  inside = omega (arith, long)

  many : length cs ≡ n + 1
  many = length-map rs (λ (r : Record). r.command) ∙ long

  -- nobody in front of it keeps it back, or it isn't the best of any
  pub still : (f : Favorites) → AreFavored ds (take n cs) f → is_clear cs n ≡ false → AreFavored ds cs f
  still f h shut = record {
    each = λ k l on. best_still cs n many (drive_in ds k).unit.number (drive_in ds k) (start_in f k)
        (λ x. false≢true (sym shut ∙ x.clear)) (h.each k l on);
  }

  abbrev unit : ℕ
  unit = (record_at rs n).command.unit

  known : is_known (units_of ds) unit ≡ true
  known = (shown.inside n no_record inside).0

  -- one drive alone is that of its unit
  only : (k : ℕ) → k < length ds → unit ≡ (drive_in ds k).unit.number → drive_place ds unit ≡ k
  only k l e = place_is ds k unit (drive_in ds k) (pairs_rise (units_of ds) units.rising) l
      (get_or_default ds k (fresh_drive one_block) (drive_in ds k) l) (sym e)

  -- or nothing is known of its drive
  pub unknown : (f : Favorites) (at : ℕ) → AreFavored ds (take n cs) f → at ≡ drive_place ds unit
      → knows f at ≡ false → AreFavored ds cs f
  unknown f at h is off = record {
    each = λ k l on. best_still cs n many (drive_in ds k).unit.number (drive_in ds k) (start_in f k)
        (λ x. false≢true (sym off ∙ (ap (knows f) (is ∙ only k l
        (ap (λ (c : Command). c.unit) (sym (command_is rs n inside)) ∙ x.unit)) ∙ on))) (h.each k l on);
  }

  pub arrived : {f g : Favorites} (at : ℕ) (t : Start) → AreFavored ds (take n cs) f → is_clear cs n ≡ true
      → at ≡ drive_place ds unit → t.place ≡ n → t.cost ≡ order_cost (drive_at ds rs n).unit (drive_at ds rs n).head
      (record_at rs n).command.order → knows f at ≡ true
      → IsLearned at (cond (comes_before (start_in f at) t) (start_in f at) t) f g
      → AreFavored ds cs g
  arrived {f} {g} at t h clear is place cost known_at_it learned = record { each = λ k l on. by k l on (same_or k at) }
    where
      c : command_at cs n ≡ (record_at rs n).command
      c = command_is rs n inside

      there : drive_in ds at ≡ drive_at ds rs n
      there = ap (λ i. get_or ds i (fresh_drive one_block)) is ∙ (known_at ds unit (fresh_drive one_block) known).drive

      number : unit ≡ (drive_in ds at).unit.number
      number = grind (arith, known_at, known)

      own_clear : IsClearOn cs (drive_in ds at).unit.number n
      own_clear = record {
        inside = omega (arith, many);
        unit = ap (λ (c : Command). c.unit) c ∙ number;
        clear = clear;
      }

      costs : t.cost ≡ cost_at (drive_in ds at) cs n
      costs = cost ∙ (λ i. order_cost (sym there i).unit (sym there i).head (sym c i).order)

      by : (k : ℕ) → k < length ds → knows g k ≡ true → (k ≡ at) ⊎ (k ≢ at)
          → IsBest (IsClearOn cs (drive_in ds k).unit.number) (cost_at (drive_in ds k) cs) (start_in g k)
      by k l on (inl e) =
          subst (λ k. IsBest (IsClearOn cs (drive_in ds k).unit.number) (cost_at (drive_in ds k) cs) (start_in g k))
          (sym e)
          (subst (IsBest (IsClearOn cs (drive_in ds at).unit.number) (cost_at (drive_in ds at) cs)) (sym learned.own)
          (best_last cs n many (drive_in ds at).unit.number (drive_in ds at) (start_in f at) t own_clear
          (let few = shown.few in omega (arith, few, long)) place costs
          (h.each at (subst (λ i. i < length ds) e l) known_at_it)))
      by k l on (inr d) =
          subst (IsBest (IsClearOn cs (drive_in ds k).unit.number) (cost_at (drive_in ds k) cs)) (sym
          (learned.other k d))
          (best_still cs n many (drive_in ds k).unit.number (drive_in ds k) (start_in f k)
          (λ x. d (sym (only k l (ap (λ (c : Command). c.unit) (sym c) ∙ x.unit)) ∙ sym is))
          (h.each k l (ap (λ (s : Start). not (nat_eq s.place 255)) (sym (learned.other k d)) ∙ on)))
