-- The best starts once a drive served a command, or one was aborted.
use Rattle.mscp_queue.proofs.Basics.{◌≡◌, ◌≢◌, ◌⊎◌, inl, inr, ⊎_elim, ℕ, ◌+◌, ◌-◌, ◌<◌, ◌≤◌, Bool, true, false, false≢true, not, cond, if◌then◌else◌, ◌&&◌, ◌++◌, List, take, drop, length, refl, ap, sym, ◌∙◌, subst, arith, nat_lt, eq-eqb, ltb-true, ne_eqb, get_or-drop, get_or-take, get_or_append_left, get_or_default, length-take-le, length-append, length-drop, Command, Drive, IsUnitList, units_of, no_record, drive_place, fresh_drive, pairs_rise, place_is, same_or, order_cost}
use Rattle.mscp_queue.proofs.Common.{AreFavored, IsAhead, IsBest, IsClearOn, bars, command_at, cost_at, drive_in, lt-ltb, ltb-false, le-ltb, get_or-append_right, knows, closed, one_block, place_closed, start_in}
use Rattle.mscp_queue.specs.declared.favorites.Favorites.{Favorites}
use Rattle.mscp_queue.specs.Starts.{Start}
use Rattle.mscp_queue.proofs.Opens.{all_at, at_all}

lt_or : (a b : ℕ) → (a < b) ⊎ (b ≤ a)
lt_or a b = grind arith

-- the place that a place had before the command at the place `gone` left
abbrev up : ℕ → ℕ → ℕ
up gone q = if nat_lt q gone then q else q + 1

up_below : (gone q : ℕ) → q < gone → up gone q ≡ q
up_below gone q l = ap (λ b. if b then q else q + 1) (lt-ltb q gone l)

up_above : (gone q : ℕ) → gone ≤ q → up gone q ≡ q + 1
up_above gone q l = ap (λ b. if b then q else q + 1) (le-ltb q gone l)

closed_none : (gone : ℕ) → place_closed gone 64 ≡ 64
closed_none gone = grind arith

closed_below : (gone p : ℕ) → p ≤ gone → place_closed gone p ≡ p
closed_below gone p l = ap (λ b. if b && nat_lt p 64 then p - 1 else p) (le-ltb gone p l)

closed_above : (gone p : ℕ) → gone < p → p < 64 → place_closed gone p ≡ p - 1
closed_above gone p l few = grind (arith, lt-ltb)

-- those places are each other's
up_closed : (gone p : ℕ) → p ≢ gone → p < 64 → up gone (place_closed gone p) ≡ p
up_closed gone p d few = grind (arith, lt_or, closed_below, up_below, closed_above, up_above)

closed_least : (gone p q : ℕ) → p ≢ gone → p < 64 → p ≤ up gone q → place_closed gone p ≤ q
closed_least gone p q d few l = grind (arith, lt_or, closed_below, up_below, closed_above, up_above)

up_more : (gone z q : ℕ) → z < q → up gone z < up gone q
up_more gone z q l = grind (arith, lt_or, up_below, up_above)

-- ---- the commands without that at a place
module _ (cs : List Command) (gone : ℕ) (l : gone < length cs) (few : length cs ≤ 64) where
  abbrev left : List Command
  left = take gone cs ++ drop (gone + 1) cs

  front_long : length (take gone cs) ≡ gone
  front_long = length-take-le gone cs (omega (arith, l))

  long : length left + 1 ≡ length cs
  long = omega (arith, length-append (take gone cs) (drop (gone + 1) cs), front_long, length-drop (gone + 1) cs, l)

  left_at : (q : ℕ) → command_at left q ≡ command_at cs (up gone q)
  left_at q = by (lt_or q gone)
    where
      by : (q < gone) ⊎ (gone ≤ q) → command_at left q ≡ command_at cs (up gone q)
      by (inl b) = grind (arith, get_or_append_left, front_long, get_or-take, up_below)
      by (inr b) = grind (arith, get_or-append_right, front_long, get_or-drop, up_above)

  up_inside : (q : ℕ) → q < length left → up gone q < length cs
  up_inside q k = grind (arith, lt_or, up_below, up_above, long)

  -- those to another unit than it
  module _ (number : ℕ) (other : (command_at cs gone).unit ≢ number) where
    not_gone : (p : ℕ) → IsClearOn cs number p → p ≢ gone
    not_gone p h e = other (ap (λ k. (command_at cs k).unit) (sym e) ∙ h.unit)

    free_of : (q : ℕ) → (command_at cs q).unit ≡ number → not (bars (command_at cs gone) (command_at cs q)) ≡ true
    free_of q e = grind (arith, ne_eqb)

    from_left : (q : ℕ) → IsClearOn left number q → IsClearOn cs number (up gone q)
    from_left q h = record {
      inside = up_inside q h.inside;
      unit = ap (λ (c : Command). c.unit) (sym (left_at q)) ∙ h.unit;
      clear = at_all (λ one. not (bars one (command_at cs (up gone q)))) (take (up gone q) cs) no_record.command
          (λ y b. by y (omega (
            arith,
            b,
            length-take-le (up gone q) cs (let k = up_inside q h.inside in omega
                (arith, k)),
          ))
          (same_or y gone));
    }
      where
        by : (y : ℕ) → y < up gone q → (y ≡ gone) ⊎ (y ≢ gone)
            → not (bars (command_at (take (up gone q) cs) y) (command_at cs (up gone q))) ≡ true
        by y b (inl e) = grind (arith, get_or-take, free_of, left_at)
        by y b (inr d) =
            let k = up_inside q h.inside in
            let small : y < 64 = omega (arith, b, k, few) in
            let z = place_closed gone y in
            let is : up gone z ≡ y = up_closed gone y d small in
            let under : z < q = less z (subst (λ n. n < up gone q) (sym is) b) in
            let inside = h.inside in
            let there : z < length (take q left) = grind (arith, length-take-le) in
            ap (λ c. not (bars c (command_at cs (up gone q)))) (get_or-take (up gone q) cs y no_record.command b
            ∙ (ap (command_at cs) (sym is) ∙ sym (left_at z)))
            ∙ ((λ i. not (bars (sym (get_or-take q left z no_record.command under) i) (sym (left_at q) i)))
            ∙ all_at (λ one. not (bars one (command_at left q))) (take q left) z no_record.command h.clear there)
          where
            less : (z : ℕ) → up gone z < up gone q → z < q
            less z a = grind (arith, lt_or, same_or, up_more)

    to_left : (q : ℕ) → q < length left → IsClearOn cs number (up gone q) → IsClearOn left number q
    to_left q k h = record {
      inside = k;
      unit = ap (λ (c : Command). c.unit) (left_at q) ∙ h.unit;
      clear = at_all (λ one. not (bars one (command_at left q))) (take q left) no_record.command
          (λ z b. by z (omega (arith, b, length-take-le q left (omega (arith, k)))));
    }
      where
        by : (z : ℕ) → z < q → not (bars (command_at (take q left) z) (command_at left q)) ≡ true
        by z b =
            let more = up_more gone z q b in
            let inside = h.inside in
            let there : up gone z < length (take (up gone q) cs) = grind (arith, length-take-le) in
            (λ i. not (bars ((get_or-take q left z no_record.command b ∙ (left_at z
            ∙ sym (get_or-take (up gone q) cs (up gone z) no_record.command more))) i) (left_at q i)))
            ∙ all_at (λ one. not (bars one (command_at cs (up gone q)))) (take (up gone q) cs) (up gone z)
            no_record.command h.clear there

    -- the best of them stays the best, and its place follows
    pub best_gone : (d : Drive) (s t : Start) → IsBest (IsClearOn cs number) (cost_at d cs) s → t.cost ≡ s.cost
        → t.place ≡ place_closed gone s.place → IsBest (IsClearOn left number) (cost_at d left) t
    best_gone d s t h cost place = record {
      is = ⊎_elim (λ e. inl (place ∙ (ap (place_closed gone) e ∙ closed_none gone)))
          (λ x. inr (
            subst (IsClearOn left number) (sym place) (there x.0),
            cost ∙ (x.1 ∙ (costs (place_closed gone s.place) (sym (back x.0)) ∙ ap (cost_at d left) (sym place))),
          )) h.is;
      each = λ q o.
          let a = h.each (up gone q) (from_left q o) in
          (omega (arith, place, small s.place a.0), ahead q a);
    }
      where
        costs : (q : ℕ) {p : ℕ} → p ≡ up gone q → cost_at d cs p ≡ cost_at d left q
        costs q e = ap (cost_at d cs) e ∙ ap (λ (c : Command). order_cost d.unit d.head c.order) (sym (left_at q))

        back : IsClearOn cs number s.place → up gone (place_closed gone s.place) ≡ s.place
        back x = up_closed gone s.place (not_gone s.place x) (h.each s.place x).0

        small : (p : ℕ) → p < 64 → place_closed gone p < 64
        small p a = by (lt_or gone p)
          where
            by : (gone < p) ⊎ (p ≤ gone) → place_closed gone p < 64
            by h1 = grind (arith, closed_above, closed_below)

        there : IsClearOn cs number s.place → IsClearOn left number (place_closed gone s.place)
        there x = to_left (place_closed gone s.place) (by (lt_or gone s.place))
            (subst (IsClearOn cs number) (sym (back x)) x)
          where
            by : (gone < s.place) ⊎ (s.place ≤ gone) → place_closed gone s.place < length left
            by h1 = grind (arith, closed_above, long, closed_below, not_gone)

        ahead : (q : ℕ) → (s.place < 64) × IsAhead s (cost_at d cs (up gone q)) (up gone q) → IsAhead t
            (cost_at d left q) q
        ahead q a = ⊎_elim
            (λ e. inl (let f = costs q refl in omega (arith, e, cost, f)))
            (λ e. ⊎_elim (λ z. absurd (let b = a.0 in omega (arith, z, b)))
            (λ x. inr (
              cost ∙ (e.0 ∙ costs q refl),
              (let f = closed_least gone s.place q (not_gone s.place x.0) a.0 e.1 in omega (arith, place, f)),
            )) h.is) a.1

-- ---- of all drives
-- a command to the unit of another drive isn't that which leaves
other_unit : (ds : List Drive) (cs : List Command) (gone at k : ℕ) → IsUnitList (units_of ds)
    → at ≡ drive_place ds (command_at cs gone).unit → k < length ds → k ≢ at
    → (command_at cs gone).unit ≢ (drive_in ds k).unit.number
other_unit ds cs gone at k units placed b d e = d (sym (place_is ds k (command_at cs gone).unit (drive_in ds k)
    (pairs_rise (units_of ds) units.rising) b (get_or_default ds k (fresh_drive one_block) (drive_in ds k) b) (sym e))
    ∙ sym placed)

-- what is known then was known, and is another drive's
known_was : (at k gone : ℕ) (moves : Bool) (was now : Favorites) → knows now at ≡ false
    → (k ≢ at → start_in now k ≡ cond moves (closed gone (start_in was k)) (start_in was k)) → knows now k ≡ true
    → (k ≢ at) × (knows was k ≡ true)
known_was at k gone moves was now off starts on = grind (arith, same_or, eq-eqb, ltb-true, false≢true)

-- if nobody stands behind the place, no best start is behind it
unmoved : (cs : List Command) (gone number : ℕ) {c : ℕ → ℕ} (s : Start) → IsBest (IsClearOn cs number) c s
    → length cs ≡ gone + 1 → s ≡ closed gone s
unmoved cs gone number s h last = grind (arith, ⊎_elim, eq-eqb, ltb-false)

module _ {ds : List Drive} {cs : List Command} (units : IsUnitList (units_of ds)) (gone at : ℕ) (l : gone < length cs)
    (few : length cs ≤ 64) (placed : at ≡ drive_place ds (command_at cs gone).unit) where
  -- a command is served, or leaves, on the drive at a place
  pub favored_served : {ds' : List Drive} {cs' : List Command} {f g : Favorites} (ends moves : Bool)
      → (moves ≡ ends) ⊎ ((moves ≡ false) × (length cs ≡ gone + 1)) → AreFavored ds cs f
      → length ds' ≡ length ds → ((k : ℕ) → k ≢ at → drive_in ds' k ≡ drive_in ds k)
      → cs' ≡ cond ends (take gone cs ++ drop (gone + 1) cs) cs → knows g at ≡ false
      → ((k : ℕ) → k < length ds → k ≢ at
      → start_in g k ≡ cond moves (closed gone (start_in f k)) (start_in f k))
      → AreFavored ds' cs' g
  favored_served {ds'} {cs'} {f} {g} ends moves how h same drives left off starts = record {
    each = grind (arith, known_was, by, is_closed);
  }
    where
      last_stays : {s : Start} (ends : Bool) → s ≡ closed gone s → s ≡ cond ends (closed gone s) s
      last_stays h1 e = grind arith

      is_closed : (k : ℕ) → k < length ds → knows f k ≡ true
          → cond moves (closed gone (start_in f k)) (start_in f k)
          ≡ cond ends (closed gone (start_in f k)) (start_in f k)
      is_closed k b on = grind (arith, ⊎_elim, last_stays, unmoved)

      by : (ends : Bool) (k : ℕ) → k < length ds → k ≢ at
          → IsBest (IsClearOn cs (drive_in ds k).unit.number) (cost_at (drive_in ds k) cs) (start_in f k)
          → start_in g k ≡ cond ends (closed gone (start_in f k)) (start_in f k)
          → IsBest (IsClearOn (cond ends (take gone cs ++ drop (gone + 1) cs) cs) (drive_in ds k).unit.number)
          (cost_at (drive_in ds k) (cond ends (take gone cs ++ drop (gone + 1) cs) cs)) (start_in g k)
      by true k b d best is = best_gone cs gone l few (drive_in ds k).unit.number (other_unit ds cs gone at k
          units placed b d) (drive_in ds k)
          (start_in f k) (start_in g k) best (ap (λ (s : Start). s.cost) is) (ap (λ (s : Start). s.place) is)
      by false k b d best is = grind arith
