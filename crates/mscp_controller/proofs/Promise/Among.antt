-- A waiting command among the others, which have other names.
use Rattle.mscp_controller.proofs.Common.{◌≡◌, ◌≢◌, ℕ, Bool, true, false, List, refl, ap, sym, ◌∙◌, arith, find, unwrap_or, Some, AllByRecursion, Settings, Trace, is_waiting, name, waiting, figure, figure_of, same_name, is_differ, is_same, every_weaker, pairs_middle, find_first}
use Rattle.mscp_controller.proofs.Promise.Waits.{Cut, cut, waits_below}
use Rattle.mscp_controller.proofs.Promise.Apart.{Apart}

pub record Alone (t : Trace) (y : ℕ) (front back : List ℕ) : Type 0 where
  pub at : Cut t y front back
  pub before : AllByRecursion (λ x. name t x ≢ name t y) front
  pub behind : AllByRecursion (λ x. name t x ≢ name t y) back

pub alone : (t : Trace) (y : ℕ) (front back : List ℕ) → Apart t (waiting t) → Cut t y front back → Alone t y front back
alone t y front back a k = search (arith, pairs_middle, every_weaker)

-- The figure of its name is its own.
pub figure_of_one : (c : Settings) (t : Trace) (y : ℕ) (front back : List ℕ) → Alone t y front back
    → figure_of c t (name t y) ≡ figure c t y
unfolding figure_of
figure_of_one c t y front back a = grind (arith, is_same, find_first, every_weaker, is_differ)

-- two that wait and have one name are one
pub one_waits : (t : Trace) (x y : ℕ) → Apart t (waiting t) → is_waiting t x ≡ true → is_waiting t y ≡ true
    → name t x ≡ name t y → x ≡ y
one_waits t x y apart w v e =
    let found : (z : ℕ) → is_waiting t z ≡ true → find (λ i. same_name (name t i) (name t z)) (waiting t)
    ≡ Some z =
    λ z k.
    let c = cut t z (waits_below t z k) k in
    let a = alone t z c.0 c.1 apart c.2 in
    let p : ℕ → Bool = λ i. same_name (name t i) (name t z) in
    ap (find p) a.at.is
    ∙ find_first p c.0 z c.1 (every_weaker (λ i. name t i ≢ name t z) (λ i. p i ≡ false)
    (λ i n. is_differ (name t i) (name t z) n) c.0 a.before) (is_same (name t z) (name t z) refl) in
    ap (λ o. unwrap_or o x) (sym (found x w) ∙ (ap (λ n. find (λ i. same_name (name t i) n) (waiting t)) e
    ∙ found y v))
