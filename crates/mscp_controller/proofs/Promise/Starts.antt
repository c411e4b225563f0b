-- What is known of a command that may start.
use Rattle.mscp_controller.proofs.Common.{◌≡◌, ℕ, ◌+◌, ◌≤◌, Bool, true, ◌&&◌, List, [], ◌∷◌, sym, ◌∙◌, arith, AllByRecursion, list_all, le-ltb, leb-true, eqb-true, and_parts, false≢true, Block, Settings, Trace, Service, waiting, done, is_idle, earlier, charge, passed, is_free, is_affordable, is_startable, IsServed, every_weaker}

pub record Startable (c : Settings) (t : Trace) (y : ℕ) : Type 0 where
  pub idle : AllByRecursion (λ x. done t x ≡ 0) (waiting t)
  pub free : is_free t y ≡ true
  pub affordable : AllByRecursion (λ x. passed t x + charge t y ≤ c.budget) (earlier t y)

three_parts : (a b c : Bool) → (a && b && c) ≡ true → (a ≡ true) × (b ≡ true) × (c ≡ true)
three_parts a b c h3 = grind (arith, false≢true)

every_of : {X : Type 0} (p : X → Bool) (xs : List X) → list_all p xs ≡ true → AllByRecursion (λ x. p x ≡ true) xs
every_of p [] h = tt
every_of p (x ∷ xs) h = let b = and_parts (p x) (list_all p xs) h in (b.0, every_of p xs b.1)

pub startable_parts : (c : Settings) (t : Trace) (y : ℕ) → is_startable c t y ≡ true → Startable c t y
unfolding is_startable
startable_parts c t y h = search
    (arith, three_parts (is_idle t) (is_free t y) (is_affordable c t y) h, every_weaker, eqb-true, every_of, leb-true)

-- A command that starts may start.
pub startable_of : (c : Settings) (t : Trace) (k : Block) (s : Service) (y : ℕ) → IsServed c t k s y → s.started ≡ true
    → is_startable c t y ≡ true
startable_of c t k s y v e = search (arith, eqb-true (done t y) 0 (sym v.started ∙ e), le-ltb)
