-- What a figure reads of a command, and how a step changes it.
use Rattle.mscp_controller.proofs.Basics.{◌≡◌, ℕ, ◌+◌, ◌-◌, ◌<◌, true, cond, List, [], ◌∷◌, ◌++◌, length, ap, ◌∙◌, subst, arith, AllByRecursion, lt-ltb, eq-eqb, and_right, Block, Settings, Trace, Moment, Service, weight, is_waiting, done, charge, passed, every_weaker, every_both, every_parts, waiting_waits, Step, below_parts, weight_before, none_starts, passed_front, passed_behind}

-- what figures read of a command
pub record Figured : Type 0 where
  pub weight : ℕ
  pub done : ℕ
  pub passed : ℕ

abbrev pub record_of : Trace → ℕ → Figured
record_of t x = record { weight = weight t x; done = done t x; passed = passed t x }

-- passed, at this charge
abbrev pub charged : ℕ → Figured → Figured
charged n r = record { weight = r.weight; done = r.done; passed = r.passed + n }

abbrev pub served : Figured → Figured
served r = record { weight = r.weight; done = r.done + 1; passed = r.passed }

abbrev pub record_left : Figured → ℕ
record_left r = r.weight - r.done

-- what a step of y costs each earlier command
abbrev pub step_charge : Trace → Service → ℕ → ℕ
step_charge t s y = cond s.started (charge t y) 0

abbrev pub made : ℕ → ℕ → ℕ → Figured
made w d p = record { weight = w; done = d; passed = p }

pub made_is : (w d p w' d' p' : ℕ) → w ≡ w' → d ≡ d' → p ≡ p' → made w d p ≡ made w' d' p'
made_is w d p w' d' p' e f g = ap (λ w. made w d p) e ∙ (ap (λ d. made w' d p) f ∙ ap (λ p. made w' d' p) g)

-- how a step of y changes what figures read
pub record Marks (t t' : Trace) (s : Service) (front : List ℕ) (y : ℕ) (back : List ℕ) : Type 0 where
  pub at_front : AllByRecursion (λ x. record_of t' x ≡ charged (step_charge t s y) (record_of t x)) front
  pub at_own : record_of t' y ≡ served (record_of t y)
  pub at_back : AllByRecursion (λ x. record_of t' x ≡ record_of t x) back

front_passed : (c : Settings) (t : Trace) (m : Moment) (s : Service) (k : Block) (y : ℕ) (front back : List ℕ)
    → Step c t m s k y front back → (x : ℕ) → x < length t → is_waiting t x ≡ true → done t x ≡ 0 → x < y
    → passed (t ++ m ∷ []) x ≡ passed t x + step_charge t s y
front_passed c t m s k y front back st x l w d h =
    search (arith, lt-ltb x (length t) l, eq-eqb (done t x) 0 d, passed_front, none_starts, and_right)

pub marks : (c : Settings) (t : Trace) (m : Moment) (s : Service) (k : Block) (y : ℕ) (front back : List ℕ)
    → Step c t m s k y front back → AllByRecursion (λ x. done t x ≡ 0) front → Marks t (t ++ m ∷ []) s front y back
marks c t m s k y front back st idle =
    let t' = t ++ m ∷ [] in
    let at = st.serves.among.at in
    let below = below_parts t y front back at in
    let A : ℕ → Type 0 = λ x. (x < length t) × (is_waiting t x ≡ true) in
    let B : ℕ → Type 0 = λ x. A x × (done t x ≡ 0) in
    let C : ℕ → Type 0 = λ x. B x × (x < y) in
    let D : ℕ → Type 0 = λ x. done t' x ≡ done t x in
    record {
      at_front = every_weaker (λ x. C x × D x) (λ x. record_of t' x ≡ charged (step_charge t s y) (record_of t x))
          (λ x h. made_is (weight t' x) (done t' x) (passed t' x) (weight t x) (done t x) (passed t x + step_charge t
          s y) (weight_before t m x h.0.0.0.0) h.1 (front_passed c t m s k y front back st x h.0.0.0.0 h.0.0.0.1 h.0.0.1
          h.0.1)) front (every_both C D front (every_both B (λ x. x < y) front (every_both A (λ x. done t x ≡ 0) front
          (every_both (λ x. x < length t) (λ x. is_waiting t x ≡ true) front below.0 (every_parts (λ z. is_waiting t z
          ≡ true) front (y ∷ back) (subst (AllByRecursion (λ z. is_waiting t z ≡ true)) at.is (waiting_waits t))).0)
          idle) at.before) st.changes.front_done);
      at_own = search (arith, t', below, made_is, weight_before, passed_behind);
      at_back = every_weaker (λ x. ((x < length t) × (y < x)) × D x) (λ x. record_of t' x ≡ record_of t x)
          (λ x h. made_is (weight t' x) (done t' x) (passed t' x) (weight t x) (done t x) (passed t x)
          (weight_before t m x h.0.0) h.1 (passed_behind c t m s k y front back st x (omega (arith, h.0.1))))
          back (every_both (λ x. (x < length t) × (y < x)) D
          back (every_both (λ x. x < length t) (λ x. y < x) back below.1.1 at.behind) st.changes.back_done);
    }
