-- No waiting command is passed more often than the passing limit.
use Rattle.mscp_controller.proofs.Basics.{◌≡◌, ℕ, ◌+◌, ◌≤◌, Bool, not, List, [], ◌∷◌, ◌++◌, length, refl, ap, subst, arith, Option, Some, None, AllByRecursion, Settings, Trace, Moment, Service, service_in, name, waiting, ends_in, passed, IsRight, every_weaker, every_kept, every_append, every_parts, every_both, waiting_more, passed_last, step_right, Steady}
use Rattle.mscp_controller.proofs.Promise.Figured.{Figured, record_of, charged, step_charge}
use Rattle.mscp_controller.proofs.Promise.Falls.{Fit}
use Rattle.mscp_controller.proofs.Promise.Fitted.{fit_of, leaves_of}

abbrev pub Limited : Settings → Trace → List ℕ → Type 0
Limited c t xs = AllByRecursion (λ x. passed t x ≤ c.budget) xs

-- what a step costs those in front is there
paid : (c : Settings) (t : Trace) (m : Moment) (s : Service) (front : List ℕ) (y : ℕ) (back : List ℕ) → Fit c
    t m s front y back → Limited c t front → AllByRecursion (λ x. passed t x + step_charge t s y ≤ c.budget) front
paid c t m s front y back f h = search (arith, every_weaker)

limited_step : (c : Settings) (t : Trace) (m : Moment) (s : Service) (front : List ℕ) (y : ℕ) (back : List ℕ)
    → Fit c t m s front y back → Limited c t (waiting t) → Limited c (t ++ m ∷ []) (waiting (t ++ m ∷ []))
limited_step c t m s front y back f h =
    let t' = t ++ m ∷ [] in
    let n = step_charge t s y in
    let Old : ℕ → Type 0 = λ x. passed t x ≤ c.budget in
    let New : ℕ → Type 0 = λ x. passed t' x ≤ c.budget in
    let parts = every_parts Old front (y ∷ back) (subst (AllByRecursion Old) f.is h) in
    let fronts : AllByRecursion New front =
    every_weaker (λ x. (record_of t' x ≡ charged n (record_of t x)) × (passed t x + n ≤ c.budget)) New
    (λ x p. let e = ap (λ (r : Figured). r.passed) p.0 in omega (arith, e, p.1)) front
    (every_both (λ x. record_of t' x ≡ charged n (record_of t x)) (λ x. passed t x + n ≤ c.budget) front
    f.marks.at_front (paid c t m s front y back f parts.0)) in
    let own : New y = let e = ap (λ (r : Figured). r.passed) f.marks.at_own in omega (arith, e, parts.1.0) in
    let backs : AllByRecursion New back =
    every_weaker (λ x. (record_of t' x ≡ record_of t x) × Old x) New
    (λ x p. let e = ap (λ (r : Figured). r.passed) p.0 in omega (arith, e, p.1)) back
    (every_both (λ x. record_of t' x ≡ record_of t x) Old back f.marks.at_back parts.1.1) in
    search (arith, every_append)

limited_quiet : (c : Settings) (t : Trace) (m : Moment) → service_in m.1 ≡ None → Limited c t (waiting t)
    → Limited c (t ++ m ∷ []) (waiting (t ++ m ∷ []))
limited_quiet c t m e h =
    let t' = t ++ m ∷ [] in
    let keep : ℕ → Bool = λ x. not (ends_in (name t x) m.1) in
    let New : ℕ → Type 0 = λ x. passed t' x ≤ c.budget in
    let old : AllByRecursion New (waiting t) =
    every_weaker (λ x. (record_of t' x ≡ record_of t x) × (passed t x ≤ c.budget)) New
    (λ x p. let e = ap (λ (r : Figured). r.passed) p.0 in omega (arith, e, p.1)) (waiting t)
    (every_both (λ x. record_of t' x ≡ record_of t x) (λ x. passed t x ≤ c.budget) (waiting t) (leaves_of t m e) h) in
    let new : New (length t) = omega (arith, passed_last t m) in
    search (arith, waiting_more t m, every_kept New keep (waiting t) old, every_append)

-- Each right moment keeps it.
pub limited_more : (c : Settings) (t : Trace) (m : Moment) → IsRight c t m.0 m.1 → Steady c t
    → Limited c t (waiting t) → Limited c (t ++ m ∷ []) (waiting (t ++ m ∷ []))
limited_more c t m r steady h =
    let both : (o : Option Service) → service_in m.1 ≡ o → Limited c (t ++ m ∷ []) (waiting (t ++ m ∷ [])) =
    λ o. elim o as (λ o. service_in m.1 ≡ o → Limited c (t ++ m ∷ []) (waiting (t ++ m ∷ []))) [
      | None ↦ λ e. limited_quiet c t m e h
      | Some s ↦ λ e. let z = step_right c t m s steady.apart e r in
          limited_step c t m s z.2 z.1 z.3 (fit_of c t m s z.0 z.1 z.2 z.3 z.4 steady) h
    ] in
    both (service_in m.1) refl
