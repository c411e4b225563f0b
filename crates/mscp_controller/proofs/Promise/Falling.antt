-- At a right moment no figure rises, and where it is a step each falls.
use Rattle.mscp_controller.proofs.Basics.{◌≡◌, ℕ, ◌<◌, ◌≤◌, true, [], ◌∷◌, ◌++◌, length, refl, ap, arith, Option, Some, None, Contains, true≢false, false≢true, Event, Entry, Settings, Trace, Moment, is_step, Service, service_in, waiting, figure, IsRight, done_last, step_right, Steady}
use Rattle.mscp_controller.proofs.Promise.Falls.{step_falls}
use Rattle.mscp_controller.proofs.Promise.Stays.{never_rises}
use Rattle.mscp_controller.proofs.Promise.Fitted.{fit_of, leaves_of}

-- what becomes of the figures of those that wait
pub record Falling (c : Settings) (t : Trace) (m : Moment) : Type 0 where
  pub step : is_step m.0 ≡ true → (x : ℕ) → Contains (waiting t) x → figure c (t ++ m ∷ []) x < figure c t x
  pub other : (x : ℕ) → Contains (waiting t) x → figure c (t ++ m ∷ []) x ≤ figure c t x

nobody : (t : Trace) (x : ℕ) → waiting t ≡ [] → Contains (waiting t) x → ⊥
nobody t x e h = let l = ap length e in let k = h.1 in omega (arith, l, k)

idle_right : (c : Settings) (t : Trace) (event : Event) (entry : Entry) → is_step event ≡ true → service_in entry ≡ None
    → IsRight c t event entry → waiting t ≡ []
idle_right c t event entry h4 h5 h6 = grind (arith, true≢false, false≢true)

pub falling : (c : Settings) (t : Trace) (m : Moment) → IsRight c t m.0 m.1 → Steady c t → Falling c t m
falling c t m r steady =
    let both : (o : Option Service)
    → service_in m.1 ≡ o → Falling c t m = λ o. elim o as (λ o. service_in m.1 ≡ o → Falling c t m) [
      | None ↦ search (arith, nobody, idle_right, never_rises, leaves_of, done_last)
      | Some s ↦ search (arith, step_right, step_falls, fit_of)
    ] in
    both (service_in m.1) refl
