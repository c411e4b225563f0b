-- After each legal trace a step has a right answer.
use Rattle.mscp_judge.proofs.Common.{◌≡◌, ℕ, zero, suc, Bool, true, false, ◌||◌, List, [], ◌∷◌, ◌++◌, refl, ap, sym, subst, arith, append_assoc, append-nil, nat_eq, replicate, slice_get, AllByRecursion, list_all, false≢true, lt-ltb, Block, Idle, Served, Entry, IsValid, Settings, Moment, Trace, connection, done, in_service, is_idle, is_waiting, reference, unit, waiting, is_startable, IsLegal, IsRight, block_of, end_of, seek_to, oldest_starts, waiting_waits, by_serving, legal_more, events_in}
use Rattle.mscp_drive.specs.declared.event.Event.TheVariants as events
use Rattle.mscp_controller.specs.declared.entry.Entry.TheVariants as entries

-- a step may serve y
serves : (c : Settings) (t : Trace) (k : Block) (y : ℕ) → is_waiting t y ≡ true
    → (in_service t y || is_startable c t y) ≡ true → (entry : Entry) × IsRight c t (events.Step k) entry
serves c t k y w n = (
  entries.Stepped (Served (connection t y) (reference t y) (unit t y) (block_of t y) (nat_eq (done t y) 0)
      (seek_to c t (unit t y) (block_of t y)) (end_of c t k y)),
  by_serving y w n refl,
)

-- of those that wait one is in service, if not all are idle
some_served : (t : Trace) (xs : List ℕ) → AllByRecursion (λ x. is_waiting t x ≡ true) xs
    → list_all (λ x. nat_eq (done t x) 0) xs ≡ false → (y : ℕ) × (is_waiting t y ≡ true) × (in_service t y ≡ true)
some_served t [] w e = absurd (false≢true (sym e))
some_served t (x ∷ xs) w e = grind (arith, some_served t xs w.1, lt-ltb, false≢true)

among : (c : Settings) (t : Trace) (k : Block) (ws : List ℕ) → waiting t ≡ ws
    → (entry : Entry) × IsRight c t (events.Step k) entry
among c t k [] e = (entries.Stepped Idle, e)
among c t k (x ∷ xs) e =
    let waits = subst (AllByRecursion (λ x. is_waiting t x ≡ true)) e (waiting_waits t) in
    let Some : Type 0 = (entry : Entry) × IsRight c t (events.Step k) entry in
    let both : (b : Bool) → is_idle t ≡ b → Some =
    λ b. elim b as (λ b. is_idle t ≡ b → Some) [
      | true ↦ λ q. serves c t k x waits.0 (or_last (in_service t x) (is_startable c t x)
          (oldest_starts c t x (ap (λ ys. slice_get ys 0) e) q))
      | false ↦ λ q. let p = some_served t (waiting t) (waiting_waits t) q in
          serves c t k p.0 p.1 (ap (λ b. b || is_startable c t p.0) p.2)
    ] in
    both (is_idle t) refl
  where
    or_last : (a b : Bool) → b ≡ true → (a || b) ≡ true
    or_last o b h = grind arith

-- so many steps may come
pub steps_exist : (c : Settings) → IsValid c → (k : Block) (n : ℕ) (t : Trace) → IsLegal c t
    → (u : Trace) × (events_in u ≡ replicate n (events.Step k)) × IsLegal c (t ++ u)
steps_exist c v k zero t l = ([], refl, subst (IsLegal c) (sym (append-nil t)) l)
steps_exist c v k (suc n) t l =
    let a = among c t k (waiting t) refl in
    let m : Moment = (events.Step k, a.0) in
    let r = steps_exist c v k n (t ++ m ∷ []) (legal_more c t m l a.1) in
    (m ∷ r.0, ap (λ es. events.Step k ∷ es) r.1, subst (IsLegal c) (append_assoc t (m ∷ []) r.0) r.2)
