-- In which order commands are outstanding, and which of them waits for none before it.
use Rattle.mscp_shown.proofs.Common.{AllByRecursion, Apart, Block, Bool, Command, IsRight, IsServed, Moment, None, Option, Service, Settings, Some, Trace, [], alone, and_parts, ap, arith, cases_lt, command_before, cond, cut, done, done_before, done_last, earlier, ends_in, every_append, every_of, every_parts, every_weaker, false, false≢true, fences, in_service, inl, inr, is_free, is_sequential, is_startable, is_waiting, is_waiting_before, is_waiting_last, length, length_push, lt-ltb, name, nat_eq, nat_lt, not, or_cases, queues, refl, same_is, serves_in, service_in, service_is, service_name, startable_parts, step_right, subst, sym, true, true≢false, waiting, waits_below, ℕ, ⊎_elim, ◌&&◌, ◌++◌, ◌+◌, ◌<◌, ◌||◌, ◌∙◌, ◌∷◌, ◌≡◌, ◌≢◌, ◌⊎◌}
use Rattle.mscp_shown.proofs.Owners.{each_passing}

-- what holds of all that wait holds of one
pub at_waiting : (P : ℕ → Type 0) (t : Trace) → AllByRecursion P (waiting t) → (x : ℕ) → is_waiting t x ≡ true → P x
at_waiting P t h x w =
    let z = cut t x (waits_below t x w) w in
    (every_parts P z.0 (x ∷ z.1) (subst (AllByRecursion P) z.2.is h)).1.0

-- no earlier command that waits keeps y back
abbrev pub IsFree : Trace → ℕ → Type 0
IsFree t y = (x : ℕ) → is_waiting t x ≡ true → x < y → fences t y x ≡ false

free_of : (t : Trace) (y : ℕ) → is_free t y ≡ true → IsFree t y
unfolding is_free
free_of t y h x w l =
    let all = every_of (λ z. not (fences t y z)) (earlier t y) h in
    let each = each_passing (λ z. nat_lt z y) (λ z. not (fences t y z) ≡ true) (waiting t) all in
    not_true (fences t y x)
    (at_waiting (λ z. nat_lt z y ≡ true → not (fences t y z) ≡ true) t each x w (lt-ltb x y l))
  where
    not_true : (b : Bool) → not b ≡ true → b ≡ false
    not_true b h = grind arith

-- what waits after one more moment waited before, or came
pub waited : (t : Trace) (m : Moment) (x : ℕ) → x < length t → is_waiting (t ++ m ∷ []) x ≡ true
    → is_waiting t x ≡ true
waited t m x l w =
    (and_parts (is_waiting t x) (not (ends_in (name t x) m.1)) (sym (is_waiting_before t m x l) ∙ w)).0

pub below_or_last : (t : Trace) (m : Moment) (x : ℕ) → is_waiting (t ++ m ∷ []) x ≡ true
    → (x < length t) ⊎ ((x ≡ length t) × (queues m.1 ≡ true))
below_or_last t m x w =
    let l = waits_below (t ++ m ∷ []) x w in
    ⊎_elim (λ low. inl low)
    (λ high.
    let e : x ≡ length t = omega (arith, l, high, length_push t m) in
    inr (e, sym (is_waiting_last t m) ∙ (ap (is_waiting (t ++ m ∷ [])) (sym e) ∙ w)))
    (cases_lt x (length t))

fences_before : (t : Trace) (m : Moment) (x y : ℕ) → x < length t → y < length t
    → fences (t ++ m ∷ []) y x ≡ fences t y x
fences_before t m x y l k = λ i. fenced (command_before t m x l i) (command_before t m y k i)
  where
    fenced : Command → Command → Bool
    fenced a b = nat_eq a.unit b.unit && (is_sequential a.order || is_sequential b.order)

free_before : (t : Trace) (m : Moment) (y : ℕ) → y < length t → IsFree t y → IsFree (t ++ m ∷ []) y
free_before t m y k h x w l = grind (arith, fences_before, waited)

-- what is in service waits for none
abbrev pub ServedAreFree : Trace → Type 0
ServedAreFree t = (y : ℕ) → is_waiting t y ≡ true → in_service t y ≡ true → IsFree t y

-- the command that a step serves waits for none
pub served_free : (c : Settings) (t : Trace) (k : Block) (s : Service) (y : ℕ) → IsServed c t k s y → ServedAreFree t
    → IsFree t y
served_free c t k s y v h = ⊎_elim
    (λ e. h y v.waits e)
    (λ e. free_of t y (startable_parts c t y e).free)
    (or_cases (in_service t y) (is_startable c t y) v.next)

-- two that wait have two names
same_waiting : (t : Trace) (x y : ℕ) → Apart t (waiting t) → is_waiting t x ≡ true → is_waiting t y ≡ true
    → name t x ≡ name t y → x ≡ y
same_waiting t x y apart wx wy e =
    let z = cut t y (waits_below t y wy) wy in
    let a = alone t y z.0 z.1 apart z.2 in
    let P : ℕ → Type 0 = λ x. name t x ≡ name t y → x ≡ y in
    let other : (x : ℕ) → name t x ≢ name t y → P x = λ x n h. absurd (n h) in
    let all : AllByRecursion P (z.0 ++ y ∷ z.1) = every_append P z.0 (y ∷ z.1)
    (every_weaker (λ x. name t x ≢ name t y) P other z.0 a.before)
    ((λ h. refl), every_weaker (λ x. name t x ≢ name t y) P other z.1 a.behind) in
    at_waiting P t (subst (AllByRecursion P) (sym z.2.is) all) x wx e

module _ (c : Settings) (t : Trace) (m : Moment) (apart : Apart t (waiting t)) (r : IsRight c t m.0 m.1)
    (h : ServedAreFree t) where
  free_if_served : (y : ℕ) → is_waiting t y ≡ true → (o : Option Service) → service_in m.1 ≡ o
      → service_is (name t y) o ≡ true → IsFree t y
  free_if_served y w None e q = absurd (false≢true q)
  free_if_served y w (Some s) e q =
      let z = step_right c t m s apart e r in
      let v = z.4.served in
      let same : name t z.1 ≡ name t y = sym z.4.serves.same ∙ same_is (service_name s) (name t y) q in
      subst (IsFree t) (same_waiting t z.1 y apart v.waits w same) (served_free c t z.0 s z.1 v h)

  pub free_more : ServedAreFree (t ++ m ∷ [])
  free_more y w q = ⊎_elim
      (λ low. free_before t m y low (free_there y low (waited t m y low w) q))
      (λ last.
      let zero' : in_service (t ++ m ∷ []) y ≡ false =
      ap (in_service (t ++ m ∷ [])) last.0 ∙ ap (nat_lt 0) (done_last t m) in
      absurd (true≢false (sym q ∙ zero')))
      (below_or_last t m y w)
    where
      served_before : (y : ℕ) → y < length t → serves_in (name t y) m.1 ≡ false
          → in_service (t ++ m ∷ []) y ≡ true → in_service t y ≡ true
      served_before y low e q =
          let d = done_before t m y low in
          let one : done (t ++ m ∷ []) y ≡ done t y = d ∙ (ap (λ b. done t y + cond b 1 0) e ∙ omega arith) in
          sym (ap (nat_lt 0) one) ∙ q

      free_there : (y : ℕ) → y < length t → is_waiting t y ≡ true → in_service (t ++ m ∷ []) y ≡ true → IsFree t y
      free_there y low w q =
          let P : Bool → Type 0 = λ b. serves_in (name t y) m.1 ≡ b → IsFree t y in
          elim (serves_in (name t y) m.1) as P [
            | true ↦ λ e. free_if_served y w (service_in m.1) refl e
            | false ↦ λ e. h y w (served_before y low e q)
          ] refl
