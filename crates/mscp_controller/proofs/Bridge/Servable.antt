-- The record that may be served next: the run serves its command next, too.
use Rattle.mscp_controller.proofs.Bridge.Basics.{◌≡◌, ℕ, ◌+◌, ◌<◌, Bool, true, ◌&&◌, ◌||◌, List, [], ◌∷◌, map, take, drop, get_or, length, refl, ap, ◌∙◌, subst, arith, All, nat_eq, Option, Some, None, is_some, AllByRecursion, list_all, eq-eqb, eqb-false, lt-ltb, get_or-map, length-map, recursion_from_All, Drive, Choice, drive_of, Name, Record, record_at, IsNext, Settings, unit_found, Trace, name, unit, is_idle, is_waiting, waiting, done, in_service, is_startable, startable, view, same_is, every_mapped, every_weaker, every_parts, waiting_waits, held_of, Driven, drive_by, drive_found, cut_at, record_held, startable_held, startable_places, view_held, waiting_at}

pub all_of : (p : ℕ → Bool) (xs : List ℕ) → AllByRecursion (λ x. p x ≡ true) xs → list_all p xs ≡ true
all_of p [] h = refl
all_of p (x ∷ xs) h = ap (λ b. b && list_all p xs) h.0 ∙ all_of p xs h.1

-- the records are idle where the commands are
idle_held : (t : Trace) → All (λ r. r.done ≡ 0) (map (held_of t) (waiting t)) → is_idle t ≡ true
idle_held t h = search (arith, all_of, every_weaker, eq-eqb, every_mapped, recursion_from_All)

-- what is known of a record that may be served next: that its command may be
pub record Next (c : Settings) (t : Trace) (place : ℕ) : Type 0 where
  pub inside : place < length (waiting t)
  pub next : (in_service t (waiting_at t place) || is_startable c t (waiting_at t place)) ≡ true

-- and that it was begun, or where nothing was, that it is picked
pub record Chosen (c : Settings) (picks : List Choice → ℕ → Type 0) (t : Trace) (begun : Option Name) (place : ℕ) :
    Type 0 where
  pub same : (n : Name) → begun ≡ Some n → name t (waiting_at t place) ≡ n
  pub picked : begun ≡ None → nat_eq (done t (waiting_at t place)) 0 ≡ true
      → (i : ℕ) × (i < length (startable c t)) × (get_or (startable c t) i 0 ≡ waiting_at t place) × picks (view c t) i

pub next_held : (c : Settings) (picks : List Choice → ℕ → Type 0) (t : Trace) (ds : List Drive) (begun : Option Name)
    (place : ℕ) → Driven c t ds → IsNext picks c.budget ds (map (held_of t) (waiting t)) begun place
    → Next c t place × Chosen c picks t begun place
next_held c picks t ds begun place d n =
    grind (
      arith,
      length-map,
      record_held,
      idle_held,
      startable_held,
      eqb-false,
      lt-ltb,
      same_is,
      startable_places,
      get_or-map,
      view_held,
    )

-- what is read of the record at a place: it is that of its command, and its drive that of its unit
pub record Reads (c : Settings) (t : Trace) (ds : List Drive) (ws : List Record) (place : ℕ) : Type 0 where
  pub own : record_at ws place ≡ held_of t (waiting_at t place)
  pub at : drive_of ds (record_at ws place).command.unit ≡ drive_by c t (unit t (waiting_at t place))

pub reads : (c : Settings) (t : Trace) (ds : List Drive) (ws : List Record) (place : ℕ) → Driven c t ds
    → ws ≡ map (held_of t) (waiting t) → place < length (waiting t) → Reads c t ds ws place
reads c t ds ws place d e l =
    let W = waiting t in
    let y = waiting_at t place in
    let found : is_some (unit_found c (unit t y)) ≡ true =
    (every_parts (λ x. is_some (unit_found c (unit t x)) ≡ true) (take place W) (y ∷ drop (place + 1) W)
    (subst (AllByRecursion (λ x. is_some (unit_found c (unit t x)) ≡ true)) (cut_at t place l) d.configured)).1.0 in
    let own : record_at ws place ≡ held_of t y = ap (λ zs. record_at zs place) e ∙ record_held t place l in
    search (arith, drive_found c t ds (unit t y) d found)

pub waits_at : (t : Trace) (place : ℕ) → place < length (waiting t) → is_waiting t (waiting_at t place) ≡ true
waits_at t place l =
    let P : ℕ → Type 0 = λ x. is_waiting t x ≡ true in
    (every_parts P (take place (waiting t)) (waiting_at t place ∷ drop (place + 1) (waiting t))
    (subst (AllByRecursion P) (cut_at t place l) (waiting_waits t))).1.0
