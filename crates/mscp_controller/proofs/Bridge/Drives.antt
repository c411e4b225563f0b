-- The drives of a controller are those of the run: each unit's state and head.
use Rattle.mscp_controller.proofs.Basics.{◌≡◌, ◌≢◌, ℕ, Bool, true, false, cond, List, [], ◌∷◌, ◌++◌, map, refl, ap, sym, ◌∙◌, arith, find, nat_eq, if◌then◌else◌, Option, Some, None, is_some, option_map, AllByRecursion, eqb-true, eqb-false, true≢false, false≢true, Command, End, Shape, cylinder_of, IsUnitList, Block, Drive, Settings, unit_found, unit_shape, drive_of, fresh_drive, has_number, replaced, is_queued, head_after, Trace, Moment, service_in, command, order, unit, waiting, done, head, is_online, outcome, IsRight, block_of, end_of, drive_after, end_given, state_left, touched, drive_now, every_from, every_weaker, units_found, map_map, map_on, Step, some_same, each_queued, queued_open, service_by}
use Rattle.mscp_controller.proofs.Promise.States.{head_empty, head_kept, head_other, head_own, is_online_empty, is_online_ended, is_online_kept, is_online_other, is_online_unended}
use Rattle.mscp_controller.proofs.Bridge.Held.{held_of}

-- ---- units
pub found_number : (units : List Shape) (u : ℕ) (s : Shape)
    → find (λ x. nat_eq x.number u) units ≡ Some s → s.number ≡ u
found_number [] u s e = absurd (false≢true (ap is_some e))
found_number (x ∷ xs) u s e =
    let both : (b : Bool)
    → nat_eq x.number u ≡ b → cond b (Some x) (find (λ z. nat_eq z.number u) xs) ≡ Some s → s.number ≡ u = λ b. elim
    b as (λ b. nat_eq x.number u ≡ b → cond b (Some x) (find (λ z. nat_eq z.number u) xs) ≡ Some s → s.number ≡ u) [
      | true ↦ λ q h. ap (λ (z : Shape). z.number) (sym (some_same x s h)) ∙ eqb-true x.number u q
      | false ↦ λ q h. found_number xs u s h
    ] in
    both (nat_eq x.number u) refl e

pub find_map : {X Y : Type 0} (p : Y → Bool) (f : X → Y) (xs : List X)
    → find p (map f xs) ≡ option_map f (find (λ x. p (f x)) xs)
find_map p f [] = refl
find_map p f (x ∷ xs) = search (arith, find_map p f xs)

-- ---- the units of commands
-- the command's unit is configured
abbrev pub IsConfigured : Settings → Command → Type 0
IsConfigured c k = is_some (unit_found c k.unit) ≡ true

queued_configured : (c : Settings) (k : Command) → is_queued c k ≡ true → IsConfigured c k
queued_configured c k q = search (arith, queued_open, true≢false)

-- ---- drives
-- the drive of a unit after t, by the unit's number
abbrev pub drive_by : Settings → Trace → ℕ → Drive
drive_by c t u = record { unit = unit_shape c u; online = is_online t u; head = head c t u }

-- The drives are those of the units, and each waiting command has one.
pub record Driven (c : Settings) (t : Trace) (ds : List Drive) : Type 0 where
  pub drives : ds ≡ map (drive_now c t) c.units
  pub configured : AllByRecursion (λ x. IsConfigured c (command t x)) (waiting t)

same_drive : (c : Settings) (t : Trace) (s : Shape) (u : ℕ) → unit_found c u ≡ Some s → s.number ≡ u
    → drive_now c t s ≡ drive_by c t u
same_drive c t s u e n = search arith

-- The drive that is found is that of the number.
pub drive_found : (c : Settings) (t : Trace) (ds : List Drive) (u : ℕ) → Driven c t ds → is_some (unit_found c u) ≡ true
    → drive_of ds u ≡ drive_by c t u
drive_found c t ds u d h = search (arith, find_map, same_drive, found_number, false≢true)

-- ---- at first, and where nothing is served
configured_more : (c : Settings) (t : Trace) (m : Moment) → IsRight c t m.0 m.1 → AllByRecursion (λ x. IsConfigured c
    (command t x)) (waiting t) → AllByRecursion (λ x. IsConfigured c (command (t ++ m ∷ []) x)) (waiting (t ++ m ∷ []))
configured_more c t m r h = each_queued c (IsConfigured c) (queued_configured c) t m r h

pub driven_fresh : (c : Settings) → Driven c [] (map fresh_drive c.units)
unfolding waiting
driven_fresh c = search (arith, map_on, every_from, is_online_empty, head_empty)

pub driven_kept : (c : Settings) (t : Trace) (m : Moment) (ds : List Drive) → service_in m.1 ≡ None
    → IsRight c t m.0 m.1 → Driven c t ds → Driven c (t ++ m ∷ []) ds
driven_kept c t m ds n r d = grind (arith, configured_more, map_on, every_from, is_online_kept, head_kept)

-- ---- a step
-- a record's end is its command's
pub end_held : (c : Settings) (t : Trace) (k : Block) (y : ℕ)
    → end_given k (drive_by c t (unit t y)) (held_of t y) ≡ end_of c t k y
unfolding outcome
end_held c t k y = refl

module _ (c : Settings) (t : Trace)
    (m : Moment) (k : Block) (y : ℕ) (front back : List ℕ) (st : Step c t m (service_by c t k y) k y front back) where
  state_held : (o : Option End)
      → end_of c t k y ≡ o → state_left (is_online t (unit t y)) (order t y) o ≡ is_online (t ++ m ∷ []) (unit t y)
  state_held None e = sym (is_online_unended c t m (service_by c t k y) k y front back st e)
  state_held (Some end) e = sym (is_online_ended c t m (service_by c t k y) k y front back end st e)

  head_held : head_after (nat_eq (done t y) 0) (option_map (cylinder_of (unit_shape c (unit t y)))
      (touched (drive_by c t (unit t y)) (held_of t y))) (head c t (unit t y)) ≡ head c (t ++ m ∷ []) (unit t y)
  unfolding block_of
  head_held = sym (head_own c t m (service_by c t k y) k y front back st)

  own_served : drive_after k (drive_by c t (unit t y)) (held_of t y) ≡ drive_by c (t ++ m ∷ []) (unit t y)
  own_served = search (arith, end_held c t k y, state_held (end_of c t k y) refl, head_held)

one_served : (c : Settings) (t : Trace) (m : Moment) (k : Block) (y : ℕ) (front back : List ℕ) → Step c t m
    (service_by c t k y) k y front back → (s : Shape) → unit_found c s.number ≡ Some s → (if nat_eq s.number (unit t y)
    then drive_after k (drive_by c t (unit t y)) (held_of t y) else drive_now c t s) ≡ drive_now c (t ++ m ∷ []) s
one_served c t m k y front back st s found =
    let t' = t ++ m ∷ [] in
    let u = unit t y in
    let served : Bool → Drive = λ b. if b then drive_after k (drive_by c t u) (held_of t y) else drive_now c t s in
    let both : (b : Bool) → nat_eq s.number u ≡ b → served b ≡ drive_now c t' s =
    λ b. elim b as (λ b. nat_eq s.number u ≡ b → served b ≡ drive_now c t' s) [
      | true ↦ search (arith, t', u, eqb-true, own_served, same_drive)
      | false ↦ λ e.
          let n : u ≢ s.number = λ h. eqb-false s.number u e (sym h) in
          λ i. record {
            unit = s;
            online = sym (is_online_other c t m (service_by c t k y) k y front back s.number st n)
                i;
            head = sym (head_other c t m (service_by c t k y) k y front back s.number st n) i;
          }
    ] in
    both (nat_eq s.number u) refl

-- A step of y leaves the drives of the run.
pub driven_served : (c : Settings) (t : Trace) (m : Moment) (k : Block) (y : ℕ) (front back : List ℕ) (ds : List Drive)
    → IsUnitList c.units → Step c t m (service_by c t k y) k y front back → IsRight c t m.0 m.1 → Driven c t ds
    → Driven c (t ++ m ∷ []) (replaced (unit t y) (drive_after k (drive_by c t (unit t y)) (held_of t y)) ds)
driven_served c t m k y front back ds l st r d =
    let t' = t ++ m ∷ [] in
    let new = drive_after k (drive_by c t (unit t y)) (held_of t y) in
    let serve : Drive → Drive = λ q. if has_number (unit t y) q then new else q in
    record {
      drives = ap (map serve) d.drives ∙ (map_map (drive_now c t) serve c.units ∙ map_on (λ s. serve (drive_now c t s))
          (drive_now c t') c.units (every_weaker (λ s. unit_found c s.number ≡ Some s) (λ s. serve (drive_now c t s)
          ≡ drive_now c t' s) (one_served c t m k y front back st) c.units (units_found c.units l)));
      configured = configured_more c t m r d.configured;
    }
