-- Each unit's state and head when one more moment comes.
use Rattle.mscp_controller.proofs.Basics.{◌≡◌, ◌≢◌, ℕ, Bool, true, false, List, [], ◌∷◌, ◌++◌, refl, ap, ◌∙◌, append-nil, arith, nat_eq, flat_map, if◌then◌else◌, Option, Some, None, option_map, option_to_list, AllByRecursion, flat_map-append, ne_eqb, eq-eqb, is_differ, is_same, End, cylinder_of, Head, Block, Settings, unit_shape, state_after, head_after, Trace, Moment, collect, last_or, Service, service_in, name, unit, order, waiting, service_name, states_ended, states_served, states_at, is_online, cylinder_touched, way, way_started, head_cylinder, head_up, head, every_weaker, Alone, Step, collect_more, last_or-append}

-- ---- at first
-- A unit is available.
pub is_online_empty : (u : ℕ) → is_online [] u ≡ false
unfolding is_online collect
is_online_empty u = refl

-- Its head is on cylinder 0 and goes up.
pub head_empty : (c : Settings) (u : ℕ) → head c [] u ≡ record { cylinder = 0; up = true }
unfolding head_cylinder head_up collect
head_empty c u = refl

-- ---- one more moment
-- A unit's state is what the moment gives it, or else what it was.
pub is_online_more : (t : Trace) (m : Moment) (u : ℕ)
    → is_online (t ++ m ∷ []) u ≡ last_or (states_at u t m) (is_online t u)
unfolding is_online
is_online_more t m u = search (arith, collect_more, last_or-append)

-- A head stands at the block that the moment touches, or else where it was.
pub head_cylinder_more : (c : Settings) (t : Trace) (m : Moment) (u : ℕ) → head_cylinder c (t ++ m ∷ []) u
    ≡ last_or (cylinder_touched (unit_shape c u) u (service_in m.1)) (head_cylinder c t u)
unfolding head_cylinder
head_cylinder_more c t m u = search (arith, collect_more, last_or-append)

-- It goes the way that the moment starts it, or else as it did.
pub head_up_more : (c : Settings) (t : Trace) (m : Moment) (u : ℕ) → head_up c (t ++ m ∷ []) u
    ≡ last_or (way_started (unit_shape c u) u (head_cylinder c t u) (service_in m.1)) (head_up c t u)
unfolding head_up
head_up_more c t m u = search (arith, collect_more, last_or-append)

-- ---- lists where one element counts
flat_none : {X : Type 0} (f : ℕ → List X) (xs : List ℕ) → AllByRecursion (λ x. f x ≡ []) xs → flat_map f xs ≡ []
flat_none f [] h = refl
flat_none f (x ∷ xs) h = ap (λ l. l ++ flat_map f xs) h.0 ∙ flat_none f xs h.1

flat_one : {X : Type 0} (f : ℕ → List X) (xs : List ℕ) (y : ℕ) (ys : List ℕ) → AllByRecursion (λ x. f x ≡ []) xs
    → AllByRecursion (λ x. f x ≡ []) ys → flat_map f (xs ++ y ∷ ys) ≡ f y
flat_one f xs y ys h k = grind (arith, flat_map-append, flat_none, append-nil)

if_same : {X : Type 0} (b : Bool) (x : X) → (if b then x else x) ≡ x
if_same b x = grind arith

-- ---- the unit's state
-- what a waiting command gives to the unit of this number, where this service comes
given : Trace → ℕ → Option Service → ℕ → List Bool
given t u o x = if nat_eq (unit t x) u then states_served (name t x) (order t x) o else []

-- A step of y gives a state to y's unit alone, and only where it ends y.
states_step : (t : Trace) (m : Moment) (s : Service) (y u : ℕ) (front back : List ℕ)
    → Alone t y front back → service_in m.1 ≡ Some s → service_name s ≡ name t y
    → states_at u t m ≡ (if nat_eq (unit t y) u then states_ended (order t y) s.ended else [])
unfolding given
states_step t m s y u front back a e r = search
    (arith, given t u (Some s), is_same (service_name s) (name t y) r, flat_one, every_weaker, is_differ, if_same)

-- Where no step serves, each unit keeps its state.
states_none : (t : Trace) (u : ℕ) (xs : List ℕ) → flat_map (given t u None) xs ≡ []
unfolding given
states_none t u [] = refl
states_none t u (x ∷ xs) = grind (arith, states_none t u xs, given, if_same)

pub is_online_kept : (t : Trace) (m : Moment) (u : ℕ) → service_in m.1 ≡ None
    → is_online (t ++ m ∷ []) u ≡ is_online t u
unfolding given
is_online_kept t m u e = search (arith, is_online_more t m u, states_none t u (waiting t), given)

module _ (c : Settings) (t : Trace) (m : Moment) (s : Service) (k : Block) (y : ℕ) (front back : List ℕ) where
  -- A step of y keeps the states of the other units.
  pub is_online_other : (u : ℕ) → Step c t m s k y front back → unit t y ≢ u → is_online (t ++ m ∷ []) u ≡ is_online t u
  is_online_other u st n =
      search (arith, is_online_more, states_step t m s y u front back st.serves.among st.serves.is st.serves.same)

  own_states : Step c t m s k y front back
      → is_online (t ++ m ∷ []) (unit t y) ≡ last_or (states_ended (order t y) s.ended) (is_online t (unit t y))
  own_states st = search
      (arith, is_online_more, states_step t m s y (unit t y) front back st.serves.among st.serves.is st.serves.same)

  -- It gives its own unit the state that its order leaves where it ends.
  pub is_online_ended : (e : End) → Step c t m s k y front back → s.ended ≡ Some e
      → is_online (t ++ m ∷ []) (unit t y) ≡ state_after (is_online t (unit t y)) (order t y) e.status
  is_online_ended e st h = search (arith, own_states st)

-- Where it goes on, its unit keeps its state too.
pub is_online_unended : (c : Settings) (t : Trace) (m : Moment) (s : Service) (k : Block) (y : ℕ) (front back : List ℕ)
    → Step c t m s k y front back → s.ended ≡ None → is_online (t ++ m ∷ []) (unit t y) ≡ is_online t (unit t y)
is_online_unended c t m s k y front back st h = search (arith, own_states c t m s k y front back st)

-- ---- the head
pair : ℕ → Bool → Head
pair k up = record { cylinder = k; up = up }

goes : (h : Head) (own : Bool) (o : Option ℕ) (started : Bool)
    → pair (last_or (if own then option_to_list o else []) h.cylinder) (last_or (if started then flat_map
    (way h.cylinder) (if own then option_to_list o else []) else []) h.up) ≡ (if own then head_after started o h else h)
unfolding pair
goes h own o started = grind (arith, pair)

-- Where no step serves, each head stays.
pub head_kept : (c : Settings) (t : Trace) (m : Moment) (u : ℕ) → service_in m.1 ≡ None
    → head c (t ++ m ∷ []) u ≡ head c t u
unfolding pair
head_kept c t m u e = search (arith, head_cylinder_more c t m u, head_up_more c t m u, pair)

module _ (c : Settings) (t : Trace) (m : Moment) (s : Service) (k : Block) (y : ℕ) (front back : List ℕ) where
  -- A step of y keeps the heads of the other units.
  pub head_other : (u : ℕ) → Step c t m s k y front back → unit t y ≢ u → head c (t ++ m ∷ []) u ≡ head c t u
  unfolding pair
  head_other u st n = search (arith, ne_eqb, head_cylinder_more, head_up_more, pair, goes)

  -- It moves the head of its own unit by the block that it touches.
  pub head_own : Step c t m s k y front back → head c (t ++ m ∷ []) (unit t y)
      ≡ head_after s.started (option_map (cylinder_of (unit_shape c (unit t y))) s.lbn) (head c t (unit t y))
  unfolding pair
  head_own st = search (arith, eq-eqb, head_cylinder_more, head_up_more, pair, goes)
