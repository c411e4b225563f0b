-- What may start, as the records and as the history say it.
use Rattle.mscp_controller.proofs.Basics.{◌≡◌, ℕ, suc, ◌+◌, ◌<◌, Bool, true, not, List, [], ◌∷◌, ◌++◌, map, take, drop, get_or, length, refl, ap, ◌∙◌, subst, arith, filter, range_with_len, drop_more, get_or-map, length-map, take-append-drop, take-map, list_all-map, All-from_recursion, Drive, drive_of, Record, drive_at, no_record, record_at, choice_of, is_open_at, open_places, view_of, Settings, Trace, command, unit, waiting, earlier, is_idle, is_free, is_startable, startable, cost, choice, view, every_kept, every_weaker, range_below, map_map, map_on, cut_of, earlier_is}
use Rattle.mscp_queue.specs.Views as records
use Rattle.mscp_controller.proofs.Bridge.Drives.{Driven, IsConfigured, drive_by, drive_found}
use Rattle.mscp_controller.proofs.Bridge.Held.{held_of}

-- the command at a place of those that wait
abbrev pub waiting_at : Trace → ℕ → ℕ
waiting_at t place = get_or (waiting t) place 0

module _ (t : Trace) (place : ℕ) (l : place < length (waiting t)) where
  -- the waiting commands, cut at a place
  pub cut_at : waiting t ≡ take place (waiting t) ++ waiting_at t place ∷ drop (place + 1) (waiting t)
  cut_at = search (arith, take-append-drop place (waiting t), drop_more (waiting t) place 0 l)

  -- its record
  pub record_held : record_at (map (held_of t) (waiting t)) place ≡ held_of t (waiting_at t place)
  record_held = get_or-map (held_of t) (waiting t) place 0 no_record l

-- a filter of the elements, by their places
pub filter_places : (p : ℕ → Bool) (q : ℕ → Bool) (g : ℕ → ℕ) (a : ℕ) (xs : List ℕ)
    → ((i : ℕ) → i < length xs → (g (a + i) ≡ get_or xs i 0) × (p (get_or xs i 0) ≡ q (a + i)))
    → filter p xs ≡ map g (filter q (range_with_len a (length xs)))
filter_places p q g a [] h = refl
filter_places p q g a (x ∷ xs) h =
    let here = h 0 (omega arith) in
    let at : a + 0 ≡ a = omega arith in
    let gx : g a ≡ x = subst (λ j. g j ≡ x) at here.0 in
    let px : p x ≡ q a = subst (λ j. p x ≡ q j) at here.1 in
    let rest = filter_places p q g (a + 1) xs (λ i l.
    subst (λ j. (g j ≡ get_or xs i 0) × (p (get_or xs i 0) ≡ q j)) (omega arith) (h (suc i) (omega arith))) in
    search arith

module _ (t : Trace) (place : ℕ) (l : place < length (waiting t)) where
  -- those in front of a place
  pub front_held : earlier t (waiting_at t place) ≡ take place (waiting t)
  front_held = search (arith, cut_at t place l, earlier_is, cut_of)

  free_held : is_free t (waiting_at t place)
      ≡ records.is_free (held_of t (waiting_at t place)) (take place (map (held_of t) (waiting t)))
  unfolding is_free
  free_held = search (arith, front_held, held_of t, take-map (held_of t) place (waiting t), not, list_all-map)

-- where nothing is in service, what may start is what the records say
pub startable_held : (c : Settings) (t : Trace) (place : ℕ) → place < length (waiting t) → is_idle t ≡ true
    → is_startable c t (waiting_at t place) ≡ is_open_at c.budget (map (held_of t) (waiting t)) place
unfolding is_startable
startable_held c t place l idle = grind (arith, free_held, record_held, front_held, take-map, list_all-map)

-- the commands that may start are those at the places that may
pub startable_places : (c : Settings) (t : Trace) → is_idle t ≡ true
    → startable c t ≡ map (waiting_at t) (open_places c.budget (map (held_of t) (waiting t)))
unfolding startable
startable_places c t idle = search (arith, held_of t, filter_places, startable_held, length-map)

-- what a picker sees of a record is what it sees of its command
choice_held : (c : Settings) (t : Trace) (y : ℕ) → choice_of (drive_by c t (unit t y)) (held_of t y) ≡ choice c t y
unfolding cost
choice_held c t y = refl

module _ (c : Settings) (t : Trace) (ds : List Drive) where
  choice_at : (place : ℕ) → Driven c t ds → place < length (waiting t) → choice_of (drive_at ds (map (held_of t)
      (waiting t)) place) (record_at (map (held_of t) (waiting t)) place) ≡ choice c t (waiting_at t place)
  choice_at place d l =
      let y = waiting_at t place in
      let known = All-from_recursion (λ x. IsConfigured c (command t x)) (waiting t) d.configured place 0 l in
      ap (λ (r : Record). choice_of (drive_of ds r.command.unit) r) (record_held t place l)
      ∙ (ap (λ q. choice_of q (held_of t y)) (drive_found c t ds (unit t y) d known) ∙ choice_held c t y)

  -- and so the view is the same
  pub view_held : Driven c t ds → is_idle t ≡ true → view c t ≡ view_of c.budget ds (map (held_of t) (waiting t))
  view_held d idle =
      search (arith, startable_places, length-map, map_map, map_on, every_kept, every_weaker, choice_at, range_below)
