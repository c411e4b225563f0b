-- Who keeps a command back, as the records and as the history say it.
use Rattle.mscp_controller.proofs.Common.{◌≡◌, ⊎_elim, ℕ, ◌+◌, ◌<◌, ◌≤◌, Bool, true, not, ◌&&◌, ◌||◌, List, [], ◌∷◌, ◌++◌, map, take, get_or, length, refl, ap, sym, ◌∙◌, arith, filter, find, nat_le, Some, list_all, position, range_with_len, and-false, get_or-take, length-append, length-map, length-take-le, map-append, Name, Holder, same_name, has_name, record_at, is_nobody, every_kept, every_weaker, range_below, at_place, find_cases, find_first, find_none, map_map, map_on, position_first, position_none, Settings, Trace, earlier, is_idle, name, waiting, holder, holders, holders_found, holders_of, keeps_back, fences, is_free, is_startable, passed, charge}
use Rattle.mscp_queue.specs.Why as records
use Rattle.mscp_controller.proofs.Bridge.Basics.{has_held, held_of, filter_places, front_held, record_held, waiting_at}

module _ (c : Settings) (t : Trace) (place front : ℕ) (l : place < length (waiting t)) (b : front < place) where
  -- what is told of an earlier record is what is told of its command
  holder_held : holder c t (waiting_at t place) (waiting_at t front) ≡ records.holder_of c.budget
      (record_at (map (held_of t) (waiting t)) place) (record_at (map (held_of t) (waiting t)) front)
  holder_held = search (arith, record_held t place l, record_held t front (omega (arith, l, b)))

  keeps_held : keeps_back c t (waiting_at t place) (waiting_at t front) ≡ records.keeps_back c.budget
      (record_at (map (held_of t) (waiting t)) place) (record_at (map (held_of t) (waiting t)) front)
  keeps_held = ap (λ (h : Holder). h.fences || h.overdrawn) holder_held

-- all that keep the record at a place back are those that keep its command back
places_held : (c : Settings) (t : Trace) (place : ℕ) → place < length (waiting t)
    → records.holders_at c.budget (map (held_of t) (waiting t)) place ≡ holders c t (waiting_at t place)
unfolding holders
places_held c t place l =
    let W = waiting t in
    let rs = map (held_of t) W in
    let y = waiting_at t place in
    let front = take place W in
    let q : ℕ → Bool = λ k. records.keeps_back c.budget (record_at rs place) (record_at rs k) in
    let tell : ℕ → Holder = λ k. records.holder_of c.budget (record_at rs place) (record_at rs k) in
    let own : ℕ → Holder = λ k. holder c t y (waiting_at t k) in
    let long : length front ≡ place = length-take-le place W (omega (arith, l)) in
    let at : (k : ℕ)
    → k < length front → get_or front k 0 ≡ waiting_at t k = λ k b. get_or-take place W k 0 (omega (arith, b, long)) in
    let zero_more : (k : ℕ) → 0 + k ≡ k = λ k. omega arith in
    sym (ap (λ zs. map (holder c t y) (filter (keeps_back c t y) zs)) (front_held t place l)
    ∙ (ap (map (holder c t y)) (filter_places (keeps_back c t y) q (waiting_at t) 0 front (λ k b. (
      ap (waiting_at t) (zero_more k) ∙ sym (at k b),
      ap (keeps_back c t y) (at k b) ∙ (keeps_held c t place k l (omega (arith, b, long)) ∙ ap q (sym (zero_more k))),
    ))) ∙ (map_map (waiting_at t) (holder c t y) (filter q (range_with_len 0 (length front))) ∙ (ap (λ n. map own
    (filter q (range_with_len 0 n))) long ∙ map_on own tell (filter q (range_with_len 0 place)) (every_kept (λ k.
    own k ≡ tell k) q (range_with_len 0 place) (every_weaker (λ k. (0 ≤ k) × (k < 0 + place)) (λ k. own k ≡ tell k)
    (λ k b. holder_held c t place k l (omega (arith, b.1))) (range_with_len 0 place) (range_below 0 place)))))))

-- of the waiting command of a name they are the same
pub holders_of_held : (c : Settings) (t : Trace) (n : Name)
    → records.holders_of_name c.budget (map (held_of t) (waiting t)) n ≡ holders_of c t n
unfolding holders_of
holders_of_held c t n =
    let h = held_of t in
    let rs = map h (waiting t) in
    let q : ℕ → Bool = λ x. same_name (name t x) n in
    ⊎_elim
    (λ none.
    ap (records.holders_at_place c.budget rs) (position_none (has_name n) rs (has_held t n (waiting t) none))
    ∙ sym (ap (holders_found c t) (find_none q (waiting t) none)))
    (λ some.
    let A = some.0 in
    let x = some.1 in
    let B = some.2 in
    let f = some.3 in
    let cut : rs ≡ map h A ++ h x ∷ map h B = ap (map h) f.is ∙ map-append h A (x ∷ B) in
    let inside : length A < length (waiting t) = omega (arith, ap length f.is, length-append A (x ∷ B)) in
    let own : waiting_at t (length A) ≡ x = (at_place (waiting t) A x B (length A) 0 f.is refl).item in
    ap (records.holders_at_place c.budget rs) (ap (position (has_name n)) cut
    ∙ (position_first (has_name n) (map h A) (h x) (map h B) (has_held t n A f.before) f.passed
    ∙ ap Some (length-map A h)))
    ∙ (places_held c t (length A) inside ∙ ap (holders c t) own
    ∙ sym (ap (holders_found c t) (ap (find q) f.is ∙ find_first q A x B f.before f.passed))))
    (find_cases q (waiting t))

-- ---- nobody keeps back what may start
none_keeps : {X : Type 0} (told : X → Holder) (fences affords : X → Bool) (xs : List X) → is_nobody (map told
    (filter (λ z. fences z || not (affords z)) xs)) ≡ (list_all (λ z. not (fences z)) xs && list_all affords xs)
none_keeps told fences affords [] = refl
none_keeps {X} told fences affords (x ∷ xs) = search (arith, none_keeps told fences affords xs, not, and-false)

-- while nothing is in service a command may start exactly if nobody keeps it back
pub startable_unheld : (c : Settings) (t : Trace) (y : ℕ) → is_idle t ≡ true
    → is_startable c t y ≡ is_nobody (holders c t y)
unfolding is_startable is_free holders
startable_unheld c t y idle =
    let affords : ℕ → Bool = λ z. nat_le (passed t z + charge t y) c.budget in
    ap (λ b. b && list_all (λ z. not (fences t y z)) (earlier t y) && list_all affords (earlier t y)) idle
    ∙ sym (none_keeps (holder c t y) (fences t y) affords (earlier t y))
