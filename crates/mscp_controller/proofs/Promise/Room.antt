-- The commands and the untaken ends of each connection never exceed its credits, and one credit of it is kept.
use Rattle.mscp_controller.proofs.Basics.{◌≡◌, ℕ, ◌+◌, ◌<◌, ◌≤◌, Bool, true, false, not, List, [], ◌∷◌, ◌++◌, length, refl, ap, sym, subst, ◌∙◌, arith, append-nil, filter, if◌then◌else◌, count_by, slice_get, Option, Some, is_some, option_map, option_to_list, Ok, Err, AllByRecursion, length-append, length-map, length-drop, filter-append, true≢false, false≢true, ArrayVec, Command, Order, command_of, end_bytes, Connection, Name, name_on, same_connection, same_name, is_same, one_side, own_side, same_is, fewer, every_weaker, every_filter, every_from, filter_filter, filter_on, Sent, Event, Entry, Settings, credits_of, room_of, fault_of, is_queued, Trace, Moment, collect, sent_bytes, takes, Service, service_in, command, name, reference, waiting, waiting_by, aborts, aborted, aborted_unless, answer, ends_at, ends, untaken, balance, aborted_reference, arrival, IsRight, Report, ends_more, taken_more, Queues, arrives, queued_right, taken_when, two_free, kept_own, step_right, queues_by, waiting_by_length, Steady}

-- each connection's ends that were taken were there, its commands and untaken ends have credits, and one is kept
pub record Room (c : Settings) (t : Trace) : Type 0 where
  pub taken : (via : Connection) → count_by (λ m. takes via m.1) t ≤ length (ends c via t)
  pub room : (via : Connection) → length (waiting_by via t) + length (untaken c via t) ≤ credits_of c via
  pub spare : (via : Connection) → length (waiting_by via t) ≤ room_of c via

-- ---- lengths
-- no element passes both tests
two_filters : (p q : ℕ → Bool) (xs : List ℕ) → AllByRecursion (λ x. q x ≡ true → p x ≡ false) xs
    → length (filter p xs) + length (filter q xs) ≤ length xs
two_filters p q [] h = omega arith
two_filters p q (x ∷ xs) h = search (arith, two_filters p q xs h.1)

-- ---- what is aborted no longer waits
named_by : (via : Connection) (t : Trace) (other : ℕ) → filter (λ x. same_name (name t x) (name_on via other))
    (waiting t) ≡ filter (λ x. same_name (name t x) (name_on via other)) (waiting_by via t)
named_by via t other = search (arith, filter_on, every_from, filter_filter)

-- the answer to a message that aborts the command of this reference number, or none
abbrev Answer : Connection → ℕ → Option ℕ → Entry
Answer via q a = Entry.Sent via (Ok (Sent.Answered q a))

named_rest : (via : Connection) (t : Trace) (q other : ℕ) (a : Option ℕ) (xs : List ℕ) → filter (λ x. same_name (name t
    x) (name_on via other)) (waiting t) ≡ xs → a ≡ option_map (reference t) (slice_get xs 0) → length (filter (λ x. not
    (aborts (name t x) (Answer via q a))) (waiting_by via t)) + length xs ≤ length (waiting_by via t)
named_rest via t q other a [] e first = search (arith, fewer, not)
named_rest via t q other a (y ∷ ys) e first =
    let W = waiting_by via t in
    let p : ℕ → Bool = λ x. same_name (name t x) (name_on via other) in
    let keep : Option ℕ → ℕ → Bool = λ a x. not (aborts (name t x) (Answer via q a)) in
    let each = every_weaker (λ x. Unit {0} × (p x ≡ true)) (λ x. reference t x ≡ other) (λ x h. ap (λ (k : Name).
    k.reference) (same_is (name t x) (name_on via other) h.1)) (y ∷ ys) (subst (AllByRecursion (λ x. Unit {0} × (p x
    ≡ true))) e (every_filter (λ x. Unit {0}) p (waiting t) (every_from (λ x. Unit {0}) (λ x. tt) (waiting t)))) in
    let is : a ≡ Some other = first ∙ ap Some each.0 in
    let two = two_filters (keep a) p W (every_from (λ x. p x ≡ true → keep a x ≡ false) (λ x h. ap (λ a. keep a x) is
    ∙ ap not (is_same (name_on via other) (name t x) (sym (same_is (name t x) (name_on via other) h)))) W) in
    omega (arith, two, ap length (sym (named_by via t other) ∙ e))

-- an order that names none aborts none
aborted_rest : (via : Connection) (t : Trace) (q : ℕ) (o : Order) (f : Option ℕ) (a : Option ℕ) → a
    ≡ option_map (reference t) (slice_get (aborted_unless via t o f) 0) → length (filter (λ x. not (aborts (name t x)
    (Answer via q a))) (waiting_by via t)) + length (aborted_unless via t o f) ≤ length (waiting_by via t)
aborted_rest via t q o f a h6 = grind (arith, named_rest, fewer)

answered_length : (c : Settings) (via : Connection) (t : Trace) (b : List ℕ)
    → length (answer c via t b) ≡ length (aborted c via t (command_of b)) + 1
unfolding answer
answered_length c via t b = search (arith, length-append, length-map)

-- ---- what each moment leaves
-- the credits that are left behind it, and what it makes
pub record Fits (c : Settings) (via : Connection) (t : Trace) (m : Moment) : Type 0 where
  pub room : length (waiting_by via (t ++ m ∷ [])) + length (ends_at c via t m) + length (untaken c via t)
      ≤ credits_of c via
  pub spare : length (waiting_by via (t ++ m ∷ [])) ≤ room_of c via

module _ (c : Settings) (via : Connection) (t : Trace) where
  -- a moment that queues nothing of the connection and makes no end of it
  still : (m : Moment) → Room c t → queues_by via m ≡ false → ends_at c via t m ≡ [] → Fits c via t m
  still m h q e = search (arith, waiting_by_length via t m, not, fewer)

  balance_some : (balance c via t ≡ 0 → ⊥) → length (waiting_by via t) + length (untaken c via t) + 1 ≤ credits_of c via
  unfolding balance
  balance_some f = omega (arith, f)

  pub balance_two : 2 ≤ balance c via t → length (waiting_by via t) + length (untaken c via t) + 2 ≤ credits_of c via
  unfolding balance
  balance_two h = omega (arith, h)

taken_as_answer : (c : Settings) (via : Connection) (t : Trace) (command : Command) (q : Bool) (r : ℕ) (a : Option ℕ)
    → Sent.Answered r a ≡ taken_when c via t command q → a ≡ aborted_reference c via t command
taken_as_answer c via t command q r a h7 = grind (arith, true≢false)

-- ---- a step
served_fits : (c : Settings) (via : Connection) (t : Trace) (m : Moment) (s : Service) → Room c t → Steady c t
    → service_in m.1 ≡ Some s → IsRight c t m.0 m.1 → queues_by via m ≡ false
    → ends_at c via t m ≡ (if same_connection s.connection via then option_to_list s.ended else []) → Fits c via t m
served_fits c via t m s h st e r q ends =
    search (arith, step_right, waiting_by_length, still, kept_own, not, filter-append, fewer, length-append)

-- ---- a message
module _ (c : Settings) (via : Connection) (t : Trace) where
  queued_fits : (m : Moment) (b : List ℕ) → Room c t → Queues c via t b → ends_at c via t m ≡ [] → Fits c via t m
  queued_fits m b h k e = search (arith, queues_by via m, waiting_by_length via t m, balance_two, two_free, not, fewer)

  answered_fits : (event : Event) (q : ℕ) (a : Option ℕ)
      → Room c t → Ok (Sent.Answered q a) ≡ arrival c via t (sent_bytes event) → ends_at c via t (event, Answer via q a)
      ≡ answer c via t (sent_bytes event) → Fits c via t (event, Answer via q a)
  answered_fits event q a h r e =
      let b = sent_bytes event in
      let m : Moment = (event, Answer via q a) in
      let k = arrives c via t b (Sent.Answered q a) r in
      let is = taken_as_answer c via t (command_of b) (is_queued c (command_of b)) q a k.is in
      let rest = aborted_rest via t q (command_of b).order (fault_of c (command_of b)) a is in
      let more = waiting_by_length via t m in
      grind (arith, balance_some, answered_length, b, k, rest, more)

-- what a message leaves of the credits of a connection, its own or the other
sent_fits : (c : Settings) (via own : Connection) (t : Trace) (b : ArrayVec ℕ) (sent : Sent)
    → Room c t → Ok sent ≡ arrival c own t b.items
    → (here : Bool) → same_connection own via ≡ here → Fits c via t (Event.Send own b, Entry.Sent own (Ok sent))
sent_fits c via own t b (Sent.Queued q) h r true e =
    let m : Moment = (Event.Send own b, Entry.Sent own (Ok (Sent.Queued q))) in
    let k : Queues c own t b.items = queued_right c t m.0 m.1 refl (refl, r) in
    queued_fits c via t m b.items h (subst (λ s. Queues c s t b.items) (one_side own via e) k) refl
sent_fits c via own t b (Sent.Queued q) h r false e =
    still c via t (Event.Send own b, Entry.Sent own (Ok (Sent.Queued q))) h e refl
sent_fits c via own t b (Sent.Answered q a) h r true e =
    let Right : Connection → Type 0 = λ s. Ok (Sent.Answered q a) ≡ arrival c s t b.items in
    let side = one_side own via e in
    subst (λ s. Fits c via t (Event.Send s b, Answer s q a)) (sym side) (answered_fits c via t (Event.Send via b)
    q a h (subst Right side r) (ap (λ here. (if here then answer c via t b.items else []) ++ []) (own_side via)
    ∙ append-nil (answer c via t b.items)))
sent_fits c via own t b (Sent.Answered q a) h r false e = still c via
    t (Event.Send own b, Answer own q a) h refl (ap (λ here. (if here then answer c via t b.items else []) ++ []) e)

fits : (c : Settings) (via : Connection) (t : Trace) (event : Event) (entry : Entry)
    → Room c t → Steady c t → IsRight c t event entry → Fits c via t (event, entry)
fits c via t event (Entry.Looked list) h st r = still c via t (event, Entry.Looked list) h refl refl
fits c via t event (Entry.Taken other taken) h st r = still c via t (event, Entry.Taken other taken) h refl refl
fits c via t event (Entry.Stepped Report.Idle) h st r =
    search (arith, still c via t (event, Entry.Stepped Report.Idle) h refl refl)
fits c via t event (Entry.Stepped (Report.Served other reference unit lbn started seek ended)) h st r = search (
  arith,
  served_fits c via t (event, Entry.Stepped (Report.Served other reference unit lbn started seek ended)) (record {
    connection = other;
    reference = reference;
    unit = unit;
    lbn = lbn;
    started = started;
    seek = seek;
    ended = ended;
  }) h st refl r refl refl,
)
fits c via t event (Entry.Sent other (Err fault)) h st r =
    still c via t (event, Entry.Sent other (Err fault)) h refl refl
fits c via t (Event.Send own b) (Entry.Sent other (Ok sent)) h st r =
    search (arith, sent_fits c via own t b sent h r.1 (same_connection own via) refl)
fits c via t _ _ h st r = absurd r

-- ---- the ends that were taken
some_first : {X Y : Type 0} (xs : List X) (f : X → Y) → is_some (option_map f (slice_get xs 0)) ≡ true → 0 < length xs
some_first [] f e = absurd (false≢true e)
some_first (x ∷ xs) f e = omega arith

-- An end is taken only where there is one.
took_one : (c : Settings) (via : Connection) (t : Trace) (event : Event) (entry : Entry) → takes via entry ≡ true
    → IsRight c t event entry
    → (0 < length (untaken c via t)) × (ends_at c via t (event, entry) ≡ []) × (queues_by via (event, entry) ≡ false)
took_one c via t (Event.Take own) (Entry.Taken other (Some b)) q h =
    let side : own ≡ via = sym h.0 ∙ one_side other via q in (
      some_first (untaken c via t) _ (sym (ap is_some (h.1 ∙ ap (λ s. option_map (λ e. record { items = end_bytes e })
          (slice_get (untaken c s t) 0)) side))),
      refl,
      refl,
    )
took_one c via t event entry h5 h6 = grind (arith, false≢true)

-- what one moment leaves of one connection's
record Left (c : Settings) (via : Connection) (t : Trace) : Type 0 where
  taken : count_by (λ m. takes via m.1) t ≤ length (ends c via t)
  room : length (waiting_by via t) + length (untaken c via t) ≤ credits_of c via
  spare : length (waiting_by via t) ≤ room_of c via

left_more : (c : Settings) (via : Connection) (t : Trace) (m : Moment)
    → IsRight c t m.0 m.1 → Steady c t → Room c t → Left c via (t ++ m ∷ [])
unfolding untaken
left_more c via t m r st h =
    search (arith, taken_more via t m, ends_more, length-append, fits c via t m.0 m.1 h st r, took_one, length-drop)

-- Each right moment keeps the room.
pub room_more : (c : Settings) (t : Trace) (m : Moment) → IsRight c t m.0 m.1 → Steady c t → Room c t
    → Room c (t ++ m ∷ [])
room_more c t m r st h = record {
  taken = λ via. (left_more c via t m r st h).taken;
  room = λ via. (left_more c via t m r st h).room;
  spare = λ via. (left_more c via t m r st h).spare;
}

pub room_empty : (c : Settings) → Room c []
unfolding waiting ends untaken collect
room_empty c = record { taken = λ via. omega arith; room = λ via. omega arith; spare = λ via. omega arith }
