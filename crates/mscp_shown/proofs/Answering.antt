-- What a message that is answered when it comes, and a step, change of what is outstanding: each ends as many as it
-- takes away, and an answered message is one more.
use Rattle.mscp_shown.proofs.Common.{AllByRecursion, Block, Bool, Command, Connection, End, Entry, Event, List, Moment, Name, None, Ok, Option, Order, Service, Settings, Some, Step, Trace, [], aborted, aborted_reference, aborted_unless, aborts, answer, ap, arith, command_of, cond, connection, count_by, differ_is, ends_at, ends_in, ends_served, every_filter, every_from, every_weaker, false, fault_of, filter, filter_all, filter_filter, filter_on, if◌then◌else◌, is_differ, is_same, is_some, kept_own, name, name_on, not, option_map, outcome, own_end_with, reference, refl, same_connection, same_is, same_name, sent_bytes, service_name, slice_get, subst, sum_by_map, sum_by_push, sym, true, waiting, waiting_by, ℕ, ◌&&◌, ◌+◌, ◌∙◌, ◌∷◌, ◌≡◌, ◌≢◌}
use Rattle.mscp_controller.specs.declared.entry.Sent.{Sent}
use Rattle.mscp_shown.proofs.Counts.{one_gone, parted}
use Rattle.mscp_shown.proofs.Owed.{kept}

-- the answer to a message of a connection that aborts the command of this reference number, or none
abbrev pub Answer : Connection → ℕ → Option ℕ → Entry
Answer via q a = Entry.Sent via (Ok (Sent.Answered q a))

either_way : (a b : Name) → same_name a b ≡ same_name b a
either_way a b = search (arith, is_same, same_is, is_differ, differ_is)

named_by : (via : Connection) (t : Trace) (other : ℕ) → filter (λ x. same_name (name t x) (name_on via other))
    (waiting t) ≡ filter (λ x. same_name (name t x) (name_on via other)) (waiting_by via t)
named_by via t other = search (arith, filter_on, every_from, filter_filter)

-- ---- who is aborted
module _ (via : Connection) (t : Trace) (q : ℕ) (p : ℕ → Bool) where
  abbrev numbered : List ℕ → ℕ
  numbered xs = count_by (λ x. p (reference t x)) xs

  -- those that an answer leaves
  abbrev left : Option ℕ → List ℕ
  left a = filter (λ x. not (aborts (name t x) (Answer via q a))) (waiting_by via t)

  none_left : (a : Option ℕ) → a ≡ None → left a ≡ waiting_by via t
  none_left a e =
      ap left e
      ∙ filter_all (λ x. not (aborts (name t x) (Answer via q None))) (waiting_by via t)
      (every_from (λ x. not (aborts (name t x) (Answer via q None)) ≡ true) (λ x. refl) (waiting_by via t))

  named_left : (other : ℕ) (a : Option ℕ) (xs : List ℕ)
      → filter (λ x. same_name (name t x) (name_on via other)) (waiting t) ≡ xs
      → a ≡ option_map (reference t) (slice_get xs 0)
      → numbered (left a) + numbered xs ≡ numbered (waiting_by via t)
  named_left other a [] e first = ap (λ ws. numbered ws + 0) (none_left a first) ∙ omega arith
  named_left other a (y ∷ ys) e first =
      let q' : ℕ → Bool = λ x. same_name (name t x) (name_on via other) in
      let each = subst (AllByRecursion (λ x. Unit {0} × (q' x ≡ true))) e
      (every_filter (λ x. Unit {0}) q' (waiting t) (every_from (λ x. Unit {0}) (λ x. tt) (waiting t))) in
      let same : reference t y ≡ other =
      ap (λ (k : Name). k.reference) (same_is (name t y) (name_on via other) each.0.1) in
      let is : a ≡ Some other = first ∙ ap Some same in
      let keeps : left (Some other) ≡ filter (λ x. not (q' x)) (waiting_by via t) =
      filter_on (λ x. not (aborts (name t x) (Answer via q (Some other)))) (λ x. not (q' x)) (waiting_by via t)
      (every_from (λ x. not (aborts (name t x) (Answer via q (Some other))) ≡ not (q' x))
      (λ x. ap not (either_way (name_on via other) (name t x))) (waiting_by via t)) in
      let whole : y ∷ ys ≡ filter q' (waiting_by via t) = sym e ∙ named_by via t other in
      ap (λ o. numbered (left o) + numbered (y ∷ ys)) is
      ∙ ap (λ ws. numbered ws + numbered (y ∷ ys)) keeps
      ∙ ap (λ xs. numbered (filter (λ x. not (q' x)) (waiting_by via t)) + numbered xs) whole
      ∙ parted (λ x. p (reference t x)) q' (waiting_by via t)

  none_named : (a : Option ℕ) (xs : List ℕ) → xs ≡ [] → a ≡ option_map (reference t) (slice_get xs 0)
      → numbered (left a) + numbered xs ≡ numbered (waiting_by via t)
  none_named a xs e first = grind (arith, none_left)

  aborted_left : (o : Order) (f : Option ℕ) (a : Option ℕ)
      → a ≡ option_map (reference t) (slice_get (aborted_unless via t o f) 0)
      → numbered (left a) + numbered (aborted_unless via t o f) ≡ numbered (waiting_by via t)
  aborted_left o f a first = grind (arith, none_named, named_left)

-- ---- the ends of an answer
pub own_number : (c : Settings) (online : Bool) (figure : ℕ) (k : Command) (f : Option ℕ)
    → (own_end_with c online figure k f).reference ≡ k.reference
own_number c online figure k f = grind arith

answer_numbers : (c : Settings) (via : Connection) (t : Trace) (b : List ℕ) (p : ℕ → Bool)
    → count_by (λ (e : End). p e.reference) (answer c via t b)
    ≡ count_by (λ x. p (reference t x)) (aborted c via t (command_of b)) + cond (p (command_of b).reference) 1 0
unfolding answer
answer_numbers c via t b p = grind (arith, sum_by_push, sum_by_map, own_number)

-- an answered message is one more, whatever it aborts
pub answered : (c : Settings) (via : Connection) (t : Trace) (event : Event) (q : ℕ) (a : Option ℕ) (p : ℕ → Bool)
    → a ≡ aborted_reference c via t (command_of (sent_bytes event))
    → ends_at c via t (event, Answer via q a) ≡ answer c via t (sent_bytes event)
    → kept c via t (event, Answer via q a) p
    + count_by (λ (e : End). p e.reference) (ends_at c via t (event, Answer via q a))
    ≡ count_by (λ x. p (reference t x)) (waiting_by via t) + cond (p (command_of (sent_bytes event)).reference) 1 0
answered c via t event q a p first e =
    let k = command_of (sent_bytes event) in
    omega (
      arith,
      ap (count_by (λ (e : End). p e.reference)) e ∙ answer_numbers c via t (sent_bytes event) p,
      aborted_left via t q p k.order (fault_of c k) a first,
    )

-- ---- a step
-- a step's ends are as many as it takes away
module _ (c : Settings) (via : Connection) (t : Trace) (m : Moment) (s : Service) (k : Block) (y : ℕ)
    (front back : List ℕ) (st : Step c t m s k y front back) (p : ℕ → Bool) where
  kept_other : (x : ℕ) → name t x ≢ name t y → not (ends_in (name t x) m.1) ≡ true
  kept_other x n = ap not (ends_served (name t x) m.1 s st.serves.is
      ∙ ap (λ b. b && is_some s.ended) (is_differ (service_name s) (name t x) (λ h. n (sym h ∙ st.serves.same))))

  pub end_number : (e : End) → s.ended ≡ Some e → e.reference ≡ reference t y
  unfolding outcome
  end_number e h = search (arith, st.served.ended, h)

  pub goes : (e : End) → s.ended ≡ Some e → ends_at c via t m ≡
      (if same_connection s.connection via then e ∷ [] else [])
      → kept c via t m p + count_by (λ (e : End). p e.reference) (ends_at c via t m)
      ≡ count_by (λ x. p (reference t x)) (waiting_by via t) + 0
  goes e h at =
      let keep : ℕ → Bool = λ x. not (ends_in (name t x) m.1) in
      let on : ℕ → Bool = λ x. same_connection (connection t x) via in
      let a = st.serves.among in
      let own : keep y ≡ false = kept_own t m s y st.serves.is st.serves.same ∙ ap (λ o. not (is_some o)) h in
      let gone = one_gone (λ x. p (reference t x)) on keep y front back
      (every_weaker (λ x. name t x ≢ name t y) (λ x. keep x ≡ true) kept_other front a.before)
      (every_weaker (λ x. name t x ≢ name t y) (λ x. keep x ≡ true) kept_other back a.behind) own in
      let whole = subst (λ ws. count_by (λ x. p (reference t x)) (filter keep (filter on ws))
      + cond (on y && p (reference t y)) 1 0 ≡ count_by (λ x. p (reference t x)) (filter on ws)) (sym a.at.is) gone in
      let ended : count_by (λ (e : End). p e.reference) (ends_at c via t m)
      ≡ cond (on y && p (reference t y)) 1 0 =
      ap (count_by (λ (e : End). p e.reference)) at
      ∙ ap (λ v. count_by (λ (e : End). p e.reference) (if same_connection v via then e ∷ [] else []))
      st.served.connection
      ∙ one_end (on y) e (end_number e h) in
      omega (arith, whole, ended)
    where
      one_end : (here : Bool) (e : End) → e.reference ≡ reference t y
          → count_by (λ (e : End). p e.reference) (if here then e ∷ [] else [])
          ≡ cond (here && p (reference t y)) 1 0
      one_end here e h = grind arith
