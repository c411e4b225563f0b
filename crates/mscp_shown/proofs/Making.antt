-- The ends that a moment makes: each fits the command that is outstanding under its name.
use Rattle.mscp_shown.proofs.Common.{AllByRecursion, AreBytes, Bad, Block, Bool, Connection, End, Entry, Event, First, IsRight, IsServed, List, Moment, Name, None, Option, Order, Pairs, Promise, Report, Sent, Service, Settings, Some, Trace, [], aborted, aborted_end, aborted_unless, answer, ap, arith, command, command_of, cond, connection, count_by, cut, done, done_before, done_last, drop_last, ends_in, every_append, every_both, every_filter, every_parts, every_weaker, false, false≢true, fault_of, figure_asked, figure_of, filter, get_or, goes_on, good, good_before, if◌then◌else◌, is_good, is_named, is_online, is_queued, left, length, map, moment, name, name_on, not, order, outcome, own_end, pairs_append, queues, reference, refl, same_is, same_name, sent_by, sent_bytes, serves_in, subst, sym, true, unit, waiting, waiting_below, waiting_more, waits_below, ℕ, ◌%◌, ◌&&◌, ◌++◌, ◌+◌, ◌<◌, ◌^◌, ◌∙◌, ◌∷◌, ◌≡◌, ◌≢◌}
use Rattle.mscp_shown.proofs.Aborted.{Aborts, EndsAbort, IsAbort, IsBehind, aborts_answer, named_each, outcome_apart, own_apart}
use Rattle.mscp_shown.proofs.Answering.{own_number}
use Rattle.mscp_shown.proofs.Fitting.{IsSmallCommand, aborted_fit, own_fit, served_fit, small_command}
use Rattle.mscp_shown.proofs.Ordering.{Ordered, ordered_answer}
use Rattle.mscp_shown.proofs.Waiting.{own_order}
use Rattle.mscp_shown.proofs.Owners.{Fits, IsNew, IsOnly, IsOwed, IsOwn, message, untold}
use Rattle.mscp_shown.proofs.Owning.{Owners, fits, only_new, still_own}
use Rattle.mscp_shown.proofs.Pairing.{index_every, pairs_index}
use Rattle.mscp_shown.proofs.Polling.{aborted_polls, asked_by, own_polls, poll_of, served_polls}
use Rattle.mscp_shown.proofs.Reading.{IsFit}
use Rattle.mscp_shown.proofs.Saying.{sent_says}
use Rattle.mscp_shown.proofs.Small.{IsOfBytes, bytes_at}
use Rattle.mscp_shown.proofs.Suiting.{Ends, IsFault, aborted_ends, outcome_ends, own_ends}

-- ---- blocks
-- all blocks of a waiting command that were served were good
abbrev pub IsEven : Trace → ℕ → Type 0
IsEven t x = good t x ≡ done t x

good_last : (t : Trace) (m : Moment) → good (t ++ m ∷ []) (length t) ≡ 0
unfolding good
good_last t m = ap (count_by (λ (n : Moment). serves_in (name (t ++ m ∷ []) (length t)) n.1 && is_good n.0))
    (drop_last t m)

-- a command that isn't ended was served well, if it was
well : (c : Settings) (t : Trace) (n : Name) (event : Event) (entry : Entry) → IsRight c t event entry
    → not (ends_in n entry) ≡ true → (serves_in n entry && is_good event) ≡ serves_in n entry
well c t n (Event.Step (Bad status)) (Entry.Stepped (Report.Served other reference unit lbn started seek None)) r h =
    grind arith
well c t n (Event.Step (Bad status)) (Entry.Stepped (Report.Served other reference unit lbn started seek
    (Some e))) r h = grind arith
well c t n event entry r h = grind arith

pub even_more : (c : Settings) (t : Trace) (m : Moment) → IsRight c t m.0 m.1
    → AllByRecursion (IsEven t) (waiting t) → AllByRecursion (IsEven (t ++ m ∷ [])) (waiting (t ++ m ∷ []))
even_more c t m r h =
    let keep : ℕ → Bool = λ x. not (ends_in (name t x) m.1) in
    let P = IsEven (t ++ m ∷ []) in
    let one : (b : Bool) → AllByRecursion P (cond b (length t ∷ []) []) = λ b. elim b as
    (λ b. AllByRecursion P (cond b (length t ∷ []) [])) [
      | true ↦ (good_last t m ∙ sym (done_last t m), tt)
      | false ↦ tt
    ] in
    let kept : (x : ℕ) → ((x < length t) × IsEven t x) × (keep x ≡ true) → P x = λ x k.
    good_before t m x k.0.0
    ∙ (ap (λ n. n + cond (serves_in (name t x) m.1 && is_good m.0) 1 0) k.0.1
    ∙ ap (λ b. done t x + cond b 1 0) (well c t (name t x) m.0 m.1 r k.1))
    ∙ sym (done_before t m x k.0.0) in
    subst (AllByRecursion P) (sym (waiting_more t m))
    (every_append P (filter keep (waiting t)) (cond (queues m.1) (length t ∷ []) [])
    (every_weaker (λ x. ((x < length t) × IsEven t x) × (keep x ≡ true)) P kept (filter keep (waiting t))
    (every_filter (λ x. (x < length t) × IsEven t x) keep (waiting t)
    (every_both (λ x. x < length t) (IsEven t) (waiting t) (waiting_below t) h)))
    (one (queues m.1)))

-- ---- what is known of a trace
pub record Facts (c : Settings) (t : Trace) : Type 0 where
  pub bytes : AllByRecursion IsOfBytes t
  pub figures : (n : Name) → figure_of c t n < 2 ^ 32
  pub promise : Promise c t
  pub queued : AllByRecursion (λ x. is_queued c (command t x) ≡ true) (waiting t)
  pub even : AllByRecursion (IsEven t) (waiting t)

small_at : (t : Trace) → AllByRecursion IsOfBytes t → (x : ℕ) → IsSmallCommand (command t x)
unfolding command
small_at t h x = small_command (sent_bytes (moment t x).0) (bytes_at t h x)

figure_small : (c : Settings) (own : Connection) (t : Trace) (o : Order) → ((n : Name) → figure_of c t n < 2 ^ 32)
    → figure_asked c own t o < 2 ^ 32
figure_small c own t x h = grind arith

-- an end fits the command that waits under its name
fits_own : (c : Settings) (via : Connection) (t : Trace) (xs : List Sent) (x : ℕ) (e : End) → connection t x ≡ via
    → IsOwn t xs x → Ends (command t x) e → IsFit c e → poll_of e ≡ asked_by (order t x) → IsOwed via xs e
unfolding command
fits_own c via t xs x e side h made fit poll =
    let b = sent_bytes (moment t x).0 in
    subst (λ v. IsOnly v e.reference xs (Fits v e)) side
    (subst (λ n. IsOnly (connection t x) n xs (Fits (connection t x) e)) (sym made.reference)
    (every_weaker (λ s. is_named (connection t x) (reference t x) s ≡ true → untold s ≡ message t x)
    (λ s. is_named (connection t x) (reference t x) s ≡ true → Fits (connection t x) e (untold s))
    (λ s k n. subst (Fits (connection t x) e) (sym (k n)) (fits c (connection t x) b e made fit poll)) xs h))

-- ---- the ends of an answer
every_to_map : {X Y : Type 0} (f : X → Y) (P : Y → Type 0) (xs : List X) → AllByRecursion (λ x. P (f x)) xs
    → AllByRecursion P (map f xs)
every_to_map f P [] h = tt
every_to_map f P (x ∷ xs) h = (h.0, every_to_map f P xs h.1)

aborted_each : (own : Connection) (t : Trace) (P : ℕ → Type 0) (o : Order) (f : Option ℕ) → AllByRecursion P (waiting t)
    → AllByRecursion (λ x. P x × (connection t x ≡ own)) (aborted_unless own t o f)
aborted_each own t P (Order.Abort other) None h =
    every_weaker (λ x. P x × (same_name (name t x) (name_on own other) ≡ true)) (λ x. P x × (connection t x ≡ own))
    (λ x k. (k.0, ap (λ (n : Name). n.connection) (same_is (name t x) (name_on own other) k.1)))
    (filter (λ x. same_name (name t x) (name_on own other)) (waiting t))
    (every_filter P (λ x. same_name (name t x) (name_on own other)) (waiting t) h)
aborted_each own t P o f h = grind arith

module _ (c : Settings) (own : Connection) (t : Trace) (xs : List Sent) (b : List ℕ)
    (new : IsNew c own t xs (sent_by own b)) (owners : Owners c t xs) (facts : Facts c t) where
  abbrev Made : End → Type 0
  Made e = IsOwed own (xs ++ sent_by own b ∷ []) e × IsFit c e

  one_aborted : (x : ℕ)
      → (IsOwn t (xs ++ sent_by own b ∷ []) x × (is_queued c (command t x) ≡ true)) × (connection t x ≡ own)
      → Made (aborted_end (command t x) (good t x))
  one_aborted x k =
      let e = aborted_end (command t x) (good t x) in
      let fit = aborted_fit c (command t x) (good t x) (small_at t facts.bytes x) in (
        fits_own c own t (xs ++ sent_by own b ∷ []) x e k.1 k.0.0 (aborted_ends c (command t x) (good t x) k.0.1) fit
            (aborted_polls c (command t x) (good t x) k.0.1).0,
        fit,
      )

  pub answer_made : AreBytes b → is_queued c (command_of b) ≡ false → AllByRecursion Made (answer c own t b)
  unfolding answer command_of
  answer_made bytes q =
      let k = command_of b in
      let online = is_online t k.unit in
      let figure = figure_asked c own t k.order in
      let e = own_end c online figure k in
      let Q : ℕ → Type 0 = λ x. IsOwn t (xs ++ sent_by own b ∷ []) x × (is_queued c (command t x) ≡ true) in
      let all = every_both (IsOwn t (xs ++ sent_by own b ∷ [])) (λ x. is_queued c (command t x) ≡ true) (waiting t)
      (still_own c own t xs b new owners) facts.queued in
      let made = own_ends c online figure k q in
      let fit = own_fit c online figure k q (small_command b bytes) (figure_small c own t k.order facts.figures) in
      let owed : IsOwed own (xs ++ sent_by own b ∷ []) e =
      subst (λ n. IsOnly own n (xs ++ sent_by own b ∷ []) (Fits own e)) (sym made.reference)
      (only_new c own t xs b new owners (Fits own e) (fits c own b e made fit
      (own_polls c online figure k (sent_by own b) q (sent_says own b)))) in
      every_append Made (map (λ x. aborted_end (command t x) (good t x)) (aborted c own t k)) (e ∷ [])
      (every_to_map (λ x. aborted_end (command t x) (good t x)) Made (aborted c own t k)
      (every_weaker (λ x. Q x × (connection t x ≡ own)) (λ x. Made (aborted_end (command t x) (good t x))) one_aborted
      (aborted c own t k) (aborted_each own t Q k.order (fault_of c k) all)))
      ((owed, fit), tt)

  -- the last command has a number of its own
  behind_last : (n : ℕ) (e : End) → e.reference ≡ (sent_by own b).reference
      → Pairs (IsBehind own n e) (xs ++ sent_by own b ∷ [])
  behind_last n e numbered =
      let z = sent_by own b in
      let none : (s : Sent) → is_named own z.reference s ≡ false → is_named own e.reference s ≡ false =
      λ s q. ap (λ r. is_named own r s) numbered ∙ q in
      pairs_append (IsBehind own n e) xs z
      (pairs_index (IsBehind own n e) xs (sent_by First [])
      (λ i j l m w. absurd (false≢true (sym (none (get_or xs i (sent_by First []))
      (index_every (λ s. is_named own z.reference s ≡ false) xs (sent_by First []) new.outstanding i
      (omega (arith, l, m)))) ∙ w))))
      (every_weaker (λ s. is_named own z.reference s ≡ false) (λ s. IsBehind own n e s z)
      (λ s q w. absurd (false≢true (sym (none s q) ∙ w))) xs new.outstanding)

  -- behind an aborted command's end stands that of the ABORT
  pub answer_aborts : Aborts own (xs ++ sent_by own b ∷ []) (answer c own t b)
  unfolding answer command_of
  answer_aborts =
      let k = command_of b in
      let online = is_online t k.unit in
      let figure = figure_asked c own t k.order in
      let e = own_end c online figure k in
      let says = sent_says own b in
      let numbered : e.reference ≡ (sent_by own b).reference = own_number c online figure k (fault_of c k) in
      let ys = aborted c own t k in
      aborts_answer own t (xs ++ sent_by own b ∷ []) e ys
      (every_weaker (λ x. IsAbort (reference t x) (sent_by own b))
      (λ x. EndsAbort own (xs ++ sent_by own b ∷ []) (reference t x) e)
      (λ x h. (
        rw numbered (only_new c own t xs b new owners (IsAbort (reference t x)) h),
        behind_last (reference t x) e numbered,
      )) ys
      (named_each own t (sent_by own b) k.order (fault_of c k) says))
      (own_apart c online figure k (sent_by own b) says)

  -- each end of an answer may come at once
  pub answer_ordered : is_queued c (command_of b) ≡ false → (before : List End)
      → Ordered own (xs ++ sent_by own b ∷ []) before (answer c own t b)
  unfolding answer command_of
  answer_ordered q before =
      let k = command_of b in
      let online = is_online t k.unit in
      let figure = figure_asked c own t k.order in
      ordered_answer own t (xs ++ sent_by own b ∷ []) (own_end c online figure k) (aborted c own t k) before
      (λ some. own_order c online figure k own xs b some q new.outstanding refl (sent_says own b))

  -- the ends of aborted commands are those of no polls
  pub aborted_silent : AllByRecursion (λ (e : End). poll_of e ≡ None)
      (map (λ x. aborted_end (command t x) (good t x)) (aborted c own t (command_of b)))
  aborted_silent =
      let k = command_of b in
      every_to_map (λ x. aborted_end (command t x) (good t x)) (λ (e : End). poll_of e ≡ None) (aborted c own t k)
      (every_weaker (λ x. (is_queued c (command t x) ≡ true) × (connection t x ≡ own))
      (λ x. poll_of (aborted_end (command t x) (good t x)) ≡ None)
      (λ x q. let p = aborted_polls c (command t x) (good t x) q.0 in p.0 ∙ p.1) (aborted c own t k)
      (aborted_each own t (λ x. is_queued c (command t x) ≡ true) k.order (fault_of c k) facts.queued))

-- ---- the end of a step
module _ (c : Settings) (t : Trace) (xs : List Sent) (owners : Owners c t xs) (facts : Facts c t)
    (s : Service) (k : Block) (y : ℕ) (v : IsServed c t k s y) (fault : IsFault k) where
  at_own : (P : ℕ → Type 0) → AllByRecursion P (waiting t) → P y
  at_own P h =
      let z = cut t y (waits_below t y v.waits) v.waits in
      (every_parts P z.0 (y ∷ z.1) (subst (AllByRecursion P) z.2.is h)).1.0

  -- it ends with its outcome
  last_of : (goes : Bool) (e : End) → Some e ≡ (if goes then None else Some (outcome c t k y))
      → (goes ≡ false) × (e ≡ outcome c t k y)
  last_of goes e h = grind arith

  pub step_made : (e : End) → s.ended ≡ Some e
      → (((IsOwed s.connection xs e × IsFit c e) × (e.status % 32 ≢ 2)) × (e.reference ≡ reference t y)) ×
      (poll_of e ≡ None)
  unfolding outcome
  step_made e h =
      let l = last_of (goes_on (is_online t (unit t y)) (order t y) k (left t y)) e (sym h ∙ v.ended) in
      let online = is_online t (unit t y) in
      let made = outcome_ends c online (command t y) (good t y) (done t y) k
      (at_own (λ x. is_queued c (command t x) ≡ true) facts.queued) fault (at_own (IsEven t) facts.even) l.0 in
      let fit = served_fit c online (command t y) (good t y) k
      (at_own (λ x. is_queued c (command t x) ≡ true) facts.queued) (small_at t facts.bytes y) fault in
      let polls = served_polls c online (command t y) (good t y) k (at_own (λ x. is_queued c (command t x) ≡ true)
      facts.queued) in
      let own = fits_own c (connection t y) t xs y (outcome c t k y) refl (at_own (IsOwn t xs) owners.waits) made fit
      polls.0 in
      let owed = subst (λ u. IsOwed u xs e) (sym v.connection) (subst (IsOwed (connection t y) xs) (sym l.1) own) in
      let apart : e.status % 32 ≢ 2 =
      subst (λ (n : End). n.status % 32 ≢ 2) (sym l.1) (outcome_apart online (order t y) k fault) in (
        (((owed, subst (IsFit c) (sym l.1) fit), apart), ap (λ (n : End). n.reference) l.1),
        ap poll_of l.1 ∙ (polls.0 ∙ polls.1),
      )
