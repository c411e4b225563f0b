-- What one moment more adds to the totals of a run.
use Rattle.mscp_judge.proofs.Common.{◌≡◌, ◌≢◌, ◌⊎◌, inl, inr, ⊎_elim, ℕ, ◌+◌, ◌≤◌, Bool, true, cond, List, [], ◌∷◌, ◌++◌, map, take, get_or, length, refl, ap, sym, ◌∙◌, subst, arith, length-append, Contains, filter, not, Option, AllByRecursion, take-append-le, take_all, All-contains, All-contains_itself, recursion_from_All, All-from_recursion, sum_by_push, cases_lt, false≢true, Record, record_at, every_append, every_mapped, every_kept, Event, Entry, IsValid, Settings, bound, Moment, Trace, is_step, queues, ends_in, name, waiting, passed, figure, figure_of, EachWaiting, Answers, Holdings, IsRight, name_last, arrives, queued_right, taken_when, falling, is_waiting_last, waiting_more, progress, waits_in, figure_of_held, held_of, step_count, Name, Wanted, Totals, IsNamed, with_picker, Adds, AreTotals, IsLarger, IsLargest, figure_queued}
use Rattle.mscp_judge.proofs.Leading.{Follow, follow_more, turn_of}

-- ---- the largest

-- it grows by a moment
largest_more : (of : Trace → ℕ → ℕ) (t : Trace) (m : Moment) (n k k' : ℕ) → IsLargest of t n → IsLarger n k k'
    → EachWaiting (t ++ m ∷ []) (λ x. of (t ++ m ∷ []) x ≤ k')
    → (k ≢ 0 → (x : ℕ) × Contains (waiting (t ++ m ∷ [])) x × (of (t ++ m ∷ []) x ≡ k)) → IsLargest of (t ++ m ∷ []) k'
largest_more of t m n k k' old larger now there =
    let u = t ++ m ∷ [] in
    let long : length u ≡ length t + 1 = length-append t (m ∷ []) in
    let front : (i : ℕ) → i ≤ length t → take i u ≡ take i t = λ i h. take-append-le i t (m ∷ []) h in
    let all : take (length u) u ≡ u = take_all (length u) u (omega arith) in
    search (arith, ⊎_elim)
  where
    last_or_before : (i n l : ℕ) → l ≡ n + 1 → i ≤ l → (i ≤ n) ⊎ (i ≡ l)
    last_or_before i n l e h = ⊎_elim (λ b. inl (omega (arith, e, b))) (λ b. inr (omega (arith, h, b))) (cases_lt i l)

-- what holds of each command that waited, and of one that is queued, holds of each that waits then
each_more : (P : ℕ → Type 0) (t : Trace) (m : Moment) → EachWaiting t P → (queues m.1 ≡ true → P (length t))
    → EachWaiting (t ++ m ∷ []) P
each_more P t m before new x w =
    let q : ℕ → Bool = λ y. not (ends_in (name t y) m.1) in
    let kept = every_kept P q (waiting t) (recursion_from_All P (waiting t)
    (λ i d l. before (get_or (waiting t) i d) (All-contains_itself (waiting t) i d l))) in
    let all = every_append P (filter q (waiting t)) (cond (queues m.1) (length t ∷ []) []) kept
    (last (queues m.1) new) in
    grind (arith, All-contains, All-from_recursion, waiting_more, all)
  where
    last : (b : Bool) → (b ≡ true → P (length t)) → AllByRecursion P (cond b (length t ∷ []) [])
    last o h = grind arith

-- ---- the figure of a new command

-- the name that is told of it is its own
queued_figure : (c : Settings) (t : Trace) (h : Holdings Wanted) (event : Event) (entry : Entry)
    → IsRight c t event entry → h.settings ≡ c
    → h.waiting ≡ map (held_of (t ++ (event, entry) ∷ [])) (waiting (t ++ (event, entry) ∷ [])) → queues entry ≡ true
    → figure_queued h entry ≡ figure_of c (t ++ (event, entry) ∷ []) (name (t ++ (event, entry) ∷ []) (length t))
queued_figure c t h event entry h5 h6 h7 h8 =
    grind (arith, queued_right, name_last, figure_of_held, false≢true, arrives, taken_when)

-- of no other is one told
none_queued : (h : Holdings Wanted) (entry : Entry) → figure_queued h entry ≢ 0 → queues entry ≡ true
none_queued h entry h2 = search arith

-- ---- the oldest

first_passed : (u : Trace) (ws : List ℕ) → (record_at (map (held_of u) ws) 0).passed ≢ 0
    → (x : ℕ) × Contains ws x × (passed u x ≡ (record_at (map (held_of u) ws) 0).passed)
first_passed u [] some = absurd (some refl)
first_passed u (x ∷ xs) some = (x, (0, omega arith, refl), refl)

-- ---- steps

step_counts : (c : Settings) (t : Trace) (event : Event) (entry : Entry) → IsRight c t event entry
    → step_count entry ≡ cond (is_step event) 1 0
step_counts c t event entry h4 = search arith

-- ---- all of them

pub totals_none : (c : Settings) (totals : Totals) → totals.moments ≡ 0 → totals.steps ≡ 0 → totals.figure ≡ 0
    → totals.bound ≡ bound c → totals.passed ≡ 0 → AreTotals c [] totals
unfolding waiting
totals_none c totals m s f b p = grind arith

pub totals_more : (c : Settings) (t : Trace) (h h' : Holdings Wanted) (name : Option Name) (event : Event)
    (entry : Entry) (old new : Totals) → IsValid c → Follow c t h
    → Answers (IsNamed name) (with_picker h name) event entry h'
    → AreTotals c t old → Adds h' entry old new → AreTotals c (t ++ (event, entry) ∷ []) new
totals_more c t h h' picker event entry old new v k r a adds =
    let m : Moment = (event, entry) in
    let u = t ++ m ∷ [] in
    let right = (turn_of c t h h' picker event entry v k r).sends.right in
    let next = follow_more c t h h' picker event entry v k r in
    let waits = next.agrees.follows.waits in
    let queued : queues entry ≡ true → Contains (waiting u) (length t) =
    λ q. waits_in u (length t) (is_waiting_last t m ∙ q) in
    let own : queues entry ≡ true → figure_queued h' entry ≡ figure c u (length t) =
    search (arith, take_all (length u) u (omega arith), progress c u v next.legal, queued_figure) in
    let falls = falling c t m right k.agrees.follows.known.steady in
    let before = a.figure.most (length t) (omega arith) in
    let oldest : AllByRecursion (λ (x : ℕ). passed u x ≤ (record_at h'.waiting 0).passed) (waiting u) =
    every_mapped (held_of u) (λ (z : Record). z.passed ≤ (record_at h'.waiting 0).passed) (waiting u)
    (subst (AllByRecursion (λ (z : Record). z.passed ≤ (record_at h'.waiting 0).passed)) waits
    (recursion_from_All (λ (z : Record). z.passed ≤ (record_at h'.waiting 0).passed) h'.waiting adds.oldest)) in
    record {
      moments = omega (arith, adds.moments, a.moments, length-append t (m ∷ []));
      steps = grind (arith, step_counts, sum_by_push, m, right);
      figure = largest_more (figure c) t m old.figure (figure_queued h' entry) new.figure a.figure adds.figure
          (each_more (λ x. figure c u x ≤ new.figure) t m (λ x w. let l = falls.other x w in
          let g = before x (subst (λ z. Contains (waiting z) x) (sym (take_all (length t) t (omega arith))) w) in
          let e = ap (λ z. figure c z x) (take_all (length t) t (omega arith)) in
          omega (arith, l, g, e, adds.figure.first))
          (λ q. let e = own q in omega (arith, e, adds.figure.second)))
          (λ some. let q = none_queued h' entry some in (length t, queued q, sym (own q)));
      bound = adds.bound ∙ a.bound;
      passed = largest_more passed t m old.passed (record_at h'.waiting 0).passed new.passed a.passed adds.passed
          (λ x w. let l = All-contains (λ y. passed u y ≤ (record_at h'.waiting 0).passed) (waiting u) x
          (All-from_recursion (λ y. passed u y ≤ (record_at h'.waiting 0).passed) (waiting u) oldest) w in
          omega (arith, l, adds.passed.second))
          (λ some. subst (λ ws. (x : ℕ) × Contains (waiting u) x × (passed u x ≡ (record_at ws 0).passed)) (sym waits)
          (first_passed u (waiting u) (λ z. some (ap (λ ws. (record_at ws 0).passed) waits ∙ z))));
    }
