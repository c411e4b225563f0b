-- Whose commands are outstanding in a trace, and how one more moment changes that.
use Rattle.mscp_shown.proofs.Common.{AllByRecursion, Bool, Command, Connection, End, List, Moment, Settings, Trace, [], ap, append-nil, arith, command_before, command_last, command_of, cond, connection, count_by, drop, drop-drop, ends, ends_at, ends_in, ends_more, every_from, every_kept, every_weaker, false, filter, filter_all, length, name, not, queues_by, reference, refl, same_connection, sent_bytes, sum_by, sum_by-append, sum_by-cons, sum_on, sym, taken_more, takes, true, untaken, untaken_more, waiting, waiting_below, waiting_by, waiting_by_more, ℕ, ◌++◌, ◌+◌, ◌<◌, ◌∙◌, ◌∷◌, ◌≡◌, ◌≤◌}

-- 1 where it is so
abbrev pub one_if : Bool → ℕ
one_if b = cond b 1 0

-- how many of the reference numbers of a connection that are outstanding pass
abbrev pub owed : Settings → Connection → Trace → (ℕ → Bool) → ℕ
owed c via t p =
    count_by (λ x. p (reference t x)) (waiting_by via t) + count_by (λ (e : End). p e.reference) (untaken c via t)

module _ (c : Settings) (via : Connection) (t : Trace) (m : Moment) (p : ℕ → Bool) where
  same_numbers : (xs : List ℕ) → AllByRecursion (λ x. x < length t) xs
      → count_by (λ x. p (reference (t ++ m ∷ []) x)) xs ≡ count_by (λ x. p (reference t x)) xs
  same_numbers xs h = sum_on
      (λ x. cond (p (reference (t ++ m ∷ []) x)) 1 0)
      (λ x. cond (p (reference t x)) 1 0)
      xs
      (every_weaker (λ x. x < length t)
      (λ x. cond (p (reference (t ++ m ∷ []) x)) 1 0 ≡ cond (p (reference t x)) 1 0)
      (λ x l. ap (λ (k : Command). cond (p k.reference) 1 0) (command_before t m x l)) xs h)

  -- those of the commands that wait on
  abbrev pub kept : ℕ
  kept = count_by (λ x. p (reference t x)) (filter (λ x. not (ends_in (name t x) m.1)) (waiting_by via t))

  -- that of the moment's message, if it is queued
  abbrev pub came : ℕ
  came = cond (queues_by via m) (cond (p (command_of (sent_bytes m.0)).reference) 1 0) 0

  last_number : (b : Bool) → count_by (λ x. p (reference (t ++ m ∷ []) x)) (cond b (length t ∷ []) [])
      ≡ cond b (cond (p (command_of (sent_bytes m.0)).reference) 1 0) 0
  last_number true = ap (λ (k : Command). 0 + one_if (p k.reference)) (command_last t m) ∙ omega arith
  last_number false = refl

  waits_more : count_by (λ x. p (reference (t ++ m ∷ []) x)) (waiting_by via (t ++ m ∷ [])) ≡ kept + came
  waits_more =
      let f : ℕ → ℕ = λ x. cond (p (reference (t ++ m ∷ []) x)) 1 0 in
      let on = filter (λ x. not (ends_in (name t x) m.1)) (waiting_by via t) in
      let below = every_kept (λ x. x < length t) (λ x. not (ends_in (name t x) m.1)) (waiting_by via t)
      (every_kept (λ x. x < length t) (λ x. same_connection (connection t x) via) (waiting t) (waiting_below t)) in
      ap (sum_by f) (waiting_by_more via t m)
      ∙ sum_by-append f on (cond (queues_by via m) (length t ∷ []) [])
      ∙ ap (λ n. n + sum_by f (cond (queues_by via m) (length t ∷ []) [])) (same_numbers on below)
      ∙ ap (λ n. kept + n) (last_number (queues_by via m))

  -- the moment takes nothing, and n more are kept or ended
  pub owed_more : (n : ℕ) → takes via m.1 ≡ false → count_by (λ o. takes via o.1) t ≤ length (ends c via t)
      → kept + count_by (λ (e : End). p e.reference) (ends_at c via t m)
      ≡ count_by (λ x. p (reference t x)) (waiting_by via t) + n
      → owed c via (t ++ m ∷ []) p ≡ owed c via t p + (n + came)
  owed_more n q h e =
      let g : End → ℕ = λ e. cond (p e.reference) 1 0 in
      omega (
        arith,
        waits_more,
        e,
        ap (sum_by g) (untaken_more c via t m q h) ∙ sum_by-append g (untaken c via t) (ends_at c via t m),
      )

  -- a moment that ends nobody of the connection
  pub quiet : AllByRecursion (λ x. not (ends_in (name t x) m.1) ≡ true) (waiting_by via t) → ends_at c via t m ≡ []
      → kept + count_by (λ (e : End). p e.reference) (ends_at c via t m)
      ≡ count_by (λ x. p (reference t x)) (waiting_by via t) + 0
  quiet all e =
      let on = filter_all (λ x. not (ends_in (name t x) m.1)) (waiting_by via t) all in
      ap (λ ws. count_by (λ x. p (reference t x)) ws + count_by (λ (e : End). p e.reference) (ends_at c via t m)) on
      ∙ ap (λ es. count_by (λ x. p (reference t x)) (waiting_by via t) + count_by (λ (e : End). p e.reference) es) e

-- ---- a take
pub untaken_took : (c : Settings) (via : Connection) (t : Trace) (m : Moment) → takes via m.1 ≡ true
    → ends_at c via t m ≡ [] → untaken c via (t ++ m ∷ []) ≡ drop 1 (untaken c via t)
unfolding untaken
untaken_took c via t m q e =
    let n = count_by (λ (o : Moment). takes via o.1) t in
    let n' = count_by (λ (o : Moment). takes via o.1) (t ++ m ∷ []) in
    let more : n' ≡ n + 1 = taken_more via t m ∙ ap (λ b. n + cond b 1 0) q in
    let all : ends c via (t ++ m ∷ []) ≡ ends c via t =
    ends_more c via t m ∙ ap (λ es. ends c via t ++ es) e ∙ append-nil (ends c via t) in
    ap (λ k. drop k (ends c via (t ++ m ∷ []))) more
    ∙ ap (drop (n + 1)) all
    ∙ sym (drop-drop 1 n (ends c via t))

-- the oldest end of a connection goes out
pub owed_took : (c : Settings) (via : Connection) (t : Trace) (m : Moment) (p : ℕ → Bool) (e : End) (rest : List End)
    → takes via m.1 ≡ true → ends_at c via t m ≡ [] → ((x : ℕ) → ends_in (name t x) m.1 ≡ false)
    → queues_by via m ≡ false → untaken c via t ≡ e ∷ rest
    → owed c via (t ++ m ∷ []) p + cond (p e.reference) 1 0 ≡ owed c via t p
owed_took c via t m p e rest q none stay n us =
    let g : End → ℕ = λ e. cond (p e.reference) 1 0 in
    let took : untaken c via (t ++ m ∷ []) ≡ rest = untaken_took c via t m q none ∙ ap (drop 1) us in
    let all = every_from (λ x. not (ends_in (name t x) m.1) ≡ true) (λ x. ap not (stay x)) (waiting_by via t) in
    let on = filter_all (λ x. not (ends_in (name t x) m.1)) (waiting_by via t) all in
    omega (
      arith,
      waits_more c via t m p,
      ap (count_by (λ x. p (reference t x))) on,
      ap (λ b. cond b (one_if (p (command_of (sent_bytes m.0)).reference)) 0) n,
      ap (sum_by g) took,
      ap (sum_by g) us,
      sum_by-cons g e rest,
    )
