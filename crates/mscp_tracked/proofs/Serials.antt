-- The serials of a tracked controller, over lists of calls.
use Rattle.mscp_tracked.proofs.Common.{Bool, true, false, ◌||◌, List, [], ◌∷◌, ◌++◌, length, ℕ, ◌+◌, ◌<◌, ◌≤◌, ◌^◌, ◌≡◌, ◌∙◌, ◌⊎◌, inl, inr, refl, sym, ap, subst, arith, Some, None, Result, Ok, Err, list_any, true≢false, false≢true, length-append, Block, Connection, NotBegun, SendFault, Sent, Upcoming, Choice, begun_step, Beginning, Finished, Tracking, Begins, Finishes, has_serial, upcoming_name, AnsweredCalls, AnswersCall, Call, FinishesWhatWasTold, KeepsSerials, lets_go, was_let_go, answer_to_message, after_message, after_message_with, eq-eqb, ne_eqb}
use Rattle.mscp_tracked.proofs.Keeping.{some_is}
use Rattle.mscp_tracked.proofs.Begun.{After, message_stays, message_unbegun, step_unbegun}

-- what is restored of one value is one value
abbrev ok_or : {X E : Type 0} → X → Result X E → X
ok_or x (Ok y) = y
ok_or x (Err e) = x

pub same_ok : {X E : Type 0} (r : Result X E) (x y : X) → r ≡ Ok x → r ≡ Ok y → y ≡ x
same_ok r x y e f = ap (ok_or x) (sym f ∙ e)

-- what is begun has a name
module _ {K : Type 0} (picks : List Choice → ℕ → Type 0) where
  -- ---- lists of calls
  -- calls are answered one part after the other
  pub parted : (xs ys : List Call) (old new : Tracking K) → AnsweredCalls picks old (xs ++ ys) new
      → (mid : Tracking K) × AnsweredCalls picks old xs mid × AnsweredCalls picks mid ys new
  parted [] ys old new a = (old, refl, a)
  parted (x ∷ xs) ys old new a =
      let r = parted xs ys a.0 new a.2 in
      (r.0, (a.0, a.1, r.1), r.2)

  pub joined : (xs ys : List Call) (old mid new : Tracking K) → AnsweredCalls picks old xs mid
      → AnsweredCalls picks mid ys new → AnsweredCalls picks old (xs ++ ys) new
  joined [] ys old mid new a b = subst (λ t. AnsweredCalls picks t ys new) a b
  joined (x ∷ xs) ys old mid new a b = (a.0, a.1, joined xs ys a.0 mid new a.2 b)

  -- ---- one call
  -- how the count goes on
  pub record Counts (old new : Tracking K) : Type 0 where
    pub low : old.beginnings ≤ new.beginnings
    pub high : new.beginnings ≤ old.beginnings + 1

  same_count : (old new : Tracking K) → new.beginnings ≡ old.beginnings → Counts old new
  same_count old new e = record { low = omega (arith, e); high = omega (arith, e) }

  pub count_call : (call : Call) (old new : Tracking K) → old.beginnings + 1 < 2 ^ 64
      → AnswersCall picks old call new → Counts old new
  count_call o old new few a = grind (arith, same_count, same_ok)

  -- and over calls
  pub count_calls : (calls : List Call) (old new : Tracking K) → old.beginnings + length calls < 2 ^ 64
      → AnsweredCalls picks old calls new → new.beginnings ≤ old.beginnings + length calls
  count_calls [] old new few a = omega (arith, ap (λ t. t.beginnings) a)
  count_calls (call ∷ calls) old new few a =
      let c = count_call call old a.0 (omega (arith, few)) a.1 in
      omega (arith, c.high, count_calls calls a.0 new (omega (arith, few, c.high)) a.2)

  -- ---- where nothing is begun
  -- nothing is begun and this serial was given last, or a later one was given
  abbrev pub IsPast : ℕ → Tracking K → Type 0
  IsPast n t = ((t.controller.begun ≡ None) × (t.beginnings ≡ n)) ⊎ (n < t.beginnings)

  past_still : (n : ℕ) (old new : Tracking K) → old.beginnings ≡ n → new.controller.begun ≡ None
      → new.beginnings ≡ old.beginnings → IsPast n new
  past_still n old new e b c = inl (b, c ∙ e)

  past_call : (n : ℕ) (call : Call) (old new : Tracking K) → old.beginnings + 1 < 2 ^ 64
      → AnswersCall picks old call new → IsPast n old → IsPast n new
  past_call n call old new few a o =
      grind (arith, count_call, message_unbegun, past_still, step_unbegun, same_ok, true≢false)

  pub past_calls : (n : ℕ) (calls : List Call) (old new : Tracking K) → old.beginnings + length calls < 2 ^ 64
      → AnsweredCalls picks old calls new → IsPast n old → IsPast n new
  past_calls n [] old new few a p = subst (IsPast n) (sym a) p
  past_calls n (call ∷ calls) old new few a p =
      let c = count_call call old a.0 (omega (arith, few)) a.1 in
      past_calls n calls a.0 new (omega (arith, few, c.high)) a.2
      (past_call n call old a.0 (omega (arith, few)) a.1 p)

  -- ---- while something is begun
  -- it is begun as it was told
  pub record IsAt (u : Upcoming) (n : ℕ) (t : Tracking K) : Type 0 where
    pub step : begun_step t.controller ≡ Some u
    pub serial : t.beginnings ≡ n

  -- whether a call let it go
  abbrev pub Leaves : Upcoming → ℕ → Bool → Tracking K → Type 0
  Leaves u n goes t = ((goes ≡ false) × IsAt u n t) ⊎ ((goes ≡ true) × IsPast n t)

  stays : (u : Upcoming) (n : ℕ) (old new : Tracking K) → new ≡ old → IsAt u n old → Leaves u n false new
  stays u n old new e at = inl (refl, subst (IsAt u n) (sym e) at)

  goes : (u : Upcoming) (n : ℕ) (old new : Tracking K) → IsAt u n old → new.controller.begun ≡ None
      → new.beginnings ≡ old.beginnings → Leaves u n true new
  goes u n old new at b c = inr (refl, inl (b, c ∙ at.serial))

  leaves_sent : (u : Upcoming) (n : ℕ) (via : Connection) (b : List ℕ) (cookie : ℕ) (became : Result Sent SendFault)
      (old new : Tracking K) → became ≡ answer_to_message via old.controller b
      → new ≡ after_message_with via old b cookie → IsAt u n old
      → Leaves u n (lets_go (upcoming_name u) (Call.Send via b cookie became)) new
  leaves_sent u n via b cookie became old new e a at =
      subst (Leaves u n (lets_go (upcoming_name u) (Call.Send via b cookie became))) (sym a)
      (sent_leaves became (subst (λ r. After old.controller via u r (after_message via old.controller b)) (sym e)
      (message_stays old.controller via u b at.step)))
    where
      sent_leaves : (r : Result Sent SendFault) → After old.controller via u r (after_message via old.controller b)
          → Leaves u n (lets_go (upcoming_name u) (Call.Send via b cookie r)) (after_message_with via old b cookie)
      sent_leaves o w = grind (arith, false≢true)

  pub leaves_call : (u : Upcoming) (n : ℕ) (call : Call) (old new : Tracking K) → AnswersCall picks old call new
      → IsAt u n old → Leaves u n (lets_go (upcoming_name u) call) new
  leaves_call u n (Call.Send via b cookie became) old new a at = leaves_sent u n via b cookie became old new a.0 a.1 at
  leaves_call u n (Call.Look via end) old new a at = stays u n old new a.1 at
  leaves_call u n (Call.Take via end) old new a at = grind arith
  leaves_call u n (Call.Begin told) old new a at = grind (arith, stays, false≢true)
  leaves_call u n (Call.FinishBegun serial k (Ok finished)) old new a at = grind (arith, goes, step_unbegun)
  leaves_call u n (Call.FinishBegun serial k (Err failure)) old new a at = stays u n old new a.1 at
  leaves_call u n (Call.Finish via reference k (Ok finished)) old new a at = grind (arith, goes, step_unbegun)
  leaves_call u n (Call.Finish via reference k (Err failure)) old new a at = stays u n old new a.1 at
  leaves_call u n (Call.Step k finished) old new a at = grind (arith, goes, step_unbegun)
  leaves_call u n Call.Reset old new a at = grind (arith, goes)
  leaves_call u n (Call.Restore number) old new a at = stays u n old new (same_ok _ old new a.0 a.1) at

  leaves_then : (u : Upcoming) (n : ℕ) (gone rest : Bool) (mid new : Tracking K) → (IsPast n mid → IsPast n new)
      → (IsAt u n mid → Leaves u n rest new) → Leaves u n gone mid → Leaves u n (gone || rest) new
  leaves_then u n o rest mid new past more w = grind (arith, true≢false, false≢true)

  pub leaves_calls : (u : Upcoming) (n : ℕ) (calls : List Call) (old new : Tracking K)
      → old.beginnings + length calls < 2 ^ 64 → AnsweredCalls picks old calls new → IsAt u n old
      → Leaves u n (list_any (lets_go (upcoming_name u)) calls) new
  leaves_calls u n [] old new few a at = stays u n old new a at
  leaves_calls u n (call ∷ calls) old new few a at =
      let c = count_call call old a.0 (omega (arith, few)) a.1 in
      let less : a.0.beginnings + length calls < 2 ^ 64 = omega (arith, few, c.high) in
      leaves_then u n (lets_go (upcoming_name u) call) _ a.0 new (past_calls n calls a.0 new less a.2)
      (leaves_calls u n calls a.0 new less a.2) (leaves_call u n call old a.0 a.1 at)

  -- ---- the law
  -- what a begin told is begun behind it
  told_at : (told : Beginning) (old new : Tracking K) → Begins picks old (Some told) new
      → IsAt told.upcoming told.serial new
  told_at told old new a = grind (arith, true≢false)

  -- the parts of a list with a begin, and another call behind it
  pub record Parts (first : Tracking K) (before between : List Call) (told : Beginning) (call : Call) : Type 0 where
    pub mid : Tracking K
    pub late : Tracking K
    pub after : Tracking K
    pub at : IsAt told.upcoming told.serial mid
    pub few : mid.beginnings + (length between + 1) < 2 ^ 64
    pub between_answered : AnsweredCalls picks mid between late
    pub answers : AnswersCall picks late call after

  parts : (first held : Tracking K) (before between behind : List Call) (told : Beginning) (call : Call)
      → first.beginnings + length (before ++ Call.Begin (Some told) ∷ (between ++ call ∷ behind)) < 2 ^ 64
      → AnsweredCalls picks first (before ++ Call.Begin (Some told) ∷ (between ++ call ∷ behind)) held
      → Parts first before between told call
  parts first held before between behind told call few a =
      let r = parted before (Call.Begin (Some told) ∷ (between ++ call ∷ behind)) first held a in
      let mid = r.2.0 in
      let s = parted between (call ∷ behind) mid held r.2.2 in
      let m = length-append before (Call.Begin (Some told) ∷ (between ++ call ∷ behind)) in
      let n = length-append between (call ∷ behind) in
      let low = count_calls before first r.0 (omega (arith, few, m, n)) r.1 in
      let next = (count_call (Call.Begin (Some told)) r.0 mid (omega (arith, few, low, m, n)) r.2.1).high in
      record {
        mid = mid;
        late = s.0;
        after = s.2.0;
        at = told_at told r.0 mid r.2.1;
        few = omega (arith, few, low, next, m, n);
        between_answered = s.1;
        answers = s.2.1;
      }

  -- a begin behind what was let go tells a later serial
  own_serial : (one other : Beginning) (between : List Call) (late after : Tracking K) → late.beginnings + 1 < 2 ^ 64
      → Begins picks late (Some other) after → other.serial ≡ one.serial
      → Leaves one.upcoming one.serial (was_let_go one between) late
      → (other.upcoming ≡ one.upcoming) × (was_let_go one between ≡ false)
  own_serial one other between late after few a e o =
      grind (arith, leaves_call, some_is, told_at, false≢true, count_call, true≢false)

  has_past : (n : ℕ) (t : Tracking K) → IsPast n t → has_serial n t ≡ false
  has_past n t o = grind (arith, ne_eqb)

  own_finish : (told : Beginning) (between : List Call) (k : Block) (answer : Result Finished NotBegun)
      (late after : Tracking K) → Finishes picks (has_serial told.serial late) k late answer after
      → Leaves told.upcoming told.serial (was_let_go told between) late → FinishesWhatWasTold told between answer
  own_finish told between k o late after a w = grind (arith, true≢false, has_past, eq-eqb, false≢true)

  module _ (first held : Tracking K) where
    kept : (calls : List Call) → first.beginnings + length calls < 2 ^ 64 → AnsweredCalls picks first calls held
        → KeepsSerials picks first calls held
    kept calls few a = record {
      serials = λ before between behind one other e same.
          let p = parts first held before between behind one (Call.Begin (Some other))
          (subst (λ cs. first.beginnings + length cs < 2 ^ 64) e few)
          (subst (λ cs. AnsweredCalls picks first cs held) e a) in
          let less = p.few in
          own_serial one other between p.late p.after
          (omega (arith, less, count_calls between p.mid p.late (omega (arith, less)) p.between_answered))
          p.answers same
          (leaves_calls one.upcoming one.serial between p.mid p.late (omega (arith, less)) p.between_answered p.at);
      finishes = λ before between behind told k answer e.
          let p = parts first held before between behind told (Call.FinishBegun told.serial k answer)
          (subst (λ cs. first.beginnings + length cs < 2 ^ 64) e few)
          (subst (λ cs. AnsweredCalls picks first cs held) e a) in
          let less = p.few in
          own_finish told between k answer p.late p.after p.answers
          (leaves_calls told.upcoming told.serial between p.mid p.late (omega (arith, less)) p.between_answered p.at);
      failures = grind (arith, parted, joined);
    }

pub serials_are_kept : {K : Type 0} (picks : List Choice → ℕ → Type 0) (first held : Tracking K) (calls : List Call)
    → first.beginnings + length calls < 2 ^ 64 → AnsweredCalls picks first calls held
    → KeepsSerials picks first calls held
serials_are_kept picks first held calls few a = kept picks first held calls few a
