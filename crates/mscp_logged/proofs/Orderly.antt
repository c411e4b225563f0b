-- No end of a port's passes a command that it has to wait for, over a whole list of calls.
use Rattle.mscp_logged.proofs.Common.{Action, AllByRecursion, Answered, At, Bool, Call, Decided, End, Fitting, IsNoReset, IsPassive, KeepsPromise, Kept, List, Made, Next, None, Ok, Option, Own, Picking, Port, ReadsBytes, Record, Settings, Some, TakesEnd, Verdict, Volume, Wants, WasRead, Went, WriteIp, [], ap, arith, awaited, begun_end, blocks, drop, ends_begun, ends_of, ends_said_by, false, false≢true, few_ends, filter, find_cases, find_none, first_of_one, fitting, inl, inr, is_apart, is_numbered, is_some, kept, knows, named, num, own_answer, own_text, passive_said, passive_stays, passive_taken, position_first, refl, said, says_is, slice_get, subst, sym, told_end, true, unit_found, volume_named, whole, ℕ, ◌%◌, ◌∙◌, ◌∷◌, ◌≡◌, ◌⊎◌}
use Rattle.mscp_logged.proofs.Clear.{IsClear, Ordered, clear_forgotten, unended, unended_none}
use Rattle.mscp_logged.proofs.Fences.{IsWaiting, same_unit, unit_earlier}
use Rattle.mscp_logged.proofs.Hearing.{read_ordered}
use Rattle.mscp_logged.proofs.Ordering.{OrderedIn, all_waiting, next_ordered, stays, went_ordered}
use Rattle.mscp_logged.proofs.Passes.{keeps, overtakes}
use Rattle.mscp_logged.proofs.Begun.{Begun, IsKeeping}
use Rattle.mscp_logged.proofs.Seen.{reads_before}
use Rattle.mscp_logged.proofs.Turns.{IsApartOr}

-- ---- an end begins to go out

-- the oldest, with what was decided of it
first_clear : (c : Settings) (aw : List (List ℕ)) (rs : List Record) (e : End) (es : List End) (ds : List Decided)
    (d : Decided) → slice_get ds 0 ≡ Some d → Ordered c aw rs (e ∷ es) ds → IsClear aw e d
first_clear c aw rs e es ds d some o = grind arith

module _ {c : Settings} {K : Type 0} (blocks : Bool) (action : Action) (bytes : List ℕ) (old new : Port K)
    (aw : List (List ℕ)) (k : Kept old aw) (o : OrderedIn c old aw) (picks : List _ → ℕ → Type 0)
    (r : Wants picks blocks old action new) (d : Decided) (some : slice_get old.decided.items 0 ≡ Some d) where
  clear_of : (text : List ℕ) → TakesEnd old new → ends_begun old.outgoing new.outgoing ≡ text ∷ []
      → (is_apart (d.status % 32) ≡ true) ⊎ (overtakes (num text 0 4) aw ≡ false)
  clear_of text t said =
      let is = whole k t in
      let same : told_end old t.out.0 ≡ text =
      (first_of_one (told_end old t.out.0) text [] (sym (begun_end old new t) ∙ said)).0 in
      by (sym (ap (λ x. num x 0 4) same) ∙ named k t)
      (first_clear c aw old.controller.waiting t.out.0 (drop 1 (ends_of old.controller)) old.decided.items d some
      (subst (λ xs. Ordered c aw old.controller.waiting xs old.decided.items) is o))
    where
      by : {n : ℕ} → num text 0 4 ≡ n → (is_apart (d.status % 32) ≡ true) ⊎ (overtakes n aw ≡ false)
          → (is_apart (d.status % 32) ≡ true) ⊎ (overtakes (num text 0 4) aw ≡ false)
      by number x = grind arith

  pub said_clear : (text : List ℕ) → ends_begun old.outgoing new.outgoing ≡ text ∷ []
      → (is_apart (d.status % 32) ≡ true) ⊎ (overtakes (num text 0 4) aw ≡ false)
  said_clear text said = grind (arith, says_is, clear_of)

-- ---- the port's own

-- it is of a unit that isn't there, or is refused
own_or : (v : Option Volume) (b : List ℕ) (own : Own) → own_answer false v b ≡ Some own
    → (v ≡ None) ⊎ (is_apart (num (own_text b own) 10 2 % 32) ≡ true)
own_or None b own h = inl refl
own_or (Some v) b own h = grind arith

-- ---- calls

module _ {K : Type 0} {picks : Picking K} (run : Begun picks) (keeping : IsKeeping run) where
  open run use {c, picker, valid, before, hardware, credits, controller, start, was, made, quiet}
  open keeping use {keep, sizes}

  pub promised : (p : Port K) (calls : List Call) (a : Answered picks start calls p)
      → (ms : List Made) × KeepsPromise (picks picker) c ms p.controller
  promised p calls a =
      let x = knows picks c picker keep valid before hardware credits controller start was made p calls a in
      (x.made, keep c x.made p.controller valid x.answered)

  pub numbers_kept : (p : Port K) (calls : List Call) → ReadsBytes calls → (a : Answered picks start calls p)
      → Kept p (awaited picks start p calls a)
  numbers_kept = kept picks c picker keep valid before hardware credits controller start was made quiet

  abbrev pub Any : Verdict → Record → Type 0
  Any verdict r = Unit {0}

  pub fits : (p : Port K) (calls : List Call) → ReadsBytes calls → (a : Answered picks start calls p)
      → Fitting c Any p (awaited picks start p calls a)
  fits p calls reads a = fitting picks c picker keep valid sizes before hardware credits controller start was made quiet
      Any (λ calls. Unit {0}) (λ call calls fine. tt)
      (λ p outcome done calls fine a verdict how name was r found. tt) p calls reads tt a

  passive_ordered : (p : Port K) (call : Call) (calls : List Call) (a : Answered picks start (call ∷ calls) p)
      → IsPassive call → OrderedIn c a.0 (awaited picks start a.0 calls a.1)
      → OrderedIn c p (awaited picks start p (call ∷ calls) a)
  passive_ordered p call calls a is o = stays call a.0 p (awaited picks start a.0 calls a.1) o (calm call is)
      (passive_said call a.0 p is) (passive_taken call a.0 is) (passive_stays picks call a.0 p a.2 is)
    where
      calm : (call : Call) → IsPassive call → IsNoReset call
      calm call is = grind arith

  pub ordering : (p : Port K) (calls : List Call) → ReadsBytes calls → (a : Answered picks start calls p)
      → OrderedIn c p (awaited picks start p calls a)
  ordering p [] reads a = record {
    lined = tt;
    own = λ n r e. absurd (none n r e ((numbers_kept p [] reads a).each n));
    clear = clear_forgotten (ends_of p.controller) p.decided.items;
  }
    where
      none : (n : ℕ) (r : Record) → filter (is_numbered n) p.controller.waiting ≡ r ∷ []
          → At [] p.controller.waiting (ends_of p.controller) n → ⊥
      none n r e x = grind arith
  ordering p (call ∷ calls) reads a = by call a reads (ordering a.0 calls (reads_before call calls reads) a.1)
    where
      by : (call : Call) (a : Answered picks start (call ∷ calls) p) → ReadsBytes (call ∷ calls)
          → OrderedIn c a.0 (awaited picks start a.0 calls a.1)
          → OrderedIn c p (awaited picks start p (call ∷ calls) a)
      by WriteIp a reads o = grind arith
      by (Next blocks action bytes) a reads o =
          next_ordered blocks action bytes a.0 p (awaited picks start a.0 calls a.1) (numbers_kept a.0 calls reads a.1)
          (fits a.0 calls reads a.1) o (picks a.0.controller.picker) a.2.0
      by (WasRead bytes (Ok done)) a reads o =
          read_ordered bytes done a.0 p (awaited picks start a.0 calls a.1) (numbers_kept a.0 calls reads.1 a.1)
          (fits a.0 calls reads.1 a.1) o a.2 reads.0 valid sizes (promised a.0 calls a.1).1.settings
      by (Went outcome (Ok done)) a reads o =
          let m = promised p (Went outcome (Ok done) ∷ calls) a in
          went_ordered (picks a.0.controller.picker) outcome done a.0 p (awaited picks start a.0 calls a.1)
          (numbers_kept a.0 calls reads a.1) (fits a.0 calls reads a.1) o a.2
          (few_ends (picks picker) c m.0 p.controller valid m.1)
      by call a reads o = passive_ordered p call calls a tt o

  -- an end of the controller's that begins to go out
  pub ends_clear : (p : Port K) (call : Call) (calls : List Call) (text : List ℕ) → ReadsBytes (call ∷ calls)
      → (a : Answered picks start (call ∷ calls) p) → ends_said_by call a.0 p ≡ text ∷ [] → (d : Decided)
      → slice_get a.0.decided.items 0 ≡ Some d
      → (is_apart (d.status % 32) ≡ true) ⊎ (overtakes (num text 0 4) (awaited picks start a.0 calls a.1) ≡ false)
  ends_clear p (Next blocks action bytes) calls text reads a said d some =
      said_clear blocks action bytes a.0 p (awaited picks start a.0 calls a.1) (numbers_kept a.0 calls reads a.1)
      (ordering a.0 calls reads a.1) (picks a.0.controller.picker) a.2.0 d some text said
  ends_clear p call calls text reads a said d some = absurd (search (arith, said))

  -- and one of the port's own, while no end of the controller's waits
  pub own_clear : (p : Port K) (calls : List Call) → ReadsBytes calls → (a : Answered picks start calls p)
      → ends_of p.controller ≡ [] → (text : List ℕ) (own : Own)
      → own_answer false (volume_named p text) text ≡ Some own → IsApartOr (own_text text own)
      (AllByRecursion (λ u. keeps text u ≡ false) (awaited picks start p calls a))
  own_clear p calls reads a none text own answer = elim (own_or (volume_named p text) text own answer) [
    | inr apart ↦ inl apart
    | inl absent ↦ inr (all_free (awaited picks start p calls a) (missing absent)
        (rw (← ap (λ es. unended es (awaited picks start p calls a)) none ∙ unended_none
        (awaited picks start p calls a)) (all_waiting p (awaited picks start p calls a) (numbers_kept p calls reads a)
        (fits p calls reads a))))
  ]
    where
      missing : volume_named p text ≡ None → unit_found c.units (num text 4 2) ≡ None
      missing absent = grind (arith, promised, find_cases, find_none, position_first)

      free : unit_found c.units (num text 4 2) ≡ None → (u : List ℕ) → IsWaiting p.controller.waiting u → (b : Bool)
          → keeps text u ≡ b → b ≡ false
      free gone u w false e = refl
      free gone u w true e = absurd (false≢true (sym (ap is_some
          (ap (unit_found c.units) (unit_earlier w.own.command.unit text u e w.unit ∙ same_unit text u e) ∙ gone))
          ∙ ((ordering p calls reads a).own (num u 0 4) w.own w.sole).known))

      all_free : (ts : List (List ℕ)) → unit_found c.units (num text 4 2) ≡ None
          → AllByRecursion (IsWaiting p.controller.waiting) ts → AllByRecursion (λ u. keeps text u ≡ false) ts
      all_free [] gone all = tt
      all_free (u ∷ ts) gone all = (free gone u all.0 (keeps text u) refl, all_free ts gone all.1)
