-- By each call of a port each end that waits fits its message still.
use Rattle.mscp_ported.proofs.Common.{Action, AllByRecursion, Block, Bool, Connection, Decided, Drive, End, First, Fits, Goes, Holdings, IsCodeFor, IsOfKind, List, Name, Next, None, Ok, Option, Outcome, Port, Record, Second, Settings, Some, TakesEnd, Verdict, Wants, Went, [], ap, append-nil, arith, block_told, drop, end_given, ends_begun, filter, find, given, has_name, has_number, inl, inr, is_of, length, not, num, record_at, refl, said, since, slice_get, subst, sym, told_end, waiting_after, without_ends, ℕ, ◌∙◌, ◌∷◌, ◌≡◌, ◌≤◌}
use Rattle.mscp_ported.proofs.Stepping.{IsHow, Serves, drive_in, serves_grow, went_is}
use Rattle.mscp_ported.proofs.Taking.{begun_end, says_is}
use Rattle.mscp_ported.proofs.Awaits.{served_found, served_own}
use Rattle.mscp_ported.proofs.Awaiting.{IsNoReset, Kept}
use Rattle.mscp_ported.proofs.Buffered.{FitsBuffer, IsKeptEach, step_kept, taken_kept}
use Rattle.mscp_ported.proofs.Coming.{brought_for, ends_of}
use Rattle.mscp_ported.proofs.Dealing.{left_awaited, named, whole}
use Rattle.mscp_ported.proofs.Ending.{left_with, zipped}
use Rattle.mscp_ported.proofs.Fitted.{Fitting, became, died, grown_fits, grown_long, stays, unchanged}
use Rattle.mscp_ported.proofs.Fitting.{FitsEnd, FitsIn, IsPlainEnd, decided_code, every_left, given_plain, plain_fits, step_told}
use Rattle.mscp_ported.proofs.Followed.{AreFollowed, IsFollowed, followed_left, followed_more, none_else}
use Rattle.mscp_ported.proofs.Saying.{told_about, told_code}
use Rattle.mscp_ported.proofs.Numbered.{AtEach, first_of_one}
use Rattle.mscp_ported.proofs.Origins.{IsOf}
use Rattle.mscp_ported.proofs.Tables.{decided_by}
use Rattle.mscp_ported.proofs.Units.{told_unit_is}

-- this is the text of an end that fits its message
pub record IsSaid (c : Settings) (Told : Verdict → Record → Type 0) {K : Type 0} (old : Port K)
    (aw : List (List ℕ)) (text message : List ℕ) : Type 0 where
  pub end : End
  pub decided : Decided
  pub first : slice_get old.decided.items 0 ≡ Some decided
  pub shaped : IsOfKind end
  pub fits : FitsEnd c Told (left_with end decided) message
  pub is : told_end old end ≡ text
  pub named : num text 0 4 ≡ end.reference
  pub only : filter (has_number end.reference) aw ≡ message ∷ []
  pub followed : IsFollowed Told aw end (drop 1 (ends_of old.controller))

pub said_fits : {c : Settings} {Told : Verdict → Record → Type 0} {K : Type 0} (old : Port K) (aw : List (List ℕ))
    (text message : List ℕ) → IsSaid c Told old aw text message → Fits text message
said_fits old aw text message s = subst (λ x. Fits x message) s.is (record {
  unit = told_unit_is old s.end message s.fits.unit;
  code = subst (λ n. IsCodeFor n message) (sym (told_code old s.end s.decided s.first)) s.fits.code;
  about = λ is long. (told_about old s.end s.decided s.first message s.shaped s.fits is long).0;
  succeeds = λ is long. (told_about old s.end s.decided s.first message s.shaped s.fits is long).1;
})

-- ---- an end is taken

-- the oldest end, with what was decided of it
first_fits : {c : Settings} {Told : Verdict → Record → Type 0} (aw : List (List ℕ)) (e : End) (es : List End)
    (ds : List Decided) → length (e ∷ es) ≡ length ds
    → AllByRecursion (FitsIn c Told aw) (zipped (e ∷ es) ds)
    → (d : Decided) × (slice_get ds 0 ≡ Some d) × FitsIn c Told aw (left_with e d)
    × (length es ≡ length (drop 1 ds)) × AllByRecursion (FitsIn c Told aw) (zipped es (drop 1 ds))
first_fits aw e es [] long all = search (arith, long)
first_fits aw e es (d ∷ ds) long all = (d, refl, all.0, search (arith, long), all.1)

module _ {c : Settings} {Told : Verdict → Record → Type 0} {K : Type 0} (blocks : Bool) (action : Action)
    (bytes : List ℕ) (old new : Port K) (aw : List (List ℕ))
    (k : Kept old aw) (f : Fitting c Told old aw) (picks : List _ → ℕ → Type 0)
    (r : Wants picks blocks old action new) where
  abbrev Then : Type 0
  Then = Fitting c Told new (since new.stage (Next blocks action bytes)
      (without_ends (ends_begun old.outgoing new.outgoing) aw) [])

  calm : IsNoReset (Next blocks action bytes)
  calm = record { texts = λ s xs ys. refl }

  buffers : new.buffers.items ≡ old.buffers.items
  buffers = ap (λ (q : Port K). q.buffers.items) r.frame

  module _ (t : TakesEnd old new) where
    abbrev e : End
    e = t.out.0

    abbrev es : List End
    es = drop 1 (ends_of old.controller)

    is : ends_of old.controller ≡ e ∷ es
    is = whole k t

    pub first : (d : Decided) × (slice_get old.decided.items 0 ≡ Some d) × FitsIn c Told aw (left_with e d)
        × (length es ≡ length (drop 1 old.decided.items))
        × AllByRecursion (FitsIn c Told aw) (zipped es (drop 1 old.decided.items))
    first = first_fits aw e es old.decided.items (sym (ap length is) ∙ f.long)
        (subst (λ xs. AllByRecursion (FitsIn c Told aw) (zipped xs old.decided.items)) is f.fits)

    taken : Then
    taken = became (Next blocks action bytes) old new aw f calm (filter (λ x. not (has_number e.reference x)) aw)
        (left_awaited k t) (record {
          long = ap (λ (h : Holdings K). length (ends_of h)) t.controller ∙ first.3 ∙ sym (ap length t.decided);
          kept = subst (λ rs. IsKeptEach (filter (λ x. not (has_number e.reference x)) aw) rs new.buffers.items)
              (sym (ap (λ (h : Holdings K). h.waiting) t.controller))
              (subst (λ bs. IsKeptEach (filter (λ x. not (has_number e.reference x)) aw) old.controller.waiting bs)
              (sym buffers) (taken_kept aw old.controller.waiting old.buffers.items e.reference f.kept));
          fits = subst (λ xs. AllByRecursion (FitsIn c Told (filter (λ x. not (has_number e.reference x)) aw))
              (zipped xs new.decided.items)) (sym (ap (λ (h : Holdings K). ends_of h) t.controller))
              (subst (λ ds. AllByRecursion (FitsIn c Told (filter (λ x. not (has_number e.reference x)) aw))
              (zipped es ds))
              (sym t.decided) (every_left c Told aw e.reference (zipped es (drop 1 old.decided.items)) first.4));
          followed = subst (λ xs. AreFollowed Told (filter (λ x. not (has_number e.reference x)) aw) xs)
              (sym (ap (λ (h : Holdings K). ends_of h) t.controller))
              (followed_left Told aw e.reference es (none_else aw old.controller.waiting e es
              (subst (λ xs. AtEach aw old.controller.waiting xs) is k.each))
              (subst (λ xs. AreFollowed Told aw xs) is f.followed).1);
        })

  pub next_fits : Then
  next_fits = elim (says_is old new r.says) [
    | inl x ↦ taken x.0
    | inr n ↦ unchanged (Next blocks action bytes) old new aw f calm n.begun refl
        (ap (λ (h : Holdings K). h.waiting) n.controller) (ap (λ (h : Holdings K). ends_of h) n.controller)
        (ap (λ d. d.items) n.decided) buffers
  ]

  -- and it is what begins to go out, if something does
  pub said_is : ((e : End) → slice_get (ends_of old.controller) 0 ≡ Some e → IsOfKind e) → (text message : List ℕ)
      → ends_begun old.outgoing new.outgoing ≡ text ∷ [] → filter (has_number (num text 0 4)) aw ≡ message ∷ []
      → IsSaid c Told old aw text message
  said_is shaped text message said only = elim (says_is old new r.says) [
    | inr n ↦ absurd (none_said text (sym n.begun ∙ said))
    | inl z ↦
        let t = z.0 in
        let same : told_end old t.out.0 ≡ text = one_text (told_end old t.out.0) text (sym (begun_end old new t) ∙ said)
        in
        let x = first t in
        let number = sym (named k t) ∙ ap (λ x. num x 0 4) same in
        let its_own = ap (λ n. filter (has_number n) aw) number in
        record {
          end = t.out.0;
          decided = x.0;
          first = x.1;
          shaped = shaped t.out.0 t.out.1;
          fits = x.2 message (its_own ∙ only);
          is = same;
          named = sym number;
          only = its_own ∙ only;
          followed = (subst (λ es. AreFollowed Told aw es) (is t) f.followed).0;
        }
  ]
    where
      one_text : (x y : List ℕ) → x ∷ [] ≡ y ∷ [] → x ≡ y
      one_text x y e = (first_of_one x y [] e).0

      none_said : (x : List ℕ) → [] ≡ x ∷ [] → ⊥
      none_said x e = search (arith, e)

-- ---- a step

module _ {c : Settings} {Told : Verdict → Record → Type 0} {K : Type 0} (picks : List _ → ℕ → Type 0)
    (outcome : Outcome) (done : Unit) (old new : Port K)
    (aw : List (List ℕ)) (k : Kept old aw) (f : Fitting c Told old aw) (r : Goes picks outcome old (Ok done) new)
    (few : length (ends_of new.controller) ≤ 64)
    (told : (verdict : Verdict) → IsHow old outcome verdict → (name : Name) → old.controller.begun ≡ Some name
    → (r : Record) → find (has_name name) old.controller.waiting ≡ Some r → Told verdict r) where
  abbrev Behind : Type 0
  Behind = Fitting c Told new (since new.stage (Went outcome (Ok done)) aw [])

  calm_went : IsNoReset (Went outcome (Ok done))
  calm_went = record { texts = λ s xs ys. refl }

  module _ (verdict : Verdict) (how : IsHow old outcome verdict) (s : Serves verdict old new) where
    abbrev r0 : Record
    r0 = record_at old.controller.waiting s.place

    abbrev b : Block
    b = block_told verdict

    abbrev d : Drive
    d = drive_in old s.place

    is_told : r0.connection ≡ First → Told verdict r0
    is_told via = told verdict how s.name s.begun r0 (served_found k s via)

    fits_so : (e : End) → r0.connection ≡ First → end_given b d r0 ≡ Some e
        → FitsIn c Told aw (left_with e (decided_by verdict old new e))
    fits_so e via given t only =
        let plain : IsPlainEnd r0 e = given_plain b d r0 e given in
        let w = served_own k s via in
        let x = (f.kept r0.command.reference).own w.0.own t w.0.sole
        (ap (λ m. filter (has_number m) aw) (sym plain.number) ∙ only) in
        plain_fits old.buffers.items r0 x.0 e (decided_by verdict old new e) t plain
        (ap (λ m. filter (is_of First m) old.buffers.items) plain.number ∙ x.1)
        (subst (λ z. FitsBuffer z x.0 t) (sym w.1) x.2)
        (decided_code _ _ e new.controller.settings.units new.flags _)
        (inr (inr (record {
          own = r0;
          of = subst (λ z. IsOf z t) (sym w.1) x.2.of;
          drive = d;
          verdict = verdict;
          is = is_told via;
          end = given;
          told = step_told verdict old new e;
        })))

    stepped : (via : Connection) (o : Option End) → r0.connection ≡ via → end_given b d r0 ≡ o
        → AreFollowed Told aw (brought_for via o)
    stepped h o via given = grind (arith, is_told, is)

    brought : (via : Connection) (o : Option End) → r0.connection ≡ via → end_given b d r0 ≡ o
        → AllByRecursion (λ e. FitsIn c Told aw (left_with e (decided_by verdict old new e))) (brought_for via o)
    brought First None via given = tt
    brought First (Some e) via given = (fits_so e via given, tt)
    brought Second o via given = tt

    serves_fits : Behind
    serves_fits = became (Went outcome (Ok done)) old new aw f calm_went aw (append-nil aw) (record {
      long = grown_long c Told old new (decided_by verdict old new) (serves_grow s f.long few) f.long;
      kept = subst (λ rs. IsKeptEach aw rs new.buffers.items) (sym s.waiting)
          (subst (λ bs. IsKeptEach aw (waiting_after b d old.controller.waiting s.place) bs) (sym s.heeds.buffers)
          (step_kept b d aw old.controller.waiting (ends_of old.controller) old.buffers.items s.place
          s.servable.inside k.each f.kept));
      fits = grown_fits c Told old new (decided_by verdict old new) (serves_grow s f.long few) f.long aw f.fits
          (brought r0.connection (end_given b d r0) refl refl);
      followed = subst (λ es. AreFollowed Told aw es) (sym s.ends)
          (followed_more Told aw (ends_of old.controller) (brought_for r0.connection (end_given b d r0)) f.followed
          (stepped r0.connection (end_given b d r0) refl refl));
    })

  pub went_fits : Behind
  went_fits = elim (went_is picks outcome done old new r) [
    | inl s ↦ serves_fits s.0 s.1 s.2
    | inr more ↦ elim more [
      | inl n ↦ stays (Went outcome (Ok done)) old new aw f calm_went refl refl (inl n.0)
      | inr d ↦ died (Went outcome (Ok done)) old new aw f calm_went d
    ]
  ]
