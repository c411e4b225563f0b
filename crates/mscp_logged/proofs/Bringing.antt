-- By each call ends come behind those that are still to come, and tell of their units what is so.
use Rattle.mscp_logged.proofs.Common.{Action, Answered, AsksAlways, Bool, Call, Deals, First, Hardware, History, Holdings, IsAnswering, IsPassive, List, Next, None, Ok, Outgoing, OutgoingKind, Picking, Port, ReadsBytes, Settings, Shape, Some, TellsFaults, WasRead, Went, Whole, WriteIp, [], ap, append-nil, arith, asked_before, awaited, begins, blocks, came, end_kind, end_said, ends_begun, ends_of, ends_said, ends_said_by, false, inl, inr, is_dead, logged, no_ends, nothing_two, numbers, numbers_ended, of, own_answer, passive_stays, refl, said, subst, sym, taken_by, true, unit_found, volume_found, volume_named, waiting_on, whole_kept, ℕ, ◌++◌, ◌∙◌, ◌∷◌, ◌≡◌, ◌≢◌}
use Rattle.mscp_logged.proofs.Begun.{Begun, IsKeeping}
use Rattle.mscp_port.specs.declared.port.OutgoingKind.TheVariants as kinds
use Rattle.mscp_logged.proofs.Describing.{IsAsWas, IsTold}
use Rattle.mscp_logged.proofs.Listening.{read_speaks}
use Rattle.mscp_logged.proofs.Moored.{alive, found_as, next_volumes, passive_volumes}
use Rattle.mscp_logged.proofs.Orderly.{numbers_kept, promised}
use Rattle.mscp_logged.proofs.Own.{IsOwn, answers_so, none_left, of_disk}
use Rattle.mscp_logged.proofs.Replied.{own_told}
use Rattle.mscp_logged.proofs.Speaking.{Each, Speaks}
use Rattle.mscp_logged.proofs.Texts.{Comes, next_comes, texts_of, waiting}
use Rattle.mscp_logged.proofs.Away.{IsPlaced}
use Rattle.mscp_logged.proofs.Driving.{driving, went_told}
use Rattle.mscp_logged.proofs.Stating.{own_placed}

-- what begins to go out is the oldest of those that were to come, and these come behind
pub record Brings (h : Hardware) (units : List Shape) (F : Type 0) {K : Type 0} (old new : Port K)
    (more : List (List ℕ)) : Type 0 where
  pub comes : Comes h units old new more
  pub told : (u : ℕ) → Each (IsTold u (unit_found units u)) (volume_found units old.volumes u)
      (volume_found units new.volumes u) more
  pub placed : F → (u : ℕ) → Each (IsPlaced u) (volume_found units old.volumes u) (volume_found units new.volumes u)
      more

module _ {K : Type 0} {picks : Picking K} (run : Begun picks) (keeping : IsKeeping run) (F : Type 0) where
  open run use {c, picker, valid, before, hardware, credits, controller, start, was, made, quiet}
  open keeping use {keep}

  pub whole : (p : Port K) (calls : List Call) (a : Answered picks start calls p)
      → Whole hardware c.units p (came picks start p calls a) (ends_said picks start p calls a)
  whole = whole_kept picks c picker keep valid before hardware credits controller start was made
      (no_ends (of First controller.untaken) (nothing_two (numbers (waiting_on First controller.waiting))
      (numbers_ended (of First controller.untaken)) quiet).1)

  -- these ends come by a call, and none by a message that the controller doesn't take
  abbrev Spoken : (p : Port K) (call : Call) (calls : List Call) → Answered picks start (call ∷ calls) p → Type 0
  Spoken p call calls a = (more : List (List ℕ)) × Speaks hardware c.units F a.0 p more
      × ((bytes : List ℕ) (done : Unit) → call ≡ WasRead bytes (Ok done) → taken_by call a.0 ≡ [] → more ≡ [])

  abbrev IsOther : Call → Type 0
  IsOther call = (blocks : Bool) (action : Action) (bytes : List ℕ) → call ≢ Next blocks action bytes

  speaks : (p : Port K) (call : Call) (calls : List Call) → AsksAlways (call ∷ calls) → ReadsBytes (call ∷ calls)
      → (F → TellsFaults (call ∷ calls)) → (a : Answered picks start (call ∷ calls) p) → call ≢ WriteIp
      → is_dead p.stage ≡ false → IsOther call → Spoken p call calls a
  speaks p call calls asks reads fine a never lives other = by call asks reads fine a never other
    where
      passive : (call : Call) (a : Answered picks start (call ∷ calls) p) → IsPassive call → Spoken p call calls a
      passive call a is = elim (passive_stays picks call a.0 p a.2 is) [
        | inr d ↦ absurd (search (arith, lives, ap is_dead d.1.stage))
        | inl s ↦
            let still = alive a.0 p lives (passive_volumes a.0 p picks call a.2 is) in (
              [],
              record {
                behind = ap (λ (x : Holdings K). texts_of hardware c.units (ends_of x) p.decided.items) s.0
                    ∙ ap (λ d. texts_of hardware c.units (ends_of a.0.controller) d.items) s.1
                    ∙ sym (append-nil (waiting hardware c.units a.0));
                told = λ u. found_as c.units u a.0.volumes p.volumes still;
                placed = λ f u. found_as c.units u a.0.volumes p.volumes still;
              },
              λ bytes done e none. refl,
            )
      ]

      by : (call : Call) → AsksAlways (call ∷ calls) → ReadsBytes (call ∷ calls) → (F → TellsFaults (call ∷ calls))
          → (a : Answered picks start (call ∷ calls) p) → call ≢ WriteIp → IsOther call → Spoken p call calls a
      by (WasRead bytes (Ok done)) asks reads fine a never other =
          let x = read_speaks bytes done a.0 p (awaited picks start a.0 calls a.1)
          (numbers_kept run keeping a.0 calls reads.1 a.1) a.2 reads.0 (whole a.0 calls a.1).ends.long lives hardware c
          (promised run keeping a.0 calls a.1).1.settings F in
          (x.0, x.1, λ b u e. x.2)
      by (Went outcome (Ok done)) asks reads fine a never other =
          let x = went_told run keeping p outcome done calls asks reads a (driving run keeping a.0 calls
          (asked_before (Went outcome (Ok done)) calls asks) reads a.1) lives F (λ f. (fine f).0) in
          (x.0, x.1.0, λ b u e. search (arith, e))
      by call asks reads fine a never other = grind (arith, passive)

  module _ (p : Port K) (call : Call) (calls : List Call) (asks : AsksAlways (call ∷ calls))
      (reads : ReadsBytes (call ∷ calls)) (fine : F → TellsFaults (call ∷ calls))
      (a : Answered picks start (call ∷ calls) p) (never : call ≢ WriteIp)
      (lives : is_dead p.stage ≡ false) where
    abbrev h : History
    h = logged picks start a.0 calls a.1

    abbrev old : List (List ℕ)
    old = waiting hardware c.units a.0

    abbrev now : List (List ℕ)
    now = waiting hardware c.units p

    abbrev Brought : Type 0
    Brought = (more : List (List ℕ)) × Brings hardware c.units F a.0 p more

    -- ---- what comes

    begun_none : begins a.0.outgoing p.outgoing ≡ [] → ends_begun a.0.outgoing p.outgoing ≡ []
    begun_none = grind arith

    begun_other : (o : Outgoing) → a.0.outgoing ≡ None → p.outgoing ≡ Some o → (k : OutgoingKind) → o.kind ≡ k
        → ends_begun a.0.outgoing p.outgoing ≡ end_said k o.bytes.items
    begun_other o nothing some k kind = grind arith

    plain : ends_begun a.0.outgoing p.outgoing ≡ []
        → IsOther call → Brought
    plain none other =
        let x = speaks p call calls asks reads fine a never lives other in
        (x.0, record { comes = ap (λ xs. xs ++ now) none ∙ x.1.behind; told = x.1.told; placed = x.1.placed })

    wanted : (blocks : Bool) (action : Action) (bytes : List ℕ) → call ≡ Next blocks action bytes → Brought
    wanted blocks action bytes e = by call a e
      where
        by : (call : Call) (a : Answered picks start (call ∷ calls) p) → call ≡ Next blocks action bytes
            → (more : List (List ℕ)) × Brings hardware c.units F a.0 p more
        by (Next b x y) a e =
            let k = whole a.0 calls a.1 in
            let still = next_volumes a.0 p (picks a.0.controller.picker) b x a.2.0 in (
              [],
              record {
                comes = next_comes hardware c.units a.0 p (picks a.0.controller.picker) b x a.2.0 k.ends.long
                    k.hardware (ap (λ (s : Settings). s.units) (promised run keeping a.0 calls a.1).1.settings);
                told = λ u. found_as c.units u a.0.volumes p.volumes still;
                placed = λ f u. found_as c.units u a.0.volumes p.volumes still;
              },
            )
        by call a e = search (arith, e)

    answering : IsAnswering call a.0 p → Brought
    answering q = by own.foreign own.kind
      where
        own : IsOwn a.0 q.message q.out
        own = answers_so picks call a.0 p a.2 q

        other : IsOther call
        other blocks action bytes e = search (arith, sym q.read.1 ∙ e)

        x : Spoken p call calls a
        x = speaks p call calls asks reads fine a never lives other

        none : x.0 ≡ []
        none = x.2 q.message q.read.0 q.read.1 q.taken

        still : (u : ℕ) → IsAsWas (volume_found c.units a.0.volumes u) (volume_found c.units p.volumes u)
        still u = subst (λ xs. Each (IsTold u (unit_found c.units u)) (volume_found c.units a.0.volumes u)
            (volume_found c.units p.volumes u) xs) none (x.1.told u)

        was_none : waiting hardware c.units a.0 ≡ []
        was_none = ap (λ es. texts_of hardware c.units es a.0.decided.items)
            (none_left picks hardware credits controller start made p call calls a q)

        is_none : waiting hardware c.units p ≡ []
        is_none = x.1.behind ∙ ap (λ xs. old ++ xs) none ∙ append-nil old ∙ was_none

        by : (foreign : Bool) → q.out.kind ≡ end_kind foreign → Brought
        by true kind = (
          [],
          record {
            comes = ap (λ xs. xs ++ now) (begun_other q.out q.nothing q.begun kinds.UtilitiesEnd kind) ∙ is_none
                ∙ sym (ap (λ xs. xs ++ []) was_none);
            told = still;
            placed = λ f. still;
          },
        )
        by false kind = (
          q.out.bytes.items ∷ [],
          record {
            comes = ap (λ xs. xs ++ now) (begun_other q.out q.nothing q.begun kinds.End kind)
                ∙ ap (λ xs. q.out.bytes.items ∷ xs) is_none ∙ sym (ap (λ xs. xs ++ q.out.bytes.items ∷ []) was_none);
            told = λ u. rw own.own.2 (own_told u (unit_found c.units u) (volume_named a.0 q.message) q.message own.own.0
                answered (still u));
            placed = λ f u. rw own.own.2 (own_placed u (volume_named a.0 q.message) q.message own.own.0 answered
                (still u));
          },
        )
          where
            answered : own_answer false (volume_named a.0 q.message) q.message ≡ Some own.own.0
            answered = grind (arith, of_disk, own)

    pub brings : Deals (awaited picks start a.0 calls a.1) call a.0 p → Brought
    brings d = by call refl
      where
        not_next : (x : Call) → call ≡ x → IsOther x → IsOther call
        not_next x e never blocks action bytes f = never blocks action bytes (sym e ∙ f)

        no_end : (x : Call) → call ≡ x → IsOther x → (text : List ℕ) → ends_said_by call a.0 p ≡ text ∷ [] → ⊥
        no_end x e never text said = grind arith

        other : (x : Call) → call ≡ x → IsOther x → Deals (awaited picks start a.0 calls a.1) call a.0 p → Brought
        other x e never (inl q) = plain (begun_none q.begun) (not_next x e never)
        other x e never (inr (inl q)) = grind (arith, plain, begun_other, not_next)
        other x e never (inr (inr (inl q))) = absurd (no_end x e never q.out.bytes.items q.ended)
        other x e never (inr (inr (inr (inl q)))) = plain (begun_none q.begun) (not_next x e never)
        other x e never (inr (inr (inr (inr q)))) = answering q

        by : (x : Call) → call ≡ x → Brought
        by (Next blocks action bytes) e = wanted blocks action bytes e
        by x e = other x e (λ blocks action bytes f. search (arith, f)) d
