-- What each call of a port deals with.
use Rattle.mscp_ported.proofs.Common.{Action, AllByRecursion, Becomes, Bool, Call, Deals, Descriptor, End, Err, Hears, Holdings, IsEnding, IsOfKind, IsReadingText, IsSomeAnd, List, Next, None, Ok, Option, Outcome, Outgoing, Picking, Port, Result, SeesText, SendFault, Sent, Shape, Some, TakesEnd, Task, TellsOf, Volume, Wants, WasRead, Went, [], accepted_by, accepted_text, accepts, answered_to, ap, append-nil, arith, attention, begins, bytes_in, cond, drop, end_bytes, end_kind, ends_begun, eqb-true, every_kept, false, filter, has_number, inl, inr, is_dead, is_none, is_ok, is_taken_text, news_place, none-some, not, num, option_map, own_end_of, refl, same_Some, since, slice_get, subst, sym, taken_by, told_end, true, volume_at, volume_named, without_ends, ℕ, ◌&&◌, ◌++◌, ◌<◌, ◌^◌, ◌∙◌, ◌∷◌, ◌≡◌, ◌≢◌, ◌≤◌, ◌⊎◌}
use Rattle.mscp_ported.proofs.Loads.{looks_or_not}
use Rattle.mscp_ported.proofs.Said.{none_or_some}
use Rattle.mscp_ported.proofs.Minor.{minor, minor_out}
use Rattle.mscp_port.specs.declared.port.OutgoingKind.TheVariants as kinds
use Rattle.mscp_port.specs.declared.task.Task.TheVariants as tasks
use Rattle.mscp_ported.proofs.Answering.{none_so, own_so}
use Rattle.mscp_ported.proofs.Awaiting.{IsNoReset, IsSmall, Kept, lives_so, same_so}
use Rattle.mscp_ported.proofs.Coming.{ends_of}
use Rattle.mscp_ported.proofs.Decided.{passive_said}
use Rattle.mscp_ported.proofs.Numbered.{AtEach, counted_in, end_awaited, takes_end}
use Rattle.mscp_ported.proofs.Reading.{and_false, taken_is}
use Rattle.mscp_ported.proofs.Staying.{IsPassive}
use Rattle.mscp_ported.proofs.Taking.{begun_end, begun_same, says_is}
use Rattle.mscp_ported.proofs.Whole.{told_counts, told_number, told_whole}

-- ---- what goes out

begins_same : (o q : Option Outgoing) → (q ≡ o) ⊎ (q ≡ None) → begins o q ≡ []
begins_same o q h = grind arith

passive_out : {K : Type 0} (picks : Picking K) (call : Call) (old new : Port K) → Becomes picks call old new
    → IsPassive call → (new.outgoing ≡ old.outgoing) ⊎ (new.outgoing ≡ None)
passive_out {K} picks call old new r is = grind (arith, minor_out, minor)

passive_accepted : {K : Type 0} (call : Call) (old : Port K) → IsPassive call → accepted_by call old ≡ []
passive_accepted call old is = grind arith

pub passive_taken : {K : Type 0} (call : Call) (old : Port K) → IsPassive call → taken_by call old ≡ []
passive_taken call old is = grind arith

pub passive_deals : {K : Type 0} (picks : Picking K) (call : Call) (old new : Port K) (aw : List (List ℕ))
    → Becomes picks call old new → IsPassive call → Deals aw call old new
passive_deals picks call old new aw r is =
    grind (arith, begins_same, passive_out, passive_accepted, passive_taken, passive_said)

pub went_deals : {K : Type 0} (picks : Picking K) (outcome : Outcome) (done : Unit) (old new : Port K)
    (aw : List (List ℕ)) → Becomes picks (Went outcome (Ok done)) old new → Deals aw (Went outcome (Ok done)) old new
went_deals picks outcome done old new aw r = grind (arith, begins_same)

-- ---- a message

module _ {K : Type 0} (bytes : List ℕ) (done : Unit) (old new : Port K) (aw : List (List ℕ))
    (r : Hears bytes old (Ok done) new) (lives : is_dead new.stage ≡ false) where
  abbrev Said_so : Type 0
  Said_so = Deals aw (WasRead bytes (Ok done)) old new

  quiet : begins old.outgoing new.outgoing ≡ [] → accepted_by (WasRead bytes (Ok done)) old ≡ []
      → taken_by (WasRead bytes (Ok done)) old ≡ [] → Said_so
  quiet a b c = inl (record { begun = a; accepted = b; taken = c; ended = refl })

  not_text : (t : Task) → old.task ≡ t → accepted_text old t bytes ≡ [] → is_taken_text old bytes t ≡ false
      → (Rattle.mscp_port.specs.Ports.IsReadingText t → ⊥) → Said_so
  not_text t at none_accepted none_taken never = grind (arith, quiet, begins_same)

  module _ (slot : Descriptor) (size : ℕ) (foreign : Bool) (at : old.task ≡ tasks.Text slot size foreign) where
    sees : SeesText slot foreign bytes old new
    sees = (r.sees refl).text slot size foreign at

    accepted_is : accepted_by (WasRead bytes (Ok done)) old
        ≡ cond (accepts (own_end_of old foreign bytes) old.outgoing (answered_to old bytes)) (bytes ∷ []) []
    accepted_is = ap (λ t. accepted_text old t bytes) at

    own_taken : (e : End) → own_end_of old foreign bytes ≡ Some e → taken_by (WasRead bytes (Ok done)) old ≡ []
    own_taken e own =
        let o = own_so foreign (volume_named old bytes) bytes e own in
        taken_is bytes done old new r slot size foreign at
        ∙ ap (λ b. cond (is_none b && is_ok (answered_to old bytes)) (bytes ∷ []) []) o.1

    own_deals : (e : End) → own_end_of old foreign bytes ≡ Some e → (o : Option Outgoing) → old.outgoing ≡ o → Said_so
    own_deals e own None none =
        let some : own_end_of old foreign bytes ≢ None = λ x. none-some e (sym x ∙ own) in
        outs new.outgoing refl (subst (λ q. Rattle.std.specs.Prelude.IsSomeAnd q (λ x.
        Rattle.std.specs.Prelude.IsSomeAnd new.outgoing (λ y. (y.bytes.items ≡ end_bytes x)
        × (y.kind ≡ Rattle.mscp_port.specs.Packets.end_kind foreign)))) own (sees.own some none).1.out)
      where
        outs : (q : Option Outgoing) → new.outgoing ≡ q
            → Rattle.std.specs.Prelude.IsSomeAnd q (λ y. (y.bytes.items ≡ end_bytes e)
            × (y.kind ≡ Rattle.mscp_port.specs.Packets.end_kind foreign)) → Said_so
        outs None is h = absurd h
        outs (Some o) is h = grind (arith, accepted_is, own_taken)
    own_deals e own (Some x) some =
        let is : own_end_of old foreign bytes ≢ None = λ n. none-some e (sym n ∙ own) in
        let same = sees.own_waits is (λ n. none-some x (sym n ∙ some)) in
        quiet (begins_same old.outgoing new.outgoing (inl (ap (λ (q : Port K). q.outgoing) same)))
        (accepted_is ∙ ap (λ y. cond (accepts y old.outgoing (answered_to old bytes)) (bytes ∷ []) []) own
        ∙ ap (λ y. cond (accepts (Some e) y (answered_to old bytes)) (bytes ∷ []) []) some) (own_taken e own)

    handed_deals : own_end_of old foreign bytes ≡ None → (a : Result Sent SendFault) → answered_to old bytes ≡ a
        → Said_so
    handed_deals none (Ok s) answer = grind (arith, begins_same, sees, accepted_is, taken_is, none_so)
    handed_deals none (Err fault) answer = grind (arith, quiet, begins_same, sees, accepted_is, taken_is, and_false)

    text_deals : Said_so
    text_deals = elim (none_or_some (own_end_of old foreign bytes)) [
      | inl none ↦ handed_deals none (answered_to old bytes) refl
      | inr own ↦ own_deals own.0 own.1 old.outgoing refl
    ]

  pub read_deals : Said_so
  read_deals = by old.task refl
    where
      by : (t : Task) → old.task ≡ t → Said_so
      by (tasks.Text slot size foreign) at = text_deals slot size foreign at
      by task at = not_text task at refl refl (λ x. x)

-- ---- something is wanted

pub one_of : {X : Type 0} (P : X → Type 0) (f : X → Bool) (xs : List X) (x : X) → AllByRecursion P xs
    → filter f xs ≡ x ∷ [] → P x × (f x ≡ true)
one_of P f [] x all e = search (arith, e)
one_of {X} P f (y ∷ ys) x all e = grind (arith, one_of P f ys x all.1, all.0)

head_so : (es : List End) (e : End) → slice_get es 0 ≡ Some e → es ≡ e ∷ drop 1 es
head_so [] e h = absurd (none-some e h)
head_so (x ∷ es) e h = ap (λ y. y ∷ es) (same_Some x e h)

-- the end that is taken
module _ {K : Type 0} {old new : Port K} {aw : List (List ℕ)} (k : Kept old aw) (t : TakesEnd old new) where
  abbrev e : End
  e = t.out.0

  abbrev es : List End
  es = drop 1 (ends_of old.controller)

  pub whole : ends_of old.controller ≡ e ∷ es
  whole = head_so (ends_of old.controller) e t.out.1

  at : AtEach aw old.controller.waiting (e ∷ es)
  at = subst (λ xs. AtEach aw old.controller.waiting xs) whole k.each

  pub own : (text : List ℕ) × (filter (has_number e.reference) aw ≡ text ∷ []) × (counted_in e.body ≤ bytes_in text)
  own = end_awaited aw old.controller.waiting e es at

  small : e.reference < 2 ^ 32
  small =
      let x = one_of IsSmall (has_number e.reference) aw own.0 k.small own.1 in
      subst (λ n. n < 2 ^ 32) (Rattle.mscp_port.proofs.Common.eqb-true (num own.0 0 4) e.reference x.1) x.0

  pub named : num (told_end old e) 0 4 ≡ e.reference
  named = told_number old e small

  -- its message is awaited no more
  pub left_awaited : without_ends (ends_begun old.outgoing new.outgoing) aw ++ []
      ≡ filter (λ x. not (has_number e.reference x)) aw
  left_awaited = grind (arith, begun_end, append-nil, named)

-- a call by which something is wanted: what there is then, and what it deals with
module _ {K : Type 0} (blocks : Bool) (action : Action) (bytes : List ℕ) (old new : Port K) (aw : List (List ℕ))
    (k : Kept old aw) (picks : List _ → ℕ → Type 0) (r : Wants picks blocks old action new) where
  abbrev After_it : Type 0
  After_it = Kept new (since new.stage (Next blocks action bytes)
      (without_ends (ends_begun old.outgoing new.outgoing) aw) [])

  calm : IsNoReset (Next blocks action bytes)
  calm = record { texts = λ s xs ys. refl }

  stage : new.stage ≡ old.stage
  stage = ap (λ (q : Port K). q.stage) r.frame

  -- after which something is kept
  pub next_so : After_it
  next_so = elim (says_is old new r.says) [
    | inl x ↦
        let t = x.0 in
        let e = t.out.0 in
        lives_so (Next blocks action bytes) old new aw k calm (filter (λ x. not (has_number e.reference x)) aw)
        (ap is_dead (stage ∙ x.1)) (left_awaited k t)
        (subst (λ (h : Holdings K). AtEach (filter (λ x. not (has_number e.reference x)) aw) h.waiting (ends_of h))
        (sym t.controller) (takes_end aw old.controller.waiting e (drop 1 (ends_of old.controller)) (at k t)))
        (every_kept IsSmall (λ x. not (has_number e.reference x)) aw k.small)
    | inr n ↦ same_so (Next blocks action bytes) old new aw k calm n.begun refl
        (ap (λ (h : Holdings K). h.waiting) n.controller) (ap (λ (h : Holdings K). ends_of h) n.controller)
        (λ d. sym (ap is_dead stage) ∙ d)
  ]

  ends_it : (t : TakesEnd old new) → IsOfKind t.out.0 → IsEnding aw (Next blocks action bytes) old new
  ends_it t shaped =
      let e = t.out.0 in
      record {
        out = record { bytes = record { items = told_end old e }; kind = kinds.End };
        nothing = t.nothing;
        begun = t.out.2;
        kind = refl;
        accepted = refl;
        taken = refl;
        ended = begun_end old new t;
        message = (own k t).0;
        only = ap (λ n. filter (has_number n) aw) (named k t) ∙ (own k t).1;
        counts = told_counts old e (bytes_in (own k t).0) shaped (own k t).2;
        whole = told_whole old e shaped;
      }

  quiet_next : (new.outgoing ≡ old.outgoing) → Deals aw (Next blocks action bytes) old new
  quiet_next same = grind (arith, begins_same, begun_same)

  news_so : (place : Option ℕ) (units : List Shape) (before after : List Volume) (q : Option Outgoing)
      → new.outgoing ≡ q → old.outgoing ≡ None → TellsOf units before place q after
      → Deals aw (Next blocks action bytes) old new
  news_so None units before after q is none h = quiet_next (is ∙ h.0 ∙ sym none)
  news_so (Some place) units before after q is none h = by (slice_get units place) refl
    where
      by : (x : Option Shape) → slice_get units place ≡ x → Deals aw (Next blocks action bytes) old new
      by None e = quiet_next (is ∙ h.0 ∙ ap (option_map (λ unit. record {
        bytes = record { items = attention unit (volume_at before place) };
        kind = kinds.Attention;
      })) e ∙ sym none)
      by (Some unit) e = inr (inl (record {
        out = record {
          bytes = record { items = attention unit (volume_at before place) };
          kind = kinds.Attention;
        };
        nothing = none;
        begun = is ∙ h.0 ∙ ap (option_map (λ unit. record {
          bytes = record { items = attention unit (volume_at before place) };
          kind = kinds.Attention;
        })) e;
        kind = refl;
        code = refl;
        long = (omega arith, omega arith);
        accepted = refl;
        taken = refl;
        ended = ap (λ o. ends_begun o new.outgoing) none ∙ ap (ends_begun None) (is ∙ h.0
            ∙ ap (option_map (λ unit. record {
              bytes = record { items = attention unit (volume_at before place) };
              kind = kinds.Attention;
            })) e);
      }))

  -- and what it deals with, where each end has the body of its endcode
  pub next_deals : ((e : End) → slice_get (ends_of old.controller) 0 ≡ Some e → IsOfKind e)
      → Deals aw (Next blocks action bytes) old new
  next_deals shaped = elim (looks_or_not old) [
    | inl looks ↦ elim (r.says.looks looks) [
      | inl t ↦ inr (inr (inl (ends_it t (shaped t.out.0 t.out.1))))
      | inr n ↦ news_so (news_place old) old.controller.settings.units old.volumes new.volumes new.outgoing refl
          n.nothing n.out
    ]
    | inr never ↦ quiet_next (r.says.keeps never).outgoing
  ]
