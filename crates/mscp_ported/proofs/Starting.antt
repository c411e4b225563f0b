-- What each call of a port leaves of what goes out, or of an end that waits.
use Rattle.mscp_ported.proofs.Common.{Action, Becomes, Bool, Call, Choice, IsForgotten, IsGiven, List, Next, None, Option, Outgoing, Picking, Port, Some, Wants, [], acts, ap, arith, inl, inr, none-some, refl, slice_get, subst, sym, ℕ, ◌+◌, ◌<◌, ◌∙◌, ◌∷◌, ◌≡◌, ◌≢◌, ◌≤◌, ◌⊎◌, Responses, false}
use Rattle.mscp_ported.proofs.Loads.{free_or_not, looks_or_not}
use Rattle.std.specs.Prelude.{length}
use Rattle.mscp_port.specs.declared.stage.Stage.TheVariants as stages
use Rattle.mscp_port.specs.declared.task.Task.TheVariants as tasks
use Rattle.mscp_ported.proofs.Coming.{ends_of}
use Rattle.mscp_ported.proofs.Deeds.{IsClear}
use Rattle.mscp_ported.proofs.Doing.{HasEnd, InUse, goes_on, rest, to_do}

-- the rings are in use, and this goes out
pub record IsSaying {K : Type 0} (p : Port K) (o : Outgoing) : Type 0 where
  pub used : InUse p
  pub out : p.outgoing ≡ Some o

-- or nothing does
pub record IsFreed {K : Type 0} (p : Port K) : Type 0 where
  pub used : InUse p
  pub out : p.outgoing ≡ None

-- and an end waits
pub record IsWaiting {K : Type 0} (p : Port K) : Type 0 where
  pub used : InUse p
  pub out : p.outgoing ≡ None
  pub end : HasEnd p

-- ---- something is wanted

module _ {K : Type 0} {picks : List Choice → ℕ → Type 0} {blocks : Bool} {action : Action} {old new : Port K}
    (u : InUse old) (r : Wants picks blocks old action new) where
  -- where nothing is in hand a slot is looked for
  next_slot : old.task ≡ tasks.Free → new.outgoing ≢ None → InUse new × (new.task ≡ tasks.Slot Responses)
  next_slot free some =
      let up : new.stage ≡ stages.Up = ap (λ p. p.stage) r.frame ∙ u.up in
      let room : new.is_full ≡ false = ap (λ p. p.is_full) r.frame ∙ u.room in
      let heard : new.written ≡ None = ap (λ p. p.written) r.frame ∙ u.heard in
      let slot = (r.due (λ code e. search (arith, e, u.up)) free).goes_out heard up some room in
      (record { up = up; room = room; heard = heard; clear = subst (λ t. IsClear t → ⊥) (sym slot) (λ c. c) }, slot)

-- ---- what goes out

-- by a call that did so many actions it is gone, or so many are left
abbrev pub SaysOn : {K : Type 0} → Outgoing → Port K → ℕ → Port K → Type 0
SaysOn o old n new = (IsSaying new o × (n + to_do new.task ≤ to_do old.task)) ⊎ IsForgotten old new ⊎ IsFreed new

pub says_on : {K : Type 0} (picks : Picking K) (call : Call) (o : Outgoing) (old new : Port K) → IsSaying old o
    → Becomes picks call old new → IsGiven old.task call → SaysOn o old (acts (call ∷ [])) new
says_on picks (Next blocks action bytes) o old new s r given = elim (free_or_not old.task) [
  | inl free ↦
      let quiet : new.outgoing ≡ old.outgoing = elim (looks_or_not old) [
        | inl looks ↦ absurd (none-some o (sym looks.outgoing ∙ s.out))
        | inr never ↦ (r.0.says.keeps never).outgoing
      ] in
      let x = next_slot s.used r.0 free (λ e. none-some o (sym e ∙ quiet ∙ s.out)) in
      inl (
        record { used = x.0; out = quiet ∙ s.out },
        subst (λ t. 0 + to_do new.task ≤ to_do t) (sym free) (subst (λ t. 0 + to_do t ≤ 3) (sym x.1) (search arith)),
      )
  | inr busy ↦ inl (subst (λ p. IsSaying p o × (0 + to_do p.task ≤ to_do old.task)) (sym (r.0.goes_on busy))
      (s, search arith))
]
says_on picks call o old new s r given = elim (goes_on old new s.used picks call tt r given) [
  | inl f ↦ inr (inl f)
  | inr g ↦ elim g.out [
    | inl same ↦ inl (record { used = g.used; out = same.0 ∙ s.out }, same.1)
    | inr more ↦ elim more [
      | inl none ↦ inr (inr (record { used = g.used; out = none }))
      | inr begun ↦ absurd (none-some o (sym begun.0 ∙ s.out))
    ]
  ]
]

-- ---- an end that waits

-- by such a call something begins to go out, or so many are left
abbrev pub WaitsOn : {K : Type 0} → Port K → ℕ → Port K → Type 0
WaitsOn old n new = (IsWaiting new × (n + rest new.task ≤ rest old.task)) ⊎ IsForgotten old new
    ⊎ ((o : Outgoing) × IsSaying new o × (n + to_do new.task ≤ 10 + rest old.task))

begins : {K : Type 0} (old : Port K) (n : ℕ) (new : Port K) → InUse new → new.outgoing ≢ None
    → n + to_do new.task ≤ 10 + rest old.task → WaitsOn old n new
begins old n new u some few = by new.outgoing refl
  where
    by : (o : Option Outgoing) → new.outgoing ≡ o → WaitsOn old n new
    by None e = absurd (some e)
    by (Some o) e = inr (inr (o, record { used = u; out = e }, few))

some_first : {X : Type 0} (xs : List X) → 0 < length xs → slice_get xs 0 ≡ None → ⊥
some_first [] h e = search (arith, h)
some_first (x ∷ xs) h e = none-some x (sym e)

pub waits_on : {K : Type 0} (picks : Picking K) (call : Call) (old new : Port K) → IsWaiting old
    → Becomes picks call old new → IsGiven old.task call → WaitsOn old (acts (call ∷ [])) new
waits_on picks (Next blocks action bytes) old new s r given = elim (free_or_not old.task) [
  | inl free ↦
      elim (r.0.says.looks (record { outgoing = s.out; free = free; step = s.used.heard; up = s.used.up })) [
        | inl t ↦
            let some : new.outgoing ≢ None = λ e. none-some _ (sym e ∙ t.out.2) in
            let x = next_slot s.used r.0 free some in
            begins old 0 new x.0 some (subst (λ t. 0 + to_do t ≤ 10 + rest old.task) (sym x.1) (search arith))
        | inr n ↦ absurd (some_first (ends_of old.controller) s.end n.none)
      ]
  | inr busy ↦ inl (subst (λ p. IsWaiting p × (0 + rest p.task ≤ rest old.task)) (sym (r.0.goes_on busy))
      (s, search arith))
]
waits_on picks call old new s r given = elim (goes_on old new s.used picks call tt r given) [
  | inl f ↦ inr (inl f)
  | inr g ↦ elim g.out [
    | inl same ↦ inl (record { used = g.used; out = same.0 ∙ s.out; end = g.ends s.end }, g.left)
    | inr more ↦ elim more [
      | inl none ↦ inl (record { used = g.used; out = none; end = g.ends s.end }, g.left)
      | inr begun ↦ begins old _ new g.used begun.1 begun.2
    ]
  ]
]
