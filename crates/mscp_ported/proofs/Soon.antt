-- What goes out is gone after ten actions.
use Rattle.mscp_ported.proofs.Common.{Answered, AreGiven, AsksAlways, Call, Hardware, HasRoom, Holdings, IsForgotten, IsMadeOf, List, None, Option, Outgoing, Picking, Port, Some, Task, [], acts, ap, arith, gone, inl, inr, leaves, subst, sym, ℕ, ◌++◌, ◌+◌, ◌∙◌, ◌∷◌, ◌≡◌, ◌≤◌, ◌⊎◌}
use Rattle.mscp_port.specs.declared.stage.Stage.TheVariants as stages
use Rattle.mscp_ported.proofs.Doing.{InUse, to_do}
use Rattle.mscp_ported.proofs.Room.{heard_so, room, uncleared}
use Rattle.mscp_ported.proofs.Starting.{IsFreed, IsSaying, says_on}
use Rattle.mscp_ported.proofs.Touching.{is_late}

-- ---- calls

pub more_acts : (call : Call) (calls : List Call) → acts (call ∷ calls) ≡ acts (call ∷ []) + acts calls
more_acts call calls = grind arith

-- it still goes out, or is the first that is gone
abbrev Far : {K : Type 0} (picks : Picking K) (o : Outgoing) (p q : Port K) (calls : List Call)
    → Answered picks p calls q → Type 0
Far picks o p q calls a =
    ((gone picks p q calls a ≡ []) × IsSaying q o × (acts calls + to_do q.task ≤ to_do p.task))
    ⊎ ((more : List Outgoing) × (gone picks p q calls a ≡ o ∷ more))

-- what was forgotten, or was gone
gone_out : {K : Type 0} (o : Outgoing) (old new : Port K) → IsForgotten old new ⊎ IsFreed new → new.outgoing ≡ None
gone_out o old new h = elim h [ inl f ↦ f.1.outgoing | inr d ↦ d.out ]

pub left_none : (o : Outgoing) (before after : Option Outgoing) → before ≡ Some o → after ≡ None
    → leaves before after ≡ o ∷ []
left_none o before after e h = ap (λ x. leaves x after) e ∙ ap (leaves (Some o)) h

pub left_some : (o : Outgoing) (before after : Option Outgoing) → before ≡ Some o → after ≡ Some o
    → leaves before after ≡ []
left_some o before after e h = ap (λ x. leaves x after) e ∙ ap (leaves (Some o)) h

far : {K : Type 0} (picks : Picking K) (o : Outgoing) (p q : Port K) (calls : List Call) → IsSaying p o
    → (a : Answered picks p calls q) → AreGiven picks p q calls a → Far picks o p q calls a
far picks o p q [] s e given = grind (arith, to_do)
far picks o p q (call ∷ calls) s a given = elim (far picks o p a.0 calls s a.1 given.1) [
  | inl k ↦ elim (says_on picks call o a.0 q k.1 a.2 given.0) [
    | inl on ↦ inl (
      ap (λ xs. xs ++ leaves a.0.outgoing q.outgoing) k.0
          ∙ left_some o a.0.outgoing q.outgoing k.1.out on.0.out,
      on.0,
      subst (λ n. n + to_do q.task ≤ to_do p.task) (sym (more_acts call calls)) (search (arith, on.1, k.2)),
    )
    | inr none ↦ inr (
      [],
      ap (λ xs. xs ++ leaves a.0.outgoing q.outgoing) k.0
          ∙ left_none o a.0.outgoing q.outgoing k.1.out (gone_out o a.0 q none),
    )
  ]
  | inr over ↦ inr (
    over.0 ++ leaves a.0.outgoing q.outgoing,
    ap (λ xs. xs ++ leaves a.0.outgoing q.outgoing) over.1,
  )
]

pub ten : (t : Task) → to_do t ≤ 10
ten t = grind arith

pub one : (t : Task) → 1 ≤ to_do t
one t = grind arith

pub in_use_so : {K : Type 0} (picks : Picking K) (hardware : Hardware) (credits : ℕ) (controller : Holdings K)
    (start p : Port K) (before : List Call) → IsMadeOf hardware credits controller start → AsksAlways before
    → (b : Answered picks start before p) → HasRoom picks start p before b → p.stage ≡ stages.Up → InUse p
in_use_so picks hardware credits controller start p before made asks b has up =
    grind (arith, room, heard_so, is_late, uncleared)

pub tells_soon : {K : Type 0} (picks : Picking K) (hardware : Hardware) (credits : ℕ) (controller : Holdings K)
    (start p q : Port K) (before calls : List Call) (o : Outgoing) → IsMadeOf hardware credits controller start
    → AsksAlways before → (b : Answered picks start before p) → HasRoom picks start p before b → p.stage ≡ stages.Up
    → p.outgoing ≡ Some o → (a : Answered picks p calls q) → AreGiven picks p q calls a → 10 ≤ acts calls
    → (more : List Outgoing) × (gone picks p q calls a ≡ o ∷ more)
tells_soon picks hardware credits controller start p q before calls o made asks b has up out a given long =
    elim (far picks o p q calls (record { used = in_use; out = out }) a given) [
      | inl k ↦ absurd (search (arith, k.2, ten p.task, one q.task, long))
      | inr over ↦ over
    ]
  where
    in_use : InUse p
    in_use = in_use_so picks hardware credits controller start p before made asks b has up
