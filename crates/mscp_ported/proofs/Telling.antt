-- While there is something to tell, one thing is gone for each seventeen actions.
use Rattle.mscp_ported.proofs.Common.{Answered, AreGiven, AsksAlways, Becomes, Call, Hardware, HasRoom, HasToTell, HaveToTell, Holdings, IsForgotten, IsGiven, IsMadeOf, List, None, Option, Outgoing, Picking, Port, Task, [], acts, ap, arith, gone, inl, inr, leaves, length-append, refl, subst, sym, ℕ, ◌+◌, ◌∷◌, ◌≡◌, ◌≤◌, ◌⊎◌}
use Rattle.mscp_port.specs.declared.stage.Stage.TheVariants as stages
use Rattle.std.specs.Prelude.{◌*◌, length}
use Rattle.mscp_ported.proofs.Coming.{ends_of}
use Rattle.mscp_ported.proofs.Doing.{InUse, rest, to_do}
use Rattle.mscp_ported.proofs.Starting.{IsFreed, IsSaying, IsWaiting, says_on, waits_on}
use Rattle.mscp_ported.proofs.Soon.{in_use_so, left_none, left_some, more_acts, one, ten}

-- so many actions were done, and so many things are gone, where this goes out or an end waits
abbrev pub Pace : {K : Type 0} → Port K → ℕ → ℕ → Type 0
Pace q n g = ((o : Outgoing) × IsSaying q o × (n + to_do q.task ≤ 17 * g + 17))
    ⊎ (IsWaiting q × (n + rest q.task + 10 ≤ 17 * g + 17))

seven : (t : Task) → rest t ≤ 7
seven t = grind arith

at_most_one : (call : Call) → acts (call ∷ []) ≤ 1
at_most_one call = grind arith

left_quiet : (before after : Option Outgoing) → before ≡ None → leaves before after ≡ []
left_quiet before after e = ap (λ x. leaves x after) e

forgotten : {K : Type 0} (old new : Port K) → IsForgotten old new → HasToTell new → ⊥
forgotten old new f busy = grind (arith, ends_of)

slower : (n t g : ℕ) (c : ℕ) (u : ℕ) → c + u ≤ t → n + t ≤ 17 * g + 17 → (c + n) + u ≤ 17 * (g + 0) + 17
slower n t g c u step pace = omega (arith, step, pace)

freed_so : (n t g c u : ℕ) → c ≤ 1 → 1 ≤ t → u ≤ 7 → n + t ≤ 17 * g + 17 → (c + n) + u + 10 ≤ 17 * (g + 1) + 17
freed_so n t g c u few some low pace = omega (arith, few, some, low, pace)

waits_so : (n t g c u : ℕ) → c + u ≤ t → n + t + 10 ≤ 17 * g + 17 → (c + n) + u + 10 ≤ 17 * (g + 0) + 17
waits_so n t g c u step pace = omega (arith, step, pace)

begins_so : (n t g c u : ℕ) → c + u ≤ 10 + t → n + t + 10 ≤ 17 * g + 17 → (c + n) + u ≤ 17 * (g + 0) + 17
begins_so n t g c u step pace = omega (arith, step, pace)

pace_on : {K : Type 0} (picks : Picking K) (call : Call) (old new : Port K) (n g : ℕ) → Becomes picks call old new
    → IsGiven old.task call → HasToTell new → Pace old n g
    → Pace new (acts (call ∷ []) + n) (g + length (leaves old.outgoing new.outgoing))
pace_on {K} picks call old new n g r given busy (inl k) = elim (says_on picks call k.0 old new k.1 r given) [
  | inl on ↦ subst (λ xs. Pace new (acts (call ∷ []) + n) (g + length xs))
      (sym (left_some k.0 old.outgoing new.outgoing k.1.out on.0.out))
      (inl (k.0, on.0, slower n (to_do old.task) g (acts (call ∷ [])) (to_do new.task) on.1 k.2))
  | inr over ↦ elim over [
    | inl f ↦ absurd (forgotten old new f busy)
    | inr freed ↦ subst (λ xs. Pace new (acts (call ∷ []) + n) (g + length xs))
        (sym (left_none k.0 old.outgoing new.outgoing k.1.out freed.out)) (inr (
          waits freed busy,
          freed_so n (to_do old.task) g (acts (call ∷ [])) (rest new.task) (at_most_one call) (one old.task)
              (seven new.task) k.2,
        ))
  ]
]
  where
    waits : IsFreed new → HasToTell new → IsWaiting new
    waits f h = grind arith
pace_on {K} picks call old new n g r given busy (inr k) =
    grind (arith, left_quiet, waits_on, waits_so, rest, forgotten, begins_so, to_do)

pace : {K : Type 0} (picks : Picking K) (p q : Port K) (calls : List Call) → Pace p 0 0
    → (a : Answered picks p calls q) → AreGiven picks p q calls a → HaveToTell picks p q calls a
    → Pace q (acts calls) (length (gone picks p q calls a))
pace picks p q [] s e given busy = subst (λ x. Pace x 0 0) (sym e) s
pace picks p q (call ∷ calls) s a given busy =
    subst (λ m. Pace q (acts (call ∷ calls)) m)
    (sym (length-append (gone picks p a.0 calls a.1) (leaves a.0.outgoing q.outgoing)))
    (subst (λ m. Pace q m (length (gone picks p a.0 calls a.1) + length (leaves a.0.outgoing q.outgoing)))
    (sym (more_acts call calls))
    (pace_on picks call a.0 q (acts calls) (length (gone picks p a.0 calls a.1)) a.2 given.0 busy.0
    (pace picks p a.0 calls s a.1 given.1 busy.1)))

first_busy : {K : Type 0} (picks : Picking K) (p q : Port K) (calls : List Call) (a : Answered picks p calls q)
    → HaveToTell picks p q calls a → HasToTell p
first_busy picks p q [] e busy = subst HasToTell e busy
first_busy picks p q (call ∷ calls) a busy = first_busy picks p a.0 calls a.1 busy.1

pub keeps_telling : {K : Type 0} (picks : Picking K) (hardware : Hardware) (credits : ℕ) (controller : Holdings K)
    (start p q : Port K) (before calls : List Call) → IsMadeOf hardware credits controller start
    → AsksAlways before → (b : Answered picks start before p) → HasRoom picks start p before b → p.stage ≡ stages.Up
    → (a : Answered picks p calls q) → AreGiven picks p q calls a → HaveToTell picks p q calls a
    → acts calls ≤ 17 * (length (gone picks p q calls a) + 1)
keeps_telling {K} picks hardware credits controller start p q before calls made asks b has up a given busy =
    bound (pace picks p q calls (begins p.outgoing refl (first_busy picks p q calls a busy)) a given busy)
  where
    u : InUse p
    u = in_use_so picks hardware credits controller start p before made asks b has up

    begins : (o : Option Outgoing) → p.outgoing ≡ o → HasToTell p → Pace p 0 0
    begins o e h = grind (arith, u, ten, seven)

    bound : Pace q (acts calls) (length (gone picks p q calls a))
        → acts calls ≤ 17 * (length (gone picks p q calls a) + 1)
    bound (inl k) = omega (arith, k.2)
    bound (inr k) = omega (arith, k.1)
