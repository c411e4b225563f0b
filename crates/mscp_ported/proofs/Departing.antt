-- What goes out of a port over a whole history.
use Rattle.mscp_ported.proofs.Common.{◌≡◌, ◌⊎◌, ◌∙◌, ◌++◌, ◌∷◌, [], ℕ, List, Option, None, Some, IfSome, inl, inr, ap, sym, subst, arith, option_to_list, append-nil, none-some, Holdings, Hardware, Outgoing, Port, Responses, Descriptor, Dies, IsMadeOf, IsDelivered, IsForgotten, begins, begun, gone, leaves, Answered, Becomes, Call, NamesPacket, reads, Says, in_hand, Picking}
use Rattle.mscp_port.specs.declared.stage.Stage.TheVariants as stages
use Rattle.mscp_port.specs.declared.task.Task.TheVariants as tasks
use Rattle.mscp_ported.proofs.Loads.{looks_or_not}
use Rattle.mscp_ported.proofs.Naming.Whole.{knows}

-- ---- a call

-- what went out was in a slot that is given back now
abbrev IsReturned : {K : Type 0} → Port K → Type 0
IsReturned old = (slot : Descriptor) × (old.task ≡ tasks.Return Responses slot)

-- by each call what goes out stays, or nothing went out, or what went out is gone
abbrev Passes : {K : Type 0} → Port K → Port K → Type 0
Passes old new = (new.outgoing ≡ old.outgoing) ⊎ (old.outgoing ≡ None)
    ⊎ ((new.outgoing ≡ None) × (IsForgotten old new ⊎ IsReturned old))

forgotten : {K : Type 0} (old new : Port K) → IsForgotten old new → Passes old new
forgotten old new f = inr (inr (f.1.outgoing, inl f))

dead : {K : Type 0} (old new : Port K) → Dies old new → Passes old new
dead old new d = forgotten old new (stages.Dead d.0, d.1)

said : {K : Type 0} (old new : Port K) → Says old new → Passes old new
said old new says = search (arith, looks_or_not old)

passes : {K : Type 0} (picks : Picking K) (call : Call) (old new : Port K) → Becomes picks call old new → Passes old new
passes picks call old new h3 = grind (arith, forgotten, dead, said)

-- ---- the law of order

-- what goes out is kept in step
in_step : (xs ys : List Outgoing) (before after : Option Outgoing) (Gone : Type 0)
    → (after ≡ before) ⊎ (before ≡ None) ⊎ ((after ≡ None) × Gone) → xs ≡ ys ++ option_to_list before
    → xs ++ begins before after ≡ (ys ++ leaves before after) ++ option_to_list after
in_step xs ys before after Gone h5 h6 = grind (arith, append-nil, none-some)

pub speaks_in_order : {K : Type 0} (picks : Picking K) (hardware : Hardware) (credits : ℕ) (controller : Holdings K)
    (start p : Port K)
    (calls : List Call) → IsMadeOf hardware credits controller start → (a : Answered picks start calls p)
    → begun picks start p calls a ≡ gone picks start p calls a ++ option_to_list p.outgoing
speaks_in_order picks hardware credits controller start p [] made e = search arith
speaks_in_order picks hardware credits controller start p (call ∷ calls) made a =
    in_step (begun picks start a.0 calls a.1) (gone picks start a.0 calls a.1) a.0.outgoing p.outgoing
    (IsForgotten a.0 p ⊎ IsReturned a.0) (passes picks call a.0 p a.2)
    (speaks_in_order picks hardware credits controller start a.0 calls made a.1)

-- ---- the law of slots

named_of : (o : Option ℕ) (word : ℕ) (bs : List (List ℕ)) → o ≡ Some word → IfSome o (λ w. NamesPacket bs w)
    → NamesPacket bs word
named_of o word bs e h = subst (λ x. IfSome x (λ w. NamesPacket bs w)) e h

delivered : {K : Type 0} (picks : Picking K) (hardware : Hardware) (credits : ℕ) (controller : Holdings K)
    (start old : Port K)
    (calls : List Call) → IsMadeOf hardware credits controller start → Answered picks start calls old → IsReturned old
    → IsDelivered calls old
delivered picks hardware credits controller start old calls made a returned =
    search (
      arith,
      named_of (in_hand old.task) returned.0.word (reads calls) (ap in_hand returned.1) (knows picks hardware
          credits controller start old calls made a).packet,
      knows picks hardware credits controller start old calls made a,
    )

pub fills_its_slot : {K : Type 0} (picks : Picking K) (hardware : Hardware) (credits : ℕ) (controller : Holdings K)
    (start p : Port K)
    (call : Call) (calls : List Call) (o : Outgoing) → IsMadeOf hardware credits controller start
    → (a : Answered picks start (call ∷ calls) p) → a.0.outgoing ≡ Some o → p.outgoing ≡ None
    → IsForgotten a.0 p ⊎ IsDelivered calls a.0
fills_its_slot picks hardware credits controller start p call calls o made a some none = elim
    (passes picks call a.0 p a.2) [
      | inl same ↦ absurd (none-some o (sym none ∙ same ∙ some))
      | inr more ↦ elim more [
        | inl nothing ↦ absurd (none-some o (sym nothing ∙ some))
        | inr left ↦ elim left.1 [
          | inl f ↦ inl f
          | inr returned ↦ inr (delivered picks hardware credits controller start a.0 calls made a.1 returned)
        ]
      ]
    ]
