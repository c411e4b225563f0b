-- While a message is read and nothing goes out, no end waits for the host.
use Rattle.mscp_ported.proofs.Common.{Action, Answered, Becomes, Bool, Call, Choice, Descriptor, End, Hardware, Holdings, IsMadeOf, List, Next, None, Picking, Port, Wants, [], ap, arith, none-some, refl, slice_get, subst, sym, ℕ, ◌∙◌, ◌∷◌, ◌≡◌}
use Rattle.mscp_ported.proofs.Loads.{free_or_not, looks_or_not}
use Rattle.mscp_port.specs.declared.task.Task.TheVariants as tasks
use Rattle.mscp_ported.proofs.Coming.{ends_of}
use Rattle.mscp_ported.proofs.Turns.{IsHearing, reads_on}
use Rattle.mscp_ported.proofs.Wanting.{alive_or_dead}

abbrev pub IsSilent : {K : Type 0} → Port K → Type 0
IsSilent p = IsHearing p.task → p.outgoing ≡ None → ends_of p.controller ≡ []

no_first : (xs : List End) → slice_get xs 0 ≡ None → xs ≡ []
no_first [] e = refl
no_first (x ∷ xs) e = search (arith, e)

module _ {K : Type 0} (old new : Port K) where
  same : new ≡ old → IsSilent old → IsSilent new
  same e was = subst (λ p. IsSilent p) (sym e) was

  wants : (picks : List Choice → ℕ → Type 0) (blocks : Bool) (action : Action) → Wants picks blocks old action new
      → IsSilent old → IsSilent new
  wants picks blocks action r was =
      grind (arith, free_or_not, same, alive_or_dead, looks_or_not, none-some, ends_of, no_first)

  by_call : (picks : Picking K) (call : Call) → Becomes picks call old new → IsSilent old → IsSilent new
  by_call picks (Next blocks action bytes) r was = wants (picks old.controller.picker) blocks action r.0 was
  by_call picks call r was = λ h none.
      let k = reads_on picks old new call tt r h in ap ends_of k.controller ∙ was k.hears (sym k.outgoing ∙ none)

module _ {K : Type 0} (picks : Picking K) (hardware : Hardware) (credits : ℕ) (controller : Holdings K)
    (start : Port K) (made : IsMadeOf hardware credits controller start) where
  pub silent : (p : Port K) (calls : List Call) → Answered picks start calls p → IsSilent p
  silent p [] a = λ h. absurd (subst (λ x. IsHearing x) (ap (λ q. q.task) a ∙ made.free) h)
  silent p (call ∷ calls) a = by_call a.0 p picks call a.2 (silent a.0 calls a.1)

  -- where a text is read and nothing goes out
  pub none_waits : (p : Port K) (calls : List Call) → Answered picks start calls p → (slot : Descriptor) (size : ℕ)
      (foreign : Bool) → p.task ≡ tasks.Text slot size foreign → p.outgoing ≡ None → ends_of p.controller ≡ []
  none_waits p calls a slot size foreign at none = silent p calls a (subst (λ x. IsHearing x) (sym at) tt) none
