-- Which moments are spared: those that break a rule which isn't asked of them.
use Rattle.mscp_wire.proofs.Common.{Bool, List, Log, Moment, None, Rule, Sent, Some, answer_by, ap, broken_by, broken_in, broken_unless, counts, false, false≢true, if◌then◌else◌, is_message, is_middle, is_outstanding, is_strange, is_stranger, refl, spared, spares, spares_end, sym, true, ◌&&◌, ◌∙◌, ◌≡◌}
use Rattle.mscp_wire.specs.declared.moment.Moment.TheVariants as moments
use Rattle.mscp_wire.specs.declared.rule.Rule.TheVariants as rules

module _ (log : Log) (m : Moment) where
  -- of a moment that breaks no rule, or one that is asked of it
  pub none_in : broken_by log.credits log.moments m ≡ None → broken_in log m ≡ None
  none_in h = ap (broken_unless log m) h

  pub none_strange : broken_by log.credits log.moments m ≡ None → is_stranger log m ≡ false
  none_strange h = ap (is_strange log m) h

  pub asked_in : (rule : Rule) → broken_by log.credits log.moments m ≡ Some rule → spared log m rule ≡ false
      → broken_in log m ≡ Some rule
  asked_in rule h s = ap (broken_unless log m) h ∙ ap (λ b. if b then None else Some rule) s

  pub asked_strange : (rule : Rule) → broken_by log.credits log.moments m ≡ Some rule → spared log m rule ≡ false
      → is_stranger log m ≡ false
  asked_strange rule h s = ap (is_strange log m) h ∙ ap (λ b. is_outstanding rule && b) s ∙ none (is_outstanding rule)
    where
      none : (b : Bool) → (b && false) ≡ false
      none true = refl
      none false = refl

  -- of one that is spared
  pub spared_in : (rule : Rule) → broken_by log.credits log.moments m ≡ Some rule → spared log m rule ≡ true
      → broken_in log m ≡ None
  spared_in rule h s = ap (broken_unless log m) h ∙ ap (λ b. if b then None else Some rule) s

  pub spared_strange : (rule : Rule) (strange : Bool) → broken_by log.credits log.moments m ≡ Some rule
      → spared log m rule ≡ true → strange ≡ is_outstanding rule → is_stranger log m ≡ strange
  spared_strange rule strange h s o =
      ap (is_strange log m) h ∙ ap (λ b. is_outstanding rule && b) s ∙ whole (is_outstanding rule) ∙ sym o
    where
      whole : (b : Bool) → (b && true) ≡ b
      whole true = refl
      whole false = refl

-- which rule that is
pub outstanding_is : (rule : Rule) → is_outstanding rule ≡ true → rule ≡ rules.Outstanding
outstanding_is rules.Outstanding h = refl
outstanding_is rule h = absurd (false≢true h)

-- both parts are true
pub both_true : (a b : Bool) → (a && b) ≡ true → (a ≡ true) × (b ≡ true)
both_true true b h = (refl, h)
both_true false b h = (h, absurd (never h))
  where
    never : false ≡ true → ⊥
    never e = cc

-- it counts
pub spared_counts : (log : Log) (m : Moment) (rule : Rule) (xs : List Sent) → spared log m rule ≡ true
    → counts xs m ≡ true
spared_counts log (moments.End via b) rule xs s =
    let p = both_true (is_middle log.begun log.moments) (spares log.moments log.strangers (moments.End via b) rule) s in
    let q = both_true (is_message b.items)
    (spares_end log.moments log.strangers (answer_by via b.items) rule) p.1 in
    ap (λ c. c && true) q.0
spared_counts log m rule xs s =
    let p = both_true (is_middle log.begun log.moments) false s in
    cc
