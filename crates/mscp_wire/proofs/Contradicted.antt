-- What a moment that breaks a rule is compared with: the judge is the same then as before it.
use Rattle.mscp_wire.proofs.Common.{Connection, IfSome, Judge, List, Moment, Option, Rule, Seen, Sent, Some, Told, answer_by, ap, if◌then◌else◌, is_long, kept, passed_of, refl, seen_before, seen_nothing, sents, settles, subst, told_nothing, unit_before, ℕ, ◌∙◌, ◌≡◌}
use Rattle.mscp_wire.specs.declared.moment.Moment.TheVariants as moments

pub kept_then : {X : Type 0} (old new : X) (broken : Option Rule) (rule : Rule) → broken ≡ Some rule
    → IfSome broken (λ r. new ≡ old) → new ≡ old
kept_then old new broken rule is h = subst (λ b. IfSome b (λ r. new ≡ old)) is h

pub passed_then : {A : Type 0} (old new : Judge A) (m : Moment) (xs : List Sent) → new ≡ old → sents old.commands ≡ xs
    → passed_of (sents new.commands) m ≡ passed_of xs m
passed_then {A = A} old new m xs same is =
    ap (λ (j : Judge A). passed_of (sents j.commands) m) same ∙ ap (λ ys. passed_of ys m) is

pub seen_then : {A : Type 0} (old new : Judge A) (m : Moment) (xs : List Sent) (units : Connection → ℕ → Told)
    (known : Option ℕ) → new ≡ old → sents old.commands ≡ xs
    → ((via : Connection) (unit : ℕ) → kept old.units via unit ≡ units via unit) → old.controller ≡ known
    → seen_before (sents new.commands) (kept new.units) new.controller m ≡ seen_before xs units known m
seen_then {A = A} old new m xs units known same are told is =
    ap (λ (j : Judge A). seen_before (sents j.commands) (kept j.units) j.controller m) same
    ∙ (ap (λ ys. seen_before ys (kept old.units) old.controller m) are ∙ by_moment m)
  where
    seen : Told → Option ℕ → Seen
    seen unit controller = record { unit = unit; controller = controller }

    by_moment : (m : Moment) → seen_before xs (kept old.units) old.controller m ≡ seen_before xs units known m
    by_moment (moments.Message via b time) = refl
    by_moment (moments.End via b) =
        let a = answer_by via b.items in
        ap (λ t. if is_long b.items then seen (if settles xs a then t else told_nothing) old.controller
        else seen_nothing) (told a.connection a.unit)
        ∙ ap (λ k. if is_long b.items then seen (unit_before xs units a) k else seen_nothing) is
    by_moment moments.Reset = refl
    by_moment (moments.Closed via) = refl
