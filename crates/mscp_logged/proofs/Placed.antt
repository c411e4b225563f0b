-- Which rules all ends of a port's log keep, by the command that each answers and its tie to that.
use Rattle.mscp_logged.proofs.Common.{ArrayVec, First, History, HostIsRight, Keeps, List, Moment, None, Option, Rule, Said, Some, broken_by, false≢true, is_message, length, moment_at, outstanding, refl, subst, sym, take, true, ℕ, ◌<◌, ◌∙◌, ◌≡◌}
use Rattle.mscp_wire.specs.declared.moment.Moment.TheVariants as moments
use Rattle.mscp_logged.proofs.Breaking.{end_holds, moment_fails, none_never, seen_at}
use Rattle.mscp_logged.proofs.Stated.{IsSeen, IsTied, Stated}

-- where the host's messages are right, a rule is kept that holds of each end with such a tie
pub keeps_rule : (Tie : List ℕ → List ℕ → Type 0) (G O : Type 0) (limit : Option ℕ) (x : Rule) (h : History)
    (aw : List (List ℕ)) (held : List Said) → Stated Tie G O h aw held
    → (More : History → Moment → Type 0) → ((i : ℕ) → i < length h → More (take i h) (moment_at h i))
    → ((i : ℕ) (b : ArrayVec ℕ) → i < length h
    → IsTied Tie G O (outstanding (take i h)) b.items → More (take i h) (moments.End First b)
    → end_holds (outstanding (take i h)) (seen_at (take i h) (moments.End First b)) First b.items x ≡ true)
    → HostIsRight limit h → Keeps x limit h
keeps_rule Tie G O limit x h aw held s More more ends host i low =
    by (moment_at h i) (s.each i low) (more i low) (host i low)
  where
    by : (m : Moment) → IsSeen Tie G O (take i h) m → More (take i h) m
        → (is_message m ≡ true → broken_by limit (take i h) m ≡ None)
        → broken_by limit (take i h) m ≡ Some x → ⊥
    by (moments.Message via b time) is m right e = none_never x (sym (right refl) ∙ e)
    by (moments.End via b) is m right e =
        let unit = seen_at (take i h) (moments.End via b) in
        false≢true (sym (moment_fails (outstanding (take i h)) unit limit (moments.End via b) x e)
        ∙ subst (λ v. end_holds (outstanding (take i h)) (seen_at (take i h) (moments.End v b)) v b.items x ≡ true)
        (sym is.0) (ends i b low is.1 (subst (λ v. More (take i h) (moments.End v b)) is.0 m)))
    by m is y right e = none_never x e

abbrev pub Any : List ℕ → List ℕ → Type 0
Any text message = Unit {0}
