use Rattle.std.proofs.Common.{◌≡◌, ℕ, zero, suc, ◌<◌, List, [], ◌∷◌, ◌++◌, get_or, refl, ap, arith, subst, sym, ◌∙◌}
use Rattle.mscp_wire.proofs.tally.Tally.begin.Goals as goal

-- each count that is known is 0
abbrev AllZero : List ℕ → Type 0
AllZero xs = (i : ℕ) → get_or xs i 65535 < 65535 → get_or xs i 65535 ≡ 0

none : (xs : List ℕ) → xs ≡ [] → AllZero xs
none xs e i h = absurd (omega (arith, h, ap (λ ys. get_or ys i 65535) e))

one_more : (xs : List ℕ) → AllZero xs → AllZero (xs ++ 0 ∷ [])
one_more [] h zero l = refl
one_more [] h (suc i) l = h i l
one_more (x ∷ xs) h zero l = h zero l
one_more (x ∷ xs) h (suc i) l = one_more xs (λ j k. h (suc j) k) i l

pub returns-in_err-reserve : goal.returns-in_err-reserve
returns-in_err-reserve g c = none c.reserve.new.self.items (c.in_err-reserve.ensures.items ∙ c.clear.ensures.items)

pub loop-init : goal.loop-init
loop-init g c = none c.reserve.new.self.items (c.in_ok-reserve.ensures.items ∙ c.clear.ensures.items)

pub returns-in_err-push : goal.returns-in_err-push
returns-in_err-push g c = subst AllZero (sym c.in_err-push.ensures.items) c.loop.invariant

pub loop-preserved : goal.loop-preserved
loop-preserved g c =
    subst AllZero (sym c.in_ok-push.ensures.items) (one_more c.loop.self.counts.items c.loop.invariant)

pub returns : goal.returns
returns g c = c.loop.invariant
