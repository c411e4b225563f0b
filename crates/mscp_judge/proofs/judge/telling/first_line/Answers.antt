use Rattle.mscp_judge.proofs.Common.{◌≡◌, ◌≢◌, ◌<◌, ◌≤◌, ◌+◌, inl, inr, ℕ, Bool, true, false, List, get_or, length, refl, ap, ◌∙◌, arith, nat_lt, ltb-true, nat_tests, length-take-le, BeginsWith}
use borrow.Author.Count.{below_more}
use Rattle.mscp_judge.proofs.Feeds.{begins_line, first_is}
use Rattle.mscp_judge.proofs.judge.telling.first_line.Goals as goal

-- a line that bytes begin with ends at a line feed
longer : (bytes text : List ℕ) (n : ℕ) → ((k : ℕ) → k < n → get_or bytes k 0 ≢ 10) → BeginsWith bytes text
    → n ≤ length text
longer bytes text n none begins = at (nat_lt (length text) n) refl
  where
    at : (b : Bool) → nat_lt (length text) n ≡ b → n ≤ length text
    at true e = absurd (none (length text) (ltb-true (length text) n e) (begins_line bytes text begins).1)
    at false e = grind (arith, nat_tests)

pub returns-then-byte-eq10 : goal.returns-then-byte-eq10
returns-then-byte-eq10 c =
    inr (first_is c.args.bytes.now c.loop-byte.line.items c.loop-byte.byte-index c.loop-byte-test.true
    c.loop-byte.invariant.same c.if-byte-eq10.true)

pub returns-then-is_full : goal.returns-then-is_full
returns-then-is_full c =
    let i = c.loop-byte.invariant in
    let bytes = c.args.bytes.now in
    let at = c.loop-byte.byte-index in
    let within : at ≤ length bytes = omega (arith, c.loop-byte-test.true) in
    let size : length c.loop-byte.line.items ≡ at = ap length i.same ∙ length-take-le at bytes within in
    let full : length c.loop-byte.line.items ≡ 128 =
    grind (arith, nat_tests, c.is_full.ensures.value, c.if-is_full.true) in
    let none : (k : ℕ) → k < at + 1 → get_or bytes k 0 ≢ 10 =
    below_more (λ k. get_or bytes k 0 ≢ 10) at i.none c.if-byte-eq10.false in
    inl (c.new.ensures, λ other begins. omega (arith, longer bytes other (at + 1) none begins, size, full))

pub returns : goal.returns
returns c =
    let bytes = c.args.bytes.now in
    let i = c.loop-byte.invariant in
    let none : (k : ℕ) → k < length bytes → get_or bytes k 0 ≢ 10 =
    λ k l. i.none k (omega (arith, l, c.loop-byte-test.false)) in
    inl (
      c.new-2.ensures,
      λ other begins. absurd (omega (
        arith,
        longer bytes other (length bytes) none begins,
        (begins_line bytes other begins).0,
      )),
    )
