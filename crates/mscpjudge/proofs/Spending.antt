-- What comes of the lines of a log for the account of credits, a line more at a time.
use Rattle.mscpjudge.proofs.Common.{Account, List, None, [], account_in, after_line, ap, arith, breach_from, false, first_of, if◌then◌else◌, line_breach, nat_le, nat_tests, refl, subst, sym, true, ℕ, ◌+◌, ◌<◌, ◌∙◌, ◌∷◌, ◌≡◌, ◌≤◌}

-- the first message without a credit
pub breach_more : (n place : ℕ) (account : Account) (line : List ℕ) (rest : List (List ℕ)) → place ≡ n + 1
    → breach_from n account (line ∷ rest)
    ≡ first_of (line_breach place account line) (breach_from place (after_line place account line) rest)
unfolding breach_from
breach_more n place account line rest e =
    subst (λ k. breach_from n account (line ∷ rest)
    ≡ first_of (line_breach k account line) (breach_from k (after_line k account line) rest)) (sym e) refl

pub breach_none : (n : ℕ) (account : Account) → breach_from n account [] ≡ None
unfolding breach_from
breach_none n account = refl

-- the account before a line of this number
pub account_here : (n place number : ℕ) (account : Account) (line : List ℕ) (rest : List (List ℕ)) → place ≡ n + 1
    → number ≤ place → account_in n number account (line ∷ rest) ≡ account
unfolding account_in
account_here n place number account line rest e h =
    let k : nat_le number (n + 1) ≡ true = grind (arith, nat_tests) in
    ap (λ b. if b then account else account_in (n + 1) number (after_line (n + 1) account line) rest) k

pub account_more : (n place number : ℕ) (account : Account) (line : List ℕ) (rest : List (List ℕ)) → place ≡ n + 1
    → place < number
    → account_in n number account (line ∷ rest) ≡ account_in place number (after_line place account line) rest
unfolding account_in
account_more n place number account line rest e h =
    let k : nat_le number (n + 1) ≡ false = grind (arith, nat_tests) in
    ap (λ b. if b then account else account_in (n + 1) number (after_line (n + 1) account line) rest) k
    ∙ ap (λ m. account_in m number (after_line m account line) rest) (sym e)

pub account_none : (n number : ℕ) (account : Account) → account_in n number account [] ≡ account
unfolding account_in
account_none n number account = refl
