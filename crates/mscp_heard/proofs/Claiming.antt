-- A call of a port leaves how often a number is claimed.
use Rattle.mscp_port.specs.declared.port.OutgoingKind.TheVariants as kinds
use Rattle.mscp_heard.proofs.Claims.{claim_of, claim_said, claims, claims_said, tally, tally_append}
use Rattle.mscp_heard.proofs.Dealt.{Dealt}
use Rattle.mscp_heard.proofs.Common.{AllByRecursion, List, OutgoingKind, Said, [], ap, arith, cond, eqb-true, filter, has_number, inl, inr, map, map-append, nat_eq, not, num, one_of, sym, ℕ, ◌++◌, ◌+◌, ◌∙◌, ◌∷◌, ◌≡◌}
use Rattle.mscp_heard.proofs.Moving.{said_append, tally_one}

module _ (Took : List ℕ → Type 0) (texts : List (List ℕ)) (us : List Said) (ts ms : List (List ℕ)) (us' : List Said)
    (ts' ms' : List (List ℕ)) (d : Dealt Took texts us ts ms us' ts' ms') where
  parts_of : (n : ℕ) (xs : List Said) (ys zs : List (List ℕ)) → tally n (claims xs ys zs)
      ≡ tally n (claims_said xs) + (tally n (map claim_of ys) + tally n (map claim_of zs))
  parts_of n xs ys zs = grind (arith, tally_append, claims_said, claim_of, tally)

  said_one : (n : ℕ) (s : Said) (kind : OutgoingKind) → s.kind ≡ kind
      → tally n (claims_said (us ++ s ∷ [])) ≡ tally n (claims_said us) + tally n (claim_said kind s.text ++ [])
  said_one n s kind is = grind (arith, tally, said_append, tally_append, claims_said, claim_said)

  same_claim : (n x y : ℕ) → x ≡ y → cond (nat_eq x n) (1 + 0) 0 ≡ cond (nat_eq y n) (1 + 0) 0
  same_claim n x y e = ap (λ k. cond (nat_eq k n) (1 + 0) 0) e

  pub as_many : (n : ℕ) → tally n (claims us ts ms) ≡ tally n (claims us' ts' ms')
  as_many n = by d
    where
      by : Dealt Took texts us ts ms us' ts' ms' → tally n (claims us ts ms) ≡ tally n (claims us' ts' ms')
      by (inl q) = grind (arith, tally, claims)
      by (inr (inl q)) =
          let a = parts_of n us ts ms in
          let b = parts_of n (us ++ q.0 ∷ []) ts ms in
          let c = said_one n q.0 kinds.Attention q.1 in
          omega (arith, a, b, c)
          ∙ sym (ap (λ xs. tally n (claims xs ts' ms')) q.2 ∙ ap (λ xs. tally n (claims (us ++ q.0 ∷ []) xs ms')) q.3
          ∙ ap (λ xs. tally n (claims (us ++ q.0 ∷ []) ts xs)) q.4)
      by (inr (inr (inl q))) =
          let left = filter (λ x. not (has_number (num q.0.text 0 4) x)) ts in
          let a = parts_of n us ts ms in
          let b = parts_of n (us ++ q.0 ∷ []) left ms in
          let c = said_one n q.0 kinds.End q.8 in
          let one = tally_one (num q.0.text 0 4) n ts q.1 q.2 in
          let named : num q.1 0 4 ≡ num q.0.text 0 4 = eqb-true (num q.1 0 4) (num q.0.text 0 4)
          (one_of (λ y. Unit {0}) (has_number (num q.0.text 0 4)) ts q.1 (every_text ts) q.2).1 in
          let same = same_claim n (num q.1 0 4) (num q.0.text 0 4) named in
          omega (arith, a, b, c, one, same)
          ∙ sym (ap (λ xs. tally n (claims xs ts' ms')) q.4
          ∙ ap (λ xs. tally n (claims (us ++ q.0 ∷ []) xs ms')) q.5
          ∙ ap (λ xs. tally n (claims (us ++ q.0 ∷ []) left xs)) q.6)
        where
          every_text : (xs : List (List ℕ)) → AllByRecursion (λ y. Unit {0}) xs
          every_text [] = tt
          every_text (x ∷ xs) = (tt, every_text xs)
      by (inr (inr (inr (inl q)))) =
          grind (arith, parts_of, tally, map-append, claim_of, tally_append, same_claim, claims)
      by (inr (inr (inr (inr q)))) =
          let a = parts_of n us ts (q.2 ∷ ms') in
          let b = parts_of n (us ++ q.0 ∷ []) ts ms' in
          let c = said_one n q.0 kinds.End q.11 in
          let y = tally_append n (claim_of q.2 ∷ []) (map claim_of ms') in
          let same = same_claim n (num q.0.text 0 4) (num q.2 0 4) (q.4 ∙ q.3.number) in
          ap (λ xs. tally n (claims us ts xs)) q.9 ∙ omega (arith, a, b, c, y, same)
          ∙ sym (ap (λ xs. tally n (claims xs ts' ms')) q.7 ∙ ap (λ xs. tally n (claims (us ++ q.0 ∷ []) xs ms')) q.8)
