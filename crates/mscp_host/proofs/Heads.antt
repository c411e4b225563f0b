-- What a head and an account without a fault tell.
use Rattle.mscp_host.proofs.Common.{arith, ◌≡◌, ℕ, ◌+◌, ◌*◌, ◌<◌, ◌≤◌, Bool, true, List, length, not, if◌then◌else◌, Option, Some, None, and_parts, eqb-true, leb-true, ltb-false, ltb-true, true≢false, num, RestoreFault, Account, are_apart, account_fault, count_in, head_fault, waiting, are_told, is_watched}

-- what was tested first holds, and then no later fault does
first : (t : Bool) (fault : RestoreFault) (rest : Option RestoreFault)
    → (if not t then Some fault else rest) ≡ None → (t ≡ true) × (rest ≡ None)
first t fault rest h1 = search (arith, true≢false)

-- the same of what no host has
pub record IsAccount (a : Account) : Type 0 where
  pub spare : length (waiting a.outstanding) < a.credits
  pub apart : are_apart a.outstanding ≡ true
  pub watched : is_watched a.outstanding a.watch ≡ true
  pub told : are_told a.outstanding ≡ true

pub account_tells : (a : Account) → account_fault a ≡ None → IsAccount a
account_tells a e = search (arith, first, and_parts, ltb-true)

pub record IsHead (b : List ℕ) : Type 0 where
  pub long : 26 ≤ length b
  pub parts : 26 + 12 * count_in b ≡ length b
  pub some : 2 ≤ num b 12 4
  pub few : num b 12 4 ≤ 64
  pub covered : count_in b ≤ num b 12 4

pub head_tells : (b : List ℕ) → head_fault b ≡ None → IsHead b
head_tells b e = grind (arith, first, and_parts, leb-true, eqb-true, ltb-false, true≢false)
