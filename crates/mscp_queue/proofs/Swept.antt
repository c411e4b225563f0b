-- The first of the cheapest choices.
use Rattle.mscp_queue.proofs.Common.{◌≡◌, ◌<◌, ◌≤◌, ◌+◌, ℕ, List, length, get_or, arith, cases_lt, get_or-map, get_or-take, get_or_default, length-map, length-take-le, Choice, IsSweep, costs}

-- of the first n costs this is the least, and it stands first at a place
pub record IsCheapest (view : List Choice) (n place least : ℕ) : Type 0 where
  pub inside : place < n
  pub is : get_or (costs view) place 0 ≡ least
  pub below : (k : ℕ) → k < n → least ≤ get_or (costs view) k 0
  pub first : (k : ℕ) → k < place → least < get_or (costs view) k 0

pub cost_at : (view : List Choice) (k : ℕ) (other : Choice) → k < length view
    → get_or (costs view) k 0 ≡ (get_or view k other).cost
cost_at view k other l = get_or-map (λ (c : Choice). c.cost) view k other 0 l

pub cheaper : {view : List Choice} {n place least place' least' : ℕ} (other : Choice)
    → IsCheapest view n place least → n < length view → (get_or view n other).cost < least → place' ≡ n
    → least' ≡ (get_or view n other).cost → IsCheapest view (n + 1) place' least'
cheaper {view} {n} {place} {least} {place'} {least'} other h l less p q = grind (arith, cases_lt, cost_at)

pub no_cheaper : {view : List Choice} {n place least place' least' : ℕ} (other : Choice)
    → IsCheapest view n place least → n < length view → least ≤ (get_or view n other).cost → place' ≡ place
    → least' ≡ least → IsCheapest view (n + 1) place' least'
no_cheaper {view} {n} {place} {least} {place'} {least'} other h l most p q = grind (arith, cases_lt, cost_at)

pub swept : {view : List Choice} {n place least : ℕ} → IsCheapest view n place least → n ≡ length view
    → IsSweep view place
swept {view} {n} {place} {least} h e = grind (arith, length-map, get_or_default, length-take-le, get_or-take)
