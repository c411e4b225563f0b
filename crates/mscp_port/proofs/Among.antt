-- What is among the elements of a list that has grown or shrunk.
use Rattle.mscp_port.proofs.Common.{◌≡◌, Bool, List, [], Contains, filter, arith, All-contains, All-contains_itself, All-filter}

-- what is left of a list was there
pub among_left : {X : Type 0} (p : X → Bool) (xs : List X) (x : X) → Contains (filter p xs) x → Contains xs x
among_left p xs x = All-contains (Contains xs) (filter p xs) x (All-filter p (Contains xs) xs (All-contains_itself xs))

-- nothing is among none
pub none_among : {X : Type 0} (xs : List X) (x : X) → xs ≡ [] → Contains xs x → ⊥
none_among {X} xs x e h = search arith
