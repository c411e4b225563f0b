-- When the bytes that were read are the front of all, and the rest is what is left.
use Rattle.mscp_script.proofs.Common.{◌≡◌, ◌<◌, ◌≤◌, ℕ, List, [], ◌++◌, length, take, drop, Option, subst, arith, take-append-le, common_steps, Consumes, IsAtEnd, IsFront, IsRest}

-- as many bytes were read as are wanted
pub front_full : (old new : Option (List ℕ)) (all : List ℕ) (n : ℕ) → length all ≡ n → Consumes old new all
    → IsFront n old all
front_full old new all n h1 h2 = search (arith, common_steps, take-append-le)

pub rest_full : (old new : Option (List ℕ)) (all : List ℕ) (n : ℕ) → length all ≡ n → Consumes old new all
    → IsRest n old new
rest_full old new all n h1 h2 = search (arith, common_steps)

none_left : (old mid new : Option (List ℕ)) (all : List ℕ) (n : ℕ) → length all ≤ n → Consumes old mid all
    → Consumes mid new [] → IsAtEnd new → IsFront n old all
none_left old mid new all n h1 h2 h3 h4 = search (arith, common_steps)

-- a read gave no byte
pub front_end : (old mid new : Option (List ℕ)) (all buf : List ℕ) (k n : ℕ) → length all ≤ n → Consumes old mid all
    → Consumes mid new (take k buf) → (k ≡ 0 → 0 < length buf → IsAtEnd new) → k ≡ 0 → 0 < length buf
    → IsFront n old all
front_end old mid new all buf k n e h g end z room =
    none_left old mid new all n e h (subst (λ (j : ℕ). Consumes mid new (take j buf)) z g) (end z room)

end_rest : (xs all zs : List ℕ) (n : ℕ) → length all ≤ n → xs ≡ all ++ [] → zs ≡ [] → zs ≡ drop n xs
end_rest xs all zs n e h z = grind (arith, common_steps)

pub rest_end : (old mid new : Option (List ℕ)) (all buf : List ℕ) (k n : ℕ) → length all ≤ n → Consumes old mid all
    → Consumes mid new (take k buf) → (k ≡ 0 → 0 < length buf → IsAtEnd new) → k ≡ 0 → 0 < length buf → IsRest n old new
rest_end old mid new all buf k n e h g end z room = search (arith, end_rest)
