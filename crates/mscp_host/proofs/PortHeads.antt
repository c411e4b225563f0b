-- What the head of a saved host of a port tells, and what is read behind it.
use Rattle.mscp_host.proofs.Common.{Account, Asked, List, None, Submission, [], and_parts, ap, arith, asked_count, asked_in, asked_with, drop, drop-drop, eqb-true, host_part, leb-true, length, length-drop, length-take-le, map, name_of_asked, name_of_submission, num, port_head_fault, refl, saved_bytes, slice_index_or, suc, sym, take, take_more, true≢false, ℕ, ◌*◌, ◌++◌, ◌+◌, ◌-◌, ◌<◌, ◌∙◌, ◌∷◌, ◌≡◌, ◌≤◌}
use Rattle.mscp_host.proofs.Back.{saved_long}

-- what was tested first holds
pub record IsPortHead (b : List ℕ) : Type 0 where
  pub long : 16 ≤ length b
  pub parts : 42 + 16 * asked_count b ≡ length b

pub port_head_tells : (b : List ℕ) → port_head_fault b ≡ None → IsPortHead b
port_head_tells b e = grind (arith, and_parts, leb-true, eqb-true, true≢false)

-- the host in it is as long as what tells of as many commands
part_long : (b : List ℕ) → length (host_part b) ≡ length b - (16 + 4 * asked_count b)
part_long b = search (arith, length-drop)

-- so there are the bytes that each of its commands asks for
pub sizes_there : (b : List ℕ) (a : Account) → port_head_fault b ≡ None → saved_bytes a ≡ host_part b
    → 4 * length a.outstanding ≤ length b - 16
sizes_there b a head said =
    let h = port_head_tells b head in
    let long = sym (saved_long a) ∙ (ap (λ xs. length xs) said ∙ part_long b) in
    omega (arith, h.long, h.parts, long)

pub names_in : (b : List ℕ) (ys : List Submission) → map name_of_asked (asked_in b ys) ≡ map name_of_submission ys
names_in b [] = refl
names_in b (y ∷ ys) = ap (λ ns. name_of_submission y ∷ ns) (names_in (drop 4 b) ys)

-- ---- one more is read

read_behind : (b : List ℕ) (xs : List Submission) (y : Submission)
    → asked_in b (xs ++ y ∷ []) ≡ asked_in b xs ++ asked_with y (num (drop (4 * length xs) b) 0 4) ∷ []
read_behind b [] y = grind arith
read_behind b (x ∷ xs) y =
    let e : 4 + 4 * length xs ≡ 4 * suc (length xs) = omega arith in
    let place = drop-drop (4 * length xs) 4 b ∙ ap (λ (k : ℕ). drop k b) e in
    let rest = read_behind (drop 4 b) xs y
    ∙ ap (λ (c : List ℕ). asked_in (drop 4 b) xs ++ asked_with y (num c 0 4) ∷ []) place in
    ap (λ (l : List Asked). asked_with x (num b 0 4) ∷ l) rest

one_more_read : (b : List ℕ) (ys : List Submission) (n : ℕ) (d : Submission) → n < length ys
    → asked_in b (take (n + 1) ys)
    ≡ asked_in b (take n ys) ++ asked_with (slice_index_or ys n d) (num (drop (4 * n) b) 0 4) ∷ []
one_more_read b ys n d l =
    let y = slice_index_or ys n d in
    let long : length (take n ys) ≡ n = length-take-le n ys (omega (arith, l)) in
    ap (asked_in b) (take_more ys n d l) ∙ (read_behind b (take n ys) y
    ∙ ap (λ (k : ℕ). asked_in b (take n ys) ++ asked_with y (num (drop (4 * k) b) 0 4) ∷ []) long)

-- and pushed
pub one_more_pushed : (b : List ℕ) (ys : List Submission) (n : ℕ) (d : Submission) (k : ℕ) (r : Asked)
    (out new : List Asked)
    → n < length ys → k ≡ num (drop (4 * n) b) 0 4 → r ≡ asked_with (slice_index_or ys n d) k
    → out ≡ asked_in b (take n ys) → new ≡ out ++ r ∷ [] → new ≡ asked_in b (take (n + 1) ys)
one_more_pushed b ys n d k r out new l read said before more = grind (arith, one_more_read)
