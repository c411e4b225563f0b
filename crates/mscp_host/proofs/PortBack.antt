-- The bytes that a host of a port is saved as say that host.
use Rattle.mscp_host.proofs.Common.{All, Asked, Err, HasAskedRange, HasPortRange, IsPorted, IsSavedAs, List, Name, None, Ok, PortAccount, RestoreFault, Result, Submission, [], ap, arith, asked_in, asked_with, bytes_eq, bytes_eq-Decides, drop, drop-drop, eq-eqb, flat_map, four, host_part, if◌then◌else◌, le-leb, length, length-append, map, name_of_asked, name_of_submission, nat_eq, port_account_in, port_head_fault, port_restored, port_restored_unless, port_restored_with, port_saved_bytes, port_whose, refl, restored, saved_bytes, size_bytes, suc, sym, true, two, ℕ, ◌*◌, ◌++◌, ◌∙◌, ◌∷◌, ◌≡◌, ◌≤◌}
use Rattle.mscp_host.specs.declared.restoring.RestoreFault.TheVariants as faults
use Rattle.mscp_host.proofs.Back.{saved_long}

-- ---- the bytes that each command asks for

abbrev name_of_first : List Name → Name → Name
name_of_first [] n = n
name_of_first (x ∷ xs) n = x

abbrev names_behind : List Name → List Name
names_behind [] = []
names_behind (x ∷ xs) = xs

with_name : (x : Asked) (y : Submission) → name_of_asked x ≡ name_of_submission y → asked_with y x.bytes ≡ x
with_name x y e = grind arith

pub names_long : (xs : List Asked) (ys : List Submission) → map name_of_asked xs ≡ map name_of_submission ys
    → length xs ≡ length ys
names_long [] (y ∷ ys) same = search arith
names_long (x ∷ xs) (y ∷ ys) same =
    let e = names_long xs ys (ap names_behind same) in
    search (arith, e)
names_long o w same = grind arith

asked_back : (xs : List Asked) (ys : List Submission) (t : List ℕ) → map name_of_asked xs ≡ map name_of_submission ys
    → All HasAskedRange xs → asked_in (flat_map size_bytes xs ++ t) ys ≡ xs
asked_back [] (y ∷ ys) t same all = search arith
asked_back (x ∷ xs) (y ∷ ys) t same all =
    let named : name_of_asked x ≡ name_of_submission y = ap (λ ns. name_of_first ns (name_of_asked x)) same in
    let here : HasAskedRange x = all 0 x (omega arith) in
    let there : All HasAskedRange xs = λ k d l. all (suc k) d (omega (arith, l)) in
    let one = ap (asked_with y) (four x.bytes here) ∙ with_name x y named in
    let rest = asked_back xs ys t (ap names_behind same) there in
    λ i. one i ∷ rest i
asked_back o w t same all = grind arith

sizes_long : (xs : List Asked) → length (flat_map size_bytes xs) ≡ 4 * length xs
sizes_long [] = let e : 0 ≡ 4 * 0 = omega arith in e
sizes_long (x ∷ xs) = search (arith, sizes_long xs, length-append)

sizes_rest : (xs : List Asked) (t : List ℕ) → drop (4 * length xs) (flat_map size_bytes xs ++ t) ≡ t
sizes_rest [] t = let e : 4 * 0 ≡ 0 = omega arith in ap (λ k. drop k t) e
sizes_rest (x ∷ xs) t =
    let e : 4 * suc (length xs) ≡ suc (suc (suc (suc (4 * length xs)))) = omega arith in
    ap (λ k. drop k (flat_map size_bytes (x ∷ xs) ++ t)) e ∙ sizes_rest xs t

-- ---- its head

port_head_back : (p : PortAccount) → length p.asked ≡ length p.account.outstanding → length p.asked ≤ 64
    → port_head_fault (port_saved_bytes p) ≡ None
port_head_back p same few = grind (arith, four, le-leb, eq-eqb, sizes_long, saved_long, length-append)

-- ---- what is behind it

head_rest : (p : PortAccount) → drop 16 (port_saved_bytes p) ≡ flat_map size_bytes p.asked ++ saved_bytes p.account
head_rest p = search arith

host_back : (p : PortAccount) → host_part (port_saved_bytes p) ≡ saved_bytes p.account
host_back p =
    sym (drop-drop (4 * length p.asked) 16 (port_saved_bytes p))
    ∙ (ap (drop (4 * length p.asked)) (head_rest p) ∙ sizes_rest p.asked (saved_bytes p.account))

pub port_account_back : (p : PortAccount) → map name_of_asked p.asked ≡ map name_of_submission p.account.outstanding
    → HasPortRange p → port_account_in (port_saved_bytes p) p.account ≡ p
port_account_back p same range = grind (arith, head_rest, asked_back, two)

same_bytes : (b : List ℕ) → bytes_eq b b ≡ true
same_bytes b = (bytes_eq-Decides b b).1 refl

pub port_restored_back : (p : PortAccount) → restored (saved_bytes p.account) ≡ Ok p.account → length p.asked ≤ 64
    → IsPorted p.account p.asked → HasPortRange p → port_restored (port_saved_bytes p) ≡ Ok p
port_restored_back p inner few ported range =
    let b = port_saved_bytes p in
    let long = names_long p.asked p.account.outstanding ported.same in
    let head = port_head_back p long few in
    let host = ap restored (host_back p) ∙ inner in
    let room : nat_eq p.account.credits 64 ≡ true = eq-eqb p.account.credits 64 ported.room in
    let account = port_account_back p ported.same range in
    ap (λ o. port_restored_unless o b) head
    ∙ (ap (port_restored_with b) host
    ∙ (ap (λ t. if t then port_whose b (port_account_in b p.account) else Err faults.Credits) room
    ∙ (ap (port_whose b) account
    ∙ ap (λ t. if t then Ok p else Err faults.Form) (same_bytes b))))

-- ---- a host that goes on as the one that was made of its bytes

abbrev held_or : PortAccount → Result PortAccount RestoreFault → PortAccount
held_or p (Ok held) = held
held_or p (Err fault) = p

pub resumed : (old new : PortAccount) (b : List ℕ) → IsSavedAs old b × (port_restored b ≡ Ok new) → new ≡ old
resumed old new b e = ap (held_or old) (sym e.1 ∙ e.0.back)
