-- What a host is owed: an end for each number, of no more than so many bytes.
use Rattle.mscp_heard.proofs.Common.{AllByRecursion, Asked, BodyKind, Bool, List, None, Option, OutgoingKind, Said, Some, [], ap, arith, bytes_in, cond, eq-eqb, eqb-true, every_append, every_weaker, false, false≢true, find, is_of, kind_of_code, map, nat_eq, none-some, num, refl, slice_index, true, without_by, ℕ, ◌++◌, ◌+◌, ◌∷◌, ◌≡◌, ◌≤◌}
use Rattle.mscp_packet.specs.declared.end.BodyKind.TheVariants as bodykinds
use Rattle.mscp_port.specs.declared.port.OutgoingKind.TheVariants as kinds

pub record Claim : Type 0 where
  pub number : ℕ
  pub bytes : ℕ

-- a message, whose end is to come
abbrev pub claim_of : List ℕ → Claim
claim_of t = record { number = num t 0 4; bytes = bytes_in t }

-- what an end counts, by the body of its endcode
abbrev pub moved_in : Option BodyKind → ℕ → ℕ
moved_in (Some bodykinds.Moved) n = n
moved_in kind n = 0

abbrev pub claim_said : OutgoingKind → List ℕ → List Claim
claim_said kinds.Attention text = []
claim_said kinds.End text =
    record { number = num text 0 4; bytes = moved_in (kind_of_code (slice_index text 8)) (num text 12 4) } ∷ []
claim_said kinds.UtilitiesEnd text = []

abbrev pub claims_said : List Said → List Claim
claims_said [] = []
claims_said (s ∷ more) = claim_said s.kind s.text ++ claims_said more

-- what was said and not heard, what is awaited, and what was sent and not read
abbrev pub claims : List Said → List (List ℕ) → List (List ℕ) → List Claim
claims unheard awaited unread = claims_said unheard ++ (map claim_of awaited ++ map claim_of unread)

-- the command of that number is outstanding, and asks for no fewer bytes
abbrev pub IsOwed : List Asked → Claim → Type 0
IsOwed asked c = (x : Asked) × (find (is_of c.number) asked ≡ Some x) × (c.bytes ≤ x.bytes)

abbrev pub tally : ℕ → List Claim → ℕ
tally n [] = 0
tally n (c ∷ cs) = cond (nat_eq c.number n) (1 + tally n cs) (tally n cs)

pub record Owes (asked : List Asked) (cs : List Claim) : Type 0 where
  pub known : AllByRecursion (IsOwed asked) cs
  pub once : (n : ℕ) → tally n cs ≤ 1

-- ---- how often

pub tally_append : (n : ℕ) (cs ds : List Claim) → tally n (cs ++ ds) ≡ tally n cs + tally n ds
tally_append n [] ds = omega arith
tally_append n (c ∷ cs) ds = by (nat_eq c.number n) (tally n (cs
    ++ ds)) (tally n cs) (tally n ds) (tally_append n cs ds)
  where
    by : (b : Bool) (x y z : ℕ) → x ≡ y + z → cond b (1 + x) x ≡ cond b (1 + y) y + z
    by b x y z e = grind arith

-- a number that isn't found is owed by none
pub none_owed : (asked : List Asked) (cs : List Claim) (n : ℕ) → AllByRecursion (IsOwed asked) cs
    → find (is_of n) asked ≡ None → tally n cs ≡ 0
none_owed asked [] n all none = refl
none_owed asked (c ∷ cs) n all none = grind (arith, none_owed asked cs n all.1 none, nat_eq, none-some, eqb-true)

-- and one that is owed once, by no other
pub others_apart : (n : ℕ) (cs : List Claim) → tally n cs ≡ 0 → AllByRecursion (λ c. nat_eq c.number n ≡ false) cs
others_apart n [] e = tt
others_apart n (c ∷ cs) e = by (nat_eq c.number n) refl e (λ h. others_apart n cs h)
  where
    by : (b : Bool) → nat_eq c.number n ≡ b → cond b (1 + tally n cs) (tally n cs) ≡ 0
        → (tally n cs ≡ 0 → AllByRecursion (λ c. nat_eq c.number n ≡ false) cs)
        → (nat_eq c.number n ≡ false) × AllByRecursion (λ c. nat_eq c.number n ≡ false) cs
    by b is h rest = grind arith

-- ---- commands

pub find_more : (n : ℕ) (asked : List Asked) (x y : Asked) → find (is_of n) asked ≡ Some x
    → find (is_of n) (asked ++ y ∷ []) ≡ Some x
find_more n [] x y e = absurd (none-some x e)
find_more n (a ∷ asked) x y e = grind (arith, find_more n asked x y)

pub find_new : (n : ℕ) (asked : List Asked) (y : Asked) → find (is_of n) asked ≡ None → is_of n y ≡ true
    → find (is_of n) (asked ++ y ∷ []) ≡ Some y
find_new n [] y e is = ap (λ b. cond b (Some y) None) is
find_new n (a ∷ asked) y e is = grind (arith, find_new n asked y, none-some)

pub find_left : (n m : ℕ) (asked : List Asked) → nat_eq n m ≡ false
    → find (is_of n) (without_by (is_of m) asked) ≡ find (is_of n) asked
find_left n m [] d = refl
find_left n m (a ∷ asked) d = grind (arith, find_left n m asked d, false≢true, eq-eqb, eqb-true)

-- ---- a command is sent

pub owes_more : (asked : List Asked) (cs : List Claim) (x : Asked) (c : Claim) → find (is_of c.number) asked ≡ None
    → x.reference ≡ c.number → c.bytes ≤ x.bytes → Owes asked cs → Owes (asked ++ x ∷ []) (cs ++ c ∷ [])
owes_more asked cs x c new own few o = record {
  known = every_append (IsOwed (asked ++ x ∷ [])) cs (c ∷ [])
      (every_weaker (IsOwed asked) (IsOwed (asked ++ x ∷ []))
      (λ d k. (k.0, find_more d.number asked k.0 x k.1, k.2)) cs o.known)
      ((x, find_new c.number asked x new (eq-eqb x.reference c.number own), few), tt);
  once = λ n. one n (nat_eq c.number n) refl;
}
  where
    one : (n : ℕ) (b : Bool) → nat_eq c.number n ≡ b → tally n (cs ++ c ∷ []) ≤ 1
    one n b is = grind (arith, none_owed, eqb-true, tally_append)

-- ---- the first claim is met

-- no other has its number
pub rest_apart : (asked : List Asked) (c : Claim) (cs : List Claim) → Owes asked (c ∷ cs)
    → AllByRecursion (λ d. nat_eq d.number c.number ≡ false) cs
rest_apart asked c cs o = grind (arith, others_apart, eq-eqb)

-- by an end that was heard, or not
pub owes_less : (asked : List Asked) (c : Claim) (cs : List Claim) → Owes asked (c ∷ cs)
    → Owes (without_by (is_of c.number) asked) cs
owes_less asked c cs o = record {
  known = left cs o.known.1 (rest_apart asked c cs o);
  once = λ n. less (nat_eq c.number n) (tally n cs) (o.once n);
}
  where
    less : (b : Bool) (k : ℕ) → cond b (1 + k) k ≤ 1 → k ≤ 1
    less b k h = grind arith

    left : (ds : List Claim) → AllByRecursion (IsOwed asked) ds
        → AllByRecursion (λ d. nat_eq d.number c.number ≡ false) ds
        → AllByRecursion (IsOwed (without_by (is_of c.number) asked)) ds
    left [] all apart = tt
    left (d ∷ ds) all apart = grind (arith, left ds all.1 apart.1, find_left)

pub owes_rest : (asked : List Asked) (c : Claim) (cs : List Claim) → Owes asked (c ∷ cs) → Owes asked cs
owes_rest asked c cs o = grind (arith, nat_eq)

-- ---- claims that move

-- the same claims as often, each owed
pub owes_same : (asked : List Asked) (cs ds : List Claim) → ((n : ℕ) → tally n ds ≤ tally n cs)
    → AllByRecursion (IsOwed asked) ds → Owes asked cs → Owes asked ds
owes_same asked cs ds fewer known o = grind arith
