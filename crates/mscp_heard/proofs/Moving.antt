-- How what a host is owed moves through a port.
use Rattle.mscp_heard.proofs.Common.{AllByRecursion, Asked, Bool, IsTextOf, List, Said, Some, [], ap, append-nil, append_assoc, arith, bytes_in, cond, drop, eqb-true, every_append, every_parts, filter, find, has_number, is_of, kind_of_code, length, map, map-append, nat_eq, none-some, not, num, refl, same_Some, slice_get, slice_index, subst, suc, sym, zero, ℕ, ◌++◌, ◌+◌, ◌∙◌, ◌∷◌, ◌≡◌, ◌≤◌}
use Rattle.mscp_port.specs.declared.port.OutgoingKind.TheVariants as kinds
use Rattle.mscp_heard.proofs.Claims.{Claim, IsOwed, Owes, claim_of, claim_said, claims, claims_said, moved_in, owes_same, tally, tally_append}

-- ---- lists

pub drop_beside : {X : Type 0} (k : ℕ) (xs : List X) (x : X) → k ≤ length xs
    → drop k (xs ++ x ∷ []) ≡ drop k xs ++ x ∷ []
drop_beside zero xs x h = refl
drop_beside (suc k) [] x h = absurd (search (arith, h))
drop_beside (suc k) (y ∷ xs) x h = drop_beside k xs x (search (arith, h))

pub drop_at : {X : Type 0} (k : ℕ) (xs : List X) (x : X) → slice_get xs k ≡ Some x
    → (drop k xs ≡ x ∷ drop (suc k) xs) × (suc k ≤ length xs)
drop_at k [] x e = absurd (none-some x e)
drop_at zero (y ∷ xs) x e = (ap (λ z. z ∷ xs) (same_Some y x e), search arith)
drop_at (suc k) (y ∷ xs) x e = let r = drop_at k xs x e in (r.0, search (arith, r.1))

pub said_append : (xs ys : List Said) → claims_said (xs ++ ys) ≡ claims_said xs ++ claims_said ys
said_append [] ys = refl
said_append (s ∷ xs) ys = ap (λ cs. claim_said s.kind s.text ++ cs) (said_append xs ys)
    ∙ sym (append_assoc (claim_said s.kind s.text) (claims_said xs) (claims_said ys))

-- ---- one message among others

all_pass : (n : ℕ) (ts : List (List ℕ)) → filter (has_number n) ts ≡ []
    → filter (λ t. not (has_number n t)) ts ≡ ts
all_pass n [] e = refl
all_pass n (t ∷ ts) e = grind (arith, all_pass n ts)

same_head : (x y : List ℕ) (xs : List (List ℕ)) → x ∷ xs ≡ y ∷ [] → (x ≡ y) × (xs ≡ [])
same_head x y xs e = search (arith, e)

-- taken out, what is claimed for it is claimed once more
pub tally_one : (n m : ℕ) (ts : List (List ℕ)) (t : List ℕ) → filter (has_number n) ts ≡ t ∷ []
    → tally m (map claim_of ts)
    ≡ tally m (claim_of t ∷ []) + tally m (map claim_of (filter (λ x. not (has_number n x)) ts))
tally_one n m [] t e = absurd (search (arith, e))
tally_one n m (x ∷ ts) t e = grind (arith, tally_one n m ts t, nat_eq, tally, claim_of, same_head, all_pass)

known_left : (P : Claim → Type 0) (f : List ℕ → Bool) (ts : List (List ℕ)) → AllByRecursion P (map claim_of ts)
    → AllByRecursion P (map claim_of (filter f ts))
known_left P f [] all = tt
known_left P f (t ∷ ts) all = grind (arith, known_left P f ts all.1, claim_of)

known_one : (P : Claim → Type 0) (n : ℕ) (ts : List (List ℕ)) (t : List ℕ) → filter (has_number n) ts ≡ t ∷ []
    → AllByRecursion P (map claim_of ts) → P (claim_of t) × (num t 0 4 ≡ n)
known_one P n [] t e all = absurd (search (arith, e))
known_one P n (x ∷ ts) t e all = grind (arith, known_one P n ts t, claim_of, same_head, eqb-true)

-- ---- by a call

module _ (asked : List Asked) (us : List Said) (ts ms : List (List ℕ)) (o : Owes asked (claims us ts ms)) where
  parts : AllByRecursion (IsOwed asked) (claims_said us)
      × AllByRecursion (IsOwed asked) (map claim_of ts ++ map claim_of ms)
  parts = every_parts (IsOwed asked) (claims_said us) (map claim_of ts ++ map claim_of ms) o.known

  rest : AllByRecursion (IsOwed asked) (map claim_of ts) × AllByRecursion (IsOwed asked) (map claim_of ms)
  rest = every_parts (IsOwed asked) (map claim_of ts) (map claim_of ms) parts.1

  -- what is said claims nothing
  pub news_said : (s : Said) → claim_said s.kind s.text ≡ [] → Owes asked (claims (us ++ s ∷ []) ts ms)
  news_said s none = grind (arith, claim_of, said_append, claims_said, append-nil)

  -- a message's end is said
  pub end_said : (s : Said) (t : List ℕ) → s.kind ≡ kinds.End
      → filter (has_number (num s.text 0 4)) ts ≡ t ∷ []
      → moved_in (kind_of_code (slice_index s.text 8)) (num s.text 12 4) ≤ bytes_in t
      → Owes asked (claims (us ++ s ∷ []) (filter (λ x. not (has_number (num s.text 0 4) x)) ts) ms)
  end_said s t kind only few =
      let n = num s.text 0 4 in
      let left = filter (λ x. not (has_number n x)) ts in
      let mine : Claim =
      record { number = n; bytes = moved_in (kind_of_code (slice_index s.text 8)) (num s.text 12 4) } in
      let said : claims_said (us ++ s ∷ []) ≡ claims_said us ++ mine ∷ [] =
      said_append us (s ∷ []) ∙ ap (λ k. claims_said us ++ (claim_said k s.text ++ [])) kind in
      let one = known_one (IsOwed asked) n ts t only rest.0 in
      subst (λ cs. Owes asked (cs ++ (map claim_of left ++ map claim_of ms))) (sym said)
      (owes_same asked (claims us ts ms) ((claims_said us ++ mine ∷ []) ++ (map claim_of left ++ map claim_of ms))
      (λ m. as_often m n t left mine refl (tally_one n m ts t only) one.1)
      (every_append (IsOwed asked) (claims_said us ++ mine ∷ []) (map claim_of left ++ map claim_of ms)
      (every_append (IsOwed asked) (claims_said us) (mine ∷ []) parts.0 (
        (
          one.0.0,
          subst (λ k. find (is_of k) asked ≡ Some one.0.0) one.1 one.0.1,
          less mine.bytes (bytes_in t) one.0.0.bytes few one.0.2,
        ),
        tt,
      ))
      (every_append (IsOwed asked) (map claim_of left) (map claim_of ms)
      (known_left (IsOwed asked) (λ x. not (has_number n x)) ts rest.0) rest.1)) o)
    where
      less : (a b c : ℕ) → a ≤ b → b ≤ c → a ≤ c
      less a b c h k = omega (arith, h, k)

      as_often : (m n : ℕ) (t : List ℕ) (left : List (List ℕ)) (mine : Claim) → mine.number ≡ n
          → tally m (map claim_of ts) ≡ tally m (claim_of t ∷ []) + tally m (map claim_of left) → num t 0 4 ≡ n
          → tally m ((claims_said us ++ mine ∷ []) ++ (map claim_of left
          ++ map claim_of ms)) ≤ tally m (claims us ts ms)
      as_often m n t left mine is one named =
          let same : tally m (mine ∷ []) ≡ tally m (claim_of t ∷ []) =
          ap (λ k. cond (nat_eq k m) (1 + 0) 0) (is ∙ sym named) in
          omega (
            arith,
            tally_append m (claims_said us ++ mine ∷ []) (map claim_of left ++ map claim_of ms),
            tally_append m (claims_said us) (mine ∷ []),
            tally_append m (map claim_of left) (map claim_of ms),
            tally_append m (claims_said us) (map claim_of ts ++ map claim_of ms),
            tally_append m (map claim_of ts) (map claim_of ms),
            one,
            same,
          )

-- the next message is read: the controller takes it
pub text_taken : (asked : List Asked) (us : List Said) (ts ms : List (List ℕ)) (t m : List ℕ) → IsTextOf t m
    → Owes asked (claims us ts (m ∷ ms)) → Owes asked (claims us (ts ++ t ∷ []) ms)
text_taken asked us ts ms t m is o = grind (arith, claims_said, claim_of, map-append, append_assoc)

-- or the port answers it itself, and counts no bytes
pub text_answered : (asked : List Asked) (us : List Said) (ts ms : List (List ℕ)) (s : Said) (m : List ℕ)
    → s.kind ≡ kinds.End → num s.text 0 4 ≡ num m 0 4
    → moved_in (kind_of_code (slice_index s.text 8)) (num s.text 12 4) ≡ 0
    → Owes asked (claims us ts (m ∷ ms)) → Owes asked (claims (us ++ s ∷ []) ts ms)
text_answered asked us ts ms s m kind named none o =
    let mine : Claim =
    record { number = num s.text 0 4; bytes = moved_in (kind_of_code (slice_index s.text 8)) (num s.text 12 4) } in
    let said : claims_said (us ++ s ∷ []) ≡ claims_said us ++ mine ∷ [] =
    said_append us (s ∷ []) ∙ ap (λ k. claims_said us ++ (claim_said k s.text ++ [])) kind in
    let parts = every_parts (IsOwed asked) (claims_said us) (map claim_of ts ++ map claim_of (m ∷ ms)) o.known in
    let rest = every_parts (IsOwed asked) (map claim_of ts) (map claim_of (m ∷ ms)) parts.1 in
    subst (λ cs. Owes asked (cs ++ (map claim_of ts ++ map claim_of ms))) (sym said)
    (owes_same asked (claims us ts (m ∷ ms)) ((claims_said us ++ mine ∷ []) ++ (map claim_of ts ++ map claim_of ms))
    (λ n. as_often n mine named)
    (every_append (IsOwed asked) (claims_said us ++ mine ∷ []) (map claim_of ts ++ map claim_of ms)
    (every_append (IsOwed asked) (claims_said us) (mine ∷ []) parts.0 (
      (
        rest.1.0.0,
        subst (λ k. find (is_of k) asked ≡ Some rest.1.0.0) (sym named) rest.1.0.1,
        subst (λ k. k ≤ rest.1.0.0.bytes) (sym none) (search arith),
      ),
      tt,
    ))
    (every_append (IsOwed asked) (map claim_of ts) (map claim_of ms) rest.0 rest.1.1)) o)
  where
    as_often : (n : ℕ) (mine : Claim) → mine.number ≡ num m 0 4
        → tally n ((claims_said us ++ mine ∷ []) ++ (map claim_of ts ++ map claim_of ms))
        ≤ tally n (claims us ts (m ∷ ms))
    as_often n mine is =
        let same : tally n (mine ∷ []) ≡ tally n (claim_of m ∷ []) = ap (λ k. cond (nat_eq k n) (1 + 0) 0) is in
        omega (
          arith,
          tally_append n (claims_said us ++ mine ∷ []) (map claim_of ts ++ map claim_of ms),
          tally_append n (claims_said us) (mine ∷ []),
          tally_append n (map claim_of ts) (map claim_of ms),
          tally_append n (claims_said us) (map claim_of ts ++ map claim_of (m ∷ ms)),
          tally_append n (map claim_of ts) (map claim_of (m ∷ ms)),
          tally_append n (claim_of m ∷ []) (map claim_of ms),
          same,
        )
