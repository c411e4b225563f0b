-- What the judge of the wire keeps of outstanding commands, beside what stricter rules of figures keep of them.
use Rattle.mscp_shown.proofs.Common.{AllByRecursion, Asked, Bool, Connection, First, Gone, List, None, Nothing, Oldest, Option, Pairs, Sent, Some, [], and_parts, ap, append-nil, append_assoc, arith, asked_about, asked_by, asking, cond, every_weaker, false, false≢true, find, get_or, has_number, if◌then◌else◌, is_below, is_hasty, is_named, is_oldest, list_any, may_ask, nat_eq, not, refl, sent_by, subst, suc, sym, take, timed, true, waits_on, zero, ℕ, ◌&&◌, ◌++◌, ◌||◌, ◌∙◌, ◌∷◌, ◌≡◌, ◌≤◌}
use Rattle.mscp_wire.specs.Wire.{is_immediate, same_connection}
use Rattle.mscp_shown.proofs.Alike.{Alike, alike_any, bare}

-- ---- names

-- each outstanding command has its name alone
abbrev pub Alone : List Sent → Type 0
Alone xs = Pairs (λ x y. is_named x.connection x.reference y ≡ false) xs

-- two that have the same name
pub same_name_as : (via : Connection) (n : ℕ) (x y : Sent) → is_named via n x ≡ true
    → is_named via n y ≡ is_named x.connection x.reference y
same_name_as via n x y h = grind arith

-- behind one of a name there is no other
pub none_behind : (via : Connection) (n : ℕ) (x : Sent) (xs : List Sent) → is_named via n x ≡ true
    → AllByRecursion (λ y. is_named x.connection x.reference y ≡ false) xs
    → AllByRecursion (λ y. is_named via n y ≡ false) xs
none_behind via n x xs h all = grind (arith, every_weaker, same_name_as)

-- ---- figures

-- the last figure that the stricter rules keep is no higher than that of the judge
abbrev pub Lower : Option ℕ → Option ℕ → Type 0
Lower strict None = Unit {0}
Lower None (Some n) = ⊥
Lower (Some m) (Some n) = m ≤ n

pub lower_same : (o : Option ℕ) → Lower o o
lower_same o = grind arith

-- a figure below the one is below the other
pub below_lower : (strict lax : Option ℕ) (figure : ℕ) → Lower strict lax → is_below strict figure ≡ true
    → is_below lax figure ≡ true
below_lower strict lax figure h k = grind arith

-- ---- two commands at the same place
pub record Same (x y : Sent) : Type 0 where
  pub alike : bare x ≡ bare y
  pub lower : is_immediate x.opcode ≡ false → Lower x.told y.told

-- if it is the one of this name its last figure is no higher than this
abbrev pub IsLow : Connection → ℕ → Option ℕ → Sent → Type 0
IsLow via n last x = is_named via n x ≡ true → (is_immediate x.opcode ≡ false) × Lower x.told last

-- what is asked of a poll is asked by those before it
abbrev pub AsksOf : List Sent → Sent → Asked → Type 0
AsksOf before y Nothing = Unit {0}
AsksOf before y (Gone last) = (n : ℕ) → y.parameter ≡ Some n
    → (is_named y.connection n y ≡ false) × (list_any (is_named y.connection n) before ≡ false)
AsksOf before y (Oldest last) = (n : ℕ) → y.parameter ≡ Some n
    → ((is_named y.connection n y ≡ false) × (nat_eq y.opcode 2 ≡ true))
    × ((list_any (is_named y.connection n) before ≡ true) × AllByRecursion (IsLow y.connection n last) before)

-- all that is outstanding, behind these
abbrev pub Linked : List Sent → List Sent → List Sent → Type 0
Linked before [] [] = Unit {0}
Linked before [] (y ∷ ys) = ⊥
Linked before (x ∷ xs) [] = ⊥
Linked before (x ∷ xs) (y ∷ ys) = Same x y × AsksOf before y y.asked × Linked (before ++ x ∷ []) xs ys

pub linked_alike : (before xs ys : List Sent) → Linked before xs ys → Alike xs ys
linked_alike before (x ∷ xs) (y ∷ ys) h = (h.0.alike, linked_alike (before ++ x ∷ []) xs ys h.2)
linked_alike before xs ys h = grind arith

pub linked_push : (before xs ys : List Sent) (x y : Sent) → Linked before xs ys → Same x y
    → AsksOf (before ++ xs) y y.asked → Linked before (xs ++ x ∷ []) (ys ++ y ∷ [])
linked_push before [] [] x y h s a = (s, subst (λ b. AsksOf b y y.asked) (append-nil before) a, tt)
linked_push before [] (z ∷ ys) x y h s a = absurd h
linked_push before (z ∷ xs) [] x y h s a = absurd h
linked_push before (z ∷ xs) (u ∷ ys) x y h s a =
    (h.0, h.1, linked_push (before ++ z ∷ []) xs ys x y h.2 s (rw append_assoc a))

-- what is asked of the one at a place
abbrev pub nobody : Sent
nobody = sent_by First []

pub asks_at : (before xs ys : List Sent) (i : ℕ) → Linked before xs ys
    → AsksOf (before ++ take i xs) (get_or ys i nobody) (get_or ys i nobody).asked
asks_at before [] [] i h = tt
asks_at before [] (y ∷ ys) i h = absurd h
asks_at before (x ∷ xs) [] i h = absurd h
asks_at before (x ∷ xs) (y ∷ ys) zero h = subst (λ b. AsksOf b y y.asked) (sym (append-nil before)) h.1
asks_at before (x ∷ xs) (y ∷ ys) (suc i) h =
    let z = get_or ys i nobody in
    subst (λ b. AsksOf b z z.asked) (append_assoc before (x ∷ []) (take i xs))
    (asks_at (before ++ x ∷ []) xs ys i h.2)

-- ---- a poll comes

none_found : (p : Sent → Bool) (ys : List Sent) → find p ys ≡ None → list_any p ys ≡ false
none_found p [] h = refl
none_found p (y ∷ ys) h = grind (arith, none_found p ys)

same_sent : (x y : Sent) → Some x ≡ Some y → x ≡ y
same_sent x y h = cc

or_true : (b : Bool) → (b || true) ≡ true
or_true b = grind arith

-- the command that it finds
found_low : (before xs ys : List Sent) (via : Connection) (n : ℕ) (z : Sent) → Linked before xs ys → Alone xs
    → find (is_named via n) ys ≡ Some z → is_immediate z.opcode ≡ false
    → (list_any (is_named via n) xs ≡ true) × AllByRecursion (IsLow via n z.told) xs
found_low before (x ∷ xs) (y ∷ ys) via n z h a e k =
    let named : is_named via n x ≡ is_named via n y = ap (is_named via n) h.0.alike in
    let P : Bool → Type 0 = λ b. is_named via n y ≡ b → cond b (Some y) (find (is_named via n) ys) ≡ Some z
    → (list_any (is_named via n) (x ∷ xs) ≡ true) × AllByRecursion (IsLow via n z.told) (x ∷ xs) in
    elim (is_named via n y) as P [
      | true ↦ λ q f.
          let here : y ≡ z = same_sent y z f in
          let none = none_behind via n x xs (named ∙ q) a.0 in
          let opcode : is_immediate x.opcode ≡ is_immediate z.opcode =
          ap (λ s. is_immediate s.opcode) h.0.alike ∙ ap (λ s. is_immediate s.opcode) here in (
            ap (λ b. b || list_any (is_named via n) xs) (named ∙ q),
            (
              λ t. (opcode ∙ k, subst (λ s. Lower x.told s.told) here (h.0.lower (opcode ∙ k))),
              every_weaker (λ s. is_named via n s ≡ false) (IsLow via n z.told)
                  (λ s w t. absurd (false≢true (sym w ∙ t))) xs none,
            ),
          )
      | false ↦ λ q f.
          let rest = found_low (before ++ x ∷ []) xs ys via n z h.2 a.1 f k in (
            ap (λ b. is_named via n x || b) rest.0 ∙ or_true (is_named via n x),
            ((λ t. absurd (false≢true (sym (named ∙ q) ∙ t))), rest.1),
          )
    ] refl e
found_low before xs ys via n z h a e k = grind arith

eqb_turned : (m n : ℕ) → nat_eq m n ≡ false → nat_eq n m ≡ false
eqb_turned m n h = grind arith

some_number : (m n : ℕ) → Some m ≡ Some n → m ≡ n
some_number m n h = cc

never : (b : Bool) → (b && false) ≡ false
never b = grind arith

module _ (timeout time : Option ℕ) (xs ys : List Sent) (s : Sent) (link : Linked [] xs ys) (alone : Alone xs) where
  -- the command with its time
  abbrev z : Sent
  z = timed time s

  abbrev New : Asked → Type 0
  New = AsksOf xs (asking timeout ys z)

  about_named : (other : ℕ) (o : Option Sent) → nat_eq z.opcode 2 ≡ true → z.parameter ≡ Some other
      → nat_eq other z.reference ≡ false → find (is_named z.connection other) ys ≡ o → New (asked_about timeout ys z o)
  about_named other None poll p apart f = λ n q.
      let same : other ≡ n = some_number other n (sym p ∙ q) in
      let none : list_any (is_named z.connection other) xs ≡ false =
      alike_any (is_named z.connection other) (λ s t k. ap (is_named z.connection other) k) xs ys
      (linked_alike [] xs ys link) ∙ none_found (is_named z.connection other) ys f in (
        ap (λ b. same_connection z.connection z.connection && b)
            (ap (nat_eq z.reference) (sym same) ∙ eqb_turned other z.reference apart)
            ∙ never (same_connection z.connection z.connection),
        subst (λ k. list_any (is_named z.connection k) xs ≡ false) same none,
      )
  about_named other (Some x) poll p apart f =
      let fits = may_ask timeout ys z x in
      let P : Bool → Type 0 = λ b. fits ≡ b → New (if b then Oldest x.told else Nothing) in
      elim fits as P [
        | true ↦ λ e n q.
            let same : other ≡ n = some_number other n (sym p ∙ q) in
            let oldest = and_parts (not (is_immediate x.opcode))
            (has_number (find (waits_on x.connection) ys) x.reference)
            (second (nat_eq x.unit z.unit) (is_oldest ys x) (not (is_hasty timeout x.polled z.time)) e) in
            let low = found_low [] xs ys z.connection other x link alone f (waits (is_immediate x.opcode) oldest.0) in (
              (
                ap (λ b. same_connection z.connection z.connection && b)
                    (ap (nat_eq z.reference) (sym same) ∙ eqb_turned other z.reference apart)
                    ∙ never (same_connection z.connection z.connection),
                poll,
              ),
              rw (← same) low,
            )
        | false ↦ λ e. tt
      ] refl
    where
      waits : (b : Bool) → not b ≡ true → b ≡ false
      waits b h = grind arith

      second : (a b c : Bool) → (a && b && c) ≡ true → b ≡ true
      second a b c h = grind arith

  about_parameter : (p : Option ℕ) → nat_eq z.opcode 2 ≡ true → z.parameter ≡ p → New (asked_by timeout ys z p)
  about_parameter p poll e = grind (arith, about_named)

  pub asks_new : AsksOf xs (asking timeout ys z) (asking timeout ys z).asked
  asks_new = grind (arith, about_parameter)

  pub linked_sent : Linked [] (xs ++ s ∷ []) (ys ++ asking timeout ys z ∷ [])
  linked_sent =
      linked_push [] xs ys s (asking timeout ys z) link (record { alike = refl; lower = λ h. lower_same s.told })
      asks_new
