-- What is known of each command that is outstanding: its figure isn't above the one that was told of it last; and of a
-- poll which figure comes, and that it may be told.
use Rattle.mscp_logged.proofs.Common.{AllByRecursion, Answer, Asked, Bool, First, List, None, Nothing, Oldest, Option, Pending, Sent, Some, [], and_parts, ap, arith, asked_about, asked_by, asks_oldest, command_at, cond, eqb-true, false, false≢true, find, find_cases, inl, inr, is_known, is_named, length, list_any, may_ask, may_be, nat_eq, nat_lt, none-some, or_left, or_right, polled_by, position, position_first, position_none, refl, same_Some, same_connection, sent_by, subst, sym, true, ℕ, ◌++◌, ◌<◌, ◌∙◌, ◌∷◌, ◌≡◌, ◌≤◌, ◌⊎◌}
use Rattle.mscp_logged.proofs.Left.{at_front}
use Rattle.mscp_logged.proofs.Wired.{named}

-- ---- what comes

-- the figure in the first end of a number that comes
abbrev pub figure_of : ℕ → List Pending → Option ℕ
figure_of n [] = None
figure_of n (e ∷ es) = cond (nat_eq e.number n) (Some e.figure) (figure_of n es)

pub figure_more : (n : ℕ) (es more : List Pending) (g : ℕ) → figure_of n es ≡ Some g → figure_of n (es ++ more) ≡ Some g
figure_more n [] more g e = absurd (none-some g e)
figure_more n (x ∷ es) more g e = grind (arith, figure_more n es more g)

-- a figure of 1 or more isn't above one that was told, and below it if this is so
abbrev pub IsBelow : (ℕ → ℕ) → (ℕ → Type 0) → ℕ → ℕ → Type 0
IsBelow F S n g = 1 ≤ F n → (F n ≤ g) × (S n → F n < g)

-- ---- what is known

pub record IsPolled (xs : List Sent) (P : List Pending) (F : ℕ → ℕ) (S : ℕ → Type 0) (s : Sent) (other : ℕ)
    : Type 0 where
  pub figure : ℕ
  pub comes : figure_of s.reference P ≡ Some figure
  pub right : (figure ≡ 0) ⊎ (may_be s.asked false figure ≡ true)
  pub oldest : asks_oldest s.asked ≡ true → (list_any (named other) xs ≡ true) × IsBelow F S other figure

pub record IsFigured (xs : List Sent) (P : List Pending) (F : ℕ → ℕ) (S : ℕ → Type 0) (s : Sent) : Type 0 where
  pub via : s.connection ≡ First
  pub told : (l : ℕ) → s.told ≡ Some l → IsBelow F S s.reference l
  pub poll : s.opcode ≡ 2 → (other : ℕ) → s.parameter ≡ Some other → IsPolled xs P F S s other

abbrev pub AreFigured : List Sent → List Pending → (ℕ → ℕ) → (ℕ → Type 0) → Type 0
AreFigured xs P F S = AllByRecursion (IsFigured xs P F S) xs

-- ---- the port goes on

-- a figure falls, or stays
abbrev pub Lowers : (ℕ → ℕ) → (ℕ → Type 0) → (ℕ → ℕ) → (ℕ → Type 0) → ℕ → Type 0
Lowers F S F' S' n = 1 ≤ F' n → (1 ≤ F n) × (F' n ≤ F n) × (S' n → S n ⊎ (F' n < F n))

module _ (F : ℕ → ℕ) (S : ℕ → Type 0) (F' : ℕ → ℕ) (S' : ℕ → Type 0) where
  below_as : (n g : ℕ) → Lowers F S F' S' n → IsBelow F S n g → IsBelow F' S' n g
  below_as n g lowers below low = grind arith

  module _ (xs xs' : List Sent) (P more : List Pending)
      (lowers : (n : ℕ) → list_any (named n) xs ≡ true → Lowers F S F' S' n)
      (grow : (n : ℕ) → list_any (named n) xs ≡ true → list_any (named n) xs' ≡ true) where
    one_still : (s : Sent) → list_any (named s.reference) xs ≡ true → IsFigured xs P F S s
        → IsFigured xs' (P ++ more) F' S' s
    one_still s here f = record {
      via = f.via;
      told = λ l e. below_as s.reference l (lowers s.reference here) (f.told l e);
      poll = λ code other e. let p = f.poll code other e in record {
        figure = p.figure;
        comes = figure_more s.reference P more p.figure p.comes;
        right = p.right;
        oldest = λ asks. let o = p.oldest asks in
            (grow other o.0, below_as other p.figure (lowers other o.0) o.1);
      };
    }

    still_of : (ys : List Sent) → ((n : ℕ) → list_any (named n) ys ≡ true → list_any (named n) xs ≡ true)
        → AllByRecursion (IsFigured xs P F S) ys → AllByRecursion (IsFigured xs' (P ++ more) F' S') ys
    still_of [] in_it all = tt
    still_of (s ∷ ys) in_it all = (
      one_still s (in_it s.reference (or_left (named s.reference s) (list_any (named s.reference) ys) itself)) all.0,
      still_of ys (λ n h. in_it n (or_right (named n s) (list_any (named n) ys) h)) all.1,
    )
      where
        itself : named s.reference s ≡ true
        itself = grind arith

    pub figured_still : AreFigured xs P F S → AllByRecursion (IsFigured xs' (P ++ more) F' S') xs
    figured_still all = still_of xs (λ n h. h) all

-- ---- a message comes

-- the one that is found is as all are
found_by : (Q : Sent → Type 0) (f : Sent → Bool) (xs : List Sent) (z : Sent) → AllByRecursion Q xs → find f xs ≡ Some z
    → Q z × (f z ≡ true) × (list_any f xs ≡ true)
found_by Q f [] z all e = absurd (none-some z e)
found_by Q f (x ∷ xs) z all e = grind (arith, found_by Q f xs z all.1)

none_any : (f : Sent → Bool) (xs : List Sent) → find f xs ≡ None → list_any f xs ≡ false
none_any f [] e = refl
none_any f (x ∷ xs) e = grind (arith, none_any f xs)

module _ (F : ℕ → ℕ) (S : ℕ → Type 0) (F' : ℕ → ℕ) (S' : ℕ → Type 0) (xs xs' : List Sent) (P : List Pending)
    (all : AreFigured xs P F S) (timeout : Option ℕ)
    (zero : (n : ℕ) → list_any (named n) xs ≡ false → F n ≡ 0)
    (lowers : (n : ℕ) → list_any (named n) xs ≡ true → Lowers F S F' S' n)
    (grow : (n : ℕ) → list_any (named n) xs ≡ true → list_any (named n) xs' ≡ true)
    (other : ℕ) (serves : 1 ≤ F other → S other) (never : S' other → ⊥) where
  abbrev IsRight : Asked → Type 0
  IsRight asked = ((F other ≡ 0) ⊎ (may_be asked false (F other) ≡ true))
      × (asks_oldest asked ≡ true → (list_any (named other) xs' ≡ true) × IsBelow F' S' other (F other))

  nothing_right : IsRight Nothing
  nothing_right = (inr refl, λ e. absurd (false≢true e))

  about_right : (y : Sent) → (o : Option Sent) → find (named other) xs ≡ o → IsRight (asked_about timeout xs y o)
  about_right y None e = (inl (zero other (none_any (named other) xs e)), λ h. absurd (false≢true h))
  about_right y (Some z) e = by (may_ask timeout xs y z)
    where
      x : IsFigured xs P F S z × (named other z ≡ true) × (list_any (named other) xs ≡ true)
      x = found_by (IsFigured xs P F S) (named other) xs z all e

      is : z.reference ≡ other
      is = eqb-true z.reference other (and_parts (same_connection z.connection First) (nat_eq z.reference other) x.1).1

      low_or : (n : ℕ) → (n ≡ 0) ⊎ (1 ≤ n)
      low_or n = search arith

      less : (a b : ℕ) → a < b → nat_lt a b ≡ true
      less a b h = search (arith, h)

      told : (o : Option ℕ) → z.told ≡ o → (F other ≡ 0) ⊎ (may_be (Oldest o) false (F other) ≡ true)
      told o h = grind (arith, low_or, less, is, x)

      by : (b : Bool) → IsRight (cond b (Oldest z.told) Nothing)
      by b = grind (arith, nothing_right, told, x)

  pub asked_right : (y : Sent) → y.connection ≡ First → IsRight (asked_by timeout xs y (Some other))
  asked_right y via = by (nat_eq other y.reference)
    where
      by : (b : Bool) → IsRight (cond b Nothing (asked_about timeout xs y (find (is_named y.connection other) xs)))
      by true = nothing_right
      by false = rw via (about_right y (find (named other) xs) refl)

-- ---- an end leaves

-- the command at the place of a number is as all are
pub at_place : (Q : Sent → Type 0) (n : ℕ) (xs : List Sent) (place : ℕ) → position (named n) xs ≡ Some place
    → AllByRecursion Q xs → Q (command_at xs place) × (named n (command_at xs place) ≡ true)
at_place Q n xs place at all = elim (find_cases (named n) xs) [
  | inl none ↦ absurd (none-some place (sym (position_none (named n) xs none) ∙ at))
  | inr some ↦
      let here : length some.0 ≡ place = same_Some (length some.0) place
      (sym (ap (position (named n)) some.3.is
      ∙ position_first (named n) some.0 some.1 some.2 some.3.before some.3.passed) ∙ at) in
      let is : some.1 ≡ command_at xs place = sym (ap (λ zs. command_at zs place) some.3.is
      ∙ ap (command_at (some.0 ++ some.1 ∷ some.2)) (sym here)
      ∙ at_front some.0 some.1 some.2 (sent_by First [])) in (
        subst Q is (middle Q some.0 some.1 some.2 (subst (λ zs. AllByRecursion Q zs) some.3.is all)),
        subst (λ z. named n z ≡ true) is some.3.passed,
      )
]
  where
    middle : (Q : Sent → Type 0) (front : List Sent) (x : Sent) (back : List Sent)
        → AllByRecursion Q (front ++ x ∷ back) → Q x
    middle Q [] x back all = all.0
    middle Q (y ∷ front) x back all = middle Q front x back all.1

-- what is polled by an end
pub record Polls (y : Sent) (e : Answer) (other : ℕ) : Type 0 where
  pub known : is_known e ≡ true
  pub opcode : y.opcode ≡ 2
  pub parameter : y.parameter ≡ Some other

pub polled_so : (y : Sent) (e : Answer) (other : ℕ) → polled_by y e ≡ Some other → Polls y e other
polled_so y e other h = grind arith
