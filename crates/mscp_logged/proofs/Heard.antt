-- What is known of the commands that are outstanding once an end left: they heard its figure, if it told one.
use Rattle.mscp_logged.proofs.Common.{AllByRecursion, Answer, Asked, Bool, First, Gone, List, None, Nothing, Oldest, Option, Pending, Sent, Some, [], and_parts, answer_by, ap, asks_oldest, command_at, cond, eq-eqb, eqb-true, false, false≢true, filter, four_in, has_figure, hears, inl, inr, is_it, is_known, is_long, is_named, is_polled, least_end, left, length, list_any, map, may_be, may_tell, nat_eq, nat_le, none-some, not, num, or_right, polled_by, polls, position, refl, same_Some, same_connection, slice_index, subst, sym, tells, true, ℕ, ◌&&◌, ◌+◌, ◌||◌, ◌∙◌, ◌∷◌, ◌≡◌, ◌⊎◌}
use Rattle.mscp_logged.proofs.Polled.{AreFigured, IsBelow, IsFigured, IsPolled, Polls, at_place, figure_of, polled_so}
use Rattle.mscp_logged.proofs.Queueing.{flipped}
use Rattle.mscp_logged.proofs.Wired.{named}

-- what an end tells of the command that it polled may be told
abbrev pub IsShown : List Sent → List ℕ → Type 0
IsShown xs text = (place : ℕ) → position (named (num text 0 4)) xs ≡ Some place → (other : ℕ)
    → Polls (command_at xs place) (answer_by First text) other
    → (num text 16 4 ≡ 0) ⊎ (may_be (command_at xs place).asked false (num text 16 4) ≡ true)

-- ---- what a poll asks

left_right : (a : Asked) (g : ℕ) → may_be a false g ≡ true → may_be (left a) false g ≡ true
left_right Nothing g e = refl
left_right (Oldest last) g e = e
left_right (Gone last) g e = refl

left_young : (a : Asked) → asks_oldest (left a) ≡ false
left_young Nothing = refl
left_young x = refl

came_right : (a : Asked) (came : Bool) (g : ℕ) → may_be a false g ≡ true → may_be a came g ≡ true
came_right Nothing came g e = refl
came_right (Oldest last) came g e = e
came_right (Gone last) came g e = or_right came _ e

any_kept : (g : Sent → Sent) (n other : ℕ) → ((x : Sent) → named other (g x) ≡ named other x)
    → nat_eq other n ≡ false → (xs : List Sent) → list_any (named other) xs ≡ true
    → list_any (named other) (map g (filter (λ x. not (named n x)) xs)) ≡ true
any_kept g n other same apart [] e = absurd (false≢true e)
any_kept g n other same apart (x ∷ xs) e = by (named n x) refl (named other x) refl e (any_kept g n other same apart xs)
  where
    both : named n x ≡ true → named other x ≡ true → ⊥
    both here there = false≢true (sym apart ∙ eq-eqb other n
        (sym (eqb-true x.reference other
        (and_parts (same_connection x.connection First) (nat_eq x.reference other) there).1)
        ∙ eqb-true x.reference n (and_parts (same_connection x.connection First) (nat_eq x.reference n) here).1))

    by : (b : Bool) → named n x ≡ b → (c : Bool) → named other x ≡ c → (c || list_any (named other) xs) ≡ true
        → (list_any (named other) xs ≡ true
        → list_any (named other) (map g (filter (λ x. not (named n x)) xs)) ≡ true)
        → list_any (named other) (map g (cond (not b) (x ∷ filter (λ x. not (named n x)) xs)
        (filter (λ x. not (named n x)) xs))) ≡ true
    by true is true there h rest = absurd (both is there)
    by true is false there h rest = rest h
    by false is true there h rest = ap (λ b. b || list_any (named other)
        (map g (filter (λ x. not (named n x)) xs))) (same x ∙ there)
    by false is false there h rest = or_right (named other (g x)) _ (rest h)

-- ---- an end leaves

module _ (F : ℕ → ℕ) (S : ℕ → Type 0) (xs : List Sent) (P' : List Pending) (head : Pending) (text : List ℕ)
    (place : ℕ) (at : position (named (num text 0 4)) xs ≡ Some place) (number : head.number ≡ num text 0 4)
    (figure : head.figure ≡ cond (nat_eq (slice_index text 8) 0x82) (num text 16 4) 0)
    (coded : (command_at xs place).opcode ≡ 2 → is_known (answer_by First text) ≡ true → slice_index text 8 ≡ 0x82)
    (all : AreFigured xs (head ∷ P') F S) where
  abbrev y : Sent
  y = command_at xs place

  abbrev e : Answer
  e = answer_by First text

  abbrev n : ℕ
  n = num text 0 4

  own : IsFigured xs (head ∷ P') F S y × (named n y ≡ true)
  own = at_place (IsFigured xs (head ∷ P') F S) n xs place at all

  own_number : y.reference ≡ n
  own_number = eqb-true y.reference n (and_parts (same_connection y.connection First) (nat_eq y.reference n) own.1).1

  -- the figure that comes of the command that it polled is that which it tells
  mine : (other : ℕ) → Polls y e other
      → (p : IsPolled xs (head ∷ P') F S y other) × (p.figure ≡ num text 16 4)
  mine other polls = (p, told)
    where
      p : IsPolled xs (head ∷ P') F S y other
      p = own.0.poll polls.opcode other polls.parameter

      told : p.figure ≡ num text 16 4
      told = same_Some p.figure (num text 16 4) (sym p.comes ∙ ap (λ k. figure_of k (head ∷ P')) own_number
          ∙ ap (λ b. cond b (Some head.figure) (figure_of n P')) (eq-eqb head.number n number)
          ∙ ap Some (figure ∙ ap (λ b. cond b (num text 16 4) 0)
          (eq-eqb (slice_index text 8) 0x82 (coded polls.opcode polls.known))))

  pub is_shown : (place' : ℕ) → position (named (num text 0 4)) xs ≡ Some place' → (other : ℕ)
      → Polls (command_at xs place') (answer_by First text) other
      → (num text 16 4 ≡ 0) ⊎ (may_be (command_at xs place').asked false (num text 16 4) ≡ true)
  is_shown place' at' other polls = subst (λ i. Polls (command_at xs i) e other → (num text 16 4 ≡ 0)
      ⊎ (may_be (command_at xs i).asked false (num text 16 4) ≡ true)) (same_Some place place' (sym at ∙ at')) here
      polls
    where
      here : Polls (command_at xs place) e other → (num text 16 4 ≡ 0)
          ⊎ (may_be (command_at xs place).asked false (num text 16 4) ≡ true)
      here polls =
          let m = mine other polls in
          subst (λ g. (g ≡ 0) ⊎ (may_be (command_at xs place).asked false g ≡ true)) m.1 m.0.right

  abbrev xs' : List Sent
  xs' = map (hears (command_at xs place) (answer_by First text)) (filter (λ x. not (named (num text 0 4) x)) xs)

  heard : (s : Sent) → named n s ≡ false → IsFigured xs (head ∷ P') F S s → IsFigured xs' P' F S (hears y e s)
  heard s apart f = record { via = f.via; told = told; poll = poll }
    where
      other_number : nat_eq s.reference n ≡ false
      other_number = sym (ap (λ via. same_connection via First && nat_eq s.reference n) f.via) ∙ apart

      figure_told : (l : ℕ) → e.figure ≡ Some l → l ≡ num text 16 4
      figure_told l h = by (nat_le (16 + 4) (length text)) h
        where
          by : (b : Bool) → cond b (Some (num text 16 4)) None ≡ Some l → l ≡ num text 16 4
          by true h = sym (same_Some (num text 16 4) l h)
          by false h = absurd (none-some l h)

      told : (l : ℕ) → cond (tells y e s) e.figure s.told ≡ Some l → IsBelow F S s.reference l
      told l h = by (tells y e s) refl h
        where
          polled : asks_oldest y.asked ≡ true → e.figure ≡ Some l → (o : Option ℕ) → polled_by y e ≡ o
              → is_polled First o s ≡ true → IsBelow F S s.reference l
          polled asks so None is h = absurd (false≢true h)
          polled asks so (Some other) is h =
              let m = mine other (polled_so y e other is) in
              let same : s.reference ≡ other = eqb-true s.reference other
              (and_parts (same_connection s.connection First) (nat_eq s.reference other) h).1 in
              subst (λ k. IsBelow F S k l) (sym same)
              (subst (λ g. IsBelow F S other g) (m.1 ∙ sym (figure_told l so)) (m.0.oldest asks).1)

          by : (b : Bool) → tells y e s ≡ b → cond b e.figure s.told ≡ Some l → IsBelow F S s.reference l
          by true is h =
              let p = and_parts (asks_oldest y.asked) (is_polled First (polled_by y e) s) is in
              polled p.0 h (polled_by y e) refl p.1
          by false is h = f.told l h

      poll : s.opcode ≡ 2 → (other : ℕ) → s.parameter ≡ Some other → IsPolled xs' P' F S (hears y e s) other
      poll code other parameter = record {
        figure = p.figure;
        comes = sym (ap (λ b. cond b (Some head.figure) (figure_of s.reference P'))
            (ap (λ k. nat_eq k s.reference) number ∙ flipped s.reference n other_number)) ∙ p.comes;
        right = right (polls y s) p.right;
        oldest = oldest (polls y s) refl;
      }
        where
          p : IsPolled xs (head ∷ P') F S s other
          p = f.poll code other parameter

          right : (b : Bool) → (p.figure ≡ 0) ⊎ (may_be s.asked false p.figure ≡ true)
              → (p.figure ≡ 0) ⊎ (may_be (cond b (left s.asked) s.asked) false p.figure ≡ true)
          right b (inl z) = inl z
          right true (inr h) = inr (left_right s.asked p.figure h)
          right false (inr h) = inr h

          -- it isn't the one that left
          stays : polls y s ≡ false → nat_eq other n ≡ false
          stays is = ap (λ k. nat_eq other k) (sym own_number)
              ∙ sym (ap (λ o. is_it o y.reference) parameter)
              ∙ sym (ap (λ b. b && is_it s.parameter y.reference) (eq-eqb s.opcode 2 code))
              ∙ sym (ap (λ v. same_connection v First && nat_eq s.opcode 2 && is_it s.parameter y.reference) f.via)
              ∙ sym (ap (λ v. same_connection s.connection v && nat_eq s.opcode 2 && is_it s.parameter y.reference)
              own.0.via)
              ∙ is

          oldest : (b : Bool) → polls y s ≡ b → asks_oldest (cond b (left s.asked) s.asked) ≡ true
              → (list_any (named other) xs' ≡ true) × IsBelow F S other p.figure
          oldest true is asks = absurd (false≢true (sym (left_young s.asked) ∙ asks))
          oldest false is asks =
              let o = p.oldest asks in
              (any_kept (hears y e) n other (λ x. refl) (stays is) xs o.0, o.1)

  left_of : (zs : List Sent) → AllByRecursion (IsFigured xs (head ∷ P') F S) zs
      → AllByRecursion (IsFigured xs' P' F S) (map (hears y e) (filter (λ x. not (named n x)) zs))
  left_of [] h = tt
  left_of (z ∷ zs) h = by (named n z) refl (left_of zs h.1)
    where
      by : (b : Bool) → named n z ≡ b
          → AllByRecursion (IsFigured xs' P' F S) (map (hears y e) (filter (λ x. not (named n x)) zs))
          → AllByRecursion (IsFigured xs' P' F S) (map (hears y e) (cond (not b)
          (z ∷ filter (λ x. not (named n x)) zs) (filter (λ x. not (named n x)) zs)))
      by true is rest = rest
      by false is rest = (heard z is h.0, rest)

  pub figured_left : AllByRecursion (IsFigured xs' P' F S) xs'
  figured_left = left_of xs all

-- ---- the rule

pub figure_right : (later : List Sent) (y : Sent) (text : List ℕ) → is_long text ≡ true
    → (y.opcode ≡ 2 → is_known (answer_by First text) ≡ true → slice_index text 8 ≡ 0x82)
    → ((other : ℕ) → Polls y (answer_by First text) other
    → (num text 16 4 ≡ 0) ⊎ (may_be y.asked false (num text 16 4) ≡ true))
    → has_figure later y (answer_by First text) (polled_by y (answer_by First text)) ≡ true
figure_right later y text long coded shown = by (polled_by y e) refl
  where
    e : Answer
    e = answer_by First text

    told : {other : ℕ} → Polls y (answer_by First text) other → four_in text 16 ≡ Some (num text 16 4)
    told polls = ap (λ b. cond b (Some (num text 16 4)) None) (subst (λ k. nat_le (least_end k) (length text) ≡ true)
        (coded polls.opcode polls.known)
        (and_parts (nat_le 12 (length text)) (nat_le (least_end (slice_index text 8)) (length text)) long).1)

    tell : (came : Bool) → (num text 16 4 ≡ 0) ⊎ (may_be y.asked false (num text 16 4) ≡ true)
        → (nat_eq (num text 16 4) 0 || may_be y.asked came (num text 16 4)) ≡ true
    tell came (inl z) = ap (λ b. b || may_be y.asked came (num text 16 4)) (eq-eqb (num text 16 4) 0 z)
    tell came (inr h) = or_right (nat_eq (num text 16 4) 0) _ (came_right y.asked came (num text 16 4) h)

    by : (o : Option ℕ) → polled_by y (answer_by First text) ≡ o → has_figure later y (answer_by First text) o ≡ true
    by None is = refl
    by (Some other) is =
        let polls = polled_so y (answer_by First text) other is in
        ap (may_tell y.asked (list_any (is_named First other) later)) (told polls)
        ∙ tell (list_any (is_named First other) later) (shown other polls)
