-- All that keeps the stricter rules of figures is right to the judge of the wire.
use Rattle.mscp_shown.proofs.Common.{AllByRecursion, Answer, Asked, Bool, Connection, Gone, History, List, None, Nothing, Oldest, Option, Seen, Sent, Some, Standing, Told, [], answer_by, ap, arith, command_at, cond, drop, every_from, every_weaker, false, false≢true, find, find_none, fold_push, get_or, has_credit, if◌then◌else◌, is_below, is_named, is_polled, length, list_any, map, moment_at, nat_eq, not, or_parts, pairs_append, place_of, polled_by, refl, sent_by, subst, suc, sym, take, true, zero, ℕ, ◌&&◌, ◌++◌, ◌+◌, ◌<◌, ◌||◌, ◌∙◌, ◌∷◌, ◌≡◌, ◌≤◌}
use Rattle.mscp_wire.specs.Wire as wire
use Rattle.mscp_wire.specs.Wire.{is_immediate, same_connection}
use Rattle.mscp_wire.specs.declared.moment.Moment.{Moment}
use Rattle.mscp_wire.specs.declared.moment.Moment.TheVariants as moments
use Rattle.mscp_wire.specs.declared.rule.Rule.TheVariants as rules
use Rattle.mscp_shown.proofs.Alike.{Alike, alike_any, alike_at, alike_count, alike_drop, alike_position, alike_take, bare}
use Rattle.mscp_shown.proofs.Lenient.{Falls, apart_at, apart_from, falls_found, falls_one, hears_bare, linked_end, named_turned, pairs_take}
use Rattle.mscp_shown.proofs.Linking.{Alone, AsksOf, IsLow, Linked, asks_at, below_lower, linked_alike, linked_sent, nobody}
use Rattle.mscp_shown.proofs.Pairing.{pairs_out}
use Rattle.mscp_shown.proofs.Shown.{placed}
use Rattle.mscp_shown.proofs.Strict as strict
use Rattle.mscp_shown.proofs.Strict.{IsRightMessage, hears, may_tell, told_at}

-- ---- lists
every_none : (q : Sent → Bool) (xs : List Sent) → list_any q xs ≡ false → AllByRecursion (λ x. q x ≡ false) xs
every_none q [] h = tt
every_none q (x ∷ xs) h =
    let p = or_parts (q x) (list_any q xs) h in
    (p.0, every_none q xs p.1)

every_both : (P Q : Sent → Type 0) (xs : List Sent) → AllByRecursion P xs → AllByRecursion Q xs
    → AllByRecursion (λ x. P x × Q x) xs
every_both P Q [] h k = tt
every_both P Q (x ∷ xs) h k = ((h.0, k.0), every_both P Q xs h.1 k.1)

any_split : (q : Sent → Bool) (i : ℕ) (xs : List Sent) (d : Sent) → i < length xs
    → list_any q xs ≡ (list_any q (take i xs) || (q (get_or xs i d) || list_any q (drop (suc i) xs)))
any_split q (suc i) (x ∷ xs) d l = grind (arith, any_split q i xs d (omega (arith, l)))
any_split q i xs d l = grind arith

found_first : (q : Sent → Bool) (P : Sent → Type 0) (xs : List Sent) → list_any q xs ≡ true → AllByRecursion P xs
    → (x : Sent) × (find q xs ≡ Some x) × (q x ≡ true) × P x
found_first q P [] h all = absurd (false≢true h)
found_first q P (x ∷ xs) h all =
    let R : Bool → Type 0 = λ b. q x ≡ b → (b || list_any q xs) ≡ true
    → (z : Sent) × (cond b (Some x) (find q xs) ≡ Some z) × (q z ≡ true) × P z in
    elim (q x) as R [
      | true ↦ λ e k. (x, refl, e, all.0)
      | false ↦ λ e k. found_first q P xs k all.1
    ] refl h

more_taken : (h : History) (n : ℕ) → n < length h → take (suc n) h ≡ take n h ++ moment_at h n ∷ []
more_taken (m ∷ h) (suc n) l = ap (λ t. m ∷ t) (more_taken h n (omega (arith, l)))
more_taken h n l = grind arith

-- ---- what is kept
record State (xs ys : List Sent) : Type 0 where
  link : Linked [] xs ys
  alone : Alone xs

-- ---- a message
module _ (credits : Option ℕ) (xs ys : List Sent) (h : State xs ys) where
  alike : Alike xs ys
  alike = linked_alike [] xs ys h.link

  credit_same : (c : Option ℕ) (s : Sent) → has_credit c xs s ≡ has_credit c ys s
  credit_same c s = grind (arith, alike_count, alike)

  new_same : (s : Sent) → list_any (is_named s.connection s.reference) xs
      ≡ list_any (is_named s.connection s.reference) ys
  new_same s = grind (arith, alike_any, alike)

  sent_right : (b : List ℕ) (s : Sent) → IsRightMessage credits xs b s
      → wire.unless (wire.is_message b) rules.Message (wire.broken_message credits ys s) ≡ None
  sent_right b s r = grind (arith, new_same, credit_same)

  sent_kept : (timeout time : Option ℕ) (b : List ℕ) (s : Sent) → IsRightMessage credits xs b s
      → State (xs ++ s ∷ []) (ys ++ wire.asking timeout ys (wire.timed time s) ∷ [])
  sent_kept timeout time b s r =
      let q = is_named s.connection s.reference in
      let none : list_any q xs ≡ false = isnt (list_any q xs) r.number in
      record {
        link = linked_sent timeout time xs ys s h.link h.alone;
        alone = pairs_append (λ x y. is_named x.connection x.reference y ≡ false) xs s h.alone
            (every_weaker (λ x. q x ≡ false) (λ x. is_named x.connection x.reference s ≡ false)
            (λ x k. named_turned s x k) xs (every_none q xs none));
      }
    where
      isnt : (b : Bool) → not b ≡ true → b ≡ false
      isnt b k = grind arith

-- ---- an end
polled_parameter : (y : Sent) (e : Answer) (n : ℕ) → polled_by y e ≡ Some n → y.parameter ≡ Some n
polled_parameter y e n h = grind arith

module _ (xs ys : List Sent) (h : State xs ys) (u : Seen) (b : List ℕ) (e : Answer) (i : ℕ)
    (r : strict.IsRightEnd xs u b e i) where
  abbrev x : Sent
  x = command_at xs i

  abbrev y : Sent
  y = command_at ys i

  abbrev p : Option ℕ
  p = polled_by x e

  both : Alike xs ys
  both = linked_alike [] xs ys h.link

  same : bare x ≡ bare y
  same = alike_at i xs ys nobody both

  asks : polled_by y e ≡ p
  asks = ap (λ s. polled_by s e) (sym same)

  low : i < length xs
  low = (placed xs e i r.outstanding).low

  side : y.connection ≡ e.connection
  side = ap (λ (s : Sent). s.connection) (sym same) ∙ (placed xs e i r.outstanding).connection

  asked_here : AsksOf (take i xs) y y.asked
  asked_here = asks_at [] xs ys i h.link

  -- those before it
  falls_all : (o : Option ℕ) → strict.has_figure xs (take i xs) e o ≡ true → AllByRecursion (Falls e o) (take i xs)
  falls_all None k = every_from (Falls e None) (λ t q. absurd (false≢true q)) (take i xs)
  falls_all (Some n) k = grind (arith, falls_found, pairs_take)

  -- those behind it
  abbrev IsSilent : Asked → Option ℕ → Sent → Type 0
  IsSilent a o t = (wire.asks_oldest a && is_polled e.connection o t) ≡ false

  silent_all : (a : Asked) (o : Option ℕ) → AsksOf (take i xs) y a → ((n : ℕ) → o ≡ Some n → y.parameter ≡ Some n)
      → AllByRecursion (IsSilent a o) (drop (suc i) xs)
  silent_all Nothing o k q = every_from (IsSilent Nothing o) (λ t. refl) (drop (suc i) xs)
  silent_all (Gone last) o k q = every_from (IsSilent (Gone last) o) (λ t. refl) (drop (suc i) xs)
  silent_all (Oldest last) None k q = every_from (IsSilent (Oldest last) None) (λ t. refl) (drop (suc i) xs)
  silent_all (Oldest last) (Some n) k q =
      let there = (k n (q n refl)).1.0 in
      subst (λ v. AllByRecursion (λ t. is_named v n t ≡ false) (drop (suc i) xs)) side
      (apart_from y.connection n i xs h.alone there)

  end_kept : State (map (hears e p) (take i xs) ++ drop (i + 1) xs)
      (map (wire.hears y e) (take i ys ++ drop (i + 1) ys))
  end_kept =
      let apart = apart_at i xs nobody low h.alone in
      let one : suc i ≡ i + 1 = omega arith in
      let silent = silent_all y.asked p asked_here (λ n q. polled_parameter y e n (asks ∙ q)) in
      let link = linked_end e p x y same asks i xs ys nobody low refl h.link
      (every_both (λ t. is_named x.connection x.reference t ≡ false) (Falls e p) (take i xs) apart.0
      (falls_all p r.figure))
      (every_both (λ t. is_named x.connection x.reference t ≡ false) (IsSilent y.asked p) (drop (suc i) xs) apart.1
      silent) in
      record {
        link = rw (← one) link;
        alone = pairs_out (hears e p) (λ s t. is_named s.connection s.reference t ≡ false)
            (λ s t k. ap (λ (z : Sent). is_named z.connection z.reference t) (hears_bare e p s) ∙ k)
            (λ s t k. ap (λ z. is_named s.connection s.reference z) (hears_bare e p t) ∙ k) i xs h.alone;
      }

  -- the figure that is told
  module _ (n : ℕ) (here : y.parameter ≡ Some n) where
    abbrev q : Sent → Bool
    q = is_named e.connection n

    came_same : list_any q (drop (suc i) xs) ≡ list_any q (drop (i + 1) ys)
    came_same =
        let one : suc i ≡ i + 1 = omega arith in
        ap (λ k. list_any q (drop k xs)) one
        ∙ alike_any q (λ s t k. ap q k) (drop (i + 1) xs) (drop (i + 1) ys) (alike_drop (i + 1) xs ys both)

    gone_tells : (figure : ℕ) (last : Option ℕ) → list_any q (take i xs) ≡ false → q y ≡ false
        → (list_any q xs || nat_eq figure 0) ≡ true
        → (nat_eq figure 0 || (list_any q (drop (i + 1) ys) || is_below last figure)) ≡ true
    gone_tells figure last before itself k =
        let own : q x ≡ false = ap q same ∙ itself in
        let all : list_any q xs ≡ list_any q (drop (i + 1) ys) =
        any_split q i xs nobody low
        ∙ (ap (λ b. b || (q x || list_any q (drop (suc i) xs))) before
        ∙ (ap (λ b. b || list_any q (drop (suc i) xs)) own ∙ came_same)) in
        turned (list_any q (drop (i + 1) ys)) (nat_eq figure 0) (is_below last figure)
        (sym (ap (λ b. b || nat_eq figure 0) all) ∙ k)
      where
        turned : (c z b : Bool) → (c || z) ≡ true → (z || (c || b)) ≡ true
        turned c z b k = grind arith

    oldest_tells : (figure : Option ℕ) (last : Option ℕ) → list_any q (take i xs) ≡ true
        → AllByRecursion (IsLow e.connection n last) (take i xs)
        → may_tell figure (list_any q xs) (find q (take i xs)) ≡ true
        → wire.may_tell (Oldest last) (list_any q (drop (i + 1) ys)) figure ≡ true
    oldest_tells figure last some all k = grind (arith, found_first, falls_one, below_lower)

    tells_right : (figure : Option ℕ) (a : Asked) → AsksOf (take i xs) y a
        → may_tell figure (list_any q xs) (find q (take i xs)) ≡ true
        → wire.may_tell a (list_any q (drop (i + 1) ys)) figure ≡ true
    tells_right (Some figure) (Oldest last) asked k =
        let s = asked n here in
        oldest_tells (Some figure) last (subst (λ v. list_any (is_named v n) (take i xs) ≡ true) side s.1.0)
        (subst (λ v. AllByRecursion (IsLow v n last) (take i xs)) side s.1.1) k
    tells_right figure a asked k = grind (arith, side, find_none, every_none, gone_tells)

  figure_right : (o : Option ℕ) → p ≡ o → strict.has_figure xs (take i xs) e o ≡ true
      → wire.has_figure (drop (i + 1) ys) y e o ≡ true
  figure_right None q k = refl
  figure_right (Some n) q k = tells_right n (polled_parameter y e n (asks ∙ q)) e.figure y.asked asked_here k

  place_same : place_of ys e ≡ Some i
  place_same = grind (arith, alike_position, both)

  aborted_right : wire.has_abort (drop (i + 1) ys) y e ≡ true
  aborted_right =
      ap (λ k. not (nat_eq (wire.status_code e) 2) || k)
      (sym (alike_any (wire.aborts y) (λ s t k. ap (wire.aborts y) k) (drop (i + 1) xs) (drop (i + 1) ys)
      (alike_drop (i + 1) xs ys both)))
      ∙ (ap (λ s. wire.has_abort (drop (i + 1) xs) s e) (sym same) ∙ r.aborted)

  order_right : wire.passes_none (take i ys) y e ≡ true
  order_right =
      ap (λ k. wire.is_apart (wire.status_code e) || not k)
      (sym (alike_any (wire.keeps_back y) (λ s t k. ap (wire.keeps_back y) k) (take i xs) (take i ys)
      (alike_take i xs ys both)))
      ∙ (ap (λ s. wire.passes_none (take i xs) s e) (sym same) ∙ r.order)

  end_right : (settled : Bool) → wire.suits_state u.unit.state e ≡ true → wire.fits u.controller e.controller ≡ true
      → wire.unless (wire.is_long b) rules.Length
      (wire.broken_at ys (record { unit = if settled then u.unit else wire.told_nothing; controller = u.controller }) e
      (place_of ys e)) ≡ None
  end_right settled stated known = grind (arith, place_same, same, aborted_right, order_right, asks, figure_right)

-- ---- a moment
step : (credits timeout : Option ℕ) (xs ys : List Sent) (units : Connection → ℕ → Told) (known : Option ℕ) (m : Moment)
    → State xs ys → strict.IsRightAfter credits xs (told_at units known m) m
    → strict.IsStated (told_at units known m) m
    → (wire.broken credits ys (wire.seen_of ys units known m) m ≡ None)
    × State (strict.after xs m) (wire.after timeout ys m)
step credits timeout xs ys units known (moments.Message via b time) h r stated = (
  sent_right credits xs ys h b.items (sent_by via b.items) r,
  sent_kept credits xs ys h timeout time b.items (sent_by via b.items) r,
)
step credits timeout xs ys units known (moments.End via b) h r stated =
    let e = answer_by via b.items in
    let u = told_at units known (moments.End via b) in
    let found = place_same xs ys h u b.items e r.0 r.1 in (
      end_right xs ys h u b.items e r.0 r.1 (wire.settles ys e) stated.0 stated.1,
      rw r.1.outstanding (rw found (end_kept xs ys h u b.items e r.0 r.1)),
    )
step credits timeout xs ys units known m h r stated = grind arith

states : (credits : Option ℕ) (h : History) → strict.AreRight credits h → strict.AreStated h → (n : ℕ) → n ≤ length h
    → State (strict.outstanding (take n h)) (wire.outstanding (take n h))
states credits h r d zero l = record { link = tt; alone = tt }
states credits h r d (suc n) l =
    let low : n < length h = omega (arith, l) in
    let before = take n h in
    let m = moment_at h n in
    let more = (step credits (wire.timeout before) (strict.outstanding before) (wire.outstanding before)
    (wire.told before) (wire.controller before)
    m (states credits h r d n (omega (arith, l))) (r n low) (d n low)).1 in
    subst (λ t. State (strict.outstanding t) (wire.outstanding t)) (sym (more_taken h n low))
    (subst (λ xs. State xs (wire.outstanding (before ++ m ∷ []))) (sym (fold_push strict.after [] before m))
    (subst (λ (s : Standing). State (strict.after (strict.outstanding before) m) s.commands)
    (sym (fold_push wire.standing_after wire.standing_first before m)) more))

pub lenient : (credits : Option ℕ) (h : History) → strict.AreRight credits h → strict.AreStated h
    → wire.AreRight credits h
lenient credits h r d i l =
    let before = take i h in
    (step credits (wire.timeout before) (strict.outstanding before) (wire.outstanding before)
    (wire.told before) (wire.controller before) (moment_at h i)
    (states credits h r d i (omega (arith, l)))
    (r i l) (d i l)).0
