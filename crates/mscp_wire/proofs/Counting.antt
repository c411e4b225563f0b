-- How one moment more changes the totals.
use Rattle.mscp_wire.proofs.Common.{Bool, Falls, History, List, Moment, None, Option, Reset, Some, Totals, [], ap, arith, cases_lt, code_told, cond, count_by, counted_at, counts_of, fall, fall_after, falls_of, false, get_or, get_or-append, get_or-append_right, greatest, is_it, least, length, length-append, lesser, longest, max, nat_eq, nat_tests, opcode_sent, outstanding, refl, replicate, set, set-append_left, set-append_right, set_past, suc, sum_by-append, sym, take, take-append-le, tally, totals_of, zero, ℕ, ⊎_elim, ◌++◌, ◌+◌, ◌-◌, ◌<◌, ◌∙◌, ◌∷◌, ◌≡◌, ◌≤◌}
use Rattle.std.proofs.lemmas.List.{take_all}

-- ---- tallies
length_tally : (number : Moment → Option ℕ) (n : ℕ) (h : History) → length (tally number n h) ≡ n
unfolding tally
length_tally number zero h = refl
length_tally number (suc n) h =
    omega (arith, length-append (tally number n h) (count_by (λ m. is_it (number m) n) h ∷ []), length_tally number n h)

count_more : (p : Moment → Bool) (h : History) (m : Moment)
    → count_by p (h ++ m ∷ []) ≡ count_by p h + cond (p m) 1 0
count_more p h m = omega (arith, sum_by-append (λ x. cond (p x) 1 0) h (m ∷ []))

-- a moment that has no number
tally_still : (number : Moment → Option ℕ) (n : ℕ) (h : History) (m : Moment) → number m ≡ None
    → tally number n (h ++ m ∷ []) ≡ tally number n h
unfolding tally
tally_still number zero h m e = refl
tally_still number (suc n) h m e =
    let p : Moment → Bool = λ o. is_it (number o) n in
    ap (λ xs. xs ++ count_by p (h ++ m ∷ []) ∷ []) (tally_still number n h m e)
    ∙ ap (λ x. tally number n h ++ x ∷ [])
    (count_more p h m ∙ ap (λ o. count_by p h + cond (is_it o n) 1 0) e ∙ omega arith)

-- one more at a place of a list, or at that behind its end
last_set : (xs : List ℕ) (d x y : ℕ) → y ≡ x + cond (nat_eq d 0) 1 0
    → xs ++ y ∷ [] ≡ xs ++ set (x ∷ []) d (get_or (x ∷ []) d 0 + 1)
last_set xs zero x y h = ap (λ z. xs ++ z ∷ []) h
last_set xs (suc d) x y h = ap (λ z. xs ++ z ∷ []) (h ∙ ap (λ b. x + cond b 1 0) (above d) ∙ omega arith)
  where
    above : (d : ℕ) → nat_eq (suc d) 0 ≡ false
    above d = grind (arith, nat_tests)

push_set : (xs : List ℕ) (n place x y : ℕ) → length xs ≡ n → y ≡ x + cond (nat_eq place n) 1 0
    → set xs place (get_or xs place 0 + 1) ++ y ∷ []
    ≡ set (xs ++ x ∷ []) place (get_or (xs ++ x ∷ []) place 0 + 1)
push_set xs n place x y len h = ⊎_elim
    (λ low.
    let l : place < length xs = omega (arith, low, len) in
    let e : y ≡ x = h ∙ ap (λ b. x + cond b 1 0) (differ place n low) ∙ omega arith in
    rw (get_or-append xs (x ∷ []) 0 place l, set-append_left xs (x ∷ []) place (get_or xs place 0 + 1) l, e))
    (λ high.
    let past : length xs ≤ place = omega (arith, high, len) in
    ap (λ zs. zs ++ y ∷ []) (set_past xs place (get_or xs place 0 + 1) past)
    ∙ last_set xs (place - n) x y (h ∙ ap (λ b. x + cond b 1 0) (same place n high))
    ∙ ap (λ v. xs ++ set (x ∷ []) (place - n) (v + 1)) (sym (get_or-append_right xs (x ∷ []) n place 0 len high))
    ∙ sym (set-append_right xs (x ∷ []) n place (get_or (xs ++ x ∷ []) place 0 + 1) len high))
    (cases_lt place n)
  where
    differ : (a b : ℕ) → a < b → nat_eq a b ≡ false
    differ a b l = grind (arith, nat_tests)

    same : (a b : ℕ) → b ≤ a → nat_eq a b ≡ nat_eq (a - b) 0
    same a b l = grind (arith, nat_tests)

-- a moment that has this one
tally_once : (number : Moment → Option ℕ) (n : ℕ) (h : History) (m : Moment) (place : ℕ) → number m ≡ Some place
    → tally number n (h ++ m ∷ []) ≡ set (tally number n h) place (get_or (tally number n h) place 0 + 1)
unfolding tally
tally_once number zero h m place e = refl
tally_once number (suc n) h m place e =
    let p : Moment → Bool = λ o. is_it (number o) n in
    ap (λ xs. xs ++ count_by p (h ++ m ∷ []) ∷ []) (tally_once number n h m place e)
    ∙ push_set (tally number n h) n place (count_by p h) (count_by p (h ++ m ∷ [])) (length_tally number n h)
    (count_more p h m ∙ ap (λ o. count_by p h + cond (is_it o n) 1 0) e)

-- one moment more
tally_more : (number : Moment → Option ℕ) (n : ℕ) (h : History) (m : Moment)
    → tally number n (h ++ m ∷ []) ≡ counted_at (tally number n h) (number m)
tally_more number n h m =
    elim (number m) as (λ o. number m ≡ o → tally number n (h ++ m ∷ []) ≡ counted_at (tally number n h) o) [
      | None ↦ λ e. tally_still number n h m e
      | Some place ↦ λ e. tally_once number n h m place e
    ] refl

-- no moment
zeros : (n z : ℕ) → replicate n z ++ z ∷ [] ≡ replicate (suc n) z
zeros zero z = refl
zeros (suc n) z = ap (λ xs. z ∷ xs) (zeros n z)

pub tally_none : (number : Moment → Option ℕ) (n : ℕ) → tally number n [] ≡ replicate {A = ℕ} n 0
unfolding tally
tally_none number zero = refl
tally_none number (suc n) = ap (λ xs. xs ++ 0 ∷ []) (tally_none number n) ∙ zeros n 0

pub zero_at : (n k z : ℕ) → get_or (replicate n z) k z ≡ z
zero_at zero k z = refl
zero_at (suc n) zero z = refl
zero_at (suc n) (suc k) z = zero_at n k z

-- ---- the longest queue
greatest_same : (f g : ℕ → ℕ) (n : ℕ) → ((i : ℕ) → i < n → f i ≡ g i) → greatest f n ≡ greatest g n
unfolding greatest
greatest_same f g zero h = refl
greatest_same f g (suc n) h =
    ap (λ x. max x (f n)) (greatest_same f g n (λ i l. h i (omega (arith, l))))
    ∙ ap (max (greatest g n)) (h n (omega arith))

longest_more : (h : History) (m : Moment)
    → longest (h ++ m ∷ []) ≡ max (longest h) (length (outstanding (h ++ m ∷ [])))
unfolding longest greatest
longest_more h m =
    let f : ℕ → ℕ = λ i. length (outstanding (take i h)) in
    let g : ℕ → ℕ = λ i. length (outstanding (take i (h ++ m ∷ []))) in
    let whole : length (h ++ m ∷ []) ≡ length h + 1 = length-append h (m ∷ []) in
    let size : length (h ++ m ∷ []) + 1 ≡ suc (length h + 1) = omega (arith, whole) in
    ap (greatest g) size
    ∙ ap (λ x. max x (g (length h + 1)))
    (greatest_same g f (length h + 1)
    (λ i l. ap (λ t. length (outstanding t)) (take-append-le i h (m ∷ []) (omega (arith, l)))))
    ∙ ap (λ t. max (greatest f (length h + 1)) (length (outstanding t)))
    (take_all (length h + 1) (h ++ m ∷ []) (omega (arith, whole)))

-- ---- falls
least_same : (f g : ℕ → ℕ) (n : ℕ) → ((i : ℕ) → i < n → f i ≡ g i) → least f n ≡ least g n
unfolding least
least_same f g zero h = refl
least_same f g (suc n) h =
    ap (λ x. lesser x (f n)) (least_same f g n (λ i l. h i (omega (arith, l))))
    ∙ ap (lesser (least g n)) (h n (omega arith))

-- those before a moment more are the same
fall_same : (h : History) (m : Moment) (i : ℕ) → i < length h → fall (h ++ m ∷ []) i ≡ fall h i
fall_same h m i l =
    ap (λ t. fall_after (outstanding t) (get_or (h ++ m ∷ []) i Reset)) (take-append-le i h (m ∷ []) (omega (arith, l)))
    ∙ ap (fall_after (outstanding (take i h))) (get_or-append h (m ∷ []) Reset i l)

-- that of the moment itself
fall_last : (h : History) (m : Moment) → fall (h ++ m ∷ []) (length h) ≡ fall_after (outstanding h) m
fall_last h m =
    let n : ℕ = length h in
    let none : n - n ≡ 0 = omega arith in
    ap (λ t. fall_after (outstanding t) (get_or (h ++ m ∷ []) n Reset))
    (take-append-le n h (m ∷ []) (omega arith) ∙ take_all n h (omega arith))
    ∙ ap (fall_after (outstanding h))
    (get_or-append_right h (m ∷ []) n n Reset refl (omega arith) ∙ ap (λ d. get_or (m ∷ []) d Reset) none)

same_falls : (a b : Falls) → a.least ≡ b.least → a.greatest ≡ b.greatest → a ≡ b
same_falls a b p q =
    ap (λ x. record { least = x; greatest = a.greatest }) p
    ∙ ap (λ x. record { least = b.least; greatest = x }) q

pub falls_more : (h : History) (m : Moment) (old new : Falls) (more : ℕ) → old ≡ falls_of h
    → more ≡ fall_after (outstanding h) m → new.least ≡ lesser old.least more → new.greatest ≡ max old.greatest more
    → new ≡ falls_of (h ++ m ∷ [])
unfolding least greatest
falls_more h m old new more e k lower higher =
    let n : ℕ = length h in
    let f : ℕ → ℕ = fall h in
    let g : ℕ → ℕ = fall (h ++ m ∷ []) in
    let size : length (h ++ m ∷ []) ≡ suc n = omega (arith, length-append h (m ∷ [])) in
    let last : more ≡ g n = k ∙ sym (fall_last h m) in
    let same : (i : ℕ) → i < n → f i ≡ g i = λ i l. sym (fall_same h m i l) in
    same_falls new (falls_of (h ++ m ∷ []))
    (lower ∙ ap (λ t. lesser t.least more) e ∙ ap (lesser (least f n)) last
    ∙ ap (λ x. lesser x (g n)) (least_same f g n same) ∙ ap (least g) (sym size))
    (higher ∙ ap (λ t. max t.greatest more) e ∙ ap (max (greatest f n)) last
    ∙ ap (λ x. max x (g n)) (greatest_same f g n same) ∙ ap (greatest g) (sym size))

-- ---- all of them
same_totals : (a b : Totals) → a.counts ≡ b.counts → a.commands ≡ b.commands → a.statuses ≡ b.statuses
    → a.queue ≡ b.queue → a.falls ≡ b.falls → a ≡ b
same_totals a b p q r s t =
    ap (λ x. record a { counts = x }) p
    ∙ ap (λ x. record a { counts = b.counts; commands = x }) q
    ∙ ap (λ x. record b { statuses = x; queue = a.queue; falls = a.falls }) r
    ∙ ap (λ x. record b { queue = x; falls = a.falls }) s
    ∙ ap (λ x. record b { falls = x }) t

pub totals_more : (h : History) (m : Moment) (old new : Totals) (queue : ℕ) → old ≡ totals_of h
    → queue ≡ length (outstanding (h ++ m ∷ [])) → new.counts ≡ counts_of (h ++ m ∷ [])
    → new.commands ≡ counted_at old.commands (opcode_sent m) → new.statuses ≡ counted_at old.statuses (code_told m)
    → new.queue ≡ max old.queue queue → new.falls ≡ falls_of (h ++ m ∷ []) → new ≡ totals_of (h ++ m ∷ [])
totals_more h m old new queue e k counts commands statuses longer falls =
    same_totals new (totals_of (h ++ m ∷ [])) counts
    (commands ∙ ap (λ t. counted_at t.commands (opcode_sent m)) e ∙ sym (tally_more opcode_sent 256 h m))
    (statuses ∙ ap (λ t. counted_at t.statuses (code_told m)) e ∙ sym (tally_more code_told 32 h m))
    (longer ∙ ap (λ t. max t.queue queue) e ∙ ap (max (longest h)) k ∙ sym (longest_more h m)) falls

-- of no moment
longest_none : longest [] ≡ 0
unfolding longest greatest
longest_none = refl

falls_none : (none : Falls) → none.least ≡ 0 → none.greatest ≡ 0 → none ≡ falls_of []
unfolding least greatest
falls_none none p q = same_falls none (falls_of []) p q

pub totals_none : (none : Totals) → none.counts ≡ counts_of [] → none.commands ≡ replicate {A = ℕ} 256 0
    → none.statuses ≡ replicate {A = ℕ} 32 0 → none.queue ≡ 0 → none.falls.least ≡ 0 → none.falls.greatest ≡ 0
    → none ≡ totals_of []
totals_none none p q r s t u =
    same_totals none (totals_of []) p (q ∙ sym (tally_none opcode_sent 256)) (r ∙ sym (tally_none code_told 32))
    (s ∙ sym longest_none) (falls_none none.falls t u)
