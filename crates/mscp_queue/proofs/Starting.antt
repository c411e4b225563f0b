-- The places that may start, found one after the other.
use Rattle.mscp_queue.proofs.Basics.{append-nil, ◌≡◌, inl, inr, ℕ, zero, suc, ◌+◌, ◌-◌, ◌<◌, ◌≤◌, Bool, true, false, cond, not, ◌&&◌, List, [], ◌∷◌, ◌++◌, map, take, get_or, length, refl, ap, sym, ◌∙◌, arith, All, filter, nat_eq, nat_le, AllByRecursion, list_all, range_with_len, eq-eqb, le-leb, leb-true, lt-leb, true≢false, get_or-map, get_or-drop, get_or-take, length-append, length-drop, length-map, length-range_with_len, length-take-le, map-append, take-map, All-from_recursion, All-take, filter-append, recursion_from_All, Shape, one_block, Target, Drive, Choice, target_of, targets_of, no_target, unit_place, fresh_drive, ArePassedInOrder, CanBeShown, IsPick, IsShut, is_known, units_of, Kind, keeps_back, is_sequential, Record, drive_at, no_record, record_at, is_unfenced_at, kinds_of, no_kind, choice_of, choices_at, is_affordable, is_free, is_open_at, open_places, place_same, apart_by_place, every_kept, every_weaker, fewer, range_below, range_more, all_shown}
use Rattle.mscp_queue.specs.Views.{fences}

-- ---- who is free
all_on : {X : Type 0} (p q : X → Bool) (xs : List X) → AllByRecursion (λ x. p x ≡ q x) xs
    → list_all p xs ≡ list_all q xs
all_on p q [] h = refl
all_on p q (x ∷ xs) h = ap (λ b. b && list_all p xs) h.0 ∙ ap (λ b. q x && b) (all_on p q xs h.1)

-- what masks tell of a record
abbrev pub kind_in : List Shape → Record → Kind
kind_in us r = record {
  drive = unit_place us r.command.unit;
  sequential = is_sequential r.command.order;
}

pub kinds_targeted : (us : List Shape) (rs : List Record) → kinds_of rs (targets_of us rs) ≡ map (kind_in us) rs
kinds_targeted us [] = refl
kinds_targeted us (r ∷ rs) = ap (λ ks. kind_in us r ∷ ks) (kinds_targeted us rs)

same_unit : (ds : List Drive) (a b : ℕ) → is_known (units_of ds) a ≡ true → is_known (units_of ds) b ≡ true
    → nat_eq (unit_place (units_of ds) a) (unit_place (units_of ds) b) ≡ nat_eq a b
same_unit ds a b h k =
    search (arith, place_same ds a, place_same ds b, apart_by_place ds (fresh_drive one_block) a b h k)

pub free_is : (ds : List Drive) (rs : List Record) (own : List Target) (place : ℕ) → CanBeShown ds rs own
    → place < length rs → is_unfenced_at (kinds_of rs own) place ≡ is_free (record_at rs place) (take place rs)
free_is ds rs own place h l =
    let us = units_of ds in
    let k = kind_in us in
    let r = record_at rs place in
    let Known : Record → Type 0 = λ z. is_known us z.command.unit ≡ true in
    let known : All Known rs = λ i other m. (h.inside i other m).0 in
    let same : (z : Record) → Known z → not (keeps_back (k z) (k r)) ≡ not (fences r z) = grind (arith, same_unit) in
    ap (λ ks. is_unfenced_at ks place) (ap (kinds_of rs) h.targeted ∙ kinds_targeted us rs)
    ∙ ((λ i. list_all (λ z. not (keeps_back z (get_or-map k rs place no_record no_kind l i))) (take-map k place rs i))
    ∙ (all_shown (λ z. not (keeps_back z (k r))) k (take place rs) ∙ all_on (λ z. not (keeps_back (k z) (k r)))
    (λ z. not (fences r z)) (take place rs) (every_weaker Known (λ z. not (keeps_back (k z) (k r)) ≡ not (fences r z))
    same (take place rs) (recursion_from_All Known (take place rs) (All-take Known place rs known)))))

-- ---- the oldest tells for all who keeps within the budget
affords : (budget w top : ℕ) (rs : List Record) → AllByRecursion (λ z. z.passed ≤ top) rs → top + w ≤ budget
    → list_all (λ z. nat_le (z.passed + w) budget) rs ≡ true
affords budget w top [] h l = refl
affords budget w top (z ∷ zs) h l = search (arith, affords budget w top zs h.1 l, le-leb)

pub oldest_affords : (budget unspent : ℕ) (r : Record) (rs : List Record) (place : ℕ) → ArePassedInOrder rs
    → 0 < place → place ≤ length rs → unspent + (record_at rs 0).passed ≡ budget
    → nat_le r.weight unspent ≡ is_affordable budget r (take place rs)
oldest_affords budget unspent r (q ∷ qs) (suc k) o p l e = by (nat_le r.weight unspent) refl
  where
    front : AllByRecursion (λ z. z.passed ≤ q.passed) (take k qs)
    front = let Low : Record → Type 0 = λ z. z.passed ≤ q.passed in
        recursion_from_All Low (take k qs) (All-take Low k qs (All-from_recursion Low qs o.0))

    by : (b : Bool) → nat_le r.weight unspent ≡ b
        → b ≡ (nat_le (q.passed + r.weight) budget && list_all (λ z. nat_le (z.passed + r.weight) budget) (take k qs))
    by true t =
        let fits : q.passed + r.weight ≤ budget = omega (arith, e, leb-true r.weight unspent t) in
        sym (ap (λ b. b && list_all (λ z. nat_le (z.passed + r.weight) budget) (take k qs))
        (le-leb (q.passed + r.weight) budget fits)
        ∙ affords budget r.weight q.passed (take k qs) front fits)
    by false t =
        let over : budget < q.passed + r.weight = omega (arith, e, over_of r.weight unspent t) in
        sym (ap (λ b. b && list_all (λ z. nat_le (z.passed + r.weight) budget) (take k qs))
        (lt-leb (q.passed + r.weight) budget over))
      where
        over_of : (a b : ℕ) → nat_le a b ≡ false → b < a
        over_of a b f = grind (arith, true≢false, le-leb)
oldest_affords budget unspent r rs place h5 h6 h7 h8 = grind arith

-- ---- places found one by one
-- what is known up to a place: which may start, and what a picker sees of those
pub record Looks (budget : ℕ) (ds : List Drive) (rs : List Record) (place : ℕ) (places : List ℕ)
    (choices : List Choice) :
    Type 0 where
  pub opens : places ≡ filter (is_open_at budget rs) (range_with_len 0 place)
  pub shown : choices ≡ choices_at ds rs places
  pub few : length places ≤ place

-- one more place, if it is put there
appended : (places : List ℕ) (place : ℕ) (b : Bool) → length (places ++ cond b (place ∷ []) []) ≤ length places + 1
appended places place b = grind (arith, length-append, append-nil)

pub looks_more : {budget : ℕ} {ds : List Drive} {rs : List Record} {place : ℕ} {places places' : List ℕ}
    {choices choices' : List Choice} (b : Bool) → b ≡ is_open_at budget rs place → places' ≡ places ++ cond
    b (place ∷ []) [] → choices' ≡ choices ++ cond b (choice_of (drive_at ds rs place) (record_at rs place) ∷ []) []
    → Looks budget ds rs place places choices → Looks budget ds rs (place + 1) places' choices'
looks_more b is put shown h = grind (arith, filter-append, range_more, appended, map-append, append-nil)

pub looks_none : (budget : ℕ) (ds : List Drive) (rs : List Record) (places : List ℕ)
    (choices : List Choice) → places ≡ [] → choices ≡ [] → Looks budget ds rs 0 places choices
looks_none budget ds rs places choices n s = search arith

-- ---- nobody behind may start
one_shut : {X : Type 0} (p : X → Bool) (xs : List X) (k : ℕ) (d : X) → k < length xs → p (get_or xs k d) ≡ false
    → list_all p xs ≡ false
one_shut p (x ∷ xs) (suc k) d l e = search (arith, one_shut p xs k d (omega (arith, l)) e)
one_shut p xs k d h4 h5 = search arith

pub shut_is : (budget unspent : ℕ) (ds : List Drive) (rs : List Record) (own : List Target) (place : ℕ)
    → CanBeShown ds rs own → ArePassedInOrder rs → unspent + (record_at rs 0).passed ≡ budget → place < length rs
    → IsShut rs own place unspent → (q : ℕ) → place < q → q < length rs → is_open_at budget rs q ≡ false
shut_is budget unspent ds rs own place h o e l (inl spent) q p m =
    let r = record_at rs q in
    let some = (h.weighs q no_record m).0 in
    let over : nat_le r.weight unspent ≡ false = lt-leb r.weight unspent (omega (arith, some, spent)) in
    search (arith, oldest_affords budget unspent r rs q o (omega (arith, p)) (omega (arith, m)) e)
shut_is budget unspent ds rs own place h o e l (inr fence) q p m =
    let us = units_of ds in
    let r = record_at rs q in
    let z = record_at rs place in
    let of : Record → Target = λ r. target_of us r.command in
    let targeted : (k : ℕ) → k < length rs → get_or own k no_target ≡ of (record_at rs k) = grind (arith, get_or-map) in
    let long : length own ≡ length rs = ap length h.targeted ∙ length-map rs of in
    let k = q - (place + 1) in
    let at : place + 1 + k ≡ q = omega (arith, p) in
    let behind = fence.1 k no_target (omega (arith, length-drop (place + 1) own, long, m, p)) in
    let drives : unit_place us r.command.unit ≡ unit_place us z.command.unit = grind (arith, get_or-drop) in
    let units : nat_eq z.command.unit r.command.unit ≡ true =
    sym (same_unit ds z.command.unit r.command.unit (h.inside place no_record l).0 (h.inside q no_record m).0)
    ∙ eq-eqb (unit_place us z.command.unit) (unit_place us r.command.unit) (sym drives) in
    let fenced : not (fences r z) ≡ false = search (arith, not) in
    let there : record_at (take q rs) place ≡ z = get_or-take q rs place no_record p in
    search (arith, length-take-le q rs (omega (arith, m)), one_shut, not)

-- so all that may start were found
found_on : (test : ℕ → Bool) (n k : ℕ) → ((q : ℕ) → n ≤ q → q < n + k → test q ≡ false)
    → filter test (range_with_len 0 n) ≡ filter test (range_with_len 0 (n + k))
found_on test n zero h = ap (λ m. filter test (range_with_len 0 m)) (omega arith)
found_on test n (suc k) h =
    let one : n + 1 + k ≡ n + suc k = omega arith in
    let here : filter test (n ∷ []) ≡ [] = ap (λ b. cond b (n ∷ []) []) (h n (omega arith) (omega arith)) in
    sym (append-nil (filter test (range_with_len 0 n))) ∙ (ap (λ ps. filter test (range_with_len 0 n) ++ ps) (sym here)
    ∙ (sym (filter-append test (range_with_len 0 n) (n ∷ [])) ∙ (ap (filter test) (sym (range_more n)) ∙ (found_on test
    (n + 1) k (λ q a b. h q (omega (arith, a)) (omega (arith, b))) ∙ ap (λ m. filter test (range_with_len 0 m)) one))))

pub found_all : {budget : ℕ} {ds : List Drive} {rs : List Record} {place : ℕ} {places : List ℕ} {choices : List Choice}
    → Looks budget ds rs (place + 1) places choices → place < length rs
    → ((q : ℕ) → place < q → q < length rs → is_open_at budget rs q ≡ false) → places ≡ open_places budget rs
found_all {budget} {ds} {rs} {place} {places} {choices} h l shut =
    let n : place + 1 + (length rs - (place + 1)) ≡ length rs = omega (arith, l) in
    search (arith, found_on)

-- the places that may start are places
pub places_inside : (budget : ℕ) (rs : List Record) → All (λ place. place < length rs) (open_places budget rs)
places_inside budget rs = All-from_recursion (λ k. k < length rs) (open_places budget rs) (every_kept (λ k. k
    < length rs) (is_open_at budget rs) (range_with_len 0 (length rs)) (every_weaker (λ k. (0 ≤ k) × (k < 0 + length
    rs)) (λ k. k < length rs) (λ k h. omega arith) (range_with_len 0 (length rs)) (range_below 0 (length rs))))

-- where something waits, something may start: the oldest may
pub some_place : (budget : ℕ) (rs : List Record) → 0 < length rs → 0 < length (open_places budget rs)
some_place budget rs h2 = grind arith

first_place : (budget : ℕ) (rs : List Record) → 0 < length rs → get_or (open_places budget rs) 0 0 ≡ 0
first_place budget rs h2 = grind arith

few_places : (budget : ℕ) (rs : List Record) → length (open_places budget rs) ≤ length rs
few_places budget rs = search (arith, fewer, length-range_with_len)

-- so the oldest may be picked, if the first place of any view may
pub first_picked : (picks : List Choice → ℕ → Type 0) (budget : ℕ) (ds : List Drive) (rs : List Record) → 0 < length rs
    → ((view : List Choice) → 0 < length view → length view ≤ length rs → picks view 0) → IsPick picks budget ds rs 0
first_picked picks budget ds rs some first = grind (arith, length-map, some_place, few_places, first_place)
