-- Which record is served next: what was begun, or else that in service, or else one that may be picked.
use Rattle.mscp_queue.proofs.Basics.{◌≡◌, ◌≢◌, ⊎_elim, ◌⊎◌, inl, inr, ℕ, zero, suc, ◌+◌, ◌-◌, ◌<◌, ◌≤◌, Bool, true, false, List, [], ◌∷◌, ◌++◌, take, drop, length, refl, ap, sym, ◌∙◌, subst, arith, All, IfSome, filter, if◌then◌else◌, is_some, nat_lt, unwrap_or, Option, Some, None, AllByRecursion, position, get_or_append_left, get_or-append_right, get_or_at, get_or-drop, get_or-take, length-append, length-drop, length-take-le, All-from_recursion, recursion_from_All, eq-eqb, eqb-true, false≢true, lt-ltb, ltb-false, ltb-true, true≢false, Drive, Choice, AreApart, IsHeld, IsStillServable, begun_name, names, place_without, Name, same_name, Record, IsAlone, has_name, is_in_service, is_unstarted, name_of, no_record, record_at, without, IsNext, IsServable, begun_without, place_begun, IsPick, picked_opens, is_differ, is_same, same_is, every_append, every_parts, every_weaker, cut_at, find_cases, position_first, position_none, others_idle}
use Rattle.mscp_queue.proofs.Aborts.{aborts_at, held_aborted}

-- the place of the first record that passes a test
found_at : (p : Record → Bool) (rs : List Record) (place : ℕ) → position p rs ≡ Some place
    → (place < length rs) × (p (record_at rs place) ≡ true)
found_at p rs place h =
    search (arith, find_cases p rs, ⊎_elim, false≢true, position_none, position_first, length-append, get_or_at)

none_begun : (begun : Option Name) (name : Name) → begun ≡ None → begun ≡ Some name → ⊥
none_begun begun name n e = true≢false (ap is_some (sym e ∙ n))

some_is : (x y : Name) → Some x ≡ Some y → x ≡ y
some_is x y e = ap (λ o. unwrap_or o x) e

others_differ : (name : Name) (rs : List Record) (i : ℕ) → AllByRecursion (λ y. y ≢ name) (names rs) → i < length rs
    → name_of (record_at rs i) ≢ name
others_differ name (r ∷ rs) (suc i) h l = others_differ name rs i h.1 (omega (arith, l))
others_differ name rs i h3 h4 = grind arith

not_unstarted : (r : Record) → is_in_service r ≡ true → is_unstarted r ≡ true → r.done < r.done
not_unstarted r h e = let a = ltb-true 0 r.done h in let b = eqb-true r.done 0 e in omega arith

-- where none is, all are idle
none_serving : (rs : List Record) → position is_in_service rs ≡ None → All (λ r. r.done ≡ 0) rs
none_serving rs h =
    ⊎_elim
    (λ none. All-from_recursion (λ r. r.done ≡ 0) rs
    (every_weaker (λ r. is_in_service r ≡ false) (λ r. r.done ≡ 0)
    (λ r e. let z = ltb-false 0 r.done e in omega arith) rs none))
    (λ some.
    let f = some.3 in
    absurd (true≢false (ap is_some (sym (position_first is_in_service some.0 some.1 some.2 f.before f.passed)
    ∙ (ap (position is_in_service) (sym f.is) ∙ h)))))
    (find_cases is_in_service rs)

-- where none is, the record that is picked is
pub picked_next : (picks : List Choice → ℕ → Type 0) (budget : ℕ) (ds : List Drive) (rs : List Record)
    (begun : Option Name) (place : ℕ) → begun ≡ None → position is_in_service rs ≡ None → place < length rs
    → IsPick picks budget ds rs place → IsNext picks budget ds rs begun place
picked_next picks budget ds rs begun place n h l p =
    search (arith, none_serving rs h, picked_opens picks budget ds rs place p, none_begun)

-- ---- what was begun
-- a name stands at one place
once : (rs : List Record) (i j : ℕ) → AreApart (names rs) → i < length rs → j < length rs
    → name_of (record_at rs i) ≡ name_of (record_at rs j) → i ≡ j
once [] i j a k l e = absurd (omega (arith, k))
once (r ∷ rs) zero zero a k l e = refl
once (r ∷ rs) zero (suc j) a k l e = absurd (others_differ (name_of r) rs j a.0 (omega (arith, l)) (sym e))
once (r ∷ rs) (suc i) zero a k l e = absurd (others_differ (name_of r) rs i a.0 (omega (arith, k)) e)
once (r ∷ rs) (suc i) (suc j) a k l e = ap suc (once rs i j a.1 (omega (arith, k)) (omega (arith, l)) e)

-- what is found has the name
pub named_at : (name : Name) (rs : List Record) (place : ℕ) → position (has_name name) rs ≡ Some place
    → name_of (record_at rs place) ≡ name
named_at name rs place h = same_is (name_of (record_at rs place)) name (found_at (has_name name) rs place h).1

-- so it is found there
pub name_found : (rs : List Record) (name : Name) (place : ℕ) (o : Option ℕ) → AreApart (names rs) → place < length rs
    → name_of (record_at rs place) ≡ name → o ≡ position (has_name name) rs → o ≡ Some place
name_found rs name place None a l e h =
    ⊎_elim
    (λ none. absurd (true≢false (sym (is_same (name_of (record_at rs place)) name e)
    ∙ All-from_recursion (λ r. has_name name r ≡ false) rs none place no_record l)))
    (λ some. let f = some.3 in absurd (true≢false (ap is_some
    (sym (position_first (has_name name) some.0 some.1 some.2 f.before f.passed)
    ∙ (ap (position (has_name name)) (sym f.is) ∙ sym h)))))
    (find_cases (has_name name) rs)
name_found rs name place (Some other) a l e h = search (arith, found_at (has_name name) rs other (sym h), once, same_is)

-- the place that is known of what was begun is where its name stands, and there alone
pub known_place : (rs : List Record) (begun : Option ℕ) → AreApart (names rs)
    → ((place : ℕ) → begun ≡ Some place → place < length rs) → begun ≡ place_begun rs (begun_name rs begun)
known_place rs h2 a l = grind (arith, name_found)

pub known_alone : (rs : List Record) (begun : Option ℕ) → AreApart (names rs)
    → ((place : ℕ) → begun ≡ Some place → place < length rs) → IfSome begun (IsAlone rs)
known_alone rs h2 a l = grind (arith, once)

-- the record at the place that is known of what was begun is next
pub known_next : (picks : List Choice → ℕ → Type 0) (budget : ℕ) (ds : List Drive) (rs : List Record) (place : ℕ)
    → AreApart (names rs) → place < length rs → IsStillServable budget rs (name_of (record_at rs place))
    → IsNext picks budget ds rs (Some (name_of (record_at rs place))) place
known_next picks budget ds rs place a l s = search (arith, name_found, found_at, same_is, once, some_is, none_begun)

-- the place of the one in service
pub serving_found : (rs : List Record) (place : ℕ) → length (filter is_in_service rs) ≤ 1
    → place < length rs → is_in_service (record_at rs place) ≡ true → position is_in_service rs ≡ Some place
serving_found rs place one l h = search (
  arith,
  cut_at no_record rs place l,
  length-take-le place rs (omega (arith, l)),
  others_idle,
  ltb-true,
  position_first,
  every_weaker,
)

zero_or : (n : ℕ) → (n ≡ 0) ⊎ (0 < n)
zero_or n = grind arith

-- the one in service is next, whatever was begun: nothing else was
pub serving_is_next : (picks : List Choice → ℕ → Type 0)
    (budget : ℕ) (ds : List Drive) (rs : List Record) (begun : Option Name) (place : ℕ)
    → length (filter is_in_service rs) ≤ 1 → place < length rs → is_in_service (record_at rs place) ≡ true
    → ((name : Name) → begun ≡ Some name → IsStillServable budget rs name) → IsNext picks budget ds rs begun place
serving_is_next picks budget ds rs begun place one l h still =
    record {
      servable = search (arith, not_unstarted);
      same = grind (arith, here, zero_or);
      picked = λ b e. absurd (omega (arith, not_unstarted (record_at rs place) h e));
    }
  where
    here : (k : ℕ) → IsServable budget rs k → ((record_at rs k).done ≡ 0) ⊎ (0 < (record_at rs k).done) → k ≡ place
    here k s (inl e) = grind (arith, eq-eqb, ltb-true)
    here k s (inr some) =
        ap (λ o. unwrap_or o place) (sym (serving_found rs k one s.inside (lt-ltb 0 (record_at rs k).done some))
        ∙ serving_found rs place one l h)

-- where nobody is in service, all are idle, and so none is found
pub nobody_found : (rs : List Record) (serving : Option ℕ)
    → serving ≡ None → (is_some serving ≡ false → All (λ r. r.done ≡ 0) rs) → position is_in_service rs ≡ None
nobody_found rs serving e h = search (arith, position_none, every_weaker, recursion_from_All)

-- ---- a place that is known, once a command left
-- the record at such a place is the same
pub moved : (rs : List Record) (gone place k : ℕ) → gone < length rs → place < length rs
    → place_without (Some place) gone ≡ Some k → (place ≢ gone) × (k < length (take gone rs ++ drop (gone + 1) rs))
    × (record_at (take gone rs ++ drop (gone + 1) rs) k ≡ record_at rs place)
moved rs gone place k l m h = grind (
  arith,
  length-take-le,
  ltb-true,
  length-append,
  get_or_append_left,
  get_or-take,
  length-drop,
  get_or-append_right,
  get_or-drop,
  false≢true,
)

pub waits_without : (rs new : List Record) (known : Option ℕ) (gone : ℕ) → gone < length rs
    → new ≡ take gone rs ++ drop (gone + 1) rs → ((place : ℕ) → known ≡ Some place → place < length rs)
    → (k : ℕ) → place_without known gone ≡ Some k → k < length new
waits_without rs new None gone l e h k s = absurd (false≢true (ap is_some s))
waits_without rs new (Some place) gone l e h k s = search (arith, moved rs gone place k l (h place refl) s)

pub served_without : (rs new : List Record) (known : Option ℕ) (gone : ℕ)
    → gone < length rs → new ≡ take gone rs ++ drop (gone + 1) rs
    → ((place : ℕ) → known ≡ Some place → (place < length rs) × (is_in_service (record_at rs place) ≡ true))
    → (k : ℕ) → place_without known gone ≡ Some k → (k < length new) × (is_in_service (record_at new k) ≡ true)
served_without rs new None gone l e h k s = absurd (false≢true (ap is_some s))
served_without rs new (Some place) gone l e h k s =
    let was = h place refl in
    let m = moved rs gone place k l was.0 s in
    subst (λ zs. (k < length zs) × (is_in_service (record_at zs k) ≡ true)) (sym e)
    (m.1, ap (λ (r : Record). is_in_service r) m.2 ∙ was.1)

-- what is begun then
pub begun_left : (rs new : List Record) (known : Option ℕ) (gone : ℕ) → AreApart (names rs) → gone < length rs
    → new ≡ take gone rs ++ drop (gone + 1) rs → ((place : ℕ) → known ≡ Some place → place < length rs)
    → begun_without (name_of (record_at rs gone)) (begun_name rs known) ≡ begun_name new (place_without known gone)
begun_left rs new None gone a l e h = refl
begun_left rs new (Some place) gone a l e h = by (place_without (Some place) gone) refl
  where
    name : Name
    name = name_of (record_at rs place)

    by : (o : Option ℕ) → place_without (Some place) gone ≡ o
        → (if same_name name (name_of (record_at rs gone)) then None else Some name) ≡ begun_name new o
    by (Some k) s =
        let m = moved rs gone place k l (h place refl) s in
        let differ : same_name name (name_of (record_at rs gone)) ≡ false = grind (arith, is_differ, name, once) in
        ap (λ b. if b then None else Some name) differ
        ∙ ap (λ (r : Record). Some (name_of r)) (sym (ap (λ zs. record_at zs k) e ∙ m.2))
    by None s =
        let here : place ≡ gone = where_gone (nat_lt place gone) (nat_lt gone place) refl refl s in
        ap (λ b. if b then None else Some name) (is_same name (name_of (record_at rs gone))
        (ap (λ k. name_of (record_at rs k)) here))
      where
        where_gone : (b c : Bool) → nat_lt place gone ≡ b → nat_lt gone place ≡ c
            → (if b then Some place else if c then Some (place - 1) else None) ≡ None → place ≡ gone
        where_gone h1 h2 p q e = grind (arith, true≢false, ltb-false)

-- one that is served waits for its next step, or none is
pub some_without : (rs new : List Record) (known : Option ℕ) (gone : ℕ) → gone < length rs → new ≡ take gone rs ++ drop
    (gone + 1) rs → length (filter is_in_service rs) ≤ 1 → ((place : ℕ) → known ≡ Some place → (place < length rs)
    × (is_in_service (record_at rs place) ≡ true)) → (is_some known ≡ false → All (λ r. r.done ≡ 0) rs)
    → is_some (place_without known gone) ≡ false → All (λ r. r.done ≡ 0) new
some_without rs new None gone l e one h idle s =
    let P : Record → Type 0 = λ r. r.done ≡ 0 in
    let parts = every_parts P (take gone rs) (record_at rs gone ∷ drop (gone + 1) rs)
    (subst (AllByRecursion P) (cut_at no_record rs gone l) (recursion_from_All P rs (idle refl))) in
    search (arith, P, parts, All-from_recursion, every_append)
some_without rs new (Some place) gone l e one h idle s = by (place_without (Some place) gone) refl s
  where
    P : Record → Type 0
    P r = r.done ≡ 0

    where_gone : (b c : Bool) → nat_lt place gone ≡ b → nat_lt gone place ≡ c
        → (if b then Some place else if c then Some (place - 1) else None) ≡ None → place ≡ gone
    where_gone h1 h2 p q e = grind (arith, true≢false, ltb-false)

    by : (o : Option ℕ) → place_without (Some place) gone ≡ o → is_some o ≡ false → All (λ r. r.done ≡ 0) new
    by (Some k) n f = absurd (true≢false f)
    by None n f =
        let here = where_gone (nat_lt place gone) (nat_lt gone place) refl refl n in
        let serves : is_in_service (record_at rs gone) ≡ true = grind (arith, here) in
        let others = others_idle (take gone rs) (record_at rs gone) (drop (gone + 1) rs)
        (subst (λ zs. length (filter is_in_service zs) ≤ 1) (cut_at no_record rs gone l) one)
        (ltb-true 0 (record_at rs gone).done serves) in
        subst (All (λ (r : Record). r.done ≡ 0)) (sym e)
        (All-from_recursion (λ (r : Record). r.done ≡ 0) (take gone rs ++ drop (gone + 1) rs)
        (every_append (λ (r : Record). r.done ≡ 0) (take gone rs) (drop (gone + 1) rs) others.0 others.1))

-- what is true of each queue stays true where the command at a place leaves
pub held_left : {room budget longest : ℕ} {rs new : List Record} {ds : List Drive} (gone : ℕ) (begun serving : Option ℕ)
    → IsHeld room budget longest rs ds (begun_name rs begun) (is_some serving) → gone < length rs → new ≡ take gone
    rs ++ drop (gone + 1) rs → ((place : ℕ) → serving ≡ Some place → (place < length rs) × (is_in_service (record_at rs
    place) ≡ true)) → ((place : ℕ) → begun ≡ Some place → place < length rs) → IsHeld room
    budget longest new ds (begun_name new (place_without begun gone)) (is_some (place_without serving gone))
held_left {room} {budget} {longest} {rs} {new} {ds} gone begun serving h l e served waits =
    let name = name_of (record_at rs gone) in
    let next : suc gone ≡ gone + 1 = omega arith in
    let is : new ≡ without name rs = e ∙ (ap (λ k. take gone rs ++ drop k rs) (sym next) ∙ (aborts_at name
    rs gone h.apart (name_found rs name gone (position (has_name name) rs) h.apart l refl refl)).left) in
    let all = held_aborted room budget longest name rs new ds (begun_name rs begun) (is_some serving) _ refl h is in
    let left = begun_left rs new begun gone h.apart l e waits in
    let whole : IsHeld room budget longest new ds (begun_without name (begun_name rs begun))
    (is_some (place_without serving gone)) = search (arith, some_without rs new serving gone l e h.one served h.idle) in
    subst (λ (o : Option Name). IsHeld room budget longest new ds o (is_some (place_without serving gone))) left whole
