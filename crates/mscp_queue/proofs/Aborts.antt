-- A command that is aborted is taken out of those that wait, and no other.
use Rattle.mscp_queue.proofs.Basics.{◌≡◌, ◌≢◌, ⊎_elim, ℕ, ◌+◌, ◌<◌, ◌≤◌, Bool, true, false, cond, not, List, [], ◌∷◌, ◌++◌, length, ap, sym, ◌∙◌, arith, filter, find, option_to_list, remove, slice_index_or, is_some, if◌then◌else◌, IfSome, Option, Some, None, AllByRecursion, position, false≢true, true≢false, get_or_at, length-append, map-append, All-from_recursion, filter-append, recursion_from_All, Drive, AreApart, IsHeld, IsKept, IsStillServable, names, units_of, Name, begun_without, is_begun, Record, has_name, is_in_service, name_of, record_at, without, still_aborted, still_begun, every_kept, every_weaker, fewer, filter_all, filter_none, filter_one, is_differ, same_is, removed_at, Found, find_cases, find_first, find_none, position_first, position_none}

-- ---- names that stand once
apart_behind : (A : List Name) (x : Name) (B : List Name) → AreApart (A ++ x ∷ B) → AllByRecursion (λ y. y ≢ x) B
apart_behind [] x B h = h.0
apart_behind (y ∷ ys) x B h = apart_behind ys x B h.1

others : (gone : Name) (rs : List Record) → AllByRecursion (λ y. y ≢ gone) (names rs)
    → AllByRecursion (λ r. has_name gone r ≡ false) rs
others gone [] h = tt
others gone (r ∷ rs) h = (is_differ (name_of r) gone h.0, others gone rs h.1)

-- the records where one of them has the name
pub record Cut (gone : Name) (rs A : List Record) (r : Record) (B : List Record) : Type 0 where
  pub is : rs ≡ A ++ r ∷ B
  pub own : has_name gone r ≡ true
  pub before : AllByRecursion (λ z. has_name gone z ≡ false) A
  pub behind : AllByRecursion (λ z. has_name gone z ≡ false) B

cut_by : (gone : Name) (rs A : List Record) (r : Record) (B : List Record) → AreApart (names rs)
    → Found (has_name gone) rs A r B → Cut gone rs A r B
cut_by gone rs A r B apart f =
    search (arith, map-append name_of A (r ∷ B), same_is (name_of r) gone f.passed, others, apart_behind)

-- ---- the one that is found
-- what is taken out where a record is found at a place
pub record Aborts (gone : Name) (rs : List Record) (place : ℕ) : Type 0 where
  pub inside : place < length rs
  pub found : find (has_name gone) rs ≡ Some (record_at rs place)
  pub left : remove rs place ≡ without gone rs
  pub count : length (without gone rs) + 1 ≡ length rs

pub aborts_at : (gone : Name) (rs : List Record) (place : ℕ)
    → AreApart (names rs) → position (has_name gone) rs ≡ Some place → Aborts gone rs place
aborts_at gone rs place apart h = grind (
  arith,
  false≢true,
  position_none,
  cut_by,
  position_first,
  get_or_at,
  length-append,
  find_first,
  removed_at,
  find_cases,
  filter_all,
  every_weaker,
  filter-append,
)

-- the others are left where one is found
pub others_left : (gone : Name) (rs : List Record) (o : Option ℕ) → AreApart (names rs)
    → o ≡ position (has_name gone) rs → IfSome o (λ place. remove rs place ≡ without gone rs)
others_left gone rs None apart e = tt
others_left gone rs (Some place) apart e = (aborts_at gone rs place apart (sym e)).left

-- nothing is taken out where none is found
pub record AbortsNone (gone : Name) (rs : List Record) : Type 0 where
  pub found : find (has_name gone) rs ≡ None
  pub left : without gone rs ≡ rs

pub aborts_none : (gone : Name) (rs : List Record) → position (has_name gone) rs ≡ None → AbortsNone gone rs
aborts_none gone rs h = search
    (arith, find_cases (has_name gone) rs, ⊎_elim, find_none, filter_all, not, every_weaker, true≢false, position_first)

-- the records that have the name are the one that is found
pub found_once : (gone : Name) (rs : List Record) → AreApart (names rs)
    → filter (has_name gone) rs ≡ option_to_list (find (has_name gone) rs)
found_once gone rs apart = search (arith, ⊎_elim, filter_none, find_none, cut_by, filter_one, find_first, find_cases)

-- none passes a test where none is found
missing : (p : Record → Bool) (rs : List Record) (place : ℕ) (d : Record) → find p rs ≡ None → place < length rs
    → p (slice_index_or rs place d) ≡ false
missing p rs place d h l =
    ⊎_elim (λ none. All-from_recursion (λ r. p r ≡ false) rs none place d l)
    (λ some. let f = some.3 in absurd (true≢false (ap is_some
    (sym (find_first p some.0 some.1 some.2 f.before f.passed) ∙ (ap (find p) (sym f.is) ∙ h))))) (find_cases p rs)

-- ---- what is true of each queue stays true
names_kept : (p : Record → Bool) (P : Name → Type 0) (rs : List Record) → AllByRecursion P (names rs)
    → AllByRecursion P (names (filter p rs))
names_kept p P [] h = tt
names_kept p P (r ∷ rs) h = search (arith, names_kept p P rs h.1)

apart_kept : (p : Record → Bool) (rs : List Record) → AreApart (names rs) → AreApart (names (filter p rs))
apart_kept p [] h = tt
apart_kept p (r ∷ rs) h =
    let rest = apart_kept p rs h.1 in
    elim (p r) as (λ b. AreApart (names (cond b (r ∷ filter p rs) (filter p rs))))
    [ true ↦ (names_kept p (λ y. y ≢ name_of r) rs h.0, rest) | false ↦ rest ]

fewer_of : {X : Type 0} (p q : X → Bool) (xs : List X) → length (filter p (filter q xs)) ≤ length (filter p xs)
fewer_of p q [] = omega arith
fewer_of {X} p q (x ∷ xs) = search (arith, fewer_of p q xs)

pub held_aborted : (room budget longest : ℕ) (gone : Name) (rs new : List Record) (ds : List Drive)
    (begun : Option Name) (serving b : Bool) → is_begun gone begun ≡ b → IsHeld room budget longest rs ds begun serving
    → new ≡ without gone rs → IsHeld room budget longest new ds (if b then None else begun) serving
held_aborted room budget longest gone rs new ds begun serving b was h e =
    let keep : Record → Bool = λ z. not (has_name gone z) in
    let K = IsKept budget longest (units_of ds) in
    let left = begun_without gone begun in
    let all : IsHeld room budget longest (without gone rs) ds left serving = record {
      some_room = h.some_room;
      few = h.few;
      some_blocks = h.some_blocks;
      short = h.short;
      small = h.small;
      fits = let f = h.fits in omega (arith, fewer keep rs);
      each = All-from_recursion K (without gone rs) (every_kept K keep rs (recursion_from_All K rs h.each));
      apart = apart_kept keep rs h.apart;
      one = let o = h.one in omega (arith, fewer_of is_in_service keep rs);
      idle = λ e. All-from_recursion (λ z. z.done ≡ 0) (without gone rs)
          (every_kept (λ z. z.done ≡ 0) keep rs (recursion_from_All (λ z. z.done ≡ 0) rs (h.idle e)));
      units = h.units;
      heads = h.heads;
      still = search (arith, still_begun, still_aborted);
    } in
    search arith

-- where nothing is aborted, what was begun stays
pub none_aborted : (budget : ℕ) (gone : Name) (rs : List Record) (begun : Option Name) → ((name : Name) → begun
    ≡ Some name → IsStillServable budget rs name) → find (has_name gone) rs ≡ None → begun ≡ begun_without gone begun
none_aborted budget gone rs begun h4 h5 = grind (arith, same_is, true≢false, missing)
