-- What passes each test is sound.
use Rattle.mscp_saved.proofs.Common.{All, ◌≡◌, ◌≢◌, ℕ, ◌+◌, ◌<◌, ◌≤◌, Bool, true, false, ◌&&◌, ◌||◌, List, [], ◌∷◌, length, refl, ap, sym, subst, ◌∙◌, arith, filter, nat_eq, nat_le, nat_lt, not, if◌then◌else◌, Option, Some, None, AllByRecursion, list_all, position, and_parts, eqb-false, eqb-true, false≢true, leb-true, ltb-true, not-true, true≢false, All-from_recursion, position-Some, End, IsOfKind, IsUnitList, Drive, Connection, First, Second, Name, IsOnUnit, AreApart, ArePassedInOrder, IsKept, IsStillServable, IsWaitable, names, units_of, order_weight, Record, has_name, is_in_service, is_unstarted, name_of, no_record, record_at, IsServable, is_open_at, every_of, every_weaker, differ_is, waiting_on, IsCovered, IsSound, made_of, IsValid, Settings, credits_of, room_of, sides_length, RestoreFault, are_apart, are_ends, are_on_units, are_passed, are_queued, are_unfinished, is_covered, may_be_begun, may_serve, may_serve_at, parts_fault}

-- ---- no fault
pub record Passes (c : Settings) (ds : List Drive) (rs : List Record) (first second : List End) (begun : Option Name) :
    Type 0 where
  pub heads : are_on_units ds ≡ true
  pub first_covered : is_covered c rs First first ≡ true
  pub second_covered : is_covered c rs Second second ≡ true
  pub queued : are_queued c rs ≡ true
  pub apart : are_apart rs ≡ true
  pub unfinished : are_unfinished rs ≡ true
  pub passed : are_passed c.budget rs ≡ true
  pub first_ends : are_ends first ≡ true
  pub second_ends : are_ends second ≡ true
  pub servable : may_be_begun c.budget rs begun ≡ true

pub next : (b : Bool) (fault : RestoreFault) (o : Option RestoreFault) → (if not b then Some fault else o) ≡ None
    → (b ≡ true) × (o ≡ None)
next b fault o h3 = grind arith

pub passes_of : (c : Settings) (ds : List Drive) (rs : List Record) (first second : List End) (begun : Option Name)
    → parts_fault c ds rs first second begun ≡ None → Passes c ds rs first second begun
passes_of c ds rs first second begun e =
    let p1 = next (are_on_units ds) RestoreFault.Heads _ e in
    let p2 = next (is_covered c rs First first && is_covered c rs Second second) RestoreFault.Credits _ p1.1 in
    let p3 = next (are_queued c rs) RestoreFault.Command _ p2.1 in
    let p4 = next (are_apart rs) RestoreFault.Doubled _ p3.1 in
    let p5 = next (are_unfinished rs) RestoreFault.Steps _ p4.1 in
    let p6 = next (are_passed c.budget rs) RestoreFault.Passed _ p5.1 in
    let p7 = next (are_ends first && are_ends second) RestoreFault.Ends _ p6.1 in
    let covered = and_parts (is_covered c rs First first) (is_covered c rs Second second) p2.0 in
    let ends = and_parts (are_ends first) (are_ends second) p7.0 in
    record {
      heads = p1.0;
      first_covered = covered.0;
      second_covered = covered.1;
      queued = p3.0;
      apart = p4.0;
      unfinished = p5.0;
      passed = p6.0;
      first_ends = ends.0;
      second_ends = ends.1;
      servable = (next (may_be_begun c.budget rs begun) RestoreFault.Begun None p7.1).0;
    }

-- ---- each test
-- what each that passes a test is
pub all_that : {X : Type 0} (p : X → Bool) (P : X → Type 0)
    → ((x : X) → p x ≡ true → P x) → (xs : List X) → list_all p xs ≡ true → All P xs
all_that p P f xs e = All-from_recursion P xs (every_weaker (λ x. p x ≡ true) P f xs (every_of p xs e))

heads_of : (ds : List Drive) → are_on_units ds ≡ true → All IsOnUnit ds
heads_of ds e = search (arith, all_that, leb-true)

-- an end, if it has an endcode, has the body of that
abbrev pub IsShapedIf : End → Type 0
IsShapedIf e = e.code ≢ 0 → IsOfKind e

shaped_of : (ends : List End) → All IsShapedIf ends → are_ends ends ≡ true → All IsOfKind ends
shaped_of ends shaped e =
    let some : All (λ e. e.code ≢ 0) ends = all_that (λ (e : End). not (nat_eq e.code 0))
    (λ e. e.code ≢ 0) (λ e h. eqb-false e.code 0 (not-true (nat_eq e.code 0) h)) ends e in
    λ k d l. shaped k d l (some k d l)

covered_of : (c : Settings) (rs : List Record) (via : Connection) (ends : List End)
    → is_covered c rs via ends ≡ true → All IsShapedIf ends → are_ends ends ≡ true → IsCovered c rs via ends
covered_of c rs via ends e shaped some = search (
  arith,
  and_parts (nat_le (length (waiting_on via rs) + length ends) (credits_of c via))
      (nat_le (length (waiting_on via rs)) (room_of c via)) e,
  shaped_of ends shaped some,
  leb-true,
)

apart_of : (rs : List Record) → are_apart rs ≡ true → AreApart (names rs)
apart_of [] e = tt
apart_of (r ∷ rs) e =
    let p = and_parts (list_all (λ z. not (has_name (name_of r) z)) rs) (are_apart rs) e in
    (others rs p.0, apart_of rs p.1)
  where
    others : (zs : List Record) → list_all (λ z. not (has_name (name_of r) z)) zs ≡ true
        → AllByRecursion (λ y. y ≢ name_of r) (names zs)
    others [] e = tt
    others (z ∷ zs) e =
        let p = and_parts (not (has_name (name_of r) z)) (list_all (λ z. not (has_name (name_of r) z)) zs) e in
        (differ_is (name_of z) (name_of r) (not-true (has_name (name_of r) z) p.0), others zs p.1)

-- none was passed by more than this, and who came earlier at least as often
passed_of : (most : ℕ) (rs : List Record) → are_passed most rs ≡ true
    → AllByRecursion (λ r. r.passed ≤ most) rs × ArePassedInOrder rs
passed_of most [] e = (tt, tt)
passed_of most (r ∷ rs) e =
    let p = and_parts (nat_le r.passed most) (are_passed r.passed rs) e in
    let less = leb-true r.passed most p.0 in
    let rest = passed_of r.passed rs p.1 in (
      (
        less,
        every_weaker (λ (z : Record). z.passed ≤ r.passed) (λ z. z.passed ≤ most) (λ z h. omega (arith, less, h)) rs
            rest.0,
      ),
      (rest.0, rest.1),
    )

-- what is read of a waiting command
pub record IsReadWaiting (r : Record) : Type 0 where
  pub weight : r.weight ≡ order_weight r.command.order
  pub good : r.good ≡ r.done

kept_of : (c : Settings) (ds : List Drive) (rs : List Record)
    → units_of ds ≡ c.units → All (λ r. IsWaitable c.longest c.units r.command) rs → All IsReadWaiting rs
    → are_unfinished rs ≡ true → are_passed c.budget rs ≡ true → All (IsKept c.budget c.longest (units_of ds)) rs
kept_of c ds rs e waitable read unfinished passed =
    let left : All (λ r. r.done < r.weight) rs = all_that (λ (r : Record). nat_lt r.done r.weight)
    (λ r. r.done < r.weight) (λ r. ltb-true r.done r.weight) rs (and_parts (list_all (λ r. nat_lt r.done r.weight) rs)
    (nat_le (length (filter is_in_service rs)) 1) unfinished).0 in
    let few : All (λ r. r.passed ≤ c.budget) rs =
    All-from_recursion (λ (r : Record). r.passed ≤ c.budget) rs (passed_of c.budget rs passed).0 in
    search arith

zeros_of : (rs : List Record) → list_all is_unstarted rs ≡ true → All (λ r. r.done ≡ 0) rs
zeros_of rs e = search (arith, all_that, eqb-true)

servable_of : (budget : ℕ) (rs : List Record) (place : ℕ) → place < length rs → may_serve budget rs place ≡ true
    → IsServable budget rs place
servable_of budget rs place l e = by (is_in_service (record_at rs place)) refl
  where
    by : (b : Bool) → is_in_service (record_at rs place) ≡ b → IsServable budget rs place
    by true served =
        let some = ltb-true 0 (record_at rs place).done served in
        record {
          inside = l;
          idle = λ u. let zero = eqb-true (record_at rs place).done 0 u in absurd (omega (arith, some, zero));
          opens = λ u. let zero = eqb-true (record_at rs place).done 0 u in absurd (omega (arith, some, zero));
        }
    by false not_served =
        let q = and_parts (list_all is_unstarted rs) (is_open_at budget rs place)
        (sym (ap (λ b. b || (list_all is_unstarted rs && is_open_at budget rs place)) not_served) ∙ e) in
        record { inside = l; idle = λ u. zeros_of rs q.0; opens = λ u. q.1 }

still_of : (budget : ℕ) (rs : List Record) (begun : Option Name)
    → may_be_begun budget rs begun ≡ true → (name : Name) → begun ≡ Some name → IsStillServable budget rs name
still_of budget rs begun e name is = at (position (has_name name) rs) refl (sym (ap (may_be_begun budget rs) is) ∙ e)
  where
    at : (place : Option ℕ) → position (has_name name) rs ≡ place → may_be_begun budget rs (Some name) ≡ true
        → IsStillServable budget rs name
    at None found e = absurd (false≢true (sym (ap (may_serve_at budget rs) found) ∙ e))
    at (Some place) found e =
        let p = position-Some (has_name name) rs place no_record found in
        (place, servable_of budget rs place p.0 (sym (ap (may_serve_at budget rs) found) ∙ e), p.1)

-- ---- all
pub sound_of : {K : Type 0} (c : Settings) (ds : List Drive) (rs : List Record) (first second : List End)
    (begun : Option Name) (picker : K) → IsValid c → units_of ds ≡ c.units → parts_fault c ds rs first second begun
    ≡ None → All (λ r. IsWaitable c.longest c.units r.command) rs → All IsReadWaiting rs
    → All IsShapedIf first → All IsShapedIf second → IsSound (made_of c rs first second ds begun picker)
sound_of c ds rs first second begun picker valid units none waitable read shaped shaped_second =
    let t = passes_of c ds rs first second begun none in
    let one = covered_of c rs First first t.first_covered shaped t.first_ends in
    let two = covered_of c rs Second second t.second_covered shaped_second t.second_ends in
    record {
      valid = valid;
      queue = record {
        some_room = omega (arith, valid.some_credits);
        few = omega (arith, valid.some_credits, valid.few_credits);
        some_blocks = valid.some_blocks;
        short = valid.few_blocks;
        small = valid.small_bound;
        fits = omega (arith, sides_length (λ (r : Record). r.connection) rs, one.fits, two.fits);
        each = kept_of c ds rs units waitable read t.unfinished t.passed;
        apart = apart_of rs t.apart;
        one = leb-true (length (filter is_in_service rs)) 1 (and_parts (list_all (λ r. nat_lt r.done r.weight) rs)
            (nat_le (length (filter is_in_service rs)) 1) t.unfinished).1;
        idle = λ e. absurd (true≢false e);
        units = subst IsUnitList (sym units) valid.unit_list;
        heads = heads_of ds t.heads;
        still = still_of c.budget rs begun t.servable;
      };
      order = (passed_of c.budget rs t.passed).1;
      units = units;
      first = one;
      second = two;
    }
