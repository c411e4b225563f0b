-- A command that is sought has the tag by which it is sought.
use Rattle.mscp_wire.proofs.Common.{AreTagged, Bool, Connection, First, IsFound, List, None, NoneIn, Option, Second, Sent, Some, [], aborts, about, ap, arith, aside, cases_eq, cases_lt, cell, cond, drop, eqb-true, false, get_or, get_or-append, get_or-drop, get_or-set_at, get_or-set_other, get_or-take, get_or_default, if◌then◌else◌, is_immediate, is_it, is_lined, is_ordered, is_sequential, is_some, is_turning, keeps_back, length, length-append, length-drop, length-set, length-take, length-take-le, nat_eq, nat_tests, not, polls, refl, same_connection, set, stands, suc, sym, tag, tag_if, tag_of, true, turns, turns_beside, waits_on, zero, ℕ, ⊎_elim, ◌%◌, ◌&&◌, ◌++◌, ◌+◌, ◌-◌, ◌<◌, ◌||◌, ◌∙◌, ◌∷◌, ◌≡◌, ◌≤◌, ◌⊎◌}
use Rattle.std.specs.Prelude.{take}
use Rattle.mscp_wire.proofs.Placed.{cell_less}

same_side : (a b : Connection) → same_connection a b ≡ true → a ≡ b
same_side First First h = refl
same_side First Second h = absurd (omega (arith, ap {B = ℕ} (λ b. cond b 1 0) h))
same_side Second First h = absurd (omega (arith, ap {B = ℕ} (λ b. cond b 1 0) h))
same_side Second Second h = refl

-- ---- one in the line of its unit
lined : (s : Sent) (via : Connection) (unit : ℕ) → is_lined s ≡ true → same_connection s.connection via ≡ true
    → nat_eq s.unit unit ≡ true → tag_of s ≡ tag via unit false
lined s via unit h c u =
    ap (λ b. if b then tag s.connection s.unit false else tag s.connection (aside s) (is_immediate s.opcode)) h
    ∙ (ap (λ v. tag v s.unit false) (same_side s.connection via c)
    ∙ ap (λ n. tag via n false) (eqb-true s.unit unit u))

pub keeping : (y s : Sent) → keeps_back y s ≡ true → tag_of s ≡ tag y.connection y.unit false
keeping y s h =
    let p = parts (same_connection s.connection y.connection) (nat_eq s.unit y.unit) (is_sequential s.opcode)
    (is_sequential y.opcode) (is_ordered y.opcode) (is_ordered s.opcode) h in
    lined s y.connection y.unit p.1.1 p.0 p.1.0
  where
    parts : (a b c d e f : Bool) → (a && b && ((c && (d || e)) || (f && d))) ≡ true
        → (a ≡ true) × ((b ≡ true) × ((c || f) ≡ true))
    parts a b c d e f q = (grind arith, (grind arith, grind arith))

pub turning : (via : Connection) (unit : ℕ) (s : Sent) → is_turning via unit s ≡ true → tag_of s ≡ tag via unit false
turning via unit s h =
    let p = parts (turns s.opcode) (same_connection s.connection via) (nat_eq s.unit unit) h in
    lined s via unit (ap (λ b. b || is_ordered s.opcode) (sequential s.opcode p.0)) p.1.0 p.1.1
  where
    parts : (a b c : Bool) → (a && b && c) ≡ true → (a ≡ true) × ((b ≡ true) × (c ≡ true))
    parts a b c q = (grind arith, (grind arith, grind arith))

    sequential : (opcode : ℕ) → turns opcode ≡ true → is_sequential opcode ≡ true
    sequential opcode q = by_bool (nat_eq opcode 8) refl q
      where
        by_bool : (b : Bool) → nat_eq opcode 8 ≡ b → (b || nat_eq opcode 9) ≡ true → is_sequential opcode ≡ true
        by_bool true e r = ap is_sequential (eqb-true opcode 8 e)
        by_bool false e r = ap is_sequential (eqb-true opcode 9 r)

-- ---- one that has no place there
-- the number of one with this opcode
abbrev apart : ℕ → Option ℕ → Bool → ℕ → ℕ
apart opcode parameter next unit =
    if nat_eq opcode 1 || nat_eq opcode 2 then about parameter
    else if nat_eq opcode 3 && not next then unit else 65536

abbrev tagged : Connection → ℕ → Option ℕ → Bool → ℕ → ℕ
tagged via opcode parameter next unit =
    if is_sequential opcode || is_ordered opcode then tag via unit false
    else tag via (apart opcode parameter next unit) (is_immediate opcode)

-- of one that is about another
named_by : (o : Option ℕ) (n : ℕ) → is_it o n ≡ true → about o ≡ 65538 + n
named_by None n h = absurd (omega (arith, ap {B = ℕ} (λ b. cond b 1 0) h))
named_by (Some other) n h = ap (λ k. 65538 + k) (eqb-true other n h)

pub polling : (y s : Sent) → polls y s ≡ true → tag_of s ≡ tag y.connection (about (Some y.reference)) true
polling y s h =
    let p = parts (same_connection s.connection y.connection) (nat_eq s.opcode 2) (is_it s.parameter y.reference) h in
    ap (λ o. tagged s.connection o s.parameter s.next s.unit) (eqb-true s.opcode 2 p.1.0)
    ∙ (ap (λ v. tag v (about s.parameter) true) (same_side s.connection y.connection p.0)
    ∙ ap (λ n. tag y.connection n true) (named_by s.parameter y.reference p.1.1))
  where
    parts : (a b c : Bool) → (a && b && c) ≡ true → (a ≡ true) × ((b ≡ true) × (c ≡ true))
    parts a b c q = (grind arith, (grind arith, grind arith))

pub aborting : (y s : Sent) → aborts y s ≡ true → tag_of s ≡ tag y.connection (about (Some y.reference)) true
aborting y s h =
    let p = parts (same_connection s.connection y.connection) (nat_eq s.opcode 1) (is_it s.parameter y.reference) h in
    ap (λ o. tagged s.connection o s.parameter s.next s.unit) (eqb-true s.opcode 1 p.1.0)
    ∙ (ap (λ v. tag v (about s.parameter) true) (same_side s.connection y.connection p.0)
    ∙ ap (λ n. tag y.connection n true) (named_by s.parameter y.reference p.1.1))
  where
    parts : (a b c : Bool) → (a && b && c) ≡ true → (a ≡ true) × ((b ≡ true) × (c ≡ true))
    parts a b c q = (grind arith, (grind arith, grind arith))

-- a GET UNIT STATUS
pub beside : (y s : Sent) → turns_beside y s ≡ true
    → (nat_eq (tag_of s) (tag y.connection y.unit true) || nat_eq (tag_of s) (tag y.connection 65536 true)) ≡ true
beside y s h =
    let p = parts (turns y.opcode) (nat_eq s.opcode 3) (same_connection s.connection y.connection)
    (s.next || nat_eq s.unit y.unit) h in
    let e : tag_of s ≡ tag y.connection (if not s.next then s.unit else 65536) true =
    ap (λ o. tagged s.connection o s.parameter s.next s.unit) (eqb-true s.opcode 3 p.0)
    ∙ ap (λ v. tag v (if not s.next then s.unit else 65536) true) (same_side s.connection y.connection p.1.0) in
    by_next s.next e p.1.1
  where
    parts : (a b c d : Bool) → (a && b && c && d) ≡ true → (b ≡ true) × ((c ≡ true) × (d ≡ true))
    parts a b c d q = (grind arith, (grind arith, grind arith))

    either : (a b c : ℕ) → a ≡ b → (nat_eq a b || nat_eq a c) ≡ true
    either a b c q = grind (arith, nat_tests, q)

    other : (a b c : ℕ) → a ≡ c → (nat_eq a b || nat_eq a c) ≡ true
    other a b c q = grind (arith, nat_tests, q)

    by_next : (n : Bool) → tag_of s ≡ tag y.connection (if not n then s.unit else 65536) true
        → (n || nat_eq s.unit y.unit) ≡ true
        → (nat_eq (tag_of s) (tag y.connection y.unit true) || nat_eq (tag_of s) (tag y.connection 65536 true)) ≡ true
    by_next true e q = other (tag_of s) _ _ e
    by_next false e q =
        either (tag_of s) _ _ (e ∙ ap (λ n. tag y.connection n true) (eqb-true s.unit y.unit q))

-- ---- one that its host waits for
waiting_side : (via : Connection) (n : ℕ) → tag via n false % 4 ≡ tag via 0 false
waiting_side First n = omega arith
waiting_side Second n = omega arith

pub waiting : (via : Connection) (s : Sent) → waits_on via s ≡ true → tag_of s % 4 ≡ tag via 0 false
waiting via s h =
    let p = parts (same_connection s.connection via) (is_immediate s.opcode) h in
    by_lined (is_lined s) (is_immediate s.opcode) p.1 ∙ ap (λ v. tag v 0 false) (same_side s.connection via p.0)
  where
    parts : (a b : Bool) → (a && not b) ≡ true → (a ≡ true) × (b ≡ false)
    parts a b q = (grind arith, grind arith)

    by_lined : (l i : Bool) → i ≡ false
        → (if l then tag s.connection s.unit false else tag s.connection (aside s) i) % 4
        ≡ tag s.connection 0 false
    by_lined true i e = waiting_side s.connection s.unit
    by_lined false i e =
        ap (λ b. tag s.connection (aside s) b % 4) e ∙ waiting_side s.connection (aside s)

-- ---- what tags say
-- none is sought in a cell if its tag says so
pub by_tag : (p : Sent → Bool) (f : ℕ → Bool) → ((s : Sent) → p s ≡ true → f (tag_of s) ≡ true)
    → (cells : List (Option Sent)) (tags : List ℕ) (at : ℕ) → AreTagged cells tags → f (get_or tags at 0) ≡ false
    → stands p (cell cells at) ≡ false
by_tag p f h cells tags at k none = by_cell (cell cells at) refl
  where
    never : (s : Sent) (b : Bool) → p s ≡ b → f (tag_of s) ≡ false → p s ≡ false
    never s true q e = absurd (omega (arith, ap {B = ℕ} (λ x. cond x 1 0) (sym (h s q) ∙ e)))
    never s false q e = q

    by_cell : (c : Option Sent) → cell cells at ≡ c → stands p c ≡ false
    by_cell None e = refl
    by_cell (Some s) e = never s (p s) refl (ap f (sym (k.each at s e)) ∙ none)

-- the same of cells from one on
pub by_tags : (p : Sent → Bool) (f : ℕ → Bool) → ((s : Sent) → p s ≡ true → f (tag_of s) ≡ true)
    → (cells xs : List (Option Sent)) (tags all : List ℕ) (from end : ℕ) → AreTagged cells tags → cells ≡ xs
    → all ≡ tags
    → end ≤ length xs
    → ((i : ℕ) → i < length (take (end - from) (drop from all))
    → f (get_or (take (end - from) (drop from all)) i 0) ≡ false)
    → NoneIn p xs from end
by_tags p f h cells xs tags all from end k is same l none i low high =
    let j : ℕ = i - from in
    let few : j < end - from = omega (arith, low, high) in
    let many : j < length (drop from all) =
    omega (arith, length-drop from all, low, high, l, k.many, ap length same, ap length is) in
    let e : get_or (take (end - from) (drop from all)) j 0 ≡ get_or tags i 0 =
    get_or-take (end - from) (drop from all) j 0 few
    ∙ (get_or-drop from all j 0 ∙ (ap (λ n. get_or all n 0) (omega (arith, low)) ∙ ap (λ ts. get_or ts i 0) same)) in
    ap (λ cs. stands p (cell cs i)) (sym is)
    ∙ by_tag p f h cells tags i k
    (ap f (sym e) ∙ none j (omega (arith, few, many, length-take (end - from) (drop from all))))

-- one that has a tag has one of two that are this
pub has_two : (t n a b : ℕ) → t ≡ n → a ≡ n → b ≡ n → (nat_eq t a || nat_eq t b) ≡ true
has_two t n a b e f g = grind (arith, nat_tests, e, f, g)

pub equal : (a b : ℕ) → a ≡ b → nat_eq a b ≡ true
equal a b e = grind (arith, nat_tests, e)

-- ---- the next cell
-- none in more cells
pub none_further : (p : Sent → Bool) (cells : List (Option Sent)) (from at end : ℕ) → NoneIn p cells from at
    → NoneIn p cells at end → NoneIn p cells from end
none_further p cells from at end h k i low high = ⊎_elim
    (λ below. h i low below)
    (λ above. k i above high)
    (cases_lt i at)

-- whether one stands in a cell that is read
pub read_in : (p : Sent → Bool) (cells xs : List (Option Sent)) (at : ℕ) (o : Option Sent) (b : Bool)
    → at < length cells → cells ≡ xs → o ≡ get_or cells at o → b ≡ stands p o → b ≡ stands p (cell xs at)
read_in p cells xs at o b l same is h =
    h ∙ (ap (stands p) (is ∙ get_or_default cells at o None l) ∙ ap (λ ys. stands p (cell ys at)) same)

-- none in one cell
pub none_one : (p : Sent → Bool) (cells : List (Option Sent)) (at : ℕ) → stands p (cell cells at) ≡ false
    → NoneIn p cells at (at + 1)
none_one p cells at h i low high = ap (λ j. stands p (cell cells j)) (omega (arith, low, high)) ∙ h

pub found_further : (p : Sent → Bool) (cells : List (Option Sent)) (from at end last n : ℕ) → NoneIn p cells from at
    → from ≤ at → end ≤ last → IsFound p cells at end n → IsFound p cells from last n
found_further p cells from at end last n h l m k = record {
  low = omega (arith, l, k.low);
  high = omega (arith, m, k.high);
  there = k.there;
  none = none_further p cells from at n h k.none;
}

-- ---- tags beside cells
-- those behind the cells may go
pub cut : (cells : List (Option Sent)) (tags : List ℕ) (n : ℕ) → n ≡ length cells → AreTagged cells tags
    → AreTagged cells (take n tags)
cut cells tags n e h = record {
  many = omega (arith, e, length-take-le n tags (omega (arith, e, h.many)));
  each = λ at s is. get_or-take n tags at 0 (omega (arith, e, cell_less cells at (ap is_some is))) ∙ h.each at s is;
}

-- and some may come
pub padded : (cells : List (Option Sent)) (tags more : List ℕ) → AreTagged cells tags
    → AreTagged cells (tags ++ more)
padded cells tags more h = record {
  many = omega (arith, length-append tags more, h.many);
  each = λ at s is. get_or-append tags more 0 at (omega (arith, h.many, cell_less cells at (ap is_some is)))
      ∙ h.each at s is;
}

-- one cell more with its tag
pub pushed : (cells : List (Option Sent)) (tags : List ℕ) (s : Sent) (t : ℕ) → length tags ≡ length cells
    → AreTagged cells tags → t ≡ tag_of s → AreTagged (cells ++ Some s ∷ []) (tags ++ t ∷ [])
pushed cells tags s t l h e = record {
  many = omega (arith, length-append cells (Some s ∷ []), length-append tags (t ∷ []), l);
  each = λ at x is. by_place at x is (cases_lt at (length cells));
}
  where
    last : (cs : List (Option Sent)) (ts : List ℕ) (at : ℕ) (x : Sent) → length ts ≡ length cs → length cs ≤ at
        → cell (cs ++ Some s ∷ []) at ≡ Some x → get_or (ts ++ t ∷ []) at 0 ≡ tag_of x
    last [] [] zero x k m is = e ∙ ap (λ o. tag_if o) is
    last [] [] (suc at) x k m is = absurd (omega (arith, ap {B = ℕ} (λ o. cond (is_some o) 1 0) is))
    last [] (y ∷ ts) at x k m is = absurd (omega (arith, k))
    last (c ∷ cs) [] at x k m is = absurd (omega (arith, k))
    last (c ∷ cs) (y ∷ ts) zero x k m is = absurd (omega (arith, m))
    last (c ∷ cs) (y ∷ ts) (suc at) x k m is = last cs ts at x (omega (arith, k)) (omega (arith, m)) is

    by_place : (at : ℕ) (x : Sent) → cell (cells ++ Some s ∷ []) at ≡ Some x
        → (at < length cells) ⊎ (length cells ≤ at) → get_or (tags ++ t ∷ []) at 0 ≡ tag_of x
    by_place at x is c = ⊎_elim
        (λ low. get_or-append tags (t ∷ []) 0 at (omega (arith, low, l))
        ∙ h.each at x (sym (get_or-append cells (Some s ∷ []) None at low) ∙ is))
        (λ high. last cells tags at x l high is)
        c

-- another stands in a cell, or none
pub put_in : (cells : List (Option Sent)) (tags : List ℕ) (n : ℕ) (o : Option Sent) (t : ℕ) → n < length cells
    → AreTagged cells tags → t ≡ tag_if o → AreTagged (set cells n o) (set tags n t)
put_in cells tags n o t l h e = record {
  many = omega (arith, h.many, length-set cells n o, length-set tags n t);
  each = λ at s is. ⊎_elim
      (λ same. get_or-set_at tags n at t 0 same (omega (arith, l, h.many))
      ∙ (e ∙ ap tag_if (sym (get_or-set_at cells n at o None same l) ∙ is)))
      (λ other. get_or-set_other tags n at t 0 other
      ∙ h.each at s (sym (get_or-set_other cells n at o None other) ∙ is))
      (cases_eq at n);
}

-- as many cells as are said
pub shorter : (cells : List (Option Sent)) (tags : List ℕ) (n : ℕ) → AreTagged cells tags
    → AreTagged (take n cells) tags
shorter cells tags n h = record {
  many = omega (arith, h.many, length-take n cells);
  each = λ at s is. h.each at s (there cells n at s is);
}
  where
    there : (cs : List (Option Sent)) (k at : ℕ) (s : Sent) → cell (take k cs) at ≡ Some s → cell cs at ≡ Some s
    there cs zero at s is = absurd (omega (arith, ap {B = ℕ} (λ o. cond (is_some o) 1 0) is))
    there [] (suc k) at s is = is
    there (c ∷ cs) (suc k) zero s is = is
    there (c ∷ cs) (suc k) (suc at) s is = there cs k at s is

-- tags of so many cells were made
pub record AreMade (cells : List (Option Sent)) (tags : List ℕ) (n : ℕ) : Type 0 where
  pub many : length cells ≤ length tags
  pub each : (at : ℕ) (s : Sent) → at < n → cell cells at ≡ Some s → get_or tags at 0 ≡ tag_of s

pub none_made : (cells : List (Option Sent)) (tags : List ℕ) → length cells ≤ length tags → AreMade cells tags 0
none_made cells tags l = record { many = l; each = λ at s b is. absurd (omega (arith, b)) }

pub one_made : (cells : List (Option Sent)) (tags : List ℕ) (n t : ℕ) → n < length cells → AreMade cells tags n
    → t ≡ tag_if (cell cells n) → AreMade cells (set tags n t) (n + 1)
one_made cells tags n t l h e = record {
  many = omega (arith, h.many, length-set tags n t);
  each = λ at s b is. by_place at s b is (cases_lt at n);
}
  where
    by_place : (at : ℕ) (s : Sent) → at < n + 1 → cell cells at ≡ Some s → (at < n) ⊎ (n ≤ at)
        → get_or (set tags n t) at 0 ≡ tag_of s
    by_place at s b is c = ⊎_elim
        (λ low. get_or-set_other tags n at t 0 (λ q. absurd (omega (arith, low, q))) ∙ h.each at s low is)
        (λ high.
        let same : at ≡ n = omega (arith, high, b) in
        get_or-set_at tags n at t 0 same (omega (arith, l, h.many))
        ∙ (e ∙ ap tag_if (ap (cell cells) (sym same) ∙ is)))
        c

pub all_made : (cells : List (Option Sent)) (tags : List ℕ) (n : ℕ) → length cells ≤ n → AreMade cells tags n
    → AreTagged cells tags
all_made cells tags n l h = record {
  many = h.many;
  each = λ at s is. h.each at s (omega (arith, l, cell_less cells at (ap is_some is))) is;
}
