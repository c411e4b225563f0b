-- What is kept beside the commands that are outstanding: it stays so when one comes, ends, or hears a figure, and says
-- which questions have their answer at once.
use Rattle.mscp_wire.proofs.Common.{Asked, Bool, Connection, First, IsCounted, IsKept, IsTally, List, None, Option, Second, Sent, Some, Tallies, [], ap, arith, asks, by_asked, by_fence, by_line, by_name, by_next, by_status, command_at, command_at_place, cond, count_by, false, fewer, find, get_or, if◌then◌else◌, is_it, is_named, is_on, is_ordered, is_sequential, is_some, length, list_any, list_any_more, lt-ltb, map, more, nat_le, nat_tests, not, or_parts, position, position_or_len, refl, remove, same_connection, sent_by, slot_if, slot_of, suc, sum_by-cons, sum_by-remove, sum_by_push, sym, take, tells, true, with_figure, zero, ℕ, ◌&&◌, ◌++◌, ◌+◌, ◌-◌, ◌<◌, ◌||◌, ◌∙◌, ◌∷◌, ◌≡◌, ◌≤◌}
use Rattle.std.proofs.Common.{nat_eq}
use Rattle.std.specs.Prelude.{nat_lt}

-- ---- counts

-- one more, and one less
count_push : (p : Sent → Bool) (xs : List Sent) (s : Sent) (n : ℕ) → n ≡ count_by p xs
    → n + cond (p s) 1 0 ≡ count_by p (xs ++ s ∷ [])
count_push p xs s n h = ap (λ k. k + cond (p s) 1 0) h ∙ sym (sum_by_push (λ x. cond (p x) 1 0) xs s)

count_remove : (p : Sent → Bool) (xs : List Sent) (i n less : ℕ) (s d : Sent) → n ≡ count_by p xs → i < length xs
    → s ≡ get_or xs i d → less + cond (p s) 1 0 ≡ n → less ≡ count_by p (remove xs i)
count_remove p xs i n less s d h l is c =
    omega (arith, c, h, sum_by-remove (λ x. cond (p x) 1 0) xs i d l, ap {B = ℕ} (λ x. cond (p x) 1 0) is)

-- the same of numbers that were made so
pub counted_more : (p : Sent → Bool) (xs : List Sent) (s : Sent) (n m : ℕ) (b : Bool) → b ≡ p s → n ≡ count_by p xs
    → m ≡ n + cond b 1 0 → m ≡ count_by p (xs ++ s ∷ [])
counted_more p xs s n m b e h k = k ∙ ap (λ q. n + cond q 1 0) e ∙ count_push p xs s n h

pub counted_less : (p : Sent → Bool) (xs : List Sent) (i : ℕ) (s : Sent) (n m : ℕ) (b : Bool) → b ≡ p s
    → n ≡ count_by p xs → i < length xs → s ≡ command_at xs i → m + cond b 1 0 ≡ n → m ≡ count_by p (remove xs i)
counted_less p xs i s n m b e h l is k =
    count_remove p xs i n m s (sent_by First []) h l is (ap (λ q. m + cond q 1 0) (sym e) ∙ k)

pub count_at : (p : Sent → Bool) (xs : List Sent) (i : ℕ) (d : Sent) → i < length xs
    → cond (p (get_or xs i d)) 1 0 ≤ count_by p xs
count_at p xs i d l = omega (arith, sum_by-remove (λ x. cond (p x) 1 0) xs i d l)

pub count_map : (p : Sent → Bool) (f : Sent → Sent) → ((s : Sent) → p (f s) ≡ p s) → (xs : List Sent)
    → count_by p (map f xs) ≡ count_by p xs
count_map p f h [] = refl
count_map p f h (x ∷ xs) =
    sum_by-cons (λ s. cond (p s) 1 0) (f x) (map f xs)
    ∙ (ap (λ b. cond b 1 0 + count_by p (map f xs)) (h x)
    ∙ (ap (λ n. cond (p x) 1 0 + n) (count_map p f h xs) ∙ sym (sum_by-cons (λ s. cond (p s) 1 0) x xs)))

-- the same of tallies
less : (n : ℕ) → nat_le 65535 n ≡ false → n < 65535
less n h = grind (arith, nat_tests)

pub tally_push : (by : Sent → Option ℕ) (cs ds : List ℕ) (xs : List Sent) (s : Sent) (o : Option ℕ) → o ≡ by s
    → IsTally by cs xs
    → ((i : ℕ) → get_or ds i 65535 ≡ (if is_it o i then more (get_or cs i 65535) else get_or cs i 65535))
    → IsTally by ds (xs ++ s ∷ [])
tally_push by cs ds xs s o e h k i m =
    let count = sum_by_push (λ x. cond (is_it (by x) i) 1 0) xs s in
    by_bool (is_it o i) (k i) (ap (λ q. is_it q i) (sym e)) count
  where
    by_bool : (b : Bool) → get_or ds i 65535 ≡ (if b then more (get_or cs i 65535) else get_or cs i 65535)
        → is_it (by s) i ≡ b
        → count_by (λ x. is_it (by x) i) (xs ++ s ∷ []) ≡ count_by (λ x. is_it (by x) i) xs + cond (is_it (by s) i) 1 0
        → get_or ds i 65535 ≡ count_by (λ x. is_it (by x) i) (xs ++ s ∷ [])
    by_bool true q at count = by_many (nat_le 65535 (get_or cs i 65535)) refl q
      where
        by_many : (b : Bool) → nat_le 65535 (get_or cs i 65535) ≡ b
            → get_or ds i 65535 ≡ (if b then 65535 else get_or cs i 65535 + 1)
            → get_or ds i 65535 ≡ count_by (λ x. is_it (by x) i) (xs ++ s ∷ [])
        by_many true n q = absurd (omega (arith, q, m))
        by_many false n q =
            let old : get_or cs i 65535 < 65535 = omega (arith, q, m) in
            omega (arith, q, count, h i old, ap {B = ℕ} (λ x. cond x 1 0) at)
    by_bool false q at count =
        let old : get_or cs i 65535 < 65535 = omega (arith, q, m) in
        omega (arith, q, count, h i old, ap {B = ℕ} (λ x. cond x 1 0) at)

pub tally_remove : (by : Sent → Option ℕ) (cs ds : List ℕ) (xs : List Sent) (i : ℕ) (s : Sent) (o : Option ℕ)
    → o ≡ by s → IsTally by cs xs → i < length xs → s ≡ command_at xs i
    → ((j : ℕ) → get_or ds j 65535 ≡ (if is_it o j then fewer (get_or cs j 65535) else get_or cs j 65535))
    → IsTally by ds (remove xs i)
tally_remove by cs ds xs i s o e h l is k j n =
    let count = sum_by-remove (λ x. cond (is_it (by x) j) 1 0) xs i (sent_by First []) l in
    by_bool (is_it o j) (k j) (ap (λ x. is_it (by x) j) (sym is) ∙ ap (λ q. is_it q j) (sym e)) count
  where
    by_bool : (b : Bool) → get_or ds j 65535 ≡ (if b then fewer (get_or cs j 65535) else get_or cs j 65535)
        → is_it (by (command_at xs i)) j ≡ b
        → count_by (λ x. is_it (by x) j) (remove xs i) + cond (is_it (by (command_at xs i)) j) 1 0
        ≡ count_by (λ x. is_it (by x) j) xs
        → get_or ds j 65535 ≡ count_by (λ x. is_it (by x) j) (remove xs i)
    by_bool true q at count = by_many (nat_le 65535 (get_or cs j 65535)) refl q
      where
        by_many : (b : Bool) → nat_le 65535 (get_or cs j 65535) ≡ b
            → get_or ds j 65535 ≡ (if b then 65535 else get_or cs j 65535 - 1)
            → get_or ds j 65535 ≡ count_by (λ x. is_it (by x) j) (remove xs i)
        by_many true t q = absurd (omega (arith, q, n))
        by_many false t q =
            let old : get_or cs j 65535 < 65535 = less (get_or cs j 65535) t in
            omega (arith, q, count, h j old, ap {B = ℕ} (λ x. cond x 1 0) at)
    by_bool false q at count =
        let old : get_or cs j 65535 < 65535 = omega (arith, q, n) in
        omega (arith, q, count, h j old, ap {B = ℕ} (λ x. cond x 1 0) at)

pub tally_map : (by : Sent → Option ℕ) (f : Sent → Sent) → ((s : Sent) → by (f s) ≡ by s) → (cs : List ℕ)
    (xs : List Sent) → IsTally by cs xs → IsTally by cs (map f xs)
tally_map by f e cs xs h i m =
    h i m ∙ sym (count_map (λ x. is_it (by x) i) f (λ s. ap (λ q. is_it q i) (e s)) xs)

-- ---- places
-- none of the first is sought, and one more isn't
pub none_more : (p : Sent → Bool) (xs : List Sent) (i : ℕ) → i < length xs → list_any p (take i xs) ≡ false
    → p (command_at xs i) ≡ false → list_any p (take (i + 1) xs) ≡ false
none_more p xs i l h k =
    list_any_more p xs i (sent_by First []) l ∙ ap (λ b. b || p (command_at xs i)) h ∙ k

-- or it is the first
first_at : (p : Sent → Bool) (xs : List Sent) (i : ℕ) → i < length xs → list_any p (take i xs) ≡ false
    → p (command_at xs i) ≡ true → position_or_len p xs ≡ i
first_at p [] i l h k = absurd (omega (arith, l))
first_at p (x ∷ xs) zero l h k = ap (λ b. cond (not b) (1 + position_or_len p xs) 0) k
first_at p (x ∷ xs) (suc i) l h k =
    let parts = or_parts (p x) (list_any p (take i xs)) h in
    let rest = first_at p xs i (omega (arith, l)) parts.1 k in
    ap (λ b. cond (not b) (1 + position_or_len p xs) 0) parts.0 ∙ omega (arith, rest)

pub place_at : (p : Sent → Bool) (xs : List Sent) (i : ℕ) → i < length xs → list_any p (take i xs) ≡ false
    → p (command_at xs i) ≡ true → position p xs ≡ Some i
place_at p xs i l h k =
    ap (λ n. cond (nat_lt n (length xs)) (Some n) None) (first_at p xs i l h k)
    ∙ ap (λ b. cond b (Some i) None) (lt-ltb i (length xs) l)

-- or there is none
none_first : (p : Sent → Bool) (xs : List Sent) → list_any p xs ≡ false → position_or_len p xs ≡ length xs
none_first p [] h = refl
none_first p (x ∷ xs) h =
    let parts = or_parts (p x) (list_any p xs) h in
    let rest = none_first p xs parts.1 in
    ap (λ b. cond (not b) (1 + position_or_len p xs) 0) parts.0 ∙ omega (arith, rest)

pub place_none : (p : Sent → Bool) (xs : List Sent) → list_any p xs ≡ false → position p xs ≡ None
place_none p xs h =
    ap (λ n. cond (nat_lt n (length xs)) (Some n) None) (none_first p xs h)
    ∙ ap (λ b. cond b (Some (length xs)) None) (not_less (length xs))
  where
    not_less : (n : ℕ) → nat_lt n n ≡ false
    not_less n = grind (arith, nat_tests)

-- there is a first one if there is any
further : (n m : ℕ) → nat_lt (1 + n) (suc m) ≡ nat_lt n m
further n m = grind (arith, nat_tests)

some_first : (p : Sent → Bool) (xs : List Sent) → nat_lt (position_or_len p xs) (length xs) ≡ list_any p xs
some_first p [] = refl
some_first p (x ∷ xs) = by_bool (p x) (some_first p xs)
  where
    by_bool : (b : Bool) → nat_lt (position_or_len p xs) (length xs) ≡ list_any p xs
        → nat_lt (cond (not b) (1 + position_or_len p xs) 0) (suc (length xs)) ≡ (b || list_any p xs)
    by_bool true h = lt-ltb 0 (suc (length xs)) (omega arith)
    by_bool false h = further (position_or_len p xs) (length xs) ∙ h

pub some_place : (p : Sent → Bool) (xs : List Sent) → is_some (position p xs) ≡ list_any p xs
some_place p xs = by_bool (nat_lt (position_or_len p xs) (length xs)) (some_first p xs)
  where
    by_bool : (b : Bool) → b ≡ list_any p xs → is_some (cond b (Some (position_or_len p xs)) None) ≡ list_any p xs
    by_bool true h = h
    by_bool false h = h

-- the first of a name
further_at : (x : Sent) (xs : List Sent) (n m : ℕ)
    → command_at_place (x ∷ xs) (cond (nat_lt (1 + n) (suc m)) (Some (1 + n)) None)
    ≡ command_at_place xs (cond (nat_lt n m) (Some n) None)
further_at x xs n m =
    let one : 1 + n ≡ suc n = omega arith in
    ap (λ b. command_at_place (x ∷ xs) (cond b (Some (1 + n)) None)) (further n m)
    ∙ (ap (λ k. command_at_place (x ∷ xs) (cond (nat_lt n m) (Some k) None)) one ∙ by_bool (nat_lt n m))
  where
    by_bool : (b : Bool) → command_at_place (x ∷ xs) (cond b (Some (suc n)) None)
        ≡ command_at_place xs (cond b (Some n) None)
    by_bool true = refl
    by_bool false = refl

pub found_at : (q : Sent → Bool) (xs : List Sent) → command_at_place xs (position q xs) ≡ find q xs
found_at q [] = refl
found_at q (x ∷ xs) = by_bool (q x) (found_at q xs)
  where
    by_bool : (b : Bool) → command_at_place xs (position q xs) ≡ find q xs
        → command_at_place (x ∷ xs) (cond (nat_lt (cond (not b) (1 + position_or_len q xs) 0) (suc (length xs)))
        (Some (cond (not b) (1 + position_or_len q xs) 0)) None)
        ≡ cond b (Some x) (find q xs)
    by_bool true h =
        ap (λ b. command_at_place (x ∷ xs) (cond b (Some 0) None)) (lt-ltb 0 (suc (length xs)) (omega arith))
    by_bool false h = further_at x xs (position_or_len q xs) (length xs) ∙ h

-- ---- what is kept
-- a command that is outstanding is among those
counted_one : (p : Sent → Bool) (xs : List Sent) (i n : ℕ) (s : Sent) → n ≡ count_by p xs → i < length xs
    → s ≡ command_at xs i → cond (p s) 1 0 ≤ n
counted_one p xs i n s h l is =
    omega (arith, h, count_at p xs i (sent_by First []) l, ap {B = ℕ} (λ x. cond (p x) 1 0) is)

-- of no command each count may be begun anew
pub begun : {A : Type 0} (xs : List Sent) (old new : Tallies A) → length xs ≡ 0 → IsKept xs old
    → (IsKept [] old → IsKept [] new) → IsKept xs new
begun [] old new e k f = f k
begun (x ∷ xs) old new e k f = absurd (omega (arith, e))

pub kept_counted : {A : Type 0} (xs : List Sent) (kinds : Tallies A) (i : ℕ) (s : Sent) → IsKept xs kinds
    → i < length xs
    → s ≡ command_at xs i → IsCounted s kinds
kept_counted xs kinds i s k l is = record {
  first = counted_one (is_on First) xs i _ s k.first l is;
  second = counted_one (is_on Second) xs i _ s k.second l is;
}

-- what is heard changes no count
abbrev frame : Sent → Connection × (ℕ × (ℕ × (ℕ × (Option ℕ × (Bool × (Bool × Asked))))))
frame s = (s.connection, (s.reference, (s.unit, (s.opcode, (s.parameter, (s.next, (s.beside, s.asked)))))))

kept_map : {A : Type 0} (f : Sent → Sent) → ((s : Sent) → frame (f s) ≡ frame s) → (xs : List Sent) (kinds : Tallies A)
    → IsKept xs kinds → IsKept (map f xs) kinds
kept_map f same xs kinds k = record {
  names = tally_map by_name f (λ s. ap (λ t. Some (slot_of t.0 t.1.0)) (same s)) _ xs k.names;
  fences = tally_map by_fence f
      (λ s. ap (λ t. if is_sequential t.1.1.1.0 then Some (slot_of t.0 t.1.1.0) else None) (same s)) _ xs k.fences;
  lines = tally_map by_line f
      (λ s. ap (λ t. if is_sequential t.1.1.1.0 || is_ordered t.1.1.1.0 then Some (slot_of t.0 t.1.1.0) else None)
      (same s)) _ xs k.lines;
  asked = tally_map by_asked f
      (λ s. ap (λ t. if nat_eq t.1.1.1.0 2 && asks t.1.1.1.1.1.1.1 then slot_if t.0 t.1.1.1.1.0 else None) (same s))
      _ xs k.asked;
  statuses = tally_map by_status f (λ s. ap (λ t. if nat_eq t.1.1.1.0 3 && not t.1.1.1.1.1.0 && not t.1.1.1.1.1.1.0
      then Some (slot_of t.0 t.1.1.0) else None) (same s)) _ xs k.statuses;
  nexts = tally_map by_next f (λ s. ap (λ t. if nat_eq t.1.1.1.0 3 && t.1.1.1.1.1.0 && not t.1.1.1.1.1.1.0
      then Some (slot_of t.0 0) else None) (same s)) _ xs k.nexts;
  first = k.first ∙ sym (count_map (is_on First) f (λ s. ap (λ t. same_connection t.0 First) (same s)) xs);
  second = k.second ∙ sym (count_map (is_on Second) f (λ s. ap (λ t. same_connection t.0 Second) (same s)) xs);
}

pub kept_tells : {A : Type 0} (via : Connection) (n : ℕ) (figure time : Option ℕ) (xs : List Sent) (kinds : Tallies A)
    → IsKept xs kinds → IsKept (map (tells via n figure time) xs) kinds
kept_tells via n figure time = kept_map (tells via n figure time) (λ s. by_bool (is_named via n s) s)
  where
    by_bool : (b : Bool) (s : Sent) → frame (if b then with_figure figure time s else s) ≡ frame s
    by_bool true s = refl
    by_bool false s = refl
