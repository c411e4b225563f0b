-- What is counted stays so when a GET UNIT STATUS hears that its unit may have another state, and which ones hear it.
use Rattle.mscp_wire.proofs.Common.{Answer, Asked, Bool, Connection, First, Gone, IsKept, IsTally, List, None, Nothing, Oldest, Option, Second, Sent, Some, Tallies, [], ap, arith, asks, besides, by_asked, by_fence, by_line, by_name, by_next, by_status, command_at, cond, count_by, drop, eqb-true, false, fewer, get_or, heard, hears, if◌then◌else◌, is_it, is_on, is_sequential, is_turning, left, length, list_any, map, nat_eq, nat_tests, not, refl, remove, same_connection, sent_by, set, slot, slot_if, slot_of, suc, sum_by-remove, sum_by-set, sym, take, true, turns, turns_beside, ℕ, ◌&&◌, ◌++◌, ◌+◌, ◌<◌, ◌||◌, ◌∙◌, ◌∷◌, ◌≡◌}
use Rattle.mscp_wire.proofs.Alone.{count_none, none_counted}
use Rattle.mscp_wire.proofs.Keys.{same_key}
use Rattle.mscp_wire.proofs.Names.{tally_remove}

-- ---- one command in the place of another
count_set : (p : Sent → Bool) (xs : List Sent) (i : ℕ) (s t : Sent) → i < length xs → s ≡ command_at xs i
    → count_by p (set xs i t) + cond (p s) 1 0 ≡ count_by p xs + cond (p t) 1 0
count_set p xs i s t l is =
    ap (λ z. count_by p (set xs i t) + cond (p z) 1 0) is
    ∙ sum_by-set (λ x. cond (p x) 1 0) xs i t (sent_by First []) l

count_same : (p : Sent → Bool) (xs : List Sent) (i : ℕ) (s t : Sent) → i < length xs → s ≡ command_at xs i
    → p t ≡ p s → count_by p (set xs i t) ≡ count_by p xs
count_same p xs i s t l is same =
    omega (arith, count_set p xs i s t l is, ap {B = ℕ} (λ b. cond b 1 0) same)

tally_same : (by : Sent → Option ℕ) (cs : List ℕ) (xs : List Sent) (i : ℕ) (s t : Sent) → i < length xs
    → s ≡ command_at xs i → by t ≡ by s → IsTally by cs xs → IsTally by cs (set xs i t)
tally_same by cs xs i s t l is same h j n =
    h j n ∙ sym (count_same (λ x. is_it (by x) j) xs i s t l is (ap (λ o. is_it o j) same))

-- one that isn't counted any more
tally_gone : (by : Sent → Option ℕ) (cs ds : List ℕ) (xs : List Sent) (i : ℕ) (s t : Sent) (o : Option ℕ) → o ≡ by s
    → by t ≡ None → IsTally by cs xs → i < length xs → s ≡ command_at xs i
    → ((j : ℕ) → get_or ds j 65535 ≡ (if is_it o j then fewer (get_or cs j 65535) else get_or cs j 65535))
    → IsTally by ds (set xs i t)
tally_gone by cs ds xs i s t o e none h l is k j n =
    let f : Sent → ℕ = λ x. cond (is_it (by x) j) 1 0 in
    let same : count_by (λ x. is_it (by x) j) (remove xs i) ≡ count_by (λ x. is_it (by x) j) (set xs i t) =
    omega (
      arith,
      sum_by-remove f xs i (sent_by First []) l,
      sum_by-set f xs i t (sent_by First []) l,
      ap {B = ℕ} (λ q. cond (is_it q j) 1 0) none,
    ) in
    tally_remove by cs ds xs i s o e h l is k j n ∙ same

never : (a b : Bool) (n : ℕ) → (if a && b && false then Some n else None) ≡ None
never a b n = grind arith

pub kept_marked : {A : Type 0} (xs : List Sent) (i : ℕ) (s : Sent) (old new : Tallies A) (o p : Option ℕ)
    → i < length xs → s ≡ command_at xs i → o ≡ by_status s → p ≡ by_next s
    → ((j : ℕ) → get_or new.statuses.counts.items j 65535
    ≡ (if is_it o j then fewer (get_or old.statuses.counts.items j 65535)
    else get_or old.statuses.counts.items j 65535))
    → ((j : ℕ) → get_or new.nexts.counts.items j 65535
    ≡ (if is_it p j then fewer (get_or old.nexts.counts.items j 65535) else get_or old.nexts.counts.items j 65535))
    → new.names ≡ old.names → new.fences ≡ old.fences → new.lines ≡ old.lines → new.asked ≡ old.asked
    → new.first ≡ old.first → new.second ≡ old.second
    → IsKept xs old → IsKept (set xs i (record s { beside = true })) new
kept_marked xs i s old new o p l is e f more next names fences lines asked first second k =
    let t : Sent = record s { beside = true } in
    record {
      names = rw names (tally_same by_name _ xs i s t l is refl k.names);
      fences = rw fences (tally_same by_fence _ xs i s t l is refl k.fences);
      lines = rw lines (tally_same by_line _ xs i s t l is refl k.lines);
      asked = rw asked (tally_same by_asked _ xs i s t l is refl k.asked);
      statuses = tally_gone by_status _ _ xs i s t o e
          (never (nat_eq s.opcode 3) (not s.next) (slot_of s.connection s.unit))
          k.statuses l is more;
      nexts = tally_gone by_next _ _ xs i s t p f (never (nat_eq s.opcode 3) s.next (slot_of s.connection 0)) k.nexts l
          is next;
      first = first ∙ (k.first ∙ sym (count_same (is_on First) xs i s t l is refl));
      second = second ∙ (k.second ∙ sym (count_same (is_on Second) xs i s t l is refl));
    }

-- a poll asks something else, or nothing
never_asks : (a b : Bool) (o : Option ℕ) → b ≡ false → (if a && b then o else None) ≡ None
never_asks a b o h = grind (arith, h)

still_asks : (asked : Asked) → asks (left asked) ≡ true → asks asked ≡ true
still_asks Nothing h = h
still_asks (Oldest last) h = refl
still_asks (Gone last) h = refl

pub kept_left : {A : Type 0} (xs : List Sent) (i : ℕ) (s : Sent) (old new : Tallies A) → i < length xs
    → s ≡ command_at xs i → IsTally by_asked new.asked.counts.items (set xs i (record s { asked = left s.asked }))
    → new.names ≡ old.names → new.fences ≡ old.fences → new.lines ≡ old.lines → new.statuses ≡ old.statuses
    → new.nexts ≡ old.nexts → new.first ≡ old.first → new.second ≡ old.second
    → IsKept xs old → IsKept (set xs i (record s { asked = left s.asked })) new
kept_left xs i s old new l is asked names fences lines statuses nexts first second k =
    let t : Sent = record s { asked = left s.asked } in
    record {
      names = rw names (tally_same by_name _ xs i s t l is refl k.names);
      fences = rw fences (tally_same by_fence _ xs i s t l is refl k.fences);
      lines = rw lines (tally_same by_line _ xs i s t l is refl k.lines);
      asked = asked;
      statuses = rw statuses (tally_same by_status _ xs i s t l is refl k.statuses);
      nexts = rw nexts (tally_same by_next _ xs i s t l is refl k.nexts);
      first = first ∙ (k.first ∙ sym (count_same (is_on First) xs i s t l is refl));
      second = second ∙ (k.second ∙ sym (count_same (is_on Second) xs i s t l is refl));
    }

pub asked_more : (cs : List ℕ) (xs : List Sent) (i : ℕ) (s : Sent) → i < length xs → s ≡ command_at xs i
    → asks (left s.asked) ≡ true → IsTally by_asked cs xs
    → IsTally by_asked cs (set xs i (record s { asked = left s.asked }))
asked_more cs xs i s l is h k =
    tally_same by_asked cs xs i s (record s { asked = left s.asked }) l is
    (ap (λ b. if nat_eq s.opcode 2 && b then slot_if s.connection s.parameter else None)
    (h ∙ sym (still_asks s.asked h))) k

pub asked_less : (cs ds : List ℕ) (xs : List Sent) (i : ℕ) (s : Sent) (o : Option ℕ) → i < length xs
    → s ≡ command_at xs i → o ≡ by_asked s → asks (left s.asked) ≡ false → IsTally by_asked cs xs
    → ((j : ℕ) → get_or ds j 65535 ≡ (if is_it o j then fewer (get_or cs j 65535) else get_or cs j 65535))
    → IsTally by_asked ds (set xs i (record s { asked = left s.asked }))
asked_less cs ds xs i s o l is e h k less =
    tally_gone by_asked cs ds xs i s (record s { asked = left s.asked }) o e
    (never_asks (nat_eq s.opcode 2) (asks (left s.asked)) (slot_if s.connection s.parameter) h) k l is less

-- ---- who hears it
pub never_turned : (a b : Bool) → b ≡ false → (not a && b) ≡ false
never_turned a b h = grind arith

-- one that has heard it, or that it isn't said to, stays as it is
pub unmarked : (y s : Sent) → (not s.beside && turns_beside y s) ≡ false → besides y s ≡ s
unmarked y s h = by_bool (turns_beside y s) (λ b. heard_before s.beside b) h
  where
    heard_before : (b : Bool) → b ≡ true → record s { beside = true } ≡ record s { beside = b }
    heard_before b e = ap (λ x. record s { beside = x }) (sym e)

    by_bool : (b : Bool) → (s.beside ≡ true → record s { beside = true } ≡ s) → (not s.beside && b) ≡ false
        → (if b then record s { beside = true } else s) ≡ s
    by_bool true f k = f (grind arith)
    by_bool false f k = refl

pub still : (y : Sent) → turns y.opcode ≡ false → (xs : List Sent) → xs ≡ map (besides y) xs
still y h [] = refl
still y h (x ∷ xs) =
    ap (λ l. x ∷ l) (still y h xs)
    ∙ ap (λ z. z ∷ map (besides y) xs)
    (sym (ap (λ b. if b && nat_eq x.opcode 3 && same_connection x.connection y.connection
    && (x.next || nat_eq x.unit y.unit) then record x { beside = true } else x) h))

same_slot : (k : ℕ) → nat_eq k k ≡ true
same_slot k = grind (arith, nat_tests)

-- a command of this connection and unit falls to its number
slot_like : (c v : Connection) (m n : ℕ) → (same_connection c v && nat_eq m n) ≡ true
    → is_it (Some (slot_of c m)) (slot_of v n) ≡ true
slot_like c v m n h =
    ap (λ k. nat_eq (slot k) (slot_of v n)) (eqb-true _ _ (same_key c v m n ∙ h)) ∙ same_slot (slot_of v n)

-- one that isn't counted
uncounted : (y s : Sent) → is_it (by_status s) (slot_of y.connection y.unit) ≡ false
    → is_it (by_next s) (slot_of y.connection 0) ≡ false → besides y s ≡ s
uncounted y s h k = unmarked y s (by_bool (not s.beside && turns_beside y s) refl)
  where
    parts : (a b c d e f : Bool) → (not a && (b && c && d && (e || f))) ≡ true
        → (a ≡ false) × ((c ≡ true) × ((d ≡ true) × ((e || f) ≡ true)))
    parts a b c d e f q = (grind arith, (grind arith, (grind arith, grind arith)))

    by_next_or : (n : Bool) → s.next ≡ n → s.beside ≡ false → nat_eq s.opcode 3 ≡ true
        → same_connection s.connection y.connection ≡ true → (n || nat_eq s.unit y.unit) ≡ true → true ≡ false
    by_next_or true e b o c q =
        let is : by_next s ≡ Some (slot_of s.connection 0) =
        ap (λ x. if x && s.next && not s.beside then Some (slot_of s.connection 0) else None) o
        ∙ (ap (λ x. if true && x && not s.beside then Some (slot_of s.connection 0) else None) e
        ∙ ap (λ x. if true && true && not x then Some (slot_of s.connection 0) else None) b) in
        sym (ap (λ z. is_it z (slot_of y.connection 0)) is
        ∙ slot_like s.connection y.connection 0 0 (ap (λ x. x && true) c)) ∙ k
    by_next_or false e b o c q =
        let is : by_status s ≡ Some (slot_of s.connection s.unit) =
        ap (λ x. if x && not s.next && not s.beside then Some (slot_of s.connection s.unit) else None) o
        ∙ (ap (λ x. if true && not x && not s.beside then Some (slot_of s.connection s.unit) else None) e
        ∙ ap (λ x. if true && true && not x then Some (slot_of s.connection s.unit) else None) b) in
        sym (ap (λ z. is_it z (slot_of y.connection y.unit)) is
        ∙ slot_like s.connection y.connection s.unit y.unit (ap (λ x. x && nat_eq s.unit y.unit) c ∙ q)) ∙ h

    by_bool : (b : Bool) → (not s.beside && turns_beside y s) ≡ b → (not s.beside && turns_beside y s) ≡ false
    by_bool false e = e
    by_bool true e =
        let p = parts s.beside (turns y.opcode) (nat_eq s.opcode 3) (same_connection s.connection y.connection) s.next
        (nat_eq s.unit y.unit) e in
        e ∙ by_next_or s.next refl p.0 p.1.0 p.1.1.0 p.1.1.1

map_neither : (q r : Sent → Bool) (f : Sent → Sent) → ((s : Sent) → q s ≡ false → r s ≡ false → f s ≡ s)
    → (xs : List Sent) → count_by q xs ≡ 0 → count_by r xs ≡ 0 → xs ≡ map f xs
map_neither q r f h [] e k = refl
map_neither q r f h (x ∷ xs) e k =
    let a = count_none q x xs e in
    let b = count_none r x xs k in
    ap (λ l. x ∷ l) (map_neither q r f h xs a.1 b.1) ∙ ap (λ y. y ∷ map f xs) (sym (h x a.0 b.0))

pub none_marked : (y : Sent) (cs ds : List ℕ) (xs ys : List Sent) → ys ≡ xs → IsTally by_status cs ys
    → IsTally by_next ds ys
    → (nat_eq (get_or cs (slot_of y.connection y.unit) 65535) 0 && nat_eq (get_or ds (slot_of y.connection 0) 65535) 0)
    ≡ true → xs ≡ map (besides y) xs
none_marked y cs ds xs ys same h k none =
    let p = both (nat_eq (get_or cs (slot_of y.connection y.unit) 65535) 0)
    (nat_eq (get_or ds (slot_of y.connection 0) 65535) 0) none in
    let m = eqb-true (get_or cs (slot_of y.connection y.unit) 65535) 0 p.0 in
    let n = eqb-true (get_or ds (slot_of y.connection 0) 65535) 0 p.1 in
    map_neither (λ s. is_it (by_status s) (slot_of y.connection y.unit))
    (λ s. is_it (by_next s) (slot_of y.connection 0))
    (besides y) (uncounted y) xs
    (ap (count_by (λ s. is_it (by_status s) (slot_of y.connection y.unit))) (sym same)
    ∙ (sym (h (slot_of y.connection y.unit) (omega (arith, m))) ∙ m))
    (ap (count_by (λ s. is_it (by_next s) (slot_of y.connection 0))) (sym same)
    ∙ (sym (k (slot_of y.connection 0) (omega (arith, n))) ∙ n))
  where
    both : (a b : Bool) → (a && b) ≡ true → (a ≡ true) × (b ≡ true)
    both a b q = (grind arith, grind arith)

-- what is heard of figures, and of states
pub heard_all : (y : Sent) (e : Answer) (xs : List Sent) → map (besides y) (map (heard y e) xs) ≡ map (hears y e) xs
heard_all y e [] = refl
heard_all y e (x ∷ xs) =
    ap (λ z. z ∷ map (besides y) (map (heard y e) xs)) (by_bool (turns_beside y x))
    ∙ ap (λ l. hears y e x ∷ l) (heard_all y e xs)
  where
    by_bool : (b : Bool) → (if b then record (heard y e x) { beside = true } else heard y e x)
        ≡ record (heard y e x) { beside = b || x.beside }
    by_bool true = refl
    by_bool false = refl

-- ---- which are outstanding
turning_slot : (via : Connection) (unit : ℕ) (s : Sent) → is_turning via unit s ≡ true
    → is_it (by_fence s) (slot_of via unit) ≡ true
turning_slot via unit s h =
    let p = parts (turns s.opcode) (same_connection s.connection via) (nat_eq s.unit unit) h in
    ap (λ b. is_it (if b then Some (slot_of s.connection s.unit) else None) (slot_of via unit))
    (sequential s.opcode p.0)
    ∙ slot_like s.connection via s.unit unit p.1
  where
    parts : (a b c : Bool) → (a && b && c) ≡ true → (a ≡ true) × ((b && c) ≡ true)
    parts a b c q = (grind arith, grind arith)

    sequential : (opcode : ℕ) → turns opcode ≡ true → is_sequential opcode ≡ true
    sequential opcode q = by_bool (nat_eq opcode 8) refl q
      where
        by_bool : (b : Bool) → nat_eq opcode 8 ≡ b → (b || nat_eq opcode 9) ≡ true → is_sequential opcode ≡ true
        by_bool true e r = ap is_sequential (eqb-true opcode 8 e)
        by_bool false e r = ap is_sequential (eqb-true opcode 9 r)

pub none_turning : (via : Connection) (unit : ℕ) (cs : List ℕ) (xs ys : List Sent) (slot k : ℕ) → ys ≡ xs
    → slot ≡ slot_of via unit → IsTally by_fence cs ys → k ≡ get_or cs slot 65535 → k ≡ 0
    → list_any (is_turning via unit) xs ≡ false
none_turning via unit cs xs ys slot k same at h e none =
    none_counted (is_turning via unit) (λ s. is_it (by_fence s) slot)
    (λ s q. ap (is_it (by_fence s)) at ∙ turning_slot via unit s q) xs
    (ap (count_by (λ s. is_it (by_fence s) slot)) (sym same) ∙ sym (h slot (omega (arith, e, none))) ∙ sym e ∙ none)

-- a command left
pub removed : (f : Sent → Sent) (xs : List Sent) (i : ℕ)
    → map f (remove xs i) ≡ map f (take i xs ++ drop (i + 1) xs)
removed f xs i =
    let one : suc i ≡ i + 1 = omega arith in
    ap (λ n. map f (take i xs ++ drop n xs)) one
