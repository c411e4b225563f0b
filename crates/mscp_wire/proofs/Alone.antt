-- Which questions about the commands that are outstanding have their answer in one count.
use Rattle.mscp_wire.proofs.Common.{Answer, Asked, Bool, Connection, First, Gone, IsTally, List, None, Nothing, Oldest, Option, Sent, Some, [], ap, arith, asks, asks_oldest, by_asked, by_fence, by_line, by_name, command_at, cond, count_by, drop, drop_more, eqb-true, false, get_or, heard, if◌then◌else◌, is_it, is_named, is_ordered, is_polled, is_sequential, keeps_back, leaves, left, length, list_any, map, nat_eq, nat_tests, polled_by, polls, position, refl, same_connection, sent_by, set, slot, slot_if, slot_of, suc, sum_by-append, sum_by-cons, sym, take, take-append-drop, tells, true, with_figure, zero, ℕ, ◌&&◌, ◌+◌, ◌<◌, ◌||◌, ◌∙◌, ◌∷◌, ◌≡◌, ◌≤◌}
use Rattle.mscp_wire.proofs.Keys.{same_key}
use Rattle.mscp_wire.proofs.Names.{count_at, place_at}

-- none is counted
pub count_none : (q : Sent → Bool) (x : Sent) (xs : List Sent) → count_by q (x ∷ xs) ≡ 0
    → (q x ≡ false) × (count_by q xs ≡ 0)
count_none q x xs h =
    let whole = sum_by-cons (λ s. cond (q s) 1 0) x xs in
    by_bool (q x) refl (omega (arith, h, whole))
  where
    by_bool : (b : Bool) → q x ≡ b → cond (q x) 1 0 + count_by q xs ≡ 0 → (q x ≡ false) × (count_by q xs ≡ 0)
    by_bool true e k = absurd (omega (arith, k, ap {B = ℕ} (λ b. cond b 1 0) e))
    by_bool false e k = (e, omega (arith, k))

-- so none is sought, where each that is sought is counted
without : (p q : Sent → Bool) → ((s : Sent) → p s ≡ true → q s ≡ true) → (s : Sent) → q s ≡ false → p s ≡ false
without p q h s e = by_bool (p s) refl
  where
    by_bool : (b : Bool) → p s ≡ b → p s ≡ false
    by_bool true k = absurd (omega (arith, ap {B = ℕ} (λ b. cond b 1 0) e, ap {B = ℕ} (λ b. cond b 1 0) (h s k)))
    by_bool false k = k

pub none_counted : (p q : Sent → Bool) → ((s : Sent) → p s ≡ true → q s ≡ true) → (xs : List Sent)
    → count_by q xs ≡ 0 → list_any p xs ≡ false
none_counted p q h [] e = refl
none_counted p q h (x ∷ xs) e =
    let parts = count_none q x xs e in
    ap (λ b. b || list_any p xs) (without p q h x parts.0) ∙ none_counted p q h xs parts.1

-- one is counted: those before and behind it aren't
around : (q : Sent → Bool) (xs : List Sent) (i : ℕ) → i < length xs → count_by q xs ≡ 1
    → q (command_at xs i) ≡ true → (count_by q (take i xs) ≡ 0) × (count_by q (drop (i + 1) xs) ≡ 0)
around q xs i l one at =
    let whole : count_by q (take i xs) + count_by q (drop i xs) ≡ count_by q xs =
    sym (sum_by-append (λ s. cond (q s) 1 0) (take i xs) (drop i xs)) ∙ ap (count_by q) (take-append-drop i xs) in
    let part : count_by q (drop i xs) ≡ 1 + count_by q (drop (i + 1) xs) =
    ap (count_by q) (drop_more xs i (sent_by First []) l)
    ∙ (sum_by-cons (λ s. cond (q s) 1 0) (command_at xs i) (drop (i + 1) xs)
    ∙ ap (λ b. cond b 1 0 + count_by q (drop (i + 1) xs)) at) in
    (omega (arith, whole, part, one), omega (arith, whole, part, one))

pub alone : (p q : Sent → Bool) → ((s : Sent) → p s ≡ true → q s ≡ true) → (xs : List Sent) (i : ℕ) → i < length xs
    → count_by q xs ≡ 1 → q (command_at xs i) ≡ true → list_any p (take i xs) ≡ false
alone p q h xs i l one at = none_counted p q h (take i xs) (around q xs i l one at).0

-- ---- names
-- a command that has a name is counted by it
named_slot : (via : Connection) (n : ℕ) (s : Sent) → is_named via n s ≡ true
    → is_it (by_name s) (slot_of via n) ≡ true
named_slot via n s h =
    ap (λ k. nat_eq (slot k) (slot_of via n)) (eqb-true _ _ (same_key s.connection via s.reference n ∙ h))
    ∙ same (slot_of via n)
  where
    same : (k : ℕ) → nat_eq k k ≡ true
    same k = grind (arith, nat_tests)

pub named_none : (via : Connection) (n : ℕ) (cs : List ℕ) (xs ys : List Sent) (slot k : ℕ) → ys ≡ xs
    → slot ≡ slot_of via n → IsTally by_name cs ys → k ≡ get_or cs slot 65535 → k ≡ 0
    → list_any (is_named via n) xs ≡ false
named_none via n cs xs ys slot k same at h e none =
    none_counted (is_named via n) (λ s. is_it (by_name s) slot)
    (λ s q. ap (is_it (by_name s)) at ∙ named_slot via n s q) xs
    (ap (count_by (λ s. is_it (by_name s) slot)) (sym same) ∙ sym (h slot (omega (arith, e, none))) ∙ sym e ∙ none)

pub named_alone : (via : Connection) (n : ℕ) (cs : List ℕ) (xs ys : List Sent) (slot k i : ℕ) → ys ≡ xs
    → slot ≡ slot_of via n → IsTally by_name cs ys → k ≡ get_or cs slot 65535 → k ≡ 1 → i < length xs
    → is_named via n (command_at xs i) ≡ true → Some i ≡ position (is_named via n) xs
named_alone via n cs xs ys slot k i same at h e one b named =
    let counts = λ (s : Sent) (q : is_named via n s ≡ true). ap (is_it (by_name s)) at ∙ named_slot via n s q in
    sym (place_at (is_named via n) xs i b
    (alone (is_named via n) (λ s. is_it (by_name s) slot) counts xs i b
    (ap (count_by (λ s. is_it (by_name s) slot)) (sym same) ∙ sym (h slot (omega (arith, e, one))) ∙ sym e ∙ one)
    (counts (command_at xs i) named)) named)

-- ---- who is kept back
none_at_all : (p : Sent → Bool) → ((s : Sent) → p s ≡ false) → (xs : List Sent) → list_any p xs ≡ false
none_at_all p h [] = refl
none_at_all p h (x ∷ xs) = ap (λ b. b || list_any p xs) (h x) ∙ none_at_all p h xs

keeping : (a b c d e f : Bool) → (a && b && ((c && (d || e)) || (f && d))) ≡ true
    → ((a && b) ≡ true) × ((c || f) ≡ true)
keeping a b c d e f h = (grind arith, grind arith)

keeping_back : (a b c d e f : Bool) → d ≡ false → (a && b && ((c && (d || e)) || (f && d))) ≡ true
    → ((a && b) ≡ true) × (c ≡ true)
keeping_back a b c d e f k h = (grind arith, grind arith)

kept_by_none : (a b c d e f : Bool) → d ≡ false → e ≡ false → (a && b && ((c && (d || e)) || (f && d))) ≡ false
kept_by_none a b c d e f h k = grind arith

-- a command of its unit falls to the same number
unit_slot : (y s : Sent) → (same_connection s.connection y.connection && nat_eq s.unit y.unit) ≡ true
    → is_it (Some (slot_of s.connection s.unit)) (slot_of y.connection y.unit) ≡ true
unit_slot y s h =
    ap (λ k. nat_eq (slot k) (slot_of y.connection y.unit))
    (eqb-true _ _ (same_key s.connection y.connection s.unit y.unit ∙ h)) ∙ same (slot_of y.connection y.unit)
  where
    same : (k : ℕ) → nat_eq k k ≡ true
    same k = grind (arith, nat_tests)

line_slot : (y s : Sent) → keeps_back y s ≡ true → is_it (by_line s) (slot_of y.connection y.unit) ≡ true
line_slot y s h =
    let parts = keeping (same_connection s.connection y.connection) (nat_eq s.unit y.unit) (is_sequential s.opcode)
    (is_sequential y.opcode) (is_ordered y.opcode) (is_ordered s.opcode) h in
    ap (λ b. is_it (if b then Some (slot_of s.connection s.unit) else None) (slot_of y.connection y.unit)) parts.1
    ∙ unit_slot y s parts.0

fence_slot : (y s : Sent) → is_sequential y.opcode ≡ false → keeps_back y s ≡ true
    → is_it (by_fence s) (slot_of y.connection y.unit) ≡ true
fence_slot y s k h =
    let parts = keeping_back (same_connection s.connection y.connection) (nat_eq s.unit y.unit)
    (is_sequential s.opcode) (is_sequential y.opcode) (is_ordered y.opcode) (is_ordered s.opcode) k h in
    ap (λ b. is_it (if b then Some (slot_of s.connection s.unit) else None) (slot_of y.connection y.unit)) parts.1
    ∙ unit_slot y s parts.0

own_slot : (y : Sent) → is_sequential y.opcode ≡ true → is_it (by_line y) (slot_of y.connection y.unit) ≡ true
own_slot y h =
    ap (λ b. is_it (if b || is_ordered y.opcode then Some (slot_of y.connection y.unit) else None)
    (slot_of y.connection y.unit)) h
    ∙ same (slot_of y.connection y.unit)
  where
    same : (k : ℕ) → nat_eq k k ≡ true
    same k = grind (arith, nat_tests)

-- a sequential command that is alone in its line
pub alone_in_line : (y : Sent) (cs : List ℕ) (xs ys : List Sent) (slot k i : ℕ) → ys ≡ xs
    → slot ≡ slot_of y.connection y.unit → IsTally by_line cs ys → k ≡ get_or cs slot 65535
    → is_sequential y.opcode ≡ true → i < length xs → y ≡ command_at xs i → k ≡ 1
    → list_any (keeps_back y) (take i xs) ≡ false
alone_in_line y cs xs ys slot k i same at h e seq b is one =
    alone (keeps_back y) (λ s. is_it (by_line s) slot) (λ s q. ap (is_it (by_line s)) at ∙ line_slot y s q) xs i b
    (ap (count_by (λ s. is_it (by_line s) slot)) (sym same) ∙ sym (h slot (omega (arith, e, one))) ∙ sym e ∙ one)
    (ap (λ s. is_it (by_line s) slot) (sym is) ∙ ap (is_it (by_line y)) at ∙ own_slot y seq)

-- one that isn't, where none in its line is sequential
pub none_in_line : (y : Sent) (cs : List ℕ) (xs ys : List Sent) (slot k i : ℕ) → ys ≡ xs
    → slot ≡ slot_of y.connection y.unit → IsTally by_fence cs ys → k ≡ get_or cs slot 65535
    → is_sequential y.opcode ≡ false → k ≡ 0 → list_any (keeps_back y) (take i xs) ≡ false
none_in_line y cs xs ys slot k i same at h e seq empty =
    let q = λ (s : Sent). is_it (by_fence s) slot in
    let whole : count_by q (take i xs) + count_by q (drop i xs) ≡ count_by q xs =
    sym (sum_by-append (λ s. cond (q s) 1 0) (take i xs) (drop i xs)) ∙ ap (count_by q) (take-append-drop i xs) in
    let none : count_by q xs ≡ 0 =
    ap (count_by q) (sym same) ∙ sym (h slot (omega (arith, e, empty))) ∙ sym e ∙ empty in
    none_counted (keeps_back y) q (λ s r. ap (is_it (by_fence s)) at ∙ fence_slot y s seq r) (take i xs)
    (omega (arith, whole, none))

-- one that is neither sequential nor has its place beside such
pub never_kept_back : (y : Sent) (xs : List Sent) → is_sequential y.opcode ≡ false → is_ordered y.opcode ≡ false
    → list_any (keeps_back y) xs ≡ false
never_kept_back y xs h k =
    none_at_all (keeps_back y)
    (λ s. kept_by_none (same_connection s.connection y.connection) (nat_eq s.unit y.unit) (is_sequential s.opcode)
    (is_sequential y.opcode) (is_ordered y.opcode) (is_ordered s.opcode) h k) xs

-- ---- what is heard
map_none : (q : Sent → Bool) (f : Sent → Sent) → ((s : Sent) → q s ≡ false → f s ≡ s) → (xs : List Sent)
    → count_by q xs ≡ 0 → map f xs ≡ xs
map_none q f h [] e = refl
map_none q f h (x ∷ xs) e =
    let parts = count_none q x xs e in
    ap (λ y. y ∷ map f xs) (h x parts.0) ∙ ap (λ l. x ∷ l) (map_none q f h xs parts.1)

-- only the one that is counted may change
map_alone : (q : Sent → Bool) (f : Sent → Sent) → ((s : Sent) → q s ≡ false → f s ≡ s) → (xs : List Sent) (i : ℕ)
    → i < length xs → count_by q xs ≡ 1 → q (command_at xs i) ≡ true → map f xs ≡ set xs i (f (command_at xs i))
map_alone q f h [] i l one at = absurd (omega (arith, l))
map_alone q f h (x ∷ xs) zero l one at =
    ap (λ l. f x ∷ l) (map_none q f h xs
    (omega (arith, one, sum_by-cons (λ s. cond (q s) 1 0) x xs, ap {B = ℕ} (λ b. cond b 1 0) at)))
map_alone q f h (x ∷ xs) (suc i) l one at =
    let short : i < length xs = omega (arith, l) in
    by_bool (q x) refl short
    (omega (arith, count_at q xs i (sent_by First []) short, ap {B = ℕ} (λ b. cond b 1 0) at))
    (λ e. map_alone q f h xs i short e at)
  where
    by_bool : (b : Bool) → q x ≡ b → i < length xs → 1 ≤ count_by q xs
        → (count_by q xs ≡ 1 → map f xs ≡ set xs i (f (command_at xs i)))
        → f x ∷ map f xs ≡ x ∷ set xs i (f (command_at xs i))
    by_bool true e s m rest =
        absurd (omega (arith, m, one, sum_by-cons (λ s. cond (q s) 1 0) x xs, ap {B = ℕ} (λ b. cond b 1 0) e))
    by_bool false e s m rest =
        ap (λ y. y ∷ map f xs) (h x e)
        ∙ ap (λ l. x ∷ l) (rest
        (omega (arith, one, sum_by-cons (λ s. cond (q s) 1 0) x xs, ap {B = ℕ} (λ b. cond b 1 0) e)))

-- those of another number aren't told
untold : (via : Connection) (n slot : ℕ) (figure time : Option ℕ) → slot ≡ slot_of via n → (s : Sent)
    → is_it (by_name s) slot ≡ false → tells via n figure time s ≡ s
untold via n slot figure time at s h =
    ap (λ b. if b then with_figure figure time s else s)
    (without (is_named via n) (λ s. is_it (by_name s) slot)
    (λ s q. ap (is_it (by_name s)) at ∙ named_slot via n s q) s h)

pub told_none : (via : Connection) (n : ℕ) (figure time : Option ℕ) (cs : List ℕ) (xs ys : List Sent) (slot k : ℕ)
    → ys ≡ xs → slot ≡ slot_of via n → IsTally by_name cs ys → k ≡ get_or cs slot 65535 → k ≡ 0
    → xs ≡ map (tells via n figure time) xs
told_none via n figure time cs xs ys slot k same at h e none =
    sym (map_none (λ s. is_it (by_name s) slot) (tells via n figure time) (untold via n slot figure time at) xs
    (ap (count_by (λ s. is_it (by_name s) slot)) (sym same) ∙ sym (h slot (omega (arith, e, none))) ∙ sym e ∙ none))

pub told_alone : (via : Connection) (n : ℕ) (figure time : Option ℕ) (cs : List ℕ) (xs ys zs : List Sent)
    (slot k i : ℕ) (x y : Sent) → ys ≡ xs → slot ≡ slot_of via n → IsTally by_name cs ys
    → k ≡ get_or cs slot 65535 → k ≡ 1 → i < length xs → is_named via n (command_at xs i) ≡ true → x ≡ command_at xs i
    → y ≡ tells via n figure time x → zs ≡ set ys i y → zs ≡ map (tells via n figure time) xs
told_alone via n figure time cs xs ys zs slot k i x y same at h e one b named is put new =
    new ∙ ap (λ q. set q i y) same ∙ ap (set xs i) (put ∙ ap (tells via n figure time) is)
    ∙ sym (map_alone (λ s. is_it (by_name s) slot) (tells via n figure time) (untold via n slot figure time at) xs i b
    (ap (count_by (λ s. is_it (by_name s) slot)) (sym same) ∙ sym (h slot (omega (arith, e, one))) ∙ sym e ∙ one)
    (ap (is_it (by_name (command_at xs i))) at ∙ named_slot via n (command_at xs i) named))

-- a poll of a command that asks something is counted by that
asked_slot : (y s : Sent) → polls y s ≡ true → asks s.asked ≡ true
    → is_it (by_asked s) (slot_of y.connection y.reference) ≡ true
asked_slot y s h more =
    let parts = three (same_connection s.connection y.connection) (nat_eq s.opcode 2) (is_it s.parameter y.reference) h
    in
    ap (λ b. is_it (if b && asks s.asked then slot_if s.connection s.parameter else None)
    (slot_of y.connection y.reference)) parts.1.0
    ∙ (ap (λ b. is_it (if true && b then slot_if s.connection s.parameter else None)
    (slot_of y.connection y.reference)) more
    ∙ named s.parameter parts.0 parts.1.1)
  where
    three : (a b c : Bool) → (a && b && c) ≡ true → (a ≡ true) × ((b ≡ true) × (c ≡ true))
    three a b c h = (grind arith, (grind arith, grind arith))

    same : (k : ℕ) → nat_eq k k ≡ true
    same k = grind (arith, nat_tests)

    named : (o : Option ℕ) → same_connection s.connection y.connection ≡ true → is_it o y.reference ≡ true
        → is_it (slot_if s.connection o) (slot_of y.connection y.reference) ≡ true
    named None a b = b
    named (Some n) a b =
        ap (λ k. nat_eq (slot k) (slot_of y.connection y.reference))
        (eqb-true _ _ (same_key s.connection y.connection n y.reference
        ∙ ap (λ x. x && nat_eq n y.reference) a ∙ b))
        ∙ same (slot_of y.connection y.reference)

-- the others aren't left
unleft : (y : Sent) (slot : ℕ) → slot ≡ slot_of y.connection y.reference → (s : Sent)
    → is_it (by_asked s) slot ≡ false → leaves y s ≡ s
unleft y slot at s h = by_asks s.asked refl
  where
    stays : (a : Asked) → s.asked ≡ a → left a ≡ a → leaves y s ≡ s
    stays a e q = by_polls (polls y s)
      where
        by_polls : (b : Bool) → (if b then record s { asked = left s.asked } else s) ≡ s
        by_polls true = ap (λ x. record s { asked = x }) (ap left e ∙ (q ∙ sym e))
        by_polls false = refl

    none : (b : Bool) → polls y s ≡ b → asks s.asked ≡ true → polls y s ≡ false
    none true q more = absurd (omega (
      arith,
      ap {B = ℕ} (λ x. cond x 1 0) (sym (ap (is_it (by_asked s)) at ∙ asked_slot y s q more) ∙ h),
    ))
    none false q more = q

    asking : asks s.asked ≡ true → leaves y s ≡ s
    asking more =
        ap (λ b. if b then record s { asked = left s.asked } else s)
        (none (polls y s) refl more)

    by_asks : (a : Asked) → s.asked ≡ a → leaves y s ≡ s
    by_asks Nothing e = stays Nothing e refl
    by_asks (Oldest last) e = asking (ap asks e)
    by_asks (Gone last) e = asking (ap asks e)

pub left_none : (y : Sent) (cs : List ℕ) (xs ys : List Sent) (slot k : ℕ) → ys ≡ xs
    → slot ≡ slot_of y.connection y.reference → IsTally by_asked cs ys → k ≡ get_or cs slot 65535 → k ≡ 0
    → xs ≡ map (leaves y) xs
left_none y cs xs ys slot k same at h e empty =
    sym (map_none (λ s. is_it (by_asked s) slot) (leaves y) (unleft y slot at) xs
    (ap (count_by (λ s. is_it (by_asked s) slot)) (sym same) ∙ sym (h slot (omega (arith, e, empty))) ∙ sym e
    ∙ empty))

-- the end of a poll of the oldest command tells its figure to those of a name, after those that polled it were left
told_left : (y : Sent) (e : Answer) (n : ℕ) (s : Sent) → asks_oldest y.asked ≡ true → polled_by y e ≡ Some n
    → tells e.connection n e.figure y.time (leaves y s) ≡ heard y e s
told_left y e n s asks polled =
    by_left (polls y s)
    ∙ sym (ap (λ b. record s {
      told = if b then e.figure else s.told;
      polled = if b then y.time else s.polled;
      asked = if polls y s then left s.asked else s.asked;
    }) (ap (λ b. b && is_polled e.connection (polled_by y e) s) asks ∙ ap (λ o. is_polled e.connection o s) polled))
  where
    when_left : (b : Bool) → (if b
        then with_figure e.figure y.time (record s { asked = left s.asked }) else record s { asked = left s.asked })
        ≡ record s {
          told = if b then e.figure else s.told;
          polled = if b then y.time else s.polled;
          asked = left s.asked;
        }
    when_left true = refl
    when_left false = refl

    when_not : (b : Bool) → (if b then with_figure e.figure y.time s else s) ≡ record s {
      told = if b then e.figure else s.told;
      polled = if b then y.time else s.polled;
      asked = s.asked;
    }
    when_not true = refl
    when_not false = refl

    by_left : (b : Bool)
        → tells e.connection n e.figure y.time (if b then record s { asked = left s.asked } else s) ≡ record s {
          told = if is_named e.connection n s then e.figure else s.told;
          polled = if is_named e.connection n s then y.time else s.polled;
          asked = if b then left s.asked else s.asked;
        }
    by_left true = when_left (is_named e.connection n s)
    by_left false = when_not (is_named e.connection n s)

pub heard_both : (y : Sent) (e : Answer) (n : ℕ) (xs ys zs : List Sent) → asks_oldest y.asked ≡ true
    → polled_by y e ≡ Some n → ys ≡ map (leaves y) xs → zs ≡ map (tells e.connection n e.figure y.time) ys
    → zs ≡ map (heard y e) xs
heard_both y e n xs ys zs asks polled l t =
    t ∙ ap (map (tells e.connection n e.figure y.time)) l ∙ over xs
  where
    over : (xs : List Sent) → map (tells e.connection n e.figure y.time) (map (leaves y) xs) ≡ map (heard y e) xs
    over [] = refl
    over (x ∷ xs) =
        ap (λ s. s ∷ map (tells e.connection n e.figure y.time) (map (leaves y) xs)) (told_left y e n x asks polled)
        ∙ ap (λ l. heard y e x ∷ l) (over xs)
