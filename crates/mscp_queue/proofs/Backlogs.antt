-- What a leave makes of the waiting commands, their dues, and what is left of all.
use Rattle.mscp_queue.proofs.Basics.{Name, has_name, list_any, IfSome, Option, ◌||◌, left_if_serving, passes, told_most, unspent_tells, eqb-false, eqb-true, figure_at, is_unstarted, lt-ltb, tells, ◌≡◌, ◌<◌, ◌≤◌, ◌+◌, ◌-◌, ℕ, suc, true, false, not, List, [], ◌∷◌, ◌++◌, map, take, drop, get_or, length, append_assoc, sym, subst, ap, ◌∙◌, refl, arith, All, sum_by, AllByRecursion, drop-map, get_or-map, length-append, length-take-le, map-append, take-map, take_more, All-from_recursion, recursion_from_All, sum_by-append, sum_by-cons, Target, Slot, AreDue, AreTimed, Waiters, Record, bare, record_at, told, is_in_service, left_of, no_target, targets, is_unfenced, is_unfenced_at, items, kind_of, kinds_of, lowered_by, no_slot, slot_at, abort_enough, due_aborted, due_ended, end_enough, items_append, items_fallen, AreIdle, all_shown, told_aborted, told_back, told_ended, told_front, told_item, told_left, told_long}
use Rattle.mscp_queue.proofs.Placed.{at_place, cut_at, map_map}

pub cut : (ss : List Slot) (place : ℕ) → place < length ss
    → ss ≡ take place ss ++ slot_at ss place ∷ drop (place + 1) ss
cut ss place l = cut_at no_slot ss place l

-- how many wait, and what is left of all
pub long_is : (budget clock : ℕ) (ss : List Slot) {now : Waiters}
    → record { budget = budget; waiting = told budget clock ss; targets = targets ss } ≡ now
    → length ss ≡ length now.waiting
long_is budget clock ss view = sym (told_long budget clock ss) ∙ ap (λ (w : Waiters). length w.waiting) view

pub total_is : {budget clock total : ℕ} {ss : List Slot} {now : Waiters} → AreTimed budget clock total ss
    → record { budget = budget; waiting = told budget clock ss; targets = targets ss } ≡ now
    → total ≡ sum_by left_of now.waiting
total_is {budget} {clock} {total} {ss} t view =
    t.left ∙ (sym (told_left budget clock ss) ∙ ap (λ (w : Waiters). sum_by left_of w.waiting) view)

-- whether one has a name
pub any_is : (name : Name) (budget clock : ℕ) (ss : List Slot)
    → list_any (has_name name) (told budget clock ss) ≡ list_any (has_name name) (items ss)
any_is name budget clock [] = refl
any_is name budget clock (s ∷ ss) = ap (λ b. has_name name s.item || b) (any_is name budget (clock + left_of s.item) ss)

-- a place among waiting commands is a slot's, and the command stands there
pub place_in : (budget clock : ℕ) (ss : List Slot) {rs : List Record} {place : ℕ} → told budget clock ss ≡ rs
    → place < length rs → place < length ss
place_in budget clock ss w l = omega (arith, l, ap length w, told_long budget clock ss)

pub item_at : {budget clock total : ℕ} {ss : List Slot} {rs : List Record} {place : ℕ} → AreTimed budget clock total ss
    → told budget clock ss ≡ rs → place < length rs → (slot_at ss place).item ≡ bare (record_at rs place)
item_at t w l = grind (arith, w, told_item, place_in)

pub some_is : {budget clock total : ℕ} {ss : List Slot} {rs : List Record} (name : Name) (o : Option ℕ)
    → AreTimed budget clock total ss → told budget clock ss ≡ rs
    → IfSome o (λ place. (place < length ss) × (has_name name (slot_at ss place).item ≡ true))
    → IfSome o (λ place. (place < length rs) × (has_name name (record_at rs place) ≡ true))
some_is h1 h2 h3 h4 h5 = grind (arith, told_long, item_at)

module _ (budget clock : ℕ) (ss : List Slot) (rs : List Record) (place : ℕ) (w : told budget clock ss ≡ rs) where
  -- nobody in front of a place, or behind it, is in service
  pub front_of : All (λ r. r.done ≡ 0) (take place rs) → AreIdle (items (take place ss))
  front_of h = grind (arith, told_front, w, recursion_from_All)

  pub back_of : All (λ r. r.done ≡ 0) (drop place rs) → AreIdle (items (drop place ss))
  back_of h = grind (arith, told_back, w, recursion_from_All)

left_with : (front : List Slot) (y : Slot) (back : List Slot)
    → sum_by left_of (items (front ++ y ∷ back)) ≡ sum_by left_of (items (front ++ back)) + left_of y.item
left_with front y back = search (
  arith,
  items_append front (y ∷ back),
  items_append front back,
  sum_by-append left_of (items front) (y.item ∷ items back),
  sum_by-append left_of (items front) (items back),
  sum_by-cons left_of y.item (items back),
)

pub left_at : (ss : List Slot) (place : ℕ) → place < length ss → sum_by left_of (items ss)
    ≡ sum_by left_of (items (take place ss ++ drop (place + 1) ss)) + left_of (slot_at ss place).item
left_at ss place l = search (arith, cut ss place l, left_with (take place ss) (slot_at ss place) (drop (place + 1) ss))

-- no command has more left than all
pub left_low : {budget clock total : ℕ} {ss : List Slot} {place : ℕ} → AreTimed budget clock total ss
    → place < length ss → left_of (slot_at ss place).item ≤ total
left_low {ss = ss} {place = place} t l = omega (arith, t.left, left_at ss place l)

-- ---- a command in service leaves
pub leave_timed : {budget clock total : ℕ} {ss ss' new : List Slot} {place n : ℕ}
    → AreTimed budget clock total ss → place < length ss → is_in_service (slot_at ss place).item ≡ true
    → AreIdle (items (take place ss)) → AreIdle (items (drop (place + 1) ss)) → n ≡ left_of (slot_at ss place).item
    → ss' ≡ take place ss ++ drop (place + 1) ss → new ≡ map (lowered_by n) ss' → AreTimed budget clock (total - n) new
leave_timed t l serving front back e gone fell = grind (arith, cut, left_at, items_fallen, due_ended)

pub leave_enough : {budget clock total : ℕ} {ss ss' : List Slot} {place n : ℕ}
    → AreTimed budget clock total ss → place < length ss → is_in_service (slot_at ss place).item ≡ true
    → AreIdle (items (take place ss)) → AreIdle (items (drop (place + 1) ss))
    → n ≡ left_of (slot_at ss place).item → ss' ≡ take place ss ++ drop (place + 1) ss → All (λ s. n ≤ s.due) ss'
leave_enough {budget} {clock} {total} {ss} {ss'} {place} {n} t l serving front back e gone =
    let F = take place ss in
    let B = drop (place + 1) ss in
    let P : Slot → Type 0 = λ s. n ≤ s.due in
    subst (All P) (sym gone) (All-from_recursion P
    (F ++ B) (subst (λ k. AllByRecursion (λ (s : Slot). k ≤ s.due) (F ++ B)) (sym e) (end_enough budget
    (slot_at ss place) B back serving clock F (subst (AreDue budget clock) (cut ss place l) t.dues) front)))

-- what is told then
pub leave_told : {budget clock total : ℕ} {ss ss' new : List Slot} {rs : List Record} {place n : ℕ}
    → AreTimed budget clock total ss → place < length ss → is_in_service (slot_at ss place).item ≡ true
    → AreIdle (items (take place ss)) → AreIdle (items (drop (place + 1) ss)) → n ≡ left_of (slot_at ss place).item
    → told budget clock ss ≡ rs → ss' ≡ take place ss ++ drop (place + 1) ss → new ≡ map (lowered_by n) ss'
    → told budget clock new ≡ take place rs ++ drop (place + 1) rs
leave_told t l serving front back e w gone fell = grind (arith, w, cut, length-take-le, told_ended)

pub seen_left : {X : Type 0} (f : Slot → X) (n : ℕ) (ss ss' new : List Slot) (place : ℕ) (xs : List X)
    → ((s : Slot) → f (lowered_by n s) ≡ f s) → map f ss ≡ xs → ss' ≡ take place ss ++ drop (place + 1) ss
    → new ≡ map (lowered_by n) ss' → map f new ≡ take place xs ++ drop (place + 1) xs
seen_left f n ss ss' new place xs same view gone fell = grind (arith, map_map, map-append, take-map, drop-map)

-- ---- a command leaves that was never served
pub behind_enough_at : {budget clock total : ℕ} {ss : List Slot} {place n : ℕ}
    → AreTimed budget clock total ss → place < length ss → is_in_service (slot_at ss place).item ≡ false
    → n ≡ left_of (slot_at ss place).item → All (λ s. n ≤ s.due) (drop (place + 1) ss)
behind_enough_at {budget} {clock} {total} {ss} {place} {n} t l idle e =
    let y = slot_at ss place in
    let B = drop (place + 1) ss in
    let P : Slot → Type 0 = λ s. n ≤ s.due in
    All-from_recursion P B (subst (λ k. AllByRecursion (λ (s : Slot). k ≤ s.due) B)
    (sym e) (abort_enough budget y B idle clock (take place ss) (subst (AreDue budget clock) (cut ss place l) t.dues)))

pub still_there : (ss new : List Slot) (place n : ℕ) → place < length ss
    → new ≡ take (place + 1) ss ++ map (lowered_by n) (drop (place + 1) ss) → place < length new
still_there ss new place n l fell = grind (arith, length-append, length-take-le)

-- what is left of slots whose dues fell behind a place, once the one at the place is taken out
gone_behind : (ss ss' new : List Slot) (place n : ℕ) → place < length ss
    → ss' ≡ take (place + 1) ss ++ map (lowered_by n) (drop (place + 1) ss) → new ≡ take place
    ss' ++ drop (place + 1) ss' → new ≡ take place ss ++ map (lowered_by n) (drop (place + 1) ss)
gone_behind ss ss' new place n l fell gone =
    let F = take place ss in
    let y = slot_at ss place in
    let B = map (lowered_by n) (drop (place + 1) ss) in
    let long : length F ≡ place = length-take-le place ss (omega (arith, l)) in
    let one : ss' ≡ F ++ y ∷ B = search (arith, take_more ss place no_slot l, append_assoc F (y ∷ []) B) in
    let at = at_place ss' F y B place no_slot one long in
    gone ∙ (λ i. at.before i ++ at.behind i)

pub leave_unstarted_timed : {budget clock total : ℕ} {ss ss' new : List Slot} {place n : ℕ}
    → AreTimed budget clock total ss → place < length ss → is_in_service (slot_at ss place).item ≡ false
    → n ≡ left_of (slot_at ss place).item → ss' ≡ take (place + 1) ss ++ map (lowered_by n)
    (drop (place + 1) ss) → new ≡ take place ss' ++ drop (place + 1) ss' → AreTimed budget clock (total - n) new
leave_unstarted_timed {budget} {clock} {total} {ss} {ss'} {new} {place} {n} t l idle e fell gone = search (
  arith,
  gone_behind ss ss' new place n l fell gone,
  cut ss place l,
  left_at ss place l,
  items_append,
  items_fallen,
  due_aborted,
)

pub leave_unstarted_told : {budget clock total : ℕ} {ss ss' new : List Slot} {rs : List Record} {place n : ℕ}
    → AreTimed budget clock total ss → place < length ss → is_in_service (slot_at ss place).item ≡ false
    → n ≡ left_of (slot_at ss place).item → told budget clock ss ≡ rs
    → ss' ≡ take (place + 1) ss ++ map (lowered_by n) (drop (place + 1) ss)
    → new ≡ take place ss' ++ drop (place + 1) ss' → told budget clock new ≡ take place rs ++ drop (place + 1) rs
leave_unstarted_told {budget} {clock} {total} {ss} {ss'} {new} {rs} {place} {n} t l idle e w fell gone =
    let F = take place ss in
    let y = slot_at ss place in
    let B = drop (place + 1) ss in
    let is = cut ss place l in
    let long = length-take-le place ss (omega (arith, l)) in
    let next : suc place ≡ place + 1 = omega arith in
    ap (told budget clock) (gone_behind ss ss' new place n l fell gone ∙ (λ i. F ++ map (lowered_by (e i)) B))
    ∙ (told_aborted budget y B idle clock F (subst (AreDue budget clock) is t.dues)
    ∙ (λ i. take (long i) (told budget clock (sym is i)) ++ drop (suc (long i)) (told budget clock (sym is i)))
    ∙ (λ i. take place (w i) ++ drop (next i) (w i)))

pub seen_behind : (ss ss' new : List Slot) (place n : ℕ) (xs : List Target) → place < length ss
    → targets ss ≡ xs → ss' ≡ take (place + 1) ss ++ map (lowered_by n) (drop (place + 1) ss)
    → new ≡ take place ss' ++ drop (place + 1) ss' → targets new ≡ take place xs ++ drop (place + 1) xs
seen_behind ss ss' new place n xs l view fell gone =
    let f : Slot → Target = λ s. s.target in
    ap targets (gone_behind ss ss' new place n l fell gone)
    ∙ (map-append f (take place ss) (map (lowered_by n) (drop (place + 1) ss))
    ∙ ((λ i. sym (take-map f place ss) i ++ (map_map (lowered_by n) f (drop (place + 1) ss)
    ∙ sym (drop-map f (place + 1) ss)) i)
    ∙ (λ i. take place (view i) ++ drop (place + 1) (view i))))

-- ---- who keeps whom back
pub kinds_are : (budget clock : ℕ) (ss : List Slot) → kinds_of (told budget clock ss) (targets ss) ≡ map kind_of ss
kinds_are budget clock [] = refl
kinds_are budget clock (s ∷ ss) = ap (λ ks. kind_of s ∷ ks) (kinds_are budget (clock + left_of s.item) ss)

pub unfenced_kinds : (budget clock : ℕ) (ss : List Slot) (place : ℕ) (now : Waiters)
    → record { budget = budget; waiting = told budget clock ss; targets = targets ss } ≡ now → place < length ss
    → is_unfenced (slot_at ss place) (take place ss) ≡ is_unfenced_at (kinds_of now.waiting now.targets) place
unfenced_kinds budget clock ss place now view l = grind (arith, get_or-map, take-map, kinds_are, all_shown, not)

pub own_there : (ss : List Slot) (k : ℕ) → k < length ss → (slot_at ss k).target ≡ get_or (targets ss) k no_target
own_there (s ∷ ss) (suc k) l = own_there ss k (omega (arith, l))
own_there ss k h2 = grind arith

pub of_targets : (P : Target → Type 0) (ss : List Slot) → AllByRecursion (λ s. P s.target) ss → AllByRecursion P
    (targets ss)
of_targets P [] h = tt
of_targets P (s ∷ ss) h = (h.0, of_targets P ss h.1)

-- ---- the figure of a place
module _ {budget clock total : ℕ} {ss : List Slot} {now : Waiters} {place : ℕ} (t : AreTimed budget clock total ss)
    (view : record { budget = budget; waiting = told budget clock ss; targets = targets ss }
    ≡ now) (l : place < length now.waiting) where
  w : told budget clock ss ≡ now.waiting
  w = ap (λ (w : Waiters). w.waiting) view

  pub figure_is : is_unstarted (slot_at ss place).item ≡ true
      → (slot_at ss place).due ≡ clock + figure_at now.budget now.waiting place
  figure_is e = grind (arith, eqb-true, tells, place_in, w)

  pub figure_left : is_unstarted (slot_at ss place).item ≡ false
      → left_of (slot_at ss place).item ≡ figure_at now.budget now.waiting place
  figure_left e = grind (arith, item_at, w, lt-ltb, eqb-false)

  -- by how many blocks the command at the place was passed
  pub passed_is : (record_at now.waiting place).passed + (slot_at ss place).due
      ≡ clock + sum_by left_of (take (place + 1) now.waiting) + sum_by left_if_serving (drop (place + 1) now.waiting)
      + now.budget
  passed_is = grind (arith, passes, place_in, w)

  pub passed_low : (record_at now.waiting place).passed ≤ now.budget
  passed_low = grind (arith, told_most, place_in, w)

-- what the oldest has left of its budget, if nobody is in service
pub unspent_is : {budget clock total : ℕ} {ss : List Slot} {now : Waiters} → AreTimed budget clock total ss
    → record { budget = budget; waiting = told budget clock ss; targets = targets ss } ≡ now → 0 < length now.waiting
    → All (λ r. r.done ≡ 0) now.waiting
    → ((slot_at ss 0).due ≡ clock + left_of (slot_at ss 0).item + (now.budget - (record_at now.waiting 0).passed))
    × (now.budget < 4294967296)
unspent_is t view some idle = grind (arith, unspent_tells, long_is, w, recursion_from_All)
