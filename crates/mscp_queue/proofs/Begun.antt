-- Why what was begun stays lawful: what comes later and what is aborted takes nothing from an earlier command's
-- freedom, and passes rise at starts alone.
use Rattle.mscp_queue.proofs.Common.{◌≡◌, ℕ, ◌+◌, Bool, true, false, cond, not, ◌&&◌, List, [], ◌∷◌, ◌++◌, take, drop, length, refl, ap, ◌∙◌, subst, append_assoc, arith, All, filter, Option, Some, AllByRecursion, list_all, range_with_len, and_parts, false≢true, length-append, All-from_recursion, filter-append, recursion_from_All, Drive, Choice, IsStillServable, Name, Record, has_name, is_unstarted, name_of, no_record, record_at, without, same_name, IsServable, begun_without, IsPick, is_open, is_open_at, open_places}
use Rattle.mscp_queue.proofs.Named.{same_is}
use Rattle.mscp_queue.proofs.Lists.{every_append, every_filter, every_from, every_kept, every_weaker}
use Rattle.mscp_queue.proofs.Placed.{at_place, cut_at}

-- ---- what may be picked may start
opened : (budget : ℕ) (rs : List Record) → All (λ place. is_open_at budget rs place ≡ true) (open_places budget rs)
opened budget rs = All-from_recursion (λ place. is_open_at budget rs place ≡ true) (open_places budget rs)
    (every_weaker (λ place. Unit {0} × (is_open_at budget rs place ≡ true)) (λ place. is_open_at budget rs place
    ≡ true) (λ place h. h.1) (open_places budget rs) (every_filter (λ place. Unit {0}) (is_open_at budget rs)
    (range_with_len 0 (length rs)) (every_from (λ place. Unit {0}) (λ place. tt) (range_with_len 0 (length rs)))))

pub picked_opens : (picks : List Choice → ℕ → Type 0) (budget : ℕ) (ds : List Drive) (rs : List Record) (place : ℕ)
    → IsPick picks budget ds rs place → is_open_at budget rs place ≡ true
picked_opens picks budget ds rs place h = subst (λ p. is_open_at budget rs p ≡ true) h.2 (opened budget rs h.0 0 h.1)

-- ---- among others
-- the record may be served among the others, those in front of it and those behind
pub record Among (budget : ℕ) (rs front : List Record) (r : Record) (back : List Record) : Type 0 where
  pub is : rs ≡ front ++ r ∷ back
  pub idle : is_unstarted r ≡ true → AllByRecursion (λ z. z.done ≡ 0) rs
  pub opens : is_unstarted r ≡ true → is_open budget r front ≡ true

-- a record that may be served, wherever it stands
servable : (budget : ℕ) (rs front : List Record) (r : Record) (back : List Record) (name : Name)
    → has_name name r ≡ true → Among budget rs front r back → IsStillServable budget rs name
servable budget rs front r back name own m =
    let at = at_place rs front r back (length front) no_record m.is refl in
    let fresh : is_unstarted (record_at rs (length front)) ≡ true → is_unstarted r ≡ true = grind arith in
    let all : IsServable budget rs (length front) = record {
      inside = omega (arith, ap length m.is, length-append front (r ∷ back));
      idle = λ e. All-from_recursion (λ z. z.done ≡ 0) rs (m.idle (fresh e));
      opens = λ e. (λ i. is_open budget (at.item i) (at.before i)) ∙ m.opens (fresh e);
    } in
    (length front, all, ap (has_name name) at.item ∙ own)

-- and one that stands at a place
among : (budget : ℕ) (rs : List Record) (place : ℕ) → IsServable budget rs place
    → Among budget rs (take place rs) (record_at rs place) (drop (place + 1) rs)
among budget rs place s = search (arith, cut_at no_record rs place s.inside, recursion_from_All)

-- ---- a command comes
pub still_pushed : (budget : ℕ) (rs : List Record) (name : Name) (new : Record)
    → new.done ≡ 0 → IsStillServable budget rs name → IsStillServable budget (rs ++ new ∷ []) name
still_pushed budget rs name new n s =
    let place = s.0 in
    let m = among budget rs place s.1 in
    let front = take place rs in
    let r = record_at rs place in
    let back = drop (place + 1) rs in
    servable budget (rs ++ new ∷ []) front r (back ++ new ∷ []) name s.2 (record {
      is = ap (λ zs. zs ++ new ∷ []) m.is ∙ append_assoc front (r ∷ back) (new ∷ []);
      idle = λ e. every_append (λ z. z.done ≡ 0) rs (new ∷ []) (m.idle e) (n, tt);
      opens = m.opens;
    })

-- ---- a command is aborted
-- what all pass, those pass that are left
all_left : (p keep : Record → Bool) (rs : List Record) → list_all p rs ≡ true → list_all p (filter keep rs) ≡ true
all_left p keep [] h = refl
all_left p keep (r ∷ rs) h =
    let b = and_parts (p r) (list_all p rs) h in
    let rest = all_left p keep rs b.1 in
    elim (keep r) as (λ k. list_all p (cond k (r ∷ filter keep rs) (filter keep rs)) ≡ true)
    [ true ↦ ap (λ q. q && list_all p (filter keep rs)) b.0 ∙ rest | false ↦ rest ]

-- a record that may start may start where fewer are in front of it
open_left : (budget : ℕ) (r : Record) (keep : Record → Bool) (front : List Record) → is_open budget r front ≡ true
    → is_open budget r (filter keep front) ≡ true
open_left budget r keep front h = grind (arith, and_parts, all_left, not)

pub still_aborted : (budget : ℕ) (gone : Name) (rs : List Record) (name : Name)
    → same_name name gone ≡ false → IsStillServable budget rs name → IsStillServable budget (without gone rs) name
still_aborted budget gone rs name other s =
    let place = s.0 in
    let m = among budget rs place s.1 in
    let keep : Record → Bool = λ z. not (has_name gone z) in
    let front = take place rs in
    let r = record_at rs place in
    let back = drop (place + 1) rs in
    let number : name_of r ≡ name = same_is (name_of r) name s.2 in
    let stays : keep r ≡ true = ap (λ n. not (same_name n gone)) number ∙ ap not other in
    servable budget (without gone rs) (filter keep front) r (filter keep back) name s.2 (record {
      is = search (arith, m, keep, front, r, back, stays, filter-append);
      idle = λ e. every_kept (λ z. z.done ≡ 0) keep rs (m.idle e);
      opens = λ e. open_left budget r keep front (m.opens e);
    })

-- what is begun after an abort was begun before, and isn't what was aborted
pub still_begun : (gone : Name) (begun : Option Name) (name : Name) → begun_without gone begun ≡ Some name
    → (begun ≡ Some name) × (same_name name gone ≡ false)
still_begun gone begun name h3 = grind (arith, false≢true)
