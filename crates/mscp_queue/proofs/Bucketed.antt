-- The buckets stay those of the waiting commands, and a command is found by its number.
use Rattle.mscp_queue.proofs.Basics.{◌≡◌, ◌<◌, ◌+◌, ⊎_elim, ℕ, suc, Bool, true, false, ◌||◌, nat_eq, List, [], ◌∷◌, ◌++◌, set, take, drop, remove, get_or, length, sym, subst, ap, ◌∙◌, refl, arith, bit_at, eq-eqb, get_or-set_other, get_or-set_same, list_any, one_bit, same_or, true≢false, Masks, AreSlots, Record, and_parts, ne_eqb, slot_low, has_name, AreApart, IfSome, Option, Some, None, is_some, name_of, names, no_record, position, position_any, record_at, Slot, shown, IsNumber, cut_order, same_is}
use Rattle.mscp_queue.proofs.Common.{and_right, IfNone, AreBuckets, AreSlotted, IsPut, IsSet, Name, Target, bucket_at, bucket_of, has, items}
use Rattle.mscp_queue.proofs.Masked.{classes_pushed}
use Rattle.mscp_queue.proofs.Departed.{classes_without, order_left}
use Rattle.mscp_queue.proofs.Nexts.{name_found}
use Rattle.mscp_queue.proofs.Counted.{placed}

pub buckets_pushed : (rs : List Record) (order old new next : List ℕ) (n reference : ℕ) (r : Record)
    → AreBuckets rs order old → has n order ≡ false → n < 64 → length rs ≡ 64 → reference ≡ r.command.reference
    → IsPut true n reference old new → next ≡ order ++ n ∷ [] → AreBuckets (set rs n r) next new
buckets_pushed rs order old new next n reference r h free low long is put e =
    let item : get_or (set rs n r) n no_record ≡ r = get_or-set_same rs n r no_record (omega (arith, low, long)) in
    let own : bucket_of reference ≡ bucket_at (set rs n r) n = grind arith in
    subst (λ o. AreBuckets (set rs n r) o new) (sym e)
    (classes_pushed (bucket_at rs) (bucket_at (set rs n r)) order old new n h free low
    (λ k d. ap (λ (q : Record). bucket_of q.command.reference) (get_or-set_other rs n k r no_record d))
    (subst (λ b. IsSet true n (get_or old b 0) (get_or new b 0)) own put.own)
    (λ u d. put.others u (λ f. d (f ∙ own))))

pub buckets_left : (rs : List Record) (order old new next : List ℕ) (place n reference : ℕ)
    → AreBuckets rs order old → AreSlots order → IsNumber order place n
    → reference ≡ (get_or rs n no_record).command.reference
    → IsPut false n reference old new → next ≡ remove order place → AreBuckets rs next new
buckets_left rs order old new rest place n reference h apart at is put e =
    let cut = cut_order order place n at in
    let own = ap bucket_of is in
    let next : suc place ≡ place + 1 = omega arith in
    subst (λ o. AreBuckets rs o new) (order_left (take place order) (drop (place + 1) order) n
    (subst AreSlots cut apart) ∙ (ap (λ k. take place order ++ drop k order) (sym next) ∙ sym e))
    (classes_without (bucket_at rs) (take place order ++ n ∷ drop (place + 1) order) old new n
    (subst (λ o. AreBuckets rs o old) cut h) at.low
    (subst (λ b. IsSet false n (get_or old b 0) (get_or new b 0)) own put.own)
    (λ u d. put.others u (λ f. d (f ∙ own))))

-- where a record keeps its number
pub buckets_kept : (rs : List Record) (order buckets : List ℕ) (n : ℕ) (r : Record) → AreBuckets rs order buckets
    → n < 64 → length rs ≡ 64 → r.command.reference ≡ (get_or rs n no_record).command.reference
    → AreBuckets (set rs n r) order buckets
buckets_kept rs order buckets n r h low long same u k l = grind (arith, same_or, get_or-set_same, get_or-set_other)

-- ---- a search
-- what is left of a bucket has slots of it, and of the others none has a command of this name
pub record Searches (name : Name) (rs : List Record) (bucket left : ℕ) : Type 0 where
  pub of_bucket : (k : ℕ) → k < 64 → bit_at left k ≡ 1 → bit_at bucket k ≡ 1
  pub seen : (k : ℕ) → k < 64 → bit_at bucket k ≡ 1 → bit_at left k ≡ 0 → has_name name (get_or rs k no_record) ≡ false

pub searches_on : {name : Name} {rs : List Record} {bucket left : ℕ} (slot left' : ℕ) → Searches name rs bucket left
    → slot < 64 → IsSet false slot left left' → has_name name (get_or rs slot no_record) ≡ false
    → Searches name rs bucket left'
searches_on slot left' h low set miss = grind (arith, ⊎_elim, same_or, ne_eqb, eq-eqb)

module _ {rs : List Record} {own : List Target} {order : List ℕ} {m : Masks} {ranges buckets : List ℕ} (ds : List ℕ)
    (now : List Slot) (slotted : AreSlotted rs own order m ranges buckets) (view : shown rs own ds order ≡ now)
    (name : Name) (left : ℕ) (h : Searches name rs (get_or buckets (bucket_of name.reference) 0) left) where
  -- a slot that is left stands at a place
  pub number_in : (slot : ℕ) → slot < 64 → bit_at left slot ≡ 1 → (place : ℕ) × IsNumber order place slot
  number_in slot low on = grind (arith, and_parts, one_bit, placed)

  -- in the end no command has the name
  pub none_named : ((k : ℕ) → k < 64 → bit_at left k ≡ 0) → list_any (has_name name) (items now) ≡ false
  none_named off = ap (λ s. list_any (has_name name) (items s)) (sym view) ∙ any_off order each
    where
      any_off : (xs : List ℕ) → ((k : ℕ) → has k xs ≡ true → has_name name (get_or rs k no_record) ≡ false)
          → list_any (has_name name) (items (shown rs own ds xs)) ≡ false
      any_off [] e = refl
      any_off (s ∷ xs) e =
          ap (λ b. b || list_any (has_name name) (items (shown rs own ds xs)))
          (e s (ap (λ b. b || has s xs) (eq-eqb s s refl)))
          ∙ any_off xs (λ k there. e k (ap (λ b. nat_eq k s || b) there ∙ or_true (nat_eq k s)))
        where
          or_true : (b : Bool) → (b || true) ≡ true
          or_true h1 = grind arith

      each : (k : ℕ) → has k order ≡ true → has_name name (get_or rs k no_record) ≡ false
      each k there = grind (arith, placed, slot_low, ⊎_elim, eq-eqb, and_right, ne_eqb, same_or)

-- ---- among names that stand once
-- a place of a command of this name is that of the first one, and where there is none there is no first
pub found_place : (name : Name) (rs : List Record) (o : Option ℕ) → AreApart (names rs)
    → IfSome o (λ place. (place < length rs) × (has_name name (record_at rs place) ≡ true))
    → IfNone o (list_any (has_name name) rs ≡ false) → o ≡ position (has_name name) rs
found_place name rs (Some place) apart some none = sym (name_found rs name place (position (has_name name) rs) apart
    some.0 (same_is (name_of (record_at rs place)) name some.1) refl)
found_place name rs None apart some none =
    sym (no_place (position (has_name name) rs) (position_any (has_name name) rs ∙ none))
  where
    no_place : (o : Option ℕ) → is_some o ≡ false → o ≡ None
    no_place h1 e = grind (arith, true≢false)
