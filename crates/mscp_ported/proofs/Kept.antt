-- What a port keeps of a command was said by the message by which that command came.
use Rattle.mscp_ported.proofs.Common.{◌≡◌, ◌≢◌, ◌∙◌, ◌<◌, ◌+◌, ℕ, Bool, true, false, not, List, [], ◌∷◌, ◌++◌, Option, None, refl, ap, sym, length, map, take, drop, arith, All, find, list_any, false≢true, or_left, or_parts, or_right, drop_more, take-append-drop, All-append, All-cons, All-drop, All-filter, All-get_or, All-map, All-nil, All-push, All-take, list_any-append, any-filter_same, none-some, End, Block, First, Drive, name_on, Record, has_name, no_record, passed_by, record_at, remains, step_charge, without, end_given, waiting_after, Name, same_is, name_of}
use Rattle.std.proofs.Common.{◌||◌}

-- ---- the commands that wait

-- it is the command of this number that came by the first connection
abbrev pub is_numbered : ℕ → Record → Bool
is_numbered n r = has_name (name_on First n) r

-- a command of this number waits, and each that does is to a unit of which this holds
pub record IsFor (P : ℕ → Type 0) (n : ℕ) (rs : List Record) : Type 0 where
  pub waits : list_any (is_numbered n) rs ≡ true
  pub units : All (λ r. is_numbered n r ≡ true → P r.command.unit) rs

abbrev pub IsTo : (ℕ → Type 0) → ℕ → Record → Type 0
IsTo P n r = is_numbered n r ≡ true → P r.command.unit

pub weaker_for : (P Q : ℕ → Type 0) (n : ℕ) (rs : List Record) → ((unit : ℕ) → P unit → Q unit) → IsFor P n rs
    → IsFor Q n rs
weaker_for P Q n rs f is = search arith

-- ---- a step

any_passed : (n t : ℕ) (rs : List Record)
    → list_any (is_numbered n) (map (passed_by t) rs) ≡ list_any (is_numbered n) rs
any_passed n t [] = refl
any_passed n t (r ∷ rs) = ap (λ b. is_numbered n r || b) (any_passed n t rs)

-- the one that was served stays, or it was another
any_of_three : (a b c m : Bool) → (a || (b || c)) ≡ true → (b ≡ true → m ≡ true) → (a || (m || c)) ≡ true
any_of_three a b c m h4 h5 = grind (arith, or_right)

any_remains : (n : ℕ) (r : Record) (o : Option End) → (is_numbered n r ≡ true → o ≡ None)
    → is_numbered n r ≡ true → list_any (is_numbered n) (remains r o) ≡ true
any_remains n r o stays is = search (arith, or_left (is_numbered n r) false is)

to_remains : (P : ℕ → Type 0) (n : ℕ) (r : Record) (o : Option End) → IsTo P n r → All (IsTo P n) (remains r o)
to_remains P n r o h4 = grind arith

pub served_for : (P : ℕ → Type 0) (n : ℕ) (k : Block) (d : Drive) (rs : List Record) (place : ℕ) → place < length rs
    → (is_numbered n (record_at rs place) ≡ true → end_given k d (record_at rs place) ≡ None) → IsFor P n rs
    → IsFor P n (waiting_after k d rs place)
served_for P n k d rs place inside stays is =
    let r = record_at rs place in
    let o = end_given k d r in
    let t = step_charge r in
    let f = is_numbered n in
    let split : list_any f rs ≡ (list_any f (take place rs) || (f r || list_any f (drop (place + 1) rs))) =
    ap (list_any f) (sym (take-append-drop place rs))
    ∙ list_any-append f (take place rs) (drop place rs)
    ∙ ap (λ xs. list_any f (take place rs) || list_any f xs) (drop_more rs place no_record inside) in
    let whole : list_any f (waiting_after k d rs place)
    ≡ (list_any f (take place rs) || (list_any f (remains r o) || list_any f (drop (place + 1) rs))) =
    list_any-append f (map (passed_by t) (take place rs)) (remains r o ++ drop (place + 1) rs)
    ∙ ap (λ b. b || list_any f (remains r o ++ drop (place + 1) rs)) (any_passed n t (take place rs))
    ∙ ap (λ b. list_any f (take place rs) || b) (list_any-append f (remains r o) (drop (place + 1) rs)) in
    record {
      waits = whole ∙ any_of_three (list_any f (take place rs)) (f r) (list_any f (drop (place + 1) rs))
          (list_any f (remains r o)) (sym split ∙ is.waits) (any_remains n r o stays);
      units = All-append (IsTo P n) (map (passed_by t) (take place rs)) (remains r o ++ drop (place + 1) rs)
          (All-map (IsTo P n) (passed_by t) (take place rs) (All-take (IsTo P n) place rs is.units))
          (All-append (IsTo P n) (remains r o) (drop (place + 1) rs)
          (to_remains P n r o (All-get_or (IsTo P n) rs place no_record inside is.units))
          (All-drop (IsTo P n) (place + 1) rs is.units));
    }

-- ---- a command comes

-- another one
pub beside_for : (P : ℕ → Type 0) (n : ℕ) (rs : List Record) (r : Record) → IsTo P n r → IsFor P n rs
    → IsFor P n (rs ++ r ∷ [])
beside_for P n rs r to is = record {
  waits = list_any-append (is_numbered n) rs (r ∷ [])
      ∙ or_left (list_any (is_numbered n) rs) (list_any (is_numbered n) (r ∷ [])) is.waits;
  units = All-push (IsTo P n) rs r is.units to;
}

none_numbered : (P : ℕ → Type 0) (n : ℕ) (rs : List Record) → list_any (is_numbered n) rs ≡ false
    → All (IsTo P n) rs
none_numbered P n [] e = All-nil (IsTo P n)
none_numbered P n (r ∷ rs) e =
    let p = or_parts (is_numbered n r) (list_any (is_numbered n) rs) e in
    All-cons (IsTo P n) r rs (λ is. absurd (false≢true (sym p.0 ∙ is))) (none_numbered P n rs p.1)

-- the one of this number, where none of it waits
pub come_for : (P : ℕ → Type 0) (n : ℕ) (rs : List Record) (r : Record) → list_any (is_numbered n) rs ≡ false
    → is_numbered n r ≡ true → P r.command.unit → IsFor P n (rs ++ r ∷ [])
come_for P n rs r none is p = record {
  waits = list_any-append (is_numbered n) rs (r ∷ [])
      ∙ or_right (list_any (is_numbered n) rs) (list_any (is_numbered n) (r ∷ []))
      (or_left (is_numbered n r) false is);
  units = All-push (IsTo P n) rs r (none_numbered P n rs none) (λ _. p);
}

-- ---- a command is aborted

pub number_of : (n : ℕ) (r : Record) → is_numbered n r ≡ true → (r.connection ≡ First) × (r.command.reference ≡ n)
number_of n r is = let e = same_is (name_of r) (name_on First n) is in
    (ap (λ (x : Name). x.connection) e, ap (λ (x : Name). x.reference) e)

pub apart_numbers : (n m : ℕ) (r : Record) → n ≢ m → is_numbered n r ≡ true → not (is_numbered m r) ≡ true
apart_numbers n m r ne is = grind (arith, number_of)

pub aborted_for : (P : ℕ → Type 0) (n m : ℕ) (rs : List Record) → n ≢ m → IsFor P n rs
    → IsFor P n (without (name_on First m) rs)
aborted_for P n m rs ne is = record {
  waits = any-filter_same (is_numbered n) (λ r. not (is_numbered m r)) true (λ r. apart_numbers n m r ne) rs ∙ is.waits;
  units = All-filter (λ r. not (is_numbered m r)) (IsTo P n) rs is.units;
}

-- what waits is found
pub found_numbered : (n : ℕ) (rs : List Record) → list_any (is_numbered n) rs ≡ true
    → find (is_numbered n) rs ≢ None
found_numbered n [] e = absurd (false≢true e)
found_numbered n (r ∷ rs) e = search (arith, found_numbered n rs, none-some)
