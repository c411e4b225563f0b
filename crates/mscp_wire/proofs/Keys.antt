-- What is kept of units is what was told of them once an end or a command came.
use Rattle.mscp_wire.proofs.Common.{Answer, Bool, Connection, Entry, First, Option, Second, Sent, Shared, Some, State, Told, after_other, after_own, ap, arith, cond, eqb-true, false, if◌then◌else◌, nat_eq, nat_tests, not, other_side, refl, sym, told_after_end, told_after_message, told_to, true, ℕ, ◌&&◌, ◌∙◌, ◌≡◌}
use Rattle.mscp_wire.specs.Units.{key}
use Rattle.mscp_wire.specs.Messages.{same_connection}
use Rattle.mscp_wire.specs.Polls.{is_it}

-- a host was told the same of a unit, but of its state
abbrev pub with_state : State → Told → Told
with_state state told = record told { state = state }

-- ---- numbers of units of connections
pub same_key : (a b : Connection) (m n : ℕ) → nat_eq (key a m) (key b n) ≡ (same_connection a b && nat_eq m n)
same_key First First m n = grind (arith, nat_tests)
same_key First Second m n = grind (arith, nat_tests)
same_key Second First m n = grind (arith, nat_tests)
same_key Second Second m n = grind (arith, nat_tests)

-- the entry of a unit, of which a connection was told this, and the other one that
abbrev pub entry_of : Connection → ℕ → Told → Told → Entry
entry_of First unit own others = record { number = unit; first = own; second = others }
entry_of Second unit own others = record { number = unit; first = others; second = own }

-- what is kept of units once an entry was put in place
pub put_told : (others : Told) (old new : ℕ → Option Entry) (via : Connection) (unit : ℕ) (own other : Told)
    → ((q : ℕ) → new q ≡ (if nat_eq unit q then Some (entry_of via unit own other) else old q))
    → (side : Connection) (number : ℕ)
    → told_to others side (new number)
    ≡ (if nat_eq unit number then (if same_connection via side then own else other)
    else told_to others side (old number))
put_told others old new via unit own other h side number = ap (told_to others side) (h number) ∙ by_side via side
  where
    by_unit : (s : Connection) (b : Bool) (x : Entry) → told_to others s (if b then Some x else old number)
        ≡ (if b then told_to others s (Some x) else told_to others s (old number))
    by_unit s true x = refl
    by_unit s false x = refl

    by_side : (v s : Connection) → told_to others s
        (if nat_eq unit number then Some (entry_of v unit own other) else old number)
        ≡ (if nat_eq unit number then (if same_connection v s then own else other)
        else told_to others s (old number))
    by_side First First = by_unit First (nat_eq unit number) (entry_of First unit own other)
    by_side First Second = by_unit Second (nat_eq unit number) (entry_of First unit own other)
    by_side Second First = by_unit First (nat_eq unit number) (entry_of Second unit own other)
    by_side Second Second = by_unit Second (nat_eq unit number) (entry_of Second unit own other)

-- which unit is kept of each identifier where a map was updated at one
pub put_called : (old new : ℕ → Option ℕ) (identifier : ℕ) (unit : ℕ)
    → ((q : ℕ) → new q ≡ cond (nat_eq identifier q) (Some unit) (old q)) → (called : Option ℕ)
    → called ≡ Some identifier → (q : ℕ) → new q ≡ (if is_it called q then Some unit else old q)
put_called old new identifier unit h called e q =
    h q ∙ by_test (nat_eq identifier q)
    ∙ ap (λ o. if is_it o q then Some unit else old q) (sym e)
  where
    by_test : (b : Bool) → cond b (Some unit) (old q) ≡ (if b then Some unit else old q)
    by_test true = refl
    by_test false = refl

-- ---- an end and a command
-- what both hosts were told of the unit of an end was put in place
abbrev own_end : Bool → Answer → Told → Told
own_end settled e t = if settled then after_own t e else after_other t e

pub heard_end : (old new : Connection → ℕ → Told) (e : Answer) (settled : Bool) (own others : Told) (side : Connection)
    → own ≡ own_end settled e (old e.connection e.unit) → side ≡ other_side e.connection
    → others ≡ after_other (old side e.unit) e
    → ((via : Connection) (unit : ℕ) → new via unit
    ≡ (if nat_eq e.unit unit then (if same_connection e.connection via then own else others) else old via unit))
    → (via : Connection) (unit : ℕ) → new via unit ≡ told_after_end via unit settled (old via unit) e
heard_end old new e settled own others side o s t p via unit =
    p via unit
    ∙ (ap (λ z. if nat_eq e.unit unit then (if same_connection e.connection via then z else others) else old via unit) o
    ∙ (ap (λ z. if nat_eq e.unit unit then (if same_connection e.connection via
    then own_end settled e (old e.connection e.unit) else z) else old via unit)
    (t ∙ ap (λ z. after_other (old z e.unit) e) s)
    ∙ by_unit (nat_eq e.unit unit) refl e.connection via))
  where
    by_unit : (b : Bool) → nat_eq e.unit unit ≡ b → (c v : Connection)
        → (if b then (if same_connection c v then own_end settled e (old c e.unit)
        else after_other (old (other_side c) e.unit) e) else old v unit)
        ≡ (if not b then old v unit else (if same_connection c v && settled then after_own (old v unit) e
        else after_other (old v unit) e))
    by_unit true h First First = ap (λ n. own_end settled e (old First n)) (eqb-true e.unit unit h)
    by_unit true h Second Second = ap (λ n. own_end settled e (old Second n)) (eqb-true e.unit unit h)
    by_unit true h First Second = ap (λ n. after_other (old Second n) e) (eqb-true e.unit unit h)
    by_unit true h Second First = ap (λ n. after_other (old First n) e) (eqb-true e.unit unit h)
    by_unit false h c v = refl

-- and of the unit of an ONLINE
pub heard_online : (old new : Connection → ℕ → Told) (s : Sent) (own others : Told) (side : Connection)
    → nat_eq s.opcode 9 ≡ true → own ≡ old s.connection s.unit → side ≡ other_side s.connection
    → others ≡ with_state Shared (old side s.unit)
    → ((via : Connection) (unit : ℕ) → new via unit
    ≡ (if nat_eq s.unit unit then (if same_connection s.connection via then own else others) else old via unit))
    → (via : Connection) (unit : ℕ) → new via unit ≡ told_after_message via unit (old via unit) s
heard_online old new s own others side online o d t p via unit =
    p via unit
    ∙ (ap (λ z. if nat_eq s.unit unit then (if same_connection s.connection via then z else others) else old via unit) o
    ∙ (ap (λ z. if nat_eq s.unit unit then (if same_connection s.connection via
    then old s.connection s.unit else z) else old via unit)
    (t ∙ ap (λ z. with_state Shared (old z s.unit)) d)
    ∙ (by_unit (nat_eq s.unit unit) refl s.connection via
    ∙ sym (ap (λ b. if b && nat_eq s.unit unit && not (same_connection s.connection via)
    then with_state Shared (old via unit) else old via unit) online))))
  where
    by_unit : (b : Bool) → nat_eq s.unit unit ≡ b → (c v : Connection)
        → (if b then (if same_connection c v then old c s.unit
        else with_state Shared (old (other_side c) s.unit)) else old v unit)
        ≡ (if b && not (same_connection c v) then with_state Shared (old v unit) else old v unit)
    by_unit true h First First = ap (old First) (eqb-true s.unit unit h)
    by_unit true h Second Second = ap (old Second) (eqb-true s.unit unit h)
    by_unit true h First Second = ap (λ n. with_state Shared (old Second n)) (eqb-true s.unit unit h)
    by_unit true h Second First = ap (λ n. with_state Shared (old First n)) (eqb-true s.unit unit h)
    by_unit false h c v = refl
