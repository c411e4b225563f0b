-- A list of units with one more.
use Rattle.mscp_reader.proofs.Common.{◌≡◌, ◌<◌, ◌++◌, ℕ, zero, suc, true, List, [], ◌∷◌, length, get_or, arith, nat_lt, list_all, and_parts, cases_lt, common_steps, Shape, has_room, IsUnitList, NumbersRise}
use Rattle.std.proofs.Math.Seq.{get_or-append_seam}
use Rattle.std.proofs.lemmas.Bool.{ltb-true}
use Rattle.std.proofs.lemmas.List.{get_or_append_left}

all_below : (units : List Shape) (number i : ℕ) (other : Shape) → list_all (λ u. nat_lt u.number number) units ≡ true
    → i < length units → (get_or units i other).number < number
all_below [] number i other e h = absurd (omega arith)
all_below (u ∷ us) number zero other e h = ltb-true u.number number (and_parts _ _ e).0
all_below (u ∷ us) number (suc i) other e h = all_below us number i other (and_parts _ _ e).1 (omega arith)

rises_more : (units : List Shape) (unit : Shape) → NumbersRise units → length units < 16
    → list_all (λ u. nat_lt u.number unit.number) units ≡ true → IsUnitList (units ++ unit ∷ [])
rises_more units unit rise few all =
    search (arith, common_steps, get_or_append_left, get_or-append_seam, all_below, cases_lt)

pub one_more_rises : (units : List Shape) (unit : Shape) → NumbersRise units → has_room units unit.number ≡ true
    → IsUnitList (units ++ unit ∷ [])
one_more_rises units unit rise room = let p = and_parts _ _ room in rises_more units unit rise (ltb-true _ _ p.0) p.1

pub has_room_some : (units : List Shape) (number : ℕ) → has_room units number ≡ true → length units < 16
has_room_some units number room = ltb-true _ _ (and_parts _ _ room).0
