-- What is told of the step that is begun is told again.
use Rattle.mscp_queue.proofs.Basics.{◌≡◌, ℕ, ◌+◌, ◌<◌, Bool, true, List, length, refl, ap, arith, option_map, IfSome, Some, None, if◌then◌else◌, position, and_parts, false≢true, lt-ltb, Order, Shape, Drive, Upcoming, drive_of, AreApart, IsInside, IsKept, IsOfUnit, is_known, names, first_block, order_weight, touches, Record, drive_at, has_name, name_of, record_at, has_block, upcoming_begun, upcoming_of, inside_of}
use Rattle.mscp_queue.proofs.Aborts.{aborts_at}
use Rattle.mscp_queue.proofs.Nexts.{name_found}

-- the command at a place is found by its name, and told of
pub told_at : (ds : List Drive) (rs : List Record) (place : ℕ) → AreApart (names rs) → place < length rs
    → upcoming_begun ds rs (Some (name_of (record_at rs place)))
    ≡ Some (upcoming_of (drive_at ds rs place) (record_at rs place))
told_at ds rs place apart inside =
    let name = name_of (record_at rs place) in
    let told : Record → Upcoming = λ r. upcoming_of (drive_of ds r.command.unit) r in
    let found = name_found rs name place (position (has_name name) rs) apart inside refl refl in
    ap (option_map told) (aborts_at name rs place apart found).found

-- each block of a transfer inside its unit is one of it
has_it : (units : List Shape) (unit : ℕ) (online : Bool) (order : Order) (done : ℕ) (b : Bool)
    → touches online order ≡ b → is_known units unit ≡ true → IsInside units unit order → done < order_weight order
    → IfSome (if b then Some (first_block order + done) else None) (λ block. has_block units unit block ≡ true)
has_it units unit online order done h6 e known inside more = grind (arith, and_parts, inside_of, false≢true, lt-ltb)

-- what is told of a command that waits is of one of the units
pub of_unit : (budget longest : ℕ) (units : List Shape) (d : Drive) (r : Record)
    → IsKept budget longest units r → IsOfUnit units (upcoming_of d r)
of_unit budget longest units d r k = grind (arith, has_it)
