-- The ends of commands have the bodies of their endcodes.
use Rattle.mscp_queue.proofs.Common.{◌≡◌, ℕ, Bool, true, arith, ◌||◌, Option, Some, IfSome, is_some, false≢true, Command, Order, BodyKind, IsOfKind, kind_of_body, kind_of_code, refused_body, zero_body, Shape, Block, Drive, endcode, is_move, is_sequential, IsCoded, aborted_end, moved_body, outcome_at, outcome_body, Record, end_given}

of_kind : (o : Option BodyKind) → is_some o ≡ true → o ≡ Some (kind_of_body (zero_body o))
of_kind o h1 = grind (arith, false≢true)

-- a refused command has the body of its endcode
pub refused_kind : (code : ℕ) → is_some (kind_of_code code) ≡ true
    → kind_of_code code ≡ Some (kind_of_body (refused_body code))
refused_kind code h = of_kind (kind_of_code code) h

moved_kind : (o : Order) (good : ℕ) → IsCoded o → kind_of_code (endcode o) ≡ Some (kind_of_body (moved_body o good))
moved_kind o good h2 = grind (arith, refused_kind)

-- so has an aborted one
pub aborted_kind : (c : Command) (good : ℕ) → IsCoded c.order → IsOfKind (aborted_end c good)
aborted_kind c good h = moved_kind c.order good h

outcome_kind : (s : Shape) (status good : ℕ) (o : Order) → IsCoded o
    → kind_of_code (endcode o) ≡ Some (kind_of_body (outcome_body s status o good))
outcome_kind s status good o h4 = search (arith, moved_kind)

-- and one that a step ends
pub ended_kind : (s : Shape) (online : Bool) (c : Command) (good : ℕ) (k : Block) → IsCoded c.order
    → IsOfKind (outcome_at s online c good k)
ended_kind s online c good k h = outcome_kind s _ _ c.order h

-- ---- in a queue
-- a step that ends a command that may wait gives it an end of its kind
pub given_kind : (k : Block) (d : Drive) (r : Record)
    → (is_sequential r.command.order || is_move r.command.order) ≡ true → IfSome (end_given k d r) IsOfKind
given_kind k d r h = search (arith, ended_kind, false≢true)
