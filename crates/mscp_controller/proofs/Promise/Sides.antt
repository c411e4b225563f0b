-- What waits by connection.
use Rattle.mscp_controller.proofs.Common.{◌≡◌, ◌+◌, Bool, cond, not, ◌&&◌, List, [], ◌∷◌, ◌++◌, length, refl, arith, filter, length-append, filter-append, Connection, First, Second, same_connection, every_weaker, filter_filter, filter_on, Trace, Moment, connection_of, queues, connection, name, waiting, waiting_by, ends_in}
use Rattle.mscp_controller.proofs.Promise.Grows.{connection_before, connection_last, waiting_more}
use Rattle.mscp_controller.proofs.Promise.Waits.{waiting_below}

-- Each element is of one of the two.
pub sides_length : {X : Type 0} (f : X → Connection) (xs : List X) → length xs
    ≡ length (filter (λ x. same_connection (f x) First) xs) + length (filter (λ x. same_connection (f x) Second) xs)
sides_length f [] = refl
sides_length f (x ∷ xs) = search (arith, sides_length f xs)

swap_and : (a b : Bool) → (a && b) ≡ (b && a)
swap_and a b = grind arith

kept_by : (via : Connection) (t : Trace) (m : Moment) → filter (λ x. same_connection (connection (t ++ m ∷ []) x) via)
    (filter (λ x. not (ends_in (name t x) m.1)) (waiting t))
    ≡ filter (λ x. not (ends_in (name t x) m.1)) (waiting_by via t)
kept_by via t m = search (arith, waiting_below t, filter_filter, filter_on, every_weaker, swap_and, connection_before)

-- a moment queues a command of a connection
abbrev pub queues_by : Connection → Moment → Bool
queues_by via m = queues m.1 && same_connection (connection_of m.0) via

-- What waits by connection after one more moment.
pub waiting_by_more : (via : Connection) (t : Trace) (m : Moment) → waiting_by via (t ++ m ∷ [])
    ≡ filter (λ x. not (ends_in (name t x) m.1)) (waiting_by via t) ++ cond (queues_by via m) (length t ∷ []) []
waiting_by_more via t m = search (arith, connection_last t m, waiting_more t m, not, filter-append, kept_by)

pub waiting_by_length : (via : Connection) (t : Trace) (m : Moment) → length (waiting_by via (t ++ m ∷ []))
    ≡ length (filter (λ x. not (ends_in (name t x) m.1)) (waiting_by via t))
    + length (cond (queues_by via m) (length t ∷ []) [])
waiting_by_length via t m = search (arith, waiting_by_more via t m, length-append, not)
