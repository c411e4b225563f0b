-- What is made of a record's connection and command alone stays, whatever its command is passed by or served.
use Rattle.mscp_queue.proofs.Common.{◌≡◌, ℕ, ◌+◌, ◌<◌, Bool, true, false, cond, List, [], ◌∷◌, ◌++◌, map, take, drop, length, arith, drop-map, map-append, take-map, Command, Connection, Record, advanced, no_record, passed_by, record_at}
use Rattle.mscp_queue.proofs.Placed.{cut_at, map_map}

-- what is made of each
abbrev pub made : {X : Type 0} → (Connection → Command → X) → List Record → List X
made F rs = map (λ (r : Record). F r.connection r.command) rs

-- one leaves
pub map_cut : {X Y : Type 0} (f : X → Y) (xs : List X) (place : ℕ)
    → take place (map f xs) ++ drop (place + 1) (map f xs) ≡ map f (take place xs ++ drop (place + 1) xs)
map_cut f xs place = search (arith, map-append f (take place xs) (drop (place + 1) xs), take-map, drop-map)

-- a step, which ends its command or not
pub made_served : {X : Type 0} (F : Connection → Command → X) (rs new : List Record) (place charge : ℕ) (ends : Bool)
    → place < length rs → new ≡ map (passed_by charge)
    (take place rs) ++ (cond ends [] (advanced (record_at rs place) ∷ []) ++ drop (place + 1) rs)
    → cond ends (take place (made F rs) ++ drop (place + 1) (made F rs)) (made F rs) ≡ made F new
made_served {X = X} F rs new place charge true l e = search (arith, map_cut, map-append, map_map)
made_served {X = X} F rs new place charge false l e = search (arith, cut_at no_record rs place l, map-append, map_map)
