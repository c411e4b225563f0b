-- What comes by one connection leaves all that the other's host and the controller keep of each other.
use Rattle.mscp_sim.proofs.Common.{◌≡◌, ℕ, false, List, [], ◌∷◌, ◌++◌, append-nil, arith, Option, Some, None, and-false, true≢false, filter-append, Command, Order, Connection, same_connection, Record, fresh_record, every_from, filter_filter, filter_on, one_side, other_side, SendFault, Holdings, aborting, after_message, after_take, held_unless, waiting_on, Account, Flight, Matches}
use Rattle.std.specs.Prelude.{Bool, true, if◌then◌else◌}
use Rattle.mscp_controller.specs.Arrival.{is_queued}
use Rattle.mscp_controller.specs.Holdings.{answered_end, queued, with_end}
use Rattle.mscp_packet.specs.declared.end.End.{End}
use Rattle.mscp_sim.proofs.TwoEnds.Matching.{stays}
use Rattle.mscp_sim.proofs.TwoEnds.Sides.{of_other}

-- ---- what waits of the other

-- a command comes
still_behind : (via other : Connection) (rs : List Record) (c : Command) → same_connection via other ≡ false
    → waiting_on other (rs ++ fresh_record via c ∷ []) ≡ waiting_on other rs
still_behind via other rs c d = search (arith, append-nil (waiting_on other rs), filter-append)

-- ---- a message

foreign_abort : {K : Type 0} (via other : Connection) (a : Account) (h : Holdings K) (told : Flight) (order : Order)
    → same_connection via other ≡ false → Matches other a h told → Matches other a (aborting via h order) told
foreign_abort via other a h told order h6 h7 =
    grind (arith, stays, other_side, filter_filter, filter_on, every_from, one_side, of_other, true≢false, and-false)

-- a command that waits, and one that is answered
foreign_queued : {K : Type 0} (via other : Connection) (a : Account) (h : Holdings K) (told : Flight) (c : Command)
    → same_connection via other ≡ false → Matches other a h told → Matches other a (queued via h c) told
foreign_queued via other a h told c d m = grind (arith, stays, still_behind)

foreign_end : {K : Type 0} (via other : Connection) (a : Account) (h : Holdings K) (told : Flight) (e : End)
    → same_connection via other ≡ false → Matches other a h told → Matches other a (with_end via h e) told
foreign_end via other a h told e d m = grind (arith, stays, of_other)

either : {K : Type 0} (P : Holdings K → Type 0) (b : Bool) (x y : Holdings K) → P x → P y → P (if b then x else y)
either P true x y p q = p
either P false x y p q = q

foreign_unless : {K : Type 0} (via other : Connection) (a : Account) (h : Holdings K) (told : Flight) (c : Command)
    (o : Option SendFault) → same_connection via other ≡ false → Matches other a h told
    → Matches other a (held_unless via h c o) told
foreign_unless via other a h told c (Some fault) d m = m
foreign_unless via other a h told c None d m =
    either (λ g. Matches other a g told) (is_queued h.settings c) (queued via h c)
    (with_end via (aborting via h c.order) (answered_end via h c)) (foreign_queued via other a h told c d m)
    (foreign_end via other a (aborting via h c.order) told (answered_end via h c) d
    (foreign_abort via other a h told c.order d m))

pub foreign_message : {K : Type 0} (via other : Connection) (a : Account) (h : Holdings K) (told : Flight) (b : List ℕ)
    → same_connection via other ≡ false → Matches other a h told → Matches other a (after_message via h b) told
foreign_message via other a h told b d m = search (arith, foreign_unless)

-- ---- a take

pub foreign_take : {K : Type 0} (via other : Connection) (a : Account) (h : Holdings K) (told : Flight)
    → same_connection via other ≡ false → Matches other a h told → Matches other a (after_take via h) told
foreign_take via other a h told d m = grind (arith, stays, of_other)
