-- A command that is queued is no longer than may be, and leaves a credit.
use Rattle.mscp_controller.proofs.Common.{◌≡◌, ℕ, ◌<◌, ◌≤◌, true, false, not, List, [], ◌∷◌, ◌++◌, length, sym, subst, arith, None, AllByRecursion, ltb-false, eqb-false, true≢false, false≢true, Command, command_of, Connection, Settings, fault_of, is_immediate, is_queued, order_weight, Trace, Moment, command, weight, waiting, balance, IsRight, every_kept, every_append}
use Rattle.mscp_controller.proofs.Promise.Grows.{command_before, command_last, waiting_more}
use Rattle.mscp_controller.proofs.Promise.Waits.{waiting_below}
use Rattle.mscp_controller.proofs.Promise.Arrivals.{Queues, queued_right}

-- an order that isn't refused and isn't immediate
pub record IsOpen (c : Settings) (k : Command) : Type 0 where
  pub waits : is_immediate k.order ≡ false
  pub sound : fault_of c k ≡ None

pub queued_open : (c : Settings) (k : Command) → is_queued c k ≡ true → IsOpen c k
queued_open c k h = grind (arith, false≢true)

-- ---- lengths
-- no waiting command is longer than the longest
abbrev pub Short : Settings → Trace → List ℕ → Type 0
Short c t xs = AllByRecursion (λ x. weight t x ≤ c.longest) xs

-- a queued command is no longer than the longest
pub queued_short : (c : Settings) (k : Command) → 1 ≤ c.longest → is_queued c k ≡ true
    → order_weight k.order ≤ c.longest
queued_short c k l q = grind (arith, queued_open, true≢false, ltb-false)

-- ---- what holds of each command that is queued
same_each : (P : Command → Type 0) (t : Trace) (m : Moment) (xs : List ℕ) → AllByRecursion (λ x. x < length t) xs
    → AllByRecursion (λ x. P (command t x)) xs → AllByRecursion (λ x. P (command (t ++ m ∷ []) x)) xs
same_each P t m [] l h = tt
same_each P t m (x ∷ xs) l h = (subst P (sym (command_before t m x l.0)) h.0, same_each P t m xs l.1 h.1)

-- What holds of each command that is queued is kept by each right moment.
pub each_queued : (c : Settings) (P : Command → Type 0) → ((k : Command) → is_queued c k ≡ true → P k)
    → (t : Trace) (m : Moment) → IsRight c t m.0 m.1 → AllByRecursion (λ x. P (command t x)) (waiting t)
    → AllByRecursion (λ x. P (command (t ++ m ∷ []) x)) (waiting (t ++ m ∷ []))
each_queued c P each t m r h = search
    (arith, waiting_below t, command_last t m, waiting_more t m, not, same_each, every_kept, queued_right, every_append)

-- Each right moment keeps it that no waiting command is longer than the longest.
pub short_more : (c : Settings) (t : Trace) (m : Moment) → 1 ≤ c.longest → IsRight c t m.0 m.1 → Short c t (waiting t)
    → Short c (t ++ m ∷ []) (waiting (t ++ m ∷ []))
short_more c t m l r h = each_queued c (λ k. order_weight k.order ≤ c.longest) (λ k q. queued_short c k l q) t m r h

-- ---- credits
-- a message that isn't too short has its own order
-- Where a command is queued, two credits are free.
pub two_free : (c : Settings) (via : Connection) (t : Trace) (b : List ℕ) → Queues c via t b → 2 ≤ balance c via t
unfolding command_of
two_free c via t b q = grind (arith, queued_open, true≢false, eqb-false)
