-- Answers that aren't right.
use Rattle.mscp_trials.proofs.Common.{◌≡◌, ℕ, zero, suc, true, List, [], ◌∷◌, take, ◌++◌, length, refl, ap, arith, Option, Some, None, is_some, is_ok, slice_index, true≢false, false≢true, ArrayVec, Order, End, EndBody, Connection, First, Block, Good, Bad, Settings, Trace, Moment, Service, IsRight, IsServed, waits_below, answers_by}
use Rattle.mscp_packet.specs.declared.command.Order.TheVariants as orders
use Rattle.mscp_packet.specs.declared.end.EndBody.TheVariants as bodies
use Rattle.mscp_controller.specs.declared.entry.SendFault.TheVariants as faults
use Rattle.mscp_trials.proofs.Worked.Literals.{settings, came_online, read, queued, answered, refused, took, looked, served, moved, onlined, with_budget}

-- this answer may not come after t
abbrev pub IsWrong : Settings → Trace → Moment → Type 0
IsWrong c t m = IsRight c t m.0 m.1 → ⊥

-- ---- messages

-- With two credits a read takes one, and the other is for polls alone. A credit is back once an end is taken.
abbrev last_credit : Trace
last_credit =
    queued 1 0 (read 512 0)
    ∷ refused 2 0 (read 512 0) faults.LastCredit
    ∷ answered 3 0 (orders.Status 1)
    ∷ refused 4 0 (orders.Status 1) faults.NoCredit
    ∷ took (3 ∷ 0 ∷ 0 ∷ 0 ∷ 0 ∷ 0 ∷ 0 ∷ 0 ∷ 0x82 ∷ 0 ∷ 0 ∷ 0 ∷ 1 ∷ 0 ∷ 0 ∷ 0 ∷ 0x11 ∷ 0 ∷ 0 ∷ 0 ∷ [])
    ∷ answered 4 0 (orders.Status 1)
    ∷ []

-- The last credit isn't for a read.
last_credit_taken : IsWrong (settings 2 2) (take 1 last_credit) (queued 2 0 (read 512 0))
unfolding answers_by
last_credit_taken h = true≢false (ap is_ok h.1)

-- Where a credit is free a poll isn't refused.
refused_always : IsWrong (settings 2 2) [] (refused 1 0 (orders.Status 1) faults.NoCredit)
unfolding answers_by
refused_always h = false≢true (ap is_ok h.1)

-- ---- steps of the one command that was queued

-- a unit that came online, and a command
abbrev pub then_queued : Order → Trace
then_queued order = came_online ++ queued 1 0 order ∷ []

-- a step there serves that command
sole : (c : Settings) (order : Order) (k : Block) (s : Service) (y : ℕ) → IsServed c (then_queued order) k s y
    → IsServed c (then_queued order) k s 3
unfolding answers_by
sole c order k s zero v = absurd (false≢true v.waits)
sole c order k s (suc zero) v = absurd (false≢true v.waits)
sole c order k s (suc (suc zero)) v = absurd (false≢true v.waits)
sole c order k s (suc (suc (suc zero))) v = v
sole c order k s (suc (suc (suc (suc y)))) v = let l =
    waits_below (then_queued order) (suc (suc (suc (suc y)))) v.waits in absurd (omega (arith, l))

count_in : EndBody → ℕ
count_in (bodies.Moved count) = count
count_in body = 0

count_of : Option End → ℕ
count_of None = 0
count_of (Some end) = count_in end.body

status_of : Option End → ℕ
status_of None = 0
status_of (Some end) = end.status

-- A read that ends well has moved all of its bytes.
short_count : IsWrong (settings 4 2) (then_queued (read 512 0)) (served Good 1 0 (Some 0) true 0 (moved 1 0 0 100))
unfolding answers_by count_of count_in
short_count h =
    let v = sole (settings 4 2) (read 512 0) Good _ h.0 h.1 in
    let e : 100 ≡ 512 = ap count_of v.ended in
    omega (arith, e)

-- A read of two blocks doesn't end after the first.
early_end : IsWrong (settings 4 2) (then_queued (read 1024 0)) (served Good 1 0 (Some 0) true 0 (moved 1 0 0 1024))
unfolding answers_by
early_end h =
    let v = sole (settings 4 2) (read 1024 0) Good _ h.0 h.1 in
    true≢false (ap is_some v.ended)

-- A head doesn't get to another cylinder by no way.
no_way : IsWrong (settings 4 2) (then_queued (read 512 800)) (served Good 1 0 (Some 800) true 0 (moved 1 0 0 512))
unfolding answers_by
no_way h =
    let v = sole (settings 4 2) (read 512 800) Good _ h.0 h.1 in
    let e : 0 ≡ 40 = v.seek in
    omega (arith, e)

-- ---- states

-- The ONLINE of a unit that is online says so.
online_anew : IsWrong (settings 4 2) (then_queued orders.Online) (served Good 1 0 None true 0 (onlined 1 0 0))
unfolding answers_by status_of
online_anew h =
    let v = sole (settings 4 2) orders.Online Good _ h.0 h.1 in
    let e : 0 ≡ 256 = ap status_of v.ended in
    omega (arith, e)

-- a step of the first command of all
first : (c : Settings) (t : Trace) (k : Block) (s : Service) (y : ℕ) → length t ≡ 1 → IsServed c t k s y
    → IsServed c t k s 0
first c t k s zero one v = v
first c t k s (suc y) one v = let below = waits_below t (suc y) v.waits in absurd (omega (arith, below, one))

-- A transfer touches no block of a unit that is available.
touched_available : IsWrong (settings 4 2) (queued 1 0 (read 512 0) ∷ [])
    (served Good 1 0 (Some 0) true 0 (moved 1 0 0 512))
unfolding answers_by
touched_available h =
    let v = first (settings 4 2) (queued 1 0 (read 512 0) ∷ []) Good _ h.0 refl h.1 in
    true≢false (ap is_some v.lbn)

-- Nor does it end with the status of a bad block there.
bad_available : IsWrong (settings 4 2) (queued 1 0 (read 512 0) ∷ [])
    (served (Bad 0x000B) 1 0 None true 0 (moved 1 0 0x000B 0))
unfolding answers_by status_of
bad_available h =
    let v = first (settings 4 2) (queued 1 0 (read 512 0) ∷ []) (Bad 0x000B) _ h.0 refl h.1 in
    let e : 11 ≡ 4 = ap status_of v.ended in
    omega (arith, e)

-- ---- starts

-- Of three reads each may be passed by a block: the second starts first, and then the first has to.
abbrev passed_once : Trace
passed_once =
    came_online
    ++ queued 1 0 (read 512 800)
    ∷ queued 2 0 (read 512 40)
    ∷ queued 3 0 (read 512 60)
    ∷ looked ((1, 2) ∷ (2, 3) ∷ (3, 4) ∷ [])
    ∷ served Good 2 0 (Some 40) true 2 (moved 2 0 0 512)
    ∷ looked ((1, 1) ∷ (3, 3) ∷ [])
    ∷ served Good 1 0 (Some 800) true 38 (moved 1 0 0 512)
    ∷ looked ((3, 2) ∷ [])
    ∷ served Good 3 0 (Some 60) true 37 (moved 3 0 0 512)
    ∷ looked []
    ∷ []

third : Service
third = record {
  connection = First;
  reference = 3;
  unit = 0;
  lbn = Some 60;
  started = true;
  seek = 1;
  ended = moved 3 0 0 512;
}

not_third : (y : ℕ) → IsServed (with_budget 5 1) (take 9 passed_once) Good third y → ⊥
unfolding answers_by third
not_third zero v = false≢true v.waits
not_third (suc zero) v = false≢true v.waits
not_third (suc (suc zero)) v = false≢true v.waits
not_third (suc (suc (suc zero))) v = let e : 3 ≡ 1 = v.reference in omega (arith, e)
not_third (suc (suc (suc (suc zero)))) v = false≢true v.waits
not_third (suc (suc (suc (suc (suc zero))))) v = false≢true v.next
not_third (suc (suc (suc (suc (suc (suc zero)))))) v = false≢true v.waits
not_third (suc (suc (suc (suc (suc (suc (suc zero))))))) v = false≢true v.waits
not_third (suc (suc (suc (suc (suc (suc (suc (suc zero)))))))) v = false≢true v.waits
not_third (suc (suc (suc (suc (suc (suc (suc (suc (suc y))))))))) v = let l =
    waits_below (take 9 passed_once) (suc (suc (suc (suc (suc (suc (suc (suc (suc y))))))))) v.waits in omega (arith, l)

-- Where the first read has nothing left of its budget, the third may not start.
passed_again : IsWrong (with_budget 5 1) (take 9 passed_once) (served Good 3 0 (Some 60) true 1 (moved 3 0 0 512))
unfolding third
passed_again h = not_third h.0 h.1

-- ---- ends and figures

taken_byte : Option (ArrayVec ℕ) → ℕ
taken_byte None = 0
taken_byte (Some b) = slice_index b.items 0

-- Ends aren't taken newest first.
newest_first : IsWrong (settings 4 2) (answered 2 0 (orders.Status 77) ∷ answered 3 0 (orders.Status 77) ∷ [])
    (took (3 ∷ 0 ∷ 0 ∷ 0 ∷ 0 ∷ 0 ∷ 0 ∷ 0 ∷ 0x82 ∷ 0 ∷ 0 ∷ 0 ∷ 77 ∷ 0 ∷ 0 ∷ 0 ∷ 0 ∷ 0 ∷ 0 ∷ 0 ∷ []))
unfolding answers_by taken_byte
newest_first h = let e : 3 ≡ 2 = ap taken_byte h.1 in omega (arith, e)

first_figure : List (Connection × ℕ × ℕ) → ℕ
first_figure [] = 0
first_figure (p ∷ ps) = p.2

-- A figure isn't the command's own blocks alone.
own_blocks : IsWrong (with_budget 5 1) (take 6 passed_once) (looked ((1, 1) ∷ (2, 1) ∷ (3, 1) ∷ []))
unfolding answers_by first_figure
own_blocks h = let e : 1 ≡ 2 = ap first_figure h in omega (arith, e)
