-- When a driver is to poll, and when it is to reset (manual, "Host Command Timeouts"). All is counted in ticks of its
-- timer.
use Rattle.std.specs.Prelude.{◌≡◌, ◌≤◌, ℕ, ◌+◌, min, Bool, true, false, not, ◌&&◌, nat_lt, nat_le, if◌then◌else◌, List, [], ◌∷◌, ◌++◌, is_some, count_by}
use Rattle.std.specs.List.{list_all, list_any}
use Rattle.mscp_host.specs.declared.heard.Heard.{Heard}
use Rattle.mscp_host.specs.declared.heard.Heard.TheVariants as heards
use Rattle.mscp_host.specs.declared.ticking.Advice.{Advice}
use Rattle.mscp_host.specs.declared.ticking.Advice.TheVariants as advices
use Rattle.mscp_host.specs.declared.ticking.Watch.{Watch}
use Rattle.mscp_host.specs.Accounts.{is_immediate, oldest}
use Rattle.mscp_host.specs.PortAccounts.{PortAccount}

-- ---- what is seen of a host

-- a command is outstanding that isn't answered when it arrives
abbrev pub is_waiting : PortAccount → Bool
is_waiting p = is_some (oldest p.account)

-- a poll is in flight
abbrev pub is_polled : PortAccount → Bool
is_polled p = is_some p.account.watch

-- a command is outstanding that is answered when it arrives
abbrev pub is_owed : PortAccount → Bool
is_owed p = list_any (λ a. is_immediate a.opcode) p.asked

-- what is heard is the end of such a command
abbrev pub is_answer : Heard → Bool
is_answer (heards.Ended e asked) = is_immediate asked.opcode
is_answer (heards.MovedTooMuch e asked) = is_immediate asked.opcode
is_answer (heards.Available unit) = false
is_answer (heards.Attention code unit) = false
is_answer heards.Logged = false
is_answer (heards.Credits credits) = false
is_answer heard = true

-- ---- a tick

-- one tick more, if something goes on
abbrev pub counted : Bool → ℕ → ℕ
counted goes_on ticks = if goes_on then min (ticks + 1) 4294967295 else 0

-- a watch, one tick later
abbrev pub ticked : Watch → PortAccount → Watch
ticked w p = record w { waited = counted (is_waiting p) w.waited; silent = counted (is_owed p) w.silent }

-- what is to be done, by a watch that has counted this tick: the first that holds
abbrev pub advice : Watch → PortAccount → Advice
advice w p =
    if is_owed p && nat_lt w.timeout w.silent then advices.Reset else (
    if is_waiting p && (not (is_polled p) && nat_le w.timeout w.waited) then advices.Poll else advices.Nothing)

-- a watch begins to count anew
abbrev pub advised : Watch → Advice → Watch
advised w advices.Reset = record w { waited = 0; silent = 0 }
advised w advices.Poll = record w { waited = 0 }
advised w advices.Nothing = w

abbrev pub ticks : Watch → PortAccount → Advice × Watch
ticks w p = (advice (ticked w p) p, advised (ticked w p) (advice (ticked w p) p))

-- a watch, once that was heard
abbrev pub heard_by : Watch → Heard → Watch
heard_by w heard = if is_answer heard then record w { silent = 0 } else w

-- ---- a history, newest first

pub data WatchMoment : Type 0 where
  Tick : PortAccount → Advice → WatchMoment
  Told : Heard → WatchMoment

-- what a watch did since it was made, newest first
abbrev pub Watched : ℕ → List WatchMoment → Watch → Type 0
Watched timeout [] w = w ≡ record { timeout = timeout; waited = 0; silent = 0 }
Watched timeout (Tick p answer ∷ before) w = (old : Watch) × (ticks old p ≡ (answer, w)) × Watched timeout before old
Watched timeout (Told heard ∷ before) w = (old : Watch) × (w ≡ heard_by old heard) × Watched timeout before old

abbrev pub is_tick : WatchMoment → Bool
is_tick (Tick p answer) = true
is_tick (Told heard) = false

-- no poll was to be sent, and something waits
abbrev pub is_unpolled : WatchMoment → Bool
is_unpolled (Tick p advices.Nothing) = is_waiting p
is_unpolled (Tick p answer) = false
is_unpolled (Told heard) = true

-- no answer came, and one is owed
abbrev pub is_silent : WatchMoment → Bool
is_silent (Tick p advices.Reset) = false
is_silent (Tick p answer) = is_owed p
is_silent (Told heard) = not (is_answer heard)

-- the newest moments all pass a test, and so many of them are ticks
pub record Lately (test : WatchMoment → Bool) (ticks : ℕ) (before : List WatchMoment) : Type 0 where
  pub lately : List WatchMoment
  pub earlier : List WatchMoment
  pub is : before ≡ lately ++ earlier
  pub all : list_all test lately ≡ true
  pub many : ticks ≤ count_by is_tick lately

-- what is promised of each tick that comes after `before`
pub record IsPatient (timeout : ℕ) (before : List WatchMoment) (p : PortAccount) (answer : Advice) : Type 0 where
  -- a poll is sent only where something waits and no poll is in flight, and with this tick a whole timeout of ticks has
  -- gone by without a poll, or a reset, or a moment in which nothing waited
  pub polls : answer ≡ advices.Poll → (is_waiting p ≡ true) × (is_polled p ≡ false)
      × ((t : ℕ) × (timeout ≤ t + 1) × Lately is_unpolled t before)
  -- a reset is said only where an answer is owed, and at a whole timeout of ticks before this one an answer was owed,
  -- and none has come since
  pub resets : answer ≡ advices.Reset → (is_owed p ≡ true) × Lately is_silent timeout before

-- a watch of any timeout, whatever it saw and heard before
abbrev pub WatchesArePatient : Type 0
WatchesArePatient =
    (timeout : ℕ) (before : List WatchMoment) (w new : Watch) (p : PortAccount) (answer : Advice)
    → Watched timeout before w → ticks w p ≡ (answer, new) → IsPatient timeout before p answer
