-- What is true after every part of a legal run, from the definitions alone.
use Rattle.mscp_controller.proofs.Basics.{◌≡◌, ℕ, zero, suc, ◌+◌, ◌<◌, ◌≤◌, [], ◌∷◌, ◌++◌, take, length, arith, None, take_more, First, Settings, Trace, Moment, moment, waiting, IsRight, IsLegal, Event, Entry, Steady, steady_more, Short, short_more}
use Rattle.mscp_controller.proofs.Promise.Room.{Room, room_empty, room_more}
use Rattle.mscp_controller.proofs.Promise.Limited.{Limited, limited_more}
use Rattle.mscp_controller.proofs.Promise.Falling.{falling}
use Rattle.mscp_controller.proofs.Promise.Within.{Within, within_more}

-- a part of a run, and the moment after it
pub more_at : (t : Trace) (i : ℕ) → i < length t → take (i + 1) t ≡ take i t ++ moment t i ∷ []
unfolding moment
more_at t i h = take_more t i (Event.Take First, Entry.Taken First None) h

-- What holds of the empty run, and is kept by right moments, holds after every part of a legal run.
pub by_moments : (c : Settings) (P : Trace → Type 0) → P [] → ((t : Trace) (m : Moment)
    → IsRight c t m.0 m.1 → P t → P (t ++ m ∷ [])) → (t : Trace) → IsLegal c t → (i : ℕ) → i ≤ length t → P (take i t)
by_moments c P start keeps t legal zero h = start
by_moments c P start keeps t legal (suc i) h =
    search (arith, more_at t i (omega arith), by_moments c P start keeps t legal i (omega arith))

pub record Known (c : Settings) (t : Trace) : Type 0 where
  pub steady : Steady c t
  pub room : Room c t
  pub short : Short c t (waiting t)
  pub limited : Limited c t (waiting t)
  pub within : Within c t

pub known_empty : (c : Settings) → Known c []
unfolding waiting
known_empty c = search (arith, room_empty)

pub known_more : (c : Settings)
    → 1 ≤ c.longest → (t : Trace) (m : Moment) → IsRight c t m.0 m.1 → Known c t → Known c (t ++ m ∷ [])
known_more c l t m r k = search (arith, short_more, steady_more, room_more, limited_more, falling, within_more)

pub known : (c : Settings) → 1 ≤ c.longest → (t : Trace) → IsLegal c t → (i : ℕ) → i ≤ length t → Known c (take i t)
known c l t legal i h = by_moments c (Known c) (known_empty c) (known_more c l) t legal i h
