-- The bytes that a host is saved as. All numbers are little-endian.
use Rattle.std.specs.Prelude.{ℕ, ◌+◌, ◌*◌, ◌^◌, ◌<◌, Bool, if◌then◌else◌, List, [], ◌∷◌, ◌++◌, length, flat_map, All, Option, Some, None, IfSome}
use Rattle.byteorder.specs.Endian.{little_bytes}
use Rattle.mscp_host.specs.declared.submission.Submission.{Submission}
use Rattle.mscp_host.specs.declared.watch.Watch.{Watch}
use Rattle.mscp_host.specs.Accounts.{Account}

-- ---- sizes

-- the head and an outstanding submission take so many bytes
abbrev pub head_size : ℕ
head_size = 26

abbrev pub submission_size : ℕ
submission_size = 12

-- with so many submissions all is so long
abbrev pub saved_length : ℕ → ℕ
saved_length submissions = head_size + submission_size * submissions

-- "MSCH", as a number
abbrev pub magic : ℕ
magic = 0x4843534D

abbrev pub version : ℕ
version = 1

-- ---- parts

-- what was last told: whether something was, and the figure
abbrev pub told_bytes : Option ℕ → List ℕ
told_bytes None = 0 ∷ little_bytes 4 0
told_bytes (Some figure) = 1 ∷ little_bytes 4 figure

-- a submission: its reference number, its unit, its opcode byte, and what was last told of it
abbrev pub submission_bytes : Submission → List ℕ
submission_bytes s =
    little_bytes 4 s.reference ++ little_bytes 2 s.unit ++ (s.opcode ∷ []) ++ told_bytes s.told

-- the poll in flight: 0 where there is none, 1 where the polled submission is outstanding no more, 2 where it is; the
-- poll's reference number, and that of the polled submission
abbrev pub watch_byte : Bool → ℕ
watch_byte is_outstanding = if is_outstanding then 2 else 1

abbrev pub watch_bytes : Option Watch → List ℕ
watch_bytes None = (0 ∷ little_bytes 4 0) ++ little_bytes 4 0
watch_bytes (Some w) = (watch_byte w.is_outstanding ∷ little_bytes 4 w.reference) ++ little_bytes 4 w.polled

-- ---- all

-- what tells that it is a saved host, of this version of the format, and of so many bytes
abbrev pub frame_bytes : ℕ → List ℕ
frame_bytes submissions =
    little_bytes 4 magic ++ little_bytes 4 version ++ little_bytes 4 (saved_length submissions)

-- all that a host keeps: the submissions oldest first
abbrev pub saved_bytes : Account → List ℕ
saved_bytes a =
    frame_bytes (length a.outstanding)
    ++ little_bytes 4 a.credits
    ++ (length a.outstanding ∷ [])
    ++ watch_bytes a.watch
    ++ flat_map submission_bytes a.outstanding

-- ---- ranges

-- the numbers of a submission fit their types
pub record HasSubmissionRange (s : Submission) : Type 0 where
  pub reference : s.reference < 2 ^ 32
  pub unit : s.unit < 2 ^ 16
  pub opcode : s.opcode < 2 ^ 8
  pub told : IfSome s.told (λ figure. figure < 2 ^ 32)

-- those of a poll in flight
pub record HasWatchRange (w : Watch) : Type 0 where
  pub reference : w.reference < 2 ^ 32
  pub polled : w.polled < 2 ^ 32

-- all of them
pub record HasRange (a : Account) : Type 0 where
  pub outstanding : All HasSubmissionRange a.outstanding
  pub watch : IfSome a.watch (λ w. HasWatchRange w)
