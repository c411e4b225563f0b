-- The cookies of the waiting commands, in order of arrival, and of each connection's ends that weren't taken, oldest
-- first; and how they change. A cookie is 64 bits that a command's holder gave with its message (profile).
use Rattle.std.specs.Prelude.{ℕ, ◌+◌, ◌<◌, List, [], ◌∷◌, ◌++◌, length, drop, remove, slice_index_or, Option, Some, None}
use Rattle.mscp_drive.specs.Both.{Both, of, put}
use Rattle.mscp_drive.specs.declared.connection.Connection.{Connection}
use Rattle.mscp_queue.specs.declared.report.Report.{Report}
use Rattle.mscp_queue.specs.declared.report.Report.TheVariants.{Idle, Served}
use Rattle.mscp_controller.specs.declared.entry.Sent.{Sent}
use Rattle.mscp_controller.specs.declared.entry.Sent.TheVariants.{Answered, Queued}

pub record Cookies : Type 0 where
  pub waiting : List ℕ
  pub untaken : Both (List ℕ)

abbrev pub no_cookies : Cookies
no_cookies = record { waiting = []; untaken = record { first = []; second = [] } }

-- the cookie at a place, 0 where there is none
abbrev pub cookie_in : List ℕ → Option ℕ → ℕ
cookie_in cookies None = 0
cookie_in cookies (Some place) = slice_index_or cookies place 0

-- a command with this cookie waits, behind all that wait
abbrev pub waited : ℕ → Cookies → Cookies
waited cookie k = record k { waiting = k.waiting ++ cookie ∷ [] }

-- an end with this cookie was made for a connection
abbrev pub ended : Connection → ℕ → Cookies → Cookies
ended via cookie k = record k { untaken = put via (of via k.untaken ++ cookie ∷ []) k.untaken }

-- the command at a place, if one is meant, has ended: its cookie is that of its end
abbrev pub left : Connection → Option ℕ → Cookies → Cookies
left via None k = k
left via (Some place) k =
    ended via (slice_index_or k.waiting place 0) (record k { waiting = remove k.waiting place })

-- the oldest end of a connection was taken, if there was one
abbrev pub taken : Connection → Cookies → Cookies
taken via k = record k { untaken = put via (drop 1 (of via k.untaken)) k.untaken }

-- a message of a connection with this cookie became this: the command that it aborted, if it did, was at this place
abbrev pub sent : Connection → Sent → Option ℕ → ℕ → Cookies → Cookies
sent via (Queued reference) place cookie k = waited cookie k
sent via (Answered reference aborted) place cookie k = ended via cookie (left via place k)

-- a step of the command at this place was reported
abbrev pub reported : Option ℕ → Report → Cookies → Cookies
reported place Idle k = k
reported place (Served via reference unit lbn started seek None) k = k
reported place (Served via reference unit lbn started seek (Some end)) k = left via place k

-- there is a place, and room for what leaves it
abbrev pub CanLeave : Connection → Option ℕ → Cookies → Type 0
CanLeave via None k = length (of via k.untaken) < 64
CanLeave via (Some place) k = (place < length k.waiting) × (length (of via k.untaken) + 1 < 64)

-- there is room for what a message became
abbrev pub CanCome : Connection → Sent → Option ℕ → Cookies → Type 0
CanCome via (Queued reference) place k = length k.waiting < 64
CanCome via (Answered reference aborted) place k = CanLeave via place k

-- there is room for what a step reported
abbrev pub CanReport : Option ℕ → Report → Cookies → Type 0
CanReport place Idle k = Unit {0}
CanReport place (Served via reference unit lbn started seek None) k = Unit {0}
CanReport None (Served via reference unit lbn started seek (Some end)) k = Unit {0}
CanReport (Some place) (Served via reference unit lbn started seek (Some end)) k =
    (place < length k.waiting) × (length (of via k.untaken) < 64)
