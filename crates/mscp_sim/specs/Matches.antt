-- What the host of a connection and a controller keep of each other, as long as each message and each end comes
-- through.
use Rattle.std.specs.Prelude.{◌≡◌, ℕ, ◌+◌, ◌<◌, ◌≤◌, ◌^◌, Bool, true, false, nat_eq, if◌then◌else◌, List, [], ◌∷◌, ◌++◌, length, map, find, Option, Some, None, option_map}
use Rattle.std.specs.List.{AllByRecursion, list_any}
use Rattle.mscp_packet.specs.declared.end.End.{End}
use Rattle.mscp_packet.specs.declared.end.EndBody.TheVariants as bodies
use Rattle.mscp_packet.specs.Commands.{opcode_byte}
use Rattle.mscp_packet.specs.declared.command.Command.{Command}
use Rattle.mscp_packet.specs.declared.command.Order.{Order}
use Rattle.mscp_queue.specs.Orders.{endcode}
use Rattle.mscp_queue.specs.Records.{Record}
use Rattle.mscp_drive.specs.declared.connection.Connection.{Connection}
use Rattle.mscp_drive.specs.Both.{Both, of}
use Rattle.mscp_drive.specs.Settings.{credits_of}
use Rattle.mscp_controller.specs.Holdings.{Holdings, outstanding_of, waiting_on}
use Rattle.mscp_host.specs.declared.submission.Submission.{Submission}
use Rattle.mscp_host.specs.declared.watch.Watch.{Watch}
use Rattle.mscp_host.specs.Accounts.{Account, has_reference, is_code_of, status_end}

-- how often a reference number stands among these
abbrev pub times : ℕ → List ℕ → ℕ
times reference [] = 0
times reference (x ∷ rest) = if nat_eq x reference then 1 + times reference rest else times reference rest

-- the reference numbers of submissions
abbrev pub references : List Submission → List ℕ
references submissions = map (λ s. s.reference) submissions

-- the opcode byte of the submission of this reference number, if there is one
abbrev pub opcode_found : List Submission → ℕ → Option ℕ
opcode_found submissions reference = option_map (λ s. s.opcode) (find (has_reference reference) submissions)

-- the numbers of a submission fit their types
abbrev pub IsSmall : Submission → Type 0
IsSmall s = (s.reference < 2 ^ 32) × (s.unit < 2 ^ 16)

-- the endcode of an order is that of its opcode byte, or that of an unknown opcode
abbrev pub HasOwnEndcode : Order → Type 0
HasOwnEndcode order = is_code_of (endcode order) (opcode_byte order) ≡ true

-- a waiting command is a submission
abbrev pub IsKnown : List Submission → Command → Type 0
IsKnown submissions c = (opcode_found submissions c.reference ≡ Some (opcode_byte c.order)) × HasOwnEndcode c.order

-- the commands of records
abbrev pub commands : List Record → List Command
commands rs = map (λ r. r.command) rs

-- an end is that of a submission
pub record IsAwaited (submissions : List Submission) (e : End) : Type 0 where
  pub opcode : ℕ
  pub found : opcode_found submissions e.reference ≡ Some opcode
  pub code : is_code_of e.code opcode ≡ true

-- what the poll in flight is told: a figure, and whether its command waited when the poll came
pub record Flight : Type 0 where
  pub figure : ℕ
  pub waited : Bool

-- the end of the poll in flight is untaken. Where its command didn't wait any more, that one's end stands before it
pub record IsFlight (untaken : List End) (w : Watch) (flight : Flight) : Type 0 where
  pub front : List End
  pub end : End
  pub back : List End
  pub split : untaken ≡ front ++ end ∷ back
  pub reference : end.reference ≡ w.reference
  pub code : end.code ≡ status_end
  pub body : end.body ≡ bodies.Status w.polled flight.figure
  pub ended : w.is_outstanding ≡ true → flight.waited ≡ false → list_any (λ e. nat_eq e.reference w.polled) front ≡ true

abbrev pub HasFlight : List End → Option Watch → Flight → Type 0
HasFlight untaken None flight = Unit {0}
HasFlight untaken (Some w) flight = IsFlight untaken w flight

-- what the host of a connection has outstanding is what waits at the controller by that connection, or was ended by it
-- and not taken
pub record Matches {K : Type 0} (via : Connection) (a : Account) (h : Holdings K) (told : Flight) : Type 0 where
  pub credits : a.credits ≡ credits_of h.settings via
  pub many : length a.outstanding ≡ length (waiting_on via h.waiting) + length (of via h.untaken)
  pub same : (reference : ℕ) → times reference (references a.outstanding) ≡ times reference (outstanding_of via h)
  pub once : (reference : ℕ) → times reference (outstanding_of via h) ≤ 1
  pub small : AllByRecursion IsSmall a.outstanding
  pub waits : AllByRecursion (IsKnown a.outstanding) (commands (waiting_on via h.waiting))
  pub ends : AllByRecursion (IsAwaited a.outstanding) (of via h.untaken)
  pub flight : HasFlight (of via h.untaken) a.watch told

-- whatever the poll in flight is told
abbrev pub MatchOn : {K : Type 0} → Connection → Account → Holdings K → Type 0
MatchOn via a h = (told : Flight) × Matches via a h told

-- the same of the hosts of both
abbrev pub Match : {K : Type 0} → Both Account → Holdings K → Type 0
Match both h = (via : Connection) → MatchOn via (of via both) h
