-- Short words for literal runs.
use Rattle.mscp_trials.proofs.Common.{ℕ, ◌+◌, ◌*◌, Bool, true, List, [], ◌∷◌, ◌++◌, map, replicate, Option, Some, None, Result, Ok, Err, Order, End, command_bytes, First, Block, Good, SendFault, Sent, Event, Shape, Settings, Moment, Trace}
use Rattle.mscp_packet.specs.declared.command.Order.TheVariants as orders
use Rattle.mscp_packet.specs.declared.command.MoveKind.TheVariants as moves
use Rattle.mscp_packet.specs.declared.end.EndBody.TheVariants as bodies
use Rattle.mscp_queue.specs.declared.report.Report.TheVariants as reports
use Rattle.mscp_controller.specs.declared.entry.Sent.TheVariants as sents
use Rattle.mscp_drive.specs.declared.event.Event.TheVariants as events
use Rattle.mscp_controller.specs.declared.entry.Entry.TheVariants as entries

-- a unit of this number of 1000 blocks, 20 a cylinder
abbrev pub shape : ℕ → Shape
shape number = record {
  number = number;
  track = 10;
  group = 2;
  cylinder = 1;
  size = 1000;
  id = number + 1;
  media =
      0;
  serial = number + 1;
}

-- so many credits, a budget of so many blocks, transfers of at most 8 blocks, and these units
abbrev pub settings_of : List Shape → ℕ → ℕ → Settings
settings_of units credits budget = record {
  credits = credits;
  second = 0;
  budget = budget;
  longest = 8;
  timeout = 60;
  id =
      1;
  units = units;
}

-- the same with unit 0 alone
abbrev pub with_budget : ℕ → ℕ → Settings
with_budget credits budget = settings_of (shape 0 ∷ []) credits budget

-- with a budget of so many passes by the longest transfer
abbrev pub settings : ℕ → ℕ → Settings
settings credits passes = settings_of (shape 0 ∷ []) credits (passes * 8)

-- a read of so many bytes from this block on
abbrev pub read : ℕ → ℕ → Order
read count block = orders.Move moves.Read count block

abbrev pub message : ℕ → ℕ → Order → Event
message r u o = events.Send First (record { items = command_bytes (record { reference = r; unit = u; order = o }) })

abbrev pub raw : List ℕ → Result Sent SendFault → Moment
raw b answer = (events.Send First (record { items = b }), entries.Sent First answer)

abbrev pub queued : ℕ → ℕ → Order → Moment
queued r u o = (message r u o, entries.Sent First (Ok (sents.Queued r)))

abbrev pub answered : ℕ → ℕ → Order → Moment
answered r u o = (message r u o, entries.Sent First (Ok (sents.Answered r None)))

-- an ABORT, to this unit, of the command of another reference number, which waits
abbrev pub aborted_from : ℕ → ℕ → ℕ → Moment
aborted_from u r other = (message r u (orders.Abort other), entries.Sent First (Ok (sents.Answered r (Some other))))

-- the same to unit 0
abbrev pub aborted : ℕ → ℕ → Moment
aborted r other = aborted_from 0 r other

abbrev pub refused : ℕ → ℕ → Order → SendFault → Moment
refused r u o fault = (message r u o, entries.Sent First (Err fault))

abbrev pub took : List ℕ → Moment
took b = (events.Take First, entries.Taken First (Some (record { items = b })))

-- a look that tells these reference numbers and figures, of commands that came by the first connection
abbrev pub looked : List (ℕ × ℕ) → Moment
looked l = (events.Look, entries.Looked (record { items = map (λ p. (First, p.0, p.1)) l }))

-- a step that serves this reference and unit, touches this block, perhaps starts the command, moves the head
-- by so many cylinders, and perhaps ends the command
abbrev pub served : Block → ℕ → ℕ → Option ℕ → Bool → ℕ → Option End → Moment
served k r u lbn started seek ended = (events.Step k, entries.Stepped (reports.Served First r u lbn started seek ended))

-- the end of a transfer with this endcode, reference, unit, status and byte count
abbrev pub moved_by : ℕ → ℕ → ℕ → ℕ → ℕ → Option End
moved_by code r u status count = Some (record {
  reference = r;
  unit = u;
  code = code;
  status = status;
  body =
      bodies.Moved count;
})

-- the same of a read
abbrev pub moved : ℕ → ℕ → ℕ → ℕ → Option End
moved r u status count = moved_by 0xA1 r u status count

-- the end of an ONLINE with this reference, unit and status that tells of the unit
abbrev pub onlined : ℕ → ℕ → ℕ → Option End
onlined r u status = Some (record {
  reference = r;
  unit = u;
  code = 0x89;
  status = status;
  body =
      bodies.Online (u + 1) 0 1000 (u + 1);
})

-- unit 0 comes online by a command with the reference number 900, and the end is taken
abbrev pub came_online : Trace
came_online =
    queued 900 0 orders.Online
    ∷ served Good 900 0 None true 0 (onlined 900 0 0)
    ∷ took ((0x84 ∷ 3 ∷ 0 ∷ 0 ∷ 0 ∷ 0 ∷ 0 ∷ 0 ∷ 0x89 ∷ 0 ∷ 0 ∷ 0 ∷ [])
    ++ (replicate 8 0 ++ ((1 ∷ 0 ∷ 0 ∷ 0 ∷ 0 ∷ 0 ∷ 0 ∷ 0 ∷ [])
    ++ (replicate 8 0 ++ (0xE8 ∷ 3 ∷ 0 ∷ 0 ∷ 1 ∷ 0 ∷ 0 ∷ 0 ∷ [])))))
    ∷ []
