-- Two hosts, each with a connection of its own: answers that aren't right.
use Rattle.mscp_trials.proofs.Common.{◌≡◌, ℕ, true, List, [], ◌∷◌, ◌++◌, take, ap, arith, replicate, Option, Some, None, Result, is_some, is_ok, slice_index, Ok, Err, true≢false, false≢true, ArrayVec, Order, End, command_bytes, Good, Connection, First, Second, SendFault, Sent, Event, Settings, Trace, Moment, figure, IsRight, answers_by}
use Rattle.mscp_packet.specs.declared.command.Order.TheVariants as orders
use Rattle.mscp_queue.specs.declared.report.Report.TheVariants as reports
use Rattle.mscp_controller.specs.declared.entry.SendFault.TheVariants as faults
use Rattle.mscp_controller.specs.declared.entry.Sent.TheVariants as sents
use Rattle.mscp_drive.specs.declared.event.Event.TheVariants as events
use Rattle.mscp_controller.specs.declared.entry.Entry.TheVariants as entries
use Rattle.mscp_trials.proofs.Worked.Literals.{settings_of, shape, read, moved, onlined}

-- both connections have so many credits
abbrev of_both : ℕ → Settings
of_both credits = record (settings_of (shape 0 ∷ []) credits 16) { second = credits }

abbrev sends : Connection → ℕ → Order → Event
sends via r o = events.Send via (record { items = command_bytes (record { reference = r; unit = 0; order = o }) })

abbrev queued : Connection → ℕ → Order → Moment
queued via r o = (sends via r o, entries.Sent via (Ok (sents.Queued r)))

-- answered, and this command aborted, if one was
abbrev answered : Connection → ℕ → Order → Option ℕ → Moment
answered via r o other = (sends via r o, entries.Sent via (Ok (sents.Answered r other)))

abbrev took : Connection → List ℕ → Moment
took via b = (events.Take via, entries.Taken via (Some (record { items = b })))

abbrev served : Connection → ℕ → Option ℕ → Option End → Moment
served via r lbn ended = (events.Step Good, entries.Stepped (reports.Served via r 0 lbn true 0 ended))

-- the end of a poll of command 1 by command 2, with this figure
abbrev told : ℕ → List ℕ
told figure = 2 ∷ 0 ∷ 0 ∷ 0 ∷ 0 ∷ 0 ∷ 0 ∷ 0 ∷ 0x82 ∷ 0 ∷ 0 ∷ 0 ∷ 1 ∷ 0 ∷ 0 ∷ 0 ∷ figure ∷ 0 ∷ 0 ∷ 0 ∷ []

-- An ONLINE of the first host and a READ of the second have one number. The second polls its own, whose figure counts
-- the ONLINE before it, and each end goes to its host.
abbrev shared : Trace
shared =
    queued First 1 orders.Online
    ∷ queued Second 1 (read 512 0)
    ∷ answered Second 2 (orders.Status 1) None
    ∷ took Second (told 18)
    ∷ served First 1 None (onlined 1 0 0)
    ∷ served Second 1 (Some 0) (moved 1 0 0 512)
    ∷ took Second ((1 ∷ 0 ∷ 0 ∷ 0 ∷ 0 ∷ 0 ∷ 0 ∷ 0 ∷ 0xA1 ∷ 0 ∷ 0 ∷ 0 ∷ 0 ∷ 2 ∷ 0 ∷ 0 ∷ []) ++ replicate 16 0)
    ∷ []

abbrev IsWrong : Settings → Trace → Moment → Type 0
IsWrong c t m = IsRight c t m.0 m.1 → ⊥

-- what an answer says was aborted
aborted_in : Result Sent SendFault → Option ℕ
aborted_in (Ok (sents.Answered r other)) = other
aborted_in sent = None

-- the figure that an end tells
figure_byte : Option (ArrayVec ℕ) → ℕ
figure_byte None = 0
figure_byte (Some b) = slice_index b.items 16

-- a READ 7 of the second host waits
abbrev seven : Trace
seven = queued Second 7 (read 512 0) ∷ []

-- The first host's ABORT doesn't find it.
abort_across : IsWrong (of_both 4) seven (answered First 2 (orders.Abort 7) (Some 7))
unfolding answers_by aborted_in
abort_across h = true≢false (ap (λ s. is_some (aborted_in s)) h.1)

-- The second host's last credit doesn't keep the first from a READ.
one_balance : IsWrong (of_both 2) seven (sends First 1 (read 512 0), entries.Sent First (Err faults.LastCredit))
unfolding answers_by
one_balance h = false≢true (ap is_ok h.1)

-- The first host takes nothing of the second's.
taken_across : IsWrong (of_both 4) (take 3 shared) (took First (told 18))
unfolding answers_by
taken_across h = true≢false (ap is_some h.1)

-- The second host isn't told the first's figure, 17.
told_the_others : IsWrong (of_both 4) (take 3 shared) (took Second (told 17))
unfolding answers_by figure_byte
told_the_others h = let e : 17 ≡ 18 = ap figure_byte h.1 in omega (arith, e)
