-- How an end was made that waits: of which command, what its message was, and with which status it is told.
use Rattle.mscp_ported.proofs.Common.{Bool, Buffer, Drive, First, Holdings, Leaving, List, Option, Record, Settings, Some, Verdict, Volume, aborted_record, advanced, answered_end, ap, arith, block_told, code_told, command_of, end_given, ends_formality, false, figure_polled, fresh_record, handed, is_formality, is_queued, length, order_weight, refl, slice_index, status_told, true, ℕ, ◌+◌, ◌<◌, ◌^◌, ◌≡◌, ◌≤◌, ◌⊎◌}
use Rattle.mscp_drive.specs.declared.block.Block.TheVariants as blocks
use Rattle.mscp_controller.specs.Outcomes.{own_end}
use Rattle.mscp_port.specs.declared.verdict.Verdict.TheVariants as verdicts
use Rattle.mscp_ported.proofs.Sole.{Alike}

-- a message is of bytes, and has as many as each has
pub record IsText (t : List ℕ) : Type 0 where
  pub long : 12 ≤ length t
  pub small : (i : ℕ) → slice_index t i < 2 ^ 8

-- a waiting command is that of a message as it is handed over, and all its blocks so far were good
pub record IsOf (r : Record) (t : List ℕ) : Type 0 where
  pub settings : Settings
  pub message : IsText t
  pub command : r.command ≡ command_of (handed settings.units t)
  pub queued : is_queued settings r.command ≡ true
  pub whole : r.weight ≡ order_weight r.command.order
  pub good : r.good ≡ r.done

-- it is that still
pub record IsLeft (r s : Record) : Type 0 where
  pub command : s.command ≡ r.command
  pub weight : s.weight ≡ r.weight
  pub good : r.good ≡ r.done → s.good ≡ s.done

pub left_alike : (r s : Record) → Alike r s → IsLeft r s
left_alike r s alike = grind arith

pub left_advanced : (r : Record) → IsLeft r (advanced r)
left_advanced r = record { command = refl; weight = refl; good = λ g. ap (λ n. n + 1) g }

pub of_left : (r s : Record) (t : List ℕ) → IsLeft r s → IsOf r t → IsOf s t
of_left r s t left of = grind arith

-- so is one that was queued as its message came
pub queued_of : (settings : Settings) (t : List ℕ) → IsText t
    → is_queued settings (command_of (handed settings.units t)) ≡ true
    → IsOf (fresh_record First (command_of (handed settings.units t))) t
queued_of settings t message queued = grind arith

-- ---- ends

-- an end is told so, whose step went so
abbrev pub IsToldSo : Verdict → Leaving → Type 0
IsToldSo verdict l =
    (v : Volume) × (l.fields.status ≡ status_told verdict l.fields.code l.end.status v)

-- its command was answered as its message came
pub record IsAnswer (c : Settings) (l : Leaving) (t : List ℕ) : Type 0 where
  pub online : Bool
  pub figure : ℕ
  pub low : figure < 2 ^ 32
  pub message : IsText t
  pub immediate : is_queued c (command_of (handed c.units t)) ≡ false
  pub end : l.end ≡ own_end c online figure (command_of (handed c.units t))
  pub told : IsToldSo (verdicts.Served blocks.Good) l

-- or waited until it was aborted
pub record IsAborted (l : Leaving) (t : List ℕ) : Type 0 where
  pub own : Record
  pub of : IsOf own t
  pub end : l.end ≡ aborted_record own
  pub told : IsToldSo (verdicts.Served blocks.Good) l

-- or until a step ended it, of which this was told
pub record IsServed (Told : Verdict → Record → Type 0) (l : Leaving) (t : List ℕ) : Type 0 where
  pub own : Record
  pub of : IsOf own t
  pub drive : Drive
  pub verdict : Verdict
  pub is : Told verdict own
  pub end : end_given (block_told verdict) drive own ≡ Some l.end
  pub told : IsToldSo verdict l

abbrev pub IsMade : Settings → (Verdict → Record → Type 0) → Leaving → List ℕ → Type 0
IsMade c Told l t = IsAnswer c l t ⊎ IsAborted l t ⊎ IsServed Told l t

pub answer_of : {K : Type 0} (h : Holdings K) (t : List ℕ) (c : Settings) → h.settings ≡ c → IsText t
    → is_queued h.settings (command_of (handed h.settings.units t)) ≡ false
    → figure_polled h.settings First h.waiting (command_of (handed h.settings.units t)).order < 2 ^ 32 → (l : Leaving)
    → l.end ≡ answered_end First h (command_of (handed h.settings.units t))
    → IsToldSo (verdicts.Served blocks.Good) l → IsAnswer c l t
answer_of {K} h t c set message immediate low l end told = grind arith

pub aborted_of : (r : Record) (t : List ℕ) → IsOf r t → (l : Leaving) → l.end ≡ aborted_record r
    → IsToldSo (verdicts.Served blocks.Good) l → IsAborted l t
aborted_of r t of l end told = record { own = r; of = of; end = end; told = told }

pub formal_code : (n : ℕ) → is_formality n ≡ true → ends_formality (n + 0x80) ≡ true
formal_code n e = grind (arith, e)

-- it is told with its own code, if that isn't a formality's
pub told_same : (o : Option Buffer) (code : ℕ) → ends_formality (code_told o code) ≡ false → code_told o code ≡ code
told_same o code e = grind (arith, formal_code)
