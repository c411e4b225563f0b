-- What is decided of an end, and the bytes with which it leaves, by either table.
use Rattle.mscp_ported.proofs.Common.{Decided, End, Fields, First, Hardware, List, MoveKind, Option, Outcome, Port, Shape, Upcoming, Verdict, Volume, answer_left, answer_of, block_of, block_served, code_said, code_told, end_decided, end_told, fields_with, kept_of, refl, status_said, status_told, step_left, text_left, told_as, unit_found, verdict_of, volume_found, ℕ, ◌≡◌, arith}
use Rattle.mscp_port.specs.declared.action.Outcome.TheVariants as outcomes

-- ---- what is decided

abbrev pub fields_of : Decided → Fields
fields_of d = record { code = d.code; status = d.status; flags = d.flags; media = d.media; size = d.size }

status_so : (verdict : Verdict) (code status : ℕ) (v : Volume)
    → status_told verdict code status v ≡ status_said verdict code status v
status_so verdict code status v = grind arith

code_so : {K : Type 0} (old : Port K) (e : End)
    → code_told (kept_of First e.reference old.buffers.items) e.code ≡ code_said old e
code_so old e = grind arith

pub fields_so : (code status : ℕ) (e : End) (units : List Shape) (flags : ℕ) (v : Volume)
    → fields_of (end_decided code status e units flags v)
    ≡ fields_with code status e (unit_found units e.unit) flags v
fields_so code status e units flags v = grind arith

-- of an end that was made as a message came, which may be one's of which the port kept something before
abbrev pub answer_by : {K : Type 0} → Port K → Port K → End → Decided
answer_by old new = answer_of (record new { buffers = old.buffers })

pub answer_so : {K : Type 0} (old new : Port K) (e : End)
    → fields_of (answer_by old new e) ≡ (answer_left old new e).fields
answer_so old new e = grind (arith, fields_so, status_so, code_so)

-- of the end of a step that went so
abbrev pub decided_by : {K : Type 0} → Verdict → Port K → Port K → End → Decided
decided_by verdict old new e =
    end_decided (code_told (kept_of First e.reference old.buffers.items) e.code)
    (status_told verdict (code_told (kept_of First e.reference old.buffers.items) e.code) e.status
    (volume_found old.controller.settings.units old.volumes e.unit)) e
    new.controller.settings.units new.flags (volume_found new.controller.settings.units new.volumes e.unit)

pub step_fields : {K : Type 0} (verdict : Verdict) (old new : Port K) (e : End)
    → fields_of (decided_by verdict old new e) ≡ (step_left verdict old new e).fields
step_fields verdict old new e = grind (arith, fields_so, status_so, code_so)

pub outcome_so : (outcome : Outcome) → block_of outcome ≡ told_as outcome
outcome_so outcomes.Done = refl
outcome_so outcome = refl

pub verdict_so : {K : Type 0} (old : Port K) (outcome : Outcome) (o : Option (Upcoming × MoveKind × ℕ))
    → block_served old outcome o ≡ verdict_of old outcome o
verdict_so old outcome o = grind (arith, outcome_so)

-- ---- bytes

pub text_so : (e : End) (d : Decided) (unit : Option Shape) (h : Hardware)
    → end_told e d unit h ≡ text_left e (fields_of d) unit h
text_so e d unit h = grind arith
