-- Calls that leave the controller as it was.
use Rattle.mscp_ported.proofs.Common.{Becomes, Bool, Call, Choice, Dies, Goes, Hears, IsAsNew, IsReadingText, List, Next, None, Ok, Outcome, Picking, Port, Task, WasRead, Went, WriteIp, ap, arith, blocks, inl, inr, is_dead, none-some, refl, step_told, subst, sym, true, ℕ, ◌∙◌, ◌≡◌, ◌⊎◌}
use Rattle.mscp_ported.proofs.Deeds.{Deed, deed}
use Rattle.mscp_ported.proofs.Sights.{Seen, sight}
use Rattle.mscp_ported.proofs.Touching.{Touched, read_ip, wrote_sa}
use Rattle.mscp_ported.proofs.Minor.{minor}
use Rattle.mscp_port.specs.declared.stage.Stage.TheVariants as stages
use Rattle.mscp_port.specs.declared.task.Task.TheVariants as tasks

-- the controller stays, what is decided of its ends, the hardware, and what is kept of commands; and there is no fatal
-- error that wasn't there
abbrev pub IsSame : {K : Type 0} → Port K → Port K → Type 0
IsSame old new = (new.controller ≡ old.controller) × (new.decided ≡ old.decided) × (new.hardware ≡ old.hardware)
    × (is_dead new.stage ≡ true → is_dead old.stage ≡ true) × (new.buffers ≡ old.buffers)

-- or there is one now
abbrev pub Stays : {K : Type 0} → Port K → Port K → Type 0
Stays old new = IsSame old new ⊎ Dies old new

pub died : {K : Type 0} (code : ℕ) (old new : Port K) → IsAsNew (stages.Dead code) old new → Stays old new
died code old new d = inr (code, d)

pub same_as : {K : Type 0} {old new x : Port K} → new ≡ x → IsSame old x → Stays old new
same_as {K} {old} e same = inl (subst (λ y. IsSame old y) (sym e) same)

pub alike : {K : Type 0} (old : Port K) → IsSame old old
alike old = (refl, refl, refl, (λ d. d), refl)

-- ---- how an action went

-- what goes on otherwise than by a step of a command leaves the controller as it was
pub went_stays : {K : Type 0} (picks : List Choice → ℕ → Type 0) (outcome : Outcome) (old new : Port K) (t : Task)
    (done : Unit) → old.task ≡ t → Goes picks outcome old (Ok done) new → step_told old outcome t ≡ None
    → Stays old new
went_stays {K} picks outcome old new t done at r none = by (deed picks outcome done old new r)
  where
    told : step_told old outcome old.task ≡ None
    told = ap (step_told old outcome) at ∙ none

    by : Deed picks outcome old new → Stays old new
    by h = grind (arith, died, same_as, alike, none-some, told)

-- ---- what was read is no text of a command

pub read_stays : {K : Type 0} (bytes : List ℕ) (done : Unit) (old new : Port K) → Hears bytes old (Ok done) new
    → (IsReadingText old.task → ⊥) → Stays old new
read_stays {K} bytes done old new r other = by (sight bytes done old new r)
  where
    never : {P : Type 0} (slot : _) (size : ℕ) (foreign : Bool) → old.task ≡ tasks.Text slot size foreign → P
    never slot size foreign at = absurd (other (subst (λ x. IsReadingText x) (sym at) tt))

    by : Seen bytes done old new → Stays old new
    by h = grind (arith, same_as, alike, died, never)

-- ---- calls that tell of no action

-- neither a write of IP, nor something that is wanted, nor a report that was taken
abbrev pub IsPassive : Call → Type 0
IsPassive WriteIp = ⊥
IsPassive (Next blocks action bytes) = ⊥
IsPassive (WasRead bytes (Ok done)) = ⊥
IsPassive (Went outcome (Ok done)) = ⊥
IsPassive call = Unit {0}

touched_stays : {K : Type 0} {old new : Port K} → Touched old new → Stays old new
touched_stays {K} {old} h = grind (arith, same_as, alike, died)

pub passive_stays : {K : Type 0} (picks : Picking K) (call : Call) (old new : Port K) → Becomes picks call old new
    → IsPassive call → Stays old new
passive_stays picks call old new r is = grind (arith, touched_stays, read_ip, wrote_sa, minor, same_as, alike, died)
