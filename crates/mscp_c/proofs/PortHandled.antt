-- Calls on a port's handle are calls of the port.
use Rattle.mscp_c.proofs.Common.{◌≡◌, ◌∙◌, ◌++◌, ◌∷◌, [], ℕ, ℤ, Bool, true, false, List, Option, None, Some, Result, Ok, Err, IsErr, refl, ap, sym, subst, false≢true, MatchBool, MatchOption, Goes, Unasked, UNASKED, told_code, is_of_serial, TellsWentBy, WentBy, Outcome, Answered, Becomes, Handle, Held, BAD_OUTCOME, outcome_given, KeepsPortPromise, Begun, Configured, Hardware, Look, LookAgain, Next, NextMessage, Protect, ReadIp, ReadSa, Resume, State, TellsOutcome, Tick, Volume, VolumeCame, VolumeWent, WasRead, Went, Why, WriteIp, WriteSa, TellsWent, PolicyPicks}
use Rattle.mscp_port.specs.Histories.{Call}
use Rattle.mscp_port.specs.Ports.{put_aside}
use Rattle.mscp_port.specs.Wanted.{bytes_wanted}
use Rattle.mscp_c.specs.PortHandleCalls.{AnsweredByHandle, AnswersHandle, HandleCall, Tells}
use Rattle.mscp_port.specs.Histories as calls

-- what a call on a handle tells, and the call of the port that it is
record Is (call : HandleCall) (old new : Held) : Type 0 where
  next : List Call
  tells : Tells old call next
  becomes : (start : Held) (told : List Call) → Answered PolicyPicks start told old
      → Answered PolicyPicks start (next ++ told) new

-- it is this call of the port
one : (call : HandleCall) (it : Call) (old new : Held) → Tells old call (it ∷ []) → Becomes PolicyPicks it old new
    → Is call old new
one call it old new tells b = record { next = it ∷ []; tells = tells; becomes = λ start told a. (old, a, b) }

-- or none
none : (call : HandleCall) (old new : Held) → Tells old call [] → new ≡ old → Is call old new
none call old new tells e =
    record { next = []; tells = tells; becomes = λ start told a. subst (Answered PolicyPicks start told) (sym e) a }

went : (number block : ℕ) (status : ℤ) (o : Option Outcome) (old new : Handle)
    → MatchOption o ((status ≡ BAD_OUTCOME) × (new ≡ old)) (λ outcome. TellsWent outcome old status new)
    → (next : List Call)
    × MatchOption o ((next ≡ []) × (status ≡ BAD_OUTCOME)) (λ outcome. TellsOutcome outcome status next)
    × ((start : Held) (told : List Call) → Answered PolicyPicks start told old.held
    → Answered PolicyPicks start (next ++ told) new.held)
went number block status None old new refused = (
  [],
  (refl, refused.0),
  λ start told a. subst (Answered PolicyPicks start told) (ap (λ h. h.held) (sym refused.1)) a,
)
went number block status (Some outcome) old new t = (
  calls.Went outcome t.answer ∷ [],
  (t.answer, refl, t.code),
  λ start told a. (old.held, a, t.follows),
)

-- an answer that is none is told as not asked for
refused_code : (answer : Result (Unit {0}) Unasked) → IsErr answer → told_code answer ≡ UNASKED
refused_code (Ok done) is = absurd (false≢true is)
refused_code (Err fault) is = refl

-- a block of another serial than this is none of the port's calls
went_with : (b : Bool) (outcome : Outcome) (status : ℤ) (old new : Held) (answer : Result (Unit {0}) Unasked)
    → MatchBool b (Goes (PolicyPicks old.controller.picker) outcome old answer new) (IsErr answer × (new ≡ old))
    → status ≡ told_code answer
    → (next : List Call)
    × MatchBool b (TellsOutcome outcome status next) ((next ≡ []) × (status ≡ UNASKED))
    × ((start : Held) (told : List Call) → Answered PolicyPicks start told old
    → Answered PolicyPicks start (next ++ told) new)
went_with true outcome status old new answer goes code =
    (calls.Went outcome answer ∷ [], (answer, refl, code), λ start told a. (old, a, goes))
went_with false outcome status old new answer refused code = (
  [],
  (refl, code ∙ refused_code answer refused.0),
  λ start told a. subst (Answered PolicyPicks start told) (sym refused.1) a,
)

went_by : (serial number block : ℕ) (status : ℤ) (o : Option Outcome) (old new : Handle)
    → MatchOption o ((status ≡ BAD_OUTCOME) × (new ≡ old)) (λ outcome. TellsWentBy serial outcome old status new)
    → (next : List Call)
    × MatchOption o ((next ≡ []) × (status ≡ BAD_OUTCOME))
    (λ outcome. MatchBool (is_of_serial serial old.held.task old.held.serial) (TellsOutcome outcome status next)
    ((next ≡ []) × (status ≡ UNASKED)))
    × ((start : Held) (told : List Call) → Answered PolicyPicks start told old.held
    → Answered PolicyPicks start (next ++ told) new.held)
went_by serial number block status None old new refused = (
  [],
  (refl, refused.0),
  λ start told a. subst (Answered PolicyPicks start told) (ap (λ h. h.held) (sym refused.1)) a,
)
went_by serial number block status (Some outcome) old new t =
    went_with (is_of_serial serial old.held.task old.held.serial) outcome status old.held new.held t.answer t.follows
    t.code

call_is : (call : HandleCall) (old new : Handle) → AnswersHandle old call new → Is call old.held new.held
call_is (ReadIp status) old new r = one (ReadIp status) calls.ReadIp old.held new.held (refl, r.1) r.0.leaves
call_is (WriteIp status) old new r = one (WriteIp status) calls.WriteIp old.held new.held (refl, r.1) r.0.leaves
call_is (ReadSa answer) old new r = none (ReadSa answer) old.held new.held (refl, r.0) (ap (λ h. h.held) r.1)
call_is (WriteSa word status) old new r =
    one (WriteSa word status) (calls.WriteSa word) old.held new.held (refl, r.1) r.0.leaves
call_is (Next before status after) old new r =
    let bytes = bytes_wanted new.held new.held.task in
    one (Next before status after) (calls.Next true r.action bytes) old.held new.held
    (r.action, bytes, new.held, refl, (r.wants, refl), r.code, r.told) (r.wants, refl)
call_is (NextMessage before status after) old new r = record {
  next = calls.Next false r.action (bytes_wanted new.held new.held.task) ∷ calls.PutAside ∷ [];
  tells = (r.action, bytes_wanted new.held new.held.task, new.held, refl, (r.wants, refl), r.code, r.told);
  becomes = λ start told a. (put_aside old.held, (old.held, a, refl), (r.wants, refl));
}
call_is (WasRead bytes status) old new r =
    one (WasRead bytes status) (calls.WasRead bytes r.answer) old.held new.held (r.answer, refl, r.code) r.follows
call_is (Went number block status) old new r =
    let w = went number block status (outcome_given number block) old new r in
    record { next = w.0; tells = w.1; becomes = w.2 }
call_is (WentBy serial number block status) old new r =
    let w = went_by serial number block status (outcome_given number block) old new r in
    record { next = w.0; tells = w.1; becomes = w.2 }
call_is (LookAgain status) old new r =
    one (LookAgain status) calls.LookAgain old.held new.held (refl, r.1) r.0.leaves
call_is (Tick status) old new r = one (Tick status) calls.Tick old.held new.held (refl, r.1) r.0.leaves
call_is (VolumeCame unit medium status) old new r =
    one (VolumeCame unit medium status) (calls.VolumeCame _ unit r.answer) old.held new.held (r.answer, refl, r.code)
    r.follows
call_is (VolumeWent unit status) old new r =
    one (VolumeWent unit status) (calls.VolumeWent unit r.answer) old.held new.held (r.answer, refl, r.code) r.follows
call_is (Protect unit flag status) old new r =
    one (Protect unit flag status) (calls.Protect _ unit r.answer) old.held new.held (r.answer, refl, r.code) r.follows
call_is (Configured limits units answer limits' units') old new r =
    none (Configured limits units answer limits' units') old.held new.held (refl, r.0) (ap (λ h. h.held) r.1)
call_is (Hardware before status after) old new r =
    none (Hardware before status after) old.held new.held (refl, r.0, r.1) (ap (λ h. h.held) r.2)
call_is (State before status after) old new r =
    none (State before status after) old.held new.held (refl, r.0, r.1) (ap (λ h. h.held) r.2)
call_is (Volume unit before status after) old new r =
    none (Volume unit before status after) old.held new.held (refl, r.0, r.1) (ap (λ h. h.held) r.2)
call_is (Begun before status after) old new r =
    none (Begun before status after) old.held new.held (refl, r.0, r.1) (ap (λ h. h.held) r.2)
call_is (Look before answer after) old new r =
    none (Look before answer after) old.held new.held (refl, r.0, r.1) (ap (λ h. h.held) r.2)
call_is (Why number reference before answer after) old new r =
    none (Why number reference before answer after) old.held new.held (refl, r.0) (ap (λ h. h.held) r.1)
call_is (Resume bytes) old new r = none (Resume bytes) old.held new.held (refl, r.0) r.1

pub keeps_promise : (made : List HandleCall) (start h : Handle) → AnsweredByHandle start made h
    → KeepsPortPromise start.held made h.held
keeps_promise [] start h a = record { told = []; tells = refl; answered = ap (λ g. g.held) a }
keeps_promise (call ∷ earlier) start h a =
    let before = keeps_promise earlier start a.0 a.1 in
    let is = call_is call a.0 h a.2 in
    record {
      told = is.next ++ before.told;
      tells = (is.next, before.told, a.0.held, refl, before.answered, is.tells, before.tells);
      answered = is.becomes start.held before.told before.answered;
    }
