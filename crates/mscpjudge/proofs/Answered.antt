-- What is said of one log, and of one port more.
use Rattle.mscpjudge.proofs.Common.{ComesOf, Err, Extent, Fails, IsFault, JudgesAll, List, Log, Ok, ReadFault, Result, Says, ScriptFault, TellsOne, Told, Verdict, Wrong, ap, extent_text, inl, inr, sym, verdict_by, wire_outcome, ℕ, ◌∙◌, ◌≡◌}
use Rattle.mscp_reader.specs.declared.fault.ReadFault.TheVariants as reads
use Rattle.mscp_wire.specs.declared.log.Verdict.TheVariants as verdicts
use Rattle.mscpjudge.proofs.Coming.{Came, came_of}
use Rattle.mscpjudge.specs.declared.telling.Extent.TheVariants as extents

-- ---- one log

-- what is written of a verdict is what is written of what came of its log
pub by_came : {A : Type 0} (extent : Extent) (number : ℕ → ℕ) (verdict : Verdict A) (log : List ℕ)
    (k : Came number verdict log)
    → verdict_by extent number log verdict ≡ extent_text extent number log k.came
by_came extents.First number verdict log k = ap Ok k.text
by_came extents.All number verdict log k = k.all

-- a log that comes so has no fault but that of its verdict
pub fault_of_came : {A : Type 0} (extent : Extent) (number : ℕ → ℕ) (verdict : Verdict A) (log : List ℕ)
    (came : Result Log Wrong)
    (fault : ScriptFault) → Says (Ok verdict) (Ok came) → extent_text extent number log came ≡ Err fault
    → verdict_by extent number log verdict ≡ Err fault
fault_of_came extents.First number verdict log came fault s h = cc
fault_of_came extents.All number (verdicts.Right totals doubts commands) log (Ok l) fault s h = cc
fault_of_came extents.All number (verdicts.Right totals doubts commands) log (Err wrong) fault s h =
    let e : Ok (Err wrong) ≡ Ok (Ok s.0) = s.1 in cc
fault_of_came extents.All number (verdicts.Wrong w) log (Ok l) fault s h = cc
fault_of_came extents.All number (verdicts.Wrong w) log (Err wrong) fault s h = h

pub no_fault : {A : Type 0} (verdict : Verdict A) (fault : ScriptFault) → Says (Ok verdict) (Err fault) → ⊥
no_fault (verdicts.Right totals doubts commands) fault s = let e = s.1 in cc
no_fault (verdicts.Wrong wrong) fault s = cc

pub fault_of : {A : Type 0} (extent : Extent) (number : ℕ → ℕ) (verdict : Verdict A) (log : List ℕ)
    → ((came : Result (Result Log Wrong) ScriptFault) → ComesOf log came → Says (Ok verdict) came)
    → (fault : ScriptFault) → IsFault extent number log fault → verdict_by extent number log verdict ≡ Err fault
fault_of extent number verdict log only fault (inl comes) = absurd (no_fault verdict fault (only (Err fault) comes))
fault_of extent number verdict log only fault (inr (came, comes, h)) =
    fault_of_came extent number verdict log came fault (only (Ok came) comes) h

-- it is told
pub one_told : {A : Type 0} (extent : Extent) (number : ℕ → ℕ) (verdict : Verdict A) (log : List ℕ) (told : Told)
    → JudgesAll (Ok verdict) log
    → ((came : Result (Result Log Wrong) ScriptFault) → ComesOf log came → Says (Ok verdict) came)
    → verdict_by extent number log verdict ≡ Ok told.text.items → told.outcome ≡ wire_outcome verdict
    → TellsOne extent number (Ok told) log
one_told extent number verdict log told judges only text outcome =
    let k = came_of number verdict log judges in (
      (k.came, k.comes, outcome ∙ k.outcome, sym (by_came extent number verdict log k) ∙ text),
      λ fault h. let e = fault_of extent number verdict log only fault h in cc,
    )

-- it is at fault behind the first moment that isn't right
pub one_fails : {A : Type 0} (extent : Extent) (number : ℕ → ℕ) (verdict : Verdict A) (log : List ℕ) (fault : ReadFault)
    → JudgesAll (Ok verdict) log
    → ((came : Result (Result Log Wrong) ScriptFault) → ComesOf log came → Says (Ok verdict) came)
    → Fails fault (verdict_by extent number log verdict) → TellsOne extent number (Err fault) log
one_fails extent number verdict log (reads.Script fault) judges only h =
    let k = came_of number verdict log judges in (
      inr (k.came, k.comes, sym (by_came extent number verdict log k) ∙ h),
      λ other o. let e = fault_of extent number verdict log only other o in cc,
    )
one_fails extent number verdict log reads.OutOfMemory judges only h = tt

-- or before it
pub other_is : {A : Type 0} (alloc : A) (extent : Extent) (number : ℕ → ℕ) (log : List ℕ) (fault : ScriptFault)
    → ((came : Result (Result Log Wrong) ScriptFault) → ComesOf log came → Says {A = A} (Err (reads.Script fault)) came)
    → (other : ScriptFault) → IsFault extent number log other → other ≡ fault
other_is alloc extent number log fault only other (inl comes) = let e = only (Err other) comes in cc
other_is alloc extent number log fault only other (inr (came, comes, h)) = let e = only (Ok came) comes in cc

pub one_refused : {A : Type 0} (alloc : A) (extent : Extent) (number : ℕ → ℕ) (log : List ℕ) (fault : ReadFault)
    → JudgesAll {A = A} (Err fault) log
    → ((came : Result (Result Log Wrong) ScriptFault) → ComesOf log came → Says {A = A} (Err fault) came)
    → TellsOne extent number (Err fault) log
one_refused alloc extent number log (reads.Script fault) judges only =
    (inl judges, λ other h. other_is alloc extent number log fault only other h)
one_refused alloc extent number log reads.OutOfMemory judges only = tt
