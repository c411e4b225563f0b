-- A report grows by an entry as the run does.
use Rattle.mscp_script.proofs.Common.{arith, ◌≡◌, ℕ, ◌+◌, List, [], ◌∷◌, ◌++◌, length-append, replicate, Result, OnOk, ap, subst, ◌∙◌, refl, flat_map, sum_by_push, append_assoc, flat_map_more, replicate_more, Choice, IsSweep, OutOfMemory, Event, Entry, Settings, Answered, Answers, Holdings, fresh, Meets, Ran, Runs, Run, Reported, entry_lines, reported, with_entry}
use Rattle.mscp_drive.specs.Both.{Both}
use Rattle.mscp_drive.specs.declared.block.Block.{Block}
use Rattle.mscp_packet.specs.declared.end.End.{End}
use Rattle.mscp_queue.specs.Lines.{Line}
use Rattle.mscp_queue.specs.declared.report.Report.TheVariants.{Idle}
use Rattle.mscp_controller.specs.Holdings.{Steps, ends_after}
use Rattle.mscp_drive.specs.declared.event.Event.TheVariants as events
use Rattle.mscp_script.proofs.Common.{Sweep, Err}
use Rattle.std.specs.Prelude.{Ok}
use Rattle.std.proofs.Common.{append-nil}
use Rattle.std.proofs.lemmas.List.{replicate-append-replicate}

pub reported_more : (all : List Entry) (entry : Entry) → with_entry (reported all) entry ≡ reported (all ++ entry ∷ [])
reported_more all entry =
    let lines : flat_map entry_lines all ++ entry_lines entry ≡ flat_map entry_lines (all ++ entry ∷ []) =
    flat_map_more entry_lines [] all entry in
    search (arith, sum_by_push, length-append)

-- an answer more
answered_more : {K : Type 0} (picks : List Choice → ℕ → Type 0) (old mid new : Holdings K) (es : List Event)
    (ns : List Entry) (e : Event) (n : Entry) → Answered picks old es ns mid → Answers picks mid e n new
    → Answered picks old (es ++ e ∷ []) (ns ++ n ∷ []) new
answered_more {K} picks old mid new [] [] e n r a = (new, subst (λ (h : Holdings K). Answers picks h e n new) r a, refl)
answered_more picks old mid new (f ∷ es) (m ∷ ns) e n r a = (r.0, r.1, answered_more picks r.0 mid new es ns e n r.2 a)
answered_more picks old mid new _ _ e n r a = absurd r

-- a new run
pub runs_none : {A : Type 0} (c : Settings) (run : Run A) → run.controller ≡ fresh c run.controller.picker
    → run.reporter ≡ reported [] → Runs c [] run
runs_none c run e f = record {
  begun = run;
  new = e;
  entries = [];
  answered = refl;
  report_is = f;
  count = ap (λ (r : Reported). r.count) f;
}

-- an event more
pub runs_more : {A : Type 0} (c : Settings) (es : List Event) (old new : Run A) (e : Event) → Runs c es old
    → Ran old new e → Runs c (es ++ e ∷ []) new
runs_more c es old new e runs ran = search (arith, answered_more, reported_more, length-append)

-- an answer that is reported, where memory may have been wanted
pub ran_on : {A : Type 0} (r : Result (Unit {0}) OutOfMemory) (old new : Run A) (event : Event) (entry : Entry)
    → Answers IsSweep old.controller event entry new.controller → OnOk r (new.reporter ≡ with_entry old.reporter entry)
    → OnOk r (Ran old new event)
ran_on r old new event entry h1 h2 = search arith

-- ---- whatever came before

meets_one : {A : Type 0} (old new : Run A) (e : Event) → Ran old new e → Meets old new (e ∷ [])
meets_one old new e ran = λ c es runs. runs_more c es old new e runs ran

-- the same where memory may have been wanted
pub meets_ok : {A : Type 0} (r : Result (Unit {0}) OutOfMemory) (old new : Run A) (e : Event) → OnOk r (Ran old new e)
    → OnOk r (Meets old new (e ∷ []))
meets_ok r old new e h1 = search (arith, meets_one)

-- one more of the same event
pub meets_more : {A : Type 0} (a b d : Run A) (n : ℕ) (e : Event) → Meets a b (replicate n e) → Ran b d e
    → Meets a d (replicate (n + 1) e)
meets_more a b d n e m ran = λ c es runs.
    let more : Runs c ((es ++ replicate n e) ++ e ∷ []) d = runs_more c (es ++ replicate n e) b d e (m c es runs) ran in
    search (arith, append_assoc, replicate_more)

-- ---- an idle step
no_ends : (ends : Both (List End)) → ends_after ends Idle ≡ ends
no_ends ends = λ i. record { first = append-nil ends.first i; second = append-nil ends.second i }

-- it leaves all as it is
pub idle_same : {K : Type 0} (picks : List Choice → ℕ → Type 0) (k : Block) (old new : Holdings K)
    → Steps picks k old Idle new → new ≡ old
idle_same {K} picks k old new s =
    let line = s.serves.2 in
    λ i. record {
      settings = s.settings i;
      waiting = ap (λ (l : Line K). l.waiting) line i;
      untaken = (s.ends ∙ no_ends old.untaken) i;
      drives = ap (λ (l : Line K). l.drives) line i;
      begun = ap (λ (l : Line K). l.begun) line i;
      picker = ap (λ (l : Line K). l.picker) line i;
    }

-- the same event so many times, and then as often as is left, of idle steps
pub meets_idle : {A : Type 0} (r : Result (Unit {0}) OutOfMemory) (a b new : Run A) (mid : Holdings Sweep) (k : Block)
    (n m count : ℕ) → Meets a b (replicate n (events.Step k)) → mid ≡ b.controller
    → OnOk r ((j : Block)
    → Meets (record { controller = mid; reporter = b.reporter }) new (replicate m (events.Step j)))
    → n + m ≡ count → OnOk r (Meets a new (replicate count (events.Step k)))
meets_idle (Err fault) a b new mid k n m count before same after all = tt
meets_idle {A} (Ok done) a b new mid k n m count before same after all = λ c es runs.
    let whole : replicate n (events.Step k) ++ replicate m (events.Step k) ≡ replicate count (events.Step k) =
    replicate-append-replicate n m (events.Step k) ∙ ap (λ i. replicate i (events.Step k)) all in
    let next : Meets b new (replicate m (events.Step k)) =
    subst (λ (h : Holdings Sweep). Meets (record { controller = h; reporter = b.reporter }) new
    (replicate m (events.Step k))) same (after k) in
    subst (λ xs. Runs c xs new) (append_assoc es (replicate n (events.Step k)) (replicate m (events.Step k))
    ∙ ap (λ xs. es ++ xs) whole) (next c (es ++ replicate n (events.Step k)) (before c es runs))
