-- Each end that goes out fits its message, over a whole list of calls.
use Rattle.mscp_ported.proofs.Holding.{small_figure}
use Rattle.mscp_ported.proofs.Stepping.{IsHow}
use Rattle.mscp_ported.proofs.Common.{All, Answered, AnsweredCalls, Call, ControllersKeepThePromise, First, Hardware, Holdings, IsMadeOf, IsValid, KeepsPromise, List, Made, Name, Next, Ok, Outcome, Picking, Port, ReadsBytes, Record, Settings, Some, Verdict, WasRead, Went, WriteIp, [], arith, awaited, ends_said_by, filter, find, fresh, has_name, has_number, num, outstanding_of, refl, ℕ, ◌<◌, ◌∷◌, ◌≡◌}
use Rattle.mscp_ported.proofs.Awaiting.{IsNoReset, Kept}
use Rattle.mscp_ported.proofs.Coming.{ends_of, few_ends}
use Rattle.mscp_ported.proofs.Dealing.{passive_taken}
use Rattle.mscp_ported.proofs.Decided.{passive_said}
use Rattle.mscp_ported.proofs.Ended.{kept, no_ends, nothing_two, shaped}
use Rattle.mscp_ported.proofs.Ending.{zipped}
use Rattle.mscp_ported.proofs.Fitted.{Fitting, nothing_fits, stays}
use Rattle.mscp_ported.proofs.Heeding.{read_fits}
use Rattle.mscp_ported.proofs.Numbered.{some_none}
use Rattle.mscp_ported.proofs.Opcodes.{IsSaid, next_fits, said_is, went_fits}
use Rattle.mscp_ported.proofs.Promised.{knows}
use Rattle.mscp_ported.proofs.Staying.{IsPassive, passive_stays}

reads_before : (call : Call) (calls : List Call) → ReadsBytes (call ∷ calls) → ReadsBytes calls
reads_before (WasRead bytes result) calls reads = reads.1
reads_before call calls reads = reads

module _ {K : Type 0} (picks : Picking K) (c : Settings) (picker : K)
    (keeps : ControllersKeepThePromise (picks picker) picker) (valid : IsValid c)
    (sizes : All (λ unit. 0 < unit.size) c.units) (before : List Made)
    (hardware : Hardware) (credits : ℕ) (controller : Holdings K) (start : Port K)
    (was : AnsweredCalls (picks picker) (fresh c picker) before controller)
    (made : IsMadeOf hardware credits controller start) (quiet : outstanding_of First controller ≡ [])
    (Told : Verdict → Record → Type 0) (Fine : List Call → Type 0)
    (fine_before : (call : Call) (calls : List Call) → Fine (call ∷ calls) → Fine calls)
    (told : (p : Port K) (outcome : Outcome) (done : Unit) (calls : List Call) → Fine (Went outcome (Ok done) ∷ calls)
    → (a : Answered picks start (Went outcome (Ok done) ∷ calls) p) → (verdict : Verdict)
    → IsHow a.0 outcome verdict → (name : Name) → a.0.controller.begun ≡ Some name → (r : Record)
    → find (has_name name) a.0.controller.waiting ≡ Some r → Told verdict r) where
  promised : (p : Port K) (calls : List Call) (a : Answered picks start calls p)
      → (ms : List Made) × KeepsPromise (picks picker) c ms p.controller
  promised p calls a =
      let k = knows picks c picker keeps valid before hardware credits controller start was made p calls a in
      (k.made, keeps c k.made p.controller valid k.answered)

  numbers_kept : (p : Port K) (calls : List Call) → ReadsBytes calls → (a : Answered picks start calls p)
      → Kept p (awaited picks start p calls a)
  numbers_kept = kept picks c picker keeps valid before hardware credits controller start was made quiet

  passive_fits : (p : Port K) (call : Call) (calls : List Call) (a : Answered picks start (call ∷ calls) p)
      → IsPassive call → Fitting c Told a.0 (awaited picks start a.0 calls a.1)
      → Fitting c Told p (awaited picks start p (call ∷ calls) a)
  passive_fits p call calls a is f = stays call a.0 p (awaited picks start a.0 calls a.1) f (calm call is)
      (passive_said call a.0 p is) (passive_taken call a.0 is) (passive_stays picks call a.0 p a.2 is)
    where
      calm : (call : Call) → IsPassive call → IsNoReset call
      calm WriteIp is = absurd is
      calm call is = record { texts = λ s xs ys. refl }

  pub fitting : (p : Port K) (calls : List Call) → ReadsBytes calls → Fine calls → (a : Answered picks start calls p)
      → Fitting c Told p (awaited picks start p calls a)
  fitting p [] reads fine a = grind (arith, numbers_kept, ends_of, no_ends, nothing_two, kept, some_none, zipped)
  fitting p (call ∷ calls) reads fine a = by call a reads fine
      (fitting a.0 calls (reads_before call calls reads) (fine_before call calls fine) a.1)
    where
      by : (call : Call) (a : Answered picks start (call ∷ calls) p) → ReadsBytes (call ∷ calls) → Fine (call ∷ calls)
          → Fitting c Told a.0 (awaited picks start a.0 calls a.1)
          → Fitting c Told p (awaited picks start p (call ∷ calls) a)
      by WriteIp a reads fine f = grind (arith, nothing_fits, ends_of)
      by (Next blocks action bytes) a reads fine f =
          next_fits blocks action bytes a.0 p (awaited picks start a.0 calls a.1) (numbers_kept a.0 calls reads a.1) f
          (picks a.0.controller.picker) a.2.0
      by (WasRead bytes (Ok done)) a reads fine f =
          let m = promised a.0 calls a.1 in
          read_fits bytes done a.0 p (awaited picks start a.0 calls a.1) (numbers_kept a.0 calls reads.1 a.1) f a.2
          reads.0 valid sizes m.1.settings (λ n. small_figure (picks picker) c m.0 a.0.controller m.1 n valid)
      by (Went outcome (Ok done)) a reads fine f =
          let m = promised p (Went outcome (Ok done) ∷ calls) a in
          went_fits (picks a.0.controller.picker) outcome done a.0 p (awaited picks start a.0 calls a.1)
          (numbers_kept a.0 calls reads a.1) f a.2 (few_ends (picks picker) c m.0 p.controller valid m.1)
          (told p outcome done calls fine a)
      by call a reads fine f = passive_fits p call calls a tt f

  pub ends_said : (p : Port K) (call : Call) (calls : List Call) (text message : List ℕ) → ReadsBytes (call ∷ calls)
      → Fine (call ∷ calls) → (a : Answered picks start (call ∷ calls) p) → ends_said_by call a.0 p ≡ text ∷ []
      → filter (has_number (num text 0 4)) (awaited picks start a.0 calls a.1) ≡ message ∷ []
      → IsSaid c Told a.0 (awaited picks start a.0 calls a.1) text message
  ends_said p (Next blocks action bytes) calls text message reads fine a said only =
      said_is blocks action bytes a.0 p (awaited picks start a.0 calls a.1) (numbers_kept a.0 calls reads a.1)
      (fitting a.0 calls reads (fine_before (Next blocks action bytes) calls fine) a.1)
      (picks a.0.controller.picker) a.2.0
      (shaped picks c picker keeps valid before hardware credits controller start was made quiet a.0 calls a.1)
      text message said only
  ends_said p call calls text message reads fine a said only = absurd (search (arith, said))
