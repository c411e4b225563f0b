-- What follows each call of a port, and so a list of calls.
use Rattle.mscp_ported.proofs.Common.{Action, Answered, AreAccepted, AsksAlways, Becomes, Bool, Call, Commands, Goes, Hardware, Holdings, IsMadeOf, IsOwed, List, Message, Next, None, Ok, Opened, Option, Outcome, Picking, Port, ReadIp, Said, Slot, Some, Talk, Task, Turn, WasRead, Went, Wish, WriteIp, WriteSa, [], accepted, accepted_by, accepted_text, ap, append-nil, arith, blocks, heard, refl, said, silence, talk_by, talk_of, wish, ℕ, ◌∷◌, ◌≡◌, ◌≢◌}
use Rattle.mscp_ported.proofs.Minor.{GivesUp, Minor, Mounts, PutsAside, ReadsAgain, Still, minor}
use Rattle.mscp_port.specs.declared.task.Task.TheVariants as tasks
use Rattle.mscp_ported.proofs.After.{After, IsNoReset, IsPlain}
use Rattle.mscp_ported.proofs.Look.{Fits, Hears, InStep, has_area, in_hand, look, slot_at}
use Rattle.mscp_ported.proofs.Acting.{IsReported}
use Rattle.mscp_ported.proofs.Going.{went}
use Rattle.mscp_ported.proofs.Hearing.{was_read}
use Rattle.mscp_ported.proofs.Plain.{again_so, aside_so, dies, lets_be, same_port, step_so, writes_ip}
use Rattle.mscp_ported.proofs.Registers.{reads_ip, writes_sa}
use Rattle.mscp_ported.proofs.Wanting.{follows}

-- an action that was told of was wanted
told_of : {K : Type 0} (call : Call) (old new : Port K) (t : Talk) (w : Option Wish) (said : List Said)
    (texts : List (List ℕ)) → w ≢ None → InStep (look old) t w said texts
    → ((x : Wish) → InStep (look old) t (Some x) said texts → After call old (look new) t (Some x) None said texts)
    → After call old (look new) t w None said texts
told_of call old new t None said texts some k get = absurd (some refl)
told_of call old new t (Some x) said texts some k get = get x k

module _ {K : Type 0} (picks : Picking K) (old new : Port K) (t : Talk) (said : List Said) (texts : List
    (List ℕ)) where
  -- a call that is no report of an action
  plain : (call : Call) → ((w : Option Wish) (x : Talk) → talk_by old.stage w call x ≡ x)
      → IsNoReset call → accepted_by call old ≡ []
      → IsPlain call old
  plain call talk reset none = record { talk = talk; no_reset = reset; accepts = none }

  reported : (w : Wish) (outcome : Outcome) (done : Unit) → InStep (look old) t (Some w) said texts
      → Goes (picks old.controller.picker) outcome old (Ok done) new
      → IsReported (picks old.controller.picker) old new t w outcome done said texts
  reported w outcome done x r = record { step = x; goes = r }

  pub after_call : (call : Call) (earlier : List Call) → AsksAlways (call ∷ earlier) → Becomes picks call old new
      → InStep (look old) t (wish earlier) said texts
      → After call old (look new) t (wish earlier) (wish (call ∷ earlier)) said texts
  after_call WriteIp earlier asks r k = writes_ip old new t (wish earlier) None said texts r
  after_call ReadIp earlier asks r k = reads_ip old new t (wish earlier) said texts r k
  after_call (WriteSa word) earlier asks r k = writes_sa word old new t (wish earlier) said texts k r
  after_call (Next blocks action bytes) earlier asks r k =
      (follows (picks old.controller.picker) blocks old new action bytes t (wish earlier) said texts k r.0 r.1).after
  after_call (WasRead bytes (Ok done)) earlier asks r k =
      told_of (WasRead bytes (Ok done)) old new t (wish earlier) said texts asks.0 k
      (λ w x. was_read old new t w bytes done said texts x r)
  after_call (Went outcome (Ok done)) earlier asks r k =
      told_of (Went outcome (Ok done)) old new t (wish earlier) said texts asks.0 k
      (λ w x. went (reported w outcome done x r) (r.moves refl))
  after_call call earlier asks r k = by (minor picks call old new r tt)
    where
      quiet : IsPlain call old
      quiet = plain call (λ w x. refl) (record { said = λ s xs ys. refl; texts = λ s xs ys. refl }) refl

      by : Minor old new → After call old (look new) t (wish earlier) (wish earlier) said texts
      by (Still e) = same_port call old new t (wish earlier) said texts quiet k e
      by (PutsAside e) =
          lets_be call old new t (wish earlier) said texts quiet k _ (aside_so old.task) (ap look e)
      by (ReadsAgain left e) =
          lets_be call old new t (wish earlier) said texts quiet k _ (again_so old.task) (ap look e)
      by (Mounts becomes place e) =
          lets_be call old new t (wish earlier) said texts quiet k _ (step_so place old.task) (ap look e)
      by (GivesUp d) = dies call 9 old new t (wish earlier) (wish earlier) said texts
          (record { said = λ s xs ys. refl; texts = λ s xs ys. refl }) d

pub asked_before : (call : Call) (earlier : List Call) → AsksAlways (call ∷ earlier) → AsksAlways earlier
asked_before call earlier asks = grind arith

module _ {K : Type 0} (picks : Picking K) (hardware : Hardware) (credits : ℕ) (controller : Holdings K)
    (start : Port K) (made : IsMadeOf hardware credits controller start) where
  begins_so : (p : Port K) → p ≡ start → InStep (look p) silence None [] []
  begins_so p e = grind (arith, has_area, look, in_hand)

  pub in_step : (p : Port K) (calls : List Call) → AsksAlways calls → (a : Answered picks start calls p)
      → InStep (look p) (talk_of picks start p calls a) (wish calls) (said picks start p calls a)
      (accepted picks start p calls a)
  in_step p [] asks a = begins_so p a
  in_step p (call ∷ calls) asks a =
      grind (arith, in_step a.0 calls (asked_before call calls asks) a.1, after_call, asked_before)

  pub owed_so : (p : Port K) (calls : List Call) (blocks : Bool) (action : Action) (bytes : List ℕ) → AsksAlways calls
      → (a : Answered picks start (Next blocks action bytes ∷ calls) p)
      → IsOwed p.stage (talk_of picks start a.0 calls a.1) (talk_of picks start a.0 calls a.1).turn action bytes
  owed_so p calls blocks action bytes asks a =
      (follows (picks a.0.controller.picker) blocks a.0 p action bytes (talk_of picks start a.0 calls a.1) (wish calls)
      (said picks start a.0 calls a.1) (accepted picks start a.0 calls a.1)
      (in_step a.0 calls asks a.1) a.2.0 a.2.1).owed

-- what was accepted, by the message in hand
pub accepted_so : (task : Task) (turn : Turn) (heard : List Message) (texts : List (List ℕ))
    → Hears task turn heard texts → AreAccepted heard turn texts
accepted_so task turn heard texts h = grind (arith, append-nil)

-- where a text is accepted, its header was read
opened_so : {K : Type 0} (old : Port K) (task : Task) (turn : Turn) (bytes text : List ℕ) (more : List (List ℕ))
    → Fits (look old) task turn → accepted_text old task bytes ≡ text ∷ more
    → (slot : Slot) × (header : ℕ) × (turn ≡ Opened slot header)
opened_so old (tasks.Text slot size foreign) turn bytes text more fits e =
    (slot_at (look old) Commands slot.word, fits.0, fits.1)
opened_so old task turn bytes text more fits e = absurd (search (arith, e))

pub opens : {K : Type 0} (picks : Picking K) (hardware : Hardware) (credits : ℕ) (controller : Holdings K)
    (start p : Port K) (calls : List Call) (bytes : List ℕ) (done : Unit) (text : List ℕ) (more : List (List ℕ))
    → IsMadeOf hardware credits controller start → AsksAlways (WasRead bytes (Ok done) ∷ calls)
    → (a : Answered picks start (WasRead bytes (Ok done) ∷ calls) p)
    → accepted_by (WasRead bytes (Ok done)) a.0 ≡ text ∷ more
    → (slot : Slot) × (header : ℕ) × ((talk_of picks start a.0 calls a.1).turn ≡ Opened slot header)
opens picks hardware credits controller start p calls bytes done text more made asks a e =
    opened_so a.0 a.0.task (talk_of picks start a.0 calls a.1).turn bytes text more
    (in_step picks hardware credits controller start made a.0 calls asks.1 a.1).hand.fits e
