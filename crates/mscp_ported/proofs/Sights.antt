-- What becomes of a port as bytes of its host's memory were read, case by case.
use Rattle.mscp_ported.proofs.Common.{AnswersItself, Bool, Commands, Descriptor, End, Err, Hears, IsAsNew, IsGiven, List, MatchOption, None, Ok, Option, Outgoing, Port, Responses, Result, SeesText, SendFault, Sends, Some, Task, WasRead, accepted_text, answered_to, ap, bytes_read, cond, connection_in, header_fault, heard, inl, inr, is_owned, is_taken_text, length, length_in, none-some, num, own_end_of, read_size, refl, stays, subst, sym, true, false, ℕ, ◌==◌, ◌∙◌, ◌≡◌, ◌⊎◌, []}
use Rattle.mscp_controller.specs.declared.entry.Sent.{Sent}
use Rattle.mscp_port.specs.declared.stage.Stage.TheVariants as stages
use Rattle.mscp_port.specs.declared.task.Task.TheVariants as tasks

-- a slot of a ring or the header of a packet is in hand
abbrev pub IsSlide : Task → Type 0
IsSlide (tasks.Slot side) = Unit {0}
IsSlide (tasks.Neighbour side) = Unit {0}
IsSlide (tasks.Header slot) = Unit {0}
IsSlide task = ⊥

-- and this once it was read
abbrev pub task_read : List ℕ → Task → Task
task_read bytes (tasks.Slot Responses) =
    cond (is_owned (num bytes 0 4)) (tasks.Packet (record { word = num bytes 0 4 })) tasks.Free
task_read bytes (tasks.Slot Commands) =
    cond (is_owned (num bytes 0 4)) (tasks.Header (record { word = num bytes 0 4 })) tasks.Free
task_read bytes (tasks.Neighbour side) = cond (is_owned (num bytes 0 4)) (tasks.Word side) tasks.Free
task_read bytes (tasks.Header slot) =
    tasks.Text slot (bytes_read (length_in (num bytes 0 4))) (connection_in (num bytes 0 4) == 2)
task_read bytes task = task

pub data Seen {K : Type 0} (bytes : List ℕ) (done : Unit {0}) (old new : Port K) : Type 0 where
  -- a ring is found full only by a slot of it that is the host's
  Slides : (full polled : Bool) → IsSlide old.task
      → (IsGiven old.task (WasRead bytes (Ok done)) → full ≡ old.is_full)
      → new ≡ record old { is_full = full; is_polled = polled; task = task_read bytes old.task }
      → Seen bytes done old new
  IsFault : (code : ℕ) → IsSlide old.task → IsAsNew (stages.Dead code) old new → Seen bytes done old new
  -- a text is answered by the port itself, stays in its slot, or is sent to the controller
  IsAnswered : (slot : Descriptor) (size : ℕ) (foreign : Bool) (e : End) → old.task ≡ tasks.Text slot size foreign
      → own_end_of old foreign bytes ≡ Some e → old.outgoing ≡ None
      → new ≡ record (heard old) { outgoing = new.outgoing; task = tasks.Return Commands slot }
      → AnswersItself foreign bytes old new → Seen bytes done old new
  StaysInSlot : (slot : Descriptor) (size : ℕ) (foreign : Bool) → old.task ≡ tasks.Text slot size foreign
      → (((e : End) × (own_end_of old foreign bytes ≡ Some e)) × ((o : Outgoing) × (old.outgoing ≡ Some o)))
      ⊎ ((own_end_of old foreign bytes ≡ None) × ((fault : SendFault) × (answered_to old bytes ≡ Err fault)))
      → stays old new → Seen bytes done old new
  IsSent : (slot : Descriptor) (size : ℕ) (foreign : Bool) (s : Sent) → old.task ≡ tasks.Text slot size foreign
      → own_end_of old foreign bytes ≡ None → answered_to old bytes ≡ Ok s → Sends slot s bytes old new
      → Seen bytes done old new

pub sight : {K : Type 0} (bytes : List ℕ) (done : Unit) (old new : Port K) → Hears bytes old (Ok done) new
    → Seen bytes done old new
sight {K} bytes done old new r = by old.task refl
  where
    So : Type 0
    So = Seen bytes done old new

    slide : (t : Task) → old.task ≡ t → IsSlide t → (full polled : Bool)
        → (IsGiven t (WasRead bytes (Ok done)) → full ≡ old.is_full)
        → new ≡ record old { is_full = full; is_polled = polled; task = task_read bytes t } → So
    slide t at of full polled kept e = Slides full polled (subst (λ x. IsSlide x) (sym at) of)
        (subst (λ x. IsGiven x (WasRead bytes (Ok done)) → full ≡ old.is_full) (sym at) kept)
        (e ∙ ap (λ x. record old { is_full = full; is_polled = polled; task = task_read bytes x }) (sym at))

    response : (b : Bool) (t : Task)
        → cond b (record old { task = t }) (record old { is_full = true; task = tasks.Free })
        ≡ record old { is_full = cond b old.is_full true; is_polled = old.is_polled; task = cond b t tasks.Free }
    response true t = refl
    response false t = refl

    command : (b : Bool) (t : Task)
        → cond b (record old { task = t }) (record old { is_polled = false; task = tasks.Free })
        ≡ record old { is_full = old.is_full; is_polled = cond b old.is_polled false; task = cond b t tasks.Free }
    command true t = refl
    command false t = refl

    header : (slot : Descriptor) → old.task ≡ tasks.Header slot → (o : Option ℕ)
        → MatchOption o (new ≡ record old { task = task_read bytes (tasks.Header slot) })
        (λ code. IsAsNew (stages.Dead code) old new) → So
    header slot at None e = slide (tasks.Header slot) at tt old.is_full old.is_polled (λ given. refl) e
    header slot at (Some code) d = IsFault code (subst (λ x. IsSlide x) (sym at) tt) d

    text : (slot : Descriptor) (size : ℕ) (foreign : Bool) → old.task ≡ tasks.Text slot size foreign
        → SeesText slot foreign bytes old new → (o : Option End) → own_end_of old foreign bytes ≡ o
        → (out : Option Outgoing) → old.outgoing ≡ out → (a : Result Sent SendFault) → answered_to old bytes ≡ a → So
    text slot size foreign at x (Some e) own None none a answer =
        let y = x.own (λ n. none-some e (sym n ∙ own)) none in
        IsAnswered slot size foreign e at own none y.0 y.1
    text slot size foreign at x (Some e) own (Some o) out a answer =
        StaysInSlot slot size foreign at (inl ((e, own), (o, out)))
        (x.own_waits (λ n. none-some e (sym n ∙ own)) (λ n. none-some o (sym n ∙ out)))
    text slot size foreign at x None own out is (Ok s) answer =
        IsSent slot size foreign s at own answer (x.sent s own answer)
    text slot size foreign at x None own out is (Err fault) answer =
        StaysInSlot slot size foreign at (inr (own, (fault, answer))) (x.waits fault own answer)

    by : (t : Task) → old.task ≡ t → So
    by (tasks.Slot Responses) at = slide (tasks.Slot Responses) at tt
        (cond (is_owned (num bytes 0 4)) old.is_full true) old.is_polled (ap (λ b. cond b old.is_full true))
        ((r.sees refl).slot Responses at ∙ response (is_owned (num bytes 0 4)) _)
    by (tasks.Slot Commands) at = slide (tasks.Slot Commands) at tt old.is_full
        (cond (is_owned (num bytes 0 4)) old.is_polled false) (λ given. refl)
        ((r.sees refl).slot Commands at ∙ command (is_owned (num bytes 0 4)) _)
    by (tasks.Neighbour side) at = slide (tasks.Neighbour side) at tt old.is_full old.is_polled (λ given. refl)
        ((r.sees refl).neighbour side at)
    by (tasks.Header slot) at = header slot at (header_fault (num bytes 0 4)) ((r.sees refl).header slot at)
    by (tasks.Text slot size foreign) at = text slot size foreign at ((r.sees refl).text slot size foreign at)
        (own_end_of old foreign bytes) refl old.outgoing refl (answered_to old bytes) refl
    by t at = absurd (none-some (length bytes) (sym (ap read_size at) ∙ r.only refl))
