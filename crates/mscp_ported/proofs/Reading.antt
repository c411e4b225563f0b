-- What becomes of a message that a port reads.
use Rattle.mscp_ported.proofs.Common.{Bool, Command, Descriptor, End, First, Hears, Holdings, IsReadingText, List, None, Ok, Option, Port, Result, SeesText, SendFault, Sends, Some, Task, WasRead, [], aborted_record, aborting, accepted_by, answer_to_message, answered_end, answered_to, ap, append_assoc, arith, balance_of, command_of, cond, drop-append_seam, false, handed, held_unless, inl, inr, is_none, is_ok, is_queued, is_queued_text, is_taken_text, length, map, none-some, option_map, option_to_list, outstanding_of, own_answer, own_end_of, queued, record_aborted, reference_aborted, refl, refusal, sent_unless, stays, subst, sym, taken_as, taken_by, true, volume_named, with_end, ℕ, ◌&&◌, ◌++◌, ◌∙◌, ◌∷◌, ◌≡◌, ◌≢◌, ◌≤◌, ◌⊎◌}
use Rattle.mscp_ported.proofs.Said.{none_or_some}
use Rattle.mscp_controller.specs.declared.entry.Sent.{Sent}
use Rattle.mscp_controller.specs.declared.entry.Sent.TheVariants as sents
use Rattle.mscp_port.specs.declared.task.Task.TheVariants as tasks
use Rattle.mscp_ported.specs.Transfers.{is_queued_so}
use Rattle.mscp_ported.specs.Answers.{text_handed}
use Rattle.mscp_ported.proofs.Answering.{handed_so, none_so, own_so}
use Rattle.mscp_ported.proofs.Coming.{ends_of}
use Rattle.mscp_ported.proofs.Staying.{Stays, alike, read_stays, same_as}
use Rattle.mscp_ported.proofs.Ending.{Grows}
use Rattle.mscp_ported.proofs.Tables.{answer_by}

pub and_false : (x y : Bool) → y ≡ false → (x && y) ≡ false
and_false true y e = e
and_false false y e = refl

-- its command, as the controller gets it
abbrev pub command_in : {K : Type 0} → Port K → List ℕ → Command
command_in p bytes = command_of (handed p.controller.settings.units bytes)

-- the end of the command that it aborts
abbrev pub ends_aborted : {K : Type 0} → Port K → List ℕ → List End
ends_aborted p bytes =
    option_to_list (option_map aborted_record (record_aborted First p.controller.waiting (command_in p bytes).order))

abbrev pub own_end_in : {K : Type 0} → Port K → List ℕ → End
own_end_in p bytes = answered_end First p.controller (command_in p bytes)

-- it is queued
pub record Queues {K : Type 0} (slot : Descriptor) (bytes : List ℕ) (old new : Port K) : Type 0 where
  pub later : is_queued old.controller.settings (command_in old bytes) ≡ true
  pub holds : new.controller ≡ queued First old.controller (command_in old bytes)
  pub answer : answered_to old bytes ≡ Ok (sents.Queued (command_in old bytes).reference)
  pub sends : Sends slot (sents.Queued (command_in old bytes).reference) bytes old new

-- or answered at once
pub record Answers {K : Type 0} (slot : Descriptor) (bytes : List ℕ) (old new : Port K) : Type 0 where
  pub immediate : is_queued old.controller.settings (command_in old bytes) ≡ false
  pub holds : new.controller
      ≡ with_end First (aborting First old.controller (command_in old bytes).order) (own_end_in old bytes)
  pub answer : answered_to old bytes ≡ Ok (sents.Answered (command_in old bytes).reference
      (reference_aborted First old.controller.waiting (command_in old bytes).order))
  pub sends : Sends slot (sents.Answered (command_in old bytes).reference
      (reference_aborted First old.controller.waiting (command_in old bytes).order)) bytes old new

-- by the controller
pub record Gets {K : Type 0} (bytes : List ℕ) (done : Unit) (old new : Port K) : Type 0 where
  pub slot : Descriptor
  pub size : ℕ
  pub foreign : Bool
  pub at : old.task ≡ tasks.Text slot size foreign
  pub long : 12 ≤ length bytes
  pub none : own_end_of old foreign bytes ≡ None
  pub is_new : refusal (balance_of First old.controller) (outstanding_of First old.controller)
      (handed old.controller.settings.units bytes) ≡ None
  pub taken : taken_by (WasRead bytes (Ok done)) old ≡ bytes ∷ []
  pub how : Queues slot bytes old new ⊎ Answers slot bytes old new

module _ {K : Type 0} (bytes : List ℕ) (done : Unit) (old new : Port K) (r : Hears bytes old (Ok done) new) where
  abbrev So : Type 0
  So = (Stays old new × (taken_by (WasRead bytes (Ok done)) old ≡ [])) ⊎ Gets bytes done old new

  module _ (slot : Descriptor) (size : ℕ) (foreign : Bool) (at : old.task ≡ tasks.Text slot size foreign) where
    abbrev refused : Option SendFault
    refused = refusal (balance_of First old.controller) (outstanding_of First old.controller)
        (handed old.controller.settings.units bytes)

    sees : SeesText slot foreign bytes old new
    sees = (r.sees refl).text slot size foreign at

    pub taken_is : taken_by (WasRead bytes (Ok done)) old
        ≡ cond (is_none (own_answer foreign (volume_named old bytes) bytes) && is_ok (answered_to old bytes))
        (bytes ∷ []) []
    taken_is = grind (arith, handed_so)

    rests : (is_none (own_answer foreign (volume_named old bytes) bytes) && is_ok (answered_to old bytes)) ≡ false
        → Stays old new → So
    rests none stays = inl (stays, taken_is ∙ ap (λ b. cond b (bytes ∷ []) []) none)

    answered : (e : End) → own_end_of old foreign bytes ≡ Some e → So
    answered e own =
        let some : own_end_of old foreign bytes ≢ None = λ none. none-some e (sym none ∙ own) in
        rests (ap (λ x. is_none x && is_ok (answered_to old bytes))
        (own_so foreign (volume_named old bytes) bytes e own).1) (elim (none_or_some old.outgoing) [
          | inl nothing ↦ same_as (sees.own some nothing).0 (alike old)
          | inr out ↦ same_as (sees.own_waits some (λ nothing. none-some out.0 (sym nothing ∙ out.1)))
              (r.own slot size foreign at some, refl, refl, (λ d. d), refl)
        ])

    waits : (fault : SendFault) → own_end_of old foreign bytes ≡ None → refused ≡ Some fault → So
    waits fault none e =
        let answer = ap (sent_unless First old.controller (command_in old bytes)) e in
        rests (and_false (is_none (own_answer foreign (volume_named old bytes) bytes)) (is_ok (answered_to old bytes))
        (ap is_ok answer)) (same_as (sees.waits fault none answer) (
          r.handed slot size foreign at refl none ∙ ap (held_unless First old.controller (command_in old bytes)) e,
          refl,
          refl,
          (λ d. d),
          refl,
        ))

    gets : own_end_of old foreign bytes ≡ None → refused ≡ None → Gets bytes done old new
    gets none is_new = record {
      slot = slot;
      size = size;
      foreign = foreign;
      at = at;
      long = sees.long;
      none = none;
      is_new = is_new;
      taken = taken_is ∙ ap (λ x. cond (is_none x && is_ok (answered_to old bytes)) (bytes ∷ []) [])
          (none_so foreign (volume_named old bytes) bytes none)
          ∙ ap (λ x. cond (is_ok x) (bytes ∷ []) []) answer;
      how = by (is_queued old.controller.settings (command_in old bytes)) refl;
    }
      where
        answer : answered_to old bytes ≡ Ok (taken_as First old.controller (command_in old bytes))
        answer = ap (sent_unless First old.controller (command_in old bytes)) is_new

        sent_as : Bool → Sent
        sent_as q = cond q (sents.Queued (command_in old bytes).reference)
            (sents.Answered (command_in old bytes).reference
            (reference_aborted First old.controller.waiting (command_in old bytes).order))

        answer_is : (q : Bool) → is_queued old.controller.settings (command_in old bytes) ≡ q
            → answered_to old bytes ≡ Ok (sent_as q)
        answer_is q e = answer ∙ ap (λ b. Ok (sent_as b)) e

        holds : (q : Bool) → is_queued old.controller.settings (command_in old bytes) ≡ q → new.controller
            ≡ cond q (queued First old.controller (command_in old bytes))
            (with_end First (aborting First old.controller (command_in old bytes).order) (own_end_in old bytes))
        holds q e = grind arith

        by : (q : Bool) → is_queued old.controller.settings (command_in old bytes) ≡ q
            → Queues slot bytes old new ⊎ Answers slot bytes old new
        by true e = inl (record {
          later = e;
          holds = holds true e;
          answer = answer_is true e;
          sends = sees.sent (sent_as true) none (answer_is true e);
        })
        by false e = inr (record {
          immediate = e;
          holds = holds false e;
          answer = answer_is false e;
          sends = sees.sent (sent_as false) none (answer_is false e);
        })

    judged : (o : Option SendFault) → refused ≡ o → own_end_of old foreign bytes ≡ None → So
    judged None e none = inr (gets none e)
    judged (Some fault) e none = waits fault none e

    text_is : So
    text_is = elim (none_or_some (own_end_of old foreign bytes)) [
      | inr own ↦ answered own.0 own.1
      | inl none ↦ judged refused refl none
    ]

  pub read_is : So
  read_is = by old.task refl
    where
      by : (t : Task) → old.task ≡ t → So
      by (tasks.Text slot size foreign) e = text_is slot size foreign e
      by t e = inl (
        read_stays bytes done old new r (λ h. subst (λ x. IsReadingText x) e h),
        ap (λ x. cond (is_taken_text old bytes x) (bytes ∷ []) []) e,
      )

-- ---- a message that the controller took

module _ {K : Type 0} {bytes : List ℕ} {done : Unit} {old new : Port K} (g : Gets bytes done old new) where
  pub accepted : accepted_by (WasRead bytes (Ok done)) old ≡ bytes ∷ []
  accepted = grind arith

  pub heard_same : (new.stage ≡ old.stage) × (new.hardware ≡ old.hardware)
  heard_same = grind arith

  queued_is : (b : Bool) → is_queued_so (answered_to old bytes) ≡ b → is_queued_text old bytes old.task ≡ b
  queued_is b e = grind (arith, none_so, handed_so)

  pub queued_later : Queues g.slot bytes old new → is_queued_text old bytes old.task ≡ true
  queued_later q = queued_is true (ap is_queued_so q.answer)

  pub answered_now : Answers g.slot bytes old new → is_queued_text old bytes old.task ≡ false
  answered_now a = queued_is false (ap is_queued_so a.answer)

-- one that it doesn't take isn't queued
pub not_queued : {K : Type 0} (old : Port K) (bytes : List ℕ) (t : Task)
    → cond (is_taken_text old bytes t) (bytes ∷ []) [] ≡ [] → is_queued_text old bytes t ≡ false
not_queued old bytes (tasks.Text slot size foreign) none =
    by (is_none (own_answer foreign (volume_named old bytes) bytes))
    (answer_to_message First old.controller (text_handed old.controller.settings.units bytes)) none
  where
    by : (x : Bool) (a : Result Sent SendFault) → cond (x && is_ok a) (bytes ∷ []) [] ≡ []
        → (x && is_queued_so a) ≡ false
    by x a e = grind arith
not_queued old bytes t none = refl

-- its own end comes, behind that of the command that it aborts
abbrev pub ends_answered : {K : Type 0} → Port K → List ℕ → List End
ends_answered p bytes = ends_aborted p bytes ++ own_end_in p bytes ∷ []

module _ {K : Type 0} {slot : Descriptor} {bytes : List ℕ} {old new : Port K} (a : Answers slot bytes old new) where
  pub answer_ends : ends_of new.controller ≡ ends_of old.controller ++ ends_answered old bytes
  answer_ends = ap (λ (h : Holdings K). ends_of h) a.holds
      ∙ append_assoc (ends_of old.controller) (ends_aborted old bytes) (own_end_in old bytes ∷ [])

  pub answer_decided : length (ends_of old.controller) ≡ length old.decided.items
      → new.decided.items ≡ old.decided.items ++ map (answer_by old new) (ends_answered old bytes)
  answer_decided long = grind (arith, answer_by, ends_of, answer_ends, drop-append_seam)

  abbrev pub answer_grows : length (ends_of old.controller) ≡ length old.decided.items
      → Grows old new (answer_by old new)
  answer_grows long =
      record { brought = ends_answered old bytes; ends = answer_ends; decided = answer_decided long }
