-- What follows an action of the port's that went somehow.
use Rattle.mscp_ported.proofs.Common.{Action, Bool, Choice, Due, Idle, IsOutcomeOf, List, Marks, Moves, None, Ok, Outcome, Port, Said, Side, Some, Talk, Task, Went, Wish, [], ap, arith, block_begun, block_served, cond, false, interrupts, map, message_text, refl, subst, sym, true, ℕ, ◌%◌, ◌*◌, ◌++◌, ◌==◌, ◌∙◌, ◌≡◌}
use Rattle.mscp_port.specs.declared.task.Task.TheVariants as tasks
use Rattle.mscp_ported.specs.Talk.{done_by}
use Rattle.mscp_ported.proofs.After.{After, same_stage}
use Rattle.mscp_ported.proofs.Look.{Fits, IsAsked, IsInterrupt, in_hand, look}
use Rattle.mscp_ported.proofs.Hearing.{up_step}
use Rattle.mscp_ported.proofs.Acting.{IsReported, alive, begun_so, dead_so, goes_on, quiet_of, same_said, told_so, up_of, write_one}
use Rattle.mscp_ported.proofs.Giving.{packet_so, return_so}
use Rattle.mscp_ported.proofs.Plain.{retask}
use Rattle.mscp_ported.proofs.Settling.{clear_so, settle_so}

module _ {K : Type 0} {picks : List Choice → ℕ → Type 0} {old new : Port K} {t : Talk} {w : Wish} {outcome : Outcome}
    {done : Unit} {said : List Said} {texts : List (List ℕ)}
    (going : IsReported picks old new t w outcome done said texts) where
  open going use {step as k, goes as r}

  abbrev So : Type 0
  So = After (Went outcome (Ok done)) old (look new) t (Some w) None said texts

  -- ---- interrupts

  word_so : (side : Side) → old.task ≡ tasks.Word side → So
  word_so side at = by (old.words.first % 0x80 * 4 == 0) ((r.acts refl).word side at)
      (write_one going (Marks side) (record t { turn = interrupts old.words.first })
      (subst (λ x. Fits (look old) x t.turn) at k.hand.fits) (subst (λ x. IsAsked (look old) x w) at k.hand.asked)
      (λ address. ap (λ x. record t { turn = interrupts x }) k.names.first_so))
    where
      hears : map message_text t.heard ++ [] ≡ texts
      hears = ap (λ x. map message_text t.heard ++ in_hand x t.turn) (sym at) ∙ k.hears

      by : (b : Bool) → new ≡ record old { task = cond b tasks.Free tasks.Interrupt }
          → done_by w.action w.bytes t ≡ record t { turn = cond b Idle Due } → So
      by true e talk = goes_on going (record
          (look old) { task = tasks.Free }) (record t { turn = Idle }) said (ap look e)
          (alive going) (same_stage old.stage _ ∙ talk) (same_said going)
          (up_step (look old) t (Some w) said said texts texts old.responses old.commands tasks.Free old.outgoing
          old.untold
          Idle t.told t.heard k ((up_of going) (tasks.Word side) at tt) k.counts tt tt (λ h. absurd h) (λ h. h) (λ h. h)
          (told_so going tasks.Free Idle (quiet_of going (tasks.Word side) at (λ h. h)) (λ h. h)) hears)
      by false e talk = goes_on going (record
          (look old) { task = tasks.Interrupt }) (record t { turn = Due }) said (ap look e)
          (alive going) (same_stage old.stage _ ∙ talk) (same_said going)
          (up_step (look old) t (Some w) said said texts texts old.responses old.commands tasks.Interrupt old.outgoing
          old.untold Due t.told t.heard k ((up_of going)
          (tasks.Word side) at tt) k.counts refl tt (λ h. absurd h) (λ h. h) (λ h. h)
          (told_so going tasks.Interrupt Due (quiet_of going (tasks.Word side) at (λ h. h)) (λ h. h)) hears)

  interrupt_so : old.task ≡ tasks.Interrupt → So
  interrupt_so at =
      goes_on going (record (look old) { task = tasks.Free }) (record t { turn = Idle }) said
      (ap look ((r.acts refl).interrupt at)) (alive going) (same_stage old.stage _ ∙ talk) (same_said going)
      (retask (look old) t (Some w) None said texts old.written tasks.Free Idle k k.names.answer_so tt tt (λ h. h)
      (λ e. search (arith, e)) (λ h. absurd h) tt (λ h. tt) (quiet_of going tasks.Interrupt at (λ h. h))
      (ap (λ x. in_hand x t.turn) at) (λ d. absurd (search (arith, d, alive going))))
    where
      by : (a : Action) → IsInterrupt a → done_by a w.bytes t ≡ record t { turn = Idle }
      by a is = grind (arith, look)

      talk : done_by w.action w.bytes t ≡ record t { turn = Idle }
      talk = by w.action (subst (λ x. IsAsked (look old) x w) at k.hand.asked)

  -- ---- all

  pub went : Moves picks outcome old new → So
  went moves = by old.task refl
    where
      by : (task : Task) → old.task ≡ task → So
      by tasks.Free at = absurd (subst (λ x. IsOutcomeOf x outcome) at (r.only refl))
      by tasks.Settle at = settle_so going old.written refl at
      by (tasks.Clear so_far) at = clear_so going so_far at
      by (tasks.Slot side) at = dead_so going 6 ((r.acts refl).slot side at)
      by (tasks.Neighbour side) at = dead_so going 6 ((r.acts refl).neighbour side at)
      by (tasks.Header slot) at = dead_so going 1 ((r.acts refl).header slot at)
      by (tasks.Text slot size foreign) at = dead_so going 1 ((r.acts refl).text slot size foreign at)
      by (tasks.Packet slot) at = packet_so going slot at
      by (tasks.Return side slot) at = return_so going side slot at
      by (tasks.Word side) at = word_so side at
      by tasks.Interrupt at = interrupt_so at
      by (tasks.Step verdict) at = (begun_so going) (tasks.Step verdict) verdict at
          (subst (λ x. Fits (look old) x t.turn) at k.hand.fits) refl (λ h. h)
          (subst (λ x. IsAsked (look old) x w) at k.hand.asked) (moves.step verdict at)
      by tasks.Transfer at = begun_so going tasks.Transfer (block_served old outcome (block_begun old)) at
          (subst (λ x. Fits (look old) x t.turn) at k.hand.fits) refl (λ h. h)
          (subst (λ x. IsAsked (look old) x w) at k.hand.asked) (moves.transfer at)
