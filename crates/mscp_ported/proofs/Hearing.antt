-- What follows when bytes of a host's memory were read.
use Rattle.mscp_ported.proofs.Common.{Bool, Commands, Descriptor, Err, Idle, IsAsNew, IsOfBlock, List, Looks, Marks, MatchOption, Message, None, Ok, Opened, Option, Outgoing, Packet, Port, Read, Reads, Responses, Result, Rings, Said, SeesText, Side, Slot, Some, Taken, Talk, Task, Turn, WasRead, Wish, [], accepted_by, accepted_text, accepts, answered_to, ap, append-nil, arith, begins, bytes_read, cond, connection_in, false, header_fault, inl, inr, is_owned, length, length_in, map, message_text, mod-lt, none-some, num, own_end_of, read_by, read_size, read_turn, refl, said_in, side_at, slot_in, stays, subst, sym, takes, true, ℕ, ◌++◌, ◌==◌, ◌∙◌, ◌∷◌, ◌≡◌, ◌≢◌, ◌≤◌, ◌⊎◌}
use Rattle.mscp_controller.specs.declared.entry.Sent.TheVariants as sents
use Rattle.mscp_port.specs.declared.stage.Stage.TheVariants as stages
use Rattle.mscp_port.specs.declared.task.Task.TheVariants as tasks
use Rattle.mscp_ported.proofs.After.{After, IsNoReset, alters, none_said, say_on, same_stage}
use Rattle.mscp_ported.proofs.Look.{AreTold, Counts, Fits, Hears, InStep, IsAsked, IsClear, IsOfRings, IsOwned, IsRead, IsTelling, Look, NeedsOut, given_at, in_hand, is_loud, look, slot_at, told_on}
use Rattle.mscp_ported.proofs.Counting.{place_so}
use Rattle.mscp_ported.proofs.Plain.{dies}

-- ---- the rings are in use

-- all but the names may have become other
pub up_step : (l : Look) (t : Talk) (w : Option Wish) (said said' : List Said) (texts texts' : List (List ℕ))
    (responses commands : ℕ) (task : Task) (outgoing : Option Outgoing) (untold : ℕ) (turn : Turn) (told : List Packet)
    (heard : List Message) → InStep l t w said texts → l.stage ≡ stages.Up
    → Counts l.rings responses commands told heard
    → Fits (record l {
      responses = responses;
      commands = commands;
      task = task;
      outgoing = outgoing;
      untold = untold;
    }) task turn
    → IsOwned turn → (NeedsOut task → outgoing ≢ None) → (IsClear task → ⊥)
    → (IsOfBlock task → ⊥) → AreTold l.more task turn outgoing untold told said'
    → Hears task turn heard texts'
    → InStep (record l {
      responses = responses;
      commands = commands;
      task = task;
      outgoing = outgoing;
      untold = untold;
    }) (record t { turn = turn; told = told; heard = heard }) None said' texts'
up_step l t w said said' texts texts' responses commands task outgoing untold
    turn told heard k up counts fits own has clear no_block tells hears =
    grind (arith, is_loud)

-- a slot's address lies in its ring
side_of : (r : Rings) (side : Side) (n : ℕ) → 1 ≤ r.responses → side_at (Some r) (slot_in r side n) ≡ side
side_of r Responses n wide = search (arith, mod-lt n)
side_of r Commands n wide = search arith

module _ {K : Type 0} (old new : Port K) (t : Talk) (w : Wish) (bytes : List ℕ) (done : Unit) (said : List Said)
    (texts : List (List ℕ)) (k : InStep (look old) t (Some w) said texts) (r : Reads bytes old (Ok done) new) where
  abbrev So : Type 0
  So = After (WasRead bytes (Ok done)) old (look new) t (Some w) None said texts

  no_reset : IsNoReset (WasRead bytes (Ok done))
  no_reset = record { said = λ s xs ys. refl; texts = λ s xs ys. refl }

  -- what is read in a task of the rings, after which the port looks so
  read_on : (l : Look) (t' : Talk) (said' : List Said) (texts' : List (List ℕ)) → look new ≡ l → l.stage ≡ old.stage
      → old.stage ≡ stages.Up → read_by w.action bytes t ≡ t'
      → said ++ map said_in (begins old.outgoing l.outgoing) ≡ said'
      → texts ++ accepted_by (WasRead bytes (Ok done)) old ≡ texts' → InStep l t' None said' texts' → So
  read_on l t' said' texts' e stage up talk more_said more_texts x = grind (arith, alters, no_reset, same_stage)

  -- nothing but the task became another, and nothing is accepted
  task_on : (task task' : Task) (turn : Turn) → old.task ≡ task → IsOfRings task
      → look new ≡ record (look old) { task = task' } → read_by w.action bytes t ≡ record t { turn = turn }
      → accepted_by (WasRead bytes (Ok done)) old ≡ [] → Fits (record (look old) { task = task' }) task' turn
      → IsOwned turn → (NeedsOut task' → old.outgoing ≢ None) → (IsClear task' → ⊥) → (IsOfBlock task' → ⊥)
      → (IsTelling task → ⊥)
      → (IsTelling task' → ⊥) → in_hand task t.turn ≡ [] → in_hand task' turn ≡ [] → So
  task_on task task' turn at ring e talk none fits own has clear no_block calm calm' before after =
      grind (arith, read_on, look, none_said, append-nil, up_step, told_on, in_hand)

  -- ---- a slot

  slot_talk : (side : Side) → old.task ≡ tasks.Slot side
      → read_by w.action bytes t ≡ record t { turn = takes (slot_at (look old) side (num bytes 0 4)) }
  slot_talk side at = grind (arith, look, given_at, slot_at, side_of, place_so)

  slot_read_so : (side : Side) → old.task ≡ tasks.Slot side → So
  slot_read_so side at = by side at
    where
      not_accepted : (s : Side) → old.task ≡ tasks.Slot s → accepted_by (WasRead bytes (Ok done)) old ≡ []
      not_accepted s e = ap (λ x. accepted_text old x bytes) e

      of_responses : old.task ≡ tasks.Slot Responses → (b : Bool) → is_owned (num bytes 0 4) ≡ b
          → new ≡ cond b (record old { task = tasks.Packet (record { word = num bytes 0 4 }) })
          (record old { is_full = true; task = tasks.Free })
          → read_by w.action bytes t
          ≡ record t { turn = cond b (Taken (slot_at (look old) Responses (num bytes 0 4))) Idle } → So
      of_responses e true own h talk =
          task_on (tasks.Slot Responses) (tasks.Packet (record { word = num bytes 0 4 }))
          (Taken (slot_at (look old) Responses (num bytes 0 4))) e tt (ap look h) talk
          (not_accepted Responses e) refl own
          (λ x. k.speech.has (subst (λ x. NeedsOut x) (sym e) tt)) (λ x. x) (λ x. x) (λ x. x) (λ x. x) refl refl
      of_responses e false own h talk =
          task_on (tasks.Slot Responses) tasks.Free Idle e tt (ap look h) talk (not_accepted Responses e) tt tt
          (λ x. absurd x) (λ x. x) (λ x. x) (λ x. x) (λ x. x) refl refl

      of_commands : old.task ≡ tasks.Slot Commands → (b : Bool) → is_owned (num bytes 0 4) ≡ b
          → new ≡ cond b (record old { task = tasks.Header (record { word = num bytes 0 4 }) })
          (record old { is_polled = false; task = tasks.Free })
          → read_by w.action bytes t
          ≡ record t { turn = cond b (Taken (slot_at (look old) Commands (num bytes 0 4))) Idle } → So
      of_commands e true own h talk =
          task_on (tasks.Slot Commands) (tasks.Header (record { word = num bytes 0 4 }))
          (Taken (slot_at (look old) Commands (num bytes 0 4))) e tt (ap look h) talk (not_accepted Commands e) refl own
          (λ x. absurd x) (λ x. x) (λ x. x) (λ x. x) (λ x. x) refl refl
      of_commands e false own h talk =
          task_on (tasks.Slot Commands) tasks.Free Idle e tt (ap look h) talk (not_accepted Commands e) tt tt
          (λ x. absurd x) (λ x. x) (λ x. x) (λ x. x) (λ x. x) refl refl

      by : (s : Side) → old.task ≡ tasks.Slot s → So
      by Responses e = of_responses e (is_owned (num bytes 0 4)) refl ((r.sees refl).slot Responses e)
          (slot_talk Responses e)
      by Commands e = of_commands e (is_owned (num bytes 0 4)) refl ((r.sees refl).slot Commands e)
          (slot_talk Commands e)

  -- ---- the slot in front, a header, a text

  read_one : (x y : Turn) → t.turn ≡ x → IsRead w.action
      → ((address : ℕ) → read_turn t.rings address bytes x ≡ y) → read_by w.action bytes t ≡ record t { turn = y }
  read_one x y e is h = grind arith

  neighbour_so : (side : Side) → old.task ≡ tasks.Neighbour side → So
  neighbour_so side at = by (is_owned (num bytes 0 4)) ((r.sees refl).neighbour side at)
      (read_one (Looks side) (cond (is_owned (num bytes 0 4)) (Marks side) Idle)
      (subst (λ x. Fits (look old) x t.turn) at k.hand.fits) (subst (λ x. IsAsked (look old) x w) at k.hand.asked)
      (λ address. refl))
    where
      none : accepted_by (WasRead bytes (Ok done)) old ≡ []
      none = ap (λ x. accepted_text old x bytes) at

      by : (b : Bool) → new ≡ record old { task = cond b (tasks.Word side) tasks.Free }
          → read_by w.action bytes t ≡ record t { turn = cond b (Marks side) Idle } → So
      by true h talk = task_on (tasks.Neighbour side) (tasks.Word side) (Marks side) at tt (ap look h) talk none refl tt
          (λ x. absurd x) (λ x. x) (λ x. x) (λ x. x) (λ x. x) refl refl
      by false h talk = task_on (tasks.Neighbour side) tasks.Free Idle at tt (ap look h) talk none tt tt (λ x. absurd x)
          (λ x. x) (λ x. x) (λ x. x) (λ x. x) refl refl

  header_so : (slot : Descriptor) → old.task ≡ tasks.Header slot → So
  header_so slot at = by (header_fault (num bytes 0 4)) ((r.sees refl).header slot at)
    where
      taken : t.turn ≡ Taken (slot_at (look old) Commands slot.word)
      taken = subst (λ x. Fits (look old) x t.turn) at k.hand.fits

      by : (o : Option ℕ) → MatchOption o
          (new ≡ record old {
            task = tasks.Text slot (bytes_read (length_in (num bytes 0 4))) (connection_in (num bytes 0 4) == 2);
          })
          (λ code. IsAsNew (stages.Dead code) old new) → So
      by None h = task_on (tasks.Header slot)
          (tasks.Text slot (bytes_read (length_in (num bytes 0 4))) (connection_in (num bytes 0 4) == 2))
          (Opened (slot_at (look old) Commands slot.word) (num bytes 0 4)) at tt (ap look h)
          (read_one (Taken (slot_at (look old) Commands slot.word))
          (Opened (slot_at (look old) Commands slot.word) (num bytes 0 4)) taken
          (subst (λ x. IsAsked (look old) x w) at k.hand.asked) (λ address. refl))
          (ap (λ x. accepted_text old x bytes) at) (num bytes 0 4, refl, refl, refl)
          (subst (λ x. IsOwned x) taken k.hand.own) (λ x. absurd x) (λ x. x) (λ x. x) (λ x. x) (λ x. x) refl refl
      by (Some code) h =
          dies (WasRead bytes (Ok done)) code old new t (Some w) None said texts no_reset h

  text_so : (slot : Descriptor) (size : ℕ) (foreign : Bool) → old.task ≡ tasks.Text slot size foreign → So
  text_so slot size foreign at = by (own_end_of old foreign bytes) refl
    where
      s : Slot
      s = slot_at (look old) Commands slot.word

      sees : SeesText slot foreign bytes old new
      sees = (r.sees refl).text slot size foreign at

      up : old.stage ≡ stages.Up
      up = k.hand.up (subst (λ x. IsOfRings x) (sym at) tt)

      was : (header : ℕ) × (t.turn ≡ Opened s header) × (size ≡ bytes_read (length_in header))
          × (foreign ≡ (connection_in header == 2))
      was = subst (λ x. Fits (look old) x t.turn) at k.hand.fits

      turn : Turn
      turn = Read s was.0 bytes

      own : IsOwned turn
      own = subst (λ x. IsOwned x) was.1 k.hand.own

      talk : read_by w.action bytes t ≡ record t { turn = turn }
      talk = read_one (Opened s was.0) turn was.1 (subst (λ x. IsAsked (look old) x w) at k.hand.asked)
          (λ address. refl)

      heard_so : map message_text t.heard ++ [] ≡ texts
      heard_so = ap (λ x. map message_text t.heard ++ in_hand x t.turn) (sym at) ∙ k.hears

      accepted_so : (b : Bool) → accepts (own_end_of old foreign bytes) old.outgoing (answered_to old bytes) ≡ b
          → accepted_by (WasRead bytes (Ok done)) old ≡ cond b (bytes ∷ []) []
      accepted_so b e = ap (λ x. accepted_text old x bytes) at
          ∙ ap (λ c. cond c (bytes ∷ []) []) e

      -- its slot is given back
      taken_so : (o : Option Outgoing) → accepts (own_end_of old foreign bytes) old.outgoing
          (answered_to old bytes) ≡ true
          → look new ≡ record (look old) { outgoing = o; task = tasks.Return Commands slot }
          → (o ≡ old.outgoing) ⊎ (old.outgoing ≡ None) → So
      taken_so o is e either =
          read_on (record (look old) { outgoing = o; task = tasks.Return Commands slot }) (record t { turn = turn })
          (said ++ map said_in (begins old.outgoing o)) (texts ++ bytes ∷ []) e refl up
          talk refl (ap (λ ys. texts ++ ys) (accepted_so true is))
          (up_step (look old) t (Some w) said _ texts _ old.responses old.commands (tasks.Return Commands slot) o
          old.untold turn t.told t.heard k up k.counts (was.0, bytes, refl) own (λ x. absurd x) (λ x. x) (λ x. x)
          (say_on old.more old.task (tasks.Return Commands slot) t.turn turn old.outgoing o old.untold t.told said
          (subst (λ x. IsTelling x → ⊥) (sym at) (λ x. x)) (λ x. x) either k.speech.tells)
          (ap (λ xs. xs ++ bytes ∷ []) (sym (append-nil (map message_text t.heard)) ∙ heard_so)))

      stays_so : accepts (own_end_of old foreign bytes) old.outgoing (answered_to old bytes) ≡ false
          → stays old new → So
      stays_so no_more e = task_on (tasks.Text slot size foreign) tasks.Free turn at tt (ap look e) talk
          (accepted_so false no_more) tt own (λ x. absurd x) (λ x. x) (λ x. x) (λ x. x) (λ x. x) refl refl

      own_or : (e : _) → own_end_of old foreign bytes ≡ Some e → (o : Option Outgoing) → old.outgoing ≡ o → So
      own_or e some None none =
          taken_so new.outgoing (ap (λ x. accepts x old.outgoing (answered_to old bytes)) some
          ∙ ap (λ x. accepts (Some e) x (answered_to old bytes)) none)
          (ap look (sees.own (λ n. none-some e (sym n ∙ some)) none).0) (inr none)
      own_or e some (Some x) out =
          stays_so (ap (λ x. accepts x old.outgoing (answered_to old bytes)) some
          ∙ ap (λ x. accepts (Some e) x (answered_to old bytes)) out)
          (sees.own_waits (λ n. none-some e (sym n ∙ some)) (λ n. none-some x (sym n ∙ out)))

      sent_or : own_end_of old foreign bytes ≡ None → (a : Result _ _) → answered_to old bytes ≡ a → So
      sent_or none (Ok (sents.Queued reference)) ok =
          taken_so old.outgoing (ap (λ x. accepts x old.outgoing (answered_to old bytes)) none
          ∙ ap (accepts None old.outgoing) ok) (ap look (sees.sent (sents.Queued reference) none ok).frame) (inl refl)
      sent_or none (Ok (sents.Answered reference aborted)) ok =
          taken_so old.outgoing (ap (λ x. accepts x old.outgoing (answered_to old bytes)) none
          ∙ ap (accepts None old.outgoing) ok) (ap look (sees.sent (sents.Answered reference aborted) none ok).frame)
          (inl refl)
      sent_or none (Err fault) err = grind (arith, stays_so, none, sees)

      by : (o : Option _) → own_end_of old foreign bytes ≡ o → So
      by None none = sent_or none (answered_to old bytes) refl
      by (Some e) some = own_or e some old.outgoing refl

  not_read : (task : Task) → old.task ≡ task → read_size task ≡ None → So
  not_read task at none = absurd (none-some (length bytes) (sym none ∙ sym (ap read_size at) ∙ r.only refl))

  pub was_read : So
  was_read = grind (arith, slot_read_so, neighbour_so, header_so, text_so, not_read)
