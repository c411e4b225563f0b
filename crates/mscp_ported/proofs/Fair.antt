-- Between two polls comes a step of a command, if one may be served.
use Rattle.mscp_ported.proofs.Common.{Action, Answered, Becomes, Bool, Call, Choice, Commands, Descriptor, Err, Hardware, Hears, HearsPoll, Holdings, IsAsNew, IsDue, IsForgotten, IsMadeOf, List, LookAgain, MatchOption, Next, None, Ok, Option, Picking, Port, Protect, PutAside, ReadIp, Record, Responses, Result, SeesText, SendFault, Sends, Sent, Side, Some, Task, TellsStep, Tick, VolumeCame, VolumeWent, Wants, WasRead, Went, WriteIp, WriteSa, [], answered_to, ap, arith, block_is_due, bytes_read, connection_in, false, false≢true, header_fault, if◌then◌else◌, inl, inr, is_owned, is_poll, length, length_in, nat_eq, none-some, not, num, own_end_of, refl, slot_seen, sym, true, ℕ, ◌&&◌, ◌==◌, ◌∙◌, ◌∷◌, ◌≡◌, ◌≢◌, ◌⊎◌}
use Rattle.mscp_ported.specs.Fair.{IsOwed}
use Rattle.mscp_controller.specs.declared.entry.Sent.TheVariants as sents
use Rattle.mscp_port.specs.declared.stage.Stage.TheVariants as stages
use Rattle.mscp_port.specs.declared.task.Task.TheVariants as tasks
use Rattle.mscp_ported.proofs.Loads.{none_or_not, up_or_not}

-- ---- a text

pub sent_keeps : {K : Type 0} (slot : Descriptor) (s : Sent) (bytes : List ℕ) (old new : Port K)
    → Sends slot s bytes old new → old.owes_block ≡ true → new.owes_block ≡ true
sent_keeps slot s bytes old new h6 h7 = grind arith

text_keeps : {K : Type 0} (slot : Descriptor) (foreign : Bool) (bytes : List ℕ) (old new : Port K)
    → SeesText slot foreign bytes old new → old.owes_block ≡ true → new.owes_block ≡ true
text_keeps slot foreign bytes old new sees owes = by_own (own_end_of old foreign bytes) refl old.outgoing refl
  where
    by_sent : (r : Result Sent SendFault) → answered_to old bytes ≡ r → own_end_of old foreign bytes ≡ None
        → new.owes_block ≡ true
    by_sent (Ok s) e own = sent_keeps slot s bytes old new (sees.sent s own e) owes
    by_sent (Err fault) e own = ap (λ p. p.owes_block) (sees.waits fault own e) ∙ owes

    by_own : (o : Option _) → own_end_of old foreign bytes ≡ o → (out : Option _) → old.outgoing ≡ out
        → new.owes_block ≡ true
    by_own None e out is = by_sent (answered_to old bytes) refl e
    by_own (Some end) e None is =
        ap (λ p. p.owes_block) (sees.own (λ n. none-some end (sym n ∙ e)) is).0 ∙ owes
    by_own (Some end) e (Some out) is =
        ap (λ p. p.owes_block) (sees.own_waits (λ n. none-some end (sym n ∙ e)) (λ n. none-some out (sym n ∙ is)))
        ∙ owes

-- ---- a call

slot_keeps : {K : Type 0} (side : Side) (bytes : List ℕ) (old new : Port K) → old.task ≡ tasks.Slot side
    → Hears bytes old (Ok tt) new → old.owes_block ≡ true → new.owes_block ≡ true
slot_keeps {K} side bytes old new at r owes =
    ap (λ p. p.owes_block) ((r.sees refl).slot side at) ∙ (seen side old (record { word = num bytes 0 4 }) ∙ owes)
  where
    seen : (s : Side) (p : Port K) (slot : Descriptor) → (slot_seen s slot p).owes_block ≡ p.owes_block
    seen Responses p slot = owned (is_owned slot.word)
      where
        owned : (b : Bool)
            → (if b then record p { task = tasks.Packet slot } else record p {
              is_full = true;
              task = tasks.Free;
            }).owes_block
            ≡ p.owes_block
        owned true = refl
        owned false = refl
    seen Commands p slot = owned (is_owned slot.word)
      where
        owned : (b : Bool)
            → (if b then record p { task = tasks.Header slot }
            else record p { is_polled = false; task = tasks.Free }).owes_block
            ≡ p.owes_block
        owned true = refl
        owned false = refl

header_keeps : {K : Type 0} (fault : Option ℕ) (slot : Descriptor) (bytes : List ℕ) (old new : Port K)
    → MatchOption fault
    (new ≡ record old {
      task = tasks.Text slot (bytes_read (length_in (num bytes 0 4)))
          (connection_in (num bytes 0 4) == 2);
    })
    (λ code. IsAsNew (stages.Dead code) old new)
    → (IsForgotten old new → ⊥) → old.owes_block ≡ true → new.owes_block ≡ true
header_keeps None slot bytes old new e alive owes = ap (λ p. p.owes_block) e ∙ owes
header_keeps (Some code) slot bytes old new dead alive owes = absurd (alive (stages.Dead code, dead))

reading : {K : Type 0} (bytes : List ℕ) (old new : Port K) (t : Task) → old.task ≡ t
    → Hears bytes old (Ok tt) new → (IsForgotten old new → ⊥) → old.owes_block ≡ true → new.owes_block ≡ true
reading bytes old new (tasks.Text slot size foreign) at r alive owes =
    text_keeps slot foreign bytes old new ((r.sees refl).text slot size foreign at) owes
reading bytes old new (tasks.Slot Responses) at r alive owes = slot_keeps Responses bytes old new at r owes
reading bytes old new (tasks.Slot Commands) at r alive owes = slot_keeps Commands bytes old new at r owes
reading bytes old new (tasks.Neighbour side) at r alive owes =
    ap (λ p. p.owes_block) ((r.sees refl).neighbour side at) ∙ owes
reading bytes old new (tasks.Header slot) at r alive owes =
    header_keeps (header_fault (num bytes 0 4)) slot bytes old new ((r.sees refl).header slot at) alive owes
reading bytes old new t at r alive owes = grind arith

stays : {K : Type 0} (picks : Picking K) (call : Call) (old new : Port K) → Becomes picks call old new
    → (IsForgotten old new ⊎ TellsStep call old → ⊥) → old.owes_block ≡ true → new.owes_block ≡ true
stays picks (WasRead bytes (Ok done)) old new r neither owes =
    reading bytes old new old.task refl r (λ f. neither (inl f)) owes
stays picks (WasRead bytes (Err unasked)) old new r neither owes = ap (λ p. p.owes_block) r.unasked ∙ owes
stays picks WriteIp old new r neither owes = absurd (neither (inl (stages.First, r)))
stays picks ReadIp old new r neither owes = elim r.frame [
  | inl e ↦ ap (λ p. p.owes_block) e ∙ owes
  | inr d ↦ absurd (neither (inl (stages.Dead d.0, d.1)))
]
stays picks (WriteSa word) old new r neither owes = elim r.frame [
  | inl e ↦ ap (λ p. p.owes_block) e ∙ owes
  | inr d ↦ absurd (neither (inl (stages.Dead d.0, d.1)))
]
stays picks (Next blocks action bytes) old new r neither owes = ap (λ p. p.owes_block) r.0.frame ∙ owes
stays picks PutAside old new r neither owes = ap (λ p. p.owes_block) r ∙ owes
stays picks (Went outcome (Ok done)) old new r neither owes = elim r.commands [
  | inl e ↦ e.owes ∙ owes
  | inr more ↦ elim more [
    | inl block ↦ absurd (neither (inr block.0))
    | inr d ↦ absurd (neither (inl (stages.Dead d.0, d.1)))
  ]
]
stays picks (Went outcome (Err unasked)) old new r neither owes = ap (λ p. p.owes_block) r.unasked ∙ owes
stays picks LookAgain old new r neither owes = ap (λ p. p.owes_block) r ∙ owes
stays picks Tick old new r neither owes = elim r.either [
  | inl e ↦ ap (λ p. p.owes_block) e ∙ owes
  | inr d ↦ absurd (neither (inl (stages.Dead 9, d)))
]
stays picks (VolumeCame m unit (Ok done)) old new r neither owes = ap (λ p. p.owes_block) (r.came refl) ∙ owes
stays picks (VolumeCame m unit (Err fault)) old new r neither owes = ap (λ p. p.owes_block) r.refused ∙ owes
stays picks (VolumeWent unit result) old new r neither owes = ap (λ p. p.owes_block) r.frame ∙ owes
stays picks (Protect protected unit result) old new r neither owes = ap (λ p. p.owes_block) r.frame ∙ owes

polled : {K : Type 0} (slot : Descriptor) (reference : ℕ) (aborted : Option ℕ) (bytes : List ℕ) (old new : Port K)
    → Sends slot (sents.Answered reference aborted) bytes old new → is_poll bytes ≡ true → new.owes_block ≡ true
polled slot reference aborted bytes old new sends is =
    ap (λ p. p.owes_block) sends.frame ∙ ap (λ (b : Bool). if b then true else old.owes_block) is

heard : {K : Type 0} (picks : Picking K) (call : Call) (old new : Port K) → Becomes picks call old new
    → HearsPoll call old
    → new.owes_block ≡ true
heard picks (WasRead bytes (Ok done)) old new r is =
    let t = is.text in
    let a = is.answered in
    polled t.0 a.0 a.1 bytes old new (((r.sees refl).text t.0 t.1 t.2 t.3).sent
    (sents.Answered a.0 a.1) t.4 a.2) is.poll
heard picks call old new r is = absurd is

-- ---- a history

owed : {K : Type 0} (picks : Picking K) (start p : Port K) (calls : List Call) → (a : Answered picks start calls p)
    → IsOwed picks start p calls a
    → p.owes_block ≡ true
owed picks start p [] a is = absurd is
owed picks start p (call ∷ calls) a is = elim is [
  | inl hears ↦ heard picks call a.0 p a.2 hears
  | inr more ↦ stays picks call a.0 p a.2 more.0 (owed picks start a.0 calls a.1 more.1)
]

-- ---- the law

not_free : tasks.Slot Commands ≡ tasks.Free → ⊥
not_free e = none_free (ap is_slot e)
  where
    is_slot : Task → Bool
    is_slot (tasks.Slot side) = true
    is_slot task = false

    none_free : true ≡ false → ⊥
    none_free x = false≢true (sym x)

full_or_not : (b : Bool) → (b ≡ true) ⊎ (b ≡ false)
full_or_not true = inl refl
full_or_not false = inr refl

pub block_due : {K : Type 0} (p : Port K) (task : Task) → IsDue true p task → task ≡ tasks.Slot Commands
    → block_is_due true p ≡ true → ⊥
block_due p task due slot e = grind (arith, up_or_not, none_or_not, full_or_not)

pub nothing_waits : (owes : Bool) (rs : List Record) → owes ≡ true
    → (owes && true && not (nat_eq (length rs) 0)) ≡ false → rs ≡ []
nothing_waits owes [] is e = refl
nothing_waits owes (r ∷ rs) is e = search (arith, false≢true)

-- what is due is a slot of commands only where a block isn't
not_first : {K : Type 0} (picks : List Choice → ℕ → Type 0) (old p : Port K) (action : Action)
    → Wants picks true old action p → old.task ≡ tasks.Free
    → p.task ≡ tasks.Slot Commands → block_is_due true p ≡ false
not_first picks old p action wants free slot = by (block_is_due true p) refl
  where
    alive : (code : ℕ) → old.stage ≢ stages.Dead code
    alive code e = not_free (sym slot ∙ (ap (λ q. q.task) (wants.dead code e).1 ∙ free))

    by : (b : Bool) → block_is_due true p ≡ b → b ≡ false
    by false e = refl
    by true e = absurd (block_due p p.task (wants.due alive free) slot e)

pub serves_between_polls : {K : Type 0} (picks : Picking K) (hardware : Hardware) (credits : ℕ)
    (controller : Holdings K) (start p : Port K)
    (calls : List Call) (action : Action) (bytes : List ℕ) → IsMadeOf hardware credits controller start
    → (a : Answered picks start (Next true action bytes ∷ calls) p) → a.0.task ≡ tasks.Free
    → IsOwed picks start a.0 calls a.1
    → p.task ≡ tasks.Slot Commands → p.controller.waiting ≡ []
serves_between_polls picks hardware credits controller start p calls action bytes made a free is slot =
    let owes = ap (λ q. q.owes_block) a.2.0.frame ∙ owed picks start a.0 calls a.1 is in
    nothing_waits p.owes_block p.controller.waiting owes (not_first _ a.0 p action a.2.0 free slot)
