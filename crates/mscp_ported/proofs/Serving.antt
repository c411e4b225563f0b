-- Whoever always asks for blocks has a step told between two polls of a command that waits.
use Rattle.mscp_ported.proofs.Common.{Action, Answered, AsksBehindPolls, AsksForBlocks, Becomes, Bool, Call, Descriptor, Hardware, Hears, Holdings, IsAsNew, IsMadeOf, IsReadingText, IsServedSince, List, Next, Ok, Picking, Port, ReadIp, ServesBetweenPolls, TakesPoll, Task, TellsStep, Wants, WasRead, Went, WriteIp, WriteSa, [], ap, arith, blocks, eq-eqb, false, false≢true, inl, inr, is_dead, refl, subst, sym, takes, true, ℕ, ◌∙◌, ◌∷◌, ◌≡◌, ◌≢◌, ◌⊎◌}
use Rattle.mscp_ported.proofs.Minor.{minor}
use Rattle.mscp_port.specs.declared.stage.Stage.TheVariants as stages
use Rattle.mscp_port.specs.declared.task.Task.TheVariants as tasks
use Rattle.mscp_ported.proofs.Answering.{poll_sent}
use Rattle.mscp_ported.proofs.Ended.{lived}
use Rattle.mscp_ported.proofs.Reading.{Answers, Queues, read_is}
use Rattle.mscp_ported.proofs.Deeds.{is_alive}
use Rattle.mscp_ported.proofs.Sights.{Seen, sight}
use Rattle.mscp_ported.proofs.Turns.{IsHearing, IsNoNext, reads_on, text_quiet, wants_hears}
use Rattle.mscp_ported.proofs.Fair.{sent_keeps}

-- ---- a block that is owed stays so until a step is told

module _ {K : Type 0} (picks : Picking K) (old new : Port K) (lives : is_dead new.stage ≡ false)
    (owes : old.owes_block ≡ true) where
  as_it_was : (x : Port K) → new ≡ x → x.owes_block ≡ old.owes_block → new.owes_block ≡ true
  as_it_was x e is = ap (λ (p : Port K). p.owes_block) e ∙ is ∙ owes

  dies : (code : ℕ) → IsAsNew (stages.Dead code) old new → new.owes_block ≡ true
  dies code d = absurd (search (arith, lives, ap is_dead d.stage))

  read_owes : {bytes : List ℕ} {done : Unit} → Seen bytes done old new → new.owes_block ≡ true
  read_owes h = grind (arith, as_it_was, dies, sent_keeps)

  owes_on : (call : Call) → call ≢ WriteIp → (TellsStep call old → ⊥) → Becomes picks call old new
      → new.owes_block ≡ true
  owes_on WriteIp never none r = absurd (never refl)
  owes_on ReadIp never none r = elim r.frame [ inl e ↦ as_it_was _ e refl | inr d ↦ dies d.0 d.1 ]
  owes_on (WriteSa word) never none r = elim r.frame [ inl e ↦ as_it_was _ e refl | inr d ↦ dies d.0 d.1 ]
  owes_on (Next blocks action bytes) never none r = as_it_was _ r.0.frame refl
  owes_on (WasRead bytes (Ok done)) never none r = read_owes (sight bytes done old new r)
  owes_on (Went outcome (Ok done)) never none r = grind (arith, dies)
  owes_on call never none r = grind (arith, minor, as_it_was, dies)

-- ---- a poll

module _ {K : Type 0} (bytes : List ℕ) (done : Unit) (old new : Port K) (r : Hears bytes old (Ok done) new) where
  -- the controller answers it at once
  read_polls : (number : ℕ) → TakesPoll number (WasRead bytes (Ok done)) old
      → (new.owes_block ≡ true) × IsReadingText old.task
  read_polls number takes = elim (read_is bytes done old new r) [
    | inl s ↦ absurd (search (arith, sym s.1 ∙ takes.0))
    | inr g ↦ (by g.slot g.how, subst (λ x. IsReadingText x) (sym g.at) tt)
  ]
    where
      by : (slot : Descriptor) → Queues slot bytes old new ⊎ Answers slot bytes old new → new.owes_block ≡ true
      by slot h = grind (arith, poll_sent, eq-eqb)

  alive_read : is_dead old.stage ≡ false
  alive_read = is_alive old (λ code e. search (arith, r.dead code e))

-- behind a poll a block is owed, and no message is looked for at once; before it a text was read by a port that lives
record Polls {K : Type 0} (old new : Port K) : Type 0 where
  owes : new.owes_block ≡ true
  hears : IsHearing old.task
  quiet : IsHearing new.task → ⊥
  lives : is_dead old.stage ≡ false

polls_so : {K : Type 0} (picks : Picking K) (call : Call) (old new : Port K) (number : ℕ) → TakesPoll number call old
    → Becomes picks call old new → Polls old new
polls_so picks (WasRead bytes (Ok done)) old new number takes r =
    let x = read_polls bytes done old new r number takes in
    record {
      owes = x.0;
      hears = hearing old.task x.1;
      quiet = text_quiet (sight bytes done old new r) x.1;
      lives = alive_read bytes done old new r;
    }
  where
    hearing : (t : Task) → IsReadingText t → IsHearing t
    hearing (tasks.Text slot size foreign) is = tt
    hearing t is = absurd is
polls_so picks call old new number takes r = absurd takes

-- ---- a history

tells_or_not : {K : Type 0} (call : Call) (old : Port K) → TellsStep call old ⊎ (TellsStep call old → ⊥)
tells_or_not call old = grind arith

is_reset : (call : Call) → (call ≡ WriteIp) ⊎ (call ≢ WriteIp)
is_reset WriteIp = inl refl
is_reset call = inr (λ e. search (arith, e))

module _ {K : Type 0} (picks : Picking K) (start : Port K) where
  since_reset : (p : Port K) (call : Call) (calls : List Call) (a : Answered picks start (call ∷ calls) p) (number : ℕ)
      → call ≡ WriteIp → IsServedSince picks start p (call ∷ calls) a number
  since_reset p WriteIp calls a number e = tt
  since_reset p call calls a number e = search (arith, e)

  since_call : (p : Port K) (call : Call) (calls : List Call) (a : Answered picks start (call ∷ calls) p) (number : ℕ)
      → TellsStep call a.0 ⊎ ((TakesPoll number call a.0 → ⊥) × IsServedSince picks start a.0 calls a.1 number)
      → IsServedSince picks start p (call ∷ calls) a number
  since_call p WriteIp calls a number s = tt
  since_call p call calls a number s = s

  -- where no block is owed, no poll was taken since the last step
  served : (p : Port K) (calls : List Call) (a : Answered picks start calls p) (number : ℕ) → is_dead p.stage ≡ false
      → p.owes_block ≡ false → IsServedSince picks start p calls a number
  served p [] a number lives none = tt
  served p (call ∷ calls) a number lives none = elim (is_reset call) [
    | inl e ↦ since_reset p call calls a number e
    | inr never ↦ since_call p call calls a number (elim (tells_or_not call a.0) [
      | inl tells ↦ inl tells
      | inr quiet ↦ inr (
        λ takes. false≢true (sym none ∙ (polls_so picks call a.0 p number takes a.2).owes),
        served a.0 calls a.1 number (lived picks a.0 p call never a.2 lives) (not_before never quiet),
      )
    ])
  ]
    where
      not_before : call ≢ WriteIp → (TellsStep call a.0 → ⊥) → a.0.owes_block ≡ false
      not_before never quiet = grind (arith, false≢true, owes_on)

  module _ (hardware : Hardware) (credits : ℕ) (controller : Holdings K)
      (made : IsMadeOf hardware credits controller start) where
    -- where a message is looked for nothing waits, or since each poll a step was told
    abbrev IsFair : (p : Port K) (calls : List Call) → Answered picks start calls p → Type 0
    IsFair p calls a = IsHearing p.task
        → (p.controller.waiting ≡ []) ⊎ ((number : ℕ) → IsServedSince picks start p calls a number)

    next_fair : (p : Port K) (blocks : Bool) (action : Action) (bytes : List ℕ) (calls : List Call)
        (a : Answered picks start (Next blocks action bytes ∷ calls) p)
        → (blocks ≡ true) ⊎ ((number : ℕ) → IsServedSince picks start a.0 calls a.1 number) → IsFair a.0 calls a.1
        → IsFair p (Next blocks action bytes ∷ calls) a
    next_fair p blocks action bytes calls a asks fair hears = elim asks [
      | inr served_so ↦ inr (λ number. inr ((λ t. t), served_so number))
      | inl all ↦ elim (wants_hears (picks a.0.controller.picker) action a.0 p
          (subst (λ b. Wants (picks a.0.controller.picker) b a.0 action p) all a.2.0) hears) [
            | inl same ↦ elim (fair (subst (λ (q : Port K). IsHearing q.task) same hears)) [
              | inl none ↦ inl (ap (λ (q : Port K). q.controller.waiting) same ∙ none)
              | inr s ↦ inr (λ number. inr ((λ t. t), s number))
            ]
            | inr x ↦ by p.owes_block refl x
          ]
    ]
      where
        by : (b : Bool) → p.owes_block ≡ b
            → (is_dead p.stage ≡ false) × (p.owes_block ≡ true → p.controller.waiting ≡ [])
            → (p.controller.waiting ≡ []) ⊎ ((number : ℕ)
            → IsServedSince picks start p (Next blocks action bytes ∷ calls) a number)
        by true e x = inl (x.1 e)
        by false e x = inr (λ number. served p (Next blocks action bytes ∷ calls) a number x.0 e)

    call_fair : (p : Port K) (call : Call) (calls : List Call) (a : Answered picks start (call ∷ calls) p)
        → IsNoNext call → IsFair a.0 calls a.1 → IsFair p (call ∷ calls) a
    call_fair p call calls a none fair hears =
        let k = reads_on picks a.0 p call none a.2 hears in
        elim (fair k.hears) [
          | inl waits ↦ inl (ap (λ (h : Holdings K). h.waiting) k.controller ∙ waits)
          | inr s ↦ inr (λ number. since_call p call calls a number
              (inr ((λ takes. (polls_so picks call a.0 p number takes a.2).quiet hears), s number)))
        ]

    fair : (p : Port K) (calls : List Call) (a : Answered picks start calls p) → AsksBehindPolls picks start p calls a
        → IsFair p calls a
    fair p [] a asks = λ hears.
        absurd (subst (λ x. IsHearing x) (ap (λ (q : Port K). q.task) a ∙ made.free) hears)
    fair p (Next blocks action bytes ∷ calls) a asks =
        next_fair p blocks action bytes calls a asks.0 (fair a.0 calls a.1 asks.1)
    fair p (call ∷ calls) a asks = call_fair p call calls a tt (fair a.0 calls a.1 asks)

    asks_before : (p : Port K) (call : Call) (calls : List Call) (a : Answered picks start (call ∷ calls) p)
        → AsksBehindPolls picks start p (call ∷ calls) a → AsksBehindPolls picks start a.0 calls a.1
    asks_before p (Next blocks action bytes) calls a asks = asks.1
    asks_before p call calls a asks = asks

    pub serves_behind : (p : Port K) (calls : List Call) (a : Answered picks start calls p)
        → AsksBehindPolls picks start p calls a → ServesBetweenPolls picks start p calls a
    serves_behind p [] a asks = tt
    serves_behind p (call ∷ calls) a asks =
        grind (arith, serves_behind a.0 calls a.1 (asks_before p call calls a asks), asks_before, fair, polls_so)

    -- who always asks for blocks does so
    always_asks : (p : Port K) (calls : List Call) (a : Answered picks start calls p) → AsksForBlocks calls
        → AsksBehindPolls picks start p calls a
    always_asks p [] a asks = tt
    always_asks p (Next blocks action bytes ∷ calls) a asks = (inl asks.0, always_asks a.0 calls a.1 asks.1)
    always_asks p (call ∷ calls) a asks = always_asks a.0 calls a.1 asks

    pub serves_between : (p : Port K) (calls : List Call) → AsksForBlocks calls → (a : Answered picks start calls p)
        → ServesBetweenPolls picks start p calls a
    serves_between p calls asks a = serves_behind p calls a (always_asks p calls a asks)
