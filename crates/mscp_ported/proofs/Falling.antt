-- By each call of a port the figure of a command that waits falls or stays.
use Rattle.mscp_ported.proofs.Common.{AllByRecursion, Answered, AnsweredCalls, AsksAlways, AtEach, Becomes, Block, Bool, Buffer, Call, Choice, ControllersKeepThePromise, Drive, EachWaiting, End, Err, Falling, Finish, First, Hardware, Holdings, IsFinish, IsForgotten, IsLegal, IsMadeOf, IsOfBlock, IsRight, IsStepping, IsValid, KeepsPromise, List, Lowers, Made, Makes, Moment, Name, None, NotBegun, Ok, Option, Outcome, Outgoing, Picking, Plain, Port, Promise, Record, Report, Result, Settings, Shape, Some, Task, TellsStep, Trace, Volume, Went, [], answered_to, ap, append-nil, arith, begin_made, begun_task, block_begun, cond, ends_in, every_append, every_kept, every_weaker, false, false≢true, figure, figure_of, figure_of_name, figure_on, filter, find, flat_map-append, fresh, handed, history, inl, inr, is_begun, is_same, is_step, is_waiting, length, length-append, moment_last, moments_of, name, name_before, name_last, name_on, new_name, none-some, not, own_end_of, queued_name, queues, refl, same_Some, same_is, send_made, step_told, subst, sym, take_all, take_at, take_made, told_of, transfer_told, true, unless_own, upcoming_begun, waiting, waiting_more, waiting_waits, waits_below, waits_in, ℕ, ◌++◌, ◌<◌, ◌∙◌, ◌∷◌, ◌≡◌, ◌≤◌, ◌⊎◌}
use Rattle.std.specs.Prelude.{Contains}
use Rattle.mscp_drive.specs.declared.event.Event.TheVariants as events
use Rattle.mscp_controller.specs.declared.entry.Entry.TheVariants as entries
use Rattle.mscp_port.specs.declared.task.Task.TheVariants as tasks
use Rattle.mscp_ported.proofs.Made.{follows}
use Rattle.mscp_ported.proofs.Making.{made_more}
use Rattle.mscp_ported.proofs.Moving.{steps}
use Rattle.mscp_ported.proofs.Promised.{Knows, knows, pickers_kept}

-- ---- one moment more

-- what is found is as all are, and passes
pub found_of : (P : ℕ → Type 0) (f : ℕ → Bool) (xs : List ℕ) (x : ℕ) → AllByRecursion P xs → find f xs ≡ Some x
    → P x × (f x ≡ true)
found_of P f [] x all e = absurd (none-some x e)
found_of P f (y ∷ ys) x all e = grind (arith, found_of P f ys x all.1, all.0)

module _ (c : Settings) (t : Trace) (m : Moment) (right : IsRight c t m.0 m.1) (f : Falling c t m)
    (own : (x : ℕ) → Contains (waiting t) x → figure_of c t (name t x) ≡ figure c t x) (n : Name)
    (waits : 1 ≤ figure_of c t n) where
  abbrev after : Trace
  after = t ++ m ∷ []

  -- what waits under the name then has no greater figure
  abbrev IsLower : ℕ → Type 0
  IsLower y = name after y ≡ n
      → (figure c after y ≤ figure_of c t n) × (is_step m.0 ≡ true → figure c after y < figure_of c t n)

  stays_lower : (y : ℕ) → is_waiting t y ≡ true → IsLower y
  stays_lower y w named =
      let there = waits_in t y w in
      let same : figure_of c t n ≡ figure c t y =
      ap (figure_of c t) (sym named ∙ name_before t m y (waits_below t y w)) ∙ own y there in (
        subst (λ k. figure c after y ≤ k) (sym same) (f.other y there),
        λ step. subst (λ k. figure c after y < k) (sym same) (f.step step y there),
      )

  -- none that waits has the name of one that comes
  not_new : queues m.1 ≡ true → n ≡ queued_name m → ⊥
  unfolding figure_of
  not_new q e = grind (arith, found_of, queued_name, new_name, same_is)

  each_lower : AllByRecursion IsLower (waiting after)
  each_lower = subst (λ xs. AllByRecursion IsLower xs) (sym (waiting_more t m))
      (every_append IsLower (filter (λ x. not (ends_in (name t x) m.1)) (waiting t)) (cond (queues m.1)
      (length t ∷ []) [])
      (every_kept IsLower (λ x. not (ends_in (name t x) m.1)) (waiting t)
      (every_weaker (λ x. is_waiting t x ≡ true) IsLower stays_lower (waiting t) (waiting_waits t)))
      (new_lower (queues m.1) refl))
    where
      new_lower : (b : Bool) → queues m.1 ≡ b → AllByRecursion IsLower (cond b (length t ∷ []) [])
      new_lower true q = ((λ named. absurd (not_new q (sym named ∙ name_last t m))), tt)
      new_lower false q = tt

  pub lower_then : (figure_of c after n ≤ figure_of c t n)
      × (is_step m.0 ≡ true → figure_of c after n < figure_of c t n)
  unfolding figure_of
  lower_then = grind (arith, found_of, each_lower, same_is)

-- ---- what one call of a port makes is one moment at most

abbrev IsOne : List Made → Type 0
IsOne more = (history more ≡ []) ⊎ ((m : Moment) × (history more ≡ m ∷ []))

begins_none : {K : Type 0} (p : Port K) (before after : Task) → history (begin_made p before after) ≡ []
begins_none p before after = grind arith

takes_one : {K : Type 0} (p : Port K) (before after : Option Outgoing) → IsOne (take_made p before after)
takes_one p before after = grind arith

sends_one : {K : Type 0} (p : Port K) (bytes : List ℕ) (t : Task) → IsOne (send_made p bytes t)
sends_one p bytes (tasks.Text slot size foreign) = by (own_end_of p foreign bytes)
  where
    by : (o : Option End) → IsOne (unless_own o (Plain
        (events.Send First (record { items = handed p.controller.settings.units bytes }))
        (entries.Sent First (answered_to p bytes))))
    by None = inr (_, refl)
    by (Some e) = inl refl
sends_one p bytes t = inl refl

finishes_one : (o : Option Block) (b : Option Name) (more : List Made) → IsFinish o b more → IsOne more
finishes_one o b more h = grind arith

one_beside : (xs ys : List Made) → history ys ≡ [] → IsOne xs → IsOne (xs ++ ys)
one_beside xs ys none one = grind (arith, flat_map-append, append-nil)

makes_one : {K : Type 0} (call : Call) (old new : Port K) (more : List Made) → Makes call old new more → IsOne more
makes_one call old new more h = grind (arith, one_beside, begins_none, takes_one, sends_one, finishes_one)

-- a step that is told is a moment that is one
tells_step : {K : Type 0} (picks : List Choice → ℕ → Type 0) (old new : Holdings K) (o : Option Block)
    (b : Option Name) (block : Block) (name : Name) (more : List Made) → o ≡ Some block → b ≡ Some name
    → old.begun ≡ Some name → IsFinish o b more → AnsweredCalls picks old more new
    → (m : Moment) × (history more ≡ m ∷ []) × (is_step m.0 ≡ true)
tells_step picks old new None b block name more told begun is h answered = absurd (none-some block told)
tells_step picks old new (Some other) None block name more told begun is h answered = absurd (none-some name begun)
tells_step picks old new (Some other) (Some found) block name more told begun is h answered = by h.0 h.1
  where
    by : (result : Result Report NotBegun)
        → more ≡ Finish found.connection found.reference other result ∷ []
        → (m : Moment) × (history more ≡ m ∷ []) × (is_step m.0 ≡ true)
    by (Ok report) e = ((events.Step other, entries.Stepped report), ap history e, refl)
    by (Err not_begun) e =
        let a = subst (λ ms. AnsweredCalls picks old ms new) e answered in
        absurd (false≢true (sym a.1.0 ∙ ap (is_begun (name_on found.connection found.reference))
        (is ∙ ap Some (same_Some name found (sym begun))) ∙ is_same found found refl))

-- ---- the law

at_last : (t : Trace) (m : Moment) (R : Trace → Moment → Trace → Type 0) → AtEach (t ++ m ∷ []) R
    → R t m (t ++ m ∷ [])
at_last t m R each = grind (arith, length-append, take_at, moment_last, take_all)

-- where a step is in hand the controller has begun it
begun_some : (units : List Shape) (buffers : List Buffer) (volumes : List Volume) (ds : List Drive) (rs : List Record)
    (t : Task) (b : Option Name) → IsStepping t → t ≡ begun_task units buffers volumes (upcoming_begun ds rs b)
    → (name : Name) × (b ≡ Some name)
begun_some units buffers volumes ds rs t (Some name) is at = (name, refl)
begun_some units buffers volumes ds rs t None is at = absurd (subst (λ x. IsStepping x) at is)

stepping_told : {K : Type 0} (old : Port K) (outcome : Outcome) (t : Task) → IsStepping t
    → (block : Block) × (step_told old outcome t ≡ Some block)
stepping_told old outcome (tasks.Step verdict) is = (told_of verdict, refl)
stepping_told old outcome tasks.Transfer is = (transfer_told old outcome (block_begun old), refl)
stepping_told old outcome t is = absurd is

stepping_block : (t : Task) → IsStepping t → IsOfBlock t
stepping_block t is = grind arith

module _ {K : Type 0} (picks : Picking K) (c : Settings) (picker : K)
    (keeps : ControllersKeepThePromise (picks picker) picker) (valid : IsValid c) (before : List Made)
    (hardware : Hardware) (credits : ℕ) (controller : Holdings K) (start : Port K)
    (was : AnsweredCalls (picks picker) (fresh c picker) before controller)
    (made : IsMadeOf hardware credits controller start) (p : Port K) (call : Call) (calls : List Call)
    (asks : AsksAlways (call ∷ calls)) (a : Answered picks start (call ∷ calls) p) (number : ℕ) where
  abbrev n : Name
  n = name_on First number

  k : Knows picks c picker before start a.0 calls a.1
  k = knows picks c picker keeps valid before hardware credits controller start was made a.0 calls a.1

  abbrev t : Trace
  t = history k.made

  kept : KeepsPromise (picks picker) c k.made a.0.controller
  kept = keeps c k.made a.0.controller valid k.answered

  shown : {h : Holdings K} → (ms : List Made) → KeepsPromise (picks picker) c ms h
      → figure_of_name h.settings.budget h.waiting n ≡ figure_of c (history ms) n
  shown {h} ms q = ap (λ (s : Settings). figure_of_name s.budget h.waiting n) q.settings ∙ q.figure n

  own : (x : ℕ) → Contains (waiting t) x → figure_of c t (name t x) ≡ figure c t x
  own = subst (λ z. (x : ℕ) → Contains (waiting z) x → figure_of c z (name z x) ≡ figure c z x)
      (take_all (length t) t (search arith)) (kept.promise.own (length t) (search arith))

  -- all was forgotten
  forgotten : IsForgotten a.0 p → figure_on p number ≡ 0
  forgotten f = ap (λ (h : Holdings K). figure_of_name h.settings.budget h.waiting n) f.1.controller

  module _ (more : List Made) (makes : Makes call a.0 p more)
      (answered : AnsweredCalls (picks a.0.controller.picker) a.0.controller more p.controller) where
    same_picker : a.0.controller.picker ≡ picker
    same_picker = pickers_kept (picks picker) (fresh c picker) k.made a.0.controller k.answered

    now : KeepsPromise (picks picker) c (k.made ++ more) p.controller
    now = keeps c (k.made ++ more) p.controller valid
        (made_more (picks picker) (fresh c picker) k.made more a.0.controller p.controller k.answered
        (subst (λ x. AnsweredCalls (picks x) a.0.controller more p.controller) same_picker answered))

    whole : history (k.made ++ more) ≡ t ++ history more
    whole = flat_map-append moments_of k.made more

    moves : (m : Moment) → history more ≡ m ∷ [] → 1 ≤ figure_on a.0 number
        → (figure_on p number ≤ figure_on a.0 number) × (is_step m.0 ≡ true → figure_on p number < figure_on a.0 number)
    moves m e low =
        let all : history (k.made ++ more) ≡ t ++ m ∷ [] = whole ∙ ap (λ ms. t ++ ms) e in
        let promise = subst (λ x. Promise c x) all now.promise in
        let right = at_last t m (λ b x after. IsRight c b x.0 x.1) (subst (λ x. IsLegal c x) all now.legal) in
        let f : Falling c t m = record {
          step = λ is x there. at_last t m (λ b x after. is_step x.0 ≡ true → EachWaiting b
              (λ y. figure c after y < figure c b y)) promise.falls is x there;
          other = at_last t m (λ b x after. EachWaiting b (λ y. figure c after y ≤ figure c b y)) promise.never_rises;
        } in
        let old = shown k.made kept in
        let new = shown (k.made ++ more) now ∙ ap (λ x. figure_of c x n) all in
        let r = lower_then c t m right f own n (subst (λ y. 1 ≤ y) old low) in (
          subst (λ x. x ≤ figure_on a.0 number) (sym new) (subst (λ y. figure_of c (t ++ m ∷ []) n ≤ y) (sym old) r.0),
          λ is. subst (λ x. x < figure_on a.0 number) (sym new)
              (subst (λ y. figure_of c (t ++ m ∷ []) n < y) (sym old) (r.1 is)),
        )

    rises_not : 1 ≤ figure_on a.0 number → figure_on p number ≤ figure_on a.0 number
    rises_not low = elim (makes_one call a.0 p more makes) [
      | inl e ↦ subst (λ x. x ≤ figure_on a.0 number) (shown k.made kept
          ∙ ap (λ x. figure_of c x n) (sym (whole ∙ ap (λ ms. t ++ ms) e ∙ append-nil t))
          ∙ sym (shown (k.made ++ more) now)) (search arith)
      | inr m ↦ (moves m.0 m.1 low).0
    ]

    falls_so : 1 ≤ figure_on a.0 number → TellsStep call a.0 → figure_on p number < figure_on a.0 number
    falls_so low told = by call asks makes a.2 told
      where
        by : (x : Call) → AsksAlways (x ∷ calls) → Makes x a.0 p more → Becomes picks x a.0 p → TellsStep x a.0
            → figure_on p number < figure_on a.0 number
        by (Went outcome (Ok done)) asks makes b is =
            let s = steps picks hardware credits controller start made a.0 calls asks.1 a.1 in
            let g = begun_some a.0.controller.settings.units a.0.buffers.items a.0.volumes a.0.controller.drives
            a.0.controller.waiting a.0.task a.0.controller.begun is (s.begun (stepping_block a.0.task is)) in
            let o = stepping_told a.0 outcome a.0.task is in
            let m = tells_step (picks a.0.controller.picker) a.0.controller p.controller
            (step_told a.0 outcome a.0.task) a.0.controller.begun o.0 g.0 more o.1 g.1 g.1 makes answered in
            (moves m.0 m.1 low).1 m.2
        by x asks makes b is = absurd is

  pub lowers : Lowers call a.0 p number
  lowers = elim (follows picks call a.0 p a.2) [
    | inl f ↦ record {
      never_rises = λ low. subst (λ x. x ≤ figure_on a.0 number) (sym (forgotten f)) (search arith);
      falls = λ low told. subst (λ x. x < figure_on a.0 number) (sym (forgotten f)) low;
    }
    | inr m ↦ record {
      never_rises = rises_not m.0 m.1 m.2;
      falls = falls_so m.0 m.1 m.2;
    }
  ]
