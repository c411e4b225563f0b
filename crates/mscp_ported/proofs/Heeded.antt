-- What is kept of a command whose end comes was said by a message to the unit that the end names.
use Rattle.mscp_ported.proofs.Common.{◌≡◌, ◌∙◌, ℕ, List, [], ◌∷◌, Option, None, Some, Contains, IfSome, inl, inr, refl, ap, sym, subst, arith, Result, Ok, Err, position, All-get_or, End, Connection, First, name_on, name_of, no_record, record_at, is_same, Holdings, Unasked, Buffer, Hardware, Port, Task, kept_of, is_of, Dies, Hears, IsMadeOf, Answered, Becomes, Call, WriteIp, ReadIp, WriteSa, Next, PutAside, WasRead, Went, LookAgain, Tick, Protect, VolumeCame, VolumeWent, WasSaid, Ends, Says, IsReadingText, block_told, Picking}
use Rattle.mscp_port.specs.declared.task.Task.TheVariants as tasks
use Rattle.mscp_ported.proofs.Kept.{IsTo}
use Rattle.mscp_ported.proofs.Loads.{looks_or_not}
use Rattle.mscp_ported.proofs.Said.{Keeps, More, ended_of, goes_on_keeps, keeps_none, keeps_same, kept_found, more, of_first}
use Rattle.mscp_ported.proofs.Texts.{text_keeps}

-- ---- calls

pub still_waits : {K : Type 0} (old new : Port K) → Says old new → new.controller.waiting ≡ old.controller.waiting
still_waits old new says = search (arith, looks_or_not old)

module _ {K : Type 0} (said : ℕ → Buffer → Type 0) (old new : Port K) (k : Keeps said old) where
  same : new ≡ old → Keeps said new
  same e = keeps_same said old new (λ b there. subst (λ (p : Port K). Contains p.buffers.items b) e there)
      (ap (λ (p : Port K). p.controller.waiting) e) k

  dies : Dies old new → Keeps said new
  dies d = keeps_none said new d.1.buffers

  -- a frame in which neither changes
  framed : new.buffers ≡ old.buffers → new.controller ≡ old.controller → Keeps said new
  framed buffers controller =
      keeps_same said old new (λ b there. subst (λ bs. Contains bs b) (ap (λ x. x.items) buffers) there)
      (ap (λ (h : Holdings K). h.waiting) controller) k

text_heard : {K : Type 0} (said : ℕ → Buffer → Type 0) (bytes : List ℕ) (result : Result Unit Unasked)
    (old new : Port K) (t : Task) → old.task ≡ t → Hears bytes old result new → Keeps said old
    → Keeps (More (WasRead bytes result) old said) new
text_heard said bytes (Err unasked) old new t at r k =
    more said (WasRead bytes (Err unasked)) old new (same said old new k r.unasked)
text_heard said bytes (Ok done) old new (tasks.Text slot size foreign) at r k =
    text_keeps said bytes (Ok done) old new slot size foreign at r refl k
text_heard said bytes (Ok done) old new t at r k =
    let no : IsReadingText old.task → ⊥ = λ h. subst (λ x. IsReadingText x) at h in
    more said (WasRead bytes (Ok done)) old new (elim (r.nothing_else no) [
      | inl e ↦ keeps_same said old new (λ b there. elim (r.learns.buffers b there) [
        | inl before ↦ before
        | inr read ↦ absurd (no read.0)
      ]) (ap (λ (h : Holdings _). h.waiting) e) k
      | inr d ↦ dies said old new k d
    ])

pub keeps_after : {K : Type 0} (picks : Picking K) (said : ℕ → Buffer → Type 0) (call : Call) (old new : Port K)
    → Becomes picks call old new
    → Keeps said old → Keeps (More call old said) new
keeps_after picks said WriteIp old new r k = more said WriteIp old new (keeps_none said new r.buffers)
keeps_after picks said ReadIp old new r k = more said ReadIp old new (elim r.frame [
  | inl e ↦ framed said old new k (ap (λ (p : Port _). p.buffers) e) (ap (λ (p : Port _). p.controller) e)
  | inr d ↦ dies said old new k d
])
keeps_after picks said (WriteSa word) old new r k = more said (WriteSa word) old new (elim r.frame [
  | inl e ↦ framed said old new k (ap (λ (p : Port _). p.buffers) e) (ap (λ (p : Port _). p.controller) e)
  | inr d ↦ dies said old new k d
])
keeps_after picks said (Next blocks action bytes) old new r k = more said (Next blocks action bytes) old new
    (keeps_same said old new
    (λ b there. subst (λ bs. Contains bs b) (ap (λ (p : Port _). p.buffers.items) r.0.frame) there)
    (still_waits old new r.0.says) k)
keeps_after picks said PutAside old new r k = more said PutAside old new
    (framed said old new k (ap (λ (p : Port _). p.buffers) r) (ap (λ (p : Port _). p.controller) r))
keeps_after picks said (WasRead bytes result) old new r k = text_heard said bytes result old new old.task refl r k
keeps_after picks said (Went outcome result) old new r k = more said (Went outcome result) old new (elim r.commands [
  | inl e ↦ framed said old new k e.buffers e.controller
  | inr rest ↦ elim rest [ inl goes ↦ goes_on_keeps said _ old new goes.1 k | inr d ↦ dies said old new k d ]
])
keeps_after picks said LookAgain old new r k = more said LookAgain old new
    (framed said old new k (ap (λ (p : Port _). p.buffers) r) (ap (λ (p : Port _). p.controller) r))
keeps_after picks said Tick old new r k = more said Tick old new (elim r.either [
  | inl e ↦ framed said old new k (ap (λ (p : Port _). p.buffers) e) (ap (λ (p : Port _). p.controller) e)
  | inr new_is ↦ keeps_none said new new_is.buffers
])
keeps_after picks said (VolumeCame m unit (Ok done)) old new r k = more said (VolumeCame m unit (Ok done)) old new
    (framed said old new k (ap (λ (p : Port _). p.buffers) (r.came refl))
    (ap (λ (p : Port _). p.controller) (r.came refl)))
keeps_after picks said (VolumeCame m unit (Err fault)) old new r k =
    more said (VolumeCame m unit (Err fault)) old new (same said old new k r.refused)
keeps_after picks said (VolumeWent unit result) old new r k = more said (VolumeWent unit result) old new
    (framed said old new k (ap (λ (p : Port _). p.buffers) r.frame) (ap (λ (p : Port _). p.controller) r.frame))
keeps_after picks said (Protect protected unit result) old new r k = more said (Protect protected unit result) old new
    (framed said old new k (ap (λ (p : Port _). p.buffers) r.frame) (ap (λ (p : Port _). p.controller) r.frame))

-- ---- the law

pub kept_was_said : {K : Type 0} (picks : Picking K) (hardware : Hardware) (credits : ℕ) (controller : Holdings K)
    (start p : Port K)
    (calls : List Call) → IsMadeOf hardware credits controller start → (a : Answered picks start calls p)
    → Keeps (λ unit b. WasSaid picks b.reference unit start p calls a b) p
kept_was_said picks hardware credits controller start p [] made a = search (arith, keeps_none)
kept_was_said picks hardware credits controller start p (call ∷ calls) made a =
    keeps_after picks (λ unit b. WasSaid picks b.reference unit start a.0 calls a.1 b) call a.0 p a.2
    (kept_was_said picks hardware credits controller start a.0 calls made a.1)

pub keeps_what_was_said : {K : Type 0} (picks : Picking K) (hardware : Hardware) (credits : ℕ)
    (controller : Holdings K) (start p : Port K)
    (call : Call) (calls : List Call) (place : ℕ) (via : Connection) (e : End)
    → IsMadeOf hardware credits controller start → (a : Answered picks start (call ∷ calls) p)
    → Ends picks place a.0 p via e
    → IfSome (kept_of via e.reference a.0.buffers.items) (λ b. WasSaid picks e.reference e.unit start a.0 calls a.1 b)
keeps_what_was_said {K} picks hardware credits controller start p call calls place via e made a end =
    by (kept_of via e.reference a.0.buffers.items) refl
  where
    old : Port K
    old = a.0

    by : (o : Option Buffer) → kept_of via e.reference old.buffers.items ≡ o
        → IfSome o (λ b. WasSaid picks e.reference e.unit start a.0 calls a.1 b)
    by None h = tt
    by (Some b) h =
        let rs = old.controller.waiting in
        let found = kept_found (is_of via e.reference) old.buffers.items b
        (position (is_of via e.reference) old.buffers.items) refl h in
        let first = of_first via e.reference b found.1 in
        let is = kept_was_said picks hardware credits controller start a.0 calls made a.1 b found.0 in
        let step = end.step in
        let of_end = ended_of (picks old.controller.picker) via step.0
        (block_told step.1) old.controller p.controller step.2 e step.3 step.4 in
        let r = record_at rs of_end.place in
        let name : name_of r ≡ name_on First b.reference =
        ap (λ c. name_on c r.command.reference) (of_end.connection ∙ first.0)
        ∙ ap (name_on First) (sym of_end.reference ∙ sym first.1) in
        let units : WasSaid picks b.reference r.command.unit start a.0 calls a.1 b =
        All-get_or (IsTo (λ unit. WasSaid picks b.reference unit start a.0 calls a.1 b) b.reference) rs of_end.place
        no_record
        of_end.inside is.units (is_same (name_of r) (name_on First b.reference) name) in
        subst (λ n. WasSaid picks n e.unit start a.0 calls a.1 b) first.1
        (subst (λ u. WasSaid picks b.reference u start a.0 calls a.1 b) (sym of_end.unit) units)
