-- What a port keeps of a command was said by the message by which that command came, call by call.
use Rattle.mscp_ported.proofs.Common.{◌≡◌, ◌⊎◌, ◌∙◌, ◌<◌, ℕ, Bool, true, false, cond, not, List, [], Option, None, Some, Contains, inl, inr, refl, ap, sym, subst, length, arith, Result, Ok, Err, position, eqb-true, eq-eqb, false≢true, All-contains, filter_passes, position-Some, get_or_from_slice_get, none-some, same_Some, End, Block, Connection, First, Drive, Name, Report, Served, name_on, goes_on, outcome_at, Record, drive_at, has_name, left_of, name_of, record_at, end_given, is_begun, same_is, NotBegun, Finishes, Holdings, Buffer, Port, kept_at, is_of, Call, IsSaidBy, GoesOnWithBlock, HeedsStep, Verdict, Choice, block_told, end_brought, kept_after}
use Rattle.mscp_queue.specs.declared.report.Report.TheVariants.{Idle}
use Rattle.mscp_port.specs.Buffers.{without}
use Rattle.mscp_port.proofs.Begun.{taken_or_not}
use Rattle.mscp_port.proofs.Among.{among_left, none_among}
use Rattle.mscp_ported.proofs.Kept.{IsFor, is_numbered, served_for, weaker_for}

-- each that is kept is of a command that waits, to a unit of which this holds
abbrev pub Keeps : {K : Type 0} → (ℕ → Buffer → Type 0) → Port K → Type 0
Keeps said p = (b : Buffer) → Contains p.buffers.items b
    → IsFor (λ unit. said unit b) b.reference p.controller.waiting

-- what was said before, or is by this call
abbrev pub More : {K : Type 0} → Call → Port K → (ℕ → Buffer → Type 0) → ℕ → Buffer → Type 0
More call old said unit b = IsSaidBy b.reference unit call old b ⊎ said unit b

module _ {K : Type 0} (said : ℕ → Buffer → Type 0) where
  pub more : (call : Call) (old p : Port K) → Keeps said p → Keeps (More call old said) p
  more call old p k = λ b there.
      weaker_for (λ unit. said unit b) (λ unit. More call old said unit b) b.reference p.controller.waiting
      (λ unit s. inr s) (k b there)

  pub keeps_same : (old new : Port K) → ((b : Buffer) → Contains new.buffers.items b → Contains old.buffers.items b)
      → new.controller.waiting ≡ old.controller.waiting → Keeps said old → Keeps said new
  keeps_same old new among e k = λ b there.
      subst (λ rs. IsFor (λ unit. said unit b) b.reference rs) (sym e) (k b (among b there))

  pub keeps_none : (p : Port K) → p.buffers.items ≡ [] → Keeps said p
  keeps_none p e = λ b there. absurd (none_among p.buffers.items b e there)

-- ---- what is kept

pub of_first : (via : Connection) (n : ℕ) (b : Buffer) → is_of via n b ≡ true → (via ≡ First) × (b.reference ≡ n)
of_first via n b h3 = grind (arith, eqb-true, false≢true)

pub is_first : (via : Connection) (n : ℕ) (b : Buffer) → via ≡ First → b.reference ≡ n → is_of via n b ≡ true
is_first via n b first e = subst (λ c. is_of c n b ≡ true) (sym first) (eq-eqb b.reference n e)

pub without_among : (via : Connection) (n : ℕ) (bs : List Buffer) (b : Buffer) → Contains (without via n bs) b
    → Contains bs b × (not (is_of via n b) ≡ true)
without_among via n bs b there = (
  among_left (λ x. not (is_of via n x)) bs b there,
  All-contains (λ x. not (is_of via n x) ≡ true) (without via n bs) b (filter_passes (λ x. not (is_of via n x)) bs)
      there,
)

pub not_of : (via : Connection) (n : ℕ) (b : Buffer) → is_of via n b ≡ true → not (is_of via n b) ≡ true → ⊥
not_of via n b is other = false≢true (sym (ap not is) ∙ other)

pub kept_found : (p : Buffer → Bool) (bs : List Buffer) (b : Buffer) (o : Option ℕ) → position p bs ≡ o
    → kept_at o bs ≡ Some b → Contains bs b × (p b ≡ true)
kept_found p bs b None e h = absurd (none-some b h)
kept_found p bs b (Some i) e h = search (arith, position-Some p bs i b e, get_or_from_slice_get bs i b b h)

-- ---- an end

-- it tells the number and the unit of its command
end_tells : (k : Block) (d : Drive) (r : Record) (e : End) → end_given k d r ≡ Some e
    → (e.reference ≡ r.command.reference) × (e.unit ≡ r.command.unit)
end_tells k d r e h = by (goes_on d.online r.command.order k (left_of r)) h
  where
    own : End
    own = outcome_at d.unit d.online r.command r.good k

    by : (b : Bool) → cond b None (Some own) ≡ Some e
        → (e.reference ≡ r.command.reference) × (e.unit ≡ r.command.unit)
    by true h = absurd (none-some e h)
    by false h =
        let same = same_Some own e h in (sym (ap (λ x. x.reference) same), sym (ap (λ x. x.unit) same))

-- the command that was served is the one that was begun
pub served_name : (begun : Option Name) (name : Name) (r : Record) → is_begun name begun ≡ true
    → ((other : Name) → begun ≡ Some other → has_name other r ≡ true) → name_of r ≡ name
served_name begun name r h3 h4 = grind (arith, false≢true, same_is)

-- a step that brought an end served a command of the number and the unit that it names
pub record IsOf (via : Connection) (rs : List Record) (e : End) : Type 0 where
  pub place : ℕ
  pub inside : place < length rs
  pub connection : (record_at rs place).connection ≡ via
  pub reference : e.reference ≡ (record_at rs place).command.reference
  pub unit : e.unit ≡ (record_at rs place).command.unit

pub ended_of : {K : Type 0} (picks : List Choice → ℕ
    → Type 0) (via : Connection) (reference : ℕ) (block : Block) (old new : Holdings K)
    (result : Result Report NotBegun) (e : End) → Finishes picks (name_on via reference) block old result new
    → end_brought result ≡ Some e → IsOf via old.waiting e
ended_of picks via reference block old new result e h8 h9 = grind (arith, none-some, end_tells, served_name)

-- ---- a step

pub kept_among : (via : Connection) (o : Option End) (bs : List Buffer) (b : Buffer) → Contains (kept_after via o bs) b
    → Contains bs b
kept_among via None bs b there = there
kept_among via (Some e) bs b there = (without_among via e.reference bs b there).0

kept_not : (via : Connection) (o : Option End) (bs : List Buffer) (b : Buffer) (e : End) → o ≡ Some e
    → Contains (kept_after via o bs) b → not (is_of via e.reference b) ≡ true
kept_not via None bs b e h there = absurd (none-some e h)
kept_not via (Some x) bs b e h there = search (arith, same_Some x e h, without_among via x.reference bs b there, not)

pub none_or_some : {X : Type 0} (o : Option X) → (o ≡ None) ⊎ ((x : X) × (o ≡ Some x))
none_or_some None = inl refl
none_or_some (Some x) = inr (x, refl)

-- the command that was served still waits, or what is kept is of another one
served_stays : (via : Connection) (reference : ℕ) (bs : List Buffer) (b : Buffer) (r : Record) (k : Block) (d : Drive)
    (o : Option End) → o ≡ end_given k d r → name_of r ≡ name_on via reference → Contains (kept_after via o bs) b
    → is_numbered b.reference r ≡ true → end_given k d r ≡ None
served_stays via reference bs b r k d o told named there is = elim (none_or_some o) [
  | inl none ↦ sym told ∙ none
  | inr some ↦
      let e = some.0 in
      let tells = end_tells k d r e (sym told ∙ some.1) in
      let mine = same_is (name_of r) (name_on First b.reference) is in
      let first : via ≡ First = ap (λ (n : Name). n.connection) (sym named ∙ mine) in
      let number : b.reference ≡ e.reference = sym (tells.0 ∙ ap (λ (n : Name). n.reference) mine) in
      absurd (not_of via e.reference b (is_first via e.reference b first number)
      (kept_not via o bs b e some.1 there))
]

module _ {K : Type 0} (said : ℕ → Buffer → Type 0) where
  taken_keeps : (picks : List Choice → ℕ
      → Type 0) (via : Connection) (reference : ℕ) (verdict : Verdict) (old new : Port K)
      (result : Result Report NotBegun)
      → Finishes picks (name_on via reference) (block_told verdict) old.controller result new.controller
      → HeedsStep via verdict (end_brought result) old new → Keeps said old → Keeps said new
  taken_keeps picks via reference verdict old new (Err not_begun) f heeds k =
      keeps_same said old new (λ b there. subst (λ bs. Contains bs b) heeds.buffers there)
      (ap (λ h. h.waiting) f.1) k
  taken_keeps picks via reference verdict old new (Ok Idle) f heeds k = search (arith, keeps_same)
  taken_keeps picks via reference verdict old new (Ok
      (Served other number unit lbn started seek ended)) f heeds k = λ b there.
      let h = old.controller in
      let place = f.1.serves.0 in
      let s = f.1.serves.1 in
      let r = record_at h.waiting place in
      let d = drive_at h.drives h.waiting place in
      let left = subst (λ bs. Contains bs b) heeds.buffers there in
      subst (λ rs. IsFor (λ u. said u b) b.reference rs) (sym (ap (λ l. l.waiting) s.left))
      (served_for (λ u. said u b) b.reference (block_told verdict) d h.waiting place s.next.servable.inside
      (served_stays via reference old.buffers.items b r (block_told verdict) d ended (ap (λ x. end_brought
      (Ok x)) s.told)
      (served_name h.begun (name_on via reference) r f.0 s.next.same) left)
      (k b (kept_among via ended old.buffers.items b left)))

  pub goes_on_keeps : (picks : List Choice → ℕ → Type 0) (old new : Port K) → GoesOnWithBlock picks old new
      → Keeps said old → Keeps said new
  goes_on_keeps picks old new goes k = elim (taken_or_not picks old new goes) [
    | inl e ↦ keeps_same said old new (λ b there. subst (λ (p : Port K). Contains p.buffers.items b) e there)
        (ap (λ (p : Port K). p.controller.waiting) e) k
    | inr t ↦ taken_keeps picks t.0.connection t.0.reference t.1 old new t.2.finished.0 t.2.finished.1 t.2.finished.2 k
  ]
