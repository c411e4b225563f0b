-- An end that a step gives tells of its unit what is so, of the volume that is there then.
use Rattle.mscp_logged.proofs.Common.{Answer, Bool, Buffer, Decided, End, First, Hardware, List, Option, Order, Shape, Some, Verdict, Volume, answer_by, ap, arith, block_told, brings, code_told, cond, decided_code, decided_status, describes, end_decided, end_with_body, endcode, ends_formality, false, formal_status, found_decided, inl, inr, is_immediate, is_some, is_success, moved_by, nat_eq, online_body, outcome_body, outcome_status, refl, status_after, status_told, subst, sym, told_same, true, unit_found, ℕ, ◌%◌, ◌/◌, ◌==◌, ◌∙◌, ◌≡◌, ◌≢◌, ◌⊎◌, port_answers}
use Rattle.mscp_packet.specs.declared.command.Order.TheVariants as orders
use Rattle.mscp_packet.specs.declared.end.EndBody.TheVariants as bodies
use Rattle.mscp_logged.proofs.Describing.{IsAsWas, IsIdentityOf, IsSame, Tells, identity_of}
use Rattle.mscp_logged.proofs.Sure.{IsSure}
use Rattle.mscp_logged.proofs.Texts.{text_with}
use Rattle.mscp_logged.proofs.Worded.{Reads, brings_is, describes_so, tells_so, text_reads}

-- ---- what is decided

-- by a step that went so, or a message: its status by the volume before, type and size by that which is there now
pub record IsDecided (units : List Shape) (verdict : Verdict) (v w : Volume) (e : End) (d : Decided) : Type 0 where
  pub status : ends_formality d.code ≡ false → d.status ≡ status_after verdict e.code e.status v
  pub media : (unit : Shape) → unit_found units e.unit ≡ Some unit → (e.code == 0x84) ≡ false
      → d.media ≡ cond w.is_there w.media unit.media
  pub size : (unit : Shape) → unit_found units e.unit ≡ Some unit → (e.code == 0x84) ≡ false
      → d.size ≡ cond w.is_there w.size unit.size

pub decided_so : (units : List Shape) (verdict : Verdict) (v w : Volume) (e : End) (kept : Option Buffer) (flags : ℕ)
    → IsDecided units verdict v w e (end_decided (code_told kept e.code)
    (status_told verdict (code_told kept e.code) e.status v) e units flags w)
decided_so units verdict v w e kept flags = record {
  status = λ plain.
      let informal = sym (ap ends_formality (decided_code code status e units flags w)) ∙ plain in
      decided_status code status e units flags w
      ∙ ap (λ b. cond b (formal_status e.status) (status_after verdict code e.status v)) informal
      ∙ ap (λ n. status_after verdict n e.status v) (told_same kept e.code informal);
  media = λ unit found other. ap (λ (d : Decided). d.media) (unit_is unit found other);
  size = λ unit found other. ap (λ (d : Decided). d.size) (unit_is unit found other);
}
  where
    code : ℕ
    code = code_told kept e.code

    status : ℕ
    status = status_told verdict (code_told kept e.code) e.status v

    unit_is : (unit : Shape) → unit_found units e.unit ≡ Some unit → (e.code == 0x84) ≡ false
        → end_decided (code_told kept e.code) (status_told verdict (code_told kept e.code) e.status v) e units flags w
        ≡ found_decided (code_told kept e.code) (status_told verdict (code_told kept e.code) e.status v) (Some unit) w
    unit_is unit found other = grind arith

-- ---- statuses

-- an ONLINE is told that its unit was online if that is so, and succeeds just if the controller gave it so
pub record IsOnlineTold (v : Volume) (given told : ℕ) : Type 0 where
  pub back : given % 32 ≡ 0 → told % 32 ≡ 0
  pub was : told % 32 ≡ 0 → told / 256 % 2 ≡ 1 → v.is_mounted ≡ true

pub online_told : (v : Volume) (verdict : Verdict) (online : Bool) → IsSure false v verdict
    → IsOnlineTold v (outcome_status online orders.Online (block_told verdict))
    (status_after verdict 0x89 (outcome_status online orders.Online (block_told verdict)) v)
online_told v verdict online sure = grind arith

-- ---- ends

online_shaped : (shape : Shape) (status : ℕ)
    → (x : ℕ) × (y : ℕ) × (z : ℕ) × (w : ℕ) × (online_body shape status ≡ bodies.Online x y z w)
online_shaped shape status = by (is_success status)
  where
    by : (b : Bool) → (x : ℕ) × (y : ℕ) × (z : ℕ) × (w : ℕ)
        × (cond b (bodies.Online shape.id shape.media shape.size shape.serial) (bodies.Online 0 0 0 0)
        ≡ bodies.Online x y z w)
    by true = (shape.id, shape.media, shape.size, shape.serial, refl)
    by false = (0, 0, 0, 0, refl)

-- codes of ends that tell what their unit is
abbrev pub IsTelling : ℕ → Type 0
IsTelling code = (code ≡ 0x83) ⊎ (code ≡ 0x89) ⊎ (code ≡ 0x8A)

pub formal_telling : (code : ℕ) → ends_formality code ≡ true → IsTelling code → ⊥
unfolding port_answers
formal_telling code e x = grind arith

-- what a step gives
pub record IsGivenEnd (order : Order) (online : Bool) (verdict : Verdict) (e : End) : Type 0 where
  pub waits : is_immediate order ≡ false
  pub valid : (byte why : ℕ) → order ≢ orders.Invalid byte why
  pub code : e.code ≡ endcode order
  pub status : e.status ≡ outcome_status online order (block_told verdict)
  pub body : (shape : Shape) × (n : ℕ)
      × (e.body ≡ outcome_body shape (outcome_status online order (block_told verdict)) order n)

module _ (h : Hardware) (units : List Shape) (verdict : Verdict) (online : Bool) (v w : Volume) (e : End)
    (d : Decided) (unit : Shape) (found : unit_found units e.unit ≡ Some unit)
    (decided : IsDecided units verdict v w e d) (same : IsSame v w)
    (formal : ends_formality d.code ≡ true → e.code ≡ 0x90)
    (mounted : w.is_mounted ≡ true → (v.is_mounted ≡ true) ⊎ ((e.code ≡ 0x89) × (e.status % 32 ≡ 0))) where
  abbrev text : List ℕ
  text = text_with h units e d

  abbrev a : Answer
  a = answer_by First (text_with h units e d)

  abbrev So : Type 0
  So = Tells (unit_found units e.unit) v w a

  stays : ((e.code ≡ 0x89) → (e.status % 32 ≡ 0) → brings a ≡ true) → brings a ≡ false → IsAsWas v w
  stays back none is = grind arith

  -- it doesn't tell what its unit is
  silent : (IsTelling a.code → ⊥) → (e.code ≡ 0x89 → ⊥) → So
  silent never other = record {
    described = λ is. absurd (never (describes_so a is).code);
    told = λ is unsure. absurd (never (by (tells_so a is unsure).1));
    stays = stays (λ code good. absurd (other code));
  }
    where
      by : (a.code ≡ 0x83) ⊎ ((a.code ≡ 0x89) × (a.status / 256 % 2 ≡ 1)) → IsTelling a.code
      by x = grind arith

  formal_so : ends_formality d.code ≡ true → Reads a d.code d.status → So
  formal_so is reads = silent (λ t. formal_telling d.code is (subst (λ c. IsTelling c) reads.code t))
      (λ code. search (arith, sym code ∙ formal is))

  module _ (plain : ends_formality d.code ≡ false) (reads : Reads a e.code d.status)
      (worded : text ≡ end_with_body e.body e d (unit_found units e.unit) h) where
    -- what it tells is its volume
    identity : (x y z t : ℕ) → e.body ≡ bodies.Online x y z t → nat_eq e.code 0x83 ≡ false → (e.code == 0x84) ≡ false
        → d.status % 32 ≡ 0 → a.identity ≡ Some (identity_of unit w)
    identity x y z t body code other good = grind arith

    described : (order : Order) (code : ℕ) → e.code ≡ code → nat_eq code 0x83 ≡ false → (code == 0x84) ≡ false
        → ((x : ℕ) × (y : ℕ) × (z : ℕ) × (t : ℕ) × (e.body ≡ bodies.Online x y z t)) → describes a ≡ true
        → IsIdentityOf (unit_found units e.unit) w a.identity
    described order code is other apart body tells = grind arith

    online_so : IsSure false v verdict → IsGivenEnd orders.Online online verdict e → So
    online_so sure given = record {
      described = described orders.Online 0x89 given.code refl refl
          (let b = online_shaped given.body.0 (outcome_status online orders.Online (block_told verdict)) in
          (b.0, b.1, b.2, b.3, given.body.2 ∙ b.4));
      told = λ is unsure. by (tells_so a is unsure).0 (tells_so a is unsure).1;
      stays = stays (λ code good. brings_is a (reads.code ∙ given.code)
          (reads.low ∙ ap (λ n. n % 32) status ∙ told_so.back (ap (λ n. n % 32) (sym given.status) ∙ good)));
    }
      where
        told_so : IsOnlineTold v (outcome_status online orders.Online (block_told verdict))
            (status_after verdict 0x89 (outcome_status online orders.Online (block_told verdict)) v)
        told_so = online_told v verdict online sure

        status : d.status
            ≡ status_after verdict 0x89 (outcome_status online orders.Online (block_told verdict)) v
        status = grind arith

        by : a.status % 32 ≡ 0 → (a.code ≡ 0x83) ⊎ ((a.code ≡ 0x89) × (a.status / 256 % 2 ≡ 1))
            → (v.is_mounted ≡ true) × IsSame v w
        by good x = grind (arith, told_so, status)

    set_so : (given : IsGivenEnd orders.SetUnit online verdict e) → So
    set_so given = grind arith

    other_so : (order : Order) (code : ℕ) → IsGivenEnd order online verdict e → endcode order ≡ code
        → (IsTelling code → ⊥) → So
    other_so order code given is never = silent (λ t. never (subst (λ c. IsTelling c) (reads.code ∙ given.code ∙ is) t))
        (λ c. never (inr (inl (sym (given.code ∙ is) ∙ c))))

    plain_so : (order : Order) (lbn : Option ℕ) → IsSure (is_some (moved_by order lbn)) v verdict
        → IsGivenEnd order online verdict e → So
    plain_so orders.Online lbn sure given = online_so sure given
    plain_so orders.SetUnit lbn sure given = set_so given
    plain_so (orders.Invalid byte why) lbn sure given = absurd (given.valid byte why refl)
    plain_so order lbn sure given = other_so order (endcode order) given refl (λ t. grind (arith, t, given.waits))

  pub step_tells : (order : Order) (lbn : Option ℕ) → IsSure (is_some (moved_by order lbn)) v verdict
      → IsGivenEnd order online verdict e → So
  step_tells order lbn sure given = grind (arith, text_reads, formal_so, plain_so)

-- no such end has the code of a formality's
pub given_plain : (order : Order) (online : Bool) (verdict : Verdict) (e : End) → IsGivenEnd order online verdict e
    → ends_formality e.code ≡ true → ⊥
unfolding port_answers
given_plain order online verdict e given is = grind arith
