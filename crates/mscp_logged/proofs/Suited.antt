-- An end of the controller's as it goes out keeps the rules of statuses and of bytes, and tells no other identifier of
-- the controller than its own.
use Rattle.mscp_logged.proofs.Common.{Answer, BodyReads, Bool, Decided, End, EndBody, First, Hardware, IsBodyFit, IsCodeFor, IsMade, IsSaid, IsToldSo, Leaving, List, None, Option, Port, Record, Settings, Shape, Some, Verdict, Volume, answer_by, ap, arith, block_told, code_of, command_of, cond, controller_in, count_of, end_with_body, ends_formality, eqb-true, false, formal_status, handed, has_code, has_count, has_status, head, inl, inr, is_formality, is_plain, keeps, kind_of_body, left_with, length, little_bytes, nat_eq, nat_le, nat_lt, not, num, points_into, refl, sent_by, slice_index, status_after, status_code, status_told, subst, sym, true, two, unit_found, ℕ, ◌%◌, ◌&&◌, ◌+◌, ◌<◌, ◌^◌, ◌||◌, ◌∙◌, ◌≡◌, ◌≤◌, ◌⊎◌, port_answers, false≢true}
use Rattle.mscp_packet.specs.declared.end.BodyKind.TheVariants as kinds
use Rattle.mscp_packet.specs.declared.end.EndBody.TheVariants as bodies
use Rattle.mscp_drive.specs.declared.block.Block.TheVariants as blocks
use Rattle.mscp_port.specs.declared.verdict.Verdict.TheVariants as verdicts
use Rattle.mscp_shown.proofs.Suited.{Keeps}
use Rattle.mscp_logged.proofs.Bytes.{handed_long, handed_says, of_unit, stood_code}
use Rattle.mscp_logged.proofs.Faults.{IsToldOf}
use Rattle.mscp_logged.proofs.Made.{answer_controls, answer_kept, given_is, made_code, made_formal, made_kept, of_code}
use Rattle.mscp_ported.proofs.Rows.{formal_opcode, unknown_plain}

-- the identifier that a controller is set to, as it is told
abbrev pub identifier : Settings → ℕ
identifier c = num (little_bytes 8 c.id) 0 8

-- it is told, or none is
abbrev pub IsKnown : Settings → Option ℕ → Type 0
IsKnown c told = (told ≡ None) ⊎ (told ≡ Some (identifier c))

-- it has a status that its command may have, and counts the bytes that were moved
pub record IsSuited (text message : List ℕ) : Type 0 where
  pub status : has_status (sent_by First message) (answer_by First text) ≡ true
  pub count : has_count (answer_by First text) (count_of (sent_by First message) (answer_by First text)) ≡ true

-- ---- a formality's

module _ (t : List ℕ) (long : 12 ≤ length t) (reference unit : ℕ) where
  abbrev text_of : ℕ → ℕ → List ℕ
  text_of opcode status = head reference unit (opcode + 0x80) status

  abbrev HasStatus : ℕ → ℕ → Type 0
  HasStatus status opcode =
      has_status (record (sent_by First t) { opcode = opcode }) (answer_by First (text_of opcode status)) ≡ true

  abbrev HasCount : ℕ → ℕ → Type 0
  HasCount status opcode = has_count (answer_by First (text_of opcode status))
      (count_of (record (sent_by First t) { opcode = opcode }) (answer_by First (text_of opcode status))) ≡ true

  enough : nat_lt (length t) 12 ≡ false
  enough = search (arith, long)

  -- where this is whether it is shorter than its opcode asks
  abbrev status_if : ℕ → ℕ → Bool → Bool
  status_if status opcode short =
      let y = record (sent_by First t) { opcode = opcode } in
      let e = answer_by First (text_of opcode status) in
      has_code y e && (not short || not (nat_eq (status_code e) 0)) && is_plain y e && points_into y e

  good_status : (opcode : ℕ) → is_formality opcode ≡ true → HasStatus 0 opcode
  good_status opcode e = formal_opcode (HasStatus 0) (ap (status_if 0 11) enough) (ap (status_if 0 17) enough)
      (ap (status_if 0 19) enough) opcode e

  aborted_status : (opcode : ℕ) → is_formality opcode ≡ true → HasStatus 2 opcode
  aborted_status opcode e = formal_opcode (HasStatus 2) (ap (status_if 2 11) enough) (ap (status_if 2 17) enough)
      (ap (status_if 2 19) enough) opcode e

  pub formal_suited : (code status : ℕ) → is_formality (slice_index t 8) ≡ true → code ≡ slice_index t 8 + 0x80
      → (status ≡ 0) ⊎ (status ≡ 2) → IsSuited (head reference unit code status) t
  formal_suited code status formal is either = subst (λ n. IsSuited (head reference unit n status) t) (sym is)
      (elim either [
        | inl e ↦ subst (λ n. IsSuited (head reference unit (slice_index t 8 + 0x80) n) t) (sym e) (record {
          status = good_status (slice_index t 8) formal;
          count = formal_opcode (HasCount 0) refl refl refl (slice_index t 8) formal;
        })
        | inr e ↦ subst (λ n. IsSuited (head reference unit (slice_index t 8 + 0x80) n) t) (sym e) (record {
          status = aborted_status (slice_index t 8) formal;
          count = formal_opcode (HasCount 2) refl refl refl (slice_index t 8) formal;
        })
      ])

-- ---- the bytes of another

body_status : (body : EndBody) (e : End) (d : Decided) (o : Option Shape) (h : Hardware) → d.status < 2 ^ 16
    → num (end_with_body body e d o h) 10 2 ≡ d.status
body_status body e d o h small = grind (arith, two d.status small)

body_reads : (body : EndBody) (e : End) (d : Decided) (o : Option Shape) (h : Hardware) → e.body ≡ body
    → IsBodyFit body → BodyReads body (answer_by First (end_with_body body e d o h))
body_reads body e d o h same fit = grind arith

-- ---- codes

formality_of : (n : ℕ) → ends_formality (n + 0x80) ≡ true → is_formality n ≡ true
formality_of n e = grind (arith, e)

no_formality : (n : ℕ) → is_formality n ≡ true → n + 0x80 ≡ 0x90 → ⊥
unfolding port_answers
no_formality n e h = grind (arith, e, h)

-- ---- statuses

pub low_bits : (x : ℕ) → num (little_bytes 2 x) 0 2 % 32 ≡ x % 32
low_bits x = grind arith

pub body_bits : (body : EndBody) (e : End) (d : Decided) (o : Option Shape) (h : Hardware)
    → num (end_with_body body e d o h) 10 2 ≡ num (little_bytes 2 d.status) 0 2
body_bits body e d o h = grind arith

-- an end is told that its command was aborted just if the controller made it so
told_two : (verdict : Verdict) (code status : ℕ) (v : Volume) → status_told verdict code status v % 32 ≡ 2
    → status % 32 ≡ 2
told_two verdict code status v h = by (ends_formality code) h
  where
    formal : (b : Bool) → nat_eq status 2 ≡ b → cond b 2 0 % 32 ≡ 2 → status % 32 ≡ 2
    formal b is e = grind arith

    by : (b : Bool) → cond b (formal_status status) (status_after verdict code status v) % 32 ≡ 2 → status % 32 ≡ 2
    by b e = grind arith

module _ {K : Type 0} (c : Settings) (Told : Verdict → Record → Type 0) (old : Port K) (aw : List (List ℕ))
    (text t : List ℕ) (s : IsSaid c Told old aw text t) where
  abbrev e : End
  e = s.end

  abbrev d : Decided
  d = s.decided

  abbrev l : Leaving
  l = left_with e d

  abbrev o : Option Shape
  o = unit_found old.controller.settings.units e.unit

  text_is : (b : Bool) → ends_formality d.code ≡ b
      → cond b (head e.reference e.unit d.code d.status) (end_with_body e.body e d o old.hardware) ≡ text
  text_is b is = grind arith

  code_for : (b : Bool) → ends_formality d.code ≡ b → IsCodeFor (cond b d.code e.code) t
  code_for b is = subst (λ x. IsCodeFor (cond x d.code e.code) t) is s.fits.code

  -- the end of a formality
  formal_code : ends_formality d.code ≡ true → d.code ≡ slice_index t 8 + 0x80
  formal_code is = by (code_for true is)
    where
      by : IsCodeFor d.code t → d.code ≡ slice_index t 8 + 0x80
      by (inl x) = absurd (false≢true (sym unknown_plain ∙ sym (ap ends_formality x.0) ∙ is))
      by (inr x) = x

  formal_so : ends_formality d.code ≡ true → IsSuited text t
  formal_so is = rw (← text_is true is) (formal_suited t (made_code c Told l t s.fits.made).message.long e.reference
      e.unit d.code d.status (formality_of (slice_index t 8) (rw (← formal_code is) is)) (formal_code is)
      (made_formal c Told l t s.fits.made is))

  -- any other is that of no formality
  plain : ends_formality d.code ≡ false → is_formality (slice_index t 8) ≡ false
  plain is = by (is_formality (slice_index t 8)) refl
    where
      stood : is_formality (slice_index t 8) ≡ true → e.code ≡ 0x90
      stood formal =
          let m = made_code c Told l t s.fits.made in m.is ∙ stood_code m.units t m.message.long formal

      never : is_formality (slice_index t 8) ≡ true → IsCodeFor e.code t → ⊥
      never formal x = grind (arith, stood, no_formality)

      by : (b : Bool) → is_formality (slice_index t 8) ≡ b → b ≡ false
      by b h = grind (arith, never, code_for)

  -- ---- what it tells of the controller

  tells_none : ends_formality d.code ≡ true → slice_index text 8 ≡ 0x84 → ⊥
  unfolding port_answers
  tells_none is code = grind arith

  tells_own : ends_formality d.code ≡ false → e.code ≡ 0x84 → num text 10 2 % 32 ≡ 0
      → num text 20 8 ≡ identifier c
  tells_own is code good = by e.body refl
    where
      answered : (timeout id : ℕ) → e.body ≡ bodies.Controller timeout id → id ≡ c.id
      answered timeout id body = from s.fits.made
        where
          from : IsMade c Told l t → id ≡ c.id
          from (inl x) =
              let kept = answer_kept c l t (plain is) is (s.fits.same is) x in
              answer_controls c l t (plain is) is (s.fits.same is) x timeout id body s.shaped
              (ap (λ n. n % 32) (sym (body_status e.body e d o old.hardware kept.apt.small)
              ∙ ap (λ x. num x 10 2) (text_is false is)) ∙ good)
          from (inr (inl x)) = grind arith
          from (inr (inr x)) = absurd (of_code x.own t x.of
              (ap (λ (y : End). y.code) (given_is (block_told x.verdict) x.drive x.own e x.end).end ∙ code))

      other : (body : EndBody) → e.body ≡ body → (kind_of_body body ≡ kinds.Controller → ⊥) → num text 20 8
          ≡ identifier c
      other body same never = grind arith

      by : (body : EndBody) → e.body ≡ body → num text 20 8 ≡ identifier c
      by (bodies.Controller timeout id) same = grind (arith, text_is, answered)
      by body same = other body same (λ k. search (arith, k))

  pub tells_known : IsKnown c (controller_in text)
  tells_known = by (nat_eq (slice_index text 8) 0x84) refl (nat_eq (num text 10 2 % 32) 0) refl
      (nat_le 28 (length text)) refl
    where
      in_it : (x y z : Bool) → nat_eq (slice_index text 8) 0x84 ≡ x → nat_eq (num text 10 2 % 32) 0 ≡ y
          → nat_le 28 (length text) ≡ z → controller_in text ≡ cond (x && y && z) (Some (num text 20 8)) None
      in_it x y z h k m = grind arith

      formal : (b : Bool) → ends_formality d.code ≡ b → slice_index text 8 ≡ 0x84 → num text 10 2 % 32 ≡ 0
          → num text 20 8 ≡ identifier c
      formal true is code good = absurd (tells_none is code)
      formal false is code good = grind (arith, tells_own, code_of, text_is)

      by : (x : Bool) → nat_eq (slice_index text 8) 0x84 ≡ x → (y : Bool) → nat_eq (num text 10 2 % 32) 0 ≡ y
          → (z : Bool) → nat_le 28 (length text) ≡ z → IsKnown c (controller_in text)
      by true h true k true m = inr (in_it true true true h k m ∙ ap Some (formal (ends_formality d.code) refl
          (eqb-true (slice_index text 8) 0x84 h) (eqb-true (num text 10 2 % 32) 0 k)))
      by x h y k z m = grind arith

  -- ---- whether it says that its command was aborted

  pub status_bits : d.status % 32 ≡ num text 10 2 % 32
  status_bits = by (ends_formality d.code) refl
    where
      by : (b : Bool) → ends_formality d.code ≡ b → d.status % 32 ≡ num text 10 2 % 32
      by true is = sym (low_bits d.status) ∙ ap (λ x. num x 10 2 % 32) (text_is true is)
      by false is = grind (arith, low_bits, body_bits, text_is)

  pub says_aborted : num text 10 2 % 32 ≡ 2 → e.status % 32 ≡ 2
  says_aborted h = by s.fits.made
    where
      so : (verdict : Verdict) → IsToldSo verdict l → e.status % 32 ≡ 2
      so verdict x = told_two verdict d.code e.status x.0 (ap (λ n. n % 32) (sym x.1) ∙ status_bits ∙ h)

      by : IsMade c Told l t → e.status % 32 ≡ 2
      by (inl x) = so (verdicts.Served blocks.Good) x.told
      by (inr (inl x)) = so (verdicts.Served blocks.Good) x.told
      by (inr (inr x)) = so x.verdict x.told

-- ---- its status, and the bytes that it counts

module _ {K : Type 0} (c : Settings) (old : Port K) (aw : List (List ℕ)) (text t : List ℕ)
    (s : IsSaid c IsToldOf old aw text t) where
  abbrev answer : Answer
  answer = answer_by First text

  plain_keeps : ends_formality s.decided.code ≡ false → Keeps (of_unit t answer.unit) answer
  plain_keeps is =
      let none = plain c IsToldOf old aw text t s is in
      let k = made_kept c (left_with s.end s.decided) t none is (s.fits.same is) s.fits.made in
      let o = unit_found old.controller.settings.units s.end.unit in
      let same = text_is c IsToldOf old aw text t s false is in
      keeps (of_unit t answer.unit) answer (command_of (handed k.units t)).order s.decided.status s.end.body
      (handed_says k.units t k.message none answer.unit) (handed_long k.units t k.message none answer.unit)
      k.apt.suits k.apt.fine refl
      (ap (λ x. slice_index x 8) (sym same) ∙ code_of s.end.body s.end s.decided o old.hardware ∙ k.code)
      (ap (λ x. num x 10 2) (sym same) ∙ body_status s.end.body s.end s.decided o old.hardware k.apt.small)
      (subst (λ x. BodyReads s.end.body (answer_by First x)) same
      (body_reads s.end.body s.end s.decided o old.hardware refl k.fit))

  pub said_suited : IsSuited text t
  said_suited = by (ends_formality s.decided.code) refl
    where
      by : (b : Bool) → ends_formality s.decided.code ≡ b → IsSuited text t
      by true is = formal_so c IsToldOf old aw text t s is
      by false is = let k = plain_keeps is in record { status = k.status; count = k.count }
