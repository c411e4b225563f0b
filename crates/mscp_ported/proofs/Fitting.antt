-- Each end that waits fits the message whose end it is.
use Rattle.mscp_ported.proofs.Common.{AllByRecursion, Block, Bool, Buffer, Decided, Drive, End, First, IsCodeFor, Leaving, List, None, Order, Port, Record, Settings, Shape, Some, Verdict, Volume, [], aborted_record, ap, arith, code_told, cond, end_decided, end_given, endcode, ends_formality, eq-eqb, eqb-true, false, filter, find, find_cases, find_first, find_none, has_number, inl, inr, is_formality, is_of, kept_at, kept_of, length, moved_body, nat_eq, not, num, outcome_body, position_first, position_none, refl, refused_body, slice_get, status_told, subst, sym, true, volume_found, ℕ, ◌++◌, ◌+◌, ◌<◌, ◌^◌, ◌∙◌, ◌∷◌, ◌≡◌, ◌≤◌, port_answers}
use Rattle.std.specs.Prelude.{position}
use Rattle.mscp_packet.specs.declared.command.Order.TheVariants as orders
use Rattle.mscp_packet.specs.declared.end.EndBody.TheVariants as bodies
use Rattle.mscp_port.specs.declared.verdict.Verdict.TheVariants as verdicts
use Rattle.mscp_drive.specs.declared.block.Block.TheVariants as blocks
use Rattle.mscp_port.proofs.Common.{none-some, same_Some}
use Rattle.mscp_ported.proofs.Units.{IsUnitIn}
use Rattle.mscp_ported.proofs.Codes.{IsAboutCode, about_in}
use Rattle.mscp_ported.proofs.Buffered.{FitsBuffer}
use Rattle.mscp_ported.proofs.Ending.{left_with, zipped}
use Rattle.mscp_ported.proofs.Numbered.{ends_numbered, none_beside, none_of_it, other_number, some_none}
use Rattle.mscp_ported.proofs.Origins.{IsMade, IsToldSo, formal_code, told_same}
use Rattle.mscp_ported.proofs.Sole.{found_sole, sole_left}
use Rattle.mscp_ported.proofs.Tables.{answer_by, decided_by}

-- ---- what is said of an end

-- an end, with what was decided of it, fits this message
pub record FitsEnd (c : Settings) (Told : Verdict → Record → Type 0) (l : Leaving) (t : List ℕ) : Type 0 where
  pub unit : IsUnitIn l.end.unit t
  pub code : IsCodeFor (cond (ends_formality l.fields.code) l.fields.code l.end.code) t
  pub about : 16 ≤ length t → (other : ℕ) → about_in l.end.body ≡ Some other
      → (other ≡ num t 12 4) × (other < 2 ^ 32) × (l.fields.status ≡ 0)
  -- a poll's end leaves with its own code, and its figure fits its bytes
  pub polled : (other figure : ℕ) → l.end.body ≡ bodies.Status other figure
      → (l.fields.code ≡ l.end.code) × (figure < 2 ^ 32)
  pub same : ends_formality l.fields.code ≡ false → l.fields.code ≡ l.end.code
  pub made : IsMade c Told l t

-- and so it does the awaited message of its number
abbrev pub FitsIn : Settings → (Verdict → Record → Type 0) → List (List ℕ) → Leaving → Type 0
FitsIn c Told aw l = (t : List ℕ) → filter (has_number l.end.reference) aw ≡ t ∷ [] → FitsEnd c Told l t

-- ---- codes

decided_both : (code status : ℕ) (e : End) (units : List Shape) (flags : ℕ) (v : Volume)
    → ((end_decided code status e units flags v).code ≡ code)
    × ((end_decided code status e units flags v).status ≡ status)
decided_both code status e units flags v = grind arith

pub decided_code : (code status : ℕ) (e : End) (units : List Shape) (flags : ℕ) (v : Volume)
    → (end_decided code status e units flags v).code ≡ code
decided_code code status e units flags v = (decided_both code status e units flags v).0

pub decided_status : (code status : ℕ) (e : End) (units : List Shape) (flags : ℕ) (v : Volume)
    → (end_decided code status e units flags v).status ≡ status
decided_status code status e units flags v = (decided_both code status e units flags v).1

-- so is the status of an answer, and that of a step's end
pub answer_told : {K : Type 0} (old new : Port K) (e : End)
    → IsToldSo (verdicts.Served blocks.Good) (left_with e (answer_by old new e))
answer_told old new e =
    let v = volume_found new.controller.settings.units new.volumes e.unit in (
      v,
      decided_status _ _ e new.controller.settings.units new.flags v
          ∙ ap (λ n. status_told (verdicts.Served blocks.Good) n e.status v)
          (sym (decided_code _ _ e new.controller.settings.units new.flags v)),
    )

pub step_told : {K : Type 0} (verdict : Verdict) (old new : Port K) (e : End)
    → IsToldSo verdict (left_with e (decided_by verdict old new e))
step_told verdict old new e =
    let v = volume_found old.controller.settings.units old.volumes e.unit in (
      v,
      decided_status _ _ e new.controller.settings.units new.flags _
          ∙ ap (λ n. status_told verdict n e.status v)
          (sym (decided_code _ _ e new.controller.settings.units new.flags _)),
    )

-- the Success of an ABORT or a poll is told as such
pub success_told : (code : ℕ) (v : Volume) → IsAboutCode code
    → status_told (verdicts.Served blocks.Good) code 0 v ≡ 0
unfolding port_answers
success_told code v (inl e) = ap (λ n. status_told (verdicts.Served blocks.Good) n 0 v) e
success_told code v (inr e) = ap (λ n. status_told (verdicts.Served blocks.Good) n 0 v) e

at_place : (front : List Buffer) (b : Buffer) (back : List Buffer)
    → slice_get (front ++ b ∷ back) (length front) ≡ Some b
at_place [] b back = refl
at_place (x ∷ front) b back = at_place front b back

kept_found : (f : Buffer → Bool) (bs : List Buffer) → kept_at (position f bs) bs ≡ find f bs
kept_found f bs = grind (arith, find_cases, position_none, find_none, position_first, at_place, find_first)

-- where one is kept of a number, and where none is
pub kept_one : (n : ℕ) (bs : List Buffer) (b : Buffer) → filter (is_of First n) bs ≡ b ∷ []
    → kept_of First n bs ≡ Some b
kept_one n bs b e = kept_found (is_of First n) bs ∙ found_sole (is_of First n) bs b e

kept_none : (n : ℕ) (bs : List Buffer) → filter (is_of First n) bs ≡ [] → kept_of First n bs ≡ None
kept_none n bs e = kept_found (is_of First n) bs
    ∙ Rattle.mscp_ported.proofs.Numbered.none_found (is_of First n) bs e

module _ (bs : List Buffer) (e : End) (t : List ℕ) where
  abbrev told : ℕ
  told = code_told (kept_of First e.reference bs) e.code

  abbrev Coded : ℕ → Type 0
  Coded c = IsCodeFor (cond (ends_formality c) c e.code) t

  itself_coded : IsCodeFor e.code t → Coded e.code
  itself_coded is = grind arith

  -- the end of a command of which that is kept
  kept_coded : (r : Record) (b : Buffer) → filter (is_of First e.reference) bs ≡ b ∷ [] → FitsBuffer r b t
      → e.code ≡ endcode r.command.order → Coded told
  kept_coded r b one f same = subst (λ o. Coded (code_told o e.code)) (sym (kept_one e.reference bs b one))
      (by (is_formality b.opcode) refl)
    where
      by : (c : Bool) → is_formality b.opcode ≡ c → Coded (cond c (b.opcode + 0x80) e.code)
      by c is = grind (arith, formal_code, itself_coded)

  pub bare_same : filter (is_of First e.reference) bs ≡ [] → told ≡ e.code
  bare_same none = ap (λ o. code_told o e.code) (kept_none e.reference bs none)

  -- and one of which nothing is kept
  pub bare_coded : filter (is_of First e.reference) bs ≡ [] → IsCodeFor e.code t → Coded told
  bare_coded none is = subst (λ o. Coded (code_told o e.code)) (sym (kept_none e.reference bs none)) (itself_coded is)

-- ---- the end of a command that waited

moved_no_about : (order : Order) (good other : ℕ)
    → ((other : ℕ) → about_in (refused_body (endcode order)) ≡ Some other → ⊥)
    → about_in (moved_body order good) ≡ Some other → ⊥
moved_no_about (orders.Move kind count block) good other never is = search (arith, is)
moved_no_about order good other never is = never other is

outcome_no_about : (shape : Shape) (status : ℕ) (order : Order) (good other : ℕ)
    → ((other : ℕ) → about_in (refused_body (endcode order)) ≡ Some other → ⊥)
    → about_in (outcome_body shape status order good) ≡ Some other → ⊥
outcome_no_about shape status order good other never is = grind (arith, moved_no_about)

-- its code is that of its order, and it is about no other command
pub record IsPlainEnd (r : Record) (e : End) : Type 0 where
  pub number : e.reference ≡ r.command.reference
  pub unit : e.unit ≡ r.command.unit
  pub code : e.code ≡ endcode r.command.order
  pub no_about : ((other : ℕ) → about_in (refused_body (endcode r.command.order)) ≡ Some other → ⊥)
      → (other : ℕ) → about_in e.body ≡ Some other → ⊥

pub given_plain : (k : Block) (d : Drive) (r : Record) (e : End) → end_given k d r ≡ Some e → IsPlainEnd r e
given_plain k d r e h = grind (arith, none-some, same_Some, outcome_no_about)

pub aborted_plain : (r : Record) → IsPlainEnd r (aborted_record r)
aborted_plain r = grind (arith, moved_no_about)

-- with what is decided of it, it fits
pub plain_fits : {c : Settings} {Told : Verdict → Record → Type 0} (bs : List Buffer) (r : Record) (b : Buffer)
    (e : End) (d : Decided) (t : List ℕ)
    → IsPlainEnd r e → filter (is_of First e.reference) bs ≡ b ∷ [] → FitsBuffer r b t
    → d.code ≡ code_told (kept_of First e.reference bs) e.code → IsMade c Told (left_with e d) t
    → FitsEnd c Told (left_with e d) t
plain_fits bs r b e d t plain one f same made = record {
  unit = subst (λ n. IsUnitIn n t) (sym plain.unit) f.unit;
  code = subst (λ c. IsCodeFor (cond (ends_formality c) c e.code) t) (sym same)
      (kept_coded bs e t r b one f plain.code);
  about = λ long other is. absurd (plain.no_about f.no_about other is);
  polled = λ other figure is. absurd (plain.no_about f.no_about other (ap about_in is));
  same = λ none. same ∙ told_same (kept_of First e.reference bs) e.code (sym (ap ends_formality same) ∙ none);
  made = made;
}

-- ---- messages and ends beside each other

module _ (c : Settings) (Told : Verdict → Record → Type 0) where
  -- another end is taken, or another message comes
  pub fits_beside : (aw aw' : List (List ℕ)) (l : Leaving)
      → filter (has_number l.end.reference) aw' ≡ filter (has_number l.end.reference) aw → FitsIn c Told aw l
      → FitsIn c Told aw' l
  fits_beside aw aw' l same fits t e = fits t (sym same ∙ e)

  pub fits_left : (aw : List (List ℕ)) (m : ℕ) (l : Leaving) → FitsIn c Told aw l
      → FitsIn c Told (filter (λ t. not (has_number m t)) aw) l
  fits_left aw m l fits t e = by (nat_eq m l.end.reference) refl
    where
      left : List (List ℕ)
      left = filter (λ t. not (has_number m t)) aw

      by : (b : Bool) → nat_eq m l.end.reference ≡ b → FitsEnd c Told l t
      by true d = absurd (some_none t [] (sym e ∙ subst (λ k. filter (has_number k) left ≡ [])
          (eqb-true m l.end.reference d) (none_of_it (has_number m) aw)))
      by false d = fits t (sym (sole_left (has_number l.end.reference) (λ t. not (has_number m t)) aw
          (λ t is. other_number l.end.reference m d (num t 0 4) is)) ∙ e)

  pub every_left : (aw : List (List ℕ)) (m : ℕ) (ls : List Leaving)
      → AllByRecursion (FitsIn c Told aw) ls
      → AllByRecursion (FitsIn c Told (filter (λ t. not (has_number m t)) aw)) ls
  every_left aw m [] all = tt
  every_left aw m (l ∷ ls) all = (fits_left aw m l all.0, every_left aw m ls all.1)

  pub every_beside : (aw : List (List ℕ)) (t : List ℕ) (es : List End)
      (ds : List Decided)
      → filter (ends_numbered (num t 0 4)) es ≡ [] → AllByRecursion (FitsIn c Told aw) (zipped es ds)
      → AllByRecursion (FitsIn c Told (aw ++ t ∷ [])) (zipped es ds)
  every_beside aw t [] ds none all = tt
  every_beside aw t (e ∷ es) [] none all = tt
  every_beside aw t (e ∷ es) (d ∷ ds) none all = by (nat_eq e.reference (num t 0 4)) refl none
      (λ h. every_beside aw t es ds h all.1)
    where
      by : (b : Bool) → nat_eq e.reference (num t 0 4) ≡ b
          → cond b (e ∷ filter (ends_numbered (num t 0 4)) es) (filter (ends_numbered (num t 0 4)) es) ≡ []
          → (filter (ends_numbered (num t 0 4)) es ≡ [] → AllByRecursion (FitsIn c Told (aw ++ t ∷ [])) (zipped es ds))
          → AllByRecursion (FitsIn c Told (aw ++ t ∷ [])) (zipped (e ∷ es) (d ∷ ds))
      by true is h rest = absurd (some_none e (filter (ends_numbered (num t 0 4)) es) h)
      by false is h rest = (
        fits_beside aw (aw ++ t ∷ []) (left_with e d)
            (none_beside (has_number e.reference) aw t (apart (nat_eq (num t 0 4) e.reference) refl)) all.0,
        rest h,
      )
        where
          apart : (b : Bool) → nat_eq (num t 0 4) e.reference ≡ b → b ≡ false
          apart true x = search (arith, is, eq-eqb e.reference (num t 0 4) (sym (eqb-true (num t 0 4) e.reference x)))
          apart false x = refl
