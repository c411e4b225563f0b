-- The end that a step gives to the host tells of its unit what is so, and says whether that is online as that is so.
use Rattle.mscp_logged.proofs.Common.{Block, Bool, Buffer, Decided, Drive, End, Ended, First, FitsBuffer, Hardware, IsBegunStep, IsFaultTold, IsHow, IsOf, IsPlainEnd, List, Name, Order, Outcome, Port, Record, Settings, Shape, Some, Verdict, Volume, [], answer_by, ap, arith, block_told, brought_for, code_told, cond, decided_by, decided_code, drive_after, drive_of, end_given, endcode, ends_formality, eq-eqb, eqb-true, false, false≢true, filter, find, given_of, has_name, inl, inr, is_formality, is_good_block, is_of, is_some, is_success, kept_of, kept_one, moved_by, num, one_ended, queued_open, refl, replaced, state_left, subst, sym, touched, touches, true, unit_found, valid_order, volume_found, volumes_after, ℕ, ◌%◌, ◌&&◌, ◌+◌, ◌<◌, ◌^◌, ◌∙◌, ◌∷◌, ◌≡◌, ◌⊎◌}
use Rattle.mscp_logged.proofs.Bytes.{handed_small, stood_code}
use Rattle.mscp_logged.proofs.Describing.{IsAsWas, IsTold, mine, Tells}
use Rattle.mscp_logged.proofs.Made.{given_is}
use Rattle.mscp_logged.proofs.Moored.{heeded, Heeded}
use Rattle.mscp_logged.proofs.Stepped.{IsGivenEnd, decided_so, given_plain, step_tells, IsDecided}
use Rattle.mscp_logged.proofs.Sure.{told_sure, IsSure}
use Rattle.mscp_logged.proofs.Texts.{text_with}
use Rattle.mscp_logged.proofs.Worded.{text_unit}
use Rattle.mscp_packet.specs.declared.command.Order.TheVariants as orders
use Rattle.mscp_queue.specs.Drives.{has_number}
use Rattle.mscp_logged.proofs.Away.{IsPlaced, Says}
use Rattle.mscp_logged.proofs.Driven.{AreDriven, brought_driven, still_driven}
use Rattle.mscp_logged.proofs.Faults.{told_fine}
use Rattle.mscp_logged.proofs.Moored.{available_off}
use Rattle.mscp_logged.proofs.Placing.{step_says}

-- ---- what is known of it

-- the step that was begun went so, and gave this end to its command
pub record IsServed (c : Settings) {K : Type 0} (outcome : Outcome) (verdict : Verdict) (old new : Port K) (r : Record)
    (e : End) : Type 0 where
  pub given : end_given (block_told verdict) (drive_of old.controller.drives r.command.unit) r ≡ Some e
  pub how : IsHow old outcome verdict
  pub begun : IsBegunStep old
  pub name : Name
  pub was : old.controller.begun ≡ Some name
  pub here : find (has_name name) old.controller.waiting ≡ Some r
  pub message : List ℕ
  pub buffer : Buffer
  pub kept : filter (is_of First r.command.reference) old.buffers.items ≡ buffer ∷ []
  pub fits : FitsBuffer r buffer message
  pub unit : Shape
  pub there : unit_found c.units r.command.unit ≡ Some unit
  pub volumes : new.volumes ≡ volumes_after c.units old.buffers.items First (Some e) old.volumes
  pub settings : old.controller.settings ≡ c
  pub now : new.controller.settings ≡ c

module _ {c : Settings} {K : Type 0} {outcome : Outcome} {verdict : Verdict} {old new : Port K} {r : Record} {e : End}
    (h : Hardware) (s : IsServed c outcome verdict old new r e) where
  abbrev V : ℕ → Volume
  V u = volume_found c.units old.volumes u

  abbrev W : ℕ → Volume
  W u = volume_found c.units new.volumes u

  abbrev d : Drive
  d = drive_of old.controller.drives r.command.unit

  abbrev b : Block
  b = block_told verdict

  abbrev made : Decided
  made = decided_by verdict old new e

  abbrev text : List ℕ
  text = text_with h c.units e (decided_by verdict old new e)

  of : IsOf r s.message
  of = s.fits.of

  plain : IsPlainEnd r e
  plain = given_of b d r e s.given

  its_end : IsGivenEnd r.command.order d.online verdict e
  its_end =
      let q = given_is b d r e s.given in
      record {
        waits = (queued_open of.settings r.command of.queued).waits;
        valid = valid_order of.settings r.command.unit r.command.order
            (queued_open of.settings r.command of.queued).sound;
        code = plain.code;
        status = ap (λ (y : End). y.status) (sym q.end);
        body = (
          d.unit,
          r.good + cond (touches d.online r.command.order && is_good_block b) 1 0,
          ap (λ (y : End). y.body) (sym q.end),
        );
      }

  small : e.unit < 2 ^ 16
  small = grind (arith, plain, of, handed_small)

  names : num text 4 2 ≡ e.unit
  names = text_unit h c.units e made small

  -- the volume of a unit
  heeded_so : (u : ℕ) → Heeded c.units old.buffers.items First old.volumes (Some e) u (V u) (W u)
  heeded_so u = rw s.volumes (heeded c.units old.buffers.items First old.volumes (Some e) u)

  mounted : (W e.unit).is_mounted ≡ true
      → ((V e.unit).is_mounted ≡ true) ⊎ ((e.code ≡ 0x89) × (e.status % 32 ≡ 0))
  mounted on = grind (arith, heeded_so, one_ended)

  -- it isn't a formality's, or its command has the code of what stands in for one
  formal : ends_formality made.code ≡ true → e.code ≡ 0x90
  formal formality = by (is_formality s.buffer.opcode) refl
    where
      is_code : (decided_by verdict old new e).code
          ≡ cond (is_formality s.buffer.opcode) (s.buffer.opcode + 0x80) e.code
      is_code = decided_code _ _ e new.controller.settings.units new.flags _
          ∙ ap (λ y. code_told y e.code) (ap (λ m. kept_of First m old.buffers.items) plain.number
          ∙ kept_one r.command.reference old.buffers.items s.buffer s.kept)

      by : (y : Bool) → is_formality s.buffer.opcode ≡ y → e.code ≡ 0x90
      by true z = grind (arith, plain, of, stood_code)
      by false z = grind (arith, given_plain, its_end, is_code)

  decided : IsDecided c.units verdict (V e.unit) (W e.unit) e made
  decided = subst (λ x. IsDecided c.units verdict (volume_found x.units old.volumes e.unit) (W e.unit) e made)
      s.settings (subst (λ x. IsDecided x.units verdict
      (volume_found old.controller.settings.units old.volumes e.unit) (volume_found x.units new.volumes e.unit) e made)
      s.now (decided_so new.controller.settings.units verdict
      (volume_found old.controller.settings.units old.volumes e.unit)
      (volume_found new.controller.settings.units new.volumes e.unit) e
      (kept_of First e.reference old.buffers.items) new.flags))

  abbrev moves : Bool
  moves = is_some (moved_by r.command.order (touched d r))

  sure : IsSure moves (V e.unit) verdict
  sure = rw plain.unit (rw (← s.settings) (told_sure old outcome s.begun s.name s.was r s.here verdict s.how))

  -- ---- what it tells

  tells : Tells (unit_found c.units e.unit) (V e.unit) (W e.unit) (answer_by First text)
  tells = step_tells h c.units verdict d.online (V e.unit) (W e.unit) e made s.unit
      (ap (unit_found c.units) plain.unit ∙ s.there) decided (heeded_so e.unit).0 formal mounted r.command.order
      (touched d r) sure its_end

  -- of another unit it tells nothing
  apart : (u : ℕ) → mine u text ≡ false → IsAsWas (V u) (W u)
  apart u other on = grind (arith, heeded_so, false≢true, eq-eqb, names, one_ended)

  unit_is : (u : ℕ) → mine u text ≡ true → e.unit ≡ u
  unit_is u here = sym names ∙ eqb-true (num text 4 2) u here

  pub served_told : (u : ℕ) → IsTold u (unit_found c.units u) (V u) (W u) text
  served_told u = record {
    own = λ here. subst (λ m. Tells (unit_found c.units m) (V m) (W m) (answer_by First text)) (unit_is u here) tells;
    other = apart u;
  }

  -- ---- what it says

  module _ (driven : AreDriven c.units old.volumes old.controller.drives) where
    left : e.code ≡ 0x88 → e.status % 32 ≡ 0 → (W e.unit).is_mounted ≡ false
    left code good = ap (λ vs. (volume_found c.units vs e.unit).is_mounted) s.volumes
        ∙ available_off c.units old.buffers.items First old.volumes e e.unit code good refl

    says : IsFaultTold outcome → Says (V e.unit) (W e.unit) (answer_by First text)
    says fault = step_says h c.units verdict d.online r.done (V e.unit) (W e.unit) e made r.command.order its_end
        decided sure (told_fine old outcome fault s.begun s.name s.was r s.here verdict s.how).0
        (λ on. rw (← plain.unit) (driven e.unit on)) mounted left tells.stays

    pub served_placed : IsFaultTold outcome → (u : ℕ) → IsPlaced u (V u) (W u) text
    served_placed fault u = record {
      own = λ here. subst (λ m. Says (V m) (W m) (answer_by First text)) (unit_is u here) (says fault);
      other = apart u;
    }

    -- ---- and the controller's drive

    goes_online : e.code ≡ 0x89 → e.status % 32 ≡ 0 → (online : Bool)
        → state_left online r.command.order (Some e) ≡ true
    goes_online code good online = grind (arith, its_end)

    stays_online : (order : Order) → order ≡ r.command.order → (u : ℕ) → (W u).is_mounted ≡ true
        → r.command.unit ≡ u → state_left true order (Some e) ≡ true
    stays_online orders.Available is u on same = by (is_success e.status) refl
      where
        by : (b : Bool) → is_success e.status ≡ b → cond b false true ≡ true
        by false x = refl
        by true x = absurd (false≢true (sym (ap (λ vs. (volume_found c.units vs u).is_mounted) s.volumes
            ∙ available_off c.units old.buffers.items First old.volumes e u
            (its_end.code ∙ ap endcode (sym is)) (eqb-true (e.status % 32) 0 x) (plain.unit ∙ same)) ∙ on))
    stays_online order is u on same = grind arith

    pub served_driven : ((u : ℕ) (unit : Shape) → unit_found c.units u ≡ Some unit
        → (x : Drive) × (find (has_number u) old.controller.drives ≡ Some x))
        → new.controller.drives ≡ replaced r.command.unit (drive_after b d r) old.controller.drives
        → AreDriven c.units new.volumes new.controller.drives
    served_driven housed drives u on = subst (λ ds. (drive_of ds u).online ≡ true) (sym (drives
        ∙ ap (λ x. replaced r.command.unit (record (drive_after b d r) {
          online = state_left d.online r.command.order x;
        }) old.controller.drives) s.given)) (by ((heeded_so u).1 on))
      where
        by : (((V u).is_mounted ≡ true) × (Ended 0x88 u (brought_for First (Some e)) → ⊥))
            ⊎ Ended 0x89 u (brought_for First (Some e))
            → (drive_of (replaced r.command.unit (record (drive_after b d r) {
              online = state_left d.online r.command.order (Some e);
            }) old.controller.drives) u).online ≡ true
        by (inl y) = still_driven b old.controller.drives r (Some e) (V u) (W u) u (driven u) (λ x. y.0)
            (λ x same. stays_online r.command.order refl u x same) on
        by (inr y) =
            let q = one_ended First 0x89 u e y in
            let x = housed r.command.unit s.unit s.there in
            brought_driven b old.controller.drives r (Some e) (V u) (W u) u (driven u) (sym plain.unit ∙ q.1) x.0 x.1
            (goes_online q.0 q.2) on
