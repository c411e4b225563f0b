-- An end suits its command, however it was made, and is told with a status that suits it.
use Rattle.mscp_logged.proofs.Common.{Block, BodyControls, Command, Drive, End, Ends, IsAborted, IsAnswer, IsBodyFit, IsMade, IsOf, IsOfKind, IsServed, IsSmallCommand, IsText, IsToldSo, Leaving, List, Record, Says, Settings, Shape, Some, Verdict, aborted_ends, aborted_fit, ap, arith, block_told, command_of, cond, end_given, endcode, ended_small, ends_formality, false, goes_on, handed, inl, inr, is_formality, is_good_block, is_immediate, is_move, kind_of_body, kind_of_code, left_of, order_weight, outcome_at, outcome_fine, outcome_fit, outcome_status, outcome_suits, own_ends, own_fit, queued_open, refl, slice_index, small_command, status_after, subst, sym, touches, true, valid_order, ℕ, ◌%◌, ◌&&◌, ◌+◌, ◌-◌, ◌<◌, ◌^◌, ◌∙◌, ◌≡◌, ◌≢◌, ◌⊎◌}
use Rattle.mscp_packet.specs.declared.command.Order.TheVariants as orders
use Rattle.mscp_packet.specs.declared.end.BodyKind.TheVariants as kinds
use Rattle.mscp_packet.specs.declared.end.EndBody.TheVariants as bodies
use Rattle.mscp_drive.specs.declared.block.Block.TheVariants as blocks
use Rattle.mscp_port.specs.declared.verdict.Verdict.TheVariants as verdicts
use Rattle.mscp_logged.proofs.Bytes.{handed_bytes, handed_says, of_unit}
use Rattle.mscp_logged.proofs.Faults.{IsToldOf}
use Rattle.mscp_logged.proofs.Statuses.{IsApt, answer_apt, told_apt}

-- by the order of its message, as that is handed over, of units that aren't known here
pub record IsKept (status : ℕ) (e : End) (t : List ℕ) : Type 0 where
  pub units : List Shape
  pub message : IsText t
  pub code : e.code ≡ endcode (command_of (handed units t)).order
  pub apt : IsApt (command_of (handed units t)).order status e.body
  pub fit : IsBodyFit e.body

-- the end that a step gives
pub record IsGiven (k : Block) (d : Drive) (r : Record) (e : End) : Type 0 where
  pub end : outcome_at d.unit d.online r.command r.good k ≡ e
  pub ends : goes_on d.online r.command.order k (left_of r) ≡ false

pub given_is : (k : Block) (d : Drive) (r : Record) (e : End) → end_given k d r ≡ Some e → IsGiven k d r e
given_is k d r e h = grind arith

-- ---- whose code it has

pub record HasCode (e : End) (t : List ℕ) : Type 0 where
  pub units : List Shape
  pub message : IsText t
  pub is : e.code ≡ endcode (command_of (handed units t)).order

module _ (c : Settings) (Told : Verdict → Record → Type 0) (l : Leaving) (t : List ℕ) where
  pub made_code : IsMade c Told l t → HasCode l.end t
  made_code (inl x) = grind arith
  made_code (inr (inl x)) = grind arith
  made_code (inr (inr x)) = grind arith

-- ---- with which status it is told

-- of one whose code is no formality's
told_after : (l : Leaving) (verdict : Verdict) (code : ℕ) → l.end.code ≡ code → ends_formality l.fields.code ≡ false
    → l.fields.code ≡ l.end.code → (x : IsToldSo verdict l)
    → l.fields.status ≡ status_after verdict code l.end.status x.0
told_after l verdict code is formal same x = grind arith

pub made_formal : (c : Settings) (Told : Verdict → Record → Type 0) (l : Leaving) (t : List ℕ) → IsMade c Told l t
    → ends_formality l.fields.code ≡ true → (l.fields.status ≡ 0) ⊎ (l.fields.status ≡ 2)
made_formal c Told l t x formal = grind arith

module _ (c : Settings) (l : Leaving) (t : List ℕ) (plain : is_formality (slice_index t 8) ≡ false)
    (formal : ends_formality l.fields.code ≡ false) (same : l.fields.code ≡ l.end.code) where
  -- ---- an answer

  module _ (x : IsAnswer c l t) where
    abbrev k : Command
    k = command_of (handed c.units t)

    own : Ends k l.end
    own = subst (λ e. Ends k e) (sym x.end) (own_ends c x.online x.figure k x.immediate)

    small : IsSmallCommand k
    small = small_command (handed c.units t) (handed_bytes c.units t x.message plain)

    pub answer_status : l.fields.status ≡ status_after (verdicts.Served blocks.Good)
        (endcode k.order) l.end.status x.told.0
    answer_status = told_after l (verdicts.Served blocks.Good) (endcode k.order) own.code formal same x.told

    pub answer_kept : IsKept l.fields.status l.end t
    answer_kept =
        let fit = own_fit c x.online x.figure k x.immediate small x.low in
        record {
          units = c.units;
          message = x.message;
          code = own.code;
          apt = subst (λ n. IsApt k.order n l.end.body) (sym answer_status)
              (answer_apt _ k.order blocks.Good l.end.status x.told.0 l.end.body
              (handed_says c.units t x.message plain 0) (record {
                suits = own.suits;
                fine = own.fine;
                small = subst (λ (e : End). e.status < 2 ^ 16) (sym x.end) fit.status;
              }));
          fit = subst (λ (e : End). IsBodyFit e.body) (sym x.end) fit.body;
        }

    -- it tells the identifier that the controller is set to
    pub answer_controls : (timeout id : ℕ) → l.end.body ≡ bodies.Controller timeout id → IsOfKind l.end
        → l.fields.status % 32 ≡ 0 → id ≡ c.id
    answer_controls timeout id body shaped good =
        let fit = own_fit c x.online x.figure k x.immediate small x.low in
        let controls = subst (λ (e : End). e.status % 32 ≡ 0 → BodyControls c e.body) (sym x.end) fit.controls in
        subst (λ b. BodyControls c b) body (controls (ap (λ n. n % 32) (sym (told_after l (verdicts.Served blocks.Good)
        0x84 (controller_code l.end.code (shaped ∙ ap (λ b. Some (kind_of_body b)) body))
        formal same x.told)) ∙ good))
      where
        controller_code : (code : ℕ) → kind_of_code code ≡ Some kinds.Controller → code ≡ 0x84
        controller_code code e = grind (arith, e)

  -- ---- the end of a command that waited

  module _ (r : Record) (of : IsOf r t) where
    waits : is_immediate r.command.order ≡ false
    waits = (queued_open of.settings r.command of.queued).waits

    valid : (byte fault : ℕ) → r.command.order ≢ orders.Invalid byte fault
    valid = valid_order of.settings r.command.unit r.command.order (queued_open of.settings r.command of.queued).sound

    of_small : IsSmallCommand r.command
    of_small = subst (λ k. IsSmallCommand k) (sym of.command)
        (small_command (handed of.settings.units t) (handed_bytes of.settings.units t of.message plain))

    of_apt : (verdict : Verdict) (e : End) → l.end ≡ e → IsToldSo verdict l → e.code ≡ endcode r.command.order
        → (verdict ≡ verdicts.NotOnline → is_move r.command.order ≡ true)
        → IsApt r.command.order e.status e.body → IsBodyFit e.body → IsKept l.fields.status l.end t
    of_apt verdict e is told code move apt fit = record {
      units = of.settings.units;
      message = of.message;
      code = ap (λ (e : End). e.code) is ∙ code ∙ ap (λ (k : Command). endcode k.order) of.command;
      apt = rw (← of.command) (subst (λ n. IsApt r.command.order n l.end.body)
          (sym (told_after l verdict (endcode r.command.order) (ap (λ (e : End). e.code) is ∙ code) formal same told))
          (told_apt _ r.command.order verdict l.end.status told.0 l.end.body
          (subst (λ (k : Command). Says k.order (of_unit t 0)) (sym of.command)
          (handed_says of.settings.units t of.message plain 0)) waits valid move
          (subst (λ (e : End). IsApt r.command.order e.status e.body) (sym is) apt)));
      fit = subst (λ (e : End). IsBodyFit e.body) (sym is) fit;
    }

  pub aborted_kept : (x : IsAborted l t) → IsKept l.fields.status l.end t
  aborted_kept x =
      let ends = aborted_ends x.of.settings x.own.command x.own.good x.of.queued in
      of_apt x.own x.of (verdicts.Served blocks.Good) _ x.end x.told refl (λ e. absurd (search (arith, e)))
      (record { suits = ends.suits; fine = ends.fine; small = omega arith })
      (aborted_fit x.of.settings x.own.command x.own.good (of_small x.own x.of)).body

  pub served_kept : (x : IsServed IsToldOf l t) → IsKept l.fields.status l.end t
  served_kept x =
      let b = block_told x.verdict in
      let r = x.own in
      let d = x.drive in
      let g = given_is b d r l.end x.end in
      let last : goes_on d.online r.command.order b
      (order_weight r.command.order - r.done)
      ≡ false = subst (λ w. goes_on d.online r.command.order b (w - r.done) ≡ false) x.of.whole g.ends in
      of_apt r x.of x.verdict _ (sym g.end) x.told refl x.is.1
      (record {
        suits = outcome_suits d.unit r.good r.done x.of.good d.online r.command.order b x.is.0 (waits r x.of)
            (valid r x.of) last;
        fine = outcome_fine d.online r.command.order b x.is.0 (waits r x.of) (valid r x.of);
        small = ended_small d.online r.command.order b x.is.0;
      })
      (outcome_fit d.unit (outcome_status d.online r.command.order b) r.command.order
      (r.good + cond (touches d.online r.command.order && is_good_block b) 1 0) (of_small r x.of).order)

  pub made_kept : IsMade c IsToldOf l t → IsKept l.fields.status l.end t
  made_kept (inl x) = answer_kept x
  made_kept (inr (inl x)) = aborted_kept x
  made_kept (inr (inr x)) = served_kept x

-- ---- no end of a command that waited tells of the controller

pub of_code : (r : Record) (t : List ℕ) → IsOf r t → endcode r.command.order ≡ 0x84 → ⊥
of_code r t of = grind arith
