-- Behind a message that a port read each end that waits fits its message still.
use Rattle.mscp_ported.proofs.Common.{All, AllByRecursion, Bool, Command, End, First, Hears, Holdings, IsCodeFor, IsValid, List, None, Ok, Option, Order, Port, Record, Settings, Some, Verdict, WasRead, [], aborted_record, answered_end, ap, arith, balance_of, buffer_in, changes_at, command_of, cond, credits_of, ends_formality, eq-eqb, eqb-true, every_append, false, fault_of, figure_in, figure_on, figure_polled, filter, find, found_is, fresh_record, handed, has_number, inl, inr, is_formality, is_of, length, nat_eq, none-some, num, option_map, option_to_list, outstanding_of, place_in, record_aborted, refl, same_Some, since, slice_index, status_told, subst, sym, taken_by, unaborted, waiting_on, ℕ, ◌++◌, ◌+◌, ◌-◌, ◌<◌, ◌^◌, ◌∙◌, ◌∷◌, ◌≡◌, ◌≤◌}
use Rattle.mscp_ported.proofs.Kept.{is_numbered, number_of}
use Rattle.mscp_ported.proofs.Refusals.{num_small, own_figure, some_balance}
use Rattle.mscp_packet.specs.declared.command.Order.TheVariants as orders
use Rattle.mscp_ported.proofs.Awaiting.{IsNoReset, Kept}
use Rattle.mscp_ported.proofs.Reading.{Answers, Gets, Queues, answer_ends, answer_grows, read_is}
use Rattle.mscp_ported.proofs.Awaits.{end_named, its_own, no_other, no_such}
use Rattle.mscp_ported.proofs.Buffered.{FitsBuffer, IsKeptEach, answer_kept, few_kept, number_kept, opcode_kept, queued_kept}
use Rattle.mscp_ported.proofs.Codes.{answered_about, answered_code, answered_unit, under_64, handed_coded, queued_no_about}
use Rattle.mscp_ported.proofs.Coming.{ends_of}
use Rattle.mscp_ported.proofs.Ending.{left_with, zipped}
use Rattle.mscp_ported.proofs.Fitted.{Fitting, became, grown_fits, grown_long, stays}
use Rattle.mscp_ported.proofs.Fitting.{FitsEnd, FitsIn, aborted_plain, answer_told, bare_coded, bare_same, decided_code, success_told, every_beside, plain_fits}
use Rattle.mscp_ported.proofs.Followed.{AreFollowed, answers_follow, followed_beside, followed_more}
use Rattle.mscp_ported.proofs.Formal.{formal_queued}
use Rattle.mscp_ported.proofs.Numbered.{At, IsNothing, first_of_one, none_beside, none_found, some_none}
use Rattle.mscp_ported.proofs.Origins.{IsOf, IsText, aborted_of, answer_of, queued_of}
use Rattle.mscp_ported.proofs.Sole.{found_sole, sole_comes}
use Rattle.mscp_port.specs.declared.verdict.Verdict.TheVariants as verdicts
use Rattle.mscp_drive.specs.declared.block.Block.TheVariants as blocks
use Rattle.mscp_ported.proofs.Tables.{answer_by}
use Rattle.mscp_ported.proofs.Units.{IsUnitIn, handed_unit}

module _ {c : Settings} {Told : Verdict → Record → Type 0} {K : Type 0} (bytes : List ℕ) (done : Unit)
    (old new : Port K) (aw : List (List ℕ)) (k : Kept old aw)
    (f : Fitting c Told old aw) (r : Hears bytes old (Ok done) new) (small : (i : ℕ) → slice_index bytes i < 2 ^ 8)
    (valid : IsValid c) (sizes : All (λ unit. 0 < unit.size) c.units)
    (settings : old.controller.settings ≡ c) (low : (n : ℕ) → figure_on old n < 2 ^ 32) where
  abbrev After : Type 0
  After = Fitting c Told new (since new.stage (WasRead bytes (Ok done)) aw (taken_by (WasRead bytes (Ok done)) old))

  calm : IsNoReset (WasRead bytes (Ok done))
  calm = record { texts = λ s xs ys. refl }

  abbrev Fits : Type 0
  Fits = Fitting c Told new (aw ++ bytes ∷ [])

  -- of an end that comes by it
  abbrev FitsNow : End → Type 0
  FitsNow e = FitsIn c Told (aw ++ bytes ∷ []) (left_with e (answer_by old new e))

  -- the controller took it
  module _ (g : Gets bytes done old new) where
    abbrev h : Holdings K
    h = old.controller

    abbrev command : Command
    command = command_of (handed old.controller.settings.units bytes)

    abbrev n : ℕ
    n = num bytes 0 4

    is_text : IsText bytes
    is_text = record { long = g.long; small = small }

    nothing : IsNothing aw h.waiting (ends_of h) n
    nothing = no_such g k

    room : length old.buffers.items < 64
    room = under (length old.buffers.items) (length (waiting_on First h.waiting)) (length (ends_of h))
        (Rattle.mscp_drive.specs.Settings.credits_of old.controller.settings First) c.credits c.second
        (few_kept aw h.waiting (ends_of h) old.buffers.items k.each f.kept)
        (some_balance (balance_of First h) (outstanding_of First h) (handed old.controller.settings.units bytes)
        g.is_new)
        (ap (λ s. Rattle.mscp_drive.specs.Settings.credits_of s First) settings) valid.few_credits
      where
        under : (b w e m x y : ℕ) → b ≤ w → 1 ≤ m - (w + e) → m ≡ x → x + y ≤ 64 → b < 64
        under b w e m x y f g i j = omega (arith, f, g, i, j)

    -- it is queued
    queued_fits : Queues g.slot bytes old new → Fits
    queued_fits q =
        let changes = changes_at old.volumes (place_in old.controller.settings.units (num bytes 4 2)) in
        let b = buffer_in bytes changes in
        let beside : new.buffers.items ≡ old.buffers.items ++ b ∷ [] = q.sends.kept
        ∙ ap (λ x. cond x (old.buffers.items ++ b ∷ []) old.buffers.items)
        (under_64 (length old.buffers.items) room) in
        record {
          long = ap (λ (x : Holdings K). length (ends_of x)) q.holds ∙ f.long ∙ sym (ap length q.sends.decided);
          kept = subst (λ rs. IsKeptEach (aw ++ bytes ∷ []) rs new.buffers.items)
              (sym (ap (λ (x : Holdings K). x.waiting) q.holds))
              (subst (λ bs. IsKeptEach (aw ++ bytes ∷ []) (h.waiting ++ fresh_record First command ∷ []) bs)
              (sym beside)
              (queued_kept aw h.waiting old.buffers.items bytes (fresh_record First command) b nothing.0 nothing.1
              (its_own g k)
              (no_other g k)
              (number_kept bytes changes g.long)
              (record {
                opcode = opcode_kept bytes changes g.long;
                unit = handed_unit old.controller.settings.units bytes g.long small;
                code = λ plain. handed_coded old.controller.settings.units bytes g.long plain;
                no_about = queued_no_about h.settings command q.later;
                of = queued_of h.settings bytes is_text q.later;
              }) f.kept));
          fits = subst (λ es. AllByRecursion (FitsIn c Told (aw ++ bytes ∷ [])) (zipped es new.decided.items))
              (sym (ap (λ (x : Holdings K). ends_of x) q.holds))
              (subst (λ ds. AllByRecursion (FitsIn c Told (aw ++ bytes ∷ [])) (zipped (ends_of h) ds))
              (sym q.sends.decided)
              (every_beside c Told aw bytes (ends_of h) old.decided.items nothing.2 f.fits));
          followed = subst (λ es. AreFollowed Told (aw ++ bytes ∷ []) es)
              (sym (ap (λ (x : Holdings K). ends_of x) q.holds))
              (followed_beside Told aw bytes (ends_of h) nothing.2 f.followed);
        }

    -- or it is answered at once
    module _ (a : Answers g.slot bytes old new) where
      abbrev own : End
      own = answered_end First h command

      abbrev aborted : List End
      aborted = option_to_list (option_map aborted_record (record_aborted First h.waiting command.order))

      own_named : own.reference ≡ n
      own_named = end_named g

      bare : filter (is_of First own.reference) old.buffers.items ≡ []
      bare = ap (λ m. filter (is_of First m) old.buffers.items) own_named ∙ (f.kept n).none nothing.1

      -- it is told with its own code
      own_code : (answer_by old new own).code ≡ own.code
      own_code = decided_code _ _ own new.controller.settings.units new.flags _
          ∙ bare_same old.buffers.items own bytes bare

      -- its own end
      own_fits : FitsNow own
      own_fits t only = subst (λ x. FitsEnd c Told (left_with own (answer_by old new own)) x) same (record {
        unit = subst (λ x. IsUnitIn x bytes)
            (sym (answered_unit h.settings _ _ command (fault_of h.settings command)))
            (handed_unit old.controller.settings.units bytes g.long small);
        code = subst (λ x. IsCodeFor (cond (ends_formality x) x own.code) bytes)
            (sym (decided_code _ _ own new.controller.settings.units new.flags _))
            (bare_coded old.buffers.items own bytes bare
            (subst (λ x. IsCodeFor x bytes) (sym (answered_code h.settings _ _ command (fault_of h.settings command)))
            (handed_coded old.controller.settings.units bytes g.long plain)));
        about = λ long other is.
            let x = answered_about h.settings _ _ old.controller.settings.units bytes long other is in
            let told = answer_told old new own in (
              x.0,
              subst (λ x. x < 2 ^ 32) (sym x.0) (num_small bytes small),
              told.1 ∙ ap (λ c. status_told (verdicts.Served blocks.Good) c own.status told.0) own_code
                  ∙ ap (λ x. status_told (verdicts.Served blocks.Good) own.code x told.0) x.1
                  ∙ success_told own.code told.0 x.2,
            );
        polled = λ other figure is. (
          own_code,
          omega (
            arith,
            subst (λ b. figure_in b ≤ figure_polled h.settings First h.waiting command.order) is
                (own_figure h.settings _ (figure_polled h.settings First h.waiting command.order) command
                (fault_of h.settings command)),
            polled_low command.order,
          ),
        );
        same = λ none. own_code;
        made = inl (answer_of h bytes c settings is_text a.immediate (polled_low command.order)
            (left_with own (answer_by old new own)) refl (answer_told old new own));
      })
        where
          same : bytes ≡ t
          same = (first_of_one bytes t [] (sym (sole_comes (has_number n) aw bytes nothing.0 (eq-eqb n n refl))
              ∙ ap (λ m. filter (has_number m) (aw ++ bytes ∷ [])) (sym own_named) ∙ only)).0

          plain : is_formality (slice_index bytes 8) ≡ false
          plain = by (is_formality (slice_index bytes 8)) refl
            where
              by : (x : Bool) → is_formality (slice_index bytes 8) ≡ x → x ≡ false
              by x e = grind (arith, formal_queued)

          polled_low : (order : Order) → figure_polled h.settings First h.waiting order < 2 ^ 32
          polled_low (orders.Status other) = low other
          polled_low order = omega arith

      -- and that of the command that it aborts
      one_aborted : (m : ℕ) (x : Record) → find (is_numbered m) h.waiting ≡ Some x → FitsNow (aborted_record x)
      one_aborted m x found t only = by (k.each x.command.reference)
        where
          e : End
          e = aborted_record x

          number : x.command.reference ≡ m
          number = (number_of m x (found_is (is_numbered m) h.waiting x found)).1

          here : find (is_numbered x.command.reference) h.waiting ≡ Some x
          here = subst (λ j. find (is_numbered j) h.waiting ≡ Some x) (sym number) found

          by : At aw h.waiting (ends_of h) x.command.reference
              → FitsEnd c Told (left_with e (answer_by old new e)) t
          by (inl z) = absurd (none-some x (sym (none_found (is_numbered x.command.reference) h.waiting z.1) ∙ here))
          by (inr (inr z)) =
              absurd (none-some x (sym (none_found (is_numbered x.command.reference) h.waiting z.none) ∙ here))
          by (inr (inl w)) =
              let own_is : w.own ≡ x = same_Some w.own x
              (sym (found_sole (is_numbered x.command.reference) h.waiting w.own w.sole) ∙ here) in
              let before : filter (has_number x.command.reference) aw ≡ t ∷ [] =
              sym (none_beside (has_number x.command.reference) aw bytes (apart (nat_eq n x.command.reference) refl
              w.own w.sole)) ∙ only in
              let y = (f.kept x.command.reference).own w.own t w.sole before in
              plain_fits old.buffers.items x y.0 e (answer_by old new e) t (aborted_plain x) y.1
              (subst (λ z. FitsBuffer z y.0 t) own_is y.2)
              (decided_code _ _ e new.controller.settings.units new.flags _)
              (inr (inl (aborted_of x t (subst (λ z. IsOf z t) own_is y.2.of) _ refl (answer_told old new e))))
            where
              apart : (c : Bool) → nat_eq n x.command.reference ≡ c → (z : Record)
                  → filter (is_numbered x.command.reference) h.waiting ≡ z ∷ [] → c ≡ false
              apart c d z sole = grind (arith, some_none, is_numbered, eqb-true, nothing)

      aborted_fits : (order : Order) → AllByRecursion FitsNow
          (option_to_list (option_map aborted_record (record_aborted First h.waiting order)))
      aborted_fits (orders.Abort m) = by (find (is_numbered m) h.waiting) refl
        where
          by : (o : Option Record) → find (is_numbered m) h.waiting ≡ o
              → AllByRecursion FitsNow (option_to_list (option_map aborted_record o))
          by None found = tt
          by (Some x) found = (one_aborted m x found, tt)
      aborted_fits order = tt

      answered_fits : Fits
      answered_fits = record {
        long = grown_long c Told old new (answer_by old new) (answer_grows a f.long) f.long;
        kept = subst (λ rs. IsKeptEach (aw ++ bytes ∷ []) rs new.buffers.items)
            (sym (ap (λ (x : Holdings K). x.waiting) a.holds))
            (subst (λ bs. IsKeptEach (aw ++ bytes ∷ []) (unaborted First h.waiting command.order) bs) (sym a.sends.kept)
            (answer_kept aw h.waiting (ends_of h) old.buffers.items bytes command.order nothing.1 k.each f.kept));
        fits = grown_fits c Told old new (answer_by old new) (answer_grows a f.long) f.long (aw ++ bytes ∷ [])
            (every_beside c Told aw bytes (ends_of h) old.decided.items nothing.2 f.fits)
            (every_append FitsNow aborted (own ∷ []) (aborted_fits command.order) (own_fits, tt));
        followed = subst (λ es. AreFollowed Told (aw ++ bytes ∷ []) es) (sym (answer_ends a))
            (followed_more Told (aw ++ bytes ∷ []) (ends_of h) (aborted ++ own ∷ [])
            (followed_beside Told aw bytes (ends_of h) nothing.2 f.followed)
            (answers_follow Told h aw bytes g.long a.immediate own_named nothing.1));
      }

    gets_fits : After
    gets_fits = became (WasRead bytes (Ok done)) old new aw f calm (aw ++ bytes ∷ []) (ap (λ xs. aw ++ xs) g.taken)
        (elim g.how [ inl q ↦ queued_fits q | inr a ↦ answered_fits a ])

  pub read_fits : After
  read_fits = elim (read_is bytes done old new r) [
    | inl s ↦ stays (WasRead bytes (Ok done)) old new aw f calm refl s.1 s.0
    | inr g ↦ gets_fits g
  ]
