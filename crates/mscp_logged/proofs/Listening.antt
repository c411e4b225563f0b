-- By a message that is read the ends that come tell of their units what is so.
use Rattle.mscp_logged.proofs.Common.{Answers, Bool, Command, End, First, Gets, Hardware, Hears, Holdings, Kept, List, None, Ok, Option, Port, Record, Settings, Some, Volume, WasRead, [], aborted_record, answer_decided, answer_ends, answered_end, ap, append-nil, arith, command_of, drive_of, ends_of, false, figure_polled, handed, inl, inr, is_dead, kept_of, length, map, option_map, option_to_list, read_is, record_aborted, slice_index, subst, sym, taken_by, unit_found, volume_found, ℕ, ◌++◌, ◌<◌, ◌^◌, ◌∙◌, ◌∷◌, ◌≡◌, fault_of, answered_unit}
use Rattle.mscp_drive.specs.declared.block.Block.TheVariants as blocks
use Rattle.mscp_port.specs.declared.verdict.Verdict.TheVariants as verdicts
use Rattle.mscp_ported.proofs.Tables.{answer_by}
use Rattle.mscp_logged.proofs.Bytes.{handed_small}
use Rattle.mscp_logged.proofs.Describing.{IsTold}
use Rattle.mscp_logged.proofs.Moored.{alive, found_as, missing, read_volumes, volumes_still}
use Rattle.mscp_logged.proofs.Replied.{aborted_told, reply_told}
use Rattle.mscp_logged.proofs.Away.{IsPlaced}
use Rattle.mscp_logged.proofs.Stating.{aborted_placed, reply_placed}
use Rattle.mscp_logged.proofs.Speaking.{Each, Speaks}
use Rattle.mscp_logged.proofs.Stepped.{IsDecided, decided_so}
use Rattle.mscp_logged.proofs.Texts.{text_with, texts_more, texts_of}

module _ {K : Type 0} (bytes : List ℕ) (done : Unit) (old new : Port K) (aw : List (List ℕ)) (k : Kept old aw)
    (r : Hears bytes old (Ok done) new) (small : (i : ℕ) → slice_index bytes i < 2 ^ 8)
    (long : length (ends_of old.controller) ≡ length old.decided.items) (lives : is_dead new.stage ≡ false)
    (hw : Hardware) (c : Settings) (settings : old.controller.settings ≡ c) (F : Type 0) where
  -- and if the controller took none, none come
  abbrev pub So : Type 0
  So = (more : List (List ℕ)) × Speaks hw c.units F old new more
      × (taken_by (WasRead bytes (Ok done)) old ≡ [] → more ≡ [])

  volumes : new.volumes ≡ old.volumes
  volumes = alive old new lives (read_volumes old new bytes (Ok done) r)

  now : new.controller.settings ≡ c
  now = r.settings ∙ settings

  none_so : ends_of new.controller ≡ ends_of old.controller → new.decided.items ≡ old.decided.items → So
  none_so ends decided = grind (arith, append-nil, found_as, volumes_still, volumes)

  -- the controller took it, and answers it at once
  module _ (g : Gets bytes done old new) (a : Answers g.slot bytes old new) where
    abbrev h : Holdings K
    h = old.controller

    abbrev sent : List ℕ
    sent = handed old.controller.settings.units bytes

    abbrev command : Command
    command = command_of (handed old.controller.settings.units bytes)

    abbrev own : End
    own = answered_end First h command

    abbrev aborted : Option Record → List End
    aborted x = option_to_list (option_map aborted_record x)

    abbrev text : End → List ℕ
    text e = text_with hw c.units e (answer_by old new e)

    decided : (e : End) → IsDecided c.units (verdicts.Served blocks.Good) (volume_found c.units new.volumes e.unit)
        (volume_found c.units new.volumes e.unit) e (answer_by old new e)
    decided e = rw (← now) (decided_so new.controller.settings.units (verdicts.Served blocks.Good)
        (volume_found new.controller.settings.units new.volumes e.unit) (volume_found new.controller.settings.units
        new.volumes e.unit) e (kept_of First e.reference old.buffers.items) new.flags)

    abbrev W : ℕ → Volume
    W u = volume_found c.units new.volumes u

    abbrev online : Bool
    online = (drive_of h.drives command.unit).online

    abbrev figure : ℕ
    figure = figure_polled h.settings First h.waiting command.order

    own_decided : IsDecided h.settings.units (verdicts.Served blocks.Good) (W command.unit) (W command.unit) own
        (answer_by old new own)
    own_decided = subst (λ s. IsDecided s.units (verdicts.Served blocks.Good) (W command.unit) (W command.unit) own
        (answer_by old new own)) (sym settings)
        (subst (λ n. IsDecided c.units (verdicts.Served blocks.Good) (W n) (W n) own (answer_by old new own))
        (answered_unit h.settings online figure command (fault_of h.settings command)) (decided own))

    few_unit : command.unit < 2 ^ 16
    few_unit = handed_small old.controller.settings.units bytes g.long small

    own_told : (u : ℕ) → IsTold u (unit_found c.units u) (W u) (W u) (text own)
    own_told u = subst (λ s. IsTold u (unit_found s.units u) (W u) (W u) (text_with hw s.units own
        (answer_by old new own))) settings
        (reply_told hw h.settings online figure sent a.immediate few_unit (answer_by old new own) W own_decided u)

    own_placed : (u : ℕ) → IsPlaced u (W u) (W u) (text own)
    own_placed u = subst (λ s. IsPlaced u (W u) (W u) (text_with hw s.units own (answer_by old new own))) settings
        (reply_placed hw h.settings online figure sent a.immediate few_unit (answer_by old new own) W own_decided
        (λ n none. missing c.units new.volumes n (subst (λ s. unit_found s.units n ≡ None) settings none)) u)

    told_so : (x : Option Record) (u : ℕ)
        → Each (IsTold u (unit_found c.units u)) (W u) (W u) (map text (aborted x ++ own ∷ []))
    told_so None u = own_told u
    told_so (Some x) u = (
      aborted_told hw c.units x (answer_by old new (aborted_record x)) (W u) u (unit_found c.units u)
          (W (aborted_record x).unit) (decided (aborted_record x)),
      own_told u,
    )

    placed_so : (x : Option Record) (u : ℕ) → Each (IsPlaced u) (W u) (W u) (map text (aborted x ++ own ∷ []))
    placed_so None u = own_placed u
    placed_so (Some x) u = (
      aborted_placed hw c.units x (answer_by old new (aborted_record x)) (W u) u (W (aborted_record x).unit)
          (decided (aborted_record x)),
      own_placed u,
    )

    answered_so : So
    answered_so = (
      map text (aborted (record_aborted First h.waiting command.order) ++ own ∷ []),
      record {
        behind = ap (λ es. texts_of hw c.units es new.decided.items) (answer_ends a)
            ∙ ap (texts_of hw c.units (ends_of h
            ++ (aborted (record_aborted First h.waiting command.order) ++ own ∷ []))) (answer_decided a long)
            ∙ texts_more hw c.units (ends_of h)
            (aborted (record_aborted First h.waiting command.order) ++ own ∷ []) old.decided.items
            (answer_by old new) long;
        told = λ u. rw (← volumes) (told_so (record_aborted First h.waiting command.order) u);
        placed = λ f u. rw (← volumes) (placed_so (record_aborted First h.waiting command.order) u);
      },
      λ taken. absurd (search (arith, sym g.taken ∙ taken)),
    )

  pub read_speaks : So
  read_speaks = elim (read_is bytes done old new r) [
    | inl s ↦ elim s.0 [
      | inl same ↦ none_so (ap (λ (h : Holdings K). ends_of h) same.0) (ap (λ d. d.items) same.1)
      | inr d ↦ absurd (search (arith, lives, ap is_dead d.1.stage))
    ]
    | inr g ↦ elim g.how [
      | inl q ↦ none_so (ap (λ (h : Holdings K). ends_of h) q.holds) q.sends.decided
      | inr a ↦ answered_so g a
    ]
  ]
