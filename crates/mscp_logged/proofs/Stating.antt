-- An end that answers a message, or that of a command which is aborted, says that its unit is online, or that it isn't,
-- only if that is so.
use Rattle.mscp_logged.proofs.Common.{Answer, AsksFor, Bool, Command, Decided, End, First, Hardware, IsPast, List, None, Option, Order, Own, Record, Sent, Settings, Shape, Some, Volume, aborted_record, answer_by, ap, arith, command_of, end_with_body, endcode, ends_formality, eqb-true, false, fault_of, inl, inr, is_queued, order_fault, own_answer, own_cases, own_end, own_end_with, own_refused, own_text, refl, refused_apart, sent_by, sent_says, slice_index, status_after, true, unit_state, ℕ, ◌%◌, ◌+◌, ◌/◌, ◌<◌, ◌^◌, ◌∙◌, ◌≡◌, ◌⊎◌}
use Rattle.mscp_packet.specs.declared.command.Order.TheVariants as orders
use Rattle.mscp_drive.specs.Settings.{unit_found}
use Rattle.mscp_drive.specs.UnitList as list
use Rattle.mscp_drive.specs.declared.block.Block.TheVariants as blocks
use Rattle.mscp_port.specs.declared.verdict.Verdict.TheVariants as verdicts
use Rattle.mscp_logged.proofs.Away.{IsPlaced, Says}
use Rattle.mscp_logged.proofs.Describing.{IsAsWas, same_volume}
use Rattle.mscp_logged.proofs.Placing.{IsAwayCode, IsOnlineCode, away_parts, formal_away, formal_online, online_parts}
use Rattle.mscp_logged.proofs.Replied.{end_is}
use Rattle.mscp_logged.proofs.Stepped.{IsDecided}
use Rattle.mscp_ported.proofs.Origins.{formal_code}
use Rattle.mscp_logged.proofs.Texts.{text_with}
use Rattle.mscp_logged.proofs.Worded.{Reads, text_reads, text_unit}

-- ---- one that says neither

-- by its code, or by the code of its status
abbrev IsMute : ℕ → ℕ → Type 0
IsMute code status = ((bit : ℕ) → status ≡ 0 → IsOnlineCode code bit → ⊥) × (IsAwayCode code status → ⊥)

mute : (v : Volume) (a : Answer) → IsMute a.code (a.status % 32) → Says v v a
mute v a m = record {
  online = λ says. let p = online_parts a says in absurd (m.0 (a.status / 256 % 2) p.0 p.1);
  away = λ says. absurd (m.1 (away_parts a says));
  stays = λ none is. (is, same_volume v);
}

pub mute_placed : (u : ℕ) (v : Volume) (text : List ℕ)
    → IsMute (answer_by First text).code ((answer_by First text).status % 32) → IsPlaced u v v text
mute_placed u v text m = grind (arith, mute, same_volume)

formal_mute : (code status : ℕ) → ends_formality code ≡ true → IsMute code status
formal_mute code status is = ((λ bit zero on. formal_online code bit is on), λ away. formal_away code status is away)

-- statuses of no unit: Invalid Command and Command Aborted
abbrev IsOther : ℕ → Type 0
IsOther status = (status ≡ 1) ⊎ (status ≡ 2)

other_mute : (code status : ℕ) → IsOther status → IsMute code status
other_mute code status is = grind arith

module _ (h : Hardware) (units : List Shape) (e : End) (d : Decided) where
  abbrev end_answer : Answer
  end_answer = answer_by First (text_with h units e d)

  text_mute : (ends_formality d.code ≡ false → IsMute e.code (d.status % 32))
      → IsMute end_answer.code (end_answer.status % 32)
  text_mute m = by (text_reads h units e d)
    where
      by : ((ends_formality d.code ≡ true) × Reads end_answer d.code d.status)
          ⊎ ((ends_formality d.code ≡ false)
          × (text_with h units e d ≡ end_with_body e.body e d (list.unit_found units e.unit) h)
          × Reads end_answer e.code d.status) → IsMute end_answer.code (end_answer.status % 32)
      by (inl x) = rw x.1.code (formal_mute d.code (end_answer.status % 32) x.0)
      by (inr x) = rw x.2.code (rw x.2.low (m x.0))

-- ---- statuses

-- a status that is told as it is
kept_after : (v : Volume) (code status : ℕ) → (status % 32 ≡ 0 → ⊥) → (status % 32 ≡ 4 → ⊥)
    → status_after (verdicts.Served blocks.Good) code status v ≡ status
kept_after v code status never other = grind (arith, eqb-true)

-- the end of a command that is aborted
pub aborted_placed : (h : Hardware) (units : List Shape) (r : Record) (d : Decided) (v : Volume) (u : ℕ) (w : Volume)
    → IsDecided units (verdicts.Served blocks.Good) w w (aborted_record r) d
    → IsPlaced u v v (text_with h units (aborted_record r) d)
aborted_placed h units r d v u w decided = mute_placed u v (text_with h units (aborted_record r) d)
    (text_mute h units (aborted_record r) d (λ plain. other_mute (aborted_record r).code (d.status % 32) (inr
    (ap (λ n. n % 32) (decided.status plain ∙ kept_after w (aborted_record r).code 2 (λ e. search (arith, e))
    (λ e. search (arith, e)))))))

module _ (c : Settings) (unit status : ℕ) (three : status % 32 ≡ 3) where
  offline_none : (o : Order) (s : Sent) → AsksFor o s → order_fault c unit o ≡ Some status → unit_found c unit ≡ None
  offline_none order s says e = grind arith

-- ---- a reply

module _ (h : Hardware) (c : Settings) (online : Bool) (figure : ℕ) (sent : List ℕ)
    (immediate : is_queued c (command_of sent) ≡ false) (small : (command_of sent).unit < 2 ^ 16) (d : Decided)
    (volume : ℕ → Volume)
    (decided : IsDecided c.units (verdicts.Served blocks.Good) (volume (command_of sent).unit)
    (volume (command_of sent).unit) (own_end c online figure (command_of sent)) d)
    (missing : (u : ℕ) → unit_found c u ≡ None → (volume u).is_mounted ≡ false) where
  abbrev k : Command
  k = command_of sent

  abbrev e : End
  e = own_end c online figure (command_of sent)

  abbrev v : Volume
  v = volume (command_of sent).unit

  abbrev text : List ℕ
  text = text_with h c.units (own_end c online figure (command_of sent)) d

  abbrev a : Answer
  a = answer_by First text

  abbrev So : Type 0
  So = (u : ℕ) → IsPlaced u (volume u) (volume u) text

  unit_is : e.unit ≡ k.unit
  unit_is = grind arith

  own_so : Says v v a → So
  own_so says u = grind (arith, same_volume, text_unit, unit_is, eqb-true)

  never_so : (ends_formality d.code ≡ false → IsMute e.code (d.status % 32)) → So
  never_so m u = mute_placed u (volume u) text (text_mute h c.units e d m)

  refused : (status : ℕ) → fault_of c k ≡ Some status → So
  refused status fault = by (refused_apart c k.unit status k.order (sent_by First sent) (sent_says First sent) fault)
    where
      told : (status % 32 ≡ 0 → ⊥) → (status % 32 ≡ 4 → ⊥) → ends_formality d.code ≡ false
          → d.status % 32 ≡ status % 32
      told never other plain = grind (arith, kept_after)

      by : (status % 32 ≡ 1) ⊎ (status % 32 ≡ 3) → So
      by (inl one) = grind (arith, never_so, other_mute, told)
      by (inr three) = own_so (from (text_reads h c.units e d))
        where
          none : (volume k.unit).is_mounted ≡ false
          none = missing k.unit
              (offline_none c k.unit status three k.order (sent_by First sent) (sent_says First sent) fault)

          from : ((ends_formality d.code ≡ true) × Reads a d.code d.status)
              ⊎ ((ends_formality d.code ≡ false)
              × (text ≡ end_with_body e.body e d (list.unit_found c.units e.unit) h) × Reads a e.code d.status)
              → Says v v a
          from (inl x) = mute v a (rw x.1.code (formal_mute d.code (a.status % 32) x.0))
          from (inr x) = grind (arith, online_parts, told, none, same_volume)

  coded : (order : Order) → k.order ≡ order → (code : ℕ) → endcode order ≡ code → fault_of c k ≡ None
      → ((status : ℕ) → IsMute code status) → So
  coded order of code is none m = never_so
      (λ plain. rw (ap (λ o. (own_end_with c online figure (command_of sent) o).code) none ∙ ap endcode of ∙ is)
      (m (d.status % 32)))

  status_says : (of : k.order ≡ orders.UnitStatus) (none : fault_of c k ≡ None) → Says v v a
  status_says of none = from (text_reads h c.units e d)
    where
      code : e.code ≡ 0x83
      code = ap (λ (x : End). x.code) (end_is h c online figure sent immediate small d volume decided of none)

      away : (s : ℕ) → s ≡ unit_state v % 32 → IsAwayCode 0x83 s → v.is_mounted ≡ false
      away s is x = grind arith

      from : ((ends_formality d.code ≡ true) × Reads a d.code d.status)
          ⊎ ((ends_formality d.code ≡ false)
          × (text ≡ end_with_body e.body e d (list.unit_found c.units e.unit) h) × Reads a e.code d.status)
          → Says v v a
      from (inl x) = mute v a (rw x.1.code (formal_mute d.code (a.status % 32) x.0))
      from (inr x) = grind arith

  pub reply_placed : So
  reply_placed = by (fault_of c k) refl
    where
      open_so : fault_of c k ≡ None → (order : Order) → k.order ≡ order → So
      open_so none (orders.Abort other) of = coded (orders.Abort other) of 0x81 refl none
          (λ status. ((λ bit zero on. grind (arith, on)), λ away. grind (arith, away)))
      open_so none (orders.Status other) of = coded (orders.Status other) of 0x82 refl none
          (λ status. ((λ bit zero on. grind (arith, on)), λ away. grind (arith, away)))
      open_so none (orders.SetController version) of = coded (orders.SetController version) of 0x84 refl none
          (λ status. ((λ bit zero on. grind (arith, on)), λ away. grind (arith, away)))
      open_so none order of = grind (arith, own_so, status_says, none)

      by : (o : Option ℕ) → fault_of c k ≡ o → So
      by None none = open_so none k.order refl
      by (Some status) fault = refused status fault

-- ---- one of the port's own

own_mute : (v : Option Volume) (b : List ℕ) (own : Own) → own_answer false v b ≡ Some own
    → IsMute (answer_by First (own_text b own)).code ((answer_by First (own_text b own)).status % 32)
own_mute v b = own_cases v b
    (λ own. IsMute (answer_by First (own_text b own)).code ((answer_by First (own_text b own)).status % 32))
    (λ asks. formal_mute (slice_index b 8 + 0x80) 0
    (formal_code (slice_index b 8) asks))
    (λ status moves past. by status past)
  where
    by : (status : ℕ) → IsPast status → IsMute (answer_by First (own_text b (own_refused b status))).code
        ((answer_by First (own_text b (own_refused b status))).status % 32)
    by status x = grind arith

pub own_placed : (u : ℕ) {v w : Volume} (x : Option Volume) (b : List ℕ) (own : Own) → own_answer false x b ≡ Some own
    → IsAsWas v w → IsPlaced u v w (own_text b own)
own_placed u x b own answer still = record {
  own = λ here. record {
    online = λ says. let p = online_parts (answer_by First (own_text b own)) says in
        absurd ((own_mute x b own answer).0 ((answer_by First (own_text b own)).status / 256 % 2) p.0 p.1);
    away = λ says. absurd ((own_mute x b own answer).1 (away_parts (answer_by First (own_text b own)) says));
    stays = λ none. still;
  };
  other = λ here. still;
}
