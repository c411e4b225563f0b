-- An end that answers a message, or that of a command which is aborted, tells of its unit what is so.
use Rattle.mscp_logged.proofs.Common.{Answer, Bool, Command, Decided, End, First, Hardware, IsPast, List, None, Option, Order, Own, Record, Settings, Shape, Some, Volume, aborted_record, answer_by, ap, arith, brings, command_of, describes, end_with_body, ends_formality, eqb-true, false, fault_of, inl, inr, is_queued, of, or_right, own_answer, own_cases, own_end, own_end_with, own_formal, own_refused, own_text, refl, refused_apart, sent_by, sent_says, slice_index, status_after, subst, sym, tells_unit, true, unit_found, unit_state, ℕ, ◌%◌, ◌+◌, ◌<◌, ◌^◌, ◌∙◌, ◌≡◌, ◌⊎◌}
use Rattle.mscp_packet.specs.declared.command.Order.TheVariants as orders
use Rattle.mscp_drive.specs.declared.block.Block.TheVariants as blocks
use Rattle.mscp_port.specs.declared.verdict.Verdict.TheVariants as verdicts
use Rattle.mscp_logged.proofs.Describing.{IsAsWas, IsTold, Tells, same_volume}
use Rattle.mscp_logged.proofs.Stepped.{IsDecided, IsTelling, formal_telling}
use Rattle.mscp_ported.proofs.Rows.{formal_opcode}
use Rattle.mscp_logged.proofs.Texts.{text_with}
use Rattle.mscp_logged.proofs.Worded.{Reads, describes_so, text_reads, text_unit}

-- ---- one that doesn't tell what its unit is

silent : (o : Option Shape) (v : Volume) (a : Answer) → (describes a ≡ true → ⊥) → Tells o v v a
silent o v a never = grind arith

pub silent_told : (u : ℕ) (o : Option Shape) (v : Volume) (text : List ℕ)
    → (describes (answer_by First text) ≡ true → ⊥) → IsTold u o v v text
silent_told u o v text never = grind arith

-- one that describes its unit is told with its own code
told_plain : (h : Hardware) (units : List Shape) (e : End) (d : Decided)
    → (ends_formality d.code ≡ false → Reads (answer_by First (text_with h units e d)) e.code d.status → ⊥)
    → describes (answer_by First (text_with h units e d)) ≡ true → ⊥
told_plain h units e d never is = grind (arith, text_reads, formal_telling, describes_so)

-- and with no status that is no Success
failed : (h : Hardware) (units : List Shape) (e : End) (d : Decided)
    → (ends_formality d.code ≡ false → d.status % 32 ≡ 0 → ⊥)
    → describes (answer_by First (text_with h units e d)) ≡ true → ⊥
failed h units e d never is = told_plain h units e d
    (λ plain reads. never plain (sym reads.low ∙ (describes_so (answer_by First (text_with h units e d)) is).good)) is

-- nor another code
uncoded : (h : Hardware) (units : List Shape) (e : End) (d : Decided) → (IsTelling e.code → ⊥)
    → describes (answer_by First (text_with h units e d)) ≡ true → ⊥
uncoded h units e d never is = told_plain h units e d (λ plain reads. never (subst (λ c. IsTelling c) reads.code
    (describes_so (answer_by First (text_with h units e d)) is).code)) is

-- ---- statuses

-- the code of a status that is no Success, and isn't that of a unit that is available, stays
bad_after : (v : Volume) (code status : ℕ) → (status % 32 ≡ 0 → ⊥) → (status % 32 ≡ 4 → ⊥)
    → status_after (verdicts.Served blocks.Good) code status v % 32 ≡ 0 → ⊥
bad_after v code status never other is = grind (arith, eqb-true)

-- ---- the end of a command that is aborted

pub aborted_told : (h : Hardware) (units : List Shape) (r : Record) (d : Decided) (v : Volume) (u : ℕ)
    (o : Option Shape) (w : Volume) → IsDecided units (verdicts.Served blocks.Good) w w (aborted_record r) d
    → IsTold u o v v (text_with h units (aborted_record r) d)
aborted_told h units r d v u o w decided = silent_told u o v (text_with h units (aborted_record r) d)
    (failed h units (aborted_record r) d (λ plain is. bad_after w (aborted_record r).code 2 (λ e. search (arith, e))
    (λ e. search (arith, e)) (ap (λ n. n % 32) (sym (decided.status plain)) ∙ is)))

-- ---- a reply

module _ (h : Hardware) (c : Settings) (online : Bool) (figure : ℕ) (sent : List ℕ)
    (immediate : is_queued c (command_of sent) ≡ false) (small : (command_of sent).unit < 2 ^ 16) (d : Decided)
    (volume : ℕ → Volume)
    (decided : IsDecided c.units (verdicts.Served blocks.Good) (volume (command_of sent).unit)
    (volume (command_of sent).unit) (own_end c online figure (command_of sent)) d) where
  abbrev k : Command
  k = command_of sent

  abbrev e : End
  e = own_end c online figure (command_of sent)

  abbrev v : Volume
  v = volume (command_of sent).unit

  abbrev text : List ℕ
  text = text_with h c.units (own_end c online figure (command_of sent)) d

  abbrev So : Type 0
  So = (u : ℕ) → IsTold u (unit_found c.units u) (volume u) (volume u) text

  never_so : (describes (answer_by First text) ≡ true → ⊥) → So
  never_so never u = silent_told u (unit_found c.units u) (volume u) text never

  refused : (status : ℕ) → fault_of c k ≡ Some status → So
  refused status fault = never_so (failed h c.units e d (λ plain is. bad_after v e.code status not_good not_available
      (ap (λ n. n % 32) (sym (decided.status plain
      ∙ ap (λ n. status_after (verdicts.Served blocks.Good) e.code n v) of_status)) ∙ is)))
    where
      of_status : e.status ≡ status
      of_status = ap (λ o. (own_end_with c online figure (command_of sent) o).status) fault

      either : (status % 32 ≡ 1) ⊎ (status % 32 ≡ 3)
      either = refused_apart c k.unit status k.order (sent_by First sent) (sent_says First sent) fault

      not_good : status % 32 ≡ 0 → ⊥
      not_good good = elim either [ inl x ↦ search (arith, sym x ∙ good) | inr x ↦ search (arith, sym x ∙ good) ]

      not_available : status % 32 ≡ 4 → ⊥
      not_available good = grind (arith, either)

  -- that of a GET UNIT STATUS
  module _ (of : k.order ≡ orders.UnitStatus) (none : fault_of c k ≡ None) where
    pub end_is : e ≡ own_end_with c online figure (record (command_of sent) { order = orders.UnitStatus }) None
    end_is = grind arith

    pub state_told : ends_formality d.code ≡ false → d.status ≡ unit_state v
    state_told plain = grind arith

    tells : Tells (unit_found c.units k.unit) v v (answer_by First text)
    tells = by (text_reads h c.units e d)
      where
        a : Answer
        a = answer_by First text

        by : ((ends_formality d.code ≡ true) × Reads a d.code d.status)
            ⊎ ((ends_formality d.code ≡ false)
            × (text ≡ end_with_body e.body e d (unit_found c.units e.unit) h) × Reads a e.code d.status)
            → Tells (unit_found c.units k.unit) v v a
        by (inl x) = silent (unit_found c.units k.unit) v a
            (λ is. formal_telling d.code x.0 (subst (λ n. IsTelling n) x.1.code (describes_so a is).code))
        by (inr x) = grind arith

  pub reply_told : So
  reply_told = by (fault_of c k) refl
    where
      open_so : fault_of c k ≡ None → (order : Order) → k.order ≡ order → So
      open_so none order of = grind (arith, same_volume, text_unit, end_is, eqb-true, tells, never_so, uncoded, of)

      by : (o : Option ℕ) → fault_of c k ≡ o → So
      by None none = open_so none k.order refl
      by (Some status) fault = refused status fault

-- ---- one of the port's own

own_silent : (v : Option Volume) (b : List ℕ) (own : Own) → own_answer false v b ≡ Some own
    → describes (answer_by First (own_text b own)) ≡ true → ⊥
own_silent v b = own_cases v b (λ own. describes (answer_by First (own_text b own)) ≡ true → ⊥)
    (λ asks is. formal_opcode (λ n. IsTelling (n + 0x80) → ⊥) (λ t. search (arith, t)) (λ t. search (arith, t))
    (λ t. search (arith, t)) (slice_index b 8) asks
    (describes_so (answer_by First (own_text b (own_formal b))) is).code)
    (λ status moves past. by status past)
  where
    by : (status : ℕ) → IsPast status → describes (answer_by First (own_text b (own_refused b status))) ≡ true → ⊥
    by status x = grind arith

pub own_told : (u : ℕ) (o : Option Shape) {v w : Volume} (x : Option Volume) (b : List ℕ) (own : Own)
    → own_answer false x b ≡ Some own → IsAsWas v w → IsTold u o v w (own_text b own)
own_told u o x b own answer still = record {
  own = λ here. record {
    described = λ is. absurd (own_silent x b own answer is);
    told = λ is unsure. absurd (own_silent x b own answer
        (or_right (brings (answer_by First (own_text b own))) (tells_unit (answer_by First (own_text b own))) is));
    stays = λ none. still;
  };
  other = λ here. still;
}
