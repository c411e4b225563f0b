use Rattle.mscp_port.proofs.Common.{rules, ◌≡◌, ap, sym, subst, inl, inr, true, arith, num, Port, IsReadingSlot, IsReadingText, in_hand, is_owned}
use Rattle.mscp_port.proofs.Known.{held_on}
use Rattle.mscp_port.proofs.port.Port.was_read.Goals as goal

pub returns-in-Text : goal.returns-in-Text
returns-in-Text g c = record {
  dead = search rules;
  taken = search rules;
  only = search rules;
  unasked = tt;
  sees = search rules;
  frame = c.see_text.ensures.frame;
  serial = elim c.see_text.ensures.frame [
    | inl same ↦ ap (λ (p : Port g.row.K.Denot). p.serial) same
    | inr dies ↦ dies.1.serial
  ];
  learns = record {
    packet = held_on (in_hand c.see_text.new.self.task) (in_hand c.args.self.now.task) c.in-Text.slot.word
        (λ word. IsReadingSlot c.args.self.now.task × (word ≡ num c.args.bytes.now 0 4) × (is_owned word ≡ true))
        (ap in_hand c.in-Text.is) c.see_text.ensures.packet;
    buffers = λ b there. elim (c.see_text.ensures.kept b there) [
      | inl before ↦ inl before
      | inr named ↦ inr (subst IsReadingText (sym c.in-Text.is) tt, named.0, named.1)
    ];
  };
  settings = search rules;
  handed = search rules;
  own = search rules;
  nothing_else = λ no. absurd (no (subst IsReadingText (sym c.in-Text.is) tt));
  out = elim c.see_text.ensures.out [
    | inl same ↦ inl same
    | inr own ↦ inr (inl (c.in-Text.slot, c.in-Text.length, c.in-Text.is_foreign, c.in-Text.is, own))
  ];
}

pub returns-in-Slot : goal.returns-in-Slot
returns-in-Slot g c = search arith

pub returns-in-Header : goal.returns-in-Header
returns-in-Header g c = search arith
