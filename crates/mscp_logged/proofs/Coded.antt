-- An end that fits its message has the unit and the endcode of its command.
use Rattle.mscp_logged.proofs.Common.{Answer, First, Fits, IsCodeFor, IsUnitFor, List, None, Outgoing, Port, Sent, ap, arith, eq-eqb, eqb-true, false, false≢true, has_endcode, inl, inr, is_required, names_unit, num, opcode_of, own_answer, own_coded, sent_by, slice_index, small_unit, sym, true, two, volume_named, ℕ, ◌+◌, ◌<◌, ◌^◌, ◌∙◌, ◌≡◌, ◌≢◌, ◌⊎◌}
use Rattle.mscp_port.specs.declared.port.OutgoingKind.TheVariants as kinds
use Rattle.mscp_logged.proofs.Own.{IsOwn, of_disk}
use Rattle.mscp_logged.proofs.Wired.{stem}

-- no controller may leave out an opcode that isn't known
none_required : (n : ℕ) → opcode_of n ≡ None → is_required n ≡ false
none_required n e = grind (arith, e)

pub endcode_right : (y : Sent) (e : Answer) (message : List ℕ) → y.opcode ≡ slice_index message 8
    → IsCodeFor e.code message → has_endcode y e ≡ true
endcode_right y e message is code = grind (arith, none_required, eqb-true, false≢true, eq-eqb)

-- an answer of the port's own fits its message, as an end of the controller's does
pub own_fits : {K : Type 0} (old : Port K) (text : List ℕ) (o : Outgoing) → ((i : ℕ) → slice_index text i < 2 ^ 8)
    → IsOwn old text o → o.kind ≡ kinds.End → Fits o.bytes.items text
own_fits old text o small own kind = record {
  unit = inl (ap (λ b. num b 4 2) own.own.2 ∙ two (num text 4 2) (small_unit text small));
  code = inr (ap (λ b. slice_index b 8) own.own.2 ∙ coded.0);
  about = λ code long. absurd (neither code);
  succeeds = λ code long. absurd (neither code);
}
  where
    coded : (own.own.0.code ≡ slice_index text 8 + 0x80) × (own.own.0.code ≢ 0x82) × (own.own.0.code ≢ 0x81)
    coded = own_coded (volume_named old text) text own.own.0
        (ap (λ f. own_answer f (volume_named old text) text) (sym (of_disk old text o own kind)) ∙ own.own.1)

    neither : (slice_index o.bytes.items 8 ≡ 0x81) ⊎ (slice_index o.bytes.items 8 ≡ 0x82) → ⊥
    neither x = grind (arith, coded)

-- ---- units

pub unit_right : (y : Sent) (e : Answer) (message : List ℕ) → stem y ≡ sent_by First message → IsUnitFor e.unit message
    → names_unit y e ≡ true
unit_right y e message is x = grind arith
