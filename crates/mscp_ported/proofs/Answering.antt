-- What a port answers itself.
use Rattle.mscp_ported.proofs.Common.{Answered, AsksAlways, Bool, Call, Command, Commands, Descriptor, End, First, Hardware, Holdings, IsHandedOver, IsMadeOf, IsOwnAnswer, IsSomeAnd, List, None, Ok, Opened, Option, Outgoing, Own, Picking, Port, Shape, Slot, Some, Task, Volume, WasRead, [], after_message, answer_to_message, ap, append-nil, arith, asks_nothing, bare_end, come, command_of, cond, end_bytes, end_kind, false, handed, inl, inr, is_for_utilities, is_none, length, nat_le, nat_lt, none-some, num, of, option_map, own_answer, own_end, own_end_of, own_refusal, own_text, poll_brings, polls_bring, refl, refused_end, same_Some, slice_index, subst, sym, talk_of, text_handed, true, volume_named, volume_refusal, ℕ, ◌++◌, ◌+◌, ◌∙◌, ◌∷◌, ◌≡◌, ◌≤◌, port_answers, is_transfer_opcode}
use Rattle.std.proofs.Common.{find}
use Rattle.std.specs.Prelude.{◌&&◌}
use Rattle.mscp_packet.specs.declared.command.Order.TheVariants as orders
use Rattle.mscp_port.specs.declared.task.Task.TheVariants as tasks
use Rattle.mscp_ported.proofs.Coming.{come_so, ends_of}
use Rattle.mscp_ported.proofs.Following.{in_step}
use Rattle.mscp_ported.proofs.Silent.{none_waits}
use Rattle.mscp_ported.proofs.Look.{Fits, Look, look, slot_at}

refusal_so : (o : Option Volume) (b : List ℕ) → volume_refusal o b ≡ own_refusal b o
refusal_so None b = refl
refusal_so (Some x) b = refl

-- the end is that of the table
pub own_so : (foreign : Bool) (v : Option Volume) (b : List ℕ) (e : End) → own_end foreign v b ≡ Some e
    → (own : Own) × (own_answer foreign v b ≡ Some own) × (end_bytes e ≡ own_text b own)
own_so true v b e some = (
  record { code = 0x80; status = 0x0801; tells_bytes = false },
  refl,
  ap end_bytes (sym (same_Some (bare_end b 0x80 0x0801) e some)),
)
own_so false v b e some = by (is_none v && asks_nothing (slice_index b 8)) some
  where
    refused : (o : Option ℕ) → option_map (refused_end b) o ≡ Some e
        → (own : Own) × (option_map (λ status. record {
          code = slice_index b 8 + 0x80;
          status = status;
          tells_bytes = true;
        }) o ≡ Some own) × (end_bytes e ≡ own_text b own)
    refused None h = absurd (none-some e h)
    refused (Some status) h = (
      record { code = slice_index b 8 + 0x80; status = status; tells_bytes = true },
      refl,
      ap end_bytes (sym (same_Some (refused_end b status) e h)),
    )

    by : (c : Bool) → cond c (Some (bare_end b (slice_index b 8 + 0x80) 0))
        (option_map (refused_end b) (volume_refusal v b)) ≡ Some e
        → (own : Own) × (cond c (Some (record { code = slice_index b 8 + 0x80; status = 0; tells_bytes = false }))
        (option_map (λ status. record { code = slice_index b 8 + 0x80; status = status; tells_bytes = true })
        (own_refusal b v)) ≡ Some own) × (end_bytes e ≡ own_text b own)
    by true h = (
      record { code = slice_index b 8 + 0x80; status = 0; tells_bytes = false },
      refl,
      ap end_bytes (sym (same_Some (bare_end b (slice_index b 8 + 0x80) 0) e h)),
    )
    by false h = subst (λ o. (own : Own) × (option_map (λ status. record {
      code = slice_index b 8 + 0x80;
      status = status;
      tells_bytes = true;
    }) o ≡ Some own) × (end_bytes e ≡ own_text b own)) (refusal_so v b) (refused (volume_refusal v b) h)

-- and where the port makes none, the table has none
refusing : List ℕ → ℕ → Own
refusing b status = record { code = slice_index b 8 + 0x80; status = status; tells_bytes = true }

pub none_so : (foreign : Bool) (v : Option Volume) (b : List ℕ) → own_end foreign v b ≡ None
    → own_answer foreign v b ≡ None
unfolding refusing
none_so foreign v b e = grind (arith, none-some, refusing, refusal_so)

-- the text that is handed over is that of the table
pub handed_so : (units : List Shape) (b : List ℕ) → handed units b ≡ text_handed units b
handed_so units b = grind (arith, find, nat_le)

-- where a text is to be read, it is of the connection of its header
is_text : (l : Look) (task : Task) (slot : Slot) (header : ℕ) → Fits l task (Opened slot header)
    → (d : Descriptor) × (size : ℕ) × (task ≡ tasks.Text d size (is_for_utilities header))
is_text l task slot header f = grind (arith, slot_at)

module _ {K : Type 0} (picks : Picking K) (hardware : Hardware) (credits : ℕ) (controller : Holdings K)
    (start : Port K) (made : IsMadeOf hardware credits controller start) where
  pub answers : (p : Port K) (calls : List Call) (bytes : List ℕ) (done : Unit) (o : Outgoing)
      → AsksAlways (WasRead bytes (Ok done) ∷ calls)
      → (a : Answered picks start (WasRead bytes (Ok done) ∷ calls) p) → a.0.outgoing ≡ None → p.outgoing ≡ Some o
      → (slot : Slot) × (header : ℕ) × ((talk_of picks start a.0 calls a.1).turn ≡ Opened slot header)
      × IsOwnAnswer a.0 header bytes o × (ends_of a.0.controller ≡ [])
  answers p calls bytes done o asks a none some = elim a.2.out [
    | inl e ↦ absurd (none-some o (sym none ∙ (sym e ∙ some)))
    | inr more ↦ elim more [
      | inl own ↦
          let k = in_step picks hardware credits controller start made a.0 calls asks.1 a.1 in
          let fit = subst (λ x. Fits (look a.0) x (talk_of picks start a.0 calls a.1).turn) own.3 k.hand.fits in (
            slot_at (look a.0) Commands own.0.word,
            fit.0,
            fit.1,
            answer_so own.2 fit.0 fit.3 (own_end_of a.0 own.2 bytes) refl own.4.out,
            none_waits picks hardware credits controller start made a.0 calls a.1 own.0 own.1 own.2 own.3 none,
          )
      | inr d ↦ absurd (none-some o (sym d.1.outgoing ∙ some))
    ]
  ]
    where
      answer_so : (foreign : Bool) (header : ℕ) → foreign ≡ is_for_utilities header → (e : Option End)
          → own_end_of a.0 foreign bytes ≡ e
          → IsSomeAnd e (λ x. IsSomeAnd p.outgoing (λ y. (y.bytes.items ≡ end_bytes x) × (y.kind ≡ end_kind foreign)))
          → IsOwnAnswer a.0 header bytes o
      answer_so foreign header of None e h = absurd h
      answer_so foreign header of (Some x) e h = grind (arith, own_so)

  pub hands_over : (p : Port K) (calls : List Call) (bytes : List ℕ) (done : Unit) (slot : Slot) (header : ℕ)
      → AsksAlways (WasRead bytes (Ok done) ∷ calls)
      → (a : Answered picks start (WasRead bytes (Ok done) ∷ calls) p)
      → (talk_of picks start a.0 calls a.1).turn ≡ Opened slot header
      → IsHandedOver (own_answer (is_for_utilities header) (volume_named a.0 bytes) bytes) bytes a.0 p
  hands_over p calls bytes done slot header asks a opened = by (own_end_of a.0 foreign bytes) refl
    where
      foreign : Bool
      foreign = is_for_utilities header

      is : (d : Descriptor) × (size : ℕ) × (a.0.task ≡ tasks.Text d size foreign)
      is = is_text (look a.0) a.0.task slot header (subst (λ t. Fits (look a.0) a.0.task t) opened
          (in_step picks hardware credits controller start made a.0 calls asks.1 a.1).hand.fits)

      by : (e : Option End) → own_end_of a.0 foreign bytes ≡ e
          → IsHandedOver (own_answer foreign (volume_named a.0 bytes) bytes) bytes a.0 p
      by None e = subst (λ o. IsHandedOver o bytes a.0 p) (sym (none_so foreign (volume_named a.0 bytes) bytes e))
          (a.2.handed is.0 is.1 foreign is.2 refl e
          ∙ ap (after_message First a.0.controller) (handed_so a.0.controller.settings.units bytes))
      by (Some x) e =
          let own = own_so foreign (volume_named a.0 bytes) bytes x e in
          subst (λ o. IsHandedOver o bytes a.0 p) (sym own.1)
          (a.2.own is.0 is.1 foreign is.2 (λ none. none-some x (sym none ∙ e)))

-- ---- polls

poll_own : (v : Option Volume) (b : List ℕ) → slice_index b 8 ≡ 2 → own_answer false v b ≡ None
unfolding port_answers is_transfer_opcode
poll_own v b e = grind arith

poll_handed : (units : List Shape) (b : List ℕ) → slice_index b 8 ≡ 2 → text_handed units b ≡ b
unfolding port_answers
poll_handed units b e = grind (arith, e)

-- the command that a poll is
abbrev pub polled : List ℕ → Command
polled b = record { reference = num b 0 4; unit = num b 4 2; order = orders.Status (num b 12 4) }

poll_command : (b : List ℕ) → slice_index b 8 ≡ 2 → 16 ≤ length b → command_of b ≡ polled b
unfolding command_of
poll_command b e long = grind (arith, nat_lt)

pub poll_sent : (units : List Shape) (b : List ℕ) → slice_index b 8 ≡ 2 → 16 ≤ length b
    → command_of (handed units b) ≡ polled b
poll_sent units b e long = ap command_of (handed_so units b ∙ poll_handed units b e) ∙ poll_command b e long

poll_comes : {K : Type 0} (h : Holdings K) (b : List ℕ) → slice_index b 8 ≡ 2 → 16 ≤ length b
    → ends_of (after_message First h b) ≡ ends_of h ++ poll_brings (answer_to_message First h b) h b
poll_comes {K} h b e long = grind (arith, ends_of, append-nil, poll_command)

module _ {K : Type 0} (picks : Picking K) (hardware : Hardware) (credits : ℕ) (controller : Holdings K)
    (start : Port K) (made : IsMadeOf hardware credits controller start) where
  pub answers_polls : (p : Port K) (calls : List Call) (bytes : List ℕ) (done : Unit) (slot : Slot) (header : ℕ)
      → AsksAlways (WasRead bytes (Ok done) ∷ calls)
      → (a : Answered picks start (WasRead bytes (Ok done) ∷ calls) p)
      → (talk_of picks start a.0 calls a.1).turn ≡ Opened slot header → slice_index bytes 8 ≡ 2 → 16 ≤ length bytes
      → come a.0 p ≡ polls_bring (is_for_utilities header) a.0 bytes
  answers_polls p calls bytes done slot header asks a opened poll long = by (is_for_utilities header)
      (hands_over picks hardware credits controller start made p calls bytes done slot header asks a opened)
    where
      by : (foreign : Bool) → IsHandedOver (own_answer foreign (volume_named a.0 bytes) bytes) bytes a.0 p
          → come a.0 p ≡ polls_bring foreign a.0 bytes
      by true h = come_so a.0 p [] (ap ends_of h ∙ sym (append-nil (ends_of a.0.controller)))
      by false h = grind (arith, poll_own, come_so, ends_of, poll_handed, poll_comes)
