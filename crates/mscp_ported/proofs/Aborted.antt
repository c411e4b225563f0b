-- The end of a transfer that is aborted counts just the blocks that were moved.
use Rattle.mscp_ported.proofs.Common.{Answered, AsksAlways, Bool, Buffer, Call, Command, Contains, Contains-push_cases, Counts, End, First, Hardware, Holdings, IsMadeOf, List, MoveKind, None, Ok, Option, Order, Picking, Port, Record, Settings, Some, WasRead, [], aborted_record, ap, append-nil, arith, asked, asks_nothing, balance_of, come, command_of, cond, drop, ends, false, fault_of, figure, filter, find, found_is, handed, has_name, inl, inr, is_queued_text, length, min, moved, moved_body, name_on, num, opcode_of, option_map, option_to_list, outstanding_of, own_end_with, record_aborted, refl, same_Some, slice_index, subst, sym, transfers, ℕ, ◌&&◌, ◌*◌, ◌++◌, ◌==◌, ◌∙◌, ◌∷◌, ◌≡◌, ◌≤◌}
use Rattle.mscp_ported.proofs.Come.{none_waits, taken_number}
use Rattle.mscp_ported.proofs.Kept.{is_numbered, number_of}
use Rattle.mscp_packet.specs.declared.class.Opcode.TheVariants as codes
use Rattle.mscp_packet.specs.declared.command.Order.TheVariants as orders
use Rattle.mscp_packet.specs.declared.end.EndBody.TheVariants as bodies
use Rattle.mscp_ported.proofs.Coming.{come_so, ends_of}
use Rattle.mscp_ported.proofs.Keeping.{are_owned}
use Rattle.mscp_ported.proofs.Owning.{Own, parts_of}
use Rattle.mscp_ported.proofs.Reading.{Answers, Gets, and_false, answer_ends, answered_now, command_in, ends_aborted, ends_answered, own_end_in, read_is}
use Rattle.mscp_ported.proofs.Sole.{found_sole, none_passes}
use Rattle.mscp_ported.proofs.Transferring.{kept_address, move_fields}

-- an answer has its message's number
answer_number : (c : Settings) (online : Bool) (figure : ℕ) (command : Command) (fault : Option ℕ)
    → (own_end_with c online figure command fault).reference ≡ command.reference
answer_number c online figure command None = refl
answer_number c online figure command (Some status) = refl

moved_of : (order : Order) (good : ℕ) (kind : MoveKind) (count first : ℕ) → order ≡ orders.Move kind count first
    → moved_body order good ≡ bodies.Moved (min count (512 * good))
moved_of order good kind count first e = ap (λ o. moved_body o good) e

nothing_in : (e : End) (xs : List End) → xs ≡ [] → Contains xs e → ⊥
nothing_in e xs none there = grind arith

none_new : (n : ℕ) → drop {A = End} n [] ≡ []
none_new n = search arith

-- the record that an order aborts, if it aborts one, has the number that it names
aborted_so : (rs : List Record) (order : Order) (e : End)
    → Contains (option_to_list (option_map aborted_record (record_aborted First rs order))) e
    → (m : ℕ) × (r : Record) × (find (is_numbered m) rs ≡ Some r) × (e ≡ aborted_record r)
aborted_so rs (orders.Abort m) e there = by (find (is_numbered m) rs) refl there
  where
    by : (o : Option Record) → find (is_numbered m) rs ≡ o
        → Contains (option_to_list (option_map aborted_record o)) e
        → (m : ℕ) × (r : Record) × (find (is_numbered m) rs ≡ Some r) × (e ≡ aborted_record r)
    by None f h = absurd (nothing_in e [] refl h)
    by (Some r) f h = (m, r, f, search (arith, h))
aborted_so rs order e there = absurd (nothing_in e [] refl there)

module _ {K : Type 0} (picks : Picking K) (hardware : Hardware) (credits : ℕ) (controller : Holdings K)
    (start : Port K) (made : IsMadeOf hardware credits controller start) (p : Port K) (calls : List Call)
    (bytes : List ℕ) (done : Unit {0}) (r : Record) (kind : MoveKind) (count first : ℕ) (kept : Buffer) (e : End)
    (asks : AsksAlways (WasRead bytes (Ok done) ∷ calls)) (a : Answered picks start (WasRead bytes (Ok done) ∷ calls) p)
    (waits : find (has_name (name_on First e.reference)) a.0.controller.waiting ≡ Some r)
    (is : r.command.order ≡ orders.Move kind count first) (among : Contains a.0.buffers.items kept)
    (asking : asks_nothing kept.opcode ≡ false) (mine : kept.reference ≡ e.reference) (there : Contains (come a.0 p) e)
  where
    abbrev So : Type 0
    So = (b : List ℕ) × (n : ℕ) × Counts picks e kind start p (WasRead bytes (Ok done) ∷ calls) a b n

    abbrev h : Holdings K
    h = a.0.controller

    none_came : ends_of p.controller ≡ ends_of h → So
    none_came same = absurd (nothing_in e (come a.0 p) (come_so a.0 p [] (same ∙ sym (append-nil (ends_of h)))) there)

    -- the one record of its number
    own : (o : Record) × (b : List ℕ) × Own picks start a.0 calls a.1 kept o b
    own = are_owned picks hardware credits controller start made a.0 calls asks.1 a.1 kept among asking

    sole : filter (is_numbered e.reference) h.waiting ≡ own.0 ∷ []
    sole = subst (λ n. filter (is_numbered n) h.waiting ≡ own.0 ∷ []) mine own.2.sole

    same : own.0 ≡ r
    same = same_Some own.0 r (sym (found_sole (is_numbered e.reference) h.waiting own.0 sole) ∙ waits)

    order : own.0.command.order ≡ orders.Move kind count first
    order = ap (λ (x : Record). x.command.order) same ∙ is

    fields : (count ≡ num own.1 12 4) × (first ≡ num own.1 28 4) × (32 ≤ length own.1)
        × (opcode_of (slice_index own.1 8) ≡ Some (codes.Move kind))
    fields = move_fields own.1 kind count first (ap (λ (c : Command). c.order) (sym own.2.command) ∙ order)

    whole : own.0.command.order ≡ orders.Move kind (num own.1 12 4) (num own.1 28 4)
    whole = order ∙ ap (λ m. orders.Move kind m first) fields.0 ∙ ap (orders.Move kind (num own.1 12 4)) fields.1

    before : moved picks e.reference start a.0 calls a.1
        ≡ transfers kind own.0.command.unit (num own.1 28 4) (num own.1 16 4) (num own.1 12 4) own.0.done
    before = grind (arith, own, parts_of, whole, kept_address, fields)

    -- the end of that one
    counted : is_queued_text a.0 bytes a.0.task ≡ false → (m : ℕ) → (x : Record)
        → find (is_numbered m) h.waiting ≡ Some x
        → e ≡ aborted_record x → So
    counted quiet m x found ends = (
      own.1,
      own.0.done,
      record {
        message = ap (λ c. cond c (Some bytes) (asked picks e.reference start a.0 calls a.1)) never
            ∙ ap (λ n. asked picks n start a.0 calls a.1) (sym mine) ∙ own.2.message;
        moves = ap (λ c. cond c [] (moved picks e.reference start a.0 calls a.1 ++ [])) never
            ∙ append-nil (moved picks e.reference start a.0 calls a.1) ∙ before
            ∙ ap (λ u. transfers kind u (num own.1 28 4) (num own.1 16 4) (num own.1 12 4) own.0.done)
            (sym (ap (λ (y : End). y.unit) aborted));
        count = ap (λ (y : End). y.body) aborted
            ∙ moved_of own.0.command.order own.0.good kind (num own.1 12 4) (num own.1 28 4) whole
            ∙ ap (λ n. bodies.Moved (min (num own.1 12 4) (512 * n))) own.2.good;
      },
    )
      where
        never : (num bytes 0 4 == e.reference && is_queued_text a.0 bytes a.0.task) ≡ false
        never = and_false (num bytes 0 4 == e.reference) (is_queued_text a.0 bytes a.0.task) quiet

        number : e.reference ≡ m
        number = grind (arith, number_of, is_numbered, found_is)

        aborted : e ≡ aborted_record own.0
        aborted = ends ∙ ap aborted_record (same_Some x own.0 (sym found
            ∙ subst (λ n. find (is_numbered n) h.waiting ≡ Some own.0) number
            (found_sole (is_numbered e.reference) h.waiting own.0 sole)))

    -- its own end is of another number
    answered_so : (g : Gets bytes done a.0 p) → Answers g.slot bytes a.0 p → So
    unfolding command_of
    answered_so g x = elim (Contains-push_cases (ends_aborted a.0 bytes) (own_end_in a.0 bytes) e
        (subst (λ xs. Contains xs e) (come_so a.0 p (ends_answered a.0 bytes) (answer_ends x)) there)) [
          | inl aborted ↦
              let y = aborted_so h.waiting (command_in a.0 bytes).order e aborted in
              counted (answered_now g x) y.0 y.1 y.2 y.3
          | inr is_it ↦ absurd (search (
            arith,
            sym sole ∙ ap (λ n. filter (is_numbered n) h.waiting) (sym (ap (λ (y : End). y.reference) is_it)
                ∙ answer_number h.settings _ _ (command_in a.0 bytes) (fault_of h.settings (command_in a.0 bytes)))
                ∙ new,
          ))
        ]
      where
        sent : List ℕ
        sent = handed h.settings.units bytes

        new : filter (is_numbered (num sent 0 4)) h.waiting ≡ []
        new = none_passes (is_numbered (num sent 0 4)) h.waiting (none_waits h (num sent 0 4)
            (taken_number (balance_of First h) (outstanding_of First h) sent g.is_new).1)

    pub counts_aborted : So
    counts_aborted = elim (read_is bytes done a.0 p a.2) [
      | inl s ↦ elim s.0 [
        | inl same ↦ none_came (ap (λ (x : Holdings K). ends_of x) same.0)
        | inr d ↦ absurd (nothing_in e (come a.0 p)
            (ap (drop (length (ends_of h))) (ap (λ (x : Holdings K). ends_of x) d.1.controller)
            ∙ none_new (length (ends_of h))) there)
      ]
      | inr g ↦ elim g.how [
        | inl q ↦ none_came (ap (λ (x : Holdings K). ends_of x) q.holds)
        | inr x ↦ answered_so g x
      ]
    ]
