-- What is kept once the text of a command was read.
use Rattle.mscp_ported.proofs.Common.{◌≡◌, ◌≢◌, ◌⊎◌, ◌∙◌, ℕ, Bool, true, false, cond, List, [], ◌∷◌, ◌++◌, Option, None, Some, Contains, inl, inr, refl, ap, sym, subst, arith, ◌≤◌, length, Result, Ok, IsOk, find, nat_eq, option_map, list_any, and_parts, eq-eqb, eqb-true, false≢true, Contains-push_cases, none-some, same_Some, command_of, num, Order, First, same_connection, Record, fresh_record, SendFault, is_queued, refusal, Holdings, aborting, answered_end, arrives, balance_of, held_unless, outstanding_of, queued, reference_aborted, sent_unless, taken_as, unaborted, with_end, Unasked, Buffer, Port, Descriptor, kept_beside, without_aborted, Hears, WasRead, handed, own_end_of, IsReadingText, SeesText, answered_to, changes_at, kept_of_sent, place_in}
use Rattle.std.specs.Prelude.{nat_lt}
use Rattle.mscp_port.specs.Buffers.{buffer_in}
use Rattle.mscp_packet.specs.declared.command.Order.TheVariants as orders
use Rattle.mscp_controller.specs.declared.entry.Sent.TheVariants as sents
use Rattle.mscp_port.specs.declared.task.Task.TheVariants as tasks
use Rattle.mscp_ported.proofs.Come.{IsLike, handed_like, none_waits, taken_number}
use Rattle.mscp_ported.proofs.Kept.{IsFor, aborted_for, beside_for, come_for, found_numbered, is_numbered}
use Rattle.mscp_ported.proofs.Said.{Keeps, More, is_first, keeps_same, more, none_or_some, not_of, without_among}

-- ---- a command is aborted

find_passes : (p : Record → Bool) (rs : List Record) (r : Record) → find p rs ≡ Some r → p r ≡ true
find_passes p [] r e = absurd (none-some r e)
find_passes p (x ∷ rs) r e = by (p x) refl e (find_passes p rs r)
  where
    by : (b : Bool) → p x ≡ b → cond b (Some x) (find p rs) ≡ Some r → (find p rs ≡ Some r → p r ≡ true) → p r ≡ true
    by true is h rest = subst (λ y. p y ≡ true) (same_Some x r h) is
    by false is h rest = rest h

-- what is kept without that of a record which was found, if one was
pub left_among : (o : Option Record) (bs : List Buffer) (b : Buffer)
    → Contains (without_aborted (option_map (λ r. r.command.reference) o) bs) b → Contains bs b
left_among None bs b there = there
left_among (Some r) bs b there = (without_among First r.command.reference bs b there).0

pub left_other : (o : Option Record) (r : Record) (bs : List Buffer) (b : Buffer) → o ≡ Some r
    → Contains (without_aborted (option_map (λ r. r.command.reference) o) bs) b → b.reference ≢ r.command.reference
left_other None r bs b e there = absurd (none-some r e)
left_other (Some x) r bs b e there = λ same.
    not_of First x.command.reference b
    (is_first First x.command.reference b refl
    (same ∙ ap (λ (y : Record). y.command.reference) (sym (same_Some x r e))))
    (without_among First x.command.reference bs b there).1

module _ {K : Type 0} (said : ℕ → Buffer → Type 0) where
  aborted_keeps : (order : Order) (old new : Port K)
      → new.controller.waiting ≡ unaborted First old.controller.waiting order
      → new.buffers.items ≡ without_aborted (reference_aborted First old.controller.waiting order) old.buffers.items
      → Keeps said old → Keeps said new
  aborted_keeps (orders.Abort m) old new waiting kept k = λ b there.
      let rs = old.controller.waiting in
      let o = find (is_numbered m) rs in
      let left = subst (λ bs. Contains bs b) kept there in
      let is = k b (left_among o old.buffers.items b left) in
      let apart : b.reference ≢ m = λ e. elim (none_or_some o) [
        | inl none ↦ found_numbered m rs (subst (λ n. list_any (is_numbered n) rs ≡ true) e is.waits) none
        | inr some ↦
            let r = some.0 in
            let p = and_parts (same_connection r.connection First) (nat_eq r.command.reference m)
            (find_passes (is_numbered m) rs r some.1) in
            left_other o r old.buffers.items b some.1 left (e ∙ sym (eqb-true r.command.reference m p.1))
      ] in
      subst (λ xs. IsFor (λ u. said u b) b.reference xs) (sym waiting)
      (aborted_for (λ u. said u b) b.reference m rs apart is)
  aborted_keeps order old new waiting kept k =
      keeps_same said old new (λ b there. subst (λ bs. Contains bs b) kept there) waiting k

-- ---- a command is queued

pub beside_cases : (t : Bool) (bs : List Buffer) (x b : Buffer) → Contains (cond t (bs ++ x ∷ []) bs) b
    → Contains bs b ⊎ (x ≡ b)
beside_cases true bs x b there = Contains-push_cases bs x b there
beside_cases false bs x b there = inl there

module _ {K : Type 0} (said : ℕ → Buffer → Type 0) (bytes : List ℕ) (result : Result Unit Unasked) where
  queued_keeps : (old new : Port K) (sent : List ℕ) → IsReadingText old.task → 12 ≤ length bytes
      → IsLike sent bytes
      → refusal (balance_of First old.controller) (outstanding_of First old.controller) sent ≡ None
      → new.controller.waiting ≡ old.controller.waiting ++ fresh_record First (command_of sent) ∷ []
      → new.buffers.items ≡ kept_beside (buffer_in bytes (changes_at old.volumes
      (place_in old.controller.settings.units (num bytes 4 2)))) old.buffers.items
      → Keeps said old → Keeps (More (WasRead bytes result) old said) new
  unfolding command_of
  queued_keeps old new sent text long like taken waiting kept k = λ b there.
      let rs = old.controller.waiting in
      let n = num bytes 0 4 in
      let r = fresh_record First (command_of sent) in
      let own = buffer_in bytes (changes_at old.volumes (place_in old.controller.settings.units (num bytes 4 2))) in
      let fits = taken_number (balance_of First old.controller) (outstanding_of First old.controller) sent taken in
      let number : own.reference ≡ n = ap (λ t. cond t 0 n) {y = false} (search (arith, long)) in
      let none = subst (λ m. list_any (is_numbered m) rs ≡ false) like.0
      (none_waits old.controller (num sent 0 4) fits.1) in
      let P : ℕ → Type 0 = λ u. More (WasRead bytes result) old said u b in
      subst (λ xs. IsFor P b.reference xs) (sym waiting)
      (elim (beside_cases (nat_lt (length old.buffers.items) 64) old.buffers.items own b
      (subst (λ bs. Contains bs b) kept there)) [
        | inl before ↦
            let is = more said (WasRead bytes result) old old k b before in
            beside_for P b.reference rs r (λ mine.
            let p = and_parts (same_connection First First) (nat_eq (num sent 0 4) b.reference) mine in
            absurd (false≢true (sym none
            ∙ subst (λ m. list_any (is_numbered m) rs ≡ true)
            (sym (sym like.0 ∙ eqb-true (num sent 0 4) b.reference p.1)) is.waits))) is
        | inr e ↦
            let same : b.reference ≡ n = ap (λ (x : Buffer). x.reference) (sym e) ∙ number in
            come_for P b.reference rs r (subst (λ m. list_any (is_numbered m) rs ≡ false) (sym same) none)
            (eq-eqb (num sent 0 4) b.reference (like.0 ∙ sym same))
            (inl (record {
              text = text;
              reference = sym same;
              unit = sym like.1;
              kept = sym e ∙ ap (λ u. buffer_in bytes
                  (changes_at old.volumes (place_in old.controller.settings.units u))) (sym like.1);
            }))
      ])

-- ---- a text was read

module _ {K : Type 0} (said : ℕ → Buffer → Type 0) (bytes : List ℕ) (result : Result Unit Unasked) (old new : Port K)
    (slot : Descriptor) (size : ℕ) (foreign : Bool) (at : old.task ≡ tasks.Text slot size foreign)
    (r : Hears bytes old result new) (ok : IsOk result) (k : Keeps said old) where
  abbrev after : Type 0
  after = Keeps (More (WasRead bytes result) old said) new

  abbrev sent : List ℕ
  sent = handed old.controller.settings.units bytes

  abbrev refused : Option SendFault
  refused = refusal (balance_of First old.controller) (outstanding_of First old.controller) sent

  sees : SeesText slot foreign bytes old new
  sees = (r.sees ok).text slot size foreign at

  -- the port answers it itself
  answered : own_end_of old foreign bytes ≢ None → after
  answered own =
      let buffers : new.buffers.items ≡ old.buffers.items = elim (none_or_some old.outgoing) [
        | inl nothing ↦ ap (λ (p : Port K). p.buffers.items) (sees.own own nothing).0
        | inr out ↦ ap (λ (p : Port K). p.buffers.items)
            (sees.own_waits own (λ nothing. none-some out.0 (sym nothing ∙ out.1)))
      ] in
      more said (WasRead bytes result) old new
      (keeps_same said old new (λ b there. subst (λ bs. Contains bs b) buffers there)
      (ap (λ (h : Holdings K). h.waiting) (r.own slot size foreign at own)) k)

  -- it stays in its slot
  waits : (fault : SendFault) → own_end_of old foreign bytes ≡ None → refused ≡ Some fault → after
  waits fault none e =
      let answer = ap (sent_unless First old.controller (command_of sent)) e in
      more said (WasRead bytes result) old new
      (keeps_same said old new (λ b there. subst (λ bs. Contains bs b)
      (ap (λ (p : Port K). p.buffers.items) (sees.waits fault none answer)) there)
      (ap (λ (h : Holdings K). h.waiting) (r.handed slot size foreign at ok none
      ∙ ap (held_unless First old.controller (command_of sent)) e)) k)

  -- the controller gets it
  taken : (q : Bool) → is_queued old.controller.settings (command_of sent) ≡ q → own_end_of old foreign bytes ≡ None
      → refused ≡ None → after
  taken q e none taken_is =
      let h = old.controller in
      let command = command_of sent in
      let answer : answered_to old bytes ≡ Ok (taken_as First h command) = ap (sent_unless First h command) taken_is in
      let gets : new.controller ≡ arrives First h command =
      r.handed slot size foreign at ok none ∙ ap (held_unless First h command) taken_is in
      by q e gets (sees.sent (taken_as First h command) none answer).kept
    where
      by : (q : Bool) → is_queued old.controller.settings (command_of sent) ≡ q
          → new.controller ≡ arrives First old.controller (command_of sent)
          → new.buffers.items ≡ kept_of_sent (taken_as First old.controller (command_of sent))
          (buffer_in bytes (changes_at old.volumes (place_in old.controller.settings.units (num bytes 4 2))))
          old.buffers.items
          → after
      by true e gets kept =
          let h = old.controller in
          let command = command_of sent in
          let own =
          buffer_in bytes (changes_at old.volumes (place_in old.controller.settings.units (num bytes 4 2))) in
          let aborted = reference_aborted First h.waiting command.order in
          queued_keeps said bytes result old new sent (subst (λ t. IsReadingText t) (sym at) tt) sees.long
          (handed_like h.settings h.settings.units bytes sees.long e) taken_is
          (ap (λ (x : Holdings K). x.waiting) gets
          ∙ ap (λ t. (cond t (queued First h command)
          (with_end First (aborting First h command.order) (answered_end First h command))).waiting) e)
          (kept ∙ ap (λ t. kept_of_sent (cond t (sents.Queued command.reference)
          (sents.Answered command.reference aborted)) own old.buffers.items) e)
          k
      by false e gets kept =
          let h = old.controller in
          let command = command_of sent in
          let own =
          buffer_in bytes (changes_at old.volumes (place_in old.controller.settings.units (num bytes 4 2))) in
          let aborted = reference_aborted First h.waiting command.order in
          more said (WasRead bytes result) old new (aborted_keeps said command.order old new
          (ap (λ (x : Holdings K). x.waiting) gets
          ∙ ap (λ t. (cond t (queued First h command)
          (with_end First (aborting First h command.order) (answered_end First h command))).waiting) e)
          (kept ∙ ap (λ t. kept_of_sent (cond t (sents.Queued command.reference)
          (sents.Answered command.reference aborted)) own old.buffers.items) e)
          k)

  judged : (o : Option SendFault) → refused ≡ o → own_end_of old foreign bytes ≡ None → after
  judged None e none = taken (is_queued old.controller.settings (command_of sent)) refl none e
  judged (Some fault) e none = waits fault none e

  pub text_keeps : after
  text_keeps = elim (none_or_some (own_end_of old foreign bytes)) [
    | inr own ↦ answered (λ none. none-some own.0 (sym none ∙ own.1))
    | inl none ↦ judged refused refl none
  ]
