-- What is known of the order of all that is outstanding, and what each moment keeps of it.
use Rattle.mscp_shown.proofs.Common.{AllByRecursion, Bool, Command, Connection, End, First, List, None, Option, Order, Pairs, Sent, Settings, Some, Trace, [], ap, arith, command, command_of, connection, count_by, eq-eqb, eqb-true, every_filter, every_from, false, false≢true, fault_of, get_or, get_or-le-sum_by, inr, is_apart, is_immediate, is_named, is_queued, is_waiting, keeps_back, length, list_any, moment, nat_eq, one_side, order, own_end, own_end_with, own_side, pairs_append, position-Some, queued_open, reference, refl, same_connection, sent_by, sent_bytes, subst, sym, true, true≢false, unit, untaken, waiting, waiting_by, waiting_waits, ℕ, ◌%◌, ◌&&◌, ◌++◌, ◌<◌, ◌||◌, ◌∙◌, ◌∷◌, ◌≡◌, ◌≢◌, ◌≤◌, ◌⊎◌}
use Rattle.mscp_packet.specs.declared.command.Order.TheVariants as orders
use Rattle.mscp_controller.specs.Passing as passing
use Rattle.mscp_queue.specs.Orders as queue
use Rattle.mscp_wire.specs.Wire as wire
use Rattle.mscp_shown.proofs.Counts.{none_passes, some_place}
use Rattle.mscp_shown.proofs.Messages.{IsTallied}
use Rattle.mscp_shown.proofs.Ordering.{Clear, IsClearOf, Ordered, kept_side}
use Rattle.mscp_shown.proofs.Owed.{one_if}
use Rattle.mscp_shown.proofs.Owners.{IsOwn, message, same_sides, untold}
use Rattle.mscp_shown.proofs.Pairing.{index_every, index_pairs, pairs_index}
use Rattle.mscp_shown.proofs.Placing.{IsFree, ServedAreFree, at_waiting}
use Rattle.mscp_shown.proofs.Saying.{Says, sent_says}
use Rattle.mscp_shown.proofs.Shown.{tally}
use Rattle.mscp_shown.proofs.Suiting.{valid_order}

-- of two commands that wait the one that is outstanding longer came first
abbrev pub IsPlaced : Trace → ℕ → ℕ → Sent → Sent → Type 0
IsPlaced t x y earlier s = is_named (connection t x) (reference t x) earlier ≡ true
    → is_named (connection t y) (reference t y) s ≡ true → x < y

pub record Orders (c : Settings) (t : Trace) (xs : List Sent) : Type 0 where
  -- no two of them have one name
  pub single : (via : Connection) (n : ℕ) → tally via (λ k. nat_eq k n) xs ≤ 1
  pub placed : (x y : ℕ) → is_waiting t x ≡ true → is_waiting t y ≡ true → Pairs (IsPlaced t x y) xs
  pub free : ServedAreFree t
  pub ordered : (via : Connection) → Ordered via xs [] (untaken c via t)

-- ---- who keeps whom back
-- a command that was queued is sequential on the wire and in the queue alike
sequential_same : (o : Order) (s : Sent) → Says o s → is_immediate o ≡ false
    → ((byte why : ℕ) → o ≢ orders.Invalid byte why) → wire.is_sequential s.opcode ≡ queue.is_sequential o
sequential_same o s says h n = grind arith

fence_of : (a b c d : Bool) → ((a && (b || c)) || (d && b)) ≡ true → (a || b) ≡ true
fence_of a b c d h = grind (arith, false≢true)

three_parts : (a b c : Bool) → (a && b && c) ≡ true → (a ≡ true) × (b ≡ true) × (c ≡ true)
three_parts a b c h = grind (arith, false≢true)

module _ (c : Settings) (t : Trace) where
  queued_sequential : (x : ℕ) → is_queued c (command t x) ≡ true
      → wire.is_sequential (message t x).opcode ≡ queue.is_sequential (order t x)
  unfolding command
  queued_sequential x q =
      let sound = queued_open c (command t x) q in
      sequential_same (order t x) (message t x) (sent_says (connection t x) (sent_bytes (moment t x).0)) sound.waits
      (valid_order c (unit t x) (order t x) sound.sound)

  same_unit : (x y : ℕ) → nat_eq (message t x).unit (message t y).unit ≡ nat_eq (unit t x) (unit t y)
  unfolding command command_of
  same_unit x y = refl

  -- what keeps a message back on the wire is a fence of the trace
  fence_kept : (x y : ℕ) → is_queued c (command t x) ≡ true → is_queued c (command t y) ≡ true
      → keeps_back (message t y) (message t x) ≡ true → passing.fences t y x ≡ true
  fence_kept x y qx qy k = grind (arith, three_parts, fence_of, same_unit, queued_sequential)

-- ---- the end of a step
count_at : {X : Type 0} (p : X → Bool) (xs : List X) (i : ℕ) (d : X) → i < length xs → p (get_or xs i d) ≡ true
    → 1 ≤ count_by p xs
count_at p xs i d l h =
    omega (arith, get_or-le-sum_by (λ x. one_if (p x)) xs i d l, ap one_if h)

-- a command of which this is known waits under a number
pub record Waits (t : Trace) (via : Connection) (n : ℕ) (x : ℕ) : Type 0 where
  pub waits : is_waiting t x ≡ true
  pub side : connection t x ≡ via
  pub number : reference t x ≡ n

-- a number that is outstanding and of no untaken end is that of a command that waits
pub waits_under : (c : Settings) (t : Trace) (via : Connection) (n : ℕ)
    → 1 ≤ count_by (λ x. nat_eq (reference t x) n) (waiting_by via t) → (x : ℕ) × Waits t via n x
waits_under c t via n some =
    let p : ℕ → Bool = λ x. nat_eq (reference t x) n in
    let place = some_place p (waiting_by via t) some in
    let found = position-Some p (waiting_by via t) place.0 0 place.1 in
    let x = get_or (waiting_by via t) place.0 0 in
    let all = every_filter (λ x. is_waiting t x ≡ true) (λ x. same_connection (connection t x) via) (waiting t)
    (waiting_waits t) in
    let here = index_every (λ x. (is_waiting t x ≡ true) × (same_connection (connection t x) via ≡ true))
    (waiting_by via t) 0 all place.0 found.0 in (
      x,
      record {
        waits = here.0;
        side = one_side (connection t x) via here.1;
        number = eqb-true (reference t x) n found.1;
      },
    )

module _ (c : Settings) (t : Trace) (xs : List Sent) (tallied : (via : Connection) → IsTallied c via t xs)
    (own : AllByRecursion (IsOwn t xs) (waiting t))
    (queued : AllByRecursion (λ x. is_queued c (command t x) ≡ true) (waiting t))
    (placed : (x y : ℕ) → is_waiting t x ≡ true → is_waiting t y ≡ true → Pairs (IsPlaced t x y) xs) where
  -- what is outstanding under the name of a command that waits is that command
  named_own : (x i : ℕ) → is_waiting t x ≡ true → i < length xs
      → is_named (connection t x) (reference t x) (get_or xs i (sent_by First [])) ≡ true
      → untold (get_or xs i (sent_by First [])) ≡ message t x
  named_own x i w l n =
      index_every (λ s. is_named (connection t x) (reference t x) s ≡ true → untold s ≡ message t x) xs
      (sent_by First []) (at_waiting (IsOwn t xs) t own x w) i l n

  -- a command that waits and waits for none has only such earlier ones to wait for as ended
  pub clear_of : (y : ℕ) (e : End) → is_waiting t y ≡ true → IsFree t y → e.reference ≡ reference t y
      → Clear (connection t y) xs (untaken c (connection t y) t) e
  clear_of y e w free number =
      pairs_index (IsClearOf (connection t y) us e) xs d
      (λ i j l m q k.
      let earlier = get_or xs i d in
      let s = get_or xs j d in
      let P : Bool → Type 0 = λ b. list_any (λ (u : End). nat_eq u.reference earlier.reference) us ≡ b
      → list_any (λ (u : End). nat_eq u.reference earlier.reference) us ≡ true in
      elim (list_any (λ (u : End). nat_eq u.reference earlier.reference) us) as P [
        | true ↦ λ e'. e'
        | false ↦ λ e'. absurd (waits_not i j l m q k e')
      ] refl)
    where
      us : List End
      us = untaken c (connection t y) t

      d : Sent
      d = sent_by First []

      waits_not : (i j : ℕ) → i < j → j < length xs
          → is_named (connection t y) e.reference (get_or xs j (sent_by First [])) ≡ true
          → keeps_back (get_or xs j (sent_by First [])) (get_or xs i (sent_by First [])) ≡ true
          → list_any (λ (u : End). nat_eq u.reference (get_or xs i (sent_by First [])).reference)
          (untaken c (connection t y) t) ≡ false
          → ⊥
      waits_not i j l m q k none =
          let via = connection t y in
          let earlier = get_or xs i (sent_by First []) in
          let s = get_or xs j (sent_by First []) in
          let n = earlier.reference in
          let low : i < length xs = omega (arith, l, m) in
          let side : earlier.connection ≡ via = kept_side via e.reference s earlier q k in
          let named : is_named via n earlier ≡ true =
          ap (λ v. wire.same_connection v via && nat_eq n n) side
          ∙ (ap (λ b. b && nat_eq n n) (same_sides via via ∙ own_side via) ∙ eq-eqb n n refl) in
          let some = count_at (is_named via n) xs i (sent_by First []) low named in
          let no_end = none_passes (λ (u : End). nat_eq u.reference n) (untaken c via t) none in
          let wait = waits_under c t via n (omega (arith, some, no_end, tallied via (λ k. nat_eq k n))) in
          let x = wait.0 in
          let z = wait.1 in
          let named_x : is_named (connection t x) (reference t x) earlier ≡ true =
          ap (λ v. is_named v (reference t x) earlier) z.side ∙ (ap (λ r. is_named via r earlier) z.number ∙ named) in
          let named_y : is_named via (reference t y) s ≡ true = ap (λ r. is_named via r s) (sym number) ∙ q in
          let before = index_pairs (IsPlaced t x y) xs (sent_by First [])
          (placed x y z.waits w) i j l m named_x named_y in
          let is_x = named_own x i z.waits low named_x in
          let is_y = named_own y j w m named_y in
          let back : keeps_back (message t y) (message t x) ≡ true =
          subst (λ v. keeps_back v (message t x) ≡ true) is_y (subst (λ v. keeps_back s v ≡ true) is_x k) in
          let fence = fence_kept c t x y
          (at_waiting (λ x. is_queued c (command t x) ≡ true) t queued x z.waits)
          (at_waiting (λ x. is_queued c (command t x) ≡ true) t queued y w) back in
          true≢false (sym fence ∙ free x z.waits before)

-- ---- the end of an answer
immediate_apart : (o : Order) (s : Sent) → Says o s → is_immediate o ≡ true
    → (wire.is_sequential s.opcode ≡ false) × (wire.is_ordered s.opcode ≡ false)
immediate_apart o s says h = grind arith

keeps_none : (a b seq tr : Bool) (y : Bool) (z : Bool) → y ≡ false → z ≡ false
    → (a && b && ((seq && (y || z)) || (tr && y))) ≡ false
keeps_none a b seq tr y z p q = grind arith

-- the earlier commands keep back no command that is answered when it comes
pub clear_answer : (own : Connection) (xs : List Sent) (b : List ℕ) (e : End) (before : List End) (o : Order)
    → AllByRecursion (λ s. is_named own (sent_by own b).reference s ≡ false) xs
    → e.reference ≡ (sent_by own b).reference → Says o (sent_by own b) → is_immediate o ≡ true
    → Clear own (xs ++ sent_by own b ∷ []) before e
clear_answer own xs b e before o new number says h =
    let z = sent_by own b in
    let free = immediate_apart o z says h in
    pairs_append (IsClearOf own before e) xs z
    (pairs_index (IsClearOf own before e) xs (sent_by First [])
    (λ i j l m q k.
    let no = index_every (λ s. is_named own z.reference s ≡ false) xs (sent_by First []) new j m in
    absurd (true≢false (sym q ∙ (ap (λ n. is_named own n (get_or xs j (sent_by First []))) number ∙ no)))))
    (every_from (λ s. IsClearOf own before e s z)
    (λ s q k. absurd (true≢false (sym k ∙ keeps_none (wire.same_connection s.connection z.connection)
    (nat_eq s.unit z.unit) (wire.is_sequential s.opcode) (wire.is_ordered s.opcode) (wire.is_sequential z.opcode)
    (wire.is_ordered z.opcode) free.0 free.1))) xs)

own_with : (c : Settings) (online : Bool) (figure : ℕ) (k : Command) (own : Connection) (xs : List Sent) (b : List ℕ)
    (before : List End) (f : Option ℕ) → fault_of c k ≡ f → (f ≡ None → is_immediate k.order ≡ true)
    → AllByRecursion (λ s. is_named own (sent_by own b).reference s ≡ false) xs → k.reference ≡
    (sent_by own b).reference
    → Says k.order (sent_by own b) → let e = own_end_with c online figure k f in
    (is_apart (e.status % 32) ≡ true) ⊎ Clear own (xs ++ sent_by own b ∷ []) before e
own_with c online figure k own xs b before None f h new number says =
    inr (clear_answer own xs b (own_end_with c online figure k None) before k.order new number says (h refl))
own_with c online figure k own xs b before (Some status) f h new number says = grind arith

-- the end of a command that isn't queued may come at once
pub own_order : (c : Settings) (online : Bool) (figure : ℕ) (k : Command) (own : Connection) (xs : List Sent)
    (b : List ℕ) (before : List End) → is_queued c k ≡ false
    → AllByRecursion (λ s. is_named own (sent_by own b).reference s ≡ false) xs → k.reference ≡
    (sent_by own b).reference
    → Says k.order (sent_by own b)
    → (is_apart ((own_end c online figure k).status % 32) ≡ true)
    ⊎ Clear own (xs ++ sent_by own b ∷ []) before (own_end c online figure k)
own_order c online figure k own xs b before q new number says =
    own_with c online figure k own xs b before (fault_of c k) refl (λ e. unrefused e) new number says
  where
    unrefused : fault_of c k ≡ None → is_immediate k.order ≡ true
    unrefused e = grind (arith, true≢false)
