-- What there is of each reference number after each call of a port.
use Rattle.mscp_ported.proofs.Common.{AllByRecursion, Bool, Call, Command, Dies, End, First, Holdings, List, None, Opcode, Option, Order, Port, Record, Settings, Shape, [], aborted_record, ap, append-nil, arith, balance_of, bytes_in, command_of, cond, ends_said_by, eq-eqb, eqb-true, false, false≢true, filter, found_is, fresh_record, handed, has_number, holds, is_dead, is_same, length, list_any, list_any-append, nat_eq, nat_lt, num, numbers_ended, opcode_of, option_map, option_to_list, or_parts, order_with, outstanding_of, own_end_with, record_aborted, refl, refusal, same_is, since, slice_index, stand_in, subst, sym, taken_by, true, unaborted, without_ends, ℕ, ◌++◌, ◌<◌, ◌^◌, ◌∙◌, ◌∷◌, ◌≡◌, ◌≤◌, is_transfer_opcode}
use Rattle.mscp_ported.proofs.Come.{none_waits, taken_number}
use Rattle.mscp_ported.proofs.Kept.{is_numbered}
use Rattle.mscp_packet.specs.declared.command.Order.TheVariants as orders
use Rattle.mscp_ported.proofs.Coming.{ends_of}
use Rattle.mscp_ported.proofs.Handed.{handed_cases, renamed}
use Rattle.mscp_ported.proofs.Numbered.{At, AtEach, IsNothing, asked_by, counted_in, ends_numbered, some_none}
use Rattle.mscp_ported.proofs.Numbering.{aborts, comes_ended, comes_waiting}
use Rattle.mscp_ported.proofs.Sole.{none_passes}
use Rattle.mscp_ported.proofs.Staying.{Stays}

abbrev pub IsSmall : List ℕ → Type 0
IsSmall t = num t 0 4 < 2 ^ 32

pub record Kept {K : Type 0} (p : Port K) (aw : List (List ℕ)) : Type 0 where
  pub each : AtEach aw p.controller.waiting (ends_of p.controller)
  pub small : AllByRecursion IsSmall aw
  pub dead : is_dead p.stage ≡ true → aw ≡ []

-- a call is no write of IP
pub record IsNoReset (call : Call) : Type 0 where
  pub texts : (s : _) (xs ys : List (List ℕ)) → since s call xs ys ≡ cond (is_dead s) [] (xs ++ ys)

pub nothing_kept : {K : Type 0} (p : Port K) → p.controller.waiting ≡ [] → ends_of p.controller ≡ [] → Kept p []
nothing_kept p none no_end = grind (arith, is_numbered, ends_numbered)

-- ---- a message as it is handed over

pub order_few : (o : Option Opcode) (b : List ℕ) → opcode_of (slice_index b 8) ≡ o
    → asked_by (order_with o b) ≤ bytes_in b
unfolding is_transfer_opcode
order_few o b e = grind (arith, eqb-true, found_is, nat_eq, nat_lt, asked_by)

command_few : (b : List ℕ) → asked_by (command_of b).order ≤ bytes_in b
unfolding command_of
command_few b = order_few (opcode_of (slice_index b 8)) b refl

-- it has the number, and asks for no more bytes
pub record IsLikeIt (sent b : List ℕ) : Type 0 where
  pub number : num sent 0 4 ≡ num b 0 4
  pub bytes : asked_by (command_of sent).order ≤ bytes_in b

stood_in : (b : List ℕ) → 12 ≤ length b → IsLikeIt (stand_in b) b
unfolding command_of
stood_in b long = grind arith

named_next : (b : List ℕ) (n : ℕ) → 12 ≤ length b → IsLikeIt (renamed b n) b
named_next b n long = grind (arith, command_few)

pub handed_like : (units : List Shape) (b : List ℕ) → 12 ≤ length b → IsLikeIt (handed units b) b
handed_like units b long = handed_cases (λ x. IsLikeIt x b) units b (λ formal. stood_in b long)
    (λ plain asks n. named_next b n long) (λ plain. record { number = refl; bytes = command_few b })

-- ---- its number is new

none_ended : (n : ℕ) (es : List End) → list_any (λ x. nat_eq x n) (numbers_ended es) ≡ false
    → filter (ends_numbered n) es ≡ []
none_ended n [] e = refl
none_ended n (x ∷ es) e = grind (arith, none_ended n es, or_parts, nat_eq, ends_numbered)

nothing_of : (aw : List (List ℕ)) (rs : List Record) (es : List End) (n : ℕ) → filter (is_numbered n) rs ≡ []
    → filter (ends_numbered n) es ≡ [] → At aw rs es n → IsNothing aw rs es n
nothing_of aw rs es n none no_end h = grind (arith, some_none)

nothing_by : (aw : List (List ℕ)) (rs : List Record) (es : List End) (n : ℕ) → filter (has_number n) aw ≡ []
    → At aw rs es n → IsNothing aw rs es n
nothing_by aw rs es n none h = grind (arith, some_none)

-- ---- an end that is answered at once

pub own_number : (c : Settings) (online : Bool) (figure : ℕ) (command : Command) (o : Option ℕ)
    → (own_end_with c online figure command o).reference ≡ command.reference
own_number c online figure command o = grind arith

pub own_bytes : (c : Settings) (online : Bool) (figure : ℕ) (command : Command) (o : Option ℕ)
    → counted_in (own_end_with c online figure command o).body ≡ 0
own_bytes c online figure command o = grind arith

-- ---- a message

module _ {K : Type 0} (h : Holdings K) (aw : List (List ℕ)) (bytes sent : List ℕ) (long : 12 ≤ length bytes)
    (like : IsLikeIt sent bytes) (new : refusal (balance_of First h) (outstanding_of First h) sent ≡ None)
    (at : AtEach aw h.waiting (ends_of h)) where
  abbrev number : ℕ
  number = num bytes 0 4

  holds_not : holds (outstanding_of First h) number ≡ false
  holds_not = ap (holds (outstanding_of First h)) (sym like.number)
      ∙ (taken_number (balance_of First h) (outstanding_of First h) sent new).1

  pub nothing_there : IsNothing aw h.waiting (ends_of h) number
  nothing_there = nothing_of aw h.waiting (ends_of h) number
      (none_passes (is_numbered number) h.waiting (none_waits h number holds_not))
      (none_ended number (ends_of h) (search (arith, list_any-append, or_parts, holds_not))) (at number)

  pub is_it : (r : Record) → r.connection ≡ First → r.command.reference ≡ number → is_numbered number r ≡ true
  is_it r first named = grind (arith, is_same)

  pub others : (r : Record) → r.command.reference ≡ number → (n : ℕ) → nat_eq number n ≡ false → is_numbered n r ≡ false
  others r named n d = grind (arith, is_numbered, false≢true, eq-eqb, same_is)

  pub queued_so : AtEach (aw ++ bytes ∷ []) (h.waiting ++ fresh_record First (command_of sent) ∷ []) (ends_of h)
  unfolding command_of
  queued_so = comes_waiting aw h.waiting (ends_of h) bytes (fresh_record First (command_of sent)) nothing_there
      (is_it (fresh_record First (command_of sent)) refl like.number)
      (others (fresh_record First (command_of sent)) like.number)
      like.bytes at

  aborted_so : (order : Order) → AtEach aw (unaborted First h.waiting order)
      (ends_of h ++ option_to_list (option_map aborted_record (record_aborted First h.waiting order)))
  aborted_so (orders.Abort m) = aborts aw h.waiting (ends_of h) m at
  aborted_so order = subst (λ es. AtEach aw h.waiting es) (sym (append-nil (ends_of h))) at

  pub answered_so : (e : End) → e.reference ≡ number → counted_in e.body ≡ 0 → (order : Order)
      → AtEach (aw ++ bytes ∷ []) (unaborted First h.waiting order)
      ((ends_of h ++ option_to_list (option_map aborted_record (record_aborted First h.waiting order))) ++ e ∷ [])
  answered_so e named none order = comes_ended aw (unaborted First h.waiting order)
      (ends_of h ++ option_to_list (option_map aborted_record (record_aborted First h.waiting order))) bytes e
      (nothing_by aw (unaborted First h.waiting order)
      (ends_of h ++ option_to_list (option_map aborted_record (record_aborted First h.waiting order))) number
      nothing_there.0 (aborted_so order number)) named (search (arith, none)) (aborted_so order)

-- ---- each call

module _ {K : Type 0} (call : Call) (old new : Port K) (aw : List (List ℕ)) (k : Kept old aw)
    (calm : IsNoReset call) where
  abbrev So : Type 0
  So = Kept new (since new.stage call (without_ends (ends_said_by call old new) aw) (taken_by call old))

  pub became : (xs : List (List ℕ))
      → since new.stage call (without_ends (ends_said_by call old new) aw) (taken_by call old) ≡ xs → Kept new xs → So
  became xs e x = subst (λ z. Kept new z) (sym e) x

  pub dies_so : Dies old new → So
  dies_so d = grind (arith, became, nothing_kept, ends_of)

  -- neither ends nor messages change
  pub same_so : ends_said_by call old new ≡ [] → taken_by call old ≡ []
      → new.controller.waiting ≡ old.controller.waiting → ends_of new.controller ≡ ends_of old.controller
      → (is_dead new.stage ≡ true → is_dead old.stage ≡ true) → So
  same_so said taken waiting ends dead = grind (arith, became, ends_of, append-nil)

  -- while there is no fatal error
  pub lives_so : (xs : List (List ℕ)) → is_dead new.stage ≡ false
      → without_ends (ends_said_by call old new) aw ++ taken_by call old ≡ xs
      → AtEach xs new.controller.waiting (ends_of new.controller) → AllByRecursion IsSmall xs → So
  lives_so xs alive e at small = grind (arith, became)

  pub stays_so : ends_said_by call old new ≡ [] → taken_by call old ≡ [] → Stays old new → So
  stays_so said taken either = grind (arith, same_so, ends_of, dies_so)
