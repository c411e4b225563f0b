-- What is wanted for what is in hand is what is due.
use Rattle.mscp_ported.proofs.Common.{Action, Commands, Due, Err, IfSome, IsCalm, IsOwed, IsSomeAnd, IsWanted, IsWithin, List, MatchOption, None, Ok, Option, Outgoing, Port, Responses, Result, Rings, Side, Some, Stage, Taken, Talk, Task, Turn, address_in, ap, arith, block_begun, bytes_wanted, credits_by, credits_with, given, given_back, given_in, little_bytes, mod-add-mod, move_wanted, packet_of, packet_out, part_now, part_wanted, refl, slot_in, slots_of, subst, sym, ℕ, ◌%◌, ◌*◌, ◌+◌, ◌-◌, ◌^◌, ◌∙◌, ◌≡◌, ◌≢◌, ◌≤◌}
use Rattle.std.proofs.Common.{replicate}
use Rattle.mscp_port.specs.declared.action.Action.TheVariants as actions
use Rattle.mscp_port.specs.declared.stage.Stage.TheVariants as stages
use Rattle.mscp_port.specs.declared.task.Task.TheVariants as tasks
use Rattle.mscp_ported.specs.Owed.{GivesBack}
use Rattle.mscp_ported.proofs.Counting.{address_mod, mod_power, place_so, slots_so, word_so}
use Rattle.mscp_ported.proofs.Look.{Counts, Fits, IsAsked, IsClear, IsElse, IsOfRings, IsOpen, IsWide, Names, NeedsOut, given_at, look, slot_at}

-- ---- actions

move_else : {K : Type 0} (p : Port K) (o : Option _) → IsElse (move_wanted p o)
move_else p None = tt
move_else p (Some m) = by (part_now p m.0 m.1 m.2)
  where
    by : (x : Result _ _) → IsElse (part_wanted m.0 m.1 m.2 x)
    by (Ok part) = tt
    by (Err status) = tt

else_calm : (s : Stage) (t : Talk) (action : Action) (bytes : List ℕ) → IsElse action → IsCalm s t action bytes
else_calm s t action bytes h = grind arith

given_same : {K : Type 0} (p : Port K) (side : Side) → given_in p side ≡ given_at (look p) side
given_same p Responses = refl
given_same p Commands = refl

-- what goes out stands in the packet that is wanted
out_of : {K : Type 0} (p : Port K) (o : Option Outgoing) → p.outgoing ≡ o → p.outgoing ≢ None
    → IsSomeAnd o (λ x. packet_out p o ≡ packet_of (credits_by p.untold x.kind) x.kind x.bytes.items)
out_of p None e some = absurd (some e)
out_of p (Some x) e some = ap (λ o. packet_of (credits_with p.untold o) x.kind x.bytes.items) e

module _ {K : Type 0} (p : Port K) (t : Talk) (action : Action) (bytes : List ℕ)
    (names : Names p.stage p.words.first p.words.second p.written p.rings t.first t.second t.answer t.rings)
    (counts : Counts p.rings p.responses p.commands t.told t.heard) where
  -- the rings that the host has named
  in_rings : (wants : Rings → Type 0) (P : Type 0) → (o : Option Rings) → p.rings ≡ o → p.rings ≢ None
      → MatchOption o (action ≡ actions.Pause) wants → ((r : Rings) → p.rings ≡ Some r → wants r → P) → P
  in_rings wants P None e some h get = absurd (some e)
  in_rings wants P (Some r) e some h get = get r e h

  count_so : (side : Side) → given_in p side ≡ given t side % 256
  count_so Responses = counts.told_so
  count_so Commands = counts.heard_so

  pub asked_of : (task : Task) → IsWanted p task action → bytes ≡ bytes_wanted p task → (IsOfRings task
      → p.rings ≢ None)
      → (NeedsOut task → p.outgoing ≢ None)
      → IsAsked (look p) task (record { action = action; bytes = bytes })
  asked_of task h is some out = grind (arith, in_rings, given_at, look, given_same, out_of, move_else)

  owed_open : (turn : Turn) → IsOpen turn → IsCalm p.stage t action bytes → IsOwed p.stage t turn action bytes
  owed_open turn fit h = grind arith

  owed_at : (turn : Turn) (x : Turn) → turn ≡ x → IsOwed p.stage t x action bytes → IsOwed p.stage t turn action bytes
  owed_at turn x e h = subst (λ y. IsOwed p.stage t y action bytes) (sym e) h

  -- so many slots were given back
  slot_count : (r : Rings) (side : Side) → p.rings ≡ Some r
      → slot_in r side (given_in p side) ≡ address_in t.rings side (given t side)
  slot_count r side e =
      ap (slot_in r side) (count_so side) ∙ sym (place_so r side (given t side % 256))
      ∙ address_mod (Some r) side (given t side) (subst (λ o. IfSome o IsWide) e names.wide)
      ∙ ap (λ o. address_in o side (given t side)) (sym (names.named_so ∙ e))

  back_so : (side : Side) (word : ℕ) → p.rings ≢ None → bytes ≡ little_bytes 4 (given_back word)
      → MatchOption p.rings (action ≡ actions.Pause) (λ r. action ≡ actions.Write (slot_in r side (given_in p side)) 4)
      → GivesBack (slot_at (look p) side word) action bytes
  back_so side word some is h = (
    in_rings (λ r. action ≡ actions.Write (slot_in r side (given_in p side)) 4)
        (action ≡ actions.Write (address_in p.rings side (given_at (look p) side)) 4) p.rings refl some h
        (λ r e x. x ∙ ap (λ n. actions.Write (slot_in r side n) 4) (given_same p side)
        ∙ ap (λ n. actions.Write n 4) (sym (place_so r side (given_at (look p) side)))
        ∙ ap (λ o. actions.Write (address_in o side (given_at (look p) side)) 4) (sym e)),
    is,
  )

  look_count : (r : Rings) (side : Side) (n : ℕ) → IsWide r
      → slot_in r side (n % 256 + 2 * slots_of r side - 2) ≡ slot_in r side (n + 2 * slots_of r side - 2)
  look_count r side n wide = by side
    where
      part : (d : ℕ) → 1 ≤ d → (j : ℕ) × (k : ℕ) × (j + k ≡ 8) × (d ≡ 2 ^ k)
          → (n % 256 + 2 * d - 2) % d ≡ (n + 2 * d - 2) % d
      part d some h =
          let before : n % 256 + 2 * d - 2 ≡ n % 256 + (2 * d - 2) = search arith in
          let behind : n + 2 * d - 2 ≡ n + (2 * d - 2) = search arith in
          ap (λ x. x % d) before ∙ sym (mod-add-mod (n % 256) d (2 * d - 2))
          ∙ ap (λ x. (x + (2 * d - 2)) % d) (mod_power n d h) ∙ mod-add-mod n d (2 * d - 2)
          ∙ ap (λ x. x % d) (sym behind)

      by : (side : Side) → slot_in r side (n % 256 + 2 * slots_of r side - 2)
          ≡ slot_in r side (n + 2 * slots_of r side - 2)
      by Responses = ap (λ x. r.base + x * 4) (part r.responses wide.responses wide.response_log)
      by Commands = ap (λ x. r.base + (r.responses + x) * 4) (part r.commands wide.commands wide.command_log)

  pub owed_of : (task : Task) → IsWanted p task action → bytes ≡ bytes_wanted p task → p.task ≡ task
      → IsWithin p action → (IsOfRings task → p.rings ≢ None) → (IsOfRings task → p.stage ≡ stages.Up)
      → (IsClear task → p.stage ≡ stages.Clearing) → (IsClear task → p.rings ≢ None) → Fits (look p) task t.turn
      → IsOwed p.stage t t.turn action bytes
  owed_of tasks.Transfer h is at within some up clear area fit = owed_open t.turn fit
      (else_calm p.stage t action bytes (subst (λ x. IsElse x) (sym h) (move_else p (block_begun p))))
  owed_of (tasks.Clear done) h is at within some up clear area fit = grind (arith, owed_open, in_rings, replicate)
  owed_of (tasks.Slot side) h is at within some up clear area fit = grind (arith, owed_open, in_rings, slot_count)
  owed_of (tasks.Header slot) h is at within some up clear area fit =
      owed_at t.turn (Taken (slot_at (look p) Commands slot.word)) fit h
  owed_of (tasks.Text slot size foreign) h is at within some up clear area fit = grind (arith, owed_at, slot_at, look)
  owed_of (tasks.Packet slot) h is at within some up clear area fit = grind (arith, owed_at, slot_at, look)
  owed_of (tasks.Return Responses slot) h is at within some up clear area fit =
      grind (arith, owed_at, slot_at, look, back_so)
  owed_of (tasks.Return Commands slot) h is at within some up clear area fit =
      grind (arith, owed_at, slot_at, look, back_so)
  owed_of (tasks.Neighbour side) h is at within some up clear area fit =
      grind (arith, owed_at, in_rings, count_so, look_count, place_so, slots_so)
  owed_of (tasks.Word side) h is at within some up clear area fit = grind (arith, owed_at, in_rings, word_so)
  owed_of tasks.Interrupt h is at within some up clear area fit = owed_at t.turn Due fit
      (h ∙ ap (λ n. actions.Interrupt (n % 0x80 * 4)) (sym names.first_so))
  owed_of task h is at within some up clear area fit = owed_open t.turn fit
      (subst (λ x. IsCalm p.stage t x bytes) (sym h) tt)
