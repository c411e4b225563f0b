-- The end of a transfer that says Success stands for blocks that were moved, each at its place.
use Rattle.mscp_ported.proofs.Common.{Answered, AsksAlways, Bool, Call, Command, Contains, End, Hardware, Holdings, IsMadeOf, List, MoveKind, Ok, Option, Order, Outcome, Picking, Port, Some, StandsFor, Upcoming, Verdict, Went, ap, arith, begun_step, block_moved, block_told, block_touched, blocks, blocks_in, come, command_of, drive_of, eqb-true, false, false≢true, found_is, goes_on, good_status, inl, inr, is_of, left_of, min, move_byte, nat_eq, nat_lt, none-some, num, opcode_of, opcodes, order_weight, outcome_at, outcome_status, position, refl, row_of, same_Some, slice_index, step_told, subst, suc, sym, touches, transfers, true, wish, ℕ, ◌&&◌, ◌*◌, ◌-◌, ◌<◌, ◌∙◌, ◌∷◌, ◌≡◌, ◌≤◌, is_good_block}
use Rattle.mscp_ported.proofs.Said.{kept_found, of_first}
use Rattle.mscp_packet.specs.declared.class.Opcode.TheVariants as codes
use Rattle.mscp_packet.specs.declared.command.MoveKind.TheVariants as kinds
use Rattle.mscp_packet.specs.declared.command.Order.TheVariants as orders
use Rattle.mscp_packet.specs.declared.end.EndBody.TheVariants as bodies
use Rattle.mscp_drive.specs.declared.block.Block.TheVariants as blocks
use Rattle.mscp_ported.proofs.Making.{transfer_so, verdict_so}
use Rattle.mscp_ported.proofs.Moved.{moved_at, moved_so}
use Rattle.mscp_ported.proofs.Moving.{steps}
use Rattle.mscp_ported.proofs.Stepping.{IsHow}
use Rattle.mscp_ported.proofs.Transferring.{move_fields}
use Rattle.mscp_ported.proofs.Tallying.{ended_so, ending, tally, touched_so}

-- ---- tables

opcode_is : (byte : ℕ) (kind : MoveKind) → opcode_of byte ≡ Some (codes.Move kind) → byte ≡ move_byte kind
opcode_is byte kind e = sym (eqb-true (move_byte kind) byte
    (found_is (λ o. nat_eq (row_of o).byte byte) opcodes (codes.Move kind) e))

-- what is told of a step is what came of it
pub good_back : {K : Type 0} (old : Port K) (outcome : Outcome) (verdict : Verdict) → IsHow old outcome verdict
    → step_told old outcome old.task ≡ Some blocks.Good → block_told verdict ≡ blocks.Good
good_back old outcome verdict h told = grind (arith, verdict_so, same_Some, transfer_so)

left_so : (x y : Bool) → x ≡ true → (x && true && y) ≡ false → y ≡ false
left_so true y e h = h
left_so false y e h = absurd (false≢true e)

status_so : (online : Bool) (order : Order) (kind : MoveKind) (count first : ℕ) → order ≡ orders.Move kind count first
    → touches online order ≡ true → good_status online order ≡ 0
status_so online order kind count first e t = grind (arith, false≢true)

move_is : (order : Order) (lbn : Option ℕ) (kind : MoveKind) (block : ℕ) → block_moved order lbn ≡ Some (kind, block)
    → (count : ℕ) × (first : ℕ) × (order ≡ orders.Move kind count first)
move_is order lbn kind block e = grind (arith, same_Some, none-some)

-- ---- how many blocks

all_bytes : (count : ℕ) → min count (512 * blocks_in count) ≡ count
all_bytes count = search arith

all_blocks : (count n : ℕ) → order_weight (orders.Move kinds.Read count 0) - n ≤ 1
    → n < order_weight (orders.Move kinds.Read count 0) → n * 512 < count → suc n ≡ blocks_in count
all_blocks count n h low more = search (arith, h, low, more)

no_blocks : (count n : ℕ) → order_weight (orders.Move kinds.Read count 0) - n ≤ 1
    → n < order_weight (orders.Move kinds.Read count 0) → count ≤ n * 512 → n ≡ blocks_in count
no_blocks count n h low few = search (arith, h, low, few)

-- ---- the law

module _ {K : Type 0} (picks : Picking K) (hardware : Hardware) (credits : ℕ) (controller : Holdings K)
    (start : Port K) (made : IsMadeOf hardware credits controller start) (p : Port K) (calls : List Call)
    (outcome : Outcome) (done : Unit {0}) (u : Upcoming) (kind : MoveKind) (block : ℕ) (e : End)
    (asks : AsksAlways (Went outcome (Ok done) ∷ calls)) (a : Answered picks start (Went outcome (Ok done) ∷ calls) p)
    (told : step_told a.0 outcome a.0.task ≡ Some blocks.Good) (step : begun_step a.0.controller ≡ Some u)
    (is_move : block_moved u.command.order u.lbn ≡ Some (kind, block)) (there : Contains (come a.0 p) e) where
  pub stands : (b : List ℕ) × StandsFor picks e kind start p (Went outcome (Ok done) ∷ calls) a b
  unfolding command_of
  stands =
      let at = moved_at a.0 (wish calls) outcome u kind block asks.0
      (steps picks hardware credits controller start made a.0 calls asks.1 a.1) told step is_move in
      let found = kept_found (is_of u.connection u.command.reference) a.0.buffers.items at.0
      (position (is_of u.connection u.command.reference) a.0.buffers.items) refl at.1 in
      let g = ending picks hardware credits controller start made p calls outcome done u at.0 e asks a step found.0 at.2
      there (λ n of u_of. (of_first u.connection u.command.reference at.0 found.1).1 ∙ u_of) in
      let move = move_is u.command.order u.lbn kind block is_move in
      let t = tally picks hardware credits controller start made p calls outcome done u at.0 e asks a step found.0 at.2
      there g kind move.0 move.1 move.2 in
      let r = g.own in
      let d = drive_of a.0.controller.drives r.command.unit in
      let b = g.text in
      let order : r.command.order ≡ orders.Move kind move.0 move.1 =
      ap (λ (x : Upcoming). x.command.order) (sym g.of) ∙ move.2 in
      let fields = move_fields b kind move.0 move.1 (ap (λ (c : Command). c.order) (sym g.is.command) ∙ order) in
      let weight : r.weight ≡ order_weight (orders.Move kinds.Read (num b 12 4) 0) =
      g.is.whole ∙ ap order_weight order ∙ ap (λ m. order_weight (orders.Move kinds.Read m 0)) fields.0 in
      let online = touched_so d.online r.command.order r.done (kind, block) (moved_so r.command.order
      (block_touched d.online r.command.order r.done)
      ∙ subst (λ (x : Upcoming). block_moved x.command.order x.lbn ≡ Some (kind, block)) g.of is_move) in
      let good : block_told g.verdict ≡ blocks.Good = good_back a.0 outcome g.verdict g.how told in
      let x = ended_so (goes_on d.online r.command.order (block_told g.verdict) (left_of r))
      (outcome_at d.unit d.online r.command r.good (block_told g.verdict)) e g.given in
      let left : left_of r ≤ 1 = search (
        arith,
        left_so (touches d.online r.command.order) (nat_lt 1 (left_of r)) online
            (ap (λ k. goes_on d.online r.command.order k (left_of r)) (sym good) ∙ x.0),
      ) in
      let few = subst (λ w. w - r.done ≤ 1) weight left in
      let low = subst (λ w. r.done < w) weight g.is.low in
      let all : t.moved_all ≡ blocks_in (num b 12 4) = elim (t.last (ap (λ y. y && is_good_block (block_told g.verdict))
      online ∙ ap is_good_block good)) [
        | inl none ↦ none.0 ∙ no_blocks (num b 12 4) r.done few low none.1
        | inr more ↦ more.0 ∙ all_blocks (num b 12 4) r.done few low more.1
      ] in (
        b,
        record {
          message = t.counts.message;
          unit = sym (ap (λ (c : Command). c.unit) g.is.command) ∙ ap (λ (y : End). y.unit) x.1;
          opcode = opcode_is (slice_index b 8) kind fields.3;
          moves = t.counts.moves
              ∙ ap (transfers kind e.unit (num b 28 4) (num b 16 4) (num b 12 4)) all;
          status = sym (ap (λ (y : End). y.status) x.1)
              ∙ ap (outcome_status d.online r.command.order) good
              ∙ status_so d.online r.command.order kind move.0 move.1 order online;
          count = t.counts.count ∙ ap (λ m. bodies.Moved (min (num b 12 4) (512 * m))) all
              ∙ ap bodies.Moved (all_bytes (num b 12 4));
        },
      )
