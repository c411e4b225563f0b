-- What a step of a transfer moves that goes well.
use Rattle.mscp_ported.proofs.Common.{Action, Answered, Block, Bool, Buffer, Call, Command, Drive, First, Holdings, IsEmpty, List, MoveKind, Name, None, Ok, Option, Order, Outcome, Picking, Port, Record, Some, Upcoming, Verdict, WasMoved, Went, Wish, [], ap, arith, begun_step, block_moved, block_told, block_touched, buffer_in, command_of, cond, done_by, drive_of, end_given, false, false≢true, filter, find, found_is, has_name, inl, inr, is_done, is_moving, is_of, is_step_of, left_of, length, min, name_on, nat_lt, none-some, num, opcode_of, option_map, position, refl, same_is, same_name, slice_index, step_told, subst, sym, touches, true, upcoming_begun, upcoming_of, wanted, wish, ℕ, ◌&&◌, ◌*◌, ◌+◌, ◌-◌, ◌<◌, ◌∙◌, ◌∷◌, ◌≡◌, ◌≢◌, ◌≤◌, ◌⊎◌}
use Rattle.mscp_ported.proofs.Kept.{is_numbered, number_of}
use Rattle.mscp_ported.proofs.Said.{kept_found, of_first}
use Rattle.mscp_ported.proofs.Stepping.{IsHow}
use Rattle.mscp_packet.specs.declared.class.Opcode.TheVariants as codes
use Rattle.mscp_packet.specs.declared.command.Order.TheVariants as orders
use Rattle.mscp_drive.specs.declared.block.Block.TheVariants as blocks
use Rattle.mscp_port.specs.declared.action.Action.TheVariants as actions
use Rattle.mscp_port.specs.declared.action.Outcome.TheVariants as outcomes
use Rattle.mscp_ported.proofs.Making.{transfer_so, verdict_so}
use Rattle.mscp_ported.proofs.Moved.{moved_at}
use Rattle.mscp_ported.proofs.Moving.{Steps}
use Rattle.mscp_ported.proofs.Owning.{AreOwned, Own}
use Rattle.mscp_ported.proofs.Sole.{found_sole, one_of, sole_passes}

-- ---- the step that is begun

-- it is told of the record of its name
pub begun_record : {K : Type 0} (h : Holdings K) (name : Name) (r : Record) → h.begun ≡ Some name
    → find (has_name name) h.waiting ≡ Some r
    → begun_step h ≡ Some (upcoming_of (drive_of h.drives r.command.unit) r)
begun_record {K} h name r begun found = ap (upcoming_begun h.drives h.waiting) begun
    ∙ ap (λ o. option_map (λ x. upcoming_of (drive_of h.drives x.command.unit) x) o) found

-- and is of no other number
pub other_step : {K : Type 0} (h : Holdings K) (n : ℕ) (name : Name) → h.begun ≡ Some name
    → same_name name (name_on First n) ≡ false → is_step_of n (begun_step h) ≡ false
other_step {K} h n name begun other = grind (arith, same_is, found_is)

-- ---- blocks

-- a step that doesn't end its command moved a block, and more are to come
pub record GoesOn (d : Drive) (r : Record) (k : Block) : Type 0 where
  pub online : touches d.online r.command.order ≡ true
  pub good : k ≡ blocks.Good
  pub more : 1 < left_of r

pub goes_on_so : (d : Drive) (r : Record) (k : Block) → end_given k d r ≡ None → GoesOn d r k
goes_on_so d r k e = grind (arith, nat_lt, none-some)

-- which block such a step moves
pub block_so : (online : Bool) (order : Order) (done : ℕ) → touches online order ≡ true
    → (kind : MoveKind) × (count : ℕ) × (first : ℕ) × (order ≡ orders.Move kind count first)
    × (block_moved order (block_touched online order done) ≡ Some (kind, first + done))
block_so online order done e = grind (arith, false≢true)

pub is_step_sole : {K : Type 0} (h : Holdings K) (n : ℕ) (name : Name) (r : Record) → h.begun ≡ Some name
    → name ≡ name_on First n → filter (is_numbered n) h.waiting ≡ r ∷ []
    → begun_step h ≡ Some (upcoming_of (drive_of h.drives r.command.unit) r)
is_step_sole h n name r begun named sole = begun_record h name r begun
    (subst (λ x. find (has_name x) h.waiting ≡ Some r) (sym named) (found_sole (is_numbered n) h.waiting r sole))

-- what is told of a step
pub told_so : {K : Type 0} (old : Port K) (outcome : Outcome) (verdict : Verdict) → IsHow old outcome verdict
    → block_told verdict ≡ blocks.Good → step_told old outcome old.task ≡ Some blocks.Good
told_so old outcome verdict h good = grind (arith, verdict_so, transfer_so)

-- ---- what a message of a transfer says

pub move_fields : (b : List ℕ) (kind : MoveKind) (count first : ℕ) → (command_of b).order ≡ orders.Move kind count first
    → (count ≡ num b 12 4) × (first ≡ num b 28 4) × (32 ≤ length b)
    × (opcode_of (slice_index b 8) ≡ Some (codes.Move kind))
unfolding command_of
move_fields b kind count first e = grind (arith, nat_lt)

-- the buffer that it names
buffer_count : (b : List ℕ) (changes : ℕ) → 32 ≤ length b → (buffer_in b changes).count ≡ num b 12 4
buffer_count b changes h = grind (arith, h)

buffer_address : (b : List ℕ) (changes : ℕ) → 32 ≤ length b → (buffer_in b changes).address ≡ num b 16 4
buffer_address b changes h = grind (arith, h)

kept_count : (b : Buffer) (bytes : List ℕ) → (changes : ℕ) × (b ≡ buffer_in bytes changes) → 32 ≤ length bytes
    → b.count ≡ num bytes 12 4
kept_count b bytes kept long = ap (λ (x : Buffer). x.count) kept.1 ∙ buffer_count bytes kept.0 long

pub kept_address : (b : Buffer) (bytes : List ℕ) → (changes : ℕ) × (b ≡ buffer_in bytes changes) → 32 ≤ length bytes
    → b.address ≡ num bytes 16 4
kept_address b bytes kept long = ap (λ (x : Buffer). x.address) kept.1 ∙ buffer_address bytes kept.0 long

-- ---- a step that goes well

pub no_done : (x y z : Bool) (ws : List Action) → z ≡ false → cond (x && y && z) ws [] ≡ []
no_done x y z ws e = grind arith

all_done : (x y z : Bool) (ws : List Action) → x ≡ true → y ≡ true → z ≡ true → cond (x && y && z) ws [] ≡ ws
all_done x y z ws e f g = grind arith

pub none_moving : (x y z : Bool) (ws : List Action) → y ≡ false → cond (x && y && z) ws [] ≡ []
none_moving x y z ws e = grind arith

-- a block at the same place
transfer_same : (kind : MoveKind) (unit n first other at place count all : ℕ) → first ≡ other → at ≡ place
    → count ≡ all
    → actions.Transfer kind unit (first + n) (at + n * 512) (min (count - n * 512) 512)
    ≡ actions.Transfer kind unit (other + n) (place + n * 512) (min (all - n * 512) 512)
transfer_same kind unit n first other at place count all e f g = grind arith

module _ {K : Type 0} (picks : Picking K) (start : Port K) (old : Port K) (calls : List Call)
    (a : Answered picks start calls old) (owned : AreOwned picks start old calls a) (outcome : Outcome)
    (done : Unit {0}) (some : wish calls ≢ None) (s : Steps old (wish calls)) (name : Name)
    (begun : old.controller.begun ≡ Some name)
    (n : ℕ) (named : name ≡ name_on First n) where
  -- what such a step of the one command of its number moves
  pub record Moves (r : Record) (b : Buffer) (bytes : List ℕ) (kind : MoveKind) : Type 0 where
    pub own : Own picks start old calls a b r bytes
    pub number : b.reference ≡ n
    pub order : r.command.order ≡ orders.Move kind (num bytes 12 4) (num bytes 28 4)
    pub opcode : opcode_of (slice_index bytes 8) ≡ Some (codes.Move kind)
    pub address : b.address ≡ num bytes 16 4
    pub moves : ((num bytes 12 4 ≤ r.done * 512) × (done_by n (Went outcome (Ok done)) (wish calls) old ≡ []))
        ⊎ ((r.done * 512 < num bytes 12 4)
        × (done_by n (Went outcome (Ok done)) (wish calls) old
        ≡ actions.Transfer kind r.command.unit (num bytes 28 4 + r.done) (num bytes 16 4 + r.done * 512)
        (min (num bytes 12 4 - r.done * 512) 512) ∷ []))

  pub moves_so : (r : Record) → filter (is_numbered n) old.controller.waiting ≡ r ∷ []
      → touches (drive_of old.controller.drives r.command.unit).online r.command.order ≡ true
      → step_told old outcome old.task ≡ Some blocks.Good
      → (b : Buffer) × (bytes : List ℕ) × (kind : MoveKind) × Moves r b bytes kind
  moves_so r sole online told =
      let d = drive_of old.controller.drives r.command.unit in
      let u = upcoming_of d r in
      let step = is_step_sole old.controller n name r begun named sole in
      let of = block_so d.online r.command.order r.done online in
      let at = moved_at old (wish calls) outcome u of.0 (of.2 + r.done) some s told step of.4 in
      let found = kept_found (is_of r.connection r.command.reference) old.buffers.items at.0
      (position (is_of r.connection r.command.reference) old.buffers.items) refl at.1 in
      let first = of_first r.connection r.command.reference at.0 found.1 in
      let is = number_of n r (sole_passes (is_numbered n) old.controller.waiting r sole) in
      let number : at.0.reference ≡ n = first.1 ∙ is.1 in
      let o = owned at.0 found.0 at.2 in
      let same : r ≡ o.0 = one_of n old.controller.waiting r o.0 sole
      (subst (λ m. filter (is_numbered m) old.controller.waiting ≡ o.0 ∷ []) number o.2.sole) in
      let own = subst (λ x. Own picks start old calls a at.0 x o.1) (sym same) o.2 in
      let fields = move_fields o.1 of.0 of.1 of.2 (ap (λ (c : Command). c.order) (sym own.command) ∙ of.3) in
      let count = kept_count at.0 o.1 own.kept fields.2 in
      let address = kept_address at.0 o.1 own.kept fields.2 in (
        at.0,
        o.1,
        of.0,
        record {
          own = own;
          number = number;
          order = of.3 ∙ ap (λ m. orders.Move of.0 m of.2) fields.0 ∙ ap (orders.Move of.0 (num o.1 12 4)) fields.1;
          opcode = fields.3;
          address = address;
          moves = elim at.3 [
            | inl e ↦ inl (
              subst (λ m. m ≤ r.done * 512) count (low_of at.0 u (wish calls) e.1),
              none_moving (is_done outcome) (is_moving old.task) (is_step_of n (begun_step old.controller))
                  (wanted (wish calls)) e.0,
            )
            | inr m ↦ let high = high_of at.0 u of.0 (of.2 + r.done) (wish calls) m.1 in inr (
              subst (λ x. r.done * 512 < x) count high.0,
              all_done (is_done outcome) (is_moving old.task) (is_step_of n (begun_step old.controller))
                  (wanted (wish calls)) (ap is_done high.1) m.0
                  (ap (is_step_of n) step ∙ sole_passes (is_numbered n) old.controller.waiting r sole)
                  ∙ high.2
                  ∙ ap (λ x. x ∷ []) (transfer_same of.0 r.command.unit r.done of.2 (num o.1 28 4) at.0.address
                  (num o.1 16 4) at.0.count (num o.1 12 4) fields.1 address count),
            )
          ];
        },
      )
    where
      low_of : (b : Buffer) (u : Upcoming) (w : Option Wish) → IsEmpty b u w → b.count ≤ u.done * 512
      low_of b u None e = absurd e
      low_of b u (Some w) e = e.0

      high_of : (b : Buffer) (u : Upcoming) (kind : MoveKind) (block : ℕ) (w : Option Wish)
          → WasMoved b u kind block outcome w
          → (u.done * 512 < b.count) × (outcome ≡ outcomes.Done)
          × (wanted w ≡ actions.Transfer kind u.command.unit block (b.address + u.done * 512)
          (min (b.count - u.done * 512) 512) ∷ [])
      high_of b u kind block None m = absurd m
      high_of b u kind block (Some w) m = (m.0, m.1, ap (λ x. x ∷ []) m.2.action)
