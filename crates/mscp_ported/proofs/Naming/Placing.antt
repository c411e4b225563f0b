-- What a port reads was put where it was wanted from.
use Rattle.mscp_ported.proofs.Common.{◌≡◌, ◌⊎◌, ℕ, Bool, List, [], ◌∷◌, Option, None, Some, Contains, IfSome, IsSomeAnd, MatchOption, inl, inr, refl, true, arith, none-some, Result, num, Action, Outcome, Unasked, Buffer, Port, Side, Stage, Task, Rings, slot_in, Goes, Hears, Wants, NamesArea, PutsBuffer, PutsPacket, read_from, Drops, IsReadingSlot, IsReadingText, Leaves, in_hand, is_owned, text_of, IsWanted, given_in, Choice}
use Rattle.mscp_port.specs.Buffers.{buffer_in}
use Rattle.mscp_port.specs.declared.action.Action.TheVariants as actions
use Rattle.mscp_port.specs.declared.stage.Stage.TheVariants as stages
use Rattle.mscp_port.specs.declared.task.Task.TheVariants as tasks
use Rattle.mscp_port.proofs.Among.{none_among}
use Rattle.mscp_ported.proofs.Naming.Knowing.{carried, here, if_none, in_order_behind, there, weakened}

-- the read that is wanted from this address on is that of what is in hand
abbrev pub IsReadFrom : {K : Type 0} → Port K → Task → ℕ → Type 0
IsReadFrom p (tasks.Slot side) address = IsSomeAnd p.rings (λ r. address ≡ slot_in r side (given_in p side))
IsReadFrom p (tasks.Text slot size foreign) address = address ≡ text_of slot.word
IsReadFrom p task address = Unit {0}

-- what a port knows was put where it says
pub record Places {K : Type 0} (ws : List ℕ) (rs : List (ℕ × List ℕ)) (o : Option ℕ) (p : Port K) : Type 0 where
  pub asked : IfSome o (λ address. IsReadFrom p p.task address)
  pub packet : IfSome (in_hand p.task) (λ word. PutsPacket ws rs word)
  pub buffer : (b : Buffer) → Contains p.buffers.items b → PutsBuffer ws rs b

-- ---- what was put stays

packet_put_still : (ws more : List ℕ) (rs others : List (ℕ × List ℕ)) (word : ℕ)
    → ((r : Rings) → NamesArea ws r → NamesArea more r)
    → ((x : ℕ × List ℕ) → Contains rs x → Contains others x) → PutsPacket ws rs word → PutsPacket more others word
packet_put_still ws more rs others word areas reads n = search arith

buffer_put_still : (ws more : List ℕ) (rs others : List (ℕ × List ℕ)) (b : Buffer)
    → ((r : Rings) → NamesArea ws r → NamesArea more r)
    → ((x : ℕ × List ℕ) → Contains rs x → Contains others x) → PutsBuffer ws rs b → PutsBuffer more others b
buffer_put_still ws more rs others b areas reads n =
    (n.0, n.1, n.2, packet_put_still ws more rs others n.0 areas reads n.3, reads (text_of n.0, n.1) n.4, n.5)

area_behind : (ws : List ℕ) (word : ℕ) (r : Rings) → NamesArea ws r → NamesArea (word ∷ ws) r
area_behind ws word r n = (n.0, n.1, n.2, in_order_behind (n.2 ∷ n.1 ∷ n.0 ∷ []) ws word n.3, n.4)

-- one word more
pub places_behind : {K : Type 0} (ws : List ℕ) (rs : List (ℕ × List ℕ)) (o : Option ℕ) (p : Port K) (word : ℕ)
    → Places ws rs o p → Places (word ∷ ws) rs o p
places_behind ws rs o p word k = record {
  asked = k.asked;
  packet = weakened (in_hand p.task) (λ w. PutsPacket ws rs w) (λ w. PutsPacket (word ∷ ws) rs w)
      (λ w n. packet_put_still ws (word ∷ ws) rs rs w (λ r m. area_behind ws word r m) (λ x h. h) n) k.packet;
  buffer = λ b h. buffer_put_still ws (word ∷ ws) rs rs b (λ r m. area_behind ws word r m) (λ x m. m) (k.buffer b h);
}

-- nothing is known once nothing is in hand
pub nothing_placed : {K : Type 0} (ws : List ℕ) (rs : List (ℕ × List ℕ)) (p : Port K) → p.task ≡ tasks.Free
    → p.buffers.items ≡ [] → Places ws rs None p
nothing_placed ws rs p free none = search (arith, if_none, none_among)

-- ---- what is left in hand, or dropped

given_left : {K : Type 0} (old new : Port K) (side : Side) → Leaves old new → given_in new side ≡ given_in old side
given_left old new side h3 = grind arith

read_left : {K : Type 0} (old new : Port K) (t : Task) (address : ℕ) → Leaves old new → IsReadFrom old t address
    → IsReadFrom new t address
read_left old new t address h4 h5 = grind (arith, given_left)

asked_left : {K : Type 0} (old new : Port K) (o : Option ℕ) → Leaves old new
    → IfSome o (λ address. IsReadFrom old old.task address) → IfSome o (λ address. IsReadFrom new new.task address)
asked_left old new o h3 h4 = grind (arith, read_left)

left_placed : {K : Type 0} (ws : List ℕ) (rs : List (ℕ × List ℕ)) (o : Option ℕ) (old new : Port K) → Places ws rs o old
    → Leaves old new → Places ws rs o new
left_placed ws rs o old new k l = search (arith, asked_left old new o l k.asked)

-- what is in hand then is no read
abbrev pub IsNoRead : Task → Type 0
IsNoRead tasks.Free = Unit {0}
IsNoRead (tasks.Clear done) = Unit {0}
IsNoRead task = ⊥

asked_none : {K : Type 0} (p : Port K) (t : Task) (o : Option ℕ) → IsNoRead t
    → IfSome o (λ address. IsReadFrom p t address)
asked_none p t o h3 = grind arith

no_packet : (ws : List ℕ) (rs : List (ℕ × List ℕ)) (t : Task) → IsNoRead t
    → IfSome (in_hand t) (λ word. PutsPacket ws rs word)
no_packet ws rs t h3 = grind arith

dropped_placed : {K : Type 0} (ws : List ℕ) (rs : List (ℕ × List ℕ)) (o : Option ℕ) (old new : Port K)
    → Places ws rs o old → Drops old new → Places ws rs o new
dropped_placed ws rs o old new k d = search (arith, asked_none, no_packet)

pub hand_placed : {K : Type 0} (ws : List ℕ) (rs : List (ℕ × List ℕ)) (o : Option ℕ) (old new : Port K)
    → Places ws rs o old → Leaves old new ⊎ Drops old new → Places ws rs o new
hand_placed ws rs o old new k h = search (arith, left_placed, dropped_placed)

-- ---- what is wanted

-- the read that is wanted of a slot is there only where there are rings
slot_asked : {K : Type 0} (p : Port K) (side : Side) (action : Action) (o : Option Rings) → p.rings ≡ o
    → MatchOption o (action ≡ actions.Pause) (λ r. action ≡ actions.Read (slot_in r side (given_in p side)) 4)
    → IfSome (read_from action) (λ address. IsSomeAnd o (λ r. address ≡ slot_in r side (given_in p side)))
slot_asked p side action o h4 h5 = grind arith

any_read : (o : Option ℕ) → IfSome o (λ address. Unit {0})
any_read o = grind arith

wanted_from : {K : Type 0} (p : Port K) (t : Task) (action : Action) → IsWanted p t action
    → IfSome (read_from action) (λ address. IsReadFrom p t address)
wanted_from p t action h3 = grind (arith, slot_asked, any_read)

-- the code of a fatal error, if the port is in one
abbrev dead_code : Stage → Option ℕ
dead_code (stages.Dead code) = Some code
dead_code s = None

asked_next : {K : Type 0} (picks : List Choice → ℕ → Type 0) (old new : Port K) (blocks : Bool) (action : Action)
    → Wants picks blocks old action new
    → (o : Option ℕ) → dead_code old.stage ≡ o → IfSome (read_from action) (λ address. IsReadFrom new new.task address)
asked_next picks old new blocks action h4 o h6 = search (arith, wanted_from, none-some)

pub next_placed : {K : Type 0} (picks : List Choice → ℕ
    → Type 0) (ws : List ℕ) (rs : List (ℕ × List ℕ)) (o : Option ℕ) (old new : Port K)
    (blocks : Bool) (action : Action) → Places ws rs o old → Wants picks blocks old action new
    → Places ws rs (read_from action) new
next_placed picks ws rs o old new blocks action k r =
    search (arith, asked_next _ old new blocks action r (dead_code old.stage) refl, carried)

-- ---- how it went

pub went_placed : {K : Type 0} (picks : List Choice → ℕ
    → Type 0) (ws : List ℕ) (rs : List (ℕ × List ℕ)) (o : Option ℕ) (old new : Port K)
    (outcome : Outcome) (result : Result Unit Unasked) → Places ws rs o old → Goes picks outcome old result new
    → Places ws rs None new
went_placed picks ws rs o old new outcome result k r = search (arith, carried)

-- ---- what was read

-- what holds of what is there, and what is said of it
ring_of : {X : Type 0} (o : Option X) (P Q : X → Type 0) → IfSome o P → IsSomeAnd o Q → (x : X) × P x × Q x
ring_of o P Q h3 h4 = grind arith

-- the ring of the slot that was read was named
slot_read : {K : Type 0} (ws : List ℕ) (rs : List (ℕ × List ℕ)) (old : Port K) (t : Task) (address word : ℕ)
    (bytes : List ℕ) → IfSome old.rings (λ r. NamesArea ws r) → IsReadingSlot t → IsReadFrom old t address
    → word ≡ num bytes 0 4 → is_owned word ≡ true → PutsPacket ws ((address, bytes) ∷ rs) word
slot_read ws rs old t address word bytes h7 h8 h9 h10 h11 = grind (arith, ring_of, here)

-- the packet of the text that was read was put there
text_read : {K : Type 0} (ws : List ℕ) (rs : List (ℕ × List ℕ)) (old : Port K) (t : Task) (address changes : ℕ)
    (b : Buffer) (bytes : List ℕ) → IfSome (in_hand t) (λ word. PutsPacket ws rs word) → IsReadingText t
    → IsReadFrom old t address → b ≡ buffer_in bytes changes → PutsBuffer ws ((address, bytes) ∷ rs) b
text_read ws rs old t address changes b bytes h8 h9 h10 h11 = grind (arith, packet_put_still, there, here)

read_packet_put : {K : Type 0} (ws : List ℕ) (rs : List (ℕ × List ℕ)) (old : Port K) (address : ℕ) (bytes : List ℕ)
    (now : Option ℕ) → IfSome old.rings (λ r. NamesArea ws r) → IsReadFrom old old.task address
    → IfSome (in_hand old.task) (λ word. PutsPacket ws rs word)
    → IfSome now (λ word. (in_hand old.task ≡ Some word)
    ⊎ (IsReadingSlot old.task × (word ≡ num bytes 0 4) × (is_owned word ≡ true)))
    → IfSome now (λ word. PutsPacket ws ((address, bytes) ∷ rs) word)
read_packet_put ws rs old address bytes now h6 h7 h8 h9 = grind (arith, packet_put_still, there, slot_read)

pub read_placed : {K : Type 0} (ws : List ℕ) (rs : List (ℕ × List ℕ)) (address : ℕ) (old new : Port K)
    (bytes : List ℕ) (result : Result Unit Unasked) → IfSome old.rings (λ r. NamesArea ws r)
    → Places ws rs (Some address) old → Hears bytes old result new → Places ws ((address, bytes) ∷ rs) None new
read_placed ws rs address old new bytes result areas k r = record {
  asked = tt;
  packet = read_packet_put ws rs old address bytes (in_hand new.task) areas k.asked k.packet r.learns.packet;
  buffer = λ b h. elim (r.learns.buffers b h) [
    | inl before ↦ buffer_put_still ws ws rs ((address, bytes) ∷ rs) b (λ q m. m)
        (λ x m. there (address, bytes) x rs m) (k.buffer b before)
    | inr seen ↦ text_read ws rs old old.task address seen.1 b bytes k.packet seen.0 k.asked seen.2
  ];
}
