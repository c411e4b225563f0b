-- What of a port is in step with what was done in its host's memory.
use Rattle.mscp_ported.proofs.Common.{Action, Bool, Commands, Due, Idle, IfSome, IsOfBlock, IsSomeAnd, List, Looks, Marks, Message, None, Opened, Option, Outgoing, Packet, Port, Read, Responses, Rings, Said, Side, Slot, Stage, StandInOrder, Taken, Talk, Task, TellAll, Tells, Turn, Wish, Written, [], address_in, bytes_read, connection_in, credits_by, false, is_dead, is_owned, left_after, length, length_in, map, message_slot, message_text, option_to_list, packet_of, packet_slot, said_in, silence, slot_in, text_of, true, ℕ, ◌%◌, ◌++◌, ◌+◌, ◌-◌, ◌==◌, ◌^◌, ◌∷◌, ◌≡◌, ◌≢◌, ◌≤◌, arith}
pub use Rattle.mscp_ported.proofs.Deeds.{IsClear}
use Rattle.mscp_port.specs.declared.action.Action.TheVariants as actions
use Rattle.mscp_port.specs.declared.stage.Stage.TheVariants as stages
use Rattle.mscp_port.specs.declared.task.Task.TheVariants as tasks

-- ---- a port

pub record Look : Type 0 where
  pub stage : Stage
  pub first : ℕ
  pub second : ℕ
  pub word : Option ℕ
  pub rings : Option Rings
  pub responses : ℕ
  pub commands : ℕ
  pub task : Task
  pub outgoing : Option Outgoing
  pub untold : ℕ
  pub more : ℕ

abbrev pub look : {K : Type 0} → Port K → Look
look p = record {
  stage = p.stage;
  first = p.words.first;
  second = p.words.second;
  word = p.written;
  rings = p.rings;
  responses = p.responses;
  commands = p.commands;
  task = p.task;
  outgoing = p.outgoing;
  untold = p.untold;
  more = p.more;
}

abbrev pub given_at : Look → Side → ℕ
given_at l Responses = l.responses
given_at l Commands = l.commands

-- the next slot of a ring, in which this stood
abbrev pub slot_at : Look → Side → ℕ → Slot
slot_at l side word = record { side = side; address = address_in l.rings side (given_at l side); word = word }

-- ---- names

-- in these stages there is an area
abbrev pub has_area : Stage → Bool
has_area stages.Clearing = true
has_area stages.Last = true
has_area stages.Up = true
has_area stage = false

-- and in these the host hasn't named it
abbrev pub is_early : Stage → Bool
is_early stages.First = true
is_early (stages.Wrapped word) = true
is_early stages.Second = true
is_early stages.Third = true
is_early stage = false

-- a ring's slots are a power of two, up to 128
pub record IsWide (r : Rings) : Type 0 where
  pub responses : 1 ≤ r.responses
  pub commands : 1 ≤ r.commands
  pub response_log : (j : ℕ) × (k : ℕ) × (j + k ≡ 8) × (r.responses ≡ 2 ^ k)
  pub command_log : (j : ℕ) × (k : ℕ) × (j + k ≡ 8) × (r.commands ≡ 2 ^ k)
  pub room : 8 ≤ r.base

pub record Names (stage : Stage) (first second : ℕ) (word : Option ℕ) (rings : Option Rings)
    (said_first said_second answer : ℕ) (named : Option Rings) : Type 0 where
  pub first_so : said_first ≡ first
  pub second_so : said_second ≡ second
  pub answer_so : IfSome word (λ w. answer ≡ w)
  pub named_so : named ≡ rings
  pub area : has_area stage ≡ true → rings ≢ None
  pub early : is_early stage ≡ true → rings ≡ None
  pub wide : IfSome rings IsWide

-- ---- slots that were given back

pub record Counts (rings : Option Rings) (responses commands : ℕ) (told : List Packet) (heard : List Message)
    : Type 0 where
  pub told_so : responses ≡ length told % 256
  pub heard_so : commands ≡ length heard % 256
  pub packets : StandInOrder rings Responses 0 (map packet_slot told)
  pub messages : StandInOrder rings Commands 0 (map message_slot heard)
  pub none : rings ≡ None → (told ≡ []) × (heard ≡ [])

-- ---- what is in hand

-- nothing is due, and no slot is taken
abbrev pub IsOpen : Turn → Type 0
IsOpen Idle = Unit {0}
IsOpen (Read slot header text) = Unit {0}
IsOpen turn = ⊥

abbrev pub GivesBack : Look → Side → ℕ → Turn → Type 0
GivesBack l Responses word turn =
    (address : ℕ) × (bytes : List ℕ) × (turn ≡ Written (slot_at l Responses word) address bytes)
GivesBack l Commands word turn =
    (header : ℕ) × (text : List ℕ) × (turn ≡ Read (slot_at l Commands word) header text)

abbrev pub Fits : Look → Task → Turn → Type 0
Fits l (tasks.Header slot) turn = turn ≡ Taken (slot_at l Commands slot.word)
Fits l (tasks.Text slot size foreign) turn = (header : ℕ) × (turn ≡ Opened (slot_at l Commands slot.word) header)
    × (size ≡ bytes_read (length_in header)) × (foreign ≡ (connection_in header == 2))
Fits l (tasks.Packet slot) turn = turn ≡ Taken (slot_at l Responses slot.word)
Fits l (tasks.Return side slot) turn = GivesBack l side slot.word turn
Fits l (tasks.Neighbour side) turn = turn ≡ Looks side
Fits l (tasks.Word side) turn = turn ≡ Marks side
Fits l tasks.Interrupt turn = turn ≡ Due
Fits l task turn = IsOpen turn

abbrev pub IsRead : Action → Type 0
IsRead (actions.Read address count) = Unit {0}
IsRead action = ⊥

abbrev pub IsWrite : Action → Type 0
IsWrite (actions.Write address count) = Unit {0}
IsWrite action = ⊥

abbrev pub IsInterrupt : Action → Type 0
IsInterrupt (actions.Interrupt vector) = Unit {0}
IsInterrupt action = ⊥

abbrev pub IsElse : Action → Type 0
IsElse (actions.Read address count) = ⊥
IsElse (actions.Write address count) = ⊥
IsElse (actions.Interrupt vector) = ⊥
IsElse action = Unit {0}

-- these bytes are the packet of what goes out
abbrev pub IsPacketOut : Look → List ℕ → Type 0
IsPacketOut l bytes = IsSomeAnd l.outgoing (λ o. bytes ≡ packet_of (credits_by l.untold o.kind) o.kind o.bytes.items)

-- what was wanted is that of what is in hand
abbrev pub IsAsked : Look → Task → Wish → Type 0
IsAsked l tasks.Free w = Unit {0}
IsAsked l (tasks.Clear done) w = Unit {0}
IsAsked l (tasks.Slot side) w =
    IsSomeAnd l.rings (λ r. w.action ≡ actions.Read (slot_in r side (given_at l side)) 4)
IsAsked l (tasks.Header slot) w = IsRead w.action
IsAsked l (tasks.Text slot size foreign) w = IsRead w.action
IsAsked l (tasks.Neighbour side) w = IsRead w.action
IsAsked l (tasks.Packet slot) w =
    ((count : ℕ) × (w.action ≡ actions.Write (text_of slot.word - 4) count)) × IsPacketOut l w.bytes
IsAsked l (tasks.Return side slot) w = IsWrite w.action
IsAsked l (tasks.Word side) w = IsWrite w.action
IsAsked l tasks.Interrupt w = IsInterrupt w.action
IsAsked l task w = IsElse w.action

-- it is of the rings, or of a block
abbrev pub IsOfRings : Task → Type 0
IsOfRings tasks.Free = ⊥
IsOfRings tasks.Settle = ⊥
IsOfRings (tasks.Clear done) = ⊥
IsOfRings tasks.Interrupt = ⊥
IsOfRings task = Unit {0}

pub block_rings : (task : Task) → IsOfBlock task → IsOfRings task
block_rings task h = grind arith

-- in these stages a host may be interrupted
abbrev pub is_loud : Stage → Bool
is_loud stages.Second = true
is_loud stages.Third = true
is_loud stages.Last = true
is_loud stages.Up = true
is_loud stage = false

-- a slot that was taken was the port's
abbrev pub IsOwned : Turn → Type 0
IsOwned (Taken slot) = is_owned slot.word ≡ true
IsOwned (Opened slot header) = is_owned slot.word ≡ true
IsOwned (Read slot header text) = is_owned slot.word ≡ true
IsOwned (Written slot address bytes) = is_owned slot.word ≡ true
IsOwned turn = Unit {0}

-- no slot is taken
abbrev pub IsSimple : Turn → Type 0
IsSimple Idle = Unit {0}
IsSimple Due = Unit {0}
IsSimple turn = ⊥

pub record Hand (l : Look) (turn : Turn) (w : Option Wish) : Type 0 where
  pub fits : Fits l l.task turn
  pub asked : IfSome w (λ x. IsAsked l l.task x)
  pub up : IsOfRings l.task → l.stage ≡ stages.Up
  pub step : l.task ≡ tasks.Interrupt → is_loud l.stage ≡ true
  pub clear : IsClear l.task → l.stage ≡ stages.Clearing
  pub own : IsOwned turn
  pub idle : l.stage ≢ stages.Up → IsSimple turn
  -- and a step of a command is in hand only while something is wanted for it
  pub wished : w ≡ None → IsOfBlock l.task → ⊥

-- ---- what goes out, and what is heard

-- a slot of the ring of responses is looked for, or was taken, or is given back
abbrev pub NeedsOut : Task → Type 0
NeedsOut (tasks.Slot Responses) = Unit {0}
NeedsOut (tasks.Packet slot) = Unit {0}
NeedsOut (tasks.Return Responses slot) = Unit {0}
NeedsOut task = ⊥

-- a packet was written, and its slot is to be given back
abbrev pub IsTelling : Task → Type 0
IsTelling (tasks.Return Responses slot) = Unit {0}
IsTelling task = ⊥

-- the credits that weren't told behind these
abbrev pub left_all : ℕ → List Said → ℕ
left_all left [] = left
left_all left (said ∷ more) = left_all (left_after left said.kind) more

-- what wasn't told of is what is left, also by the packet that was written
abbrev pub HasLeft : Task → Turn → Option Outgoing → ℕ → ℕ → Type 0
HasLeft (tasks.Return Responses slot) turn outgoing untold left =
    (at : Slot) × (address : ℕ) × (bytes : List ℕ) × (turn ≡ Written at address bytes)
    × IsSomeAnd outgoing (λ o. Tells left (record { slot = at; address = address; bytes = bytes }) (said_in o)
    × (untold ≡ left_after left o.kind))
HasLeft task turn outgoing untold left = untold ≡ left

pub left_quiet : (task : Task) (turn : Turn) (o : Option Outgoing) (untold left : ℕ) → (IsTelling task → ⊥)
    → HasLeft task turn o untold left → untold ≡ left
left_quiet (tasks.Return Responses slot) turn o untold left calm h = absurd (calm tt)
left_quiet task turn o untold left calm h = h

pub quiet_left : (task : Task) (turn : Turn) (o : Option Outgoing) (untold left : ℕ) → (IsTelling task → ⊥)
    → untold ≡ left → HasLeft task turn o untold left
quiet_left (tasks.Return Responses slot) turn o untold left calm h = absurd (calm tt)
quiet_left task turn o untold left calm h = h

-- the packets whose slots were given back say what is gone, and there is so much left
abbrev pub AreTold : ℕ → Task → Turn → Option Outgoing → ℕ → List Packet → List Said → Type 0
AreTold more task turn outgoing untold told said =
    (gone : List Said) × (gone ++ map said_in (option_to_list outgoing) ≡ said) × TellAll more told gone
    × HasLeft task turn outgoing untold (left_all more gone)

-- what is in hand is another that tells nothing
pub told_on : (more : ℕ) (task task' : Task) (turn turn' : Turn) (o : Option Outgoing) (untold : ℕ) (told : List Packet)
    (said : List Said) → (IsTelling task → ⊥) → (IsTelling task' → ⊥) → AreTold more task turn o untold told said
    → AreTold more task' turn' o untold told said
told_on more task task' turn turn' o untold told said calm calm' h = (
  h.0,
  h.1,
  h.2,
  quiet_left task' turn' o untold (left_all more h.0) calm'
      (left_quiet task turn o untold (left_all more h.0) calm h.3),
)

pub record Speech (more : ℕ) (stage : Stage) (task : Task) (turn : Turn) (outgoing : Option Outgoing) (untold : ℕ)
    (told : List Packet) (said : List Said) : Type 0 where
  pub out : outgoing ≢ None → stage ≡ stages.Up
  pub has : NeedsOut task → outgoing ≢ None
  pub tells : AreTold more task turn outgoing untold told said

-- the text of a message whose slot is to be given back
abbrev pub in_hand : Task → Turn → List (List ℕ)
in_hand (tasks.Return Commands slot) (Read at header text) = text ∷ []
in_hand task turn = []

abbrev pub Hears : Task → Turn → List Message → List (List ℕ) → Type 0
Hears task turn heard texts = map message_text heard ++ in_hand task turn ≡ texts

-- ---- all

pub record IsEnd (t : Talk) (said : List Said) (texts : List (List ℕ)) : Type 0 where
  pub talk : t ≡ silence
  pub none_said : said ≡ []
  pub none_accepted : texts ≡ []

pub record InStep (l : Look) (t : Talk) (w : Option Wish) (said : List Said) (texts : List (List ℕ)) : Type 0 where
  pub names : Names l.stage l.first l.second l.word l.rings t.first t.second t.answer t.rings
  pub counts : Counts l.rings l.responses l.commands t.told t.heard
  pub hand : Hand l t.turn w
  pub speech : Speech l.more l.stage l.task t.turn l.outgoing l.untold t.told said
  pub hears : Hears l.task t.turn t.heard texts
  pub ended : is_dead l.stage ≡ true → IsEnd t said texts
