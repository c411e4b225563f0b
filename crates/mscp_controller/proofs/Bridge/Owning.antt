-- What no event changes: the settings and the picker, and that nothing is begun.
use Rattle.mscp_controller.proofs.Common.{◌≡◌, List, ℕ, arith, Option, None, Command, Block, Connection, Report, Choice, Line, Serves, SendFault, Event, Entry, Answers, Holdings, held_unless}

-- the limits and the picker stay
pub stays : {K : Type 0} (picks : List Choice → ℕ → Type 0) (k : Block) (old : Line K) (report : Report) (new : Line K)
    → Serves picks k old report new
    → (new.room ≡ old.room) × (new.budget ≡ old.budget) × (new.longest ≡ old.longest) × (new.picker ≡ old.picker)
stays {K} picks k old Report.Idle new h = search arith
stays {K} picks k old (Report.Served connection reference unit lbn started seek ended) new h = search arith

-- ---- any event
-- the settings and the picker are the same
abbrev pub IsSameOwner : {K : Type 0} → Holdings K → Holdings K → Type 0
IsSameOwner h h' = (h'.settings ≡ h.settings) × (h'.picker ≡ h.picker)

owner_unless : {K : Type 0} (via : Connection) (h : Holdings K) (command : Command) (o : Option SendFault)
    → IsSameOwner h (held_unless via h command o)
owner_unless via h command o = grind arith

module _ {K : Type 0} (picks : List Choice → ℕ → Type 0) (h h' : Holdings K) where
  -- no event changes the settings or the picker
  pub owner_kept : (event : Event) (entry : Entry) → Answers picks h event entry h' → IsSameOwner h h'
  owner_kept o w r = grind (arith, owner_unless, stays)

  -- ---- nothing is begun
  -- no event begins a command
  pub unbegun_kept : (event : Event) (entry : Entry) → h.begun ≡ None → Answers picks h event entry h' → h'.begun ≡ None
  unbegun_kept o w n r = grind arith
