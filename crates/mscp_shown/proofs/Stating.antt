-- What hosts are told of the states of units suits what the ends that they haven't taken yet say.
use Rattle.mscp_shown.proofs.Common.{AllByRecursion, Answer, Away, Bool, Connection, End, History, List, None, Open, Settings, Shared, State, Told, [], after_other, answer_by, append-nil, append_assoc, arith, brings, end_bytes, false, if◌then◌else◌, nat_eq, not, refl, says_away, sent_by, subst, suits_state, sym, told, told_after_end, told_after_message, true, turned, unit, ℕ, ⊎_elim, ◌&&◌, ◌++◌, ◌||◌, ◌∙◌, ◌∷◌, ◌≡◌, ◌⊎◌}
use Rattle.mscp_wire.specs.Wire as wire
use Rattle.mscp_shown.proofs.Effects.{Effects, away_of, brings_of, online_of}
use Rattle.mscp_shown.proofs.Reading.{IsFit}

-- ---- ends
-- the state of a unit once an end of its own was told
abbrev pub own_state : State → ℕ → ℕ → State
own_state s code status =
    if away_of code status then turned s Away else (if brings_of code status then turned s Open else s)

abbrev pub state_then : ℕ → State → End → State
state_then unit s e = if nat_eq e.unit unit then own_state s e.code e.status else s

-- what an end says suits this state
abbrev pub fits_state : State → Bool → Bool
fits_state Away online = not online
fits_state s online = true

-- what ends that are told one after the other say of a unit suits what was told before each, and what is told then
-- isn't that it is away while it is online
abbrev pub Stated : ℕ → Bool → State → List End → Type 0
Stated unit online s [] = s ≡ Away → online ≡ false
Stated unit online s (e ∷ es) =
    (nat_eq e.unit unit ≡ true → fits_state s (online_of e.code e.status) ≡ true)
    × Stated unit online (state_then unit s e) es

own_shared : (code status : ℕ) → own_state Shared code status ≡ Shared
own_shared code status = by_bools (away_of code status) (brings_of code status)
  where
    by_bools : (a b : Bool) → (if a then turned Shared Away else (if b then turned Shared Open else Shared)) ≡ Shared
    by_bools a b = grind arith

then_shared : (unit : ℕ) (e : End) → state_then unit Shared e ≡ Shared
then_shared unit e = grind (arith, own_shared)

-- of a unit that the other host brings online nothing is asked
pub shared_stated : (unit : ℕ) (online : Bool) (es : List End) → Stated unit online Shared es
shared_stated unit online [] = λ e. cc
shared_stated unit online (e ∷ es) = grind (arith, shared_stated unit online es, then_shared)

-- a unit that was online or not, and isn't any more
pub stated_change : (unit : ℕ) (old new : Bool) (s : State) (es : List End) → (old ≡ false → new ≡ false)
    → Stated unit old s es → Stated unit new s es
stated_change unit old new s [] f h = λ e. f (h e)
stated_change unit old new s (e ∷ es) f h = (h.0, stated_change unit old new (state_then unit s e) es f h.1)

-- by an end that isn't settled, and brings nothing online, nothing is told: what is asked then is no more
opened : (unit : ℕ) (online : Bool) (es : List End) → Stated unit online Away es → Stated unit online Open es
opened unit online [] h = λ e. cc
opened unit online (e ∷ es) h = (
  λ q. refl,
  by_bools (nat_eq e.unit unit) (away_of e.code e.status) (brings_of e.code e.status) (opened unit online es) h.1,
)
  where
    by_bools : (here away on : Bool) → (Stated unit online Away es → Stated unit online Open es)
        → Stated unit online (if here then (if away then turned Away Away else (if on then turned Away Open else Away))
        else Away) es
        → Stated unit online (if here then (if away then turned Open Away else (if on then turned Open Open else Open))
        else Open) es
    by_bools here away on f k = grind arith

pub stated_unsettled : (unit : ℕ) (online : Bool) (s : State) (e : End) (es : List End)
    → brings_of e.code e.status ≡ false → Stated unit online (state_then unit s e) es → Stated unit online s es
stated_unsettled unit online s e es none h =
    by_bools (nat_eq e.unit unit) (away_of e.code e.status) (brings_of e.code e.status) none s h
  where
    by_bools : (here away on : Bool) → on ≡ false → (s : State)
        → Stated unit online
        (if here then (if away then turned s Away else (if on then turned s Open else s)) else s) es
        → Stated unit online s es
    by_bools here away on none s k = grind (arith, opened)

-- one end more
last_fits : (old new : Bool) (s : State) (code status : ℕ) → Effects old new code status → (s ≡ Away → old ≡ false)
    → fits_state s (online_of code status) ≡ true
last_fits old new s code status f h = grind arith

last_state : (old new : Bool) (s : State) (code status : ℕ) → Effects old new code status → (s ≡ Away → old ≡ false)
    → own_state s code status ≡ Away → new ≡ false
last_state old new s code status f h =
    by_bools (away_of code status) (brings_of code status) s f.away f.stays h
  where
    by_bools : (a b : Bool) (s : State) → (a ≡ true → new ≡ false) → (b ≡ false → old ≡ false → new ≡ false)
        → (s ≡ Away → old ≡ false)
        → (if a then turned s Away else (if b then turned s Open else s)) ≡ Away → new ≡ false
    by_bools a b s away stays h e = grind arith

last_one : (unit : ℕ) (old new : Bool) (s : State) (e : End)
    → (nat_eq e.unit unit ≡ true → Effects old new e.code e.status)
    → (nat_eq e.unit unit ≡ false → old ≡ false → new ≡ false) → (s ≡ Away → old ≡ false)
    → Stated unit new s (e ∷ [])
last_one unit old new s e f g h = grind (arith, last_fits, last_state)

pub stated_push : (unit : ℕ) (old new : Bool) (s : State) (es : List End) (e : End)
    → (nat_eq e.unit unit ≡ true → Effects old new e.code e.status)
    → (nat_eq e.unit unit ≡ false → old ≡ false → new ≡ false) → Stated unit old s es
    → Stated unit new s (es ++ e ∷ [])
stated_push unit old new s [] e f g h = last_one unit old new s e f g h
stated_push unit old new s (d ∷ es) e f g h = (h.0, stated_push unit old new (state_then unit s d) es e f g h.1)

-- more of them, of units that stay as they are
pub stated_append : (unit : ℕ) (online : Bool) (s : State) (es ns : List End)
    → AllByRecursion (λ (e : End). nat_eq e.unit unit ≡ true → Effects online online e.code e.status) ns
    → Stated unit online s es → Stated unit online s (es ++ ns)
stated_append unit online s es [] f h = subst (Stated unit online s) (sym (append-nil es)) h
stated_append unit online s es (e ∷ ns) f h =
    subst (Stated unit online s) (append_assoc es (e ∷ []) ns)
    (stated_append unit online s (es ++ e ∷ []) ns f.1
    (stated_push unit online online s es e f.0 (λ q z. z) h))

-- ---- what is told
-- an end, as it is read
module _ (c : Settings) (own : Connection) (e : End) (fit : IsFit c e) where
  abbrev a : Answer
  a = answer_by own (end_bytes e)

  -- and of the other's, or one that isn't settled
  pub state_other : (via : Connection) (unit : ℕ) (settled : Bool) (t : Told)
      → (wire.same_connection own via && settled) ≡ false → (told_after_end via unit settled t a).state ≡ t.state
  state_other via unit settled t h = grind arith

  -- what it says suits the state that was told
  pub fits_read : (t : Told) → fits_state t.state (online_of e.code e.status) ≡ true
      → suits_state t.state a ≡ true
  fits_read t h = grind arith

-- what a host was told of a unit is that it is shared
abbrev pub IsShared : History → Connection → ℕ → Type 0
IsShared h via unit = (told h via unit).state ≡ Shared

-- a message
pub message_state : (via own : Connection) (unit : ℕ) (t : Told) (b : List ℕ)
    → ((told_after_message via unit t (sent_by own b)).state ≡ t.state)
    ⊎ ((told_after_message via unit t (sent_by own b)).state ≡ Shared)
message_state via own unit t b = grind arith

-- it stays so
pub shared_message : (via own : Connection) (unit : ℕ) (t : Told) (b : List ℕ) → t.state ≡ Shared
    → (told_after_message via unit t (sent_by own b)).state ≡ Shared
shared_message via own unit t b h = ⊎_elim (λ e. e ∙ h) (λ e. e) (message_state via own unit t b)

pub shared_end : (via : Connection) (unit : ℕ) (settled : Bool) (t : Told) (a : Answer) → t.state ≡ Shared
    → (told_after_end via unit settled t a).state ≡ Shared
shared_end via unit settled t a h =
    by_bools (nat_eq a.unit unit) (wire.same_connection a.connection via && settled) (says_away a) (brings a)
  where
    own : (w b : Bool) → (if w then turned t.state Away else (if b then turned t.state Open else t.state)) ≡ Shared
    own w b = grind arith

    by_bools : (here side w b : Bool)
        → (if not here then t else (if side then record {
          identity = if wire.leaves a then None else (
              if brings a || wire.learns t a then a.identity else t.identity);
          sure = not (wire.leaves a) && (brings a || t.sure || (wire.learns t a && nat_eq a.code 0x83));
          state = if w then turned t.state Away else (if b then turned t.state Open else t.state);
          noted = wire.noted_own t.noted a;
        } else after_other t a)).state ≡ Shared
    by_bools here side w b = grind arith
