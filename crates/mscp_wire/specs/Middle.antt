-- What is kept of a log that begins in the middle.
use Rattle.std.specs.Prelude.{◌≡◌, ℕ, Bool, true, false, ◌||◌, nat_eq, if◌then◌else◌, Option, Some, None, is_some}
use Rattle.std.specs.HashMap as hashed
use Rattle.std.specs.List.{list_any}
use Rattle.mscp_drive.specs.declared.connection.Connection.{Connection}
use Rattle.mscp_drive.specs.declared.connection.Connection.TheVariants.{First, Second}
use Rattle.mscp_wire.specs.Begun.{has_met, has_turned, is_middle, names, sends}
use Rattle.mscp_wire.specs.Log.{Log}
use Rattle.mscp_wire.specs.Wire.{History, key}
use Rattle.mscp_wire.specs.declared.middle.Middle.{Middle}

-- a number occurs, and a message has it or none has
abbrev pub name_in : History → History → Connection → ℕ → Option Bool
name_in h strangers via reference =
    if list_any (sends via reference) h then Some true else (
    if list_any (names via reference) h || list_any (names via reference) strangers then Some false else None)

-- what is kept of a number of a connection
abbrev pub kept_name : {A : Type 0} → Middle A → Connection → ℕ → Option Bool
kept_name middle via reference = hashed.get nat_eq middle.names (key via reference)

-- something is kept of a unit
abbrev pub keeps_unit : {A : Type 0} → Middle A → Connection → ℕ → Bool
keeps_unit middle via unit = is_some (hashed.get nat_eq middle.units (key via unit))

-- a packet is of the other connection
abbrev pub has_other : {A : Type 0} → Middle A → Connection → Bool
has_other middle First = middle.second
has_other middle Second = middle.first

-- a message has the number
abbrev pub is_sent : Option Bool → Bool
is_sent None = false
is_sent (Some sent) = sent

-- what is kept is what these moments and ends show
pub record Shows {A : Type 0} (h strangers : History) (middle : Middle A) : Type 0 where
  pub names : (via : Connection) (reference : ℕ)
      → kept_name middle via reference ≡ name_in h strangers via reference
  pub units : (via : Connection) (unit : ℕ) → keeps_unit middle via unit ≡ list_any (has_turned via unit) h
  pub first : middle.first ≡ has_met h strangers First
  pub second : middle.second ≡ has_met h strangers Second

-- what is kept of a number once a packet has it, which is a message or not
abbrev pub name_with : Bool → Option Bool → Option Bool
name_with sent old = Some (sent || is_sent old)

-- of a log something is kept while it is in the middle
abbrev pub IsMiddle : {A : Type 0} → Bool → History → History → Option (Middle A) → Type 0
IsMiddle begun h strangers None = is_middle begun h ≡ false
IsMiddle begun h strangers (Some middle) = (is_middle begun h ≡ true) × Shows h strangers middle

abbrev pub IsMiddleOf : {A : Type 0} → Log → Option (Middle A) → Type 0
IsMiddleOf log middle = IsMiddle log.begun log.moments log.strangers middle
