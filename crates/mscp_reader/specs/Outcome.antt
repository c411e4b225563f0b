-- The meaning of a script as one function, for the loops of its reader.
use Rattle.std.specs.Prelude.{◌≡◌, ℕ, ◌+◌, ◌*◌, nat_lt, if◌then◌else◌, List, [], ◌∷◌, length, Option, Some, None, Result, Ok, Err}
use Rattle.mscp_drive.specs.Shape.{Shape}
use Rattle.mscp_drive.specs.Both.{Both}
use Rattle.mscp_drive.specs.Settings.{Settings}
use Rattle.mscp_drive.specs.declared.event.Event.{Event}
use Rattle.mscp_packet.specs.Steps.{◌>>=◌}
use Rattle.mscp_reader.specs.Lexical.{lines}
use Rattle.mscp_reader.specs.Grammar.{Place, Begins, HasBudget, HasPassing, HasUnits, HasGone, IsInHeader, setting, next, after_line, asked_after, said_at}
use Rattle.mscp_reader.specs.declared.header.Credits.{Credits}
use Rattle.mscp_reader.specs.declared.header.Limits.{Limits}
use Rattle.mscp_reader.specs.declared.header.Limit.{Limit}
use Rattle.mscp_reader.specs.declared.header.Limit.TheVariants as limits
use Rattle.mscp_reader.specs.declared.fault.Cause.{Cause}
use Rattle.mscp_reader.specs.declared.fault.Cause.TheVariants as causes
use Rattle.mscp_reader.specs.declared.fault.ScriptFault.{ScriptFault}
use Rattle.mscp_reader.specs.declared.fault.ReadFault.{ReadFault}
use Rattle.mscp_reader.specs.declared.fault.ReadFault.TheVariants as faults

-- a cause in the line of this number
abbrev pub in_line : {A : Type 0} → ℕ → Result A Cause → Result A ScriptFault
in_line number (Ok x) = Ok x
in_line number (Err cause) = Err (record { line = number; cause = cause })

-- what a script of so many lines stands for, once all are read
abbrev pub all_read : ℕ → Place → Result (Settings × List Event) ScriptFault
all_read n (HasGone settings events) = Ok (settings, events)
all_read n place = Err (record { line = n + 1; cause = causes.Header })

-- what becomes of lines that so many right ones stand before
unfoldable pub lines_outcome : ℕ → Place → List (List ℕ) → Result (Settings × List Event) ScriptFault
lines_outcome before place [] = all_read before place
lines_outcome before place (line ∷ rest) =
    in_line (before + 1) (after_line before place line) >>= λ after. lines_outcome (before + 1) after rest

-- what the line of this number asks for, where so many events came before
abbrev pub asked_at : ℕ → ℕ → List ℕ → Result (List Event) Cause
asked_at number count line = said_at number line >>= asked_after count

-- what the next line asks for, if one is left, where so many lines and so many events came before
abbrev pub asked_next : ℕ → ℕ → List (List ℕ) → Result (Option (List Event)) ScriptFault
asked_next before count [] = Ok None
asked_next before count (line ∷ rest) =
    in_line (before + 1) (asked_at (before + 1) count line) >>= λ new. Ok (Some new)

-- a line of the header of this word and of a number makes a place
abbrev pub Sets : Place → List ℕ → ℕ → (ℕ → Place) → Type 0
Sets place name most made =
    IsInHeader place
    × ((words : List (List ℕ)) → next place words ≡ (setting name most words >>= λ x. Ok (made x)))

-- what becomes of the rest of a script
abbrev pub rest_outcome : ℕ → Place → List ℕ → Result (Settings × List Event) ScriptFault
rest_outcome before place bytes = lines_outcome before place (lines bytes)

-- the fault is that of the definition, unless memory ran out
abbrev pub Fails : {Y : Type 0} → ReadFault → Result Y ScriptFault → Type 0
Fails (faults.Script fault) read = read ≡ Err fault
Fails faults.OutOfMemory read = Unit {0}

-- what was returned, seen by view, is what the definition says, unless memory ran out
abbrev pub Tells : {X Y : Type 0} → (X → Y) → Result X ReadFault → Result Y ScriptFault → Type 0
Tells view (Ok x) read = read ≡ Ok (view x)
Tells view (Err fault) read = Fails fault read

-- what was returned is where the next lines lead, so that what was to come of them is what is to come of the rest
abbrev pub Leads : {X : Type 0}
    → (X → Place) → Result (Settings × List Event) ScriptFault → ℕ → List ℕ → Result X ScriptFault → Type 0
Leads view before number rest (Ok x) = before ≡ rest_outcome number (view x) rest
Leads view before number rest (Err fault) = before ≡ Err fault

-- ---- the header

-- these lines, which so many stand before, where the header ended before them; else this
abbrev pub gone_or : ℕ → Place → List (List ℕ) → Result (Place × ℕ × List (List ℕ)) ScriptFault
    → Result (Place × ℕ × List (List ℕ)) ScriptFault
gone_or before (HasGone settings events) behind other = Ok (HasGone settings events, before, behind)
gone_or before place behind other = other

-- where the lines of a header lead, how many lines there are up to its end, and those behind it; or its first fault
unfoldable pub headed : ℕ → Place → List (List ℕ) → Result (Place × ℕ × List (List ℕ)) ScriptFault
headed before place [] = gone_or before place [] (Err (record { line = before + 1; cause = causes.Header }))
headed before place (line ∷ rest) =
    gone_or before place (line ∷ rest)
    (in_line (before + 1) (after_line before place line) >>= λ after. headed (before + 1) after rest)

-- the same of a line of these words, the last of so many, and of those after it
unfoldable pub headed_on : ℕ → Place → List (List ℕ) → List (List ℕ) → Result (Place × ℕ × List (List ℕ)) ScriptFault
headed_on number place words rest = in_line number (next place words) >>= λ after. headed number after rest

-- the same of the rest of a script
abbrev pub rest_headed : ℕ → Place → List ℕ → Result (Place × ℕ × List (List ℕ)) ScriptFault
rest_headed before place bytes = headed before place (lines bytes)

-- what was returned is where the next lines of the header lead
abbrev pub Heads : {X : Type 0} → (X → Place) → Result (Place × ℕ × List (List ℕ)) ScriptFault → ℕ → List ℕ
    → Result X ScriptFault → Type 0
Heads view before number rest (Ok x) = before ≡ rest_headed number (view x) rest
Heads view before number rest (Err fault) = before ≡ Err fault

-- the budget that a limit gives, of transfers of so many blocks
abbrev pub budget_of : Limit → ℕ → ℕ
budget_of (limits.Budget blocks) longest = blocks
budget_of (limits.Passing passes) longest = passes * longest

-- credits as they are read
abbrev pub both_of : Credits → Both ℕ
both_of credits = record { first = credits.first; second = credits.second }

-- where the line of a limit leads
abbrev pub limited : Both ℕ → Limit → Place
limited credits (limits.Budget blocks) = HasBudget credits blocks
limited credits (limits.Passing passes) = HasPassing credits passes

-- the settings of limits and of units
abbrev pub settled : Limits → List Shape → Settings
settled l units = record {
  credits = l.credits.first;
  second = l.credits.second;
  budget = budget_of l.limit l.longest;
  longest = l.longest;
  timeout = l.timeout;
  id = 1;
  units = units;
}

-- where a line after a unit leads: to settings with one more unit, or to these
abbrev pub place_after : Settings → Option Settings → Place
place_after settings None = HasUnits settings
place_after settings (Some config) = HasGone config []

-- ---- the whole

-- what becomes of all bytes
abbrev pub script_outcome : List ℕ → Result (Settings × List Event) ScriptFault
script_outcome bytes =
    if nat_lt 16777216 (length bytes) then Err (record { line = 0; cause = causes.Size })
    else rest_outcome 0 Begins bytes
