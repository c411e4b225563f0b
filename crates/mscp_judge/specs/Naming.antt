-- The command that a line says was served, and what the picker that starts it may pick.
use Rattle.std.specs.Prelude.{◌≡◌, ℕ, ◌<◌, ◌^◌, Bool, true, false, if◌then◌else◌, List, [], ◌∷◌, length, codes, slice_index_or, Option, Some, None, Result, Ok, Err}
use Rattle.std.specs.Str.{bytes_eq}
use Rattle.mscp_packet.specs.declared.class.Class.TheVariants.{Unknown}
use Rattle.mscp_drive.specs.declared.connection.Connection.{Connection}
use Rattle.mscp_drive.specs.declared.connection.Connection.TheVariants.{First, Second}
use Rattle.mscp_queue.specs.declared.name.Name.{Name}
use Rattle.mscp_queue.specs.declared.view.Choice.{Choice}
use Rattle.mscp_queue.specs.Names.{same_name}
use Rattle.mscp_queue.specs.Views.{choice_name}
use Rattle.mscp_reader.specs.Lexical.{wide}
use Rattle.mscp_reader.specs.declared.fault.Cause.{Cause}
use Rattle.mscp_judge.specs.declared.naming.Wanted.{Wanted}

-- what picks the command that is named, and the oldest where none is
abbrev pub wanting : Option Name → Wanted
wanting wanted = record { named = wanted }

-- the choice at a place. Past the end it is one of nothing
abbrev pub choice_at : List Choice → ℕ → Choice
choice_at view place = slice_index_or view place
    (record { connection = First; reference = 0; unit = 0; class = Unknown; cost = 0 })

-- a choice is the command that is named, if one is
abbrev pub is_wanted : Option Name → Choice → Bool
is_wanted None choice = false
is_wanted (Some named) choice = same_name (choice_name choice) named

-- of these choices the one at the place may be picked, where this is named
pub record IsNamed (wanted : Option Name) (view : List Choice) (place : ℕ) : Type 0 where
  -- the command that is named is picked, if it is among them
  pub named : (i : ℕ) → i < length view → is_wanted wanted (choice_at view i) ≡ true
      → is_wanted wanted (choice_at view place) ≡ true
  -- and else the oldest
  pub oldest : is_wanted wanted (choice_at view place) ≡ false → place ≡ 0
  -- and the numbers of all have 32 bits
  pub small : (i : ℕ) → i < length view → (choice_at view i).reference < 2 ^ 32

-- the name of this number, if it is one
abbrev pub numbered : Connection → Result ℕ Cause → Option Name
numbered via (Ok reference) = Some (record { connection = via; reference = reference })
numbered via (Err cause) = None

-- the name of the command of a connection that these words say was served, if they name one
unfoldable pub served : Connection → List (List ℕ) → Option Name
served via [] = None
served via (word ∷ []) = None
served via (word ∷ number ∷ rest) = if bytes_eq word (codes "serve") then numbered via (wide number) else None

-- the name of the command that the line of these words says was served, if it names one
unfoldable pub name_in : List (List ℕ) → Option Name
name_in [] = None
name_in (word ∷ rest) = if bytes_eq word (codes "second") then served Second rest else served First (word ∷ rest)
