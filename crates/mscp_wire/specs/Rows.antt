-- What is kept of units: of each a row, and numbers apart from it.
use Rattle.std.specs.Prelude.{ℕ, Bool, ◌||◌, nat_eq, if◌then◌else◌, get_or, is_some, Option, Some, None}
use Rattle.std.specs.List.{slice_get}
use Rattle.mscp_wire.specs.declared.row.Brief.{Brief}
use Rattle.mscp_wire.specs.declared.row.Entry.{Entry}
use Rattle.mscp_wire.specs.declared.row.Numbers.{Numbers}
use Rattle.mscp_wire.specs.declared.row.Pair.{Pair}
use Rattle.mscp_wire.specs.declared.row.Row.{Row}
use Rattle.mscp_wire.specs.declared.table.Table.{Table}
use Rattle.mscp_wire.specs.declared.told.Told.{Told}

-- no number is told
abbrev pub no_numbers : Numbers
no_numbers = record { identity = None; size = None; table = None }

abbrev pub no_pair : Pair
no_pair = record { first = no_numbers; second = no_numbers }

-- a number is told
abbrev pub has_any : Numbers → Bool
has_any numbers = is_some numbers.identity || is_some numbers.size || is_some numbers.table

abbrev pub pair_has_any : Pair → Bool
pair_has_any pair = has_any pair.first || has_any pair.second

-- what a host was told of a unit is its numbers and the rest
abbrev pub numbers_of : Told → Numbers
numbers_of told = record { identity = told.identity; size = told.noted.size; table = told.noted.table }

abbrev pub brief_of : Told → Brief
brief_of told = record {
  sure = told.sure;
  state = told.state;
  protected = told.noted.protected;
  present = told.noted.present;
}

abbrev pub told_with : Brief → Numbers → Told
told_with brief numbers = record {
  identity = numbers.identity;
  sure = brief.sure;
  state = brief.state;
  noted = record {
    size = numbers.size;
    table = numbers.table;
    protected = brief.protected;
    present = brief.present;
  };
}

-- and so is what both hosts were told
abbrev pub pair_of : Entry → Pair
pair_of entry = record { first = numbers_of entry.first; second = numbers_of entry.second }

abbrev pub row_of : Entry → Row
row_of entry = record {
  number = entry.number;
  numbered = pair_has_any (pair_of entry);
  first = brief_of entry.first;
  second = brief_of entry.second;
}

abbrev pub entry_with : Row → Pair → Entry
entry_with row pair = record {
  number = row.number;
  first = told_with row.first pair.first;
  second = told_with row.second pair.second;
}

-- the numbers that stand beside a row count only if it says so
abbrev pub counted : Row → Pair → Pair
counted row pair = if row.numbered then pair else no_pair

-- the entry of a row and the numbers beside it, if it has this number
abbrev pub kept_in : ℕ → Pair → Option Row → Option Entry
kept_in number pair None = None
kept_in number pair (Some row) = if nat_eq row.number number then Some (entry_with row (counted row pair)) else None

-- the row of a number stands at its place, and the numbers beside it at the same
abbrev pub kept_at : {A : Type 0} → Table A → ℕ → ℕ → Option Entry
kept_at table number place =
    kept_in number (get_or table.pairs.items place no_pair) (slice_get table.rows.items place)

-- what is kept of a number
abbrev pub found : {A : Type 0} → Table A → ℕ → Option Entry
found table number = kept_at table number (get_or table.places.items number 0)
