-- Times that lines of a log tell, and how they are written.
use Rattle.std.specs.Prelude.{ℕ, ◌+◌, ◌/◌, ◌%◌, nat_eq, nat_lt, if◌then◌else◌, List, [], ◌∷◌, ◌++◌, codes, length, take, Option, Some, None, Result, Ok, Err}
use Rattle.std.specs.Ordering.{nat_cmp}
use Rattle.std.specs.BTreeMap as tree
use Rattle.std.specs.Fmt.{decimal}
use Rattle.mscp_reader.specs.Grammar.{said_at}
use Rattle.mscp_reader.specs.Lexical.{lines}
use Rattle.mscp_reader.specs.declared.fault.Cause.{Cause}
use Rattle.mscp_wire.specs.Log.{time_in}

-- ---- how a time is written

-- a digit of a number: how many times it has this power of ten
abbrev pub digit : ℕ → ℕ → ℕ
digit n unit = 48 + n / unit % 10

-- the nine digits of nanoseconds under a second
abbrev pub nine_digits : ℕ → List ℕ
nine_digits n =
    digit n 100000000 ∷ digit n 10000000 ∷ digit n 1000000 ∷ digit n 100000 ∷ digit n 10000 ∷ digit n 1000
    ∷ digit n 100 ∷ digit n 10 ∷ digit n 1 ∷ []

-- how many of them are needed: all behind them are 0. One is there always
abbrev pub needed : ℕ → ℕ
needed n =
    if nat_eq (n % 100000000) 0 then 1 else (
    if nat_eq (n % 10000000) 0 then 2 else (
    if nat_eq (n % 1000000) 0 then 3 else (
    if nat_eq (n % 100000) 0 then 4 else (
    if nat_eq (n % 10000) 0 then 5 else (
    if nat_eq (n % 1000) 0 then 6 else (
    if nat_eq (n % 100) 0 then 7 else (
    if nat_eq (n % 10) 0 then 8 else 9)))))))

-- nanoseconds, in seconds
unfoldable pub seconds_text : ℕ → List ℕ
seconds_text n =
    decimal (n / 1000000000) ++ codes "." ++ take (needed (n % 1000000000)) (nine_digits (n % 1000000000))

-- a time behind what it belongs to, if there is one
abbrev pub at_text : Option ℕ → List ℕ
at_text None = []
at_text (Some n) = codes " at " ++ seconds_text n

-- ---- a line

-- the time that words tell, if their line isn't at fault
abbrev pub time_by : Result (List (List ℕ)) Cause → Option ℕ
time_by (Ok words) = time_in words
time_by (Err cause) = None

-- and that of the line of this number
unfoldable pub line_time : ℕ → List ℕ → Option ℕ
line_time number line = time_by (said_at number line)

-- the time of one of these lines, by its number, where so many stand before them
unfoldable pub lines_time : ℕ → List (List ℕ) → ℕ → Option ℕ
lines_time before [] number = None
lines_time before (line ∷ rest) number =
    if nat_eq number (before + 1) then line_time number line else lines_time (before + 1) rest number

-- and of one of a log, unless that is too large
abbrev pub no_time : ℕ → Option ℕ
no_time number = None

abbrev pub log_time : List ℕ → ℕ → Option ℕ
log_time bytes = if nat_lt 16777216 (length bytes) then no_time else lines_time 0 (lines bytes)

-- ---- what is kept

-- the time of a line by a map
abbrev pub time_of : tree.BTreeMap ℕ ℕ → ℕ → Option ℕ
time_of map number = tree.get nat_cmp map number
