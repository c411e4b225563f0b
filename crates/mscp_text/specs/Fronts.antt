-- Text at the front of bytes.
use Rattle.std.specs.Prelude.{◌≡◌, ◌≤◌, ◌<◌, ℕ, List, length, take, Option}
use Rattle.std.specs.Option.{ForNone, ForSome}

-- the text is so many of the first bytes; or there is no such number, and it has more bytes than these
pub record IsFront (bytes : List ℕ) (count : Option ℕ) (text : List ℕ) : Type 0 where
  pub fits : ForSome count (λ n. n ≤ length bytes)
  pub front : ForSome count (λ n. take n bytes ≡ text)
  pub over : ForNone count (length bytes < length text)
