-- What lines of text are made of.
use Rattle.std.specs.Prelude.{ℕ, List, [], ◌∷◌, ◌++◌}
use Rattle.std.specs.Int.{to_be_bytes, w16}
use Rattle.hex.specs.Hex.{encode_lower}

-- a line of these words
abbrev pub line : List ℕ → List ℕ
line words = words ++ 10 ∷ []

-- a status as four lower case hexadecimal digits, the high ones first
abbrev pub status_text : ℕ → List ℕ
status_text status = encode_lower (to_be_bytes w16 status)
