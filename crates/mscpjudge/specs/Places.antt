-- What is written of the lines that tell what a moment is compared with.
use Rattle.std.specs.Prelude.{ℕ, List, [], ◌++◌, codes, Option, Some, None}
use Rattle.std.specs.Fmt.{decimal}
use Rattle.mscp_wire.specs.declared.course.Places.{Places}
use Rattle.mscp_wire.specs.declared.rule.Rule.{Rule}
use Rattle.mscp_wire.specs.declared.rule.Rule.TheVariants as rules
use Rattle.mscpjudge.specs.Times.{at_text}

-- a line behind words, if it is known, and its time
abbrev pub place_text : (ℕ → ℕ) → (ℕ → Option ℕ) → List ℕ → Option ℕ → List ℕ
place_text number time words None = []
place_text number time words (Some line) =
    words ++ (codes " in line " ++ decimal (number line)) ++ at_text (time line) ++ codes "\n"

-- where a moment breaks a rule: of a message only the earlier one of its number, of an end where its command was sent,
-- and what that passes, or where the figure was told last
unfoldable pub places_text : (ℕ → ℕ) → (ℕ → Option ℕ) → Rule → Places → List ℕ
places_text number time rules.Message places = []
places_text number time rules.Number places = place_text number time (codes "the other was sent") places.sent
places_text number time rules.Credits places = []
places_text number time rules.Order places =
    place_text number time (codes "sent") places.sent
    ++ place_text number time (codes "what it passes was sent") places.passed
places_text number time rules.Figure places =
    place_text number time (codes "sent") places.sent ++ place_text number time (codes "the last was told") places.asked
places_text number time rule places = place_text number time (codes "sent") places.sent
