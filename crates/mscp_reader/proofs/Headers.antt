-- What a line does to a header.
use Rattle.mscp_reader.proofs.Common.{arith, ◌≡◌, ◌+◌, ◌⊎◌, ℕ, List, [], ◌∷◌, refl, Result, Ok, Err, ◌>>=◌, Gives, Settings, Event, lines, Cause, ScriptFault, Place, HasGone, IsInHeader, after_line, next, said_at, Heads, Leads, gone_or, headed, headed_on, in_line, lines_outcome, rest_headed, rest_outcome}
use Rattle.mscp_reader.specs.declared.fault.Cause.TheVariants as causes
use Rattle.mscp_reader.proofs.Outcomes.{ended_early, from_ok}

-- before the header's end
open_header : (n : ℕ) (p : Place) (behind : List (List ℕ)) (other : Result (Place × ℕ × List (List ℕ)) ScriptFault)
    → IsInHeader p → gone_or n p behind other ≡ other
open_header n p behind other h1 = search arith

-- a place is in the header, or behind it
sides : (p : Place) → IsInHeader p ⊎ ((s : Settings) × (es : List Event) × (p ≡ HasGone s es))
sides p = search arith

-- behind its end nothing is read
pub headed_gone : (n : ℕ) (s : Settings) (es : List Event) (all : List (List ℕ))
    → headed n (HasGone s es) all ≡ Ok (HasGone s es, n, all)
unfolding headed
headed_gone n s es [] = refl
headed_gone n s es (line ∷ rest) = refl

-- a line that says nothing
pub header_skips : (n : ℕ) (line : List ℕ) (rest : List (List ℕ)) (words : List (List ℕ))
    → in_line (n + 1) (said_at (n + 1) line) ≡ Ok words → words ≡ [] → (p : Place) → IsInHeader p
    → headed n p (line ∷ rest) ≡ headed (n + 1) p rest
unfolding headed after_line
header_skips n line rest words e none p h = search (arith, open_header, from_ok)

-- a line that says something
pub header_speaks : (n : ℕ) (line : List ℕ) (rest : List (List ℕ)) (words : List (List ℕ))
    → in_line (n + 1) (said_at (n + 1) line) ≡ Ok words → ¬ (words ≡ []) → (p : Place) → IsInHeader p
    → headed n p (line ∷ rest) ≡ headed_on (n + 1) p words rest
unfolding headed after_line headed_on
header_speaks n line rest words h1 h2 p h3 = search (arith, open_header, from_ok)

-- a line that is wrong by itself
pub header_wrong : (n : ℕ) (line : List ℕ) (rest : List (List ℕ)) (fault : ScriptFault)
    → in_line (n + 1) (said_at (n + 1) line) ≡ Err fault → (p : Place) → IsInHeader p
    → headed n p (line ∷ rest) ≡ Err fault
unfolding headed after_line
header_wrong n line rest fault e p h = search (arith, open_header)

-- no line is left
pub header_ends : (n : ℕ) (p : Place) → IsInHeader p
    → headed n p [] ≡ Err (record { line = n + 1; cause = causes.Header })
unfolding headed
header_ends n p h = open_header n p [] _ h

-- ---- a line that says something

pub line_heads : {X : Type 0} (view : X → Place) (n : ℕ) (p : Place) (words : List (List ℕ)) (bytes : List ℕ)
    (o : Result (Place × ℕ × List (List ℕ)) ScriptFault) (r : Result X Cause) → Gives view r (next p words)
    → o ≡ headed_on n p words (lines bytes) → Heads view o n bytes (in_line n r)
unfolding headed_on
line_heads view n p words bytes o r h1 h2 = search arith

-- ---- what comes of a script

-- it is what comes of the lines behind the header
pub outcome_by_header : (n : ℕ) (all : List (List ℕ)) (p : Place)
    → lines_outcome n p all ≡ (headed n p all >>= λ found. lines_outcome found.1 found.0 found.2)
unfolding lines_outcome headed
outcome_by_header n [] p = search (arith, open_header, ended_early, sides)
outcome_by_header n (line ∷ rest) p = search (arith, open_header, sides, outcome_by_header (n + 1) rest)

pub heads_lead : {X : Type 0} (view : X → Place) (n : ℕ) (p : Place) (bytes : List ℕ) (number : ℕ) (rest : List ℕ)
    (r : Result X ScriptFault) → Heads view (rest_headed n p bytes) number rest r
    → Leads view (rest_outcome n p bytes) number rest r
heads_lead view n p bytes number rest r h1 = search (arith, outcome_by_header)
