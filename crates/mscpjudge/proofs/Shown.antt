-- What comes of the lines of a log that is shown.
use Rattle.mscpjudge.proofs.Common.{Fails, List, Ok, ReadFault, [], arith, line_shown, lines_shown, refl, ℕ, ◌++◌, ◌+◌, ◌∷◌, ◌≡◌}

-- a line that says something
pub shown_more : (n : ℕ) (text more new line : List ℕ) (rest : List (List ℕ)) (place : ℕ) → place ≡ n + 1
    → line_shown place line ≡ Ok more → new ≡ text ++ more
    → lines_shown n text (line ∷ rest) ≡ lines_shown place new rest
unfolding lines_shown
shown_more n text more new line rest place p e q = search arith

-- a line at fault
pub shown_fails : (n : ℕ) (text line : List ℕ) (rest : List (List ℕ)) (place : ℕ) (fault : ReadFault) → place ≡ n + 1
    → Fails fault (line_shown place line) → Fails fault (lines_shown n text (line ∷ rest))
unfolding lines_shown
shown_fails n text line rest place fault p e = grind arith

-- no line
pub shown_none : (n : ℕ) (text : List ℕ) → lines_shown n text [] ≡ Ok text
unfolding lines_shown
shown_none n text = refl
