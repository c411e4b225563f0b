-- What comes of the lines of a log of which all is found that is wrong.
use Rattle.mscpjudge.proofs.Common.{Course, Err, Fails, Finding, Findings, Gathered, GoesOn, List, None, Ok, Option, ReadFault, Result, ScriptFault, Some, Wrong, [], ap, findings_with, found_beside, gathered_after, gathered_in, in_line, line_breach, line_says, listed, newest, refl, subst, sym, ℕ, ◌++◌, ◌+◌, ◌>>=◌, ◌∙◌, ◌∷◌, ◌≡◌}
use Rattle.mscp_reader.specs.declared.fault.ReadFault.TheVariants as reads

-- a line more
pub found_more : (n number : ℕ) (g : Gathered) (next : Findings) (line : List ℕ) (rest : List (List ℕ))
    → number ≡ n + 1 → (line_says number line >>= findings_with number g.told) ≡ Ok next
    → gathered_in n g (line ∷ rest) ≡ gathered_in number (gathered_after number g line next) rest
unfolding gathered_in
found_more n number g next line rest e h =
    subst (λ k. (in_line k (line_says k line >>= findings_with k g.told)
    >>= λ x. gathered_in k (gathered_after k g line x) rest)
    ≡ gathered_in number (gathered_after number g line next) rest) e
    (ap (λ r. in_line number r >>= λ x. gathered_in number (gathered_after number g line x) rest) h)

-- one that is at fault
pub found_fails : {A : Type 0} (n number : ℕ) (g : Gathered) (line : List ℕ) (rest : List (List ℕ))
    (fault : ReadFault) (course : Course A) → number ≡ n + 1
    → GoesOn number g.told (line_says number line) (Err fault) course → Fails fault (gathered_in n g (line ∷ rest))
unfolding gathered_in
found_fails n number g line rest (reads.Script fault) course e h =
    subst (λ k. (in_line k (line_says k line >>= findings_with k g.told)
    >>= λ x. gathered_in k (gathered_after k g line x) rest) ≡ Err fault) e
    (ap (λ r. in_line number r >>= λ x. gathered_in number (gathered_after number g line x) rest) h.1
    ∙ ap (λ l. Err (record { line = l; cause = fault.cause })) (sym h.0))
found_fails n number g line rest reads.OutOfMemory course e h = tt

-- what fails fails behind it, too
pub fails_on : {X Y : Type 0} (fault : ReadFault) (read : Result X ScriptFault) (on : X → Result Y ScriptFault)
    → Fails fault read → Fails fault (read >>= on)
fails_on (reads.Script fault) read on h = ap (λ r. r >>= on) h
fails_on reads.OutOfMemory read on h = tt

-- no line
pub found_none : (n : ℕ) (g : Gathered) → gathered_in n g [] ≡ Ok g
unfolding gathered_in
found_none n g = refl

-- what is found in a line
pub newest_listed : (found : Option Finding) → newest (listed found) ≡ found
newest_listed None = refl
newest_listed (Some finding) = refl

pub beside_is : (number : ℕ) (g : Gathered) (line : List ℕ) (next : Findings) (found : Option Finding)
    (breach : Option Wrong) → g.told.found ≡ [] → next.found ≡ g.told.found ++ listed found
    → breach ≡ line_breach number g.account line
    → found_beside found breach ≡ found_beside (newest next.found) (line_breach number g.account line)
beside_is number g line next found breach fresh h b =
    ap (λ x. found_beside x breach)
    (sym (ap newest (h ∙ ap (λ xs. xs ++ listed found) fresh) ∙ newest_listed found))
    ∙ ap (found_beside (newest next.found)) b
