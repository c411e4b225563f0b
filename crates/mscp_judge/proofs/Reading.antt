-- The lines of a log, read one by one.
use Rattle.mscp_judge.proofs.Common.{◌≡◌, ◌≢◌, ℕ, ◌+◌, Bool, true, false, List, [], ◌∷◌, ◌++◌, length, ap, sym, ◌∙◌, arith, if◌then◌else◌, Result, Ok, Err, list_all, true≢false, Event, ◌>>=◌, is_printed, said, words, asked_after, said_at, in_line, Cause, ScriptFault, from_ok, line, Log, after_line, after_lines, after_words, asking, is_answer, telling}
use Rattle.mscp_judge.specs.Logs.{after_request}

-- both steps gave a value
pub bound : {A B E : Type 0} (r : Result A E) (f : A → Result B E) (y : B) → (r >>= f) ≡ Ok y
    → (x : A) × (r ≡ Ok x) × (f x ≡ Ok y)
bound r f y h3 = grind arith

-- one more line
pub lines_more : (before : ℕ) (log : Log) (front : List (List ℕ)) (bytes : List ℕ) (next last : Log) (place : ℕ)
    → after_lines before log front ≡ Ok next → place ≡ before + length front + 1
    → after_line place next bytes ≡ Ok last → after_lines before log (front ++ bytes ∷ []) ≡ Ok last
unfolding after_lines
lines_more before log [] bytes next last place e p f = search arith
lines_more before log (first ∷ front) bytes next last place e p f =
    let k = bound (after_line (before + 1) log first) (λ x. after_lines (before + 1) x front) next e in
    search (arith, lines_more (before + 1) k.0 front bytes next last place k.2 (omega (arith, p)) f)

-- ---- what a line says

pub in_err : {A : Type 0} (n : ℕ) (r : Result A Cause) (fault : ScriptFault) → in_line n r ≡ Err fault
    → (fault.line ≡ n) × (r ≡ Err fault.cause)
in_err n r fault h3 = grind arith

pub says_words : (n : ℕ) (bytes : List ℕ) (ws : List (List ℕ)) → in_line n (said_at n bytes) ≡ Ok ws → ws ≢ []
    → (ws ≡ words bytes) × (list_all is_printed bytes ≡ true)
unfolding said
says_words n bytes ws e some = search (arith, from_ok)

-- a line that is skipped
pub skipped : (n : ℕ) (log : Log) (bytes : List ℕ) (ws : List (List ℕ)) → in_line n (said_at n bytes) ≡ Ok ws
    → ws ≡ [] → after_line n log bytes ≡ Ok log
unfolding after_line
skipped n log bytes ws e none = ap (λ r. r >>= after_words log bytes) (from_ok n (said_at n bytes) ws e ∙ ap Ok none)

-- a line that is wrong by itself
pub wrong_words : (n : ℕ) (log : Log) (bytes : List ℕ) (fault : ScriptFault) → in_line n (said_at n bytes) ≡ Err fault
    → (fault.line ≡ n) × (after_line n log bytes ≡ Err fault.cause)
unfolding after_line
wrong_words n log bytes fault e = search (arith, in_err n (said_at n bytes) fault e)

worded : (log : Log) (bytes : List ℕ) (ws : List (List ℕ)) (b : Bool) → is_answer ws ≡ b → ws ≢ []
    → after_words log bytes ws ≡ (if b then Ok (telling log (line bytes)) else after_request log ws)
worded log bytes ws b h4 h5 = grind arith

-- what tells of this is false, so it isn't so
pub unless : {P : Type 0} (b : Bool) → (P → b ≡ true) → b ≡ false → ¬ P
unless b h e = λ p. true≢false (sym (h p) ∙ e)

-- an answer has words
pub answer_some : (ws : List (List ℕ)) → is_answer ws ≡ true → ws ≢ []
answer_some ws a = λ e. true≢false (sym a ∙ ap is_answer e)

-- a line that tells
pub tells : (n : ℕ) (log : Log) (bytes : List ℕ) (ws : List (List ℕ)) → in_line n (said_at n bytes) ≡ Ok ws
    → is_answer ws ≡ true → after_line n log bytes ≡ Ok (telling log (line bytes))
unfolding after_line
tells n log bytes ws e a = grind (arith, from_ok, worded, answer_some)

-- ---- a line that asks, where so many events came before

pub asks : (n count : ℕ) (log : Log) (bytes : List ℕ) (ws : List (List ℕ)) (new : List Event)
    → length log.events ≡ count → in_line n (said_at n bytes) ≡ Ok ws → ws ≢ [] → is_answer ws ≡ false
    → in_line n (asked_after count ws) ≡ Ok new → after_line n log bytes ≡ Ok (asking log new)
unfolding after_line
asks n count log bytes ws new c e some a f = grind (arith, from_ok, worded)

pub asks_wrong : (n count : ℕ) (log : Log) (bytes : List ℕ) (ws : List (List ℕ)) (fault : ScriptFault)
    → length log.events ≡ count → in_line n (said_at n bytes) ≡ Ok ws → ws ≢ [] → is_answer ws ≡ false
    → in_line n (asked_after count ws) ≡ Err fault → (fault.line ≡ n) × (after_line n log bytes ≡ Err fault.cause)
unfolding after_line
asks_wrong n count log bytes ws fault c e some a f = grind (arith, in_err, from_ok, worded)
