-- What a line does to the outcome.
use Rattle.mscp_reader.proofs.Common.{◌≡◌, ◌+◌, ◌≤◌, ◌++◌, ℕ, List, [], length, drop, refl, arith, codes, Option, Some, None, Result, Ok, Err, nat_tests, append-nil, ◌>>=◌, Gives, Cause, ScriptFault, Both, Settings, Event, lines, request, Place, next_unless_skipped, Begins, HasCredits, HasLongest, HasTimeout, HasUnits, HasGone, IsInHeader, asked_after, next, after_line, credits, limit, limits, first_units, unit_or_go, Sets, all_read, asked_next, budget_of, in_line, limited, lines_outcome, rest_outcome, Limit}
use Rattle.mscp_reader.specs.declared.fault.Cause.TheVariants as causes
use Rattle.mscp_reader.specs.declared.header.Limit.TheVariants as ways

pub from_ok : {A : Type 0} (n : ℕ) (r : Result A Cause) (x : A) → in_line n r ≡ Ok x → r ≡ Ok x
from_ok n r x h1 = search arith

pub ended_early : (n : ℕ) (p : Place) → IsInHeader p
    → all_read n p ≡ Err (record { line = n + 1; cause = causes.Header })
ended_early n p h1 = search arith

-- ---- lines behind the header

-- what becomes of lines, by what the next one asks for
abbrev after_asked : ℕ → Settings → List Event → List (List ℕ) → Result (Option (List Event)) ScriptFault
    → Result (Settings × List Event) ScriptFault
after_asked n s es rest (Ok None) = Ok (s, es)
after_asked n s es rest (Ok (Some new)) = lines_outcome (n + 1) (HasGone s (es ++ new)) rest
after_asked n s es rest (Err fault) = Err fault

no_words : (count : ℕ) → count ≤ 1000000 → asked_after count [] ≡ Ok []
unfolding request
no_words count few = grind (arith, nat_tests)

by_said : (n : ℕ) (s : Settings) (es : List Event) (rest : List (List ℕ)) (r : Result (List (List ℕ)) Cause)
    → length es ≤ 1000000
    → (in_line (n + 1) (r >>= next_unless_skipped (HasGone s es)) >>= λ after. lines_outcome (n + 1) after rest)
    ≡ after_asked n s es rest (in_line (n + 1) (r >>= asked_after (length es)) >>= λ new. Ok (Some new))
unfolding next
by_said n s es rest r h1 = search (arith, no_words, append-nil)

lines_asked : (n : ℕ) (s : Settings) (es : List Event) (all : List (List ℕ)) → length es ≤ 1000000
    → lines_outcome n (HasGone s es) all ≡ after_asked n s es (drop 1 all) (asked_next n (length es) all)
unfolding lines_outcome after_line
lines_asked n s es all h1 = search (arith, by_said)

-- the same of what was read of the next line, where so many events came before
read_asked : (n count : ℕ) (s : Settings) (es : List Event) (bytes : List ℕ)
    (r : Result (Option (List Event)) ScriptFault) → length es ≡ count → count ≤ 1000000
    → asked_next n count (lines bytes) ≡ r
    → rest_outcome n (HasGone s es) bytes ≡ after_asked n s es (drop 1 (lines bytes)) r
read_asked n count s es bytes r c few e = search (arith, lines_asked, asked_next)

pub goes_on : (n count place : ℕ) (s : Settings) (es new : List Event) (bytes rest : List ℕ) → length es ≡ count
    → count ≤ 1000000 → asked_next n count (lines bytes) ≡ Ok (Some new) → lines rest ≡ drop 1 (lines bytes)
    → place ≡ n + 1 → rest_outcome n (HasGone s es) bytes ≡ rest_outcome place (HasGone s (es ++ new)) rest
goes_on n count place s es new bytes rest c few e left at = search (arith, read_asked)

pub ends : (n count : ℕ) (s : Settings) (es : List Event) (bytes : List ℕ) → length es ≡ count → count ≤ 1000000
    → asked_next n count (lines bytes) ≡ Ok None → rest_outcome n (HasGone s es) bytes ≡ Ok (s, es)
ends n count s es bytes c few e = read_asked n count s es bytes (Ok None) c few e

pub goes_wrong : (n count : ℕ) (s : Settings) (es : List Event) (bytes : List ℕ) (fault : ScriptFault)
    → length es ≡ count → count ≤ 1000000 → asked_next n count (lines bytes) ≡ Err fault
    → rest_outcome n (HasGone s es) bytes ≡ Err fault
goes_wrong n count s es bytes fault c few e = read_asked n count s es bytes (Err fault) c few e

-- ---- lines of the header

pub gives_made : {X Y Z : Type 0} (view : X → Y) (make : Y → Z) (r : Result X Cause) (read : Result Y Cause)
    → Gives view r read → Gives (λ x. make (view x)) r (read >>= λ y. Ok (make y))
gives_made view make r read h1 = search arith

pub gives_same : {Y Z : Type 0} (make : Y → Z) (r read : Result Y Cause) → r ≡ read
    → Gives make r (read >>= λ y. Ok (make y))
gives_same make r read h1 = search arith

pub next_credits : (words : List (List ℕ)) → next Begins words ≡ credits words
unfolding next
next_credits words = refl

pub next_limit : (c : Both ℕ) (words : List (List ℕ)) → next (HasCredits c) words ≡ limit c words
unfolding next
next_limit c words = refl

pub sets_longest : (c : Both ℕ) (l : Limit)
    → Sets (limited c l) (codes "longest") 4294967295 (λ n. HasLongest c (budget_of l n) n)
unfolding next
sets_longest c (ways.Budget blocks) = (tt, λ words. refl)
sets_longest c (ways.Passing passes) = (tt, λ words. refl)

pub sets_timeout : (c : Both ℕ) (q l : ℕ)
    → Sets (HasLongest c q l) (codes "timeout") 65535 (λ t. HasTimeout (limits c q l t))
unfolding next
sets_timeout c q l = (tt, λ words. refl)

pub next_timeout : (s : Settings) (words : List (List ℕ))
    → next (HasTimeout s) words ≡ (first_units words >>= λ units. Ok (HasUnits (record s { units = units })))
unfolding next
next_timeout s words = refl

pub next_units : (s : Settings) (words : List (List ℕ)) → next (HasUnits s) words ≡ unit_or_go s words
unfolding next
next_units s words = refl
