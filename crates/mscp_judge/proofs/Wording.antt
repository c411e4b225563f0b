-- A line that asks for events is no answer.
use Rattle.mscp_judge.proofs.Common.{◌≡◌, ◌+◌, ◌<◌, ℕ, Bool, true, false, List, ◌∷◌, drop, length, ap, arith, codes, Some, None, Result, Ok, bytes_eq, false≢true, bytes_eq-Decides, ◌>>=◌, Connection, Second, Event, asked_after, said_at, asked_at, asked_next, asked_if, event_form, form_of, message_form, plain_form, request, second_request, Cause, Log, after_line, after_words, asking, is_answer, is_answer_word, is_second_answer, name_in, served}
use Rattle.mscp_judge.proofs.Reading.{bound}

-- a word of no line that asks
abbrev NoForm : List ℕ → Type 0
NoForm word = (form_of word ≡ None) × (bytes_eq word (codes "second") ≡ false)

no_form : (word : List ℕ) → is_answer_word word ≡ true → NoForm word
unfolding form_of plain_form message_form event_form
no_form word h = grind (arith, bytes_eq-Decides)

first_no_answer : (word : List ℕ) (rest : List (List ℕ)) (what : List Event) → bytes_eq word (codes "second") ≡ false
    → request (word ∷ rest) ≡ Ok what → (b : Bool) → is_answer_word word ≡ b → b ≡ false
unfolding request
first_no_answer word rest what h3 h4 b h6 = grind (arith, no_form)

named_second : (word : List ℕ) (rest : List (List ℕ)) → word ≡ codes "second"
    → request (word ∷ rest) ≡ second_request rest
unfolding request form_of plain_form message_form event_form
named_second word rest e = ap (λ w. asked_if (form_of w) w rest) e

no_answer : (ws : List (List ℕ)) (what : List Event) → request ws ≡ Ok what → is_answer ws ≡ false
unfolding second_request
no_answer ws what h2 = search (arith, bytes_eq-Decides, named_second, first_no_answer, no_form)

-- a line that asks for events, where so many came before
asked_words : (n count : ℕ) (log : Log) (line : List ℕ) (new : List Event) (r : Result (List (List ℕ)) Cause)
    → length log.events ≡ count → (r >>= asked_after count) ≡ Ok new → 0 < length new
    → (r >>= after_words log line) ≡ Ok (asking log new)
unfolding request
asked_words n count log line new r h6 h7 h8 = grind (arith, bound, no_answer)

pub asked_reads : (n count : ℕ) (log : Log) (line : List ℕ) (new : List Event) → length log.events ≡ count
    → asked_at n count line ≡ Ok new → 0 < length new → after_line n log line ≡ Ok (asking log new)
unfolding after_line
asked_reads n count log line new c e some = asked_words n count log line new (said_at n line) c e some

-- the next line
pub asked_line : (before count : ℕ) (all : List (List ℕ)) (what : List Event)
    → asked_next before count all ≡ Ok (Some what) → (line : List ℕ) × (all ≡ line ∷ drop 1 all) ×
    (asked_at (before + 1) count line ≡ Ok what)
asked_line before count all what h4 = search arith

-- ---- a line that is no answer names no command

unserved : (word : List ℕ) (rest : List (List ℕ)) (via : Connection) (b : Bool) → bytes_eq word (codes "serve") ≡ b
    → is_answer_word word ≡ false → served via (word ∷ rest) ≡ None
unfolding served
unserved word rest via b h4 h5 = grind (arith, false≢true, bytes_eq-Decides)

second_unserved : (rest : List (List ℕ)) → is_second_answer rest ≡ false → served Second rest ≡ None
unfolding served
second_unserved rest h1 = grind (arith, unserved)

pub unnamed : (ws : List (List ℕ)) → is_answer ws ≡ false → name_in ws ≡ None
unfolding name_in
unnamed ws h1 = search (arith, second_unserved, unserved)
