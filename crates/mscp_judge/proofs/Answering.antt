-- The lines that are answered to an event are answers, whatever numbers are in them.
use Rattle.mscp_judge.proofs.Common.{◌≡◌, ℕ, ◌<◌, ◌≤◌, true, false, List, [], ◌∷◌, ◌++◌, map, length, refl, sym, arith, ◌∙◌, length-append, append_assoc, append-nil, codes, Option, Some, None, Result, Ok, Err, decimal, AllByRecursion, flat_map, bytes_eq, length-map, ArrayVec, encode_lower, Connection, First, Second, Report, Idle, Served, End, SendFault, Sent, line, is_comment, words, IsApart, AllSolid, said_plain, word_front, aborted_part, block_word, connection_word, ended_part, entry_lines, figure_line, refusal_word, step_line, AreAnswers, IsAnswerLine, is_answer, is_answer_word}
use Rattle.mscp_controller.specs.declared.entry.Entry.TheVariants as entries
use Rattle.mscp_controller.specs.declared.entry.Sent.TheVariants as sents
use Rattle.mscp_judge.proofs.Printed.{AllPrinted, AreTaken, both_printed, decimal_few, decimal_printed, encoded_length}
use Rattle.mscp_judge.proofs.Printed.{encoded_printed, status_printed}

-- ---- a line

-- a word that a line of an answer may begin with
record IsFirstWord (word : List ℕ) : Type 0 where
  some : 0 < length word
  few : length word ≤ 8
  solid : AllSolid word
  printed : AllPrinted word
  answers : is_answer_word word ≡ true
  first : bytes_eq word (codes "second") ≡ false
  comment : (rest : List ℕ) → is_comment (word ++ rest) ≡ false

-- what is seen of a word that is written out
first_word : (word : List ℕ) → 0 < length word → length word ≤ 8
    → (AllSolid word × AllPrinted word × (is_answer_word word ≡ true) × (bytes_eq word (codes "second") ≡ false))
    → ((rest : List ℕ) → is_comment (word ++ rest) ≡ false) → IsFirstWord word
first_word word some few seen comment = search arith

after_space : (bytes : List ℕ) → words (32 ∷ bytes) ≡ words bytes
unfolding words
after_space bytes = refl

answer_words : (via : Connection) (word rest : List ℕ) → IsFirstWord word → IsApart rest
    → is_answer (words (connection_word via ++ (word ++ rest))) ≡ true
answer_words First word rest w apart = search (arith, word_front word rest w.some w.solid apart)
answer_words Second word rest w apart =
    search (
      arith,
      word_front (codes "second") (32 ∷ (word ++ rest)) (omega arith) refl refl,
      after_space (word ++
          rest),
      word_front word rest w.some w.solid apart,
    )

few_via : (via : Connection) → length (connection_word via) ≤ 7
few_via via = grind arith

-- a line that isn't too long
short_line : (via : Connection) (word rest : List ℕ) → IsFirstWord word → IsApart rest → AllPrinted rest
    → length (connection_word via ++ (word ++ rest)) ≤ 200 → IsAnswerLine (connection_word via ++ (word ++ rest))
short_line via word rest w apart printed short = search (arith, both_printed, answer_words, said_plain)

answer_line : (via : Connection) (word rest : List ℕ) → IsFirstWord word → IsApart rest → AllPrinted rest
    → length rest ≤ 150 → IsAnswerLine (connection_word via ++ (word ++ rest))
answer_line via word rest w apart printed few = search (
  arith,
  short_line via word rest w apart printed (omega (
    arith,
    length-append (connection_word via) (word ++ rest),
    length-append word rest,
    few_via via,
    w.few,
    few,
  )),
)

-- one line, which begins with the word of the connection
one_line : (via : Connection) (bytes : List ℕ) → IsAnswerLine (connection_word via ++ bytes)
    → AreAnswers (connection_word via ++ line bytes) 1
one_line via bytes it = record {
  all = (connection_word via ++ bytes) ∷ [];
  whole = sym (append-nil (line (connection_word via ++ bytes)) ∙ append_assoc (connection_word via) bytes (10 ∷ []));
  many = refl;
  each = (it, tt);
}

-- ---- the words of answers

queued : IsFirstWord (codes "queued")
queued = first_word (codes "queued") (omega arith) (omega arith) (refl, refl, refl, refl) (λ rest. refl)

answered : IsFirstWord (codes "answered")
answered = first_word (codes "answered") (omega arith) (omega arith) (refl, refl, refl, refl) (λ rest. refl)

refused : IsFirstWord (codes "refused")
refused = first_word (codes "refused") (omega arith) (omega arith) (refl, refl, refl, refl) (λ rest. refl)

served : IsFirstWord (codes "serve")
served = first_word (codes "serve") (omega arith) (omega arith) (refl, refl, refl, refl) (λ rest. refl)

idle : IsFirstWord (codes "idle")
idle = first_word (codes "idle") (omega arith) (omega arith) (refl, refl, refl, refl) (λ rest. refl)

ended : IsFirstWord (codes "end")
ended = first_word (codes "end") (omega arith) (omega arith) (refl, refl, refl, refl) (λ rest. refl)

none : IsFirstWord (codes "none")
none = first_word (codes "none") (omega arith) (omega arith) (refl, refl, refl, refl) (λ rest. refl)

figure : IsFirstWord (codes "figure")
figure = first_word (codes "figure") (omega arith) (omega arith) (refl, refl, refl, refl) (λ rest. refl)

-- ---- what became of a message

number_printed : (n : ℕ) → AllPrinted (32 ∷ decimal n)
number_printed n = decimal_printed n

aborted_printed : (aborted : Option ℕ) → AllPrinted (aborted_part aborted)
aborted_printed aborted = grind (arith, decimal_printed)

aborted_few : (aborted : Option ℕ) → length (aborted_part aborted) ≤ 73
aborted_few aborted = grind (arith, length-append, decimal_few)

refusal_printed : (fault : SendFault) → AllPrinted (refusal_word fault)
refusal_printed fault = grind arith

refusal_few : (fault : SendFault) → length (refusal_word fault) ≤ 11
refusal_few fault = grind arith

pub sent_answers : (via : Connection) (sent : Result Sent SendFault)
    → AreAnswers (entry_lines (entries.Sent via sent)) 1
sent_answers via (Ok (sents.Queued reference)) =
    one_line via (codes "queued " ++ decimal reference)
    (answer_line via (codes "queued") (32 ∷ decimal reference) queued refl (number_printed reference)
    (omega (arith, decimal_few reference)))
sent_answers via (Ok (sents.Answered reference aborted)) =
    let rest = decimal reference ++ aborted_part aborted in
    one_line via (codes "answered " ++ rest)
    (answer_line via (codes "answered") (32 ∷ rest) answered refl
    (both_printed (32 ∷ decimal reference) (aborted_part aborted) (number_printed reference)
    (aborted_printed aborted))
    (omega (
      arith,
      length-append (decimal reference) (aborted_part aborted),
      decimal_few reference,
      aborted_few aborted,
    )))
sent_answers via (Err fault) =
    one_line via (codes "refused " ++ refusal_word fault)
    (answer_line via (codes "refused") (32 ∷ refusal_word fault) refused refl (refusal_printed fault)
    (omega (arith, refusal_few fault)))

-- ---- an end that was taken

pub taken_answers : (via : Connection) (end : Option (ArrayVec ℕ)) → AreTaken end
    → AreAnswers (entry_lines (entries.Taken via end)) 1
taken_answers via None are = one_line via (codes "none") (answer_line via (codes "none") [] none tt refl (omega arith))
taken_answers via (Some bytes) are =
    one_line via (codes "end " ++ encode_lower bytes.items)
    (answer_line via (codes "end") (32 ∷ encode_lower bytes.items) ended refl (encoded_printed bytes.items are.0)
    (omega (arith, encoded_length bytes.items, are.1)))

-- ---- the figures of a look

-- a line of one
abbrev figure_text : (Connection × ℕ × ℕ) → List ℕ
figure_text shown = connection_word shown.0 ++ (codes "figure " ++ decimal shown.1 ++ codes " " ++ decimal shown.2)

figure_answers : (shown : Connection × ℕ × ℕ) → IsAnswerLine (figure_text shown)
figure_answers shown =
    answer_line shown.0 (codes "figure") (32 ∷ ((decimal shown.1 ++ codes " ") ++ decimal shown.2)) figure refl
    (both_printed (32 ∷ (decimal shown.1 ++ codes " ")) (decimal shown.2)
    (both_printed (32 ∷ decimal shown.1) (codes " ") (number_printed shown.1) refl) (decimal_printed shown.2))
    (omega (
      arith,
      length-append (decimal shown.1 ++ codes " ") (decimal shown.2),
      length-append (decimal shown.1) (codes " "),
      decimal_few shown.1,
      decimal_few shown.2,
    ))

figures_whole : (shown : List (Connection × ℕ × ℕ)) → flat_map figure_line shown ≡ flat_map line (map figure_text shown)
figures_whole [] = refl
figures_whole (x ∷ xs) = search (arith, append_assoc, figures_whole xs)

figures_each : (shown : List (Connection × ℕ × ℕ)) → AllByRecursion IsAnswerLine (map figure_text shown)
figures_each [] = tt
figures_each (x ∷ xs) = (figure_answers x, figures_each xs)

pub look_answers : (shown : ArrayVec (Connection × ℕ × ℕ)) (count : ℕ) → count ≡ length shown.items
    → AreAnswers (entry_lines (entries.Looked shown)) count
look_answers shown count e = grind (arith, figures_whole, length-map, figures_each)

-- ---- a step

pub idle_answers : IsAnswerLine (codes "idle")
idle_answers = answer_line First (codes "idle") [] idle tt refl (omega arith)

block_printed : (lbn : Option ℕ) → AllPrinted (block_word lbn)
block_printed lbn = grind (arith, decimal_printed)

ended_printed : (ended : Option End) → AllPrinted (ended_part ended)
ended_printed ended = grind (arith, both_printed, ended, status_printed)

pub step_answers : (report : Report) → length (step_line report) ≤ 108 → AreAnswers (step_line report) 1
step_answers Idle few = one_line First (codes "idle") idle_answers
step_answers (Served via n unit lbn started seek ended) few =
    let a = decimal n in
    let b = a ++ codes " unit " in
    let c = b ++ decimal unit in
    let d = c ++ codes " block " in
    let e = d ++ block_word lbn in
    let f = e ++ codes " seek " in
    let g = f ++ decimal seek in
    let h = g ++ ended_part ended in
    let pb = both_printed a (codes " unit ") (decimal_printed n) refl in
    let pc = both_printed b (decimal unit) pb (decimal_printed unit) in
    let pd = both_printed c (codes " block ") pc refl in
    let pe = both_printed d (block_word lbn) pd (block_printed lbn) in
    let pf = both_printed e (codes " seek ") pe refl in
    let pg = both_printed f (decimal seek) pf (decimal_printed seek) in
    let ph = both_printed g (ended_part ended) pg (ended_printed ended) in
    one_line via (codes "serve " ++ h)
    (short_line via (codes "serve") (32 ∷ h) served refl ph (omega (
      arith,
      few,
      length-append (connection_word via) (line (codes "serve " ++ h)),
      length-append (codes "serve " ++ h) (10 ∷ []),
      length-append (connection_word via) (codes "serve " ++ h),
    )))
