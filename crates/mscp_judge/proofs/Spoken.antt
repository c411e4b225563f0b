-- The line of a step says which command was served.
use Rattle.mscp_judge.proofs.Common.{◌≡◌, ◌==◌, ℕ, ◌<◌, ◌^◌, true, not, List, [], ◌∷◌, ◌++◌, length, refl, ap, arith, append_assoc, codes, Ok, Option, Some, decimal, list_all, AllDigits, nat_tests, and_from, and_parts, false≢true, le-leb, decimal_is_IsNumeral, digit_from_value, End, Connection, First, Second, Report, Idle, Served, name_on, every_append, is_digit, number, wide, words, few_digits, AllSolid, solid_digits, word_front, block_word, connection_word, ended_part, step_line, name_in, numbered, served}
use Rattle.mscp_judge.proofs.Feeds.{NoFeed, front_of}
use Rattle.mscp_judge.proofs.Unique.{Says}

-- ---- a number

digit_bytes : (ds : List ℕ) → AllDigits 10 ds → list_all is_digit ds ≡ true
digit_bytes [] h = refl
digit_bytes (d ∷ ds) h = grind (arith, digit_bytes ds h.1, and_from, digit_from_value, nat_tests)

pub digits_fed : (ds : List ℕ) → list_all is_digit ds ≡ true → NoFeed ds
digits_fed [] h = tt
digits_fed (d ∷ ds) h = search (arith, and_parts, false≢true, digits_fed ds)

-- literal words have no line feed
pub fed_literal : (bytes : List ℕ) → list_all (λ b. not (b == 10)) bytes ≡ true → NoFeed bytes
fed_literal [] h = tt
fed_literal (b ∷ bytes) h = search (arith, and_parts, false≢true, fed_literal bytes)

decimal_digits : (n : ℕ) → n < 2 ^ 32 → list_all is_digit (decimal n) ≡ true
decimal_digits n h = digit_bytes (decimal n) (decimal_is_IsNumeral n (omega (arith, h))).0.1

some_digits : (n : ℕ) → n < 2 ^ 32 → 0 < length (decimal n)
some_digits n h = (decimal_is_IsNumeral n (omega (arith, h))).0.0

-- the number of the word that a number is written as
wide_decimal : (n : ℕ) → n < 2 ^ 32 → wide (decimal n) ≡ Ok n
unfolding number
wide_decimal n h = grind (arith, le-leb, some_digits, few_digits, decimal_digits, decimal_is_IsNumeral)

-- ---- the words of a line

pub after_space : (bytes : List ℕ) → words (32 ∷ bytes) ≡ words bytes
unfolding words
after_space bytes = refl

-- the words of a line that begins with a word and a number
two_words : (word bytes : List ℕ) (n : ℕ) → n < 2 ^ 32 → 0 < length word → AllSolid word
    → words (word ++ (32 ∷ (decimal n ++ (32 ∷ bytes)))) ≡ word ∷ decimal n ∷ words (32 ∷ bytes)
two_words word bytes n h some solid = grind (arith, word_front, after_space, some_digits, solid_digits, decimal_digits)

first_name : (n : ℕ) (rest : List (List ℕ)) → n < 2 ^ 32
    → name_in (codes "serve" ∷ decimal n ∷ rest) ≡ Some (name_on First n)
unfolding name_in served
first_name n rest h = ap (numbered First) (wide_decimal n h)

second_name : (n : ℕ) (rest : List (List ℕ)) → n < 2 ^ 32
    → name_in (codes "second" ∷ codes "serve" ∷ decimal n ∷ rest) ≡ Some (name_on Second n)
unfolding name_in served
second_name n rest h = ap (numbered Second) (wide_decimal n h)

-- ---- the line of a step

-- what the line of a step begins with
abbrev head : Connection → ℕ → List ℕ
head via n = connection_word via ++ (codes "serve " ++ (decimal n ++ (32 ∷ [])))

-- and what follows
abbrev tail : ℕ → Option ℕ → ℕ → Option End → List ℕ
tail unit lbn seek ended =
    codes "unit " ++ (decimal unit ++ (codes " block " ++ (block_word lbn ++ (codes " seek " ++ (decimal seek
    ++ (ended_part ended ++ (10 ∷ [])))))))

served_words : (n unit : ℕ) (lbn : Option ℕ) (seek : ℕ) (ended : Option End)
    → (codes "serve " ++ decimal n ++ codes " unit " ++ decimal unit ++ codes " block "
    ++ block_word lbn ++ codes " seek " ++ decimal seek ++ ended_part ended) ++ 10 ∷ []
    ≡ (codes "serve " ++ (decimal n ++ (32 ∷ []))) ++ tail unit lbn seek ended
served_words n unit lbn seek ended = simp append_assoc refl

first_fed : (n : ℕ) → n < 2 ^ 32 → NoFeed (head First n)
first_fed n h = search (arith, fed_literal, digits_fed, decimal_digits, every_append)

head_fed : (via : Connection) (n : ℕ) → n < 2 ^ 32 → NoFeed (head via n)
head_fed via n h2 = grind (arith, first_fed, every_append, fed_literal)

-- the words of a line that begins so
says_front : (via : Connection) (n : ℕ) (more : List ℕ) → n < 2 ^ 32
    → name_in (words (head via n ++ more)) ≡ Some (name_on via n)
says_front First n more h =
    search (
      arith,
      append_assoc (decimal n) (32 ∷ []) more,
      two_words (codes "serve") more n h (omega arith) refl,
      first_name n (words (32 ∷ more)) h,
    )
says_front Second n more h =
    search (
      arith,
      append_assoc (decimal n) (32 ∷ []) more,
      word_front (codes "second") (32 ∷ (codes "serve" ++ (32 ∷
          (decimal n ++ (32 ∷ more))))) (omega arith) refl refl,
      after_space (codes "serve" ++ (32 ∷ (decimal n ++ (32 ∷
          more)))),
      two_words (codes "serve") more n h (omega arith) refl,
      second_name n (words (32 ∷ more)) h,
    )

-- A line that goes on as that of a step says the name of the command.
pub line_says : (line X Y : List ℕ) (report : Report) → line ++ 10 ∷ X ≡ step_line report ++ Y
    → Says (name_in (words line)) report
line_says line X Y Idle e = tt
line_says line X Y (Served via n unit lbn started seek ended) e = search (
  arith,
  served_words n unit lbn seek ended,
  append_assoc (head via n) (tail unit lbn seek ended) Y,
  front_of,
  head_fed,
  says_front,
)
