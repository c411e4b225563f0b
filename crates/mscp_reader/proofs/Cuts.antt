-- The first line of a text, and the first word of a line.
use Rattle.mscp_reader.proofs.Common.{◌≡◌, ◌≢◌, get_or, ◌==◌, ◌<◌, ◌≤◌, suc, ℕ, Bool, false, cond, List, [], ◌∷◌, length, take, drop, refl, arith, nat_lt, position, unwrap_or, nat_tests, filter, slice_split, position_or_len, strip_carriage_return, common_steps, lines, words, without_empty_last, is_some_word}

-- how many stand before the first that passes, or all
abbrev pub front_len : (ℕ → Bool) → List ℕ → ℕ
front_len p [] = 0
front_len p (x ∷ xs) = cond (p x) 0 (suc (front_len p xs))

-- what follows the first part
abbrev pub parts_after : (ℕ → Bool) → List ℕ → List (List ℕ)
parts_after p [] = []
parts_after p (x ∷ xs) = slice_split p xs

split_step : (p : ℕ → Bool) (x : ℕ) (xs : List ℕ) (b : Bool) → p x ≡ b
    → slice_split p xs ≡ take (front_len p xs) xs ∷ parts_after p (drop (front_len p xs) xs) → slice_split p (x ∷ xs)
    ≡ take (front_len p (x ∷ xs)) (x ∷ xs) ∷ parts_after p (drop (front_len p (x ∷ xs)) (x ∷ xs))
split_step p x xs b h1 h2 = search arith

pub split_first : (p : ℕ → Bool) (xs : List ℕ) → slice_split p xs ≡ take (front_len p xs) xs
    ∷ parts_after p (drop (front_len p xs) xs)
split_first p [] = refl
split_first p (x ∷ xs) = split_step p x xs (p x) refl (split_first p xs)

le_step : (b : Bool) (n k : ℕ) → n ≤ k → cond b 0 (suc n) ≤ suc k
le_step b n k h1 = search arith

pub front_len-le : (p : ℕ → Bool) (xs : List ℕ) → front_len p xs ≤ length xs
front_len-le p [] = omega arith
front_len-le p (x ∷ xs) = le_step (p x) _ _ (front_len-le p xs)

first_step : (p : ℕ → Bool) (x : ℕ) (xs : List ℕ) (b : Bool) → p x ≡ b → position_or_len p xs ≡ front_len p xs
    → position_or_len p (x ∷ xs) ≡ front_len p (x ∷ xs)
first_step p x xs b h1 h2 = search arith

pub first_is : (p : ℕ → Bool) (xs : List ℕ) → position_or_len p xs ≡ front_len p xs
first_is p [] = refl
first_is p (x ∷ xs) = first_step p x xs (p x) refl (first_is p xs)

pub front_len_is : (p : ℕ → Bool) (xs : List ℕ) → unwrap_or (position p xs) (length xs) ≡ front_len p xs
front_len_is p xs = search (arith, first_is, nat_tests, nat_lt, front_len-le)

-- where the part ends, nothing is left or one that passes
rest_step : (p : ℕ → Bool) (x : ℕ) (xs : List ℕ) (b : Bool) → p x ≡ b → filter is_some_word
    (slice_split p (drop (front_len p xs) xs)) ≡ filter is_some_word (parts_after p (drop (front_len p xs) xs)) → filter
    is_some_word (slice_split p (drop (front_len p (x ∷ xs)) (x ∷ xs))) ≡ filter is_some_word
    (parts_after p (drop (front_len p (x ∷ xs)) (x ∷ xs)))
rest_step p x xs b h1 h2 = search arith

pub rest_words : (p : ℕ → Bool) (xs : List ℕ) → filter is_some_word (slice_split p (drop (front_len p xs) xs))
    ≡ filter is_some_word (parts_after p (drop (front_len p xs) xs))
rest_words p [] = refl
rest_words p (x ∷ xs) = rest_step p x xs (p x) refl (rest_words p xs)

-- the word ahead
ahead : (b : ℕ) (xs : List ℕ) → (b == 32) ≡ false → words (b ∷ xs) ≡ take (front_len (λ b. b == 32) (b ∷ xs)) (b ∷ xs)
    ∷ words (drop (front_len (λ b. b == 32) (b ∷ xs)) (b ∷ xs))
unfolding words
ahead b xs e = search (arith, split_first, rest_words)

pub word_ahead : (xs : List ℕ) → 0 < length xs → get_or xs 0 0 ≢ 32
    → words xs ≡ take (unwrap_or (position (λ b. b == 32) xs) (length xs)) xs
    ∷ words (drop (unwrap_or (position (λ b. b == 32) xs) (length xs)) xs)
word_ahead [] some other = absurd (omega arith)
word_ahead (b ∷ xs) some other = rw (front_len_is (λ b. b == 32) (b ∷ xs)) (ahead b xs (grind (arith, nat_tests)))

pub words_none : words [] ≡ []
unfolding words
words_none = refl

-- ---- lines

-- a split has a part
pub split_parts : (p : ℕ → Bool) (xs : List ℕ) (line : List ℕ)
    → without_empty_last (line ∷ slice_split p xs) ≡ line ∷ without_empty_last (slice_split p xs)
split_parts p xs line = search (arith, split_first)

line_cut : (xs : List ℕ) (n : ℕ) → front_len (λ b. b == 10) xs ≡ n → 0 < length xs
    → lines xs ≡ strip_carriage_return (take n xs) ∷ lines (drop 1 (drop n xs))
unfolding lines
line_cut xs n e some = search (arith, split_first, split_parts, common_steps)

pub line_ahead : (xs : List ℕ) → 0 < length xs
    → lines xs ≡ strip_carriage_return (take (unwrap_or (position (λ b. b == 10) xs) (length xs)) xs)
    ∷ lines (drop 1 (drop (unwrap_or (position (λ b. b == 10) xs) (length xs)) xs))
line_ahead xs some = rw (front_len_is (λ b. b == 10) xs) (line_cut xs (front_len (λ b. b == 10) xs) refl some)

pub lines_none : (xs : List ℕ) → length xs ≡ 0 → lines xs ≡ []
unfolding lines
lines_none [] e = refl
lines_none (x ∷ xs) e = absurd (omega (arith))
