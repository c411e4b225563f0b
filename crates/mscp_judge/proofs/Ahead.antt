-- Which command the line ahead says was served.
use Rattle.mscp_judge.proofs.Common.{◌≡◌, ◌≢◌, ◌==◌, ◌+◌, drop, take, ℕ, ◌<◌, true, List, [], ◌∷◌, ◌++◌, length, refl, ap, sym, ◌∙◌, arith, append_assoc, position, Some, codes, Ok, list_all, and_parts, eqb-true, leb-true, position-Some, First, every_append, cut_at, is_digit, number, wide, words, solid_digits, word_front, name_in, numbered, served, IsNamedAhead}
use Rattle.mscp_judge.proofs.Feeds.{NoFeed, front_of}
use Rattle.mscp_judge.proofs.Spoken.{after_space, digits_fed, fed_literal}

-- a number has digits alone, and some
numeral_digits : (w : List ℕ) (n : ℕ) → wide w ≡ Ok n → (0 < length w) × (list_all is_digit w ≡ true)
unfolding number
numeral_digits w n ok = grind (arith, and_parts, leb-true)

served_words : (w more : List ℕ) (n : ℕ) → wide w ≡ Ok n → 0 < length w → list_all is_digit w ≡ true
    → name_in (words (codes "serve " ++ (w ++ 32 ∷ more))) ≡ numbered First (wide w)
unfolding name_in served
served_words w more n ok some digits = search (
  arith,
  word_front (codes "serve") (32 ∷ (w ++ 32 ∷ more)) (omega arith) refl refl,
  after_space (w ++ 32 ∷ more),
  word_front w (32 ∷ more) some (solid_digits w digits) refl,
)

pub names_ahead : (bytes w more : List ℕ) (n : ℕ) → bytes ≡ codes "serve " ++ (w ++ 32 ∷ more) → wide w ≡ Ok n
    → IsNamedAhead bytes (record { connection = First; reference = n })
names_ahead bytes w more n is ok = λ line begins.
    let k = numeral_digits w n ok in
    let head : List ℕ = codes "serve " ++ (w ++ (32 ∷ [])) in
    let fed : NoFeed head =
    every_append (λ b. b ≢ 10) (codes "serve ") (w ++ (32 ∷ [])) (fed_literal (codes "serve ") refl)
    (every_append (λ b. b ≢ 10) w (32 ∷ []) (digits_fed w k.1) (fed_literal (32 ∷ []) refl)) in
    let whole : bytes ≡ head ++ more = is ∙ ap (λ bs. codes "serve " ++ bs) (sym (append_assoc w (32 ∷ []) more)) in
    let f = front_of line begins.0 head more fed (sym begins.1 ∙ whole) in
    search (arith, append_assoc, served_words)

-- what stands before the first space, and behind it
pub spaced : (bytes : List ℕ) (end : ℕ) → position (λ b. b == 32) bytes ≡ Some end
    → bytes ≡ take end bytes ++ 32 ∷ drop (end + 1) bytes
spaced bytes end e =
    let p = position-Some (λ b. b == 32) bytes end 0 e in
    search (arith, eqb-true, cut_at)
