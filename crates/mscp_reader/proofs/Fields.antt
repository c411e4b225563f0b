-- So many fields are one or two, and those behind them.
use Rattle.mscp_reader.proofs.Common.{arith, ◌≡◌, ℕ, List, ◌∷◌, Ok, ◌>>=◌, two, four, five}

pub four_by_two : (a b : List ℕ) (rest : List (List ℕ)) → four (a ∷ b ∷ rest) ≡ (two rest >>= λ f. Ok (a, b, f.0, f.1))
four_by_two a b rest = search arith

pub five_by_four : (a : List ℕ) (rest : List (List ℕ))
    → five (a ∷ rest) ≡ (four rest >>= λ f. Ok (a, f.0, f.1, f.2, f.3))
five_by_four a rest = search arith
