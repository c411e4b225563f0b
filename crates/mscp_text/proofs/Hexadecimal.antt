-- Words of hexadecimal digits.
use Rattle.std.proofs.Common.{◌≡◌, ◌*◌, ◌/◌, ◌%◌, ◌<◌, ◌==◌, ◌&&◌, ◌∙◌, ℕ, true, false, List, [], ◌∷◌, length, sym, refl, arith, Ok, Err}
use Rattle.std.specs.Prelude.{Result}
use Rattle.std.specs.Char.{is_ascii_hexdigit}
use Rattle.std.specs.List.{list_all}
use Rattle.std.proofs.lemmas.Bool.Decides.{nat_tests}
use Rattle.std.proofs.lemmas.List.Sums.{AllPass-from_list_all, list_all-from_AllPass}
use Rattle.hex.specs.Hex.{decode_of, is_hex_digit}
use Rattle.hex.specs.declared.error.FromHexError.{FromHexError}
use Rattle.hex.proofs.HexLemmas.{decode_of-digits, decode_of-ok}
use Rattle.mscp_packet.specs.Steps.{◌>>=◌}
use Rattle.mscp_text.specs.Shown.{in_hex, message_of, sized}
use Rattle.mscp_text.specs.declared.packet.ShowFault.TheVariants as faults

-- a digit of std is one of the decoder's
same_digit : (c : ℕ) → is_ascii_hexdigit c ≡ is_hex_digit c
same_digit c = grind (arith)

-- the same of all bytes of a word
same_digits : (word : List ℕ) → list_all is_ascii_hexdigit word ≡ list_all is_hex_digit word
same_digits [] = refl
same_digits (c ∷ word) = rw (same_digit c, same_digits word) refl

-- an even number of digits is decoded
decoded : (word : List ℕ) → (length word % 2 == 0 && list_all is_ascii_hexdigit word) ≡ true
    → (bytes : List ℕ) × (decode_of word ≡ Ok bytes)
decoded word h =
    let even : length word % 2 ≡ 0 = grind (arith, nat_tests) in
    let digits : list_all is_ascii_hexdigit word ≡ true = grind (arith, nat_tests) in
    decode_of-digits word even (AllPass-from_list_all is_hex_digit word (sym (same_digits word) ∙ digits))

-- what is decoded is an even number of digits
undecoded : (word bytes : List ℕ) → decode_of word ≡ Ok bytes
    → (length word % 2 == 0 && list_all is_ascii_hexdigit word) ≡ true
undecoded word bytes e =
    let ok = decode_of-ok word bytes e in
    let digits : list_all is_ascii_hexdigit word ≡ true =
    same_digits word ∙ list_all-from_AllPass is_hex_digit word ok.1 in
    rw (ok.0, digits) refl

-- a message of over 64 bytes
sized_long : (b : List ℕ) → 64 < length b → sized b ≡ Err faults.Long
sized_long b long = grind (arith, nat_tests)

-- a word of over 128 digits is long
pub long_word : (word : List ℕ) → 64 < length word / 2
    → (length word % 2 == 0 && list_all is_ascii_hexdigit word) ≡ true → message_of word ≡ Err faults.Long
long_word word long h =
    let d = decoded word h in
    let size : length word ≡ 2 * length d.0 = (decode_of-ok word d.0 d.1).2 in
    rw d.1 (sized_long d.0 (omega arith))

-- a word that isn't decoded is no message
no_message : (word : List ℕ) (r : Result (List ℕ) FromHexError) → decode_of word ≡ r
    → (length word % 2 == 0 && list_all is_ascii_hexdigit word) ≡ false → (in_hex r >>= sized) ≡ Err faults.Hex
no_message word (Ok bytes) e h = cc (undecoded word bytes e)
no_message word (Err fault) e h = refl

-- a word that isn't an even number of digits is not hexadecimal
pub no_word : (word : List ℕ)
    → (length word % 2 == 0 && list_all is_ascii_hexdigit word) ≡ false → message_of word ≡ Err faults.Hex
no_word word h = no_message word (decode_of word) refl h
