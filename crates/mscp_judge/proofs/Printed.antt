-- Bytes that are printed: the digits of numbers, also of those that no type holds, and of the bytes of an end.
use Rattle.mscp_judge.proofs.Common.{◌≡◌, ℕ, zero, suc, ◌+◌, ◌*◌, ◌/◌, ◌%◌, ◌<◌, ◌≤◌, true, false, arith, List, [], ◌∷◌, ◌++◌, length, refl, sym, subst, find, nat_eq, nat_lt, replicate, IfSome, Option, Some, None, slice_index, decimal, digits, digits_onto, byte_at, bytes_low_first, AllByRecursion, list_all, option_map, and_from, and_parts, nat_tests, ArrayVec, little_bytes, encode_lower, encode_with, lower_digits, BodyKind, EndBody, End, HasBody, IsEnd, body_bytes, end_bytes, bytes_span, every_append, status_text, is_printed}
use Rattle.mscp_packet.specs.declared.end.EndBody.TheVariants as bodies

-- ---- numbers
abbrev pub AllPrinted : List ℕ → Type 0
AllPrinted bytes = list_all is_printed bytes ≡ true

pub both_printed : (xs ys : List ℕ) → AllPrinted xs → AllPrinted ys → AllPrinted (xs ++ ys)
both_printed [] ys p q = q
both_printed (x ∷ xs) ys p q = search (arith, and_parts, and_from, both_printed xs ys)

-- the digits of a number, also of one that has more than any type holds
digits_printed : (k n : ℕ) (acc : List ℕ) → AllPrinted acc → AllPrinted (digits_onto k 10 false n acc)
digits_printed zero n acc p = p
digits_printed (suc k) n acc p = search (arith, and_from, nat_tests, digits_printed k (n / 10))

digits_few : (k n : ℕ) (acc : List ℕ) → length (digits_onto k 10 false n acc) ≤ k + length acc
digits_few zero n acc = omega arith
digits_few (suc k) n acc = search (arith, digits_few k (n / 10))

pub decimal_printed : (n : ℕ) → AllPrinted (decimal n)
unfolding digits
decimal_printed n = digits_printed 64 n [] refl

pub decimal_few : (n : ℕ) → length (decimal n) ≤ 64
unfolding digits
decimal_few n = omega (arith, digits_few 64 n [])

-- ---- the bytes of an end

-- the endcode of an end is a byte
coded_small : (es : List (ℕ × BodyKind)) (code : ℕ) (b : List ℕ) (body : EndBody)
    → list_all (λ e. nat_lt e.0 256) es ≡ true
    → HasBody (option_map (λ e. e.1) (find (λ e. nat_eq e.0 code) es)) b body → code < 256
coded_small [] code b body small has = absurd has
coded_small (e ∷ es) code b body small has = search (arith, coded_small es code b body)

abbrev pub AllBytes : List ℕ → Type 0
AllBytes bytes = AllByRecursion (λ b. b < 256) bytes

both_bytes : (xs ys : List ℕ) → AllBytes xs → AllBytes ys → AllBytes (xs ++ ys)
both_bytes xs ys p q = every_append (λ b. b < 256) xs ys p q

low_byte : (i n : ℕ) → byte_at i n < 256
low_byte i n = grind arith

low_bytes : (i k n : ℕ) → AllBytes (bytes_low_first i k n)
low_bytes i zero n = tt
low_bytes i (suc k) n = (low_byte i n, low_bytes (suc i) k n)

little : (k n : ℕ) → AllBytes (little_bytes k n)
little k n = low_bytes 0 k n

zeros : (k : ℕ) → AllBytes (replicate k 0)
zeros zero = tt
zeros (suc k) = (omega arith, zeros k)

-- numbers one after the other
both_little : (k n : ℕ) (rest : List ℕ) → AllBytes rest → AllBytes (little_bytes k n ++ rest)
both_little k n rest small = both_bytes (little_bytes k n) rest (little k n) small

both_zeros : (k : ℕ) (rest : List ℕ) → AllBytes rest → AllBytes (replicate k 0 ++ rest)
both_zeros k rest small = both_bytes (replicate k 0) rest (zeros k) small

body_small : (body : EndBody) → AllBytes (body_bytes body)
body_small (bodies.UnitStatus id media track group cylinder) = grind (arith, both_zeros, both_little, zeros, both_bytes)
body_small (bodies.Online id media size serial) = search (arith, zeros, both_zeros, little, both_bytes, both_little)
body_small body = search (arith, little, both_little, both_zeros, zeros)

-- the bytes of an end that is taken
abbrev pub AreTaken : Option (ArrayVec ℕ) → Type 0
AreTaken end = IfSome end (λ b. AllBytes b.items × (length b.items ≤ 48))

pub taken_are : (first : Option End) (end : Option (ArrayVec ℕ))
    → end ≡ option_map (λ e. record { items = end_bytes e }) first
    → ((e : End) → first ≡ Some e → IfSome end (λ b. IsEnd b.items e)) → AreTaken end
taken_are None end is reads = subst AreTaken (sym is) tt
taken_are (Some e) end is reads =
    let it = subst (λ x. IfSome x (λ b. IsEnd b.items e)) is (reads e refl) in
    search (arith, coded_small, both_little, body_small, both_zeros, bytes_span)

-- ---- hexadecimal digits

printed_at : (xs : List ℕ) (i : ℕ) → AllPrinted xs → i < length xs → is_printed (slice_index xs i) ≡ true
printed_at (x ∷ xs) (suc i) p l = search (arith, and_parts, printed_at xs)
printed_at xs i h2 h3 = grind (arith, and_parts)

pub encoded_printed : (bytes : List ℕ) → AllBytes bytes → AllPrinted (encode_lower bytes)
unfolding encode_with
encoded_printed [] small = refl
encoded_printed (b ∷ bytes) small =
    and_from _ _ (printed_at lower_digits (b / 16) refl (omega (arith, small.0)))
    (and_from _ _ (printed_at lower_digits (b % 16) refl (omega arith)) (encoded_printed bytes small.1))

pub encoded_length : (bytes : List ℕ) → length (encode_lower bytes) ≡ 2 * length bytes
unfolding encode_with
encoded_length [] = refl
encoded_length (b ∷ bytes) = omega (arith, encoded_length bytes)

-- ---- a status

pub status_printed : (status : ℕ) → AllPrinted (status_text status)
status_printed status = grind (arith, encoded_printed, low_byte)
