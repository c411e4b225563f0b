-- Plain lines: what is cut off them, and what they say.
use Rattle.mscp_reader.proofs.Common.{◌≡◌, ◌<◌, ◌≤◌, ◌+◌, ◌-◌, ◌==◌, ◌&&◌, ◌∙◌, ℕ, Bool, true, false, not, suc, zero, subst, List, [], ◌∷◌, ◌++◌, length, take, drop, get_or, refl, sym, ap, arith, Ok, Err, position, unwrap_or, nat_le, nat_lt, if◌then◌else◌, replicate, Some, Result, filter, list_all, slice_split, strip_carriage_return, and_parts, and_from, nat_tests, append_assoc, append-nil, length-append, length-drop, length-take-le, take-append-drop, take_all, digits_value, Order, MoveKind, is_comment, is_digit, is_numeral, is_printed, is_some_word, lines, narrow, number, said, steps_in, wide, words, Asks, Cuts, CutsWord, Ends, IsApart, IsNumeral, IsPlain, is_letter, asked, event_form, form_of, message_form, plain_form, IsValidForm, request, sent, said_at, asked_next, Form, Cause, Good, First, Event}
use Rattle.mscp_packet.specs.declared.command.Order.TheVariants as orders
use Rattle.mscp_reader.specs.declared.events.Form.TheVariants as forms
use Rattle.mscp_reader.specs.declared.fault.Cause.TheVariants as causes
use Rattle.mscp_drive.specs.declared.event.Event.TheVariants as events
use Rattle.mscp_reader.proofs.Cuts.{front_len, front_len_is, parts_after, split_parts, words_none}

-- ---- letters and digits

letters_step : (x : ℕ) (xs : List ℕ) (b : Bool) → is_letter x ≡ b
    → list_all is_letter (take (front_len (λ c. not (is_letter c)) xs) xs) ≡ true
    → list_all is_letter (take (front_len (λ c. not (is_letter c)) (x ∷ xs)) (x ∷ xs)) ≡ true
letters_step x xs b h1 h2 = search arith

letters_front : (xs : List ℕ) → list_all is_letter (take (front_len (λ c. not (is_letter c)) xs) xs) ≡ true
letters_front [] = refl
letters_front (x ∷ xs) = letters_step x xs (is_letter x) refl (letters_front xs)

-- letters stand before the first other byte
pub letters : (xs : List ℕ) → list_all is_letter (take (unwrap_or (position (λ c. not (is_letter c)) xs) (length xs))
    xs) ≡ true
letters xs = rw (front_len_is (λ c. not (is_letter c)) xs) (letters_front xs)

-- a printed byte that is no space
abbrev pub is_solid : ℕ → Bool
is_solid b = not (b == 32) && is_printed b

-- each byte is solid
abbrev pub AllSolid : List ℕ → Type 0
AllSolid w = list_all is_solid w ≡ true

pub solid_letters : (w : List ℕ) → list_all is_letter w ≡ true → AllSolid w
solid_letters [] h = refl
solid_letters (b ∷ w) h = search (arith, and_parts, and_from, nat_tests, solid_letters w)

pub solid_digits : (w : List ℕ) → list_all is_digit w ≡ true → AllSolid w
solid_digits [] h = refl
solid_digits (b ∷ w) h = search (arith, and_parts, and_from, nat_tests, solid_digits w)

printed_front : (w line : List ℕ) → AllSolid w → list_all is_printed line ≡ true
    → list_all is_printed (w ++ line) ≡ true
printed_front [] line solid h = h
printed_front (b ∷ w) line solid h = search (arith, and_parts, and_from, nat_tests, printed_front w line)

-- ---- words

apart_split : (line : List ℕ) → IsApart line → slice_split (λ b. b == 32) line ≡ [] ∷ parts_after (λ b. b == 32) line
apart_split line h1 = search arith

word_split : (w line : List ℕ) → AllSolid w → IsApart line
    → slice_split (λ b. b == 32) (w ++ line) ≡ w ∷ parts_after (λ b. b == 32) line
word_split [] line solid h = apart_split line h
word_split (b ∷ w) line solid h = search (arith, and_parts, nat_tests, word_split w line)

apart_words : (line : List ℕ) → IsApart line → filter is_some_word (parts_after (λ b. b == 32) line) ≡ words line
unfolding words
apart_words line h1 = search arith

pub word_front : (w line : List ℕ) → 0 < length w → AllSolid w → IsApart line → words (w ++ line) ≡ w ∷ words line
unfolding words
word_front w line h1 h2 h3 = search (arith, word_split, apart_words)

after_space : (line : List ℕ) → words (32 ∷ line) ≡ words line
unfolding words
after_space line = refl

-- a space and a word were cut off
pub cut_word : (w new : List ℕ) → 0 < length w → AllSolid w → Cuts (32 ∷ (w ++ new)) (w ∷ []) new
cut_word w new some solid = λ more behind e. record {
  line = 32 ∷ (w ++ e.line);
  whole = ap (λ xs. 32 ∷ (w ++ xs)) e.whole ∙ ap (λ xs. 32 ∷ xs) (sym (append_assoc w e.line (10 ∷ behind)));
  apart = refl;
  printed = printed_front w e.line solid e.printed;
  are = after_space (w ++ e.line) ∙ word_front w e.line some solid e.apart ∙ ap (λ ws. w ∷ ws) e.are;
}

-- a first byte that was seen
pub seen : (xs : List ℕ) (b : ℕ) → 0 < length xs → get_or xs 0 0 ≡ b → xs ≡ b ∷ take (length xs - 1) (drop 1 xs)
seen xs b h1 h2 = search (arith, take_all)

-- a line feed was cut off
pub at_feed : (xs behind : List ℕ) → xs ≡ 10 ∷ behind → Ends xs [] behind
at_feed xs behind e = record { line = []; whole = e; apart = tt; printed = refl; are = words_none }

-- ---- the line

printed_fed : (b : ℕ) → is_printed b ≡ true → (b == 10) ≡ false
printed_fed b h = grind (arith, nat_tests)

feed_split : (line behind : List ℕ) → list_all is_printed line ≡ true
    → slice_split (λ b. b == 10) (line ++ 10 ∷ behind) ≡ line ∷ slice_split (λ b. b == 10) behind
feed_split [] behind h = refl
feed_split (b ∷ line) behind h = search (arith, and_parts, printed_fed, feed_split line behind)

pub said_plain : (line : List ℕ) → length line ≤ 200 → is_comment line ≡ false → list_all is_printed line ≡ true
    → said line ≡ Ok (words line)
unfolding said
said_plain line short other printed = rw (other, printed) (grind (arith, nat_tests))

-- ---- numbers

number_word : (most : ℕ) (w : List ℕ) → list_all is_digit w ≡ true → 0 < length w → length w ≤ 10
    → digits_value 10 w ≤ most → number most w ≡ Ok (digits_value 10 w)
unfolding number
number_word most w digits some few small = rw digits (grind (arith, nat_tests))

-- a space and a number were cut off
pub cut_number : (old : List ℕ) (value digits : ℕ) → 0 < length old → get_or old 0 0 ≡ 32
    → IsNumeral value digits (take (length old - 1) (drop 1 old)) → ¬ (digits ≡ 0) → value ≤ 4294967295
    → CutsWord wide value old (take (length (take (length old - 1) (drop 1 old)) - digits)
    (drop digits (take (length old - 1) (drop 1 old))))
cut_number old value digits some space numeral least small =
    let bytes : List ℕ = take (length old - 1) (drop 1 old) in
    let word : List ℕ = take digits bytes in
    let rest : List ℕ = drop digits bytes in
    let new : List ℕ = take (length bytes - digits) rest in
    let size : length word ≡ digits = length-take-le digits bytes numeral.within in
    let whole : 32 ∷ (word ++ new) ≡ old = ap (λ xs. 32 ∷ (word ++ xs))
    (take_all (length bytes - digits) rest (omega (arith, length-drop digits bytes)))
    ∙ ap (λ xs. 32 ∷ xs) (take-append-drop digits bytes) ∙ sym (seen old 32 some space) in
    let long : 0 < length word = omega (arith, size, least) in
    let means : wide word ≡ Ok value = number_word 4294967295 word numeral.all long (omega (arith, size, numeral.few))
    (omega (arith, numeral.value, small)) ∙ ap Ok (sym numeral.value) in
    (word, means, subst (λ xs. Cuts xs (word ∷ []) new) whole (cut_word word new long (solid_digits word numeral.all)))

narrow_case : (d v : ℕ) (b : Bool) → (let r : Result ℕ Cause =
    if b && nat_le d 4294967295 then Ok d else Err causes.Number in r ≡ Ok v) → v ≤ 65535
    → (let r : Result ℕ Cause = if b && nat_le d 65535 then Ok d else Err causes.Number in r ≡ Ok v)
narrow_case d v b h1 h2 = search (arith, nat_tests, nat_le)

pub narrow_is : (word : List ℕ) (v : ℕ) → wide word ≡ Ok v → v ≤ 65535 → narrow word ≡ Ok v
unfolding number
narrow_is word v h small = narrow_case (digits_value 10 word) v (is_numeral word) h small

-- ---- requests

pub transfer_asks : (kind : MoveKind) (xs ys zs us vs : List ℕ) (r u c b : ℕ) → CutsWord wide r xs ys
    → CutsWord narrow u ys zs → CutsWord wide c zs us → CutsWord wide b us vs
    → Asks (forms.Transfer kind) (sent First (record { reference = r; unit = u; order = orders.Move kind c b })) xs vs
unfolding asked
transfer_asks kind xs ys zs us vs r u c b p q s t = (
  p.0 ∷ q.0 ∷ s.0 ∷ t.0 ∷ [],
  rw (p.1, q.1, s.1, t.1) refl,
  λ more behind e. p.2 _ behind (q.2 _ behind (s.2 _ behind (t.2 more behind e))),
)

pub other_asks : (order : Order) (xs ys zs : List ℕ) (r u : ℕ) → CutsWord wide r xs ys → CutsWord narrow u ys zs
    → Asks (forms.Plain order) (sent First (record { reference = r; unit = u; order = order })) xs zs
unfolding asked
other_asks order xs ys zs r u p q = (
  p.0 ∷ q.0 ∷ [],
  rw (p.1, q.1) refl,
  λ more behind e.
      p.2 _ behind (q.2 more behind e),
)

pub poll_asks : (xs ys zs : List ℕ) (r o : ℕ) → CutsWord wide r xs ys → CutsWord wide o ys zs
    → Asks forms.Status (sent First (record { reference = r; unit = 0; order = orders.Status o })) xs zs
unfolding asked
poll_asks xs ys zs r o p q = (p.0 ∷ q.0 ∷ [], rw (p.1, q.1) refl, λ more behind e. p.2 _ behind (q.2 more behind e))

pub abort_asks : (xs ys zs : List ℕ) (r o : ℕ) → CutsWord wide r xs ys → CutsWord wide o ys zs
    → Asks forms.Abort (sent First (record { reference = r; unit = 0; order = orders.Abort o })) xs zs
unfolding asked
abort_asks xs ys zs r o p q = (p.0 ∷ q.0 ∷ [], rw (p.1, q.1) refl, λ more behind e. p.2 _ behind (q.2 more behind e))

pub steps_asks : (xs ys : List ℕ) (n : ℕ) → CutsWord wide n xs ys → 1 ≤ n → n ≤ 1000
    → Asks forms.Step (replicate n (events.Step Good)) xs ys
unfolding asked
steps_asks xs ys n p low high =
    let fits : steps_in n ≡ Ok n = grind (arith, nat_tests) in
    (p.0 ∷ [], rw (p.1, fits) refl, λ more behind e. p.2 more behind e)

pub take_asks : (xs : List ℕ) → Asks forms.Take (events.Take First ∷ []) xs xs
unfolding asked
take_asks xs = ([], refl, λ more behind e. e)

pub look_asks : (xs : List ℕ) → Asks forms.Look (events.Look ∷ []) xs xs
unfolding asked
look_asks xs = ([], refl, λ more behind e. e)

some_word : (w : List ℕ) (form : Form) → form_of w ≡ Some form → 0 < length w
unfolding form_of plain_form message_form event_form
some_word [] form h = cc
some_word (b ∷ w) form h = omega arith

-- the order that a line's first word names is a valid command's
pub is_valid : (w : List ℕ) (form : Form) → form_of w ≡ Some form → IsValidForm form
unfolding form_of event_form message_form plain_form
is_valid w form h = grind arith

letter_first : (b : ℕ) → is_letter b ≡ true → (b == 35) ≡ false
letter_first b h = grind (arith, nat_tests)

no_comment : (w line : List ℕ) → 0 < length w → list_all is_letter w ≡ true → is_comment (w ++ line) ≡ false
no_comment [] line some h = absurd (omega arith)
no_comment (b ∷ w) line some h = letter_first b (and_parts (is_letter b) (list_all is_letter w) h).0

pub plain_is : (bytes w rest new behind : List ℕ) (form : Form) (what : List Event) → bytes ≡ w ++ rest
    → list_all is_letter w ≡ true → form_of w ≡ Some form → Asks form what rest new → Ends new [] behind
    → IsPlain bytes what behind
unfolding request
plain_is bytes w rest new behind form what is letters known asks ends =
    let e = asks.2 [] behind ends in
    let some = some_word w form known in
    let solid = solid_letters w letters in
    record {
      line = w ++ e.line;
      whole = is ∙ ap (λ xs. w ++ xs) e.whole ∙ sym (append_assoc w e.line (10 ∷ behind));
      printed = printed_front w e.line solid e.printed;
      said = no_comment w e.line some letters;
      asks = rw (word_front w e.line some solid e.apart, known, e.are ∙ append-nil asks.0) asks.1;
    }

-- ---- the outcome

last_printed : (line : List ℕ) (i : ℕ) → list_all is_printed line ≡ true → (get_or line i 0 == 13) ≡ false
last_printed [] i h = refl
last_printed (b ∷ line) zero h = search (arith, and_parts, nat_tests)
last_printed (b ∷ line) (suc i) h = last_printed line i (and_parts (is_printed b) (list_all is_printed line) h).1

strip_printed : (line : List ℕ) → list_all is_printed line ≡ true → strip_carriage_return line ≡ line
strip_printed line h = rw (last_printed line (length line - 1) h) refl

pub plain_lines : (line behind : List ℕ) → list_all is_printed line ≡ true
    → lines (line ++ 10 ∷ behind) ≡ line ∷ lines behind
unfolding lines
plain_lines line behind h = search (arith, feed_split, split_parts, strip_printed)

-- its length, and the line itself
line_length : (bytes behind : List ℕ) (what : List Event) (r : IsPlain bytes what behind)
    → length bytes - length behind - 1 ≡ length r.line
line_length bytes behind what r = omega (arith, ap length r.whole, length-append r.line (10 ∷ behind))

-- the next line asks for what a plain one does, if that isn't too long, and neither too late nor of too many events
pub plain_next : (n count : ℕ) (bytes behind : List ℕ) (new : List Event) → IsPlain bytes new behind → n < 1000000
    → length bytes - length behind - 1 ≤ 200 → count + length new ≤ 1000000
    → (asked_next n count (lines bytes) ≡ Ok (Some new)) × (lines behind ≡ drop 1 (lines bytes))
plain_next n count bytes behind new r few short fits =
    let whole : lines bytes ≡ r.line ∷ lines behind = ap lines r.whole ∙ plain_lines r.line behind r.printed in
    let counted : nat_lt 1000000 (n + 1) ≡ false = grind (arith, nat_tests) in
    let says : said_at (n + 1) r.line ≡ Ok (words r.line) = rw counted (said_plain r.line
    (omega (arith, short, line_length bytes behind new r)) r.said r.printed) in
    search (arith, nat_tests)
