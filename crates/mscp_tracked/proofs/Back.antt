-- What is saved is restored.
use Rattle.mscp_saved.specs.Restored as saved
use Rattle.mscp_saved.specs.Saved as saving
use Rattle.mscp_tracked.proofs.Common.{Bool, true, false, not, true≢false, Option, Some, None, Err, if◌then◌else◌, nat_le, nat_lt, leb-true, le-ltb, num, first_of, ok_is, get_or_append_left, List, ◌++◌, ◌≤◌, length, ℕ, ◌*◌, ◌<◌, ◌^◌, ◌≡◌, ◌∙◌, All, AllByRecursion, refl, sym, ap, arith, nat_eq, Ok, drop, take, length-append, eq-eqb, eqb-true, and_parts, recursion_from_All, take_at, drop_at, little_bytes, eight, Holdings, IsBack, parts_long, parts_rest, parts_said, is_framed, frame_fault, RestoreFault, AreBeside, Tracking, behind, own_length, rest_bytes, restored, resumed, saved_bytes, tracking_in, word_in, words_bytes, words_in}

-- ---- numbers
word_back : (x : ℕ) → x < 2 ^ 64 → IsBack word_in (little_bytes 8) 8 x
word_back x h = record { back = λ t. eight x h; rest = λ t. refl; long = refl }

abbrev pub AreSmall : List ℕ → Type 0
AreSmall words = All (λ word. word < 2 ^ 64) words

words_back : (words : List ℕ) → AreSmall words → AllByRecursion (IsBack word_in (little_bytes 8) 8) words
words_back words h = grind (arith, recursion_from_All, word_back)

said : (n : ℕ) (words t : List ℕ) → n ≡ length words → AreSmall words → words_in n (words_bytes words ++ t) ≡ words
said n words t e h = grind (arith, parts_said, words_back)

left_behind : (n : ℕ) (words t : List ℕ) → n ≡ length words → AreSmall words
    → behind n (words_bytes words ++ t) ≡ t
left_behind n words t e h = ap (λ m. behind m (words_bytes words ++ t)) e
    ∙ parts_rest word_in (little_bytes 8) 8 words t (words_back words h)

long : (words : List ℕ) → AreSmall words → length (words_bytes words) ≡ 8 * length words
long words h = parts_long word_in (little_bytes 8) 8 words (words_back words h)

-- ---- where the controller ends
first_none : (o other : Option RestoreFault) → first_of o other ≡ None → o ≡ None
first_none o other h = grind (arith, true≢false)

framed_if : (q : Bool) (other : Option RestoreFault)
    → (if not q then Some RestoreFault.Length else other) ≡ None → q ≡ true
framed_if o other h = grind (arith, true≢false)

pub record IsWhole (b : List ℕ) : Type 0 where
  pub head : 48 ≤ length b
  pub told : own_length b ≡ length b

whole : {K : Type 0} (number : ℕ) (picker : K) (b : List ℕ) (h : Holdings K) → saved.restored number picker b ≡ Ok h
    → IsWhole b
whole number picker b h e =
    let frame = first_none (frame_fault b) _ (ok_is (sym e)).0 in
    let framed = framed_if (is_framed b) _ frame in
    let parts = and_parts (nat_le 48 (length b)) _ framed in
    let rest = and_parts (nat_eq (num b 8 4) (length b)) _ parts.1 in
    record { head = leb-true 48 (length b) parts.0; told = eqb-true (num b 8 4) (length b) rest.0 }

front_num : (a b : List ℕ) → 48 ≤ length a → own_length (a ++ b) ≡ own_length a
front_num a b l = grind (arith, get_or_append_left)

restored_parts : {K : Type 0} (number : ℕ) (t : Tracking K) (a b : List ℕ)
    → saved.restored number t.controller.picker a ≡ Ok t.controller → resumed b (Ok t.controller) ≡ Ok t
    → restored number t.controller.picker (a ++ b) ≡ Ok t
restored_parts {K} number t a b e r =
    let w = whole number t.controller.picker a t.controller e in
    let n : own_length (a ++ b) ≡ length a = front_num a b w.head ∙ w.told in
    let long : nat_lt (length (a ++ b)) 12 ≡ false =
    le-ltb (length (a ++ b)) 12 (omega (arith, w.head, length-append a b)) in
    ap (λ q. if q then Err RestoreFault.Length
    else resumed (drop (own_length (a ++ b)) (a ++ b))
    (saved.restored number t.controller.picker (take (own_length (a ++ b)) (a ++ b)))) long
    ∙ (ap (λ k. resumed (drop k (a ++ b)) (saved.restored number t.controller.picker (take k (a ++ b)))) n
    ∙ (ap (λ xs. resumed xs (saved.restored number t.controller.picker (take (length a) (a ++ b))))
    (drop_at a b (length a) refl)
    ∙ (ap (λ xs. resumed b (saved.restored number t.controller.picker xs)) (take_at a b (length a) refl)
    ∙ (ap (resumed b) e ∙ r))))

-- ---- all of them
pub record HasRange {K : Type 0} (t : Tracking K) : Type 0 where
  pub waiting : AreSmall t.cookies.waiting
  pub first : AreSmall t.cookies.untaken.first
  pub second : AreSmall t.cookies.untaken.second
  pub count : t.beginnings < 2 ^ 64

module _ {K : Type 0} (t : Tracking K) (b : AreBeside t.controller t.cookies) (r : HasRange t) where
  abbrev H : Holdings K
  H = t.controller

  abbrev Second : List ℕ
  Second = words_bytes t.cookies.untaken.second ++ little_bytes 8 t.beginnings

  abbrev First : List ℕ
  First = words_bytes t.cookies.untaken.first ++ Second

  at_first : behind (length H.waiting) (rest_bytes t) ≡ First
  at_first = left_behind (length H.waiting) t.cookies.waiting First (sym b.waiting) r.waiting

  at_second : behind (length H.untaken.first) (behind (length H.waiting) (rest_bytes t)) ≡ Second
  at_second = grind (arith, at_first, left_behind)

  pub said_again : tracking_in H (rest_bytes t) ≡ t
  said_again = grind (arith, said, at_first, at_second, eight, left_behind)

  resumed_again : resumed (rest_bytes t) (Ok H) ≡ Ok t
  resumed_again = grind (arith, eq-eqb, said_again, long, length-append)

  pub saved_back : (number : ℕ) → saved.restored number H.picker (saving.saved_bytes number H) ≡ Ok H
      → restored number H.picker (saved_bytes number t) ≡ Ok t
  saved_back number e = restored_parts number t (saving.saved_bytes number H) (rest_bytes t) e resumed_again

-- ---- what comes of bytes
-- where there are as many bytes as tell how long the controller is
pub restored_long : {K : Type 0} (number : ℕ) (picker : K) (b : List ℕ) → 12 ≤ length b
    → resumed (drop (own_length b) b) (saved.restored number picker (take (own_length b) b)) ≡ restored number picker b
restored_long number picker b l = grind (arith, le-ltb)
