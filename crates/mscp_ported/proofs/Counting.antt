-- Slots that were given back, one behind the other, and what was told in them.
use Rattle.mscp_ported.proofs.Common.{Commands, IfSome, List, None, Option, Packet, Responses, Rings, Said, Side, Slot, Some, StandInOrder, TellAll, Tells, [], address_in, ap, arith, is_owned, left_after, length, mod-lt, mod-mod-pow, nat_lt, pow_pos, refl, rings_named, slot_in, slot_place, slots_in, slots_of, sym, true, word_of, word_place, ℕ, ◌%◌, ◌*◌, ◌++◌, ◌+◌, ◌-◌, ◌^◌, ◌∙◌, ◌∷◌, ◌≡◌}
use Rattle.mscp_ported.proofs.Look.{IsWide, left_all}

-- ---- counts

-- each thing lies where the port has it
pub place_so : (r : Rings) (side : Side) (n : ℕ) → slot_place r side n ≡ slot_in r side n
place_so r Responses n = refl
place_so r Commands n = refl

pub slots_so : (r : Rings) (side : Side) → slots_in r side ≡ slots_of r side
slots_so r Responses = refl
slots_so r Commands = refl

pub word_so : (r : Rings) (side : Side) → word_place r side ≡ word_of r side
word_so r Responses = refl
word_so r Commands = refl

pub mod_power : (n d : ℕ) → (j : ℕ) × (k : ℕ) × (j + k ≡ 8) × (d ≡ 2 ^ k) → n % 256 % d ≡ n % d
mod_power n d h =
    ap (λ x. n % 256 % x) h.3 ∙ ap (λ x. n % 2 ^ x % 2 ^ h.1) (sym h.2) ∙ mod-mod-pow n h.0 h.1
    ∙ ap (λ x. n % x) (sym h.3)

count_mod : (r : Rings) (side : Side) (n : ℕ) → IsWide r → slot_place r side (n % 256) ≡ slot_place r side n
count_mod r Responses n wide = ap (λ x. r.base + x * 4) (mod_power n r.responses wide.response_log)
count_mod r Commands n wide = ap (λ x. r.base + (r.responses + x) * 4) (mod_power n r.commands wide.command_log)

pub address_mod : (o : Option Rings) (side : Side) (n : ℕ) → IfSome o IsWide
    → address_in o side (n % 256) ≡ address_in o side n
address_mod None side n wide = refl
address_mod (Some r) side n wide = count_mod r side n wide

-- one more slot, behind the others
pub one_more : (o : Option Rings) (side : Side) (n : ℕ) (xs : List Slot) (x : Slot) → StandInOrder o side n xs
    → x.side ≡ side → x.address ≡ address_in o side (n + length xs) → is_owned x.word ≡ true
    → StandInOrder o side n (xs ++ x ∷ [])
one_more o side n [] x h at place own = (at, place ∙ ap (address_in o side) (search arith), own, tt)
one_more o side n (y ∷ ys) x h at place own =
    grind (arith, one_more o side (n + 1) ys x h.3 at (place ∙ ap (address_in o side) (search arith)) own)

pub tell_more : (left : ℕ) (ps : List Packet) (xs : List Said) (p : Packet) (x : Said) → TellAll left ps xs
    → Tells (left_all left xs) p x → TellAll left (ps ++ p ∷ []) (xs ++ x ∷ [])
tell_more left [] [] p x h one = (one, tt)
tell_more left [] (y ∷ ys) p x h one = absurd h
tell_more left (q ∷ qs) [] p x h one = absurd h
tell_more left (q ∷ qs) (y ∷ ys) p x h one = (h.0, tell_more (left_after left y.kind) qs ys p x h.1 one)

pub left_more : (left : ℕ) (xs : List Said) (x : Said)
    → left_all left (xs ++ x ∷ []) ≡ left_after (left_all left xs) x.kind
left_more left [] x = refl
left_more left (y ∷ ys) x = left_more (left_after left y.kind) ys x

-- ---- rings that were named

slots_log : (n : ℕ) → (j : ℕ) × (k : ℕ) × (j + k ≡ 8) × (2 ^ (n % 8) ≡ 2 ^ k)
slots_log n = (8 - n % 8, n % 8, search (arith, mod-lt n), refl)

pub named_wide : (first second third : ℕ) → IfSome (rings_named first second third) IsWide
named_wide first second third = grind (arith, nat_lt, pow_pos, slots_log)
