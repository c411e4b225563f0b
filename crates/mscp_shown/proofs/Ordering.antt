-- Of a unit no command ends before an earlier one that it waits for.
use Rattle.mscp_shown.proofs.Common.{AllByRecursion, Answer, Bool, Connection, End, List, Option, Pairs, Sent, Some, Trace, [], aborted_end, ap, append-nil, append_assoc, arith, command, eq-eqb, eqb-true, every_from, false, good, inl, inr, is_apart, is_named, keeps_back, list_any, map, nat_eq, pairs_append, refl, subst, sym, true, true≢false, ℕ, ⊎_elim, ◌%◌, ◌&&◌, ◌++◌, ◌||◌, ◌∙◌, ◌∷◌, ◌≡◌, ◌⊎◌}
use Rattle.mscp_wire.specs.Wire as wire
use Rattle.mscp_shown.proofs.Strict.{after_end, hears}
use Rattle.mscp_shown.proofs.Pairing.{pairs_first, pairs_out, pairs_weaker}

-- an earlier command that keeps the command of this end back ended before it: its end is among these
abbrev pub IsClearOf : Connection → List End → End → Sent → Sent → Type 0
IsClearOf via before e earlier s = is_named via e.reference s ≡ true → keeps_back s earlier ≡ true
    → list_any (λ (k : End). nat_eq k.reference earlier.reference) before ≡ true

abbrev pub Clear : Connection → List Sent → List End → End → Type 0
Clear via xs before e = Pairs (IsClearOf via before e) xs

-- so is each of these ends, which stand behind those, unless its status may come at once
abbrev pub Ordered : Connection → List Sent → List End → List End → Type 0
Ordered via xs before [] = Unit {0}
Ordered via xs before (e ∷ rest) =
    ((is_apart (e.status % 32) ≡ true) ⊎ Clear via xs before e) × Ordered via xs (before ++ e ∷ []) rest

-- ---- commands that hear
told_same : (Q : Sent → Type 0) → ((s : Sent) (f : Option ℕ) → Q s → Q (record s { told = f })) → (a : Answer)
    (o : Option ℕ) (s : Sent) → Q s → Q (hears a o s)
told_same Q g a o s h = grind arith

-- what doesn't see figures stays once an end came
pub pairs_after : (R : Sent → Sent → Type 0) → ((s z : Sent) (f : Option ℕ) → R s z → R (record s { told = f }) z)
    → ((s z : Sent) (f : Option ℕ) → R s z → R s (record z { told = f })) → (xs : List Sent) (a : Answer) (i : ℕ)
    → Pairs R xs → Pairs R (after_end xs a (Some i))
pairs_after R g k xs a i h = grind (arith, pairs_out, told_same)

-- ---- from one list to the next
pub ordered_append : (via : Connection) (xs : List Sent) (before us vs : List End) → Ordered via xs before us
    → Ordered via xs (before ++ us) vs → Ordered via xs before (us ++ vs)
ordered_append via xs before [] vs h k = subst (λ b. Ordered via xs b vs) (append-nil before) k
ordered_append via xs before (e ∷ us) vs h k =
    (h.0, ordered_append via xs (before ++ e ∷ []) us vs h.1 (rw append_assoc k))

pub ordered_push : (via : Connection) (xs : List Sent) (z : Sent) (before us : List End)
    → AllByRecursion (λ (e : End). is_named via e.reference z ≡ false) us → Ordered via xs before us
    → Ordered via (xs ++ z ∷ []) before us
ordered_push via xs z before [] n h = tt
ordered_push via xs z before (e ∷ us) n h = (
  ⊎_elim (λ a. inl a)
      (λ clear. inr (pairs_append (IsClearOf via before e) xs z clear
      (every_from (λ s. IsClearOf via before e s z) (λ s q. absurd (true≢false (sym q ∙ n.0))) xs)))
      h.0,
  ordered_push via xs z (before ++ e ∷ []) us n.1 h.1,
)

pub ordered_after : (via : Connection) (xs : List Sent) (a : Answer) (i : ℕ) (before us : List End)
    → Ordered via xs before us → Ordered via (after_end xs a (Some i)) before us
ordered_after via xs a i before [] h = tt
ordered_after via xs a i before (e ∷ us) h = (
  ⊎_elim (λ q. inl q)
      (λ clear. inr (pairs_after (IsClearOf via before e) (λ s z f r. r) (λ s z f r. r) xs a i clear)) h.0,
  ordered_after via xs a i (before ++ e ∷ []) us h.1,
)

-- one of the two keeps its place, and the other may wait for it
abbrev pub fences : Sent → Sent → Bool
fences y s =
    (wire.is_sequential s.opcode && (wire.is_sequential y.opcode || wire.is_ordered y.opcode))
    || (wire.is_ordered s.opcode && wire.is_sequential y.opcode)

-- the connection of a command that keeps another back
pub kept_side : (own : Connection) (n : ℕ) (s earlier : Sent) → is_named own n s ≡ true → keeps_back s earlier ≡ true
    → earlier.connection ≡ own
kept_side own n s earlier q k = grind arith

-- an end whose command is no longer outstanding matters no more
pub ordered_gone : (own : Connection) (xs : List Sent) (old : End) (before us : List End)
    → AllByRecursion (λ s. is_named own old.reference s ≡ false) xs → Ordered own xs (old ∷ before) us
    → Ordered own xs before us
ordered_gone own xs old before [] n h = tt
ordered_gone own xs old before (e ∷ us) n h = (
  ⊎_elim (λ q. inl q) (λ clear. inr (pairs_weaker
      (λ earlier s. (is_named own old.reference earlier ≡ false) × IsClearOf own (old ∷ before) e earlier s)
      (IsClearOf own before e) gone xs
      (pairs_first (λ s. is_named own old.reference s ≡ false) (IsClearOf own (old ∷ before) e) xs n clear))) h.0,
  ordered_gone own xs old (before ++ e ∷ []) us n h.1,
)
  where
    own_side' : (a : Connection) → wire.same_connection a a ≡ true
    own_side' a = grind arith

    gone : (earlier s : Sent)
        → (is_named own old.reference earlier ≡ false) × IsClearOf own (old ∷ before) e earlier s
        → IsClearOf own before e earlier s
    gone earlier s p q k =
        let side = kept_side own e.reference s earlier q k in
        let rest = list_any (λ (o : End). nat_eq o.reference earlier.reference) before in
        let P : Bool → Type 0 = λ b. nat_eq old.reference earlier.reference ≡ b → rest ≡ true in
        elim (nat_eq old.reference earlier.reference) as P [
          | true ↦ λ e'.
              let same = eqb-true old.reference earlier.reference e' in
              let named : is_named own old.reference earlier ≡ true =
              ap (λ v. wire.same_connection v own && nat_eq earlier.reference old.reference) side
              ∙ (ap (λ b. b && nat_eq earlier.reference old.reference) (own_side' own)
              ∙ eq-eqb earlier.reference old.reference (sym same)) in
              absurd (true≢false (sym named ∙ p.0))
          | false ↦ λ e'. sym (ap (λ b. b || rest) e') ∙ p.1 q k
        ] refl

-- ---- an answer
pub ordered_answer : (own : Connection) (t : Trace) (xs : List Sent) (e : End) (ys : List ℕ) (before : List End)
    → ((b : List End) → (is_apart (e.status % 32) ≡ true) ⊎ Clear own xs b e)
    → Ordered own xs before (map (λ x. aborted_end (command t x) (good t x)) ys ++ e ∷ [])
ordered_answer own t xs e [] before h = (h before, tt)
ordered_answer own t xs e (x ∷ ys) before h =
    (inl refl, ordered_answer own t xs e ys (before ++ aborted_end (command t x) (good t x) ∷ []) h)
