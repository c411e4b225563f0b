-- Each moment keeps what is known of the order of all that is outstanding.
use Rattle.mscp_shown.proofs.Common.{AllByRecursion, Answer, Apart, Bool, Connection, End, First, IsRight, List, Moment, Name, Pairs, Sent, Settings, Some, Trace, [], and_parts, ap, append-nil, arith, connection, count_by, drop, ends, ends_at, eq-eqb, eqb-true, every_from, every_weaker, false, get_or, is_named, is_waiting, length, name, name_before, name_last, name_on, nat_eq, num, one_side, own_side, pairs_append, place_of, queued_name, queues, reference, refl, same_connection, sent_by, subst, sym, takes, true, true≢false, untaken, untaken_more, waiting, ℕ, ⊎_elim, ◌&&◌, ◌++◌, ◌<◌, ◌∙◌, ◌∷◌, ◌≡◌, ◌≤◌}
use Rattle.mscp_wire.specs.Wire as wire
use Rattle.mscp_shown.proofs.Strict.{after_end}
use Rattle.mscp_shown.proofs.Counts.{none_passes}
use Rattle.mscp_shown.proofs.Ordering.{Ordered, ordered_after, ordered_append, ordered_gone, ordered_push, pairs_after}
use Rattle.mscp_shown.proofs.Owed.{one_if, untaken_took}
use Rattle.mscp_shown.proofs.Owners.{IsNew, none_each, same_sides}
use Rattle.mscp_shown.proofs.Owning.{Owners, new_ends}
use Rattle.mscp_shown.proofs.Pairing.{index_every, none_of, pairs_index}
use Rattle.mscp_shown.proofs.Placing.{at_waiting, below_or_last, free_more, waited}
use Rattle.mscp_shown.proofs.Shown.{tally, tally_end, tally_sent}
use Rattle.mscp_shown.proofs.Waiting.{IsPlaced, Orders}

-- the same by names
abbrev PlacedOf : Name → Name → ℕ → ℕ → Sent → Sent → Type 0
PlacedOf a b x y earlier s = is_named a.connection a.reference earlier ≡ true
    → is_named b.connection b.reference s ≡ true → x < y

module _ (t : Trace) (m : Moment) (xs : List Sent) where
  placed_before : (x y : ℕ) → x < length t → y < length t → Pairs (IsPlaced t x y) xs
      → Pairs (IsPlaced (t ++ m ∷ []) x y) xs
  placed_before x y l k h = subst (λ b. Pairs (PlacedOf (name (t ++ m ∷ []) x) b x y) xs) (sym (name_before t m y k))
      (rw (name_before t m x l) h)

  -- a moment that queues nobody
  pub placed_more : queues m.1 ≡ false
      → ((x y : ℕ) → is_waiting t x ≡ true → is_waiting t y ≡ true → Pairs (IsPlaced t x y) xs)
      → (x y : ℕ) → is_waiting (t ++ m ∷ []) x ≡ true → is_waiting (t ++ m ∷ []) y ≡ true
      → Pairs (IsPlaced (t ++ m ∷ []) x y) xs
  placed_more n h x y wx wy = grind (arith, placed_before, waited, below_or_last)

-- a moment that shows nothing
module _ (c : Settings) (t : Trace) (m : Moment) (xs : List Sent) (apart : Apart t (waiting t))
    (room : (via : Connection) → count_by (λ (n : Moment). takes via n.1) t ≤ length (ends c via t)) where
  pub orders_still : IsRight c t m.0 m.1 → queues m.1 ≡ false → ((via : Connection) → takes via m.1 ≡ false)
      → ((via : Connection) → Ordered via xs (untaken c via t) (ends_at c via t m)) → Orders c t xs
      → Orders c (t ++ m ∷ []) xs
  orders_still r n q new h = record {
    single = h.single;
    placed = placed_more t m xs n h.placed;
    free = free_more c t m apart r h.free;
    ordered = λ via. subst (Ordered via xs []) (sym (untaken_more c via t m (q via) (room via)))
        (ordered_append via xs [] (untaken c via t) (ends_at c via t m) (h.ordered via) (new via));
  }

-- ---- a message
module _ (c : Settings) (own : Connection) (t : Trace) (xs : List Sent) (b : List ℕ)
    (new : IsNew c own t xs (sent_by own b)) (owners : Owners c t xs) (h : Orders c t xs) where
  abbrev z : Sent
  z = sent_by own b

  none_yet : tally own (λ k. nat_eq k z.reference) xs ≡ 0
  none_yet = none_passes (is_named own z.reference) xs (none_of (is_named own z.reference) xs new.outstanding)

  one_name : (via : Connection) (n : ℕ) → tally via (λ k. nat_eq k n) (xs ++ z ∷ []) ≤ 1
  one_name via n =
      let more = tally_sent via own (λ k. nat_eq k n) xs b in
      let here = wire.same_connection own via && nat_eq (num b 0 4) n in
      let P : Bool → Type 0 = λ q. here ≡ q → tally via (λ k. nat_eq k n) (xs ++ z ∷ []) ≤ 1 in
      elim here as P [
        | true ↦ λ e.
            let p = and_parts (wire.same_connection own via) (nat_eq (num b 0 4) n) e in
            let side : own ≡ via = one_side own via (sym (same_sides own via) ∙ p.0) in
            let none : tally via (λ k. nat_eq k n) xs ≡ 0 =
            subst (λ v. tally v (λ k. nat_eq k n) xs ≡ 0) side
            (subst (λ r. tally own (λ k. nat_eq k r) xs ≡ 0) (eqb-true (num b 0 4) n p.1) none_yet) in
            omega (arith, more, none, ap one_if e)
        | false ↦ λ e. omega (arith, more, h.single via n, ap one_if e)
      ] refl

  -- no command that is outstanding has the new name
  none_named : (i : ℕ) → i < length xs → is_named own z.reference (get_or xs i (sent_by First [])) ≡ true → ⊥
  none_named i l e = grind (arith, index_every)

  old_pairs : (x y : ℕ) → is_waiting t x ≡ true → is_waiting t y ≡ true → Pairs (IsPlaced t x y) (xs ++ z ∷ [])
  old_pairs x y wx wy =
      let no = at_waiting (λ x. is_named (connection t x) (reference t x) z ≡ false) t new.waits y wy in
      pairs_append (IsPlaced t x y) xs z (h.placed x y wx wy)
      (every_from (λ s. IsPlaced t x y s z) (λ s p q. absurd (true≢false (sym q ∙ no))) xs)

  -- a message that isn't queued
  pub orders_sent : (m : Moment) → Apart t (waiting t) → IsRight c t m.0 m.1
      → ((via : Connection) → count_by (λ (n : Moment). takes via n.1) t ≤ length (ends c via t))
      → ((via : Connection) → takes via m.1 ≡ false)
      → ((via : Connection) → Ordered via (xs ++ z ∷ []) (untaken c via t) (ends_at c via t m))
      → ((x y : ℕ) → is_waiting (t ++ m ∷ []) x ≡ true → is_waiting (t ++ m ∷ []) y ≡ true
      → Pairs (IsPlaced (t ++ m ∷ []) x y) (xs ++ z ∷ []))
      → Orders c (t ++ m ∷ []) (xs ++ z ∷ [])
  orders_sent m apart r room q made placed = record {
    single = one_name;
    placed = placed;
    free = free_more c t m apart r h.free;
    ordered = λ via. subst (Ordered via (xs ++ z ∷ []) []) (sym (untaken_more c via t m (q via) (room via)))
        (ordered_append via (xs ++ z ∷ []) [] (untaken c via t) (ends_at c via t m)
        (ordered_push via xs z [] (untaken c via t) (new_ends c own t xs b new owners via) (h.ordered via)) (made via));
  }

  pub answered_placed : (m : Moment) → queues m.1 ≡ false
      → (x y : ℕ) → is_waiting (t ++ m ∷ []) x ≡ true → is_waiting (t ++ m ∷ []) y ≡ true
      → Pairs (IsPlaced (t ++ m ∷ []) x y) (xs ++ z ∷ [])
  answered_placed m n = placed_more t m (xs ++ z ∷ []) n old_pairs

  -- one that is
  module _ (m : Moment) (is : queued_name m ≡ name_on own z.reference) where
    abbrev later : Trace
    later = t ++ m ∷ []

    last_is : name later (length t) ≡ name_on own z.reference
    last_is = name_last t m ∙ is

    to_last : (x : ℕ) → x < length t → Pairs (IsPlaced later x (length t)) (xs ++ z ∷ [])
    to_last x l =
        let R = PlacedOf (name later x) (name_on own z.reference) x (length t) in
        subst (λ b. Pairs (PlacedOf (name later x) b x (length t)) (xs ++ z ∷ [])) (sym last_is)
        (pairs_append R xs z
        (pairs_index R xs (sent_by First []) (λ i j low high p q. absurd (none_named j high q)))
        (every_from (λ s. R s z) (λ s p q. l) xs))

    from_last : (y : ℕ) → Pairs (IsPlaced later (length t) y) (xs ++ z ∷ [])
    from_last y =
        let R = PlacedOf (name_on own z.reference) (name later y) (length t) y in
        subst (λ a. Pairs (PlacedOf a (name later y) (length t) y) (xs ++ z ∷ [])) (sym last_is)
        (pairs_append R xs z
        (pairs_index R xs (sent_by First [])
        (λ i j low high p q. absurd (none_named i (omega (arith, low, high)) p)))
        (every_weaker (λ s. is_named own z.reference s ≡ false) (λ s. R s z)
        (λ s n p q. absurd (true≢false (sym p ∙ n))) xs new.outstanding))

    pub queued_placed : (x y : ℕ) → is_waiting later x ≡ true → is_waiting later y ≡ true
        → Pairs (IsPlaced later x y) (xs ++ z ∷ [])
    queued_placed x y wx wy = ⊎_elim (λ lx. ⊎_elim (λ ly. placed_before t m (xs ++ z ∷ []) x y lx ly
        (old_pairs x y (waited t m x lx wx) (waited t m y ly wy))) (λ last. rw last.0 (to_last x lx))
        (below_or_last t m y wy)) (λ last. rw last.0 (from_last y)) (below_or_last t m x wx)

-- ---- a take
module _ (c : Settings) (own : Connection) (t : Trace) (m : Moment) (xs : List Sent) (a : Answer) (i : ℕ)
    (h : Orders c t xs) (at : place_of xs a ≡ Some i) where
  abbrev left : List Sent
  left = after_end xs a (Some i)

  fewer_names : (via : Connection) (n : ℕ) → tally via (λ k. nat_eq k n) left ≤ 1
  fewer_names via n = omega (arith, tally_end via (λ k. nat_eq k n) xs a i at, h.single via n)

  -- none is left of the name of the command that ended
  pub none_left : (e : End) → a.connection ≡ own → a.reference ≡ e.reference
      → AllByRecursion (λ s. is_named own e.reference s ≡ false) left
  none_left e side number =
      let there : one_if (wire.same_connection a.connection own && nat_eq a.reference e.reference) ≡ 1 =
      ap (λ v. one_if (wire.same_connection v own && nat_eq a.reference e.reference)) side
      ∙ (ap (λ b. one_if (b && nat_eq a.reference e.reference)) (same_sides own own ∙ own_side own)
      ∙ ap one_if (eq-eqb a.reference e.reference number)) in
      none_each (is_named own e.reference) left
      (omega (arith, tally_end own (λ k. nat_eq k e.reference) xs a i at, h.single own e.reference, there))

  pub orders_took : Apart t (waiting t) → IsRight c t m.0 m.1 → queues m.1 ≡ false
      → ((via : Connection) → ends_at c via t m ≡ [])
      → ((via : Connection) → takes via m.1 ≡ same_connection own via)
      → ((via : Connection) → count_by (λ (n : Moment). takes via n.1) t ≤ length (ends c via t))
      → (e : End) (rest : List End) → untaken c own t ≡ e ∷ rest → a.connection ≡ own → a.reference ≡ e.reference
      → Orders c (t ++ m ∷ []) left
  orders_took apart r n none takes_own room e rest us side number = record {
    single = fewer_names;
    placed = placed_more t m left n
        (λ x y wx wy. pairs_after (IsPlaced t x y) (λ s z f q. q) (λ s z f q. q) xs a i (h.placed x y wx wy));
    free = free_more c t m apart r h.free;
    ordered = λ via. each via (same_connection own via) refl;
  }
    where
      each : (via : Connection) (here : Bool) → same_connection own via ≡ here
          → Ordered via (after_end xs a (Some i)) [] (untaken c via (t ++ m ∷ []))
      each via true q =
          let same = one_side own via q in
          let took : untaken c own (t ++ m ∷ []) ≡ rest =
          untaken_took c own t m (takes_own own ∙ own_side own) (none own) ∙ ap (drop 1) us in
          let here = subst (Ordered own xs []) us (h.ordered own) in
          subst (λ v. Ordered v (after_end xs a (Some i)) [] (untaken c v (t ++ m ∷ []))) same
          (subst (Ordered own (after_end xs a (Some i)) []) (sym took)
          (ordered_gone own (after_end xs a (Some i)) e [] rest (none_left e side number)
          (ordered_after own xs a i (e ∷ []) rest here.1)))
      each via false q =
          subst (Ordered via (after_end xs a (Some i)) [])
          (sym (untaken_more c via t m (takes_own via ∙ q) (room via) ∙ ap (λ es. untaken c via t ++ es) (none via)
          ∙ append-nil (untaken c via t)))
          (ordered_after via xs a i [] (untaken c via t) (h.ordered via))
