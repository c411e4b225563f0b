-- How calls of a port leave what is known of the figures that its host was told, and of the poll in flight.
use Rattle.mscp_heard.proofs.Upcoming.{first_of, Before, IsIn, before_more, first_more, first_behind, in_front, first_in, in_either, in_left, in_right, all_in, tally_texts, tally_in, has_some, some_has}
use Rattle.mscp_heard.proofs.Known.{last_of, PollsLast, IsBelow, KnowsTold, KnowsPoll, Knows}
use Rattle.mscp_heard.proofs.Claiming.{as_many}
use Rattle.mscp_port.specs.declared.port.OutgoingKind.TheVariants as kinds
use Rattle.mscp_heard.proofs.Claims.{claim_of, claims, claims_said, tally, tally_append}
use Rattle.mscp_heard.proofs.Dealt.{Dealt}
use Rattle.mscp_heard.proofs.Common.{AllByRecursion, Asked, Bool, List, None, Option, Pending, PortAccount, Said, Some, Submission, [], ap, append-nil, append_assoc, arith, cond, eq-eqb, eqb-true, false, filter, find, first_of_one, flat_map, flat_map-append, has_number, inl, inr, is_of, last_told, length, map, nat_eq, none-some, none_beside, none_of_it, none_stays, not, num, pending_in, pending_said, refl, same_Some, slice_index, subst, sym, true, ℕ, ◌++◌, ◌+◌, ◌<◌, ◌∙◌, ◌∷◌, ◌≡◌, ◌≢◌, ◌≤◌, ◌⊎◌}

cancel : {X : Type 0} (xs ys zs : List X) → xs ++ ys ≡ xs ++ zs → ys ≡ zs
cancel [] ys zs e = e
cancel (x ∷ xs) ys zs e = cancel xs ys zs (search (arith, e))

module _ (host : PortAccount) (F F' : ℕ → ℕ) (Served Served' : ℕ → Type 0) (Took : List ℕ → Type 0)
    (texts : List (List ℕ)) (us new us' : List Said) (ts ms ts' ms' : List (List ℕ)) (held held' more : List Pending)
    (d : Dealt Took texts us ts ms us' ts' ms') (is_new : us' ≡ us ++ new)
    (behind : flat_map pending_in new ++ held' ≡ held ++ more)
    (of_these : AllByRecursion (λ (e : Pending). ((text : List ℕ) × (texts ≡ text ∷ []) × (num text 0 4 ≡ e.number))
    ⊎ (1 ≤ F e.number)) more)
    (polls_now : (t : List ℕ) → Took t → slice_index t 8 ≡ 2 → 16 ≤ length t
    → (more ≡ record { number = num t 0 4; figure = F (num t 12 4) } ∷ []) × (1 ≤ F (num t 12 4) → Served (num t 12 4))
    × (Served' (num t 12 4) → ⊥))
    (lowers : (n : ℕ) → 1 ≤ F n → F' n ≤ F n)
    (served : (n : ℕ) → Served' n → (1 ≤ F n → F' n < F n) ⊎ Served n)
    (awaits : (n : ℕ) → filter (has_number n) ts ≢ [] → (1 ≤ F n) ⊎ IsIn n held)
    (low_awaits : (n : ℕ) → 1 ≤ F n → filter (has_number n) ts ≢ [])
    (low_awaits' : (n : ℕ) → 1 ≤ F' n → filter (has_number n) ts' ≢ [])
    (alone' : (n : ℕ) → 1 ≤ F' n → IsIn n held' → ⊥)
    (once : (n : ℕ) → tally n (claims us ts ms) ≤ 1) where
  abbrev P : List Pending
  P = flat_map pending_in us ++ held

  abbrev P' : List Pending
  P' = flat_map pending_in us' ++ held'

  grows : P' ≡ P ++ more
  grows = grind (arith, flat_map-append, append_assoc)

  -- a text that was read is no longer unread
  unread_or : (ms' ≡ ms) ⊎ ((m : List ℕ) × (ms ≡ m ∷ ms'))
  unread_or = grind arith

  tail_none : (n : ℕ) (m : List ℕ) (xs : List (List ℕ)) → filter (has_number n) (m ∷ xs) ≡ []
      → (nat_eq (num m 0 4) n ≡ false) × (filter (has_number n) xs ≡ [])
  tail_none n m xs e = grind (arith, nat_eq)

  fewer : (n : ℕ) → filter (has_number n) ms ≡ [] → filter (has_number n) ms' ≡ []
  fewer n e = grind (arith, unread_or, tail_none)

  -- what waits behind the call, and was no unread message, waited before it
  before_low : (n : ℕ) → filter (has_number n) ms ≡ [] → 1 ≤ F' n → 1 ≤ F n
  before_low n unread low = by d
    where
      there : filter (has_number n) ts' ≢ []
      there = low_awaits' n low

      -- it was awaited before, and its end isn't said now
      from : filter (has_number n) ts ≢ [] → (IsIn n (flat_map pending_in new) → ⊥) → 1 ≤ F n
      from some silent = elim (awaits n some) [
        | inl low ↦ low
        | inr there ↦ absurd (elim (in_either n (flat_map pending_in new) held'
            (subst (λ xs. IsIn n xs) (sym behind) (in_left n held more there)))
            [ inl x ↦ silent x | inr x ↦ alone' n low x ])
      ]

      quiet : (s : Said) → s.kind ≡ kinds.Attention → IsIn n (pending_said s.kind s.text ++ []) → ⊥
      quiet s kind is = subst (λ k. IsIn n (pending_said k s.text ++ [])) kind is

      one : (s : Said) → s.kind ≡ kinds.End → IsIn n (pending_said s.kind s.text ++ [])
          → nat_eq (num s.text 0 4) n ≡ true
      one s kind is = grind arith

      said_is : (s : Said) → us' ≡ us ++ s ∷ [] → new ≡ s ∷ []
      said_is s e = cancel us new (s ∷ []) (sym is_new ∙ e)

      by : Dealt Took texts us ts ms us' ts' ms' → 1 ≤ F n
      by (inl q) = from (λ e. there (ap (filter (has_number n)) q.1 ∙ e))
          (λ is. subst (λ xs. IsIn n (flat_map pending_in xs))
          (cancel us new [] (sym is_new ∙ q.0 ∙ sym (append-nil us))) is)
      by (inr (inl q)) = grind (arith, from, there, quiet, said_is)
      by (inr (inr (inl q))) = from
          (λ e. there (ap (filter (has_number n)) q.5
          ∙ none_stays (has_number n) (λ x. not (has_number (num q.0.text 0 4) x)) ts e))
          (λ is. there (ap (filter (has_number n)) q.5
          ∙ subst (λ k. filter (has_number k) (filter (λ x. not (has_number (num q.0.text 0 4) x)) ts) ≡ [])
          (eqb-true (num q.0.text 0 4) n (one q.0 q.8 (subst (λ xs. IsIn n (flat_map pending_in xs))
          (said_is q.0 q.4) is))) (none_of_it (has_number (num q.0.text 0 4)) ts)))
      by (inr (inr (inr (inl q)))) =
          let apart = (tail_none n q.1 ms' (ap (filter (has_number n)) (sym q.5) ∙ unread)).0 in
          from (λ e. there (ap (filter (has_number n)) q.4
          ∙ none_beside (has_number n) ts q.0 (ap (λ k. nat_eq k n) q.2.number ∙ apart) ∙ e))
          (λ is. subst (λ xs. IsIn n (flat_map pending_in xs))
          (cancel us new [] (sym is_new ∙ q.3 ∙ sym (append-nil us))) is)
      by (inr (inr (inr (inr q)))) = grind (arith, tail_none, from, there, nat_eq, one, said_is)

  below_still : (n g : ℕ) → filter (has_number n) ms ≡ [] → IsBelow F Served n g → IsBelow F' Served' n g
  below_still n g unread below low = grind (arith, before_low)

  told_still : (xs : List Submission) → AllByRecursion (KnowsTold F Served ms) xs
      → AllByRecursion (KnowsTold F' Served' ms') xs
  told_still [] all = tt
  told_still (s ∷ xs) all = (
    λ l e. (fewer s.reference (all.0 l e).0, below_still s.reference l (all.0 l e).0 (all.0 l e).1),
    told_still xs all.1,
  )

  -- ---- the poll in flight

  -- a text that is that of the poll is one, and the controller answers it now
  poll_is : (w x : ℕ) → PollsLast x w ms → (text : List ℕ) → texts ≡ text ∷ [] → num text 0 4 ≡ w
      → (filter (has_number x) ms' ≡ []) × ((m : List ℕ) × (ms ≡ m ∷ ms') × (num m 0 4 ≡ w))
      × ((t : List ℕ) × Took t × (slice_index t 8 ≡ 2) × (16 ≤ length t) × (num t 12 4 ≡ x) × (num t 0 4 ≡ w))
  poll_is w x last text one named = grind (arith, first_of_one, eq-eqb)

  last_still : (x w : ℕ) → PollsLast x w ms → PollsLast x w ms'
  last_still x w last = grind (arith, unread_or)

  -- a message that is no longer unread was accepted
  text_read : (m : List ℕ) → ms ≡ m ∷ ms' → (w : ℕ) → num m 0 4 ≡ w
      → (t : List ℕ) × (texts ≡ t ∷ []) × (num t 0 4 ≡ w)
  text_read m e w named = by d
    where
      shorter : (xs : List (List ℕ)) → xs ≡ ms → xs ≡ ms' → ⊥
      shorter xs f g = search (arith, ap length (sym f ∙ g), ap length e)

      first_one : (x : List ℕ) → ms ≡ x ∷ ms' → num x 0 4 ≡ w
      first_one x f = grind arith

      by : Dealt Took texts us ts ms us' ts' ms' → (t : List ℕ) × (texts ≡ t ∷ []) × (num t 0 4 ≡ w)
      by (inl q) = absurd (shorter ms refl (sym q.2))
      by (inr (inl q)) = absurd (shorter ms refl (sym q.4))
      by (inr (inr (inl q))) = absurd (shorter ms refl (sym q.6))
      by (inr (inr (inr (inl q)))) = (q.0, q.6, q.2.number ∙ first_one q.1 q.5)
      by (inr (inr (inr (inr q)))) = (q.1, q.10, q.3.number ∙ first_one q.2 q.9)

  -- where a command is that the host knows
  located : (x : ℕ) → 1 ≤ tally x (claims us ts ms) → filter (has_number x) ms ≡ [] → (1 ≤ F x) ⊎ IsIn x P
  located x placed unread = elim (among (tally x (claims_said us)) (tally x (map claim_of ts))
      (tally x (map claim_of ms)) (subst (λ k. 1 ≤ k) whole placed)
      (tally_texts x ms ∙ ap length unread)) [
        | inl said ↦ inr (in_left x (flat_map pending_in us) held (tally_in x us said))
        | inr waits ↦ elim (awaits x (has_some x ts (subst (λ k. 1 ≤ k) (tally_texts x ts) waits))) [
          | inl low ↦ inl low
          | inr there ↦ inr (in_right x (flat_map pending_in us) held there)
        ]
      ]
    where
      whole : tally x (claims us ts ms)
          ≡ tally x (claims_said us) + (tally x (map claim_of ts) + tally x (map claim_of ms))
      whole = grind (arith, tally_append, claims_said, claim_of, tally)

      among : (a b c : ℕ) → 1 ≤ a + (b + c) → c ≡ 0 → (1 ≤ a) ⊎ (1 ≤ b)
      among a b c h e = search (arith, h, e)

  -- no message of a number is awaited, where one is unread
  not_both : (w : ℕ) → filter (has_number w) ms ≢ [] → filter (has_number w) ts ≢ [] → ⊥
  not_both w unread waits = over (tally w (claims us ts ms)) (tally w (claims_said us)) (tally w (map claim_of ts))
      (tally w (map claim_of ms)) (tally_append w (claims_said us) (map claim_of ts ++ map claim_of ms)
      ∙ ap (λ k. tally w (claims_said us) + k) (tally_append w (map claim_of ts) (map claim_of ms))) (once w)
      (subst (λ k. 1 ≤ k) (sym (tally_texts w ts)) (some_has w ts waits))
      (subst (λ k. 1 ≤ k) (sym (tally_texts w ms)) (some_has w ms unread))
    where
      over : (a b c d : ℕ) → a ≡ b + (c + d) → a ≤ 1 → 1 ≤ c → 1 ≤ d → ⊥
      over a b c d e f g h = omega (arith, e, f, g, h)

  module _ (told : AllByRecursion (KnowsTold F Served ms) host.account.outstanding)
      (placed : (n : ℕ) (y : Asked) → find (is_of n) host.asked ≡ Some y → 1 ≤ tally n (claims us ts ms))
      (x w : ℕ) (k : KnowsPoll F Served host P ms x w) where
    -- its message is read now
    now : (text : List ℕ) → texts ≡ text ∷ [] → num text 0 4 ≡ w → first_of w P ≡ None → (g : ℕ)
        → first_of w more ≡ Some g → (filter (has_number x) ms' ≡ [])
        × (Before x w P' ⊎ ((1 ≤ g) × ((l : ℕ) → last_told host.account.outstanding x ≡ Some l → l ≤ g → ⊥)
        × IsBelow F' Served' x g))
    now text one named none g first =
        grind (arith, poll_is, same_Some, first_of, eq-eqb, nat_eq, located, grows, in_front, last_of)

    -- no other text has its number
    new_entry : first_of w P ≡ None → (g : ℕ) → first_of w more ≡ Some g
        → (text : List ℕ) × (texts ≡ text ∷ []) × (num text 0 4 ≡ w)
    new_entry none g first = elim (all_in (λ n. ((text : List ℕ) × (texts ≡ text ∷ []) × (num text 0 4 ≡ n))
        ⊎ (1 ≤ F n)) w more of_these (first_in w more g first)) [
          | inl t ↦ t
          | inr low ↦ absurd (elim k.place [
            | inl unread ↦ not_both w unread (low_awaits w low)
            | inr there ↦ none-some there.0 (sym none ∙ there.1)
          ])
        ]

    poll_still : KnowsPoll F' Served' host P' ms' x w
    poll_still = record {
      apart = k.apart;
      known = k.known;
      last = last_still x w k.last;
      place = elim k.place [
        | inr there ↦ inr (there.0, ap (first_of w) grows ∙ first_more w P more there.0 there.1)
        | inl unread ↦ elim unread_or [
          | inl same ↦ inl (λ e. unread (ap (filter (has_number w)) (sym same) ∙ e))
          | inr m ↦ read (nat_eq (num m.0 0 4) w) m.0 refl m.1 unread
        ]
      ];
      coming = λ g first. by (first_of w P) refl g (sym (ap (first_of w) grows) ∙ first);
    }
      where
        -- the message that is read is the poll, or another one
        read : (b : Bool) (m : List ℕ) → nat_eq (num m 0 4) w ≡ b → ms ≡ m ∷ ms' → filter (has_number w) ms ≢ []
            → (filter (has_number w) ms' ≢ []) ⊎ ((g : ℕ) × (first_of w P' ≡ Some g))
        read false m is e unread = grind arith
        read true m is e unread = inr (found (first_of w P) refl)
          where
            text : (t : List ℕ) × (texts ≡ t ∷ []) × (num t 0 4 ≡ w)
            text = text_read m e w (eqb-true (num m 0 4) w is)

            found : (o : Option ℕ) → first_of w P ≡ o → (g : ℕ) × (first_of w P' ≡ Some g)
            found (Some g) at = (g, ap (first_of w) grows ∙ first_more w P more g at)
            found None at =
                let p = poll_is w x k.last text.0 text.1 text.2 in
                let t = p.2 in
                let n = polls_now t.0 t.1 t.2 t.3 in (
                  F (num t.0 12 4),
                  ap (first_of w) grows ∙ first_behind w P more at ∙ ap (first_of w) n.0
                      ∙ ap (λ b. cond b (Some (F (num t.0 12 4))) None) (eq-eqb (num t.0 0 4) w t.5),
                )

        by : (o : Option ℕ) → first_of w P ≡ o → (g : ℕ) → first_of w (P ++ more) ≡ Some g
            → (filter (has_number x) ms' ≡ [])
            × (Before x w P' ⊎ ((1 ≤ g) × ((l : ℕ) → last_told host.account.outstanding x ≡ Some l → l ≤ g → ⊥)
            × IsBelow F' Served' x g))
        by None is g first =
            let more_first = sym (first_behind w P more is) ∙ first in
            let t = new_entry is g more_first in
            now t.0 t.1 t.2 is g more_first
        by (Some f) is g first =
            let same : f ≡ g = same_Some f g (sym (first_more w P more f is) ∙ first) in
            let c = k.coming f is in (
              fewer x c.0,
              elim c.1 [
                | inl front ↦ inl (subst (λ es. Before x w es) (sym grows) (before_more x w P more front))
                | inr r ↦ inr (
                  subst (λ y. 1 ≤ y) same r.0,
                  subst (λ y. (l : ℕ) → last_told host.account.outstanding x ≡ Some l → l ≤ y → ⊥) same r.1,
                  subst (λ y. IsBelow F' Served' x y) same (below_still x f c.0 r.2),
                )
              ],
            )

  pub knows_still : Knows F Served host us P ts ms → Knows F' Served' host us' P' ts' ms'
  knows_still k = record {
    placed = λ n y e. subst (λ x. 1 ≤ x) (as_many Took texts us ts ms us' ts' ms' d n) (k.placed n y e);
    told = told_still host.account.outstanding k.told;
    poll = λ w e out. poll_still k.told k.placed w.polled w.reference (k.poll w e out);
    unique = k.unique;
  }
