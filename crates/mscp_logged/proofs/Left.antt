-- An end that leaves answers a command that is outstanding, and takes it away.
use Rattle.mscp_logged.proofs.Common.{Answer, First, Found, List, Said, Sent, Some, [], aborts, after_end, and_false, and_parts, answer_by, ap, arith, command_at, cond, drop, eqb-true, false, filter, filter-append, find_cases, hears, inl, inr, keeps_back, length, list_any, map, nat_eq, not, num, place_of, position, position_first, refl, sent_by, slice_index_or, subst, sym, take, true, ℕ, ◌++◌, ◌+◌, ◌∙◌, ◌∷◌, ◌≡◌}
use Rattle.mscp_port.specs.declared.port.OutgoingKind.TheVariants as kinds
use Rattle.mscp_logged.proofs.Lined.{all_left, behind, behind_aborts}
use Rattle.mscp_logged.proofs.Passes.{passes, passes_found}
use Rattle.mscp_logged.proofs.Wired.{At, IsOwed, Wired, back_of, filter_map, front_of, named, none_front, same_or, stem}

pub at_front : {X : Type 0} (front : List X) (x : X) (back : List X) (d : X)
    → slice_index_or (front ++ x ∷ back) (length front) d ≡ x
at_front [] x back d = refl
at_front (y ∷ ys) x back d = at_front ys x back d

module _ (Tie : List ℕ → List ℕ → Type 0) (xs : List Sent) (aw : List (List ℕ)) (s : Said)
    (w : Wired Tie xs aw (s ∷ [])) (kind : s.kind ≡ kinds.End) where
  abbrev pub answer : Answer
  answer = answer_by First s.text

  abbrev n : ℕ
  n = num s.text 0 4

  abbrev owed : IsOwed Tie xs aw s.text
  owed = w.owed.0 kind

  -- the place of its command, and that command
  pub record IsAnswered : Type 0 where
    pub place : ℕ
    pub at : place_of xs answer ≡ Some place
    pub command : stem (command_at xs place) ≡ sent_by First owed.message
    pub left : Wired Tie (after_end xs answer (Some place)) aw []
    pub others : List Sent
    pub without : filter (λ x. not (named n x)) xs ≡ others
    pub after : after_end xs answer (Some place) ≡ map (hears (command_at xs place) answer) others
    pub aborted : (m : ℕ) → behind n m xs ≡ true → list_any (aborts (command_at xs place)) (drop (place + 1) xs) ≡ true
    pub turned : passes (named n) keeps_back xs ≡ false
        → list_any (keeps_back (command_at xs place)) (take place xs) ≡ false

  module _ (front : List Sent) (x : Sent) (back : List Sent) (f : Found (named n) xs front x back) where
    abbrev hear : Sent → Sent
    hear = hears (command_at xs (length front)) answer

    at : place_of xs answer ≡ Some (length front)
    at = ap (position (named n)) f.is ∙ position_first (named n) front x back f.before f.passed

    after : after_end xs answer (Some (length front)) ≡ map hear (front ++ back)
    after = grind (arith, front_of, back_of)

    all_of : (k : ℕ) → filter (named k) xs
        ≡ filter (named k) front ++ cond (named k x) (x ∷ filter (named k) back) (filter (named k) back)
    all_of k = ap (filter (named k)) f.is ∙ filter-append (named k) front (x ∷ back)

    -- it is the only one of the number
    only : x ∷ filter (named n) back ≡ owed.own ∷ []
    only = grind (arith, all_of, none_front)

    -- the others are those that don't have its number
    without_it : filter (λ y. not (named n y)) xs ≡ front ++ back
    without_it = ap (filter (λ y. not (named n y))) f.is ∙ filter-append (λ y. not (named n y)) front (x ∷ back)
        ∙ ap (λ zs. zs ++ filter (λ y. not (named n y)) (x ∷ back))
        (all_left (named n) front (none_front (named n) front f.before))
        ∙ ap (λ b. front ++ cond (not b) (x ∷ filter (λ y. not (named n y)) back) (filter (λ y. not (named n y)) back))
        f.passed ∙ ap (λ zs. front ++ zs) (all_left (named n) back none_behind)
      where
        tail_of : (y z : Sent) (ys : List Sent) → y ∷ ys ≡ z ∷ [] → ys ≡ []
        tail_of y z ys e = search (arith, e)

        none_behind : filter (named n) back ≡ []
        none_behind = tail_of x owed.own (filter (named n) back) only

    none_left : filter (named n) (after_end xs answer (Some (length front))) ≡ []
    none_left = grind (arith, after, filter_map, filter-append, none_front, only)

    first_is : x ≡ owed.own
    first_is = grind (arith, only)

    other_left : (k : ℕ) → nat_eq n k ≡ false
        → filter (named k) (after_end xs answer (Some (length front))) ≡ map hear (filter (named k) xs)
    other_left k d = grind (arith, after, filter_map, filter-append, all_of, eqb-true, and_parts, and_false)

    each_left : (k : ℕ) → At (after_end xs answer (Some (length front))) aw k
    each_left k = elim (same_or n k) [
      | inl e ↦ subst (λ j. At (after_end xs answer (Some (length front))) aw j) e (inl (none_left, owed.none))
      | inr d ↦ elim (w.each k) [
        | inl free ↦ inl (other_left k d ∙ ap (map hear) free.0, free.1)
        | inr o ↦ inr (record {
          own = hear o.own;
          sole = other_left k d ∙ ap (map hear) o.sole;
          awaited = elim o.awaited [ inl none ↦ inl none | inr some ↦ inr (some.0, some.1, some.2) ];
        })
      ]
    ]

    answered : IsAnswered
    answered = record {
      place = length front;
      at = at;
      command = ap stem (ap (λ zs. command_at zs (length front)) f.is
          ∙ at_front front x back (sent_by First []) ∙ first_is)
          ∙ owed.is;
      left = record { each = each_left; owed = tt };
      others = front ++ back;
      without = without_it;
      after = after;
      aborted = λ m late. ap (λ zs. list_any (aborts (command_at xs (length front))) zs)
          (ap (drop (length front + 1)) f.is ∙ back_of front x back)
          ∙ ap (λ (y : Sent). list_any (aborts y) back) (ap (λ zs. command_at zs (length front)) f.is
          ∙ at_front front x back (sent_by First []))
          ∙ behind_aborts n m front x back f.before f.passed
          (ap (behind n m) (sym f.is) ∙ late);
      turned = λ h. ap (λ zs. list_any (keeps_back (command_at xs (length front))) zs)
          (ap (take (length front)) f.is ∙ front_of front x back)
          ∙ ap (λ (y : Sent). list_any (keeps_back y) front) (ap (λ zs. command_at zs (length front)) f.is
          ∙ at_front front x back (sent_by First []))
          ∙ passes_found (named n) keeps_back front x back f.before f.passed
          (ap (passes (named n) keeps_back) (sym f.is) ∙ h);
    }

  pub end_leaves : IsAnswered
  end_leaves = grind (arith, find_cases, none_front, answered)
