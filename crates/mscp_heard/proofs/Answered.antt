-- What is known of the figures that a host was told, after it heard what was said next; and no end says Reset or Lost.
use Rattle.mscp_heard.proofs.Upcoming.{first_of}
use Rattle.mscp_heard.proofs.Known.{AreApart, IsBelow, KnowsTold, KnowsPoll, Knows}
use Rattle.mscp_port.specs.declared.port.OutgoingKind.TheVariants as kinds
use Rattle.mscp_host.specs.declared.heard.Heard.TheVariants as heards
use Rattle.mscp_host.specs.declared.news.News.TheVariants as news
use Rattle.mscp_packet.specs.declared.end.EndBody.TheVariants as bodies
use Rattle.mscp_heard.proofs.Claims.{claim_of, claim_said, claims, claims_said, find_left, tally}
use Rattle.mscp_heard.proofs.Keeping.{apart_left, every_told, every_without, gone, last_left}
use Rattle.mscp_heard.proofs.Saying.{IsDone, answer_is}
use Rattle.mscp_heard.proofs.Common.{Account, AllByRecursion, Asked, Bool, End, Heard, List, None, Option, OutgoingKind, Pending, PortAccount, Said, Some, Watch, [], answered, ap, arith, as_read, cond, eq-eqb, eqb-true, false, filter, find, has_number, inl, inr, is_about, is_about_polled, is_of, is_poll_of, last_told, map, nat_eq, nat_lt, news_of_figure, news_said, news_with, none-some, num, outstanding_with, pending_in, pending_said, polled_is_outstanding, refl, same_Some, slice_index, subst, sym, true, watch_after, with_told, without, without_by, ℕ, ◌++◌, ◌∙◌, ◌∷◌, ◌≡◌, ◌≢◌, ◌≤◌}

find_other : (n m : ℕ) (xs : List Asked) (y : Asked) → AreApart xs → find (is_of n) (without_by (is_of m) xs) ≡ Some y
    → nat_eq n m ≡ false
find_other n m xs y apart e = grind (arith, nat_eq, none-some, gone, eqb-true)

module _ (F : ℕ → ℕ) (Served : ℕ → Type 0) (old new : PortAccount) (s : Said) (us : List Said) (P : List Pending)
    (ts ms : List (List ℕ)) (k : Knows F Served old (s ∷ us) (pending_in s ++ P) ts ms) where
  -- nothing changes by what is no end
  pub knows_news : s.kind ≢ kinds.End → new.asked ≡ old.asked → new.account ≡ old.account
      → Knows F Served new us P ts ms
  knows_news other asked account = record {
    placed = λ n y e. subst (λ cs. 1 ≤ tally n (cs ++ (map claim_of ts ++ map claim_of ms)))
        (ap (λ xs. xs ++ claims_said us) (no_claim s.kind refl))
        (k.placed n y (ap (find (is_of n)) (sym asked) ∙ e));
    told = subst (λ (a : Account). AllByRecursion (KnowsTold F Served ms) a.outstanding) (sym account) k.told;
    poll = λ w at out.
        let x = subst (λ es. KnowsPoll F Served old (es ++ P) ms w.polled w.reference) (no_pending s.kind refl)
        (k.poll w (ap (λ (a : Account). a.watch) (sym account) ∙ at) out) in
        record {
          apart = x.apart;
          known = (x.known.0, ap (find (is_of w.polled)) asked ∙ x.known.1);
          last = x.last;
          place = x.place;
          coming = λ g first.
              let c = x.coming g first in (
                c.0,
                elim c.1 [
                  | inl front ↦ inl front
                  | inr r ↦ inr (
                    r.0,
                    (λ l e. r.1 l (ap (λ (a : Account). last_told a.outstanding w.polled) (sym account) ∙ e)),
                    r.2,
                  )
                ],
              );
        };
    unique = subst (λ xs. AreApart xs) (sym asked) k.unique;
  }
    where
      no_claim : (kind : OutgoingKind) → s.kind ≡ kind → claim_said s.kind s.text ≡ []
      no_claim kind is = grind (arith, claim_said)

      no_pending : (kind : OutgoingKind) → s.kind ≡ kind → pending_in s ≡ []
      no_pending kind is = grind arith

  -- an end is heard
  module _ (kind : s.kind ≡ kinds.End) (e : End) (named : e.reference ≡ num s.text 0 4)
      (figured : (other figure : ℕ) → e.code ≡ 0x82 → e.body ≡ bodies.Status other figure
      → figure ≡ cond (nat_eq (slice_index s.text 8) 0x82) (num s.text 16 4) 0)
      (heard : Heard) (d : IsDone old new e heard) where
    abbrev head : Pending
    head = record {
      number = num s.text 0 4;
      figure = cond (nat_eq (slice_index s.text 8) 0x82) (num s.text 16 4) 0;
    }

    n : ℕ
    n = e.reference

    all : Knows F Served old (s ∷ us) (head ∷ P) ts ms
    all = subst (λ es. Knows F Served old (s ∷ us) (es ++ P) ts ms) (ap (λ x. pending_said x s.text) kind) k

    placed_now : (m : ℕ) (y : Asked) → find (is_of m) new.asked ≡ Some y → 1 ≤ tally m (claims us ts ms)
    placed_now m y f =
        grind (arith, find_other, find_left, tally, claims, claims_said, claim_of, claim_said, nat_eq, eq-eqb, eqb-true)

    -- the poll in flight, where this is its end
    poll_heard : (w : Watch) → old.account.watch ≡ Some w → w.reference ≡ e.reference → w.is_outstanding ≡ true
        → (filter (has_number w.polled) ms ≡ []) × (1 ≤ head.figure)
        × ((l : ℕ) → last_told old.account.outstanding w.polled ≡ Some l → l ≤ head.figure → ⊥)
        × IsBelow F Served w.polled head.figure
    poll_heard w at is out =
        let x = all.poll w at out in
        let mine : nat_eq head.number w.reference ≡ true =
        eq-eqb head.number w.reference (sym (is ∙ named)) in
        let c = x.coming head.figure (ap (λ b. cond b (Some head.figure) (first_of w.reference P)) mine) in
        elim c.1 [
          | inl front ↦ absurd (elim front [
            | inl same ↦ never w.reference w.polled x.apart (is ∙ named ∙ eqb-true head.number w.polled same)
            | inr b ↦ search (arith, b.0, mine)
          ])
          | inr r ↦ (c.0, r.0, r.1, r.2)
        ]
      where
        never : (a b : ℕ) → nat_eq a b ≡ false → a ≡ b → ⊥
        never a b apart same = search (arith, apart, eq-eqb a b same)

    -- what is told then
    told_with : (o : Option (ℕ × ℕ)) → answered old.account.watch (as_read e) ≡ o
        → AllByRecursion (KnowsTold F Served ms) (outstanding_with old.account o)
    told_with None at = k.told
    told_with (Some told) at = by (polled_is_outstanding old.account.watch) refl
      where
        by : (b : Bool) → polled_is_outstanding old.account.watch ≡ b → AllByRecursion (KnowsTold F Served ms)
            (cond b (with_told told.0 told.1 old.account.outstanding) old.account.outstanding)
        by false is = k.told
        by true is =
            let a = answer_is old.account.watch e told at in
            let w = a.0 in
            let out : w.is_outstanding ≡ true = sym (ap polled_is_outstanding a.1) ∙ is in
            let h = poll_heard w a.1 a.2 out in
            let about : told.0 ≡ w.polled = sym (eqb-true w.polled told.0 (ap (λ o. is_about o told.0) (sym a.1)
            ∙ ap (is_about_polled old.account.watch) (sym at) ∙ d.about)) in
            let figure : told.1 ≡ head.figure = figured told.0 told.1 a.3 a.4 in
            every_told (KnowsTold F Served ms) told.0 told.1 old.account.outstanding
            (λ x same l f.
            let is_l : told.1 ≡ l = same_Some told.1 l f in (
              ap (λ j. filter (has_number j) ms) (same ∙ about) ∙ h.0,
              subst (λ y. IsBelow F Served x.reference y) (sym figure ∙ is_l)
                  (subst (λ y. IsBelow F Served y head.figure) (sym (same ∙ about)) h.3),
            )) k.told

    told_now : AllByRecursion (KnowsTold F Served ms) new.account.outstanding
    told_now = grind (arith, every_without, told_with)

    -- a poll that is in flight still
    poll_now : (v : Watch) → new.account.watch ≡ Some v → v.is_outstanding ≡ true
        → KnowsPoll F Served new P ms v.polled v.reference
    poll_now v at out = by old.account.watch refl (sym d.watch ∙ at)
      where
        same_told : (w : Watch) → old.account.watch ≡ Some w → nat_eq w.reference e.reference ≡ false
            → outstanding_with old.account (answered old.account.watch (as_read e)) ≡ old.account.outstanding
        same_told w is apart = grind (arith, answer_is, eq-eqb, same_Some)

        kept : (w : Watch) → old.account.watch ≡ Some w → nat_eq w.reference e.reference ≡ false
            → nat_eq w.polled e.reference ≡ false → w.is_outstanding ≡ true
            → KnowsPoll F Served new P ms w.polled w.reference
        kept w is apart other still =
            let x = all.poll w is still in
            let skip : nat_eq head.number w.reference ≡ false =
            swapped head.number w.reference (sym named) apart in
            record {
              apart = x.apart;
              known = (
                x.known.0,
                ap (find (is_of w.polled)) d.asked ∙ find_left w.polled e.reference old.asked other ∙ x.known.1,
              );
              last = x.last;
              place = elim x.place [
                | inl unread ↦ inl unread
                | inr there ↦ inr (
                  there.0,
                  sym (ap (λ b. cond b (Some head.figure) (first_of w.reference P)) skip)
                      ∙ there.1,
                )
              ];
              coming = λ g first.
                  let c = x.coming g (ap (λ b. cond b (Some head.figure) (first_of w.reference P)) skip ∙ first) in (
                    c.0,
                    elim c.1 [
                      | inl front ↦ inl (elim front [
                        | inl same ↦ absurd (search (arith, swapped head.number w.polled (sym named) other, same))
                        | inr b ↦ b.1
                      ])
                      | inr r ↦ inr (
                        r.0,
                        (λ l f. r.1 l (sym (ap (λ xs. last_told xs w.polled) (d.outstanding
                            ∙ ap (without e.reference) (same_told w is apart))
                            ∙ last_left old.account.outstanding e.reference w.polled
                            (swapped e.reference w.polled refl other)) ∙ f)),
                        r.2,
                      )
                    ],
                  );
            }
          where
            swapped : (a b : ℕ) → a ≡ e.reference → nat_eq b e.reference ≡ false → nat_eq a b ≡ false
            swapped a b same apart = cases (nat_eq a b) refl
              where
                cases : (c : Bool) → nat_eq a b ≡ c → c ≡ false
                cases false f = refl
                cases true f = search (arith, apart, eq-eqb b e.reference (sym (eqb-true a b f) ∙ same))

        by : (o : Option Watch) → old.account.watch ≡ o → watch_after o e.reference ≡ Some v
            → KnowsPoll F Served new P ms v.polled v.reference
        by o is h = grind (arith, none-some, nat_eq, same_Some, kept)

    pub knows_end : Knows F Served new us P ts ms
    knows_end = record {
      placed = placed_now;
      told = told_now;
      poll = poll_now;
      unique = subst (λ xs. AreApart xs) (sym d.asked) (apart_left e.reference old.asked k.unique);
    }

    -- and what it says is neither
    pub says_neither : (heard ≢ heards.Reset) × (heard ≢ heards.Lost)
    says_neither = says (answered old.account.watch (as_read e)) refl
      where
        x : Asked
        x = d.own.0

        plain : (h : Heard) → h ≡ heard → (h ≢ heards.Reset) × (h ≢ heards.Lost)
            → (heard ≢ heards.Reset) × (heard ≢ heards.Lost)
        plain h same n = ((λ f. n.0 (same ∙ f)), (λ f. n.1 (same ∙ f)))

        ended_so : (a : Bool) (c : Bool)
            → (cond a (heards.Refused e) (cond c (heards.MovedTooMuch e d.own.0)
            (heards.Ended e d.own.0)) ≢ heards.Reset)
            × (cond a (heards.Refused e) (cond c (heards.MovedTooMuch e d.own.0)
            (heards.Ended e d.own.0)) ≢ heards.Lost)
        ended_so a c = grind arith

        figures : (last : Option ℕ) (figure : ℕ) → 1 ≤ figure → ((l : ℕ) → last ≡ Some l → l ≤ figure → ⊥)
            → (news_said (is_poll_of old.account.watch e.reference) e d.own.0 (news_of_figure last figure)
            ≢ heards.Reset)
            × (news_said (is_poll_of old.account.watch e.reference) e d.own.0 (news_of_figure last figure)
            ≢ heards.Lost)
        figures last figure low above = grind (arith, nat_eq, nat_lt)

        says : (o : Option (ℕ × ℕ)) → answered old.account.watch (as_read e) ≡ o
            → (heard ≢ heards.Reset) × (heard ≢ heards.Lost)
        says None at = grind (arith, plain, ended_so)
        says (Some told) at = plain _ (sym (d.own.1 ∙ ap (λ o. news_said (is_poll_of old.account.watch e.reference) e
            d.own.0 (news_with old.account (as_read e) o)) at)) (by (polled_is_outstanding old.account.watch) refl)
          where
            by : (b : Bool) → polled_is_outstanding old.account.watch ≡ b
                → (news_said (is_poll_of old.account.watch e.reference) e d.own.0
                (cond b (news_of_figure (last_told old.account.outstanding told.0) told.1) news.Late) ≢ heards.Reset)
                × (news_said (is_poll_of old.account.watch e.reference) e d.own.0
                (cond b (news_of_figure (last_told old.account.outstanding told.0) told.1) news.Late) ≢ heards.Lost)
            by false is = ((λ f. search (arith, f)), (λ f. search (arith, f)))
            by true is =
                let a = answer_is old.account.watch e told at in
                let w = a.0 in
                let out : w.is_outstanding ≡ true = sym (ap polled_is_outstanding a.1) ∙ is in
                let h = poll_heard w a.1 a.2 out in
                let about : told.0 ≡ w.polled = sym (eqb-true w.polled told.0 (ap (λ o. is_about o told.0) (sym a.1)
                ∙ ap (is_about_polled old.account.watch) (sym at) ∙ d.about)) in
                let figure : told.1 ≡ head.figure = figured told.0 told.1 a.3 a.4 in
                figures (last_told old.account.outstanding told.0) told.1 (subst (λ y. 1 ≤ y) (sym figure) h.1)
                (subst (λ y. (l : ℕ) → last_told old.account.outstanding told.0 ≡ Some l → l ≤ y → ⊥) (sym figure)
                (subst (λ y. (l : ℕ) → last_told old.account.outstanding y ≡ Some l → l ≤ head.figure → ⊥)
                (sym about) h.2))
