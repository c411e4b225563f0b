-- Each moment keeps what hosts will hear: figures that are at least 1 and fall.
use Rattle.mscp_shown.proofs.Common.{AllByRecursion, Bool, Connection, Contains, End, IsPatient, List, Moment, Name, None, Option, Polls, Promise, Sent, Settings, Some, Trace, [], and_parts, ap, arith, cases_lt, cond, connection, count_by, ends, ends_at, eq-eqb, eqb-true, every_weaker, false, figure, figure_found, figure_of, find, if◌then◌else◌, inl, inr, is_below, is_it, is_named, is_step, is_waiting, length, length_push, lt-ltb, moment, moment_before, moment_last, name, name_before, name_last, name_on, nat_eq, own_side, queued_name, queues, reference, refl, same_connection, same_is, same_name, sent_by, some_same, subst, sum_by, sum_by-append, sum_by-cons, sym, take, take_all, take_at, takes, true, true≢false, untaken, untaken_more, waiting, waiting_by, waiting_waits, waits_in, ℕ, ⊎_elim, ◌&&◌, ◌++◌, ◌<◌, ◌∙◌, ◌∷◌, ◌≡◌, ◌≤◌, ◌⊎◌}
use Rattle.mscp_wire.specs.Wire as wire
use Rattle.mscp_shown.proofs.Chaining.{Chain, Goes, chain_silent, is_over, last_silent, last_told, silent_of, tells}
use Rattle.mscp_shown.proofs.Counts.{none_any, none_passes}
use Rattle.mscp_shown.proofs.Falling.{falls_since}
use Rattle.mscp_shown.proofs.Hearing.{Chains, IsLast, IsStanding, Lasts, MayTell, Stands, chains_append, chains_push, last_more, lasts_append, lasts_at, lasts_last, lasts_push, stands_append, stands_silent, stands_weaker}
use Rattle.mscp_shown.proofs.Messages.{IsTallied}
use Rattle.mscp_shown.proofs.Owed.{one_if}
use Rattle.mscp_shown.proofs.Owners.{IsNew, each_passing, none_each}
use Rattle.mscp_shown.proofs.Owning.{Owners, new_ends}
use Rattle.mscp_shown.proofs.Placing.{at_waiting, below_or_last, waited}
use Rattle.mscp_shown.proofs.Polling.{figure_told, poll_of}
use Rattle.mscp_shown.proofs.Shown.{tally, tally_sent}
use Rattle.mscp_shown.proofs.Waiting.{Waits, waits_under}

pub record Heard (c : Settings) (t : Trace) (xs : List Sent) : Type 0 where
  pub chains : (via : Connection) → Chains via xs (untaken c via t)
  pub lasts : (x : ℕ) → is_waiting t x ≡ true
      → Lasts (name t x) (IsLast c t (name t x) x) (untaken c (connection t x) t) xs
  pub stands : (via : Connection) → Stands via xs [] (untaken c via t)

-- what of a command that waits has one more moment
abbrev LastsOf : Settings → Trace → List Sent → ℕ → Name → Type 0
LastsOf c t xs x a = Lasts a (IsLast c t a x) (untaken c a.connection t) xs

-- ---- a moment whose ends are those of no polls
module _ (c : Settings) (t : Trace) (m : Moment) (xs : List Sent)
    (room : (via : Connection) → count_by (λ (n : Moment). takes via n.1) t ≤ length (ends c via t))
    (takes_none : (via : Connection) → takes via m.1 ≡ false) where
  low_of : queues m.1 ≡ false → (x : ℕ) → is_waiting (t ++ m ∷ []) x ≡ true → x < length t
  low_of n x w = ⊎_elim (λ l. l) (λ q. absurd (true≢false (sym q.1 ∙ n))) (below_or_last t m x w)

  pub heard_still : queues m.1 ≡ false
      → ((via : Connection) → AllByRecursion (λ (e : End). poll_of e ≡ None) (ends_at c via t m)) → Heard c t xs
      → Heard c (t ++ m ∷ []) xs
  heard_still n silent h = record {
    chains = λ via. subst (Chains via xs) (sym (untaken_more c via t m (takes_none via) (room via)))
        (chains_append via xs (untaken c via t) (ends_at c via t m) (silent via) (h.chains via));
    lasts = λ x w.
        let low = low_of n x w in
        let a = name t x in
        let via = connection t x in
        subst (LastsOf c (t ++ m ∷ []) xs x) (sym (name_before t m x low))
        (subst (λ us. Lasts a (IsLast c (t ++ m ∷ []) a x) us xs)
        (sym (untaken_more c via t m (takes_none via) (room via)))
        (lasts_append a (IsLast c t a x) (IsLast c (t ++ m ∷ []) a x) (λ o q. last_more c t m a x o q) xs
        (untaken c via t) (ends_at c via t m) (silent via) (h.lasts x (waited t m x low w))));
    stands = λ via. subst (Stands via xs []) (sym (untaken_more c via t m (takes_none via) (room via)))
        (stands_append via xs [] (untaken c via t) (ends_at c via t m) (h.stands via)
        (stands_silent via xs (untaken c via t) (ends_at c via t m) (silent via)));
  }

-- ---- a message
module _ (c : Settings) (own : Connection) (t : Trace) (m : Moment) (xs : List Sent) (b : List ℕ)
    (room : (via : Connection) → count_by (λ (n : Moment). takes via n.1) t ≤ length (ends c via t))
    (takes_none : (via : Connection) → takes via m.1 ≡ false) (new : IsNew c own t xs (sent_by own b))
    (owners : Owners c t xs) (h : Heard c t xs) where
  -- all that its ends have to tell
  pub record Tells : Type 0 where
    pub may : (via : Connection) (front back : List Sent) (s : Sent) → xs ≡ front ++ s ∷ back
        → MayTell via xs (sent_by own b) (untaken c via t) (ends_at c via t m) s back
    pub lasts : (x : ℕ) → x < length t → is_waiting t x ≡ true → (later : List Sent) (o : Option ℕ)
        → IsLast c t (name t x) x o
        → IsLast c (t ++ m ∷ []) (name t x) x
        (last_told (connection t x) later (reference t x) o (ends_at c (connection t x) t m))
    pub stands : (via : Connection) → Stands via (xs ++ sent_by own b ∷ []) (untaken c via t) (ends_at c via t m)

  abbrev longer : List Sent
  longer = xs ++ sent_by own b ∷ []

  more_tally : (via : Connection) (n : ℕ) → tally via (λ k. nat_eq k n) xs ≤ tally via (λ k. nat_eq k n) longer
  more_tally via n = omega (arith, tally_sent via own (λ k. nat_eq k n) xs b)

  last_new : (queues m.1 ≡ true → queued_name m ≡ name_on own (sent_by own b).reference) → queues m.1 ≡ true
      → LastsOf c (t ++ m ∷ []) longer (length t) (name (t ++ m ∷ []) (length t))
  last_new q e =
      let a = name_on own (sent_by own b).reference in
      subst (LastsOf c (t ++ m ∷ []) longer (length t)) (sym (name_last t m ∙ q e))
      (lasts_last a (IsLast c (t ++ m ∷ []) a (length t)) xs (sent_by own b) (untaken c own (t ++ m ∷ [])) refl
      new.outstanding tt)

  pub heard_sent : Tells → (queues m.1 ≡ true → queued_name m ≡ name_on own (sent_by own b).reference)
      → Heard c (t ++ m ∷ []) longer
  heard_sent f named = record {
    chains = λ via. subst (Chains via longer) (sym (untaken_more c via t m (takes_none via) (room via)))
        (chains_push via xs [] xs (sent_by own b) (untaken c via t) (ends_at c via t m) refl refl
        (new_ends c own t xs b new owners via) (λ front back s e. f.may via front back s e) (h.chains via));
    lasts = λ x w. ⊎_elim
        (λ low.
        let a = name t x in
        let via = connection t x in
        let there = waited t m x low w in
        subst (LastsOf c (t ++ m ∷ []) longer x) (sym (name_before t m x low))
        (subst (λ us. Lasts a (IsLast c (t ++ m ∷ []) a x) us longer)
        (sym (untaken_more c via t m (takes_none via) (room via)))
        (lasts_push a (IsLast c t a x) (IsLast c (t ++ m ∷ []) a x) xs (sent_by own b) (untaken c via t)
        (ends_at c via t m) (new_ends c own t xs b new owners via)
        (at_waiting (λ x. is_named (connection t x) (reference t x) (sent_by own b) ≡ false) t new.waits x there)
        (λ later o q. f.lasts x low there later o q) (h.lasts x there))))
        (λ last. subst (λ x. LastsOf c (t ++ m ∷ []) longer x (name (t ++ m ∷ []) x)) (sym last.0)
        (last_new named last.1))
        (below_or_last t m x w);
    stands = λ via. subst (Stands via longer []) (sym (untaken_more c via t m (takes_none via) (room via)))
        (stands_append via longer [] (untaken c via t) (ends_at c via t m)
        (stands_weaker via xs longer [] (untaken c via t) (more_tally via) (h.stands via)) (f.stands via));
  }

  -- where they are those of no polls
  pub tells_none : ((via : Connection) → AllByRecursion (λ (e : End). poll_of e ≡ None) (ends_at c via t m)) → Tells
  tells_none silent = record {
    may = λ via front back s e q over.
        chain_silent via s.reference (back ++ sent_by own b ∷ [])
        (last_told via back s.reference s.told (untaken c via t)) (ends_at c via t m)
        (every_weaker (λ (e : End). poll_of e ≡ None) (λ e. tells via
        (back ++ sent_by own b ∷ []) s.reference e ≡ false)
        (λ e k. silent_of via (back ++ sent_by own b ∷ []) s.reference e k) (ends_at c via t m) (silent via));
    lasts = λ x low w later o q.
        let via = connection t x in
        subst (IsLast c (t ++ m ∷ []) (name t x) x)
        (sym (last_silent via (reference t x) later o (ends_at c via t m)
        (every_weaker (λ (e : End). poll_of e ≡ None) (λ e. tells via later (reference t x) e ≡ false)
        (λ e k. silent_of via later (reference t x) e k) (ends_at c via t m) (silent via))))
        (last_more c t m (name t x) x o q);
    stands = λ via. stands_silent via longer (untaken c via t) (ends_at c via t m) (silent via);
  }

  -- ---- a poll
  module _ (patient : IsPatient (t ++ m ∷ [])) (promise : Promise c t)
      (tallied : (via : Connection) → IsTallied c via t xs)
      (single : (via : Connection) (n : ℕ) → tally via (λ k. nat_eq k n) xs ≤ 1) (other : ℕ) (e : End)
      (own_ends : ends_at c own t m ≡ e ∷ [])
      (none_else : (via : Connection) → same_connection own via ≡ false → ends_at c via t m ≡ [])
      (polls : Polls own other m) (about : poll_of e ≡ Some other)
      (figure_is : figure_told e ≡ figure_of c t (name_on own other)) where
    -- the figure is that of the command that waits under the number
    its_figure : (x : ℕ) → is_waiting t x ≡ true → connection t x ≡ own → reference t x ≡ other
        → figure_told e ≡ figure c t x
    its_figure x w side number =
        let same : name_on own other ≡ name t x = λ i. name_on (sym side i) (sym number i) in
        let all : take (length t) t ≡ t = take_all (length t) t (omega arith) in
        let found = promise.own (length t) (omega arith) x
        (subst (λ p. Contains (waiting p) x) (sym all) (waits_in t x w)) in
        figure_is ∙ (ap (figure_of c t) same
        ∙ (sym (ap (λ p. figure_of c p (name p x)) all) ∙ (found ∙ ap (λ p. figure c p x) all)))

    at_least_1 : (x : ℕ) → is_waiting t x ≡ true → 1 ≤ figure c t x
    at_least_1 x w =
        let all : take (length t) t ≡ t = take_all (length t) t (omega arith) in
        let high = (promise.positive (length t) (omega arith) x).0
        (subst (λ p. Contains (waiting p) x) (sym all) (waits_in t x w)) in
        omega (arith, high, ap (λ p. figure c p x) all)

    -- it is lower than the last
    falls : (x : ℕ) → is_waiting t x ≡ true → connection t x ≡ own → reference t x ≡ other → (o : Option ℕ)
        → IsLast c t (name t x) x o → is_below o (figure_told e) ≡ true
    falls x w side number None h' = refl
    falls x w side number (Some f) h' =
        let i = h'.0 in
        let later = t ++ m ∷ [] in
        let before : Polls (connection t x) (reference t x) (moment later i) =
        subst (Polls (connection t x) (reference t x)) (sym (moment_before t m i h'.2)) h'.3 in
        let now : Polls (connection t x) (reference t x) (moment later (length t)) =
        subst (Polls (connection t x) (reference t x)) (sym (moment_last t m))
        (subst (λ v. Polls v (reference t x) m) (sym side) (subst (λ r. Polls own r m) (sym number) polls)) in
        let step = subst (λ p. is_waiting p x ≡ true → Polls (connection p x) (reference p x) (moment later i)
        → Polls (connection p x) (reference p x) (moment later (length t))
        → (k : ℕ) × (i < k) × (k < length t) × (is_step (moment later k).0 ≡ true))
        (take_at t (m ∷ []) (length t) refl)
        (patient x i (length t) h'.1 h'.2 (omega (arith, length_push t m))) w before now in
        let there : is_step (moment t step.0).0 ≡ true =
        sym (ap (λ (n : Moment). is_step n.0) (moment_before t m step.0 step.2)) ∙ step.3 in
        let fall = falls_since c t x w promise i step.0 h'.1 step.1 step.2 there in
        lt-ltb (figure_told e) f (omega (arith, fall, its_figure x w side number, h'.4))

    -- who waits under the number of a command that is outstanding and didn't end
    waits_of : (n : ℕ) → 1 ≤ tally own (λ k. nat_eq k n) xs → is_over n (untaken c own t) ≡ false
        → (x : ℕ) × Waits t own n x
    waits_of n some over =
        let none = none_passes (λ (u : End). nat_eq u.reference n) (untaken c own t) over in
        waits_under c t own n (omega (arith, some, none, tallied own (λ k. nat_eq k n)))

    tells_about : (later : List Sent) (n : ℕ) → tells own later n e ≡ true → n ≡ other
    tells_about later n q =
        let p = and_parts (is_it (poll_of e) n) _ q in
        sym (eqb-true other n (sym (ap (λ o. is_it o n) about) ∙ p.0))

    count_among : (front back : List Sent) (s : Sent) → xs ≡ front ++ s ∷ back
        → wire.same_connection s.connection own ≡ true → 1 ≤ tally own (λ k. nat_eq k s.reference) xs
    count_among front back s e' q =
        let f : Sent → ℕ = λ z. one_if (wire.same_connection z.connection own && nat_eq z.reference s.reference) in
        let one : f s ≡ 1 = ap (λ b. one_if (b && nat_eq s.reference s.reference)) q
        ∙ ap one_if (eq-eqb s.reference s.reference refl) in
        omega (arith, ap (sum_by f) e', sum_by-append f front (s ∷ back), sum_by-cons f s back, one)

    chain_one : (front back : List Sent) (s : Sent) → xs ≡ front ++ s ∷ back
        → wire.same_connection s.connection own ≡ true → is_over s.reference (untaken c own t) ≡ false
        → Chain own (back ++ sent_by own b ∷ []) s.reference
        (last_told own back s.reference s.told (untaken c own t)) (e ∷ [])
    chain_one front back s e' q over =
        by_told _ (nat_eq e.reference s.reference) (tells own (back ++ sent_by own b ∷ []) s.reference e) told
      where
        by_told : (A : Type 0) (o d : Bool) → (d ≡ true → A) → Goes o d A (Unit {0})
        by_told A o d f = grind arith

        told : tells own (back ++ sent_by own b ∷ []) s.reference e ≡ true
            → (0 < figure_told e)
            × (is_below (last_told own back s.reference s.told (untaken c own t)) (figure_told e) ≡ true) × Unit {0}
        told p =
            let same = tells_about (back ++ sent_by own b ∷ []) s.reference p in
            let wait = waits_of s.reference (count_among front back s e' q) over in
            let x = wait.0 in
            let w = wait.1 in
            let number : reference t x ≡ other = w.number ∙ same in
            let named : is_named (connection t x) (reference t x) s ≡ true =
            ap (λ v. is_named v (reference t x) s) w.side
            ∙ (ap (λ r. is_named own r s) w.number
            ∙ (ap (λ b. b && nat_eq s.reference s.reference) q ∙ eq-eqb s.reference s.reference refl)) in
            let last = lasts_at (name t x) (IsLast c t (name t x) x) (untaken c (connection t x) t) front back s
            (subst (Lasts (name t x) (IsLast c t (name t x) x) (untaken c (connection t x) t)) e' (h.lasts x w.waits))
            named in
            let here = subst (λ v. IsLast c t (name t x) x (last_told v back (reference t x) s.told
            (untaken c v t))) w.side
            last in
            let there = subst (λ r. IsLast c t (name t x) x (last_told own back r s.told
            (untaken c own t))) w.number here in (
              omega (arith, its_figure x w.waits w.side number, at_least_1 x w.waits),
              falls x w.waits w.side number (last_told own back s.reference s.told (untaken c own t)) there,
              tt,
            )

    lasts_one : (x : ℕ) → x < length t → is_waiting t x ≡ true → connection t x ≡ own → (later : List Sent)
        (o : Option ℕ) → IsLast c t (name t x) x o
        → IsLast c (t ++ m ∷ []) (name t x) x (last_told own later (reference t x) o (e ∷ []))
    lasts_one x low w side later o h' =
        let P : Bool → Type 0 = λ d. tells own later (reference t x) e ≡ d
        → IsLast c (t ++ m ∷ []) (name t x) x (if d then Some (figure_told e) else o) in
        elim (tells own later (reference t x) e) as P [
          | true ↦ λ q.
              let number = tells_about later (reference t x) q in
              let polled : Polls (connection t x) (reference t x) (moment (t ++ m ∷ []) (length t)) =
              subst (Polls (connection t x) (reference t x)) (sym (moment_last t m))
              (subst (λ v. Polls v (reference t x) m) (sym side) (subst (λ r. Polls own r m) (sym number) polls)) in (
                length t,
                low,
                omega (arith, length_push t m),
                polled,
                its_figure x w side number
                    ∙ ap (λ p. figure c p x) (sym (take_at t (m ∷ []) (length t) refl)),
              )
          | false ↦ λ q. last_more c t m (name t x) x o h'
        ] refl

    -- a waiting command of a number is counted
    counted : (n x : ℕ) → is_waiting t x ≡ true → connection t x ≡ own → reference t x ≡ n
        → 1 ≤ count_by (λ x. nat_eq (reference t x) n) (waiting_by own t)
    counted n x w side number = ⊎_elim
        (λ low.
        let none = none_each (λ x. nat_eq (reference t x) n) (waiting_by own t) (omega (arith, low)) in
        let all = each_passing (λ x. same_connection (connection t x) own) (λ x. nat_eq (reference t x) n ≡ false)
        (waiting t) none in
        let here : same_connection (connection t x) own ≡ true = ap (λ v. same_connection v own) side ∙ own_side own in
        absurd (true≢false (sym (eq-eqb (reference t x) n number)
        ∙ at_waiting (λ x. same_connection (connection t x) own ≡ true → nat_eq (reference t x) n ≡ false) t all x w
        here)))
        (λ high. high)
        (cases_lt (count_by (λ x. nat_eq (reference t x) n) (waiting_by own t)) 1)

    -- a figure that isn't 0 is that of a command that waits
    stands_found : (n : ℕ) (o : Option ℕ) → find (λ x. same_name (name t x) (name_on own n)) (waiting t) ≡ o
        → figure_told e ≡ figure_found c t o
        → (figure_told e ≡ 0)
        ⊎ ((is_over n (untaken c own t) ≡ false) × (1 ≤ tally own (λ k. nat_eq k n) longer))
    stands_found n None q f = inl f
    stands_found n (Some x) q f =
        let found = found_every (λ x. same_name (name t x) (name_on own n)) (λ x. is_waiting t x ≡ true) (waiting t) x q
        (waiting_waits t) in
        let same = same_is (name t x) (name_on own n) found.0 in
        let count = counted n x found.1 (ap (λ (a : Name). a.connection) same) (ap (λ (a : Name). a.reference) same) in
        let all = tallied own (λ k. nat_eq k n) in
        let one = single own n in
        inr (
          none_any (λ (u : End). nat_eq u.reference n) (untaken c own t) (omega (arith, count, all, one)),
          omega (arith, count, all, more_tally own n),
        )
      where
        found_every : (p : ℕ → Bool) (Q : ℕ → Type 0) (ys : List ℕ) (y : ℕ) → find p ys ≡ Some y
            → AllByRecursion Q ys → (p y ≡ true) × Q y
        found_every p Q [] y h' k = cc
        found_every p Q (z ∷ zs) y h' k =
            let P : Bool → Type 0 = λ b. p z ≡ b → cond b (Some z) (find p zs) ≡ Some y → (p y ≡ true) × Q y in
            elim (p z) as P [
              | true ↦ λ e' r.
                  let s = some_same z y r in
                  (ap p (sym s) ∙ e', subst Q s k.0)
              | false ↦ λ e' r. found_every p Q zs y r k.1
            ] refl h'

    stands_one : IsStanding own longer (untaken c own t) e
    unfolding figure_of
    stands_one n q =
        let same : n ≡ other = some_same n other (sym q ∙ about) in
        stands_found n (find (λ x. same_name (name t x) (name_on own n)) (waiting t)) refl
        (figure_is ∙ ap (λ r. figure_of c t (name_on own r)) (sym same))

    -- by connection
    by_side : (via : Connection) (P : Connection → List End → Type 0) → P via [] → P own (e ∷ [])
        → P via (ends_at c via t m)
    by_side via P none some = grind arith

    pub tells_poll : Tells
    tells_poll = record {
      may = λ via front back s e'. by_side via (λ v es. MayTell v xs (sent_by own b) (untaken c v t) es s back)
          (λ q over. tt) (λ q over. chain_one front back s e' q over);
      lasts = λ x low w later o q.
          by_side (connection t x)
          (λ v es. v ≡ connection t x → IsLast c (t ++ m ∷ []) (name t x) x (last_told v later (reference t x) o es))
          (λ s. last_more c t m (name t x) x o q)
          (λ s. lasts_one x low w (sym s) later o q)
          refl;
      stands = λ via. by_side via (λ v es. Stands v longer (untaken c v t) es) tt (stands_one, tt);
    }
