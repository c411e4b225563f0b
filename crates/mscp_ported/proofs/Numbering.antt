-- What there is of each reference number after a step of a command, and after a message.
use Rattle.mscp_ported.proofs.Common.{Block, Bool, Command, Connection, Drive, End, First, List, None, Option, Record, Second, Some, [], aborted_record, advanced, ap, append-nil, arith, bytes_in, cond, drop, drop_more, end_given, eq-eqb, eqb-true, false, false≢true, filter, filter-append, find, has_number, inl, inr, length, map, name_on, nat_eq, no_record, none-some, not, num, option_map, option_to_list, passed_by, record_at, refl, remains, same_Some, subst, sym, take, take-append-drop, true, waiting_after, without, ℕ, ◌++◌, ◌+◌, ◌<◌, ◌∙◌, ◌∷◌, ◌≡◌, ◌≤◌, found_is}
use Rattle.mscp_ported.proofs.Kept.{apart_numbers, is_numbered, number_of}
use Rattle.mscp_ported.proofs.Coming.{brought_for}
use Rattle.mscp_ported.proofs.Counted.{given_few, moved_few}
use Rattle.mscp_ported.proofs.Keeping.{end_number}
use Rattle.mscp_ported.proofs.Numbered.{At, AtEach, IsNothing, Waits, asked_by, at_same, counted_in, ends_numbered, none_beside, none_found, none_of_it, none_stays, some_none}
use Rattle.mscp_ported.proofs.Sole.{found_sole, nothing_two, served_goes_on, served_itself, served_other, sole_comes, sole_left, this_one}

-- ---- a step

module _ (n : ℕ) (k : Block) (d : Drive) (rs : List Record) (place : ℕ) (inside : place < length rs) where
  r0 : Record
  r0 = record_at rs place

  passed_none : (t : ℕ) (xs : List Record) → filter (is_numbered n) xs ≡ []
      → filter (is_numbered n) (map (passed_by t) xs) ≡ []
  passed_none t [] e = refl
  passed_none t (x ∷ xs) e = grind (arith, passed_none t xs)

  split : filter (is_numbered n) rs ≡ filter (is_numbered n) (take place rs)
      ++ filter (is_numbered n) (record_at rs place ∷ drop (place + 1) rs)
  split = ap (filter (is_numbered n)) (sym (take-append-drop place rs)
      ∙ ap (λ zs. take place rs ++ zs) (drop_more rs place no_record inside))
      ∙ filter-append (is_numbered n) (take place rs) (record_at rs place ∷ drop (place + 1) rs)

  -- behind the step there is none, where there is none of what is left
  after_none : (o : Option End) → end_given k d (record_at rs place) ≡ o
      → filter (is_numbered n) (take place rs) ≡ [] → filter (is_numbered n) (remains (record_at rs place) o) ≡ []
      → filter (is_numbered n) (drop (place + 1) rs) ≡ [] → filter (is_numbered n) (waiting_after k d rs place) ≡ []
  after_none o given a b c = grind (arith, is_numbered, filter-append, passed_none)

  remains_none : (o : Option End) → is_numbered n (record_at rs place) ≡ false
      → filter (is_numbered n) (remains (record_at rs place) o) ≡ []
  remains_none None e = ap (λ c. cond c (advanced (record_at rs place) ∷ []) []) e
  remains_none (Some x) e = refl

  -- none waited
  pub still_none : filter (is_numbered n) rs ≡ [] → filter (is_numbered n) (waiting_after k d rs place) ≡ []
  still_none e = by (is_numbered n (record_at rs place)) refl
    where
      h : (filter (is_numbered n) (take place rs) ≡ [])
          × (filter (is_numbered n) (record_at rs place ∷ drop (place + 1) rs) ≡ [])
      h = nothing_two (filter (is_numbered n) (take place rs))
          (filter (is_numbered n) (record_at rs place ∷ drop (place + 1) rs)) (sym split ∙ e)

      by : (c : Bool) → is_numbered n (record_at rs place) ≡ c
          → filter (is_numbered n) (waiting_after k d rs place) ≡ []
      by true is = absurd (some_none (record_at rs place) (filter (is_numbered n) (drop (place + 1) rs))
          (sym (ap (λ c. cond c (record_at rs place ∷ filter (is_numbered n) (drop (place + 1) rs))
          (filter (is_numbered n) (drop (place + 1) rs))) is) ∙ h.1))
      by false is = after_none (end_given k d (record_at rs place)) refl h.0
          (remains_none (end_given k d (record_at rs place)) is)
          (sym (ap (λ c. cond c (record_at rs place ∷ filter (is_numbered n) (drop (place + 1) rs))
          (filter (is_numbered n) (drop (place + 1) rs))) is) ∙ h.1)

  -- the one that waited ended
  pub ended_none : (r : Record) (e : End) → filter (is_numbered n) rs ≡ r ∷ []
      → is_numbered n (record_at rs place) ≡ true
      → end_given k d (record_at rs place) ≡ Some e → filter (is_numbered n) (waiting_after k d rs place) ≡ []
  ended_none r e sole is given = after_none (Some e) given h.0 refl h.2
    where
      h : (filter (is_numbered n) (take place rs) ≡ []) × (record_at rs place ≡ r)
          × (filter (is_numbered n) (drop (place + 1) rs) ≡ [])
      h = this_one (is_numbered n) (take place rs) (drop (place + 1) rs) (record_at rs place) r
          (ap (filter (is_numbered n)) (ap (λ zs. take place rs ++ zs) (sym (drop_more rs place no_record inside))
          ∙ take-append-drop place rs) ∙ sole) is

  -- what is served waited
  pub served_waits : is_numbered n (record_at rs place) ≡ true → filter (is_numbered n) rs ≡ [] → ⊥
  served_waits is none = grind (arith, some_none, is_numbered, nothing_two, split)

-- an end of another number changes nothing
other_end : (n : ℕ) (via : Connection) (o : Option End) (es : List End)
    → ((e : End) → o ≡ Some e → via ≡ First → nat_eq e.reference n ≡ false)
    → filter (ends_numbered n) (es ++ brought_for via o) ≡ filter (ends_numbered n) es
other_end n via o es other = grind (arith, none_beside, ends_numbered, append-nil)

pub not_numbered : (n : ℕ) (r : Record) → is_numbered n r ≡ false → r.connection ≡ First
    → nat_eq r.command.reference n ≡ false
not_numbered n r e first = grind (arith, e, first)

pub step_serves : (k : Block) (d : Drive) (aw : List (List ℕ)) (rs : List Record) (es : List End) (place : ℕ)
    → place < length rs → AtEach aw rs es
    → AtEach aw (waiting_after k d rs place)
    (es ++ brought_for (record_at rs place).connection (end_given k d (record_at rs place)))
step_serves k d aw rs es place inside at n = by (is_numbered n (record_at rs place)) refl (at n)
  where
    r0 : Record
    r0 = record_at rs place

    o : Option End
    o = end_given k d (record_at rs place)

    apart : is_numbered n r0 ≡ false → filter (ends_numbered n) (es ++ brought_for r0.connection o)
        ≡ filter (ends_numbered n) es
    apart not_it = other_end n r0.connection o es
        (λ e given first. ap (λ m. nat_eq m n) (end_number k d r0 e given) ∙ not_numbered n r0 not_it first)

    served : (w : Waits aw rs es n) → is_numbered n r0 ≡ true → (x : Option End) → end_given k d r0 ≡ x
        → At aw (waiting_after k d rs place) (es ++ brought_for r0.connection x) n
    served w is None given = inr (inl (record {
      text = w.text;
      own = advanced r0;
      message = w.message;
      sole = served_goes_on n k d rs place inside w.own w.sole is given;
      no_end = none_of r0.connection ∙ w.no_end;
      fits = subst (λ (r : Record). asked_by r.command.order ≤ bytes_in w.text)
          (sym (served_itself n k d rs place inside w.own w.sole is)) w.fits;
    }))
      where
        none_of : (via : Connection) → filter (ends_numbered n) (es ++ brought_for via None)
            ≡ filter (ends_numbered n) es
        none_of First = ap (filter (ends_numbered n)) (append-nil es)
        none_of Second = ap (filter (ends_numbered n)) (append-nil es)
    served w is (Some e) given =
        let mine = number_of n r0 is in
        inr (inr (record {
          text = w.text;
          end = e;
          message = w.message;
          none = ended_none n k d rs place inside w.own e w.sole is given;
          sole = ap (λ via. filter (ends_numbered n) (es ++ brought_for via (Some e))) mine.0
              ∙ sole_comes (ends_numbered n) es e w.no_end
              (eq-eqb e.reference n (end_number k d r0 e given ∙ mine.1));
          fits = given_few k d r0 e (bytes_in w.text) given
              (subst (λ (r : Record). asked_by r.command.order ≤ bytes_in w.text)
              (sym (served_itself n k d rs place inside w.own w.sole is)) w.fits);
        }))

    by : (c : Bool) → is_numbered n r0 ≡ c → At aw rs es n
        → At aw (waiting_after k d rs place) (es ++ brought_for r0.connection o) n
    by false is (inl none) = inl (none.0, still_none n k d rs place inside none.1, apart is ∙ none.2)
    by false is (inr (inl w)) =
        let s = served_other n k d rs place inside w.own w.sole is in
        inr (inl (record {
          text = w.text;
          own = s.0;
          message = w.message;
          sole = s.1;
          no_end = apart is ∙ w.no_end;
          fits = subst (λ (c : Command). asked_by c.order ≤ bytes_in w.text) (sym s.2.command) w.fits;
        }))
    by false is (inr (inr x)) = inr (inr (record {
      text = x.text;
      end = x.end;
      message = x.message;
      none = still_none n k d rs place inside x.none;
      sole = apart is ∙ x.sole;
      fits = x.fits;
    }))
    by true is (inl none) = absurd (served_waits n k d rs place inside is none.1)
    by true is (inr (inl w)) = served w is o refl
    by true is (inr (inr x)) = absurd (served_waits n k d rs place inside is x.none)

-- ---- an abort

-- the command of a number is aborted, if it waits
pub aborts : (aw : List (List ℕ)) (rs : List Record) (es : List End) (m : ℕ) → AtEach aw rs es
    → AtEach aw (without (name_on First m) rs)
    (es ++ option_to_list (option_map aborted_record (find (is_numbered m) rs)))
aborts aw rs es m at n = by (nat_eq m n) refl (at n) (find (is_numbered m) rs) refl
  where
    left : List Record
    left = filter (λ r. not (is_numbered m r)) rs

    found_number : (r : Record) → find (is_numbered m) rs ≡ Some r → r.command.reference ≡ m
    found_number r e = (number_of m r (found_is (is_numbered m) rs r e)).1

    apart : nat_eq m n ≡ false → (o : Option Record) → find (is_numbered m) rs ≡ o
        → filter (ends_numbered n) (es ++ option_to_list (option_map aborted_record o))
        ≡ filter (ends_numbered n) es
    apart d o e = grind (arith, ends_numbered, append-nil, none_beside, nat_eq, found_number)

    others : nat_eq m n ≡ false → (r : Record) → is_numbered n r ≡ true → not (is_numbered m r) ≡ true
    others d r is = apart_numbers n m r (λ same. false≢true (sym d ∙ eq-eqb m n (sym same))) is

    by : (c : Bool) → nat_eq m n ≡ c → At aw rs es n → (o : Option Record) → find (is_numbered m) rs ≡ o
        → At aw left (es ++ option_to_list (option_map aborted_record o)) n
    by false is x o e = at_same n refl (sole_left (is_numbered n) (λ r. not (is_numbered m r)) rs (others is))
        (apart is o e) x
    by true is (inl none) None e = at_same {aw = aw} {rs = rs} {es = es} n refl
        (none_stays (is_numbered n) (λ r. not (is_numbered m r)) rs none.1 ∙ sym none.1)
        (ap (filter (ends_numbered n)) (append-nil es)) (inl none)
    by true is (inl none) (Some r) e = absurd (none-some r
        (sym (none_found (is_numbered m) rs (subst (λ k. filter (is_numbered k) rs ≡ [])
        (sym (eqb-true m n is)) none.1)) ∙ e))
    by true is (inr (inl w)) None e = absurd (none-some w.own
        (sym e ∙ found_sole (is_numbered m) rs w.own (subst (λ k. filter (is_numbered k) rs ≡ w.own ∷ [])
        (sym (eqb-true m n is)) w.sole)))
    by true is (inr (inl w)) (Some r) e =
        let same : w.own ≡ r = same_Some w.own r (sym (found_sole (is_numbered m) rs w.own
        (subst (λ k. filter (is_numbered k) rs ≡ w.own ∷ []) (sym (eqb-true m n is)) w.sole)) ∙ e) in
        inr (inr (record {
          text = w.text;
          end = aborted_record r;
          message = w.message;
          none = subst (λ k. filter (is_numbered k) left ≡ []) (eqb-true m n is) (none_of_it (is_numbered m) rs);
          sole = sole_comes (ends_numbered n) es (aborted_record r) w.no_end
              (eq-eqb r.command.reference n (found_number r e ∙ eqb-true m n is));
          fits = moved_few r.command.order r.good (bytes_in w.text)
              (subst (λ (x : Record). asked_by x.command.order ≤ bytes_in w.text) same w.fits);
        }))
    by true is (inr (inr x)) None e = at_same {aw = aw} {rs = rs} {es = es} n refl
        (none_stays (is_numbered n) (λ r. not (is_numbered m r)) rs x.none ∙ sym x.none)
        (ap (filter (ends_numbered n)) (append-nil es)) (inr (inr x))
    by true is (inr (inr x)) (Some r) e = absurd (none-some r
        (sym (none_found (is_numbered m) rs (subst (λ k. filter (is_numbered k) rs ≡ [])
        (sym (eqb-true m n is)) x.none)) ∙ e))

-- ---- a message comes, whose number is new

pub comes_waiting : (aw : List (List ℕ)) (rs : List Record) (es : List End) (t : List ℕ) (r : Record)
    → IsNothing aw rs es (num t 0 4) → is_numbered (num t 0 4) r ≡ true
    → ((n : ℕ) → nat_eq (num t 0 4) n ≡ false → is_numbered n r ≡ false)
    → asked_by r.command.order ≤ bytes_in t → AtEach aw rs es → AtEach (aw ++ t ∷ []) (rs ++ r ∷ []) es
comes_waiting aw rs es t r new is others few at n = by (nat_eq (num t 0 4) n) refl (at n)
  where
    by : (c : Bool) → nat_eq (num t 0 4) n ≡ c → At aw rs es n → At (aw ++ t ∷ []) (rs ++ r ∷ []) es n
    by true e x = subst (At (aw ++ t ∷ []) (rs ++ r ∷ []) es) (eqb-true (num t 0 4) n e) (inr (inl (record {
      text = t;
      own = r;
      message = sole_comes (has_number (num t 0 4)) aw t new.0 (eq-eqb (num t 0 4) (num t 0 4) refl);
      sole = sole_comes (is_numbered (num t 0 4)) rs r new.1 is;
      no_end = new.2;
      fits = few;
    })))
    by false e x = at_same n (none_beside (has_number n) aw t e) (none_beside (is_numbered n) rs r (others n e)) refl x

pub comes_ended : (aw : List (List ℕ)) (rs : List Record) (es : List End) (t : List ℕ) (x : End)
    → IsNothing aw rs es (num t 0 4) → x.reference ≡ num t 0 4 → counted_in x.body ≤ bytes_in t
    → AtEach aw rs es → AtEach (aw ++ t ∷ []) rs (es ++ x ∷ [])
comes_ended aw rs es t x new own few at n = by (nat_eq (num t 0 4) n) refl (at n)
  where
    other : nat_eq (num t 0 4) n ≡ false → nat_eq x.reference n ≡ false
    other d = ap (λ m. nat_eq m n) own ∙ d

    by : (c : Bool) → nat_eq (num t 0 4) n ≡ c → At aw rs es n → At (aw ++ t ∷ []) rs (es ++ x ∷ []) n
    by true e y = subst (At (aw ++ t ∷ []) rs (es ++ x ∷ [])) (eqb-true (num t 0 4) n e) (inr (inr (record {
      text = t;
      end = x;
      message = sole_comes (has_number (num t 0 4)) aw t new.0 (eq-eqb (num t 0 4) (num t 0 4) refl);
      none = new.1;
      sole = sole_comes (ends_numbered (num t 0 4)) es x new.2 (eq-eqb x.reference (num t 0 4) own);
      fits = few;
    })))
    by false e y = at_same n (none_beside (has_number n) aw t e) refl (none_beside (ends_numbered n) es x (other e)) y
