-- What is kept of each command that waits for a host is what its message said, and there is room for it.
use Rattle.mscp_ported.proofs.Common.{Block, Bool, Buffer, Connection, Drive, End, First, IsCodeFor, List, None, Option, Order, Record, Some, [], advanced, ap, arith, buffer_in, cond, end_given, endcode, eq-eqb, eqb-true, false, false≢true, filter, find, has_number, inl, inr, is_formality, is_of, kept_after, length, name_on, nat_eq, nat_lt, none-some, not, num, option_map, record_at, reference_aborted, refl, refused_body, slice_index, subst, suc, sym, true, unaborted, waiting_after, waiting_on, without, without_aborted, without_kept, zero, ℕ, ◌++◌, ◌+◌, ◌<◌, ◌∙◌, ◌∷◌, ◌≡◌, ◌≤◌}
use Rattle.mscp_ported.proofs.Kept.{apart_numbers, is_numbered, number_of}
use Rattle.mscp_packet.specs.declared.command.Order.TheVariants as orders
use Rattle.mscp_ported.proofs.Units.{IsUnitIn}
use Rattle.mscp_ported.proofs.Codes.{about_in}
use Rattle.mscp_ported.proofs.Keeping.{end_number}
use Rattle.mscp_ported.proofs.Numbered.{At, AtEach, none_beside, none_of_it, none_stays, other_number, some_none}
use Rattle.mscp_ported.proofs.Numbering.{ended_none, not_numbered, served_waits, still_none}
use Rattle.mscp_ported.proofs.Origins.{IsLeft, IsOf, left_advanced, left_alike, of_left}
use Rattle.mscp_ported.proofs.Sole.{found_sole, one_of, served_goes_on, served_itself, served_other, sole_comes, sole_left}

-- what is kept of a waiting command whose message this is
pub record FitsBuffer (r : Record) (b : Buffer) (t : List ℕ) : Type 0 where
  pub opcode : b.opcode ≡ slice_index t 8
  pub unit : IsUnitIn r.command.unit t
  pub code : is_formality (slice_index t 8) ≡ false → IsCodeFor (endcode r.command.order) t
  -- and it is about no other command
  pub no_about : (other : ℕ) → about_in (refused_body (endcode r.command.order)) ≡ Some other → ⊥
  pub of : IsOf r t

-- of the command of a number, if one waits
pub record IsKept (aw : List (List ℕ)) (rs : List Record) (bs : List Buffer) (n : ℕ) : Type 0 where
  pub none : filter (is_numbered n) rs ≡ [] → filter (is_of First n) bs ≡ []
  pub own : (r : Record) (t : List ℕ) → filter (is_numbered n) rs ≡ r ∷ [] → filter (has_number n) aw ≡ t ∷ []
      → (b : Buffer) × (filter (is_of First n) bs ≡ b ∷ []) × FitsBuffer r b t

abbrev pub IsKeptEach : List (List ℕ) → List Record → List Buffer → Type 0
IsKeptEach aw rs bs = (n : ℕ) → IsKept aw rs bs n

kept_as : (aw aw' : List (List ℕ)) (rs rs' : List Record) (bs bs' : List Buffer) (n : ℕ)
    → filter (has_number n) aw' ≡ filter (has_number n) aw → filter (is_numbered n) rs' ≡ filter (is_numbered n) rs
    → filter (is_of First n) bs' ≡ filter (is_of First n) bs → IsKept aw rs bs n → IsKept aw' rs' bs' n
kept_as aw aw' rs rs' bs bs' n texts records buffers k = record {
  none = λ e. buffers ∙ k.none (sym records ∙ e);
  own = λ r t e f. let x = k.own r t (sym records ∙ e) (sym texts ∙ f) in (x.0, buffers ∙ x.1, x.2);
}

fits_left : (r s : Record) (b : Buffer) (t : List ℕ) → IsLeft r s → FitsBuffer r b t → FitsBuffer s b t
fits_left r s b t left f = grind (arith, about_in, of_left)

-- where no command of the number waits, none is kept
nothing_kept : (aw : List (List ℕ)) (rs : List Record) (bs : List Buffer) (n : ℕ) → filter (is_numbered n) rs ≡ []
    → filter (is_of First n) bs ≡ [] → IsKept aw rs bs n
nothing_kept aw rs bs n none kept = grind (arith, some_none)

-- ---- a step

other_left : (n : ℕ) (via : Connection) (o : Option End) (bs : List Buffer)
    → ((e : End) → o ≡ Some e → via ≡ First → nat_eq e.reference n ≡ false)
    → filter (is_of First n) (kept_after via o bs) ≡ filter (is_of First n) bs
other_left n via o bs other = grind (arith, sole_left, other_number)

module _ (k : Block) (d : Drive) (aw : List (List ℕ)) (rs : List Record) (es : List End) (bs : List Buffer)
    (place : ℕ) (inside : place < length rs) (at : AtEach aw rs es) (kept : IsKeptEach aw rs bs) where
  abbrev r0 : Record
  r0 = record_at rs place

  abbrev o : Option End
  o = end_given k d r0

  abbrev So : ℕ → Type 0
  So n = IsKept aw (waiting_after k d rs place) (kept_after r0.connection o bs) n

  -- another command was served
  other_served : (n : ℕ) → is_numbered n r0 ≡ false → At aw rs es n → So n
  other_served n not_it x = by x
    where
      left : filter (is_of First n) (kept_after r0.connection o bs) ≡ filter (is_of First n) bs
      left = other_left n r0.connection o bs
          (λ e given first. ap (λ m. nat_eq m n) (end_number k d r0 e given) ∙ not_numbered n r0 not_it first)

      none_so : filter (is_numbered n) rs ≡ [] → So n
      none_so none = nothing_kept aw (waiting_after k d rs place) (kept_after r0.connection o bs) n
          (still_none n k d rs place inside none) (left ∙ (kept n).none none)

      by : At aw rs es n → So n
      by (inl none) = none_so none.1
      by (inr (inr x)) = none_so x.none
      by (inr (inl w)) =
          let s = served_other n k d rs place inside w.own w.sole not_it in
          record {
            none = λ e. absurd (some_none s.0 [] (sym s.1 ∙ e));
            own = λ r t e f.
                let x = (kept n).own w.own t w.sole f in (
                  x.0,
                  left ∙ x.1,
                  fits_left w.own r x.0 t (subst (λ y. IsLeft w.own y)
                      (sym (one_of n (waiting_after k d rs place) r s.0 e s.1)) (left_alike w.own s.0 s.2)) x.2,
                );
          }

  -- the command of the number was
  it_served : (n : ℕ) → is_numbered n r0 ≡ true → At aw rs es n → So n
  it_served n is (inl none) = absurd (served_waits n k d rs place inside is none.1)
  it_served n is (inr (inr x)) = absurd (served_waits n k d rs place inside is x.none)
  it_served n is (inr (inl w)) = by o refl
    where
      mine : (r0.connection ≡ First) × (r0.command.reference ≡ n)
      mine = number_of n r0 is

      by : (x : Option End) → o ≡ x → IsKept aw (waiting_after k d rs place) (kept_after r0.connection x bs) n
      by None given =
          let goes = served_goes_on n k d rs place inside w.own w.sole is given in
          record {
            none = λ e. absurd (some_none (advanced r0) [] (sym goes ∙ e));
            own = λ r t e f.
                let x = (kept n).own w.own t w.sole f in (
                  x.0,
                  x.1,
                  fits_left w.own r x.0 t (subst (λ y. IsLeft w.own y)
                      (sym (one_of n (waiting_after k d rs place) r (advanced r0) e goes))
                      (subst (λ y. IsLeft y (advanced r0)) (served_itself n k d rs place inside w.own w.sole is)
                      (left_advanced r0))) x.2,
                );
          }
      by (Some e) given = nothing_kept aw (waiting_after k d rs place) (kept_after r0.connection (Some e) bs) n
          (ended_none n k d rs place inside w.own e w.sole is given)
          (ap (λ via. filter (is_of First n) (without_kept via e.reference bs)) mine.0
          ∙ ap (λ m. filter (is_of First n) (without_kept First m bs)) (end_number k d r0 e given ∙ mine.1)
          ∙ none_of_it (is_of First n) bs)

  pub step_kept : IsKeptEach aw (waiting_after k d rs place) (kept_after r0.connection o bs)
  step_kept n = grind (arith, is_numbered, it_served, other_served)

-- ---- an abort

pub abort_kept : (aw : List (List ℕ)) (rs : List Record) (es : List End) (bs : List Buffer) (m : ℕ) → AtEach aw rs es
    → IsKeptEach aw rs bs
    → IsKeptEach aw (without (name_on First m) rs)
    (without_aborted (option_map (λ r. r.command.reference) (find (is_numbered m) rs)) bs)
abort_kept aw rs es bs m at kept n = by (nat_eq m n) refl (find (is_numbered m) rs) refl (at n)
  where
    left : List Record
    left = filter (λ r. not (is_numbered m r)) rs

    found_number : (r : Record) → find (is_numbered m) rs ≡ Some r → r.command.reference ≡ m
    found_number r e = (number_of m r (Rattle.mscp_queue.proofs.Placed.found_is (is_numbered m) rs r e)).1

    kept_left : (o : Option Record) → List Buffer
    kept_left o = without_aborted (option_map (λ r. r.command.reference) o) bs

    others : nat_eq m n ≡ false → (r : Record) → is_numbered n r ≡ true → not (is_numbered m r) ≡ true
    others d r is = apart_numbers n m r (λ same. false≢true (sym d ∙ eq-eqb m n (sym same))) is

    kept_other : nat_eq m n ≡ false → (o : Option Record) → find (is_numbered m) rs ≡ o
        → filter (is_of First n) (kept_left o) ≡ filter (is_of First n) bs
    kept_other d o e = grind (arith, found_number, sole_left, other_number)

    by : (c : Bool) → nat_eq m n ≡ c → (o : Option Record) → find (is_numbered m) rs ≡ o → At aw rs es n
        → IsKept aw left (kept_left o) n
    by false d o e x = kept_as aw aw rs left bs (kept_left o) n refl
        (sole_left (is_numbered n) (λ r. not (is_numbered m r)) rs (others d)) (kept_other d o e) (kept n)
    by true d (Some r) e x = nothing_kept aw left (kept_left (Some r)) n
        (subst (λ k. filter (is_numbered k) left ≡ []) (eqb-true m n d) (none_of_it (is_numbered m) rs))
        (ap (λ k. filter (is_of First n) (without_kept First k bs)) (found_number r e ∙ eqb-true m n d)
        ∙ none_of_it (is_of First n) bs)
    by true d None e (inl none) = nothing_kept aw left bs n (none_stays (is_numbered n) (λ r. not (is_numbered m r)) rs
        none.1) ((kept n).none none.1)
    by true d None e (inr (inr x)) = nothing_kept aw left bs n
        (none_stays (is_numbered n) (λ r. not (is_numbered m r)) rs x.none) ((kept n).none x.none)
    by true d None e (inr (inl w)) = absurd (none-some w.own (sym e ∙ found_sole (is_numbered m) rs w.own
        (subst (λ k. filter (is_numbered k) rs ≡ w.own ∷ []) (sym (eqb-true m n d)) w.sole)))

-- ---- messages

-- what is kept has the number and the opcode of its message
pub number_kept : (b : List ℕ) (changes : ℕ) → 12 ≤ length b → (buffer_in b changes).reference ≡ num b 0 4
number_kept b changes long = ap (λ t. cond t 0 (num b 0 4)) {x = nat_lt (length b) 4} {y = false}
    (search (arith, long))

pub opcode_kept : (b : List ℕ) (changes : ℕ) → 12 ≤ length b → (buffer_in b changes).opcode ≡ slice_index b 8
opcode_kept b changes long = ap (λ t. cond t 0 (slice_index b 8)) {x = nat_lt (length b) 9} {y = false}
    (search (arith, long))

-- one whose command waits
pub queued_kept : (aw : List (List ℕ)) (rs : List Record) (bs : List Buffer) (t : List ℕ) (r : Record) (b : Buffer)
    → filter (has_number (num t 0 4)) aw ≡ [] → filter (is_numbered (num t 0 4)) rs ≡ []
    → is_numbered (num t 0 4) r ≡ true
    → ((n : ℕ) → nat_eq (num t 0 4) n ≡ false → is_numbered n r ≡ false) → b.reference ≡ num t 0 4
    → FitsBuffer r b t → IsKeptEach aw rs bs → IsKeptEach (aw ++ t ∷ []) (rs ++ r ∷ []) (bs ++ b ∷ [])
queued_kept aw rs bs t r b new none is others named fits kept n = by (nat_eq (num t 0 4) n) refl
  where
    number : ℕ
    number = num t 0 4

    here : IsKept (aw ++ t ∷ []) (rs ++ r ∷ []) (bs ++ b ∷ []) number
    here =
        let records = sole_comes (is_numbered number) rs r none is in
        let texts = sole_comes (has_number number) aw t new (eq-eqb number number refl) in
        let buffers = sole_comes (is_of First number) bs b ((kept number).none none)
        (eq-eqb b.reference number named) in
        record {
          none = λ e. absurd (some_none r [] (sym records ∙ e));
          own = λ x y e f. (
            b,
            buffers,
            subst (λ z. FitsBuffer x b z) (same_text t y (sym texts ∙ f))
                (subst (λ z. FitsBuffer z b t) (same_record r x (sym records ∙ e)) fits),
          );
        }
      where
        same_text : (x y : List ℕ) → x ∷ [] ≡ y ∷ [] → x ≡ y
        same_text x y e = (Rattle.mscp_ported.proofs.Numbered.first_of_one x y [] e).0

        same_record : (x y : Record) → x ∷ [] ≡ y ∷ [] → x ≡ y
        same_record x y e = (Rattle.mscp_ported.proofs.Numbered.first_of_one x y [] e).0

    by : (c : Bool) → nat_eq number n ≡ c → IsKept (aw ++ t ∷ []) (rs ++ r ∷ []) (bs ++ b ∷ []) n
    by true d = subst (λ m. IsKept (aw ++ t ∷ []) (rs ++ r ∷ []) (bs ++ b ∷ []) m) (eqb-true number n d) here
    by false d = kept_as aw (aw ++ t ∷ []) rs (rs ++ r ∷ []) bs (bs ++ b ∷ []) n
        (none_beside (has_number n) aw t d) (none_beside (is_numbered n) rs r (others n d))
        (none_beside (is_of First n) bs b (ap (λ m. nat_eq m n) named ∙ d)) (kept n)

-- or one that is answered at once
pub answered_kept : (aw : List (List ℕ)) (rs : List Record) (bs : List Buffer) (t : List ℕ)
    → filter (is_numbered (num t 0 4)) rs ≡ [] → IsKeptEach aw rs bs → IsKeptEach (aw ++ t ∷ []) rs bs
answered_kept aw rs bs t none kept n = by (nat_eq (num t 0 4) n) refl
  where
    by : (c : Bool) → nat_eq (num t 0 4) n ≡ c → IsKept (aw ++ t ∷ []) rs bs n
    by true d =
        let here : filter (is_numbered n) rs ≡ [] =
        subst (λ m. filter (is_numbered m) rs ≡ []) (eqb-true (num t 0 4) n d) none in
        nothing_kept (aw ++ t ∷ []) rs bs n here ((kept n).none here)
    by false d = kept_as aw (aw ++ t ∷ []) rs rs bs bs n (none_beside (has_number n) aw t d) refl refl (kept n)

-- and may abort another
pub answer_kept : (aw : List (List ℕ)) (rs : List Record) (es : List End) (bs : List Buffer) (t : List ℕ)
    (order : Order) → filter (is_numbered (num t 0 4)) rs ≡ [] → AtEach aw rs es → IsKeptEach aw rs bs
    → IsKeptEach (aw ++ t ∷ []) (unaborted First rs order) (without_aborted (reference_aborted First rs order) bs)
answer_kept aw rs es bs t (orders.Abort m) none at kept = answered_kept aw (without (name_on First m) rs)
    (without_aborted (option_map (λ r. r.command.reference) (find (is_numbered m) rs)) bs) t
    (none_stays (is_numbered (num t 0 4)) (λ r. not (is_numbered m r)) rs none) (abort_kept aw rs es bs m at kept)
answer_kept aw rs es bs t order none at kept = answered_kept aw rs bs t none kept

-- the end of one is taken
pub taken_kept : (aw : List (List ℕ)) (rs : List Record) (bs : List Buffer) (m : ℕ) → IsKeptEach aw rs bs
    → IsKeptEach (filter (λ t. not (has_number m t)) aw) rs bs
taken_kept aw rs bs m kept n = by (nat_eq m n) refl
  where
    left : List (List ℕ)
    left = filter (λ t. not (has_number m t)) aw

    by : (c : Bool) → nat_eq m n ≡ c → IsKept left rs bs n
    by true d = record {
      none = (kept n).none;
      own = λ r t e f. absurd (some_none t [] (sym f ∙ subst (λ k. filter (has_number k) left ≡ []) (eqb-true m n d)
          (none_of_it (has_number m) aw)));
    }
    by false d = kept_as aw left rs rs bs bs n (sole_left (has_number n) (λ t. not (has_number m t)) aw
        (λ t is. other_number n m d (num t 0 4) is)) refl refl (kept n)

-- ---- room

split_length : {X : Type 0} (f : X → Bool) (xs : List X)
    → length xs ≡ length (filter f xs) + length (filter (λ x. not (f x)) xs)
split_length f [] = refl
split_length f (x ∷ xs) = grind (arith, split_length f xs)

-- as few of each number are as few in all
few_each : (k : ℕ) (bs : List Buffer) (rs : List Record) → length bs ≤ k
    → ((n : ℕ) → length (filter (is_of First n) bs) ≤ length (filter (is_numbered n) rs)) → length bs ≤ length rs
few_each k [] rs small each = search arith
few_each zero (b ∷ bs) rs small each = absurd (search (arith, small))
few_each (suc k) (b ∷ bs) rs small each =
    let n = b.reference in
    let left = filter (λ x. not (is_of First n x)) (b ∷ bs) in
    let rest = filter (λ r. not (is_numbered n r)) rs in
    let mine : 1 ≤ length (filter (is_of First n) (b ∷ bs)) = subst (λ c. 1 ≤ length (cond c (b ∷ filter
    (is_of First n) bs)
    (filter (is_of First n) bs))) (sym (eq-eqb n n refl)) (search arith) in
    let whole = split_length (is_of First n) (b ∷ bs) in
    let among = split_length (is_numbered n) rs in
    let fewer = few_each k left rest (less (length left) (length bs) k (length (filter (is_of First n) (b ∷ bs))) whole
    mine small) (λ m. others n m (nat_eq n m) refl) in
    omega (arith, whole, among, each n, fewer)
  where
    less : (x n k y : ℕ) → suc n ≡ y + x → 1 ≤ y → suc n ≤ suc k → x ≤ k
    less x n k y e h g = omega (arith, e, h, g)

    others : (n m : ℕ) (c : Bool) → nat_eq n m ≡ c
        → length (filter (is_of First m) (filter (λ x. not (is_of First n x)) (b ∷ bs)))
        ≤ length (filter (is_numbered m) (filter (λ r. not (is_numbered n r)) rs))
    others n m true d = subst (λ j. length (filter (is_of First j) (filter (λ x. not (is_of First n x)) (b ∷ bs)))
        ≤ length (filter (is_numbered j) (filter (λ r. not (is_numbered n r)) rs))) (eqb-true n m d)
        (subst (λ xs. length xs ≤ length (filter (is_numbered n) (filter (λ r. not (is_numbered n r)) rs)))
        (sym (none_of_it (is_of First n) (b ∷ bs))) (search arith))
    others n m false d = grind (arith, is_numbered, sole_left, other_number, apart_numbers, false≢true, eq-eqb)

pub few_kept : (aw : List (List ℕ)) (rs : List Record) (es : List End) (bs : List Buffer) → AtEach aw rs es
    → IsKeptEach aw rs bs → length bs ≤ length (waiting_on First rs)
few_kept aw rs es bs at kept = few_each (length bs) bs (waiting_on First rs) (search arith)
    (λ n. subst (λ xs. length (filter (is_of First n) bs) ≤ length xs) (sym (on_first n)) (each n (at n)))
  where
    on_first : (n : ℕ) → filter (is_numbered n) (waiting_on First rs) ≡ filter (is_numbered n) rs
    on_first n = sole_left (is_numbered n) (λ r. Rattle.mscp_queue.specs.Names.same_connection r.connection First) rs
        (λ r is. ap (λ via. Rattle.mscp_queue.specs.Names.same_connection via First) (number_of n r is).0)

    each : (n : ℕ) → At aw rs es n → length (filter (is_of First n) bs) ≤ length (filter (is_numbered n) rs)
    each n (inl none) = subst (λ xs. length xs ≤ length (filter (is_numbered n) rs)) (sym ((kept n).none none.1))
        (search arith)
    each n (inr (inr x)) = subst (λ xs. length xs ≤ length (filter (is_numbered n) rs)) (sym ((kept n).none x.none))
        (search arith)
    each n (inr (inl w)) =
        let x = (kept n).own w.own w.text w.sole w.message in
        subst (λ xs. length xs ≤ length (filter (is_numbered n) rs)) (sym x.1)
        (subst (λ xs. 1 ≤ length xs) (sym w.sole) (search arith))
