-- How one moment more changes the doubts of a log.
use Rattle.mscp_wire.proofs.Common.{Answer, Bool, Connection, Doubtful, Doubts, First, Found, History, List, Log, Moment, None, Option, Second, Sent, Some, Told, [], answer_by, answered_by, ap, arith, called, called_after, called_in, command_of, cond, doubt_of, doubt_with, doubtful, doubtful_at, doubtful_end, doubtful_found, doubts_at, doubts_of, doubts_with, false, first_of, fold_push, found_at, get_or, get_or-append, get_or-append_right, if◌then◌else◌, is_another, is_called_twice, is_held_by_another, is_long, is_odd, is_past, is_slow, length, length-append, many, moment_at, no_doubt, nothing, or_last, outstanding, refl, skips, slow_at, suc, sym, take, take-append-le, told, true, with_moment, writes_protected, zero, ℕ, ◌++◌, ◌+◌, ◌-◌, ◌<◌, ◌∙◌, ◌∷◌, ◌≡◌, ◌≤◌}
use Rattle.std.proofs.lemmas.List.{take_all}
use Rattle.mscp_wire.specs.declared.moment.Moment.TheVariants as moments

-- ---- what was told is the same at each unit, so what is doubtful is

module _ (units others : Connection → ℕ → Told) (callers callees : ℕ → Option ℕ)
    (u : (via : Connection) (unit : ℕ) → units via unit ≡ others via unit)
    (k : (identifier : ℕ) → callers identifier ≡ callees identifier) where
  held_same : (identifier : ℕ) (e : Answer) (o : Option ℕ)
      → is_held_by_another units identifier e o ≡ is_held_by_another others identifier e o
  held_same identifier e None = refl
  held_same identifier e (Some unit) = rw (u First unit, u Second unit) refl

  twice_same : (o : Option ℕ) (e : Answer) → is_called_twice units callers o e ≡ is_called_twice others callees o e
  twice_same None e = refl
  twice_same (Some identifier) e =
      ap (is_held_by_another units identifier e) (k identifier) ∙ held_same identifier e (callees identifier)

  end_same : (e : Answer) (y : Sent) → doubtful_end units callers e y ≡ doubtful_end others callees e y
  end_same e y =
      ap (λ t. record {
        identity = is_another t.identity e;
        size = is_past t y e;
        status = is_odd y e;
        protection = writes_protected t e;
        identifier = is_called_twice units callers (called_in e) e;
        next = skips (units e.connection y.unit) y e;
        figure = false;
      }) (u e.connection e.unit)
      ∙ ap (λ t. record {
        identity = is_another (others e.connection e.unit).identity e;
        size = is_past (others e.connection e.unit) y e;
        status = is_odd y e;
        protection = writes_protected (others e.connection e.unit) e;
        identifier = is_called_twice units callers (called_in e) e;
        next = skips t y e;
        figure = false;
      }) (u e.connection y.unit)
      ∙ ap (λ b. record {
        identity = is_another (others e.connection e.unit).identity e;
        size = is_past (others e.connection e.unit) y e;
        status = is_odd y e;
        protection = writes_protected (others e.connection e.unit) e;
        identifier = b;
        next = skips (others e.connection y.unit) y e;
        figure = false;
      }) (twice_same (called_in e) e)

  found_same : (e : Answer) (o : Option Sent) → doubtful_found units callers e o ≡ doubtful_found others callees e o
  found_same e None = refl
  found_same e (Some y) = end_same e y

  pub doubtful_same : (xs : List Sent) (m : Moment) → doubtful xs units callers m ≡ doubtful xs others callees m
  doubtful_same xs (moments.Message via b time) = refl
  doubtful_same xs (moments.End via b) =
      ap (λ d. if is_long b.items then d else no_doubt) (found_same (answer_by via b.items)
      (answered_by xs (answer_by via b.items)))
  doubtful_same xs moments.Reset = refl
  doubtful_same xs (moments.Closed via) = refl

-- ---- counts and first places

many_same : (p q : ℕ → Bool) (n : ℕ) → ((i : ℕ) → i < n → p i ≡ q i) → many p n ≡ many q n
unfolding many
many_same p q zero h = refl
many_same p q (suc n) h =
    ap (λ x. x + cond (p n) 1 0) (many_same p q n (λ i l. h i (omega (arith, l))))
    ∙ ap (λ b. many q n + cond b 1 0) (h n (omega arith))

first_same : (p q : ℕ → Bool) (n : ℕ) → ((i : ℕ) → i < n → p i ≡ q i) → first_of p n ≡ first_of q n
unfolding first_of
first_same p q zero h = refl
first_same p q (suc n) h =
    ap (λ x. or_last x (p n) n) (first_same p q n (λ i l. h i (omega (arith, l))))
    ∙ ap (λ b. or_last (first_of q n) b n) (h n (omega arith))

-- a first place is before the end
first_below : (p : ℕ → Bool) (n i : ℕ) → first_of p n ≡ Some i → i < n
unfolding first_of
first_below p zero i h = cc
first_below p (suc n) i h = by_last (first_of p n) (p n) refl (first_below p n i) h
  where
    by_last : (o : Option ℕ) (b : Bool) → first_of p n ≡ o → (first_of p n ≡ Some i → i < n)
        → or_last o b n ≡ Some i → i < suc n
    by_last None true e low k = let s : n ≡ i = cc in omega (arith, s)
    by_last None false e low k = cc
    by_last (Some j) true e low k = let s : j ≡ i = cc in omega (arith, low (e ∙ ap (λ x. Some x) s))
    by_last (Some j) false e low k = let s : j ≡ i = cc in omega (arith, low (e ∙ ap (λ x. Some x) s))

same_doubts : (a b : Doubts) → a.identity ≡ b.identity → a.size ≡ b.size → a.status ≡ b.status
    → a.protection ≡ b.protection → a.identifier ≡ b.identifier → a.next ≡ b.next → a.figure ≡ b.figure → a ≡ b
same_doubts a b p q r s t u v =
    ap (λ x. record a { identity = x }) p
    ∙ ap (λ x. record a { identity = b.identity; size = x }) q
    ∙ ap (λ x. record a { identity = b.identity; size = b.size; status = x }) r
    ∙ ap (λ x. record b { protection = x; identifier = a.identifier; next = a.next; figure = a.figure }) s
    ∙ ap (λ x. record b { identifier = x; next = a.next; figure = a.figure }) t
    ∙ ap (λ x. record b { next = x; figure = a.figure }) u
    ∙ ap (λ x. record b { figure = x }) v

-- of no moment
pub doubts_none : (none : Doubts) → none.identity ≡ record { first = None; count = 0 }
    → none.size ≡ record { first = None; count = 0 } → none.status ≡ record { first = None; count = 0 }
    → none.protection ≡ record { first = None; count = 0 } → none.identifier ≡ record { first = None; count = 0 }
    → none.next ≡ record { first = None; count = 0 } → none.figure ≡ record { first = None; count = 0 }
    → none ≡ doubts_of nothing
unfolding many first_of
doubts_none none p q r s t u v = same_doubts none (doubts_of nothing) p q r s t u v

-- and of any log without one
pub doubts_same : (log next : Log) → log.moments ≡ [] → next.moments ≡ [] → doubts_of log ≡ doubts_of next
unfolding many first_of
doubts_same log next p q =
    same_doubts (doubts_of log) (doubts_of next) (rw (p, q) refl) (rw (p, q) refl) (rw (p, q) refl) (rw (p, q) refl)
    (rw (p, q) refl) (rw (p, q) refl) (rw (p, q) refl)

-- ---- a log with one moment more

module _ (log : Log) (m : Moment) (number : ℕ) (lines : length log.lines ≡ length log.moments) where
  -- those before it are the same
  moment_same : (i : ℕ) → i < length log.moments → moment_at (log.moments ++ m ∷ []) i ≡ moment_at log.moments i
  moment_same i l = get_or-append log.moments (m ∷ []) moments.Reset i l

  taken_same : (i : ℕ) → i ≤ length log.moments → take i (log.moments ++ m ∷ []) ≡ take i log.moments
  taken_same i l = take-append-le i log.moments (m ∷ []) l

  doubtful_before : (i : ℕ) → i < length log.moments
      → doubtful_at (log.moments ++ m ∷ []) i ≡ doubtful_at log.moments i
  doubtful_before i l = rw (taken_same i (omega (arith, l)), moment_same i l) refl

  found_before : (i : ℕ) → i < length log.moments → found_at (with_moment number log m) (Some i) ≡ found_at log (Some i)
  found_before i l =
      rw (
        taken_same i (omega (arith, l)),
        moment_same i l,
        get_or-append log.lines (number ∷ []) 0 i (omega (arith, l, lines)),
      ) refl

  -- and that of the moment itself
  moment_last : moment_at (log.moments ++ m ∷ []) (length log.moments) ≡ m
  moment_last =
      let n = length log.moments in
      let none : n - n ≡ 0 = omega arith in
      get_or-append_right log.moments (m ∷ []) n n moments.Reset refl (omega arith)
      ∙ ap (λ d. get_or (m ∷ []) d moments.Reset) none

  taken_last : take (length log.moments) (log.moments ++ m ∷ []) ≡ log.moments
  taken_last =
      taken_same (length log.moments) (omega arith) ∙ take_all (length log.moments) log.moments (omega arith)

  line_last : get_or (log.lines ++ number ∷ []) (length log.moments) 0 ≡ number
  line_last =
      let n = length log.moments in
      let none : n - n ≡ 0 = omega arith in
      get_or-append_right log.lines (number ∷ []) n n 0 lines (omega arith)
      ∙ ap (λ d. get_or (number ∷ []) d 0) none

  doubtful_last : doubtful_at (log.moments ++ m ∷ []) (length log.moments)
      ≡ doubtful (outstanding log.moments) (told log.moments) (called log.moments) m
  doubtful_last = rw (taken_last, moment_last) refl

  found_last : found_at (with_moment number log m) (Some (length log.moments))
      ≡ Some (record { line = number; command = command_of (outstanding log.moments) m })
  found_last = rw (taken_last, moment_last, line_last) refl

  abbrev pub more : Found
  more = record { line = number; command = command_of (outstanding log.moments) m }

  by_place : (o : Option ℕ) (b : Bool) (c : ℕ) → ((i : ℕ) → o ≡ Some i → i < length log.moments)
      → doubt_with (record { first = found_at log o; count = c }) b more ≡ record {
        first = found_at (with_moment number log m) (or_last o b (length log.moments));
        count = c + cond b 1 0;
      }
  by_place None true c low = ap (λ f. record { first = f; count = c + 1 }) (sym found_last)
  by_place None false c low = let e : c ≡ c + 0 = omega arith in ap (λ x. record { first = None; count = x }) e
  by_place (Some i) true c low = ap (λ f. record { first = f; count = c + 1 }) (sym (found_before i (low i refl)))
  by_place (Some i) false c low =
      let e : c ≡ c + 0 = omega arith in
      ap (λ f. record { first = f; count = c }) (sym (found_before i (low i refl)))
      ∙ ap (λ x. record { first = found_at (with_moment number log m) (Some i); count = x }) e

  -- the doubts of one kind, by their places before and now
  places_more : (p q : ℕ → Bool) (b : Bool) → ((i : ℕ) → i < length log.moments → p i ≡ q i)
      → b ≡ q (length log.moments) → doubt_with (doubts_at p log) b more ≡ doubts_at q (with_moment number log m)
  unfolding many first_of
  places_more p q b same last =
      let n = length log.moments in
      let size : length (log.moments ++ m ∷ []) ≡ suc n = omega (arith, length-append log.moments (m ∷ [])) in
      by_place (first_of p n) b (many p n) (first_below p n)
      ∙ ap (λ o. record {
        first = found_at (with_moment number log m) (or_last o b n);
        count = many p n + cond b 1 0;
      }) (first_same p q n same)
      ∙ ap (λ x. record {
        first = found_at (with_moment number log m) (or_last (first_of q n) b n);
        count = x + cond b 1 0;
      }) (many_same p q n same)
      ∙ ap (λ x. record {
        first = found_at (with_moment number log m) (or_last (first_of q n) x n);
        count = many q n + cond x 1 0;
      }) last
      ∙ ap (λ k. record { first = found_at (with_moment number log m) (first_of q k); count = many q k }) (sym size)

  -- of an end
  doubt_more : (kind : Doubtful → Bool)
      → doubt_with (doubt_of kind log)
      (kind (doubtful (outstanding log.moments) (told log.moments) (called log.moments) m)) more
      ≡ doubt_of kind (with_moment number log m)
  doubt_more kind =
      places_more (λ i. kind (doubtful_at log.moments i)) (λ i. kind (doubtful_at (log.moments ++ m ∷ []) i))
      (kind (doubtful (outstanding log.moments) (told log.moments) (called log.moments) m))
      (λ i l. ap kind (sym (doubtful_before i l))) (ap kind (sym doubtful_last))

  -- of figures
  slow_more : doubt_with (doubts_of log).figure (is_slow log.begun log.credits log.moments m) more
      ≡ (doubts_of (with_moment number log m)).figure
  slow_more =
      places_more (slow_at log.begun log.credits log.moments) (slow_at log.begun log.credits (log.moments ++ m ∷ []))
      (is_slow log.begun log.credits log.moments m)
      (λ i l. rw (taken_same i (omega (arith, l)), moment_same i l) refl) (rw (taken_last, moment_last) refl)

  -- all doubts
  pub doubts_more : doubts_with (doubts_of log)
      (record (doubtful (outstanding log.moments) (told log.moments) (called log.moments) m) {
        figure = is_slow log.begun log.credits log.moments m;
      }) more
      ≡ doubts_of (with_moment number log m)
  doubts_more = same_doubts _ (doubts_of (with_moment number log m))
      (doubt_more (λ d. d.identity)) (doubt_more (λ d. d.size)) (doubt_more (λ d. d.status))
      (doubt_more (λ d. d.protection)) (doubt_more (λ d. d.identifier)) (doubt_more (λ d. d.next)) slow_more

-- as they are kept
pub doubts_kept : (log : Log) (m : Moment) (number : ℕ) (old new : Doubts) (found : Doubtful) (command : Option Sent)
    (xs : List Sent) (units : Connection → ℕ → Told) (callers : ℕ → Option ℕ) → length log.lines ≡ length log.moments
    → old ≡ doubts_of log → xs ≡ outstanding log.moments
    → ((via : Connection) (unit : ℕ) → units via unit ≡ told log.moments via unit)
    → ((identifier : ℕ) → callers identifier ≡ called log.moments identifier)
    → command ≡ command_of xs m
    → found ≡ record (doubtful xs units callers m) { figure = is_slow log.begun log.credits log.moments m }
    → new ≡ doubts_with old found (record { line = number; command = command })
    → new ≡ doubts_of (with_moment number log m)
doubts_kept log m number old new found command xs units callers lines was here u k about is h =
    h
    ∙ ap (λ d. doubts_with d found (record { line = number; command = command })) was
    ∙ ap (λ d. doubts_with (doubts_of log) d (record { line = number; command = command }))
    (is ∙ ap (λ ys. slow (doubtful ys units callers m)) here
    ∙ ap slow (doubtful_same units (told log.moments) callers (called log.moments) u k (outstanding log.moments) m))
    ∙ ap (λ c. doubts_with (doubts_of log)
    (slow (doubtful (outstanding log.moments) (told log.moments) (called log.moments) m))
    (record { line = number; command = c })) (about ∙ ap (λ ys. command_of ys m) here)
    ∙ doubts_more log m number lines
  where
    slow : Doubtful → Doubtful
    slow d = record d { figure = is_slow log.begun log.credits log.moments m }

-- no end tells of them
pub not_slow : (xs : List Sent) (units : Connection → ℕ → Told) (callers : ℕ → Option ℕ) (m : Moment)
    → (doubtful xs units callers m).figure ≡ false
not_slow xs units callers (moments.End via b) = by_long (is_long b.items)
  where
    by_found : (o : Option Sent) → (doubtful_found units callers (answer_by via b.items) o).figure ≡ false
    by_found None = refl
    by_found (Some y) = refl

    by_long : (x : Bool) → (if x then doubtful_found units callers (answer_by via b.items)
        (answered_by xs (answer_by via b.items)) else no_doubt).figure ≡ false
    by_long true = by_found (answered_by xs (answer_by via b.items))
    by_long false = refl
not_slow xs units callers m = refl

-- which unit was last said to have an identifier
pub called_more : (h : History) (m : Moment) (old new : ℕ → Option ℕ)
    → ((identifier : ℕ) → old identifier ≡ called h identifier)
    → ((identifier : ℕ) → new identifier ≡ called_after identifier (old identifier) m)
    → (identifier : ℕ) → new identifier ≡ called (h ++ m ∷ []) identifier
called_more h m old new p q identifier =
    q identifier ∙ ap (λ o. called_after identifier o m) (p identifier)
    ∙ sym (fold_push (called_after identifier) None h m)

-- one line more
pub lines_kept : (log : Log) (m : Moment) (number : ℕ) → length log.lines ≡ length log.moments
    → length (log.lines ++ number ∷ []) ≡ length (log.moments ++ m ∷ [])
lines_kept log m number e =
    omega (arith, e, length-append log.lines (number ∷ []), length-append log.moments (m ∷ []))
