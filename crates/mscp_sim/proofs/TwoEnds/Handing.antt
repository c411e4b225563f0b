-- An end that is handed over: the host takes it, and the match is kept.
use Rattle.mscp_sim.proofs.Common.{◌≡◌, ℕ, ◌+◌, Bool, true, false, cond, List, [], ◌∷◌, ◌++◌, length, refl, ap, sym, subst, arith, find, nat_eq, ◌&&◌, if◌then◌else◌, Option, Some, None, option_map, slice_get, unwrap_or, Ok, AllByRecursion, eqb-true, eq-eqb, false≢true, true≢false, nat_tests, Command, End, EndBody, opcode_byte, IsEnd, every_weaker, every_both, Connection, of, put, Holdings, numbers_ended, outstanding_of, waiting_on, Submission, Watch, Account, answered, end_in, has_reference, heard, is_about_polled, news_with, outstanding_with, received, told_in, watch_after, with_told, heard_ok, Flight, HasFlight, IsAwaited, IsFlight, IsKnown, Matches, commands, times}
use Rattle.mscp_host.specs.Accounts.{without}
use Rattle.mscp_packet.specs.declared.end.EndBody.TheVariants as bodies
use Rattle.mscp_sim.proofs.TwoEnds.Counting.{length_without, opcode_told, opcode_without, references_told, small_told, small_without, times_append, times_without}
use Rattle.mscp_sim.proofs.TwoEnds.Matching.{called, counted_numbers, times_ends}
use Rattle.mscp_sim.proofs.TwoEnds.Sides.{of_put}

-- ---- reading

-- the bytes of an end are read as that end
pub read_end : (b : List ℕ) (e : End) → IsEnd b e → end_in b ≡ Ok e
read_end b e i = search (arith, nat_tests)

-- ---- one of the number

times_own : (n : ℕ) (xs : List ℕ) → times n (n ∷ xs) ≡ 1 + times n xs
times_own n xs = rw (eq-eqb n n refl) refl

not_first : (n k t : ℕ) → cond (nat_eq k n) (1 + t) t ≡ 0 → (nat_eq n k ≡ false) × (t ≡ 0)
not_first n k t z = search (arith, nat_tests)

other_commands : (n : ℕ) (cs : List Command) → times n (called cs) ≡ 0
    → AllByRecursion (λ c. nat_eq n c.reference ≡ false) cs
other_commands n [] z = tt
other_commands n (c ∷ cs) z = let k = not_first n c.reference (times n (called cs)) z in (k.0, other_commands n cs k.1)

other_ends : (n : ℕ) (us : List End) → times n (numbers_ended us) ≡ 0
    → AllByRecursion (λ e. nat_eq n e.reference ≡ false) us
other_ends n [] z = tt
other_ends n (e ∷ us) z = let k = not_first n e.reference (times n (numbers_ended us)) z in (k.0, other_ends n us k.1)

-- no other command has the number of the first end
pub alone : {K : Type 0} (via : Connection) (a : Account) (h : Holdings K) (told : Flight) (e : End) (us : List End)
    → Matches via a h told → of via h.untaken ≡ e ∷ us
    → (times e.reference (called (commands (waiting_on via h.waiting))) ≡ 0) × (times e.reference (numbers_ended us)
    ≡ 0)
alone via a h told e us m u =
    let n = e.reference in
    let one = m.once n in
    search (arith, counted_numbers, times_own)

-- ---- what the first end tells

status_of : (w : Watch) (figure : ℕ) (body : EndBody) → body ≡ bodies.Status w.polled figure
    → is_about_polled (Some w) (told_in body) ≡ true
status_of w figure body e = rw e (eq-eqb w.polled w.polled refl)

-- the end of the poll in flight comes first, where the first end has its number
pub first_is : (e : End) (us : List End) (w : Watch) (told : Flight) → (f : IsFlight (e ∷ us) w told)
    → times e.reference (numbers_ended us) ≡ 0 → w.reference ≡ e.reference → (f.front ≡ []) × (f.end ≡ e)
first_is e us w told f z s =
    let Goal : List End → Type 0 = λ front. f.front ≡ front → e ∷ us ≡ front ++ f.end ∷ f.back
    → (f.front ≡ []) × (f.end ≡ e) in
    let cases : (front : List End) → Goal front =
    λ front. elim front as Goal [
      | [] ↦ λ q p. (q, ap (λ xs. unwrap_or (slice_get xs 0) f.end) (sym p))
      | g ∷ gs ↦ λ q p. grind (arith, times_ends, times_own)
    ] in
    search (arith, cases)

about_with : (e : End) (us : List End) (w : Watch) (told : Flight) (b : Bool) → nat_eq w.reference e.reference ≡ b
    → IsFlight (e ∷ us) w told → times e.reference (numbers_ended us) ≡ 0
    → is_about_polled (Some w) (if b && nat_eq e.code 0x82 then told_in e.body else None) ≡ true
about_with e us w told false s f z = refl
about_with e us w told true s f z =
    search (
      arith,
      first_is e us w told f z (eqb-true w.reference e.reference s),
      eqb-true w.reference e.reference s,
      status_of,
    )

about : (e : End) (us : List End) (watch : Option Watch) (told : Flight) → HasFlight (e ∷ us) watch told
    → times e.reference (numbers_ended us) ≡ 0 → is_about_polled watch (answered watch e) ≡ true
about e us watch told h4 h5 = grind (arith, about_with)

found_some : (o : Option Submission) (k : ℕ) → option_map (λ (s : Submission). s.opcode) o ≡ Some k
    → (s : Submission) × (o ≡ Some s) × (s.opcode ≡ k)
found_some o k h2 = grind (arith, false≢true)

-- the host takes the first end for that of one of its commands
pub first_heard : {K : Type 0} (via : Connection) (a : Account) (h : Holdings K) (told : Flight) (e : End)
    (us : List End) (b : List ℕ) → Matches via a h told → of via h.untaken ≡ e ∷ us → IsEnd b e
    → heard a b ≡ (Ok (news_with a e (answered a.watch e)), received a e)
first_heard {K} via a h told e us b m u i =
    search (arith, read_end b e i, alone via a h told e us m u, found_some, heard_ok, about)

-- ---- the match after it

length_told : (n f : ℕ) (xs : List Submission) → length (with_told n f xs) ≡ length xs
length_told n f [] = refl
length_told n f (x ∷ xs) = search (arith, length_told n f xs)

abbrev outstanding_told : Account → Option (ℕ × ℕ) → Account
outstanding_told a o = record a { outstanding = outstanding_with a o }

told_if : {K : Type 0} (via : Connection) (a : Account) (h : Holdings K) (told : Flight) (o : Option (ℕ × ℕ))
    → Matches via a h told → Matches via (outstanding_told a o) h told
told_if via a h told None m = m
told_if {K} via a h told (Some t) m =
    search (arith, length_told, references_told, small_told, every_weaker, opcode_told)

flight_rest : (e : End) (us : List End) (w w' : Watch) (told : Flight) (f : IsFlight (e ∷ us) w told)
    → nat_eq w.reference e.reference ≡ false → w'.reference ≡ w.reference → w'.polled ≡ w.polled
    → (w'.is_outstanding ≡ true → (w.is_outstanding ≡ true) × (nat_eq e.reference w.polled ≡ false))
    → IsFlight us w' told
flight_rest e us w w' told f n r p s =
    let cases : (front : List End) → f.front ≡ front → e ∷ us ≡ front ++ f.end ∷ f.back → IsFlight us w' told =
    λ front. elim front as (λ front. f.front ≡ front → e ∷ us ≡ front ++ f.end ∷ f.back → IsFlight us w' told) [
      | [] ↦ λ q k. grind (arith, true≢false, eq-eqb)
      | g ∷ gs ↦ λ q k. grind arith
    ] in
    search (arith, cases)

flight_after : (e : End) (us : List End) (watch : Option Watch) (told : Flight) → HasFlight (e ∷ us) watch told
    → HasFlight us (watch_after watch e.reference) told
flight_after e us watch told h4 = grind (arith, flight_rest, false≢true, nat_tests)

taken_out : {K : Type 0} (via : Connection) (a : Account) (h : Holdings K) (told : Flight) (e : End) (us : List End)
    → Matches via a h told → of via h.untaken ≡ e ∷ us
    → Matches via
    (record {
      credits = a.credits;
      outstanding = without e.reference a.outstanding;
      watch = watch_after a.watch
          e.reference;
    }) (record h { untaken = put via us h.untaken }) told
taken_out {K} via a h told e us m u =
    let n = e.reference in
    let h' : Holdings K = record h { untaken = put via us h.untaken } in
    let left : of via h'.untaken ≡ us = of_put via us h.untaken in
    let ends = subst (AllByRecursion (IsAwaited a.outstanding)) u m.ends in
    let own = ends.0 in
    let s = found_some (find (has_reference n) a.outstanding) own.opcode own.found in
    let apart = alone via a h told e us m u in
    let counts : (r : ℕ) → times r (outstanding_of via h) ≡ times r (n ∷ []) + times r (outstanding_of via h') =
    search (arith, called (commands (waiting_on via h.waiting)), counted_numbers, times_append) in
    record {
      credits = m.credits;
      many = grind (arith, length_without n a.outstanding s.0 s.1, u, m.many, left);
      same = λ r. grind (arith, times_without r n a.outstanding s.0 s.1, m.same r, counts r);
      once = λ r. grind (arith, counts r, m.once r);
      small = small_without n a.outstanding m.small;
      waits = every_weaker (λ c. IsKnown a.outstanding c × (nat_eq n c.reference ≡ false))
          (IsKnown (without n a.outstanding)) (λ c k.
          (opcode_without c.reference n (opcode_byte c.order) a.outstanding k.1 k.0.0, k.0.1)) (commands
          (waiting_on via h.waiting)) (every_both (IsKnown a.outstanding) (λ c. nat_eq n c.reference ≡ false)
          (commands (waiting_on via h.waiting)) m.waits
          (other_commands n (commands (waiting_on via h.waiting)) apart.0));
      ends = subst (AllByRecursion (IsAwaited (without n a.outstanding))) (sym left)
          (every_weaker (λ x. IsAwaited a.outstanding x × (nat_eq n x.reference ≡ false))
          (IsAwaited (without n a.outstanding)) (λ x k.
          record {
            opcode = k.0.opcode;
            found = opcode_without x.reference n k.0.opcode a.outstanding k.1 k.0.found;
            code = k.0.code;
          }) us
          (every_both (IsAwaited a.outstanding) (λ x. nat_eq n x.reference ≡ false) us ends.1
          (other_ends n us apart.1)));
      flight = grind (arith, flight_after, n, left);
    }

pub received_match : {K : Type 0} (via : Connection) (a : Account) (h : Holdings K) (told : Flight) (e : End)
    (us : List End) → Matches via a h told → of via h.untaken ≡ e ∷ us → Matches via (received a e)
    (record h { untaken = put via us h.untaken }) told
received_match via a h told e us m u = taken_out via (outstanding_told a (answered a.watch e)) h told e us
    (told_if via a h told (answered a.watch e) m) u
