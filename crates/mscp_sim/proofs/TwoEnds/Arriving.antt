-- An abort and a command that arrives keep the match of the host of their connection and the controller.
use Rattle.mscp_sim.proofs.Common.{◌≡◌, ⊎_elim, ℕ, ◌+◌, Bool, true, false, ◌&&◌, List, [], ◌∷◌, ◌++◌, map, refl, ap, sym, ◌∙◌, arith, append-nil, find, nat_eq, Some, AllByRecursion, eq-eqb, length-append, map-append, filter-append, Connection, Name, name_on, own_side, same_is, and-false, Command, Order, End, opcode_byte, Record, fresh_record, has_name, name_of, without, every_append, every_from, filter_filter, filter_on, Found, find_cases, find_none, find_first, Holdings, aborting, numbers_ended, outstanding_of, queued, waiting_on, with_end, of, of_more, Submission, Account, is_code_of, Flight, HasOwnEndcode, IsAwaited, IsKnown, Matches, commands, references, times}
use Rattle.mscp_packet.specs.declared.command.Order.TheVariants as orders
use Rattle.mscp_sim.proofs.TwoEnds.Counting.{opcode_new}
use Rattle.mscp_sim.proofs.TwoEnds.Matching.{Adds, Ends, Pushes, awaited_more, counted_numbers, ends_match, known_more, stays, times_called, times_ends}

-- ---- an abort

-- none of the number is there, so none is taken out
none_out : (via : Connection) (n : ℕ) (rs : List Record) → times n (map (λ (c : Command). c.reference) (commands rs))
    ≡ 0 → without (name_on via n) rs ≡ rs
none_out via n [] z = refl
none_out via n (r ∷ rs) z = search (arith, Bool, and-false, nat_eq, none_out via n rs)

all_kept : (via : Connection) (n : ℕ) (rs : List Record) → AllByRecursion (λ y. has_name (name_on via n) y ≡ false) rs
    → without (name_on via n) rs ≡ rs
all_kept via n [] h = refl
all_kept via n (r ∷ rs) h = rw (h.0) (ap (λ qs. r ∷ qs) (all_kept via n rs h.1))

front_kept : (via : Connection) (n : ℕ) (front : List Record) (x : Record) (back : List Record)
    → AllByRecursion (λ y. has_name (name_on via n) y ≡ false) front → has_name (name_on via n) x ≡ true
    → without (name_on via n) back ≡ back → without (name_on via n) (front ++ x ∷ back) ≡ front ++ back
front_kept via n [] x back h e b = rw e b
front_kept via n (y ∷ ys) x back h e b = rw (h.0) (ap (λ rs. y ∷ rs) (front_kept via n ys x back h.1 e b))

swap_and : (a b : Bool) → (a && b) ≡ (b && a)
swap_and a b = grind arith

-- the command is looked for, and taken out, among those of its connection
out_on : (via : Connection) (n : ℕ) (rs : List Record)
    → waiting_on via (without (name_on via n) rs) ≡ without (name_on via n) (waiting_on via rs)
out_on via n rs = search (arith, filter_filter, filter_on, every_from, swap_and)

find_on : (via : Connection) (n : ℕ) (rs : List Record)
    → find (has_name (name_on via n)) rs ≡ find (has_name (name_on via n)) (waiting_on via rs)
find_on via n [] = refl
find_on via n (r ∷ rs) = search (arith, find_on via n rs)

aborts_found : {K : Type 0} (via : Connection) (a : Account) (h : Holdings K) (told : Flight) (n : ℕ)
    (front : List Record) (x : Record) (back : List Record)
    → Found (has_name (name_on via n)) (waiting_on via h.waiting) front x back → Matches via a h told
    → Matches via a (aborting via h (orders.Abort n)) told
aborts_found {K} via a h told n front x back f m =
    let command = x.command in
    let number : List Command → List ℕ = λ cs. map (λ (c : Command). c.reference) cs in
    let cut : commands (waiting_on via h.waiting) ≡ commands front ++ command ∷ commands back =
    ap commands f.is ∙ map-append (λ (r : Record). r.command) front (x ∷ back) in
    let named : command.reference ≡ n = ap (λ (k : Name). k.reference) (same_is (name_of x) (name_on via n) f.passed) in
    let one = m.once n in
    let counts = counted_numbers n via h in
    let parts : times n (number (commands (waiting_on via h.waiting)))
    ≡ times n (number (commands front)) + (1 + times n (number (commands back))) =
    search (arith, times_called n (commands front) (command ∷ commands back), eq-eqb command.reference n named) in
    let none : times n (number (commands back)) ≡ 0 = omega (arith, one, counts, parts) in
    let out : waiting_on via (without (name_on via n) h.waiting) ≡ front ++ back =
    out_on via n h.waiting ∙ (ap (without (name_on via n)) f.is
    ∙ front_kept via n front x back f.before f.passed (none_out via n back none)) in
    let found : find (has_name (name_on via n)) h.waiting ≡ Some x =
    search (arith, find_on via n h.waiting, find_first (has_name (name_on via n)) front x back f.before f.passed) in
    let ends : Ends via h (aborting via h (orders.Abort n)) =
    grind (arith, map-append, of_more, command, cut, out, found) in
    search (arith, ends_match, ends)

aborts_none : {K : Type 0} (via : Connection) (a : Account) (h : Holdings K) (told : Flight) (n : ℕ)
    → AllByRecursion (λ y. has_name (name_on via n) y ≡ false) (waiting_on via h.waiting) → Matches via a h told
    → Matches via a (aborting via h (orders.Abort n)) told
aborts_none {K} via a h told n none m = grind (arith, find_on, find_none, out_on, all_kept, of_more, append-nil, stays)

-- no end is made
pub aborting_matches : {K : Type 0} (via : Connection) (a : Account) (h : Holdings K) (told : Flight) (order : Order)
    → Matches via a h told → Matches via a (aborting via h order) told
aborting_matches via a h told (orders.Abort n) m =
    ⊎_elim (λ none. aborts_none via a h told n none m)
    (λ some. aborts_found via a h told n some.0 some.1 some.2 some.3 m)
    (find_cases (has_name (name_on via n)) (waiting_on via h.waiting))
aborting_matches via a h told order m = grind (arith, stays, of_more, append-nil)

-- ---- a command arrives

more_called : (via : Connection) (rs : List Record) (c : Command)
    → commands (waiting_on via (rs ++ fresh_record via c ∷ [])) ≡ commands (waiting_on via rs) ++ c ∷ []
more_called via rs c = search (arith, own_side, filter-append, map-append)

new_to_host : {K : Type 0} (via : Connection) (a : Account) (h : Holdings K) (told : Flight) (n : ℕ)
    → Matches via a h told → times n (outstanding_of via h) ≡ 0 → times n (references a.outstanding) ≡ 0
new_to_host via a h told n m z = m.same n ∙ z

-- the command of a submission arrives: what it needs to know, and what the host keeps then
pub record Arrives {K : Type 0} (via : Connection) (a a' : Account) (h : Holdings K) (s : Submission) (c : Command) :
    Type 0 where
  pub adds : Adds via a a' h s
  pub reference : s.reference ≡ c.reference
  pub opcode : s.opcode ≡ opcode_byte c.order
  pub coded : HasOwnEndcode c.order

-- it waits
pub queued_pushes : {K : Type 0} (via : Connection) (a a' : Account) (h : Holdings K) (told : Flight) (s : Submission)
    (c : Command) → Arrives via a a' h s c → Matches via a h told → Pushes via a a' h (queued via h c) s
queued_pushes {K} via a a' h told s c x m =
    let ws = waiting_on via h.waiting in
    let cs : commands (waiting_on via (queued via h c).waiting) ≡ commands ws ++ c ∷ [] = more_called via h.waiting c in
    let own : IsKnown (a.outstanding ++ s ∷ []) c = grind (arith, opcode_new, new_to_host) in
    record {
      adds = x.adds;
      counts = λ r.
          let old = counted_numbers r via h in
          let now = counted_numbers r via (queued via h c) in
          let pushed = ap (λ ds. times r (map (λ (d : Command). d.reference) ds)) cs
          ∙ times_called r (commands ws) (c ∷ []) in
          let same : times r (c.reference ∷ []) ≡ times r (s.reference ∷ []) =
          ap (λ n. times r (n ∷ [])) (sym x.reference) in
          omega (arith, old, now, pushed, same);
      more = grind (arith, own_side, filter-append, length-append);
      settings = refl;
      waits = grind (arith, cs, every_append, known_more, own);
      ends = awaited_more a.outstanding s (of via h.untaken) m.ends;
    }

-- it has its end at once
pub ended_pushes : {K : Type 0} (via : Connection) (a a' : Account) (h : Holdings K) (told : Flight) (s : Submission)
    (e : End) → Adds via a a' h s → e.reference ≡ s.reference → is_code_of e.code s.opcode ≡ true
    → Matches via a h told → Pushes via a a' h (with_end via h e) s
ended_pushes {K} via a a' h told s e adds reference code m =
    let us = of via h.untaken in
    let ended : of via (with_end via h e).untaken ≡ us ++ e ∷ [] = of_more via h.untaken (e ∷ []) in
    let own : IsAwaited (a.outstanding ++ s ∷ []) e = grind (arith, opcode_new, new_to_host) in
    record {
      adds = adds;
      counts = λ r.
          let old = counted_numbers r via h in
          let now = counted_numbers r via (with_end via h e) in
          let pushed = ap (λ es. times r (numbers_ended es)) ended ∙ times_ends r us (e ∷ []) in
          let same : times r (e.reference ∷ []) ≡ times r (s.reference ∷ []) = ap (λ n. times r (n ∷ [])) reference in
          omega (arith, old, now, pushed, same);
      more = grind (arith, ended, length-append);
      settings = refl;
      waits = known_more a.outstanding s (commands (waiting_on via h.waiting)) m.waits;
      ends = grind (arith, ended, every_append, awaited_more, own);
    }
