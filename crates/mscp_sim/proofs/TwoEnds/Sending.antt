-- What a host sends the controller takes in, and the match is kept.
use Rattle.mscp_sim.proofs.Common.{◌≡◌, ℕ, ◌<◌, ◌^◌, Bool, true, false, List, [], ◌∷◌, ◌++◌, refl, sym, ◌∙◌, subst, arith, append-nil, find, nat_eq, not, ◌&&◌, ◌||◌, if◌then◌else◌, slice_index, Option, Some, None, Ok, list_any, list_any-append, eq-eqb, true_from_ne_false, true≢false, nat_tests, Command, End, HasCommandRange, IsCommand, IsValidOrder, command_bytes, command_of, opcode_byte, num, command_bytes_are_messages, command_read, opcode_kept, four, Connection, name_on, figure_of_name, fault_of, holds, is_queued, refusal, of_more, Holdings, aborting, after_message, answer_to_message, answered_end, arrives, balance_of, numbers, numbers_ended, with_end, outstanding_of, queued, taken_as, waiting_on, of, Submission, Watch, own_end_with, Settings, endcode, any_map, found, none_any, Account, balance, has_reference, is_code_of, is_immediate, poll_of, submission_of, submitted, watching, Flight, HasFlight, IsSmall, Matches, times}
use Rattle.mscp_packet.specs.declared.command.Order.TheVariants as orders
use Rattle.mscp_host.specs.Accounts as host
use Rattle.mscp_sim.proofs.TwoEnds.Codes.{coded}
use Rattle.mscp_sim.proofs.TwoEnds.Counting.{any_times, has_any}
use Rattle.mscp_sim.proofs.TwoEnds.Matching.{Adds, flight_on, pushes_match}
use Rattle.mscp_sim.proofs.TwoEnds.Arriving.{Arrives, aborting_matches, ended_pushes, queued_pushes}

-- ---- the message of a command

-- the command that the message of c is, and what it has of c
pub record Carries (c : Command) : Type 0 where
  pub read : IsCommand (command_bytes c) (command_of (command_bytes c))
  pub reference : num (command_bytes c) 0 4 ≡ c.reference
  pub opcode : slice_index (command_bytes c) 8 ≡ opcode_byte c.order

pub carries : (c : Command) → c.reference < 2 ^ 32 → Carries c
carries c small = record { read = command_read c; reference = four c.reference small; opcode = refl }

pub same_reference : (c : Command) → Carries c → (command_of (command_bytes c)).reference ≡ c.reference
same_reference c k = k.read.reference ∙ k.reference

same_opcode : (c : Command) → Carries c → opcode_byte (command_of (command_bytes c)).order ≡ opcode_byte c.order
same_opcode c k = opcode_kept (command_bytes c) (command_of (command_bytes c)).order k.read.order ∙ k.opcode

-- ---- what one refuses, the other refuses

same_holds : {K : Type 0} (via : Connection) (a : Account) (h : Holdings K) (told : Flight) (r : ℕ)
    → Matches via a h told → holds (outstanding_of via h) r ≡ list_any (has_reference r) a.outstanding
same_holds via a h told r m = grind (arith, has_any, any_times)

-- why the host would refuse, where it doesn't
pub record Free (a : Account) (opcode reference : ℕ) : Type 0 where
  pub some : nat_eq (balance a) 0 ≡ false
  pub spare : (nat_eq (balance a) 1 && not (is_immediate opcode)) ≡ false
  pub new : list_any (has_reference reference) a.outstanding ≡ false

pub free : (a : Account) (opcode reference : ℕ) → host.refusal a opcode reference ≡ None → Free a opcode reference
free a opcode reference e = grind (arith, true≢false)

-- the controller takes in what the host sends
taken_in : {K : Type 0} (via : Connection) (a : Account) (h : Holdings K) (told : Flight) (c : Command)
    → Matches via a h told → Carries c → Free a (opcode_byte c.order) c.reference
    → refusal (balance_of via h) (outstanding_of via h) (command_bytes c) ≡ None
taken_in via a h told c m k f = grind (arith, nat_tests, same_holds)

-- ---- what both keep then

none_times : (n : ℕ) (xs : List ℕ) → list_any (λ x. nat_eq x n) xs ≡ false → times n xs ≡ 0
none_times n xs e = grind (arith, any_times, nat_tests)

nobody_named : {K : Type 0} (via : Connection) (a : Account) (h : Holdings K) (told : Flight) (n : ℕ)
    → Matches via a h told → list_any (has_reference n) a.outstanding ≡ false → times n (outstanding_of via h) ≡ 0
nobody_named via a h told n m e = none_times n (outstanding_of via h) (same_holds via a h told n m ∙ e)

own_reference_of : (c : Settings) (online : Bool) (figure : ℕ) (command : Command) (o : Option ℕ)
    → (own_end_with c online figure command o).reference ≡ command.reference
own_reference_of c online figure command o = grind arith

own_code_of : (c : Settings) (online : Bool) (figure : ℕ) (command : Command) (o : Option ℕ)
    → (own_end_with c online figure command o).code ≡ endcode command.order
own_code_of c online figure command o = grind arith

arrives_queued : {K : Type 0} (via : Connection) (a a' : Account) (h : Holdings K) (told : Flight) (s : Submission)
    (c : Command) → Arrives via a a' h s c → Matches via a h told → a'.watch ≡ a.watch
    → Matches via a' (queued via h c) told
arrives_queued via a a' h told s c x m w =
    pushes_match via a a' h (queued via h c) s told told (queued_pushes via a a' h told s c x m) m
    (subst (λ (o : Option Watch). HasFlight (of via h.untaken) o told) (sym w) m.flight)

-- the same number is as new where another command was aborted
new_still : {K : Type 0} (via : Connection) (a : Account) (h h' : Holdings K) (told : Flight) (n : ℕ)
    → Matches via a h told → Matches via a h' told → times n (outstanding_of via h) ≡ 0
    → times n (outstanding_of via h') ≡ 0
new_still via a h h' told n m m' z = sym (m'.same n) ∙ (m.same n ∙ z)

arrives_ended : {K : Type 0} (via : Connection) (a a' : Account) (h : Holdings K) (told told' : Flight) (s : Submission)
    (c : Command) → Arrives via a a' h s c → Matches via a h told
    → HasFlight (of via (with_end via (aborting via h c.order) (answered_end via h c)).untaken) a'.watch told'
    → Matches via a' (with_end via (aborting via h c.order) (answered_end via h c)) told'
arrives_ended {K} via a a' h told told' s c x m f =
    let h1 : Holdings K = aborting via h c.order in
    let e = answered_end via h c in
    let m1 = aborting_matches via a h told c.order m in
    let code : is_code_of e.code s.opcode ≡ true = grind (arith, own_code_of, e) in
    let own : e.reference ≡ s.reference = own_reference_of h.settings _ _ c (fault_of h.settings c) ∙ sym x.reference in
    let adds : Adds via a a' h1 s = search (arith, new_still via a h h1 told s.reference m m1 x.adds.new) in
    pushes_match via a a' h1 (with_end via h1 e) s told told' (ended_pushes via a a' h1 told s e adds own code m1) m1 f

-- ---- a command that is submitted

message_taken : {K : Type 0} (via : Connection) (h : Holdings K) (b : List ℕ)
    → refusal (balance_of via h) (outstanding_of via h) b ≡ None
    → (answer_to_message via h b ≡ Ok (taken_as via h (command_of b)))
    × (after_message via h b ≡ arrives via h (command_of b))
message_taken via h b e = (rw e refl, rw e refl)

arrives_match : {K : Type 0} (via : Connection) (a a' : Account) (h : Holdings K) (told : Flight) (s : Submission)
    (c : Command) → Arrives via a a' h s c → Matches via a h told → a'.watch ≡ a.watch
    → Matches via a' (arrives via h c) told
arrives_match {K} via a a' h told s c x m w =
    let h1 : Holdings K = aborting via h c.order in
    let e = answered_end via h c in
    let flight = flight_on (of via h1.untaken) a.watch told e (aborting_matches via a h told c.order m).flight in
    let ended : of via (with_end via h1 e).untaken ≡ of via h1.untaken ++ e ∷ [] = of_more via h1.untaken (e ∷ []) in
    elim (is_queued h.settings c) as (λ b. Matches via a' (if b then queued via h c else with_end via h1 e) told) [
      | true ↦ arrives_queued via a a' h told s c x m w
      | false ↦ arrives_ended via a a' h told told s c x m (subst (λ us. HasFlight us a'.watch told) (sym ended)
          (subst (λ (o : Option Watch). HasFlight (of via h1.untaken ++ e ∷ []) o told) (sym w) flight))
    ]

-- what the host submits the controller takes in
pub record TakesIn {K : Type 0} (via : Connection) (h : Holdings K) (b : List ℕ) (a' : Account) (told : Flight) :
    Type 0 where
  pub taken : answer_to_message via h b ≡ Ok (taken_as via h (command_of b))
  pub match : Matches via a' (after_message via h b) told

pub submitted_match : {K : Type 0} (via : Connection) (a : Account) (h : Holdings K) (told : Flight) (c : Command)
    → c.reference < 2 ^ 32 → c.unit < 2 ^ 16 → Matches via a h told
    → host.refusal a (opcode_byte c.order) c.reference ≡ None → TakesIn via h (command_bytes c) (submitted a c) told
submitted_match {K} via a h told c small unit m e =
    let k = carries c small in
    let f = free a (opcode_byte c.order) c.reference e in
    let b = command_bytes c in
    let both = message_taken via h b (taken_in via a h told c m k f) in
    let x : Arrives via a (submitted a c) h (submission_of c) (command_of b) =
    search (arith, nobody_named via a h told c.reference m f.new, same_reference c k, same_opcode c k, coded b) in
    search (arith, arrives_match via a (submitted a c) h told (submission_of c) (command_of b) x m refl)

-- ---- a poll

same_command : (c : Command) → IsValidOrder c.order → HasCommandRange c → command_of (command_bytes c) ≡ c
same_command c valid fits = search (arith, command_bytes_are_messages c valid fits, command_read c)

-- what is found is there, under its number
found_named : (p : Submission → Bool) (xs : List Submission) (s : Submission) → find p xs ≡ Some s
    → list_any (has_reference s.reference) xs ≡ true
found_named p xs s e = true_from_ne_false _ (λ n. true≢false (sym (eq-eqb s.reference s.reference refl)
    ∙ (found (λ x. has_reference s.reference x ≡ false) p xs s (none_any (has_reference s.reference) xs n) e).0))

any_ends : (n : ℕ) (us : List End) → list_any (λ x. nat_eq x n) (numbers_ended us)
    ≡ list_any (λ e. nat_eq e.reference n) us
any_ends n us = any_map (λ (e : End). e.reference) (λ x. nat_eq x n) us

second_of : (p q : Bool) → (p || q) ≡ true → p ≡ false → q ≡ true
second_of p q h2 h3 = grind (arith, true≢false)

-- what the poll of this submission is told
abbrev pub told_now : {K : Type 0} → Connection → Holdings K → Submission → Flight
told_now via h s = record {
  figure = figure_of_name h.settings.budget h.waiting (name_on via s.reference);
  waited = list_any (λ x. nat_eq x s.reference) (numbers (waiting_on via h.waiting));
}

poll_flight : {K : Type 0} (via : Connection) (a : Account) (h : Holdings K) (told : Flight) (r : ℕ) (s : Submission)
    → Matches via a h told → list_any (has_reference s.reference) a.outstanding ≡ true → HasFlight
    (of via (with_end via (aborting via h (orders.Status s.reference)) (answered_end via h (poll_of r s))).untaken)
    (watching a r s).watch (told_now via h s)
poll_flight {K} via a h told r s m there =
    search (
      arith,
      of_more via h.untaken [],
      same_holds via a h told s.reference m,
      append-nil (of via h.untaken),
      any_ends s.reference (of via h.untaken),
      list_any-append,
      second_of,
    )

pub polled_match : {K : Type 0} (via : Connection) (a : Account) (h : Holdings K) (told : Flight) (r : ℕ)
    (s : Submission) → r < 2 ^ 32 → Matches via a h told → host.oldest a ≡ Some s
    → host.refusal a (opcode_byte (poll_of r s).order) r ≡ None
    → TakesIn via h (command_bytes (poll_of r s)) (watching a r s) (told_now via h s)
polled_match {K} via a h told r s small m find e =
    let c = poll_of r s in
    let b = command_bytes c in
    let p : Submission → Bool = λ s. not (is_immediate s.opcode) in
    let fits = (found IsSmall p a.outstanding s m.small find).0 in
    let same : command_of b ≡ c = same_command c tt (small, fits.1, fits.0) in
    let k = carries c small in
    let f = free a (opcode_byte c.order) r e in
    let both = message_taken via h b (taken_in via a h told c m k f) in
    let x : Arrives via a (watching a r s) h (submission_of c) c =
    search (arith, nobody_named via a h told r m f.new, coded b) in
    let match : Matches via (watching a r s) (arrives via h c) (told_now via h s) =
    arrives_ended via a (watching a r s) h told (told_now via h s) (submission_of c) c x m
    (poll_flight via a h told r s m (found_named p a.outstanding s find)) in
    search arith
