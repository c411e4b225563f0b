-- What the host of a connection and a controller keep of each other stays so, whatever comes.
use Rattle.mscp_sim.proofs.Common.{◌≡◌, ℕ, suc, ◌+◌, List, [], ◌∷◌, ◌++◌, map, length, refl, ap, sym, ◌∙◌, subst, arith, append_assoc, Option, AllByRecursion, eqb-true, length-append, map-append, Command, End, endcode, Record, every_append, every_parts, every_weaker, Connection, of, Holdings, numbers, numbers_ended, outstanding_of, waiting_on, Submission, Watch, Account, Flight, HasFlight, IsAwaited, IsKnown, IsSmall, Matches, commands, times}
use Rattle.mscp_sim.proofs.TwoEnds.Counting.{times_append, opcode_pushed}

-- ---- names

-- the names of commands
abbrev pub called : List Command → List ℕ
called cs = map (λ c. c.reference) cs

numbers_called : (rs : List Record) → numbers rs ≡ called (commands rs)
numbers_called [] = refl
numbers_called (r ∷ rs) = ap (λ ns. r.command.reference ∷ ns) (numbers_called rs)

length_commands : (rs : List Record) → length (commands rs) ≡ length rs
length_commands [] = refl
length_commands (r ∷ rs) = ap (λ n. suc n) (length_commands rs)

-- how often a number stands among the commands that wait and the ends
abbrev pub counted : ℕ → List Command → List End → ℕ
counted r cs us = times r (called cs) + times r (numbers_ended us)

pub counted_numbers : {K : Type 0} (r : ℕ) (via : Connection) (h : Holdings K)
    → times r (outstanding_of via h) ≡ counted r (commands (waiting_on via h.waiting)) (of via h.untaken)
counted_numbers r via h = grind (arith, times_append, numbers_called)

pub times_called : (r : ℕ) (xs ys : List Command) → times r (called (xs ++ ys)) ≡ times r (called xs)
    + times r (called ys)
times_called r xs ys = search (arith, times_append r (called xs) (called ys), map-append)

pub times_ends : (r : ℕ) (xs ys : List End) → times r (numbers_ended (xs ++ ys)) ≡ times r (numbers_ended xs)
    + times r (numbers_ended ys)
times_ends r xs ys = search (arith, times_append r (numbers_ended xs) (numbers_ended ys), map-append)

-- ---- the flight

pub flight_on : (us : List End) (w : Option Watch) (told : Flight) (e : End) → HasFlight us w told
    → HasFlight (us ++ e ∷ []) w told
flight_on us w told e h4 = grind (arith, append_assoc)

-- ---- the commands stay where they are

-- nothing that a match asks for is changed
pub stays : {K : Type 0} (via : Connection) (a : Account) (h h' : Holdings K) (told : Flight)
    → commands (waiting_on via h'.waiting) ≡ commands (waiting_on via h.waiting) → of via h'.untaken ≡ of via h.untaken
    → h'.settings ≡ h.settings → Matches via a h told → Matches via a h' told
stays {K} via a h h' told w u s m =
    let counts : (r : ℕ) → times r (outstanding_of via h') ≡ times r (outstanding_of via h) =
    λ r. counted_numbers r via h' ∙ ((λ i. counted r (w i) (u i)) ∙ sym (counted_numbers r via h)) in
    search (arith, length_commands)

-- ---- a command ends

-- the command of a waiting record has its end
pub record Ends {K : Type 0} (via : Connection) (h h' : Holdings K) : Type 0 where
  pub front : List Command
  pub own : Command
  pub back : List Command
  pub end : End
  pub waited : commands (waiting_on via h.waiting) ≡ front ++ own ∷ back
  pub left : commands (waiting_on via h'.waiting) ≡ front ++ back
  pub ends : of via h'.untaken ≡ of via h.untaken ++ end ∷ []
  pub reference : end.reference ≡ own.reference
  pub code : end.code ≡ endcode own.order
  pub settings : h'.settings ≡ h.settings

ends_counted : {K : Type 0} (r : ℕ) (via : Connection) (h h' : Holdings K) → (x : Ends via h h')
    → times r (outstanding_of via h') ≡ times r (outstanding_of via h)
ends_counted {K} r via h h' x = grind (arith, times_called, times_ends, counted_numbers)

pub ends_match : {K : Type 0} (via : Connection) (a : Account) (h h' : Holdings K) (told : Flight) → Ends via h h'
    → Matches via a h told → Matches via a h' told
ends_match {K} via a h h' told x m =
    let counts : (r : ℕ)
    → times r (outstanding_of via h') ≡ times r (outstanding_of via h) = λ r. ends_counted r via h h' x in
    let waited = subst (AllByRecursion (IsKnown a.outstanding)) x.waited m.waits in
    let parts = every_parts (IsKnown a.outstanding) x.front (x.own ∷ x.back) waited in
    search (arith, length_commands, length-append, every_append, flight_on)

-- ---- a command arrives

-- a submission is pushed whose number is new, and a record that waits, or an end
pub known_more : (xs : List Submission) (s : Submission) (cs : List Command) → AllByRecursion (IsKnown xs) cs
    → AllByRecursion (IsKnown (xs ++ s ∷ [])) cs
known_more xs s cs h = search (arith, every_weaker, opcode_pushed)

pub awaited_more : (xs : List Submission) (s : Submission) (us : List End) → AllByRecursion (IsAwaited xs) us
    → AllByRecursion (IsAwaited (xs ++ s ∷ [])) us
awaited_more xs s us h = search (arith, every_weaker, opcode_pushed)

-- the host keeps one more submission, whose number is new to the controller
pub record Adds {K : Type 0} (via : Connection) (a a' : Account) (h : Holdings K) (s : Submission) : Type 0 where
  pub credits : a'.credits ≡ a.credits
  pub outstanding : a'.outstanding ≡ a.outstanding ++ s ∷ []
  pub small : IsSmall s
  pub new : times s.reference (outstanding_of via h) ≡ 0

-- what is known where a submission is pushed: the controller has its number once more
pub record Pushes {K : Type 0} (via : Connection) (a a' : Account) (h h' : Holdings K) (s : Submission) : Type 0 where
  pub adds : Adds via a a' h s
  pub open adds use *
  pub counts : (r : ℕ) → times r (outstanding_of via h') ≡ times r (outstanding_of via h) + times r (s.reference ∷ [])
  pub more : length (waiting_on via h'.waiting) + length (of via h'.untaken)
      ≡ length (waiting_on via h.waiting) + length (of via h.untaken) + 1
  pub settings : h'.settings ≡ h.settings
  pub waits : AllByRecursion (IsKnown (a.outstanding ++ s ∷ [])) (commands (waiting_on via h'.waiting))
  pub ends : AllByRecursion (IsAwaited (a.outstanding ++ s ∷ [])) (of via h'.untaken)

pub pushes_match : {K : Type 0} (via : Connection) (a a' : Account) (h h' : Holdings K) (s : Submission)
    (told told' : Flight) → Pushes via a a' h h' s → Matches via a h told → HasFlight (of via h'.untaken) a'.watch told'
    → Matches via a' h' told'
pushes_match {K} via a a' h h' s told told' x m f =
    grind (arith, length-append, every_append, map-append, times_append, eqb-true)
