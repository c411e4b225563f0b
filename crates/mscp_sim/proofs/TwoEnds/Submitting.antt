-- What a turn in which the host submits, or polls, leaves.
use Rattle.mscp_sim.proofs.Common.{◌≡◌, ℕ, ◌<◌, ◌^◌, true, List, refl, ap, sym, ◌∙◌, subst, arith, Option, Some, None, is_ok, Result, Ok, Err, false≢true, true≢false, ArrayVec, Command, command_bytes, command_of, opcode_byte, Connection, Sent, SendFault, Holdings, after_message, answer_to_message, taken_as, HostFault, Poll, Submission, Account, asks_unless, oldest, poll_of, polls_oldest, submits, submits_unless, Flight, MatchOn, Matches}
use Rattle.mscp_host.specs.Accounts.{refusal}
use Rattle.mscp_host.specs.declared.news.Poll.TheVariants as polls
use Rattle.mscp_sim.proofs.TwoEnds.Sending.{carries, polled_match, same_reference, submitted_match, told_now}

-- ---- what was answered

-- the host asks
abbrev asked_or : Result Poll HostFault → ArrayVec ℕ → List ℕ
asked_or (Ok (polls.Ask b)) other = b.items
asked_or p other = other.items

-- a message that is taken in isn't refused
pub not_refused : {K : Type 0} (via : Connection) (h : Holdings K) (b c : List ℕ) (r : Result Sent SendFault)
    (sent : Sent) → r ≡ answer_to_message via h b → b ≡ c → answer_to_message via h c ≡ Ok sent → is_ok r ≡ true
not_refused via h b c r sent e same taken = ap is_ok (e ∙ (ap (answer_to_message via h) same ∙ taken))

-- ---- a command

module _ {K : Type 0} (via : Connection) (a : Account) (h : Holdings K) where
  -- where the host takes the command, so does the controller
  pub record Submits (told : Flight) (c : Command) (sent : List ℕ) (a' : Account) : Type 0 where
    pub named : (command_of sent).reference ≡ c.reference
    pub taken : answer_to_message via h sent ≡ Ok (taken_as via h (command_of sent))
    pub match : Matches via a' (after_message via h sent) told

  submits_when : (told : Flight) (c : Command) (o : Option HostFault) (b : ArrayVec ℕ) (a' : Account)
      → c.reference < 2 ^ 32 → c.unit < 2 ^ 16 → Matches via a h told → refusal a (opcode_byte c.order) c.reference ≡ o
      → submits_unless a c o ≡ (Ok b, a') → Submits told c b.items a'
  submits_when told c (Some fault) b a' r u m o e = absurd (false≢true (ap (λ p. is_ok p.0) e))
  submits_when told c None b a' r u m o e =
      search (arith, submitted_match via a h told c r u m o, same_reference c (carries c r))

  pub submits_match : (told : Flight) (c : Command) (b : ArrayVec ℕ) (a' : Account) → c.reference < 2 ^ 32
      → c.unit < 2 ^ 16 → Matches via a h told → submits a c ≡ (Ok b, a') → Submits told c b.items a'
  submits_match told c b a' r u m e = submits_when told c _ b a' r u m refl e

  -- ---- a poll

  -- where the host asks, the controller takes its poll
  pub record Asks (r : ℕ) (sent : List ℕ) (a' : Account) : Type 0 where
    pub about : Submission
    pub oldest : oldest a ≡ Some about
    pub named : (command_of sent).reference ≡ r
    pub taken : answer_to_message via h sent ≡ Ok (taken_as via h (command_of sent))
    pub match : Matches via a' (after_message via h sent) (told_now via h about)

  -- a host that may ask about s under the number r: it is the oldest that it may ask about
  record MayAsk (r : ℕ) (s : Submission) : Type 0 where
    pub small : r < 2 ^ 32
    pub match : MatchOn via a h
    pub oldest : oldest a ≡ Some s

  asks_when : (r : ℕ) (s : Submission) (o : Option HostFault) (b : ArrayVec ℕ) (a' : Account) → MayAsk r s
      → refusal a (opcode_byte (poll_of r s).order) r ≡ o → asks_unless a r s o ≡ (Ok (polls.Ask b), a')
      → Asks r b.items a'
  asks_when r s (Some fault) b a' x o e = absurd (false≢true (ap (λ p. is_ok p.0) e))
  asks_when r s None b a' x o e =
      let c = poll_of r s in
      let message : b.items ≡ command_bytes c = ap (λ p. asked_or p.0 b) (sym e) in
      let y = polled_match via a h x.match.0 r s x.small x.match.1 x.oldest o in
      record {
        about = s;
        oldest = x.oldest;
        named = ap (λ q. (command_of q).reference) message ∙ same_reference c (carries c x.small);
        taken = subst (λ q. answer_to_message via h q ≡ Ok (taken_as via h (command_of q))) (sym message) y.taken;
        match = grind (arith, message, y);
      }

  pub asks_match : (r : ℕ) (b : ArrayVec ℕ) (a' : Account) → r < 2 ^ 32 → MatchOn via a h
      → polls_oldest a r ≡ (Ok (polls.Ask b), a') → Asks r b.items a'
  asks_match r b a' l m e = grind (arith, false≢true, asks_when)

-- ---- where the host sends nothing, nothing changes

module _ (a : Account) where
  pub submits_kept : (c : Command) (fault : HostFault) (a' : Account) → submits a c ≡ (Err fault, a') → a' ≡ a
  submits_kept c fault a' e = grind (arith, true≢false)
