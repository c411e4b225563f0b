-- One moment more: what the list says, and what the host says of an end.
use Rattle.mscp_host.proofs.Common.{◌≡◌, ℕ, ◌+◌, Bool, true, false, List, [], ◌∷◌, ◌++◌, refl, ap, sym, ◌∙◌, arith, find, nat_eq, if◌then◌else◌, Option, Some, None, is_some, option_map, Result, Ok, Err, list_any, eq-eqb, false≢true, true≢false, ArrayVec, Command, End, EndFault, opcode_byte, HostFault, News, Poll, Submission, Account, answered, asks, asks_unless, end_in, has_reference, heard, heard_in, heard_of, oldest, poll_of, submits_unless, are_apart, Moment, Submit, Ask, Receive, Settle, Other, History, account_at, asked_for, end_heard, end_or_none, handed_over, is_end_of, in_flight, is_outstanding, is_poll, is_sent, moment, news_heard, outstanding, reference, submission_at, watch_at, Answers, IsHeard, Settles}
use Rattle.mscp_host.specs.declared.news.Poll.TheVariants as polls
use Rattle.mscp_host.specs.Accounts as host
use Rattle.mscp_host.proofs.Apart.{apart_more, apart_without}
use Rattle.mscp_host.proofs.Collected.{each_out, one_more}
use Rattle.mscp_host.proofs.Kept.{account_asked, account_quiet, account_submitted, polls_of}
use Rattle.mscp_host.proofs.Lists.{any_map, find_map, none_any, none_found}
use Rattle.mscp_host.proofs.Received.{Hears, IsApart, account_received, apart_with, says_is}
use Rattle.mscp_host.proofs.Told.{not_refused}

-- what is known of a moment, after which the host keeps this
pub record Goes (credits : ℕ) (h : History) (j : ℕ) (new : Account) : Type 0 where
  pub kept : new ≡ account_at credits h (j + 1)
  pub apart : IsApart credits h (j + 1)
  pub ends : (n : News) → news_heard (moment h j) ≡ Some n → IsHeard h j n
  pub polls : is_poll (moment h j) ≡ true → (in_flight h j ≡ None) × (i : ℕ) × (asked_for h j ≡ Some i)

-- ---- nothing is sent, and no end is heard

no_end : (m : Moment) → news_heard m ≡ None → end_heard m ≡ None
no_end m e = grind (arith, true≢false)

no_poll : (m : Moment) → is_sent m ≡ false → is_poll m ≡ false
no_poll m e = grind (arith, true≢false)

-- nothing is in flight where nothing is watched
idle_of : (h : History) (j : ℕ) (o : Option ℕ) → is_some (option_map (watch_at h j) o) ≡ false → o ≡ None
idle_of h j o e = grind (arith, true≢false)

-- an end that isn't refused
record Accepts (a : Account) (b : List ℕ) (n : News) (new : Account) : Type 0 where
  end : End
  read : end_in b ≡ Ok end
  settles : Settles a end n new

accepts_found : (a : Account) (b : List ℕ) (n : News) (new : Account) (e : End) (o : Option Submission)
    → end_in b ≡ Ok e → find (has_reference e.reference) a.outstanding ≡ o → heard_of a e o ≡ (Ok n, new)
    → Accepts a b n new
accepts_found a b n new e o r f h = grind (arith, false≢true)

accepts : (a : Account) (b : List ℕ) (n : News) (new : Account) (r : Result End EndFault) → end_in b ≡ r
    → heard_in a r ≡ (Ok n, new) → Accepts a b n new
accepts a b n new r h1 h2 = search (arith, false≢true, accepts_found)

refused : (a : Account) (fault : HostFault) (new : Account) (r : Result End EndFault)
    → heard_in a r ≡ (Err fault, new) → new ≡ a
refused a fault new r h1 = search (arith, true≢false)

-- the command whose end it is
handed_of : (h : History) (j : ℕ) (e : End) (s : Submission) (o : Option ℕ)
    → find (λ i. nat_eq (reference h i) e.reference) (outstanding h j) ≡ o
    → option_map (submission_at h j) o ≡ Some s → end_heard (moment h j) ≡ Some e → (p : ℕ) × (handed_over h j ≡ Some p)
handed_of h j e s None f q r = absurd (false≢true (ap is_some q))
handed_of h j e s (Some p) f q r = (p, ap (λ o. find (λ i. is_end_of (reference h i) o) (outstanding h j)) r ∙ f)

-- ---- one moment

module _ (credits : ℕ) (h : History) (j : ℕ) (a : IsApart credits h j) where
  -- nothing new is outstanding
  still_apart : is_sent (moment h j) ≡ false
      → are_apart (account_at credits h (j + 1)).outstanding ≡ true → IsApart credits h (j + 1)
  still_apart s subs = record {
    submissions = subs;
    names = one_more _ h j (λ x y r. sym r) (λ q. absurd (false≢true (sym s ∙ q))) a.names;
    polls = one_more _ h j (λ x y r. (r.1, r.0)) (λ q. absurd (false≢true (sym s ∙ q))) a.polls;
  }

  quiet : (new : Account) → is_sent (moment h j) ≡ false
      → news_heard (moment h j) ≡ None → new ≡ account_at credits h j → Goes credits h j new
  quiet new s n e =
      let same = account_quiet credits h j (no_end (moment h j) n) s in
      search (arith, still_apart, true≢false, false≢true, no_poll)

  -- ---- a command is sent

  -- its number is new
  new_name : list_any (has_reference (reference h j)) (account_at credits h j).outstanding ≡ false
      → (x : ℕ) → is_outstanding h j x ≡ true → reference h x ≡ reference h j → ⊥
  new_name none x e r =
      let all = none_any _ (outstanding h j)
      (sym (any_map (submission_at h j) (has_reference (reference h j)) (outstanding h j)) ∙ none) in
      true≢false (sym (eq-eqb _ _ r) ∙ each_out (λ y. nat_eq (reference h y) (reference h j) ≡ false) h j x all e)

  apart_sent : (s : Submission) → list_any (has_reference (reference h j)) (account_at credits h j).outstanding ≡ false
      → s.reference ≡ reference h j
      → (account_at credits h (j + 1)).outstanding ≡ (account_at credits h j).outstanding ++ s ∷ []
      → (is_poll (moment h j) ≡ true → in_flight h j ≡ None) → IsApart credits h (j + 1)
  apart_sent s none r more idle = record {
    submissions = grind (arith, apart_more);
    names = one_more _ h j (λ x y r. sym r) (λ q. new_name none) a.names;
    polls = one_more _ h j (λ x y r. (r.1, r.0)) (λ q x e r. true≢false (sym r.0
        ∙ each_out (λ y. is_poll (moment h y) ≡ false) h j x (none_found _ (outstanding h j) (idle r.1)) e)) a.polls;
  }

  submit_goes : (command : Command) (answer : Result (ArrayVec ℕ) HostFault)
      (new : Account) (o : Option HostFault) → moment h j ≡ Submit command answer
      → host.refusal (account_at credits h j) (opcode_byte command.order) command.reference ≡ o
      → submits_unless (account_at credits h j) command o ≡ (answer, new) → Goes credits h j new
  submit_goes command answer new (Some fault) m r e =
      let err : Err fault ≡ answer = ap (λ p. p.0) e in
      quiet new (ap is_sent m ∙ ap (λ x. is_sent (Submit command x)) (sym err)) (ap news_heard m)
      (sym (ap (λ p. p.1) e))
  submit_goes command answer new None m r e =
      let ok = ap (λ p. p.0) e in
      let sent = m ∙ ap (Submit command) (sym ok) in
      let after = account_submitted credits h j command _ sent in
      let none = (not_refused (account_at credits h j) (opcode_byte command.order) command.reference r).2 in
      search (arith, apart_sent, false≢true)

  -- ---- a poll

  ask_goes : (n : ℕ) (s : Submission) (answer : Result Poll HostFault) (new : Account) (o : Option HostFault)
      → moment h j ≡ Ask n answer → in_flight h j ≡ None → oldest (account_at credits h j) ≡ Some s
      → host.refusal (account_at credits h j) (opcode_byte (poll_of n s).order) n ≡ o
      → asks_unless (account_at credits h j) n s o ≡ (answer, new) → Goes credits h j new
  ask_goes n s answer new (Some fault) m idle old r e =
      let err : Err fault ≡ answer = ap (λ p. p.0) e in
      quiet new (ap is_sent m ∙ ap (λ x. is_sent (Ask n x)) (sym err)) (ap news_heard m) (sym (ap (λ p. p.1) e))
  ask_goes n s answer new None m idle old r e =
      let ok = ap (λ p. p.0) e in
      let sent = m ∙ ap (Ask n) (sym ok) in
      let after = account_asked credits h j n s _ sent idle old in
      let none = (not_refused (account_at credits h j) (opcode_byte (poll_of n s).order) n r).2 in
      let about = polls_of credits h j s old in
      search (arith, apart_sent, false≢true)

  oldest_goes : (n : ℕ) (o : Option Submission) (answer : Result Poll HostFault)
      (new : Account) → moment h j ≡ Ask n answer → in_flight h j ≡ None
      → oldest (account_at credits h j) ≡ o → asks (account_at credits h j) n o ≡ (answer, new) → Goes credits h j new
  oldest_goes n None answer new m idle old e =
      let none = ap (λ p. p.0) e in
      quiet new (ap is_sent m ∙ ap (λ x. is_sent (Ask n x)) (sym none)) (ap news_heard m) (sym (ap (λ p. p.1) e))
  oldest_goes n (Some s) answer new m idle old e = ask_goes n s answer new _ m idle old refl e

  poll_goes : (n : ℕ) (b : Bool) (answer : Result Poll HostFault)
      (new : Account) → moment h j ≡ Ask n answer → is_some (account_at credits h j).watch ≡ b
      → (if b then (Ok polls.Busy, account_at credits h j) else asks (account_at credits h j) n
      (oldest (account_at credits h j)))
      ≡ (answer, new) → Goes credits h j new
  poll_goes n true answer new m w e =
      let busy = ap (λ p. p.0) e in
      quiet new (ap is_sent m ∙ ap (λ x. is_sent (Ask n x)) (sym busy)) (ap news_heard m) (sym (ap (λ p. p.1) e))
  poll_goes n false answer new m w e = oldest_goes n _ answer new m (idle_of h j (in_flight h j) w) refl e

  -- ---- an end

  hear_goes : (e : End) (n : News) (new : Account) → is_sent (moment h j) ≡ false → end_heard (moment h j) ≡ Some e
      → news_heard (moment h j) ≡ Some n → Settles (account_at credits h j) e n new → Goes credits h j new
  hear_goes e n new silent heard said x =
      let p = handed_of h j e x.submission _ refl
      (sym (find_map (submission_at h j) (has_reference e.reference) (outstanding h j)) ∙ x.found) heard in
      let hears : Hears credits h j e p.0 = grind (arith, p) in
      let after = account_received hears in
      search (arith, still_apart, apart_without, apart_with, answered, says_is, false≢true, no_poll)

  pub step : (new : Account) (m : Moment) → moment h j ≡ m
      → Answers (account_at credits h j) m new → Goes credits h j new
  step new (Submit command answer) m e = submit_goes command answer new _ m refl e
  step new (Ask n answer) m e = poll_goes n _ answer new m refl e
  step new (Receive b (Ok n)) m e =
      let x = accepts _ b n new _ refl e in
      hear_goes x.end n new (ap is_sent m) (ap end_heard m ∙ ap end_or_none x.read) (ap news_heard m) x.settles
  step new (Settle end n) m e = hear_goes end n new (ap is_sent m) (ap end_heard m) (ap news_heard m) e
  step new (Receive b (Err fault)) m e = quiet new (ap is_sent m) (ap news_heard m) (refused _ fault new _ e)
  step new Other m e = quiet new (ap is_sent m) (ap news_heard m) e
