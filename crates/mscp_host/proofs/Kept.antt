-- What a host keeps, as the list so far says it, after a moment in which no end is heard.
use Rattle.mscp_host.proofs.Common.{◌≡◌, ℕ, ◌+◌, ◌<◌, ◌≤◌, Bool, true, false, cond, List, map, refl, ap, sym, ◌∙◌, arith, append-nil, ◌&&◌, filter, not, Option, Some, None, option_map, Ok, option_or, and-true, false≢true, map-append, find-append, ArrayVec, Command, Submission, is_immediate, oldest, submitted, watching, Moment, Submit, Ask, History, account_at, asked_for, end_heard, is_end_of, found_stands, in_flight, is_poll, is_sent, moment, opcode_in, outstanding, reference, submission_at, unit_found, unit_in, unit_named, watch_at}
use Rattle.mscp_host.specs.declared.news.Poll.TheVariants as polls
use Rattle.mscp_host.proofs.Collected.{ends_now, found_before, found_out, last_then, out_all, out_old, outstanding_more, untold}
use Rattle.mscp_host.proofs.Lists.{filter_all, find_map, find_none}

-- no end is heard at j
abbrev pub NoEnd : History → ℕ → Type 0
NoEnd h j = end_heard (moment h j) ≡ None

pub all_stay : (h : History) (j : ℕ) → NoEnd h j
    → filter (λ i. not (ends_now h j i)) (outstanding h j) ≡ outstanding h j
all_stay h j n = filter_all _ (outstanding h j) (out_all _ h j (λ x e. ap (λ o. not (is_end_of (reference h x) o)) n))

-- whether a command that was found ends now
abbrev pub ends_found : History → ℕ → Option ℕ → Bool
ends_found h j None = false
ends_found h j (Some i) = ends_now h j i

stands_of : (h : History) (j : ℕ) (o : Option ℕ) → ((x : ℕ) → o ≡ Some x → x < j)
    → found_stands h (j + 1) o ≡ (found_stands h j o && not (ends_found h j o))
stands_of h j o h1 = search (arith, out_old)

-- the command that a poll is about is still outstanding, unless it ends now
pub stands_then : (h : History) (j p : ℕ) → p ≤ j → found_stands h (j + 1) (asked_for h p)
    ≡ (found_stands h j (asked_for h p) && not (ends_found h j (asked_for h p)))
stands_then h j p l = stands_of h j (asked_for h p)
    (λ x e. let m : x < p = found_before h p x _ e in omega (arith, l, m))

-- what is kept of the commands and of a poll stays
subs_same : (h : History) (j : ℕ) (xs : List ℕ) → NoEnd h j
    → map (submission_at h (j + 1)) xs ≡ map (submission_at h j) xs
subs_same h j o n = grind (arith, last_then, find_none, out_all)

watches_same : (h : History) (j : ℕ) (o : Option ℕ) → NoEnd h j → ((p : ℕ) → o ≡ Some p → p < j)
    → option_map (watch_at h (j + 1)) o ≡ option_map (watch_at h j) o
watches_same h j o h1 h2 = search (arith, stands_then, and-true)

flight_before : (h : History) (j p : ℕ) → in_flight h j ≡ Some p → p < j
flight_before h j p e = found_before h j p _ e

-- nothing is sent either
pub account_quiet : (credits : ℕ) (h : History) (j : ℕ) → NoEnd h j → is_sent (moment h j) ≡ false
    → account_at credits h (j + 1) ≡ account_at credits h j
account_quiet credits h j n s =
    grind (arith, outstanding_more, all_stay, append-nil, subs_same, watches_same, flight_before)

-- ---- a command is sent

flight_sent : (h : History) (j : ℕ) → NoEnd h j → is_sent (moment h j) ≡ true
    → in_flight h (j + 1) ≡ option_or (in_flight h j) (cond (is_poll (moment h j)) (Some j) None)
flight_sent h j n s = grind (arith, outstanding_more, all_stay, find-append)

pub account_submitted : (credits : ℕ) (h : History) (j : ℕ) (command : Command) (b : ArrayVec ℕ)
    → moment h j ≡ Submit command (Ok b) → account_at credits h (j + 1) ≡ submitted (account_at credits h j) command
account_submitted credits h j command b m =
    grind (arith, outstanding_more, all_stay, subs_same, map-append, untold, flight_sent, watches_same, flight_before)

-- ---- a poll is sent

pub oldest_is : (credits : ℕ) (h : History) (j : ℕ)
    → oldest (account_at credits h j) ≡ option_map (submission_at h j) (asked_for h j)
oldest_is credits h j = search (arith, find_map)

unit_same : (h : History) (i : ℕ) (m : Moment) → not (is_immediate (opcode_in m)) ≡ true → unit_in m ≡ unit_named h i m
unit_same h i m e = grind (arith, false≢true)

-- the submission that a poll is about
pub record Polls (credits : ℕ) (h : History) (j : ℕ) (s : Submission) : Type 0 where
  pub command : ℕ
  pub found : asked_for h j ≡ Some command
  pub is : s ≡ submission_at h j command

polls_when : (credits : ℕ) (h : History) (j : ℕ) (s : Submission) (o : Option ℕ)
    → asked_for h j ≡ o → option_map (submission_at h j) o ≡ Some s → Polls credits h j s
polls_when credits h j s o e f = grind (arith, false≢true)

pub polls_of : (credits : ℕ) (h : History) (j : ℕ) (s : Submission)
    → oldest (account_at credits h j) ≡ Some s → Polls credits h j s
polls_of credits h j s e = polls_when credits h j s (asked_for h j) refl (sym (oldest_is credits h j) ∙ e)

-- the unit that a poll is to
pub polled_unit : (credits : ℕ) (h : History) (j : ℕ) (s : Submission) → oldest (account_at credits h j) ≡ Some s
    → unit_found h (asked_for h j) ≡ s.unit
polled_unit credits h j s o =
    let p = polls_of credits h j s o in
    ap (unit_found h) p.found ∙ (unit_same h p.command (moment h p.command) (found_out h j p.command _ p.found).1
    ∙ sym (ap (λ (x : Submission). x.unit) p.is))

-- that command is outstanding, and stays so
asked_stands : (h : History) (j i : ℕ) → NoEnd h j → asked_for h j ≡ Some i
    → found_stands h (j + 1) (asked_for h j) ≡ true
asked_stands h j i n e = search (arith, stands_then, found_out)

pub account_asked : (credits : ℕ) (h : History) (j r : ℕ) (s : Submission) (b : ArrayVec ℕ)
    → moment h j ≡ Ask r (Ok (polls.Ask b)) → in_flight h j ≡ None → oldest (account_at credits h j) ≡ Some s
    → account_at credits h (j + 1) ≡ watching (account_at credits h j) r s
account_asked credits h j r s b m w o =
    let p = polls_of credits h j s o in
    let n : NoEnd h j = ap end_heard m in
    let stands = asked_stands h j p.command n p.found in
    let unit = polled_unit credits h j s o in
    search (arith, outstanding_more, all_stay, subs_same, map-append, untold, flight_sent)
