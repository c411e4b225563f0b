-- The host of 64 credits in a host of a port, and the commands that the latter keeps, over a whole history.
use Rattle.mscp_host.proofs.Common.{Account, Answered, Answers, Asked, Bool, End, History, List, None, Option, PortAccount, PortAnswered, PortHistory, PortHostsKeepTheirHistory, PortMoment, Settles, Some, Submission, [], account_at, and_parts, answered, ap, append-nil, are_apart, arith, as_read, asked_at, drop, drop_all, drop_more, end_heard, eqb-true, false, false≢true, filter, find, fresh_of_port, get_or-map, has_reference, is_of, is_sent, is_some, length, length-map, list_any, map, map-append, moment, nat_eq, news_with, not, not-true, oldest, option_map, or_parts, outstanding, reference, refl, seen, slice_index_or, submission_at, subst, suc, sym, true, without_by, zero, ℕ, ◌++◌, ◌+◌, ◌<◌, ◌∙◌, ◌∷◌, ◌≡◌, ◌≤◌}
use Rattle.mscp_host.specs.Histories as hosts
use Rattle.mscp_host.specs.PortHistories.{Other}
use Rattle.mscp_host.proofs.Collected.{outstanding_more}
use Rattle.mscp_host.proofs.Kept.{NoEnd, all_stay, polled_unit}
use Rattle.mscp_host.proofs.Lists.{find_map}
use Rattle.mscp_host.proofs.Moments.{Ends, Kind, Polls, Stays, Submits, kind}
use Rattle.mscp_host.proofs.Ported.{read_reference}
use Rattle.mscp_host.proofs.Promised.{keeps_history, start}
use Rattle.mscp_host.proofs.Received.{IsApart}
use Rattle.mscp_host.proofs.Stepping.{step}

-- ---- what is outstanding after a moment

outs_ended : (s : History) (j : ℕ) (e : End) → is_sent (moment s j) ≡ false → end_heard (moment s j) ≡ Some e
    → outstanding s (j + 1) ≡ filter (λ i. not (nat_eq (reference s i) e.reference)) (outstanding s j)
outs_ended s j e silent heard = grind (arith, outstanding_more, append-nil)

-- ---- one leaves

kept_all : (s : History) (j r : ℕ) (xs : List ℕ)
    → list_any (has_reference r) (map (submission_at s j) xs) ≡ false
    → filter (λ i. not (nat_eq (reference s i) r)) xs ≡ xs
kept_all s j r [] e = refl
kept_all s j r (x ∷ xs) e = search (arith, kept_all s j r xs, or_parts)

first_left : (s : History) (j r x : ℕ) (xs : List ℕ) → nat_eq (reference s x) r ≡ true
    → list_any (has_reference (reference s x)) (map (submission_at s j) xs) ≡ false
    → filter (λ i. not (nat_eq (reference s i) r)) xs ≡ xs
first_left s j r x xs is none = grind (arith, kept_all, eqb-true)

removed_from : (s : History) (j r : ℕ) (xs : List ℕ) → are_apart (map (submission_at s j) xs) ≡ true
    → without_by (is_of r) (map (asked_at s) xs)
    ≡ map (asked_at s) (filter (λ i. not (nat_eq (reference s i) r)) xs)
removed_from s j r [] apart = refl
removed_from s j r (x ∷ xs) apart =
    let both = and_parts (not (list_any (has_reference (reference s x)) (map (submission_at s j) xs)))
    (are_apart (map (submission_at s j) xs)) apart in
    by (nat_eq (reference s x) r) refl (not-true _ both.0) (removed_from s j r xs both.1)
  where
    by : (b : Bool) → nat_eq (reference s x) r ≡ b
        → list_any (has_reference (reference s x)) (map (submission_at s j) xs) ≡ false
        → without_by (is_of r) (map (asked_at s) xs)
        ≡ map (asked_at s) (filter (λ i. not (nat_eq (reference s i) r)) xs)
        → without_by (is_of r) (map (asked_at s) (x ∷ xs))
        ≡ map (asked_at s) (filter (λ i. not (nat_eq (reference s i) r)) (x ∷ xs))
    by o is none more = grind (arith, first_left)

-- what is found on one side is found on the other
found_by : (s : History) (j r : ℕ) (o : Option ℕ) (a : Asked) → option_map (asked_at s) o ≡ Some a
    → (x : Submission) × (option_map (submission_at s j) o ≡ Some x)
found_by s j r None a e = absurd (false≢true (ap is_some e))
found_by s j r (Some i) a e = (submission_at s j i, refl)

found_both : (s : History) (j r : ℕ) (xs : List ℕ) (a : Asked) → find (is_of r) (map (asked_at s) xs) ≡ Some a
    → (x : Submission) × (find (has_reference r) (map (submission_at s j) xs) ≡ Some x)
found_both s j r xs a e =
    let o = find (λ i. nat_eq (reference s i) r) xs in
    let x = found_by s j r o a (sym (find_map (asked_at s) (is_of r) xs) ∙ e) in
    (x.0, find_map (submission_at s j) (has_reference r) xs ∙ x.1)

-- ---- one moment

-- what is known before j
record Knows (s : History) (j : ℕ) (p : PortAccount) : Type 0 where
  account : p.account ≡ account_at 64 s j
  apart : IsApart 64 s j
  asked : p.asked ≡ map (asked_at s) (outstanding s j)

-- and what a moment changes
record Changes (s : History) (j : ℕ) (p new : PortAccount) : Type 0 where
  answers : Answers p.account (moment s j) new.account
  asked : new.asked ≡ map (asked_at s) (outstanding s (j + 1))

one_more : (s : History) (j : ℕ) (p new : PortAccount) (a : Asked) → Knows s j p
    → new.asked ≡ p.asked ++ a ∷ [] → asked_at s j ≡ a → is_sent (moment s j) ≡ true → NoEnd s j
    → new.asked ≡ map (asked_at s) (outstanding s (j + 1))
one_more s j p new a k more is sent none = grind (arith, map-append, outstanding_more, all_stay)

changes : (s : History) (j : ℕ) (p : PortAccount) (m : PortMoment) (new : PortAccount) → moment s j ≡ seen m
    → Knows s j p → Kind p m new → Changes s j p new
changes s j p m new at k (Stays q) = grind (arith, outstanding_more, all_stay, append-nil)
changes s j p m new at k (Submits q) =
    let is = at ∙ q.is in
    record {
      answers = subst (λ x. Answers p.account x new.account) (sym is) (λ i. (q.first i, sym q.account i));
      asked = search (arith, one_more, is);
    }
changes s j p m new at k (Polls q) =
    let is = at ∙ q.is in
    let unit = polled_unit 64 s j q.polled (ap oldest (sym k.account) ∙ q.oldest_is) in
    record {
      answers = subst (λ x. Answers p.account x new.account) (sym is) (λ i. (q.first i, sym q.account i));
      asked = search (arith, one_more, is, unit);
    }
changes s j p m new at k (Ends q) =
    let is = at ∙ q.is in
    let r = q.end.reference in
    let same = read_reference q.end in
    let there = found_both s j r (outstanding s j) q.command (ap (find (is_of r)) (sym k.asked) ∙ q.found) in
    let found = ap (λ (a : Account). find (has_reference r) a.outstanding) k.account ∙ there.1 in
    let settles : Settles p.account (as_read q.end)
    (news_with p.account (as_read q.end) (answered p.account.watch (as_read q.end))) new.account = record {
      submission = there.0;
      found = ap (λ (n : ℕ). find (has_reference n) p.account.outstanding) same ∙ found;
      about = q.about;
      says = refl;
      kept = q.account;
    } in
    record {
      answers = subst (λ x. Answers p.account x new.account) (sym is) settles;
      asked = q.asked ∙ (ap (without_by (is_of r)) k.asked
          ∙ (removed_from s j r (outstanding s j) k.apart.submissions
          ∙ ap (map (asked_at s)) (sym (outs_ended s j (as_read q.end) (ap is_sent is) (ap end_heard is)
          ∙ ap (λ (n : ℕ). filter (λ i. not (nat_eq (reference s i) n)) (outstanding s j)) same))));
    }

-- ---- the whole history

record Reaches (h : PortHistory) (new : PortAccount) (j : ℕ) : Type 0 where
  held : PortAccount
  knows : Knows (map seen h) j held
  rest : PortAnswered held (drop j h) new

record Goes_on (h : PortHistory) (new : PortAccount) (j : ℕ) : Type 0 where
  answers : Answers (account_at 64 (map seen h) j) (moment (map seen h) j) (account_at 64 (map seen h) (j + 1))
  reaches : Reaches h new (j + 1)

goes_on : (h : PortHistory) (new : PortAccount) (j : ℕ) → j < length h → Reaches h new j → Goes_on h new j
goes_on h new j l x =
    let s = map seen h in
    let rest = subst (λ xs. PortAnswered x.held xs new) (drop_more h j Other l) x.rest in
    let m = slice_index_or h j Other in
    let change = changes s j x.held m rest.0 (get_or-map seen h j Other) x.knows (kind x.held m rest.0 rest.1) in
    let answers = subst (λ (a : Account). Answers a (moment s j) rest.0.account) x.knows.account change.answers in
    let goes = step 64 s j x.knows.apart rest.0.account (moment s j) refl answers in
    record {
      answers = subst (Answers (account_at 64 s j) (moment s j)) goes.kept answers;
      reaches = search (arith, rest, change, goes);
    }

none_yet : (s : History) → [] ≡ map (asked_at s) (outstanding s 0)
unfolding outstanding
none_yet s = refl

reaches : (h : PortHistory) (new : PortAccount) → PortAnswered fresh_of_port h new → (j : ℕ) → j ≤ length h
    → Reaches h new j
reaches h new a zero l =
    let begin = start 64 (map seen h) in
    record {
      held = fresh_of_port;
      knows = record { account = sym begin.0; apart = begin.1; asked = none_yet (map seen h) };
      rest = a;
    }
reaches h new a (suc j) l =
    let more : j + 1 ≡ suc j = omega arith in
    subst (Reaches h new) more (goes_on h new j (omega (arith, l)) (reaches h new a j (omega (arith, l)))).reaches

-- the answers one after the other
chain : (s : History) (last : Account)
    → ((j : ℕ) → j < length s → Answers (account_at 64 s j) (moment s j) (account_at 64 s (j + 1)))
    → last ≡ account_at 64 s (length s) → (n j : ℕ) → j + n ≡ length s → Answered (account_at 64 s j) (drop j s) last
chain s last f e zero j l = grind (arith, drop_all)
chain s last f e (suc n) j l =
    let less : j < length s = omega (arith, l) in
    subst (λ xs. Answered (account_at 64 s j) xs last) (sym (drop_more s j hosts.Other less))
    (account_at 64 s (j + 1), f j less, chain s last f e n (j + 1) (omega (arith, l)))

pub port_keeps_history : PortHostsKeepTheirHistory
port_keeps_history h new a =
    let s = map seen h in
    let long : length s ≡ length h = length-map h seen in
    let end = reaches h new a (length h) (omega arith) in
    let is : new ≡ end.held =
    subst (λ xs. PortAnswered end.held xs new) (drop_all (length h) h (omega arith)) end.rest in
    let last = ap (λ (p : PortAccount). p.account) is ∙ (end.knows.account ∙ ap (account_at 64 s) (sym long)) in
    let each = λ (j : ℕ) (l : j < length s). (goes_on h new j (omega (arith, l, long))
    (reaches h new a j (omega (arith, l, long)))).answers in
    let answered = chain s new.account each last (length s) 0 (omega arith) in
    record {
      host = keeps_history 64 s new.account
          (subst (λ (x : Account). Answered x s new.account) (start 64 s).0 answered);
      asked = ap (λ (p : PortAccount). p.asked) is ∙ end.knows.asked;
    }
