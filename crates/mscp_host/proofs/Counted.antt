-- Credits and commands are counted.
use Rattle.mscp_host.proofs.Common.{Account, ArrayVec, Asked, Bool, Command, End, Envelope, Err, Hear, HearFault, Heard, HostFault, List, Message, News, None, Ok, Option, Poll, PortAccount, PortAnswered, PortAnswers, PortHistory, PortHostsKeepCount, PortMoment, Result, Resume, Some, Submission, Watch, [], and-true, ap, arith, asked_of, asks, credit_fault, end_says, ended, ended_in, ends_in, ends_of, false, false≢true, find, granted, if◌then◌else◌, is_none, is_of, is_some, is_to_poll, length, length-append, ltb-false, nat_eq, nat_tests, news_said, noted, noted_poll, oldest, opcode_byte, or_parts, poll_of, polled_with, polls_oldest, refl, sent_in, submits, submits_unless_faulty, submitted_with, sum_by-cons, sym, true, without_by, ℕ, ◌&&◌, ◌+◌, ◌∙◌, ◌∷◌, ◌≡◌, ◌≤◌}
use Rattle.mscp_host.specs.declared.message.HearFault.TheVariants as faults
use Rattle.mscp_host.specs.declared.news.Poll.TheVariants as polls
use Rattle.mscp_host.specs.declared.message.Message.TheVariants as messages
use Rattle.mscp_host.specs.PortAccounts.{heard_of}
use Rattle.mscp_host.specs.PortHistories.{Ask, Other, Submit, told_in}
use Rattle.mscp_host.proofs.PortBack.{resumed}

-- what one moment changes
pub record Counts (old : PortAccount) (m : PortMoment) (new : PortAccount) : Type 0 where
  pub over : new.is_over ≡ false → old.is_over ≡ false
  pub credits : new.is_over ≡ false → new.credits + sent_in m ≡ old.credits + told_in m
  pub no_more : new.credits + sent_in m ≤ old.credits + told_in m
  pub commands : length new.asked + ended_in m ≡ length old.asked + sent_in m

without_long : {X : Type 0} (p : X → Bool) (xs : List X) (x : X) → find p xs ≡ Some x
    → length (without_by p xs) + 1 ≡ length xs
without_long p [] x e = absurd (false≢true (ap is_some e))
without_long p (y ∷ ys) x e = search (arith, without_long p ys x)

some_credit : (credits opcode : ℕ) → credit_fault credits opcode ≡ None → 1 ≤ credits
some_credit credits opcode e = search (arith, false≢true)

-- ---- nothing is sent and nothing is told

quiet : (old : PortAccount) (m : PortMoment) (new : PortAccount) → new ≡ old → told_in m ≡ 0 → sent_in m ≡ 0
    → ended_in m ≡ 0 → Counts old m new
quiet old m new e t s d = grind arith

-- ---- a command is sent

sent : (old : PortAccount) (m : PortMoment) (new : PortAccount) (a : Account) (asked : Asked) → new ≡ noted old a asked
    → 1 ≤ old.credits → told_in m ≡ 0 → sent_in m ≡ 1 → ended_in m ≡ 0 → Counts old m new
sent old m new a asked e some t s d = grind (arith, length-append)

-- ---- credits are told

told : (old : PortAccount) (m : PortMoment) (new p : PortAccount) (n : ℕ) → new ≡ granted n p
    → p.credits ≡ old.credits → p.is_over ≡ old.is_over → told_in m ≡ n → sent_in m ≡ 0
    → length p.asked + ended_in m ≡ length old.asked → Counts old m new
told old m new p n e same over t s ends = grind (arith, or_parts, ltb-false)

-- ---- one moment

submit_with : (old : PortAccount) (command : Command) (answer : Result (ArrayVec ℕ) HostFault) (new : PortAccount)
    (r : Result (ArrayVec ℕ) HostFault) (a : Account) → 1 ≤ old.credits
    → submitted_with old command (r, a) ≡ (answer, new) → Counts old (Submit command answer) new
submit_with old command answer new (Err fault) a some e = grind (arith, quiet)
submit_with old command answer new (Ok message) a some e =
    let ok : Ok message ≡ answer = ap (λ p. p.0) e in
    sent old (Submit command answer) new a _ (sym (ap (λ p. p.1) e)) some refl
    (ap (λ x. sent_in (Submit command x)) (sym ok)) refl

submit_counts : (old : PortAccount) (command : Command) (answer : Result (ArrayVec ℕ) HostFault) (new : PortAccount)
    (o : Option HostFault) → credit_fault old.credits (opcode_byte command.order) ≡ o
    → submits_unless_faulty old command o ≡ (answer, new) → Counts old (Submit command answer) new
submit_counts old command answer new (Some fault) f e = grind (arith, quiet)
submit_counts old command answer new None f e =
    submit_with old command answer new (submits old.account command).0 (submits old.account command).1
    (some_credit old.credits (opcode_byte command.order) f) e

-- a poll is sent only where one is to be sent
sent_poll : (a new : Account) (r : ℕ) (m : ArrayVec ℕ) (o : Option Watch) → a.watch ≡ o
    → (if is_some o then (Ok polls.Busy, a) else asks a r (oldest a)) ≡ (Ok (polls.Ask m), new)
    → (is_none o ≡ true) × (is_some (oldest a) ≡ true)
sent_poll a new r m o w e = grind (arith, false≢true)

noted_some : (p : PortAccount) (a : Account) (r : ℕ) (o : Option Submission) → is_some o ≡ true
    → (asked : Asked) × (noted_poll p a r o ≡ noted p a asked)
noted_some p a r None e = absurd (false≢true e)
noted_some p a r (Some s) e = (asked_of (poll_of r s), refl)

poll_with : (old : PortAccount) (n : ℕ) (answer : Result Poll HostFault) (new : PortAccount)
    (r : Result Poll HostFault) (a : Account) → polls_oldest old.account n ≡ (r, a)
    → (nat_eq old.credits 0 && is_to_poll old.account) ≡ false
    → polled_with old n (r, a) ≡ (answer, new) → Counts old (Ask n answer) new
poll_with old n answer new (Ok (polls.Ask m)) a is free e =
    let ok : Ok (polls.Ask m) ≡ answer = ap (λ p. p.0) e in
    let to = sent_poll old.account a n m old.account.watch refl is in
    let both : is_to_poll old.account ≡ true = λ i. to.0 i && to.1 i in
    let none : nat_eq old.credits 0 ≡ false =
    sym (and-true (nat_eq old.credits 0)) ∙ (ap (λ b. nat_eq old.credits 0 && b) (sym both) ∙ free) in
    let noted = noted_some old a n (oldest old.account) to.1 in
    sent old (Ask n answer) new a noted.0 (sym (ap (λ p. p.1) e) ∙ noted.1) (positive old.credits none) refl
    (ap (λ x. sent_in (Ask n x)) (sym ok)) refl
  where
    positive : (k : ℕ) → nat_eq k 0 ≡ false → 1 ≤ k
    positive k e = search (arith, nat_tests)
poll_with old n answer new o a is free e = grind (arith, quiet)

-- ---- a message is heard

said_one : (b : Bool) (e : End) (asked : Asked) (n : News) → ends_in (news_said b e asked n) ≡ 1
said_one b e asked n = grind arith

abbrev refuses : PortAccount → HearFault → Result Heard HearFault × PortAccount
refuses old fault = (Err fault, old)

abbrev tells : ℕ → Heard → PortAccount → Result Heard HearFault × PortAccount
tells credits heard new = (Ok heard, granted credits new)

refused : (old : PortAccount) (v : Envelope) (b : List ℕ) (answer : Result Heard HearFault) (new : PortAccount)
    (fault : HearFault) → refuses old fault ≡ (answer, new) → Counts old (Hear v b answer) new
refused old v b answer new fault e = grind (arith, quiet)

heard_none : (old : PortAccount) (v : Envelope) (b : List ℕ) (answer : Result Heard HearFault) (new : PortAccount)
    (heard : Heard) → ends_in heard ≡ 0 → tells v.credits heard old ≡ (answer, new)
    → Counts old (Hear v b answer) new
heard_none old v b answer new heard none e = grind (arith, told)

end_counts : (old : PortAccount) (v : Envelope) (b : List ℕ) (answer : Result Heard HearFault) (new : PortAccount)
    (x : End) (asked : Asked) (may : Bool) → find (is_of x.reference) old.asked ≡ Some asked
    → (if may then tells v.credits (end_says old x asked) (ended old x) else refuses old faults.Unknown)
    ≡ (answer, new) → Counts old (Hear v b answer) new
end_counts old v b answer new x asked o found e = grind (arith, said_one, without_long, told, refused)

ends_counts : (old : PortAccount) (v : Envelope) (b : List ℕ) (answer : Result Heard HearFault) (new : PortAccount)
    (x : End) (o : Option Asked) → find (is_of x.reference) old.asked ≡ o → ends_of old v.credits x o ≡ (answer, new)
    → Counts old (Hear v b answer) new
ends_counts old v b answer new x None f e = refused old v b answer new faults.Unknown e
ends_counts old v b answer new x (Some asked) f e = end_counts old v b answer new x asked _ f e

hear_counts : (old : PortAccount) (v : Envelope) (b : List ℕ) (answer : Result Heard HearFault) (new : PortAccount)
    (r : Result Message HearFault) → heard_of old v.credits r ≡ (answer, new) → Counts old (Hear v b answer) new
hear_counts old v b answer new (Ok (messages.End x)) e = ends_counts old v b answer new x _ refl e
hear_counts old v b answer new o e = grind (arith, refused, heard_none)

counts : (old : PortAccount) (m : PortMoment) (new : PortAccount) → PortAnswers old m new → Counts old m new
counts old (Submit command answer) new e = submit_counts old command answer new _ refl e
counts old (Ask n answer) new e = grind (arith, quiet, poll_with)
counts old (Hear v b answer) new e = hear_counts old v b answer new _ e
counts old (Resume b) new e = quiet old (Resume b) new (resumed old new b e) refl refl refl
counts old Other new e = quiet old Other new e refl refl refl

-- ---- all of them

all_over : (old : PortAccount) (h : PortHistory) (new : PortAccount) → PortAnswered old h new → new.is_over ≡ false
    → old.is_over ≡ false
all_over old [] new a f = sym (ap (λ (p : PortAccount). p.is_over) a) ∙ f
all_over old (m ∷ rest) new a f = (counts old m a.0 a.1).over (all_over a.0 rest new a.2 f)

pub keeps_count : PortHostsKeepCount
keeps_count old [] new a = grind arith
keeps_count old (m ∷ rest) new a =
    let one = counts old m a.0 a.1 in
    let more = keeps_count a.0 rest new a.2 in
    let s = sum_by-cons sent_in m rest in
    let t = sum_by-cons told_in m rest in
    let d = sum_by-cons ended_in m rest in
    let once = one.no_more in
    let after = more.no_more in
    let ends = one.commands in
    let others = more.commands in
    grind (arith, all_over, one, more, s, t, d, once, after, ends, others)
