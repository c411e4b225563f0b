-- The whole history: all that is promised of a host.
use Rattle.mscp_host.proofs.Common.{◌≡◌, ◌↔◌, ℕ, zero, suc, ◌+◌, ◌<◌, ◌≤◌, Bool, true, false, drop, length, refl, ap, sym, ◌∙◌, subst, arith, if◌then◌else◌, Option, Some, None, is_some, IfSome, Ok, and_parts, eqb-true, eq-eqb, false≢true, nat_tests, drop_more, drop_all, News, Account, fresh, news_of_figure, Moment, Other, Receive, Settle, History, account_at, asked_for, end_heard, figure_in, found_stands, is_it, is_poll, last_told, moment, news_heard, outstanding, says_of, Answered, Answers, HostsKeepTheirHistory, IsHeard, IsLost, IsTold, Stands}
use Rattle.mscp_host.specs.declared.news.News.TheVariants as news
use Rattle.mscp_host.proofs.Collected.{out_below}
use Rattle.mscp_host.proofs.Received.{IsApart}
use Rattle.mscp_host.proofs.Stepping.{Goes, step}

-- before j all is as the history says, and it goes on so
record Reached (credits : ℕ) (h : History) (last : Account) (j : ℕ) : Type 0 where
  apart : IsApart credits h j
  rest : Answered (account_at credits h j) (drop j h) last

pub start : (credits : ℕ) (h : History) → (account_at credits h 0 ≡ fresh credits) × IsApart credits h 0
unfolding outstanding
start credits h = search (arith, out_below)

-- the next moment
record Next (credits : ℕ) (h : History) (last : Account) (j : ℕ) : Type 0 where
  answers : Answers (account_at credits h j) (moment h j) (account_at credits h (j + 1))
  goes : Goes credits h j (account_at credits h (j + 1))
  reached : Reached credits h last (j + 1)

next : (credits : ℕ) (h : History) (last : Account) (j : ℕ) → j < length h → Reached credits h last j
    → Next credits h last j
next credits h last j l x =
    let rest = subst (λ xs. Answered (account_at credits h j) xs last) (drop_more h j Other l) x.rest in
    let goes = step credits h j x.apart rest.0 (moment h j) refl rest.1 in
    grind (arith, rest, goes)

reached : (credits : ℕ) (h : History) (last : Account) → Answered (fresh credits) h last → (j : ℕ) → j ≤ length h
    → Reached credits h last j
reached credits h last a zero l =
    let s = start credits h in
    record { apart = s.1; rest = subst (λ x. Answered x h last) (sym s.0) a }
reached credits h last a (suc j) l =
    let more : j + 1 ≡ suc j = omega arith in
    subst (Reached credits h last) more
    (next credits h last j (omega (arith, l)) (reached credits h last a j (omega (arith, l)))).reached

-- ---- what is said

-- it is a figure
abbrev is_figure : News → Bool
is_figure (news.Ended e) = false
is_figure news.Late = false
is_figure n = true

record Tells (h : History) (j : ℕ) (n : News) : Type 0 where
  poll : ℕ
  command : ℕ
  figure : ℕ
  is_told : IsTold h j poll command figure
  says : n ≡ news_of_figure (last_told h j command) figure

tells_of : (h : History) (j : ℕ) (n : News) (x : IsHeard h j n) → is_figure n ≡ true → (b : Bool)
    → is_poll (moment h x.command) ≡ b → (o : Option ℕ) → asked_for h x.command ≡ o → (t : Option ℕ)
    → figure_in (Some x.end) ≡ t → (d : Bool) → found_stands h j o ≡ d
    → n ≡ says_of h j x.end o (if b then t else None) → Tells h j n
tells_of h j n x h1 b h2 o h3 t h4 d h5 h6 = search (arith, eq-eqb, false≢true)

tells : (h : History) (j : ℕ) (n : News) (x : IsHeard h j n) → is_figure n ≡ true → Tells h j n
tells h j n x f = tells_of h j n x f _ refl _ refl _ refl _ refl x.says

pub it_is : (i : ℕ) (o : Option ℕ) → is_it i o ≡ true → o ≡ Some i
it_is i o e = grind (arith, false≢true, eqb-true)

told_says : (h : History) (j poll command figure : ℕ) (n : News) → IsHeard h j n → IsTold h j poll command figure
    → n ≡ news_of_figure (last_told h j command) figure
told_says h j poll command figure n x t = search (arith, and_parts, tells, it_is)

reset_figure : (last : Option ℕ) (figure : ℕ) → news_of_figure last figure ≡ news.Reset
    → (l : ℕ) × (last ≡ Some l) × (l ≤ figure)
reset_figure last figure h1 = search (arith, false≢true, nat_tests)

lost_figure : (last : Option ℕ) (figure : ℕ) → news_of_figure last figure ≡ news.Lost
    → (figure ≡ 0) × IfSome last (λ l. 0 < l)
lost_figure last figure h1 = search (arith, nat_tests)

figure_reset : (l figure : ℕ) → l ≤ figure → news_of_figure (Some l) figure ≡ news.Reset
figure_reset l figure e = grind (arith, nat_tests)

figure_lost : (last : Option ℕ) → IfSome last (λ l. 0 < l) → news_of_figure last 0 ≡ news.Lost
figure_lost last e = grind (arith, nat_tests)

heard_some : (m : Moment) (figure : ℕ) → figure_in (end_heard m) ≡ Some figure → (n : News) × (news_heard m ≡ Some n)
heard_some (Receive b (Ok n)) figure e = (n, refl)
heard_some (Settle end n) figure e = (n, refl)
heard_some m figure e = absurd (false≢true (ap is_some e))

-- what is heard, if it is a figure
pub resets_if : (h : History) (j : ℕ) → ((n : News) → news_heard (moment h j) ≡ Some n → IsHeard h j n)
    → (news_heard (moment h j) ≡ Some news.Reset) ↔ Stands h j
resets_if h j ends = (
  (λ q.
      let x = tells h j news.Reset (ends news.Reset q) refl in
      let r = reset_figure (last_told h j x.command) x.figure (sym x.says) in
      record {
        poll = x.poll;
        command = x.command;
        figure = x.figure;
        last = r.0;
        is_told = x.is_told;
        before = r.1;
        not_less = r.2;
      }),
  (λ st.
      let n = heard_some (moment h j) st.figure st.is_told.tells in
      n.1 ∙ ap Some (told_says h j st.poll st.command st.figure n.0 (ends n.0 n.1) st.is_told
      ∙ (ap (λ o. news_of_figure o st.figure) st.before ∙ figure_reset st.last st.figure st.not_less))),
)

pub losses_if : (h : History) (j : ℕ) → ((n : News) → news_heard (moment h j) ≡ Some n → IsHeard h j n)
    → (news_heard (moment h j) ≡ Some news.Lost) ↔ IsLost h j
losses_if h j ends = (
  (λ q.
      let x = tells h j news.Lost (ends news.Lost q) refl in
      let r = lost_figure (last_told h j x.command) x.figure (sym x.says) in
      record {
        poll = x.poll;
        command = x.command;
        is_told = subst (IsTold h j x.poll x.command) r.0 x.is_told;
        above = r.1;
      }),
  (λ st.
      let n = heard_some (moment h j) 0 st.is_told.tells in
      n.1 ∙ ap Some (told_says h j st.poll st.command 0 n.0 (ends n.0 n.1) st.is_told
      ∙ figure_lost (last_told h j st.command) st.above)),
)

pub keeps_history : HostsKeepTheirHistory
keeps_history credits h last a =
    let at : (j : ℕ) → j < length h → Next credits h last j =
    λ j l. next credits h last j l (reached credits h last a j (omega (arith, l))) in
    record {
      answers = λ j l. (at j l).answers;
      keeps = subst (λ xs. Answered (account_at credits h (length h)) xs last) (drop_all (length h) h (omega arith))
          (reached credits h last a (length h) (omega arith)).rest;
      ends = λ j n l q. (at j l).goes.ends n q;
      apart = λ j x y l. (reached credits h last a j l).apart.names x y;
      polls = λ j l q. (at j l).goes.polls q;
      resets = λ j l. resets_if h j (at j l).goes.ends;
      losses = λ j l. losses_if h j (at j l).goes.ends;
    }
