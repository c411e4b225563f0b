-- What is promised of every host: its history says all that it keeps, and all that it says of ends.
use Rattle.std.specs.Prelude.{◌≡◌, ◌↔◌, ℕ, ◌+◌, ◌<◌, ◌≤◌, true, [], ◌∷◌, length, find, Some, None, IfSome}
use Rattle.mscp_packet.specs.declared.end.End.{End}
use Rattle.mscp_host.specs.declared.news.News.{News}
use Rattle.mscp_host.specs.declared.news.News.TheVariants as news
use Rattle.mscp_host.specs.Accounts.{Account, answered, fresh, has_reference, heard, is_about_polled, news_with, polls_oldest, received, submits}
use Rattle.mscp_host.specs.declared.submission.Submission.{Submission}
use Rattle.mscp_host.specs.Histories.{Moment, Submit, Ask, Receive, Settle, Other, History, account_at, asked_for, asks_about, end_heard, figure_in, handed_over, in_flight, is_outstanding, is_poll, last_told, moment, news_at, news_heard, reference}

-- the end may be that of an outstanding command, and this is said of it and kept then
pub record Settles (old : Account) (e : End) (n : News) (new : Account) : Type 0 where
  pub submission : Submission
  pub found : find (has_reference e.reference) old.outstanding ≡ Some submission
  pub about : is_about_polled old.watch (answered old.watch e) ≡ true
  pub says : n ≡ news_with old e (answered old.watch e)
  pub kept : new ≡ received old e

-- the answer is that of the call, and what is kept then
abbrev pub Answers : Account → Moment → Account → Type 0
Answers old (Submit command answer) new = submits old command ≡ (answer, new)
Answers old (Ask reference answer) new = polls_oldest old reference ≡ (answer, new)
Answers old (Receive bytes answer) new = heard old bytes ≡ (answer, new)
Answers old (Settle e n) new = Settles old e n new
Answers old Other new = new ≡ old

-- one after the other
abbrev pub Answered : Account → History → Account → Type 0
Answered old [] new = new ≡ old
Answered old (m ∷ rest) new = (next : Account) × Answers old m next × Answered next rest new

-- the end that is heard at j is that of the poll, which tells this figure of the command, and that is still outstanding
pub record IsTold (h : History) (j poll command figure : ℕ) : Type 0 where
  pub handed : handed_over h j ≡ Some poll
  pub about : asks_about h command poll ≡ true
  pub outstanding : is_outstanding h j command ≡ true
  pub tells : figure_in (end_heard (moment h j)) ≡ Some figure

-- an answer stands still: it tells of a command a figure that is no lower than the last of that command (profile)
pub record Stands (h : History) (j : ℕ) : Type 0 where
  pub poll : ℕ
  pub command : ℕ
  pub figure : ℕ
  pub last : ℕ
  pub is_told : IsTold h j poll command figure
  pub before : last_told h j command ≡ Some last
  pub not_less : last ≤ figure

-- an answer tells 0 of a command, first or below the last of that command (profile)
pub record IsLost (h : History) (j : ℕ) : Type 0 where
  pub poll : ℕ
  pub command : ℕ
  pub is_told : IsTold h j poll command 0
  pub above : IfSome (last_told h j command) (λ last. 0 < last)

-- the end that is heard is one of an outstanding command, and what is said of it follows from the history
pub record IsHeard (h : History) (j : ℕ) (n : News) : Type 0 where
  pub end : End
  pub command : ℕ
  pub heard : end_heard (moment h j) ≡ Some end
  pub handed : handed_over h j ≡ Some command
  pub says : n ≡ news_at h j end command

-- what is promised of a host of so many credits and its history
pub record KeepsHistory (credits : ℕ) (h : History) (last : Account) : Type 0 where
  -- each answer is that of the call's contract of what the history says that the host keeps, and so is what it keeps
  -- then
  pub answers : (j : ℕ) → j < length h → Answers (account_at credits h j) (moment h j) (account_at credits h (j + 1))
  -- and in the end
  pub keeps : last ≡ account_at credits h (length h)
  -- each end that isn't refused is that of an outstanding command (manual)
  pub ends : (j : ℕ) (n : News) → j < length h → news_heard (moment h j) ≡ Some n → IsHeard h j n
  -- no two outstanding commands have one reference number (manual)
  pub apart : (j x y : ℕ) → j ≤ length h → is_outstanding h j x ≡ true → is_outstanding h j y ≡ true
      → reference h x ≡ reference h y → x ≡ y
  -- a poll is sent where none is in flight (profile), and it is about a command (manual)
  pub polls : (j : ℕ) → j < length h → is_poll (moment h j) ≡ true
      → (in_flight h j ≡ None) × (i : ℕ) × (asked_for h j ≡ Some i)
  -- Reset is said exactly where an answer stands (profile)
  pub resets : (j : ℕ) → j < length h → (news_heard (moment h j) ≡ Some news.Reset) ↔ Stands h j
  -- Lost is said exactly where a command is lost (profile)
  pub losses : (j : ℕ) → j < length h → (news_heard (moment h j) ≡ Some news.Lost) ↔ IsLost h j

-- every list of calls, from a new host on and with the answers of their contracts, whatever the bytes that the host
-- receives
abbrev pub HostsKeepTheirHistory : Type 0
HostsKeepTheirHistory =
    (credits : ℕ) (h : History) (last : Account) → Answered (fresh credits) h last → KeepsHistory credits h last
