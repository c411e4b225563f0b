-- The totals of a legal log, as its trace has them.
use Rattle.std.specs.Prelude.{All, Contains, ◌≡◌, ◌≢◌, ◌⊎◌, ℕ, ◌+◌, ◌≤◌, count_by, length, take, Ok}
use Rattle.mscp_queue.specs.Figures.{figure_of_name}
use Rattle.mscp_queue.specs.Names.{name_on}
use Rattle.mscp_queue.specs.Records.{record_at}
use Rattle.mscp_controller.specs.declared.entry.Entry.{Entry}
use Rattle.mscp_controller.specs.declared.entry.Entry.TheVariants as entries
use Rattle.mscp_controller.specs.declared.entry.Sent.TheVariants as sents
use Rattle.mscp_drive.specs.Settings.{Settings, bound}
use Rattle.mscp_controller.specs.History.{Trace, is_step}
use Rattle.mscp_controller.specs.Commands.{waiting}
use Rattle.mscp_controller.specs.Passing.{passed}
use Rattle.mscp_controller.specs.Figures.{figure}
use Rattle.mscp_controller.specs.Headline.{Always, EachWaiting}
use Rattle.mscp_controller.specs.Holdings.{Holdings}
use Rattle.mscp_script.specs.Text.{step_count}
use Rattle.mscp_judge.specs.declared.naming.Wanted.{Wanted}
use Rattle.mscp_judge.specs.declared.totals.Totals.{Totals}

-- the largest that `of` is of a waiting command, at any time of a run: 0 if no command ever waits
pub record IsLargest (of : Trace → ℕ → ℕ) (t : Trace) (n : ℕ) : Type 0 where
  pub most : Always t (λ p. EachWaiting p (λ x. of p x ≤ n))
  pub reached : n ≢ 0 → (i : ℕ) × (x : ℕ) × (i ≤ length t) × Contains (waiting (take i t)) x × (of (take i t) x ≡ n)

-- the totals of a run
pub record AreTotals (c : Settings) (t : Trace) (totals : Totals) : Type 0 where
  pub moments : totals.moments ≡ length t
  pub steps : totals.steps ≡ count_by (λ m. is_step m.0) t
  pub figure : IsLargest (figure c) t totals.figure
  pub bound : totals.bound ≡ bound c
  pub passed : IsLargest passed t totals.passed

-- ---- one moment more

-- the larger of two numbers
pub record IsLarger (a b n : ℕ) : Type 0 where
  pub first : a ≤ n
  pub second : b ≤ n
  pub one : (n ≡ a) ⊎ (n ≡ b)

-- the figure of the command that an entry says was queued, 0 if none was
abbrev pub figure_queued : Holdings Wanted → Entry → ℕ
figure_queued h (entries.Sent via (Ok (sents.Queued reference))) =
    figure_of_name h.settings.budget h.waiting (name_on via reference)
figure_queued h entry = 0

-- what an entry adds to totals, after which this is held: no figure rises, so only a new one may be the largest
pub record Adds (h : Holdings Wanted) (entry : Entry) (old new : Totals) : Type 0 where
  pub moments : new.moments ≡ old.moments + 1
  pub steps : new.steps ≡ old.steps + step_count entry
  pub figure : IsLarger old.figure (figure_queued h entry) new.figure
  pub bound : new.bound ≡ old.bound
  pub passed : IsLarger old.passed (record_at h.waiting 0).passed new.passed
  pub oldest : All (λ r. r.passed ≤ (record_at h.waiting 0).passed) h.waiting
