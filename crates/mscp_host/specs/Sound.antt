-- What is true of every host.
use Rattle.std.specs.Prelude.{◌≡◌, ◌≤◌, ◌<◌, true, not, filter, List, length}
use Rattle.mscp_host.specs.declared.submission.Submission.{Submission}
use Rattle.mscp_host.specs.Accounts.{Account, is_immediate}
use Rattle.mscp_host.specs.Apart.{are_apart}
use Rattle.mscp_host.specs.Watched.{are_told, is_watched}

-- the submissions that aren't answered when they arrive
abbrev pub waiting : List Submission → List Submission
waiting xs = filter (λ s. not (is_immediate s.opcode)) xs

pub record IsSound (a : Account) : Type 0 where
  pub some : 2 ≤ a.credits
  pub few : a.credits ≤ 64
  -- the credits cover the submissions, and the last one is kept for commands that are answered when they arrive
  -- (manual, "Flow Control")
  pub covered : length a.outstanding ≤ a.credits
  pub spare : length (waiting a.outstanding) < a.credits
  pub apart : are_apart a.outstanding ≡ true
  pub watched : is_watched a.outstanding a.watch ≡ true
  pub told : are_told a.outstanding ≡ true
