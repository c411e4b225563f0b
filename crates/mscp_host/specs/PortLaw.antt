-- What is promised of every host of a port, over all that it did.
use Rattle.std.specs.Prelude.{◌≡◌, ◌+◌, ◌≤◌, false, map, length, sum_by}
use Rattle.mscp_host.specs.PortAccounts.{PortAccount, fresh_of_port}
use Rattle.mscp_host.specs.PortHistories.{PortAnswered, PortHistory, asked_at, ended_in, seen, sent_in, told_in}
use Rattle.mscp_host.specs.Histories.{outstanding}
use Rattle.mscp_host.specs.Law.{KeepsHistory}

-- what is true once a host that kept `old` did and heard all that
pub record KeepsCount (old : PortAccount) (h : PortHistory) (new : PortAccount) : Type 0 where
  -- the free credits are those from before and those that were told, less one for each command that was sent (UQSSP,
  -- "Flow Control"); or more were told than are kept
  pub credits : new.is_over ≡ false → new.credits + sum_by sent_in h ≡ old.credits + sum_by told_in h
  -- they are never more
  pub no_more : new.credits + sum_by sent_in h ≤ old.credits + sum_by told_in h
  -- what is outstanding is what was so before and what was sent, less one for each end
  pub commands : length new.asked + sum_by ended_in h ≡ length old.asked + sum_by sent_in h

-- every list of calls, whatever the host kept before, with the answers of their contracts and whatever the port sent
abbrev pub PortHostsKeepCount : Type 0
PortHostsKeepCount =
    (old : PortAccount) (h : PortHistory) (new : PortAccount) → PortAnswered old h new → KeepsCount old h new

-- what is promised of a host of a port and its history: all that is promised of a host of 64 credits that sent these
-- commands and polls, and heard these ends; and it lists the commands whose ends weren't heard, in the order in which
-- they were sent, each with the bytes that it asks for
pub record PortKeepsHistory (h : PortHistory) (new : PortAccount) : Type 0 where
  pub host : KeepsHistory 64 (map seen h) new.account
  pub asked : new.asked ≡ map (asked_at (map seen h)) (outstanding (map seen h) (length h))

-- every list of calls, from a new host on and with the answers of their contracts, whatever the port sent, and however
-- often the host was saved and restored
abbrev pub PortHostsKeepTheirHistory : Type 0
PortHostsKeepTheirHistory =
    (h : PortHistory) (new : PortAccount) → PortAnswered fresh_of_port h new → PortKeepsHistory h new
