-- What is kept for each connection's host: how many of its commands wait, and its ends that weren't taken.
use Rattle.std.specs.Prelude.{◌+◌, ◌-◌, ◌<◌, ◌≤◌, List, [], ◌∷◌, ◌++◌, drop, length, Some}
use Rattle.mscp_packet.specs.declared.end.End.{End}
use Rattle.mscp_drive.specs.declared.connection.Connection.{Connection}
use Rattle.mscp_drive.specs.declared.connection.Connection.TheVariants.{First, Second}
use Rattle.mscp_queue.specs.declared.report.Report.{Report}
use Rattle.mscp_queue.specs.declared.report.Report.TheVariants.{Served}
use Rattle.mscp_controller.specs.declared.account.Account.{Account}
use Rattle.mscp_controller.specs.declared.account.Accounts.{Accounts}
use Rattle.mscp_drive.specs.Both.{Both}

-- the account of a connection
abbrev pub account : Connection → Accounts → Account
account First both = both.first
account Second both = both.second

-- both, where a connection has this instead
abbrev pub put_account : Connection → Account → Accounts → Accounts
put_account First own both = record both { first = own }
put_account Second own both = record both { second = own }

-- an account to which nothing came so far
abbrev pub fresh : Account
fresh = record { waiting = 0; untaken = record { items = [] } }

-- one more command waits
abbrev pub come : Account → Account
come a = record a { waiting = a.waiting + 1 }

-- an end was made
abbrev pub ended : End → Account → Account
ended end a = record a { untaken = record { items = a.untaken.items ++ end ∷ [] } }

-- a command that waited has ended
abbrev pub left : End → Account → Account
left end a = record { waiting = a.waiting - 1; untaken = record { items = a.untaken.items ++ end ∷ [] } }

-- the oldest end was taken, if there is one
abbrev pub taken : Account → Account
taken a = record a { untaken = record { items = drop 1 a.untaken.items } }

-- the ends that weren't taken
abbrev pub untaken_in : Accounts → Both (List End)
untaken_in both = record { first = both.first.untaken.items; second = both.second.untaken.items }

-- ---- a report

-- the account counts the command of the end that a report brings, if it brings one, and has room for it
abbrev pub CanEnd : Report → Accounts → Type 0
CanEnd (Served connection reference unit lbn started seek (Some end)) both =
    (1 ≤ (account connection both).waiting) × (length (account connection both).untaken.items < 64)
CanEnd report both = Unit {0}

-- that end was made, if it brings one
abbrev pub reported : Report → Accounts → Accounts
reported (Served connection reference unit lbn started seek (Some end)) both =
    put_account connection (left end (account connection both)) both
reported report both = both
