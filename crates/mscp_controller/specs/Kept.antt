-- What is true of all that a controller holds, whatever came to it.
use Rattle.std.specs.Prelude.{◌≡◌, ◌+◌, ◌≤◌, List, length}
use Rattle.std.specs.List.{AllByRecursion}
use Rattle.mscp_packet.specs.Ends.{IsOfKind}
use Rattle.mscp_drive.specs.declared.connection.Connection.{Connection}
use Rattle.mscp_queue.specs.Kept.{units_of}
use Rattle.mscp_queue.specs.Lines.{Line}
use Rattle.mscp_queue.specs.Records.{Record}
use Rattle.mscp_controller.specs.declared.account.Account.{Account}
use Rattle.mscp_controller.specs.declared.account.Accounts.{Accounts}
use Rattle.mscp_controller.specs.Accounts.{account}
use Rattle.mscp_controller.specs.Holdings.{waiting_on}
use Rattle.mscp_drive.specs.Settings.{Settings, IsValid, credits_of, room, room_of}

-- the account counts the waiting commands that came by this connection, the credits cover them and its untaken ends,
-- one credit is kept for commands that are answered when they come, and each of those ends has the body of its endcode
pub record IsAccount (c : Settings) (rs : List Record) (via : Connection) (own : Account) : Type 0 where
  pub counted : own.waiting ≡ length (waiting_on via rs)
  pub covered : own.waiting + length own.untaken.items ≤ credits_of c via
  pub fits : own.waiting ≤ room_of c via
  pub shaped : AllByRecursion IsOfKind own.untaken.items

-- each connection has its account, the queue has the settings' limits, and each unit has a drive
pub record IsHeld {K : Type 0} (c : Settings) (line : Line K) (accounts : Accounts) : Type 0 where
  pub valid : IsValid c
  pub account : (via : Connection) → IsAccount c line.waiting via (account via accounts)
  pub same_room : line.room ≡ room c
  pub same_budget : line.budget ≡ c.budget
  pub same_longest : line.longest ≡ c.longest
  pub units : units_of line.drives ≡ c.units
