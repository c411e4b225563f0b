-- Accounts, one by one, and what is seen of them.
use Rattle.mscp_controller.proofs.Common.{◌≡◌, ◌+◌, false, List, [], ◌∷◌, ◌++◌, length, arith, End, Connection, Report, same_connection, Account, Accounts, account, put_account, reported, untaken_in, Both, of, ends_reported, more_ends}
use Rattle.mscp_controller.specs.Accounts.{left}

-- ---- one of them is changed
-- what holds of the changed one, and of the other as it was, holds of each
pub each_account : (P : Connection → Account → Type 0) (via : Connection) (own : Account) (both : Accounts) → P via own
    → ((other : Connection) → same_connection via other ≡ false → P other (account other both))
    → (other : Connection) → P other (account other (put_account via own both))
each_account P via own both h4 h5 other = grind arith

-- ---- what is seen
pub seen_of : (via : Connection) (a : Accounts) → of via (untaken_in a) ≡ (account via a).untaken.items
seen_of via a = grind arith

pub seen_left : (via : Connection) (end : End) (a : Accounts)
    → untaken_in (put_account via (left end (account via a)) a) ≡ more_ends via (untaken_in a) (end ∷ [])
seen_left via end a = grind arith

-- ---- a report
-- what a report changes of a connection's account
pub record Reported (via : Connection) (report : Report) (a : Accounts) : Type 0 where
  pub waiting : (account via (reported report a)).waiting + length (ends_reported via report)
      ≡ (account via a).waiting
  pub untaken : (account via (reported report a)).untaken.items
      ≡ (account via a).untaken.items ++ ends_reported via report

-- the ends of a connection, once more went to it
pub of_more : (via : Connection) (us : Both (List End)) (es : List End) → of via (more_ends via us es) ≡ of via us ++ es
of_more via us es = grind arith
