-- A controller as it was, and what is known of one that is.
use Rattle.mscp_controller.proofs.Common.{true, List, arith, All-from_recursion, Connection, First, Second, ArePassedInOrder, Line, Record, Account, Accounts, untaken_in, IsAccount, IsHeld, IsCovered, IsSound, Settings}
use Rattle.mscp_queue.specs.Kept as queue

covered_of : {c : Settings} {rs : List Record} {via : Connection} {own : Account}
    → IsAccount c rs via own → IsCovered c rs via own.untaken.items
covered_of {c} {rs} {via} {own} h = grind (arith, All-from_recursion)

-- what a controller shows is sound
pub sound_seen : {K : Type 0} {c : Settings} {line : Line K} {accounts : Accounts} → IsHeld c line accounts
    → queue.IsHeld line.room line.budget line.longest line.waiting line.drives line.begun true
    → ArePassedInOrder line.waiting
    → IsSound {K = K} (record {
      settings = c;
      waiting = line.waiting;
      untaken = untaken_in accounts;
      drives = line.drives;
      begun = line.begun;
      picker = line.picker;
    })
sound_seen {c = c} {line} {accounts} h q o = search (arith, covered_of (h.account First), covered_of (h.account Second))
