-- The waiting commands, as a queue keeps them.
use Rattle.std.specs.Prelude.{ℕ, List}
use Rattle.mscp_queue.specs.declared.target.Target.{Target}
use Rattle.mscp_queue.specs.Records.{Record}

-- the waiting commands, each with its target, and by how many blocks one may be passed
pub record Waiters : Type 0 where
  pub budget : ℕ
  pub waiting : List Record
  pub targets : List Target
