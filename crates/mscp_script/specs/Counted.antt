-- What counting an entry does to totals.
use Rattle.std.specs.Prelude.{◌≡◌, ◌+◌}
use Rattle.mscp_controller.specs.declared.entry.Entry.{Entry}
use Rattle.mscp_script.specs.declared.totals.Totals.{Totals}
use Rattle.mscp_script.specs.Text.{ended_count, queued_count, seek_of, step_count}

-- the entry is counted
pub record IsCounted (old new : Totals) (entry : Entry) : Type 0 where
  pub count : new.count ≡ old.count + 1
  pub steps : new.steps ≡ old.steps + step_count entry
  pub seeks : new.seeks ≡ old.seeks + seek_of entry
  pub queued : new.queued ≡ old.queued + queued_count entry
  pub ended : new.ended ≡ old.ended + ended_count entry
