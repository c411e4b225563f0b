use Rattle.mscp_script.proofs.Common.{◌≡◌, ◌≤◌, ◌-◌, false, length, vec_len, Consumes, most_read}
use Rattle.mscp_script.proofs.reading.read_all.Given as goal

abbrev pub invariant-loop-buf : goal.invariant-loop-buf
invariant-loop-buf g l =
    (g.R.Source.has_failed l.reader ≡ false) × (vec_len l.all ≤ most_read)
    × Consumes (g.R.Source.remaining l.fn.reader) (g.R.Source.remaining l.reader) l.all.items
    × (length l.buf ≡ 4096)

abbrev pub decreases-loop-buf : goal.decreases-loop-buf
decreases-loop-buf g l = most_read - vec_len l.all
