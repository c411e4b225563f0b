use Rattle.mscp_queue.proofs.Common.{slice_index_or, bucket_of}
use Rattle.mscp_queue.proofs.Bucketed.{Searches}
use Rattle.mscp_queue.proofs.slots.Slots.place_of.Given as goal

abbrev pub invariant-loop-slot : goal.invariant-loop-slot
invariant-loop-slot l = Searches l.name l.self-inside.records
    (slice_index_or l.self-inside.buckets.slots (bucket_of l.name.reference) 0) l.left

abbrev pub decreases-loop-slot : goal.decreases-loop-slot
decreases-loop-slot l = l.left
