-- By which slots a reference number is looked up. Bit k of a bucket stands for slot k.
use Rattle.std.specs.Prelude.{◌≢◌, ◌≡◌, ℕ, ◌%◌, ◌/◌, ◌+◌, Bool, List, slice_index_or}
use Rattle.mscp_queue.specs.Masks.{AreClasses, IsSet}
use Rattle.mscp_queue.specs.Records.{Record, no_record}

-- the bucket of a reference number
abbrev pub bucket_of : ℕ → ℕ
bucket_of reference = (reference % 64 + reference / 64 + reference / 4096) % 64

-- the bit of slot n is set, or cleared, in the bucket of a number, and nothing else changes
pub record IsPut (on : Bool) (n reference : ℕ) (old new : List ℕ) : Type 0 where
  pub own : IsSet on n (slice_index_or old (bucket_of reference) 0) (slice_index_or new (bucket_of reference) 0)
  pub others : (b : ℕ) → b ≢ bucket_of reference → slice_index_or new b 0 ≡ slice_index_or old b 0

-- the bucket of the command in a slot
abbrev pub bucket_at : List Record → ℕ → ℕ
bucket_at records k = bucket_of (slice_index_or records k no_record).command.reference

-- each bucket has the slots of its waiting commands
abbrev pub AreBuckets : List Record → List ℕ → List ℕ → Type 0
AreBuckets records order buckets = AreClasses (bucket_at records) order buckets
