-- What is written of the length of an end that is too short.
use Rattle.std.specs.Prelude.{ℕ, nat_lt, if◌then◌else◌, List, ◌++◌, codes, length, slice_index}
use Rattle.std.specs.Fmt.{decimal}
use Rattle.mscp_packet.specs.Ends.{least_end}

-- the fewest bytes that it may have: any end has 12
unfoldable pub least_bytes : List ℕ → ℕ
least_bytes b = if nat_lt (length b) 12 then 12 else least_end (slice_index b 8)

-- its length, and what its endcode asks for
unfoldable pub lengths_text : ℕ → ℕ → List ℕ
lengths_text n least = (codes "length: " ++ decimal n) ++ (codes ", asked for " ++ decimal least) ++ codes " at least\n"

abbrev pub length_text : List ℕ → List ℕ
length_text b = lengths_text (length b) (least_bytes b)
