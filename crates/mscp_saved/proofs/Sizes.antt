-- How much there is of each part of a controller.
use Rattle.mscp_saved.proofs.Common.{◌+◌, ◌<◌, ◌≤◌, length, arith, length-map, Drive, Record, Holdings, IsSound, sides_length}

pub record HasSizes {K : Type 0} (h : Holdings K) : Type 0 where
  pub some_drive : 0 < length h.drives
  pub drives : length h.drives ≤ 16
  pub parts : length h.waiting + length h.untaken.first + length h.untaken.second ≤ 64

pub sizes_of : {K : Type 0} {h : Holdings K} → IsSound h → HasSizes h
sizes_of {K} {h} s =
    let long = length-map h.drives (λ (d : Drive). d.unit) in
    let credits = s.valid.few_credits in
    let first = s.first.covered in
    record {
      some_drive = omega (arith, s.queue.units.some, long);
      drives = omega (arith, s.queue.units.few, long);
      parts = omega (arith, credits, first, s.second.covered, sides_length (λ (r : Record). r.connection) h.waiting);
    }
