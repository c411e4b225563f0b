-- What is told of the end that bytes are.
use Rattle.std.specs.Prelude.{ℕ, ◌||◌, ℤ, nat_lt, if◌then◌else◌, List, length, slice_index, Result, Ok, Err}
use Rattle.mscp_packet.specs.Ends.{kind_of_code, reading_with}
use Rattle.mscp_packet.specs.declared.end.End.{End}
use Rattle.mscp_packet.specs.declared.end.EndBody.{EndBody}
use Rattle.mscp_packet.specs.declared.end.EndBody.TheVariants as bodies
use Rattle.mscp_packet.specs.declared.reading.EndFault.{EndFault}
use Rattle.mscp_packet.specs.declared.reading.EndFault.TheVariants as faults
use Rattle.mscp_c.specs.declared.status.TheConstants as status
use Rattle.mscp_c.specs.declared.outs.EndOut.{EndOut}

-- the end that bytes are, of which there are 12 to 64, or why they are none (manual, "End Messages")
abbrev pub end_read : List ℕ → Result End EndFault
end_read b =
    if nat_lt (length b) 12 || nat_lt 64 (length b) then Err faults.Length
    else reading_with (kind_of_code (slice_index b 8)) b

-- the status
abbrev pub end_code : Result End EndFault → ℤ
end_code (Ok e) = status.DONE
end_code (Err fault) = status.UNREADABLE

-- what every end has
abbrev pub nothing_told : End → EndOut
nothing_told e = record {
  id = 0;
  reference = e.reference;
  other = 0;
  figure = 0;
  moved = 0;
  media = 0;
  size = 0;
  serial = 0;
  unit = e.unit;
  status = e.status;
  track = 0;
  group = 0;
  cylinder = 0;
  timeout = 0;
  code = e.code;
}

-- and what this one has beside it (manual, "End Messages")
abbrev pub body_told : EndBody → EndOut → EndOut
body_told bodies.Bare out = out
body_told (bodies.Abort other) out = record out { other = other }
body_told (bodies.Status other figure) out = record out { other = other; figure = figure }
body_told (bodies.UnitStatus id media track group cylinder) out =
    record out { id = id; media = media; track = track; group = group; cylinder = cylinder }
body_told (bodies.Controller timeout id) out = record out { timeout = timeout; id = id }
body_told (bodies.Online id media size serial) out =
    record out { id = id; media = media; size = size; serial = serial }
body_told (bodies.Moved count) out = record out { moved = count }

abbrev pub fields_told : End → EndOut
fields_told e = body_told e.body (nothing_told e)

-- of what is no end nothing is told
abbrev pub told_or_same : Result End EndFault → EndOut → EndOut
told_or_same (Ok e) out = fields_told e
told_or_same (Err fault) out = out
