-- What comes of bytes that a controller is to be made of: the controller that they say, or why there is none.
use Rattle.std.specs.Prelude.{◌≡◌, ℕ, ◌+◌, Bool, true, false, not, ◌&&◌, ◌||◌, nat_eq, nat_lt, nat_le, if◌then◌else◌, List, [], ◌∷◌, length, filter, slice_index, Option, Some, None, is_some, Result, Ok, Err}
use Rattle.std.specs.List.{list_all, position}
use Rattle.std.specs.Str.{bytes_eq}
use Rattle.mscp_packet.specs.declared.end.End.{End}
use Rattle.mscp_packet.specs.Number.{num}
use Rattle.mscp_drive.specs.Shape.{Shape, last_cylinder}
use Rattle.mscp_queue.specs.declared.drive.Drive.{Drive}
use Rattle.mscp_drive.specs.declared.connection.Connection.{Connection}
use Rattle.mscp_drive.specs.declared.connection.Connection.TheVariants.{First, Second}
use Rattle.mscp_queue.specs.declared.name.Name.{Name}
use Rattle.mscp_queue.specs.Records.{Record, has_name, is_in_service, is_unstarted, name_of, record_at}
use Rattle.mscp_queue.specs.Views.{is_open_at}
use Rattle.mscp_controller.specs.Arrival.{is_queued}
use Rattle.mscp_controller.specs.Holdings.{Holdings, waiting_on}
use Rattle.mscp_controller.specs.Restored.{IsSound}
use Rattle.mscp_drive.specs.Settings.{Settings, credits_of, limit_fault, room_of}
use Rattle.mscp_saved.specs.declared.fault.RestoreFault.{RestoreFault}
use Rattle.mscp_saved.specs.declared.fault.RestoreFault.TheVariants as faults
use Rattle.mscp_saved.specs.Read.{drive_count, first_count, held_in, second_count, waiting_count}
use Rattle.mscp_saved.specs.Saved.{head_size, magic, saved_bytes, saved_length, version}

-- ---- what is asked of each part

-- how many bytes the parts take that the head tells
abbrev pub told_length : List ℕ → ℕ
told_length b = saved_length (drive_count b) (waiting_count b) (first_count b + second_count b)

-- there is a head, and as many bytes as it tells, which are those of its parts; and no more parts than a controller may
-- have
abbrev pub is_framed : List ℕ → Bool
is_framed b =
    nat_le head_size (length b) && (nat_eq (num b 8 4) (length b) && (nat_eq (told_length b) (length b)
    && (nat_le (drive_count b) 16 && nat_le (waiting_count b + (first_count b + second_count b)) 64)))

-- each number is above the one before it, and the first above this one
abbrev pub rise_above : ℕ → List Shape → Bool
rise_above number [] = true
rise_above number (u ∷ us) = nat_lt number u.number && rise_above u.number us

-- there is a unit, there are 16 at the most, and their numbers rise
abbrev pub are_units : List Shape → Bool
are_units [] = false
are_units (u ∷ us) = nat_le (length (u ∷ us)) 16 && rise_above u.number us

-- each head is on a cylinder of its unit
abbrev pub are_on_units : List Drive → Bool
are_on_units ds = list_all (λ d. nat_le d.head.cylinder (last_cylinder d.unit)) ds

-- the credits of a connection cover its waiting commands and its ends, and one is kept for commands that are answered
-- when they come
abbrev pub is_covered : Settings → List Record → Connection → List End → Bool
is_covered c rs via ends =
    nat_le (length (waiting_on via rs) + length ends) (credits_of c via)
    && nat_le (length (waiting_on via rs)) (room_of c via)

-- each command is one that would wait
abbrev pub are_queued : Settings → List Record → Bool
are_queued c rs = list_all (λ r. is_queued c r.command) rs

-- no two have one name
abbrev pub are_apart : List Record → Bool
are_apart [] = true
are_apart (r ∷ rs) = list_all (λ z. not (has_name (name_of r) z)) rs && are_apart rs

-- each has steps left, and one is in service at the most
abbrev pub are_unfinished : List Record → Bool
are_unfinished rs = list_all (λ r. nat_lt r.done r.weight) rs && nat_le (length (filter is_in_service rs)) 1

-- none was passed by more than this, nor by more than the one before it
abbrev pub are_passed : ℕ → List Record → Bool
are_passed most [] = true
are_passed most (r ∷ rs) = nat_le r.passed most && are_passed r.passed rs

-- each has an endcode
abbrev pub are_ends : List End → Bool
are_ends ends = list_all (λ e. not (nat_eq e.code 0)) ends

-- the command at a place may be served: it is in service, or nothing is and it may start
abbrev pub may_serve : ℕ → List Record → ℕ → Bool
may_serve budget rs place =
    is_in_service (record_at rs place) || (list_all is_unstarted rs && is_open_at budget rs place)

-- there is one at a place, and it may be served
abbrev pub may_serve_at : ℕ → List Record → Option ℕ → Bool
may_serve_at budget rs None = false
may_serve_at budget rs (Some place) = may_serve budget rs place

-- what was begun waits and may be served, if something was
abbrev pub may_be_begun : ℕ → List Record → Option Name → Bool
may_be_begun budget rs None = true
may_be_begun budget rs (Some name) = may_serve_at budget rs (position (has_name name) rs)

-- ---- why not

-- why no parts are read, the first that holds
abbrev pub frame_fault : List ℕ → Option RestoreFault
frame_fault b =
    if not (is_framed b) then Some faults.Length else (
    if not (nat_eq (num b 0 4) magic) then Some faults.Magic else (
    if not (nat_eq (num b 4 4) version) then Some faults.Version else None))

-- why no controller has these settings, the first that holds
abbrev pub settings_fault : Settings → Option RestoreFault
settings_fault c =
    if not (are_units c.units) then Some faults.Units else (
    if is_some (limit_fault c) then Some faults.Limits else None)

-- why a controller with these settings can't hold these drives, waiting commands and ends, and have begun this, the
-- first that holds
abbrev pub parts_fault : Settings → List Drive → List Record → List End → List End → Option Name → Option RestoreFault
parts_fault c ds rs first second begun =
    if not (are_on_units ds) then Some faults.Heads else (
    if not (is_covered c rs First first && is_covered c rs Second second) then Some faults.Credits else (
    if not (are_queued c rs) then Some faults.Command else (
    if not (are_apart rs) then Some faults.Doubled else (
    if not (are_unfinished rs) then Some faults.Steps else (
    if not (are_passed c.budget rs) then Some faults.Passed else (
    if not (are_ends first && are_ends second) then Some faults.Ends else (
    if not (may_be_begun c.budget rs begun) then Some faults.Begun else None)))))))

-- why bytes aren't those that were saved with a picker of this number, the first that holds
abbrev pub form_unless : ℕ → List ℕ → List ℕ → Option RestoreFault
form_unless number b saved =
    if not (nat_eq (slice_index b 30) number) then Some faults.Picker else (
    if not (bytes_eq saved b) then Some faults.Form else None)

-- why a controller that bytes say isn't saved as they are, with a picker of this number, the first that holds
abbrev pub form_fault : {K : Type 0} → ℕ → List ℕ → Holdings K → Option RestoreFault
form_fault number b h = form_unless number b (saved_bytes number h)

-- the first fault, if there is one
abbrev pub first_of : Option RestoreFault → Option RestoreFault → Option RestoreFault
first_of None other = other
first_of (Some fault) other = Some fault

-- why bytes that say this are no saved controller with a picker of this number, the first that holds
abbrev pub bytes_fault : {K : Type 0} → ℕ → List ℕ → Holdings K → Option RestoreFault
bytes_fault number b h =
    first_of (frame_fault b) (first_of (settings_fault h.settings)
    (first_of (parts_fault h.settings h.drives h.waiting h.untaken.first h.untaken.second h.begun)
    (form_fault number b h)))

-- ---- what comes of them

-- something, unless there is a fault
abbrev pub unless : {X : Type 0} → X → Option RestoreFault → Result X RestoreFault
unless x (Some fault) = Err fault
unless x None = Ok x

-- what comes of bytes for a picker of this number: the controller that they say, which is saved as these bytes, or why
-- there is none
abbrev pub restored : {K : Type 0} → ℕ → K → List ℕ → Result (Holdings K) RestoreFault
restored number picker b = unless (held_in picker b) (bytes_fault number b (held_in picker b))

-- bytes are a saved controller's: there is a head, and all that they say can be
pub record IsSaved {K : Type 0} (picker : K) (b : List ℕ) : Type 0 where
  pub framed : is_framed b ≡ true
  pub sound : IsSound (held_in picker b)
  pub settings : settings_fault (held_in picker b).settings ≡ None
