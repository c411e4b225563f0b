-- A packet that goes out: its header, and its text.
use Rattle.std.specs.Prelude.{ℕ, ◌+◌, ◌++◌, ◌∷◌, [], min, Bool, true, false, List, length, if◌then◌else◌, Option, None, Some}
use Rattle.byteorder.specs.Endian.{little_bytes}
use Rattle.mscp_port.specs.declared.port.Outgoing.{Outgoing}
use Rattle.mscp_port.specs.declared.port.OutgoingKind.{OutgoingKind}
use Rattle.mscp_port.specs.declared.port.OutgoingKind.TheVariants as kinds
use Rattle.mscp_port.specs.declared.port.Port.{Port}

-- an end of the disk's gives back the credit of its command, and tells up to 14 that the host wasn't told yet. One of
-- the utilities gives back that of its message alone, and an attention message tells none. The field has four bits
abbrev pub credits_by : ℕ → OutgoingKind → ℕ
credits_by untold kinds.Attention = 0
credits_by untold kinds.End = 1 + min untold 14
credits_by untold kinds.UtilitiesEnd = 1

abbrev pub credits_with : ℕ → Option Outgoing → ℕ
credits_with untold None = 0
credits_with untold (Some o) = credits_by untold o.kind

abbrev pub credits_told : {K : Type 0} → Port K → ℕ
credits_told p = credits_with p.untold p.outgoing

-- an end that the port makes itself is of its message's connection
abbrev pub end_kind : Bool → OutgoingKind
end_kind foreign = if foreign then kinds.UtilitiesEnd else kinds.End

-- it is one of the disk's
abbrev pub is_disk_end : OutgoingKind → Bool
is_disk_end kinds.Attention = false
is_disk_end kinds.End = true
is_disk_end kinds.UtilitiesEnd = false

-- that of the utilities is 2, and the disk's 0
abbrev pub connection_of : OutgoingKind → ℕ
connection_of kinds.Attention = 0
connection_of kinds.End = 0
connection_of kinds.UtilitiesEnd = 2

-- the length of the text, the credits with the type of a sequential message, which is 0, the connection, and the text
abbrev pub packet_of : ℕ → OutgoingKind → List ℕ → List ℕ
packet_of credits kind text = little_bytes 2 (length text) ++ (credits ∷ connection_of kind ∷ []) ++ text
