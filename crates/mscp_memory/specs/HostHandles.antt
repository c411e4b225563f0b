-- What a handle on a host's memory is.
use Rattle.std.specs.Prelude.{ℕ, Bool, nat_eq, Option, is_none, if◌then◌else◌, None}
use Rattle.std.specs.Borrow.{RattleType}
use Rattle.mscp_host.specs.Accounts.{Account}
use Rattle.mscp_host.specs.contracts.host.Host as hosts
use Rattle.mscp_memory.specs.declared.host.marks.TheConstants.{ROOM, MADE}
use Rattle.mscp_memory.specs.declared.fault.RoomFault.{RoomFault}
use Rattle.mscp_memory.specs.declared.fault.Kind.{Kind}
use Rattle.mscp_memory.specs.Rooms.{HandleOf, align_of, kind_fault, size_of}

-- what a host holds
abbrev pub Held : Type 0
Held = Account

-- how a host lies in memory
abbrev pub row : RattleType
row = hosts.the_row

-- how many bytes a host takes, and what its address is a multiple of: the type's own
abbrev pub row_size : ℕ
row_size = size_of row

abbrev pub row_alignment : ℕ
row_alignment = align_of row

-- the marks of handles on memory for one, and the room that it takes
abbrev pub kind : Kind
kind = record { room = ROOM; made = MADE; size = row_size; align = row_alignment }

-- a handle, as callers see it
abbrev pub Handle : Type 0
Handle = HandleOf Held

-- whether its memory holds a host
abbrev pub is_made : Handle → Bool
is_made h = nat_eq h.mark MADE

-- why its memory is no room for one, if it isn't
abbrev pub room_fault : Handle → Option RoomFault
room_fault h = kind_fault h.address h.length h.mark kind

-- why its memory can't hold one, if it can't: one that is made there already may be replaced
abbrev pub memory_fault : Handle → Option RoomFault
memory_fault h = if is_made h then None else room_fault h

-- whether its memory is room for one
abbrev pub is_room : Handle → Bool
is_room h = is_none (room_fault h)

-- the handle, with this host there
abbrev pub with_held : Handle → Held → Handle
with_held h w = record h { held = w }

-- the handle, once this host was moved into its room
abbrev pub placed : Handle → Held → Handle
placed h w = record h { held = w; mark = MADE }
