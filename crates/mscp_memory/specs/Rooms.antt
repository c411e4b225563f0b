-- What is room, what memory is, and what a handle on it is.
use base.Fml.{Fml, ftrue}
use denote.Param.{layout}
use prog.Memory as machine
use Rattle.std.specs.Prelude.{ℕ, ◌%◌, Bool, true, false, nat_eq, nat_lt, not, if◌then◌else◌, Option, Some, None, is_none}
use Rattle.std.specs.Borrow.{RattleType, full_share}
use Rattle.std.specs.Ptr.{Ptr, lies_at, room_at}
use Rattle.mscp_memory.specs.declared.fault.RoomFault.{RoomFault}
use Rattle.mscp_memory.specs.declared.fault.Kind.{Kind}
use Rattle.mscp_memory.specs.declared.fault.RoomFault.TheVariants.{Made, NoHandle, Null, Misaligned, Small}

-- how many bytes a value of a type takes, and what its address is a multiple of
abbrev pub size_of : RattleType → ℕ
size_of T = machine.size (layout T)

abbrev pub align_of : RattleType → ℕ
align_of T = machine.align (layout T)

-- what is owned: by the first formula where the test is true, and otherwise by the second
abbrev pub if_fml : Bool → Fml → Fml → Fml
if_fml true F G = F
if_fml false F G = G

-- why nothing of this size and alignment fits in so many bytes from this address on, if it doesn't
abbrev pub place_fault : ℕ → ℕ → ℕ → ℕ → Option RoomFault
place_fault address length size align =
    if nat_eq address 0 then Some Null else (
    if not (nat_eq (address % align) 0) then Some Misaligned else (
    if nat_lt length size then Some Small else None))

-- why there is no room, by what the mark of a handle says and what becomes of its place
abbrev pub fault_unless : Bool → Bool → Option RoomFault → Option RoomFault
fault_unless made room fault = if made then Some Made else (if room then fault else Some NoHandle)

-- why memory of this address and length, under this mark, is no room for a value of this kind, if it isn't
abbrev pub kind_fault : ℕ → ℕ → ℕ → Kind → Option RoomFault
kind_fault address length mark kind =
    fault_unless (nat_eq mark kind.made) (nat_eq mark kind.room) (place_fault address length kind.size kind.align)

-- a handle, as callers see it: the pointer to the memory, its address and its length as C gave them, the mark, and what
-- the memory holds
pub record HandleOf (Held : Type 0) : Type 0 where
  pub at : Ptr
  pub address : ℕ
  pub length : ℕ
  pub mark : ℕ
  pub held : Held

-- what it owns: by its mark a value that lies there, or room for one, or nothing
abbrev pub owned_by : (T : RattleType) → Kind → HandleOf T.Denot → Fml
owned_by T kind h =
    if_fml (nat_eq h.mark kind.made) (lies_at T full_share h.at h.held)
    (if_fml (is_none (kind_fault h.address h.length h.mark kind)) (room_at T h.at) ftrue)
