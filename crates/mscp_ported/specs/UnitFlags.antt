-- The flags of a unit, which ends and attention messages tell (manual, "Unit Flags").
use Rattle.std.specs.Prelude.{◌+◌, ℕ, if◌then◌else◌}
use Rattle.mscp_port.specs.declared.volumes.Volume.{Volume}

-- the controller replaces bad blocks; what is written is protected by the hardware, by the host; the volume can be
-- taken out
abbrev pub flags_of_unit : Volume → ℕ
flags_of_unit v =
    0x8000 + (if v.is_protected then 0x2000 else 0) + (if v.is_protected_by_host then 0x1000 else 0)
    + (if v.is_removable then 0x80 else 0)
