-- Commands that are a formality for a controller which has one path to each unit, no cache, and no data of its own to
-- compare (manual, "DETERMINE ACCESS PATHS", "COMPARE CONTROLLER DATA", "FLUSH"). They ask nothing of a disk, but no
-- command may pass one in front of it that is sequential. So the controller gets an ACCESS of no bytes in the place of
-- such a command: it waits for its turn, has a figure, and can be aborted.
use Rattle.std.specs.Prelude.{ℕ, ◌+◌, ◌-◌, ◌==◌, ◌&&◌, ◌++◌, ◌∷◌, Bool, nat_le, if◌then◌else◌, List, take, replicate, Option, None, Some}
use Rattle.mscp_packet.specs.EndcodeBytes as endcodes
use Rattle.mscp_packet.specs.OpcodeBytes as opcodes
use Rattle.mscp_packet.specs.Opcodes.{port_answers}
use Rattle.mscp_packet.specs.Statuses as statuses
use Rattle.mscp_port.specs.declared.buffers.Buffer.{Buffer}

-- what the port answers by the table of opcodes: DETERMINE ACCESS PATHS, COMPARE CONTROLLER DATA and FLUSH
abbrev pub is_formality : ℕ → Bool
is_formality opcode = port_answers opcode

-- the endcode of one
abbrev pub ends_formality : ℕ → Bool
ends_formality code = nat_le endcodes.unknown code && port_answers (code - endcodes.unknown)

-- in its place the controller gets an ACCESS of the same number and unit, whose other bytes are zeros
abbrev pub stand_in : List ℕ → List ℕ
stand_in b = take 8 b ++ opcodes.access ∷ replicate 23 0

-- what came of that is told with the endcode of the command that was read, of which this is kept, if something is
abbrev pub code_told : Option Buffer → ℕ → ℕ
code_told None code = code
code_told (Some b) code = if is_formality b.opcode then b.opcode + endcodes.unknown else code

-- it succeeds, unless it was aborted
abbrev pub formal_status : ℕ → ℕ
formal_status status = if status == statuses.aborted then statuses.aborted else statuses.success
