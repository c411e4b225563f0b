-- What is written of the totals of a log of the wire.
use Rattle.std.specs.Prelude.{ℕ, zero, suc, nat_eq, if◌then◌else◌, List, [], ◌++◌, codes, slice_index}
use Rattle.std.specs.Fmt.{decimal}
use Rattle.mscp_packet.specs.Opcodes.{opcode_name}
use Rattle.mscp_packet.specs.Statuses.{code_name}
use Rattle.mscp_wire.specs.declared.falls.Falls.{Falls}
use Rattle.mscp_wire.specs.declared.totals.Counts.{Counts}
use Rattle.mscp_wire.specs.declared.totals.Totals.{Totals}

-- the line of so many commands of an opcode, or ends whose status has a code, if there is one
abbrev pub sent_text : ℕ → ℕ → List ℕ
sent_text opcode count =
    if nat_eq count 0 then []
    else codes "sent: " ++ decimal count ++ codes " " ++ opcode_name opcode ++ codes " (" ++ decimal opcode
    ++ codes ")\n"

abbrev pub ended_text : ℕ → ℕ → List ℕ
ended_text code count =
    if nat_eq count 0 then []
    else codes "ended: " ++ decimal count ++ codes " " ++ code_name code ++ codes " (" ++ decimal code
    ++ codes ")\n"

-- f 0, f 1 .. before f n, one behind another
unfoldable pub texts : (ℕ → List ℕ) → ℕ → List ℕ
texts f zero = []
texts f (suc n) = texts f n ++ f n

-- the lines of all opcodes, and of all codes
abbrev pub commands_text : List ℕ → List ℕ
commands_text commands = texts (λ opcode. sent_text opcode (slice_index commands opcode)) 256

abbrev pub statuses_text : List ℕ → List ℕ
statuses_text statuses = texts (λ code. ended_text code (slice_index statuses code)) 32

-- the rest of the line of the counts, and all of it behind that of a log that is right
unfoldable pub ends_text : Counts → ℕ → List ℕ
ends_text counts queue =
    codes " polls " ++ decimal counts.polls ++ codes " ends " ++ decimal counts.ends ++ codes " resets "
    ++ decimal counts.resets ++ codes " queue " ++ decimal queue ++ codes "\n"

abbrev pub counts_text : Counts → ℕ → List ℕ
counts_text counts queue =
    (codes "right\nmoments " ++ decimal counts.moments) ++ (codes " messages " ++ decimal counts.messages)
    ++ ends_text counts queue

-- the line of the least and the greatest fall of a figure, if one fell
abbrev pub falls_text : Falls → List ℕ
falls_text falls =
    if nat_eq falls.greatest 0 then []
    else codes "falls " ++ decimal falls.least ++ codes " to " ++ decimal falls.greatest ++ codes "\n"

-- the lines of a log that is right
abbrev pub totals_text : Totals → List ℕ
totals_text totals =
    counts_text totals.counts totals.queue ++ falls_text totals.falls ++ commands_text totals.commands
    ++ statuses_text totals.statuses
