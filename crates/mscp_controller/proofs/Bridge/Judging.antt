-- What is known of a message that isn't refused.
use Rattle.mscp_controller.proofs.Common.{◌≡◌, ℕ, false, ◌||◌, List, [], ◌∷◌, ◌++◌, refl, ap, arith, nat_eq, slice_index, None, list_any, list_any-append, le-ltb, true≢false, Connection, name_on, Record, has_name, Command, IsCommand, Option, command_of, End, numbers, numbers_ended, waiting_on, credit_fault, holds, refusal}
use Rattle.mscp_packet.proofs.Kept.{opcode_kept}
use Rattle.mscp_packet.specs.Commands.{opcode_byte}
use Rattle.mscp_controller.specs.declared.entry.SendFault.{SendFault}

-- a message is the command that it is read as
pub command_is : (b : List ℕ) (c : Command) → IsCommand b c → c ≡ command_of b
unfolding command_of
command_is b c h = λ i. record { reference = h.reference i; unit = h.unit i; order = h.order i }

waiting_held : (rs : List Record) (via : Connection) (reference : ℕ)
    → holds (numbers (waiting_on via rs)) reference ≡ list_any (has_name (name_on via reference)) rs
waiting_held [] via reference = refl
waiting_held (r ∷ rs) via reference = grind (arith, waiting_held rs via reference)

untaken_held : (es : List End) (reference : ℕ)
    → holds (numbers_ended es) reference ≡ list_any (λ e. nat_eq e.reference reference) es
untaken_held [] reference = refl
untaken_held (e ∷ es) reference = ap (λ b. nat_eq e.reference reference || b) (untaken_held es reference)

-- a reference number is outstanding where it waits or has an end that wasn't taken
pub holds_either : (rs : List Record) (via : Connection) (es : List End) (reference : ℕ)
    → holds (numbers (waiting_on via rs) ++ numbers_ended es) reference
    ≡ (list_any (has_name (name_on via reference)) rs || list_any (λ e. nat_eq e.reference reference) es)
holds_either rs via es reference = grind (arith, waiting_held, untaken_held, list_any-append)

-- a message that is the command and isn't refused for its credit isn't refused
pub taken : (balance : ℕ) (outstanding b : List ℕ) (command : Command) → IsCommand b command
    → credit_fault balance outstanding (slice_index b 8) command.reference ≡ None → refusal balance outstanding b ≡ None
taken balance outstanding b command h e = search (arith, le-ltb)

-- whatever message it is
pub free_of : (balance : ℕ) (outstanding b : List ℕ) (command : Command) (opcode : ℕ) (fault : Option SendFault)
    → opcode ≡ opcode_byte command.order → fault ≡ credit_fault balance outstanding opcode command.reference
    → fault ≡ None → IsCommand b command → refusal balance outstanding b ≡ None
free_of balance outstanding b command opcode fault byte is none h = grind (arith, opcode_kept, taken)

-- no command that waits has a reference number that isn't outstanding
pub none_waits : (rs : List Record) (via : Connection) (es : List End) (reference : ℕ) → holds (numbers (waiting_on via
    rs) ++ numbers_ended es) reference ≡ false → list_any (has_name (name_on via reference)) rs ≡ false
none_waits rs via es reference h = grind (arith, holds_either, true≢false)
