-- What comes of a line of a log, where hosts hear it.
use Rattle.mscp_judge.proofs.Common.{◌≡◌, ◌≢◌, ℕ, zero, suc, ◌+◌, ◌<◌, ◌≤◌, Bool, true, false, List, [], ◌∷◌, length, refl, ap, ◌∙◌, arith, result_ok, ◌↔◌, if◌then◌else◌, IfOk, Option, Some, Result, Ok, Err, replicate, IsCommand, command_of, Command, PacketFault, Both, Event, command_is, Account, ◌>>=◌, Block, lines, Begins, Place, asked_after, said_at, Fails, headed, in_line, ReadFault, ScriptFault, is_answer, FailsLine, Heard, after_answer, after_request, command_in, heard_behind, heard_log, hosts_after_all, from_ok}
use Rattle.mscp_judge.specs.Heard.{after_line, after_lines, after_words, asking}
use Rattle.mscp_packet.specs.declared.reading.PacketFault.TheVariants as sizes
use Rattle.mscp_drive.specs.declared.event.Event.TheVariants as events
use Rattle.mscp_judge.proofs.Reading.{in_err}

-- ---- a message

right : (b : List ℕ) (c : Command) → IsCommand b c → Some (command_of b) ≡ command_in b
right b c h = grind arith

pub read_in : (b : List ℕ) (r : Result Command PacketFault) → ((r ≡ Err sizes.Short) ↔ (length b < 12))
    → ((r ≡ Err sizes.Long) ↔ (64 < length b)) → IfOk r (λ c. IsCommand b c) → result_ok r ≡ command_in b
read_in b (Ok c) s l h = ap Some (command_is b c h) ∙ right b c h
read_in b (Err fault) s l h = grind arith

-- ---- events

-- steps send nothing
pub steps_send : (hosts : Both (Option Account)) (block : Block) (count : ℕ)
    → hosts_after_all hosts (replicate count (events.Step block)) ≡ hosts
steps_send hosts block zero = refl
steps_send hosts block (suc count) = steps_send hosts block count

-- ---- a line

-- a line that is skipped
pub skipped : (n : ℕ) (h : Heard) (bytes : List ℕ) (ws : List (List ℕ)) → in_line n (said_at n bytes) ≡ Ok ws
    → ws ≡ [] → after_line n h bytes ≡ Ok h
unfolding after_line
skipped n h bytes ws e none = ap (λ r. r >>= after_words n h) (from_ok n (said_at n bytes) ws e ∙ ap Ok none)

-- a line that is wrong by itself
pub wrong_words : (n : ℕ) (h : Heard) (bytes : List ℕ) (fault : ScriptFault) → in_line n (said_at n bytes) ≡ Err fault
    → (fault.line ≡ n) × (after_line n h bytes ≡ Err fault.cause)
unfolding after_line
wrong_words n h bytes fault e = search (arith, in_err n (said_at n bytes) fault e)

worded : (n : ℕ) (h : Heard) (ws : List (List ℕ)) (b : Bool) → is_answer ws ≡ b → ws ≢ []
    → after_words n h ws ≡ (if b then Ok (after_answer n h ws) else after_request h ws)
worded n h ws b h4 h5 = grind arith

-- a line that answers
pub answers : (n : ℕ) (h : Heard) (bytes : List ℕ) (ws : List (List ℕ)) → in_line n (said_at n bytes) ≡ Ok ws
    → ws ≢ [] → is_answer ws ≡ true → after_line n h bytes ≡ Ok (after_answer n h ws)
unfolding after_line
answers n h bytes ws e some a = search (arith, from_ok n (said_at n bytes) ws e, worded n h ws true a some)

-- a line that asks for events, where so many came before
pub asks : (n count : ℕ) (h : Heard) (bytes : List ℕ) (ws : List (List ℕ)) (new : List Event)
    → length h.events ≡ count → in_line n (said_at n bytes) ≡ Ok ws → ws ≢ [] → is_answer ws ≡ false
    → in_line n (asked_after count ws) ≡ Ok new → after_line n h bytes ≡ Ok (asking h new)
unfolding after_line
asks n count h bytes ws new c e some a f = grind (arith, from_ok, worded)

pub asks_wrong : (n count : ℕ) (h : Heard) (bytes : List ℕ) (ws : List (List ℕ)) (fault : ScriptFault)
    → length h.events ≡ count → in_line n (said_at n bytes) ≡ Ok ws → ws ≢ [] → is_answer ws ≡ false
    → in_line n (asked_after count ws) ≡ Err fault → (fault.line ≡ n) × (after_line n h bytes ≡ Err fault.cause)
unfolding after_line
asks_wrong n count h bytes ws fault c e some a f = grind (arith, in_err, from_ok, worded)

-- ---- lines

-- a line that is right
pub lines_more : (n : ℕ) (h next : Heard) (bytes : List ℕ) (rest : List (List ℕ)) (place : ℕ) → place ≡ n + 1
    → after_line place h bytes ≡ Ok next → after_lines n h (bytes ∷ rest) ≡ after_lines place next rest
unfolding after_lines
lines_more n h next bytes rest place p e = search arith

-- a line at fault
pub lines_wrong : (n : ℕ) (h : Heard) (bytes : List ℕ) (rest : List (List ℕ)) (place : ℕ) (fault : ReadFault)
    → place ≡ n + 1 → FailsLine place fault (after_line place h bytes) → Fails fault (after_lines n h (bytes ∷ rest))
unfolding after_lines
lines_wrong n h bytes rest place fault h6 h7 = grind arith

-- no line
pub lines_none : (n : ℕ) (h : Heard) → after_lines n h [] ≡ Ok h
unfolding after_lines
lines_none n h = refl

-- ---- a log

-- a log that isn't too large
pub log_behind : (bytes : List ℕ) (read : Result (Place × ℕ × List (List ℕ)) ScriptFault) → length bytes ≤ 16777216
    → headed 0 Begins (lines bytes) ≡ read → heard_log bytes ≡ (read >>= heard_behind)
log_behind bytes read l e = search arith
