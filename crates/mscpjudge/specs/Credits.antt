-- The credits of hosts, by the envelopes of whole packets: what the controller gave, and what a host spent.
use Rattle.std.specs.Prelude.{ℕ, ◌+◌, ◌-◌, ◌%◌, ◌==◌, nat_eq, nat_le, nat_lt, min, Bool, false, if◌then◌else◌, List, [], ◌∷◌, ◌++◌, codes, length, take, slice_index, Option, Some, None, Result, Ok, Err}
use Rattle.std.specs.Fmt.{decimal}
use Rattle.std.specs.List.{list_any}
use Rattle.std.specs.Str.{bytes_eq}
use Rattle.mscp_drive.specs.declared.connection.Connection.{Connection}
use Rattle.mscp_drive.specs.declared.connection.Connection.TheVariants.{First, Second}
use Rattle.mscp_reader.specs.Grammar.{said_at}
use Rattle.mscp_reader.specs.Lexical.{lines}
use Rattle.mscp_reader.specs.Requests.{bytes_in, one}
use Rattle.mscp_reader.specs.declared.fault.Cause.{Cause}
use Rattle.mscp_wire.specs.Log.{line_says, without_time}
use Rattle.mscp_wire.specs.Wire.{is_message, seen_nothing, sent_by}
use Rattle.mscp_wire.specs.declared.line.Said.{Said}
use Rattle.mscp_wire.specs.declared.line.Said.TheVariants as says
use Rattle.mscp_wire.specs.declared.moment.Moment.{Moment}
use Rattle.mscp_wire.specs.declared.moment.Moment.TheVariants as moments
use Rattle.mscp_wire.specs.declared.rule.Rule.{Rule}
use Rattle.mscp_wire.specs.declared.rule.Rule.TheVariants as rules
use Rattle.mscp_wire.specs.declared.sent.Sent.{Sent}
use Rattle.mscp_wire.specs.declared.wrong.Wrong.{Wrong}
use Rattle.mscpjudge.specs.declared.credits.Account.{Account}
use Rattle.mscpjudge.specs.declared.credits.Credits.{Credits}
use Rattle.mscpjudge.specs.declared.envelopes.Tells.{Tells}
use Rattle.mscpjudge.specs.declared.envelopes.Tells.TheVariants as tells

-- ---- what a line tells of credits

-- the controller's packet of an envelope gives the credits in it, the low four bits of its third byte, if it is of the
-- disk's connection: a message, a datagram or a credit notification (UQSSP, "Flow Control")
abbrev pub given_by : Connection → List ℕ → Tells
given_by via envelope =
    if nat_eq (length envelope) 4 then (
    if nat_eq (slice_index envelope 3) 0 then tells.Gives via (slice_index envelope 2 % 16) else tells.Nothing)
    else tells.Nothing

-- the same by the digits of a whole packet, of which eight are the envelope's
abbrev pub given_in : Connection → Result (List ℕ) Cause → Tells
given_in via (Ok digits) =
    if nat_lt (length digits) 8 then tells.Nothing else given_by via (bytes_in (take 8 digits))
given_in via (Err cause) = tells.Nothing

-- a packet without its envelope leaves open what it gives or spends
unfoldable pub tells_on : Connection → List (List ℕ) → Tells
tells_on via [] = tells.Nothing
tells_on via (word ∷ fields) =
    if bytes_eq word (codes "to") then given_in via (one fields) else (
    if bytes_eq word (codes "send") then tells.Hides via else (
    if bytes_eq word (codes "end") then tells.Hides via
    else tells.Nothing))

-- what the words of a line tell, behind its time
unfoldable pub tells_by : List (List ℕ) → Tells
tells_by [] = tells.Nothing
tells_by (word ∷ fields) =
    if bytes_eq word (codes "second") then tells_on Second fields else tells_on First (word ∷ fields)

abbrev pub tells_in : Result (List (List ℕ)) Cause → Tells
tells_in (Ok words) = tells_by (without_time words)
tells_in (Err cause) = tells.Nothing

-- what the line of this number tells
unfoldable pub line_tells : ℕ → List ℕ → Tells
line_tells number line = tells_in (said_at number line)

-- ---- an account

-- nothing is known: a log may begin anywhere
abbrev pub unknown : Account
unknown = record { first = None; second = None }

-- once the controller is initialised each host has one credit
abbrev pub one_credit : Credits
one_credit = record { left = 1; given = 1 }

abbrev pub initial : Account
initial = record { first = Some one_credit; second = Some one_credit }

abbrev pub credits_of : Account → Connection → Option Credits
credits_of account First = account.first
credits_of account Second = account.second

abbrev pub with_credits : Account → Connection → Option Credits → Account
with_credits account First credits = record account { first = credits }
with_credits account Second credits = record account { second = credits }

-- so many more were given. At most 65,535 are kept
abbrev pub given : Option Credits → ℕ → Option Credits
given None more = None
given (Some c) more = Some (record { left = min (c.left + more) 65535; given = min (c.given + more) 4294967295 })

-- one was spent, if one was there
abbrev pub spent : Option Credits → Option Credits
spent None = None
spent (Some c) = Some (record c { left = c.left - 1 })

-- ---- the account once a line more was read

-- a message spends a credit. A packet that is too short is none. How many a host has after its connection closed isn't
-- known
abbrev pub after_moment : Account → Moment → Account
after_moment account (moments.Message via b time) =
    if is_message b.items then with_credits account via (spent (credits_of account via)) else account
after_moment account (moments.End via b) = account
after_moment account moments.Reset = initial
after_moment account (moments.Closed via) = with_credits account via None

abbrev pub after_said : Account → Result Said Cause → Account
after_said account (Ok (says.Happens m)) = after_moment account m
after_said account said = account

-- by what the line tells of credits, and what it says
abbrev pub account_after : Account → Tells → Result Said Cause → Account
account_after account (tells.Gives via more) said = with_credits account via (given (credits_of account via) more)
account_after account (tells.Hides via) said = with_credits account via None
account_after account tells.Nothing said = after_said account said

-- by the line of this number
abbrev pub after_line : ℕ → Account → List ℕ → Account
after_line number account line = account_after account (line_tells number line) (line_says number line)

-- ---- a message without a credit

-- it is known that a host has no credit (manual, "Flow Control"). The last one it may take for any command: whoever
-- boots does so
abbrev pub has_none : Option Credits → Bool
has_none None = false
has_none (Some c) = nat_eq c.left 0

-- a message breaks the rule on credits, in the line of this number
abbrev pub breach_of : ℕ → Moment → Sent → Wrong
breach_of number m s = record {
  line = number;
  rule = rules.Credits;
  moment = m;
  command = Some s;
  passed = None;
  seen = seen_nothing;
}

-- if a message's host lacks a credit for it
abbrev pub breach_by : ℕ → Account → Moment → Option Wrong
breach_by number account (moments.Message via b time) =
    if is_message b.items then (
    if has_none (credits_of account via)
    then Some (breach_of number (moments.Message via b time) (sent_by via b.items)) else None)
    else None
breach_by number account m = None

abbrev pub breach_said : ℕ → Account → Result Said Cause → Option Wrong
breach_said number account (Ok (says.Happens m)) = breach_by number account m
breach_said number account said = None

-- by what the line tells of credits, and what it says: a message without its envelope breaks nothing
abbrev pub breach_in : ℕ → Account → Tells → Result Said Cause → Option Wrong
breach_in number account tells.Nothing said = breach_said number account said
breach_in number account told said = None

-- by the line of this number
abbrev pub line_breach : ℕ → Account → List ℕ → Option Wrong
line_breach number account line = breach_in number account (line_tells number line) (line_says number line)

-- ---- a log

abbrev pub first_of : Option Wrong → Option Wrong → Option Wrong
first_of None rest = rest
first_of (Some wrong) rest = Some wrong

-- the first message without a credit in lines that so many stand before
unfoldable pub breach_from : ℕ → Account → List (List ℕ) → Option Wrong
breach_from before account [] = None
breach_from before account (line ∷ rest) =
    first_of (line_breach (before + 1) account line)
    (breach_from (before + 1) (after_line (before + 1) account line) rest)

-- a byte is 'm': of all words of a log only `from` has one, which a host's packet begins with
abbrev pub is_of_from : ℕ → Bool
is_of_from b = b == 109

-- the first one in a log, if hosts' packets have envelopes there and it isn't too large
abbrev pub lines_breach : List ℕ → Option Wrong
lines_breach bytes = if nat_lt 16777216 (length bytes) then None else breach_from 0 unknown (lines bytes)

unfoldable pub log_breach : List ℕ → Option Wrong
log_breach bytes = if list_any is_of_from bytes then lines_breach bytes else None

-- ---- what is told of such a message

-- the account before the line of this number, of lines that so many stand before
unfoldable pub account_in : ℕ → ℕ → Account → List (List ℕ) → Account
account_in before number account [] = account
account_in before number account (line ∷ rest) =
    if nat_le number (before + 1) then account
    else account_in (before + 1) number (after_line (before + 1) account line) rest

abbrev pub account_before : List ℕ → ℕ → Account
account_before bytes number =
    if nat_lt 16777216 (length bytes) then unknown else account_in 0 number unknown (lines bytes)

-- the credits of the host whose command breaks the rule on them, by an account
abbrev pub credits_by : Rule → Option Sent → Account → Option Credits
credits_by rules.Credits (Some s) account = credits_of account s.connection
credits_by rule command account = None

-- and by a log
abbrev pub credits_before : List ℕ → Wrong → Option Credits
credits_before bytes wrong = credits_by wrong.rule wrong.command (account_before bytes wrong.line)

-- how many there were, where all are known to be spent
unfoldable pub credits_text : Option Credits → List ℕ
credits_text None = []
credits_text (Some c) =
    if nat_eq c.left 0 then (codes "credits: " ++ decimal c.given) ++ codes " since the reset, all spent\n" else []
