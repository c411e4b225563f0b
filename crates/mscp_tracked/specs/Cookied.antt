-- The cookies that are told over a list of calls.
use Rattle.std.specs.Prelude.{◌≡◌, ℕ, if◌then◌else◌, List, [], ◌∷◌, ◌++◌, Some, Ok}
use Rattle.mscp_packet.specs.declared.end.End.{End}
use Rattle.mscp_packet.specs.Ends.{end_bytes}
use Rattle.mscp_drive.specs.declared.connection.Connection.{Connection}
use Rattle.mscp_drive.specs.Settings.{Settings}
use Rattle.mscp_queue.specs.declared.name.Name.{Name}
use Rattle.mscp_queue.specs.declared.report.Report.{Report}
use Rattle.mscp_queue.specs.declared.report.Report.TheVariants.{Idle, Served}
use Rattle.mscp_queue.specs.declared.view.Choice.{Choice}
use Rattle.mscp_queue.specs.Names.{name_on, same_name}
use Rattle.mscp_controller.specs.Calls.{upcoming_name}
use Rattle.mscp_controller.specs.Restored.{IsSound}
use Rattle.mscp_controller.specs.declared.entry.Sent.TheVariants.{Answered, Queued}
use Rattle.mscp_tracked.specs.Calls.{AnswersCall, Begin, Call, Finish, FinishBegun, Look, Send, Step, Take}
use Rattle.mscp_tracked.specs.Trackings.{Tracking, new_after}

-- the cookie that was sent last with each name, once this call came too: a message that is taken in brings one
abbrev pub cookie_with : (Name → ℕ) → Call → Name → ℕ
cookie_with f (Send via b cookie (Ok (Queued reference))) name =
    if same_name (name_on via reference) name then cookie else f name
cookie_with f (Send via b cookie (Ok (Answered reference aborted))) name =
    if same_name (name_on via reference) name then cookie else f name
cookie_with f call name = f name

-- and once these calls came
abbrev pub cookie_since : (Name → ℕ) → List Call → Name → ℕ
cookie_since f [] = f
cookie_since f (call ∷ calls) = cookie_since (cookie_with f call) calls

-- the cookie that was sent with the last message of this name that was taken in
abbrev pub cookie_sent : List Call → Name → ℕ
cookie_sent calls = cookie_since (λ name. 0) calls

-- a report is told with the cookie of the command that was served
abbrev pub HasCookie : (Name → ℕ) → Report → ℕ → Type 0
HasCookie f Idle cookie = Unit {0}
HasCookie f (Served via reference unit lbn started seek ended) cookie = cookie ≡ f (name_on via reference)

-- the bytes are those of an end whose command has this cookie
abbrev pub IsEndWith : (Name → ℕ) → Connection → List ℕ → ℕ → Type 0
IsEndWith f via b cookie = (e : End) × (b ≡ end_bytes e) × (cookie ≡ f (name_on via e.reference))

-- what a call tells is told with the cookie of its command
abbrev pub TellsCookies : (Name → ℕ) → Call → Type 0
TellsCookies f (Look via (Some e)) = e.cookie ≡ f (name_on via e.end.reference)
TellsCookies f (Take via (Some t)) = IsEndWith f via t.end.items t.cookie
TellsCookies f (Begin (Some told)) = told.cookie ≡ f (upcoming_name told.upcoming)
TellsCookies f (FinishBegun serial k (Ok finished)) = HasCookie f finished.report finished.cookie
TellsCookies f (Finish via reference k (Ok finished)) = HasCookie f finished.report finished.cookie
TellsCookies f (Step k finished) = HasCookie f finished.report finished.cookie
TellsCookies f call = Unit {0}

-- calls are answered so, and each value between is one that a controller can hold, as `drives` tells of any
abbrev pub SoundlyAnswered : {K : Type 0} → (List Choice → ℕ → Type 0) → Tracking K → List Call → Tracking K → Type 0
SoundlyAnswered picks old [] new = new ≡ old
SoundlyAnswered {K} picks old (call ∷ calls) new = (next : Tracking K) × AnswersCall picks old call next
    × IsSound next.controller × SoundlyAnswered picks next calls new

-- the law: each begin, finish, step and end is told with the cookie that was sent with the last message of its
-- command's name that was taken in before
abbrev pub CookiesAreKept : {K : Type 0} → (List Choice → ℕ → Type 0) → K → Type 0
CookiesAreKept {K} picks picker = (beginnings : ℕ) (c : Settings) (held : Tracking K) (before behind : List Call)
    (call : Call) → SoundlyAnswered picks (new_after beginnings c picker) (before ++ call ∷ behind) held
    → TellsCookies (cookie_sent before) call
