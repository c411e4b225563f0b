-- The controller's trace is that of the calls that came to it, and what that promises.
use Rattle.mscp_sim.proofs.Common.{◌≡◌, ℕ, ◌+◌, ◌<◌, List, [], ◌∷◌, ◌++◌, map, take, length, refl, ap, ◌∙◌, subst, arith, append-nil, zip, Option, option_to_list, flat_map-append, map-append, take_more, Choice, Event, Entry, Moment, Trace, Answered, Holdings, AnsweredCalls, AnswersCall, Call, Plain, Said, Talk, said, trace_of, AnswersTurn}
use Rattle.mscp_controller.specs.Calls.{history}

-- the calls of a trace
abbrev pub calls_of : Trace → List Call
calls_of t = map (λ m. Plain m.0 m.1) t

pub history_of : (t : Trace) → history (calls_of t) ≡ t
history_of [] = refl
history_of (m ∷ t) = ap (λ r. m ∷ r) (history_of t)

calls_push : {K : Type 0} (picks : List Choice → ℕ → Type 0) (h m h' : Holdings K) (calls : List Call) (call : Call)
    → AnsweredCalls picks h calls m → AnswersCall picks m call h' → AnsweredCalls picks h (calls ++ call ∷ []) h'
calls_push {K} picks h m h' [] call r a = (h', subst (λ (x : Holdings K). AnswersCall picks x call h') r a, refl)
calls_push picks h m h' (c ∷ calls) call r a = (r.0, r.1, calls_push picks r.0 m h' calls call r.2 a)

-- what came so far, and one more moment, if there is one
pub reached_more : {K : Type 0} (picks : List Choice → ℕ → Type 0) (h m h' : Holdings K) (t : Trace) (o : Option Moment)
    → AnsweredCalls picks h (calls_of t) m → AnswersTurn picks m o h'
    → AnsweredCalls picks h (calls_of (t ++ option_to_list o)) h'
reached_more picks h m h' t o h1 h2 = search (arith, append-nil, calls_push, map-append)

-- the trace before the next turn
pub trace_more : (talk : Talk) (j : ℕ) → j < length talk
    → trace_of (take (j + 1) talk) ≡ trace_of (take j talk) ++ option_to_list (said talk j).moment
trace_more talk j l =
    ap trace_of (take_more talk j _ l) ∙ (flat_map-append (λ (s : Said). option_to_list s.moment) (take j talk)
    (said talk j ∷ []) ∙ ap (λ xs. trace_of (take j talk) ++ xs) (append-nil (option_to_list (said talk j).moment)))

-- ---- the whole trace

-- its events and its entries
abbrev pub events_of : Trace → List Event
events_of t = map (λ m. m.0) t

abbrev pub entries_of : Trace → List Entry
entries_of t = map (λ m. m.1) t

pub zipped : (t : Trace) → zip (events_of t) (entries_of t) ≡ t
zipped [] = refl
zipped (m ∷ t) = ap (λ r. m ∷ r) (zipped t)

pub answered_calls : {K : Type 0} (picks : List Choice → ℕ → Type 0) (h h' : Holdings K) (t : Trace)
    → AnsweredCalls picks h (calls_of t) h' → Answered picks h (events_of t) (entries_of t) h'
answered_calls picks h h' [] r = r
answered_calls picks h h' (m ∷ t) r = (r.0, r.1, answered_calls picks r.0 h' t r.2)
