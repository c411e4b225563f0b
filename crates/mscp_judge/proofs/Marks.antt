-- The marks of a log, taken apart.
use Rattle.mscp_judge.proofs.Common.{◌≡◌, ℕ, List, [], ◌∷◌, ◌++◌, get_or, length, refl, ap, sym, ◌∙◌, subst, arith, length-append, append_assoc, None, flat_map-append, map-append, get_or-append_seam, take-append_seam, First, Event, Settings, Moment, Trace, moment, IsLegal, IsRight, entry_lines, Asked, IsLegalLog, Mark, MayGoOn, Told, answers_in, events_in, told, transcript, whole, written}
use Rattle.mscp_drive.specs.declared.event.Event.TheVariants as events
use Rattle.mscp_controller.specs.declared.entry.Entry.TheVariants as entries

pub told_append : (xs ys : List ℕ) → told (xs ++ ys) ≡ told xs ++ told ys
told_append xs ys = map-append (λ b. Told b) xs ys

pub events_append : (t u : Trace) → events_in (t ++ u) ≡ events_in t ++ events_in u
events_append t u = map-append (λ (m : Moment). m.0) t u

pub answers_append : (t u : Trace) → answers_in (t ++ u) ≡ answers_in t ++ answers_in u
answers_append t u = flat_map-append (λ (m : Moment). entry_lines m.1) t u

pub transcript_append : (ps qs : List Trace) → transcript (ps ++ qs) ≡ transcript ps ++ transcript qs
transcript_append ps qs = flat_map-append written ps qs

pub whole_append : (ps qs : List Trace) → whole (ps ++ qs) ≡ whole ps ++ whole qs
whole_append ps qs = flat_map-append (λ (p : Trace). p) ps qs

-- the bytes that are told first
abbrev pub lead : List Mark → List ℕ
lead [] = []
lead (Asked events ∷ marks) = []
lead (Told b ∷ marks) = b ∷ lead marks

pub lead_told : (bytes : List ℕ) (marks : List Mark) → lead (told bytes ++ marks) ≡ bytes ++ lead marks
lead_told [] marks = refl
lead_told (b ∷ bytes) marks = ap (λ xs. b ∷ xs) (lead_told bytes marks)

pub lead_transcript : (parts : List Trace) → lead (transcript parts) ≡ []
lead_transcript [] = refl
lead_transcript (p ∷ parts) = refl

-- what begins with events asked is a part and others
pub asked_parts : (es : List Event) (marks : List Mark) (parts : List Trace) → Asked es ∷ marks ≡ transcript parts
    → (p : Trace) × (rest : List Trace) × (parts ≡ p ∷ rest) × (events_in p ≡ es)
    × (marks ≡ told (answers_in p) ++ transcript rest)
asked_parts es marks [] e = absurd (omega (arith, ap length e))
asked_parts es marks (p ∷ rest) e = search arith

-- no events, no moments
pub none_asked : (t : Trace) → events_in t ≡ [] → t ≡ []
none_asked [] e = refl
none_asked (m ∷ t) e = absurd (omega (arith, ap length e))

-- one event, and the others
pub some_asked : (t : Trace) (e : Event) (es : List Event) → events_in t ≡ e ∷ es
    → (m : Moment) × (next : Trace) × (t ≡ m ∷ next) × (m.0 ≡ e) × (events_in next ≡ es)
some_asked [] e es h = absurd (omega (arith, ap length h))
some_asked (m ∷ next) e es h = search arith

-- a moment of a legal trace is right after those before it
pub right_there : (c : Settings) (t : Trace) (m : Moment) (u : Trace) → IsLegal c (t ++ m ∷ u) → IsRight c t m.0 m.1
unfolding moment
right_there c t m u l =
    let none : Moment = (events.Take First, entries.Taken First None) in
    let here : get_or (t ++ m ∷ u) (length t) none ≡ m = get_or-append_seam t m u none in
    search (arith, take-append_seam, length-append)

-- the same of the parts of one
pub right_among : (c : Settings) (parts : List Trace) (now : Trace) (m : Moment) (next : Trace)
    (rest others : List Trace)
    → others ≡ parts ++ (now ++ m ∷ next) ∷ rest → IsLegal c (whole others) → IsRight c (whole parts ++ now) m.0 m.1
right_among c parts now m next rest others e l =
    let w : whole others ≡ (whole parts ++ now) ++ m ∷ (next ++ whole rest) =
    ap whole e ∙ (whole_append parts ((now ++ m ∷ next) ∷ rest)
    ∙ (ap (λ xs. whole parts ++ xs) (append_assoc now (m ∷ next) (whole rest))
    ∙ sym (append_assoc (whole parts) now (m ∷ (next ++ whole rest))))) in
    right_there c (whole parts ++ now) m (next ++ whole rest) (subst (IsLegal c) w l)

-- ---- a first line that asks for nothing

-- a legal log begins with these marks, the first of which asks for nothing
abbrev pub GoesOn : Settings → List Mark → Type 0
GoesOn c marks = (more : List Mark) × (others : List Trace) × IsLegal c (whole others) × (marks ++ more
    ≡ transcript others)

pub goes_on : (c : Settings) (marks : List Mark) → MayGoOn c marks → GoesOn c (Asked [] ∷ marks)
goes_on c marks g = (g.0, [] ∷ g.1.0, g.1.1, ap (λ ms. Asked [] ∷ ms) g.1.2)

without_first : (c : Settings) (marks : List Mark) (others : List Trace) → IsLegal c (whole others)
    → Asked [] ∷ marks ≡ transcript others → IsLegalLog c marks
without_first c marks others l e = search (arith, asked_parts [] marks others e, none_asked)

-- the trace stays the same
without_first_run : (c : Settings) (marks : List Mark) (others : List Trace) (l : IsLegal c (whole others))
    (e : Asked [] ∷ marks ≡ transcript others) → whole others ≡ whole (without_first c marks others l e).0
unfolding without_first
without_first_run c marks others l e = search (arith, asked_parts [] marks others e, none_asked)

pub may_go_on : (c : Settings) (marks : List Mark) → GoesOn c (Asked [] ∷ marks) → MayGoOn c marks
may_go_on c marks g = (g.0, without_first c (marks ++ g.0) g.1 g.2 g.3)

-- a legal log is these marks, the first of which asks for nothing
abbrev pub IsWhole : Settings → List Mark → Type 0
IsWhole c marks = (others : List Trace) × IsLegal c (whole others) × (marks ≡ transcript others)

pub is_whole : (c : Settings) (marks : List Mark) → IsLegalLog c marks → IsWhole c (Asked [] ∷ marks)
is_whole c marks g = ([] ∷ g.0, g.1, ap (λ ms. Asked [] ∷ ms) g.2)

pub is_legal_log : (c : Settings) (marks : List Mark) → IsWhole c (Asked [] ∷ marks) → IsLegalLog c marks
is_legal_log c marks g = without_first c marks g.0 g.1 g.2

pub legal_run : (c : Settings) (marks : List Mark) (g : IsWhole c (Asked [] ∷ marks))
    → whole g.0 ≡ whole (is_legal_log c marks g).0
unfolding is_legal_log
legal_run c marks g = without_first_run c marks g.0 g.1 g.2
