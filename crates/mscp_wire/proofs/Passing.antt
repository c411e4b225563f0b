-- What comes of the lines of a log.
use Rattle.mscp_wire.proofs.Common.{Bool, Cause, Connection, Err, History, List, Log, Moment, None, Ok, Option, Result, Rule, Said, ScriptFault, Sent, Some, Standing, Told, Totals, [], after, answer_by, ap, arith, broken, broken_by, controller, controller_after, false, fold_push, if◌then◌else◌, in_line, is_some, nat_tests, outstanding, refl, seen_of, settles, standing_after, standing_first, sym, timeout, timeout_after, told, told_after, told_nothing, totals_of, true, unit_before, with_said, ℕ, ◌++◌, ◌>>=◌, ◌∙◌, ◌∷◌, ◌≡◌, ◌≢◌, ◌⊎◌}
use Rattle.mscp_reader.specs.declared.fault.Cause.TheVariants as causes
use Rattle.mscp_wire.specs.declared.moment.Moment.TheVariants as moments
use Rattle.mscp_wire.specs.declared.line.Said.TheVariants as says

-- what is kept of units is what was told after a history
abbrev pub AreTold : (Connection → ℕ → Told) → History → Type 0
AreTold units h = (via : Connection) (unit : ℕ) → units via unit ≡ told h via unit

-- ---- a line

-- a line that is at fault by itself
pub line_fails : (said : Result Said Cause) (n : ℕ) (log : Log) (fault : ScriptFault) → in_line n said ≡ Err fault
    → (fault.line ≡ n) × ((said >>= with_said n log) ≡ Err fault.cause)
line_fails (Ok said) n log fault h = cc
line_fails (Err cause) n log fault h =
    let e : record { line = n; cause = cause } ≡ fault = cc in
    (ap (λ (f : ScriptFault). f.line) (sym e), ap (λ (f : ScriptFault). Err f.cause) e)

-- a line that says something
pub line_goes : (read : Result Said Cause) (n : ℕ) (said : Said) → in_line n read ≡ Ok said → read ≡ Ok said
line_goes (Ok other) n said h = cc
line_goes (Err cause) n said h = cc

-- the credits are told before anything else
pub credits_told : (n c : ℕ) (log : Log) (credits : Option ℕ) (b : Bool) (t : Totals) → credits ≡ log.credits
    → b ≡ is_some credits → b ≡ false → t ≡ totals_of log.moments → t.counts.moments ≡ 0
    → with_said n log (says.Credits c) ≡ Ok (record log { credits = Some c })
credits_told n c log credits b t p q e s z = grind (arith, nat_tests)

-- the same was told of a moment's unit, and of the controller
pub seen_same : (xs ys : List Sent) (units : Connection → ℕ → Told) (known : Option ℕ) (h : History) (m : Moment)
    → xs ≡ ys → AreTold units h → known ≡ controller h
    → seen_of xs units known m ≡ seen_of ys (told h) (controller h) m
seen_same xs ys units known h (moments.Message via b time) e u k = refl
seen_same xs ys units known h (moments.End via b) e u k =
    let a = answer_by via b.items in
    ap (λ zs. record { unit = unit_before zs units a; controller = known }) e
    ∙ ap (λ z. record { unit = if settles ys a then z else told_nothing; controller = known }) (u a.connection a.unit)
    ∙ ap (λ z. record { unit = unit_before ys (told h) a; controller = z }) k
seen_same xs ys units known h moments.Reset e u k = refl
seen_same xs ys units known h (moments.Closed via) e u k = refl

-- the controller after one moment more
pub controller_more : (h : History) (m : Moment) (old new : Option ℕ) → old ≡ controller h
    → new ≡ controller_after old m → new ≡ controller (h ++ m ∷ [])
controller_more h m old new p q =
    q ∙ ap (λ o. controller_after o m) p ∙ sym (fold_push controller_after None h m)

-- and its timeout
pub timeout_more : (h : History) (m : Moment) (old new : Option ℕ) → old ≡ timeout h → new ≡ timeout_after old m
    → new ≡ timeout (h ++ m ∷ [])
timeout_more h m old new p q =
    q ∙ ap (λ o. timeout_after o m) p
    ∙ sym (ap (λ (s : Standing). s.timeout) (fold_push standing_after standing_first h m))

-- what was told after one moment more
pub told_push : (h : History) (m : Moment) (via : Connection) (unit : ℕ)
    → told (h ++ m ∷ []) via unit ≡ told_after (outstanding h) via unit (told h via unit) m
told_push h m via unit = ap (λ (s : Standing). s.units via unit) (fold_push standing_after standing_first h m)

pub told_more : (h : History) (m : Moment) (xs : List Sent) (old new : Connection → ℕ → Told) → xs ≡ outstanding h
    → AreTold old h
    → ((via : Connection) (unit : ℕ) → new via unit ≡ told_after xs via unit (old via unit) m)
    → AreTold new (h ++ m ∷ [])
told_more h m xs old new e u k via unit =
    k via unit ∙ ap (λ ys. told_after ys via unit (old via unit) m) e
    ∙ ap (λ o. told_after (outstanding h) via unit o m) (u via unit)
    ∙ sym (told_push h m via unit)

-- the first rule that a moment breaks after a log, if it breaks one
pub broken_after : (log : Log) (m : Moment) (credits : Option ℕ) (xs : List Sent) (units : Connection → ℕ → Told)
    (known : Option ℕ) (rule : Option Rule) → credits ≡ log.credits → xs ≡ outstanding log.moments
    → AreTold units log.moments → known ≡ controller log.moments
    → rule ≡ broken credits xs (seen_of xs units known m) m → broken_by log.credits log.moments m ≡ rule
broken_after log m credits xs units known rule p q u w h =
    let was = seen_of (outstanding log.moments) (told log.moments) (controller log.moments) m in
    ap (λ c. broken c (outstanding log.moments) was m) (sym p) ∙ ap (λ ys. broken credits ys was m) (sym q)
    ∙ ap (λ o. broken credits xs o m) (sym (seen_same xs (outstanding log.moments) units known log.moments m q u w))
    ∙ sym h

-- what is outstanding after one moment more
pub pushed : (h : History) (m : Moment) (known : Option ℕ) (xs ys : List Sent) → known ≡ timeout h
    → xs ≡ outstanding h → ys ≡ after known xs m → ys ≡ outstanding (h ++ m ∷ [])
pushed h m known xs ys k p q =
    q ∙ ap (λ o. after o xs m) k ∙ ap (λ zs. after (timeout h) zs m) p
    ∙ sym (ap (λ (s : Standing). s.commands) (fold_push standing_after standing_first h m))
