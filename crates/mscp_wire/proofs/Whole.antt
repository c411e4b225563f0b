-- Of a log that doesn't begin in the middle each moment is right after those before it.
use Rattle.mscp_wire.proofs.Common.{AreRight, AreRightLines, Bool, Cause, Err, History, IsRight, IsRightLog, List, Log, Moment, None, Ok, Option, Result, Rule, Said, Some, [], ap, arith, broken_by, broken_in, broken_said, cases_lt, false, false≢true, get_or-append, get_or-append_seam, if◌then◌else◌, is_first, is_fresh, is_middle, is_outstanding, is_strange, is_stranger, length, length-append, line_says, nat_tests, nothing, refl, spared, spares, subst, sym, take-append-le, take-append_seam, true, with_line, with_lines, with_moment, with_said, with_stranger, ℕ, ⊎_elim, ◌&&◌, ◌++◌, ◌+◌, ◌>>=◌, ◌∙◌, ◌∷◌, ◌≡◌}
use Rattle.mscp_reader.specs.declared.fault.Cause.TheVariants as causes
use Rattle.mscp_wire.specs.declared.line.Said.TheVariants as says
use Rattle.mscp_wire.specs.declared.moment.Moment.TheVariants as moments
use Rattle.mscp_wire.proofs.Meaning.{step_on}

-- ---- histories

-- one moment more that is right
one_more : (c : Option ℕ) (h : History) (m : Moment) → AreRight c h → IsRight c h m → AreRight c (h ++ m ∷ [])
one_more c h m all last i lt = ⊎_elim
    (λ low. rw (take-append-le i h (m ∷ []) (omega arith), get_or-append h (m ∷ []) moments.Reset i low) (all i low))
    (λ high.
    let e : i ≡ length h = omega (arith, length-append h (m ∷ [])) in
    rw (e, take-append_seam h (m ∷ []), get_or-append_seam h m [] moments.Reset) last)
    (cases_lt i (length h))

none_yet : (c : Option ℕ) (h : History) → length h ≡ 0 → AreRight c h
none_yet c h e i lt = absurd (omega arith)

-- ---- a log that doesn't begin in the middle

-- nothing is spared
not_spared : (log : Log) (m : Moment) (rule : Rule) → log.begun ≡ false → spared log m rule ≡ false
not_spared log m rule e = ap (λ b. is_middle b log.moments && spares log.moments log.strangers m rule) e

-- so a moment is right that breaks no rule which is asked of it, and counts
plain_right : (log : Log) (m : Moment) → log.begun ≡ false → broken_in log m ≡ None
    → IsRight log.credits log.moments m
plain_right log m e h = by_rule (broken_by log.credits log.moments m) refl h
  where
    by_rule : (o : Option Rule) → broken_by log.credits log.moments m ≡ o → broken_in log m ≡ None → o ≡ None
    by_rule None is k = refl
    by_rule (Some rule) is k =
        sym (ap (λ b. if b then None else Some rule) (not_spared log m rule e))
        ∙ (sym (ap (λ o. broken_some o) is) ∙ k)
      where
        broken_some : Option Rule → Option Rule
        broken_some None = None
        broken_some (Some r) = if spared log m r then None else Some r

counted : (log : Log) (m : Moment) → log.begun ≡ false → is_stranger log m ≡ false
counted log m e = by_rule (broken_by log.credits log.moments m)
  where
    never : (b : Bool) → (b && false) ≡ false
    never true = refl
    never false = refl

    by_rule : (o : Option Rule) → is_strange log m o ≡ false
    by_rule None = refl
    by_rule (Some rule) = ap (λ b. is_outstanding rule && b) (not_spared log m rule e) ∙ never (is_outstanding rule)

-- ---- lines

-- a log that doesn't begin so did not before
said_back : (n : ℕ) (said : Said) (log next : Log) → with_said n log said ≡ Ok next → next.begun ≡ false
    → log.begun ≡ false
said_back n says.Nothing log next h e = let k : log ≡ next = cc in ap (λ (l : Log). l.begun) k ∙ e
said_back n (says.Attention via b) log next h e = let k : log ≡ next = cc in ap (λ (l : Log). l.begun) k ∙ e
said_back n (says.Credits c) log next h e = by_fresh (is_fresh log) h
  where
    by_fresh : (b : Bool) → (if b then Ok (record log { credits = Some c }) else Err causes.Word) ≡ Ok next
        → log.begun ≡ false
    by_fresh true k =
        let same : record log { credits = Some c } ≡ next = cc in ap (λ (l : Log). l.begun) same ∙ e
    by_fresh false k = cc
said_back n says.Begun log next h e = by_first (is_first log) h
  where
    by_first : (b : Bool)
        → (if b then Ok (record log { begun = true; strangers = [] }) else Err causes.Word) ≡ Ok next
        → log.begun ≡ false
    by_first true k =
        let same : record log { begun = true; strangers = [] } ≡ next = cc in
        absurd (false≢true (sym (ap (λ (l : Log). l.begun) same ∙ e)))
    by_first false k = cc
said_back n (says.Happens m) log next h e = by_stranger (is_stranger log m) h
  where
    by_stranger : (b : Bool)
        → ◌≡◌ {A = Result Log Cause} (Ok (if b then with_stranger log m else with_moment n log m)) (Ok next)
        → log.begun ≡ false
    by_stranger true k = let same : with_stranger log m ≡ next = cc in ap (λ (l : Log). l.begun) same ∙ e
    by_stranger false k = let same : with_moment n log m ≡ next = cc in ap (λ (l : Log). l.begun) same ∙ e

-- and what was right stays so
said_right : (n : ℕ) (said : Said) (log next : Log) → with_said n log said ≡ Ok next
    → broken_said log (Ok said) ≡ None → log.begun ≡ false → AreRight log.credits log.moments
    → AreRight next.credits next.moments
said_right n says.Nothing log next h none e r =
    let k : log ≡ next = cc in subst (λ l. AreRight l.credits l.moments) k r
said_right n (says.Attention via b) log next h none e r =
    let k : log ≡ next = cc in subst (λ l. AreRight l.credits l.moments) k r
said_right n (says.Credits c) log next h none e r = by_fresh (is_fresh log) refl h
  where
    by_fresh : (b : Bool) → is_fresh log ≡ b
        → (if b then Ok (record log { credits = Some c }) else Err causes.Word) ≡ Ok next
        → AreRight next.credits next.moments
    by_fresh true f k =
        let same : record log { credits = Some c } ≡ next = cc in
        subst (λ l. AreRight l.credits l.moments) same
        (none_yet (Some c) log.moments (grind (arith, nat_tests)))
    by_fresh false f k = cc
said_right n says.Begun log next h none e r = by_first (is_first log) h
  where
    by_first : (b : Bool)
        → (if b then Ok (record log { begun = true; strangers = [] }) else Err causes.Word) ≡ Ok next
        → AreRight next.credits next.moments
    by_first true k =
        let same : record log { begun = true; strangers = [] } ≡ next = cc in
        subst (λ l. AreRight l.credits l.moments) same r
    by_first false k = cc
said_right n (says.Happens m) log next h none e r =
    let k : ◌≡◌ {A = Result Log Cause} (Ok (with_moment n log m)) (Ok next) =
    ap {B = Result Log Cause} (λ b. Ok (if b then with_stranger log m else with_moment n log m))
    (sym (counted log m e)) ∙ h in
    let same : with_moment n log m ≡ next = cc in
    subst (λ l. AreRight l.credits l.moments) same
    (one_more log.credits log.moments m r (plain_right log m e none))

line_back : (n : ℕ) (read : Result Said Cause) (log next : Log) → (read >>= with_said n log) ≡ Ok next
    → next.begun ≡ false → log.begun ≡ false
line_back n (Ok said) log next h e = said_back n said log next h e
line_back n (Err cause) log next h e = cc

line_right : (n : ℕ) (read : Result Said Cause) (log next : Log) → (read >>= with_said n log) ≡ Ok next
    → broken_said log read ≡ None → log.begun ≡ false → AreRight log.credits log.moments
    → AreRight next.credits next.moments
line_right n (Ok said) log next h none e r = said_right n said log next h none e r
line_right n (Err cause) log next h none e r = cc

lines_back : (all : List (List ℕ)) (n : ℕ) (log final : Log) → with_lines n log all ≡ Ok final
    → final.begun ≡ false → log.begun ≡ false
unfolding with_lines with_line
lines_back [] n log final h e = let k : log ≡ final = cc in ap (λ (l : Log). l.begun) k ∙ e
lines_back (line ∷ rest) n log final h e =
    let s = step_on (n + 1) (with_line (n + 1) log line) rest final h in
    line_back (n + 1) (line_says (n + 1) line) log s.0 s.1 (lines_back rest (n + 1) s.0 final s.2 e)

lines_right : (all : List (List ℕ)) (n : ℕ) (log final : Log) → with_lines n log all ≡ Ok final
    → AreRightLines n log all → final.begun ≡ false → AreRight log.credits log.moments
    → AreRight final.credits final.moments
unfolding with_lines with_line AreRightLines
lines_right [] n log final h right e r =
    let k : log ≡ final = cc in subst (λ l. AreRight l.credits l.moments) k r
lines_right (line ∷ rest) n log final h right e r =
    let s = step_on (n + 1) (with_line (n + 1) log line) rest final h in
    let back = lines_back rest (n + 1) s.0 final s.2 e in
    lines_right rest (n + 1) s.0 final s.2 (right.1 s.0 s.1) e
    (line_right (n + 1) (line_says (n + 1) line) log s.0 s.1 right.0
    (line_back (n + 1) (line_says (n + 1) line) log s.0 s.1 back) r)

-- a log
pub whole_right : (bytes : List ℕ) (log : Log) → IsRightLog bytes log → log.begun ≡ false
    → AreRight log.credits log.moments
whole_right bytes log right e =
    lines_right _ 0 nothing log right.tell.told right.tell.right e (none_yet nothing.credits [] refl)
