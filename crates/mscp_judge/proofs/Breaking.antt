-- The rule that a line breaks which comes to a judge.
use Rattle.mscp_judge.proofs.Common.{◌≡◌, ◌≢◌, ℕ, true, false, List, [], sym, ◌∙◌, arith, true≢false, IsValid, Settings, Trace, fresh, words, Judge, Name, Wanted, Rule, IsBroken, Log, is_answer, name_in, IsRule, IsStepRule, is_service, starts_in, Led, Stands, due, owed, run_of}
use Rattle.mscp_judge.specs.declared.rules.Rule.TheVariants as rules

broken : {A : Type 0} (c : Settings) (log : Log) (line : List ℕ) (judge : Judge A) (rule : Rule)
    (starts : List Name) (s : Stands c log judge)
    → IsRule c (run_of s.counted.stood) (due judge) (owed judge) line rule
    → (is_answer (words line) ≡ true → due judge ≡ [] → owed judge ≢ [] → rule ≢ rules.Service → rule ≢ rules.Idle
    → starts ≡ starts_in c (run_of s.counted.stood)) → IsBroken c log line rule starts
broken c log line judge rule starts s r o = search arith

-- a line that asks too early
pub broken_early : {A : Type 0} (c : Settings) (log : Log) (line : List ℕ) (judge : Judge A) (starts : List Name)
    → Stands c log judge → is_answer (words line) ≡ false → IsBroken c log line rules.Missing starts
broken_early c log line judge starts s n = search (arith, broken, true≢false)

-- one that tells where nothing is asked
pub broken_unasked : {A : Type 0} (c : Settings) (log : Log) (line : List ℕ) (judge : Judge A) (starts : List Name)
    → Stands c log judge → due judge ≡ [] → owed judge ≡ [] → is_answer (words line) ≡ true
    → IsBroken c log line rules.Unasked starts
broken_unasked c log line judge starts s none all a = search (arith, broken, true≢false)

-- and one where a step is to be answered
pub broken_step : {A : Type 0} (c : Settings) (log : Log) (line : List ℕ) (judge : Judge A) (rule : Rule)
    (starts : List Name) → Stands c log judge → due judge ≡ [] → is_answer (words line) ≡ true → owed judge ≢ []
    → (is_service (words line) ≡ false → rule ≡ rules.Idle)
    → (is_service (words line) ≡ true → (t : Trace) (begun : Wanted) → IsValid c
    → Led (fresh c begun) t judge.controller → IsStepRule c t (name_in (words line)) rule)
    → (rule ≢ rules.Service → rule ≢ rules.Idle → (t : Trace) (begun : Wanted) → IsValid c
    → Led (fresh c begun) t judge.controller
    → starts ≡ starts_in c t) → IsBroken c log line rule starts
broken_step c log line judge rule starts s none a some idle step may = broken c log line judge rule starts s (record {
  asks = λ n. absurd (true≢false (sym a ∙ n));
  told = λ b d. absurd (d none);
  unasked = λ b d o. absurd (some o);
  idle = λ b d o e. idle e;
  step = λ b d o e. step e (run_of s.counted.stood) s.counted.stood.begun s.counted.stood.valid s.counted.stood.led;
}) (λ b d o e f. may e f (run_of s.counted.stood) s.counted.stood.begun s.counted.stood.valid s.counted.stood.led)
