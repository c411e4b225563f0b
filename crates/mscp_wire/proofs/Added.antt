-- What came of the lines so far, once a moment more counts.
use Rattle.mscp_wire.proofs.Common.{Bool, Connection, Course, Doubtful, IsAfter, IsMiddleOf, IsOf, IsOn, Judge, Log, Mention, Moment, None, Option, Reading, Sent, Stepped, [], after, ap, broken_by, called, called_after, command_of, controller_after, counts, doubtful, doubts_with, fall_after, false, is_about_sent, is_figure, is_middle, is_slow, kept, kept_called, mention_after, mention_of, mentions_counted, outstanding, refl, sents, sym, timeout_after, told, told_after, totals_of, true, with_counted, with_moment, ℕ, ◌&&◌, ◌++◌, ◌∙◌, ◌∷◌, ◌≡◌}
use Rattle.mscp_wire.proofs.Doubting.{called_more, doubtful_same, doubts_kept, lines_kept, not_slow}
use Rattle.mscp_wire.proofs.Going.{advanced}
use Rattle.mscp_wire.proofs.Passing.{controller_more, pushed, timeout_more, told_more}

-- a judge knows of a moment more
pub record Heard {A : Type 0} (m : Moment) (old new : Judge A) : Type 0 where
  pub credits : new.credits ≡ old.credits
  pub commands : sents new.commands ≡ after old.timeout (sents old.commands) m
  pub units : (via : Connection) (unit : ℕ)
      → kept new.units via unit ≡ told_after (sents old.commands) via unit (kept old.units via unit) m
  pub called : (identifier : ℕ)
      → kept_called new.units identifier ≡ called_after identifier (kept_called old.units identifier) m
  pub controller : new.controller ≡ controller_after old.controller m
  pub timeout : new.timeout ≡ timeout_after old.timeout m

-- what a step said of a moment, after a log
pub step_of : {A : Type 0} (log : Log) (m : Moment) (judge : Judge A) (stepped : Stepped)
    → sents judge.commands ≡ outstanding log.moments
    → ((via : Connection) (unit : ℕ) → kept judge.units via unit ≡ told log.moments via unit)
    → ((identifier : ℕ) → kept_called judge.units identifier ≡ called log.moments identifier)
    → stepped.command ≡ command_of (sents judge.commands) m → stepped.fall ≡ fall_after (sents judge.commands) m
    → stepped.doubtful ≡ doubtful (sents judge.commands) (kept judge.units) (kept_called judge.units) m
    → IsOf log m stepped
step_of log m judge stepped here units callers command fall found = record {
  command = command ∙ ap (λ xs. command_of xs m) here;
  fall = fall ∙ ap (λ xs. fall_after xs m) here;
  doubtful = found ∙ ap (λ xs. doubtful xs (kept judge.units) (kept_called judge.units) m) here
      ∙ doubtful_same (kept judge.units) (told log.moments) (kept_called judge.units) (called log.moments) units callers
      (outstanding log.moments) m;
}

-- no figure is doubtful of a moment that is right
pub right_found : (log : Log) (m : Moment) (found : Doubtful) → broken_by log.credits log.moments m ≡ None
    → found ≡ doubtful (outstanding log.moments) (told log.moments) (called log.moments) m
    → found ≡ record (doubtful (outstanding log.moments) (told log.moments) (called log.moments) m) {
      figure = is_slow log.begun log.credits log.moments m;
    }
right_found log m found none is =
    let d = doubtful (outstanding log.moments) (told log.moments) (called log.moments) m in
    is ∙ ap (λ b. record d { figure = b })
    (not_slow (outstanding log.moments) (told log.moments) (called log.moments) m
    ∙ sym (ap (λ r. is_middle log.begun log.moments && is_figure r && is_about_sent log.moments m) none
    ∙ never (is_middle log.begun log.moments) (is_about_sent log.moments m)))
  where
    never : (b x : Bool) → (b && false && x) ≡ false
    never true x = refl
    never false x = refl

module _ {A : Type 0} (number : ℕ) (log : Log) (m : Moment) (old new : Reading A) (s : IsAfter log old)
    (judge : Judge A) (heard : Heard m old.judge judge) (same : new.judge ≡ judge) where
  pub outstanding_now : sents judge.commands ≡ outstanding (log.moments ++ m ∷ [])
  outstanding_now = pushed log.moments m _ _ _ s.timeout s.commands heard.commands

  pub reading_more : (found : Doubtful) (command : Option Sent) → new.totals ≡ totals_of (log.moments ++ m ∷ [])
      → command ≡ command_of (outstanding log.moments) m
      → found ≡ record (doubtful (outstanding log.moments) (told log.moments) (called log.moments) m) {
        figure = is_slow log.begun log.credits log.moments m;
      }
      → new.doubts ≡ doubts_with old.doubts found (record { line = number; command = command })
      → IsMiddleOf (with_moment number log m) new.middle → IsAfter (with_moment number log m) new
  reading_more found command totals about is doubts middle = record {
    credits = ap (λ (j : Judge A). j.credits) same ∙ heard.credits ∙ s.credits;
    commands = ap (λ (j : Judge A). sents j.commands) same ∙ outstanding_now;
    units = λ via unit. ap (λ (j : Judge A). kept j.units via unit) same
        ∙ told_more log.moments m _ _ _ s.commands s.units heard.units via unit;
    controller = ap (λ (j : Judge A). j.controller) same
        ∙ controller_more log.moments m _ _ s.controller heard.controller;
    timeout = ap (λ (j : Judge A). j.timeout) same ∙ timeout_more log.moments m _ _ s.timeout heard.timeout;
    called = λ identifier. ap (λ (j : Judge A). kept_called j.units identifier) same
        ∙ called_more log.moments m _ _ s.called heard.called identifier;
    totals = totals;
    doubts = doubts_kept log m number old.doubts new.doubts found command (outstanding log.moments)
        (told log.moments) (called log.moments) s.lines s.doubts refl (λ via unit. refl) (λ identifier. refl) about is
        doubts;
    lines = lines_kept log m number s.lines;
    middle = middle;
  }

-- and of all that is wrong
pub course_more : {A : Type 0} (number : ℕ) (log : Log) (mentions : Connection → ℕ → Mention) (m : Moment)
    (old new : Course A) → IsOn log mentions old → (judge : Judge A) → Heard m old.judge judge → new.judge ≡ judge
    → new.fresh ≡ false
    → ((via : Connection) (reference : ℕ) → mention_of new.mentions.lines via reference
    ≡ mention_after number (mention_of old.mentions.lines) m via reference)
    → IsMiddleOf (with_moment number log m) new.middle → counts (outstanding log.moments) m ≡ true
    → IsOn (with_counted number log m) (mentions_counted number log mentions m) new
course_more {A} number log mentions m old new s judge heard same fresh mentioned middle does =
    advanced number log mentions m old new s (ap (λ (j : Judge A). j.credits) same ∙ heard.credits)
    (ap (λ (j : Judge A). sents j.commands) same ∙ heard.commands)
    (λ via unit. ap (λ (j : Judge A). kept j.units via unit) same ∙ heard.units via unit)
    (λ identifier. ap (λ (j : Judge A). kept_called j.units identifier) same ∙ heard.called identifier)
    (ap (λ (j : Judge A). j.controller) same ∙ heard.controller)
    (ap (λ (j : Judge A). j.timeout) same ∙ heard.timeout) fresh mentioned middle does
