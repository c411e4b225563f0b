-- A port that was lent from a handle and changed by a call: what the call tells.
use Rattle.mscp_c.proofs.Common.{◌≡◌, ◌∙◌, ℤ, ap, subst, Action, Wants, PolicyPicks, Handle, Held, with_held, ActionOut, TellsAnswer, TellsWanted, action_told, next_code, serial_told}
use Rattle.mscp_port.specs.Ports.{asked, asks_blocks}
use Rattle.mscp_port.specs.Wanted.{bytes_wanted}
use Rattle.mscp_port.specs.declared.action.Ask.{Ask}

module _ (h old : Handle) (x new : Held) (same : x ≡ h.held) (kept : h ≡ old) where
  was : x ≡ old.held
  was = same ∙ ap (λ (g : Handle). g.held) kept

  rest : with_held h new ≡ with_held old new
  rest = ap (λ (g : Handle). with_held g new) kept

  pub answer_told : {Answer : Type 0} (code_of : Answer → ℤ) (Follows : Held → Answer → Held → Type 0) (answer : Answer)
      (status : ℤ) → Follows x answer new → status ≡ code_of answer
      → TellsAnswer code_of Follows old status (with_held h new)
  answer_told code_of Follows answer status follows code = record {
    answer = answer;
    follows = subst (λ p. Follows p answer new) was follows;
    rest = rest;
    code = code;
  }

  pub wanted_told : (ask : Ask) (action : Action) (status : ℤ) (before after : ActionOut)
      → Wants (PolicyPicks (asked ask x).controller.picker) (asks_blocks ask) (asked ask x) action new
      → status ≡ next_code action
      → after ≡ action_told action (bytes_wanted new new.task) (serial_told new) before
      → TellsWanted ask old before status (with_held h new) after
  wanted_told ask action status before after wants code told = record {
    action = action;
    wants = subst (λ (p : Held). Wants (PolicyPicks (asked ask p).controller.picker) (asks_blocks ask) (asked ask p)
        action new) was wants;
    rest = rest;
    code = code;
    told = told;
  }
