-- What a host says of an end that it hears, and what it keeps of it.
use Rattle.mscp_heard.proofs.Watching.{read_number}
use Rattle.mscp_heard.proofs.Common.{Asked, Bool, End, Envelope, Err, HearFault, Heard, List, Message, Ok, Option, PortAccount, Result, Some, Watch, answered, arith, as_read, cond, end_says, ended, ends_of, granted, heard_of, hears, is_about_polled, is_of, may_be_of, message_in, nat_eq, none-some, outstanding_with, same_Some, true, watch_after, without, without_by, ℕ, ◌&&◌, ◌∙◌, ◌≡◌, ◌≢◌, ◌⊎◌, said}
use Rattle.mscp_packet.specs.declared.end.EndBody.TheVariants as bodies
use Rattle.mscp_host.specs.declared.heard.Heard.TheVariants as heards
use Rattle.mscp_host.specs.declared.message.HearFault.TheVariants as faults
use Rattle.mscp_host.specs.declared.message.Message.TheVariants as messages

-- it is of a command that is outstanding no more; and what the host keeps of it is its end
pub record IsDone (old new : PortAccount) (e : End) (heard : Heard) : Type 0 where
  pub own : (x : Asked) × (heard ≡ end_says old e x)
  pub asked : new.asked ≡ without_by (is_of e.reference) old.asked
  pub outstanding : new.account.outstanding
      ≡ without e.reference (outstanding_with old.account (answered old.account.watch (as_read e)))
  pub watch : new.account.watch ≡ watch_after old.account.watch e.reference
  pub about : is_about_polled old.account.watch (answered old.account.watch (as_read e)) ≡ true

abbrev pub IsHeardSo : PortAccount → PortAccount → Result Message HearFault → Heard → Type 0
IsHeardSo old new r heard =
    ((new.asked ≡ old.asked) × (new.account ≡ old.account)
    × ((heard ≢ heards.Reset) × (heard ≢ heards.Lost)) × ((e : End) → r ≢ Ok (messages.End e)))
    ⊎ ((e : End) × (r ≡ Ok (messages.End e)) × IsDone old new e heard)

pub hear_done : (old new : PortAccount) (v : Envelope) (b : List ℕ) (heard : Heard)
    → hears old v b ≡ (Ok heard, new) → IsHeardSo old new (message_in v b) heard
hear_done old new v b heard e = by (message_in v b) e
  where
    judged : (end : End) (x : Asked) (c d : Bool) → (c && d) ≡ may_be_of old end x
        → d ≡ is_about_polled old.account.watch (answered old.account.watch (as_read end))
        → ◌≡◌ {A = Result Heard HearFault × PortAccount} (cond (c && d) (
          Ok (end_says old end x),
          granted v.credits (ended old end),
        )
        (Err faults.Unknown, old)) (Ok heard, new)
        → IsHeardSo old new (Ok (messages.End end)) heard
    judged end x c d is about h = grind (arith, read_number)

    found : (end : End) (o : Option Asked) → ends_of old v.credits end o ≡ (Ok heard, new)
        → IsHeardSo old new (Ok (messages.End end)) heard
    found end o h = grind (arith, judged)

    plain : (x : Heard) → x ≡ heard → (x ≢ heards.Reset) × (x ≢ heards.Lost)
        → (heard ≢ heards.Reset) × (heard ≢ heards.Lost)
    plain x same n = ((λ e. n.0 (same ∙ e)), (λ e. n.1 (same ∙ e)))

    news : (c : Bool) (unit code : ℕ) → (cond c (heards.Available unit) (heards.Attention code unit) ≢ heards.Reset)
        × (cond c (heards.Available unit) (heards.Attention code unit) ≢ heards.Lost)
    news c unit code = grind arith

    by : (r : Result Message HearFault) → heard_of old v.credits r ≡ (Ok heard, new) → IsHeardSo old new r heard
    by r h = grind (arith, found, plain, said, news, nat_eq)

-- what answers a poll
pub answer_is : (o : Option Watch) (e : End) (told : ℕ × ℕ) → answered o (as_read e) ≡ Some told
    → (w : Watch) × (o ≡ Some w) × (w.reference ≡ e.reference) × (e.code ≡ 0x82)
    × (e.body ≡ bodies.Status told.0 told.1)
answer_is o e told h = grind (arith, none-some, same_Some, nat_eq)
