-- Calls on a handle are calls of the host that its memory holds.
use Rattle.mscp_c.proofs.Common.{◌≡◌, ℕ, List, [], ◌∷◌, ◌++◌, refl, ap, sym, ◌∙◌, subst, append_assoc, append-nil, ℤ, pos, Result, Ok, Err, Command, PacketFault, message_read, submits_read}
use Rattle.mscp_host.specs.Accounts.{Account, balance, fresh, heard, polls_oldest, submits}
use Rattle.mscp_host.specs.Histories as hosts
use Rattle.mscp_host.specs.Histories.{History, Moment, account_at}
use Rattle.mscp_host.specs.Law.{Answered, Answers, HostsKeepTheirHistory}
use Rattle.mscp_memory.specs.HostHandles.{Handle, Held}
use Rattle.mscp_c.specs.HostHandleCalls.{AnsweredByHandle, AnswersHandle, HandleCall, HostHandlesKeepTheirHistory, Tells, TellsAll}
use Rattle.mscp_c.specs.Hosted.{TellsSubmitted}
use Rattle.mscp_c.specs.HostHandleCalls as made

-- ---- one more moment of a host

moment_more : (old : Account) (h : History) (kept : Account) (m : Moment) (new : Account) → Answered old h kept
    → Answers kept m new → Answered old (h ++ m ∷ []) new
moment_more old [] kept m new a r = (new, subst (λ (x : Account). Answers x m new) a r, refl)
moment_more old (x ∷ h) kept m new a r = (a.0, a.1, moment_more a.0 h kept m new a.2 r)

-- ---- a call on a handle

-- what is told of a call after a history, and what is known after it
record Goes (credits : ℕ) (so_far : History) (call : HandleCall) (new : Held) : Type 0 where
  pub next : History
  pub tells : Tells credits so_far call next
  pub follows : Answered (fresh credits) (so_far ++ next) new

same : (credits : ℕ) (so_far : History) (held held' : Held) → Answered (fresh credits) so_far held → held' ≡ held
    → Answered (fresh credits) (so_far ++ []) held'
same credits so_far held held' a e = subst (λ h. Answered (fresh credits) h held') (sym (append-nil so_far))
    (subst (λ (x : Held). Answered (fresh credits) so_far x) (sym e) a)

-- the call is this moment of the host
one : (credits : ℕ) (so_far : History) (call : HandleCall) (m : Moment) (old new : Held)
    → Answered (fresh credits) so_far old → Tells credits so_far call (m ∷ []) → Answers old m new
    → Goes credits so_far call new
one credits so_far call m old new a tells r =
    record { next = m ∷ []; tells = tells; follows = moment_more (fresh credits) so_far old m new a r }

-- or none
none : (credits : ℕ) (so_far : History) (call : HandleCall) (old new : Held) → Answered (fresh credits) so_far old
    → Tells credits so_far call [] → new ≡ old → Goes credits so_far call new
none credits so_far call old new a tells e =
    record { next = []; tells = tells; follows = same credits so_far old new a e }

submitted : (credits : ℕ) (so_far : History) (message : List ℕ) (status : ℤ) (held held' : Held)
    (r : Result Command PacketFault) → message_read message ≡ r → Answered (fresh credits) so_far held
    → status ≡ (submits_read held r).0 → held' ≡ (submits_read held r).1
    → Goes credits so_far (made.Submit message status) held'
submitted credits so_far message status held held' (Err fault) read a code e =
    none credits so_far (made.Submit message status) held held' a
    (subst (λ r. TellsSubmitted hosts.Submit r status []) (sym read) (refl, code)) e
submitted credits so_far message status held held' (Ok command) read a code e =
    let answer = (submits held command).0 in
    let m = hosts.Submit command answer in
    one credits so_far (made.Submit message status) m held held' a
    (subst (λ r. TellsSubmitted hosts.Submit r status (m ∷ [])) (sym read) (answer, refl, code))
    (λ i. (answer, sym e i))

goes : (credits : ℕ) → HostsKeepTheirHistory → (so_far : History) (h h' : Handle) (call : HandleCall)
    → Answered (fresh credits) so_far h.held → AnswersHandle h call h' → Goes credits so_far call h'.held
goes credits law so_far h h' (made.Submit message status) a r =
    submitted credits so_far message status h.held h'.held (message_read message) refl a r.0
    (ap (λ (x : Handle). x.held) r.1)
goes credits law so_far h h' (made.Poll reference before status after) a r =
    let answer = (polls_oldest h.held reference).0 in
    let e = ap (λ (x : Handle). x.held) r.2 in
    one credits so_far (made.Poll reference before status after) (hosts.Ask reference answer) h.held h'.held a
    (answer, refl, r.0, r.1) (λ i. (answer, sym e i))
goes credits law so_far h h' (made.Receive bytes before status after) a r =
    let answer = (heard h.held bytes).0 in
    let e = ap (λ (x : Handle). x.held) r.2 in
    one credits so_far (made.Receive bytes before status after) (hosts.Receive bytes answer) h.held h'.held a
    (answer, refl, r.0, r.1) (λ i. (answer, sym e i))
goes credits law so_far h h' (made.Balance answer) a r =
    none credits so_far (made.Balance answer) h.held h'.held a
    (refl, r.0 ∙ ap (λ (x : Account). pos (balance x)) (law credits so_far h.held a).keeps)
    (ap (λ (x : Handle). x.held) r.1)
goes credits law so_far h h' (made.Resume bytes) a r =
    none credits so_far (made.Resume bytes) h.held h'.held a
    (refl, r.0 ∙ ap (λ (x : Account). Ok x) (law credits so_far h.held a).keeps) r.1

-- ---- all calls

record GoesOn (credits : ℕ) (so_far : History) (more : List HandleCall) (new : Handle) : Type 0 where
  pub told : History
  pub tells : TellsAll credits so_far more told
  pub follows : Answered (fresh credits) (so_far ++ told) new.held

goes_on : (credits : ℕ) → HostsKeepTheirHistory → (so_far : History) (h h' : Handle) (more : List HandleCall)
    → Answered (fresh credits) so_far h.held → AnsweredByHandle h more h' → GoesOn credits so_far more h'
goes_on credits law so_far h h' [] a r = record {
  told = [];
  tells = refl;
  follows = same credits so_far h.held h'.held a (ap (λ (x : Handle). x.held) r);
}
goes_on credits law so_far h h' (call ∷ more) a r =
    let one = goes credits law so_far h r.0 call a r.1 in
    let rest = goes_on credits law (so_far ++ one.next) r.0 h' more one.follows r.2 in
    record {
      told = one.next ++ rest.told;
      tells = (one.next, rest.told, refl, one.tells, rest.tells);
      follows = subst (λ xs. Answered (fresh credits) xs h'.held) (append_assoc so_far one.next rest.told) rest.follows;
    }

pub keeps_history : HostsKeepTheirHistory → HostHandlesKeepTheirHistory
keeps_history law credits more old new e r =
    let g = goes_on credits law [] old new more e r in
    record { told = g.told; tells = g.tells; keeps = law credits g.told new.held g.follows }
