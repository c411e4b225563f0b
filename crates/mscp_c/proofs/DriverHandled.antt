-- Calls on a handle are calls of the host of a port that its memory holds.
use Rattle.mscp_c.proofs.Common.{◌≡◌, ℕ, ℤ, Bool, true, false, if◌then◌else◌, nat_lt, List, [], ◌∷◌, ◌++◌, length, drop, refl, ap, sym, subst, append_assoc, append-nil, Result, Ok, Err, Command, PacketFault, message_read}
use Rattle.mscp_host.specs.declared.envelope.Envelope.{Envelope}
use Rattle.mscp_host.specs.declared.heard.Heard.{Heard}
use Rattle.mscp_host.specs.declared.message.HearFault.{HearFault}
use Rattle.mscp_host.specs.declared.message.HearFault.TheVariants as faults
use Rattle.mscp_host.specs.declared.ticking.Watch.{Watch}
use Rattle.mscp_host.specs.Messages.{envelope_in}
use Rattle.mscp_host.specs.PortAccounts.{PortAccount, fresh_of_port, hears, port_polls, port_submits}
use Rattle.mscp_host.specs.PortHistories as hosts
use Rattle.mscp_host.specs.PortHistories.{PortAnswered, PortAnswers, PortHistory, PortMoment}
use Rattle.mscp_host.specs.PortLaw.{PortHostsKeepCount, PortHostsKeepTheirHistory}
use Rattle.mscp_memory.specs.DriverHandles.{Handle, Held}
use Rattle.mscp_c.specs.declared.outs.HeardOut.{HeardOut}
use Rattle.mscp_c.specs.Driven.{driver_submits_read, heard_code, heard_told, watch_told}
use Rattle.mscp_c.specs.DriverHandleCalls.{AnsweredByHandle, AnswersHandle, DriverHandlesKeepTheirHistory, HandleCall, Tells, TellsAll, TellsHeard}
use Rattle.mscp_c.specs.Hosted.{TellsSubmitted}
use Rattle.mscp_c.specs.DriverHandleCalls as made

-- ---- one more moment of a host

moment_more : (old : PortAccount) (h : PortHistory) (kept : PortAccount) (m : PortMoment) (new : PortAccount)
    → PortAnswered old h kept → PortAnswers kept m new → PortAnswered old (h ++ m ∷ []) new
moment_more old [] kept m new a r = (new, subst (λ (x : PortAccount). PortAnswers x m new) a r, refl)
moment_more old (x ∷ h) kept m new a r = (a.0, a.1, moment_more a.0 h kept m new a.2 r)

-- ---- a call on a handle

-- what is told of a call after a history, and what is known after it
record Goes (so_far : PortHistory) (call : HandleCall) (old new : Held) : Type 0 where
  pub next : PortHistory
  pub tells : Tells old call next
  pub follows : PortAnswered fresh_of_port (so_far ++ next) new

same : (so_far : PortHistory) (held held' : Held) → PortAnswered fresh_of_port so_far held → held' ≡ held
    → PortAnswered fresh_of_port (so_far ++ []) held'
same so_far held held' a e = subst (λ h. PortAnswered fresh_of_port h held') (sym (append-nil so_far))
    (subst (λ (x : Held). PortAnswered fresh_of_port so_far x) (sym e) a)

-- the call is this moment of the host
one : (so_far : PortHistory) (call : HandleCall) (m : PortMoment) (old new : Held)
    → PortAnswered fresh_of_port so_far old → Tells old call (m ∷ []) → PortAnswers old m new
    → Goes so_far call old new
one so_far call m old new a tells r =
    record { next = m ∷ []; tells = tells; follows = moment_more fresh_of_port so_far old m new a r }

-- or none
none : (so_far : PortHistory) (call : HandleCall) (old new : Held) → PortAnswered fresh_of_port so_far old
    → Tells old call [] → new ≡ old → Goes so_far call old new
none so_far call old new a tells e = record { next = []; tells = tells; follows = same so_far old new a e }

submitted : (so_far : PortHistory) (message : List ℕ) (status : ℤ) (held held' : Held)
    (r : Result Command PacketFault) → message_read message ≡ r → PortAnswered fresh_of_port so_far held
    → status ≡ (driver_submits_read held r).0 → held' ≡ (driver_submits_read held r).1
    → Goes so_far (made.Submit message status) held held'
submitted so_far message status held held' (Err fault) read a code e =
    none so_far (made.Submit message status) held held' a
    (subst (λ r. TellsSubmitted hosts.Submit r status []) (sym read) (refl, code)) e
submitted so_far message status held held' (Ok command) read a code e =
    let answer = (port_submits held command).0 in
    let m = hosts.Submit command answer in
    one so_far (made.Submit message status) m held held' a
    (subst (λ r. TellsSubmitted hosts.Submit r status (m ∷ [])) (sym read) (answer, refl, code))
    (λ i. (answer, sym e i))

-- what is heard, unless the bytes are cut
abbrev heard_unless : Bool → Held → Envelope → List ℕ → Result Heard HearFault × PortAccount
heard_unless cut held v text = if cut then (Err faults.Cut, held) else hears held v text

heard : (cut : Bool) (so_far : PortHistory) (bytes : List ℕ) (watch : Watch) (before : HeardOut) (status : ℤ)
    (watch' : Watch) (after : HeardOut) (held held' : Held) → nat_lt (length bytes) 4 ≡ cut
    → PortAnswered fresh_of_port so_far held
    → status ≡ heard_code (heard_unless cut held (envelope_in bytes) (drop 4 bytes)).0
    → after ≡ heard_told (heard_unless cut held (envelope_in bytes) (drop 4 bytes)).0 before
    → watch' ≡ watch_told (heard_unless cut held (envelope_in bytes) (drop 4 bytes)).0 watch
    → held' ≡ (heard_unless cut held (envelope_in bytes) (drop 4 bytes)).1
    → Goes so_far (made.Hear bytes watch before status watch' after) held held'
heard true so_far bytes watch before status watch' after held held' is a code told watched e =
    none so_far (made.Hear bytes watch before status watch' after) held held' a
    (subst (λ cut. TellsHeard cut bytes watch before status watch' after []) (sym is) (refl, code, told, watched)) e
heard false so_far bytes watch before status watch' after held held' is a code told watched e =
    let answer = (hears held (envelope_in bytes) (drop 4 bytes)).0 in
    let m = hosts.Hear (envelope_in bytes) (drop 4 bytes) answer in
    one so_far (made.Hear bytes watch before status watch' after) m held held' a
    (subst (λ cut. TellsHeard cut bytes watch before status watch' after (m ∷ [])) (sym is)
    (answer, refl, code, told, watched)) (λ i. (answer, sym e i))

goes : (so_far : PortHistory) (h h' : Handle) (call : HandleCall) → PortAnswered fresh_of_port so_far h.held
    → AnswersHandle h call h' → Goes so_far call h.held h'.held
goes so_far h h' (made.Submit message status) a r =
    submitted so_far message status h.held h'.held (message_read message) refl a r.0 (ap (λ (x : Handle). x.held) r.1)
goes so_far h h' (made.Poll reference before status after) a r =
    let answer = (port_polls h.held reference).0 in
    let e = ap (λ (x : Handle). x.held) r.2 in
    one so_far (made.Poll reference before status after) (hosts.Ask reference answer) h.held h'.held a
    (answer, refl, r.0, r.1) (λ i. (answer, sym e i))
goes so_far h h' (made.Hear bytes watch before status watch' after) a r =
    heard (nat_lt (length bytes) 4) so_far bytes watch before status watch' after h.held h'.held refl a r.0 r.1 r.2
    (ap (λ (x : Handle). x.held) r.3)
goes so_far h h' (made.Tick watch status watch') a r =
    none so_far (made.Tick watch status watch') h.held h'.held a (refl, r.0, r.1) (ap (λ (x : Handle). x.held) r.2)
goes so_far h h' (made.Credits answer) a r =
    none so_far (made.Credits answer) h.held h'.held a (refl, r.0) (ap (λ (x : Handle). x.held) r.1)
goes so_far h h' (made.Outstanding before answer after) a r =
    none so_far (made.Outstanding before answer after) h.held h'.held a (refl, r.0, r.1)
    (ap (λ (x : Handle). x.held) r.2)
goes so_far h h' (made.Resume bytes) a r = none so_far (made.Resume bytes) h.held h'.held a (refl, r.0) r.1

-- ---- all calls

record GoesOn (so_far : PortHistory) (more : List HandleCall) (new : Handle) : Type 0 where
  pub told : PortHistory
  pub tells : TellsAll so_far more told
  pub follows : PortAnswered fresh_of_port (so_far ++ told) new.held

goes_on : (so_far : PortHistory) (h h' : Handle) (more : List HandleCall) → PortAnswered fresh_of_port so_far h.held
    → AnsweredByHandle h more h' → GoesOn so_far more h'
goes_on so_far h h' [] a r = record {
  told = [];
  tells = refl;
  follows = same so_far h.held h'.held a (ap (λ (x : Handle). x.held) r);
}
goes_on so_far h h' (call ∷ more) a r =
    let one = goes so_far h r.0 call a r.1 in
    let rest = goes_on (so_far ++ one.next) r.0 h' more one.follows r.2 in
    record {
      told = one.next ++ rest.told;
      tells = (one.next, rest.told, h.held, refl, a, one.tells, rest.tells);
      follows = subst (λ xs. PortAnswered fresh_of_port xs h'.held) (append_assoc so_far one.next rest.told)
          rest.follows;
    }

pub keeps_history : PortHostsKeepTheirHistory → PortHostsKeepCount → DriverHandlesKeepTheirHistory
keeps_history history count more old new e r =
    let g = goes_on [] old new more e r in
    record {
      told = g.told;
      tells = g.tells;
      keeps = history g.told new.held g.follows;
      counts = count fresh_of_port g.told new.held g.follows;
    }
