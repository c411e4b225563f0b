-- Calls on a handle are calls of the controller that its memory holds.
use Rattle.mscp_c.proofs.Common.{◌≡◌, ℕ, List, [], ◌∷◌, ◌++◌, length, map, refl, ap, sym, ◌∙◌, subst, append_assoc, append-nil, ℤ, pos, filter, MatchOption, Option, Some, None, Ok, Err, length-map, ArrayVec, Connection, Name, name_on, same_connection, Block, Drive, Choice, is_online_in, Holder, figure_of_name, holders_of_name, Line, Record, name_of, filter_map_of, Settings, IsValid, balance, untaken, of, figure_of, holders_of, Trace, Holdings, answer_to_message, balance_of, end_taken, fresh, waiting_on, connection, name, waiting, waiting_by, AnsweredCalls, AnswersCall, Call, history, ControllersKeepThePromise, owner_kept, Policy, PolicyPicks, HolderOut, PacketOut, ReportOut, SentOut, BAD_CONNECTION, BAD_STATUS, connection_given, block_told, figure_in, figures_in, flag, holders_in, holders_told, TellsFinish, TellsStep, AnsweredByHandle, AnswersFinish, AnswersHandle, AnswersOf, AnswersSend, AnswersTake, AnswersWhy, HandleCall, HandlesKeepThePromise, Refuses, Tells, TellsAll, TellsBlock, TellsFinished, TellsRefused, TellsSent, TellsStepped, TellsTaken, TellsWhy}
use Rattle.mscp_memory.specs.ControllerHandles.{Handle, Held}
use Rattle.mscp_drive.specs.declared.event.Event.TheVariants as events
use Rattle.mscp_controller.specs.declared.entry.Entry.TheVariants as entries
use Rattle.mscp_controller.specs.Calls as calls
use Rattle.mscp_c.specs.Given.{TellsSettings}
use Rattle.mscp_c.specs.HandleCalls as made

-- ---- one more call of a controller

calls_more : {K : Type 0} (picks : List Choice → ℕ → Type 0) (old : Holdings K) (xs : List Call) (h : Holdings K)
    (call : Call) (new : Holdings K) → AnsweredCalls picks old xs h → AnswersCall picks h call new
    → AnsweredCalls picks old (xs ++ call ∷ []) new
calls_more {K} picks old [] h call new a r = (new, subst (λ (x : Holdings K). AnswersCall picks x call new) a r, refl)
calls_more picks old (x ∷ xs) h call new a r = (a.0, a.1, calls_more picks a.0 xs h call new a.2 r)

-- no call changes the picker
picker_kept : {K : Type 0} (picks : List Choice → ℕ → Type 0) (old : Holdings K) (call : Call) (new : Holdings K)
    → AnswersCall picks old call new → new.picker ≡ old.picker
picker_kept picks old (calls.Plain event entry) new r = (owner_kept picks old new event entry r).1
picker_kept {K} picks old (calls.Begin None) new r = ap (λ (l : Line K). l.picker) r.begins.2
picker_kept {K} picks old (calls.Begin (Some upcoming)) new r = ap (λ (l : Line K). l.picker) r.begins.1.left
picker_kept picks old (calls.Finish via reference k (Ok report)) new r =
    (owner_kept picks old new (events.Step k) (entries.Stepped report) r.1).1
picker_kept {K} picks old (calls.Finish via reference k (Err not_begun)) new r = ap (λ (h : Holdings K). h.picker) r.1

-- ---- what is known of a handle after calls of its controller

record Follows (c : Settings) (policy : Policy) (so_far : List Call) (h : Handle) : Type 0 where
  pub picker : h.held.picker ≡ policy
  pub called : AnsweredCalls (PolicyPicks policy) (fresh c policy) so_far h.held

-- what is told of a call, and what is known after it
record Goes (c : Settings) (policy : Policy) (so_far : List Call) (call : HandleCall) (new : Handle) : Type 0 where
  pub next : List Call
  pub tells : Tells c so_far call next
  pub follows : Follows c policy (so_far ++ next) new

follows_more : (c : Settings) (policy : Policy) (so_far : List Call) (h h' : Handle) (call : Call)
    → Follows c policy so_far h → AnswersCall (PolicyPicks h.held.picker) h.held call h'.held
    → Follows c policy (so_far ++ call ∷ []) h'
follows_more c policy so_far h h' call f r =
    let own : AnswersCall (PolicyPicks policy) h.held call h'.held =
    subst (λ (p : Policy). AnswersCall (PolicyPicks p) h.held call h'.held) f.picker r in
    record {
      picker = picker_kept (PolicyPicks policy) h.held call h'.held own ∙ f.picker;
      called = calls_more (PolicyPicks policy) (fresh c policy) so_far h.held call h'.held f.called own;
    }

follows_same : (c : Settings) (policy : Policy) (so_far : List Call) (h h' : Handle) → Follows c policy so_far h
    → h' ≡ h → Follows c policy (so_far ++ []) h'
follows_same c policy so_far h h' f e = subst (Follows c policy (so_far ++ [])) (sym e)
    (subst (λ xs. Follows c policy xs h) (sym (append-nil so_far)) f)

-- the handle is another one, whose memory holds the same
follows_elsewhere : (c : Settings) (policy : Policy) (so_far : List Call) (h h' : Handle) → Follows c policy so_far h
    → h'.held ≡ h.held → Follows c policy (so_far ++ []) h'
follows_elsewhere c policy so_far h h' f e = subst (λ xs. Follows c policy xs h') (sym (append-nil so_far)) (record {
  picker = ap (λ (x : Held). x.picker) e ∙ f.picker;
  called = subst (λ (x : Held). AnsweredCalls (PolicyPicks policy) (fresh c policy) so_far x) (sym e) f.called;
})

-- ---- a call on a handle

-- a number that is none is refused, and nothing is told
refused : {Out : Type 0} (c : Settings) (policy : Policy) (so_far : List Call) (h h' : Handle) (call : HandleCall)
    (code : ℤ) (before : Out) (status : ℤ) (after : Out) → Refuses code h before status h' after
    → Follows c policy so_far h → (TellsRefused code before status after [] → Tells c so_far call [])
    → Goes c policy so_far call h'
refused c policy so_far h h' call code before status after r f tell =
    record { next = []; tells = tell (refl, r.0, r.2); follows = follows_same c policy so_far h h' f r.1 }

sent : (c : Settings) (policy : Policy) (so_far : List Call) (h h' : Handle) (number : ℕ) (message : List ℕ)
    (before : SentOut) (status : ℤ) (after : SentOut) (o : Option Connection) → connection_given number ≡ o
    → MatchOption o (Refuses BAD_CONNECTION h before status h' after)
    (λ via. AnswersSend via h message before status after h')
    → Follows c policy so_far h → Goes c policy so_far (made.Send number message before status after) h'
sent c policy so_far h h' number message before status after None e r f =
    refused c policy so_far h h' (made.Send number message before status after) BAD_CONNECTION before status after r f
    (subst (λ o. MatchOption o (TellsRefused BAD_CONNECTION before status after [])
    (λ via. TellsSent via message before status after [])) (sym e))
sent c policy so_far h h' number message before status after (Some via) e r f =
    let answer = answer_to_message via h.held message in
    let call : Call = calls.Plain (events.Send via (record { items = message })) (entries.Sent via answer) in
    record {
      next = call ∷ [];
      tells = subst (λ o. MatchOption o (TellsRefused BAD_CONNECTION before status after (call ∷ []))
          (λ via. TellsSent via message before status after (call ∷ []))) (sym e) (answer, refl, r.1, r.2);
      follows =
          follows_more c policy so_far h h' call f (refl, refl, ap (λ (x : Handle). x.held) r.0);
    }

taken : (c : Settings) (policy : Policy) (so_far : List Call) (h h' : Handle) (number : ℕ)
    (before : PacketOut) (status : ℤ) (after : PacketOut) (o : Option Connection) → connection_given number ≡ o
    → MatchOption o (Refuses BAD_CONNECTION h before status h' after)
    (λ via. AnswersTake via h before status after h')
    → Follows c policy so_far h → Goes c policy so_far (made.Take number before status after) h'
taken c policy so_far h h' number before status after None e r f =
    refused c policy so_far h h' (made.Take number before status after) BAD_CONNECTION before status after r f
    (subst (λ o. MatchOption o (TellsRefused BAD_CONNECTION before status after [])
    (λ via. TellsTaken via before status after [])) (sym e))
taken c policy so_far h h' number before status after (Some via) e r f =
    let end = end_taken via h.held in
    let call : Call = calls.Plain (events.Take via) (entries.Taken via end) in
    record {
      next = call ∷ [];
      tells = subst (λ o. MatchOption o (TellsRefused BAD_CONNECTION before status after (call ∷ []))
          (λ via. TellsTaken via before status after (call ∷ []))) (sym e) (end, refl, r.1, r.2);
      follows =
          follows_more c policy so_far h h' call f (refl, refl, ap (λ (x : Handle). x.held) r.0);
    }

-- of a connection a block is finished, or its status is none
finished_on : (c : Settings) (policy : Policy) (so_far : List Call) (h h' : Handle) (call : HandleCall)
    (via : Connection) (reference block : ℕ) (before : ReportOut) (status : ℤ) (after : ReportOut)
    (o : Option Block) → block_told block ≡ o
    → MatchOption o (Refuses BAD_STATUS h before status h' after)
    (λ k. TellsFinish via reference k h before status h' after)
    → Follows c policy so_far h
    → ((next : List Call) → TellsBlock via reference block before status after next → Tells c so_far call next)
    → Goes c policy so_far call h'
finished_on c policy so_far h h' call via reference block before status after None e r f tell =
    refused c policy so_far h h' call BAD_STATUS before status after r f
    (λ t. tell [] (subst (λ o. MatchOption o (TellsRefused BAD_STATUS before status after [])
    (λ k. TellsFinished via reference k before status after [])) (sym e) t))
finished_on c policy so_far h h' call via reference block before status after (Some k) e r f tell =
    let own : Call = calls.Finish via reference k r.answer in
    record {
      next = own ∷ [];
      tells = tell (own ∷ []) (subst (λ o. MatchOption o (TellsRefused BAD_STATUS before status after (own ∷ []))
          (λ k. TellsFinished via reference k before status after (own ∷ []))) (sym e)
          (r.answer, refl, r.code, r.told));
      follows = follows_more c policy so_far h h' own f r.finish;
    }

finished : (c : Settings) (policy : Policy) (so_far : List Call) (h h' : Handle) (number reference block : ℕ)
    (before : ReportOut) (status : ℤ) (after : ReportOut) (o : Option Connection) → connection_given number ≡ o
    → MatchOption o (Refuses BAD_CONNECTION h before status h' after)
    (λ via. AnswersFinish via h reference block before status after h')
    → Follows c policy so_far h → Goes c policy so_far (made.Finish number reference block before status after) h'
finished c policy so_far h h' number reference block before status after None e r f =
    refused c policy so_far h h' (made.Finish number reference block before status after) BAD_CONNECTION before status
    after r f (subst (λ o. MatchOption o (TellsRefused BAD_CONNECTION before status after [])
    (λ via. TellsBlock via reference block before status after [])) (sym e))
finished c policy so_far h h' number reference block before status after (Some via) e r f =
    finished_on c policy so_far h h' (made.Finish number reference block before status after) via reference block before
    status after (block_told block) refl r f
    (λ next. subst (λ o. MatchOption o (TellsRefused BAD_CONNECTION before status after next)
    (λ via. TellsBlock via reference block before status after next)) (sym e))

stepped : (c : Settings) (policy : Policy) (so_far : List Call) (h h' : Handle) (block : ℕ) (before : ReportOut)
    (status : ℤ) (after : ReportOut) (o : Option Block) → block_told block ≡ o
    → MatchOption o (Refuses BAD_STATUS h before status h' after) (λ k. TellsStep k h before status h' after)
    → Follows c policy so_far h → Goes c policy so_far (made.Step block before status after) h'
stepped c policy so_far h h' block before status after None e r f =
    refused c policy so_far h h' (made.Step block before status after) BAD_STATUS before status after r f
    (subst (λ o. MatchOption o (TellsRefused BAD_STATUS before status after [])
    (λ k. TellsStepped k before status after [])) (sym e))
stepped c policy so_far h h' block before status after (Some k) e r f =
    let call : Call = calls.Plain (events.Step k) (entries.Stepped r.report) in
    record {
      next = call ∷ [];
      tells = subst (λ o. MatchOption o (TellsRefused BAD_STATUS before status after (call ∷ []))
          (λ k. TellsStepped k before status after (call ∷ []))) (sym e) (r.report, refl, r.code, r.told);
      follows = follows_more c policy so_far h h' call f r.step;
    }

-- of a connection it is told who keeps a command back
asked_why : (c : Settings) (policy : Policy) (so_far : List Call) (h h' : Handle) (number reference : ℕ)
    (before : List HolderOut) (status : ℤ) (after : List HolderOut) (o : Option Connection)
    → connection_given number ≡ o
    → ((via : Connection) → holders_in h.held via reference ≡ holders_of c (history so_far) (name_on via reference))
    → MatchOption o (Refuses BAD_CONNECTION h before status h' after)
    (λ via. AnswersWhy via h reference before status after h')
    → Follows c policy so_far h → Goes c policy so_far (made.Why number reference before status after) h'
asked_why c policy so_far h h' number reference before status after None e same r f =
    refused c policy so_far h h' (made.Why number reference before status after) BAD_CONNECTION before status after r f
    (subst (λ o. MatchOption o (TellsRefused BAD_CONNECTION before status after [])
    (λ via. TellsWhy c so_far via reference before status after [])) (sym e))
asked_why c policy so_far h h' number reference before status after (Some via) e same r f =
    record {
      next = [];
      tells = subst (λ o. MatchOption o (TellsRefused BAD_CONNECTION before status after [])
          (λ via. TellsWhy c so_far via reference before status after [])) (sym e) (
            refl,
            r.0 ∙ ap (λ (hs : List Holder). pos (length hs)) (same via),
            r.1 ∙ ap (λ hs. holders_told hs before) (same via),
          );
      follows = follows_same c policy so_far h h' f r.2;
    }

-- the commands of a connection that wait, counted by their names
named_on : (via : Connection) (rs : List Record) → length (waiting_on via rs)
    ≡ length (filter (λ (n : Name). same_connection n.connection via) (map name_of rs))
named_on via rs = sym (ap length (filter_map_of name_of (λ (n : Name). same_connection n.connection via) rs)
    ∙ length-map (waiting_on via rs) name_of)

named_by : (via : Connection) (t : Trace) (xs : List ℕ)
    → length (filter (λ x. same_connection (connection t x) via) xs)
    ≡ length (filter (λ (n : Name). same_connection n.connection via) (map (name t) xs))
named_by via t xs = sym (ap length (filter_map_of (name t) (λ (n : Name). same_connection n.connection via) xs)
    ∙ length-map (filter (λ x. same_connection (connection t x) via) xs) (name t))

-- an answer of each connection is that of another count, where they are the same
answers_same : (number : ℕ) (answer : ℤ) (value other : Connection → ℕ) → ((via : Connection) → value via ≡ other via)
    → AnswersOf number value answer → AnswersOf number other answer
answers_same number answer value other same r =
    elim (connection_given number) as (λ o. MatchOption o (answer ≡ BAD_CONNECTION) (λ via. answer ≡ pos (value via))
    → MatchOption o (answer ≡ BAD_CONNECTION) (λ via. answer ≡ pos (other via)))
    [ None ↦ λ a. a | Some via ↦ λ a. a ∙ ap pos (same via) ] r

-- what is told of the controller as it is: the calls on it so far tell that too
goes : (c : Settings) (policy : Policy) → ControllersKeepThePromise (PolicyPicks policy) policy → IsValid c
    → (so_far : List Call) (h h' : Handle) (call : HandleCall) → Follows c policy so_far h → AnswersHandle h call h'
    → Goes c policy so_far call h'
goes c policy law valid so_far h h' (made.Send number message before status after) f r =
    sent c policy so_far h h' number message before status after (connection_given number) refl r f
goes c policy law valid so_far h h' (made.Take number before status after) f r =
    taken c policy so_far h h' number before status after (connection_given number) refl r f
goes c policy law valid so_far h h' (made.Begin before status after) f r =
    let call : Call = calls.Begin r.upcoming in
    record {
      next = call ∷ [];
      tells = (r.upcoming, refl, r.code, r.told);
      follows =
          follows_more c policy so_far h h' call f r.begin;
    }
goes c policy law valid so_far h h' (made.Finish number reference block before status after) f r =
    finished c policy so_far h h' number reference block before status after (connection_given number) refl r f
goes c policy law valid so_far h h' (made.Step block before status after) f r =
    stepped c policy so_far h h' block before status after (block_told block) refl r f
goes c policy law valid so_far h h' (made.Look before status after) f r =
    let list : ArrayVec (Connection × ℕ × ℕ) = record { items = figures_in h.held } in
    let call : Call = calls.Plain events.Look (entries.Looked list) in
    record {
      next = call ∷ [];
      tells = (list, refl, r.0, r.1);
      follows =
          follows_more c policy so_far h h' call f (refl, ap (λ (x : Handle). x.held) r.2);
    }
goes c policy law valid so_far h h' (made.Figure number reference answer) f r =
    let k = law c so_far h.held valid f.called in
    let told = answers_same number answer (λ via. figure_in h.held via reference)
    (λ via. figure_of c (history so_far) (name_on via reference))
    (λ via. (λ i. figure_of_name (k.settings i).budget h.held.waiting (name_on via reference))
    ∙ k.figure (name_on via reference)) r.0 in
    record { next = []; tells = (refl, told); follows = follows_same c policy so_far h h' f r.1 }
goes c policy law valid so_far h h' (made.Why number reference before status after) f r =
    let k = law c so_far h.held valid f.called in
    asked_why c policy so_far h h' number reference before status after (connection_given number) refl
    (λ via. (λ i. holders_of_name (k.settings i).budget h.held.waiting (name_on via reference))
    ∙ k.kept_back (name_on via reference)) r f
goes c policy law valid so_far h h' (made.Balance number answer) f r =
    let k = law c so_far h.held valid f.called in
    let told = answers_same number answer (λ via. balance_of via h.held) (λ via. balance c via (history so_far))
    k.balance r.0 in
    record { next = []; tells = (refl, told); follows = follows_same c policy so_far h h' f r.1 }
goes c policy law valid so_far h h' (made.Waiting number answer) f r =
    let k = law c so_far h.held valid f.called in
    let t = history so_far in
    let told = answers_same number answer (λ via. length (waiting_on via h.held.waiting))
    (λ via. length (waiting_by via t)) (λ via. named_on via h.held.waiting
    ∙ (ap (λ ns. length (filter (λ (n : Name). same_connection n.connection via) ns)) k.waiting
    ∙ sym (named_by via t (waiting t)))) r.0 in
    record { next = []; tells = (refl, told); follows = follows_same c policy so_far h h' f r.1 }
goes c policy law valid so_far h h' (made.Untaken number answer) f r =
    let k = law c so_far h.held valid f.called in
    let told = answers_same number answer (λ via. length (of via h.held.untaken))
    (λ via. length (untaken c via (history so_far))) (λ via. ap length (k.untaken via)) r.0 in
    record { next = []; tells = (refl, told); follows = follows_same c policy so_far h h' f r.1 }
goes c policy law valid so_far h h' (made.Online unit answer) f r =
    let k = law c so_far h.held valid f.called in
    record {
      next = [];
      tells = (refl, r.0 ∙ ap (λ (ds : List Drive). pos (flag (is_online_in ds unit))) k.drives);
      follows = follows_same c policy so_far h h' f r.1;
    }
goes c policy law valid so_far h h' (made.Configured limits units answer limits' units') f r =
    let k = law c so_far h.held valid f.called in
    record {
      next = [];
      tells = (refl, subst (λ s. TellsSettings s units answer limits' units') k.settings r.0);
      follows = follows_same c policy so_far h h' f r.1;
    }
goes c policy law valid so_far h h' (made.Resume bytes) f r =
    record { next = []; tells = refl; follows = follows_elsewhere c policy so_far h h' f r.1 }

-- ---- all calls

-- what is told of calls, and what is known after them
record GoesOn (c : Settings) (policy : Policy) (so_far : List Call) (more : List HandleCall) (new : Handle) :
    Type 0 where
  pub told : List Call
  pub tells : TellsAll c so_far more told
  pub follows : Follows c policy (so_far ++ told) new

goes_on : (c : Settings) (policy : Policy) → ControllersKeepThePromise (PolicyPicks policy) policy → IsValid c
    → (so_far : List Call) (h h' : Handle) (more : List HandleCall) → Follows c policy so_far h
    → AnsweredByHandle h more h' → GoesOn c policy so_far more h'
goes_on c policy law valid so_far h h' [] f r = record {
  told = [];
  tells = refl;
  follows =
      follows_same c policy so_far h h' f r;
}
goes_on c policy law valid so_far h h' (call ∷ more) f r =
    let one = goes c policy law valid so_far h r.0 call f r.1 in
    let rest = goes_on c policy law valid (so_far ++ one.next) r.0 h' more one.follows r.2 in
    record {
      told = one.next ++ rest.told;
      tells = (one.next, rest.told, refl, one.tells, rest.tells);
      follows = subst (λ xs. Follows c policy xs h') (append_assoc so_far one.next rest.told) rest.follows;
    }

pub keeps_promise : (policy : Policy) → ControllersKeepThePromise (PolicyPicks policy) policy
    → HandlesKeepThePromise policy
keeps_promise policy law c more old new valid e r =
    let start : Follows c policy [] old = record { picker = ap (λ (h : Held). h.picker) e; called = e } in
    let g = goes_on c policy law valid [] old new more start r in
    record { told = g.told; tells = g.tells; keeps = law c g.told new.held valid g.follows.called }
