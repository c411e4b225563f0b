-- Every call of a controller that somebody holds is answered right, and what was begun is held to.
use Rattle.mscp_controller.proofs.Bridge.Basics.{◌≡◌, ℕ, ◌<◌, Bool, true, false, not, List, [], ◌∷◌, ◌++◌, map, refl, ap, sym, ◌∙◌, subst, append_assoc, append-nil, arith, IfSome, if◌then◌else◌, Option, Some, None, Result, Ok, Err, false≢true, Command, command_of, Block, Report, Upcoming, Choice, Name, Connection, name_on, same_name, is_begun, Event, Entry, SendFault, NotBegun, Settings, IsValid, refusal, Trace, Moment, Service, is_step, service_in, ends_in, is_waiting, name, waiting, IsLegal, IsServed, block_of, Answers, Finishes, Holdings, Steps, balance_of, fresh, held_unless, outstanding_of, sent_unless, AnswersCall, AtEachCall, Begin, Call, Finish, HoldsToBegun, IsAsTold, IsBegun, IsBegunSince, IsChosen, IsRightCall, Plain, StartsChosen, history, start_of, upcoming_name, differ_is, same_is, each_push, one_waits, command_before, connection_before, is_waiting_before, done_kept, waits_below, owner_kept, unbegun_kept, legal_more, held_of, Agrees}
use Rattle.mscp_controller.proofs.Promise.States.{is_online_kept}
use Rattle.mscp_controller.proofs.Bridge.Aborting.{begun_left}
use Rattle.mscp_controller.proofs.Bridge.Begun.{PicksThen, Held, IsPickThen, Turned, none_waits, Holds, history_more, holds_on, nothing_stepped, name_begun}
use Rattle.mscp_controller.proofs.Bridge.Following.{none_held, turns}
use Rattle.mscp_controller.proofs.Bridge.Stepped.{Turns}
use Rattle.mscp_controller.proofs.Bridge.Telling.{begin}

-- ---- an event that serves nobody
-- what is begun after a moment that serves nobody: what was, unless it was ended
abbrev IsLeft : {K : Type 0} → Holdings K → Holdings K → Trace → Entry → Type 0
IsLeft h h' t entry = (n : Name) (y : ℕ) → h.begun ≡ Some n → is_waiting t y ≡ true → name t y ≡ n
    → h'.begun ≡ (if not (ends_in n entry) then Some n else None)

quiet : {K : Type 0} (c : Settings) (picks : PicksThen) (calls : List Call)
    (event : Event) (entry : Entry) (h h' : Holdings K)
    → Turns c (picks calls) (history calls) (event, entry) h.begun h'
    → IsLegal c (history calls) → service_in entry ≡ None → is_step event ≡ false → IsLeft h h' (history calls) entry
    → (h.begun ≡ None → h'.begun ≡ None) → Holds c picks calls h.begun → Turned c picks calls (Plain event entry) h'
unfolding block_of
quiet c picks calls event entry h h' turn legal e s left none holds =
    grind (
      arith,
      history_more,
      waits_below,
      legal_more,
      holds_on,
      command_before,
      done_kept,
      connection_before,
      is_waiting_before,
      is_online_kept,
    )

-- what is begun after a message
begun_unless : {K : Type 0} (via : Connection) (h : Holdings K)
    (t : Trace) (k : Command) (n : Name) (y : ℕ) (o : Option SendFault) → h.waiting ≡ map (held_of t) (waiting t)
    → h.begun ≡ Some n → is_waiting t y ≡ true → name t y ≡ n → (held_unless via h k o).begun
    ≡ (if not (ends_in n (Entry.Sent via (sent_unless via h k o))) then Some n else None)
begun_unless via h t k n y o h7 h8 h9 h10 = grind (arith, not, begun_left)

-- ---- a step
module _ {K : Type 0} (c : Settings) (picks : PicksThen) (calls : List Call) (k : Block) where
  as_told : (report : Report) (h h' : Holdings K) (o : Option Name) → Agrees c (history calls) h
      → Held c picks calls h o → Turns c (picks calls) (history calls) (Event.Step k, Entry.Stepped report) h.begun h'
      → (up : Upcoming) (y j : ℕ) → IsBegunSince calls up y j → IfSome (service_in (Entry.Stepped report)) (IsAsTold up)
  as_told Report.Idle h h' o a b turn up y j is = tt
  as_told (Report.Served via' reference' unit' lbn b' seek e') h h' None a b turn up y j is = absurd (b.1 up y j is)
  as_told (Report.Served via' reference' unit' lbn b' seek e') h h' (Some n) a b turn up y j is =
      let t = history calls in
      let s : Service = record {
        connection = via';
        reference = reference';
        unit = unit';
        lbn = lbn;
        started = b';
        seek = seek;
        ended = e';
      } in
      let own = b.1.3 in
      let some = turn.sends.right in
      let same : some.0 ≡ b.1.1 = grind (arith, one_waits, name_begun, t, own, some) in
      let v : IsServed c t k s b.1.1 = subst (IsServed c t k s) same some.1 in
      let told : IsAsTold b.1.0 s = search arith in
      subst (λ u. IsAsTold u s) (sym (own.only up y j is).1) told

  starts_chosen : (report : Report) (h h' : Holdings K) (o : Option Name) → Agrees c (history calls) h
      → Held c picks calls h o → Turns c (picks calls) (history calls) (Event.Step k, Entry.Stepped report) h.begun h'
      → IfSome (start_of (service_in (Entry.Stepped report))) (IsChosen (IsPickThen c picks) calls)
  starts_chosen (Report.Served via' reference' unit' lbn true seek e') h h' (Some n) a b turn =
      let same : name_on via' reference' ≡ n = turn.same n b.0 in
      let told = as_told
      (Report.Served via' reference' unit' lbn true seek e') h h' (Some n) a b turn b.1.0 b.1.1 b.1.2 b.1.3.is in
      search arith
  starts_chosen w h h' o a b turn = grind arith

  -- after a step nothing is begun
  unbegun_after : (report : Report) (h h' : Holdings K) (o : Option Name) → Held c picks calls h o
      → Turns c (picks calls) (history calls) (Event.Step k, Entry.Stepped report) h.begun h'
      → Steps (picks calls) k h report h' → h'.begun ≡ None
  unbegun_after w h h' o b turn s = grind (arith, none_waits)

  stepped : (report : Report) (h h' : Holdings K) (o : Option Name) → Agrees c (history calls) h → IsLegal c
      (history calls) → Held c picks calls h o
      → Turns c (picks calls) (history calls) (Event.Step k, Entry.Stepped report) h.begun h'
      → Steps (picks calls) k h report h' → Turned c picks calls (Plain (Event.Step k) (Entry.Stepped report)) h'
  stepped report h h' o a legal b turn s =
      let m : Moment = (Event.Step k, Entry.Stepped report) in
      let call = Plain (Event.Step k) (Entry.Stepped report) in
      let same = history_more calls call in
      record {
        legal = subst (IsLegal c) (sym same) (legal_more c (history calls) m legal turn.sends.right);
        agrees = subst (λ u. Agrees c u h') (sym same) turn.sends.agrees;
        right = tt;
        begun = as_told report h h' o a b turn;
        picked = starts_chosen report h h' o a b turn;
        holds = subst (Holds c picks (calls ++ call ∷ []))
            (sym (unbegun_after report h h' o b turn s)) (nothing_stepped calls call refl refl);
      }

-- ---- every event
plain : {K : Type 0} (picks : PicksThen)
    (calls : List Call) (event : Event) (entry : Entry) (h h' : Holdings K) → IsValid h.settings
    → Agrees h.settings (history calls) h → IsLegal h.settings (history calls) → Holds h.settings picks calls h.begun
    → Answers (picks calls) h event entry h' → Turned h.settings picks calls (Plain event entry) h'
plain {K} picks calls (Event.Send via message) (Entry.Sent other sent) h h' v a legal b r =
    let t = history calls in
    let k = command_of message.items in
    let o = refusal (balance_of via h) (outstanding_of via h) message.items in
    let left : IsLeft h h' t (Entry.Sent other sent) = search (arith, begun_unless, not) in
    quiet h.settings picks calls (Event.Send via message) (Entry.Sent other sent) h h'
    (turns (picks calls) h h' t (Event.Send via message) (Entry.Sent other sent) v a r) legal refl refl left
    (λ n. unbegun_kept (picks calls) h h' (Event.Send via message) (Entry.Sent other sent) n r) b
plain {K} picks calls (Event.Take via) (Entry.Taken other end) h h' v a legal b r =
    quiet h.settings picks calls (Event.Take via) (Entry.Taken other end) h h' (turns (picks calls) h h' (history calls)
    (Event.Take via) (Entry.Taken other end) v a r) legal refl refl (λ n y e w own. ap (λ (x : Holdings K). x.begun)
    r.2 ∙ e) (λ n. unbegun_kept (picks calls) h h' (Event.Take via) (Entry.Taken other end) n r) b
plain picks calls (Event.Step k) (Entry.Stepped report) h h' v a legal b r = stepped h.settings picks calls k report
    h h' h.begun a legal (refl, b)
    (turns (picks calls) h h' (history calls) (Event.Step k) (Entry.Stepped report) v a r) r
plain {K} picks calls Event.Look (Entry.Looked list) h h' v a legal b r =
    quiet h.settings picks calls Event.Look (Entry.Looked list) h h' (turns (picks calls) h h' (history calls)
    Event.Look (Entry.Looked list) v a r) legal refl refl (λ n y e w own. ap (λ (x : Holdings K). x.begun) r.1 ∙ e)
    (λ n. unbegun_kept (picks calls) h h' Event.Look (Entry.Looked list) n r) b
plain picks calls _ _ h h' v a legal b r = absurd r

-- ---- a finish
module _ (c : Settings) (picks : PicksThen) (calls : List Call) (via : Connection) (number : ℕ) where
  begun_as : (o : Option Name)
      → is_begun (name_on via number) o ≡ true → Holds c picks calls o → IsBegun calls (name_on via number)
  begun_as o h6 h7 = grind (arith, false≢true, same_is)

  -- what is begun is of this number, or isn't
  only_begun : (o : Option Name) (q : Bool) → is_begun (name_on via number) o ≡ q → Holds c picks calls o
      → (up : Upcoming) (y j : ℕ) → IsBegunSince calls up y j → same_name (upcoming_name up) (name_on via number) ≡ q
  only_begun None q e b up y j is = absurd (b up y j is)
  only_begun (Some n) q e b up y j is =
      ap (λ k. same_name k (name_on via number)) (ap upcoming_name (b.3.only up y j is).1 ∙ b.3.own) ∙ e

module _ {K : Type 0} (picks : PicksThen) where
  finish : (calls : List Call) (via : Connection) (number : ℕ) (k : Block)
      (answer : Result Report NotBegun) (h h' : Holdings K) → IsValid h.settings → Agrees h.settings (history calls) h
      → IsLegal h.settings (history calls) → Holds h.settings picks calls h.begun → Finishes (picks calls)
      (name_on via number) k h answer h' → Turned h.settings picks calls (Finish via number k answer) h'
  finish calls via number k (Ok report) h h' v a legal b r =
      let c = h.settings in
      let step = stepped c picks calls k report h h' h.begun a legal (refl, b)
      (turns (picks calls) h h' (history calls) (Event.Step k) (Entry.Stepped report) v a r.1) r.1 in
      let call = Finish via number k (Ok report) in
      let same : history (calls ++ Plain (Event.Step k) (Entry.Stepped report) ∷ []) ≡ history (calls ++ call ∷ []) =
      history_more calls (Plain (Event.Step k) (Entry.Stepped report)) ∙ sym (history_more calls call) in
      record {
        legal = subst (IsLegal c) same step.legal;
        agrees = subst (λ u. Agrees c u h') same step.agrees;
        right = begun_as c picks calls via number h.begun r.0 b;
        begun = step.begun;
        picked = step.picked;
        holds = subst (Holds c picks (calls ++ call ∷ [])) (sym (unbegun_after c picks calls k report h
            h' h.begun (refl, b)
            (turns (picks calls) h h' (history calls) (Event.Step k) (Entry.Stepped report) v a r.1) r.1))
            (nothing_stepped calls call refl refl);
      }
  finish calls via number k (Err not_begun) h h' v a legal b r =
      let c = h.settings in
      let t = history calls in
      let call = Finish via number k (Err not_begun) in
      let same : history (calls ++ call ∷ []) ≡ t = history_more calls call ∙ append-nil t in
      let held = ap (λ (x : Holdings K). x.begun) r.1 in
      record {
        legal = subst (IsLegal c) (sym same) legal;
        agrees = subst (λ u. Agrees c u h') (sym same) (subst (Agrees c t) (sym r.1) a);
        right = tt;
        begun = λ up y j is. differ_is (upcoming_name up)
            (name_on via number) (only_begun c picks calls via number h.begun false r.0 b up y j is);
        picked = tt;
        holds = grind (arith, holds_on, c, call, same, held);
      }

  -- ---- every call
  turned : (calls : List Call) (call : Call) (h h' : Holdings K)
      → IsValid h.settings → Agrees h.settings (history calls) h → IsLegal h.settings (history calls)
      → Holds h.settings picks calls h.begun → AnswersCall (picks calls) h call h'
      → Turned h.settings picks calls call h'
  turned calls o h h' v a legal b r = grind (arith, plain, begin, finish)

module _ {K : Type 0} (picks : List Choice → ℕ → Type 0) (h h' : Holdings K) (call : Call) where
  settings_kept : AnswersCall picks h call h' → h'.settings ≡ h.settings
  settings_kept r = grind (arith, owner_kept)

-- what may be answered to calls, where what may be picked depends on the calls before
abbrev pub AnsweredThen : {K : Type 0} → (PicksThen)
    → List Call → Holdings K → List Call → Holdings K → Type 0
AnsweredThen picks so_far old [] new = new ≡ old
AnsweredThen {K} picks so_far old (call ∷ calls) new =
    (next : Holdings K) × AnswersCall (picks so_far) old call next
    × AnsweredThen picks (so_far ++ call ∷ []) next calls new

-- what is known after each part of the calls
pub record Knows {K : Type 0} (c : Settings) (picks : PicksThen) (calls : List Call) (h : Holdings K) :
    Type 0 where
  pub settings : h.settings ≡ c
  pub legal : IsLegal c (history calls)
  pub agrees : Agrees c (history calls) h
  pub right : AtEachCall calls (IsRightCall c)
  pub begun : AtEachCall calls HoldsToBegun
  pub picked : AtEachCall calls (StartsChosen (IsPickThen c picks))
  pub holds : Holds c picks calls h.begun

module _ {K : Type 0} (c : Settings) (picks : PicksThen) where
  knows_more : (calls : List Call) (call : Call) (h h' : Holdings K)
      → IsValid c → AnswersCall (picks calls) h call h' → Knows c picks calls h → Knows c picks (calls ++ call ∷ []) h'
  knows_more calls call h h' v r k =
      let back = sym k.settings in
      let turn : Turned c picks calls call h' = subst (λ s. Turned s picks calls call h') k.settings (turned picks calls
      call h h' (subst IsValid back v) (subst (λ s. Agrees s (history calls) h) back k.agrees) (subst (λ s. IsLegal
      s (history calls)) back k.legal) (subst (λ s. Holds s picks calls h.begun) back k.holds) r) in
      record {
        settings = settings_kept (picks calls) h h' call r ∙ k.settings;
        legal = turn.legal;
        agrees = turn.agrees;
        right = each_push (Begin None) (IsRightCall c) calls call k.right turn.right;
        begun = each_push (Begin None) HoldsToBegun calls call k.begun turn.begun;
        picked = each_push (Begin None) (StartsChosen (IsPickThen c picks)) calls call k.picked turn.picked;
        holds = turn.holds;
      }

  knows_after : (so_far : List Call) (h h' : Holdings K) (calls : List Call)
      → IsValid c → AnsweredThen picks so_far h calls h' → Knows c picks so_far h → Knows c picks (so_far ++ calls) h'
  knows_after so_far h h' [] v r k = search (arith, append-nil so_far)
  knows_after so_far h h' (call ∷ calls) v r k = subst (λ cs. Knows c picks cs h') (append_assoc so_far
      (call ∷ []) calls) (knows_after (so_far ++ call ∷ []) r.0 h' calls v r.2 (knows_more so_far call h r.0 v r.1 k))

-- What somebody calls of a new controller is answered so.
pub called : {K : Type 0} (c : Settings) (picks : PicksThen) (picker : K) (h : Holdings K)
    (calls : List Call) → IsValid c → AnsweredThen picks [] (fresh c picker) calls h → Knows c picks calls h
called c picks picker h calls v r =
    let past : (i : ℕ) → i < 0 → ⊥ = λ i l. absurd (omega (arith, l)) in
    knows_after c picks [] (fresh c picker) h calls v r (record {
      settings = refl;
      legal = λ i l. absurd (past i l);
      agrees = none_held c picker;
      right = λ i l. absurd (past i l);
      begun = λ i l. absurd (past i l);
      picked = λ i l. absurd (past i l);
      holds = λ up y j b. past j b.inside;
    })
