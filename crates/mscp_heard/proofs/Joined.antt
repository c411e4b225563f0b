-- What a host is owed after each deed at its port.
use Rattle.mscp_heard.proofs.Common.{AllByRecursion, Answered, AnsweredCalls, AreJoined, Ask, Asked, AsksAlways, Call, Called, Deals, Deed, Did, End, Envelope, Err, First, Hardware, HasNumber, HaveNumbers, Hear, HearFault, Heard, HearsInOrder, HearsItsOwn, Holdings, IsAnswering, IsMadeOf, IsPacket, IsTaking, IsTextOf, IsValid, IsWhole, Likeness, List, Made, Ok, Opened, Other, OutgoingKind, Packet, Picking, Port, PortAccount, PortAnswered, PortAnswers, PortHistory, PortHostsKeepTheirHistory, PortMoment, PortsAnswerAsTheyMay, PortsEndWhatTheyTook, PortsHearInOrder, PortsOpenWhatTheyAccept, PortsTellInOrder, ReadsBytes, ReadsInOrder, Result, Resume, Settings, Slot, Some, Submit, WasRead, WriteIp, [], accepted, accepted_by, all_said, answered, ap, append-nil, arith, asks, awaited, begins, bytes_in, bytes_small, calls_in, cond, connection_told, did, drop, ends_said_by, envelope_in, false, filter, find, fresh, fresh_of_port, has_number, hearings, held, inl, inr, is_dead, is_for_utilities, is_hearing, is_of, is_too_much, kind_answered, kind_of_code, length, length-map, map, message_in, none-some, not, num, outstanding_of, own_answer, refl, said, said_in, same_Some, sent, sent_by, slice_get, slice_index, subst, suc, sym, taken_by, talk_of, true, volume_named, without_ends, ℕ, ◌%◌, ◌++◌, ◌-◌, ◌∙◌, ◌∷◌, ◌≡◌, ◌≢◌, ◌≤◌}
use Rattle.mscp_host.specs.declared.message.Message.TheVariants as messages
use Rattle.mscp_host.specs.declared.news.Poll.TheVariants as polls
use Rattle.mscp_port.specs.declared.port.OutgoingKind.TheVariants as kinds
use Rattle.mscp_heard.proofs.Moments.{answered_last, asked_before, heard_last, reads_before, same_numbers, sent_last}
use Rattle.mscp_heard.proofs.Sending.{by_hearing, by_message, heard_own}
use Rattle.mscp_heard.proofs.Telling.{IsHeard, counted, few_credits, first_part, size_of, tell_at}
use Rattle.mscp_heard.proofs.Hosts.{hears_refused, SameNumbers, hears_too_much, poll_sends, submit_sends}
use Rattle.mscp_heard.proofs.Moving.{drop_at}
use Rattle.mscp_heard.proofs.Asking.{poll_same, submit_same}
use Rattle.mscp_heard.proofs.Watching.{hear_watch, settles}
use Rattle.mscp_heard.proofs.Packets.{IsMessage, IsRead, message_read}
use Rattle.mscp_heard.proofs.Owing.{Inv, IsCoded, same_ok, inv_as, since_alive, moved_few, own_number, own_bytes, own_whole, by_news, by_end, by_text, by_answer, one_more, begun_one}

module _ {K : Type 0} (picks : Picking K) (c : Settings) (picker : K) (ends : PortsEndWhatTheyTook picks picker)
    (hear : PortsHearInOrder picks) (tell : PortsTellInOrder picks) (open_so : PortsOpenWhatTheyAccept picks)
    (answer_so : PortsAnswerAsTheyMay picks) (history : PortHostsKeepTheirHistory)
    (before : List Made) (controller : Holdings K) (hardware : Hardware) (credits : ℕ) (start : Port K)
    (valid : IsValid c) (was : AnsweredCalls (picks picker) (fresh c picker) before controller)
    (quiet : outstanding_of First controller ≡ []) (made : IsMadeOf hardware credits controller start) where
  abbrev pub State : (p : Port K) (calls : List Call) → Answered picks start calls p → List Asked → PortHistory → Type 0
  State p calls a asked h = Inv asked (said picks start p calls a) (hearings h) (awaited picks start p calls a)
      (sent h)
      (length (accepted picks start p calls a))

  -- a message that is accepted is the next one that was sent
  pub record IsNext (Like : Likeness) (text : List ℕ) (header : ℕ) (ms : List (List ℕ)) (n : ℕ) : Type 0 where
    pub disks : is_for_utilities header ≡ false
    pub message : List ℕ
    pub at : slice_get ms n ≡ Some message
    pub is : Like text message

  pub next_of : (Like : Likeness) (p : Port K) (calls : List Call) (bytes : List ℕ) (done : Unit) (ms : List
      (List ℕ)) (slot : Slot)
      (header : ℕ) → AsksAlways (WasRead bytes (Ok done) ∷ calls)
      → (a : Answered picks start (WasRead bytes (Ok done) ∷ calls) p)
      → (talk_of picks start a.0 calls a.1).turn ≡ Opened slot header
      → ReadsInOrder Like (WasRead bytes (Ok done)) (talk_of picks start a.0 calls a.1) ms
      → IsNext Like bytes header ms (length (accepted picks start a.0 calls a.1))
  next_of Like p calls bytes done ms slot header asks a opened reads = grind (arith, counted)

  module _ (p : Port K) (calls : List Call) (asked : List Asked) (h : PortHistory) where
    takes_it : (call : Call) (a : Answered picks start (call ∷ calls) p) → AsksAlways (call ∷ calls)
        → ReadsInOrder IsTextOf call (talk_of picks start a.0 calls a.1) (sent h) → IsTaking call a.0 p
        → State a.0 calls a.1 asked h
        → Inv asked (said picks start a.0 calls a.1) (hearings h)
        (awaited picks start a.0 calls a.1 ++ taken_by call a.0) (sent h)
        (length (accepted picks start a.0 calls a.1 ++ accepted_by call a.0))
    takes_it (WasRead bytes (Ok done)) a asks reads d i =
        let o = open_so hardware credits controller start p calls bytes done d.message [] made asks a d.accepted in
        let x = next_of IsTextOf p calls bytes done (sent h) o.0 o.1 asks a o.2 reads in
        let same : bytes ≡ d.message = ap bytes_read d.read.1 in
        inv_as asked (said picks start a.0 calls a.1) (said picks start a.0 calls a.1) (hearings h)
        (awaited picks start a.0 calls a.1 ++ taken_by (WasRead bytes (Ok done)) a.0)
        (awaited picks start a.0 calls a.1 ++ bytes ∷ []) (sent h)
        (length (accepted picks start a.0 calls a.1 ++ accepted_by (WasRead bytes (Ok done)) a.0))
        (suc (length (accepted picks start a.0 calls a.1))) refl
        (ap (λ xs. awaited picks start a.0 calls a.1 ++ xs) (d.taken ∙ ap (λ y. y ∷ []) (sym same)))
        (one_more (accepted picks start a.0 calls a.1) _ d.message
        (ap (λ xs. accepted picks start a.0 calls a.1 ++ xs) d.accepted))
        (by_text asked (said picks start a.0 calls a.1) (hearings h) (awaited picks start a.0 calls a.1) (sent h)
        (length (accepted picks start a.0 calls a.1)) i bytes x.message x.at x.is)
      where
        bytes_read : Call → List ℕ
        bytes_read (WasRead b r) = b
        bytes_read call = bytes
    takes_it call a asks reads d i = absurd (search (arith, d.read.1))

    answers_it : (call : Call) (a : Answered picks start (call ∷ calls) p) → AsksAlways (call ∷ calls)
        → ReadsBytes (call ∷ calls) → ReadsInOrder IsTextOf call (talk_of picks start a.0 calls a.1) (sent h)
        → (d : IsAnswering call a.0 p) → State a.0 calls a.1 asked h
        → Inv asked (said picks start a.0 calls a.1 ++ said_in d.out ∷ []) (hearings h)
        (awaited picks start a.0 calls a.1) (sent h)
        (length (accepted picks start a.0 calls a.1 ++ accepted_by call a.0))
    answers_it (WasRead bytes (Ok done)) a asks small reads d i =
        let r = answer_so hardware credits controller start p calls bytes done d.out made asks a d.nothing d.begun in
        let x = next_of IsTextOf p calls bytes done (sent h) r.0 r.1 asks a r.2 reads in
        let own = r.3.own in
        let kind : d.out.kind ≡ kinds.End = r.3.kind ∙ ap kind_answered x.disks in
        inv_as asked (said picks start a.0 calls a.1 ++ said_in d.out ∷ [])
        (said picks start a.0 calls a.1 ++ said_in d.out ∷ []) (hearings h)
        (awaited picks start a.0 calls a.1) (awaited picks start a.0 calls a.1) (sent h)
        (length (accepted picks start a.0 calls a.1 ++ accepted_by (WasRead bytes (Ok done)) a.0))
        (suc (length (accepted picks start a.0 calls a.1))) refl refl
        (one_more (accepted picks start a.0 calls a.1) _ d.message
        (ap (λ xs. accepted picks start a.0 calls a.1 ++ xs) d.accepted))
        (by_answer asked (said picks start a.0 calls a.1) (hearings h) (awaited picks start a.0 calls a.1) (sent h)
        (length (accepted picks start a.0 calls a.1)) i (said_in d.out) bytes x.message x.at x.is kind
        (subst (λ y. IsRead y d.out.bytes.items) (sym kind)
        (subst (λ b. IsWhole b) (sym own.2) (own_whole (volume_named a.0 bytes) bytes own.0
        (ap (λ f. own_answer f (volume_named a.0 bytes) bytes) (sym x.disks) ∙ own.1))))
        (ap (λ b. num b 0 4) own.2 ∙ own_number bytes own.0 (bytes_small bytes small.0))
        (ap (λ b. num b 12 4) own.2 ∙ own_bytes bytes own.0))
    answers_it call a asks small reads d i = absurd (search (arith, d.read.1))

    deals_so : (call : Call) (a : Answered picks start (call ∷ calls) p) → AsksAlways (call ∷ calls)
        → ReadsBytes (call ∷ calls) → ReadsInOrder IsTextOf call (talk_of picks start a.0 calls a.1) (sent h)
        → Deals (awaited picks start a.0 calls a.1) call a.0 p → State a.0 calls a.1 asked h
        → Inv asked (said picks start a.0 calls a.1 ++ map said_in (begins a.0.outgoing p.outgoing)) (hearings h)
        (without_ends (ends_said_by call a.0 p) (awaited picks start a.0 calls a.1) ++ taken_by call a.0) (sent h)
        (length (accepted picks start a.0 calls a.1 ++ accepted_by call a.0))
    deals_so call a asks small reads (inl q) i = grind (arith, inv_as, append-nil)
    deals_so call a asks small reads (inr (inl q)) i =
        inv_as asked _ (said picks start a.0 calls a.1 ++ said_in q.out ∷ []) (hearings h) _
        (awaited picks start a.0 calls a.1) (sent h) _ (length (accepted picks start a.0 calls a.1))
        (ap (λ xs. said picks start a.0 calls a.1 ++ map said_in xs)
        (begun_one a.0.outgoing p.outgoing q.out q.nothing q.begun))
        (ap (λ xs. without_ends xs (awaited picks start a.0 calls a.1) ++ taken_by call a.0) q.ended
        ∙ ap (λ xs. awaited picks start a.0 calls a.1 ++ xs) q.taken ∙ append-nil (awaited picks start a.0 calls a.1))
        (ap length (ap (λ xs. accepted picks start a.0 calls a.1 ++ xs) q.accepted
        ∙ append-nil (accepted picks start a.0 calls a.1)))
        (by_news asked (said picks start a.0 calls a.1) (hearings h) (awaited picks start a.0 calls a.1) (sent h)
        (length (accepted picks start a.0 calls a.1)) i (said_in q.out) q.kind
        (subst (λ x. IsRead x q.out.bytes.items) (sym q.kind) (q.code, q.long.0, q.long.1)))
    deals_so call a asks small reads (inr (inr (inl q))) i =
        inv_as asked _ (said picks start a.0 calls a.1 ++ said_in q.out ∷ []) (hearings h) _
        (filter (λ x. not (has_number (num q.out.bytes.items 0 4) x)) (awaited picks start a.0 calls a.1)) (sent h) _
        (length (accepted picks start a.0 calls a.1))
        (ap (λ xs. said picks start a.0 calls a.1 ++ map said_in xs)
        (begun_one a.0.outgoing p.outgoing q.out q.nothing q.begun))
        (ap (λ xs. without_ends xs (awaited picks start a.0 calls a.1) ++ taken_by call a.0) q.ended
        ∙ ap (λ xs. filter (λ x. not (has_number (num q.out.bytes.items 0 4) x)) (awaited picks start a.0 calls a.1)
        ++ xs) q.taken
        ∙ append-nil (filter (λ x. not (has_number (num q.out.bytes.items 0 4) x))
        (awaited picks start a.0 calls a.1)))
        (ap length (ap (λ xs. accepted picks start a.0 calls a.1 ++ xs) q.accepted
        ∙ append-nil (accepted picks start a.0 calls a.1)))
        (by_end asked (said picks start a.0 calls a.1) (hearings h) (awaited picks start a.0 calls a.1) (sent h)
        (length (accepted picks start a.0 calls a.1)) i (said_in q.out) q.message q.kind
        (subst (λ x. IsRead x q.out.bytes.items) (sym q.kind) q.whole) q.only
        (moved_few (kind_of_code (slice_index q.out.bytes.items 8)) (num q.out.bytes.items 12 4) (bytes_in q.message)
        q.counts))
    deals_so call a asks small reads (inr (inr (inr (inl q)))) i =
        inv_as asked _ (said picks start a.0 calls a.1) (hearings h) _
        (awaited picks start a.0 calls a.1 ++ taken_by call a.0) (sent h) _
        (length (accepted picks start a.0 calls a.1 ++ accepted_by call a.0))
        (ap (λ xs. said picks start a.0 calls a.1 ++ map said_in xs) q.begun
        ∙ append-nil (said picks start a.0 calls a.1))
        (ap (λ xs. without_ends xs (awaited picks start a.0 calls a.1) ++ taken_by call a.0) q.ended) refl
        (takes_it call a asks reads q i)
    deals_so call a asks small reads (inr (inr (inr (inr q)))) i =
        inv_as asked _ (said picks start a.0 calls a.1 ++ said_in q.out ∷ []) (hearings h) _
        (awaited picks start a.0 calls a.1) (sent h) _
        (length (accepted picks start a.0 calls a.1 ++ accepted_by call a.0))
        (ap (λ xs. said picks start a.0 calls a.1 ++ map said_in xs)
        (begun_one a.0.outgoing p.outgoing q.out q.nothing q.begun))
        (ap (λ xs. without_ends xs (awaited picks start a.0 calls a.1) ++ taken_by call a.0) q.ended
        ∙ ap (λ xs. awaited picks start a.0 calls a.1 ++ xs) q.taken ∙ append-nil (awaited picks start a.0 calls a.1))
        refl (answers_it call a asks small reads q i)

    -- behind a call that is no write of IP
    pub called : (call : Call) (a : Answered picks start (call ∷ calls) p) → AsksAlways (call ∷ calls)
        → ReadsBytes (call ∷ calls) → ReadsInOrder IsTextOf call (talk_of picks start a.0 calls a.1) (sent h)
        → call ≢ WriteIp
        → is_dead p.stage ≡ false → (is_dead a.0.stage ≡ false → State a.0 calls a.1 asked h)
        → State p (call ∷ calls) a asked h
    called call a asks small reads never lives get =
        let d = ends c before controller hardware credits start p call calls valid was quiet made small a never
        lives in
        inv_as asked _ (said picks start a.0 calls a.1 ++ map said_in (begins a.0.outgoing p.outgoing)) (hearings h) _
        (without_ends (ends_said_by call a.0 p) (awaited picks start a.0 calls a.1) ++ taken_by call a.0) (sent h) _
        (length (accepted picks start a.0 calls a.1 ++ accepted_by call a.0))
        (since_alive p.stage call _ _ never lives) (since_alive p.stage call _ _ never lives)
        (ap length (since_alive p.stage call _ _ never lives))
        (deals_so call a asks small reads d.1 (get d.0))

  -- ---- what was told

  pub hears_said : (p : Port K) (calls : List Call) (a : Answered picks start calls p) (k : ℕ) (v : Envelope)
      (b : List ℕ)
      (packet : Packet) → AsksAlways calls → slice_get (talk_of picks start p calls a).told k ≡ Some packet
      → IsPacket packet v b → IsHeard (all_said picks start p calls a) k v b
  hears_said p calls a k v b packet asks at is =
      let t = (tell hardware credits controller start p calls made asks a).0 in
      let x = tell_at (credits - 1) (talk_of picks start p calls a).told t.0 k packet t.2 at in
      record {
        said = x.0;
        at = ap (λ xs. slice_get xs k) (sym t.1) ∙ first_part t.0 (held p) k x.0 x.2;
        text = is.text ∙ ap (drop 4) x.3.1;
        connection = ap (λ (w : Envelope). w.connection) is.envelope
            ∙ ap (λ bytes. (envelope_in bytes).connection) x.3.1;
        size = ap (λ (w : Envelope). w.length) is.envelope ∙ ap (λ bytes. (envelope_in bytes).length) x.3.1
            ∙ size_of (length x.0.text);
        kind = ap (λ (w : Envelope). w.kind) is.envelope ∙ ap (λ bytes. (envelope_in bytes).kind) x.3.1
            ∙ few_credits x.1 x.0.kind;
      }

  pub numbered : (h : PortHistory) (host : PortAccount) → PortAnswered fresh_of_port h host → SameNumbers host
  numbered h host r = grind (arith, same_numbers, length-map)

  -- ---- each deed

  -- the host did this
  module _ (p : Port K) (calls : List Call) (a : Answered picks start calls p) (asks : AsksAlways calls)
      (h : PortHistory) (mid new : PortAccount) (sane : SameNumbers mid) (i : State p calls a mid.asked h) where
    abbrev Then : PortMoment → Type 0
    Then m = State p calls a new.asked (h ++ m ∷ [])

    as_last : (m : PortMoment) → Inv new.asked (all_said picks start p calls a)
        (cond (is_hearing m) (suc (hearings h)) (hearings h)) (awaited picks start p calls a) (sent h ++ sent_by m)
        (length (accepted picks start p calls a)) → Then m
    as_last m x = grind (arith, heard_last, sent_last)

    still : new.asked ≡ mid.asked → Inv new.asked (all_said picks start p calls a) (hearings h)
        (awaited picks start p calls a) (sent h ++ []) (length (accepted picks start p calls a))
    still same = grind (arith, append-nil)

    pub moment : (m : PortMoment) → HasNumber m → HearsInOrder m (talk_of picks start p calls a) (hearings h)
        → PortAnswers mid m new → Then m
    moment (Submit command (Ok message)) small joined r = as_last (Submit command (Ok message))
        (by_message mid.asked (all_said picks start p calls a) (hearings h)
        (awaited picks start p calls a) (sent h) (length (accepted picks start p calls a)) i mid new message.items refl
        (submit_sends mid new command message small sane r))
    moment (Submit command (Err fault)) small joined r = as_last (Submit command (Err fault))
        (still (ap (λ (q : PortAccount). q.asked) (submit_same mid new command fault r)))
    moment (Ask n (Ok (polls.Ask message))) small joined r = as_last (Ask n (Ok (polls.Ask message)))
        (by_message mid.asked (all_said picks start p calls a) (hearings h)
        (awaited picks start p calls a) (sent h) (length (accepted picks start p calls a)) i mid new message.items refl
        (poll_sends mid new n small sane message r))
    moment (Ask n (Ok polls.Nothing)) small joined r = as_last (Ask n (Ok polls.Nothing))
        (still (ap (λ (q : PortAccount). q.asked) (poll_same mid new n (Ok polls.Nothing) refl r)))
    moment (Ask n (Ok polls.Busy)) small joined r = as_last (Ask n (Ok polls.Busy))
        (still (ap (λ (q : PortAccount). q.asked) (poll_same mid new n (Ok polls.Busy) refl r)))
    moment (Ask n (Err fault)) small joined r = as_last (Ask n (Err fault))
        (still (ap (λ (q : PortAccount). q.asked) (poll_same mid new n (Err fault) refl r)))
    moment (Hear v b answer) small joined r =
        let x = hears_said p calls a (hearings h) v b joined.0 asks joined.1 joined.2 in
        as_last (Hear v b answer)
        (subst (λ ms. Inv new.asked (all_said picks start p calls a) (suc (hearings h))
        (awaited picks start p calls a) ms (length (accepted picks start p calls a))) (sym (append-nil (sent h)))
        (by_hearing mid.asked (all_said picks start p calls a) (hearings h)
        (awaited picks start p calls a) (sent h) (length (accepted picks start p calls a)) i x.said v b new.asked x.at
        x.text x.connection (settles mid new (message_in v b) (hear_watch mid new v b answer r))))
    moment (Resume b) small joined r = as_last (Resume b)
        (still (ap (λ (q : PortAccount). q.asked) (same_ok new mid (sym r.1 ∙ r.0.back))))
    moment Other small joined r = as_last Other (still (ap (λ (q : PortAccount). q.asked) r))

  -- and so it is after all deeds
  pub owed : (p : Port K) (deeds : List Deed) → AsksAlways (calls_in deeds) → ReadsBytes (calls_in deeds)
      → HaveNumbers deeds → (a : Answered picks start (calls_in deeds) p) → AreJoined IsTextOf picks start p deeds a
      → is_dead p.stage ≡ false → (host : PortAccount) → PortAnswered fresh_of_port (did deeds) host
      → State p (calls_in deeds) a host.asked (did deeds)
  owed p [] asks small numbers a joined lives host r = grind arith
  owed p (Called WriteIp ∷ deeds) asks small numbers a joined lives host r = grind arith
  owed p (Called call ∷ deeds) asks small numbers a joined lives host r =
      called p (calls_in deeds) host.asked (did deeds) call a asks small joined.0 (λ e. search (arith, e)) lives
      (λ alive. owed a.0 deeds (asked_before call (calls_in deeds) asks) (reads_before call (calls_in deeds) small)
      numbers a.1 joined.1 alive host r)
  owed p (Did m ∷ deeds) asks small numbers a joined lives host r =
      let x = answered_last fresh_of_port host (did deeds) m r in
      moment p (calls_in deeds) a asks (did deeds) x.0 host (numbered (did deeds) x.0 x.1)
      (owed p deeds asks small numbers.1 a joined.1 lives x.0 x.1) m numbers.0 joined.0 x.2

  -- ---- the law

  -- a dead port has told nothing
  pub none_told : (p : Port K) (calls : List Call) (a : Answered picks start calls p) (k : ℕ) (packet : Packet)
      → slice_get (talk_of picks start p calls a).told k ≡ Some packet → is_dead p.stage ≡ false
  none_told p [] a k packet e = absurd (none-some packet e)
  none_told p (call ∷ calls) a k packet e = grind (arith, none-some)

  pub hears_own : (p : Port K) (deeds : List Deed) (old new : PortAccount) (v : Envelope) (b : List ℕ)
      (answer : Result Heard HearFault) → AsksAlways (calls_in deeds) → ReadsBytes (calls_in deeds)
      → HaveNumbers deeds → (a : Answered picks start (calls_in deeds) p)
      → AreJoined IsTextOf picks start p (Did (Hear v b answer) ∷ deeds) a → PortAnswered fresh_of_port (did deeds) old
      → PortAnswers old (Hear v b answer) new → HearsItsOwn old v b answer
  hears_own p deeds old new v b answer asks small numbers a joined answered r =
      let lives = none_told p (calls_in deeds) a (hearings (did deeds)) joined.0.0 joined.0.1 in
      let i = owed p deeds asks small numbers a joined.1 lives old answered in
      let x = hears_said p (calls_in deeds) a (hearings (did deeds)) v b joined.0.0 asks joined.0.1 joined.0.2 in
      let own : (e : End) → message_in v b ≡ Ok (messages.End e)
      → (y : Asked) × (find (is_of e.reference) old.asked ≡ Some y) × (is_too_much e.body y.bytes ≡ false) =
      λ e h. heard_own old.asked (all_said picks start p (calls_in deeds) a)
      (hearings (did deeds)) (awaited picks start p (calls_in deeds) a) (sent (did deeds))
      (length (accepted picks start p (calls_in deeds) a)) i x.said v b e x.at x.text x.connection h in
      let d = drop_at (hearings (did deeds)) (all_said picks start p (calls_in deeds) a) x.said
      x.at in
      let read : IsRead x.said.kind x.said.text = (subst (λ us. AllByRecursion IsCoded us) d.0 i.news).0 in
      let message : IsMessage x.said.kind (message_in v b) = subst (λ t. IsMessage x.said.kind (message_in v t))
      (sym x.text)
      (message_read x.said.kind x.said.text v read
      (x.size ∙ small_size (length x.said.text) (read_short x.said.kind x.said.text read))
      (x.connection ∙ read_disk x.said.kind x.said.text read) x.kind) in
      record {
        ends = own;
        refused = λ fault h. hears_refused old new v b message.0 fault message.1 (r ∙ ap (λ y. (y, new)) h);
        moved = λ e asked h.
            let m = hears_too_much old new v b e asked (r ∙ ap (λ y. (y, new)) h) in
            let o = own m.0 m.2 in
            not_both m.0 m.1 o.0 (same_Some m.1 o.0 (sym m.3 ∙ o.1)) m.4 o.2;
      }
    where
      read_short : (kind : OutgoingKind) (t : List ℕ) → IsRead kind t → length t ≤ 64
      read_short kind t r = grind arith

      read_disk : (kind : OutgoingKind) (t : List ℕ) → IsRead kind t → connection_told kind ≡ 0
      read_disk kind t r = grind arith

      small_size : (n : ℕ) → n ≤ 64 → n % 0x1_0000 ≡ n
      small_size n h = omega (arith, h)

      not_both : (e : End) (x y : Asked) → x ≡ y → is_too_much e.body x.bytes ≡ true
          → is_too_much e.body y.bytes ≡ false
          → ⊥
      not_both e x y same is not_so = search (arith, ap (λ z. is_too_much e.body z.bytes) same, is, not_so)
