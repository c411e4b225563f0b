-- A host of a port refuses nothing, if the port reads its messages as it wrote them.
use Rattle.mscp_heard.proofs.Common.{All, AllByRecursion, Answered, AnsweredCalls, AreJoined, Ask, Asked, AsksAlways, Call, Called, Deals, Deed, Did, End, Envelope, Err, First, Hardware, HasNumber, HaveNumbers, Hear, HearFault, Heard, HearsInOrder, Holdings, IsCopyOf, IsMadeOf, IsValid, List, Made, Ok, Other, OutgoingKind, Picking, Port, PortAccount, PortAnswered, PortAnswers, PortHistory, PortHostsKeepTheirHistory, PortMoment, PortsAnswerAsTheyMay, PortsEndByOpcode, PortsEndWhatTheyTook, PortsHearInOrder, PortsOpenWhatTheyAccept, PortsTellInOrder, ReadsBytes, ReadsInOrder, Result, Resume, Said, Settings, Some, Submit, WriteIp, [], accepted, accepted_by, all_said, ap, append-nil, append_assoc, arith, awaited, begins, calls_in, cond, connection_told, did, drop, ends_said_by, false, find, fresh, fresh_of_port, hearings, inl, inr, is_about, is_code_of, is_dead, is_hearing, is_of, is_poll_of, kind_of_code, length, map, message_in, nat_eq, none-some, num, outstanding_of, refl, said_in, sent, sent_by, slice_get, slice_index, subst, suc, sym, taken_by, talk_of, without_ends, ℕ, ◌%◌, ◌++◌, ◌<◌, ◌∙◌, ◌∷◌, ◌≡◌, ◌≢◌, ◌≤◌}
use Rattle.mscp_heard.proofs.Packets.{IsMessage, end_read, message_read}
use Rattle.mscp_heard.proofs.Sending.{heard_own}
use Rattle.mscp_heard.proofs.Asking.{poll_same, submit_same}
use Rattle.mscp_heard.proofs.Watching.{hears_ok, may_be}
use Rattle.mscp_host.specs.declared.message.Message.TheVariants as messages
use Rattle.mscp_port.specs.declared.port.OutgoingKind.TheVariants as kinds
use Rattle.mscp_host.specs.declared.news.Poll.TheVariants as polls
use Rattle.mscp_heard.proofs.Claims.{Claim, Owes, claim_of, claim_said, claims, claims_said, moved_in, rest_apart}
use Rattle.mscp_heard.proofs.Dealt.{Dealt, Taken, copied, deals_so, noted_dealt}
use Rattle.mscp_heard.proofs.Hosts.{SameNumbers}
use Rattle.mscp_heard.proofs.Joined.{hears_said, none_told, numbered, owed}
use Rattle.mscp_heard.proofs.Moments.{answered_last, asked_before, heard_last, reads_before, sent_last}
use Rattle.mscp_heard.proofs.Moving.{drop_at, drop_beside}
use Rattle.mscp_heard.proofs.Notes.{FitsSaid, Noted, nothing_noted}
use Rattle.mscp_heard.proofs.Noting.{IsReady, heard_noted, heard_ready, same_noted, same_ready, sent_noted, sent_ready}
use Rattle.mscp_heard.proofs.Owing.{Inv, IsCoded, same_ok, since_alive}
use Rattle.mscp_heard.proofs.Packets.{IsRead, end_heard}
use Rattle.mscp_heard.proofs.Watching.{Notes, SettlesWatch, hear_watch, poll_notes, submit_notes}

-- where an end is heard, what was said is one
pub end_kind : (s : Said) (v : Envelope) (b : List ℕ) (e : End) → IsCoded s → b ≡ s.text
    → v.connection ≡ connection_told s.kind → message_in v b ≡ Ok (messages.End e) → s.kind ≡ kinds.End
end_kind s v b e code text connection r = by s.kind refl
  where
    by : (kind : OutgoingKind) → s.kind ≡ kind → s.kind ≡ kinds.End
    by kinds.End is = is
    by kinds.Attention is = absurd (search (
      arith,
      (end_heard v b e r).1,
      ap (λ x. slice_index x 8) text ∙ (subst (λ x. IsRead x s.text) is code).0,
    ))
    by kinds.UtilitiesEnd is = grind (arith, end_heard)

pub read_short : (kind : OutgoingKind) (t : List ℕ) → IsRead kind t → length t ≤ 64
read_short kind t r = grind arith

pub read_disk : (kind : OutgoingKind) (t : List ℕ) → IsRead kind t → connection_told kind ≡ 0
read_disk kind t r = grind arith

pub small_size : (n : ℕ) → n ≤ 64 → n % 0x1_0000 ≡ n
small_size n h = omega (arith, h)

module _ {K : Type 0} (picks : Picking K) (c : Settings) (picker : K) (ends : PortsEndWhatTheyTook picks picker)
    (fit : PortsEndByOpcode picks picker) (sizes : All (λ unit. 0 < unit.size) c.units)
    (hear : PortsHearInOrder picks) (tell : PortsTellInOrder picks) (open_so : PortsOpenWhatTheyAccept picks)
    (answer_so : PortsAnswerAsTheyMay picks) (history : PortHostsKeepTheirHistory)
    (before : List Made) (controller : Holdings K) (hardware : Hardware) (credits : ℕ) (start : Port K)
    (valid : IsValid c) (was : AnsweredCalls (picks picker) (fresh c picker) before controller)
    (quiet : outstanding_of First controller ≡ []) (made : IsMadeOf hardware credits controller start) where
  abbrev pub NotedAt : (p : Port K) (calls : List Call) → Answered picks start calls p → PortAccount → PortHistory
      → Type 0
  NotedAt p calls a host h = Noted host (drop (hearings h) (all_said picks start p calls a))
      (awaited picks start p calls a)
      (drop (length (accepted picks start p calls a)) (sent h))

  abbrev pub Owed : (p : Port K) (calls : List Call) → Answered picks start calls p → List Asked → PortHistory → Type 0
  Owed p calls a asked h = Inv asked (all_said picks start p calls a) (hearings h) (awaited picks start p calls a)
      (sent h) (length (accepted picks start p calls a))

  pub owed_so : (p : Port K) (deeds : List Deed) → AsksAlways (calls_in deeds) → ReadsBytes (calls_in deeds)
      → HaveNumbers deeds → (a : Answered picks start (calls_in deeds) p) → AreJoined IsCopyOf picks start p deeds a
      → is_dead p.stage ≡ false → (host : PortAccount) → PortAnswered fresh_of_port (did deeds) host
      → Owed p (calls_in deeds) a host.asked (did deeds)
  owed_so p deeds asks small numbers a joined lives host r =
      owed picks c picker ends hear tell open_so answer_so history before controller hardware credits start valid was
      quiet made p deeds asks small numbers a (copied picks start p deeds a joined) lives host r

  -- ---- the host did this

  module _ (p : Port K) (calls : List Call) (a : Answered picks start calls p) (asks : AsksAlways calls)
      (h : PortHistory) (mid new : PortAccount) (sane : SameNumbers mid) (i : Owed p calls a mid.asked h)
      (noted : NotedAt p calls a mid h) (ready : IsReady mid) where
    abbrev us : List Said
    us = all_said picks start p calls a

    abbrev n : ℕ
    n = length (accepted picks start p calls a)

    abbrev Then : PortMoment → Type 0
    Then m = NotedAt p calls a new (h ++ m ∷ []) × IsReady new

    as_last : (m : PortMoment) → Noted new (drop (cond (is_hearing m) (suc (hearings h)) (hearings h)) us)
        (awaited picks start p calls a) (drop n (sent h ++ sent_by m)) → IsReady new → Then m
    as_last m x now = grind (arith, heard_last, sent_last)

    -- it keeps the same
    still : new ≡ mid → Noted new (drop (hearings h) us) (awaited picks start p calls a) (drop n (sent h ++ []))
        × IsReady new
    still same = grind (arith, append-nil, noted)

    -- it sent a message
    sent_it : (m : List ℕ) → Notes mid new m
        → Noted new (drop (hearings h) us) (awaited picks start p calls a) (drop n (sent h ++ m ∷ [])) × IsReady new
    sent_it m s = (
      subst (λ ms. Noted new (drop (hearings h) us) (awaited picks start p calls a) ms)
          (sym (drop_beside n (sent h) m i.read))
          (sent_noted mid new m s ready (drop (hearings h) us) (awaited picks start p calls a) (drop n (sent h)) i.owes
          noted),
      sent_ready mid new m s ready,
    )

    -- it heard what was said next
    heard_it : (s : Said) (v : Envelope) (b : List ℕ) → slice_get us (hearings h) ≡ Some s → b ≡ s.text
        → v.connection ≡ connection_told s.kind → SettlesWatch mid new (message_in v b)
        → Noted new (drop (suc (hearings h)) us) (awaited picks start p calls a) (drop n (sent h)) × IsReady new
    heard_it s v b at text connection (inl same) = (
      same_noted mid new (drop (suc (hearings h)) us) (awaited picks start p calls a) (drop n (sent h)) same.0 same.1
          (record {
            said = (subst (λ xs. AllByRecursion (FitsSaid mid) xs) (drop_at (hearings h) us s at).0 noted.said).1;
            texts = noted.texts;
            messages = noted.messages;
          }),
      same_ready mid new same.0 same.1 ready,
    )
    heard_it s v b at text connection (inr r) =
        let d = drop_at (hearings h) us s at in
        let code = (subst (λ xs. AllByRecursion IsCoded xs) d.0 i.news).0 in
        let kind = end_kind s v b r.0 code text connection r.1 in
        let named : r.0.reference ≡ num s.text 0 4 = (end_heard v b r.0 r.1).2 ∙ ap (λ x. num x 0 4) text in
        let mine : Claim =
        record { number = num s.text 0 4; bytes = moved_in (kind_of_code (slice_index s.text 8)) (num s.text 12 4) } in
        let rest = claims (drop (suc (hearings h)) us) (awaited picks start p calls a) (drop n (sent h)) in
        let owes : Owes mid.asked (mine ∷ rest) =
        subst (λ k. Owes mid.asked (claim_said k s.text ++ rest)) kind
        (subst (λ cs. Owes mid.asked cs) (ap (λ xs. claims xs (awaited picks start p calls a) (drop n (sent h))) d.0
        ∙ append_assoc (claim_said s.kind s.text) (claims_said (drop (suc (hearings h)) us))
        (map claim_of (awaited picks start p calls a) ++ map claim_of (drop n (sent h)))) i.owes) in (
          heard_noted mid new r.0.reference r.2 r.3 (drop (suc (hearings h)) us) (awaited picks start p calls a)
              (drop n (sent h))
              (subst (λ m. AllByRecursion (λ (x : Claim). nat_eq x.number m ≡ false) rest) (sym named)
              (rest_apart mid.asked mine rest owes))
              (record {
                said = (subst (λ xs. AllByRecursion (FitsSaid mid) xs) d.0 noted.said).1;
                texts = noted.texts;
                messages = noted.messages;
              }),
          heard_ready mid new r.0.reference r.2 r.3 ready,
        )

    pub moment_noted : (m : PortMoment) → HasNumber m → HearsInOrder m (talk_of picks start p calls a) (hearings h)
        → PortAnswers mid m new → Then m
    moment_noted (Submit command (Ok message)) small joined r =
        let x = sent_it message.items (submit_notes mid new command message small sane r) in
        as_last (Submit command (Ok message)) x.0 x.1
    moment_noted (Submit command (Err fault)) small joined r =
        let x = still (submit_same mid new command fault r) in as_last (Submit command (Err fault)) x.0 x.1
    moment_noted (Ask k (Ok (polls.Ask message))) small joined r =
        let x = sent_it message.items (poll_notes mid new k small sane ready.small message r) in
        as_last (Ask k (Ok (polls.Ask message))) x.0 x.1
    moment_noted (Ask k (Ok polls.Nothing)) small joined r =
        let x = still (poll_same mid new k (Ok polls.Nothing) refl r) in as_last (Ask k (Ok polls.Nothing)) x.0 x.1
    moment_noted (Ask k (Ok polls.Busy)) small joined r =
        let x = still (poll_same mid new k (Ok polls.Busy) refl r) in as_last (Ask k (Ok polls.Busy)) x.0 x.1
    moment_noted (Ask k (Err fault)) small joined r =
        let x = still (poll_same mid new k (Err fault) refl r) in as_last (Ask k (Err fault)) x.0 x.1
    moment_noted (Hear v b answer) small joined r =
        let x = hears_said picks c picker ends hear tell open_so answer_so history before controller hardware credits
        start valid was quiet made p calls a (hearings h) v b joined.0 asks joined.1 joined.2 in
        let y = heard_it x.said v b x.at x.text x.connection (hear_watch mid new v b answer r) in
        as_last (Hear v b answer) (subst (λ ms. Noted new (drop (suc (hearings h)) us) (awaited picks start p calls a)
        (drop n ms)) (sym (append-nil (sent h))) y.0) y.1
    moment_noted (Resume b) small joined r =
        let x = still (same_ok new mid (sym r.1 ∙ r.0.back)) in as_last (Resume b) x.0 x.1
    moment_noted Other small joined r = let x = still r in as_last Other x.0 x.1

  -- ---- all deeds

  pub new_ready : (host : PortAccount) → host ≡ fresh_of_port → IsReady host
  new_ready host is = grind (arith, none-some)

  -- by a call of the port
  pub by_call : (p : Port K) (calls : List Call) (call : Call) (a : Answered picks start (call ∷ calls) p)
      → (h : PortHistory) → AsksAlways (call ∷ calls) → ReadsBytes (call ∷ calls)
      → ReadsInOrder IsCopyOf call (talk_of picks start a.0 calls a.1) (sent h) → call ≢ WriteIp
      → is_dead p.stage ≡ false → Deals (awaited picks start a.0 calls a.1) call a.0 p
      → hearings h ≤ length (all_said picks start a.0 calls a.1)
      → Dealt (Taken call a.0) (accepted_by call a.0) (drop (hearings h) (all_said picks start a.0 calls a.1))
      (awaited picks start a.0 calls a.1)
      (drop (length (accepted picks start a.0 calls a.1)) (sent h))
      (drop (hearings h) (all_said picks start p (call ∷ calls) a)) (awaited picks start p (call ∷ calls) a)
      (drop (length (accepted picks start p (call ∷ calls) a)) (sent h))
  by_call p calls call a h asks small reads never lives d heard =
      subst (λ us. Dealt (Taken call a.0) (accepted_by call a.0) (drop (hearings h)
      (all_said picks start a.0 calls a.1)) (awaited picks start a.0 calls a.1)
      (drop (length (accepted picks start a.0 calls a.1)) (sent h)) (drop (hearings h) us)
      (awaited picks start p (call ∷ calls) a) (drop (length (accepted picks start p (call ∷ calls) a)) (sent h)))
      (sym (since_alive p.stage call (all_said picks start a.0 calls a.1)
      (map said_in (begins a.0.outgoing p.outgoing)) never lives))
      (subst (λ ts. Dealt (Taken call a.0) (accepted_by call a.0) (drop (hearings h)
      (all_said picks start a.0 calls a.1)) (awaited picks start a.0 calls a.1)
      (drop (length (accepted picks start a.0 calls a.1)) (sent h))
      (drop (hearings h) (all_said picks start a.0 calls a.1 ++ map said_in (begins a.0.outgoing p.outgoing))) ts
      (drop (length (accepted picks start p (call ∷ calls) a)) (sent h)))
      (sym (since_alive p.stage call (without_ends (ends_said_by call a.0 p) (awaited picks start a.0 calls a.1))
      (taken_by call a.0) never lives))
      (subst (λ xs. Dealt (Taken call a.0) (accepted_by call a.0) (drop (hearings h)
      (all_said picks start a.0 calls a.1)) (awaited picks start a.0 calls a.1)
      (drop (length (accepted picks start a.0 calls a.1)) (sent h))
      (drop (hearings h) (all_said picks start a.0 calls a.1 ++ map said_in (begins a.0.outgoing p.outgoing)))
      (without_ends (ends_said_by call a.0 p) (awaited picks start a.0 calls a.1) ++ taken_by call a.0)
      (drop (length xs) (sent h)))
      (sym (since_alive p.stage call (accepted picks start a.0 calls a.1) (accepted_by call a.0) never lives))
      (deals_so picks c picker ends fit sizes hear tell open_so answer_so history before controller hardware credits
      start valid was quiet made p calls (sent h) (hearings h) call a heard asks small reads d)))

  pub noted : (p : Port K) (deeds : List Deed) → AsksAlways (calls_in deeds) → ReadsBytes (calls_in deeds)
      → HaveNumbers deeds → (a : Answered picks start (calls_in deeds) p) → AreJoined IsCopyOf picks start p deeds a
      → is_dead p.stage ≡ false → (host : PortAccount) → PortAnswered fresh_of_port (did deeds) host
      → NotedAt p (calls_in deeds) a host (did deeds) × IsReady host
  noted p [] asks small numbers a joined lives host r = (nothing_noted host, new_ready host r)
  noted p (Called WriteIp ∷ deeds) asks small numbers a joined lives host r = (nothing_noted host, new_ready host r)
  noted p (Called call ∷ deeds) asks small numbers a joined lives host r =
      let never : call ≢ WriteIp = λ e. search (arith, e) in
      let d = ends c before controller hardware credits start p call (calls_in deeds) valid was quiet made small a never
      lives in
      let before_asks = asked_before call (calls_in deeds) asks in
      let before_reads = reads_before call (calls_in deeds) small in
      let i = owed_so a.0 deeds before_asks before_reads numbers a.1 joined.1 d.0 host r in
      let x = noted a.0 deeds before_asks before_reads numbers a.1 joined.1 d.0 host r in (
        noted_dealt (Taken call a.0) (accepted_by call a.0) host (drop (hearings (did deeds))
            (all_said picks start a.0 (calls_in deeds) a.1)) _
            (awaited picks start a.0 (calls_in deeds) a.1) _
            (drop (length (accepted picks start a.0 (calls_in deeds) a.1)) (sent (did deeds))) _
            (by_call p (calls_in deeds) call a (did deeds) asks small joined.0 never lives d.1 i.heard) x.0,
        x.1,
      )
  noted p (Did m ∷ deeds) asks small numbers a joined lives host r =
      let x = answered_last fresh_of_port host (did deeds) m r in
      let sane = numbered picks c picker ends hear tell open_so answer_so history before controller hardware credits
      start valid was quiet made (did deeds) x.0 x.1 in
      let i = owed_so p deeds asks small numbers.1 a joined.1 lives x.0 x.1 in
      let y = noted p deeds asks small numbers.1 a joined.1 lives x.0 x.1 in
      moment_noted p (calls_in deeds) a asks (did deeds) x.0 host sane i y.0 y.1 m numbers.0 joined.0 x.2

  -- ---- the law

  pub refuses_nothing : (p : Port K) (deeds : List Deed) (old new : PortAccount) (v : Envelope) (b : List ℕ)
      (answer : Result Heard HearFault) (fault : HearFault) → AsksAlways (calls_in deeds)
      → ReadsBytes (calls_in deeds) → HaveNumbers deeds → (a : Answered picks start (calls_in deeds) p)
      → AreJoined IsCopyOf picks start p (Did (Hear v b answer) ∷ deeds) a
      → PortAnswered fresh_of_port (did deeds) old → PortAnswers old (Hear v b answer) new → answer ≢ Err fault
  refuses_nothing p deeds old new v b answer fault asks small numbers a joined answered r refused =
      let k = hearings (did deeds) in
      let calls = calls_in deeds in
      let us = all_said picks start p calls a in
      let lives = none_told picks c picker ends hear tell open_so answer_so history before controller hardware credits
      start valid was quiet made p calls a k joined.0.0 joined.0.1 in
      let i = owed_so p deeds asks small numbers a joined.1 lives old answered in
      let n = noted p deeds asks small numbers a joined.1 lives old answered in
      let x = hears_said picks c picker ends hear tell open_so answer_so history before controller hardware credits
      start valid was quiet made p calls a k v b joined.0.0 asks joined.0.1 joined.0.2 in
      let d = drop_at k us x.said x.at in
      let read : IsRead x.said.kind x.said.text = (subst (λ us. AllByRecursion IsCoded us) d.0 i.news).0 in
      let message : IsMessage x.said.kind (message_in v b) = subst (λ t. IsMessage x.said.kind (message_in v t))
      (sym x.text)
      (message_read x.said.kind x.said.text v read
      (x.size ∙ small_size (length x.said.text) (read_short x.said.kind x.said.text read))
      (x.connection ∙ read_disk x.said.kind x.said.text read) x.kind) in
      hears_ok old new v b message.0 fault message.1 (λ e h.
      let own = heard_own old.asked us k (awaited picks start p calls a) (sent (did deeds))
      (length (accepted picks start p calls a)) i x.said v b e x.at x.text x.connection h in
      let kind = end_kind x.said v b e read x.text x.connection h in
      let named : e.reference ≡ num x.said.text 0 4 = (end_heard v b e h).2 ∙ ap (λ y. num y 0 4) x.text in
      let fits = (subst (λ xs. AllByRecursion (FitsSaid old) xs) d.0 n.0.said).0 kind own.0
      (ap (λ m. find (is_of m) old.asked) (sym named) ∙ own.1) in
      let is = end_read v b e h in
      let code : e.code ≡ slice_index x.said.text 8 = is.0 ∙ ap (λ y. slice_index y 8) x.text in (
        own.0,
        own.1,
        may_be old e own.0 (ap (λ m. is_code_of m own.0.opcode) code ∙ fits.code)
            (λ other figure poll body watched.
            ap (is_about old.account.watch) ((is.1 other figure body).0 ∙ ap (λ y. num y 12 4) x.text)
            ∙ (fits.about (sym code ∙ poll)
            (ap (is_poll_of old.account.watch) (sym named) ∙ watched)).1),
      ))
      (r ∙ ap (λ y. (y, new)) refused)
