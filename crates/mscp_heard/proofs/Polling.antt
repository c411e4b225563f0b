-- A host of a port hears neither Reset nor Lost, if a step is told between any two polls of one command.
use Rattle.mscp_heard.proofs.Upcoming.{first_of, first_in, in_either, tally_texts, some_has, in_of_holds, holds_of_in, in_said}
use Rattle.mscp_heard.proofs.Known.{Knows}
use Rattle.mscp_heard.proofs.Tracking.{knows_still}
use Rattle.mscp_host.specs.declared.heard.Heard.TheVariants as heards
use Rattle.mscp_host.specs.declared.news.Poll.TheVariants as polls
use Rattle.mscp_packet.specs.declared.end.EndBody.TheVariants as bodies
use Rattle.mscp_heard.proofs.Common.{All, AllByRecursion, Answered, AnsweredCalls, AreJoined, Ask, Asked, AsksAlways, Call, Called, Deals, Deed, Did, Envelope, Err, First, Hardware, HasNumber, HaveNumbers, Hear, HearFault, Heard, HearsInOrder, Holdings, HoldsAwaited, IsCopyOf, IsMadeOf, IsServedSince, IsValid, List, Made, Ok, Other, Pending, Picking, Port, PortAccount, PortAnswered, PortAnswers, PortHistory, PortHostsKeepTheirHistory, PortMoment, PortsAnswerAsTheyMay, PortsEndByOpcode, PortsEndWhatTheyTook, PortsHearInOrder, PortsHoldWhatIsAwaited, PortsLowerFigures, PortsOpenWhatTheyAccept, PortsPassEndsOn, PortsTellInOrder, ReadsBytes, ReadsInOrder, Result, Resume, Said, ServesBetweenPolls, Settings, Some, Submit, TakesPoll, TellsStep, WasRead, WriteIp, [], accepted, accepted_by, all_said, ap, append-nil, append_assoc, arith, awaited, begins, calls_in, cond, connection_told, did, drop, drop-append-le, eq-eqb, false, figure_on, flat_map, fresh, fresh_of_port, hearings, inl, inr, is_dead, is_hearing, length, map, message_in, none-some, num, of, outstanding_of, pending_held, pending_in, refl, said_in, sent, sent_by, slice_get, slice_index, subst, suc, sym, taken_by, talk_of, ℕ, ◌%◌, ◌++◌, ◌+◌, ◌<◌, ◌∙◌, ◌∷◌, ◌≡◌, ◌≢◌, ◌≤◌, ◌⊎◌}
use Rattle.mscp_heard.proofs.Refusing.{owed_so, noted, by_call, end_kind, read_short, read_disk, small_size, refuses_nothing}
use Rattle.mscp_heard.proofs.Keeping.{knows_sent}
use Rattle.mscp_heard.proofs.Answered.{knows_news, knows_end, says_neither}
use Rattle.mscp_heard.proofs.Packets.{is_end, IsMessage, message_read, end_read, end_heard, IsRead}
use Rattle.mscp_heard.proofs.Asking.{poll_same, submit_same}
use Rattle.mscp_heard.proofs.Watching.{Notes, submit_notes, poll_notes}
use Rattle.mscp_heard.proofs.Saying.{IsHeardSo, hear_done}
use Rattle.mscp_heard.proofs.Dealt.{Taken}
use Rattle.mscp_heard.proofs.Claims.{claim_of, claims, claims_said, tally, tally_append}
use Rattle.mscp_heard.proofs.Hosts.{SameNumbers}
use Rattle.mscp_heard.proofs.Joined.{hears_said, none_told, numbered}
use Rattle.mscp_heard.proofs.Moments.{answered_last, asked_before, heard_last, reads_before, sent_last}
use Rattle.mscp_heard.proofs.Moving.{drop_at, drop_beside}
use Rattle.mscp_heard.proofs.Noting.{IsReady}
use Rattle.mscp_heard.proofs.Owing.{Inv, IsCoded, same_ok, since_alive}

-- ---- since a poll

module _ {K : Type 0} (picks : Picking K) (start p : Port K) (calls : List Call) where
  served_or : (call : Call) (a : Answered picks start (call ∷ calls) p) (n : ℕ) → call ≢ WriteIp
      → IsServedSince picks start p (call ∷ calls) a n
      → TellsStep call a.0 ⊎ ((TakesPoll n call a.0 → ⊥) × IsServedSince picks start a.0 calls a.1 n)
  served_or WriteIp a n never s = absurd (never refl)
  served_or call a n never s = s

no_step : {K : Type 0} (old : Port K) (call : Call) (t : List ℕ) (done : Unit) → call ≡ WasRead t (Ok done)
    → TellsStep call old → ⊥
no_step old call t done is s = subst (λ x. TellsStep x old) is s

takes_poll : {K : Type 0} (old : Port K) (call : Call) (t : List ℕ) (done : Unit) → call ≡ WasRead t (Ok done)
    → taken_by call old ≡ t ∷ [] → slice_index t 8 ≡ 2 → 16 ≤ length t → TakesPoll (num t 12 4) call old
takes_poll old call t done is took poll long = grind arith

-- ---- all deeds

abbrev IsOkay : PortMoment → Type 0
IsOkay (Hear v b (Err fault)) = ⊥
IsOkay m = Unit {0}

module _ {K : Type 0} (picks : Picking K) (c : Settings) (picker : K) (ends : PortsEndWhatTheyTook picks picker)
    (fit : PortsEndByOpcode picks picker) (sizes : All (λ unit. 0 < unit.size) c.units)
    (hear : PortsHearInOrder picks) (tell : PortsTellInOrder picks) (open_so : PortsOpenWhatTheyAccept picks)
    (answer_so : PortsAnswerAsTheyMay picks) (history : PortHostsKeepTheirHistory)
    (holds : PortsHoldWhatIsAwaited picks picker) (passes : PortsPassEndsOn picks picker)
    (lowers : PortsLowerFigures picks picker)
    (before : List Made) (controller : Holdings K) (hardware : Hardware) (credits : ℕ) (start : Port K)
    (valid : IsValid c) (was : AnsweredCalls (picks picker) (fresh c picker) before controller)
    (quiet : outstanding_of First controller ≡ []) (made : IsMadeOf hardware credits controller start) where
  abbrev Told : (p : Port K) (calls : List Call) (a : Answered picks start calls p) → PortAccount → ℕ → List (List ℕ)
      → Type 0
  Told p calls a host j ms = Knows (figure_on p) (IsServedSince picks start p calls a) host
      (drop j (all_said picks start p calls a))
      (flat_map pending_in (drop j (all_said picks start p calls a)) ++ pending_held p)
      (awaited picks start p calls a) (drop (length (accepted picks start p calls a)) ms)

  abbrev Owed : (p : Port K) (calls : List Call) → Answered picks start calls p → List Asked → PortHistory → Type 0
  Owed p calls a asked h = Inv asked (all_said picks start p calls a) (hearings h) (awaited picks start p calls a)
      (sent h) (length (accepted picks start p calls a))

  at_held : (p : Port K) (calls : List Call) (small : ReadsBytes calls) (a : Answered picks start calls p) (n : ℕ)
      → HoldsAwaited p (awaited picks start p calls a) n
  at_held p calls small a n = holds c before controller hardware credits start p calls valid was quiet made small a n

  -- by a call of the port
  call_told : (p : Port K) (calls : List Call) (call : Call) (a : Answered picks start (call ∷ calls) p)
      (h : PortHistory) (host : PortAccount) → AsksAlways (call ∷ calls) → ReadsBytes (call ∷ calls)
      → ReadsInOrder IsCopyOf call (talk_of picks start a.0 calls a.1) (sent h) → call ≢ WriteIp
      → is_dead p.stage ≡ false → Deals (awaited picks start a.0 calls a.1) call a.0 p
      → Owed a.0 calls a.1 host.asked h
      → ((number : ℕ) → TakesPoll number call a.0 → 1 ≤ figure_on a.0 number
      → IsServedSince picks start a.0 calls a.1 number)
      → Told a.0 calls a.1 host (hearings h) (sent h) → Told p (call ∷ calls) a host (hearings h) (sent h)
  call_told p calls call a h host asks small reads never lives d i serves k =
      let old_small = reads_before call calls small in
      let passing = passes c before controller hardware credits start p call calls valid sizes was quiet made asks
      small a never lives in
      let lower = λ (n : ℕ). lowers c before controller hardware credits start p call calls valid was made asks a n in
      let was_held = λ (n : ℕ). at_held a.0 calls old_small a.1 n in
      let is_held = λ (n : ℕ). at_held p (call ∷ calls) small a n in
      knows_still host (figure_on a.0) (figure_on p) (IsServedSince picks start a.0 calls a.1)
      (IsServedSince picks start p (call ∷ calls) a) (Taken call a.0) (accepted_by call a.0)
      (drop (hearings h) (all_said picks start a.0 calls a.1)) (map said_in (begins a.0.outgoing p.outgoing))
      (drop (hearings h) (all_said picks start p (call ∷ calls) a)) (awaited picks start a.0 calls a.1)
      (drop (length (accepted picks start a.0 calls a.1)) (sent h)) (awaited picks start p (call ∷ calls) a)
      (drop (length (accepted picks start p (call ∷ calls) a)) (sent h)) (pending_held a.0) (pending_held p)
      passing.more
      (by_call picks c picker ends fit sizes hear tell open_so answer_so history before controller hardware credits
      start valid was quiet made p calls call a h asks small reads never lives d i.heard)
      (ap (drop (hearings h)) (since_alive p.stage call (all_said picks start a.0 calls a.1)
      (map said_in (begins a.0.outgoing p.outgoing)) never lives)
      ∙ drop-append-le (hearings h) (all_said picks start a.0 calls a.1)
      (map said_in (begins a.0.outgoing p.outgoing)) i.heard)
      passing.behind passing.of_these
      (λ t took poll long.
      let takes = takes_poll a.0 call t took.0.0 took.0.1 took.1 poll long in (
        passing.poll t took.0.0 took.0.1 takes,
        serves (num t 12 4) takes,
        λ s.
            elim (served_or picks start p calls call a (num t 12 4) never s) [
              | inl step ↦ no_step a.0 call t took.0.0 took.0.1 step
              | inr x ↦ x.0 takes
            ],
      ))
      (λ n. (lower n).never_rises)
      (λ n s. elim (served_or picks start p calls call a n never s) [
        | inl step ↦ inl (λ low. (lower n).falls low step)
        | inr x ↦ inr x.1
      ])
      (λ n some. elim ((was_held n).there some) [
        | inl low ↦ inl low
        | inr there ↦ inr (in_of_holds n (of First a.0.controller.untaken) there)
      ])
      (λ n. (was_held n).waits) (λ n. (is_held n).waits)
      (λ n low is. (is_held n).one low (holds_of_in n (of First p.controller.untaken) is))
      i.owes.once k

  -- ---- the host did this

  module _ (p : Port K) (calls : List Call) (a : Answered picks start calls p) (asks : AsksAlways calls)
      (small_so : ReadsBytes calls) (h : PortHistory) (mid new : PortAccount) (sane : SameNumbers mid)
      (i : Owed p calls a mid.asked h) (ready : IsReady mid) (k : Told p calls a mid (hearings h) (sent h)) where
    abbrev us : List Said
    us = all_said picks start p calls a

    abbrev aw : List (List ℕ)
    aw = awaited picks start p calls a

    abbrev n : ℕ
    n = length (accepted picks start p calls a)

    abbrev F : ℕ → ℕ
    F = figure_on p

    abbrev Served : ℕ → Type 0
    Served = IsServedSince picks start p calls a

    as_last : (m : PortMoment)
        → Told p calls a new (cond (is_hearing m) (suc (hearings h)) (hearings h)) (sent h ++ sent_by m)
        → Told p calls a new (hearings (h ++ m ∷ [])) (sent (h ++ m ∷ []))
    as_last m x = grind (arith, heard_last, sent_last)

    still : new ≡ mid → Told p calls a new (hearings h) (sent h ++ [])
    still same = grind (arith, append-nil)

    is_claimed : (m g : ℕ) → first_of m (flat_map pending_in (drop (hearings h) us) ++ pending_held p) ≡ Some g
        → 1 ≤ tally m (claims (drop (hearings h) us) aw (drop n (sent h)))
    is_claimed m g e = subst (λ x. 1 ≤ x) (sym (tally_append m (claims_said (drop (hearings h) us))
        (map claim_of aw ++ map claim_of (drop n (sent h)))
        ∙ ap (λ x. tally m (claims_said (drop (hearings h) us)) + x)
        (tally_append m (map claim_of aw) (map claim_of (drop n (sent h))))))
        (elim (in_either m (flat_map pending_in (drop (hearings h) us)) (pending_held p)
        (first_in m (flat_map pending_in (drop (hearings h) us) ++ pending_held p) g e)) [
          | inl said ↦ front (tally m (claims_said (drop (hearings h) us))) (tally m (map claim_of aw))
              (tally m (map claim_of (drop n (sent h)))) (in_said m (drop (hearings h) us) said)
          | inr held ↦ middle (tally m (claims_said (drop (hearings h) us))) (tally m (map claim_of aw))
              (tally m (map claim_of (drop n (sent h))))
              (subst (λ x. 1 ≤ x) (sym (tally_texts m aw)) (some_has m aw
              ((at_held p calls small_so a m).ended (holds_of_in m (of First p.controller.untaken) held))))
        ])
      where
        front : (x y z : ℕ) → 1 ≤ x → 1 ≤ x + (y + z)
        front x y z e = omega (arith, e)

        middle : (x y z : ℕ) → 1 ≤ y → 1 ≤ x + (y + z)
        middle x y z e = omega (arith, e)

    sent_it : (m : List ℕ) → Notes mid new m → Told p calls a new (hearings h) (sent h ++ m ∷ [])
    sent_it m s = subst (λ ms. Knows F Served new (drop (hearings h) us)
        (flat_map pending_in (drop (hearings h) us) ++ pending_held p) aw ms)
        (sym (drop_beside n (sent h) m i.read))
        (knows_sent F Served mid new (drop (hearings h) us)
        (flat_map pending_in (drop (hearings h) us) ++ pending_held p) aw (drop n (sent h)) m s sane ready i.owes k
        is_claimed)

    -- it heard what was said next
    heard_it : (s : Said) (v : Envelope) (b : List ℕ) → slice_get us (hearings h) ≡ Some s → b ≡ s.text
        → v.connection ≡ connection_told s.kind → v.length ≡ length s.text % 0x1_0000 → v.kind ≡ 0 → (heard : Heard)
        → IsHeardSo mid new (message_in v b) heard
        → Told p calls a new (suc (hearings h)) (sent h) × ((heard ≢ heards.Reset) × (heard ≢ heards.Lost))
    heard_it s v b at text connection size plain heard done = by done
      where
        d : (drop (hearings h) us ≡ s ∷ drop (suc (hearings h)) us) × (suc (hearings h) ≤ length us)
        d = drop_at (hearings h) us s at

        next : Knows F Served mid (s ∷ drop (suc (hearings h)) us)
            (pending_in s ++ (flat_map pending_in (drop (suc (hearings h)) us) ++ pending_held p)) aw (drop n (sent h))
        next = grind (arith, append_assoc, d)

        read : IsRead s.kind s.text
        read = (subst (λ xs. AllByRecursion IsCoded xs) d.0 i.news).0

        message : IsMessage s.kind (message_in v b)
        message = grind (arith, message_read, read, small_size, read_short, read_disk)

        by : IsHeardSo mid new (message_in v b) heard
            → Told p calls a new (suc (hearings h)) (sent h) × ((heard ≢ heards.Reset) × (heard ≢ heards.Lost))
        by (inl q) = (
          knows_news F Served mid new s (drop (suc (hearings h)) us)
              (flat_map pending_in (drop (suc (hearings h)) us) ++ pending_held p) aw (drop n (sent h)) next
              (λ kind. let e = is_end s.kind (message_in v b) kind message in q.3 e.0 e.1) q.0 q.1,
          q.2,
        )
        by (inr q) =
            let kind = end_kind s v b q.0 read text connection q.1 in
            let named : q.0.reference ≡ num s.text 0 4 = (end_heard v b q.0 q.1).2 ∙ ap (λ x. num x 0 4) text in
            let is = end_read v b q.0 q.1 in
            let figured = λ (other figure : ℕ) (poll : q.0.code ≡ 0x82) (body : q.0.body ≡ bodies.Status other figure).
            (is.1 other figure body).1 ∙ ap (λ x. num x 16 4) text
            ∙ sym (ap (λ x. cond x (num s.text 16 4) 0) (eq-eqb (slice_index s.text 8) 0x82
            (sym (is.0 ∙ ap (λ x. slice_index x 8) text) ∙ poll))) in (
              knows_end F Served mid new s (drop (suc (hearings h)) us)
                  (flat_map pending_in (drop (suc (hearings h)) us) ++ pending_held p) aw (drop n (sent h)) next kind
                  q.0 named figured heard q.2,
              says_neither F Served mid new s (drop (suc (hearings h)) us)
                  (flat_map pending_in (drop (suc (hearings h)) us) ++ pending_held p) aw (drop n (sent h)) next kind
                  q.0 named figured heard q.2,
            )

    hears_it : (v : Envelope) (b : List ℕ) (heard : Heard)
        → HearsInOrder (Hear v b (Ok heard)) (talk_of picks start p calls a) (hearings h)
        → PortAnswers mid (Hear v b (Ok heard)) new
        → Told p calls a new (suc (hearings h)) (sent h) × ((heard ≢ heards.Reset) × (heard ≢ heards.Lost))
    hears_it v b heard joined r =
        let x = hears_said picks c picker ends hear tell open_so answer_so history before controller hardware credits
        start valid was quiet made p calls a (hearings h) v b joined.0 asks joined.1 joined.2 in
        heard_it x.said v b x.at x.text x.connection x.size x.kind heard (hear_done mid new v b heard r)

    moment_told : (m : PortMoment) → HasNumber m → HearsInOrder m (talk_of picks start p calls a) (hearings h)
        → PortAnswers mid m new → IsOkay m → Told p calls a new (hearings (h ++ m ∷ [])) (sent (h ++ m ∷ []))
    moment_told (Submit command (Ok message)) small joined r okay = as_last (Submit command (Ok message))
        (sent_it message.items (submit_notes mid new command message small sane r))
    moment_told (Submit command (Err fault)) small joined r okay = as_last (Submit command (Err fault))
        (still (submit_same mid new command fault r))
    moment_told (Ask j (Ok (polls.Ask message))) small joined r okay = as_last (Ask j (Ok (polls.Ask message)))
        (sent_it message.items (poll_notes mid new j small sane ready.small message r))
    moment_told (Ask j (Ok polls.Nothing)) small joined r okay = as_last (Ask j (Ok polls.Nothing))
        (still (poll_same mid new j (Ok polls.Nothing) refl r))
    moment_told (Ask j (Ok polls.Busy)) small joined r okay = as_last (Ask j (Ok polls.Busy))
        (still (poll_same mid new j (Ok polls.Busy) refl r))
    moment_told (Ask j (Err fault)) small joined r okay = as_last (Ask j (Err fault))
        (still (poll_same mid new j (Err fault) refl r))
    moment_told (Hear v b (Ok heard)) small joined r okay = as_last (Hear v b (Ok heard))
        (subst (λ ms. Told p calls a new (suc (hearings h)) ms) (sym (append-nil (sent h)))
        (hears_it v b heard joined r).0)
    moment_told (Hear v b (Err fault)) small joined r okay = absurd okay
    moment_told (Resume b) small joined r okay = as_last (Resume b) (still (same_ok new mid (sym r.1 ∙ r.0.back)))
    moment_told Other small joined r okay = as_last Other (still r)

  -- ---- all of it

  okay_so : (p : Port K) (deeds : List Deed) (m : PortMoment) (old new : PortAccount) → AsksAlways (calls_in deeds)
      → ReadsBytes (calls_in deeds) → HaveNumbers deeds → (a : Answered picks start (calls_in deeds) p)
      → AreJoined IsCopyOf picks start p (Did m ∷ deeds) a
      → PortAnswered fresh_of_port (did deeds) old → PortAnswers old m new → IsOkay m
  okay_so p deeds (Hear v b (Err fault)) old new asks small numbers a joined answered r =
      refuses_nothing picks c picker ends fit sizes hear tell open_so answer_so history before controller hardware
      credits start valid was quiet made p deeds old new v b (Err fault) fault asks small numbers a joined answered r
      refl
  okay_so p deeds m old new asks small numbers a joined answered r = tt

  nothing_told : (host : PortAccount) (F : ℕ → ℕ) (Served : ℕ → Type 0) (us : List Said) (P : List Pending)
      (ts ms : List (List ℕ)) → host ≡ fresh_of_port → Knows F Served host us P ts ms
  nothing_told host F Served us P ts ms is = grind (arith, none-some)

  told_so : (p : Port K) (deeds : List Deed) → AsksAlways (calls_in deeds) → ReadsBytes (calls_in deeds)
      → HaveNumbers deeds → (a : Answered picks start (calls_in deeds) p) → AreJoined IsCopyOf picks start p deeds a
      → ServesBetweenPolls picks start p (calls_in deeds) a
      → is_dead p.stage ≡ false → (host : PortAccount) → PortAnswered fresh_of_port (did deeds) host
      → Told p (calls_in deeds) a host (hearings (did deeds)) (sent (did deeds))
  told_so p [] asks small numbers a joined serves lives host r = grind (arith, nothing_told)
  told_so p (Called WriteIp ∷ deeds) asks small numbers a joined serves lives host r = grind (arith, nothing_told)
  told_so p (Called call ∷ deeds) asks small numbers a joined serves lives host r =
      let never : call ≢ WriteIp = λ e. search (arith, e) in
      let d = ends c before controller hardware credits start p call (calls_in deeds) valid was quiet made small a never
      lives in
      let before_asks = asked_before call (calls_in deeds) asks in
      let before_reads = reads_before call (calls_in deeds) small in
      let i = owed_so picks c picker ends fit sizes hear tell open_so answer_so history before controller hardware
      credits start valid was quiet made a.0 deeds before_asks before_reads numbers a.1 joined.1 d.0 host r in
      let x = told_so a.0 deeds before_asks before_reads numbers a.1 joined.1 serves.1 d.0 host r in
      call_told p (calls_in deeds) call a (did deeds) host asks small joined.0 never lives d.1 i serves.0 x
  told_so p (Did m ∷ deeds) asks small numbers a joined serves lives host r =
      let x = answered_last fresh_of_port host (did deeds) m r in
      let sane = numbered picks c picker ends hear tell open_so answer_so history before controller hardware credits
      start valid was quiet made (did deeds) x.0 x.1 in
      let i = owed_so picks c picker ends fit sizes hear tell open_so answer_so history before controller hardware
      credits start valid was quiet made p deeds asks small numbers.1 a joined.1 lives x.0 x.1 in
      let ready = (noted picks c picker ends fit sizes hear tell open_so answer_so history before controller hardware
      credits start valid was quiet made p deeds asks small numbers.1 a joined.1 lives x.0 x.1).1 in
      let y = told_so p deeds asks small numbers.1 a joined.1 serves lives x.0 x.1 in
      moment_told p (calls_in deeds) a asks small (did deeds) x.0 host sane i ready y m numbers.0 joined.0 x.2
      (okay_so p deeds m x.0 host asks small numbers.1 a joined x.1 x.2)

  pub hears_neither : (p : Port K) (deeds : List Deed) (old new : PortAccount) (v : Envelope) (b : List ℕ)
      (answer : Result Heard HearFault) → AsksAlways (calls_in deeds)
      → ReadsBytes (calls_in deeds) → HaveNumbers deeds → (a : Answered picks start (calls_in deeds) p)
      → AreJoined IsCopyOf picks start p (Did (Hear v b answer) ∷ deeds) a
      → ServesBetweenPolls picks start p (calls_in deeds) a
      → PortAnswered fresh_of_port (did deeds) old → PortAnswers old (Hear v b answer) new
      → (answer ≢ Ok heards.Reset) × (answer ≢ Ok heards.Lost)
  hears_neither p deeds old new v b (Err fault) asks small numbers a joined serves answered r = grind arith
  hears_neither p deeds old new v b (Ok heard) asks small numbers a joined serves answered r =
      let calls = calls_in deeds in
      let lives = none_told picks c picker ends hear tell open_so answer_so history before controller hardware credits
      start valid was quiet made p calls a (hearings (did deeds)) joined.0.0 joined.0.1 in
      let sane = numbered picks c picker ends hear tell open_so answer_so history before controller hardware credits
      start valid was quiet made (did deeds) old answered in
      let i = owed_so picks c picker ends fit sizes hear tell open_so answer_so history before controller hardware
      credits start valid was quiet made p deeds asks small numbers a joined.1 lives old answered in
      let ready = (noted picks c picker ends fit sizes hear tell open_so answer_so history before controller hardware
      credits start valid was quiet made p deeds asks small numbers a joined.1 lives old answered).1 in
      let y = told_so p deeds asks small numbers a joined.1 serves lives old answered in
      let x = (hears_it p calls a asks small (did deeds) old new sane i ready y v b heard joined.0 r).1 in
      ((λ e. x.0 (same_heard heard heards.Reset e)), (λ e. x.1 (same_heard heard heards.Lost e)))
    where
      same_heard : (x y : Heard) → ◌≡◌ {A = Result Heard HearFault} (Ok x) (Ok y) → x ≡ y
      same_heard x y e = grind arith
