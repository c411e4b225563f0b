-- What a call of a port makes of what its host may be told.
use Rattle.mscp_port.specs.declared.port.OutgoingKind.TheVariants as kinds
use Rattle.mscp_heard.proofs.Common.{All, Answered, AnsweredCalls, AreJoined, AsksAlways, Call, Called, Deals, Deed, Did, First, Fits, Hardware, Holdings, IsAnswering, IsCopyOf, IsMadeOf, IsTaking, IsTextOf, IsValid, List, Made, None, Ok, Opened, Outgoing, Picking, Port, PortAccount, PortHostsKeepTheirHistory, PortsAnswerAsTheyMay, PortsEndByOpcode, PortsEndWhatTheyTook, PortsHearInOrder, PortsOpenWhatTheyAccept, PortsTellInOrder, ReadsBytes, ReadsInOrder, Said, Settings, Slot, Some, Talk, WasRead, [], accepted, accepted_by, ap, append-nil, arith, awaited, begins, bytes_small, calls_in, drop, ends_said_by, filter, fresh, has_number, inl, inr, kind_answered, length, map, not, num, outstanding_of, own_answer, own_coded, refl, said, said_in, slice_get, slice_index, sym, taken_by, talk_of, volume_named, without_ends, ℕ, ◌++◌, ◌+◌, ◌<◌, ◌∙◌, ◌∷◌, ◌≡◌, ◌≢◌, ◌≤◌, ◌⊎◌}
use Rattle.mscp_heard.proofs.Joined.{IsNext, next_of}
use Rattle.mscp_heard.proofs.Moving.{drop_at, drop_beside}
use Rattle.mscp_heard.proofs.Notes.{Noted, copy_answered, copy_taken, noted_end, noted_news}
use Rattle.mscp_heard.proofs.Owing.{begun_one, one_more, own_number}

-- what was said and not heard, what is awaited, and what was sent and not read, before a call and behind it: nothing
-- changes, or news are said, or a message's end, or the next message is taken, or answered
abbrev pub Dealt : (Took : List ℕ → Type 0) (texts : List (List ℕ)) (us : List Said) (ts ms : List (List ℕ))
    (us' : List Said) (ts' ms' : List (List ℕ)) → Type 0
Dealt Took texts us ts ms us' ts' ms' =
    ((us' ≡ us) × (ts' ≡ ts) × (ms' ≡ ms) × (texts ≡ []))
    ⊎ ((s : Said) × (s.kind ≡ kinds.Attention) × (us' ≡ us ++ s ∷ []) × (ts' ≡ ts) × (ms' ≡ ms) × (texts ≡ []))
    ⊎ ((s : Said) × (t : List ℕ) × (filter (has_number (num s.text 0 4)) ts ≡ t ∷ []) × Fits s.text t
    × (us' ≡ us ++ s ∷ []) × (ts' ≡ filter (λ x. not (has_number (num s.text 0 4) x)) ts) × (ms' ≡ ms)
    × (texts ≡ []) × (s.kind ≡ kinds.End))
    ⊎ ((t : List ℕ) × (m : List ℕ) × IsCopyOf t m × (us' ≡ us) × (ts' ≡ ts ++ t ∷ []) × (ms ≡ m ∷ ms')
    × (texts ≡ t ∷ []) × Took t)
    ⊎ ((s : Said) × (t : List ℕ) × (m : List ℕ) × IsCopyOf t m × (num s.text 0 4 ≡ num t 0 4)
    × (slice_index s.text 8 ≡ slice_index t 8 + 0x80) × (slice_index s.text 8 ≢ 0x82) × (us' ≡ us ++ s ∷ [])
    × (ts' ≡ ts) × (ms ≡ m ∷ ms') × (texts ≡ t ∷ []) × (s.kind ≡ kinds.End))

-- the text was read by the call, and the controller took it
abbrev pub Taken : {K : Type 0} → Call → Port K → List ℕ → Type 0
Taken call old t = ((done : Unit) × (call ≡ WasRead t (Ok done))) × (taken_by call old ≡ t ∷ [])

noted_as : (host : PortAccount) (us us' : List Said) (ts ts' ms ms' : List (List ℕ)) → us' ≡ us → ts' ≡ ts → ms' ≡ ms
    → Noted host us ts ms → Noted host us' ts' ms'
noted_as host us us' ts ts' ms ms' e f g n = grind arith

pub noted_dealt : (Took : List ℕ → Type 0) (texts : List (List ℕ)) (host : PortAccount) (us us' : List Said)
    (ts ts' ms ms' : List (List ℕ))
    → Dealt Took texts us ts ms us' ts' ms' → Noted host us ts ms → Noted host us' ts' ms'
noted_dealt Took texts host us us' ts ts' ms ms' h n =
    grind (arith, noted_as, noted_news, noted_end, copy_taken, copy_answered)

copy_text : (text message : List ℕ) → IsCopyOf text message → IsTextOf text message
copy_text text message is = grind arith

copied_read : (call : Call) (t : Talk) (ms : List (List ℕ)) → ReadsInOrder IsCopyOf call t ms
    → ReadsInOrder IsTextOf call t ms
copied_read call t ms h = grind (arith, copy_text)

pub copied : {K : Type 0} (picks : Picking K) (start p : Port K) (deeds : List Deed)
    (a : Answered picks start (calls_in deeds) p) → AreJoined IsCopyOf picks start p deeds a
    → AreJoined IsTextOf picks start p deeds a
copied picks start p [] a j = tt
copied picks start p (Called call ∷ deeds) a j = grind (arith, copied picks start a.0 deeds a.1 j.1, copied_read)
copied picks start p (Did m ∷ deeds) a j = (j.0, copied picks start p deeds a j.1)

module _ {K : Type 0} (picks : Picking K) (c : Settings) (picker : K) (ends : PortsEndWhatTheyTook picks picker)
    (fit : PortsEndByOpcode picks picker) (sizes : All (λ unit. 0 < unit.size) c.units)
    (hear : PortsHearInOrder picks) (tell : PortsTellInOrder picks) (open_so : PortsOpenWhatTheyAccept picks)
    (answer_so : PortsAnswerAsTheyMay picks) (history : PortHostsKeepTheirHistory)
    (before : List Made) (controller : Holdings K) (hardware : Hardware) (credits : ℕ) (start : Port K)
    (valid : IsValid c) (was : AnsweredCalls (picks picker) (fresh c picker) before controller)
    (quiet : outstanding_of First controller ≡ []) (made : IsMadeOf hardware credits controller start)
    (p : Port K) (calls : List Call) (sent_so : List (List ℕ)) (k : ℕ) where
  next : (bytes : List ℕ) (done : Unit) (slot : Slot) (header : ℕ)
      → AsksAlways (WasRead bytes (Ok done) ∷ calls) → (a : Answered picks start (WasRead bytes (Ok done) ∷ calls) p)
      → (talk_of picks start a.0 calls a.1).turn ≡ Opened slot header
      → ReadsInOrder IsCopyOf (WasRead bytes (Ok done)) (talk_of picks start a.0 calls a.1) sent_so
      → IsNext picks c picker ends hear tell open_so answer_so history before controller hardware credits start valid
      was quiet made IsCopyOf bytes header sent_so (length (accepted picks start a.0 calls a.1))
  next bytes done slot header asks a opened reads =
      next_of picks c picker ends hear tell open_so answer_so history before controller hardware credits start valid
      was quiet made IsCopyOf p calls bytes done sent_so slot header asks a opened reads

  abbrev Behind : (call : Call) → Answered picks start (call ∷ calls) p → Type 0
  Behind call a = Dealt (Taken call a.0) (accepted_by call a.0) (drop k (said picks start a.0 calls a.1))
      (awaited picks start a.0 calls a.1)
      (drop (length (accepted picks start a.0 calls a.1)) sent_so)
      (drop k (said picks start a.0 calls a.1 ++ map said_in (begins a.0.outgoing p.outgoing)))
      (without_ends (ends_said_by call a.0 p) (awaited picks start a.0 calls a.1) ++ taken_by call a.0)
      (drop (length (accepted picks start a.0 calls a.1 ++ accepted_by call a.0)) sent_so)

  module _ (call : Call) (a : Answered picks start (call ∷ calls) p)
      (heard : k ≤ length (said picks start a.0 calls a.1)) where
    said_more : (out : Outgoing) → a.0.outgoing ≡ None
        → p.outgoing ≡ Some out
        → drop k (said picks start a.0 calls a.1 ++ map said_in (begins a.0.outgoing p.outgoing))
        ≡ drop k (said picks start a.0 calls a.1) ++ said_in out ∷ []
    said_more out nothing some = grind (arith, begun_one, drop_beside)

    said_same : begins a.0.outgoing p.outgoing ≡ []
        → drop k (said picks start a.0 calls a.1 ++ map said_in (begins a.0.outgoing p.outgoing))
        ≡ drop k (said picks start a.0 calls a.1)
    said_same none = grind (arith, append-nil)

    awaited_same : ends_said_by call a.0 p ≡ []
        → taken_by call a.0 ≡ []
        → without_ends (ends_said_by call a.0 p) (awaited picks start a.0 calls a.1) ++ taken_by call a.0
        ≡ awaited picks start a.0 calls a.1
    awaited_same ended taken = grind (arith, append-nil)

    unread_same : accepted_by call a.0 ≡ []
        → drop (length (accepted picks start a.0 calls a.1 ++ accepted_by call a.0)) sent_so
        ≡ drop (length (accepted picks start a.0 calls a.1)) sent_so
    unread_same none = grind (arith, append-nil)

    unread_less : (text message : List ℕ)
        → accepted_by call a.0 ≡ text ∷ []
        → slice_get sent_so (length (accepted picks start a.0 calls a.1)) ≡ Some message
        → drop (length (accepted picks start a.0 calls a.1)) sent_so
        ≡ message ∷ drop (length (accepted picks start a.0 calls a.1 ++ accepted_by call a.0)) sent_so
    unread_less text message one at =
        (drop_at (length (accepted picks start a.0 calls a.1)) sent_so message at).0
        ∙ ap (λ n. message ∷ drop n sent_so) (sym (one_more (accepted picks start a.0 calls a.1)
        (accepted picks start a.0 calls a.1 ++ accepted_by call a.0) text
        (ap (λ xs. accepted picks start a.0 calls a.1 ++ xs) one)))

  takes_it : (call : Call) (a : Answered picks start (call ∷ calls) p)
      → k ≤ length (said picks start a.0 calls a.1) → AsksAlways (call ∷ calls)
      → ReadsInOrder IsCopyOf call (talk_of picks start a.0 calls a.1) sent_so → IsTaking call a.0 p
      → Behind call a
  takes_it (WasRead bytes (Ok done)) a heard asks reads d =
      let o = open_so hardware credits controller start p calls bytes done d.message [] made asks a d.accepted in
      let x = next bytes done o.0 o.1 asks a o.2 reads in
      inr (inr (inr (inl (
        bytes,
        x.message,
        x.is,
        said_same (WasRead bytes (Ok done)) a heard d.begun,
        ap (λ xs. awaited picks start a.0 calls a.1 ++ xs)
            (d.taken ∙ ap (λ y. y ∷ []) (sym (ap bytes_read d.read.1))),
        unread_less (WasRead bytes (Ok done)) a heard d.message x.message d.accepted x.at,
        d.accepted ∙ ap (λ y. y ∷ []) (sym (ap bytes_read d.read.1)),
        ((done, refl), d.taken ∙ ap (λ y. y ∷ []) (sym (ap bytes_read d.read.1))),
      ))))
    where
      bytes_read : Call → List ℕ
      bytes_read (WasRead b r) = b
      bytes_read call = bytes
  takes_it call a heard asks reads d = absurd (search (arith, d.read.1))

  answers_it : (call : Call) (a : Answered picks start (call ∷ calls) p)
      → k ≤ length (said picks start a.0 calls a.1) → AsksAlways (call ∷ calls)
      → ReadsBytes (call ∷ calls) → ReadsInOrder IsCopyOf call (talk_of picks start a.0 calls a.1) sent_so
      → IsAnswering call a.0 p → Behind call a
  answers_it (WasRead bytes (Ok done)) a heard asks small reads d =
      let r = answer_so hardware credits controller start p calls bytes done d.out made asks a d.nothing d.begun in
      let x = next bytes done r.0 r.1 asks a r.2 reads in
      let own = r.3.own in
      let coded = own_coded (volume_named a.0 bytes) bytes own.0
      (ap (λ f. own_answer f (volume_named a.0 bytes) bytes) (sym x.disks) ∙ own.1) in
      let code : slice_index d.out.bytes.items 8 ≡ own.0.code = ap (λ b. slice_index b 8) own.2 in
      inr (inr (inr (inr (
        said_in d.out,
        bytes,
        x.message,
        x.is,
        ap (λ b. num b 0 4) own.2 ∙ own_number bytes own.0 (bytes_small bytes small.0),
        code ∙ coded.0,
        (λ e. coded.1 (sym code ∙ e)),
        said_more (WasRead bytes (Ok done)) a heard d.out d.nothing d.begun,
        awaited_same (WasRead bytes (Ok done)) a heard d.ended d.taken,
        unread_less (WasRead bytes (Ok done)) a heard d.message x.message d.accepted x.at,
        d.accepted ∙ ap (λ y. y ∷ []) (sym (ap bytes_read d.read.1)),
        r.3.kind ∙ ap kind_answered x.disks,
      ))))
    where
      bytes_read : Call → List ℕ
      bytes_read (WasRead b r) = b
      bytes_read call = bytes
  answers_it call a heard asks small reads d = absurd (search (arith, d.read.1))

  pub deals_so : (call : Call) (a : Answered picks start (call ∷ calls) p)
      → k ≤ length (said picks start a.0 calls a.1) → AsksAlways (call ∷ calls)
      → ReadsBytes (call ∷ calls) → ReadsInOrder IsCopyOf call (talk_of picks start a.0 calls a.1) sent_so
      → Deals (awaited picks start a.0 calls a.1) call a.0 p → Behind call a
  deals_so call a heard asks small reads (inl q) =
      inl (
        said_same call a heard q.begun,
        awaited_same call a heard q.ended q.taken,
        unread_same call a heard q.accepted,
        q.accepted,
      )
  deals_so call a heard asks small reads (inr (inl q)) = inr (inl (
    said_in q.out,
    q.kind,
    said_more call a heard q.out q.nothing q.begun,
    awaited_same call a heard q.ended q.taken,
    unread_same call a heard q.accepted,
    q.accepted,
  ))
  deals_so call a heard asks small reads (inr (inr (inl q))) = inr (inr (inl (
    said_in q.out,
    q.message,
    q.only,
    fit c before controller hardware credits start p call calls q.out.bytes.items q.message valid sizes was quiet
        made small a q.ended q.only,
    said_more call a heard q.out q.nothing q.begun,
    ap (λ xs. without_ends xs (awaited picks start a.0 calls a.1) ++ taken_by call a.0) q.ended
        ∙ ap (λ xs. filter (λ x. not (has_number (num q.out.bytes.items 0 4) x)) (awaited picks start a.0 calls a.1)
        ++ xs) q.taken
        ∙ append-nil (filter (λ x. not (has_number (num q.out.bytes.items 0 4) x))
        (awaited picks start a.0 calls a.1)),
    unread_same call a heard q.accepted,
    q.accepted,
    q.kind,
  )))
  deals_so call a heard asks small reads (inr (inr (inr (inl q)))) = takes_it call a heard asks reads q
  deals_so call a heard asks small reads (inr (inr (inr (inr q)))) = answers_it call a heard asks small reads q
