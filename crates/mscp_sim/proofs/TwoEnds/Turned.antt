-- What is said in a turn keeps the match, for the hosts of both connections.
use Rattle.mscp_sim.proofs.Common.{◌^◌, ◌≡◌, ℕ, ◌<◌, Bool, true, false, List, ◌∷◌, refl, ap, sym, ◌∙◌, subst, arith, slice_get, Option, Some, None, is_some, Result, Ok, Err, and_parts, false≢true, true≢false, ArrayVec, Command, End, command_of, IsEnd, Connection, Both, of, put, Choice, same_connection, one_side, own_side, Sent, sent_command, Moment, Holdings, after_message, after_take, end_taken, queues_by, HostFault, Poll, Submission, Account, oldest, polls_oldest, submits, end_heard, is_poll, is_sent, reference_in, Heard, Turn, Flight, Match, MatchOn, Matches, Said, heard_by, receives_in, AnswersTurn, IsSound, Says, IsHanded, IsHeard, IsPolled, IsSubmitted}
use Rattle.mscp_drive.specs.declared.event.Event.TheVariants as events
use Rattle.mscp_controller.specs.declared.entry.Entry.TheVariants as entries
use Rattle.mscp_host.specs.declared.news.Poll.TheVariants as polls
use Rattle.mscp_host.specs.Histories as host
use Rattle.mscp_sim.specs.declared.conversing.Heard.TheVariants as hears
use Rattle.mscp_sim.specs.declared.conversing.Turn.TheVariants as turns
use Rattle.mscp_sim.proofs.TwoEnds.Foreign.{foreign_message, foreign_take}
use Rattle.mscp_sim.proofs.TwoEnds.Handing.{read_end}
use Rattle.mscp_sim.proofs.TwoEnds.Sending.{told_now}
use Rattle.mscp_sim.proofs.TwoEnds.Serving.{steps_match}
use Rattle.mscp_sim.proofs.TwoEnds.Sides.{each_side, of_other, of_put, put_own}
use Rattle.mscp_sim.proofs.TwoEnds.Submitting.{asks_match, submits_kept, submits_match}
use Rattle.mscp_sim.proofs.TwoEnds.Taking.{taken_some}

-- what the poll in flight is told after a turn: where its host asks, what the controller tells now of the oldest
abbrev pub told_then : {K : Type 0} → Bool → Option Submission → Connection → Holdings K → Flight → Flight
told_then true (Some s) via h told = told_now via h s
told_then b o via h told = told

abbrev pub told_after : {K : Type 0} → Both Account → Holdings K → Said → Turn → Connection → Flight → Flight
told_after a h s t via told = told_then (is_poll (heard_by via t s.heard s.moment)) (oldest (of via a)) via h told

abbrev is_asked : Heard → Bool
is_asked hears.Asked = true
is_asked heard = false

no_poll : (via : Connection) (t : Turn) (heard : Heard) (m : Option Moment) → is_asked heard ≡ false
    → is_poll (heard_by via t heard m) ≡ false
no_poll via t heard m e = grind (arith, true≢false)

no_take : (via other : Connection) (heard : Heard) (m : Option Moment)
    → is_poll (heard_by other (turns.Take via) heard m) ≡ false
no_take via other heard m = grind arith

-- an end is handed over to a connection, or none
take_own : {K : Type 0} (via : Connection) (a k : Account) (h : Holdings K) (heard : Heard) (end : Option (ArrayVec ℕ))
    (told : Flight) → IsHanded a end heard k → end ≡ end_taken via h
    → ((b : ArrayVec ℕ) (e : End) → end ≡ Some b → slice_get (of via h.untaken) 0 ≡ Some e → IsEnd b.items e)
    → Matches via a h told → Matches via k (after_take via h) told
take_own {K} via a k h heard None told x e sound m = grind (arith, put_own, true≢false)
take_own {K} via a k h heard (Some b) told x e sound m =
    let out = taken_some via a h told b (sym e) (λ end f. sound b end refl f) m in
    subst (λ y. Matches via y (after_take via h) told) (ap (λ q. q.1) (sym out.heard ∙ x.2)) out.match

module _ {K : Type 0} (picks : List Choice → ℕ → Type 0) (a a' : Both Account) (h h' : Holdings K) (s : Said) where
  -- the match of a connection is kept in a turn
  abbrev Keeps : Turn → Connection → Type 0
  Keeps t via = (told : Flight) → Matches via (of via a) h told
      → Matches via (of via a') h' (told_after a h s t via told)

  -- its host sends no poll, and keeps this account
  unasked : (t : Turn) (via : Connection) (k : Account) → is_poll (heard_by via t s.heard s.moment) ≡ false
      → of via a' ≡ k → ((told : Flight) → Matches via (of via a) h told → Matches via k h' told) → Keeps t via
  unasked t via k n e f told m = rw n (subst (λ y. Matches via y h' told) (sym e) (f told m))

  -- nothing comes to the controller
  kept_back : (t : Turn) (other : Connection) (k : Account) → s.moment ≡ None → is_asked s.heard ≡ false
      → a' ≡ put other k a → k ≡ of other a → AnswersTurn picks h s.moment h' → (via : Connection) → Keeps t via
  kept_back t other k none n p e answers via = search (arith, put_own, unasked, no_poll)

  -- the other connection is left as it was
  other_kept : (t : Turn) (via other : Connection) (k : Account) (after : Holdings K)
      → same_connection via other ≡ false
      → is_poll (heard_by other t s.heard s.moment) ≡ false → a' ≡ put via k a → h' ≡ after
      → ((told : Flight) → Matches other (of other a) h told → Matches other (of other a) after told) → Keeps t other
  other_kept t via other k after d n p e f = search (arith, unasked, of_other)

  -- a message comes
  message_keeps : (t : Turn) (via : Connection) (b : List ℕ) (k : Account)
      → ((other : Connection) → same_connection via other ≡ false → heard_by other t s.heard s.moment ≡ host.Other)
      → a' ≡ put via k a → h' ≡ after_message via h b
      → ((told : Flight) → Matches via (of via a) h told → Matches via k (after_message via h b)
      (told_after a h s t via told)) → (other : Connection) → Keeps t other
  message_keeps t via b k part p after own =
      each_side (Keeps t) via
      (λ told m. subst (λ y. Matches via y h' (told_after a h s t via told)) (sym (ap (of via) p ∙ of_put via k a))
      (subst (λ (y : Holdings K). Matches via k y (told_after a h s t via told)) (sym after) (own told m)))
      (λ other d. other_kept t via other k (after_message via h b) d (ap is_poll (part other d)) p after
      (λ told. foreign_message via other (of other a) h told b d))

  submit_keeps : (via : Connection) (command : Command) (o : Result (ArrayVec ℕ) HostFault) (k : Account)
      → (command.reference < 2 ^ 32) × (command.unit < 2 ^ 16) → submits (of via a) command ≡ (o, k) → a' ≡ put via k a
      → IsSubmitted via s o → AnswersTurn picks h s.moment h' → (other : Connection)
      → Keeps (turns.Submit via command) other
  submit_keeps via command (Err fault) k small e p x answers =
      kept_back (turns.Submit via command) via k x.1 (ap is_asked x.0) p (submits_kept (of via a) command fault k e)
      answers
  submit_keeps via command (Ok b) k small e p x answers =
      let t = turns.Submit via command in
      message_keeps t via b.items k (λ other d. rw d refl) p (subst (λ o. AnswersTurn picks h o h') x.2 answers).2
      (λ told m. rw (no_poll via t s.heard s.moment (ap is_asked x.1))
      (submits_match via (of via a) h told command b k small.0 small.1 m e).match)

  poll_keeps : (via : Connection) (r : ℕ) (o : Result Poll HostFault) (k : Account) → r < 2 ^ 32
      → polls_oldest (of via a) r ≡ (o, k) → a' ≡ put via k a → IsPolled via s o → AnswersTurn picks h s.moment h'
      → (other : Connection) → Keeps (turns.Poll via r) other
  poll_keeps via r (Ok (polls.Ask b)) k small e p x answers =
      message_keeps (turns.Poll via r) via b.items k (λ other d. rw d refl) p
      (subst (λ o. AnswersTurn picks h o h') x.2 answers).2 (λ told m.
      let y = asks_match via (of via a) h r b k small (told, m) e in
      rw (x.1, x.2, own_side via, y.oldest) y.match)
  poll_keeps via r o k small e p x answers = grind (arith, kept_back, true≢false)

  take_keeps : (via : Connection) → IsHeard a (turns.Take via) s a' → AnswersTurn picks h s.moment h'
      → IsSound h (turns.Take via) s.moment → (other : Connection) → Keeps (turns.Take via) other
  take_keeps via x answers sound =
      let answer = subst (λ o. AnswersTurn picks h o h') x.2 answers in
      each_side (Keeps (turns.Take via)) via
      (unasked (turns.Take via) via x.1 (no_take via via s.heard s.moment) (ap (of via) x.4 ∙ of_put via x.1 a)
      (λ told m. subst (λ (y : Holdings K). Matches via x.1 y told) (sym answer.2)
      (take_own via (of via a) x.1 h s.heard x.0 told x.3 answer.1
      (λ b e q. sound b e (x.2 ∙ ap (λ end. Some (events.Take via, entries.Taken via end)) q)) m)))
      (λ other d. other_kept (turns.Take via) via other x.1 (after_take via h) d
      (no_take via other s.heard s.moment) x.4
      answer.2 (λ told. foreign_take via other (of other a) h told d))

  keeps : (t : Turn) → IsHeard a t s a' → AnswersTurn picks h s.moment h' → IsSound h t s.moment → (via : Connection)
      → Keeps t via
  keeps (turns.Submit via command) x answers sound = submit_keeps via command _ _ sound refl x.1 x.0 answers
  keeps (turns.Poll via r) x answers sound = poll_keeps via r _ _ sound refl x.1 x.0 answers
  keeps (turns.Step k) x answers sound = λ via.
      unasked (turns.Step k) via (of via a) refl (ap (of via) x.3)
      (λ told m. steps_match via picks (of via a) h h' told k x.0 (subst (λ o. AnswersTurn picks h o h') x.2 answers) m)
  keeps (turns.Take via) x answers sound = take_keeps via x answers sound

  pub says_keeps : Says picks a h s a' h' → (via : Connection) (told : Flight) → Matches via (of via a) h told
      → Matches via (of via a') h' (told_after a h s s.turn via told)
  says_keeps x = keeps s.turn x.0 x.1 x.2

  -- so the match is kept after what is said
  pub with_match : Says picks a h s a' h' → Match a h → Says picks a h s a' h' × Match a' h'
  with_match x m = (x, λ via. (_, says_keeps x via (m via).0 (m via).1))

-- ---- what is queued, and what is heard

-- what is queued is what a host sends
abbrev pub IsSentBy : Connection → Said → Turn → Moment → Type 0
IsSentBy via s t m = (is_sent (heard_by via t s.heard s.moment) ≡ true)
    × ((sent_command m).reference ≡ reference_in (heard_by via t s.heard s.moment))

message_sent : (via other : Connection) (s : Said) (t : Turn) (b : ArrayVec ℕ) (sent : Sent) (part : host.Moment)
    → s.moment ≡ Some (events.Send other b, entries.Sent other (Ok sent)) → heard_by other t s.heard s.moment ≡ part
    → is_sent part ≡ true → (command_of b.items).reference ≡ reference_in part → (m : Moment) → s.moment ≡ Some m
    → queues_by via m ≡ true → IsSentBy via s t m
message_sent via other s t b sent part e p is n m f q = search (arith, and_parts, queues_by, one_side)

submit_sent : {K : Type 0} (a : Both Account) (h : Holdings K) (s : Said) (other : Connection) (command : Command)
    (o : Result (ArrayVec ℕ) HostFault) (k : Account) → (command.reference < 2 ^ 32) × (command.unit < 2 ^ 16)
    → submits (of other a) command ≡ (o, k) → IsSubmitted other s o → MatchOn other (of other a) h → (via : Connection)
    (m : Moment) → s.moment ≡ Some m → queues_by via m ≡ true → IsSentBy via s (turns.Submit other command) m
submit_sent a h s other command (Err fault) k small e x match via m f q = absurd (false≢true (ap is_some (sym x.1 ∙ f)))
submit_sent a h s other command (Ok b) k small e x match via m f q =
    message_sent via other s (turns.Submit other command) b x.0 (host.Submit command (Ok b)) x.2
    (rw (x.1, x.2, own_side other) refl) refl
    (submits_match other (of other a) h match.0 command b k small.0 small.1 match.1 e).named m f q

poll_sent : {K : Type 0} (a : Both Account) (h : Holdings K) (s : Said) (other : Connection) (r : ℕ)
    (o : Result Poll HostFault) (k : Account) → r < 2 ^ 32
    → polls_oldest (of other a) r ≡ (o, k) → IsPolled other s o → MatchOn other (of other a) h → (via : Connection)
    (m : Moment) → s.moment ≡ Some m → queues_by via m ≡ true → IsSentBy via s (turns.Poll other r) m
poll_sent a h s other r (Ok (polls.Ask b)) k small e x match via m f q =
    message_sent via other s (turns.Poll other r) b x.0 (host.Ask r (Ok (polls.Ask b))) x.2
    (rw (x.1, x.2, own_side other) refl) refl (asks_match other (of other a) h r b k small match e).named m f q
poll_sent a h s other r o k small e x match via m f q = absurd (false≢true (ap is_some (sym x.1 ∙ f)))

pub sent_of : {K : Type 0} (a a' : Both Account) (h : Holdings K) (s : Said) (t : Turn) → IsHeard a t s a'
    → IsSound h t s.moment → Match a h → (via : Connection) (m : Moment) → s.moment ≡ Some m → queues_by via m ≡ true
    → IsSentBy via s t m
sent_of a a' h s (turns.Submit other command) x sound match via m f q =
    submit_sent a h s other command _ _ sound refl x.0 (match other) via m f q
sent_of a a' h s (turns.Poll other r) x sound match via m f q =
    poll_sent a h s other r _ _ sound refl x.0 (match other) via m f q
sent_of a a' h s (turns.Step k) x sound match via m f q = search (arith, true≢false)
sent_of a a' h s (turns.Take other) x sound match via m f q = search (arith, true≢false)

-- the end that is heard is the first that is untaken
heads_of : {K : Type 0} (picks : List Choice → ℕ → Type 0) (a : Account) (h h' : Holdings K) (s : Said)
    (via : Connection) (end : Option (ArrayVec ℕ)) (k : Account) (e : End)
    → s.moment ≡ Some (events.Take via, entries.Taken via end) → IsHanded a end s.heard k → end_taken via h ≡ end
    → ((b : ArrayVec ℕ) (e : End) → end ≡ Some b → slice_get (of via h.untaken) 0 ≡ Some e → IsEnd b.items e)
    → MatchOn via a h → end_heard (receives_in s.heard s.moment) ≡ Some e
    → (rest : List End) × (of via h.untaken ≡ e ∷ rest)
heads_of picks a h h' s via None k e m x taken sound match q = search (arith, false≢true)
heads_of picks a h h' s via (Some b) k e m x taken sound match q =
    let out = taken_some via a h match.0 b taken (λ end f. sound b end refl f) match.1 in
    let first = read_end b.items out.end (sound b out.end refl (ap (λ xs. slice_get xs 0) out.untaken)) in
    search arith

taker : (via : Connection) (t : Turn) (heard : Heard) (m : Option Moment) (e : End)
    → end_heard (heard_by via t heard m) ≡ Some e → (t ≡ turns.Take via) × (end_heard (receives_in heard m) ≡ Some e)
taker via t heard m e q = grind (arith, one_side, false≢true)

pub first_of : {K : Type 0} (picks : List Choice → ℕ → Type 0) (a a' : Both Account) (h h' : Holdings K) (s : Said)
    → Says picks a h s a' h' → Match a h → (via : Connection) (e : End)
    → end_heard (heard_by via s.turn s.heard s.moment) ≡ Some e → (rest : List End) × (of via h.untaken ≡ e ∷ rest)
first_of picks a a' h h' s x match via e q =
    let take = taker via s.turn s.heard s.moment e q in
    let y = subst (λ u. IsHeard a u s a') take.0 x.0 in
    let sound = subst (λ u. IsSound h u s.moment) take.0 x.2 in
    heads_of picks (of via a) h h' s via y.0 y.1 e y.2 y.3 (sym (subst (λ o. AnswersTurn picks h o h') y.2 x.1).1)
    (λ b e r. sound b e (y.2 ∙ ap (λ end. Some (events.Take via, entries.Taken via end)) r)) (match via) take.1
