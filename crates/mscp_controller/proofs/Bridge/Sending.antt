-- A message: the answer to it is right, and what is held after it.
use Rattle.mscp_controller.proofs.Basics.{◌≡◌, ℕ, ◌+◌, ◌-◌, ◌≤◌, Bool, true, false, not, List, [], ◌∷◌, ◌++◌, map, length, refl, ap, sym, ◌∙◌, subst, append-nil, append_assoc, arith, filter, if◌then◌else◌, Option, Some, None, option_map, option_to_list, Result, Ok, Err, length-map, Command, End, command_of, Record, aborted_record, name_of, SendFault, Sent, ArrayVec, Settings, credits_of, Both, of, is_queued, refusal, Trace, Moment, queues, service_in, takes, ends_in, waiting_by, answer, ends_at, untaken, balance, outstanding, arrival, taken_in, taken_unless, IsRight, Holdings, record_aborted, reference_aborted, aborting, after_message, answer_to_message, answered_end, with_end, held_unless, queued, sent_unless, waiting_on, Connection, every_from, filter_all, filter_map_of, map_map, Event, Entry, taken_when, untaken_more}
use Rattle.mscp_controller.proofs.Bridge.Held.{held_of, Follows, figure_of_held}
use Rattle.mscp_controller.proofs.Bridge.Aborting.{end_made, others_wait, reference_told}
use Rattle.mscp_controller.proofs.Bridge.Quiet.{IsQuiet, follows_left, follows_queued}
use Rattle.mscp_controller.proofs.Bridge.Drives.{Driven, drive_found, driven_kept}

-- all that is held is that of the run
pub record Agrees {K : Type 0} (c : Settings) (t : Trace) (h : Holdings K) : Type 0 where
  pub follows : Follows c t h.waiting h.untaken
  pub driven : Driven c t h.drives

-- ---- credits
module _ (c : Settings)
    (via : Connection) (t : Trace) (ws : List Record) (us : Both (List End)) (f : Follows c t ws us) where
  -- those of a connection that are held
  held_by : waiting_on via ws ≡ map (held_of t) (waiting_by via t)
  held_by = search (arith, held_of t, filter_map_of)

  pub balance_held : credits_of c via - (length (waiting_on via ws) + length (of via us)) ≡ balance c via t
  unfolding balance
  balance_held = search (arith, held_by, length-map (waiting_by via t) (held_of t), held_of t)

  outstanding_held : map (λ r. r.command.reference) (waiting_on via ws) ++ map (λ e. e.reference) (of via us)
      ≡ outstanding c via t
  unfolding outstanding
  outstanding_held = search (arith, held_by, held_of t, map_map)

-- a message is refused alike
-- ---- its end
-- An answer asks for the state of no unit that isn't configured.
answer_held : {K : Type 0} (via : Connection) (h : Holdings K) (t : Trace) (b : List ℕ) → Agrees h.settings t h
    → option_to_list (option_map aborted_record (record_aborted via h.waiting (command_of b).order)) ++ answered_end
    via h (command_of b) ∷ [] ≡ answer h.settings via t b
unfolding answer
answer_held via h t b a = grind (arith, drive_found, end_made, figure_of_held)

-- ---- what becomes of it
-- what is answered to a message is right, and what is then held is that of the run
pub record Sends {K : Type 0} (c : Settings) (t : Trace) (m : Moment) (h : Holdings K) : Type 0 where
  pub right : IsRight c t m.0 m.1
  pub agrees : Agrees c (t ++ m ∷ []) h

-- the moment of a message
abbrev pub sending : Connection → ArrayVec ℕ → Result Sent SendFault → Moment
sending via b s = (Event.Send via b, Entry.Sent via s)

-- each connection's ends that are held are those that weren't taken after the moment
abbrev pub IsUntaken : {K : Type 0} → Holdings K → Trace → Moment → Holdings K → Type 0
IsUntaken h t m h' = (via : Connection) → of via h'.untaken ≡ untaken h.settings via (t ++ m ∷ [])

-- A moment that serves nobody and queues nobody: those that it doesn't end wait on.
leaves : {K : Type 0} (h h' : Holdings K) (t : Trace) (m : Moment) → 1 ≤ h.settings.longest → service_in m.1 ≡ None
    → queues m.1 ≡ false → h'.waiting ≡ filter (λ r. not (ends_in (name_of r) m.1)) h.waiting → h'.drives ≡ h.drives
    → IsUntaken h t m h' → Agrees h.settings t h → IsRight h.settings t m.0 m.1 → Sends h.settings t m h'
leaves h h' t m l unserved n left stay e a r =
    let c = h.settings in
    record {
      right = r;
      agrees = record {
        follows = follows_left c t m h.waiting h'.waiting h.untaken h'.untaken l r unserved n left e a.follows;
        driven = subst (Driven c (t ++ m ∷ [])) (sym stay) (driven_kept c t m h.drives unserved r a.driven);
      };
    }

-- The same where it ends nobody.
pub quiet : {K : Type 0} (h h' : Holdings K) (t : Trace) (m : Moment) → 1 ≤ h.settings.longest → IsQuiet m
    → queues m.1 ≡ false → h'.waiting ≡ h.waiting → h'.drives ≡ h.drives → IsUntaken h t m h'
    → Agrees h.settings t h → IsRight h.settings t m.0 m.1 → Sends h.settings t m h'
quiet h h' t m l q n same stay e a r =
    let stays : Record → Bool = λ r. not (ends_in (name_of r) m.1) in
    leaves h h' t m l q.unserved n (same ∙ sym (filter_all stays h.waiting
    (every_from (λ r. stays r ≡ true) (λ r. ap not (q.kept (name_of r))) h.waiting))) stay e a r

module _ {K : Type 0} (via : Connection) (h : Holdings K) (t : Trace) where
  -- The ends of a connection where a moment takes none.
  pub ends_on : (m : Moment) → takes via m.1 ≡ false → Agrees h.settings t h → (es : List End)
      → es ≡ ends_at h.settings via t m → of via h.untaken ++ es ≡ untaken h.settings via (t ++ m ∷ [])
  ends_on m n a es e = search (arith, untaken_more h.settings via t m n (a.follows.known.room.taken via))

  -- the same where it makes none
  pub ends_stay : (m : Moment) → takes via m.1 ≡ false → Agrees h.settings t h
      → ends_at h.settings via t m ≡ [] → of via h.untaken ≡ untaken h.settings via (t ++ m ∷ [])
  ends_stay m n a e = sym (append-nil (of via h.untaken)) ∙ ends_on m n a [] (sym e)

module _ {K : Type 0} (via : Connection) (h : Holdings K) (t : Trace) (b : ArrayVec ℕ) where
  refused : (fault : SendFault) → 1 ≤ h.settings.longest → Agrees h.settings t h
      → Err fault ≡ arrival h.settings via t b.items → Sends h.settings t (sending via b (Err fault)) h
  refused fault l a r = search (arith, quiet, ends_stay)

  waits : 1 ≤ h.settings.longest → Agrees h.settings t h
      → Ok (Sent.Queued (command_of b.items).reference) ≡ arrival h.settings via t b.items → Sends h.settings
      t (sending via b (Ok (Sent.Queued (command_of b.items).reference))) (queued via h (command_of b.items))
  waits l a r = search (arith, follows_queued, ends_stay, driven_kept)

-- what is held once a message was answered
abbrev pub answered_holds : {K : Type 0} → Connection → Holdings K → Command → Holdings K
answered_holds via h k = with_end via (aborting via h k.order) (answered_end via h k)

-- the moment of its answer
abbrev pub answering : {K : Type 0} → Connection → Holdings K → ArrayVec ℕ → Moment
answering via h b =
    let k = command_of b.items in
    sending via b (Ok (Sent.Answered k.reference (reference_aborted via h.waiting k.order)))

module _ {K : Type 0} (via : Connection) (h : Holdings K) (t : Trace) (b : ArrayVec ℕ) where
  -- the ends of the connection are its own two or one more
  -- and those of the other as they were
  answered_ends : Agrees h.settings t h → IsUntaken h t (answering via h b) (answered_holds via h (command_of b.items))
  answered_ends h4 h5 = grind (arith, ends_stay, answer_held, append-nil, append_assoc, ends_on)

  answered : 1 ≤ h.settings.longest → Agrees h.settings t h → Ok (Sent.Answered (command_of b.items).reference
      (reference_aborted via h.waiting (command_of b.items).order)) ≡ arrival h.settings via t b.items
      → Sends h.settings t (answering via h b) (answered_holds via h (command_of b.items))
  answered l a r = search (arith, answered_ends a, leaves, others_wait)

-- ---- every message
taken_as_queued : (c : Settings) (via : Connection) (t : Trace) (k : Command) → is_queued c k ≡ true
    → Sent.Queued k.reference ≡ taken_in c via t k
taken_as_queued c via t k q = sym (ap (taken_when c via t k) q)

taken_as_answered : {K : Type 0} (via : Connection) (h : Holdings K) (t : Trace) (k : Command)
    → Follows h.settings t h.waiting h.untaken → is_queued h.settings k ≡ false
    → Sent.Answered k.reference (reference_aborted via h.waiting k.order) ≡ taken_in h.settings via t k
taken_as_answered via h t k f q = grind (arith, reference_told)

-- what the history says of a message that is refused so, or isn't
arrival_when : (c : Settings) (via : Connection) (t : Trace) (b : List ℕ) (o : Option SendFault)
    → refusal (balance c via t) (outstanding c via t) b ≡ o → taken_unless c via t (command_of b) o ≡ arrival c via t b
unfolding arrival
arrival_when c via t b o e = sym (ap (taken_unless c via t (command_of b)) e)

module _ {K : Type 0} (via : Connection)
    (h : Holdings K) (t : Trace) (b : ArrayVec ℕ) (l : 1 ≤ h.settings.longest) (f : Agrees h.settings t h) where
  sends_taken : refusal (balance h.settings via t) (outstanding h.settings via t) b.items ≡ None → (q : Bool)
      → is_queued h.settings (command_of b.items) ≡ q → let k = command_of b.items in Sends h.settings t (sending via b
      (Ok (if q then Sent.Queued k.reference else Sent.Answered k.reference (reference_aborted via h.waiting k.order))))
      (if q then queued via h k else answered_holds via h k)
  sends_taken none true q = waits via h t b l f (ap Ok (taken_as_queued h.settings via t (command_of b.items) q)
      ∙ arrival_when h.settings via t b.items None none)
  sends_taken none false q =
      search (arith, taken_as_answered via h t (command_of b.items) f.follows q, answered, arrival_when)

  sends_when : (o : Option SendFault) → refusal (balance h.settings via t) (outstanding h.settings via t) b.items ≡ o
      → Sends h.settings t (sending via b (sent_unless via h (command_of b.items) o))
      (held_unless via h (command_of b.items) o)
  sends_when (Some fault) r = refused via h t b fault l f (arrival_when h.settings via t b.items (Some fault) r)
  sends_when None r = sends_taken r (is_queued h.settings (command_of b.items)) refl

  -- A message is answered right, and what is then held is that of the run.
  pub sends : Sends h.settings t (sending via b (answer_to_message via h b.items)) (after_message via h b.items)
  sends = grind (arith, sends_when, balance_held, outstanding_held)
