-- A message keeps all that holds.
use Rattle.mscp_shown.proofs.Common.{AllByRecursion, AreBytes, ArrayVec, Bool, Connection, End, Entry, Event, IsPatient, IsTaken, Known, List, Moment, None, Ok, Option, Settings, Some, Trace, [], aborted_reference, answer, ap, append-nil, arith, arrival, arrives, balance, command_of, cond, connection, count_by, ends_at, ends_in, every_filter, every_from, every_weaker, false, false≢true, if◌then◌else◌, is_queued, name, name_on, not, num, one_side, outstanding_in, own_side, reference, refl, same_connection, sent_by, shown, subst, sym, true, untaken, waiting, waiting_by, ℕ, ◌&&◌, ◌++◌, ◌+◌, ◌∙◌, ◌∷◌, ◌≡◌}
use Rattle.mscp_controller.specs.declared.entry.Sent.{Sent}
use Rattle.mscp_wire.specs.Wire as wire
use Rattle.mscp_wire.specs.declared.moment.Moment.TheVariants as moments
use Rattle.mscp_shown.proofs.Strict.{outstanding}
use Rattle.mscp_shown.proofs.Aborted.{Aborts}
use Rattle.mscp_shown.proofs.Answering.{Answer, answered}
use Rattle.mscp_shown.proofs.Identity.{told_sent}
use Rattle.mscp_shown.proofs.Messages.{message_right}
use Rattle.mscp_shown.proofs.Owed.{kept, one_if, owed, owed_more, quiet}
use Rattle.mscp_shown.proofs.Making.{Facts, answer_aborts, answer_made, answer_ordered}
use Rattle.mscp_shown.proofs.Owners.{IsNew, IsOnly, IsOwed, new_one}
use Rattle.mscp_shown.proofs.Owning.{Owners, only_new, own_last, owners_more, still_aborts, still_owed, still_own}
use Rattle.mscp_shown.proofs.Reading.{IsFit}
use Rattle.mscp_shown.proofs.Shown.{tally_sent}
use Rattle.mscp_shown.proofs.Asking.{asked_order, its_end, poll_about, poll_answer, poll_figure, silent_answer}
use Rattle.mscp_shown.proofs.Listening.{Heard, Tells, heard_sent, tells_none, tells_poll}
use Rattle.mscp_shown.proofs.Polling.{asked_by, poll_of}
use Rattle.mscp_shown.proofs.Kept.{Inv, More, isnt_queued, none_more, shows_one, taken_as_answer}
use Rattle.mscp_shown.proofs.Ordering.{Ordered}
use Rattle.mscp_shown.proofs.Staying.{answered_placed, orders_sent, queued_placed}
use Rattle.mscp_shown.proofs.Waiting.{Orders}

-- ---- a message
module _ (c : Settings) (t : Trace) (own : Connection) (b : ArrayVec ℕ) (k : Known c t) where
  -- what it is on the wire
  sent_side : (via : Connection) (p : ℕ → Bool)
      → cond (same_connection own via) (one_if (p (command_of b.items).reference)) 0
      ≡ one_if (wire.same_connection own via && p (num b.items 0 4))
  unfolding command_of
  sent_side via p = grind arith

  new : Inv c t → IsTaken (balance c own t) (outstanding_in c own t) b.items
      → IsNew c own t (outstanding (shown t)) (sent_by own b.items)
  new h taken = new_one c own t (outstanding (shown t)) b.items (h.tallied own) taken

  sent_more : (sent : Sent) → Inv c t → Ok sent ≡ arrival c own t b.items
      → ((via : Connection) (p : ℕ → Bool) → owed c via (t ++ (Event.Send own b, Entry.Sent own (Ok sent)) ∷ []) p
      ≡ owed c via t p + cond (same_connection own via) (cond (p (command_of b.items).reference) 1 0) 0)
      → Owners c (t ++ (Event.Send own b, Entry.Sent own (Ok sent)) ∷ [])
      (outstanding (shown t) ++ sent_by own b.items ∷ [])
      → Orders c (t ++ (Event.Send own b, Entry.Sent own (Ok sent)) ∷ [])
      (outstanding (shown t) ++ sent_by own b.items ∷ [])
      → Heard c (t ++ (Event.Send own b, Entry.Sent own (Ok sent)) ∷ [])
      (outstanding (shown t) ++ sent_by own b.items ∷ [])
      → ((via : Connection) → AllByRecursion (IsFit c) (ends_at c via t (Event.Send own b, Entry.Sent own (Ok sent))))
      → More c t (Event.Send own b, Entry.Sent own (Ok sent))
  sent_more sent h r opens owners orders heard fit =
      let z = arrives c own t b.items sent r in
      shows_one c t (Event.Send own b, Entry.Sent own (Ok sent)) h (moments.Message own b None) refl
      (λ via p. tally_sent via own p (outstanding (shown t)) b.items
      ∙ ap (λ n. n + cond (wire.same_connection own via && p (num b.items 0 4)) 1 0) (h.tallied via p)
      ∙ ap (λ n. owed c via t p + n) (sym (sent_side via p)) ∙ sym (opens via p))
      (λ credits covers. message_right credits c own t b.items (outstanding (shown t)) covers z.taken (h.tallied own))
      owners orders heard fit
      (λ via unit i k. h.units via unit i (sym (told_sent (wire.told (shown t) via unit) via unit
      (sent_by own b.items)) ∙ k))

  queued_own : (h : Inv c t) → IsNew c own t (outstanding (shown t)) (sent_by own b.items)
      → IsOnly own (command_of b.items).reference (outstanding (shown t) ++ sent_by own b.items ∷ [])
      (λ s. s ≡ sent_by own b.items)
  unfolding command_of
  queued_own h n = only_new c own t (outstanding (shown t)) b.items n h.owners (λ s. s ≡ sent_by own b.items) refl

  queued_is : name_on own (command_of b.items).reference ≡ name_on own (sent_by own b.items).reference
  unfolding command_of
  queued_is = refl

  pub queued_more : (q : ℕ) → Inv c t → Ok (Sent.Queued q) ≡ arrival c own t b.items
      → More c t (Event.Send own b, Entry.Sent own (Ok (Sent.Queued q)))
  queued_more q h r =
      let m : Moment = (Event.Send own b, Entry.Sent own (Ok (Sent.Queued q))) in
      let xs = outstanding (shown t) in
      let z = arrives c own t b.items (Sent.Queued q) r in
      let n = new h z.taken in
      sent_more (Sent.Queued q) h r
      (λ via p. owed_more c via t m p 0 refl (k.room.taken via)
      (quiet c via t m p (every_from (λ x. not (ends_in (name t x) m.1) ≡ true) (λ x. refl) (waiting_by via t)) refl)
      ∙ ap (λ n. owed c via t p + n) (none_more (cond (same_connection own via)
      (one_if (p (command_of b.items).reference)) 0)))
      (owners_more c t m (xs ++ sent_by own b.items ∷ []) (λ via. k.room.taken via) (λ via. refl)
      (still_own c own t xs b.items n h.owners)
      (λ e. own_last t m (xs ++ sent_by own b.items ∷ []) (queued_own h n))
      (still_owed c own t xs b.items n h.owners) (λ via. tt)
      (still_aborts c own t xs b.items n h.owners) (λ via. tt))
      (orders_sent c own t xs b.items n h.owners h.orders m k.steady.apart (refl, r) (λ via. k.room.taken via)
      (λ via. refl) (λ via. tt) (queued_placed c own t xs b.items n h.owners h.orders m queued_is))
      (heard_sent c own t m xs b.items (λ via. k.room.taken via) (λ via. refl) n h.owners h.heard
      (tells_none c own t m xs b.items (λ via. k.room.taken via) (λ via. refl) n h.owners h.heard (λ via. tt))
      (λ e. queued_is))
      (λ via. tt)

  -- those that wait for the other connection stay
  others_stay : (via : Connection) (q : ℕ) (a : Option ℕ) → same_connection own via ≡ false
      → AllByRecursion (λ x. not (ends_in (name t x) (Answer own q a)) ≡ true) (waiting_by via t)
  others_stay via q a n = every_weaker
      (λ x. Unit {0} × (same_connection (connection t x) via ≡ true))
      (λ x. not (ends_in (name t x) (Answer own q a)) ≡ true)
      (λ x e. stays x a (one_side (connection t x) via e.1))
      (waiting_by via t)
      (every_filter (λ x. Unit {0}) (λ x. same_connection (connection t x) via) (waiting t)
      (every_from (λ x. Unit {0}) (λ x. tt) (waiting t)))
    where
      stays : (x : ℕ) (a : Option ℕ) → connection t x ≡ via → not (ends_in (name t x) (Answer own q a)) ≡ true
      stays x a e = grind arith

  answer_turns : (via : Connection) (q : ℕ) (a : Option ℕ) (p : ℕ → Bool) (here : Bool)
      → same_connection own via ≡ here → a ≡ aborted_reference c own t (command_of b.items)
      → kept c via t (Event.Send own b, Answer own q a) p
      + count_by (λ (e : End). p e.reference) (ends_at c via t (Event.Send own b, Answer own q a))
      ≡ count_by (λ x. p (reference t x)) (waiting_by via t)
      + cond here (cond (p (command_of b.items).reference) 1 0) 0
  answer_turns via q a p true e is =
      let side = one_side own via e in
      subst (λ s. kept c via t (Event.Send s b, Answer s q a) p
      + count_by (λ (e : End). p e.reference) (ends_at c via t (Event.Send s b, Answer s q a))
      ≡ count_by (λ x. p (reference t x)) (waiting_by via t) + cond (p (command_of b.items).reference) 1 0) (sym side)
      (answered c via t (Event.Send via b) q a p
      (subst (λ s. a ≡ aborted_reference c s t (command_of b.items)) side is)
      (ap (λ here. (if here then answer c via t b.items else []) ++ []) (own_side via)
      ∙ append-nil (answer c via t b.items)))
  answer_turns via q a p false e is =
      quiet c via t (Event.Send own b, Answer own q a) p (others_stay via q a e)
      (ap (λ here. (if here then answer c via t b.items else []) ++ []) e)

  -- the ends of an answer, by connection
  each_answer : (via : Connection) (P : Connection → List End → Type 0) (here : Bool)
      → same_connection own via ≡ here → P via [] → P own (answer c own t b.items)
      → P via ((if here then answer c via t b.items else []) ++ [])
  each_answer via P true e none h = rw (← one_side own via e) (subst (P own) (sym (append-nil (answer c own t b.items)))
      h)
  each_answer via P false e none h = none

  -- what it has to tell of a poll, if it is one
  answer_tells : (q : ℕ) (a : Option ℕ) (h : Inv c t) → Facts c t → IsPatient
      (t ++ (Event.Send own b, Answer own q a) ∷ [])
      → (n : IsNew c own t (outstanding (shown t)) (sent_by own b.items)) → is_queued c (command_of b.items) ≡ false
      → Tells c own t (Event.Send own b, Answer own q a) (outstanding (shown t)) b.items (λ via. k.room.taken via)
      (λ via. refl) n h.owners h.heard
  answer_tells q a h facts patient n isnt =
      let m : Moment = (Event.Send own b, Answer own q a) in
      let xs = outstanding (shown t) in
      let e = its_end c own t b.items in
      let asks = poll_about c own t b.items isnt in
      let P : Option ℕ → Type 0 = λ o. asked_by (command_of b.items).order ≡ o
      → Tells c own t m xs b.items (λ via. k.room.taken via) (λ via. refl) n h.owners h.heard in
      elim (asked_by (command_of b.items).order) as P [
        | None ↦ λ p. tells_none c own t m xs b.items (λ via. k.room.taken via) (λ via. refl) n h.owners h.heard
            (λ via. each_answer via (λ v. AllByRecursion (λ (e : End). poll_of e ≡ None))
            (same_connection own via) refl tt
            (silent_answer c own t b.items xs n h.owners facts (asks ∙ p)))
        | Some other ↦ λ p.
            let o = asked_order (command_of b.items).order other p in
            tells_poll c own t m xs b.items (λ via. k.room.taken via) (λ via. refl) n h.owners h.heard patient
            facts.promise h.tallied h.orders.single other e
            (ap (λ here. (if here then answer c own t b.items else []) ++ []) (own_side own)
            ∙ (append-nil (answer c own t b.items) ∙ poll_answer c own t b.items other o))
            (λ via s. ap (λ here. (if here then answer c via t b.items else []) ++ []) s)
            (record { answered = own_side own; about = o }) (asks ∙ p) (poll_figure c own t b.items other o)
      ] refl

  pub answered_more : (q : ℕ) (a : Option ℕ) → Inv c t → Facts c t
      → IsPatient (t ++ (Event.Send own b, Answer own q a) ∷ []) → AreBytes b.items → Ok
      (Sent.Answered q a) ≡ arrival c own t b.items
      → More c t (Event.Send own b, Answer own q a)
  answered_more q a h facts patient bytes r =
      let m : Moment = (Event.Send own b, Answer own q a) in
      let xs = outstanding (shown t) in
      let z = arrives c own t b.items (Sent.Answered q a) r in
      let is = taken_as_answer c own t (command_of b.items) (is_queued c (command_of b.items)) q a z.is in
      let n = new h z.taken in
      let longer = xs ++ sent_by own b.items ∷ [] in
      let made = answer_made c own t xs b.items n h.owners facts bytes
      (isnt_queued c own t (command_of b.items) (is_queued c (command_of b.items)) q a z.is) in
      let each = answer c own t b.items in
      let side = λ (via : Connection) (P : Connection → List End → Type 0) (none : P via []) (all : P own each).
      each_answer via P (same_connection own via) refl none all in
      sent_more (Sent.Answered q a) h r
      (λ via p. owed_more c via t m p
      (cond (same_connection own via) (cond (p (command_of b.items).reference) 1 0) 0) refl (k.room.taken via)
      (answer_turns via q a p (same_connection own via) refl is)
      ∙ ap (λ n. owed c via t p + n)
      (omega arith))
      (owners_more c t m longer (λ via. k.room.taken via) (λ via. refl) (still_own c own t xs b.items n h.owners)
      (λ e. absurd (false≢true e)) (still_owed c own t xs b.items n h.owners)
      (λ via. side via (λ v. AllByRecursion (IsOwed v longer)) tt
      (every_weaker (λ (e : End). IsOwed own longer e × IsFit c e) (IsOwed own longer) (λ e k. k.0) each made))
      (still_aborts c own t xs b.items n h.owners)
      (λ via. side via (λ v. Aborts v longer) tt (answer_aborts c own t xs b.items n h.owners facts)))
      (orders_sent c own t xs b.items n h.owners h.orders m k.steady.apart (refl, r) (λ via. k.room.taken via)
      (λ via. refl)
      (λ via. side via (λ v es. Ordered v longer (untaken c v t) es) tt
      (answer_ordered c own t xs b.items n h.owners facts
      (isnt_queued c own t (command_of b.items) (is_queued c (command_of b.items)) q a z.is) (untaken c own t)))
      (answered_placed c own t xs b.items n h.owners h.orders m refl))
      (heard_sent c own t m xs b.items (λ via. k.room.taken via) (λ via. refl) n h.owners h.heard
      (answer_tells q a h facts patient n
      (isnt_queued c own t (command_of b.items) (is_queued c (command_of b.items)) q a z.is))
      (λ e. absurd (false≢true e)))
      (λ via. side via (λ v. AllByRecursion (IsFit c)) tt
      (every_weaker (λ (e : End). IsOwed own longer e × IsFit c e) (IsFit c) (λ e k. k.1) each made))
