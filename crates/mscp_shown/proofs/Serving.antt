-- A step keeps all that holds.
use Rattle.mscp_shown.proofs.Common.{AllByRecursion, Block, Bool, Connection, End, Entry, Event, IsRight, IsServed, Known, List, Moment, Name, None, Option, Out, Report, Service, Settings, Some, Trace, [], ap, arith, connection, ends_at, ends_in, ends_served, every_from, every_weaker, false, false≢true, if◌then◌else◌, inr, is_some, name, not, option_to_list, reference, refl, same_connection, same_name, service_in, service_name, shown, shown_by, step_right, subst, sym, true, untaken, waiting_by, ℕ, ◌%◌, ◌&&◌, ◌++◌, ◌∙◌, ◌∷◌, ◌≡◌, ◌≢◌}
use Rattle.mscp_shown.proofs.Strict.{outstanding}
use Rattle.mscp_shown.proofs.Aborted.{Aborts}
use Rattle.mscp_shown.proofs.Answering.{goes}
use Rattle.mscp_shown.proofs.Owed.{owed, owed_more}
use Rattle.mscp_shown.proofs.Making.{Facts, step_made}
use Rattle.mscp_shown.proofs.Owners.{IsOwed}
use Rattle.mscp_shown.proofs.Owning.{owners_more}
use Rattle.mscp_shown.proofs.Reading.{IsFit}
use Rattle.mscp_shown.proofs.Suiting.{IsFault}
use Rattle.mscp_shown.proofs.Polling.{poll_of}
use Rattle.mscp_shown.proofs.Placing.{served_free}
use Rattle.mscp_shown.proofs.Listening.{heard_still}
use Rattle.mscp_shown.proofs.Kept.{Inv, More, shows_none, still}
use Rattle.mscp_shown.proofs.Ordering.{Clear, Ordered}
use Rattle.mscp_shown.proofs.Staying.{orders_still}
use Rattle.mscp_shown.proofs.Waiting.{clear_of}

-- ---- a step
module _ (c : Settings) (t : Trace) (block : Block) (k : Known c t) (h : Inv c t) where
  pub served_owed : (s : Service) (report : Report) → service_in (Entry.Stepped report) ≡ Some s
      → IsRight c t (Event.Step block) (Entry.Stepped report) → (ended : Option End) → s.ended ≡ ended
      → (via : Connection) (p : ℕ → Bool)
      → ends_at c via t (Event.Step block, Entry.Stepped report)
      ≡ (if same_connection s.connection via then option_to_list ended else [])
      → owed c via (t ++ (Event.Step block, Entry.Stepped report) ∷ []) p ≡ owed c via t p
  served_owed s report is r None e via p at =
      let m : Moment = (Event.Step block, Entry.Stepped report) in
      let stay : (n : Name) → not (ends_in n m.1) ≡ true = λ n. ap not (ends_served n m.1 s is
      ∙ ap (λ o. same_name (service_name s) n && is_some o) e ∙ and_false (same_name (service_name s) n)) in
      still c t m h k via p refl refl
      (every_from (λ x. not (ends_in (name t x) m.1) ≡ true) (λ x. stay (name t x)) (waiting_by via t))
      (at ∙ no_end (same_connection s.connection via) [])
    where
      and_false : (b : Bool) → (b && false) ≡ false
      and_false b = grind arith

      no_end : (here : Bool) (none : List End) → (if here then none else none) ≡ none
      no_end here none = grind arith
  served_owed s report is r (Some end) e via p at =
      let m : Moment = (Event.Step block, Entry.Stepped report) in
      let z = step_right c t m s k.steady.apart is r in
      owed_more c via t m p 0 refl (k.room.taken via)
      (goes c via t m s z.0 z.1 z.2 z.3 z.4 p end e at)
      ∙ omega arith

  -- a step's ends, by connection
  each_served : (P : Connection → List End → Type 0) (s : Service) (via : Connection) (ended : Option End) (here : Bool)
      → same_connection s.connection via ≡ here → P via [] → P s.connection (option_to_list ended)
      → P via (if here then option_to_list ended else [])
  each_served P s via ended here e none all = grind arith

  pub served_more : (s : Service) (report : Report) → service_in (Entry.Stepped report) ≡ Some s
      → IsRight c t (Event.Step block) (Entry.Stepped report) → (ended : Option End) → s.ended ≡ ended
      → (y : ℕ) → IsServed c t block s y → IsFault block → Facts c t
      → shown_by (Event.Step block) (Entry.Stepped report) ≡ []
      → ((via : Connection) → ends_at c via t (Event.Step block, Entry.Stepped report)
      ≡ (if same_connection s.connection via then option_to_list ended else []))
      → More c t (Event.Step block, Entry.Stepped report)
  served_more s report is r ended e y v fault facts nothing at =
      let m : Moment = (Event.Step block, Entry.Stepped report) in
      let xs = outstanding (shown t) in
      let Made : End → Type 0 = λ e. (((IsOwed s.connection xs e × IsFit c e)
      × (e.status % 32 ≢ 2)) × (e.reference ≡ reference t y)) × (poll_of e ≡ None) in
      let made : (o : Option End) → s.ended ≡ o → AllByRecursion Made (option_to_list o) = λ o. elim o as (λ o. s.ended
      ≡ o → AllByRecursion Made (option_to_list o)) [
        | None ↦ λ q. tt
        | Some e' ↦ λ q. (step_made c t xs h.owners facts s block y v fault e' q, tt)
      ] in
      let each = made ended e in
      let side = λ (via : Connection) (P : Connection → List End → Type 0) (none : P via [])
      (all : P s.connection (option_to_list ended)).
      subst (P via) (sym (at via)) (each_served P s via ended (same_connection s.connection via) refl none all) in
      shows_none c t m h nothing (λ via p. served_owed s report is r ended e via p (at via))
      (owners_more c t m xs (λ via. k.room.taken via) (λ via. refl) h.owners.waits (λ e. absurd (false≢true e))
      h.owners.owed
      (λ via. side via (λ v. AllByRecursion (IsOwed v xs)) tt
      (every_weaker Made (IsOwed s.connection xs) (λ e k. k.0.0.0.0) (option_to_list ended) each))
      h.owners.aborts
      (λ via. side via (λ v. Aborts v xs) tt (aborts_of s.connection xs ended
      (every_weaker Made (λ e. e.status % 32 ≢ 2) (λ e k. k.0.0.1) (option_to_list ended) each))))
      (orders_still c t m xs k.steady.apart (λ via. k.room.taken via) r refl (λ via. refl)
      (λ via. side via (λ v es. Ordered v xs (untaken c v t) es) tt
      (subst (λ v. Ordered v xs (untaken c v t) (option_to_list ended)) (sym v.connection)
      (orders_of ended
      (every_weaker Made (λ e. e.reference ≡ reference t y) (λ e k. k.0.1) (option_to_list ended) each)
      (λ e number. clear_of c t xs h.tallied h.owners.waits h.queued h.orders.placed y e v.waits
      (served_free c t block s y v h.orders.free) number))))
      h.orders)
      (heard_still c t m xs (λ via. k.room.taken via) (λ via. refl) refl
      (λ via. side via (λ v. AllByRecursion (λ (e : End). poll_of e ≡ None)) tt
      (every_weaker Made (λ e. poll_of e ≡ None) (λ e k. k.1) (option_to_list ended) each)) h.heard)
      (λ via. side via (λ v. AllByRecursion (IsFit c)) tt
      (every_weaker Made (IsFit c) (λ e k. k.0.0.0.1) (option_to_list ended) each))
    where
      orders_of : (ended : Option End) → AllByRecursion (λ (e : End). e.reference ≡ reference t y)
          (option_to_list ended)
          → ((e : End) → e.reference ≡ reference t y
          → Clear (connection t y) (outstanding (shown t)) (untaken c (connection t y) t) e)
          → Ordered (connection t y) (outstanding (shown t)) (untaken c (connection t y) t) (option_to_list ended)
      orders_of None all clear = tt
      orders_of (Some e) all clear = (inr (clear e all.0), tt)

      aborts_of : (via : Connection) (xs : List Out) (ended : Option End)
          → AllByRecursion (λ (e : End). e.status % 32 ≢ 2) (option_to_list ended)
          → Aborts via xs (option_to_list ended)
      aborts_of via xs ended all = grind arith
