-- Each moment of a legal trace keeps it that what hosts are told of the states of units suits how they are.
use Rattle.mscp_shown.proofs.Common.{AllByRecursion, ArrayVec, Bool, Connection, End, Event, History, Known, Moment, None, Order, Settings, Shared, Some, Told, Trace, Wired, [], ap, append-nil, command_of, cond, connection_of, controller_after, controller_of, each_push, ends_at, ends_in, eq-eqb, eqb-true, every_append, every_both, every_kept, every_weaker, false, false≢true, filter, fold_push, if◌then◌else◌, is_online, is_online_kept, length, moment, moment_before, moment_last, name, nat_eq, not, num, order, queues, refl, same_connection, sent_by, sent_bytes, service_in, shares, shown, shown_by, subst, sym, takes, told, told_after_message, told_push, true, unit, unit_fault, unit_found, untaken, untaken_more, waiting, waiting_below, waiting_more, ℕ, ⊎_elim, ◌&&◌, ◌++◌, ◌<◌, ◌∙◌, ◌∷◌, ◌≡◌}
use Rattle.mscp_packet.specs.declared.command.Order.TheVariants as orders
use Rattle.mscp_wire.specs.Wire as wire
use Rattle.mscp_wire.specs.declared.moment.Moment.TheVariants as moments
use Rattle.mscp_shown.proofs.Effects.{Effects}
use Rattle.mscp_shown.proofs.Identity.{own_identifier}
use Rattle.mscp_shown.proofs.Kept.{same_sides}
use Rattle.mscp_shown.proofs.Saying.{Says, sent_says}
use Rattle.mscp_shown.proofs.Shown.{shown_more}
use Rattle.mscp_shown.proofs.Stating.{IsShared, Stated, message_state, shared_message, shared_stated, stated_append}
use Rattle.mscp_shown.proofs.Strict.{AreStated, IsStated, told_at}

-- the command of a moment is no ONLINE, or its unit is shared to the other host
abbrev pub Shares : History → Moment → Type 0
Shares h n =
    (command_of (sent_bytes n.0)).order ≡ orders.Online → (via : Connection)
    → same_connection (connection_of n.0) via ≡ false → IsShared h via (command_of (sent_bytes n.0)).unit

pub record Stands (c : Settings) (t : Trace) : Type 0 where
  pub stated : (via : Connection) (unit : ℕ)
      → Stated unit (is_online t unit) (told (shown t) via unit).state (untaken c via t)
  pub there : (unit : ℕ) → is_online t unit ≡ true → unit_fault (unit_found c unit) ≡ None
  pub shared : AllByRecursion (λ x. Shares (shown t) (moment t x)) (waiting t)
  pub controller : (n : ℕ) → controller_of (shown t) ≡ Some n → n ≡ own_identifier c
  pub are : AreStated (shown t)

-- what waits after a moment: what did, and the last one if it is queued
pub waits_more : (t : Trace) (m : Moment) (h : History)
    → AllByRecursion (λ x. Shares h (moment t x)) (waiting t) → (queues m.1 ≡ true → Shares h m)
    → AllByRecursion (λ x. Shares h (moment (t ++ m ∷ []) x)) (waiting (t ++ m ∷ []))
waits_more t m h all last =
    let keep : ℕ → Bool = λ x. not (ends_in (name t x) m.1) in
    let P : ℕ → Type 0 = λ x. Shares h (moment (t ++ m ∷ []) x) in
    let here : (b : Bool) → queues m.1 ≡ b → AllByRecursion P (cond b (length t ∷ []) []) = λ b. elim b as
    (λ b. queues m.1 ≡ b → AllByRecursion P (cond b (length t ∷ []) [])) [
      | true ↦ λ e. (subst (Shares h) (sym (moment_last t m)) (last e), tt)
      | false ↦ λ e. tt
    ] in
    subst (AllByRecursion P) (sym (waiting_more t m))
    (every_append P (filter keep (waiting t)) (cond (queues m.1) (length t ∷ []) [])
    (every_kept P keep (waiting t)
    (every_weaker (λ x. (x < length t) × Shares h (moment t x)) P
    (λ x k. subst (Shares h) (sym (moment_before t m x k.0)) k.1) (waiting t)
    (every_both (λ x. x < length t) (λ x. Shares h (moment t x)) (waiting t) (waiting_below t) all)))
    (here (queues m.1) refl))

module _ (c : Settings) (t : Trace) (m : Moment) (known : Known c t) (h : Stands c t) where
  abbrev t' : Trace
  t' = t ++ m ∷ []

  -- a moment that serves nobody
  still_online : service_in m.1 ≡ None → (unit : ℕ) → is_online t' unit ≡ is_online t unit
  still_online n unit = is_online_kept t m unit n

  same_there : ((unit : ℕ) → is_online t' unit ≡ is_online t unit) → (unit : ℕ) → is_online t' unit ≡ true
      → unit_fault (unit_found c unit) ≡ None
  same_there same unit e = h.there unit (sym (same unit) ∙ e)

  -- one that changes nothing
  pub nothing_stands : ((unit : ℕ) → is_online t' unit ≡ is_online t unit) → shown_by m.0 m.1 ≡ []
      → ((via : Connection) → ends_at c via t m ≡ []) → ((via : Connection) → takes via m.1 ≡ false)
      → queues m.1 ≡ false → Stands c t'
  nothing_stands same s none q late =
      let is : shown t' ≡ shown t = shown_more t m ∙ ap (λ w. shown t ++ w) s ∙ append-nil (shown t) in
      record {
        stated = λ via unit.
            let left : untaken c via t' ≡ untaken c via t =
            untaken_more c via t m (q via) (known.room.taken via) ∙ ap (λ es. untaken c via t ++ es) (none via)
            ∙ append-nil (untaken c via t) in
            subst (λ w. Stated unit (is_online t' unit) (told w via unit).state (untaken c via t')) (sym is)
            (subst (λ es. Stated unit (is_online t' unit) (told (shown t) via unit).state es) (sym left)
            (subst (λ b. Stated unit b (told (shown t) via unit).state (untaken c via t)) (sym (same unit))
            (h.stated via unit)));
        there = same_there same;
        shared = rw is (waits_more t m (shown t) h.shared (λ e. absurd (false≢true (sym late ∙ e))));
        controller = λ n e. h.controller n (sym (ap controller_of is) ∙ e);
        are = subst AreStated (sym is) h.are;
      }

  -- one that serves nobody
  pub quiet_stands : service_in m.1 ≡ None → shown_by m.0 m.1 ≡ [] → ((via : Connection) → ends_at c via t m ≡ [])
      → ((via : Connection) → takes via m.1 ≡ false) → queues m.1 ≡ false → Stands c t'
  quiet_stands n = nothing_stands (still_online n)

  -- a message
  pub message_stands : (own : Connection) (b : ArrayVec ℕ) → shown_by m.0 m.1 ≡ moments.Message own b None ∷ []
      → service_in m.1 ≡ None → ((via : Connection) → takes via m.1 ≡ false)
      → ((via : Connection) → AllByRecursion (λ (e : End).
      Effects (is_online t e.unit) (is_online t e.unit) e.code e.status) (ends_at c via t m))
      → (queues m.1 ≡ true → m.0 ≡ Event.Send own b) → Stands c t'
  unfolding command_of
  message_stands own b s n q effects last =
      let w : Wired = moments.Message own b None in
      let is : shown t' ≡ shown t ++ w ∷ [] = shown_more t m ∙ ap (λ l. shown t ++ l) s in
      let then_told : (via : Connection) (unit : ℕ) → told (shown t ++ w ∷ []) via unit
      ≡ told_after_message via unit (told (shown t) via unit) (sent_by own b.items) =
      λ via unit. told_push (shown t) w via unit in
      record {
        stated = λ via unit.
            let more = untaken_more c via t m (q via) (known.room.taken via) in
            let online = is_online t unit in
            let es = untaken c via t ++ ends_at c via t m in
            subst (λ w. Stated unit (is_online t' unit) (told w via unit).state (untaken c via t')) (sym is)
            (subst (λ us. Stated unit (is_online t' unit) (told (shown t ++ w ∷ []) via unit).state us) (sym more)
            (subst (λ b. Stated unit b (told (shown t ++ w ∷ []) via unit).state es) (sym (still_online n unit))
            (subst (λ (z : Told). Stated unit online z.state es) (sym (then_told via unit))
            (⊎_elim
            (λ e. subst (λ z. Stated unit online z es) (sym e)
            (stated_append unit online (told (shown t) via unit).state (untaken c via t) (ends_at c via t m)
            (every_weaker (λ (e : End). Effects (is_online t e.unit) (is_online t e.unit) e.code e.status)
            (λ (e : End). nat_eq e.unit unit ≡ true → Effects online online e.code e.status)
            (λ e f g. subst (λ u. Effects (is_online t u) (is_online t u) e.code e.status) (eqb-true e.unit unit g) f)
            (ends_at c via t m) (effects via)) (h.stated via unit)))
            (λ e. subst (λ z. Stated unit online z es) (sym e) (shared_stated unit online es))
            (message_state via own unit (told (shown t) via unit) b.items)))));
        there = same_there (still_online n);
        shared = subst (λ w. AllByRecursion (λ x. Shares w (moment t' x)) (waiting t')) (sym is)
            (waits_more t m (shown t ++ w ∷ [])
            (every_weaker (λ x. Shares (shown t) (moment t x)) (λ x. Shares (shown t ++ w ∷ []) (moment t x))
            (λ x k o via e.
            let u = (command_of (sent_bytes (moment t x).0)).unit in
            ap (λ (z : Told). z.state) (then_told via u)
            ∙ shared_message via own u (told (shown t) via u) b.items (k o via e))
            (waiting t) h.shared)
            (λ e. new_shares (last e)));
        controller = λ n e. h.controller n
            (sym (fold_push controller_after None (shown t) w) ∙ (sym (ap controller_of is) ∙ e));
        are = subst AreStated (sym is)
            (each_push moments.Reset (λ h w. IsStated (told_at (told h) (controller_of h) w) w) (shown t) w h.are tt);
      }
    where
      brings_there : (via : Connection) → same_connection own via ≡ false → Says orders.Online (sent_by own b.items)
          → shares via (num b.items 4 2) (sent_by own b.items) ≡ true
      brings_there via e nine =
          ap (λ o. nat_eq o 9 && nat_eq (num b.items 4 2) (num b.items 4 2) && not (wire.same_connection own via)) nine
          ∙ (ap (λ x. x && not (wire.same_connection own via)) (eq-eqb (num b.items 4 2) (num b.items 4 2) refl)
          ∙ ap not (same_sides own via ∙ e))

      of_event : (order : Order) → order ≡ orders.Online → Says order (sent_by own b.items)
          → Says orders.Online (sent_by own b.items)
      of_event order e says = subst (λ o. Says o (sent_by own b.items)) e says

      sent_shares : Shares (shown t ++ moments.Message own b None ∷ []) (Event.Send own b, m.1)
      sent_shares o via e =
          let u = num b.items 4 2 in
          ap (λ (z : Told). z.state) (told_push (shown t) (moments.Message own b None) via u)
          ∙ ap (λ q. (if q then record (told (shown t) via u) { state = Shared } else told (shown t) via u).state)
          (brings_there via e (of_event (command_of b.items).order o (sent_says own b.items)))

      new_shares : m.0 ≡ Event.Send own b → Shares (shown t ++ moments.Message own b None ∷ []) m
      new_shares e = subst (λ v. Shares (shown t ++ moments.Message own b None ∷ []) (v, m.1)) (sym e) sent_shares
