-- A step keeps it that what hosts are told of the states of units suits how they are.
use Rattle.mscp_shown.proofs.Common.{AllByRecursion, Block, Bool, Connection, End, IsServed, Known, List, Moment, None, Option, Order, Serves, Service, Settings, Some, Step, Trace, [], alone, ap, append-nil, arith, changes, command, controller_of, cut, ends_at, eqb-false, eqb-true, false, false≢true, good, if◌then◌else◌, is_online, is_online_ended, is_online_other, is_online_unended, is_queued, moment, name_on, nat_eq, option_to_list, order, outcome, queues, refl, same_connection, service_in, shown, shown_by, state_after, subst, sym, takes, told, true, unit, unit_fault, unit_found, untaken, untaken_more, waiting, waits_below, ℕ, ⊎_elim, ◌++◌, ◌∙◌, ◌∷◌, ◌≡◌, ◌≢◌, ◌⊎◌}
use Rattle.mscp_packet.specs.declared.command.Order.TheVariants as orders
use Rattle.mscp_shown.proofs.Effects.{Effects, served_effects}
use Rattle.mscp_shown.proofs.Placing.{at_waiting}
use Rattle.mscp_shown.proofs.Shown.{shown_more}
use Rattle.mscp_shown.proofs.Stating.{Stated, shared_stated, stated_change, stated_push}
use Rattle.mscp_shown.proofs.Strict.{AreStated}
use Rattle.mscp_shown.proofs.Suiting.{IsFault}
use Rattle.mscp_shown.proofs.Standing.{Shares, Stands, nothing_stands, waits_more}

-- ---- a step
-- only an ONLINE brings a unit online
stays_off : (o : Order) (status : ℕ) → o ≢ orders.Online → state_after false o status ≡ false
stays_off order status n = grind arith

comes_on : (old : Bool) (o : Order) (status : ℕ) → state_after old o status ≡ true
    → (old ≡ true) ⊎ (o ≡ orders.Online)
comes_on old order status h = grind arith

is_online_order : (o : Order) → (o ≡ orders.Online) ⊎ (o ≢ orders.Online)
is_online_order order = grind arith

module _ (c : Settings) (t : Trace) (m : Moment) (known : Known c t) (h : Stands c t)
    (queued : AllByRecursion (λ x. is_queued c (command t x) ≡ true) (waiting t)) where
  abbrev after : Trace
  after = t ++ m ∷ []

  -- the unit of this number stays as it is, or the end brings it online
  module _ (s : Service) (k : Block) (y : ℕ) (front back : List ℕ) (step : Step c t m s k y front back) (e : End)
      (ended : s.ended ≡ Some e) (fault : IsFault k) where
    abbrev here : ℕ
    here = unit t y

    new_state : is_online after here ≡ state_after (is_online t here) (order t y) e.status
    new_state = is_online_ended c t m s k y front back e step ended

    other_state : (unit : ℕ) → nat_eq here unit ≡ false → is_online after unit ≡ is_online t unit
    other_state unit n = is_online_other c t m s k y front back unit step (eqb-false here unit n)

    queued_y : is_queued c (command t y) ≡ true
    queued_y = at_waiting (λ x. is_queued c (command t x) ≡ true) t queued y step.served.waits

    is_outcome : e ≡ outcome c t k y
    is_outcome = grind arith

    its_unit : e.unit ≡ here
    unfolding outcome
    its_unit = ap (λ (z : End). z.unit) is_outcome

    effects : Effects (is_online t here) (is_online after here) e.code e.status
    unfolding outcome
    effects =
        let o = outcome c t k y in
        let of = served_effects c (is_online t here) (command t y) (good t y) k queued_y fault in
        subst (λ b. Effects (is_online t here) b e.code e.status) (sym new_state)
        (subst (λ (z : End). Effects (is_online t here) (state_after (is_online t here) (order t y) z.status) z.code
        z.status) (sym is_outcome) of)

    effects_on : (unit : ℕ) → nat_eq e.unit unit ≡ true
        → Effects (is_online t unit) (is_online after unit) e.code e.status
    effects_on unit q = grind (arith, its_unit, effects)

    apart_from : (unit : ℕ) → nat_eq e.unit unit ≡ false → is_online t unit ≡ false → is_online after unit ≡ false
    apart_from unit n off = other_state unit (ap (λ u. nat_eq u unit) (sym its_unit) ∙ n) ∙ off

    -- to the host whose command it is
    own_stated : (unit : ℕ) → Stated unit (is_online after unit) (told (shown t) s.connection unit).state
        (untaken c s.connection t ++ e ∷ [])
    own_stated unit =
        stated_push unit (is_online t unit) (is_online after unit) (told (shown t) s.connection unit).state
        (untaken c s.connection t) e (effects_on unit) (apart_from unit) (h.stated s.connection unit)

    -- and to the other
    y_shares : Shares (shown t) (moment t y)
    y_shares = at_waiting (λ x. Shares (shown t) (moment t x)) t h.shared y step.served.waits

    other_stated : (via : Connection) → same_connection s.connection via ≡ false → (unit : ℕ)
        → Stated unit (is_online after unit) (told (shown t) via unit).state (untaken c via t)
    unfolding command
    other_stated via side unit = by_unit (nat_eq here unit) refl
      where
        off_or_shared : Stated here (is_online after here) (told (shown t) via here).state (untaken c via t)
        off_or_shared = grind (arith, y_shares, shared_stated, stated_change, new_state, stays_off, is_online_order)

        by_unit : (b : Bool) → nat_eq here unit ≡ b
            → Stated unit (is_online after unit) (told (shown t) via unit).state (untaken c via t)
        by_unit b q = grind (arith, off_or_shared, other_state)

    still_there : (unit : ℕ) → is_online after unit ≡ true → unit_fault (unit_found c unit) ≡ None
    still_there unit on = by_unit (nat_eq here unit) refl
      where
        here_found : order t y ≡ orders.Online → unit_fault (unit_found c here) ≡ None
        here_found o = grind (arith, queued_y)

        by_unit : (b : Bool) → nat_eq here unit ≡ b → unit_fault (unit_found c unit) ≡ None
        by_unit true q =
            let same = eqb-true here unit q in
            subst (λ u. unit_fault (unit_found c u) ≡ None) same
            (⊎_elim (λ old. h.there here old) here_found
            (comes_on (is_online t here) (order t y) e.status
            (sym new_state ∙ (ap (is_online after) same ∙ on))))
        by_unit false q = h.there unit (sym (other_state unit q) ∙ on)

  -- a step
  step_of : (s : Service) (k : Block) (y : ℕ) → service_in m.1 ≡ Some s → IsServed c t k s y
      → (front : List ℕ) × (back : List ℕ) × Step c t m s k y front back
  step_of s k y e v =
      let z = cut t y (waits_below t y v.waits) v.waits in
      let serves : Serves t m s y z.0 z.1 = record {
        among = alone t y z.0 z.1 known.steady.apart z.2;
        is = e;
        same = λ i. name_on (v.connection i) (v.reference i);
      } in
      (z.0, z.1, record { served = v; serves = serves; changes = changes t m s y z.0 z.1 serves })

  pub step_stands : (s : Service) (k : Block) (y : ℕ) → service_in m.1 ≡ Some s → IsServed c t k s y → IsFault k
      → shown_by m.0 m.1 ≡ [] → ((via : Connection) → ends_at c via t m
      ≡ (if same_connection s.connection via then option_to_list s.ended else []))
      → ((via : Connection) → takes via m.1 ≡ false) → queues m.1 ≡ false → Stands c after
  step_stands s k y e v fault nothing at q late = by_end s.ended refl
    where
      st : Step c t m s k y (step_of s k y e v).0 (step_of s k y e v).1
      st = (step_of s k y e v).2

      is : shown after ≡ shown t
      is = shown_more t m ∙ ap (λ w. shown t ++ w) nothing ∙ append-nil (shown t)

      left_of : (via : Connection) → untaken c via after ≡ untaken c via t ++ ends_at c via t m
      left_of via = untaken_more c via t m (q via) (known.room.taken via)

      same_all : s.ended ≡ None → (unit : ℕ) → is_online after unit ≡ is_online t unit
      same_all none unit_of = grind (arith, step_of, is_online_unended, st, is_online_other)

      no_end : (here : Bool) (none : List End) → (if here then none else none) ≡ none
      no_end here none = grind arith

      ended_by : (end : End) → s.ended ≡ Some end → (via : Connection) (unit : ℕ) (here : Bool)
          → same_connection s.connection via ≡ here
          → Stated unit (is_online after unit) (told (shown t) via unit).state
          (untaken c via t ++ (if here then option_to_list s.ended else []))
      ended_by end ended via unit_of true side = grind (arith, own_stated, step_of, st)
      ended_by end ended via unit_of false side =
          subst (Stated unit_of (is_online after unit_of) (told (shown t) via unit_of).state)
          (sym (append-nil (untaken c via t)))
          (other_stated s k y (step_of s k y e v).0 (step_of s k y e v).1 st end ended fault via side unit_of)

      by_end : (o : Option End) → s.ended ≡ o → Stands c after
      by_end None none =
          nothing_stands c t m known h (same_all none) nothing
          (λ via. at via ∙ (ap (λ o. if same_connection s.connection via then option_to_list o else []) none
          ∙ no_end (same_connection s.connection via) [])) q late
      by_end (Some end) ended = record {
        stated = λ via unit_of. rw is
            (subst (Stated unit_of (is_online after unit_of) (told (shown t) via unit_of).state)
            (sym (left_of via ∙ ap (λ es. untaken c via t ++ es) (at via))) (ended_by end ended via unit_of
            (same_connection s.connection via) refl));
        there = still_there s k y (step_of s k y e v).0 (step_of s k y e v).1 st end ended fault;
        shared = rw is (waits_more t m (shown t) h.shared (λ e. absurd (false≢true (sym late ∙ e))));
        controller = λ n e'. h.controller n (sym (ap controller_of is) ∙ e');
        are = subst AreStated (sym is) h.are;
      }
