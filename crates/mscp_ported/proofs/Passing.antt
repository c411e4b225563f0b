-- Ends pass on to a host in the order in which they came.
use Rattle.mscp_ported.proofs.Common.{Action, AllByRecursion, Bool, Command, Connection, End, First, Goes, Hears, Holdings, IsOfKind, List, Next, None, Ok, Option, Order, Outcome, PassesOn, Port, Record, Second, Settings, Some, TakesEnd, TakesPoll, Verdict, Wants, WasRead, Went, [], aborted_record, accepted_by, answered_end, ap, append-nil, arith, block_told, command_of, cond, drop, every_append, false, figure_on, filter, find, found_is, given, handed, inl, inr, is_dead, is_queued, length, map, nat_eq, none-some, num, option_map, option_to_list, pending_end, pending_said, record_aborted, record_at, refl, slice_get, slice_index, subst, sym, taken_by, told_end, true, ℕ, ◌++◌, ◌∙◌, ◌∷◌, ◌≡◌, ◌≤◌, ◌⊎◌}
use Rattle.mscp_ported.proofs.Kept.{is_numbered, number_of}
use Rattle.mscp_ported.proofs.Growing.{Grown, begun_one, silent, grown_none, grown_passes}
use Rattle.mscp_port.specs.declared.port.OutgoingKind.TheVariants as kinds
use Rattle.mscp_packet.specs.declared.command.Order.TheVariants as orders
use Rattle.mscp_ported.proofs.Answering.{poll_sent, polled}
use Rattle.mscp_ported.proofs.Awaiting.{Kept}
use Rattle.mscp_ported.proofs.Coming.{brought_for, ends_of}
use Rattle.mscp_ported.proofs.Dealing.{named, next_deals, own, whole}
use Rattle.mscp_ported.proofs.Fitted.{Fitting}
use Rattle.mscp_ported.proofs.Saying.{told_figure}
use Rattle.mscp_ported.proofs.Keeping.{end_number}
use Rattle.mscp_ported.proofs.Numbered.{At, none_found}
use Rattle.mscp_ported.proofs.Awaits.{end_named, served_own}
use Rattle.mscp_ported.proofs.Taking.{NoEnd, says_is}
use Rattle.mscp_ported.proofs.Stepping.{Serves, drive_in, end_served, went_is}
use Rattle.mscp_ported.proofs.Reading.{Answers, Gets, Queues, accepted, answer_ends, ends_aborted, ends_answered, own_end_in, read_is}
use Rattle.mscp_ported.proofs.Opcodes.{first}

-- ---- an end is taken

module _ {c : Settings} {Told : Verdict → Record → Type 0} {K : Type 0} (blocks : Bool) (action : Action)
    (bytes : List ℕ) (old new : Port K) (aw : List (List ℕ))
    (k : Kept old aw) (f : Fitting c Told old aw) (picks : List _ → ℕ → Type 0) (r : Wants picks blocks old action new)
    (shaped : (e : End) → slice_get (ends_of old.controller) 0 ≡ Some e → IsOfKind e) where
  abbrev Passes : Type 0
  Passes = PassesOn (Next blocks action bytes) old new

  not_read : (b : List ℕ) (done : Unit) → Next blocks action bytes ≡ WasRead b (Ok done) → ⊥
  not_read b done e = search (arith, e)

  still : NoEnd old new → Passes
  still n = grown_passes (Next blocks action bytes) old new
      (grown_none (Next blocks action bytes) old new (ap (λ (h : Holdings K). ends_of h) n.controller))
      (silent (Next blocks action bytes) old new aw
      (next_deals blocks action bytes old new aw k picks r shaped) n.begun not_read)
      (λ b done e. absurd (not_read b done e))

  module _ (t : TakesEnd old new) where
    abbrev e : End
    e = t.out.0

    abbrev es : List End
    es = drop 1 (ends_of old.controller)

    is : ends_of old.controller ≡ e ∷ es
    is = whole k t

    pending : pending_said kinds.End (told_end old e) ≡ pending_end e ∷ []
    pending =
        let x = first blocks action bytes old new aw k f picks r t in
        let o = own k t in
        ap (λ n. record {
          number = n;
          figure = cond (nat_eq (slice_index (told_end old e) 8) 0x82) (num (told_end old e) 16 4) 0;
        } ∷ []) (named k t)
        ∙ ap (λ g. record { number = e.reference; figure = g } ∷ [])
        (told_figure old e x.0 x.1 o.0 (shaped e t.out.1) (x.2 o.0 o.1))

    taken_passes : Passes
    taken_passes = grind (arith, begun_one, pending, ends_of, is, append-nil, not_read)

  pub next_passes : Passes
  next_passes = elim (says_is old new r.says) [ inl x ↦ taken_passes x.0 | inr n ↦ still n ]

-- ---- a step

module _ {K : Type 0} (picks : List _ → ℕ → Type 0) (outcome : Outcome) (done : Unit) (old new : Port K)
    (aw : List (List ℕ)) (k : Kept old aw) (r : Goes picks outcome old (Ok done) new)
    (waits : (n : ℕ) (x : Record) → filter (is_numbered n) old.controller.waiting ≡ x ∷ [] → 1 ≤ figure_on old n)
    (lives : is_dead new.stage ≡ false) where
  abbrev pub So : Type 0
  So = Grown (Went outcome (Ok done)) old new

  these : (verdict : Verdict) (s : Serves verdict old new) (via : Connection) (o : Option End)
      → (record_at old.controller.waiting s.place).connection ≡ via → end_served verdict old s.place ≡ o
      → AllByRecursion (λ (e : End). ((text : List ℕ) × (accepted_by (Went outcome (Ok done)) old ≡ text ∷ [])
      × (num text 0 4 ≡ e.reference)) ⊎ (1 ≤ figure_on old e.reference)) (brought_for via o)
  these verdict s First None via given = tt
  these verdict s First (Some e) via given =
      let w = served_own k s via in (
        inr (subst (λ n. 1 ≤ figure_on old n) (sym (end_number (block_told verdict) (drive_in old s.place)
            (record_at old.controller.waiting s.place) e given)) (waits _ w.0.own w.0.sole)),
        tt,
      )
  these verdict s Second o via given = tt

  pub went_grown : So
  went_grown = elim (went_is picks outcome done old new r) [
    | inl s ↦ record {
      brought = brought_for (record_at old.controller.waiting s.2.place).connection (end_served s.0 old s.2.place);
      ends = s.2.ends;
      these = these s.0 s.2 _ _ refl refl;
    }
    | inr more ↦ elim more [
      | inl n ↦ grown_none (Went outcome (Ok done)) old new (ap (λ (h : Holdings K). ends_of h) n.0.0)
      | inr d ↦ absurd (search (arith, lives, ap is_dead d.1.stage))
    ]
  ]

-- ---- a message

module _ {K : Type 0} (bytes : List ℕ) (done : Unit) (old new : Port K) (aw : List (List ℕ)) (k : Kept old aw)
    (r : Hears bytes old (Ok done) new)
    (waits : (n : ℕ) (x : Record) → filter (is_numbered n) old.controller.waiting ≡ x ∷ [] → 1 ≤ figure_on old n)
    (lives : is_dead new.stage ≡ false) where
  abbrev pub Comes : Type 0
  Comes = (g : Grown (WasRead bytes (Ok done)) old new)
      × (TakesPoll (num bytes 12 4) (WasRead bytes (Ok done)) old
      → map pending_end g.brought
      ≡ record { number = num bytes 0 4; figure = figure_on old (num bytes 12 4) } ∷ [])

  none_comes : ends_of new.controller ≡ ends_of old.controller → taken_by (WasRead bytes (Ok done)) old ≡ [] → Comes
  none_comes same none =
      (grown_none (WasRead bytes (Ok done)) old new same, λ t. absurd (search (arith, sym none ∙ t.0)))

  -- the controller takes it
  module _ (g : Gets bytes done old new) where
    abbrev h : Holdings K
    h = old.controller

    abbrev command : Command
    command = command_of (handed old.controller.settings.units bytes)

    abbrev Mine : End → Type 0
    Mine e = ((text : List ℕ) × (accepted_by (WasRead bytes (Ok done)) old ≡ text ∷ [])
        × (num text 0 4 ≡ e.reference)) ⊎ (1 ≤ figure_on old e.reference)

    aborted_mine : (order : Order) → AllByRecursion Mine
        (option_to_list (option_map aborted_record (record_aborted First h.waiting order)))
    aborted_mine (orders.Abort m) = by (find (is_numbered m) h.waiting) refl
      where
        one : (x : Record) → find (is_numbered m) h.waiting ≡ Some x
            → At aw h.waiting (ends_of h) x.command.reference → 1 ≤ figure_on old x.command.reference
        one x found at =
            let number : x.command.reference ≡ m =
            (number_of m x (found_is (is_numbered m) h.waiting x found)).1 in
            let here : find (is_numbered x.command.reference) h.waiting ≡ Some x =
            subst (λ j. find (is_numbered j) h.waiting ≡ Some x) (sym number) found in
            elim at [
              | inl z ↦ absurd (none-some x (sym (none_found (is_numbered x.command.reference) h.waiting z.1) ∙ here))
              | inr more ↦ elim more [
                | inl w ↦ waits x.command.reference w.own w.sole
                | inr z ↦ absurd (none-some x
                    (sym (none_found (is_numbered x.command.reference) h.waiting z.none) ∙ here))
              ]
            ]

        by : (o : Option Record) → find (is_numbered m) h.waiting ≡ o
            → AllByRecursion Mine (option_to_list (option_map aborted_record o))
        by None found = tt
        by (Some x) found = (inr (one x found (k.each x.command.reference)), tt)
    aborted_mine order = tt

    own_mine : Mine (answered_end First h command)
    own_mine = inl (bytes, accepted g, sym (end_named g))

    -- a poll is answered at once, with its figure
    polled_now : slice_index bytes 8 ≡ 2 → 16 ≤ length bytes → (q : Bool) → is_queued h.settings command ≡ q
        → (q ≡ false) × (map pending_end (option_to_list (option_map aborted_record
        (record_aborted First h.waiting command.order)) ++ answered_end First h command ∷ [])
        ≡ record { number = num bytes 0 4; figure = figure_on old (num bytes 12 4) } ∷ [])
    polled_now poll long q e = grind (arith, polled, poll_sent)

    taken_comes : Queues g.slot bytes old new ⊎ Answers g.slot bytes old new → Comes
    taken_comes (inl q) = (
      grown_none (WasRead bytes (Ok done)) old new (ap (λ (x : Holdings K). ends_of x) q.holds),
      λ t. absurd (search (arith, (polled_now t.1 t.2 true q.later).0)),
    )
    taken_comes (inr a) = (
      record {
        brought = ends_answered old bytes;
        ends = answer_ends a;
        these = every_append Mine (ends_aborted old bytes) (own_end_in old bytes ∷ []) (aborted_mine command.order)
            (own_mine, tt);
      },
      λ t. (polled_now t.1 t.2 false a.immediate).1,
    )

  pub read_comes : Comes
  read_comes = elim (read_is bytes done old new r) [
    | inl s ↦ elim s.0 [
      | inl same ↦ none_comes (ap (λ (h : Holdings K). ends_of h) same.0) s.1
      | inr d ↦ absurd (search (arith, lives, ap is_dead d.1.stage))
    ]
    | inr g ↦ taken_comes g g.how
  ]
