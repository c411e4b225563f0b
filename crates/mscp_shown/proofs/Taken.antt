-- So does an answer, and what a host takes.
use Rattle.mscp_shown.proofs.Common.{AllByRecursion, Answer, ArrayVec, Bool, Connection, End, Entry, Event, IsOfKind, Known, List, Moment, None, Sent, Settings, Some, Told, Trace, Wired, [], aborted, aborted_end, answer, answer_by, ap, append-nil, arith, brings, command, command_of, controller_after, controller_of, each_push, end_bytes, eq-eqb, every_append, every_weaker, false, false≢true, figure_asked, fold_push, good, is_online, is_online_kept, is_queued, map, moment, num, own_end, refl, same_connection, sent_by, sent_bytes, settles, shown, subst, suits_state, sym, told, told_after_end, told_push, true, unit, untaken, untaken_more, waiting, ℕ, ◌&&◌, ◌++◌, ◌∙◌, ◌∷◌, ◌≡◌}
use Rattle.mscp_wire.specs.Wire as wire
use Rattle.mscp_wire.specs.Wire.{outstanding}
use Rattle.mscp_wire.specs.declared.moment.Moment.TheVariants as moments
use Rattle.mscp_shown.proofs.Effects.{Effects, brings_of, own_effects}
use Rattle.mscp_shown.proofs.Identity.{controller_read, fits_controller, later_controller, own_identifier}
use Rattle.mscp_shown.proofs.Owed.{untaken_took}
use Rattle.mscp_shown.proofs.Reading.{IsFit, reads}
use Rattle.mscp_shown.proofs.Saying.{sent_says}
use Rattle.mscp_shown.proofs.Shown.{shown_more}
use Rattle.mscp_shown.proofs.Kept.{same_sides}
use Rattle.mscp_shown.proofs.Stating.{Stated, fits_read, shared_end, state_other, stated_unsettled}
use Rattle.mscp_shown.proofs.Strict.{AreStated, IsStated, told_at}
use Rattle.mscp_shown.proofs.Suiting.{own_ends}
use Rattle.mscp_shown.proofs.Standing.{Shares, Stands, waits_more}

-- ---- an answer
module _ (c : Settings) (own : Connection) (t : Trace) (b : List ℕ) (h : Stands c t) where
  abbrev pub Holds : End → Type 0
  Holds e = Effects (is_online t e.unit) (is_online t e.unit) e.code e.status

  each_aborted : (xs : List ℕ) → AllByRecursion Holds (map (λ x. aborted_end (command t x) (good t x)) xs)
  each_aborted [] = tt
  each_aborted (x ∷ xs) = grind (arith, each_aborted xs)

  pub answer_effects : is_queued c (command_of b) ≡ false → AllByRecursion Holds (answer c own t b)
  unfolding answer
  answer_effects q =
      let k = command_of b in
      let online = is_online t k.unit in
      let figure = figure_asked c own t k.order in
      let e = own_end c online figure k in
      let made = own_ends c online figure k q in
      every_append Holds (map (λ x. aborted_end (command t x) (good t x)) (aborted c own t k)) (e ∷ [])
      (each_aborted (aborted c own t k)) (
        rw made.unit (own_effects c online figure k (sent_by own b) q (sent_says own b) (h.there k.unit)),
        tt,
      )

-- ---- a take
never : (b : Bool) → (b && false) ≡ false
never b = grind arith

-- an end that isn't settled brings nothing online
unsettled_brings : (xs : List Sent) (a : Answer) → settles xs a ≡ false → brings a ≡ false
unsettled_brings xs a h = grind (arith, never)

module _ (c : Settings) (t : Trace) (own : Connection) (b : ArrayVec ℕ) (known : Known c t) (h : Stands c t)
    (e : End) (rest : List End) (us : untaken c own t ≡ e ∷ rest) (bytes : b.items ≡ end_bytes e)
    (kind : IsOfKind e) (fit : IsFit c e) where
  abbrev taking : Moment
  taking = (Event.Take own, Entry.Taken own (Some b))

  abbrev w : Wired
  w = moments.End own b

  abbrev settled : Bool
  settled = settles (outstanding (shown t)) (answer_by own (end_bytes e))

  told_then : (via : Connection) (unit : ℕ)
      → told (shown t ++ w ∷ []) via unit
      ≡ told_after_end via unit settled (told (shown t) via unit) (answer_by own (end_bytes e))
  told_then via unit =
      told_push (shown t) w via unit
      ∙ ap (λ l. told_after_end via unit (settles (outstanding (shown t)) (answer_by own l)) (told (shown t) via unit)
      (answer_by own l)) bytes

  head_fits : suits_state (told (shown t) own (num b.items 4 2)).state (answer_by own b.items) ≡ true
  head_fits =
      let r = reads c own e fit in
      let unit : num b.items 4 2 ≡ e.unit = ap (λ l. num l 4 2) bytes ∙ r.unit in
      let t0 = told (shown t) own e.unit in
      let first = (subst (Stated e.unit (is_online t e.unit) t0.state) us (h.stated own e.unit)).0
      (eq-eqb e.unit e.unit refl) in
      ap (λ u. suits_state (told (shown t) own u).state (answer_by own b.items)) unit
      ∙ (ap (λ l. suits_state t0.state (answer_by own l)) bytes ∙ fits_read c own e fit t0 first)

  controller_told : (n : ℕ) → (answer_by own b.items).controller ≡ Some n → n ≡ own_identifier c
  controller_told n q =
      controller_read c own e kind fit.controls (reads c own e fit).status n
      (sym (ap (λ l. (answer_by own l).controller) bytes) ∙ q)

  pub take_stands : Stands c (t ++ taking ∷ [])
  take_stands =
      let is : shown (t ++ taking ∷ []) ≡ shown t ++ w ∷ [] = shown_more t taking in
      let online : (unit : ℕ) → is_online (t ++ taking ∷ []) unit ≡ is_online t unit =
      λ unit. is_online_kept t taking unit refl in
      record {
        stated = λ via unit. rw is
            (rw (online unit) (rw (told_then via unit) (by_side via unit (same_connection own via) refl)));
        there = λ unit on. h.there unit (sym (online unit) ∙ on);
        shared = subst (λ l. AllByRecursion (λ x. Shares l (moment (t ++ taking ∷ []) x)) (waiting (t ++ taking ∷ [])))
            (sym is)
            (waits_more t taking (shown t ++ w ∷ [])
            (every_weaker (λ x. Shares (shown t) (moment t x)) (λ x. Shares (shown t ++ w ∷ []) (moment t x))
            (λ x k o via s.
            let u = (command_of (sent_bytes (moment t x).0)).unit in
            ap (λ (z : Told). z.state) (told_push (shown t) w via u)
            ∙ shared_end via u (settles (outstanding (shown t)) (answer_by own b.items)) (told (shown t) via u)
            (answer_by own b.items) (k o via s))
            (waiting t) h.shared)
            (λ q. absurd (false≢true q)));
        controller = λ n q.
            later_controller c (answer_by own b.items).controller (controller_of (shown t)) controller_told h.controller
            n (sym (fold_push controller_after None (shown t) w) ∙ (sym (ap controller_of is) ∙ q));
        are = subst AreStated (sym is)
            (each_push moments.Reset (λ h w. IsStated (told_at (told h) (controller_of h) w) w) (shown t) w h.are (
              head_fits,
              fits_controller c (controller_of (shown t)) (answer_by own b.items).controller h.controller
                  controller_told,
            ));
      }
    where
      -- what its own host is told
      own_told : (unit : ℕ) (sure : Bool) → settled ≡ sure
          → Stated unit (is_online t unit)
          (told_after_end own unit sure (told (shown t) own unit) (answer_by own (end_bytes e))).state rest
      own_told unit true q = grind arith
      own_told unit false q = rw (state_other c own e fit own unit false (told (shown t) own unit)
          (never (wire.same_connection own own))) (stated_unsettled unit (is_online t unit)
          (told (shown t) own unit).state e rest (sym (ap (λ k. brings_of k (answer_by own (end_bytes e)).status)
          (reads c own e fit).code ∙ ap (brings_of e.code) (reads c own e fit).status) ∙ unsettled_brings
          (outstanding (shown t)) (answer_by own (end_bytes e)) q)
          (subst (Stated unit (is_online t unit) (told (shown t) own unit).state) us (h.stated own unit)).1)

      by_side : (via : Connection) (unit : ℕ) (here : Bool) → same_connection own via ≡ here
          → Stated unit (is_online t unit)
          (told_after_end via unit settled (told (shown t) via unit) (answer_by own (end_bytes e))).state
          (untaken c via (t ++ taking ∷ []))
      by_side via unit true side = grind (arith, untaken_took, own_told)
      by_side via unit false side = subst (Stated unit (is_online t unit) (told_after_end via unit settled
          (told (shown t) via unit) (answer_by own (end_bytes e))).state)
          (sym (untaken_more c via t taking side (known.room.taken via) ∙ append-nil (untaken c via t)))
          (rw (state_other c own e fit via unit settled (told (shown t) via unit)
          (ap (λ b. b && settled) (same_sides own via ∙ side))) (h.stated via unit))
