-- A take keeps all that holds, and the end that it shows keeps its rules.
use Rattle.mscp_shown.proofs.Common.{AllByRecursion, Answered, ArrayVec, Bool, Connection, End, Entry, Event, First, IsOfKind, IsRight, Known, List, Moment, Out, Settings, Some, Trace, [], and_parts, answer_by, ap, append-nil, arith, cases_lt, command_at, cond, connection, count_by, drop, end_bytes, ends_in, eq-eqb, eqb-true, every_from, every_weaker, false, false≢true, get_or, get_or-take, has_abort, inl, inr, is_apart, is_it, is_long, is_named, keeps_back, length, length-take-le, list_any, name, nat_eq, not, num, one_side, own_side, passes_none, place_of, polled_by, position, position-Some, reference, refl, same_connection, sent_by, shown, status_code, subst, suc, sym, take, true, unit_shape, untaken, untaken_more, waiting, waiting_by, ℕ, ⊎_elim, ◌%◌, ◌&&◌, ◌++◌, ◌+◌, ◌<◌, ◌||◌, ◌∙◌, ◌∷◌, ◌≡◌, ◌≤◌, ◌⊎◌}
use Rattle.mscp_wire.specs.Wire as wire
use Rattle.mscp_wire.specs.declared.moment.Moment.TheVariants as moments
use Rattle.mscp_shown.proofs.Strict.{after_end, outstanding}
use Rattle.mscp_shown.proofs.Aborted.{Aborts, EndsAbort, IsAbort, IsBehind, aborts_after, aborts_rest, any_behind, any_out}
use Rattle.mscp_shown.proofs.Counts.{each_counted, some_place}
use Rattle.mscp_shown.proofs.Owed.{one_if, owed, owed_took, untaken_took}
use Rattle.mscp_shown.proofs.Identity.{IsTold, is_told, same_right, told_more}
use Rattle.mscp_shown.proofs.Suited.{Keeps}
use Rattle.mscp_shown.proofs.Owners.{Fits, IsOwed, IsOwn, every_drop, message, only_after, untold}
use Rattle.mscp_shown.proofs.Owning.{Owners, waits_more}
use Rattle.mscp_shown.proofs.Reading.{IsFit, reads}
use Rattle.mscp_shown.proofs.Shown.{placed, tally, tally_end}
use Rattle.mscp_shown.proofs.Taking.{Takes, long_end, reference_read}
use Rattle.mscp_shown.proofs.Heeded.{figure_right, heard_took}
use Rattle.mscp_shown.proofs.Listening.{Heard}
use Rattle.mscp_shown.proofs.Polling.{figure_told, poll_of}
use Rattle.mscp_shown.proofs.Reading.{Reads}
use Rattle.mscp_shown.proofs.Staying.{none_left}
use Rattle.mscp_shown.proofs.Kept.{Inv, More, every_at, shows_one, still, same_sides}
use Rattle.mscp_shown.proofs.Ordering.{Clear, IsClearOf, Ordered}
use Rattle.mscp_shown.proofs.Staying.{orders_took}
use Rattle.mscp_shown.proofs.Waiting.{Orders}
use Rattle.mscp_shown.proofs.Pairing.{index_pairs, every_index, none_of}

-- an ABORT isn't aborted
abort_apart : (y : Out) (a : Answered) → y.opcode ≡ 1 → status_code a ≡ 2 → wire.has_status y a ≡ true → ⊥
abort_apart y a op code h = grind arith

above : (m n : ℕ) → m ≤ n → (m < n) ⊎ (m ≡ n)
above m n h = ⊎_elim (λ l. inl l) (λ l. inr (omega (arith, h, l))) (cases_lt m n)

-- ---- a take
module _ (c : Settings) (t : Trace) (own : Connection) (b : ArrayVec ℕ) (known : Known c t) (h : Inv c t) where
  abbrev taking : Moment
  taking = (Event.Take own, Entry.Taken own (Some b))

  take_owed : (via : Connection) (p : ℕ → Bool) (e : End) (rest : List End) (here : Bool)
      → same_connection own via ≡ here → untaken c own t ≡ e ∷ rest
      → owed c via (t ++ taking ∷ []) p + cond here (cond (p e.reference) 1 0) 0 ≡ owed c via t p
  take_owed via p e rest true side us = owed_took c via t taking p e rest side refl (λ x. refl) refl
      (ap (λ s. untaken c s t) (sym (one_side own via side)) ∙ us)
  take_owed via p e rest false side us =
      ap (λ n. n + 0) (still c t taking h known via p side refl
      (every_from (λ x. not (ends_in (name t x) taking.1) ≡ true) (λ x. refl) (waiting_by via t)) refl)
      ∙ omega arith

  -- the command that is answered is outstanding
  answers_one : (e : End) (rest : List End) → untaken c own t ≡ e ∷ rest
      → 1 ≤ tally own (λ n. nat_eq n e.reference) (outstanding (shown t))
  answers_one e rest us =
      let there = take_owed own (λ n. nat_eq n e.reference) e rest true (own_side own) us in
      omega (
        arith,
        h.tallied own (λ n. nat_eq n e.reference),
        there,
        ap one_if (eq-eqb e.reference e.reference refl),
      )

  -- it fits its command
  fitting : (e : End) (rest : List End) → untaken c own t ≡ e ∷ rest → (i : ℕ)
      → position (is_named own e.reference) (outstanding (shown t)) ≡ Some i
      → Keeps (command_at (outstanding (shown t)) i) (answer_by own (end_bytes e))
  fitting e rest us i at = grind (arith, outstanding, position-Some, every_at)

  -- and it is the end of a poll if that is one
  polling : (e : End) (rest : List End) → untaken c own t ≡ e ∷ rest → (i : ℕ)
      → position (is_named own e.reference) (outstanding (shown t)) ≡ Some i
      → polled_by (command_at (outstanding (shown t)) i) (answer_by own (end_bytes e)) ≡ poll_of e
  polling e rest us i at = grind (arith, outstanding, position-Some, every_at)

  figure_read : (e : End) (a : Answered) → a ≡ answer_by own (end_bytes e)
      → Reads e (answer_by own (end_bytes e)) → (n : ℕ) → poll_of e ≡ Some n → a.figure ≡ Some (figure_told e)
  figure_read e a is r n q = grind arith

  -- whose the names are that are left
  owners_left : (a : Answered) (i : ℕ) → Owners c (t ++ taking ∷ []) (after_end (outstanding (shown t)) a (Some i))
  owners_left a i =
      let xs = outstanding (shown t) in
      let xs' = after_end xs a (Some i) in
      record {
        waits = waits_more t taking xs'
            (every_weaker (IsOwn t xs) (IsOwn t xs')
            (λ x k. only_after (connection t x) (reference t x) xs (λ s. s ≡ message t x) a i k) (waiting t)
            h.owners.waits)
            (λ e. absurd (false≢true e));
        owed = λ via. left_ends via (λ us. AllByRecursion (IsOwed via xs') us) (every_drop (IsOwed via xs') 1)
            (same_connection own via) refl
            (every_weaker (IsOwed via xs) (IsOwed via xs') (λ e k. only_after via e.reference xs (Fits via e) a i k)
            (untaken c via t) (h.owners.owed via));
        aborts = λ via. left_ends via (Aborts via xs') (aborts_rest via xs') (same_connection own via) refl
            (aborts_after via xs a i (untaken c via t) (h.owners.aborts via));
      }
    where
      left_ends : (via : Connection) (P : List End → Type 0) → ((us : List End) → P us → P (drop 1 us)) → (here : Bool)
          → same_connection own via ≡ here → P (untaken c via t) → P (untaken c via (t ++ taking ∷ []))
      left_ends via P rest true e k = subst P (sym (untaken_took c via t taking e refl)) (rest (untaken c via t) k)
      left_ends via P rest false e k =
          subst P (sym (untaken_more c via t taking e (known.room.taken via) ∙ append-nil (untaken c via t))) k

  -- an aborted command has its ABORT
  abort_there : (e : End) (rest : List End) → untaken c own t ≡ e ∷ rest → (a : Answered) (i : ℕ)
      → i < length (outstanding (shown t)) → (command_at (outstanding (shown t)) i).connection ≡ own
      → (command_at (outstanding (shown t)) i).reference ≡ e.reference → a.status ≡ e.status
      → wire.has_status (command_at (outstanding (shown t)) i) a ≡ true
      → has_abort (drop (i + 1) (outstanding (shown t))) (command_at (outstanding (shown t)) i) a ≡ true
  abort_there e rest us a i low side number status fits =
      let xs = outstanding (shown t) in
      let y = command_at xs i in
      let behind = subst (Aborts own xs) us (h.owners.aborts own) in
      let P : Bool → Type 0 = λ b. nat_eq (status_code a) 2 ≡ b
      → (not b || list_any (wire.aborts y) (drop (i + 1) xs)) ≡ true in
      elim (nat_eq (status_code a) 2) as P [
        | true ↦ λ q.
            let code : e.status % 32 ≡ 2 = ap (λ n. n % 32) (sym status) ∙ eqb-true (status_code a) 2 q in
            let rests = (subst (AllByRecursion (λ (k : End). 1 ≤ tally own (λ n. nat_eq n k.reference) xs)) us
            (all_there (untaken c own t) refl)).1 in
            let found = any_out (EndsAbort own xs e.reference)
            (λ (k : End). 1 ≤ tally own (λ n. nat_eq n k.reference) xs) rest rests (behind.0 code) in
            let one : suc i ≡ i + 1 = omega arith in
            subst (λ n. list_any (wire.aborts y) (drop n xs) ≡ true) one
            (abort_at found.0 (λ apart. abort_apart y a apart (eqb-true (status_code a) 2 q) fits) found.1 found.2)
        | false ↦ λ q. refl
      ] refl
    where
      -- the commands of all untaken ends are outstanding
      all_there : (vs : List End) → vs ≡ untaken c own t
          → AllByRecursion (λ (k : End). 1 ≤ tally own (λ n. nat_eq n k.reference) (outstanding (shown t)))
          vs
      all_there vs e' = every_weaker
          (λ (k : End). 1 ≤ count_by (λ (o : End). nat_eq o.reference k.reference) vs)
          (λ (k : End). 1 ≤ tally own (λ n. nat_eq n k.reference) (outstanding (shown t)))
          (λ k c'. omega (
            arith,
            c',
            h.tallied own (λ n. nat_eq n k.reference),
            ap (count_by (λ (o : End). nat_eq o.reference k.reference)) e',
          ))
          vs
          (each_counted (λ (o k : End). nat_eq o.reference k.reference)
          (λ (k : End). eq-eqb k.reference k.reference refl) vs)

      -- the ABORT itself, which isn't the command that is aborted
      abort_at : (k : End) → ((command_at (outstanding (shown t)) i).opcode ≡ 1 → ⊥)
          → 1 ≤ tally own (λ n. nat_eq n k.reference) (outstanding (shown t))
          → EndsAbort own (outstanding (shown t)) e.reference k
          → list_any (wire.aborts (command_at (outstanding (shown t)) i)) (drop (suc i) (outstanding (shown t))) ≡ true
      abort_at k apart some is =
          let xs = outstanding (shown t) in
          let y = command_at xs i in
          let place = some_place (is_named own k.reference) xs some in
          let found = position-Some (is_named own k.reference) xs place.0 (sent_by First []) place.1 in
          let z = command_at xs place.0 in
          let it = every_at (λ s. is_named own k.reference s ≡ true → IsAbort e.reference (untold s)) xs is.0 place.0
          (sent_by First []) found.0 found.1 in
          let named = and_parts (wire.same_connection z.connection own) (nat_eq z.reference k.reference) found.1 in
          let one : wire.aborts y z ≡ true =
          ap (λ v. wire.same_connection z.connection v && nat_eq z.opcode 1 && is_it z.parameter y.reference) side
          ∙ (ap (λ s. s && nat_eq z.opcode 1 && is_it z.parameter y.reference) named.0
          ∙ (ap (λ o. nat_eq o 1 && is_it z.parameter y.reference) it.0
          ∙ (ap (λ o. is_it o y.reference) it.1 ∙ eq-eqb e.reference y.reference (sym number)))) in
          let named_y : is_named own e.reference y ≡ true =
          ap (λ v. wire.same_connection v own && nat_eq y.reference e.reference) side
          ∙ (ap (λ b. b && nat_eq y.reference e.reference) (same_sides own own ∙ own_side own)
          ∙ eq-eqb y.reference e.reference number) in
          ⊎_elim
          (λ before. absurd (false≢true (sym (index_pairs (IsBehind own e.reference k) xs (sent_by First []) is.1
          place.0 i before low found.1) ∙ named_y)))
          (λ rest. ⊎_elim
          (λ behind. any_behind (wire.aborts y) xs i place.0 (sent_by First []) behind found.0 one)
          (λ same. absurd (apart (ap (λ n. (command_at xs n).opcode) same ∙ it.0)))
          (above i place.0 rest))
          (cases_lt place.0 i)

  -- its command waits for none before it
  waits_for_none : (e : End) (rest : List End) → untaken c own t ≡ e ∷ rest → (a : Answered) (i : ℕ)
      → i < length (outstanding (shown t)) → (command_at (outstanding (shown t)) i).connection ≡ own
      → (command_at (outstanding (shown t)) i).reference ≡ e.reference → a.status ≡ e.status
      → passes_none (take i (outstanding (shown t))) (command_at (outstanding (shown t)) i) a ≡ true
  waits_for_none e rest us a i low side number status =
      let xs = outstanding (shown t) in
      let y = command_at xs i in
      let kept = list_any (keeps_back y) (take i xs) in
      let first = subst (Ordered own xs []) us (h.orders.ordered own) in
      ⊎_elim
      (λ apart. ap (λ n. is_apart (n % 32) || not kept) status ∙ ap (λ b. b || not kept) apart)
      (λ clear. ap (λ b. is_apart (status_code a) || not b) (nobody clear) ∙ or_true (is_apart (status_code a)))
      first.0
    where
      or_true : (b : Bool) → (b || true) ≡ true
      or_true b = grind arith

      nobody : Clear own (outstanding (shown t)) [] e
          → list_any (keeps_back (command_at (outstanding (shown t)) i)) (take i (outstanding (shown t))) ≡ false
      nobody clear =
          let xs = outstanding (shown t) in
          let y = command_at xs i in
          let named : is_named own e.reference y ≡ true =
          ap (λ v. wire.same_connection v own && nat_eq y.reference e.reference) side
          ∙ (ap (λ b. b && nat_eq y.reference e.reference) (same_sides own own ∙ own_side own)
          ∙ eq-eqb y.reference e.reference number) in
          none_of (keeps_back y) (take i xs)
          (every_index (λ s. keeps_back y s ≡ false) (take i xs) (sent_by First [])
          (λ j l.
          let size = length-take-le i xs (omega (arith, low)) in
          let below : j < i = omega (arith, l, size) in
          let s = get_or xs j (sent_by First []) in
          let same : get_or (take i xs) j (sent_by First []) ≡ s = get_or-take i xs j (sent_by First []) below in
          let P : Bool → Type 0 = λ b. keeps_back y s ≡ b → keeps_back y s ≡ false in
          ap (keeps_back y) same
          ∙ elim (keeps_back y s) as P [
            | true ↦ λ q. absurd (false≢true (index_pairs (IsClearOf own [] e) xs (sent_by First []) clear j i below low
                named q))
            | false ↦ λ q. q
          ] refl))

  pub took_more : (e : End) (rest : List End) → IsRight c t (Event.Take own) (Entry.Taken own (Some b))
      → Takes (untaken c own t) b e rest → IsOfKind e → IsFit c e
      → More c t taking
  took_more e rest right took kind fit =
      let xs = outstanding (shown t) in
      let a = answer_by own b.items in
      let items : b.items ≡ end_bytes e = ap (λ (v : ArrayVec ℕ). v.items) took.bytes in
      let number : a.reference ≡ e.reference = ap (λ l. num l 0 4) items ∙ reference_read e fit.reference in
      let some = some_place (is_named own e.reference) xs (answers_one e rest took.is) in
      let at : place_of xs a ≡ Some some.0 = ap (λ n. position (is_named own n) xs) number ∙ some.1 in
      let i = some.0 in
      let fit_there = fitting e rest took.is i some.1 in
      let there = placed xs a i at in
      let status : a.status ≡ e.status =
      ap (λ l. (answer_by own l).status) items ∙ (reads c own e fit).status in
      let here : Keeps (command_at xs i) a =
      subst (λ l. Keeps (command_at xs i) (answer_by own l)) (sym items) fit_there in
      let asks : polled_by (command_at xs i) a ≡ poll_of e =
      ap (λ l. polled_by (command_at xs i) (answer_by own l)) items ∙ polling e rest took.is i some.1 in
      let figure = figure_read e a (ap (answer_by own) items) (reads c own e fit) in
      let left = none_left c own t taking xs a i h.orders at e refl number in
      let told : IsTold c a =
      is_told c own b.items e items kind fit.tells (reads c own e fit).status (reads c own e fit).unit in
      shows_one c t taking h (moments.End own b) refl
      (λ via p.
      let end = tally_end via p xs a i at in
      let whole = ap (λ o. tally via p (after_end xs a o)) at in
      let gone = take_owed via p e rest (same_connection own via) refl took.is in
      let side = ap (λ n. one_if (wire.same_connection own via && p n)) number
      ∙ by_side via (p e.reference) in
      omega (arith, whole, end, gone, side, h.tallied via p))
      (λ credits covers. (
        i,
        record {
          length = ap is_long items ∙ long_end e kind;
          outstanding = at;
          unit = here.unit;
          endcode = here.endcode;
          status = here.status;
          aborted = abort_there e rest took.is a i there.low there.connection (there.reference ∙ number) status
              here.status;
          order = waits_for_none e rest took.is a i there.low there.connection (there.reference ∙ number) status;
          success = here.success;
          about = here.about;
          figure = figure_right c own t taking xs a i e rest took.is at refl number asks figure h.orders.single
              h.tallied
              h.heard left;
          count = here.count;
          identity = same_right (unit_shape c (num b.items 4 2)) (wire.told (shown t) own (num b.items 4 2)) a
              (h.units own (num b.items 4 2)) told.0;
        },
      ))
      (subst (λ o. Owners c (t ++ taking ∷ []) (after_end xs a o)) (sym at) (owners_left a i))
      (subst (λ o. Orders c (t ++ taking ∷ []) (after_end xs a o)) (sym at)
      (orders_took c own t taking xs a i h.orders at known.steady.apart right refl (λ via. refl) (λ via. refl)
      (λ via. known.room.taken via) e rest took.is refl number))
      (subst (λ o. Heard c (t ++ taking ∷ []) (after_end xs a o)) (sym at)
      (heard_took c own t taking xs a i e rest took.is at refl number asks figure h.orders.single h.tallied h.heard left
      refl (λ via. refl) (λ via. refl) (λ via. known.room.taken via)))
      (λ via. tt) (told_more c (shown t) a (wire.settles (wire.outstanding (shown t)) a) h.units told)
    where
      by_side : (via : Connection) (passes : Bool)
          → one_if (wire.same_connection own via && passes) ≡ cond (same_connection own via) (one_if passes) 0
      by_side via passes = grind (arith, same_sides)
