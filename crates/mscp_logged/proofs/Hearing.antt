-- Behind a message that a port read no end that waits has passed a command that it had to wait for.
use Rattle.mscp_logged.proofs.Common.{All, AllByRecursion, Answers, Bool, Command, Decided, End, First, Fitting, Gets, Hears, Holdings, IsNoReset, IsNothing, IsText, IsValid, Kept, List, None, Ok, Option, Order, Port, Queues, Record, Settings, Some, Verdict, WasRead, [], aborted_record, answer_decided, answer_ends, answer_told, answered_code, answered_end, ap, apart_numbers, arith, bare_same, command_of, decided_code, drive_of, end_named, ends_formality, ends_of, eq-eqb, eqb-true, false, figure_polled, filter, formal_queued, fresh_record, handed, handed_coded, has_number, inl, inr, is_apart, is_formality, is_immediate, is_numbered, is_of, is_some, its_own, map, nat_eq, no_other, no_such, none_of_it, not, num, option_map, option_to_list, or_right, order_fault, queued_open, read_is, record_aborted, refl, since, slice_index, sole_left, some_none, status_told, sym, taken_by, true, unaborted, unit_found, ℕ, ◌%◌, ◌++◌, ◌<◌, ◌^◌, ◌||◌, ◌∙◌, ◌∷◌, ◌≡◌, ◌⊎◌}
use Rattle.mscp_packet.specs.declared.command.Order.TheVariants as orders
use Rattle.mscp_drive.specs.declared.block.Block.TheVariants as blocks
use Rattle.mscp_port.specs.declared.verdict.Verdict.TheVariants as verdicts
use Rattle.mscp_ported.proofs.Tables.{answer_by}
use Rattle.mscp_logged.proofs.Clear.{AreClear, IsClear, is_ended, none_ended, ordered_answered, ordered_as, ordered_queued, unended, without}
use Rattle.mscp_logged.proofs.Fences.{aborted_apart, plain_code, reply_clear}
use Rattle.mscp_logged.proofs.Ordering.{OrderedIn, became, stays}
use Rattle.mscp_logged.proofs.Passes.{Unplaced, all_fewer, keeps, none_any, passes_unplaced, unplaced_new}
use Rattle.mscp_logged.proofs.Queueing.{NoneBehind, behind_left}

-- ---- a command that is queued

-- is to a unit that is there
known_unit : (c : Settings) (unit : ℕ) (o : Order) → is_immediate o ≡ false → order_fault c unit o ≡ None
    → is_some (unit_found c.units unit) ≡ true
known_unit c unit o waits sound = grind arith

-- ---- a command that is aborted

module _ (rs : List Record) where
  left_behind : (order : Order) (a b : ℕ) → NoneBehind a b rs → NoneBehind a b (unaborted First rs order)
  left_behind order a b h = grind (arith, behind_left)

  left_before : (order : Order) (n : ℕ) (r : Record) → filter (is_numbered n) (unaborted First rs order) ≡ r ∷ []
      → filter (is_numbered n) rs ≡ r ∷ []
  left_before (orders.Abort m) n r e = by (nat_eq m n) refl
    where
      by : (b : Bool) → nat_eq m n ≡ b → filter (is_numbered n) rs ≡ r ∷ []
      by true is = absurd (some_none r [] (sym e ∙ rw (← eqb-true m n is) (none_of_it (is_numbered m) rs)))
      by false is = grind (arith, sole_left, apart_numbers)
  left_before order n r e = e

-- ---- a message

module _ {c : Settings} {Told : Verdict → Record → Type 0} {K : Type 0} (bytes : List ℕ) (done : Unit)
    (old new : Port K) (aw : List (List ℕ)) (k : Kept old aw)
    (f : Fitting c Told old aw) (o : OrderedIn c old aw) (r : Hears bytes old (Ok done) new)
    (small : (i : ℕ) → slice_index bytes i < 2 ^ 8)
    (valid : IsValid c) (sizes : All (λ unit. 0 < unit.size) c.units) (settings : old.controller.settings ≡ c) where
  abbrev After : Type 0
  After = OrderedIn c new (since new.stage (WasRead bytes (Ok done)) aw (taken_by (WasRead bytes (Ok done)) old))

  calm : IsNoReset (WasRead bytes (Ok done))
  calm = record { texts = λ s xs ys. refl }

  abbrev Fits : Type 0
  Fits = OrderedIn c new (aw ++ bytes ∷ [])

  -- the controller took it
  module _ (g : Gets bytes done old new) where
    abbrev h : Holdings K
    h = old.controller

    abbrev command : Command
    command = command_of (handed old.controller.settings.units bytes)

    abbrev n : ℕ
    n = num bytes 0 4

    is_text : IsText bytes
    is_text = record { long = g.long; small = small }

    nothing : IsNothing aw h.waiting (ends_of h) n
    nothing = no_such g k

    no_end : is_ended (ends_of h) bytes ≡ false
    no_end = none_ended bytes (ends_of h) nothing.2

    -- it is queued
    queued_so : Queues g.slot bytes old new → Fits
    queued_so q = ordered_as c (aw ++ bytes ∷ []) (h.waiting ++ fresh_record First command ∷ []) new.controller.waiting
        (ends_of h) (ends_of new.controller) old.decided.items new.decided.items (ap (λ (x : Holdings K). x.waiting)
        q.holds) (ap (λ (x : Holdings K). ends_of x) q.holds) q.sends.decided (ordered_queued c aw h.waiting (ends_of h)
        old.decided.items o bytes no_end (fresh_record First command) nothing.1 (none_any (has_number n) aw nothing.0)
        (its_own g k) (no_other g k) refl (rw (← settings) (known_unit h.settings command.unit command.order
        (queued_open h.settings command q.later).waits (queued_open h.settings command q.later).sound)))

    -- or it is answered at once
    module _ (a : Answers g.slot bytes old new) where
      abbrev own : End
      own = answered_end First h command

      abbrev aborted : Option Record → List End
      aborted x = option_to_list (option_map aborted_record x)

      abbrev made : End → Decided
      made = answer_by old new

      own_named : own.reference ≡ n
      own_named = end_named g

      bare : filter (is_of First own.reference) old.buffers.items ≡ []
      bare = ap (λ m. filter (is_of First m) old.buffers.items) own_named ∙ (f.kept n).none nothing.1

      own_code : (answer_by old new own).code ≡ own.code
      own_code = grind (arith, decided_code, bare_same, bare)

      plain : is_formality (slice_index bytes 8) ≡ false
      plain = by (is_formality (slice_index bytes 8)) refl
        where
          by : (x : Bool) → is_formality (slice_index bytes 8) ≡ x → x ≡ false
          by x e = grind (arith, formal_queued)

      informal : ends_formality own.code ≡ false
      informal = grind (arith, plain_code, plain, answered_code, handed_coded)

      -- it waits for none, or says what may be said at once
      own_clear : (ts : List (List ℕ) → List (List ℕ))
          → ((P : List ℕ → Type 0) → AllByRecursion P (aw ++ bytes ∷ [])
          → AllByRecursion P (ts (aw ++ bytes ∷ [])))
          → IsClear (ts (aw ++ bytes ∷ [])) own (made own)
      own_clear ts all = by (reply_clear h.settings (drive_of h.drives command.unit).online
          (figure_polled h.settings First h.waiting command.order) bytes is_text plain a.immediate own.code informal
          (answer_told old new own).0)
        where
          by : (is_apart (status_told (verdicts.Served blocks.Good) own.code own.status
              (answer_told old new own).0 % 32) ≡ true) ⊎ ((u : List ℕ) → keeps bytes u ≡ false)
              → IsClear (ts (aw ++ bytes ∷ [])) own (made own)
          by (inl apart) = inl (ap (λ x. is_apart (x % 32)) ((answer_told old new own).1
              ∙ ap (λ x. status_told (verdicts.Served blocks.Good) x own.status (answer_told old new own).0) own_code)
              ∙ apart)
          by (inr free) = inr (passes_unplaced (has_number own.reference) keeps (ts (aw ++ bytes ∷ []))
              (all (Unplaced (has_number own.reference) keeps) (unplaced_new (has_number own.reference) keeps aw bytes
              (ap (λ m. filter (has_number m) aw) own_named ∙ nothing.0) free)))

      all_clear : (x : Option Record) → AreClear (unended (ends_of h) (aw ++ bytes ∷ [])) (aborted x ++ own ∷ [])
          (map made (aborted x ++ own ∷ []))
      all_clear None = (
        own_clear (unended (ends_of h))
            (λ P all. all_fewer P (λ t. not (is_ended (ends_of h) t)) (aw ++ bytes ∷ []) all),
        tt,
      )
      all_clear (Some x) = (
        inl (ap (λ x. is_apart (x % 32)) (answer_told old new (aborted_record x)).1
            ∙ aborted_apart (made (aborted_record x)).code (answer_told old new (aborted_record x)).0),
        (
          own_clear (λ ts. without x.command.reference (unended (ends_of h) ts))
              (λ P all. all_fewer P (λ t. not (has_number x.command.reference t))
              (unended (ends_of h) (aw ++ bytes ∷ []))
              (all_fewer P (λ t. not (is_ended (ends_of h) t)) (aw ++ bytes ∷ []) all)),
          tt,
        ),
      )

      own_ended : (xs ys : List End) → is_ended (xs ++ (ys ++ own ∷ [])) bytes ≡ true
      own_ended [] [] = ap (λ b. b || false) (eq-eqb n own.reference (sym own_named))
      own_ended [] (y ∷ ys) = or_right (has_number y.reference bytes) _ (own_ended [] ys)
      own_ended (x ∷ xs) ys = or_right (has_number x.reference bytes) _ (own_ended xs ys)

      answered_so : Fits
      answered_so =
          let x = record_aborted First h.waiting command.order in
          ordered_as c (aw ++ bytes ∷ []) (unaborted First h.waiting command.order) new.controller.waiting
          (ends_of h ++ (aborted x ++ own ∷ [])) (ends_of new.controller)
          (old.decided.items ++ map made (aborted x ++ own ∷ [])) new.decided.items
          (ap (λ (y : Holdings K). y.waiting) a.holds) (answer_ends a)
          (answer_decided a f.long)
          (ordered_answered c aw h.waiting (ends_of h) old.decided.items o (unaborted First h.waiting command.order)
          (aborted x ++ own ∷ []) (map made (aborted x ++ own ∷ [])) f.long (left_behind h.waiting command.order)
          (λ m z e. o.own m z (left_before h.waiting command.order m z e)) bytes no_end
          (own_ended (ends_of h) (aborted x)) (all_clear x))

    gets_so : After
    gets_so = became (WasRead bytes (Ok done)) old new aw o calm (aw ++ bytes ∷ []) (ap (λ xs. aw ++ xs) g.taken)
        (elim g.how [ inl q ↦ queued_so q | inr a ↦ answered_so a ])

  pub read_ordered : After
  read_ordered = elim (read_is bytes done old new r) [
    | inl s ↦ stays (WasRead bytes (Ok done)) old new aw o calm refl s.1 s.0
    | inr g ↦ gets_so g
  ]
