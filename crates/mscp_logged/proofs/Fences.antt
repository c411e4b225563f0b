-- Where a message keeps a later one back, no step serves the later one's command before that of the first ended; and a
-- message that is answered at once waits for none, or ends with a status that may come at once.
use Rattle.mscp_logged.proofs.Common.{AllByRecursion, Block, Bool, IsCodeFor, IsOf, IsText, IsUnitIn, List, None, Option, Order, Record, Says, Sent, Settings, Some, Volume, [], and_parts, ap, arith, asks_next, command_of, cond, ends_formality, eq-eqb, eqb-true, false, false≢true, fault_of, fences, filter, formal_status, handed, has_number, inl, inr, is_apart, is_formality, is_immediate, is_numbered, is_queued, list_all, list_any, nat_eq, not, num, or_right, other_one, own_end, own_end_with, queued_open, refl, refused_apart, slice_index, some_none, status_after, status_told, subst, sym, this_one, true, unit_state, valid_order, ℕ, ◌%◌, ◌&&◌, ◌++◌, ◌==◌, ◌||◌, ◌∙◌, ◌∷◌, ◌≡◌, ◌≢◌, ◌⊎◌, port_answers}
use Rattle.mscp_packet.specs.declared.command.Order.TheVariants as orders
use Rattle.mscp_drive.specs.declared.block.Block.TheVariants as blocks
use Rattle.mscp_queue.specs.Orders as queue
use Rattle.mscp_port.specs.declared.verdict.Verdict.TheVariants as verdicts
use Rattle.mscp_wire.specs.Wire as wire
use Rattle.mscp_logged.proofs.Bytes.{handed_says, of_unit}
use Rattle.mscp_logged.proofs.Lined.{any_as}
use Rattle.mscp_logged.proofs.Passes.{any_all, both_none, keeps, overtakes}
use Rattle.mscp_logged.proofs.Queueing.{InOrder, NoneBehind, behind_is}
use Rattle.mscp_ported.proofs.Rows.{formal_opcode}

-- ---- orders and opcodes

says_sequential : (o : Order) (s : Sent) → Says o s → ((byte why : ℕ) → o ≢ orders.Invalid byte why)
    → wire.is_sequential s.opcode ≡ true → queue.is_sequential o ≡ true
says_sequential order s says valid e = grind arith

says_immediate : (o : Order) (s : Sent) → Says o s → is_immediate o ≡ true
    → (wire.is_sequential s.opcode ≡ false) × (wire.is_ordered s.opcode ≡ false)
says_immediate o s says h = grind arith

formal_free : (n : ℕ) → is_formality n ≡ true → wire.is_sequential n ≡ false
unfolding port_answers
formal_free n e =
    formal_opcode (λ n. port_answers n ≡ true → wire.is_sequential n ≡ false) (λ a. refl) (λ a. refl)
    (λ a. grind (arith, a)) n e e

-- a command that waits is sequential, if its message is
of_sequential : (r : Record) (t : List ℕ) → IsOf r t → wire.is_sequential (slice_index t 8) ≡ true
    → queue.is_sequential r.command.order ≡ true
of_sequential r t of e = by (is_formality (slice_index t 8)) refl
  where
    by : (b : Bool) → is_formality (slice_index t 8) ≡ b → queue.is_sequential r.command.order ≡ true
    by true formal = absurd (false≢true (sym (formal_free (slice_index t 8) formal) ∙ e))
    by false plain = rw of.command (says_sequential (command_of (handed of.settings.units t)).order (of_unit t 0)
        (handed_says of.settings.units t of.message plain 0)
        (rw (← of.command) (valid_order of.settings r.command.unit r.command.order (queued_open of.settings r.command
        of.queued).sound)) e)

-- ---- who keeps whom back

fence_of : (a b c d : Bool) → ((a && (b || c)) || (d && b)) ≡ true → (a || b) ≡ true
fence_of a b c d h = grind (arith, false≢true)

-- a message that is no transfer's, nor a sequential command's, waits for none
pub unplaced : (t : List ℕ) → wire.is_sequential (slice_index t 8) ≡ false → wire.is_ordered (slice_index t 8) ≡ false
    → (u : List ℕ) → keeps t u ≡ false
unplaced t p q u = free (nat_eq (num u 4 2) (num t 4 2)) (wire.is_sequential (slice_index u 8))
    (wire.is_sequential (slice_index t 8)) (wire.is_ordered (slice_index t 8)) (wire.is_ordered (slice_index u 8)) p q
  where
    free : (same a b c d : Bool) → b ≡ false → c ≡ false → (same && ((a && (b || c)) || (d && b))) ≡ false
    free same a b c d p q = grind arith

asks_third : (t : List ℕ) → asks_next t ≡ true → slice_index t 8 ≡ 3
asks_third t e = eqb-true (slice_index t 8) 3 (and_parts (slice_index t 8 == 3) (num t 10 2 % 2 == 1) e).0

-- of which unit a command is that keeps another back, or is kept
pub same_unit : (t u : List ℕ) → keeps t u ≡ true → num u 4 2 ≡ num t 4 2
same_unit t u e = eqb-true (num u 4 2) (num t 4 2) (and_parts (nat_eq (num u 4 2) (num t 4 2)) _ e).0

pub unit_later : (unit : ℕ) (t u : List ℕ) → keeps t u ≡ true → IsUnitIn unit t → unit ≡ num t 4 2
unit_later unit t u e x = grind (arith, unplaced, asks_third)

pub unit_earlier : (unit : ℕ) (t u : List ℕ) → keeps t u ≡ true → IsUnitIn unit u → unit ≡ num u 4 2
unit_earlier unit t u e x = grind (arith, asks_third)

-- the command of this message waits
pub record IsWaiting (rs : List Record) (t : List ℕ) : Type 0 where
  pub own : Record
  pub sole : filter (is_numbered (num t 0 4)) rs ≡ own ∷ []
  pub unit : IsUnitIn own.command.unit t
  pub of : IsOf own t

kept_fences : (r z : Record) (t u : List ℕ) → IsUnitIn r.command.unit t → IsOf r t → IsUnitIn z.command.unit u
    → IsOf z u → keeps t u ≡ true → fences r z ≡ true
kept_fences r z t u unit of other_unit other e =
    let units : z.command.unit ≡ r.command.unit = unit_earlier z.command.unit t u e other_unit
    ∙ same_unit t u e ∙ sym (unit_later r.command.unit t u e unit) in
    ap (λ b. b && (queue.is_sequential z.command.order || queue.is_sequential r.command.order))
    (eq-eqb z.command.unit r.command.unit units)
    ∙ by (wire.is_sequential (slice_index u 8)) refl (wire.is_sequential (slice_index t 8)) refl
    (fence_of (wire.is_sequential (slice_index u 8)) (wire.is_sequential (slice_index t 8))
    (wire.is_ordered (slice_index t 8)) (wire.is_ordered (slice_index u 8))
    (and_parts (nat_eq (num u 4 2) (num t 4 2)) _ e).1)
  where
    by : (a : Bool) → wire.is_sequential (slice_index u 8) ≡ a → (b : Bool)
        → wire.is_sequential (slice_index t 8) ≡ b → (a || b) ≡ true
        → (queue.is_sequential z.command.order || queue.is_sequential r.command.order) ≡ true
    by true is b h either = ap (λ x. x || queue.is_sequential r.command.order) (of_sequential z u other is)
    by false is true h either =
        or_right (queue.is_sequential z.command.order) (queue.is_sequential r.command.order) (of_sequential r t of h)
    by false is false h either = absurd (false≢true either)

-- ---- the command that a step serves

all_sole : {X : Type 0} (g f : X → Bool) (xs : List X) (x : X) → list_all g xs ≡ true → filter f xs ≡ x ∷ []
    → g x ≡ true
all_sole g f [] x all sole = absurd (some_none x [] (sym sole))
all_sole g f (y ∷ ys) x all sole = grind (arith, all_sole g f ys x)

module _ (rs xs : List Record) (r0 : Record) (ys : List Record) (whole : rs ≡ xs ++ r0 ∷ ys) (n : ℕ)
    (mine : is_numbered n r0 ≡ true) (free : list_all (λ z. not (fences r0 z)) xs ≡ true) where
  -- the one message doesn't keep the other back
  one_free : (t u : List ℕ) → IsWaiting rs t → IsWaiting rs u → NoneBehind (num u 0 4) n rs → has_number n t ≡ true
      → has_number n u ≡ false → keeps t u ≡ false
  one_free t u later earlier behind is other = by (keeps t u) refl
    where
      a : ℕ
      a = num u 0 4

      is_later : r0 ≡ later.own
      is_later = (this_one (is_numbered n) xs ys r0 later.own (ap (filter (is_numbered n)) (sym whole)
          ∙ subst (λ m. filter (is_numbered m) rs ≡ later.own ∷ []) (eqb-true (num t 0 4) n is) later.sole) mine).1

      apart : (b : Bool) → is_numbered a r0 ≡ b → b ≡ false
      apart false e = refl
      apart true e = grind arith

      in_front : filter (is_numbered a) xs ≡ earlier.own ∷ []
      in_front = elim (other_one (is_numbered a) xs ys r0 earlier.own
          (ap (filter (is_numbered a)) (sym whole) ∙ earlier.sole) (apart (is_numbered a r0) refl)) [
            | inl h ↦ h.0
            | inr h ↦ absurd (some_none earlier.own [] (sym h.1 ∙ behind_is a n xs r0 ys (rw (← whole) behind) mine))
          ]

      by : (b : Bool) → keeps t u ≡ b → keeps t u ≡ false
      by false e = e
      by true e = absurd
          (false≢true
          (sym (ap not (kept_fences r0 earlier.own t u (rw is_later later.unit) (rw is_later later.of) earlier.unit
          earlier.of e)) ∙ all_sole (λ z. not (fences r0 z)) (is_numbered a) xs earlier.own free in_front))

  pub serves_free : (ts : List (List ℕ)) → InOrder ts rs → AllByRecursion (IsWaiting rs) ts → overtakes n ts ≡ false
  serves_free [] order all = refl
  serves_free (u ∷ us) order all = both_none
      (cond (has_number n u) false (list_any (λ t. has_number n t && keeps t u) us)) (overtakes n us)
      (by (has_number n u) refl) (serves_free us order.1 all.1)
    where
      none : has_number n u ≡ false → (b : Bool) → list_any (λ t. has_number n t && keeps t u) us ≡ b → b ≡ false
      none other b e = grind (arith, any_all, and_parts, false≢true, one_free, any_as)

      by : (b : Bool) → has_number n u ≡ b → cond b false (list_any (λ t. has_number n t && keeps t u) us) ≡ false
      by b is = grind (arith, none)

-- ---- what is answered at once

is_not : (status n : ℕ) → is_apart (n % 32) ≡ false → is_apart (status % 32) ≡ true → (b : Bool)
    → nat_eq status n ≡ b → b ≡ false
is_not status n apart is b e = grind arith

pick : (a b x y : Bool) (u v n : ℕ) → x ≡ false → y ≡ false → cond (a && x) u (cond (b && y) v n) ≡ n
pick a b x y u v n p q = grind arith

after_apart : (block : Block) (code status : ℕ) (v : Volume) → is_apart (status % 32) ≡ true
    → status_after (verdicts.Served block) code status v ≡ status
after_apart block code status v is = pick (code == 0x83) (code == 0x89) (status == 0 || status == 4)
    (status == 0 || status == 0x0100) (unit_state v) (cond v.is_mounted 0x0100 0) status
    (both_none (status == 0) (status == 4) (is_not status 0 refl is (status == 0) refl)
    (is_not status 4 refl is (status == 4) refl))
    (both_none (status == 0) (status == 0x0100) (is_not status 0 refl is (status == 0) refl)
    (is_not status 0x0100 refl is (status == 0x0100) refl))

-- one that was aborted is told so
pub aborted_apart : (code : ℕ) (v : Volume)
    → is_apart (status_told (verdicts.Served blocks.Good) code 2 v % 32) ≡ true
aborted_apart code v = grind arith

-- the code of a message that is no formality is that of none
pub plain_code : (code : ℕ) (t : List ℕ) → is_formality (slice_index t 8) ≡ false → IsCodeFor code t
    → ends_formality code ≡ false
unfolding port_answers
plain_code code t plain x = grind arith

apart_of : (status : ℕ) → (status % 32 ≡ 1) ⊎ (status % 32 ≡ 3) → is_apart (status % 32) ≡ true
apart_of status x = grind arith

pub reply_clear : (c : Settings) (online : Bool) (figure : ℕ) (t : List ℕ) → IsText t
    → is_formality (slice_index t 8) ≡ false → is_queued c (command_of (handed c.units t)) ≡ false → (code : ℕ)
    → ends_formality code ≡ false → (v : Volume) → (is_apart (status_told (verdicts.Served blocks.Good) code
    (own_end c online figure (command_of (handed c.units t))).status v % 32) ≡ true)
    ⊎ ((u : List ℕ) → keeps t u ≡ false)
reply_clear c online figure t message plain quick code formal v =
    by (fault_of c (command_of (handed c.units t))) refl
  where
    o : Order
    o = (command_of (handed c.units t)).order

    says : Says (command_of (handed c.units t)).order (of_unit t 0)
    says = handed_says c.units t message plain 0

    at_once : fault_of c (command_of (handed c.units t)) ≡ None
        → is_immediate (command_of (handed c.units t)).order ≡ true
    at_once none = grind arith

    by : (f : Option ℕ) → fault_of c (command_of (handed c.units t)) ≡ f
        → (is_apart (status_told (verdicts.Served blocks.Good) code
        (own_end_with c online figure (command_of (handed c.units t)) f).status v % 32) ≡ true)
        ⊎ ((u : List ℕ) → keeps t u ≡ false)
    by None is = grind (arith, says_immediate, says, at_once, unplaced)
    by (Some status) is =
        let apart = apart_of status (refused_apart c (command_of (handed c.units t)).unit status
        (command_of (handed c.units t)).order (of_unit t 0) says is) in
        inl (ap (λ b. is_apart (cond b (formal_status status)
        (status_after (verdicts.Served blocks.Good) code status v) % 32)) formal
        ∙ ap (λ n. is_apart (n % 32)) (after_apart blocks.Good code status v apart) ∙ apart)
