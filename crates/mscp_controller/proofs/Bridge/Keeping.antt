-- What each call keeps of what a controller holds.
use Rattle.mscp_controller.proofs.Basics.{◌≡◌, ℕ, ◌+◌, ◌-◌, ◌<◌, ◌≤◌, List, [], ◌∷◌, map, length, drop, ap, refl, sym, subst, ◌∙◌, arith, slice_get, Option, Some, IfSome, is_some, false≢true, AllByRecursion, length-append, length-drop, End, IsOfKind, Shape, Block, Connection, First, Second, Name, Report, Choice, fresh_drive, units_of, Line, Serves, name_on, Record, without, end_in, every_append, Account, Accounts, CanEnd, account, put_account, reported, taken, untaken_in, Settings, IsValid, credits_of, room, waiting_on, of, IsAccount, IsHeld, each_account, seen_of, some_same, sides_length}
use Rattle.mscp_controller.specs.Accounts.{fresh, left}
use Rattle.mscp_queue.specs.Lines as lines
use Rattle.mscp_controller.proofs.Bridge.Counting.{count_stepped, other_count, own_count}

-- ---- the accounts
-- the limits and the units stay
pub record IsStill {K : Type 0} (old new : Line K) : Type 0 where
  pub room : new.room ≡ old.room
  pub budget : new.budget ≡ old.budget
  pub longest : new.longest ≡ old.longest
  pub units : units_of new.drives ≡ units_of old.drives

held_like : {K : Type 0} {c : Settings} {old new : Line K} {a a' : Accounts} → IsHeld c old a → IsStill old new
    → ((via : Connection) → IsAccount c new.waiting via (account via a')) → IsHeld c new a'
held_like h s e = search arith

still_by : {K : Type 0} {old new : Line K} (ws : List Record) (o : Option Name)
    → new ≡ record old { waiting = ws; begun = o } → IsStill old new
still_by {K} ws o e = search arith

-- an account of which nothing changes, where as many of its commands wait
account_stays : {c : Settings} {ws ws' : List Record} {via : Connection} {own : Account}
    → IsAccount c ws via own → length (waiting_on via ws') ≡ length (waiting_on via ws) → IsAccount c ws' via own
account_stays h e = search arith

-- ---- nothing came
units_fresh : (us : List Shape) → units_of (map fresh_drive us) ≡ us
units_fresh [] = refl
units_fresh (u ∷ us) = ap (λ vs. u ∷ vs) (units_fresh us)

pub held_fresh : {K : Type 0} (c : Settings) (units : List Shape) (room' budget longest : ℕ) (picker : K) (line : Line
    K) (a : Accounts) → IsValid c → units ≡ c.units → room' ≡ room c → budget ≡ c.budget → longest ≡ c.longest → line
    ≡ lines.fresh units room' budget longest picker → a ≡ record { first = fresh; second = fresh } → IsHeld c line a
held_fresh {K} c units room' budget longest picker line a v u r p l e n = search (arith, units_fresh units)

-- ---- a step
few_of : (c : Settings) (via : Connection) → IsValid c → credits_of c via ≤ 64
few_of c via h2 = grind arith

-- there is room for the end that a step brings, and its command is counted
pub can_end : {K : Type 0} (c : Settings) (picks : List Choice → ℕ → Type 0) (k : Block) (old : Line K)
    (report : Report) (new : Line K) (a : Accounts) → IsHeld c old a → Serves picks k old report new → CanEnd report a
can_end c picks k old (Report.Served via reference unit lbn started seek (Some end)) new a h s =
    search (arith, count_stepped via picks k old (Report.Served via reference unit lbn started seek (Some end)) new s)
can_end c picks k old o new a h s = grind arith

pub held_stepped : {K : Type 0} (c : Settings) (picks : List Choice → ℕ → Type 0) (k : Block)
    (old : Line K) (report : Report) (new : Line K) (a : Accounts) → IsHeld c old a → Serves picks k old report new
    → units_of new.drives ≡ units_of old.drives → IfSome (end_in report) IsOfKind → IsHeld c new (reported report a)
held_stepped {K} c picks k old report new a h s u kind =
    search (arith, can_end c picks k old report new a h s, count_stepped, length-append, every_append)

-- ---- a message
-- an end is taken, if there is one
rest_kinds : (es : List End) → AllByRecursion IsOfKind es → AllByRecursion IsOfKind (drop 1 es)
rest_kinds es h1 = grind arith

pub held_taken : {K : Type 0} {c : Settings} {line : Line K} {a : Accounts} (via : Connection) → IsHeld c line a
    → IsHeld c line (put_account via (taken (account via a)) a)
held_taken {K} {c} {line} {a} via h = search (arith, held_like, each_account, length-drop, rest_kinds)

-- ---- an abort
module _ {K : Type 0} {c : Settings} {old new : Line K} {a : Accounts} (via : Connection) (n : ℕ) where
  -- there is room for the end of an aborted command, and the command is counted
  pub can_leave : IsHeld c old a → new ≡ lines.aborting (name_on via n) old → length new.waiting + 1
      ≡ length old.waiting → (1 ≤ (account via a).waiting) × (length (account via a).untaken.items < 64)
  can_leave h e count =
      let less = own_count via n old.waiting (sym (ap (λ (l : Line K). length l.waiting + 1) e) ∙ count) in
      let counted = (h.account via).counted in
      (omega (arith, less, counted), omega (arith, less, counted, (h.account via).covered, few_of c via h.valid))

  pub held_aborted : (end : End) → IsHeld c old a → new ≡ lines.aborting (name_on via n) old → length new.waiting + 1
      ≡ length old.waiting → IsOfKind end → IsHeld c new (put_account via (left end (account via a)) a)
  held_aborted end h e count kind =
      let ws = without (name_on via n) old.waiting in
      let own = h.account via in
      let items = (account via a).untaken.items in
      let less = own_count via n old.waiting (sym (ap (λ (l : Line K). length l.waiting + 1) e) ∙ count) in
      let counted = own.counted in
      let covered = own.covered in
      let fits = own.fits in
      let own' : IsAccount c ws via (left end (account via a)) =
      search (arith, length-append items (end ∷ []), every_append IsOfKind items (end ∷ []) own.shaped (kind, tt)) in
      search (arith, ws, own', held_like, still_by, each_account, account_stays, other_count)

-- ---- credits that are seen
-- so many credits are free, whether the ends are seen or held
pub free_seen : (c : Settings) (ws : List Record) (via : Connection) (n : ℕ) (a : Accounts)
    → n ≤ credits_of c via - (length (waiting_on via ws) + length (of via (untaken_in a)))
    → n ≤ credits_of c via - (length (waiting_on via ws) + length (account via a).untaken.items)
free_seen c ws via n a h = search (arith, seen_of via a)

-- where a connection has two credits free, there is room for one more
pub room_left : {K : Type 0} {c : Settings} {line : Line K} {a : Accounts} (via : Connection) → IsHeld c line a
    → 2 ≤ credits_of c via - (length (waiting_on via line.waiting) + length (account via a).untaken.items)
    → length line.waiting < line.room
room_left {K} {c} {line} {a} First h free =
    let other = (h.account Second).fits in
    let counted = (h.account Second).counted in
    omega (arith, free, other, counted, h.same_room, sides_length (λ (r : Record). r.connection) line.waiting)
room_left {K} {c} {line} {a} Second h free =
    let other = (h.account First).fits in
    let counted = (h.account First).counted in
    omega (arith, free, other, counted, h.same_room, sides_length (λ (r : Record). r.connection) line.waiting)

module _ {K : Type 0} {c : Settings} {line : Line K} {a : Accounts} (h : IsHeld c line a) (via : Connection) where
  -- the account of each connection
  pub balanced : credits_of c via - (length (waiting_on via line.waiting) + length (of via (untaken_in a))) + length
      (waiting_on via line.waiting) + length (of via (untaken_in a)) ≡ credits_of c via
  balanced = search (arith, seen_of via a)

  -- what a connection's commands and ends hold is at most 64
  pub held_small : (account via a).waiting + length (account via a).untaken.items ≤ 64
  held_small = search (arith, few_of c via h.valid)

-- an abort leaves the credits that are free as they were: its end takes the place of its command
pub balance_left : {K : Type 0} (c : Settings) (old new : Line K)
    (a a' : Accounts) (via : Connection) (n : ℕ) (end : End) → new ≡ lines.aborting (name_on via n) old
    → length new.waiting + 1 ≡ length old.waiting → a' ≡ put_account via (left end (account via a)) a
    → credits_of c via - (length (waiting_on via new.waiting) + length (of via (untaken_in a')))
    ≡ credits_of c via - (length (waiting_on via old.waiting) + length (of via (untaken_in a)))
balance_left {K} c old new a a' via n end e count more = search (arith, length-append, own_count)

-- an end that is taken has the body of its endcode
pub taken_kind : (es : List End) (e : End) → slice_get es 0 ≡ Some e → AllByRecursion IsOfKind es → IsOfKind e
taken_kind [] e q h = absurd (false≢true (ap is_some q))
taken_kind (x ∷ xs) e q h = subst IsOfKind (some_same x e q) h.0
