-- What is kept of a command was said by its own message, and its blocks so far were moved at their places.
use Rattle.mscp_ported.proofs.Common.{Action, Answered, Bool, Buffer, Call, Contains, First, Holdings, List, Ok, Order, Picking, Port, Record, Some, WasRead, [], ap, append-nil, arith, asked, asks_nothing, balance_of, buffer_in, changes_at, comes, command_of, cond, done_by, eq-eqb, eqb-true, false, filter, find, fresh_record, handed, inl, inr, is_formality, is_queued_text, length, moved, nat_eq, nat_lt, none_among, not, num, order_weight, outstanding_of, place_in, reference_aborted, refl, slice_index, subst, sym, transfers, true, unaborted, waiting, wish, without_aborted, ℕ, ◌&&◌, ◌++◌, ◌<◌, ◌==◌, ◌∙◌, ◌∷◌, ◌≡◌, ◌≢◌, ◌≤◌}
use Rattle.mscp_ported.proofs.Come.{IsLike, handed_as_read, handed_like, none_waits, taken_number}
use Rattle.mscp_ported.proofs.Kept.{apart_numbers, is_numbered, number_of}
use Rattle.mscp_packet.specs.declared.command.Order.TheVariants as orders
use Rattle.mscp_ported.proofs.Reading.{Gets, Queues, and_false, answered_now, command_in, not_queued, queued_later, read_is}
use Rattle.mscp_ported.proofs.Sole.{Alike, found_sole, itself, none_passes, sole_beside, sole_comes, sole_left, sole_passes}
use Rattle.mscp_ported.proofs.Texts.{beside_cases, left_among, left_other}

-- so many blocks of an order
abbrev pub parts_of : Order → ℕ → ℕ → ℕ → List Action
parts_of (orders.Move kind count first) unit address n = transfers kind unit first address count n
parts_of order unit address n = []

no_parts : (order : Order) (unit address : ℕ) → parts_of order unit address 0 ≡ []
no_parts (orders.Move kind count first) unit address = refl
no_parts order unit address = refl

some_weight : (order : Order) → 0 < order_weight order
some_weight (orders.Move kind count first) = search arith
some_weight order = search arith

module _ {K : Type 0} (picks : Picking K) (start : Port K) where
  -- this is kept of the one command of its number that waits, whose message this was, and which got so far
  pub record Own (p : Port K) (calls : List Call) (a : Answered picks start calls p) (b : Buffer) (r : Record)
      (bytes : List ℕ) : Type 0 where
    pub sole : filter (is_numbered b.reference) p.controller.waiting ≡ r ∷ []
    pub message : asked picks b.reference start p calls a ≡ Some bytes
    pub kept : (changes : ℕ) × (b ≡ buffer_in bytes changes)
    pub command : r.command ≡ command_of bytes
    pub whole : r.weight ≡ order_weight r.command.order
    pub good : r.good ≡ r.done
    pub low : r.done < r.weight
    pub parts : moved picks b.reference start p calls a ≡ parts_of r.command.order r.command.unit b.address r.done

  abbrev pub Owned : (p : Port K) (calls : List Call) → Answered picks start calls p → Buffer → Type 0
  Owned p calls a b = (r : Record) × (bytes : List ℕ) × Own p calls a b r bytes

  abbrev pub AreOwned : (p : Port K) (calls : List Call) → Answered picks start calls p → Type 0
  AreOwned p calls a = (b : Buffer) → Contains p.buffers.items b → asks_nothing b.opcode ≡ false → Owned p calls a b

  -- a call by which this command doesn't come, and none of its blocks is told
  pub carries : (p : Port K) (call : Call) (calls : List Call) (a : Answered picks start (call ∷ calls) p)
      (b : Buffer) (r s : Record) (bytes : List ℕ) → Own a.0 calls a.1 b r bytes
      → comes b.reference call a.0 ≡ false → done_by b.reference call (wish calls) a.0 ≡ []
      → filter (is_numbered b.reference) p.controller.waiting ≡ s ∷ [] → Alike r s → Own p (call ∷ calls) a b s bytes
  carries p call calls a b r s bytes own other none sole alike = grind (arith, append-nil)

  pub quiet : (p : Port K) (call : Call) (calls : List Call) (a : Answered picks start (call ∷ calls) p)
      → ((n : ℕ) → comes n call a.0 ≡ false) → ((n : ℕ) → done_by n call (wish calls) a.0 ≡ [])
      → p.controller.waiting ≡ a.0.controller.waiting
      → ((b : Buffer) → Contains p.buffers.items b → Contains a.0.buffers.items b)
      → AreOwned a.0 calls a.1 → AreOwned p (call ∷ calls) a
  quiet p call calls a other none same among owned b there asks =
      let o = owned b (among b there) asks in (
        o.0,
        o.1,
        carries p call calls a b o.0 o.0 o.1 o.2 (other b.reference) (none b.reference)
            (ap (filter (is_numbered b.reference)) same ∙ o.2.sole) (itself o.0),
      )

  pub nothing_kept : (p : Port K) (calls : List Call) (a : Answered picks start calls p) → p.buffers.items ≡ []
      → AreOwned p calls a
  nothing_kept p calls a e b there asks = absurd (none_among p.buffers.items b e there)

-- ---- a text was read

no_shorter : (m n : ℕ) → m ≤ 12 → 12 ≤ n → nat_lt n m ≡ false
no_shorter m n short long = search (arith, short, long)

module _ {K : Type 0} (picks : Picking K) (start : Port K) (p : Port K) (calls : List Call) (bytes : List ℕ)
    (done : Unit) (a : Answered picks start (WasRead bytes (Ok done) ∷ calls) p)
    (owned : AreOwned picks start a.0 calls a.1) where
  abbrev After : Type 0
  After = AreOwned picks start p (WasRead bytes (Ok done) ∷ calls) a

  abbrev sent : List ℕ
  sent = handed a.0.controller.settings.units bytes

  never : is_queued_text a.0 bytes a.0.task ≡ false → (n : ℕ) → comes n (WasRead bytes (Ok done)) a.0 ≡ false
  never e n = and_false (num bytes 0 4 == n) (is_queued_text a.0 bytes a.0.task) e

  still : is_queued_text a.0 bytes a.0.task ≡ false → p.controller.waiting ≡ a.0.controller.waiting
      → p.buffers.items ≡ a.0.buffers.items → After
  still e same buffers = quiet picks start p (WasRead bytes (Ok done)) calls a (never e) (λ n. refl) same
      (λ b there. subst (λ bs. Contains bs b) buffers there) owned

  -- the controller answers it, and may abort another
  aborts : (order : Order) → is_queued_text a.0 bytes a.0.task ≡ false
      → p.controller.waiting ≡ unaborted First a.0.controller.waiting order
      → p.buffers.items ≡ without_aborted (reference_aborted First a.0.controller.waiting order) a.0.buffers.items
      → After
  aborts (orders.Abort m) e waiting kept = λ b there asks.
      let rs = a.0.controller.waiting in
      let o = find (is_numbered m) rs in
      let left = subst (λ bs. Contains bs b) kept there in
      let own = owned b (left_among o a.0.buffers.items b left) asks in
      let apart : b.reference ≢ m = λ same.
      let r = own.0 in
      let found = found_sole (is_numbered m) rs r (subst (λ n. filter (is_numbered n) rs ≡ r ∷ []) same own.2.sole) in
      left_other o r a.0.buffers.items b found left
      (same ∙ sym (number_of m r (sole_passes (is_numbered m) rs r
      (subst (λ n. filter (is_numbered n) rs ≡ r ∷ []) same own.2.sole))).1) in (
        own.0,
        own.1,
        carries picks start p (WasRead bytes (Ok done)) calls a b own.0 own.0 own.1 own.2 (never e b.reference) refl
            (ap (filter (is_numbered b.reference)) waiting
            ∙ sole_left (is_numbered b.reference) (λ r. not (is_numbered m r)) rs
            (λ r is. apart_numbers b.reference m r apart is) ∙ own.2.sole)
            (itself own.0),
      )
  aborts order e waiting kept = still e waiting kept

  -- it is queued, or its stand-in is
  comes_in : (g : Gets bytes done a.0 p) → Queues g.slot bytes a.0 p → After
  unfolding command_of
  comes_in g q = λ b there asks.
      let rs = a.0.controller.waiting in
      let n = num bytes 0 4 in
      let r = fresh_record First (command_of sent) in
      let changes = changes_at a.0.volumes (place_in a.0.controller.settings.units (num bytes 4 2)) in
      let own = buffer_in bytes changes in
      let fits = taken_number (balance_of First a.0.controller) (outstanding_of First a.0.controller) sent g.is_new in
      let like : IsLike sent bytes = handed_like a.0.controller.settings a.0.controller.settings.units bytes g.long
      q.later in
      let waiting = ap (λ (h : Holdings K). h.waiting) q.holds in
      let number : own.reference ≡ n = ap (λ t. cond t 0 n) {y = false}
      (no_shorter 4 (length bytes) (omega arith) g.long) in
      let new : filter (is_numbered n) rs ≡ [] = subst (λ m. filter (is_numbered m) rs ≡ []) like.0
      (none_passes (is_numbered (num sent 0 4)) rs (none_waits a.0.controller (num sent 0 4) fits.1)) in
      elim (beside_cases (nat_lt (length a.0.buffers.items) 64) a.0.buffers.items own b
      (subst (λ bs. Contains bs b) q.sends.kept there)) [
        | inl before ↦
            let o = owned b before asks in
            let apart : nat_eq n b.reference ≡ false = other_number b (nat_eq n b.reference) refl o.0 o.2.sole new in (
              o.0,
              o.1,
              carries picks start p (WasRead bytes (Ok done)) calls a b o.0 o.0 o.1 o.2
                  (ap (λ c. c && is_queued_text a.0 bytes a.0.task) apart) refl
                  (ap (filter (is_numbered b.reference)) waiting
                  ∙ sole_beside (is_numbered b.reference) rs r o.0 o.2.sole
                  (ap (λ m. nat_eq m b.reference) like.0 ∙ apart))
                  (itself o.0),
            )
        | inr e ↦
            let same : b.reference ≡ n = ap (λ (x : Buffer). x.reference) (sym e) ∙ number in
            let as_read : sent ≡ bytes =
            handed_as_read a.0.controller.settings a.0.controller.settings.units bytes (opcode_kept b e asks) q.later in
            let now : comes b.reference (WasRead bytes (Ok done)) a.0 ≡ true =
            ap (λ c. c && is_queued_text a.0 bytes a.0.task) (eq-eqb n b.reference (sym same)) ∙ queued_later g q in (
              r,
              bytes,
              record {
                sole = subst (λ m. filter (is_numbered m) p.controller.waiting ≡ r ∷ []) (sym same)
                    (ap (filter (is_numbered n)) waiting
                    ∙ sole_comes (is_numbered n) rs r new (eq-eqb (num sent 0 4) n like.0));
                message = ap (λ c. cond c (Some bytes) (asked picks b.reference start a.0 calls a.1)) now;
                kept = (changes, sym e);
                command = ap command_of as_read;
                whole = refl;
                good = refl;
                low = some_weight (command_of sent).order;
                parts = ap (λ c. cond c [] (moved picks b.reference start a.0 calls a.1
                    ++ [])) now ∙ sym (no_parts (command_of sent).order (command_of sent).unit b.address);
              },
            )
      ]
    where
      opcode_kept : (b : Buffer) → buffer_in bytes (changes_at a.0.volumes
          (place_in a.0.controller.settings.units (num bytes 4 2))) ≡ b
          → asks_nothing b.opcode ≡ false → is_formality (slice_index bytes 8) ≡ false
      opcode_kept b e asks = grind (arith, nat_lt, no_shorter)

      other_number : (b : Buffer) (c : Bool) → nat_eq (num bytes 0 4) b.reference ≡ c → (r : Record)
          → filter (is_numbered b.reference) a.0.controller.waiting ≡ r ∷ []
          → filter (is_numbered (num bytes 0 4)) a.0.controller.waiting ≡ [] → c ≡ false
      other_number b c e r sole new = grind (arith, is_numbered, eqb-true)

  pub read_owned : After
  read_owned = elim (read_is bytes done a.0 p a.2) [
    | inl s ↦ elim s.0 [
      | inl same ↦ still (not_queued a.0 bytes a.0.task s.1) (ap (λ (h : Holdings K). h.waiting) same.0)
          (ap (λ x. x.items) same.4)
      | inr d ↦ nothing_kept picks start p (WasRead bytes (Ok done) ∷ calls) a d.1.buffers
    ]
    | inr g ↦ elim g.how [
      | inl q ↦ comes_in g q
      | inr x ↦ aborts (command_in a.0 bytes).order (answered_now g x) (ap (λ (h : Holdings K). h.waiting) x.holds)
          x.sends.kept
    ]
  ]
