-- What is kept of a command after each call: its blocks so far were moved at their places.
use Rattle.mscp_ported.proofs.Common.{Action, Answered, AsksAlways, Block, Bool, Buffer, Call, Connection, Contains, Drive, End, First, Hardware, Holdings, IsMadeOf, IsStepping, List, MoveKind, Name, Next, None, Ok, Option, Order, Outcome, Picking, Port, Record, Some, Verdict, WasRead, Went, WriteIp, [], advanced, ap, arith, asked, begun_step, block_told, buffer_in, comes, done_by, end_given, false, filter, given, inl, inr, is_done, is_moving, is_of, is_step_of, kept_after, left_of, min, moved, name_of, name_on, none-some, num, order_weight, record_at, refl, same_Some, same_is, same_name, subst, sym, true, wanted, wish, ℕ, ◌*◌, ◌++◌, ◌+◌, ◌-◌, ◌<◌, ◌∙◌, ◌∷◌, ◌≡◌, ◌≢◌, ◌≤◌}
use Rattle.mscp_ported.proofs.Kept.{is_numbered, number_of}
use Rattle.mscp_ported.proofs.Said.{is_first, kept_among, not_of, without_among}
use Rattle.mscp_ported.proofs.Stepping.{IsHow, Serves, drive_in, went_is}
use Rattle.mscp_ported.proofs.Staying.{IsPassive, passive_stays}
use Rattle.mscp_packet.specs.declared.command.MoveKind.TheVariants as moves
use Rattle.mscp_packet.specs.declared.command.Order.TheVariants as orders
use Rattle.mscp_port.specs.declared.action.Action.TheVariants as actions
use Rattle.mscp_ported.proofs.Transferring.{goes_on_so, moves_so, no_done, none_moving, other_step, told_so}
use Rattle.mscp_ported.proofs.Moving.{Steps, steps}
use Rattle.mscp_ported.proofs.Owning.{AreOwned, Own, Owned, carries, nothing_kept, parts_of, quiet, read_owned}
use Rattle.mscp_ported.proofs.Sole.{served_goes_on, served_itself, served_other}
use Rattle.mscp_ported.proofs.Heeded.{still_waits}

-- ---- what is kept after a step

-- an end tells the number of its command
pub end_number : (k : Block) (d : Drive) (r : Record) (e : End) → end_given k d r ≡ Some e
    → e.reference ≡ r.command.reference
end_number k d r e h = grind (arith, none-some, same_Some)

not_ended : (via : Connection) (o : Option End) (bs : List Buffer) (b : Buffer) (e : End) → o ≡ Some e
    → Contains (kept_after via o bs) b → is_of via e.reference b ≡ true → ⊥
not_ended via None bs b e h there is = absurd (none-some e h)
not_ended via (Some x) bs b e h there is = not_of via x.reference b
    (subst (λ (y : End). is_of via y.reference b ≡ true) (sym (same_Some x e h)) is)
    (without_among via x.reference bs b there).1

-- one more of an order
more_parts : (kind : MoveKind) (unit address first count n : ℕ) (order : Order) → order ≡ orders.Move kind count first
    → (xs : List Action) → xs ≡ parts_of order unit address n
    → xs ++ actions.Transfer kind unit (first + n) (address + n * 512) (min (count - n * 512) 512) ∷ []
    ≡ parts_of order unit address (n + 1)
more_parts kind unit address first count n order is xs e = grind (arith, parts_of)

-- there are so many blocks
still_bytes : (count done : ℕ) → 1 < order_weight (orders.Move moves.Read count 0) - done → done * 512 < count
still_bytes count done h = search (arith, h)

module _ {K : Type 0} (picks : Picking K) (start p : Port K) (calls : List Call) (outcome : Outcome) (done : Unit {0})
    (a : Answered picks start (Went outcome (Ok done) ∷ calls) p) (owned : AreOwned picks start a.0 calls a.1)
    (some : wish calls ≢ None) (s : Steps a.0 (wish calls)) where
  abbrev After : Type 0
  After = AreOwned picks start p (Went outcome (Ok done) ∷ calls) a

  -- what was served
  served : (verdict : Verdict) → IsHow a.0 outcome verdict → Serves verdict a.0 p → After
  served verdict how x = λ b there asks.
      let left = subst (λ bs. Contains bs b) x.heeds.buffers there in
      let o = owned b (kept_among r0.connection (end_given (block_told verdict) d r0) a.0.buffers.items b left) asks in
      by b left o.0 o.1 o.2 (is_numbered b.reference r0) refl
    where
      rs : List Record
      rs = a.0.controller.waiting

      r0 : Record
      r0 = record_at a.0.controller.waiting x.place

      d : Drive
      d = drive_in a.0 x.place

      itself_so : (b : Buffer) → Contains (kept_after r0.connection (end_given (block_told verdict) d r0)
          a.0.buffers.items) b → (bytes : List ℕ)
          → Own picks start a.0 calls a.1 b r0 bytes → is_numbered b.reference r0 ≡ true
          → (o : Option End) → end_given (block_told verdict) d r0 ≡ o
          → Owned picks start p (Went outcome (Ok done) ∷ calls) a b
      itself_so b left bytes own is (Some e) given =
          absurd (not_ended r0.connection (end_given (block_told verdict) d r0) a.0.buffers.items b e given left
          (is_first r0.connection e.reference b (number_of b.reference r0 is).0
          (sym (number_of b.reference r0 is).1 ∙ sym (end_number (block_told verdict) d r0 e given))))
      itself_so b left bytes own is None given =
          let on = goes_on_so d r0 (block_told verdict) given in
          let same = sym x.is ∙ same_is (name_of r0) (name_on First b.reference) is in
          let m = moves_so picks start a.0 calls a.1 owned outcome done some s x.name x.begun b.reference same r0
          own.sole
          on.online (told_so a.0 outcome verdict how on.good) in
          let bytes_same : m.1 ≡ bytes = same_Some m.1 bytes
          (sym m.3.own.message ∙ ap (λ n. asked picks n start a.0 calls a.1) m.3.number ∙ own.message) in
          let address : b.address ≡ num m.1 16 4 =
          sym (ap (λ (x : Buffer). x.address) (m.3.own.kept.1
          ∙ ap (λ xs. buffer_in xs m.3.own.kept.0) bytes_same) ∙ address_same bytes m.3.own.kept.0 own.kept.0
          ∙ ap (λ (x : Buffer). x.address) (sym own.kept.1)) ∙ m.3.address in (
            advanced r0,
            bytes,
            record {
              sole = ap (filter (is_numbered b.reference)) x.waiting
                  ∙ served_goes_on b.reference (block_told verdict) d rs x.place x.servable.inside r0 own.sole is given;
              message = own.message;
              kept = own.kept;
              command = own.command;
              whole = own.whole;
              good = ap (λ n. n + 1) own.good;
              low = search (arith, on.more);
              parts = elim m.3.moves [
                | inl none ↦ absurd (all_there m.2 (num m.1 12 4) (num m.1 28 4) m.3.order own.whole on.more none.0)
                | inr block ↦ ap (λ xs. moved picks b.reference start a.0 calls a.1 ++ xs) block.1
                    ∙ ap (λ x. moved picks b.reference start a.0 calls a.1
                    ++ actions.Transfer m.2 r0.command.unit (num m.1 28 4 + r0.done) (x + r0.done * 512)
                    (min (num m.1 12 4 - r0.done * 512) 512) ∷ []) (sym address)
                    ∙ more_parts m.2 r0.command.unit b.address (num m.1 28 4) (num m.1 12 4) r0.done
                    r0.command.order m.3.order (moved picks b.reference start a.0 calls a.1) own.parts
              ];
            },
          )
        where
          address_same : (xs : List ℕ) (c e : ℕ) → (buffer_in xs c).address ≡ (buffer_in xs e).address
          address_same xs c e = refl

          all_there : (kind : MoveKind) (count first : ℕ) → r0.command.order ≡ orders.Move kind count first
              → r0.weight ≡ order_weight r0.command.order → 1 < left_of r0 → count ≤ r0.done * 512 → ⊥
          all_there kind count first is whole more low = grind (arith, still_bytes, r0)

      by : (b : Buffer) → Contains (kept_after r0.connection (end_given (block_told verdict) d r0) a.0.buffers.items) b
          → (r : Record)
          → (bytes : List ℕ) → Own picks start a.0 calls a.1 b r bytes → (c : Bool) → is_numbered b.reference r0 ≡ c
          → Owned picks start p (Went outcome (Ok done) ∷ calls) a b
      by b left r bytes own false is =
          let y = served_other b.reference (block_told verdict) d rs x.place x.servable.inside r own.sole is in (
            y.0,
            bytes,
            carries picks start p (Went outcome (Ok done)) calls a b r y.0 bytes own refl
                (no_done (is_done outcome) (is_moving a.0.task) (is_step_of b.reference (begun_step a.0.controller))
                (wanted (wish calls)) (other_step a.0.controller b.reference x.name x.begun
                (ap (λ (x : Name). same_name x (name_on First b.reference)) (sym x.is) ∙ is)))
                (ap (filter (is_numbered b.reference)) x.waiting ∙ y.1) y.2,
          )
      by b left r bytes own true is =
          let same = served_itself b.reference (block_told verdict) d rs x.place x.servable.inside r own.sole is in
          itself_so b left bytes (subst (λ x. Own picks start a.0 calls a.1 b x bytes) (sym same) own) is
          (end_given (block_told verdict) d r0) refl

  -- no step is taken
  none_done : (IsStepping a.0.task → a.0.controller.begun ≡ None) → (n : ℕ)
      → done_by n (Went outcome (Ok done)) (wish calls) a.0 ≡ []
  none_done none n = grind (arith, no_done, none_moving)

  went_owned : After
  went_owned = elim (went_is (picks a.0.controller.picker) outcome done a.0 p a.2) [
    | inl x ↦ served x.0 x.1 x.2
    | inr more ↦ elim more [
      | inl n ↦ quiet picks start p (Went outcome (Ok done)) calls a (λ n. refl) (none_done n.2)
          (ap (λ (h : Holdings K). h.waiting) n.0.0)
          (λ b there. subst (λ bs. Contains bs b) (ap (λ x. x.items) n.0.4) there) owned
      | inr d ↦ nothing_kept picks start p (Went outcome (Ok done) ∷ calls) a d.1.buffers
    ]
  ]

-- ---- a list of calls

passive_comes : {K : Type 0} (call : Call) (old : Port K) → IsPassive call → (n : ℕ) → comes n call old ≡ false
passive_comes call old is n = grind arith

passive_done : {K : Type 0} (call : Call) (w : Option _) (old : Port K) → IsPassive call → (n : ℕ)
    → done_by n call w old ≡ []
passive_done call w old is n = grind arith

module _ {K : Type 0} (picks : Picking K) (hardware : Hardware) (credits : ℕ) (controller : Holdings K)
    (start : Port K) (made : IsMadeOf hardware credits controller start) where
  passive_owned : (p : Port K) (call : Call) (calls : List Call) (a : Answered picks start (call ∷ calls) p)
      → IsPassive call → AreOwned picks start a.0 calls a.1 → AreOwned picks start p (call ∷ calls) a
  passive_owned p call calls a is owned = grind (arith, passive_stays, quiet, passive_comes, passive_done, nothing_kept)

  pub are_owned : (p : Port K) (calls : List Call) → AsksAlways calls → (a : Answered picks start calls p)
      → AreOwned picks start p calls a
  are_owned p [] asks a = nothing_kept picks start p [] a (ap (λ (q : Port K). q.buffers.items) a ∙ made.buffers)
  are_owned p (WriteIp ∷ calls) asks a = nothing_kept picks start p (WriteIp ∷ calls) a a.2.buffers
  are_owned p (Next asks_for action bytes ∷ calls) asks a =
      grind (arith, are_owned a.0 calls asks a.1, quiet, still_waits)
  are_owned p (WasRead bytes (Ok done) ∷ calls) asks a =
      read_owned picks start p calls bytes done a (are_owned a.0 calls asks.1 a.1)
  are_owned p (Went outcome (Ok done) ∷ calls) asks a =
      went_owned picks start p calls outcome done a (are_owned a.0 calls asks.1 a.1) asks.0
      (steps picks hardware credits controller start made a.0 calls asks.1 a.1)
  are_owned p (call ∷ calls) asks a = passive_owned p call calls a tt (are_owned a.0 calls asks a.1)
