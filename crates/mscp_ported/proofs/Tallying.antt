-- The end of a transfer counts just the blocks that were moved.
use Rattle.mscp_port.specs.declared.task.Task.TheVariants as tasks
use Rattle.mscp_ported.proofs.Common.{Answered, AsksAlways, Block, Bool, Buffer, Call, Command, Connection, Contains, Counts, Dies, Drive, End, Err, First, Hardware, Holdings, IsMadeOf, List, MoveKind, Name, None, Ok, Option, Order, Outcome, Picking, Port, Record, Result, Shape, Some, Upcoming, Verdict, Volume, Went, Wish, [], and_parts, ap, append-nil, arith, asked, asks_nothing, begun_step, block_begun, block_served, block_told, block_touched, changed_verdict, come, cond, done_by, drive_of, drop, end_given, false, false≢true, filter, find, found_is, given, goes_on, good_step, has_changed, has_name, inl, inr, is_available, is_done, is_good_block, is_moving, is_same, is_step_of, known_task, left_of, length, min, move_of, move_task, moved, moved_by, name, name_of, name_on, none-some, num, opcode_of, outcome_at, outcome_body, outcome_status, part_at, part_task, part_with, record_at, refl, same_Some, same_is, slice_index, subst, suc, sym, takes_any_volume, task_of, touches, transfers, true, upcoming_of, wanted, wish, zero, ℕ, ◌&&◌, ◌*◌, ◌++◌, ◌+◌, ◌-◌, ◌<◌, ◌∙◌, ◌∷◌, ◌≡◌, ◌≤◌, ◌⊎◌}
use Rattle.mscp_ported.proofs.Kept.{is_numbered, number_of}
use Rattle.mscp_ported.proofs.Stepping.{IsHow, Serves, ServesNone, drive_in, end_served, went_is}
use Rattle.mscp_packet.specs.declared.class.Opcode.TheVariants as codes
use Rattle.mscp_packet.specs.declared.command.Order.TheVariants as orders
use Rattle.mscp_packet.specs.declared.end.EndBody.TheVariants as bodies
use Rattle.mscp_drive.specs.declared.block.Block.TheVariants as blocks
use Rattle.mscp_port.specs.declared.action.Action.TheVariants as actions
use Rattle.mscp_port.specs.declared.action.Outcome.TheVariants as outcomes
use Rattle.mscp_ported.proofs.Coming.{brought_for, come_so, ends_of}
use Rattle.mscp_ported.proofs.Keeping.{are_owned, end_number}
use Rattle.mscp_ported.proofs.Moving.{Steps, steps}
use Rattle.mscp_ported.proofs.Owning.{AreOwned, Own, parts_of}
use Rattle.mscp_ported.proofs.Sole.{found_sole, served_itself, sole_passes}
use Rattle.mscp_ported.proofs.Transferring.{kept_address, move_fields, moves_so, none_moving, told_so}

-- ---- a block that went well

-- a block in hand is one that may go on
task_moves : (u : Upcoming) (b : Buffer) (v : Volume) → task_of u b v ≡ tasks.Transfer
    → (m : MoveKind × ℕ) × (part : ℕ × ℕ) × (move_of u ≡ Some m) × (part_with m.0 m.1 u.done b v ≡ Ok part)
task_moves u b v e = by (is_available u.command.order) (v.is_there && takes_any_volume u.command.order)
    (has_changed b v) (move_of u) refl e
  where
    So : Type 0
    So = (m : MoveKind × ℕ) × (part : ℕ × ℕ) × (move_of u ≡ Some m) × (part_with m.0 m.1 u.done b v ≡ Ok part)

    parted : (m : MoveKind × ℕ) → move_of u ≡ Some m → (r : Result (ℕ × ℕ) Verdict)
        → part_with m.0 m.1 u.done b v ≡ r → part_task r ≡ tasks.Transfer → So
    parted m f (Ok part) g h = (m, part, f, g)
    parted m f (Err verdict) g h = search (arith, h)

    by : (x y z : Bool) (q : Option (MoveKind × ℕ)) → move_of u ≡ q
        → cond x good_step (cond y good_step (cond z (tasks.Step (changed_verdict v)) (move_task u q b v)))
        ≡ tasks.Transfer
        → So
    by x y z q f h = grind (arith, parted)

known_moves : (u : Upcoming) (o : Option ℕ) (k : Option Buffer) (vs : List Volume)
    → known_task u o k vs ≡ tasks.Transfer
    → (m : MoveKind × ℕ) × (part : ℕ × ℕ) × (move_of u ≡ Some m) × (part_at o k m.0 m.1 u.done vs ≡ Ok part)
known_moves u o k vs e = grind (arith, task_moves)

-- so where it is told done it went well
done_good : {K : Type 0} (old : Port K) (w : Option Wish) (u : Upcoming) → Steps old w → old.task ≡ tasks.Transfer
    → begun_step old.controller ≡ Some u
    → (block_told (block_served old outcomes.Done (block_begun old)) ≡ blocks.Good)
    × ((m : MoveKind × ℕ) × (move_of u ≡ Some m))
done_good {K} old w u s at step = grind (arith, known_moves)

pub touched_so : (online : Bool) (order : Order) (n : ℕ) (x : MoveKind × ℕ)
    → moved_by order (block_touched online order n) ≡ Some x → touches online order ≡ true
touched_so online order n x e = grind (arith, none-some)

done_is : (outcome : Outcome) → is_done outcome ≡ true → outcome ≡ outcomes.Done
done_is outcomes.Done e = refl
done_is outcome e = absurd (false≢true e)

good_is : (k : Block) → is_good_block k ≡ true → k ≡ blocks.Good
good_is blocks.Good e = refl
good_is (blocks.Bad status) e = absurd (false≢true e)

counted : (shape : Shape) (status : ℕ) (online : Bool) (order : Order) (good : ℕ) (k : Block) (c : Bool)
    (kind : MoveKind) (count first : ℕ) → order ≡ orders.Move kind count first
    → (touches online order && is_good_block k) ≡ c
    → outcome_body shape status order (good + cond (touches online order && is_good_block k) 1 0)
    ≡ bodies.Moved (min count (512 * (good + cond c 1 0)))
counted shape status online order good k c kind count first e f = grind arith

few_bytes : (count n : ℕ) → count ≤ n * 512 → min count (512 * (n + 1)) ≡ min count (512 * n)
few_bytes count n h = search (arith, h)

plus_none : (n : ℕ) → n + 0 ≡ n
plus_none n = search arith

plus_one : (n : ℕ) → n + 1 ≡ suc n
plus_one n = search arith

-- ---- an end that came

-- an end comes where the command doesn't go on
pub ended_so : (b : Bool) (x e : End) → cond b None (Some x) ≡ Some e → (b ≡ false) × (x ≡ e)
ended_so true x e h = absurd (none-some e h)
ended_so false x e h = (refl, same_Some x e h)

pub brought_one : (via : Connection) (o : Option End) (e : End) → Contains (brought_for via o) e
    → (via ≡ First) × (o ≡ Some e)
brought_one via o e there = grind arith

-- none comes where no step is taken
pub none_served : {K : Type 0} (e : End) (old new : Port K) → ServesNone old new ⊎ Dies old new
    → Contains (come old new) e → ⊥
none_served e old new none there = none_there (subst (λ xs. Contains xs e) (nothing none) there)
  where
    none_there : Contains [] e → ⊥
    none_there h = search (arith, h)

    nothing : ServesNone old new ⊎ Dies old new → come old new ≡ []
    nothing (inl n) = come_so old new [] (ap ends_of n.0.0 ∙ sym (append-nil (ends_of old.controller)))
    nothing (inr d) = ap (drop (length (ends_of old.controller))) (ap ends_of d.1.controller)
        ∙ drop_none (length (ends_of old.controller))
      where
        drop_none : (n : ℕ) → drop {A = End} n [] ≡ []
        drop_none zero = refl
        drop_none (suc n) = refl

-- the step that is begun is of the command that waits under its name
pub step_name : {K : Type 0} (h : Holdings K) (name : Name) (u : Upcoming) → h.begun ≡ Some name → begun_step h ≡ Some u
    → (r : Record) × (find (has_name name) h.waiting ≡ Some r)
    × (u ≡ upcoming_of (drive_of h.drives r.command.unit) r)
step_name {K} h name u begun step = grind (arith, none-some, same_Some)

-- ---- the step that ended a command

module _ {K : Type 0} (picks : Picking K) (hardware : Hardware) (credits : ℕ) (controller : Holdings K)
    (start : Port K) (made : IsMadeOf hardware credits controller start) (p : Port K) (calls : List Call)
    (outcome : Outcome) (done : Unit {0}) (u : Upcoming) (kept : Buffer) (e : End)
    (asks : AsksAlways (Went outcome (Ok done) ∷ calls)) (a : Answered picks start (Went outcome (Ok done) ∷ calls) p)
    (step : begun_step a.0.controller ≡ Some u) (among : Contains a.0.buffers.items kept)
    (asking : asks_nothing kept.opcode ≡ false) (there : Contains (come a.0 p) e) where
  abbrev rs : List Record
  rs = a.0.controller.waiting

  abbrev drive : Record → Drive
  drive r = drive_of a.0.controller.drives r.command.unit

  s : Steps a.0 (wish calls)
  s = steps picks hardware credits controller start made a.0 calls asks.1 a.1

  owned : AreOwned picks start a.0 calls a.1
  owned = are_owned picks hardware credits controller start made a.0 calls asks.1 a.1

  -- it is of this record, of whose command this is kept
  pub record Ending : Type 0 where
    pub verdict : Verdict
    pub how : IsHow a.0 outcome verdict
    pub name : Name
    pub begun : a.0.controller.begun ≡ Some name
    pub named : name ≡ name_on First kept.reference
    pub own : Record
    pub text : List ℕ
    pub is : Own picks start a.0 calls a.1 kept own text
    pub of : u ≡ upcoming_of (drive own) own
    pub given : end_given (block_told verdict) (drive own) own ≡ Some e

  served_so : (verdict : Verdict) → IsHow a.0 outcome verdict → (x : Serves verdict a.0 p)
      → (record_at rs x.place).connection ≡ First
      → end_given (block_told verdict) (drive_in a.0 x.place) (record_at rs x.place) ≡ Some e
      → ((n : ℕ) → e.reference ≡ n → u.command.reference ≡ n → kept.reference ≡ n) → Ending
  served_so verdict how x first given number_so =
      let n = x.name.reference in
      let r0 = record_at rs x.place in
      let d = drive_in a.0 x.place in
      let same : x.name ≡ name_on First n = ap (λ c. name_on c n)
      (sym (ap (λ (y : Name). y.connection) x.is) ∙ first) in
      let sn = step_name a.0.controller x.name u x.begun step in
      let o = owned kept among asking in
      let number : kept.reference ≡ n = number_so n
      (end_number (block_told verdict) d r0 e given ∙ ap (λ (y : Name). y.reference) x.is)
      (ap (λ (y : Upcoming). y.command.reference) sn.2
      ∙ ap (λ (y : Name). y.reference) (same_is (name_of sn.0) x.name (found_is (has_name x.name) rs sn.0 sn.1))) in
      let sole = subst (λ m. filter (is_numbered m) rs ≡ o.0 ∷ []) number o.2.sole in
      let r_is : r0 ≡ o.0 = served_itself n blocks.Good d rs x.place x.servable.inside o.0 sole
      (is_same (name_of r0) (name_on First n) (x.is ∙ same)) in
      let found0 : find (has_name x.name) rs ≡ Some r0 = subst (λ y. find (has_name y) rs ≡ Some r0) (sym same)
      (found_sole (is_numbered n) rs r0 (sole ∙ ap (λ y. y ∷ []) (sym r_is))) in
      record {
        verdict = verdict;
        how = how;
        name = x.name;
        begun = x.begun;
        named = same ∙ ap (name_on First) (sym number);
        own = r0;
        text = o.1;
        is = subst (λ y. Own picks start a.0 calls a.1 kept y o.1) (sym r_is) o.2;
        of = sn.2 ∙ ap (λ y. upcoming_of (drive y) y) (same_Some sn.0 r0 (sym sn.1 ∙ found0));
        given = given;
      }

  pub ending : ((n : ℕ) → e.reference ≡ n → u.command.reference ≡ n → kept.reference ≡ n) → Ending
  ending number_so = elim (went_is (picks a.0.controller.picker) outcome done a.0 p a.2) [
    | inl x ↦
        let via = (record_at rs x.2.place).connection in
        let one = brought_one via (end_served x.0 a.0 x.2.place) e (subst (λ xs. Contains xs e)
        (come_so a.0 p (brought_for via (end_served x.0 a.0 x.2.place)) x.2.ends) there) in
        served_so x.0 x.1 x.2 one.0 one.1 number_so
    | inr more ↦ absurd (none_served e a.0 p more there)
  ]

  -- ---- what it counts

  module _ (g : Ending) (kind : MoveKind) (count first : ℕ) (is : u.command.order ≡ orders.Move kind count first) where
    abbrev r : Record
    r = g.own

    abbrev d : Drive
    d = drive g.own

    abbrev bytes : List ℕ
    bytes = g.text

    abbrev n : ℕ
    n = kept.reference

    -- its last block went well
    abbrev pub is_good : Bool
    is_good = touches d.online r.command.order && is_good_block (block_told g.verdict)

    -- so many blocks of it were moved: those that went well before, and the last one, if there was one left
    pub record Tally : Type 0 where
      pub moved_all : ℕ
      pub counts : Counts picks e kind start p (Went outcome (Ok done) ∷ calls) a bytes moved_all
      pub last : is_good ≡ true → ((moved_all ≡ r.done) × (num bytes 12 4 ≤ r.done * 512))
          ⊎ ((moved_all ≡ suc r.done) × (r.done * 512 < num bytes 12 4))

    order : r.command.order ≡ orders.Move kind count first
    order = ap (λ (x : Upcoming). x.command.order) (sym g.of) ∙ is

    fields : (count ≡ num bytes 12 4) × (first ≡ num bytes 28 4) × (32 ≤ length bytes)
        × (opcode_of (slice_index bytes 8) ≡ Some (codes.Move kind))
    fields = move_fields bytes kind count first (ap (λ (c : Command). c.order) (sym g.is.command) ∙ order)

    whole : r.command.order ≡ orders.Move kind (num bytes 12 4) (num bytes 28 4)
    whole = order ∙ ap (λ m. orders.Move kind m first) fields.0 ∙ ap (orders.Move kind (num bytes 12 4)) fields.1

    before : moved picks n start a.0 calls a.1
        ≡ transfers kind r.command.unit (num bytes 28 4) (num bytes 16 4) (num bytes 12 4) r.done
    before = g.is.parts ∙ ap (λ o. parts_of o r.command.unit kept.address r.done) whole
        ∙ ap (λ x. transfers kind r.command.unit (num bytes 28 4) x (num bytes 12 4) r.done)
        (kept_address kept bytes g.is.kept fields.2)

    x : (goes_on d.online r.command.order (block_told g.verdict) (left_of r) ≡ false)
        × (outcome_at d.unit d.online r.command r.good (block_told g.verdict) ≡ e)
    x = ended_so (goes_on d.online r.command.order (block_told g.verdict) (left_of r))
        (outcome_at d.unit d.online r.command r.good (block_told g.verdict)) e g.given

    named : e.reference ≡ n
    named = end_number (block_told g.verdict) d r e g.given
        ∙ (number_of n r (sole_passes (is_numbered n) rs r g.is.sole)).1

    -- a step that moved no good block tells none
    none_done : is_good ≡ false → done_by n (Went outcome (Ok done)) (wish calls) a.0 ≡ []
    none_done no_good = how g.how
      where
        how : IsHow a.0 outcome g.verdict → done_by n (Went outcome (Ok done)) (wish calls) a.0 ≡ []
        how (inl h) = none_moving (is_done outcome) (is_moving a.0.task) (is_step_of n (begun_step a.0.controller))
            (wanted (wish calls)) (ap is_moving h)
        how (inr h) = by (is_done outcome) refl
          where
            by : (y : Bool) → is_done outcome ≡ y → cond (y && is_moving a.0.task
                && is_step_of n (begun_step a.0.controller)) (wanted (wish calls)) [] ≡ []
            by false f = refl
            by true f =
                let z = done_good a.0 (wish calls) u s h.0 step in
                let good : block_told g.verdict ≡ blocks.Good = ap block_told (h.1
                ∙ ap (λ y. block_served a.0 y (block_begun a.0)) (done_is outcome f)) ∙ z.0 in
                let online = touched_so d.online r.command.order r.done z.1.0
                (subst (λ (y : Upcoming). move_of y ≡ Some z.1.0) g.of z.1.1) in
                absurd (false≢true (sym no_good ∙ (ap (λ b. b && is_good_block (block_told g.verdict)) online
                ∙ ap is_good_block good)))

    abbrev Told : MoveKind → List ℕ → Type 0
    Told k b = ((num b 12 4 ≤ r.done * 512) × (done_by n (Went outcome (Ok done)) (wish calls) a.0 ≡ []))
        ⊎ ((r.done * 512 < num b 12 4)
        × (done_by n (Went outcome (Ok done)) (wish calls) a.0
        ≡ actions.Transfer k r.command.unit (num b 28 4 + r.done) (num b 16 4 + r.done * 512)
        (min (num b 12 4 - r.done * 512) 512) ∷ []))

    told : is_good ≡ true → Told kind bytes
    told f =
        let both = and_parts (touches d.online r.command.order) (is_good_block (block_told g.verdict)) f in
        let m = moves_so picks start a.0 calls a.1 owned outcome done asks.0 s g.name g.begun n g.named r g.is.sole
        both.0
        (told_so a.0 outcome g.verdict g.how (good_is (block_told g.verdict) both.1)) in
        let same : m.1 ≡ bytes = same_Some m.1 bytes (sym m.3.own.message
        ∙ ap (λ i. asked picks i start a.0 calls a.1) m.3.number ∙ g.is.message) in
        subst (λ k. Told k bytes) (ap (kind_in kind) (sym m.3.order ∙ order))
        (subst (λ b. Told m.2 b) same m.3.moves)
      where
        kind_in : MoveKind → Order → MoveKind
        kind_in other (orders.Move k i f) = k
        kind_in other o = other

    pub tally : Tally
    tally = by is_good refl
      where
        -- so many blocks, and that is what the end counts
        so : (m : ℕ) (c : Bool) → is_good ≡ c → moved picks n start p (Went outcome (Ok done) ∷ calls) a
            ≡ transfers kind r.command.unit (num bytes 28 4) (num bytes 16 4) (num bytes 12 4) m
            → min (num bytes 12 4) (512 * (r.done + cond c 1 0)) ≡ min (num bytes 12 4) (512 * m)
            → (c ≡ true → ((m ≡ r.done) × (num bytes 12 4 ≤ r.done * 512))
            ⊎ ((m ≡ suc r.done) × (r.done * 512 < num bytes 12 4))) → Tally
        so m c f moves counted_as last = record {
          moved_all = m;
          counts = record {
            message = ap (λ i. asked picks i start a.0 calls a.1) named ∙ g.is.message;
            moves = ap (λ i. moved picks i start p (Went outcome (Ok done) ∷ calls) a) named ∙ moves
                ∙ ap (λ i. transfers kind i (num bytes 28 4) (num bytes 16 4) (num bytes 12 4) m)
                (ap (λ (y : End). y.unit) x.1);
            count = sym (ap (λ (y : End). y.body) x.1)
                ∙ counted d.unit (outcome_status d.online r.command.order (block_told g.verdict)) d.online
                r.command.order r.good (block_told g.verdict) c kind (num bytes 12 4) (num bytes 28 4) whole f
                ∙ ap (λ i. bodies.Moved (min (num bytes 12 4) (512 * (i + cond c 1 0)))) g.is.good
                ∙ ap bodies.Moved counted_as;
          };
          last = λ t. last (sym f ∙ t);
        }

        by : (c : Bool) → is_good ≡ c → Tally
        by false f = so r.done false f
            (ap (λ xs. moved picks n start a.0 calls a.1 ++ xs) (none_done f)
            ∙ append-nil (moved picks n start a.0 calls a.1) ∙ before)
            (ap (λ i. min (num bytes 12 4) (512 * i)) (plus_none r.done)) (λ t. absurd (false≢true t))
        by true f = elim (told f) [
          | inl none ↦ so r.done true f
              (ap (λ xs. moved picks n start a.0 calls a.1 ++ xs) none.1
              ∙ append-nil (moved picks n start a.0 calls a.1) ∙ before)
              (few_bytes (num bytes 12 4) r.done none.0) (λ t. inl (refl, none.0))
          | inr more ↦ so (suc r.done) true f
              (ap (λ xs. moved picks n start a.0 calls a.1 ++ xs) more.1
              ∙ ap (λ xs. xs ++ actions.Transfer kind r.command.unit (num bytes 28 4 + r.done)
              (num bytes 16 4 + r.done * 512) (min (num bytes 12 4 - r.done * 512) 512) ∷ []) before)
              (ap (λ i. min (num bytes 12 4) (512 * i)) (plus_one r.done)) (λ t. inr (refl, more.0))
        ]

-- ---- the law

pub counts : {K : Type 0} (picks : Picking K) (hardware : Hardware) (credits : ℕ) (controller : Holdings K)
    (start : Port K) (made : IsMadeOf hardware credits controller start) (p : Port K) (calls : List Call)
    (outcome : Outcome) (done : Unit) (u : Upcoming) (kind : MoveKind) (count first : ℕ) (kept : Buffer) (e : End)
    (asks : AsksAlways (Went outcome (Ok done) ∷ calls)) (a : Answered picks start (Went outcome (Ok done) ∷ calls) p)
    → begun_step a.0.controller ≡ Some u → u.command.order ≡ orders.Move kind count first
    → Contains a.0.buffers.items kept → asks_nothing kept.opcode ≡ false → kept.reference ≡ e.reference
    → Contains (come a.0 p) e
    → (b : List ℕ) × (n : ℕ) × Counts picks e kind start p (Went outcome (Ok done) ∷ calls) a b n
counts picks hardware credits controller start made p calls outcome done u kind count first kept e asks a step is among
    asking mine there =
    let g = ending picks hardware credits controller start made p calls outcome done u kept e asks a step among asking
    there (λ n of u_of. mine ∙ of) in
    let t = tally picks hardware credits controller start made p calls outcome done u kept e asks a step among asking
    there g kind count first is in
    (g.text, t.moved_all, t.counts)
