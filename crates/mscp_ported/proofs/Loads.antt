-- What was told of the volumes is what a port knows of them.
use Rattle.mscp_ported.proofs.Common.{Answered, Becomes, Bool, Buffer, Call, Changes, Choice, Connection, End, Err, GoesOnWithBlock, Hardware, Holdings, IsAsNew, IsMadeOf, IsNews, List, LookAgain, LooksForOut, Medium, MoveKind, Next, NoUnit, None, Ok, Option, Picking, Port, Protect, PutAside, PutsIn, ReadIp, Result, Says, Shape, Some, Stage, Task, Tick, Volume, VolumeCame, VolumeFault, VolumeWent, WasRead, Went, WriteIp, WriteSa, [], ap, arith, cases_eq, cases_lt, cond, eq_false, eq_true, eqb-true, false, false≢true, get_or, get_or-set_other, get_or-set_same, get_or_past, if◌then◌else◌, inl, inr, is_loaded, is_locked, length, length-set, nat_eq, no_volume, none-some, one_block, place_in, position-Some, protected_by, refl, set, subst, sym, true, volume_at, volume_changed, volume_heeded, volume_protected, volume_put, volumes_after, volumes_heeded, volumes_with, writes, ℕ, ◌<◌, ◌∙◌, ◌∷◌, ◌≡◌, ◌≢◌, ◌⊎◌}
use Rattle.mscp_ported.specs.Loaded.{blocks_in}
use Rattle.mscp_port.specs.declared.action.Action.TheVariants as actions
use Rattle.mscp_port.specs.declared.stage.Stage.TheVariants as stages
use Rattle.mscp_port.specs.declared.task.Task.TheVariants as tasks
use Rattle.mscp_ported.proofs.Credits.{settings_stay}
use Rattle.mscp_port.proofs.Begun.{taken_or_not}

-- ---- a volume

-- it is there as it was, as protected by the hardware, and as long
abbrev IsAsBefore : Volume → Volume → Type 0
IsAsBefore v w = (w.is_there ≡ v.is_there) × (w.is_protected ≡ v.is_protected) × (w.size ≡ v.size)

either_way : (b : Bool) (v x y : Volume) → IsAsBefore v x → IsAsBefore v y → IsAsBefore v (cond b x y)
either_way b v x y h4 h5 = grind arith

-- the Success of a command changes neither
protected_way : (b : Buffer) (v w : Volume) → IsAsBefore v w → IsAsBefore v (protected_by b w)
protected_way b v w e = either_way _ v _ w e e

heeded_way : (code : ℕ) (kept : Option Buffer) (v : Volume) → IsAsBefore v (volume_heeded code kept v)
heeded_way code kept v = grind (arith, either_way, protected_way)

-- ---- the volumes

abbrev AreAsBefore : List Volume → List Volume → Type 0
AreAsBefore vs ws = (place : ℕ) → place < 16 → IsAsBefore (volume_at vs place) (volume_at ws place)

the_same : (vs ws : List Volume) → ws ≡ vs → AreAsBefore vs ws
the_same vs ws e = search arith

as_new : {K : Type 0} (s : Stage) (old new : Port K) → IsAsNew s old new → AreAsBefore old.volumes new.volumes
as_new s old new n = search arith

-- what stands at a place that is written: what was written, or nothing there before either
at_set : (vs : List Volume) (q : ℕ) (x : Volume) → (volume_at (set vs q x) q ≡ x)
    ⊎ ((volume_at (set vs q x) q ≡ no_volume) × (volume_at vs q ≡ no_volume))
at_set vs q x = search (arith, cases_lt q (length vs), length-set vs q x, get_or-set_same, get_or_past)

set_here : (vs : List Volume) (q : ℕ) (x : Volume) → IsAsBefore (volume_at vs q) x
    → IsAsBefore (volume_at vs q) (volume_at (set vs q x) q)
set_here vs q x same = search (arith, at_set vs q x)

set_one : (vs : List Volume) (q : ℕ) (x : Volume) → IsAsBefore (volume_at vs q) x → AreAsBefore vs (set vs q x)
set_one vs q x same = search (arith, set_here vs q x same, cases_eq, get_or-set_other)

heeded_at : (code : ℕ) (kept : Option Buffer) (o : Option ℕ) (vs : List Volume)
    → AreAsBefore vs (volumes_heeded code kept o vs)
heeded_at code kept o vs = grind (arith, the_same, set_one, heeded_way)

after_end : (units : List Shape) (bs : List Buffer) (via : Connection) (ended : Option End) (vs : List Volume)
    → AreAsBefore vs (volumes_after units bs via ended vs)
after_end units bs via ended vs = grind (arith, the_same, heeded_at)

with_block : {K : Type 0} (picks : List Choice → ℕ → Type 0) (old new : Port K) → GoesOnWithBlock picks old new
    → AreAsBefore old.volumes new.volumes
with_block picks old new goes = search (arith, the_same, after_end, taken_or_not picks old new goes)

-- ---- news

with_news : (units : List Shape) (vs ws : List Volume) (o : Option ℕ) (out : Option _) → IsNews units vs o out ws
    → AreAsBefore vs ws
with_news units vs ws o out h5 = grind (arith, the_same, set_one)

pub free_or_not : (t : Task) → (t ≡ tasks.Free) ⊎ (t ≢ tasks.Free)
free_or_not tasks.Free = inl refl
free_or_not t = inr (λ e. search (arith, e))

is_up : Stage → Bool
is_up stages.Up = true
is_up s = false

pub up_or_not : (s : Stage) → (s ≡ stages.Up) ⊎ (s ≢ stages.Up)
unfolding is_up
up_or_not stages.Up = inl refl
up_or_not s = inr (λ e. false≢true (ap is_up e))

pub none_or_not : {X : Type 0} (o : Option X) → (o ≡ None) ⊎ (o ≢ None)
none_or_not o = grind (arith, none-some)

pub looks_or_not : {K : Type 0} (p : Port K) → LooksForOut p ⊎ (LooksForOut p → ⊥)
looks_or_not p = search (arith, none_or_not p.outgoing, free_or_not p.task, none_or_not p.written, up_or_not p.stage)

said : {K : Type 0} (old new : Port K) → Says old new → AreAsBefore old.volumes new.volumes
said old new says = search (arith, looks_or_not old, the_same, with_news)

-- ---- what was told

-- a volume that is there was told to be there, and to be as protected as it is
record Agrees (loaded locked : Bool) (size : ℕ) (v : Volume) : Type 0 where
  there : v.is_there ≡ true → loaded ≡ true
  protected : v.is_there ≡ true → v.is_protected ≡ locked
  long : v.is_there ≡ true → v.size ≡ size

abbrev Agree : {K : Type 0} → ℕ → List Call → Port K → Type 0
Agree unit calls p = (place : ℕ) → place < 16 → place_in p.controller.settings.units unit ≡ Some place
    → Agrees (is_loaded unit calls) (is_locked unit calls) (blocks_in unit calls) (volume_at p.volumes place)

agrees_still : (loaded locked : Bool) (size : ℕ) (v w : Volume) → IsAsBefore v w → Agrees loaded locked size v
    → Agrees loaded locked size w
agrees_still loaded locked size v w same a = search arith

agrees_none : (loaded locked : Bool) (size : ℕ) (v : Volume) → v ≡ no_volume → Agrees loaded locked size v
agrees_none loaded locked size v e = search (arith, false≢true)

agree_still : {K : Type 0} (unit : ℕ) (calls : List Call) (old new : Port K)
    → new.controller.settings ≡ old.controller.settings → AreAsBefore old.volumes new.volumes → Agree unit calls old
    → (place : ℕ) → place < 16 → place_in new.controller.settings.units unit ≡ Some place
    → Agrees (is_loaded unit calls) (is_locked unit calls) (blocks_in unit calls) (volume_at new.volumes place)
agree_still unit calls old new settings same a = search (arith, agrees_still)

-- ---- a call

-- the units of different numbers stand at different places
apart : (units : List Shape) (one other place q : ℕ) → place_in units one ≡ Some place → place_in units other ≡ Some q
    → other ≢ one → place ≢ q
apart units one other place q at there ne e =
    let first = eqb-true _ _ (position-Some (λ u. nat_eq u.number one) units place one_block at).1 in
    let second = eqb-true _ _ (position-Some (λ u. nat_eq u.number other) units q one_block there).1 in
    ne (sym second ∙ ap (λ i. (get_or units i one_block).number) (sym e) ∙ first)

-- the volume of another unit changes
elsewhere : (units : List Shape) (vs : List Volume) (becomes : Volume → Volume) (one other place : ℕ) (o : Option ℕ)
    → place_in units other ≡ o → place_in units one ≡ Some place → other ≢ one
    → volume_at (volumes_with becomes o vs) place ≡ volume_at vs place
elsewhere units vs becomes one other place o h7 h8 h9 = grind (arith, get_or-set_other, apart)

-- or one came into this one
put_here : (vs : List Volume) (m : Medium) (place : ℕ)
    → Agrees true m.is_protected m.size (volume_at (volumes_with (volume_put m) (Some place) vs) place)
put_here vs m place = search (arith, at_set vs place (volume_put m (volume_at vs place)), agrees_none)

came : {K : Type 0} (picks : Picking K) (unit : ℕ) (calls : List Call) (m : Medium) (other : ℕ)
    (result : Result Unit VolumeFault)
    (old new : Port K) → PutsIn m other old result new → Agree unit calls old
    → Agree unit (VolumeCame m other result ∷ calls) new
came picks unit calls m other (Ok done) old new r a =
    let is = r.came refl in
    search (arith, is, cases_eq other unit, eq_true, put_here, eq_false, elsewhere)
came picks unit calls m other (Err fault) old new r a =
    agree_still unit calls old new (settings_stay picks (VolumeCame m other (Err fault)) old new r)
    (the_same old.volumes new.volumes (ap (λ (p : Port _). p.volumes) r.refused)) a

-- or that of this one went
gone_here : (vs : List Volume) (locked : Bool) (size place : ℕ)
    → Agrees false locked size (volume_at (volumes_with (volume_changed false) (Some place) vs) place)
gone_here vs locked size place =
    search (arith, at_set vs place (volume_changed false (volume_at vs place)), agrees_none, false≢true)

gone : {K : Type 0} (unit : ℕ) (calls : List Call) (other : ℕ) (result : Result Unit NoUnit) (old new : Port K)
    → Changes (volume_changed false) other old result new → Agree unit calls old
    → Agree unit (VolumeWent other result ∷ calls) new
gone unit calls other result old new r a =
    search (arith, cases_eq other unit, eq_true, gone_here, eq_false, elsewhere)

if_there : (there protected : Bool) → there ≡ true → (if there then protected else false) ≡ protected
if_there there protected e = grind (arith, false≢true)

-- its volume is protected, or isn't any more
guarded_here : (vs : List Volume) (loaded locked protected : Bool) (size place : ℕ)
    → Agrees loaded locked size (volume_at vs place)
    → Agrees loaded protected size (volume_at (volumes_with (volume_protected protected) (Some place) vs) place)
guarded_here vs loaded locked protected size place a =
    search (arith, at_set vs place (volume_protected protected (volume_at vs place)), agrees_none, if_there)

guarded : {K : Type 0} (unit : ℕ) (calls : List Call) (protected : Bool) (other : ℕ) (result : Result Unit NoUnit)
    (old new : Port K) → Changes (volume_protected protected) other old result new → Agree unit calls old
    → Agree unit (Protect protected other result ∷ calls) new
guarded unit calls protected other result old new r a =
    search (arith, cases_eq other unit, eq_true, guarded_here, eq_false, elsewhere)

agree_after : {K : Type 0} (picks : Picking K) (unit : ℕ) (call : Call) (calls : List Call) (old new : Port K)
    → Becomes picks call old new
    → Agree unit calls old → Agree unit (call ∷ calls) new
agree_after picks unit WriteIp calls old new r a =
    agree_still unit calls old new (settings_stay picks WriteIp old new r) (as_new stages.First old new r) a
agree_after picks unit ReadIp calls old new r a =
    search (arith, settings_stay picks ReadIp old new r, agree_still, the_same, as_new)
agree_after picks unit (WriteSa word) calls old new r a =
    search (arith, settings_stay picks (WriteSa word) old new r, agree_still, the_same, as_new)
agree_after picks unit (Next blocks action bytes) calls old new r a =
    agree_still unit calls old new (settings_stay picks (Next blocks action bytes) old new r) (said old new r.0.says) a
agree_after picks unit PutAside calls old new r a = search
    (arith, settings_stay picks PutAside old new r, agree_still, the_same)
agree_after picks unit (WasRead bytes result) calls old new r a =
    search (arith, settings_stay picks (WasRead bytes result) old new r, agree_still, the_same, as_new)
agree_after picks unit (Went outcome result) calls old new r a =
    agree_still unit calls old new (settings_stay picks (Went outcome result) old new r) (elim r.commands [
      | inl e ↦ the_same old.volumes new.volumes e.volumes
      | inr more ↦ elim more
          [ inl block ↦ with_block _ old new block.1 | inr dead ↦ as_new (stages.Dead dead.0) old new dead.1 ]
    ]) a
agree_after picks unit LookAgain calls old new r a = search
    (arith, settings_stay picks LookAgain old new r, agree_still, the_same)
agree_after picks unit Tick calls old new r a = search
    (arith, settings_stay picks Tick old new r, agree_still, the_same, as_new)
agree_after picks unit (VolumeCame m other result) calls old new r a = came picks unit calls m other result old new r a
agree_after picks unit (VolumeWent other result) calls old new r a = gone unit calls other result old new r a
agree_after picks unit (Protect protected other result) calls old new r a =
    guarded unit calls protected other result old new r a

-- ---- the law

agree : {K : Type 0} (picks : Picking K) (hardware : Hardware) (credits : ℕ) (controller : Holdings K)
    (start p : Port K) (unit : ℕ)
    (calls : List Call) → IsMadeOf hardware credits controller start → Answered picks start calls p → Agree unit calls p
agree picks hardware credits controller start p unit [] made e = search (arith, agrees_none)
agree picks hardware credits controller start p unit (call ∷ calls) made a =
    agree_after picks unit call calls a.0 p a.2 (agree picks hardware credits controller start a.0 unit calls made a.1)

pub moves_on_volumes : {K : Type 0} (picks : Picking K) (hardware : Hardware) (credits : ℕ) (controller : Holdings K)
    (start p : Port K)
    (calls : List Call) (blocks : Bool) (kind : MoveKind) (unit block address count : ℕ) (bytes : List ℕ)
    → IsMadeOf hardware credits controller start
    → Answered picks start (Next blocks (actions.Transfer kind unit block address count) bytes ∷ calls) p
    → (is_loaded unit calls ≡ true) × (writes kind ≡ true → is_locked unit calls ≡ false)
    × (block < blocks_in unit calls)
moves_on_volumes picks hardware credits controller start p calls blocks kind unit block address count bytes made a =
    let moves = a.2.0.moves kind unit block address count refl in
    let agrees = agree picks hardware credits controller start p unit
    (Next blocks (actions.Transfer kind unit block address count) bytes ∷ calls) made a moves.0 moves.2 moves.1 in (
      agrees.there moves.3.there,
      λ writing. sym (agrees.protected moves.3.there) ∙ moves.3.hardware writing,
      subst (λ n. block < n) (agrees.long moves.3.there) moves.3.on,
    )
