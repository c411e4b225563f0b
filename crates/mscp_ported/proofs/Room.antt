-- In which ports the ring of responses wasn't found full, and no step of the initialisation waits.
use Rattle.mscp_ported.proofs.Common.{Answered, AsksAlways, Becomes, Call, Choice, Hardware, HasRoom, Holdings, IsGiven, IsMadeOf, List, LookAgain, Next, None, Ok, Outcome, Picking, Port, ReadIp, Tick, WasRead, Went, WriteIp, WriteSa, [], ap, arith, blocks, false, false≢true, given, inl, inr, refl, sym, taken_or_not, true, written, ℕ, ◌∙◌, ◌∷◌, ◌≡◌}
use Rattle.mscp_ported.proofs.Minor.{minor}
use Rattle.mscp_port.specs.declared.stage.Stage.TheVariants as stages
use Rattle.mscp_ported.proofs.Following.{asked_before, in_step}
use Rattle.mscp_ported.proofs.Deeds.{Deed, IsClear, deed}
use Rattle.mscp_ported.proofs.Sights.{Seen, sight}
use Rattle.mscp_ported.proofs.Touching.{Touched, is_late, read_ip, wrote_sa}

-- ---- room

module _ {K : Type 0} (old new : Port K) (was : old.is_full ≡ false) where
  same : (x : Port K) → new ≡ x → x.is_full ≡ old.is_full → new.is_full ≡ false
  same x e full = ap (λ p. p.is_full) e ∙ full ∙ was

  touched_room : Touched old new → new.is_full ≡ false
  touched_room h = grind (arith, same)

  read_room : {bytes : List ℕ} {done : Unit} → Seen bytes done old new → IsGiven old.task (WasRead bytes (Ok done))
      → new.is_full ≡ false
  read_room h given = grind (arith, same)

  went_room : {picks : List Choice → ℕ → Type 0} {outcome : Outcome} → Deed picks outcome old new
      → new.is_full ≡ false
  went_room h = grind (arith, same, taken_or_not)

-- ---- steps that wait

module _ {K : Type 0} (old new : Port K) (clear : IsClear old.task → old.stage ≡ stages.Clearing)
    (was : is_late old.stage ≡ true → old.written ≡ None) (late : is_late new.stage ≡ true) where
  -- the stage stays, and the word
  still : (x : Port K) → new ≡ x → x.stage ≡ old.stage → x.written ≡ old.written → new.written ≡ None
  still x e stage written =
      ap (λ p. p.written) e ∙ written ∙ was (ap is_late (sym (ap (λ p. p.stage) e ∙ stage)) ∙ late)

  touched_so : Touched old new → new.written ≡ None
  touched_so h = grind (arith, still, false≢true, is_late)

  went : {picks : List Choice → ℕ → Type 0} {outcome : Outcome} → Deed picks outcome old new → new.written ≡ None
  went h = grind (arith, still, is_late, taken_or_not)

  heard_by : (picks : Picking K) (call : Call) → Becomes picks call old new → new.written ≡ None
  heard_by picks WriteIp r = r.written
  heard_by picks ReadIp r = touched_so (read_ip old new r)
  heard_by picks (WriteSa word) r = touched_so (wrote_sa word old new r)
  heard_by picks (Next blocks action bytes) r = still _ r.0.frame refl refl
  heard_by picks (WasRead bytes (Ok done)) r = elim r.frame [ inl e ↦ still _ e refl refl | inr dead ↦ dead.1.written ]
  heard_by picks (Went outcome (Ok done)) r = went (deed _ outcome done old new r)
  heard_by picks call r = grind (arith, minor, still)

-- ---- a history

module _ {K : Type 0} (picks : Picking K) (hardware : Hardware) (credits : ℕ) (controller : Holdings K)
    (start : Port K) (made : IsMadeOf hardware credits controller start) where
  -- the ring wasn't found full
  pub room : (p : Port K) (calls : List Call) (a : Answered picks start calls p) → HasRoom picks start p calls a
      → p.is_full ≡ false
  room p [] e has = ap (λ x. x.is_full) e ∙ made.full
  room p (WriteIp ∷ calls) a has = a.2.full
  room p (ReadIp ∷ calls) a has = elim has [
    | inl up ↦ ap (λ x. x.is_full) (a.2.up up)
    | inr more ↦ touched_room a.0 p (room a.0 calls a.1 more) (read_ip a.0 p a.2)
  ]
  room p (WriteSa word ∷ calls) a has = elim a.2.frame
      [ inl e ↦ ap (λ x. x.is_full) e ∙ room a.0 calls a.1 has.1 | inr dead ↦ dead.1.full ]
  room p (Next blocks action bytes ∷ calls) a has = ap (λ x. x.is_full) a.2.0.frame ∙ room a.0 calls a.1 has.1
  room p (WasRead bytes (Ok done) ∷ calls) a has =
      read_room a.0 p (room a.0 calls a.1 has.1) (sight bytes done a.0 p a.2) has.0
  room p (Went outcome (Ok done) ∷ calls) a has =
      went_room a.0 p (room a.0 calls a.1 has.1) (deed (picks a.0.controller.picker) outcome done a.0 p a.2)
  room p (LookAgain ∷ calls) a has = ap (λ x. x.is_full) a.2
  room p (Tick ∷ calls) a has = elim a.2.either [ inl e ↦ ap (λ x. x.is_full) e | inr dead ↦ dead.full ]
  room p (call ∷ calls) a has = grind (arith, room a.0 calls a.1 has.1, minor)

  pub heard_so : (p : Port K) (calls : List Call) → AsksAlways calls → Answered picks start calls p
      → is_late p.stage ≡ true → p.written ≡ None
  heard_so p [] asks e late = ap (λ x. x.written) e ∙ made.written
  heard_so p (call ∷ calls) asks a late =
      let k = in_step picks hardware credits controller start made a.0 calls (asked_before call calls asks) a.1 in
      heard_by a.0 p k.hand.clear (heard_so a.0 calls (asked_before call calls asks) a.1) late picks call a.2

  -- while the rings are in use the area isn't being cleared
  pub uncleared : (p : Port K) (calls : List Call) → AsksAlways calls → Answered picks start calls p
      → p.stage ≡ stages.Up → IsClear p.task → ⊥
  uncleared p calls asks a up c =
      search (arith, up, (in_step picks hardware credits controller start made p calls asks a).hand.clear c)
