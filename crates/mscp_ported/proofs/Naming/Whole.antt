-- What a port knows after a whole history, and what it touches then.
use Rattle.mscp_ported.proofs.Common.{Action, Answered, Becomes, Bool, Buffer, Call, ChangesVolume, Contains, Err, Hardware, Hears, Holdings, IfSome, IsInRingsOrPacket, IsInSomeBuffer, IsMadeOf, IsNamed, IsNamedForData, IsNamedForRings, IsSomeAnd, IsWithin, List, LookAgain, NamesBuffer, NamesPacket, Next, None, Ok, Option, Picking, Port, Protect, PutAside, ReadIp, Result, Some, Task, Tick, Ticks, Unasked, Volume, VolumeCame, VolumeWent, WasRead, Went, WriteIp, WriteSa, [], ap, arith, false, in_hand, inl, inr, place_in, read_again, reads, refl, step_again, step_at, subst, sym, volume_changed, volume_protected, volume_put, words, ℕ, ◌∷◌}
use Rattle.mscp_port.specs.declared.stage.Stage.TheVariants as stages
use Rattle.mscp_port.specs.declared.task.Task.TheVariants as tasks
use Rattle.mscp_ported.proofs.Naming.Knowing.{answers, Knows, fresh_knows, new_knows, still_knows}
use Rattle.mscp_ported.proofs.Naming.Registers.{after_read_ip, after_write_sa, after_next}
use Rattle.mscp_ported.proofs.Naming.Acting.{after_read, after_went}

-- ---- whole histories

pub heard : {K : Type 0} (earlier : List Call) (old new : Port K) (bytes : List ℕ) (result : Result Unit Unasked)
    → Knows (words earlier) (reads earlier) old → Hears bytes old result new
    → Knows (words earlier) (reads (WasRead bytes result ∷ earlier)) new
heard earlier old new bytes (Ok done) k r = after_read (words earlier) (reads earlier) old new bytes (Ok done) k r
heard earlier old new bytes (Err unasked) k r = subst (Knows (words earlier) (reads earlier)) (sym r.unasked) k

-- a slot that is read again names no packet
hand_again : (bs : List (List ℕ)) (task : Task) → IfSome (in_hand task) (λ word. NamesPacket bs word)
    → IfSome (in_hand (read_again task)) (λ word. NamesPacket bs word)
hand_again bs (tasks.Slot side) named = tt
hand_again bs task named = named

-- nor does a step that is taken anew
step_named : (bs : List (List ℕ)) (task : Task) → IfSome (in_hand task) (λ word. NamesPacket bs word)
    → IfSome (in_hand (step_again task)) (λ word. NamesPacket bs word)
step_named bs (tasks.Step block) named = tt
step_named bs task named = named

at_named : (bs : List (List ℕ)) (o : Option ℕ) (task : Task) → IfSome (in_hand task) (λ word. NamesPacket bs word)
    → IfSome (in_hand (step_at o task)) (λ word. NamesPacket bs word)
at_named bs None task named = named
at_named bs (Some place) task named = step_named bs task named

-- a volume changes
volume_known : {K : Type 0} (ws : List ℕ) (bs : List (List ℕ)) (becomes : Volume → Volume) (unit : ℕ) (old new : Port K)
    → Knows ws bs old → ChangesVolume becomes unit old new → Knows ws bs new
volume_known ws bs becomes unit old new k e =
    still_knows ws bs bs old new k
    (record {
      taken = inl (ap (λ p. answers p.stage p.words) e);
      given = ap (λ p. p.written) e;
      area = ap (λ p. p.rings) e;
    })
    (record {
      packet = subst (λ (p : Port _). IfSome (in_hand p.task) (λ word. NamesPacket bs word)) (sym e)
          (at_named bs (place_in old.controller.settings.units unit) old.task k.packet);
      buffer = subst (λ (p : Port _). (b : Buffer) → Contains p.buffers.items b → NamesBuffer bs b) (sym e) k.buffer;
    })

pub ticked : {K : Type 0} (ws : List ℕ) (bs : List (List ℕ)) (old new : Port K) → Knows ws bs old → Ticks old new
    → Knows ws bs new
ticked ws bs old new k r = elim r.either [
  | inl e ↦ still_knows ws bs bs old new k
      (record {
        taken = inl (ap (λ p. answers p.stage p.words) e);
        given = ap (λ p. p.written) e;
        area = ap (λ p. p.rings) e;
      })
      (record {
        packet = subst (λ (p : Port _). IfSome (in_hand p.task) (λ word. NamesPacket bs word)) (sym e)
            (hand_again bs old.task k.packet);
        buffer = subst (λ (p : Port _). (b : Buffer) → Contains p.buffers.items b → NamesBuffer bs b) (sym e) k.buffer;
      })
  | inr dead ↦ new_knows ws bs (stages.Dead 9) old new (λ w. refl) dead
]

pub after_call : {K : Type 0} (picks : Picking K) (call : Call) (earlier : List Call) (old new : Port K)
    → Knows (words earlier) (reads earlier) old → Becomes picks call old new
    → Knows (words (call ∷ earlier)) (reads (call ∷ earlier)) new
after_call picks WriteIp earlier old new k r = new_knows [] [] stages.First old new (λ w. refl) r
after_call picks ReadIp earlier old new k r = after_read_ip (words earlier) (reads earlier) old new k r
after_call picks (WriteSa word) earlier old new k r = after_write_sa (words earlier) (reads earlier) old new word k r
after_call picks (Next blocks action bytes) earlier old new k r =
    after_next _ (words earlier) (reads earlier) old new blocks action k r.0
after_call picks PutAside earlier old new k r = search arith
after_call picks (WasRead bytes result) earlier old new k r = heard earlier old new bytes result k r
after_call picks (Went outcome result) earlier old new k r =
    after_went _ (words earlier) (reads earlier) old new outcome result k r
after_call picks LookAgain earlier old new k r = search arith
after_call picks Tick earlier old new k r = ticked (words earlier) (reads earlier) old new k r
after_call picks (VolumeCame m unit (Ok done)) earlier old new k r =
    volume_known (words earlier) (reads earlier) (volume_put m) unit old new k (r.came refl)
after_call picks (VolumeCame m unit (Err fault)) earlier old new k r = search arith
after_call picks (VolumeWent unit result) earlier old new k r =
    volume_known (words earlier) (reads earlier) (volume_changed false) unit old new k r.frame
after_call picks (Protect protected unit result) earlier old new k r =
    volume_known (words earlier) (reads earlier) (volume_protected protected) unit old new k r.frame

-- what a port knows after a history its host has named in it
pub knows : {K : Type 0} (picks : Picking K) (hardware : Hardware) (credits : ℕ) (controller : Holdings K)
    (start p : Port K)
    (calls : List Call) → IsMadeOf hardware credits controller start → Answered picks start calls p
    → Knows (words calls) (reads calls) p
knows picks hardware credits controller start p [] made e = search (arith, fresh_knows, answers)
knows picks hardware credits controller start p (call ∷ earlier) made a =
    after_call picks call earlier a.0 p (knows picks hardware credits controller start a.0 earlier made a.1) a.2

-- ---- what an action touches

pub chosen : {X : Type 0} (o : Option X) (P Q : X → Type 0) → IsSomeAnd o P → IfSome o Q → (x : X) × Q x × P x
chosen o P Q h3 h4 = grind arith

pub ring_named : {K : Type 0} (calls : List Call) (p : Port K) (address count : ℕ) → Knows (words calls) (reads calls) p
    → IsInRingsOrPacket p address count → IsNamedForRings calls address count
ring_named calls p address count k lies = search (arith, chosen)

pub data_named : {K : Type 0} (calls : List Call) (p : Port K) (address count : ℕ) → Knows (words calls) (reads calls) p
    → IsInSomeBuffer p address count → IsNamedForData calls address count
data_named calls p address count k lies = (lies.0, k.buffer lies.0 lies.1, lies.2)

pub within_named : {K : Type 0} (calls : List Call) (p : Port K) (action : Action) → Knows (words calls) (reads calls) p
    → IsWithin p action → IsNamed calls action
within_named calls p action h3 h4 = grind (arith, ring_named, data_named)

-- the law of ports
pub touches_what_is_named : {K : Type 0} (picks : Picking K) (hardware : Hardware) (credits : ℕ)
    (controller : Holdings K) (start : Port K)
    (p : Port K) (calls : List Call) (blocks : Bool) (action : Action) (bytes : List ℕ)
    → IsMadeOf hardware credits controller start → Answered picks start (Next blocks action bytes ∷ calls) p
    → IsNamed calls action
touches_what_is_named picks hardware credits controller start p calls blocks action bytes made a =
    within_named calls p action (knows picks hardware credits controller start p
    (Next blocks action bytes ∷ calls) made a)
    a.2.0.within
