-- What a port touches after a whole history was put into its host's memory.
use Rattle.mscp_ported.proofs.Common.{Action, Answered, AsksFirst, Becomes, Bool, Call, ChangesVolume, Contains, Drops, Err, Hardware, Hears, Holdings, IfSome, IsAsNew, IsInRingsOrPacket, IsInSomeBuffer, IsMadeOf, IsPut, IsPutForData, IsPutForRings, IsWithin, Leaves, List, LookAgain, NamesArea, Next, None, Ok, Option, Picking, Port, Protect, PutAside, ReadIp, Some, Stage, Task, Tick, Ticks, Volume, VolumeCame, VolumeWent, WasRead, Went, WriteIp, WriteSa, [], ap, arith, false, inl, inr, place_in, reads, reads_at, refl, step_at, subst, sym, volume_changed, volume_protected, volume_put, with_read, words, ℕ, ◌∙◌, ◌∷◌, ◌≡◌, ◌≢◌, ◌⊎◌}
use Rattle.mscp_ported.specs.Places.{asked}
use Rattle.mscp_port.specs.declared.action.Action.TheVariants as actions
use Rattle.mscp_port.specs.declared.task.Task.TheVariants as tasks
use Rattle.mscp_port.proofs.Among.{none_among}
use Rattle.mscp_ported.proofs.Naming.Knowing.{Knows}
use Rattle.mscp_ported.proofs.Naming.Placing.{Places, hand_placed, next_placed, nothing_placed, places_behind, read_placed, went_placed}
use Rattle.mscp_ported.proofs.Naming.Whole.{chosen, knows}

new_drops : {K : Type 0} (s : Stage) (old new : Port K) → IsAsNew s old new → Drops old new
new_drops s old new n = search (arith, none_among)

tick_hands : {K : Type 0} (old new : Port K) → Ticks old new → Leaves old new ⊎ Drops old new
tick_hands old new r = search (arith, new_drops)

same_or_free : (o : Option ℕ) (t : Task) → (step_at o t ≡ t) ⊎ (step_at o t ≡ tasks.Free)
same_or_free None t = inl refl
same_or_free (Some place) (tasks.Step block) = inr refl
same_or_free (Some place) tasks.Transfer = inr refl
same_or_free (Some place) t = inl refl

volume_hands : {K : Type 0} (becomes : Volume → Volume) (unit : ℕ) (old new : Port K)
    → ChangesVolume becomes unit old new → Leaves old new ⊎ Drops old new
volume_hands becomes unit old new e =
    elim (same_or_free (place_in old.controller.settings.units unit) old.task) [
      | inl same ↦ inl (record {
        task = ap (λ (p : Port _). p.task) e ∙ same;
        rings = ap (λ (p : Port _). p.rings) e;
        responses = ap (λ (p : Port _). p.responses) e;
        commands = ap (λ (p : Port _). p.commands) e;
        buffers = ap (λ (p : Port _). p.buffers) e;
      })
      | inr free ↦ inr (record {
        task = inl (ap (λ (p : Port _). p.task) e ∙ free);
        buffers = λ b there. subst (λ bs. Contains bs b) (ap (λ (p : Port _). p.buffers.items) e) there;
      })
    ]

-- the bytes of a read that was wanted
heard_placed : {K : Type 0} (ws : List ℕ) (rs : List (ℕ × List ℕ)) (o : Option ℕ) (old new : Port K) (bytes : List ℕ)
    (done : Unit {0}) → IfSome old.rings (λ r. NamesArea ws r) → o ≢ None → Places ws rs o old
    → Hears bytes old (Ok done) new → Places ws (with_read o bytes rs) None new
heard_placed ws rs None old new bytes done areas some k r = absurd (some refl)
heard_placed ws rs (Some address) old new bytes done areas some k r =
    read_placed ws rs address old new bytes (Ok done) areas k r

call_placed : {K : Type 0} (picks : Picking K) (call : Call) (earlier : List Call) (old new : Port K)
    → IfSome old.rings (λ r. NamesArea (words earlier) r) → AsksFirst (call ∷ earlier)
    → Places (words earlier) (reads_at earlier) (asked earlier) old → Becomes picks call old new
    → Places (words (call ∷ earlier)) (reads_at (call ∷ earlier)) (asked (call ∷ earlier)) new
call_placed picks WriteIp earlier old new areas asks k r = nothing_placed [] [] new r.task r.buffers
call_placed picks ReadIp earlier old new areas asks k r =
    hand_placed (words earlier) (reads_at earlier) (asked earlier) old new k r.hand
call_placed picks (WriteSa word) earlier old new areas asks k r =
    places_behind (words earlier) (reads_at earlier) (asked earlier) new word
    (hand_placed (words earlier) (reads_at earlier) (asked earlier) old new k r.hand)
call_placed picks (Next blocks action bytes) earlier old new areas asks k r =
    next_placed _ (words earlier) (reads_at earlier) (asked earlier) old new blocks action k r.0
call_placed picks PutAside earlier old new areas asks k r = search (arith, hand_placed)
call_placed picks (WasRead bytes (Ok done)) earlier old new areas asks k r =
    heard_placed (words earlier) (reads_at earlier) (asked earlier) old new bytes done areas asks.0 k r
call_placed picks (WasRead bytes (Err unasked)) earlier old new areas asks k r = search arith
call_placed picks (Went outcome (Ok done)) earlier old new areas asks k r =
    went_placed _ (words earlier) (reads_at earlier) (asked earlier) old new outcome (Ok done) k r
call_placed picks (Went outcome (Err unasked)) earlier old new areas asks k r = search arith
call_placed picks LookAgain earlier old new areas asks k r = search (arith, hand_placed)
call_placed picks Tick earlier old new areas asks k r =
    hand_placed (words earlier) (reads_at earlier) (asked earlier) old new k (tick_hands old new r)
call_placed picks (VolumeCame m unit (Ok done)) earlier old new areas asks k r =
    hand_placed (words earlier) (reads_at earlier) (asked earlier) old new k
    (volume_hands (volume_put m) unit old new (r.came refl))
call_placed picks (VolumeCame m unit (Err fault)) earlier old new areas asks k r = search arith
call_placed picks (VolumeWent unit result) earlier old new areas asks k r =
    hand_placed (words earlier) (reads_at earlier) (asked earlier) old new k
    (volume_hands (volume_changed false) unit old new r.frame)
call_placed picks (Protect protected unit result) earlier old new areas asks k r =
    hand_placed (words earlier) (reads_at earlier) (asked earlier) old new k
    (volume_hands (volume_protected protected) unit old new r.frame)

-- who asked before also asked earlier
asked_before : (call : Call) (earlier : List Call) → AsksFirst (call ∷ earlier) → AsksFirst earlier
asked_before call earlier h2 = grind arith

pub placed : {K : Type 0} (picks : Picking K) (hardware : Hardware) (credits : ℕ) (controller : Holdings K)
    (start p : Port K)
    (calls : List Call) → IsMadeOf hardware credits controller start → AsksFirst calls → Answered picks start calls p
    → Places (words calls) (reads_at calls) (asked calls) p
placed picks hardware credits controller start p [] made asks e =
    subst (Places [] [] None) (sym e) (nothing_placed [] [] start made.free made.buffers)
placed picks hardware credits controller start p (call ∷ earlier) made asks a =
    call_placed picks call earlier a.0 p (knows picks hardware credits controller start a.0 earlier made a.1).area asks
    (placed picks hardware credits controller start a.0 earlier made (asked_before call earlier asks) a.1) a.2

-- ---- what an action touches

ring_put : {K : Type 0} (calls : List Call) (o : Option ℕ) (p : Port K) (address count : ℕ)
    → Knows (words calls) (reads calls) p → Places (words calls) (reads_at calls) o p
    → IsInRingsOrPacket p address count
    → IsPutForRings calls address count
ring_put calls o p address count k m lies = search (arith, chosen)

data_put : {K : Type 0} (calls : List Call) (o : Option ℕ) (p : Port K) (address count : ℕ)
    → Places (words calls) (reads_at calls) o p → IsInSomeBuffer p address count
    → IsPutForData calls address count
data_put calls o p address count m lies = (lies.0, m.buffer lies.0 lies.1, lies.2)

within_put : {K : Type 0} (calls : List Call) (o : Option ℕ) (p : Port K) (action : Action)
    → Knows (words calls) (reads calls) p → Places (words calls) (reads_at calls) o p → IsWithin p action
    → IsPut calls action
within_put calls o p (actions.Write address count) k m lies = ring_put calls o p address count k m lies
within_put calls o p action h4 h5 h6 = grind (arith, ring_put, data_put)

-- the law of places
pub touches_what_was_put : {K : Type 0} (picks : Picking K) (hardware : Hardware) (credits : ℕ)
    (controller : Holdings K)
    (start p : Port K) (calls : List Call) (blocks : Bool) (action : Action) (bytes : List ℕ)
    → IsMadeOf hardware credits controller start → AsksFirst calls
    → Answered picks start (Next blocks action bytes ∷ calls) p
    → IsPut calls action
touches_what_was_put picks hardware credits controller start p calls blocks action bytes made asks a =
    within_put calls (asked (Next blocks action bytes ∷ calls)) p action
    (knows picks hardware credits controller start p (Next blocks action bytes ∷ calls) made a)
    (placed picks hardware credits controller start p (Next blocks action bytes ∷ calls) made asks a) a.2.0.within
