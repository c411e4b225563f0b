-- A step of the record at a place, as it is planned and written.
use Rattle.mscp_queue.proofs.Basics.{◌≡◌, ◌≢◌, ℕ, ◌+◌, ◌<◌, Bool, true, false, cond, ◌⊎◌, inl, nat_lt, ltb-false, length-append, length-drop, length-take-le, List, [], ◌∷◌, ◌++◌, map, take, drop, set, get_or, length, refl, ap, sym, ◌∙◌, subst, arith, is_some, Option, Some, refill, length-set, Order, Block, Drive, Name, Plan, Choice, Command, IsOnUnit, IsHeld, Line, fresh_drive, get_or-set_other, length-map, drive_place, Record, advanced, drive_at, no_record, passed_by, record_at, step_charge, IsNext, IsServable, drive_after, plan_of, state_left, touched, cylinder_within, set_replaced, refilled, StepMade, head_kept, touched_inside}
use Rattle.mscp_queue.proofs.Common.{AreFavored, commands, drive_in, closed, knows, one_block, start_in}
use Rattle.mscp_queue.specs.declared.favorites.Favorites.{Favorites}
use Rattle.mscp_queue.proofs.Favored.{command_is}
use Rattle.mscp_queue.proofs.Gone.{favored_served}
use Rattle.mscp_queue.proofs.Ready.{IsDriveOf}
use Rattle.mscp_queue.proofs.Unmoved.{made_served}

-- the record at a place may be served next
abbrev pub NextIn : {K : Type 0} → (K → List Choice → ℕ → Type 0) → Line K → ℕ → Type 0
NextIn picks l place = IsNext (picks l.picker) l.budget l.drives l.waiting l.begun place

-- what a queue holds is what callers see of it
pub next_in : {K : Type 0} {place : ℕ} {inside seen : Line K} (picks : K → List Choice → ℕ → Type 0) → inside ≡ seen
    → NextIn picks seen place → NextIn picks inside place
next_in {K} {place} picks e n = subst (λ l. NextIn picks l place) (sym e) n

-- the head of a drive stays on its unit
planned_on : (k : Block) (d : Drive) (r : Record) → ((lbn : ℕ) → touched d r ≡ Some lbn → lbn < d.unit.size)
    → IsOnUnit d → IsOnUnit (drive_after k d r)
planned_on k d r inside on = grind (arith, cylinder_within)

-- what is planned of the record at a place, and then written to the drive that is found, is its step
pub step_made : {room budget longest place at : ℕ} {rs new : List Record} {ds ls : List Drive} {begun : Option Name}
    {serving ends : Bool} {order : Order} {p : Plan} {d' : Drive} (k : Block) (other : Drive)
    → IsHeld room budget longest rs ds begun serving → IsServable budget rs place → IsDriveOf ds rs place at
    → p ≡ plan_of k (drive_at ds rs place) (record_at rs place) → ls ≡ ds
    → d' ≡ record {
      unit = (get_or ls at other).unit;
      online = state_left (get_or ls at other).online order p.ended;
      head = p.head;
    }
    → order ≡ (record_at rs place).command.order → ends ≡ is_some p.ended
    → new ≡ map (passed_by (step_charge (record_at rs place))) (take place rs)
    ++ (cond ends [] (advanced (record_at rs place) ∷ []) ++ drop (place + 1) rs)
    → StepMade k place rs new ds (refill (length ds) ds (set ls at d')) ends
step_made {room} {budget} {longest} {place} {at} {rs} {new} {ds} {ls} {begun} {serving} {ends} {order} {p} {d'} k other
    held servable found planned lent written of some records =
    let r = record_at rs place in
    let d = drive_at ds rs place in
    let kept = held.each place no_record servable.inside in
    let there : get_or ls at other ≡ d = ap (λ l. get_or l at other) lent ∙ found.is other in
    let after : d' ≡ drive_after k d r = search arith in
    record {
      d' = d';
      after = after;
      on = subst IsOnUnit (sym after) (planned_on k d r (touched_inside budget longest ds r d refl kept)
          (head_kept room budget longest r.command.unit rs ds begun serving held));
      ended = some ∙ ap (λ (q : Plan). is_some q.ended) planned;
      records = records;
      drives = grind (arith, refilled, length-set, set_replaced);
    }

-- and the best starts that are known stay so
pub favored_step : {room budget longest place at : ℕ} {rs new : List Record} {ds ds' : List Drive} {begun : Option Name}
    {serving ends moves : Bool} {k : Block} {f g : Favorites} → IsHeld room budget longest rs ds begun serving
    → IsServable budget rs place → IsDriveOf ds rs place at → StepMade k place rs new ds ds' ends
    → AreFavored ds (commands rs) f → moves ≡ cond ends (nat_lt place (length new)) false → knows g at ≡ false
    → ((k : ℕ) → k < length ds → k ≢ at → start_in g k ≡ cond moves (closed place (start_in f k)) (start_in f k))
    → AreFavored ds' (commands new) g
favored_step {place = place} {at = at} {rs = rs} {new = new} {ds = ds} {ds' = ds'} {ends = ends} {moves = moves} held
    servable found m favored moved known starts =
    let r = record_at rs place in
    let set_at : ds' ≡ set ds at m.d' = m.drives ∙ sym (set_replaced ds at r.command.unit m.d' (drive_at ds rs place)
    held.units (held.each place no_record servable.inside).waitable.known found.placed) in
    let fits = held.fits in
    let few = held.few in
    let many = length-map rs (λ (r : Record). r.command) in
    favored_served held.units place at (let l = servable.inside in omega (arith, l, many))
    (omega (arith, many, fits, few))
    (found.placed ∙ ap (λ (c : Command). drive_place ds c.unit) (sym (command_is rs place servable.inside))) ends
    moves (moves_or ends moved m.records) favored
    (ap length set_at ∙ length-set ds at m.d')
    (λ k d. ap (λ ds. drive_in ds k) set_at ∙ get_or-set_other ds at k m.d' (fresh_drive one_block) d)
    (sym (made_served (λ by command. command) rs new place (step_charge r) ends servable.inside m.records))
    known starts
  where
    -- those behind the place move up, or nobody stands there
    moves_or : (ends : Bool) → moves ≡ cond ends (nat_lt place (length new)) false
        → new ≡ map (passed_by (step_charge (record_at rs place))) (take place rs)
        ++ (cond ends [] (advanced (record_at rs place) ∷ []) ++ drop (place + 1) rs)
        → (moves ≡ ends) ⊎ ((moves ≡ false) × (length (commands rs) ≡ place + 1))
    moves_or false e r = inl e
    moves_or true e r = grind (arith, length-append, ltb-false, length-map, length-take-le, length-drop)
