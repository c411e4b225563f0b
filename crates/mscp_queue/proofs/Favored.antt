-- The best starts that a queue keeps are those that the slots tell.
use Rattle.mscp_queue.proofs.Basics.{◌≡◌, ⊎_elim, ℕ, ◌<◌, ◌≤◌, Bool, true, false, not, ◌||◌, List, map, take, get_or, length, refl, ap, sym, ◌∙◌, subst, arith, nat_eq, false≢true, get_or-map, get_or_default, length-map, take-map, all_shown, Command, Order, cylinder_of, first_block, is_move, is_sequential, order_cost, Drive, Kind, Record, Target, CanBeShown, IsUnitList, is_known, units_of, no_record, no_target, record_at, unit_place, AreOnDrive, same_or, drive_of, known_at, place_is, pairs_rise, place_same, cylinder_within, is_free, leads_to, LeadsTo, kinds_of, no_kind, own_target}
use Rattle.mscp_queue.proofs.Common.{AreFavored, IsBest, IsClearOn, IsLearned, IsOpenOn, KnowsNothing, command_at, commands, cost_at, cost_on, cost_there, drive_in, is_clear, kind_there, last_cylinder, range_of, start_in}
use Rattle.mscp_queue.proofs.Turns.{found_unit}
use Rattle.mscp_queue.specs.Starts.{Start}
use Rattle.mscp_queue.specs.declared.favorites.Favorites.{Favorites}
use Rattle.std.proofs.Math.Nat.{zero-div}
use Rattle.mscp_queue.proofs.Best.{best_same}
use Rattle.mscp_queue.proofs.Starting.{free_is, kind_in, kinds_targeted}

-- ---- a command at a place
pub command_is : (rs : List Record) (place : ℕ) → place < length rs
    → command_at (commands rs) place ≡ (record_at rs place).command
command_is rs place l = get_or-map (λ (r : Record). r.command) rs place no_record no_record.command l

pub clear_is : (rs : List Record) (place : ℕ) → place < length rs
    → is_clear (commands rs) place ≡ is_free (record_at rs place) (take place rs)
clear_is rs place l = grind (arith, command_is, take-map, all_shown)

-- what its start costs on a drive that its target leads to
pub cost_is : (d : Drive) (o : Order) (to : ℕ) → (is_sequential o || is_move o) ≡ true
    → to ≡ cylinder_of d.unit (first_block o) → cost_on d (is_sequential o) to ≡ order_cost d.unit d.head o
cost_is d o to h e = grind (arith, false≢true)

no_move : (o : Order) → is_move o ≡ false → first_block o ≡ 0
no_move o e = grind (arith, false≢true)

-- the commands whose unit's drive is this
module _ {ds : List Drive} {rs : List Record} {own : List Target} (shown : CanBeShown ds rs own)
    (units : IsUnitList (units_of ds)) (at : ℕ) (d : Drive) (inside : at < length ds) (found : d ≡ get_or ds at d) where
  abbrev number : ℕ → ℕ
  number place = (record_at rs place).command.unit

  known : (place : ℕ) → place < length rs → is_known (units_of ds) (number place) ≡ true
  known place l = (shown.inside place no_record l).0

  abbrev ks : List Kind
  ks = kinds_of rs own

  kinds_made : ks ≡ map (kind_in (units_of ds)) rs
  kinds_made = ap (kinds_of rs) shown.targeted ∙ kinds_targeted (units_of ds) rs

  long : length ks ≡ length rs
  long = ap length kinds_made ∙ length-map rs (kind_in (units_of ds))

  kind_is : (place : ℕ) → place < length rs → kind_there ks place ≡ kind_in (units_of ds) (record_at rs place)
  kind_is place l =
      ap (λ ks. kind_there ks place) kinds_made ∙ get_or-map (kind_in (units_of ds)) rs place no_record no_kind l

  target_drive : (place : ℕ) → place < length rs
      → (get_or own place no_target).drive ≡ unit_place (units_of ds) (number place)
  target_drive place l =
      ap (λ (a : Target). a.drive) (own_target ds rs own place (record_at rs place) no_target shown l
      (sym (get_or_default rs place (record_at rs place) no_record l)))

  -- the target of one leads there
  leads : (place : ℕ) → place < length rs → (get_or own place no_target).drive ≡ at
      → LeadsTo ds rs place (record_at rs place) d (get_or own place no_target).cylinder
  leads place l e = leads_to ds rs own place (record_at rs place) at no_target d shown l
      (sym (get_or_default rs place (record_at rs place) no_record l)) (sym e) found

  -- each first block there is on a cylinder of it
  pub all_on_drive : AreOnDrive at d own
  all_on_drive place other l e =
      let below : place < length rs = grind (arith, length-map) in
      let a = get_or_default own place other no_target l in
      let t = (leads place below (ap (λ (a : Target). a.drive) (sym a) ∙ e)).targeted in
      subst (λ (a : Target). (a.cylinder ≤ last_cylinder d.unit) × (a.range ≡ range_of d.unit a.cylinder)) (sym a) (
        subst (λ k. k ≤ last_cylinder d.unit) (sym t.cylinder_is)
            (by (is_move (record_at rs place).command.order) refl t.block),
        in_range place below ((leads place below (ap (λ (a : Target). a.drive) (sym a) ∙ e)).drive),
      )
    where
      in_range : (place : ℕ) → place < length rs → d ≡ drive_of ds (number place)
          → (get_or own place no_target).range ≡ range_of d.unit (get_or own place no_target).cylinder
      in_range place l e =
          let made = own_target ds rs own place (record_at rs place) no_target shown l
          (sym (get_or_default rs place (record_at rs place) no_record l)) in
          ap (λ (a : Target). a.range) made ∙ (λ i. range_of
          ((found_unit (number place) ds ∙ ap (λ (q : Drive). q.unit) (sym e)) i) (sym made i).cylinder)

      by : (b : Bool) → is_move (record_at rs place).command.order ≡ b
          → (is_move (record_at rs place).command.order ≡ true
          → first_block (record_at rs place).command.order < d.unit.size)
          → cylinder_of d.unit (first_block (record_at rs place).command.order) ≤ last_cylinder d.unit
      by h1 e h = grind (arith, cylinder_within, no_move, zero-div)

  pub to : (place : ℕ) → IsOpenOn ks at place → IsClearOn (commands rs) d.unit.number place
      × (cost_there d ks own place ≡ cost_at d (commands rs) place)
  to place o =
      let l : place < length rs = (let b = o.inside in omega (arith, b, long)) in
      let drive : unit_place (units_of ds) (number place) ≡ at =
      ap (λ (k : Kind). k.drive) (sym (kind_is place l)) ∙ o.drive in
      let there = known_at ds (number place) d (known place l) in
      let own_number : d.unit.number ≡ number place =
      ap (λ (q : Drive). q.unit.number) (found ∙ ap (λ k. get_or ds k d) (sym (place_same ds (number place) ∙ drive)))
      ∙ there.number in
      let lead = leads place l (target_drive place l ∙ drive) in
      let c = command_is rs place l in (
        record {
          inside = omega (arith, l, length-map rs (λ (r : Record). r.command));
          unit = ap (λ (c : Command). c.unit) c ∙ sym own_number;
          clear = clear_is rs place l ∙ (sym (free_is ds rs own place shown l) ∙ o.free);
        },
        ap (λ (k : Kind). cost_on d k.sequential (get_or own place no_target).cylinder) (kind_is place l)
            ∙ (cost_is d (record_at rs place).command.order (get_or own place no_target).cylinder
            (shown.waitable place no_record l) lead.targeted.cylinder_is
            ∙ ap (λ (c : Command). order_cost d.unit d.head c.order) (sym c)),
      )

  pub from : (place : ℕ) → IsClearOn (commands rs) d.unit.number place → IsOpenOn ks at place
  from place h =
      let l : place < length rs = (let b = h.inside in omega (arith, b, length-map rs (λ (r : Record). r.command))) in
      let num : d.unit.number ≡ number place =
      sym h.unit ∙ ap (λ (c : Command). c.unit) (command_is rs place l) in
      record {
        inside = omega (arith, l, long);
        drive = ap (λ (k : Kind). k.drive) (kind_is place l) ∙ (sym (place_same ds (number place))
            ∙ place_is ds at (number place) d (pairs_rise (units_of ds) units.rising) inside found num);
        free = free_is ds rs own place shown l ∙ (sym (clear_is rs place l) ∙ h.clear);
      }

  -- so the best that the slots tell is the best of the commands
  pub favored : {s : Start} → IsBest (IsOpenOn ks at) (cost_there d ks own) s
      → IsBest (IsClearOn (commands rs) (drive_in ds at).unit.number) (cost_at (drive_in ds at) (commands rs)) s
  favored h = grind (arith, get_or_default, best_same, to, from)

-- ---- a start is learned
pub favored_more : {ds : List Drive} {cs : List Command} {f g : Favorites} (at : ℕ) (s : Start) → AreFavored ds cs f
    → IsBest (IsClearOn cs (drive_in ds at).unit.number) (cost_at (drive_in ds at) cs) s
    → IsLearned at s f g → AreFavored ds cs g
favored_more {ds} {cs} {f} {g} at s h best learned = record {
  each = λ k l on. ⊎_elim
      (λ e. subst (λ k. IsBest (IsClearOn cs (drive_in ds k).unit.number) (cost_at (drive_in ds k) cs)
      (start_in g k)) (sym e)
      (subst (IsBest (IsClearOn cs (drive_in ds at).unit.number) (cost_at (drive_in ds at) cs)) (sym learned.own) best))
      (λ d. subst (IsBest (IsClearOn cs (drive_in ds k).unit.number) (cost_at (drive_in ds k) cs)) (sym
      (learned.other k d))
      (h.each k l (ap (λ (s : Start). not (nat_eq s.place 255)) (sym (learned.other k d)) ∙ on)))
      (same_or k at);
}

-- nothing is known
pub none_known : (ds : List Drive) (cs : List Command) (f : Favorites) → KnowsNothing f → AreFavored ds cs f
none_known ds cs f e = grind (arith, false≢true)
