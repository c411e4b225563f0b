-- The first of the cheapest starts on a drive, slot by slot.
use Rattle.mscp_queue.proofs.Basics.{◌≡◌, ◌≢◌, ◌⊎◌, inl, inr, ⊎_elim, ℕ, ◌+◌, ◌/◌, ◌<◌, ◌≤◌, ◌^◌, Bool, true, false, cond, ◌&&◌, ◌||◌, List, Drive, Kind, Masks, Record, Slot, Target, map, nat_eq, nat_lt, last_cylinder, get_or, length, refl, ap, sym, ◌∙◌, subst, arith, bit, bit_at, has, eq-eqb, eqb-true, eqb-false, ltb-true, get_or-map, length-map, map_map, ne_eqb, no_target, same_or, held, kind_of, kind_at, long_shown, shown, slot_has, slot_is, slot_low, targets, AreKept, AreOnDrive, IsNumber, IsSet}
use Rattle.std.specs.Prelude.{min}
use Rattle.mscp_queue.proofs.Common.{AreSlotted, IsBest, IsFront, IsIn, IsNearOf, IsOpenOn, IsSooner, bit_and, bit_at-zero, bit_at_and, bit_at-lt, cost_on, cost_there, div-mul-le_self, kind_there, kinds, le-div, ltb-false, no_slot, range_of, Shape, sweep_cost}
use Rattle.mscp_queue.proofs.Counted.{one_place, placed}
use Rattle.mscp_queue.specs.Starts.{Start}
use Rattle.mscp_queue.proofs.Opens.{early_bit, front_open, open_front}

-- the slots of a mask are left of those of the front: of the others this one's start is the first of the cheapest
pub record Seeks (at : ℕ) (d : Drive) (order : List ℕ) (ks : List Kind) (own : List Target)
    (front left best least : ℕ) : Type 0 where
  pub of_left : (n : ℕ) → n < 64 → bit_at left n ≡ 1 → bit_at front n ≡ 1
  pub place : ℕ
  pub inside : place < length order
  pub number : best ≡ get_or order place 0
  pub on : bit_at front best ≡ 1
  pub cost : least ≡ cost_there d ks own place
  pub small : least < 2 ^ 33
  pub done : (p : ℕ) → p < length order → bit_at front (get_or order p 0) ≡ 1 → bit_at left (get_or order p 0) ≡ 0
      → (least < cost_there d ks own p) ⊎ ((least ≡ cost_there d ks own p) × (place ≤ p))

-- a place is that of a slot of the mask, or costs more than one that is
abbrev pub IsAmong : Drive → List ℕ → List Kind → List Target → ℕ → ℕ → Type 0
IsAmong d order ks own near p = (bit_at near (get_or order p 0) ≡ 1) ⊎ ((q : ℕ) × (q < length order)
    × (bit_at near (get_or order q 0) ≡ 1) × (cost_there d ks own q < cost_there d ks own p))

-- at first the first slot is looked at
pub seeks_first : {at : ℕ} {d : Drive} {order : List ℕ} {ks : List Kind} {own : List Target} {front : ℕ}
    (left best least p : ℕ) → p < length order → best ≡ get_or order p 0 → best < 64 → bit_at front best ≡ 1
    → IsSet false best front left → least ≡ cost_there d ks own p → least < 2 ^ 33
    → ((q : ℕ) → q < length order → get_or order q 0 < 64)
    → ((a b : ℕ) → a < length order → b < length order → get_or order a 0 ≡ get_or order b 0 → a ≡ b)
    → Seeks at d order ks own front left best least
seeks_first left best least p l is low on set cost small lows one = grind (arith, ⊎_elim, same_or, ne_eqb)

-- one more is looked at, which stands at a place
module _ {at : ℕ} {d : Drive} {order : List ℕ} {ks : List Kind} {own : List Target} {front left best least : ℕ}
    (slot left' cost q : ℕ) (h : Seeks at d order ks own front left best least) (k : q < length order)
    (is : slot ≡ get_or order q 0) (low : slot < 64) (on : bit_at left slot ≡ 1) (set : IsSet false slot left left')
    (costs : cost ≡ cost_there d ks own q) (lows : (q : ℕ) → q < length order → get_or order q 0 < 64)
    (one : (a b : ℕ) → a < length order → b < length order → get_or order a 0 ≡ get_or order b 0 → a ≡ b) where
  kept : (n : ℕ) → n < 64 → n ≢ slot → bit_at left' n ≡ bit_at left n
  kept n b e = set n b ∙ ap (λ b. cond b 0 (bit_at left n)) (ne_eqb n slot e)

  was : (n : ℕ) → n < 64 → bit_at left' n ≡ 1 → bit_at front n ≡ 1
  was n b e = h.of_left n b (⊎_elim (λ f. ap (bit_at left) f ∙ on) (λ f. sym (kept n b f) ∙ e) (same_or n slot))

  -- what is done now was, or is that
  done_or : (p : ℕ) → p < length order → bit_at left' (get_or order p 0) ≡ 0
      → (p ≡ q) ⊎ (bit_at left (get_or order p 0) ≡ 0)
  done_or p l off = grind (arith, off, ⊎_elim, kept, lows, same_or)

  -- it comes first
  pub seeks_better : (cost < least) ⊎ ((cost ≡ least) × (q < h.place)) → cost < 2 ^ 33
      → Seeks at d order ks own front left' slot cost
  seeks_better better small = record {
    of_left = was;
    place = q;
    inside = k;
    number = is;
    on = h.of_left slot low on;
    cost = costs;
    small = small;
    done = grind (arith, ⊎_elim, by, done_or);
  }
    where
      by : (c p : ℕ) → (least < c) ⊎ ((least ≡ c) × (h.place ≤ p)) → (cost < c) ⊎ ((cost ≡ c) × (q ≤ p))
      by c p o = grind (arith, better)

  -- or not
  pub seeks_on : (least < cost) ⊎ ((least ≡ cost) × (h.place ≤ q)) → Seeks at d order ks own front left' best least
  seeks_on worse = record {
    of_left = was;
    place = h.place;
    inside = h.inside;
    number = h.number;
    on = h.on;
    cost = h.cost;
    small = h.small;
    done = grind (arith, ⊎_elim, done_or);
  }

-- whether it comes first is told by its cost, and by who came earlier
pub is_better : (cost least b p q : ℕ) → b ≡ bit (nat_lt q p) → (nat_lt cost least || (nat_eq cost least && nat_eq b 1))
    ≡ true → (cost < least) ⊎ ((cost ≡ least) × (q < p))
is_better cost least b p q e h = grind (arith, ltb-true, eqb-true)

pub is_worse : (cost least b p q : ℕ) → b ≡ bit (nat_lt q p) → (nat_lt cost least || (nat_eq cost least && nat_eq b 1))
    ≡ false → (least < cost) ⊎ ((least ≡ cost) × (p ≤ q))
is_worse cost least b p q e h = grind (arith, ltb-false, eqb-false, eq-eqb)

-- ---- the slots as they are kept
-- a slot of the front stands at a place, and its command is open on the drive
pub record IsFound (order : List ℕ) (ks : List Kind) (at n : ℕ) : Type 0 where
  pub place : ℕ
  pub inside : place < length order
  pub number : n ≡ get_or order place 0
  pub opens : IsOpenOn ks at place

module _ {rs : List Record} {own : List Target} {order : List ℕ} {m : Masks} (ds : List ℕ) (now : List Slot)
    (kept : AreKept rs own order m) (view : shown rs own ds order ≡ now) where
  kinds_are : map (kind_at rs own) order ≡ kinds now
  kinds_are = sym (map_map (held rs own ds) kind_of order) ∙ ap kinds view

  pub lows : (q : ℕ) → q < length order → get_or order q 0 < 64
  lows q l = slot_low order q kept.masks.apart l

  pub ones : (a b : ℕ) → a < length order → b < length order → get_or order a 0 ≡ get_or order b 0 → a ≡ b
  ones a b l k e = one_place order a b kept.masks.apart l k e

  pub early : (p q : ℕ) → p < length order → q < length order
      → bit_at (get_or m.earlier (get_or order p 0) 0) (get_or order q 0) ≡ bit (nat_lt q p)
  early p q l k = early_bit (kind_at rs own) order m kept.masks 0 p q l k

  pub found : {at front : ℕ} (n : ℕ) → IsFront at m front → n < 64 → bit_at front n ≡ 1 → IsFound order (kinds now) at n
  found {at} {front} n h low on =
      let t = placed order n (has_it (has n order) (sym (kept.masks.of_units at n low) ∙ (h.to n low on).0.unit)) in
      record {
        place = t.0;
        inside = t.1;
        number = t.2;
        opens = subst (λ ks. IsOpenOn ks at t.0) kinds_are
            (front_open (kind_at rs own) order m kept.masks at front t.0 h t.1 (ap (bit_at front) (sym t.2) ∙ on));
      }
    where
      has_it : (b : Bool) → bit (b && nat_eq (kind_at rs own n).drive at) ≡ 1 → b ≡ true
      has_it h1 e = grind arith

  pub opens_front : {at front : ℕ} (p : ℕ) → IsFront at m front → IsOpenOn (kinds now) at p
      → bit_at front (get_or order p 0) ≡ 1
  opens_front p h o = grind (arith, open_front, kept, kinds_are)

  target_is : (q n : ℕ) → q < length order → n ≡ get_or order q 0
      → get_or own n no_target ≡ get_or (targets now) q no_target
  target_is q n l e =
      let inside : q < length now = omega (arith, l, long_shown rs own ds order now view) in
      ap (λ (s : Slot). s.target) (slot_is rs own ds order now q n view inside e)
      ∙ sym (get_or-map (λ (s : Slot). s.target) now q no_slot no_target inside)

  kind_is : (q n : ℕ) → q < length order → n ≡ get_or order q 0 → kind_there (kinds now) q ≡ kind_at rs own n
  kind_is q n l e = grind (arith, kinds_are, get_or-map)

  -- the cylinder of its first block is one of the unit's
  pub within : {at : ℕ} (d : Drive) (n : ℕ) → AreOnDrive at d (targets now) → (f : IsFound order (kinds now) at n)
      → (get_or own n no_target).cylinder ≤ last_cylinder d.unit
  within {at} d n on f =
      let inside : f.place < length (targets now) = grind (arith, long_shown, length-map) in
      let t = target_is f.place n f.inside f.number in
      subst (λ (a : Target). a.cylinder ≤ last_cylinder d.unit) (sym t) ((on f.place no_target inside
      (ap (λ (a : Target). a.drive) (sym t) ∙ (ap (λ (k : Kind). k.drive) (sym (kind_is f.place n f.inside f.number))
      ∙ f.opens.drive))).0)

  -- and what its start costs
  pub cost_found : {at : ℕ} (d : Drive) (n cost : ℕ) (sequential : Bool) → (f : IsFound order (kinds now) at n) → n < 64
      → sequential ≡ nat_eq (bit_at m.sequential n) 1 → cost ≡ cost_on d sequential (get_or own n no_target).cylinder
      → cost ≡ cost_there d (kinds now) (targets now) f.place
  cost_found d n cost sequential f low told is = grind (arith, target_is, kind_is, slot_has, kept)

-- ---- a range that the head comes to sooner costs less
range_rises : (a b w : ℕ) → a ≤ b → min (a / (w + 1)) 63 ≤ min (b / (w + 1)) 63
range_rises a b w l = grind (arith, le-div, div-mul-le_self)

range_less : (u : Shape) (a b : ℕ) → range_of u a < range_of u b → a < b
range_less u a b l = grind (arith, range_rises)

costs_less : (last head a b : ℕ) (up : Bool) → head ≤ last → a ≤ last → b ≤ last → IsSooner up head a b
    → sweep_cost last head up a < sweep_cost last head up b
costs_less last head a b h5 h l m s = grind arith

sooner_there : (u : Shape) (head a b : ℕ) (up : Bool)
    → IsSooner up (range_of u head) (range_of u a) (range_of u b) → IsSooner up head a b
sooner_there u head a b h5 s = grind (arith, ⊎_elim, range_less)

-- so what is open is among the nearest, or costs more than one of them
module _ {rs : List Record} {own : List Target} {order : List ℕ} {m : Masks} {ranges buckets : List ℕ} (ds : List ℕ)
    (now : List Slot) (slotted : AreSlotted rs own order m ranges buckets) (view : shown rs own ds order ≡ now) where
  abbrev kept_are : AreKept rs own order m
  kept_are = slotted.kept

  -- a transfer in front, as it is kept
  record Lies (d : Drive) (at k : ℕ) : Type 0 where
    place : ℕ
    inside : place < length order
    number : k ≡ get_or order place 0
    within : (get_or own k no_target).cylinder ≤ last_cylinder d.unit
    range : get_or ranges k 0 ≡ range_of d.unit (get_or own k no_target).cylinder
    cost : sweep_cost (last_cylinder d.unit) d.head.cylinder d.head.up (get_or own k no_target).cylinder
        ≡ cost_there d (kinds now) (targets now) place

  lies : {at front : ℕ} (d : Drive) (k : ℕ) → IsFront at m front → AreOnDrive at d (targets now)
      → bit_and front m.sequential ≡ 0 → IsIn front k → Lies d at k
  lies {at} {front} d k h on none x =
      let f = found ds now kept_are view k h x.0 x.1 in
      let t = target_is ds now kept_are view f.place k f.inside f.number in
      let there : f.place < length (targets now) = grind (arith, long_shown, length-map) in
      let drive : (get_or (targets now) f.place no_target).drive ≡ at = grind (arith, kind_is) in
      let both = on f.place no_target there drive in
      let zero : bit_at m.sequential k ≡ 0 = off (ap (λ n. bit_at n k) (sym none)) in
      record {
        place = f.place;
        inside = f.inside;
        number = f.number;
        within = subst (λ (a : Target). a.cylinder ≤ last_cylinder d.unit) (sym t) both.0;
        range = slotted.ranged k x.0 ∙ subst (λ (a : Target). a.range ≡ range_of d.unit a.cylinder) (sym t) both.1;
        cost = cost_found ds now kept_are view d k _ false f x.0
            (sym (ne_eqb (bit_at m.sequential k) 1 (λ e. omega (arith, e, zero)))) refl;
      }
    where
      off : bit_at 0 k ≡ bit_at (bit_and front m.sequential) k → bit_at m.sequential k ≡ 0
      off e = grind (arith, bit_at-lt, bit_at_and, bit_at-zero)

  pub among : {at front near : ℕ} (d : Drive) (p : ℕ) → IsFront at m front → IsNearOf m.sequential d ranges front near
      → AreOnDrive at d (targets now) → d.head.cylinder ≤ last_cylinder d.unit → IsOpenOn (kinds now) at p
      → p < length order → IsAmong d order (kinds now) (targets now) near p
  among {at} {front} {near} d p h n on head o l =
      ⊎_elim (λ y. inl y.1) (λ y. inr (further y.0 y.1.0 y.1.1 y.1.2))
      (n.from (get_or order p 0) (lows ds now kept_are view p l, opens_front ds now kept_are view p h o))
    where
      further : bit_and front m.sequential ≡ 0 → (j : ℕ) → IsIn near j
          → IsSooner d.head.up (range_of d.unit d.head.cylinder) (get_or ranges j 0)
          (get_or ranges (get_or order p 0) 0) → (q : ℕ) × (q < length order) × (bit_at near (get_or order q 0) ≡ 1)
          × (cost_there d (kinds now) (targets now) q < cost_there d (kinds now) (targets now) p)
      further none j x s =
          let a = lies d j h on none (n.to j x) in
          let b = lies d (get_or order p 0) h on none
          (lows ds now kept_are view p l, opens_front ds now kept_are view p h o) in
          let same : b.place ≡ p = ones ds now kept_are view b.place p b.inside l (sym b.number) in
          let less = costs_less (last_cylinder d.unit) d.head.cylinder
          (get_or own j no_target).cylinder (get_or own (get_or order p 0) no_target).cylinder d.head.up head a.within
          b.within (sooner_there d.unit d.head.cylinder (get_or own j no_target).cylinder
          (get_or own (get_or order p 0) no_target).cylinder d.head.up
          (subst (λ r. IsSooner d.head.up (range_of d.unit d.head.cylinder) r
          (range_of d.unit (get_or own (get_or order p 0) no_target).cylinder)) a.range
          (subst (λ r. IsSooner d.head.up (range_of d.unit d.head.cylinder) (get_or ranges j 0) r) b.range s))) in (
            a.place,
            a.inside,
            ap (bit_at near) (sym a.number) ∙ x.1,
            omega (arith, less, a.cost, b.cost, ap (cost_there d (kinds now) (targets now)) same),
          )

-- the slot that is found is that of its place
pub number_sought : {at : ℕ} {d : Drive} {order : List ℕ} {ks : List Kind} {own : List Target}
    {front left best least : ℕ} (h : Seeks at d order ks own front left best least)
    → ((q : ℕ) → q < length order → get_or order q 0 < 64) → IsNumber order h.place best
number_sought h lows = grind (arith, lows, slot_has)

-- none is left: it is the best
pub sought : {at : ℕ} {d : Drive} {order : List ℕ} {ks : List Kind} {own : List Target} {front left best least : ℕ}
    (s : Start) (h : Seeks at d order ks own front left best least) → length order ≤ 64 → IsOpenOn ks at h.place
    → ((p : ℕ) → IsOpenOn ks at p → (p < length order) × IsAmong d order ks own front p)
    → ((q : ℕ) → q < length order → get_or order q 0 < 64) → ((n : ℕ) → n < 64 → bit_at left n ≡ 0)
    → s.place ≡ h.place → s.cost ≡ least → IsBest (IsOpenOn ks at) (cost_there d ks own) s
sought s h few opens on lows none place cost = grind (arith, ⊎_elim)
