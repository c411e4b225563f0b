-- What begins to go out by a call of a port, and which ends its controller has more then.
use Rattle.mscp_ported.proofs.Common.{AllByRecursion, Call, Deals, End, List, None, Ok, Option, Outgoing, PassesOn, Pending, Port, Some, TakesPoll, WasRead, [], accepted_by, ap, append-nil, arith, begins, ends_said_by, figure_on, flat_map, map, map-append, num, pending_end, pending_in, said_in, ℕ, ◌++◌, ◌∙◌, ◌∷◌, ◌≡◌, ◌≤◌, ◌⊎◌}
use Rattle.mscp_ported.proofs.Coming.{ends_of}

-- ---- what begins to go out

pub begun_one : (old new : Option Outgoing) (o : Outgoing) → old ≡ None → new ≡ Some o → begins old new ≡ o ∷ []
begun_one old new o none some = ap (λ x. begins x new) none ∙ ap (begins None) some

-- nothing but news begins to go out
pub silent : {K : Type 0} (call : Call) (old new : Port K) (aw : List (List ℕ)) → Deals aw call old new
    → ends_said_by call old new ≡ [] → ((bytes : List ℕ) (done : Unit) → call ≡ WasRead bytes (Ok done) → ⊥)
    → flat_map pending_in (map said_in (begins old.outgoing new.outgoing)) ≡ []
silent call old new aw h said never = grind (arith, begun_one)

-- ---- what comes of the controller

-- these ends came behind those that were there: of a message that was accepted, or of commands that waited
pub record Grown {K : Type 0} (call : Call) (old new : Port K) : Type 0 where
  pub brought : List End
  pub ends : ends_of new.controller ≡ ends_of old.controller ++ brought
  pub these : AllByRecursion (λ (e : End). ((text : List ℕ) × (accepted_by call old ≡ text ∷ [])
      × (num text 0 4 ≡ e.reference)) ⊎ (1 ≤ figure_on old e.reference)) brought

pub grown_none : {K : Type 0} (call : Call) (old new : Port K) → ends_of new.controller ≡ ends_of old.controller
    → Grown call old new
grown_none call old new same = grind (arith, append-nil, ends_of)

pub pending_these : {K : Type 0} (call : Call) (old : Port K) (es : List End)
    → AllByRecursion (λ (e : End). ((text : List ℕ) × (accepted_by call old ≡ text ∷ [])
    × (num text 0 4 ≡ e.reference)) ⊎ (1 ≤ figure_on old e.reference)) es
    → AllByRecursion (λ (e : Pending). ((text : List ℕ) × (accepted_by call old ≡ text ∷ [])
    × (num text 0 4 ≡ e.number)) ⊎ (1 ≤ figure_on old e.number)) (map pending_end es)
pending_these call old [] all = tt
pending_these call old (e ∷ es) all = (all.0, pending_these call old es all.1)

-- where nothing begins to go out but news
pub grown_passes : {K : Type 0} (call : Call) (old new : Port K) (g : Grown call old new)
    → flat_map pending_in (map said_in (begins old.outgoing new.outgoing)) ≡ []
    → ((bytes : List ℕ) (done : Unit) → call ≡ WasRead bytes (Ok done) → TakesPoll (num bytes 12 4) call old
    → map pending_end g.brought
    ≡ record { number = num bytes 0 4; figure = figure_on old (num bytes 12 4) } ∷ [])
    → PassesOn call old new
grown_passes call old new g none poll = grind (arith, map-append, ends_of, pending_these)
