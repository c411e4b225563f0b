-- What a begin tells is what the next step serves, and it is kept.
use Rattle.mscp_controller.proofs.Bridge.Basics.{◌≡◌, inl, ℕ, Bool, true, false, List, [], ◌∷◌, ◌++◌, map, refl, ap, sym, ◌∙◌, subst, arith, IfSome, if◌then◌else◌, nat_eq, Option, Some, None, Upcoming, BeginsAt, Name, IsNext, upcoming_of, Settings, Trace, is_waiting, name, unit, waiting, IsLegal, block_of, Foretells, Holdings, line_of, Begin, Call, HoldsToBegun, IsChosen, NothingBegun, foretold, history, upcoming_name, one_waits, drive_by, held_of, Agrees, waiting_at}
use Rattle.mscp_controller.proofs.Bridge.Begun.{PicksThen, Held, IsPickThen, Turned, Holds, begin_same, holds_again, holds_new, nothing_told, name_begun}
use Rattle.mscp_controller.proofs.Bridge.Following.{none_mapped}
use Rattle.mscp_controller.proofs.Bridge.Servable.{next_held, reads, waits_at}

agrees_same : {K : Type 0} (c : Settings) (t : Trace) (h h' : Holdings K) → Agrees c t h
    → line_of h' ≡ record (line_of h) { begun = h'.begun } → h'.untaken ≡ h.untaken → Agrees c t h'
agrees_same {K} c t h h' a e u = search arith

-- what is told of the record at a place
told_held : (c : Settings) (t : Trace) (y : ℕ) → upcoming_of (drive_by c t (unit t y)) (held_of t y) ≡ foretold t y
unfolding block_of
told_held c t y = refl

-- what is known of a begin of the command y
record Tells {K : Type 0} (c : Settings) (picks : PicksThen) (calls : List Call) (up : Upcoming)
    (h h' : Holdings K) (y : ℕ) : Type 0 where
  pub waits : is_waiting (history calls) y ≡ true
  pub own : up ≡ foretold (history calls) y
  pub same : (n : Name) → h.begun ≡ Some n → name (history calls) y ≡ n
  pub picked : h.begun ≡ None → nat_eq up.done 0 ≡ true → IsPickThen c picks calls (upcoming_name up)
  pub kept : h'.begun ≡ Some (upcoming_name up)

module _ {K : Type 0} (c : Settings)
    (picks : PicksThen) (calls : List Call) (up : Upcoming) (h h' : Holdings K) (y : ℕ) where
  -- it is what was begun, if something was
  tells_again : (n : Name) → Agrees c (history calls) h
      → h.begun ≡ Some n → (b : Holds c picks calls (Some n)) → Tells c picks calls up h h' y → up ≡ b.0
  tells_again n a e b k = search (arith, name_begun b.3, one_waits)

  tells_begun : (o : Option Name) → Agrees c (history calls) h
      → Held c picks calls h o → Tells c picks calls up h h' y → HoldsToBegun calls (Begin (Some up))
  tells_begun None a b k up' y' j' is = absurd (b.1 up' y' j' is)
  tells_begun (Some n) a b k up' y' j' is = ap Some (tells_again n a b.0 b.1 k ∙ sym (b.1.3.only up' y' j' is).1)

  tells_chosen : (o : Option Name) → Agrees c (history calls) h → Held c picks calls h o
      → Tells c picks calls up h h' y → nat_eq up.done 0 ≡ true → IsChosen (IsPickThen c picks) calls (upcoming_name up)
  tells_chosen None a b k e = inl (b.1, k.picked b.0 e)
  tells_chosen (Some n) a b k e = search (arith, tells_again n a b.0 b.1 k)

  tells_holds : (o : Option Name) → Agrees c (history calls) h → Held c picks calls h o
      → Tells c picks calls up h h' y → Holds c picks (calls ++ Begin (Some up) ∷ []) (Some (upcoming_name up))
  tells_holds None a b k =
      holds_new c picks calls (upcoming_name up) up y a.follows.known.steady.apart b.1 k.waits k.own refl (k.picked b.0)
  tells_holds (Some n) a b k =
      let again = tells_again n a b.0 b.1 k in
      let name : n ≡ upcoming_name up = sym b.1.3.own ∙ ap upcoming_name (sym again) in
      search (arith, holds_again c picks calls n b.1.0 b.1.1 b.1.2 a.follows.known.steady.apart b.1.3)

begin_at : {K : Type 0} (picks : PicksThen) (calls : List Call) (up : Upcoming)
    (h h' : Holdings K) (place : ℕ) → Agrees h.settings (history calls) h → IsLegal h.settings (history calls)
    → Holds h.settings picks calls h.begun → BeginsAt (picks calls) (line_of h) up (line_of h') place
    → h'.untaken ≡ h.untaken → Turned h.settings picks calls (Begin (Some up)) h'
begin_at {K} picks calls up h h' place a legal b s u =
    let c = h.settings in
    let t = history calls in
    let y = waiting_at t place in
    let next : IsNext (picks calls) c.budget h.drives (map (held_of t) (waiting t)) h.begun place =
    subst (λ ws. IsNext (picks calls) c.budget h.drives ws h.begun place) a.follows.waits s.next in
    let both = next_held c (picks calls) t h.drives h.begun place a.driven next in
    let inside = both.0.inside in
    let read = reads c t h.drives h.waiting place a.driven a.follows.waits inside in
    let own : up ≡ foretold t y = s.told ∙ ((λ i. upcoming_of (read.at i) (read.own i)) ∙ told_held c t y) in
    let kept : h'.begun ≡ Some (name t y) = grind (arith, read) in
    let tells : Tells c picks calls up h h' y = search (arith, waits_at t place inside) in
    let same = begin_same calls (Some up) in
    let chosen : (q : Bool) → nat_eq up.done 0 ≡ q
    → IfSome (if q then Some (upcoming_name up) else None) (IsChosen (IsPickThen c picks) calls) = λ q. elim q as
    (λ q. nat_eq up.done 0 ≡ q → IfSome (if q then Some (upcoming_name up) else None)
    (IsChosen (IsPickThen c picks) calls))
    [ true ↦ λ e. tells_chosen c picks calls up h h' y h.begun a (refl, b) tells e | false ↦ λ e. tt ] in
    record {
      legal = subst (IsLegal c) (sym same) legal;
      agrees = search (arith, c, t, same, Agrees, agrees_same);
      right = (y, waits_at t place inside, both.0.next, own);
      begun = tells_begun c picks calls up h h' y h.begun a (refl, b) tells;
      picked = chosen (nat_eq up.done 0) refl;
      holds = subst (Holds c picks (calls ++ Begin (Some up) ∷ []))
          (sym tells.kept) (tells_holds c picks calls up h h' y h.begun a (refl, b) tells);
    }

begin_none : {K : Type 0} (picks : PicksThen) (calls : List Call) (h h' : Holdings K)
    → Agrees h.settings (history calls) h → IsLegal h.settings (history calls) → NothingBegun calls → h.waiting ≡ []
    → h.begun ≡ None → line_of h' ≡ line_of h → h'.untaken ≡ h.untaken → Turned h.settings picks calls (Begin None) h'
begin_none {K} picks calls h h' a legal nothing e n l u =
    search (arith, begin_same calls None, none_mapped, held_of, agrees_same, nothing_told)

pub begin : {K : Type 0} (picks : PicksThen) (calls : List Call) (upcoming : Option Upcoming)
    (h h' : Holdings K) → Agrees h.settings (history calls) h → IsLegal h.settings (history calls) → Holds h.settings
    picks calls h.begun → Foretells (picks calls) h upcoming h' → Turned h.settings picks calls (Begin upcoming) h'
begin picks calls None h h' a legal b r = begin_none picks
    calls h h' a legal (subst (Holds h.settings picks calls) r.begins.1 b) r.begins.0 r.begins.1 r.begins.2 r.untaken
begin picks calls (Some up) h h' a legal b r = begin_at picks calls up h h' r.begins.0 a legal b r.begins.1 r.untaken
