-- What waits after a step, and how often each command was served.
use Rattle.mscp_controller.proofs.Common.{◌≡◌, ◌≢◌, ℕ, ◌+◌, ◌<◌, Bool, true, false, cond, not, List, [], ◌∷◌, ◌++◌, length, subst, arith, append-nil, Some, is_some, AllByRecursion, filter-append, false≢true, Block, Event, Entry, Settings, Trace, Moment, queues, Service, service_in, name, waiting, done, service_name, service_ends, ends_in, IsRight, IsServed, Name, name_on, is_differ, is_same, every_weaker, every_both, every_parts, filter_all}
use Rattle.mscp_controller.proofs.Promise.Grows.{done_before, waiting_more}
use Rattle.mscp_controller.proofs.Promise.Waits.{Cut, cut, waits_below, waiting_below}
use Rattle.mscp_controller.proofs.Promise.Apart.{Apart}
use Rattle.mscp_controller.proofs.Promise.Among.{Alone, alone}

-- ---- what a moment that serves says of the others
pub ends_served : (r : Name) (entry : Entry) (s : Service) → service_in entry ≡ Some s
    → ends_in r entry ≡ service_ends r (Some s)
ends_served r o s e = grind (arith, false≢true)

pub queues_served : (entry : Entry) (s : Service) → service_in entry ≡ Some s → queues entry ≡ false
queues_served o s e = grind (arith, false≢true)

pub some_same : {X : Type 0} (x y : X) → Some x ≡ Some y → x ≡ y
some_same x y e = grind arith

-- A right moment that serves is a step of a command that may be served.
pub served_right : (c : Settings) (t : Trace) (event : Event) (entry : Entry) (s : Service)
    → service_in entry ≡ Some s → IsRight c t event entry → (k : Block) × (y : ℕ) × IsServed c t k s y
served_right c t event o s e h = grind (arith, some_same, false≢true)

-- ---- a step of y
-- a moment that serves y, which waits among front and back
pub record Serves (t : Trace) (m : Moment) (s : Service) (y : ℕ) (front back : List ℕ) : Type 0 where
  pub among : Alone t y front back
  pub is : service_in m.1 ≡ Some s
  pub same : service_name s ≡ name t y

-- How the commands that wait change.
pub record Changes (t : Trace) (t' : Trace) (s : Service) (y : ℕ) (front back : List ℕ) : Type 0 where
  pub waits : waiting t' ≡ front ++ (cond (is_some s.ended) [] (y ∷ []) ++ back)
  pub front_done : AllByRecursion (λ x. done t' x ≡ done t x) front
  pub own_done : done t' y ≡ done t y + 1
  pub back_done : AllByRecursion (λ x. done t' x ≡ done t x) back

pub below_parts : (t : Trace) (y : ℕ) (front back : List ℕ) → Cut t y front back
    → AllByRecursion (λ x. x < length t) front × ((y < length t) × AllByRecursion (λ x. x < length t) back)
below_parts t y front back k =
    let p = every_parts (λ x. x < length t) front (y ∷ back)
    (subst (AllByRecursion (λ x. x < length t)) k.is (waiting_below t)) in
    (p.0, (p.1.0, p.1.1))

kept_other : (t : Trace) (m : Moment) (s : Service) (y x : ℕ) → service_in m.1 ≡ Some s → service_name s ≡ name t y
    → name t x ≢ name t y → not (ends_in (name t x) m.1) ≡ true
kept_other t m s y x e r n = grind (arith, ends_served, is_differ)

pub kept_own : (t : Trace) (m : Moment) (s : Service) (y : ℕ) → service_in m.1 ≡ Some s → service_name s ≡ name t y
    → not (ends_in (name t y) m.1) ≡ not (is_some s.ended)
kept_own t m s y e r = grind (arith, ends_served, is_same)

done_other : (t : Trace) (m : Moment) (s : Service) (y x : ℕ) → service_in m.1 ≡ Some s
    → service_name s ≡ name t y → x < length t → name t x ≢ name t y → done (t ++ m ∷ []) x ≡ done t x
done_other t m s y x e r l n = grind (arith, done_before, is_differ)

done_own : (t : Trace) (m : Moment) (s : Service) (y : ℕ)
    → service_in m.1 ≡ Some s → service_name s ≡ name t y → y < length t → done (t ++ m ∷ []) y ≡ done t y + 1
done_own t m s y e r l = grind (arith, done_before, is_same)

cond_not : (y : ℕ) (back : List ℕ) (b : Bool) → cond (not b) (y ∷ back) back ≡ cond b [] (y ∷ []) ++ back
cond_not y back o = grind arith

pub changes : (t : Trace) (m : Moment) (s : Service) (y : ℕ) (front back : List ℕ)
    → Serves t m s y front back → Changes t (t ++ m ∷ []) s y front back
changes t m s y front back v =
    let a = v.among in
    let keep : ℕ → Bool = λ x. not (ends_in (name t x) m.1) in
    let other : (x : ℕ) → name t x ≢ name t y → keep x ≡ true = λ x n. kept_other t m s y x v.is v.same n in
    let below = below_parts t y front back a.at in
    let still : (x : ℕ) → (name t x ≢ name t y) × (x < length t)
    → done (t ++ m ∷ []) x ≡ done t x = λ x h. done_other t m s y x v.is v.same h.1 h.0 in
    record {
      waits =
          grind (
            arith,
            waiting_more,
            queues_served,
            append-nil,
            filter-append,
            filter_all,
            every_weaker,
            kept_own,
            cond_not,
            a,
            keep,
            other,
          );
      front_done = every_weaker (λ x. (name t x ≢ name t y) × (x < length t)) (λ x. done (t ++ m ∷ []) x ≡ done t x)
          still front (every_both (λ x. name t x ≢ name t y) (λ x. x < length t) front a.before below.0);
      own_done = done_own t m s y v.is v.same below.1.0;
      back_done = every_weaker (λ x. (name t x ≢ name t y) × (x < length t)) (λ x. done (t ++ m ∷ []) x ≡ done t x)
          still back (every_both (λ x. name t x ≢ name t y) (λ x. x < length t) back a.behind below.1.1);
    }

-- So each right step is a step of a command among others, which changes so.
pub record Step (c : Settings) (t : Trace) (m : Moment) (s : Service) (k : Block) (y : ℕ) (front back : List ℕ) :
    Type 0 where
  pub served : IsServed c t k s y
  pub serves : Serves t m s y front back
  pub changes : Changes t (t ++ m ∷ []) s y front back

pub step_right : (c : Settings) (t : Trace) (m : Moment) (s : Service) → Apart t (waiting t) → service_in m.1 ≡ Some s
    → IsRight c t m.0 m.1 → (k : Block) × (y : ℕ) × (front : List ℕ) × (back : List ℕ) × Step c t m s k y front back
step_right c t m s a e r =
    let h = served_right c t m.0 m.1 s e r in
    let y = h.1 in
    let v = h.2 in
    let z = cut t y (waits_below t y v.waits) v.waits in
    let same : service_name s ≡ name t y = λ i. name_on (v.connection i) (v.reference i) in
    let serves : Serves t m s y z.0 z.1 = record { among = alone t y z.0 z.1 a z.2; is = e; same = same } in
    (h.0, y, z.0, z.1, record { served = v; serves = serves; changes = changes t m s y z.0 z.1 serves })
