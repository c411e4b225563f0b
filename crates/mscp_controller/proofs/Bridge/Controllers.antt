-- A controller of a picker keeps the promise, and a run has it.
use Rattle.mscp_controller.proofs.Common.{◌≡◌, ℕ, ◌++◌, ◌∷◌, [], List, ap, ◌∙◌, arith, Choice, figure_of_name, Name, name_of, holders_of_name, names, map_map, Event, Entry, Settings, IsValid, Answered, Holdings, fresh, IsRun, IsPick, IsSwept, AnsweredCalls, AtEachCall, Call, StartsChosen, Trace, view, history, KeepsPromise, waiting}
use Rattle.mscp_controller.proofs.Bridge.Swept.{sweeping, swept_pick}
use Rattle.mscp_controller.proofs.Bridge.Basics.{figure_of_held, held_of, balance_held}
use Rattle.mscp_controller.proofs.Bridge.Holders.{holders_of_held, startable_unheld}
use Rattle.mscp_controller.proofs.Promise.Progress.{progress}
use Rattle.mscp_controller.proofs.Bridge.Following.{as_many, comes}
use Rattle.mscp_controller.proofs.Bridge.Begun.{PicksThen, IsPickThen}
use Rattle.mscp_controller.proofs.Bridge.Calling.{AnsweredThen, Knows, called}

-- ---- a run
pub runs : {K : Type 0} (c : Settings) (picks : List Choice → ℕ → Type 0) (picker : K) (es : List Event)
    (ns : List Entry) (h : Holdings K) → IsValid c → Answered picks (fresh c picker) es ns h → IsRun picks c es ns
runs c picks picker es ns h v r =
    search (arith, comes c picks picker h es ns v r, as_many picks (fresh c picker) h es ns r, progress, sweeping)

-- the same where the controller is known to be new
pub new_runs : {K : Type 0} (c : Settings) (picks : K → List Choice → ℕ → Type 0) (picker : K) (new : Holdings K)
    (es : List Event) (ns : List Entry) (h : Holdings K) → IsValid c → new ≡ fresh c picker
    → Answered (picks new.picker) new es ns h → IsRun (picks picker) c es ns
new_runs {K} c picks picker new es ns h v e r = search (arith, runs)

-- ---- whoever calls
-- what was chosen where one relation allowed it was chosen where a weaker one does
-- the same at each call
pub each_weaker : (R S : List Call → Name → Type 0) → ((so_far : List Call) (n : Name) → R so_far n → S so_far n)
    → (calls : List Call) → AtEachCall calls (StartsChosen R) → AtEachCall calls (StartsChosen S)
each_weaker o y w calls h = grind arith

-- what a picker may pick that allows no more
pick_weaker : (c : Settings) (picks allowed : List Choice → ℕ → Type 0)
    → ((view : List Choice) (place : ℕ) → picks view place → allowed view place)
    → (t : Trace) (n : Name) → IsPick c picks t n → IsPick c allowed t n
pick_weaker c picks allowed w t n p = (p.0, p.1, p.2, w (view c t) p.0 p.3)

-- A controller keeps the promise of a picker that may pick whatever it may pick after any calls.
pub keeps_then : {K : Type 0} (c : Settings) (picks : PicksThen)
    (allowed : List Choice → ℕ → Type 0) (picker : K) (calls : List Call) (h : Holdings K) → IsValid c
    → ((so_far : List Call) (view : List Choice) (place : ℕ) → picks so_far view place → allowed view place)
    → Knows c picks calls h → KeepsPromise allowed c calls h
keeps_then c picks allowed picker calls h v w k =
    let t = history calls in
    let f = k.agrees.follows in
    let picked : AtEachCall calls (StartsChosen (λ so_far. IsPick c allowed (history so_far))) = each_weaker
    (IsPickThen c picks) (λ so_far. IsPick c allowed (history so_far))
    (λ so_far n. pick_weaker c (picks so_far) allowed (w so_far) (history so_far) n) calls k.picked in
    record {
      legal = k.legal;
      promise = progress c t v k.legal;
      right = k.right;
      begun = k.begun;
      picked = picked;
      swept = λ sweeps. each_weaker (λ so_far. IsPick c allowed (history so_far)) (λ so_far. IsSwept c (history so_far))
          (λ so_far n. swept_pick c allowed (history so_far) n sweeps) calls picked;
      settings = k.settings;
      waiting = ap names f.waits ∙ map_map (held_of t) name_of (waiting t);
      untaken = f.ends;
      figure = λ name. ap (λ ws. figure_of_name c.budget ws name) f.waits ∙ figure_of_held c t name;
      kept_back = λ name. ap (λ ws. holders_of_name c.budget ws name) f.waits ∙ holders_of_held c t name;
      unheld = λ x l idle. startable_unheld c t x idle;
      drives = k.agrees.driven.drives;
      balance = grind (arith, balance_held, t, f);
    }

-- where one picker picks all the time
by_one : {K : Type 0} (picks : List Choice → ℕ → Type 0) (so_far : List Call) (h h' : Holdings K) (calls : List Call)
    → AnsweredCalls picks h calls h' → AnsweredThen (λ before. picks) so_far h calls h'
by_one picks so_far h h' [] r = r
by_one picks so_far h h' (call ∷ calls) r = (r.0, r.1, by_one picks (so_far ++ call ∷ []) r.0 h' calls r.2)

pub keeps_promise : {K : Type 0} (c : Settings) (picks : List Choice → ℕ → Type 0) (picker : K) (calls : List Call)
    (h : Holdings K) → IsValid c → AnsweredCalls picks (fresh c picker) calls h → KeepsPromise picks c calls h
keeps_promise c picks picker calls h v r = keeps_then c (λ before. picks) picks picker calls h v
    (λ so_far view place own. own)
    (called c (λ before. picks) picker h calls v (by_one picks [] (fresh c picker) h calls r))
