-- A controller whose picker is replaced keeps the promise: at each call its picker is that which it has at.
use Rattle.mscp_controller.proofs.Common.{◌≡◌, ℕ, List, [], ◌∷◌, Option, None, Some, refl, ap, arith, IsValid, Settings, Drive, Name, Choice, Record, IsNext, view_of, AnswersCall, Begin, Call, Finish, Line, Plain, Ok, Err, history, length, ◌++◌, ◌∙◌, append-nil, append_assoc, subst, sym, KeepsPromiseInTurn, picker_at, IsSwept, Sweeps, Holdings, fresh, AnsweredInTurn, Called, Replaced, Turn, calls_of}
use Rattle.mscp_controller.proofs.Bridge.Begun.{PicksThen, IsPickThen}
use Rattle.mscp_controller.proofs.Bridge.Calling.{AnsweredThen, called}
use Rattle.mscp_controller.proofs.Bridge.Controllers.{each_weaker, keeps_then}
use Rattle.mscp_controller.proofs.Bridge.Owning.{owner_kept, stays}
use Rattle.mscp_controller.proofs.Bridge.Swept.{swept_pick}

-- what is held, with another picker
abbrev by : {K : Type 0} → K → Holdings K → Holdings K
by picker h = record h { picker = picker }

-- what it would show
abbrev shown : {K : Type 0} → Holdings K → List Choice
shown h = view_of h.settings.budget h.drives h.waiting

-- what a picker may pick of a view is allowed
abbrev Allows : List Choice → (List Choice → ℕ → Type 0) → (List Choice → ℕ → Type 0) → Type 0
Allows view picks allowed = (place : ℕ) → picks view place → allowed view place

-- ---- steps
next_allowed : (picks allowed : List Choice → ℕ → Type 0) (budget : ℕ) (ds : List Drive) (rs : List Record)
    (begun : Option Name) (place : ℕ) → Allows (view_of budget ds rs) picks allowed
    → IsNext picks budget ds rs begun place → IsNext allowed budget ds rs begun place
next_allowed picks allowed budget ds rs begun place allows n = search arith

-- ---- calls
call_by : {K : Type 0} (picks allowed : List Choice → ℕ → Type 0) (a : K) (old new : Holdings K) (call : Call)
    → Allows (shown old) picks allowed → AnswersCall picks old call new → AnswersCall allowed (by a old) call (by a new)
call_by picks allowed a old new call h6 h7 = grind (arith, next_allowed)

picker_kept : {K : Type 0} (picks : List Choice → ℕ → Type 0) (h h' : Holdings K) (call : Call)
    → AnswersCall picks h call h' → h'.picker ≡ h.picker
picker_kept picks h h' (Plain event entry) r = (owner_kept picks h h' event entry r).1
picker_kept {K} picks h h' (Begin None) r = ap (λ (l : Line K). l.picker) r.begins.2
picker_kept {K} picks h h' (Begin (Some upcoming)) r = ap (λ (l : Line K). l.picker) r.begins.1.left
picker_kept picks h h' (Finish via number k (Ok report)) r = grind (arith, stays)
picker_kept {K} picks h h' (Finish via number k (Err not_begun)) r = ap (λ (x : Holdings K). x.picker) r.1

-- ---- calls, one after the other
-- what is answered in turn is answered by the picker of each call, where `at` tells what that may pick after the calls
-- before it
in_turn : {K : Type 0} (picks : K → List Choice → ℕ → Type 0) (at : PicksThen) (a : K)
    (turns : List (Turn K)) (so_far : List Call) (old new : Holdings K)
    → ((calls : List Call) → at (so_far ++ calls) ≡ picks (picker_at old.picker turns (length calls)))
    → AnsweredInTurn picks old turns new → AnsweredThen at so_far (by a old) (calls_of turns) (by a new)
in_turn {K} picks at a [] so_far old new is r = ap (λ (h : Holdings K). by a h) r
in_turn {K} picks at a (Called call ∷ turns) so_far old new is r =
    let now : at so_far ≡ picks old.picker = ap at (sym (append-nil so_far)) ∙ is [] in
    let kept = picker_kept (picks old.picker) old r.0 call r.1 in (
      by a r.0,
      subst (λ allowed. AnswersCall allowed (by a old) call (by a r.0)) (sym now)
          (call_by (picks old.picker) (picks old.picker) a old r.0 call (λ place own. own) r.1),
      in_turn picks at a turns (so_far ++ call ∷ []) r.0 new (λ calls.
          ap at (append_assoc so_far (call ∷ []) calls) ∙ (is (call ∷ calls)
          ∙ ap (λ (p : K). picks (picker_at p turns (length calls))) (sym kept))) r.2,
    )
in_turn picks at a (Replaced picker ∷ turns) so_far old new is r =
    in_turn picks at a turns so_far (by picker old) new is r

-- ---- the law
pub keeps_in_turn : {K : Type 0} (c : Settings) (picks : K → List Choice → ℕ → Type 0) (picker : K)
    (turns : List (Turn K)) (held : Holdings K) → IsValid c → AnsweredInTurn picks (fresh c picker) turns held
    → KeepsPromiseInTurn picks picker c turns held
keeps_in_turn {K} c picks picker turns held v r =
    let calls = calls_of turns in
    let at : PicksThen = λ so_far. picks (picker_at picker turns (length so_far)) in
    let k = called c at picker (by picker held) calls v
    (in_turn picks at picker turns [] (fresh c picker) held (λ calls. refl) r) in
    let kept = keeps_then c at (λ view place. Unit {0}) picker calls (by picker held) v
    (λ so_far view place own. tt) k in
    record {
      kept = grind (arith, kept);
      picked = k.picked;
      swept = each_weaker (IsPickThen c at) (λ so_far n. Sweeps (at so_far) → IsSwept c (history so_far) n)
          (λ so_far n p sweeps. swept_pick c (at so_far) (history so_far) n sweeps p) calls k.picked;
    }
