-- Each call of a port deals with one thing at most, over a whole list of calls.
use Rattle.mscp_ported.proofs.Numbered.{At, ends_numbered}
use Rattle.mscp_ported.proofs.Common.{All, All-drop, All-head, Answered, AnsweredCalls, Becomes, Call, ControllersKeepThePromise, Deals, End, Err, First, Hardware, Holdings, IsMadeOf, IsOfKind, IsValid, KeepsPromise, List, Made, Next, Ok, Picking, Port, ReadsBytes, Record, Settings, Some, Stage, WasRead, Went, WriteIp, [], ap, arith, awaited, blocks, ends, false, fresh, history, is_dead, none-some, numbers, numbers_ended, of, outstanding_of, refl, same_Some, slice_get, slice_index, subst, sym, true, untaken, waiting_on, ℕ, ◌<◌, ◌^◌, ◌∙◌, ◌∷◌, ◌≡◌, ◌≢◌}
use Rattle.mscp_ported.proofs.Kept.{is_numbered}
use Rattle.mscp_ported.proofs.Minor.{minor}
use Rattle.std.specs.Prelude.{filter}
use Rattle.mscp_port.specs.declared.stage.Stage.TheVariants as stages
use Rattle.mscp_ported.proofs.Awaiting.{IsNoReset, IsSmall, Kept, nothing_kept, stays_so}
use Rattle.mscp_ported.proofs.Awaits.{read_so, went_so}
use Rattle.mscp_ported.proofs.Coming.{ends_of}
use Rattle.mscp_ported.proofs.Dealing.{next_deals, next_so, passive_deals, passive_taken, read_deals, went_deals}
use Rattle.mscp_ported.proofs.Decided.{passive_said}
use Rattle.mscp_ported.proofs.Promised.{knows}
pub use Rattle.mscp_ported.proofs.Sole.{nothing_two}
use Rattle.mscp_ported.proofs.Staying.{IsPassive, passive_stays}

-- ---- a fatal error stays

dead_code : (s : Stage) → is_dead s ≡ true → (code : ℕ) × (s ≡ stages.Dead code)
dead_code (stages.Dead code) e = (code, refl)
dead_code s e = absurd (search (arith, e))

module _ {K : Type 0} (picks : Picking K) (old new : Port K) where
  stays_dead : new ≡ old → is_dead old.stage ≡ true → is_dead new.stage ≡ true
  stays_dead e d = ap (λ (q : Port K). is_dead q.stage) e ∙ d

  same_dead : new.stage ≡ old.stage → is_dead old.stage ≡ true → is_dead new.stage ≡ true
  same_dead e d = ap is_dead e ∙ d

  dead_on : (call : Call) → call ≢ WriteIp → Becomes picks call old new → is_dead old.stage ≡ true
      → is_dead new.stage ≡ true
  dead_on call never r d = grind (arith, dead_code, stays_dead, minor, same_dead)

  pub lived : (call : Call) → call ≢ WriteIp → Becomes picks call old new → is_dead new.stage ≡ false
      → is_dead old.stage ≡ false
  lived call never r lives = grind (arith, dead_on)

-- ---- at the start

pub no_ends : (es : List End) → numbers_ended es ≡ [] → es ≡ []
no_ends [] e = refl
no_ends (x ∷ es) e = absurd (search (arith, e))

none_waits : (rs : List Record) (n : ℕ) → waiting_on First rs ≡ [] → filter (is_numbered n) rs ≡ []
none_waits [] n e = refl
none_waits (r ∷ rs) n e = search (arith, none_waits rs n)

pub bytes_small : (b : List ℕ) → ((i : ℕ) → slice_index b i < 2 ^ 8) → IsSmall b
bytes_small b h = grind arith

first_of_all : (P : End → Type 0) (es : List End) (e : End) → All P es → slice_get es 0 ≡ Some e → P e
first_of_all P [] e all h = absurd (none-some e h)
first_of_all P (x ∷ es) e all h = subst P (same_Some x e h) (All-head P x es all)

module _ {K : Type 0} (picks : Picking K) (c : Settings) (picker : K)
    (keeps : ControllersKeepThePromise (picks picker) picker) (valid : IsValid c) (before : List Made)
    (hardware : Hardware) (credits : ℕ) (controller : Holdings K) (start : Port K)
    (was : AnsweredCalls (picks picker) (fresh c picker) before controller)
    (made : IsMadeOf hardware credits controller start) (quiet : outstanding_of First controller ≡ []) where
  -- each end that waits has the body of its endcode
  pub shaped : (p : Port K) (calls : List Call) (a : Answered picks start calls p) (e : End)
      → slice_get (ends_of p.controller) 0 ≡ Some e → IsOfKind e
  unfolding untaken
  shaped p calls a e h =
      let k = knows picks c picker keeps valid before hardware credits controller start was made p calls a in
      let promised : KeepsPromise
      (picks picker) c k.made p.controller = keeps c k.made p.controller valid k.answered in
      first_of_all IsOfKind (ends_of p.controller) e
      (subst (λ es. All IsOfKind es) (sym (promised.untaken First)) (All-drop IsOfKind _ (ends c First
      (history k.made)) (promised.promise.shaped First)))
      h

  passive_kept : (p : Port K) (call : Call) (calls : List Call) (a : Answered picks start (call ∷ calls) p)
      → IsPassive call → Kept a.0 (awaited picks start a.0 calls a.1) → Kept p (awaited picks start p (call ∷ calls) a)
  passive_kept p call calls a is k = stays_so call a.0 p (awaited picks start a.0 calls a.1) k (calm call is)
      (passive_said call a.0 p is) (passive_taken call a.0 is) (passive_stays picks call a.0 p a.2 is)
    where
      calm : (call : Call) → IsPassive call → IsNoReset call
      calm WriteIp is = absurd is
      calm call is = record { texts = λ s xs ys. refl }

  reads_before : (call : Call) (calls : List Call) → ReadsBytes (call ∷ calls) → ReadsBytes calls
  reads_before (WasRead bytes result) calls reads = reads.1
  reads_before call calls reads = reads

  pub kept : (p : Port K) (calls : List Call) → ReadsBytes calls → (a : Answered picks start calls p)
      → Kept p (awaited picks start p calls a)
  kept p [] reads a =
      let same : p.controller ≡ controller = ap (λ (q : Port K). q.controller) a ∙ made.over in
      record {
        each = λ n. subst (λ (h : Holdings K). At [] h.waiting (ends_of h) n) (sym same)
            (start_at n);
        small = tt;
        dead = λ d. refl;
      }
    where
      parts : (Rattle.mscp_controller.specs.Holdings.numbers (waiting_on First controller.waiting) ≡ [])
          × (numbers_ended (of First controller.untaken) ≡ [])
      parts = nothing_two (Rattle.mscp_controller.specs.Holdings.numbers (waiting_on First controller.waiting))
          (numbers_ended (of First controller.untaken)) quiet

      no_numbers : (rs : List Record) → Rattle.mscp_controller.specs.Holdings.numbers rs ≡ [] → rs ≡ []
      no_numbers [] e = refl
      no_numbers (r ∷ rs) e = absurd (search (arith, e))

      start_at : (n : ℕ) → At [] controller.waiting (ends_of controller) n
      start_at n = grind (arith, none_waits, no_numbers, parts, ends_numbered, no_ends)
  kept p (WriteIp ∷ calls) reads a =
      nothing_kept p (ap (λ (h : Holdings K). h.waiting) a.2.controller) (ap (λ h. ends_of h) a.2.controller)
  kept p (Next blocks action bytes ∷ calls) reads a =
      next_so blocks action bytes a.0 p (awaited picks start a.0 calls a.1) (kept a.0 calls reads a.1)
      (picks a.0.controller.picker) a.2.0
  kept p (WasRead bytes (Ok done) ∷ calls) reads a =
      read_so bytes done a.0 p (awaited picks start a.0 calls a.1) (kept a.0 calls reads.1 a.1) a.2
      (bytes_small bytes reads.0)
  kept p (WasRead bytes (Err unasked) ∷ calls) reads a =
      passive_kept p (WasRead bytes (Err unasked)) calls a tt (kept a.0 calls reads.1 a.1)
  kept p (Went outcome (Ok done) ∷ calls) reads a =
      went_so (picks a.0.controller.picker) outcome done a.0 p (awaited picks start a.0 calls a.1)
      (kept a.0 calls reads a.1) a.2
  kept p (Went outcome (Err unasked) ∷ calls) reads a =
      passive_kept p (Went outcome (Err unasked)) calls a tt (kept a.0 calls reads a.1)
  kept p (call ∷ calls) reads a = passive_kept p call calls a tt (kept a.0 calls (reads_before call calls reads) a.1)

  pub deals : (p : Port K) (call : Call) (calls : List Call) → ReadsBytes (call ∷ calls)
      → (a : Answered picks start (call ∷ calls) p) → call ≢ WriteIp → is_dead p.stage ≡ false
      → (is_dead a.0.stage ≡ false) × Deals (awaited picks start a.0 calls a.1) call a.0 p
  deals p call calls reads a never lives = (lived picks a.0 p call never a.2 lives, by call a reads never)
    where
      by : (call : Call) (a : Answered picks start (call ∷ calls) p) → ReadsBytes (call ∷ calls) → call ≢ WriteIp
          → Deals (awaited picks start a.0 calls a.1) call a.0 p
      by WriteIp a reads never = absurd (never refl)
      by (Next blocks action bytes) a reads never =
          next_deals blocks action bytes a.0 p (awaited picks start a.0 calls a.1) (kept a.0 calls reads a.1)
          (picks a.0.controller.picker) a.2.0 (shaped a.0 calls a.1)
      by (WasRead bytes (Ok done)) a reads never =
          read_deals bytes done a.0 p (awaited picks start a.0 calls a.1) a.2 lives
      by (Went outcome (Ok done)) a reads never =
          went_deals picks outcome done a.0 p (awaited picks start a.0 calls a.1) a.2
      by call a reads never = passive_deals picks call a.0 p (awaited picks start a.0 calls a.1) a.2 tt
