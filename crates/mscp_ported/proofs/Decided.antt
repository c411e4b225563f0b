-- Each end goes out with what was decided of it as it came.
use Rattle.mscp_ported.proofs.Common.{Answered, AnsweredCalls, Bool, Call, ControllersKeepThePromise, Dies, End, First, Hardware, Holdings, IsMadeOf, IsValid, KeepsPromise, Leaving, List, Made, Next, None, Ok, Option, Outcome, Outgoing, Picking, Port, Settings, Shape, Some, Stage, Verdict, WasRead, Went, WriteIp, [], answer_left, ap, append-nil, arith, blocks, came, came_by, come, cond, end_text, ends_begun, ends_said, ends_said_by, false, fresh, inl, inr, is_dead, length, map, of, refl, since, step_left, sym, true, verdict_in, ℕ, ◌++◌, ◌∙◌, ◌∷◌, ◌≡◌, ◌≤◌}
use Rattle.mscp_port.specs.declared.stage.Stage.TheVariants as stages
use Rattle.mscp_ported.proofs.Coming.{ends_of, few_ends}
use Rattle.mscp_ported.proofs.Deeds.{is_alive}
use Rattle.mscp_ported.proofs.Ending.{Ends, Grows, grows, left_with, none_come, none_left, stays, zip_ends, zipped}
use Rattle.mscp_ported.proofs.Leaving.{goes_out}
use Rattle.mscp_ported.proofs.Reading.{answer_grows, heard_same, read_is}
use Rattle.mscp_ported.proofs.Stepping.{IsHow, serves_grow, served_stage, went_is}
use Rattle.mscp_ported.proofs.Promised.{Knows, knows}
use Rattle.mscp_ported.proofs.Staying.{IsPassive, Stays, alike, same_as, passive_stays}
use Rattle.mscp_ported.proofs.Tables.{answer_by, answer_so, decided_by, step_fields, verdict_so}
use Rattle.mscp_ported.proofs.Wanting.{alive_or_dead}

-- a call is no write of IP
record IsNoReset (call : Call) : Type 0 where
  came : (s : Stage) (xs ys : List Leaving) → since s call xs ys ≡ cond (is_dead s) [] (xs ++ ys)
  said : (s : Stage) (xs ys : List (List ℕ)) → since s call xs ys ≡ cond (is_dead s) [] (xs ++ ys)

passive_reset : (call : Call) → IsPassive call → IsNoReset call
passive_reset WriteIp is = absurd is
passive_reset call is = record { came = λ s xs ys. refl; said = λ s xs ys. refl }

passive_came : {K : Type 0} (call : Call) (old new : Port K) → IsPassive call → came_by call old new ≡ []
passive_came call old new is = grind arith

pub passive_said : {K : Type 0} (call : Call) (old new : Port K) → IsPassive call → ends_said_by call old new ≡ []
passive_said (Next blocks action bytes) old new is = absurd is
passive_said call old new is = refl

-- what is kept of the ends, and the hardware
pub record Whole {K : Type 0} (h : Hardware) (units : List Shape) (p : Port K) (xs : List Leaving) (ys : List (List ℕ))
    : Type 0 where
  pub ends : Ends h units p xs ys
  pub hardware : p.hardware ≡ h

module _ {K : Type 0} (h : Hardware) (units : List Shape) (call : Call) (old new : Port K) (xs : List Leaving)
    (ys : List (List ℕ)) (k : Whole h units old xs ys) (calm : IsNoReset call) where
  abbrev So : Type 0
  So = Whole h units new (since new.stage call xs (came_by call old new))
      (since new.stage call ys (ends_said_by call old new))

  became : (xs' : List Leaving) (ys' : List (List ℕ)) → since new.stage call xs (came_by call old new) ≡ xs'
      → since new.stage call ys (ends_said_by call old new) ≡ ys' → Ends h units new xs' ys'
      → new.hardware ≡ old.hardware
      → So
  became xs' ys' e f x hardware = grind arith

  dies_so : Dies old new → So
  dies_so d = grind (arith, became, none_left, ends_of)

  stays_so : came_by call old new ≡ [] → ends_said_by call old new ≡ [] → Stays old new → So
  stays_so no_came no_said either = elim either [
    | inl same ↦ record {
      ends = stays h units old new xs ys k.ends call same.3 calm.came calm.said no_came no_said
          (ap (λ c. ends_of c) same.0) (ap (λ d. d.items) same.1);
      hardware = same.2 ∙ k.hardware;
    }
    | inr d ↦ dies_so d
  ]

  -- ends come
  grows_so : (f : End → _) (g : End → Leaving) → Grows old new f → ((e : End) → left_with e (f e) ≡ g e)
      → is_dead new.stage ≡ false → came_by call old new ≡ map g (come old new) → ends_said_by call old new ≡ []
      → new.hardware ≡ old.hardware → So
  grows_so f g r same alive is none hardware = became (xs ++ map g (come old new)) ys
      (calm.came new.stage xs (came_by call old new)
      ∙ ap (λ b. cond b [] (xs ++ came_by call old new)) alive ∙ ap (λ zs. xs ++ zs) is)
      (calm.said new.stage ys (ends_said_by call old new)
      ∙ ap (λ b. cond b [] (ys ++ ends_said_by call old new)) alive ∙ ap (λ zs. ys ++ zs) none ∙ append-nil ys)
      (grows h units old new xs ys k.ends f g r same alive) hardware

-- ---- the law

module _ {K : Type 0} (picks : Picking K) (c : Settings) (picker : K)
    (keeps : ControllersKeepThePromise (picks picker) picker) (valid : IsValid c) (before : List Made)
    (hardware : Hardware) (credits : ℕ) (controller : Holdings K) (start : Port K)
    (was : AnsweredCalls (picks picker) (fresh c picker) before controller)
    (made : IsMadeOf hardware credits controller start) (quiet : of First controller.untaken ≡ []) where
  known : (p : Port K) (calls : List Call) (a : Answered picks start calls p)
      → Knows picks c picker before start p calls a
  known = knows picks c picker keeps valid before hardware credits controller start was made

  -- what is promised of its controller then
  promised : (p : Port K) (calls : List Call) (a : Answered picks start calls p)
      → (xs : List Made) × KeepsPromise (picks picker) c xs p.controller
  promised p calls a = let k = known p calls a in (k.made, keeps c k.made p.controller valid k.answered)

  few : (p : Port K) (calls : List Call) (a : Answered picks start calls p) → length (ends_of p.controller) ≤ 64
  few p calls a =
      let k = promised p calls a in few_ends (picks picker) c k.0 p.controller valid k.1

  abbrev Kept : (p : Port K) (calls : List Call) → Answered picks start calls p → Type 0
  Kept p calls a = Whole hardware c.units p (came picks start p calls a) (ends_said picks start p calls a)

  passive_kept : (p : Port K) (call : Call) (calls : List Call) (a : Answered picks start (call ∷ calls) p)
      → IsPassive call → Kept a.0 calls a.1 → Kept p (call ∷ calls) a
  passive_kept p call calls a is k = stays_so hardware c.units call a.0 p (came picks start a.0 calls a.1)
      (ends_said picks start a.0 calls a.1) k (passive_reset call is) (passive_came call a.0 p is)
      (passive_said call a.0 p is) (passive_stays picks call a.0 p a.2 is)

  next_kept : (p : Port K) (calls : List Call) (blocks : Bool) (action : _) (bytes : List ℕ)
      (a : Answered picks start (Next blocks action bytes ∷ calls) p)
      → Kept a.0 calls a.1 → Kept p (Next blocks action bytes ∷ calls) a
  next_kept p calls blocks action bytes a k = elim (alive_or_dead a.0 a.0.stage refl) [
    | inl alive ↦
        let stage : p.stage ≡ a.0.stage = ap (λ (q : Port K). q.stage) a.2.0.frame in
        let lives : is_dead a.0.stage ≡ false = is_alive a.0 alive in
        let lives_on : is_dead p.stage ≡ false = ap is_dead stage ∙ lives in
        let units = ap (λ s. s.units) (promised a.0 calls a.1).1.settings in
        became hardware c.units (Next blocks action bytes) a.0 p xs ys k calm xs
        (ys ++ ends_begun a.0.outgoing p.outgoing)
        (ap (λ b. cond b [] (xs ++ [])) lives_on ∙ append-nil xs)
        (ap (λ b. cond b [] (ys ++ ends_begun a.0.outgoing p.outgoing)) lives_on)
        (goes_out hardware c.units a.0 p xs ys k.ends a.2.0.says k.hardware units stage lives)
        (ap (λ (q : Port K). q.hardware) a.2.0.frame)
    | inr d ↦
        let e = (a.2.0.dead d.0 d.1).1 in
        stays_so hardware c.units (Next blocks action bytes) a.0 p xs ys k calm refl
        (ap (ends_begun a.0.outgoing) (ap (λ (q : Port K). q.outgoing) e) ∙ begun_same a.0.outgoing)
        (same_as e (alike a.0))
  ]
    where
      xs : List Leaving
      xs = came picks start a.0 calls a.1

      ys : List (List ℕ)
      ys = ends_said picks start a.0 calls a.1

      calm : IsNoReset (Next blocks action bytes)
      calm = record { came = λ s xs ys. refl; said = λ s xs ys. refl }

      begun_same : (o : Option Outgoing) → ends_begun o o ≡ []
      begun_same None = refl
      begun_same (Some o) = refl

  -- while there is no fatal error
  still_alive : (old new : Port K) → ((code : ℕ) → old.stage ≡ stages.Dead code → ⊥)
      → (is_dead new.stage ≡ true → is_dead old.stage ≡ true) → is_dead new.stage ≡ false
  still_alive old new alive dead = grind (arith, is_alive)

  read_kept : (p : Port K) (calls : List Call) (bytes : List ℕ) (done : Unit)
      (a : Answered picks start (WasRead bytes (Ok done) ∷ calls) p)
      → Kept a.0 calls a.1 → Kept p (WasRead bytes (Ok done) ∷ calls) a
  read_kept p calls bytes done a k = elim (read_is bytes done a.0 p a.2) [
    | inl s ↦ elim s.0 [
      | inl same ↦ grown (none_come a.0 p (answer_by a.0 p) (ap (λ h. ends_of h) same.0) (ap (λ d. d.items) same.1))
          same.3 same.2
      | inr d ↦ dies_so hardware c.units (WasRead bytes (Ok done)) a.0 p xs ys k calm d
    ]
    | inr g ↦ grown (elim g.how [
      | inl q ↦ none_come a.0 p (answer_by a.0 p) (ap (λ h. ends_of h) q.holds) q.sends.decided
      | inr x ↦ answer_grows x k.ends.long
    ]) (λ d. sym (ap is_dead (heard_same g).0) ∙ d) (heard_same g).1
  ]
    where
      xs : List Leaving
      xs = came picks start a.0 calls a.1

      ys : List (List ℕ)
      ys = ends_said picks start a.0 calls a.1

      calm : IsNoReset (WasRead bytes (Ok done))
      calm = record { came = λ s xs ys. refl; said = λ s xs ys. refl }

      grown : Grows a.0 p (answer_by a.0 p) → (is_dead p.stage ≡ true → is_dead a.0.stage ≡ true)
          → p.hardware ≡ a.0.hardware → Kept p (WasRead bytes (Ok done) ∷ calls) a
      grown g dead = grows_so hardware c.units (WasRead bytes (Ok done)) a.0 p xs ys k calm (answer_by a.0 p)
          (answer_left a.0 p) g (λ e. ap (λ f. record { end = e; fields = f }) (answer_so a.0 p e))
          (still_alive a.0 p (λ code e. search (arith, a.2.dead code e)) dead) refl refl

  went_kept : (p : Port K) (calls : List Call) (outcome : Outcome) (done : Unit)
      (a : Answered picks start (Went outcome (Ok done) ∷ calls) p)
      → Kept a.0 calls a.1 → Kept p (Went outcome (Ok done) ∷ calls) a
  went_kept p calls outcome done a k = elim (went_is (picks a.0.controller.picker) outcome done a.0 p a.2) [
    | inl s ↦ grown s.0 (verdict_is s.0 s.1)
        (serves_grow s.2 k.ends.long (few p (Went outcome (Ok done) ∷ calls) a))
        (λ d. sym (ap is_dead (served_stage s.2)) ∙ d) (ap (λ (q : Port K). q.hardware) s.2.heeds.frame)
    | inr more ↦ elim more [
      | inl n ↦ grown (verdict_in a.0 outcome a.0.task) refl
          (none_come a.0 p (decided_by (verdict_in a.0 outcome a.0.task) a.0 p) (ap (λ h. ends_of h) n.0.0)
          (ap (λ d. d.items) n.0.1)) n.0.3 n.0.2
      | inr d ↦ dies_so hardware c.units (Went outcome (Ok done)) a.0 p xs ys k calm d
    ]
  ]
    where
      xs : List Leaving
      xs = came picks start a.0 calls a.1

      ys : List (List ℕ)
      ys = ends_said picks start a.0 calls a.1

      calm : IsNoReset (Went outcome (Ok done))
      calm = record { came = λ s xs ys. refl; said = λ s xs ys. refl }

      verdict_is : (verdict : Verdict) → IsHow a.0 outcome verdict → verdict_in a.0 outcome a.0.task ≡ verdict
      verdict_is verdict h = grind (arith, verdict_so)

      grown : (verdict : Verdict) → verdict_in a.0 outcome a.0.task ≡ verdict
          → Grows a.0 p (decided_by verdict a.0 p) → (is_dead p.stage ≡ true → is_dead a.0.stage ≡ true)
          → p.hardware ≡ a.0.hardware → Kept p (Went outcome (Ok done) ∷ calls) a
      grown verdict is g dead = grows_so hardware c.units (Went outcome (Ok done)) a.0 p xs ys k calm
          (decided_by verdict a.0 p) (step_left verdict a.0 p) g
          (λ e. ap (λ f. record { end = e; fields = f }) (step_fields verdict a.0 p e))
          (still_alive a.0 p (λ code e. search (arith, a.2.dead code e)) dead)
          (ap (λ v. map (step_left v a.0 p) (come a.0 p)) is) refl

  pub kept : (p : Port K) (calls : List Call) (a : Answered picks start calls p) → Kept p calls a
  kept p [] a = record {
    ends = none_left hardware c.units p (ap (λ (q : Port K). ends_of q.controller) a
        ∙ ap (λ h. ends_of h) made.over ∙ quiet)
        (ap (λ (q : Port K). q.decided.items) a ∙ made.decided);
    hardware = ap (λ (q : Port K). q.hardware) a ∙ made.hardware;
  }
  kept p (WriteIp ∷ calls) a = record {
    ends = none_left hardware c.units p (ap (λ h. ends_of h) a.2.controller) a.2.decided;
    hardware = a.2.hardware ∙ (kept a.0 calls a.1).hardware;
  }
  kept p (Next blocks action bytes ∷ calls) a = next_kept p calls blocks action bytes a (kept a.0 calls a.1)
  kept p (WasRead bytes (Ok done) ∷ calls) a = read_kept p calls bytes done a (kept a.0 calls a.1)
  kept p (Went outcome (Ok done) ∷ calls) a = went_kept p calls outcome done a (kept a.0 calls a.1)
  kept p (call ∷ calls) a = passive_kept p call calls a tt (kept a.0 calls a.1)

  pub says_what_was_decided : (p : Port K) (calls : List Call) (a : Answered picks start calls p)
      → (gone : List Leaving) × (waits : List Leaving) × (came picks start p calls a ≡ gone ++ waits)
      × (map (λ l. l.end) waits ≡ of First p.controller.untaken)
      × (ends_said picks start p calls a ≡ map (end_text hardware c.units) gone)
  says_what_was_decided p calls a =
      let k = (kept p calls a).ends in (
        k.gone,
        zipped (ends_of p.controller) p.decided.items,
        k.all,
        zip_ends (ends_of p.controller) p.decided.items k.long,
        k.texts,
      )
