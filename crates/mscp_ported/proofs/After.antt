-- What a call leaves in step.
use Rattle.mscp_ported.proofs.Common.{Call, List, None, Option, Outgoing, Packet, Port, Said, Some, Stage, Talk, Task, Turn, Wish, [], accepted_by, append-nil, arith, begins, cond, false, inl, inr, is_dead, map, refl, said_in, silence, since, stepped, talk_after, talk_by, true, ℕ, ◌++◌, ◌≡◌, ◌⊎◌}
use Rattle.mscp_port.specs.declared.stage.Stage.TheVariants as stages
use Rattle.mscp_ported.proofs.Look.{AreTold, InStep, IsTelling, Look, left_all, left_quiet, quiet_left}

-- what is in step after a call, by which the port looks so
abbrev pub After : {K : Type 0} → Call → Port K → Look → Talk → Option Wish → Option Wish → List Said
    → List (List ℕ) → Type 0
After call old l t w v said texts = InStep l (talk_after old.stage l.stage w call t) v
    (since l.stage call said (map said_in (begins old.outgoing l.outgoing)))
    (since l.stage call texts (accepted_by call old))

-- ---- calls

-- a call is no write of IP
pub record IsNoReset (call : Call) : Type 0 where
  pub said : (s : Stage) (xs ys : List Said) → since s call xs ys ≡ cond (is_dead s) [] (xs ++ ys)
  pub texts : (s : Stage) (xs ys : List (List ℕ)) → since s call xs ys ≡ cond (is_dead s) [] (xs ++ ys)

pub become : (l : Look) (v : Option Wish) (t t' : Talk) (said said' : List Said) (texts texts' : List (List ℕ))
    → t ≡ t' → said ≡ said' → texts ≡ texts' → InStep l t' v said' texts' → InStep l t v said texts
become l v t t' said said' texts texts' e f g k = grind arith

-- by a call after which there is no fatal error the talk, what was said and what was accepted became these
pub alters : {K : Type 0} (call : Call) (old : Port K) (l : Look) (t t' : Talk) (w v : Option Wish)
    (said said' : List Said) (texts texts' : List (List ℕ)) → IsNoReset call → is_dead l.stage ≡ false
    → stepped old.stage l.stage (talk_by old.stage w call t) ≡ t'
    → said ++ map said_in (begins old.outgoing l.outgoing) ≡ said'
    → texts ++ accepted_by call old ≡ texts'
    → InStep l t' v said' texts' → After call old l t w v said texts
alters call old l t t' w v said said' texts texts' calm alive talk more_said more_texts k = grind (arith, become)

-- and after a fatal error they are none
pub ends : {K : Type 0} (call : Call) (old : Port K) (l : Look) (t : Talk) (w v : Option Wish) (said : List Said)
    (texts : List (List ℕ)) → IsNoReset call → is_dead l.stage ≡ true → InStep l silence v [] []
    → After call old l t w v said texts
ends call old l t w v said texts calm dead k = grind (arith, become)

pub begins_same : (o : Option Outgoing) → begins o o ≡ []
begins_same None = refl
begins_same (Some o) = refl

-- nothing more is said
pub none_said : (before after : Option Outgoing) (said : List Said) → after ≡ before
    → said ++ map said_in (begins before after) ≡ said
none_said before after said e = grind (arith, begins_same, append-nil)

-- what is in hand tells nothing, and nothing more is said, or something is where nothing went out
pub say_on : (more : ℕ) (task task' : Task) (turn turn' : Turn) (before after : Option Outgoing) (untold : ℕ)
    (told : List Packet) (said : List Said) → (IsTelling task → ⊥) → (IsTelling task' → ⊥)
    → (after ≡ before) ⊎ (before ≡ None) → AreTold more task turn before untold told said
    → AreTold more task' turn' after untold told (said ++ map said_in (begins before after))
say_on more task task' turn turn' before after untold told said calm calm' either h =
    grind (arith, none_said, append-nil, quiet_left, left_all, left_quiet)

-- ---- calls that report no action

pub same_stage : (s : Stage) (t : Talk) → stepped s s t ≡ t
same_stage s t = grind arith

pub by_dead : (s : Stage) → (is_dead s ≡ true) ⊎ (is_dead s ≡ false)
by_dead (stages.Dead code) = inl refl
by_dead s = inr refl

-- a call that is no write of IP, and reports no action
pub record IsPlain {K : Type 0} (call : Call) (old : Port K) : Type 0 where
  pub talk : (w : Option Wish) (t : Talk) → talk_by old.stage w call t ≡ t
  pub no_reset : IsNoReset call
  pub accepts : accepted_by call old ≡ []

module _ {K : Type 0} (call : Call) (old : Port K) (l : Look) (t : Talk) (w v : Option Wish) (said : List Said)
    (texts : List (List ℕ)) (stage : l.stage ≡ old.stage) (out : l.outgoing ≡ old.outgoing) (plain : IsPlain call old)
    (k : InStep l t v said texts) where
  end_so : is_dead l.stage ≡ true → After call old l t w v said texts
  end_so dead = grind (arith, ends, become, none_said)

  -- the talk stays as it was
  pub unmoved : After call old l t w v said texts
  unmoved = grind (arith, by_dead, end_so, alters, same_stage, none_said, append-nil)
