-- Which rules a moment can't break: those of which a test holds.
use Rattle.mscp_logged.proofs.Common.{Answer, Bool, Connection, History, Keeps, List, Moment, None, Option, Rule, Seen, Sent, Some, answer_by, arith, broken, broken_at, broken_end, command_at, controller, count_of, drop, false, false≢true, fits, has_abort, has_count, has_endcode, has_figure, has_status, is_about, is_long, is_same_unit, is_some, length, moment_at, names_unit, not, other_of, outstanding, passes_none, place_of, polled_by, refl, seen_of, succeeds, suits_state, sym, take, told, true, unless, ℕ, ◌+◌, ◌<◌, ◌∙◌, ◌≡◌}
use Rattle.mscp_wire.specs.declared.moment.Moment.TheVariants as moments
use Rattle.mscp_wire.specs.declared.rule.Rule.TheVariants as rules

-- ---- one after the other

pub none_never : (x : Rule) → None ≡ Some x → ⊥
none_never x e = search (arith, e)

-- of rules that are asked one after the other none is broken of which a test holds
module _ (holds : Rule → Bool) (x : Rule) where
  none_fails : None ≡ Some x → holds x ≡ false
  none_fails e = absurd (none_never x e)

  unless_fails : (r : Rule) (b : Bool) (rest : Option Rule) → (b ≡ false → holds r ≡ false)
      → (rest ≡ Some x → holds x ≡ false) → unless b r rest ≡ Some x → holds x ≡ false
  unless_fails r b rest own later e = grind arith

-- ---- the end of a command

module _ (earlier later : List Sent) (y : Sent) (unit : Seen) (e : Answer) where
  abbrev pub command_holds : Rule → Bool
  command_holds rules.Unit = names_unit y e
  command_holds rules.Endcode = has_endcode y e
  command_holds rules.Status = has_status y e
  command_holds rules.Aborted = has_abort later y e
  command_holds rules.Order = passes_none earlier y e
  command_holds rules.Success = succeeds e (other_of y e)
  command_holds rules.About = is_about e (other_of y e)
  command_holds rules.Figure = has_figure later y e (polled_by y e)
  command_holds rules.Count = has_count e (count_of y e)
  command_holds rules.Identity = is_same_unit unit.unit e
  command_holds rules.State = suits_state unit.unit.state e
  command_holds rules.Controller = fits unit.controller e.controller
  command_holds rule = true

  command_fails : (x : Rule) → broken_end earlier later y unit e ≡ Some x → command_holds x ≡ false
  command_fails x =
      unless_fails command_holds x rules.Unit _ _ (λ b. b)
      (unless_fails command_holds x rules.Endcode _ _ (λ b. b)
      (unless_fails command_holds x rules.Status _ _ (λ b. b)
      (unless_fails command_holds x rules.Aborted _ _ (λ b. b)
      (unless_fails command_holds x rules.Order _ _ (λ b. b)
      (unless_fails command_holds x rules.Success _ _ (λ b. b)
      (unless_fails command_holds x rules.About _ _ (λ b. b)
      (unless_fails command_holds x rules.Figure _ _ (λ b. b)
      (unless_fails command_holds x rules.Count _ _ (λ b. b)
      (unless_fails command_holds x rules.Identity _ _ (λ b. b)
      (unless_fails command_holds x rules.State _ _ (λ b. b)
      (unless_fails command_holds x rules.Controller _ _ (λ b. b) (none_fails command_holds x))))))))))))

-- ---- a moment

-- a rule of a host's
abbrev pub is_hosts : Rule → Bool
is_hosts rules.Message = true
is_hosts rules.Number = true
is_hosts rules.Credits = true
is_hosts rule = false

module _ (xs : List Sent) (unit : Seen) where
  -- the end of the command at a place, if it is there
  abbrev pub placed_holds : Answer → Option ℕ → Rule → Bool
  placed_holds e None rule = false
  placed_holds e (Some i) rule = command_holds (take i xs) (drop (i + 1) xs) (command_at xs i) unit e rule

  abbrev pub end_holds : Connection → List ℕ → Rule → Bool
  end_holds via b rules.Length = is_long b
  end_holds via b rules.Outstanding = is_some (place_of xs (answer_by via b))
  end_holds via b rule = placed_holds (answer_by via b) (place_of xs (answer_by via b)) rule

  -- of a message nothing is said here of a rule of its host's
  abbrev pub moment_holds : Moment → Rule → Bool
  moment_holds (moments.Message via b time) rule = not (is_hosts rule)
  moment_holds (moments.End via b) rule = end_holds via b.items rule
  moment_holds m rule = true

  end_fails : (via : Connection) (b : List ℕ) (x : Rule) (o : Option ℕ) → place_of xs (answer_by via b) ≡ o
      → broken_at xs unit (answer_by via b) o ≡ Some x → end_holds via b x ≡ false
  end_fails via b x None at e = grind arith
  end_fails via b x (Some i) at e =
      by x (command_fails (take i xs) (drop (i + 1) xs) (command_at xs i) unit (answer_by via b) x e)
    where
      by : (x : Rule) → command_holds (take i xs) (drop (i + 1) xs) (command_at xs i) unit (answer_by via b) x ≡ false
          → end_holds via b x ≡ false
      by x h = grind arith

  pub moment_fails : (credits : Option ℕ) (m : Moment) (x : Rule) → broken credits xs unit m ≡ Some x
      → moment_holds m x ≡ false
  moment_fails credits (moments.Message via b time) x =
      unless_fails (λ r. not (is_hosts r)) x rules.Message _ _ (λ b. refl)
      (unless_fails (λ r. not (is_hosts r)) x rules.Number _ _ (λ b. refl)
      (unless_fails (λ r. not (is_hosts r)) x rules.Credits _ _ (λ b. refl) (none_fails (λ r. not (is_hosts r)) x)))
  moment_fails credits (moments.End via b) x =
      unless_fails (end_holds via b.items) x rules.Length _ _ (λ b. b)
      (end_fails via b.items x (place_of xs (answer_by via b.items)) refl)
  moment_fails credits m x = none_fails (moment_holds m) x

-- what was told of a moment's unit and of the controller before it
abbrev pub seen_at : History → Moment → Seen
seen_at h m = seen_of (outstanding h) (told h) (controller h) m

-- a history keeps a rule which holds at each of its moments
pub keeps_so : (limit : Option ℕ) (h : History) (x : Rule)
    → ((i : ℕ) → i < length h → (unit : Seen) → moment_holds (outstanding (take i h)) unit (moment_at h i) x ≡ true)
    → Keeps x limit h
keeps_so limit h x each i low e =
    let seen = seen_at (take i h) (moment_at h i) in
    false≢true (sym (moment_fails (outstanding (take i h)) seen limit (moment_at h i) x e) ∙ each i low seen)
