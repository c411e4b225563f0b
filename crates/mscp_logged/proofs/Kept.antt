-- Which rules of the wire a port keeps, if its host is right.
use Rattle.mscp_logged.proofs.Common.{AllByRecursion, Answer, First, History, HostIsRight, Keeps, List, Moment, None, Option, Rule, Said, Seen, Sent, Settings, [], answer_by, ap, arith, command_at, controller, controller_after, controller_in, drop, eqb-true, fold, inl, is_of_drives, is_of_polls, is_same_unit, is_some, length, moment_at, outstanding, refl, suc, suits_state, take, true, zero, ℕ, ◌+◌, ◌<◌, ◌∙◌, ◌∷◌, ◌≡◌}
use Rattle.mscp_wire.specs.declared.moment.Moment.TheVariants as moments
use Rattle.mscp_wire.specs.declared.rule.Rule.TheVariants as rules
use Rattle.mscp_logged.proofs.About.{about_right, success_right}
use Rattle.mscp_logged.proofs.Breaking.{command_holds, end_holds, placed_holds, seen_at}
use Rattle.mscp_logged.proofs.Coded.{endcode_right, unit_right}
use Rattle.mscp_logged.proofs.Figures.{IsShownAt, coded_so}
use Rattle.mscp_logged.proofs.Heard.{IsShown, figure_right}
use Rattle.mscp_logged.proofs.Long.{whole_long}
use Rattle.mscp_logged.proofs.Placed.{keeps_rule}
use Rattle.mscp_logged.proofs.Recalled.{IsSameUnit, IsSuitedUnit}
use Rattle.mscp_logged.proofs.Stated.{IsSeen, IsTied, Stated}
use Rattle.mscp_logged.proofs.Suited.{IsKnown}
use Rattle.mscp_logged.proofs.Tied.{IsEndOf}

-- ---- what is told of the controller

abbrev IsKnownBy : Settings → Moment → Type 0
IsKnownBy c (moments.End via b) = IsKnown c (controller_in b.items)
IsKnownBy c m = Unit {0}

after_known : (c : Settings) (told : Option ℕ) (m : Moment) → IsKnownBy c m → IsKnown c told
    → IsKnown c (controller_after told m)
after_known c told m new was = grind arith

all_known : (c : Settings) (h : History) (told : Option ℕ) → AllByRecursion (IsKnownBy c) h → IsKnown c told
    → IsKnown c (fold controller_after told h)
all_known c [] told all was = was
all_known c (m ∷ h) told all was =
    all_known c h (controller_after told m) all.1 (after_known c told m all.0 was)

-- so many of the first moments
first_of : (P : Moment → Type 0) (h : History) → ((i : ℕ) → i < length h → P (moment_at h i)) → (n : ℕ)
    → AllByRecursion P (take n h)
first_of P h each zero = tt
first_of P [] each (suc n) = tt
first_of P (m ∷ h) each (suc n) =
    (each 0 (search arith), first_of P h (λ i low. each (suc i) (search (arith, low))) n)

-- ---- the end of a command

module _ (c : Settings) (F : Type 0) (xs : List Sent) (unit : Seen) (known : IsKnown c unit.controller) (b : List ℕ)
    (tied : IsTied (IsEndOf c F) F (Unit {0}) xs b)
    (same : is_same_unit unit.unit (answer_by First b) ≡ true)
    (suits : F → suits_state unit.unit.state (answer_by First b) ≡ true) where
  abbrev y : Sent
  y = command_at xs tied.place

  abbrev e : Answer
  e = answer_by First b

  command_right : (x : Rule) → (is_of_drives x ≡ true → F)
      → (is_of_polls x ≡ true → IsShown xs b)
      → command_holds (take tied.place xs) (drop (tied.place + 1) xs) y unit e x ≡ true
  command_right rules.Unit f polls = unit_right y e tied.message tied.command tied.tie.fits.unit
  command_right rules.Endcode f polls =
      endcode_right y e tied.message (ap (λ (s : Sent). s.opcode) tied.command) tied.tie.fits.code
  command_right rules.Status f polls = grind arith
  command_right rules.Aborted f polls = grind (arith, eqb-true)
  command_right rules.Order f polls = tied.order tt
  command_right rules.Figure f polls =
      figure_right (drop (tied.place + 1) xs) y b (whole_long b tied.tie.whole)
      (coded_so y e (endcode_right y e tied.message (ap (λ (s : Sent). s.opcode) tied.command) tied.tie.fits.code))
      (polls refl tied.place tied.at)
  command_right rules.Success f polls = grind (arith, success_right)
  command_right rules.About f polls = about_right y b tied.message tied.command tied.tie.fits tied.tie.whole
  command_right rules.Count f polls = grind arith
  command_right rules.Controller f polls = grind arith
  command_right rules.Identity f polls = same
  command_right rules.State f polls = suits (f refl)
  command_right x f polls = refl

  end_right : (x : Rule) → (is_of_drives x ≡ true → F)
      → (is_of_polls x ≡ true → IsShown xs b) → end_holds xs unit First b x ≡ true
  end_right rules.Length f polls = whole_long b tied.tie.whole
  end_right rules.Outstanding f polls = ap is_some tied.at
  end_right x f polls = ap (λ o. placed_holds xs unit e o x) tied.at ∙ command_right x f polls

-- ---- all of them

pub keeps_rules : (c : Settings) (F : Type 0) (limit : Option ℕ) (x : Rule) (h : History) (aw : List (List ℕ))
    (held : List Said) → Stated (IsEndOf c F) F (Unit {0}) h aw held → HostIsRight limit h
    → (is_of_drives x ≡ true → F)
    → (is_of_polls x ≡ true → (i : ℕ) → i < length h → IsShownAt (take i h) (moment_at h i))
    → ((i : ℕ) → i < length h → IsSameUnit (take i h) (moment_at h i))
    → ((i : ℕ) → i < length h → F → IsSuitedUnit (take i h) (moment_at h i)) → Keeps x limit h
keeps_rules c F limit x h aw held s host f shown same suits = keeps_rule (IsEndOf c F) F (Unit {0}) limit x h aw held s
    (λ h m. (is_of_polls x ≡ true → IsShownAt h m) × IsSameUnit h m × (F → IsSuitedUnit h m))
    (λ i low. ((λ polls. shown polls i low), same i low, suits i low))
    (λ i b low tied more. end_right c F (outstanding (take i h)) (seen_at (take i h) (moments.End First b)) (told i)
    b.items tied more.1 more.2 x f more.0) host
  where
    known : (prefix : History) (m : Moment) → IsSeen (IsEndOf c F) F (Unit {0}) prefix m → IsKnownBy c m
    known prefix m is = grind arith

    told : (i : ℕ) → IsKnown c (controller (take i h))
    told i = all_known c (take i h) None
        (first_of (IsKnownBy c) h (λ j low. known (take j h) (moment_at h j) (s.each j low)) i) (inl refl)
