-- An end that goes out says that its status may come at once, or its command passes none that is outstanding.
use Rattle.mscp_logged.proofs.Common.{AllByRecursion, Bool, First, List, Said, Sent, [], answer_by, ap, command_at, false, filter, inl, inr, is_apart, keeps_back, list_any, not, num, passes_none, refl, sent_by, take, true, ℕ, ◌%◌, ◌++◌, ◌||◌, ◌∙◌, ◌∷◌, ◌≡◌, ◌⊎◌}
use Rattle.mscp_port.specs.declared.port.OutgoingKind.TheVariants as kinds
use Rattle.mscp_logged.proofs.Lined.{AreLined}
use Rattle.mscp_logged.proofs.Passes.{keeps, lined_passes, overtakes, passes, passes_beside, passes_new}
use Rattle.mscp_logged.proofs.Wired.{named, stem}

-- the status of an end may come at once, or this is so
abbrev pub IsApartOr : List ℕ → Type 0 → Type 0
IsApartOr text P = (is_apart (num text 10 2 % 32) ≡ true) ⊎ P

abbrev pub IsTurn : List Sent → List ℕ → Type 0
IsTurn xs text = IsApartOr text (passes (named (num text 0 4)) keeps_back xs ≡ false)

-- of all that goes out, if this is so
abbrev pub AreTurned : Type 0 → List Sent → List Said → Type 0
AreTurned O xs held = AllByRecursion (λ (s : Said). s.kind ≡ kinds.End → O → IsTurn xs s.text) held

-- another command comes
pub turn_more : (xs : List Sent) (text : List ℕ) (x : Sent) → named (num text 0 4) x ≡ false → IsTurn xs text
    → IsTurn (xs ++ x ∷ []) text
turn_more xs text x apart (inl a) = inl a
turn_more xs text x apart (inr h) = inr (passes_beside (named (num text 0 4)) keeps_back xs x apart ∙ h)

pub turn_lined : (xs : List Sent) (aw : List (List ℕ)) (text : List ℕ) → AreLined xs aw
    → IsApartOr text (overtakes (num text 0 4) aw ≡ false) → IsTurn xs text
turn_lined xs aw text lined (inl a) = inl a
turn_lined xs aw text lined (inr h) = inr (lined_passes (num text 0 4) xs aw lined ∙ h)

-- the end of the last command
none_kept : (x : Sent) (t : List ℕ) → stem x ≡ sent_by First t → (xs : List Sent) (aw : List (List ℕ)) → AreLined xs aw
    → AllByRecursion (λ u. keeps t u ≡ false) aw → AllByRecursion (λ y. keeps_back x y ≡ false) xs
none_kept x t is [] [] lined all = tt
none_kept x t is [] (u ∷ us) lined all = absurd lined
none_kept x t is (y ∷ ys) [] lined all = absurd lined
none_kept x t is (y ∷ ys) (u ∷ us) lined all = (
  ap (λ z. keeps_back z y) is ∙ ap (λ z. keeps_back (sent_by First t) z) lined.0 ∙ all.0,
  none_kept x t is ys us lined.1 all.1,
)

pub turn_new : (xs : List Sent) (aw : List (List ℕ)) (text t : List ℕ) (x : Sent) → stem x ≡ sent_by First t
    → filter (named (num text 0 4)) xs ≡ [] → AreLined xs aw
    → IsApartOr text (AllByRecursion (λ u. keeps t u ≡ false) aw) → IsTurn (xs ++ x ∷ []) text
turn_new xs aw text t x is none lined (inl a) = inl a
turn_new xs aw text t x is none lined (inr all) =
    inr (passes_new (named (num text 0 4)) keeps_back xs x none (none_kept x t is xs aw lined all))

-- so it keeps the rule
pub turn_passes : (xs : List Sent) (place : ℕ) (text : List ℕ) → (passes (named (num text 0 4)) keeps_back xs ≡ false
    → list_any (keeps_back (command_at xs place)) (take place xs) ≡ false) → IsTurn xs text
    → passes_none (take place xs) (command_at xs place) (answer_by First text) ≡ true
turn_passes xs place text found (inl a) =
    ap (λ b. b || not (list_any (keeps_back (command_at xs place)) (take place xs))) a
turn_passes xs place text found (inr h) = by (is_apart (num text 10 2 % 32)) (found h)
  where
    by : (b : Bool) → list_any (keeps_back (command_at xs place)) (take place xs) ≡ false
        → (b || not (list_any (keeps_back (command_at xs place)) (take place xs))) ≡ true
    by true e = refl
    by false e = ap not e
