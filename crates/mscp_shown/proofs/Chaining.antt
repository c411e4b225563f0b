-- What the ends that weren't taken will tell of a command: each figure is lower than the one before.
use Rattle.mscp_shown.proofs.Common.{AllByRecursion, Bool, Connection, End, List, None, Option, Sent, Some, [], ap, arith, false, if◌then◌else◌, is_below, is_it, is_named, list_any, nat_eq, refl, true, ℕ, ◌&&◌, ◌++◌, ◌<◌, ◌∷◌, ◌≡◌}
use Rattle.mscp_shown.proofs.Polling.{figure_told, poll_of}

-- an end's command is among these
abbrev pub heard : Connection → List Sent → End → Bool
heard via later e = list_any (is_named via e.reference) later

-- it tells the figure of the command of this number, which stands before these
abbrev pub tells : Connection → List Sent → ℕ → End → Bool
tells via later n e = is_it (poll_of e) n && heard via later e

abbrev pub Goes : Bool → Bool → Type 0 → Type 0 → Type 0
Goes true told A B = Unit {0}
Goes false true A B = A
Goes false false A B = B

-- until the command's own end each figure that is told of it is at least 1, and lower than the last
abbrev pub Chain : Connection → List Sent → ℕ → Option ℕ → List End → Type 0
Chain via later n last [] = Unit {0}
Chain via later n last (e ∷ rest) = Goes (nat_eq e.reference n) (tells via later n e)
    ((0 < figure_told e) × (is_below last (figure_told e) ≡ true) × Chain via later n (Some (figure_told e)) rest)
    (Chain via later n last rest)

-- the last figure that is told of it
abbrev pub last_told : Connection → List Sent → ℕ → Option ℕ → List End → Option ℕ
last_told via later n last [] = last
last_told via later n last (e ∷ rest) =
    last_told via later n (if tells via later n e then Some (figure_told e) else last) rest

-- its own end is among these
abbrev pub is_over : ℕ → List End → Bool
is_over n us = list_any (λ (e : End). nat_eq e.reference n) us

-- ---- one step
goes_map : (o a b : Bool) (A B C D : Type 0) → a ≡ b → (A → C) → (B → D) → Goes o a A B → Goes o b C D
goes_map o a b A B C D e f g h = grind arith

pub goes_told : (o a : Bool) (A B : Type 0) → o ≡ false → a ≡ true → Goes o a A B → A
goes_told o a A B e f h = grind arith

pub goes_by : (o a : Bool) (A B : Type 0) → o ≡ false → a ≡ false → Goes o a A B → B
goes_by o a A B e f h = grind arith

module _ (via : Connection) (n : ℕ) where
  -- the same commands hear
  pub chain_same : (later other : List Sent) (last : Option ℕ) (us : List End)
      → AllByRecursion (λ e. heard via later e ≡ heard via other e) us → Chain via later n last us
      → Chain via other n last us
  chain_same later other last [] s h = tt
  chain_same later other last (e ∷ us) s h = goes_map (nat_eq e.reference n) (tells via later n e) (tells via other n e)
      _ _ _ _ (ap (λ b. is_it (poll_of e) n && b) s.0)
      (λ k. (k.0, k.1, chain_same later other (Some (figure_told e)) us s.1 k.2))
      (λ k. chain_same later other last us s.1 k) h

  pub last_same : (later other : List Sent) (last : Option ℕ) (us : List End)
      → AllByRecursion (λ e. heard via later e ≡ heard via other e) us
      → last_told via other n last us ≡ last_told via later n last us
  last_same later other last [] s = refl
  last_same later other last (e ∷ us) s =
      grind (arith, last_same later other (if tells via later n e then Some (figure_told e) else last) us s.1)

  -- more ends
  pub chain_append : (later : List Sent) (last : Option ℕ) (us vs : List End) → Chain via later n last us
      → (is_over n us ≡ false → Chain via later n (last_told via later n last us) vs)
      → Chain via later n last (us ++ vs)
  chain_append later last [] vs h k = k refl
  chain_append later last (e ∷ us) vs h k =
      by_own (λ l c k. chain_append later l us vs c k) (nat_eq e.reference n) refl (tells via later n e) refl
    where
      by_own : ((l : Option ℕ) → Chain via later n l us
          → (is_over n us ≡ false → Chain via later n (last_told via later n l us) vs) → Chain via later n l (us ++ vs))
          → (o : Bool) → nat_eq e.reference n ≡ o → (a : Bool) → tells via later n e ≡ a
          → Chain via later n last (e ∷ us ++ vs)
      by_own on o p a q = grind arith

  pub last_append : (later : List Sent) (last : Option ℕ) (us vs : List End)
      → last_told via later n last (us ++ vs) ≡ last_told via later n (last_told via later n last us) vs
  last_append later last [] vs = refl
  last_append later last (e ∷ us) vs =
      last_append later (if tells via later n e then Some (figure_told e) else last) us vs

  -- ends that tell nothing
  pub chain_silent : (later : List Sent) (last : Option ℕ) (us : List End)
      → AllByRecursion (λ e. tells via later n e ≡ false) us → Chain via later n last us
  chain_silent later last [] s = tt
  chain_silent later last (e ∷ us) s = grind (arith, chain_silent later last us s.1)

  pub last_silent : (later : List Sent) (last : Option ℕ) (us : List End)
      → AllByRecursion (λ e. tells via later n e ≡ false) us → last_told via later n last us ≡ last
  last_silent later last [] s = refl
  last_silent later last (e ∷ us) s = grind (arith, last_silent later last us s.1)

-- an end that is of no poll tells nothing
pub silent_of : (via : Connection) (later : List Sent) (n : ℕ) (e : End) → poll_of e ≡ None
    → tells via later n e ≡ false
silent_of via later n e h = ap (λ o. is_it o n && heard via later e) h

-- and nothing is told of a command that none follows
pub silent_last : (via : Connection) (n : ℕ) (e : End) → tells via [] n e ≡ false
silent_last via n e = grind arith
