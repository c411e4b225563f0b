-- Which command it is that is outstanding under a name: the one that waits or ended under it.
use Rattle.mscp_shown.proofs.Common.{AllByRecursion, Answer, Bool, Connection, End, IsTaken, List, None, Option, Sent, Settings, Some, Trace, [], answer_by, ap, arith, balance, command_at, cond, connection, count_by, drop, end_bytes, every_append, every_weaker, false, filter, is_named, map, moment, nat_eq, num, outstanding, polled_by, reference, refl, same_connection, sent_by, sent_bytes, suc, sum_by-cons, sym, take, true, true≢false, untaken, waiting, waiting_by, ℕ, ◌++◌, ◌+◌, ◌∙◌, ◌∷◌, ◌≡◌}
use Rattle.mscp_wire.specs.Wire as wire
use Rattle.mscp_shown.proofs.Strict.{after_end, hears}
use Rattle.mscp_shown.proofs.Suited.{Keeps}
use Rattle.mscp_shown.proofs.Polling.{poll_of}
use Rattle.mscp_shown.proofs.Messages.{IsTallied, new_number, owed_is}
use Rattle.mscp_shown.proofs.Counts.{none_passes}
use Rattle.mscp_shown.proofs.Owed.{one_if}

-- a command of which no figure was told
abbrev pub untold : Sent → Sent
untold s = record s { told = None }

-- the command that the message at a position sends
abbrev pub message : Trace → ℕ → Sent
message t x = sent_by (connection t x) (sent_bytes (moment t x).0)

-- what is outstanding under this name is so
abbrev pub IsOnly : Connection → ℕ → List Sent → (Sent → Type 0) → Type 0
IsOnly via n xs P = AllByRecursion (λ s. is_named via n s ≡ true → P (untold s)) xs

-- the end keeps the rules that look at it and its command alone
pub record Fits (via : Connection) (e : End) (s : Sent) : Type 0 where
  pub keeps : Keeps s (answer_by via (end_bytes e))
  pub poll : polled_by s (answer_by via (end_bytes e)) ≡ poll_of e

-- under the name of a waiting command there is that command alone
abbrev pub IsOwn : Trace → List Sent → ℕ → Type 0
IsOwn t xs x = IsOnly (connection t x) (reference t x) xs (λ s. s ≡ message t x)

-- under the name of an untaken end there is a command that it fits
abbrev pub IsOwed : Connection → List Sent → End → Type 0
IsOwed via xs e = IsOnly via e.reference xs (Fits via e)

-- ---- lists
pub only_push : (via : Connection) (n : ℕ) (xs : List Sent) (z : Sent) (P : Sent → Type 0) → IsOnly via n xs P
    → (is_named via n z ≡ true → P (untold z)) → IsOnly via n (xs ++ z ∷ []) P
only_push via n xs z P h k =
    every_append (λ s. is_named via n s ≡ true → P (untold s)) xs (z ∷ []) h (k, tt)

-- a command that hears a figure is the same
told_apart : (via : Connection) (n : ℕ) (P : Sent → Type 0) (a : Answer) (o : Option ℕ) (s : Sent)
    → (is_named via n s ≡ true → P (untold s)) → is_named via n (hears a o s) ≡ true → P (untold (hears a o s))
told_apart via n P a o s h = grind arith

every_map : {X : Type 0} (P : X → Type 0) (f : X → X) → ((x : X) → P x → P (f x)) → (xs : List X) → AllByRecursion P xs
    → AllByRecursion P (map f xs)
every_map P f g [] h = tt
every_map P f g (x ∷ xs) h = (g x h.0, every_map P f g xs h.1)

pub every_take : {X : Type 0} (P : X → Type 0) (n : ℕ) (xs : List X) → AllByRecursion P xs
    → AllByRecursion P (take n xs)
every_take P (suc n) (x ∷ xs) h = (h.0, every_take P n xs h.1)
every_take P n xs h = grind arith

pub every_drop : {X : Type 0} (P : X → Type 0) (n : ℕ) (xs : List X) → AllByRecursion P xs
    → AllByRecursion P (drop n xs)
every_drop P (suc n) (x ∷ xs) h = every_drop P n xs h.1
every_drop P n xs h = grind arith

pub only_after : (via : Connection) (n : ℕ) (xs : List Sent) (P : Sent → Type 0) (a : Answer) (i : ℕ)
    → IsOnly via n xs P → IsOnly via n (after_end xs a (Some i)) P
only_after via n xs P a i h =
    let Q : Sent → Type 0 = λ s. is_named via n s ≡ true → P (untold s) in
    let o = polled_by (command_at xs i) a in
    every_append Q (map (hears a o) (take i xs)) (drop (i + 1) xs)
    (every_map Q (hears a o) (told_apart via n P a o) (take i xs) (every_take Q i xs h))
    (every_drop Q (i + 1) xs h)

-- ---- a new number
pub none_each : {X : Type 0} (p : X → Bool) (xs : List X) → count_by p xs ≡ 0 → AllByRecursion (λ x. p x ≡ false) xs
none_each p [] h = tt
none_each p (x ∷ xs) h =
    let c = sum_by-cons (λ x. cond (p x) 1 0) x xs in
    let P : Bool → Type 0 = λ b. p x ≡ b → p x ≡ false in (
      elim (p x) as P [
        | true ↦ λ e. absurd (omega (arith, h, c, ap (λ b. one_if b) e))
        | false ↦ λ e. e
      ] refl,
      none_each p xs (omega (arith, h, c)),
    )

-- a command with a new number: none that waits, ended or is outstanding has its name
pub record IsNew (c : Settings) (own : Connection) (t : Trace) (xs : List Sent) (z : Sent) : Type 0 where
  pub waits : AllByRecursion (λ x. is_named (connection t x) (reference t x) z ≡ false) (waiting t)
  pub ended : AllByRecursion (λ (e : End). is_named own e.reference z ≡ false) (untaken c own t)
  pub outstanding : AllByRecursion (λ s. is_named own z.reference s ≡ false) xs

pub same_sides : (a b : Connection) → wire.same_connection a b ≡ same_connection a b
same_sides a b = grind arith

-- what holds of those that pass a test
pub each_passing : {X : Type 0} (p : X → Bool) (P : X → Type 0) (xs : List X) → AllByRecursion P (filter p xs)
    → AllByRecursion (λ x. p x ≡ true → P x) xs
each_passing p P [] h = tt
each_passing {X} p P (x ∷ xs) h =
    let Q : Bool → Type 0 = λ b. p x ≡ b → AllByRecursion P (cond b (x ∷ filter p xs) (filter p xs))
    → AllByRecursion (λ x. p x ≡ true → P x) (x ∷ xs) in
    elim (p x) as Q [
      | true ↦ λ e k. ((λ q. k.0), each_passing p P xs k.1)
      | false ↦ λ e k. ((λ q. absurd (true≢false (sym q ∙ e))), each_passing p P xs k)
    ] refl h

unnamed : (own : Connection) (b : List ℕ) (via : Connection) (n : ℕ)
    → (same_connection via own ≡ true → nat_eq n (num b 0 4) ≡ false) → is_named via n (sent_by own b) ≡ false
unnamed own b via n h = grind arith

pub new_one : (c : Settings) (own : Connection) (t : Trace) (xs : List Sent) (b : List ℕ) → IsTallied c own t xs
    → IsTaken (balance c own t) (outstanding c own t) b → IsNew c own t xs (sent_by own b)
new_one c own t xs b same taken =
    let r = num b 0 4 in
    let p : ℕ → Bool = λ n. nat_eq n r in
    let none = sym (owed_is c own t p) ∙ none_passes p (outstanding c own t) taken.new in
    let waits = none_each (λ x. p (reference t x)) (waiting_by own t) (omega (arith, none)) in
    let ended = none_each (λ (e : End). p e.reference) (untaken c own t) (omega (arith, none)) in
    record {
      waits = every_weaker
          (λ x. same_connection (connection t x) own ≡ true → p (reference t x) ≡ false)
          (λ x. is_named (connection t x) (reference t x) (sent_by own b) ≡ false)
          (λ x h. unnamed own b (connection t x) (reference t x) h)
          (waiting t)
          (each_passing (λ x. same_connection (connection t x) own) (λ x. p (reference t x) ≡ false) (waiting t) waits);
      ended = every_weaker
          (λ (e : End). p e.reference ≡ false)
          (λ (e : End). is_named own e.reference (sent_by own b) ≡ false)
          (λ e h. unnamed own b own e.reference (λ s. h))
          (untaken c own t)
          ended;
      outstanding = none_each (is_named own r) xs (new_number c own t xs r same taken.new);
    }
