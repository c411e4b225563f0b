-- An aborted command's end stands before that of its ABORT, which is outstanding until then.
use Rattle.mscp_shown.proofs.Common.{AllByRecursion, Answer, Block, Bool, Command, Connection, End, List, Name, None, Option, Order, Pairs, Sent, Settings, Some, Trace, [], aborted_end, aborted_unless, ap, arith, command, drop, every_filter, every_from, every_weaker, false, fault_of, filter, get_or, good, inl, inr, is_named, length, list_any, map, name, name_on, outcome_status, own_end, own_end_with, pairs_append, reference, refl, same_is, same_name, suc, sym, true, true≢false, waiting, ℕ, ⊎_elim, ◌%◌, ◌++◌, ◌<◌, ◌∙◌, ◌∷◌, ◌≡◌, ◌≢◌, ◌⊎◌}
use Rattle.mscp_packet.specs.declared.command.Order.TheVariants as orders
use Rattle.mscp_shown.proofs.Strict.{after_end}
use Rattle.mscp_shown.proofs.Ordering.{pairs_after}
use Rattle.mscp_shown.proofs.Owners.{IsOnly, only_after, only_push}
use Rattle.mscp_shown.proofs.Saying.{Says}
use Rattle.mscp_shown.proofs.Suiting.{IsFault}

-- one of the elements is so
abbrev pub AnyBy : {X : Type 0} → (X → Type 0) → List X → Type 0
AnyBy P [] = ⊥
AnyBy P (x ∷ xs) = P x ⊎ AnyBy P xs

-- a command is an ABORT of the command of this reference number
abbrev pub IsAbort : ℕ → Sent → Type 0
IsAbort n s = (s.opcode ≡ 1) × (s.parameter ≡ Some n)

-- behind the command of an end there is none of this reference number
abbrev pub IsBehind : Connection → ℕ → End → Sent → Sent → Type 0
IsBehind via n e earlier s = is_named via e.reference earlier ≡ true → is_named via n s ≡ false

-- an end is that of such a command, which came after the one that it names
abbrev pub EndsAbort : Connection → List Sent → ℕ → End → Type 0
EndsAbort via xs n e = IsOnly via e.reference xs (IsAbort n) × Pairs (IsBehind via n e) xs

-- behind each end of an aborted command stands that of its ABORT
abbrev pub Aborts : Connection → List Sent → List End → Type 0
Aborts via xs [] = Unit {0}
Aborts via xs (e ∷ rest) = (e.status % 32 ≡ 2 → AnyBy (EndsAbort via xs e.reference) rest) × Aborts via xs rest

-- ---- lists
any_front : {X : Type 0} (P : X → Type 0) (xs ys : List X) → AnyBy P xs → AnyBy P (xs ++ ys)
any_front P [] ys h = absurd h
any_front P (x ∷ xs) ys h = ⊎_elim (λ k. inl k) (λ k. inr (any_front P xs ys k)) h

any_last : {X : Type 0} (P : X → Type 0) (xs : List X) (y : X) → P y → AnyBy P (xs ++ y ∷ [])
any_last P [] y h = inl h
any_last P (x ∷ xs) y h = inr (any_last P xs y h)

any_weaker : {X : Type 0} (P Q : X → Type 0) (xs : List X) → AllByRecursion (λ x. P x → Q x) xs → AnyBy P xs
    → AnyBy Q xs
any_weaker P Q [] f h = absurd h
any_weaker P Q (x ∷ xs) f h = ⊎_elim (λ k. inl (f.0 k)) (λ k. inr (any_weaker P Q xs f.1 k)) h

pub any_out : {X : Type 0} (P Q : X → Type 0) (xs : List X) → AllByRecursion Q xs → AnyBy P xs → (x : X) × Q x × P x
any_out P Q [] f h = absurd h
any_out P Q (x ∷ xs) f h = ⊎_elim (λ k. (x, f.0, k)) (λ k. any_out P Q xs f.1 k) h

pub any_at : {X : Type 0} (p : X → Bool) (xs : List X) (i : ℕ) (d : X) → i < length xs → p (get_or xs i d) ≡ true
    → list_any p xs ≡ true
any_at p (x ∷ xs) (suc i) d l h = grind (arith, any_at p xs i d (omega (arith, l)) h)
any_at p xs i d l h = grind arith

-- one that stands behind a place
pub any_behind : {X : Type 0} (p : X → Bool) (xs : List X) (i j : ℕ) (d : X) → i < j → j < length xs
    → p (get_or xs j d) ≡ true → list_any p (drop (suc i) xs) ≡ true
any_behind p (x ∷ xs) (suc i) (suc j) d l m h = any_behind p xs i j d (omega (arith, l)) (omega (arith, m)) h
any_behind p xs i j d l m h = grind (arith, any_at)

-- ---- from one list of ends, or of commands, to the next
pub aborts_append : (via : Connection) (xs : List Sent) (us vs : List End) → Aborts via xs us → Aborts via xs vs
    → Aborts via xs (us ++ vs)
aborts_append via xs [] vs h k = k
aborts_append via xs (e ∷ us) vs h k = grind (arith, aborts_append via xs us vs h.1 k, any_front)

-- none of these ends is lost
aborts_weaker : (via : Connection) (xs ys : List Sent) (P : End → Type 0) (us : List End)
    → ((e k : End) → P e → P k → EndsAbort via xs e.reference k → EndsAbort via ys e.reference k)
    → AllByRecursion P us → Aborts via xs us → Aborts via ys us
aborts_weaker via xs ys P [] g f h = tt
aborts_weaker via xs ys P (e ∷ us) g f h = (
  λ z. any_weaker (EndsAbort via xs e.reference) (EndsAbort via ys e.reference) us
      (every_weaker P (λ k. EndsAbort via xs e.reference k → EndsAbort via ys e.reference k)
      (λ k p. g e k f.0 p) us f.1) (h.0 z),
  aborts_weaker via xs ys P us g f.1 h.1,
)

pub aborts_push : (via : Connection) (xs : List Sent) (z : Sent) (us : List End)
    → AllByRecursion (λ (e : End). is_named via e.reference z ≡ false) us → Aborts via xs us
    → Aborts via (xs ++ z ∷ []) us
aborts_push via xs z us f h =
    aborts_weaker via xs (xs ++ z ∷ []) (λ (e : End). is_named via e.reference z ≡ false) us
    (λ e k p q g. (
      only_push via k.reference xs z (IsAbort e.reference) g.0 (λ w. absurd (true≢false (sym w ∙ q))),
      pairs_append (IsBehind via e.reference k) xs z g.1
          (every_from (λ s. IsBehind via e.reference k s z) (λ s w. p) xs),
    )) f h

pub aborts_after : (via : Connection) (xs : List Sent) (a : Answer) (i : ℕ) (us : List End) → Aborts via xs us
    → Aborts via (after_end xs a (Some i)) us
aborts_after via xs a i us h =
    aborts_weaker via xs (after_end xs a (Some i)) (λ e. Unit {0}) us
    (λ e k p q g. (
      only_after via k.reference xs (IsAbort e.reference) a i g.0,
      pairs_after (IsBehind via e.reference k) (λ s z f r. r) (λ s z f r. r) xs a i g.1,
    )) (every_from (λ e. Unit {0}) (λ e. tt) us) h

pub aborts_rest : (via : Connection) (xs : List Sent) (us : List End) → Aborts via xs us → Aborts via xs (drop 1 us)
aborts_rest via xs us h = grind arith

-- ---- the end of an ABORT
-- the commands that an ABORT names
pub named_each : (own : Connection) (t : Trace) (s : Sent) (o : Order) (f : Option ℕ) → Says o s
    → AllByRecursion (λ x. IsAbort (reference t x) s) (aborted_unless own t o f)
named_each own t s (orders.Abort other) None says =
    every_weaker (λ x. Unit {0} × (same_name (name t x) (name_on own other) ≡ true)) (λ x. IsAbort (reference t x) s)
    (λ x k.
    let same : reference t x ≡ other = ap (λ (n : Name). n.reference) (same_is (name t x) (name_on own other) k.1) in
    (says.0, says.1 ∙ ap Some (sym same)))
    (filter (λ x. same_name (name t x) (name_on own other)) (waiting t))
    (every_filter (λ x. Unit {0}) (λ x. same_name (name t x) (name_on own other)) (waiting t)
    (every_from (λ x. Unit {0}) (λ x. tt) (waiting t)))
named_each own t s o f says = grind arith

pub aborts_answer : (own : Connection) (t : Trace) (xs : List Sent) (e : End) (ys : List ℕ)
    → AllByRecursion (λ x. EndsAbort own xs (reference t x) e) ys → e.status % 32 ≢ 2
    → Aborts own xs (map (λ x. aborted_end (command t x) (good t x)) ys ++ e ∷ [])
aborts_answer own t xs e [] h n = ((λ z. absurd (n z)), tt)
aborts_answer own t xs e (x ∷ ys) h n = (
  λ z. any_last (EndsAbort own xs (reference t x)) (map (λ x. aborted_end (command t x) (good t x)) ys) e h.0,
  aborts_answer own t xs e ys h.1 n,
)

-- ---- statuses
own_apart_with : (c : Settings) (online : Bool) (figure : ℕ) (k : Command) (s : Sent) (f : Option ℕ)
    → fault_of c k ≡ f → Says k.order s → (own_end_with c online figure k f).status % 32 ≢ 2
own_apart_with c online figure k s f e says h = grind arith

-- an answered command isn't aborted
pub own_apart : (c : Settings) (online : Bool) (figure : ℕ) (k : Command) (s : Sent) → Says k.order s
    → (own_end c online figure k).status % 32 ≢ 2
own_apart c online figure k s says = own_apart_with c online figure k s (fault_of c k) refl says

-- and nor is one that a step ends
pub outcome_apart : (online : Bool) (o : Order) (k : Block) → IsFault k → outcome_status online o k % 32 ≢ 2
outcome_apart online o k fault h = grind arith
