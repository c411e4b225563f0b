-- What hosts will hear of each outstanding command, and what each moment keeps of that.
use Rattle.mscp_shown.proofs.Common.{AllByRecursion, Bool, Connection, End, List, Moment, Name, None, Option, Polls, Sent, Settings, Some, Trace, [], ap, append-nil, append_assoc, arith, every_weaker, false, figure, inl, inr, is_named, length, length_push, list_any-append, moment, moment_before, nat_eq, subst, sym, take, take-append-le, true, true≢false, ℕ, ⊎_elim, ◌++◌, ◌<◌, ◌||◌, ◌∙◌, ◌∷◌, ◌≡◌, ◌≤◌, ◌⊎◌}
use Rattle.mscp_wire.specs.Wire as wire
use Rattle.mscp_shown.proofs.Chaining.{Chain, chain_append, chain_same, chain_silent, heard, is_over, last_append, last_same, last_silent, last_told, silent_last, silent_of, tells}
use Rattle.mscp_shown.proofs.Polling.{figure_told, poll_of}
use Rattle.mscp_shown.proofs.Shown.{tally}

abbrev pub Chains : Connection → List Sent → List End → Type 0
Chains via [] us = Unit {0}
Chains via (s ∷ later) us =
    (wire.same_connection s.connection via ≡ true → Chain via later s.reference s.told us) × Chains via later us

-- the last figure that is told of a command of this name is so
abbrev pub Lasts : Name → (Option ℕ → Type 0) → List End → List Sent → Type 0
Lasts a P us [] = Unit {0}
Lasts a P us (s ∷ later) =
    (is_named a.connection a.reference s ≡ true → P (last_told a.connection later a.reference s.told us))
    × Lasts a P us later

-- a figure that was told of x was that of a poll since x came
abbrev pub IsLast : Settings → Trace → Name → ℕ → Option ℕ → Type 0
IsLast c t a x None = Unit {0}
IsLast c t a x (Some f) =
    (i : ℕ) × (x < i) × (i < length t) × Polls a.connection a.reference (moment t i) × (f ≡ figure c (take i t) x)

-- where a poll tells a figure that isn't 0 the command is outstanding, and none of the ends before is its own
abbrev pub IsStanding : Connection → List Sent → List End → End → Type 0
IsStanding via xs before e = (n : ℕ) → poll_of e ≡ Some n
    → (figure_told e ≡ 0) ⊎ ((is_over n before ≡ false) × (1 ≤ tally via (λ k. nat_eq k n) xs))

abbrev pub Stands : Connection → List Sent → List End → List End → Type 0
Stands via xs before [] = Unit {0}
Stands via xs before (e ∷ rest) = IsStanding via xs before e × Stands via xs (before ++ e ∷ []) rest

-- ---- one more moment
pub last_more : (c : Settings) (t : Trace) (m : Moment) (a : Name) (x : ℕ) (o : Option ℕ) → IsLast c t a x o
    → IsLast c (t ++ m ∷ []) a x o
last_more c t m a x None h = tt
last_more c t m a x (Some f) h =
    let i = h.0 in (
      i,
      h.1,
      omega (arith, h.2, length_push t m),
      subst (Polls a.connection a.reference) (sym (moment_before t m i h.2)) h.3,
      h.4 ∙ ap (λ p. figure c p x) (sym (take-append-le i t (m ∷ []) (omega (arith, h.2)))),
    )

-- ---- more ends
pub chains_append : (via : Connection) (xs : List Sent) (us vs : List End)
    → AllByRecursion (λ (e : End). poll_of e ≡ None) vs → Chains via xs us → Chains via xs (us ++ vs)
chains_append via [] us vs n h = tt
chains_append via (s ∷ later) us vs n h = (
  λ q. chain_append via s.reference later s.told us vs (h.0 q)
      (λ over. chain_silent via s.reference later (last_told via later s.reference s.told us) vs
      (every_weaker (λ (e : End). poll_of e ≡ None) (λ e. tells via later s.reference e ≡ false)
      (λ e k. silent_of via later s.reference e k) vs n)),
  chains_append via later us vs n h.1,
)

pub lasts_append : (a : Name) (P Q : Option ℕ → Type 0) → ((o : Option ℕ) → P o → Q o) → (xs : List Sent)
    (us vs : List End) → AllByRecursion (λ (e : End). poll_of e ≡ None) vs → Lasts a P us xs → Lasts a Q (us ++ vs) xs
lasts_append a P Q f [] us vs n h = tt
lasts_append a P Q f (s ∷ later) us vs n h = (
  λ q. subst Q
      (sym (last_append a.connection a.reference later s.told us vs
      ∙ last_silent a.connection a.reference later (last_told a.connection later a.reference s.told us) vs
      (every_weaker (λ (e : End). poll_of e ≡ None) (λ e. tells a.connection later a.reference e ≡ false)
      (λ e k. silent_of a.connection later a.reference e k) vs n)))
      (f (last_told a.connection later a.reference s.told us) (h.0 q)),
  lasts_append a P Q f later us vs n h.1,
)

pub stands_append : (via : Connection) (xs : List Sent) (before us vs : List End) → Stands via xs before us
    → Stands via xs (before ++ us) vs → Stands via xs before (us ++ vs)
stands_append via xs before [] vs h k = subst (λ b. Stands via xs b vs) (append-nil before) k
stands_append via xs before (e ∷ us) vs h k =
    (h.0, stands_append via xs (before ++ e ∷ []) us vs h.1 (rw append_assoc k))

pub stands_silent : (via : Connection) (xs : List Sent) (before us : List End)
    → AllByRecursion (λ (e : End). poll_of e ≡ None) us → Stands via xs before us
stands_silent via xs before [] n = tt
stands_silent via xs before (e ∷ us) n = grind (arith, stands_silent via xs (before ++ e ∷ []) us n.1)

-- no fewer commands are outstanding, of this name at least
pub stands_weaker : (via : Connection) (xs ys : List Sent) (before us : List End)
    → ((n : ℕ) → tally via (λ k. nat_eq k n) xs ≤ tally via (λ k. nat_eq k n) ys) → Stands via xs before us
    → Stands via ys before us
stands_weaker via xs ys before [] f h = tt
stands_weaker via xs ys before (e ∷ us) f h = (
  λ n p. ⊎_elim (λ z. inl z) (λ q. inr (q.0, omega (arith, q.1, f n))) (h.0 n p),
  stands_weaker via xs ys (before ++ e ∷ []) us f h.1,
)

-- ---- a new command
heard_push : (via : Connection) (later : List Sent) (z : Sent) (us : List End)
    → AllByRecursion (λ (e : End). is_named via e.reference z ≡ false) us
    → AllByRecursion (λ e. heard via later e ≡ heard via (later ++ z ∷ []) e) us
heard_push via later z us n = every_weaker (λ (e : End). is_named via e.reference z ≡ false)
    (λ e. heard via later e ≡ heard via (later ++ z ∷ []) e)
    (λ e k. sym (list_any-append (is_named via e.reference) later (z ∷ [])
    ∙ ap (λ b. heard via later e || (b || false)) k ∙ or_false (heard via later e))) us n
  where
    or_false : (b : Bool) → (b || (false || false)) ≡ b
    or_false b = grind arith

-- what a new end has to tell of a command that others follow
abbrev pub MayTell : Connection → List Sent → Sent → List End → List End → Sent → List Sent → Type 0
MayTell via whole z us vs s later = wire.same_connection s.connection via ≡ true → is_over s.reference us ≡ false
    → Chain via (later ++ z ∷ []) s.reference (last_told via later s.reference s.told us) vs

pub chains_push : (via : Connection) (whole before xs : List Sent) (z : Sent) (us vs : List End)
    → whole ≡ before ++ xs → z.told ≡ None → AllByRecursion (λ (e : End). is_named via e.reference z ≡ false) us
    → ((front back : List Sent) (s : Sent) → whole ≡ front ++ s ∷ back → MayTell via whole z us vs s back)
    → Chains via xs us → Chains via (xs ++ z ∷ []) (us ++ vs)
chains_push via whole before [] z us vs e untold n f h = (
  λ q. chain_silent via z.reference [] z.told (us ++ vs) (silents (us ++ vs)),
  tt,
)
  where
    silents : (es : List End) → AllByRecursion (λ e. tells via [] z.reference e ≡ false) es
    silents [] = tt
    silents (e ∷ es) = (silent_last via z.reference e, silents es)
chains_push via whole before (s ∷ later) z us vs e untold n f h = (
  λ q.
      let same = heard_push via later z us n in
      chain_append via s.reference (later ++ z ∷ []) s.told us vs
      (chain_same via s.reference later (later ++ z ∷ []) s.told us same (h.0 q))
      (λ over. subst (λ l. Chain via (later ++ z ∷ []) s.reference l vs)
      (sym (last_same via s.reference later (later ++ z ∷ []) s.told us same)) (f before later s e q over)),
  chains_push via whole (before ++ s ∷ []) later z us vs (e ∙ sym (append_assoc before (s ∷ []) later)) untold n f h.1,
)

pub lasts_push : (a : Name) (P Q : Option ℕ → Type 0) (xs : List Sent) (z : Sent) (us vs : List End)
    → AllByRecursion (λ (e : End). is_named a.connection e.reference z ≡ false) us
    → is_named a.connection a.reference z ≡ false
    → ((later : List Sent) (o : Option ℕ) → P o → Q (last_told a.connection later a.reference o vs))
    → Lasts a P us xs → Lasts a Q (us ++ vs) (xs ++ z ∷ [])
lasts_push a P Q [] z us vs n new f h = ((λ q. absurd (true≢false (sym q ∙ new))), tt)
lasts_push a P Q (s ∷ later) z us vs n new f h = (
  λ q.
      let same = heard_push a.connection later z us n in
      subst Q
      (sym (last_append a.connection a.reference (later ++ z ∷ []) s.told us vs
      ∙ ap (λ o. last_told a.connection (later ++ z ∷ []) a.reference o vs)
      (last_same a.connection a.reference later (later ++ z ∷ []) s.told us same)))
      (f (later ++ z ∷ []) (last_told a.connection later a.reference s.told us) (h.0 q)),
  lasts_push a P Q later z us vs n new f h.1,
)

-- of a command that came last nothing was told
pub lasts_last : (a : Name) (P : Option ℕ → Type 0) (xs : List Sent) (z : Sent) (us : List End) → z.told ≡ None
    → AllByRecursion (λ s. is_named a.connection a.reference s ≡ false) xs → P None → Lasts a P us (xs ++ z ∷ [])
lasts_last a P [] z us untold n p =
    ((λ q. subst P (sym (last_silent a.connection a.reference [] z.told us (silents us) ∙ untold)) p), tt)
  where
    silents : (es : List End) → AllByRecursion (λ e. tells a.connection [] a.reference e ≡ false) es
    silents [] = tt
    silents (e ∷ es) = (silent_last a.connection a.reference e, silents es)
lasts_last a P (s ∷ later) z us untold n p = grind (arith, lasts_last a P later z us untold n.1 p)

-- what is told of a command among others
pub lasts_at : (a : Name) (P : Option ℕ → Type 0) (us : List End) (front back : List Sent) (s : Sent)
    → Lasts a P us (front ++ s ∷ back) → is_named a.connection a.reference s ≡ true
    → P (last_told a.connection back a.reference s.told us)
lasts_at a P us [] back s h q = h.0 q
lasts_at a P us (z ∷ front) back s h q = lasts_at a P us front back s h.1 q

pub chains_at : (via : Connection) (us : List End) (front back : List Sent) (s : Sent)
    → Chains via (front ++ s ∷ back) us → wire.same_connection s.connection via ≡ true
    → Chain via back s.reference s.told us
chains_at via us [] back s h q = h.0 q
chains_at via us (z ∷ front) back s h q = chains_at via us front back s h.1 q
