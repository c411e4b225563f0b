-- What hosts hear of the other commands when they take an end.
use Rattle.mscp_shown.proofs.Common.{AllByRecursion, Answer, Bool, Connection, End, List, Option, Sent, Some, [], and_parts, ap, arith, drop, eqb-true, every_weaker, false, get_or, if◌then◌else◌, is_named, length, list_any, map, nat_eq, subst, suc, sym, take, true, zero, ℕ, ◌++◌, ◌+◌, ◌<◌, ◌||◌, ◌∙◌, ◌∷◌, ◌≡◌}
use Rattle.mscp_wire.specs.Wire as wire
use Rattle.mscp_shown.proofs.Strict.{hears}
use Rattle.mscp_shown.proofs.Chaining.{Chain, chain_same, goes_by, heard, last_same, last_told, tells}
use Rattle.mscp_shown.proofs.Hearing.{Chains, Lasts, Stands}
use Rattle.mscp_shown.proofs.Owed.{one_if}
use Rattle.mscp_shown.proofs.Pairing.{none_of}
use Rattle.mscp_shown.proofs.Polling.{figure_told, poll_of}
use Rattle.mscp_shown.proofs.Shown.{tally}

-- ---- a command that hears
module _ (a : Answer) (o : Option ℕ) where
  pub hears_connection : (s : Sent) → (hears a o s).connection ≡ s.connection
  hears_connection s = search arith

  pub hears_reference : (s : Sent) → (hears a o s).reference ≡ s.reference
  hears_reference s = search arith

  pub hears_named : (via : Connection) (n : ℕ) (s : Sent) → is_named via n (hears a o s) ≡ is_named via n s
  hears_named via n s = grind arith

-- of another connection it hears nothing
hears_none : (a : Answer) (o : Option ℕ) (via : Connection) (s : Sent) → wire.same_connection s.connection via ≡ true
    → wire.same_connection a.connection via ≡ false → hears a o s ≡ s
hears_none a o via s q n = grind arith

-- what it is told then
told_is : (a : Answer) (own : Connection) (later : List Sent) (e : End) (s : Sent) → a.connection ≡ own
    → ((n : ℕ) → poll_of e ≡ Some n → a.figure ≡ Some (figure_told e))
    → wire.same_connection s.connection own ≡ true → heard own later e ≡ true
    → (hears a (poll_of e) s).told
    ≡ (if tells own later s.reference e then Some (figure_told e) else s.told)
told_is a own later e s side figure q h = grind arith

-- ---- the first end goes
-- the chain of a command whose own end it isn't
chain_next : (via : Connection) (later : List Sent) (n : ℕ) (last : Option ℕ) (e : End) (rest : List End)
    → nat_eq e.reference n ≡ false → Chain via later n last (e ∷ rest)
    → Chain via later n (if tells via later n e then Some (figure_told e) else last) rest
chain_next via later n last e rest other h = grind arith

any_gone : (p : Sent → Bool) (f : Sent → Sent) → ((s : Sent) → p (f s) ≡ p s) → (i : ℕ) (xs : List Sent) (d : Sent)
    → i < length xs → p (get_or xs i d) ≡ false → list_any p xs ≡ list_any p (map f (take i xs) ++ drop (suc i) xs)
any_gone p f same (suc i) (x ∷ xs) d l n = grind (arith, any_gone p f same i xs d (omega (arith, l)) n)
any_gone p f same i xs d l n = grind arith

any_index : (p : Sent → Bool) (i : ℕ) (xs : List Sent) (d : Sent) → i < length xs → p (get_or xs i d) ≡ true
    → list_any p xs ≡ true
any_index p i [] d l h = absurd (omega (arith, l))
any_index p zero (x ∷ xs) d l h = ap (λ b. b || list_any p xs) h
any_index p (suc i) (x ∷ xs) d l h = grind (arith, any_index p i xs d (omega (arith, l)) h)

-- a command of this connection that isn't named so has another number
pub other_number : (own : Connection) (n : ℕ) (s : Sent) → wire.same_connection s.connection own ≡ true
    → is_named own n s ≡ false → nat_eq n s.reference ≡ false
other_number own n s q h = grind arith

module _ (a : Answer) (own : Connection) (e : End) (rest : List End) (d : Sent) (side : a.connection ≡ own)
    (figure : (n : ℕ) → poll_of e ≡ Some n → a.figure ≡ Some (figure_told e)) where
  abbrev hear : Sent → Sent
  hear = hears a (poll_of e)

  abbrev Other : Sent → Type 0
  Other s = is_named own e.reference s ≡ false

  -- behind the command that is answered nobody hears its end
  nobody_hears : (later : List Sent) (n : ℕ) → AllByRecursion Other later → tells own later n e ≡ false
  nobody_hears later n h = grind (arith, none_of)

  chains_rest : (xs : List Sent) → AllByRecursion Other xs → Chains own xs (e ∷ rest) → Chains own xs rest
  chains_rest [] n h = tt
  chains_rest (s ∷ later) n h = grind (arith, chains_rest later n.1 h.1, goes_by, other_number, nobody_hears)

  lasts_rest : (number : ℕ) (P : Option ℕ → Type 0) (xs : List Sent) → AllByRecursion Other xs
      → Lasts (record { connection = own; reference = number }) P (e ∷ rest) xs
      → Lasts (record { connection = own; reference = number }) P rest xs
  lasts_rest number P [] n h = tt
  lasts_rest number P (s ∷ later) n h = grind (arith, lasts_rest number P later n.1 h.1, nobody_hears)

  -- the same ends are heard by those that are left
  heard_left : (i : ℕ) (xs : List Sent) → i < length xs → is_named own e.reference (get_or xs i d) ≡ true
      → AllByRecursion (λ (k : End). nat_eq k.reference e.reference ≡ false) rest
      → AllByRecursion (λ k. heard own xs k ≡ heard own (map hear (take i xs) ++ drop (suc i) xs) k) rest
  heard_left i xs l named n = every_weaker (λ (k : End). nat_eq k.reference e.reference ≡ false)
      (λ k. heard own xs k ≡ heard own (map hear (take i xs) ++ drop (suc i) xs) k)
      (λ k q. any_gone (is_named own k.reference) hear (λ s. hears_named a (poll_of e) own k.reference s) i xs d l
      (unnamed k q)) rest n
    where
      unnamed : (k : End) → nat_eq k.reference e.reference ≡ false
          → is_named own k.reference (get_or xs i d) ≡ false
      unnamed k q = grind arith

  pub chains_gone : (i : ℕ) (xs : List Sent) → i < length xs → is_named own e.reference (get_or xs i d) ≡ true
      → AllByRecursion Other (take i xs) → AllByRecursion Other (drop (suc i) xs)
      → AllByRecursion (λ (k : End). nat_eq k.reference e.reference ≡ false) rest → Chains own xs (e ∷ rest)
      → Chains own (map hear (take i xs) ++ drop (suc i) xs) rest
  chains_gone (suc i) (s ∷ xs) l named f b n h = (
    λ q.
        let here : wire.same_connection s.connection own ≡ true =
        sym (ap (λ v. wire.same_connection v own) (hears_connection a (poll_of e) s)) ∙ q in
        let is_heard = any_index (is_named own e.reference) i xs d (omega (arith, l)) named in
        let next = chain_next own xs s.reference s.told e rest (other_number own e.reference s here f.0) (h.0 here) in
        let told = subst (λ o. Chain own xs s.reference o rest)
        (sym (told_is a own xs e s side figure here is_heard)) next in
        let number = subst (λ r. Chain own xs r (hear s).told rest) (sym (hears_reference a (poll_of e) s)) told in
        chain_same own (hear s).reference xs (map hear (take i xs) ++ drop (suc i) xs) (hear s).told rest
        (heard_left i xs (omega (arith, l)) named n) number,
    chains_gone i xs (omega (arith, l)) named f.1 b n h.1,
  )
  chains_gone i xs l named f b n h = grind (arith, chains_rest)

  pub lasts_gone : (number : ℕ) (P : Option ℕ → Type 0) (i : ℕ) (xs : List Sent) → i < length xs
      → is_named own e.reference (get_or xs i d) ≡ true → AllByRecursion Other (drop (suc i) xs)
      → AllByRecursion (λ (k : End). nat_eq k.reference e.reference ≡ false) rest
      → Lasts (record { connection = own; reference = number }) P (e ∷ rest) xs
      → Lasts (record { connection = own; reference = number }) P rest (map hear (take i xs) ++ drop (suc i) xs)
  lasts_gone number P (suc i) (s ∷ xs) l named b n h = (
    λ q.
        let here : is_named own number s ≡ true = sym (hears_named a (poll_of e) own number s) ∙ q in
        let parts = and_parts (wire.same_connection s.connection own) (nat_eq s.reference number) here in
        let same : s.reference ≡ number = eqb-true s.reference number parts.1 in
        let is_heard = any_index (is_named own e.reference) i xs d (omega (arith, l)) named in
        let told : (hear s).told ≡ (if tells own xs number e then Some (figure_told e) else s.told) =
        told_is a own xs e s side figure parts.0 is_heard
        ∙ ap (λ r. if tells own xs r e then Some (figure_told e) else s.told) same in
        subst P
        (sym (last_same own number xs (map hear (take i xs) ++ drop (suc i) xs) (hear s).told rest
        (heard_left i xs (omega (arith, l)) named n)))
        (subst (λ o. P (last_told own xs number o rest)) (sym told) (h.0 here)),
    lasts_gone number P i xs (omega (arith, l)) named b n h.1,
  )
  lasts_gone number P i xs l named b n h = grind (arith, lasts_rest)

-- ---- an end of the other connection
module _ (a : Answer) (o : Option ℕ) (via : Connection) (us : List End) (d : Sent)
    (other : wire.same_connection a.connection via ≡ false) where
  still_heard : (i : ℕ) (xs : List Sent) → i < length xs
      → wire.same_connection (get_or xs i d).connection via ≡ false
      → (es : List End)
      → AllByRecursion (λ k. heard via xs k ≡ heard via (map (hears a o) (take i xs) ++ drop (suc i) xs) k) es
  still_heard i xs l n [] = tt
  still_heard i xs l n (k ∷ es) = grind (arith, still_heard i xs l n es, any_gone, hears_named)

  pub chains_other : (i : ℕ) (xs : List Sent) → i < length xs
      → wire.same_connection (get_or xs i d).connection via ≡ false → Chains via xs us
      → Chains via (map (hears a o) (take i xs) ++ drop (suc i) xs) us
  chains_other (suc i) (s ∷ xs) l n h = (
    λ q.
        let here : wire.same_connection s.connection via ≡ true =
        sym (ap (λ v. wire.same_connection v via) (hears_connection a o s)) ∙ q in
        let later = map (hears a o) (take i xs) ++ drop (suc i) xs in
        subst (λ z. Chain via later z.reference z.told us) (sym (hears_none a o via s here other))
        (chain_same via s.reference xs later s.told us (still_heard i xs (omega (arith, l)) n us) (h.0 here)),
    chains_other i xs (omega (arith, l)) n h.1,
  )
  chains_other i xs l n h = grind arith

  pub lasts_other : (number : ℕ) (P : Option ℕ → Type 0) (i : ℕ) (xs : List Sent) → i < length xs
      → wire.same_connection (get_or xs i d).connection via ≡ false
      → Lasts (record { connection = via; reference = number }) P us xs
      → Lasts (record { connection = via; reference = number }) P us (map (hears a o) (take i xs) ++ drop (suc i) xs)
  lasts_other number P (suc i) (s ∷ xs) l n h = (
    λ q.
        let here : is_named via number s ≡ true = sym (hears_named a o via number s) ∙ q in
        let parts = and_parts (wire.same_connection s.connection via) (nat_eq s.reference number) here in
        let later = map (hears a o) (take i xs) ++ drop (suc i) xs in
        subst P
        (sym (last_same via number xs later (hears a o s).told us (still_heard i xs (omega (arith, l)) n us)))
        (subst (λ z. P (last_told via xs number z.told us)) (sym (hears_none a o via s parts.0 other)) (h.0 here)),
    lasts_other number P i xs (omega (arith, l)) n h.1,
  )
  lasts_other number P i xs l n h = grind arith

-- ---- figures of commands that are outstanding
pub stands_gone : (own : Connection) (xs ys : List Sent) (e : End) (before us : List End)
    → ((n : ℕ) → tally own (λ k. nat_eq k n) ys + one_if (nat_eq e.reference n) ≡ tally own (λ k. nat_eq k n) xs)
    → Stands own xs (e ∷ before) us → Stands own ys before us
stands_gone own xs ys e before [] f h = tt
stands_gone own xs ys e before (k ∷ us) f h = grind (arith, stands_gone own xs ys e (before ++ k ∷ []) us f h.1)
