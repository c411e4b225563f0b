-- A history that keeps the stricter rules of figures keeps those of the judge of the wire.
use Rattle.mscp_shown.proofs.Common.{AllByRecursion, Answer, Asked, Bool, Connection, List, None, Oldest, Option, Pairs, Sent, Some, [], and_parts, ap, arith, cond, drop, eqb-true, every_append, every_parts, every_weaker, false, false≢true, find, get_or, if◌then◌else◌, is_below, is_it, is_named, is_polled, length, list_any, list_any-append, map, nat_eq, or_parts, polled_by, refl, subst, suc, sym, take, true, zero, ℕ, ◌&&◌, ◌++◌, ◌<◌, ◌||◌, ◌∙◌, ◌∷◌, ◌≡◌}
use Rattle.mscp_wire.specs.Wire as wire
use Rattle.mscp_wire.specs.Wire.{is_immediate, left, same_connection}
use Rattle.mscp_shown.proofs.Alike.{bare}
use Rattle.mscp_shown.proofs.Linking.{Alone, AsksOf, IsLow, Linked, Lower, Same, lower_same, none_behind}
use Rattle.mscp_shown.proofs.Owners.{every_drop, every_take}
use Rattle.mscp_shown.proofs.Shown.{one_side}
use Rattle.mscp_shown.proofs.Strict.{hears, may_tell}

-- ---- names
pub named_turned : (a b : Sent) → is_named a.connection a.reference b ≡ false
    → is_named b.connection b.reference a ≡ false
named_turned a b h = grind arith

-- the one at a place has its name alone
pub apart_at : (i : ℕ) (xs : List Sent) (d : Sent) → i < length xs → Alone xs
    → AllByRecursion (λ t. is_named (get_or xs i d).connection (get_or xs i d).reference t ≡ false) (take i xs)
    × AllByRecursion (λ t. is_named (get_or xs i d).connection (get_or xs i d).reference t ≡ false) (drop (suc i) xs)
apart_at (suc i) (x ∷ xs) d l a =
    let rest = apart_at i xs d (omega (arith, l)) a.1 in (
      (
        named_turned x (get_or xs i d)
            (every_get (λ t. is_named x.connection x.reference t ≡ false) i xs d (omega (arith, l)) a.0),
        rest.0,
      ),
      rest.1,
    )
  where
    every_get : (P : Sent → Type 0) (i : ℕ) (ys : List Sent) (d : Sent) → i < length ys → AllByRecursion P ys
        → P (get_or ys i d)
    every_get P i [] d l h = absurd (omega (arith, l))
    every_get P zero (y ∷ ys) d l h = h.0
    every_get P (suc i) (y ∷ ys) d l h = every_get P i ys d (omega (arith, l)) h.1
apart_at i xs d l a = grind arith

-- one of a name stands before a place, so none does behind
pub apart_from : (via : Connection) (n : ℕ) (i : ℕ) (xs : List Sent) → Alone xs
    → list_any (is_named via n) (take i xs) ≡ true → AllByRecursion (λ t. is_named via n t ≡ false) (drop (suc i) xs)
apart_from via n (suc i) (x ∷ xs) a h = grind (arith, apart_from via n i xs a.1, every_drop, none_behind)
apart_from via n i xs a h = grind arith

pub pairs_take : (R : Sent → Sent → Type 0) (i : ℕ) (xs : List Sent) → Pairs R xs → Pairs R (take i xs)
pairs_take R (suc i) (x ∷ xs) h = (every_take (R x) i xs h.0, pairs_take R i xs h.1)
pairs_take R i xs h = grind arith

-- ---- what stricter rules say of the command that is polled
abbrev pub Falls : Answer → Option ℕ → Sent → Type 0
Falls e p t = is_polled e.connection p t ≡ true → is_immediate t.opcode ≡ false
    → (f : ℕ) × (e.figure ≡ Some f) × (is_below t.told f ≡ true)

pub falls_one : (figure : Option ℕ) (stands : Bool) (t : Sent) → may_tell figure stands (Some t) ≡ true
    → is_immediate t.opcode ≡ false → (f : ℕ) × (figure ≡ Some f) × (is_below t.told f ≡ true)
falls_one None stands t h k = cc
falls_one (Some f) stands t h k = grind arith

pub falls_found : (e : Answer) (n : ℕ) (stands : Bool) (ts : List Sent) → Alone ts
    → may_tell e.figure stands (find (is_named e.connection n) ts) ≡ true → AllByRecursion (Falls e (Some n)) ts
falls_found e n stands [] a h = tt
falls_found e n stands (t ∷ ts) a h =
    let q = is_named e.connection n in
    let P : Bool → Type 0 = λ b. q t ≡ b → may_tell e.figure stands (cond b (Some t) (find q ts)) ≡ true
    → AllByRecursion (Falls e (Some n)) (t ∷ ts) in
    elim (q t) as P [
      | true ↦ λ w k. (
        λ z im. falls_one e.figure stands t k im,
        every_weaker (λ s. q s ≡ false) (Falls e (Some n)) (λ s no z. absurd (false≢true (sym no ∙ z))) ts
            (none_behind e.connection n t ts w a.0),
      )
      | false ↦ λ w k. ((λ z. absurd (false≢true (sym w ∙ z))), falls_found e n stands ts a.1 k)
    ] refl h

-- ---- an end comes
hears_told : (e : Answer) (p : Option ℕ) (t : Sent)
    → (hears e p t).told ≡ (if is_polled e.connection p t then e.figure else t.told)
hears_told e p t = grind arith

pub hears_bare : (e : Answer) (p : Option ℕ) (t : Sent) → bare (hears e p t) ≡ bare t
hears_bare e p t = grind arith

polled_alike : (via : Connection) (p : Option ℕ) (t u : Sent) → bare t ≡ bare u → is_polled via p t ≡ is_polled via p u
polled_alike via p t u h = grind arith

-- the end e of x, which is y to the judge, and tells the figure of p
module _ (e : Answer) (p : Option ℕ) (x y : Sent) (alike : bare x ≡ bare y) (asks : polled_by y e ≡ p) where
  abbrev pub strict : Sent → Sent
  strict = hears e p

  abbrev pub lax : Sent → Sent
  lax = wire.hears y e

  abbrev pub IsApart : Sent → Type 0
  IsApart t = is_named x.connection x.reference t ≡ false

  -- those before a command, before and after that end
  record Kept (before after : List Sent) : Type 0 where
    none : (via : Connection) (n : ℕ) → list_any (is_named via n) before ≡ false
        → list_any (is_named via n) after ≡ false
    some : (via : Connection) (n : ℕ) → is_named via n x ≡ false → list_any (is_named via n) before ≡ true
        → list_any (is_named via n) after ≡ true
    low : (via : Connection) (n : ℕ) (last : Option ℕ) → AllByRecursion (IsLow via n last) before
        → AllByRecursion (IsLow via n last) after
    gone : list_any (is_named x.connection x.reference) after ≡ false

  any_push : (q : Sent → Bool) (zs : List Sent) (z : Sent) → list_any q (zs ++ z ∷ []) ≡ (list_any q zs || q z)
  any_push q zs z = grind (arith, list_any-append)

  either : (a b c d : Bool) → (a ≡ true → c ≡ true) → b ≡ d → (a || b) ≡ true → (c || d) ≡ true
  either a b c d f e h = grind arith

  kept_push : (before after : List Sent) (t z : Sent) → Kept before after → bare z ≡ bare t
      → ((via : Connection) (n : ℕ) (last : Option ℕ) → IsLow via n last t → IsLow via n last z) → IsApart t
      → Kept (before ++ t ∷ []) (after ++ z ∷ [])
  kept_push before after t z k same low apart = record {
    none = λ via n h.
        let q = is_named via n in
        let parts = or_parts (list_any q before) (q t) (sym (any_push q before t) ∙ h) in
        any_push q after z
        ∙ (ap (λ b. b || q z) (k.none via n parts.0) ∙ (ap (is_named via n) same ∙ parts.1));
    some = λ via n other h.
        let q = is_named via n in
        any_push q after z
        ∙ either (list_any q before) (q t) (list_any q after) (q z) (k.some via n other)
        (sym (ap (is_named via n) same)) (sym (any_push q before t) ∙ h);
    low = λ via n last h.
        let parts = every_parts (IsLow via n last) before (t ∷ []) h in
        every_append (IsLow via n last) after (z ∷ []) (k.low via n last parts.0) (low via n last parts.1.0, tt);
    gone =
        let q = is_named x.connection x.reference in
        any_push q after z ∙ (ap (λ b. b || q z) k.gone ∙ (ap q same ∙ apart));
  }

  -- the command that ended goes
  kept_gone : (before after : List Sent) (t : Sent) → Kept before after → t ≡ x → Kept (before ++ t ∷ []) after
  kept_gone before after t k here = record {
    none = λ via n h.
        let q = is_named via n in
        k.none via n (or_parts (list_any q before) (q t) (sym (any_push q before t) ∙ h)).0;
    some = λ via n other h.
        let q = is_named via n in
        let no : q t ≡ false = ap q here ∙ other in
        k.some via n other (or_none (list_any q before) (q t) no (sym (any_push q before t) ∙ h));
    low = λ via n last h. k.low via n last (every_parts (IsLow via n last) before (t ∷ []) h).0;
    gone = k.gone;
  }
    where
      or_none : (a b : Bool) → b ≡ false → (a || b) ≡ true → a ≡ true
      or_none a b e h = grind arith

  -- what is asked of a poll then
  asks_then : (before after : List Sent) (u : Sent) (a : Asked) → Kept before after → AsksOf before u a
      → AsksOf after (lax u) (if wire.polls y u then left a else a)
  asks_then before after u (Oldest last) k h =
      let P : Bool → Type 0 = λ b. wire.polls y u ≡ b
      → AsksOf after (lax u) (if b then left (Oldest last) else Oldest last) in
      elim (wire.polls y u) as P [
        | true ↦ λ w n q.
            let one = and_parts (same_connection u.connection y.connection && nat_eq u.opcode 2)
            (is_it u.parameter y.reference) w in
            let two = and_parts (same_connection u.connection y.connection) (nat_eq u.opcode 2) one.0 in
            let side : x.connection ≡ u.connection =
            ap (λ (s : Sent). s.connection) alike ∙ sym (one_side u.connection y.connection two.0) in
            let number : x.reference ≡ n =
            ap (λ (s : Sent). s.reference) alike
            ∙ sym (eqb-true n y.reference (sym (ap (λ o. is_it o y.reference) q) ∙ one.1)) in (
              (h n q).0.0,
              ap (λ v. list_any (is_named v n) after) (sym side)
                  ∙ (ap (λ r. list_any (is_named x.connection r) after) (sym number) ∙ k.gone),
            )
        | false ↦ λ w n q.
            let s = h n q in
            (s.0, (k.some u.connection n (other n w q s.0.1) s.1.0, k.low u.connection n last s.1.1))
      ] refl
    where
      -- the command that it names is another
      other : (n : ℕ) → wire.polls y u ≡ false → u.parameter ≡ Some n → nat_eq u.opcode 2 ≡ true
          → is_named u.connection n x ≡ false
      other n w q poll = grind arith
  asks_then before after u a k h = grind arith

  -- a command before it
  opcode_same : (t : Sent) → is_immediate (strict t).opcode ≡ is_immediate t.opcode
  opcode_same t = ap (λ (s : Sent). is_immediate s.opcode) (hears_bare e p t)

  low_then : (t : Sent) → Falls e p t → is_immediate t.opcode ≡ false → (last : Option ℕ) → Lower t.told last
      → Lower (strict t).told last
  low_then t falls im last h = grind arith

  front_low : (t : Sent) → Falls e p t → (via : Connection) (n : ℕ) (last : Option ℕ) → IsLow via n last t
      → IsLow via n last (strict t)
  front_low t falls via n last h named = grind (arith, hears_bare, opcode_same, low_then)

  front_same : (t u : Sent) → Falls e p t → Same t u → Same (strict t) (lax u)
  front_same t u falls s = record {
    alike = hears_bare e p t ∙ s.alike;
    lower = λ im.
        let still : is_immediate t.opcode ≡ false = sym (opcode_same t) ∙ im in
        let P : Bool → Type 0 = λ b. wire.tells y e u ≡ b
        → Lower (strict t).told (if b then e.figure else u.told) in
        elim (wire.tells y e u) as P [
          | true ↦ λ w.
              let polled = (and_parts (wire.asks_oldest y.asked) (is_polled e.connection (polled_by y e) u) w).1 in
              let named : is_polled e.connection p t ≡ true =
              polled_alike e.connection p t u s.alike
              ∙ (ap (λ o. is_polled e.connection o u) (sym asks) ∙ polled) in
              subst (λ o. Lower o e.figure)
              (sym (hears_told e p t ∙ ap (λ b. if b then e.figure else t.told) named)) (lower_same e.figure)
          | false ↦ λ w. low_then t falls still u.told (s.lower still)
        ] refl;
  }

  -- one behind it, of which nothing is told
  abbrev pub IsSilent : Sent → Type 0
  IsSilent t = (wire.asks_oldest y.asked && is_polled e.connection p t) ≡ false

  back_same : (t u : Sent) → IsSilent t → Same t u → Same t (lax u)
  back_same t u silent s = grind (arith, polled_alike)

  back : (before after ts us : List Sent) → Linked before ts us → Kept before after
      → AllByRecursion (λ t. IsApart t × IsSilent t) ts → Linked after ts (map lax us)
  back before after (t ∷ ts) (u ∷ us) h k all = (
    back_same t u all.0.1 h.0,
    asks_then before after u u.asked k h.1,
    back (before ++ t ∷ []) (after ++ t ∷ []) ts us h.2
        (kept_push before after t t k refl (λ via n last low. low) all.0.0) all.1,
  )
  back before after ts us h k all = grind arith

  front : (i : ℕ) (before after ts us : List Sent) (d : Sent) → i < length ts → get_or ts i d ≡ x
      → Linked before ts us → Kept before after
      → AllByRecursion (λ t. IsApart t × Falls e p t) (take i ts)
      → AllByRecursion (λ t. IsApart t × IsSilent t) (drop (suc i) ts)
      → Linked after (map strict (take i ts) ++ drop (suc i) ts) (map lax (take i us ++ drop (suc i) us))
  front zero before after (t ∷ ts) (u ∷ us) d l here h k f b =
      back (before ++ t ∷ []) after ts us h.2 (kept_gone before after t k here) b
  front (suc i) before after (t ∷ ts) (u ∷ us) d l here h k f b = (
    front_same t u f.0.1 h.0,
    asks_then before after u u.asked k h.1,
    front i (before ++ t ∷ []) (after ++ strict t ∷ []) ts us d (omega (arith, l)) here h.2
        (kept_push before after t (strict t) k (hears_bare e p t) (front_low t f.0.1) f.0.0) f.1 b,
  )
  front i before after ts us d l here h k f b = grind arith

  kept_none : Kept [] []
  kept_none = grind arith

  -- all that is outstanding then
  pub linked_end : (i : ℕ) (xs ys : List Sent) (d : Sent) → i < length xs → get_or xs i d ≡ x → Linked [] xs ys
      → AllByRecursion (λ t. IsApart t × Falls e p t) (take i xs)
      → AllByRecursion (λ t. IsApart t × IsSilent t) (drop (suc i) xs)
      → Linked [] (map strict (take i xs) ++ drop (suc i) xs) (map lax (take i ys ++ drop (suc i) ys))
  linked_end i xs ys d l here h f b = front i [] [] xs ys d l here h kept_none f b
