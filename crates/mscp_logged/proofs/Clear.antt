-- No end of a controller's that waits has passed a command that it had to wait for.
use Rattle.mscp_logged.proofs.Common.{Bool, Decided, End, List, Record, Settings, [], any_more, ap, arith, cond, drop, ends_numbered, eqb-true, false, false≢true, filter, filter-append, first_of_one, has_number, inr, is_apart, is_in_service, is_numbered, is_some, length, list_any, nat_eq, none_beside, not, num, or_parts, refl, sole_comes, sole_left, some_none, subst, sym, true, unit_found, ℕ, ◌%◌, ◌++◌, ◌∙◌, ◌∷◌, ◌≡◌, ◌⊎◌}
use Rattle.mscp_logged.proofs.Passes.{any_fewer, keeps, overtakes, passes_beside, passes_fewer}
use Rattle.mscp_logged.proofs.Queueing.{InOrder, NoneBehind, order_as, order_left, order_more}

-- ---- messages without an end

abbrev pub without : ℕ → List (List ℕ) → List (List ℕ)
without n aw = filter (λ t. not (has_number n t)) aw

abbrev pub is_ended : List End → List ℕ → Bool
is_ended es t = list_any (λ (e : End). has_number e.reference t) es

abbrev pub unended : List End → List (List ℕ) → List (List ℕ)
unended es aw = filter (λ t. not (is_ended es t)) aw

pub unended_none : (aw : List (List ℕ)) → unended [] aw ≡ aw
unended_none [] = refl
unended_none (t ∷ aw) = ap (λ ts. t ∷ ts) (unended_none aw)

unended_taken : (e : End) (es : List End) (aw : List (List ℕ))
    → unended es (without e.reference aw) ≡ unended (e ∷ es) aw
unended_taken e es [] = refl
unended_taken e es (t ∷ aw) = grind (arith, unended_taken e es aw)

unended_more : (es fs : List End) (aw : List (List ℕ))
    → unended (es ++ fs) aw ≡ filter (λ t. not (is_ended (es ++ fs) t)) (unended es aw)
unended_more es fs aw = grind (arith, sole_left, any_more)

unended_beside : (es : List End) (aw : List (List ℕ)) (m : List ℕ) → is_ended es m ≡ false
    → unended es (aw ++ m ∷ []) ≡ unended es aw ++ m ∷ []
unended_beside es aw m e = grind (arith, filter-append)

unended_answered : (es : List End) (aw : List (List ℕ)) (m : List ℕ) → is_ended es m ≡ true
    → unended es (aw ++ m ∷ []) ≡ unended es aw
unended_answered es aw m e = none_beside (λ t. not (is_ended es t)) aw m (ap not e)

turned : (a b : ℕ) (c : Bool) → nat_eq a b ≡ c → nat_eq b a ≡ c
turned a b c e = grind arith

pub none_ended : (m : List ℕ) (es : List End) → filter (ends_numbered (num m 0 4)) es ≡ [] → is_ended es m ≡ false
none_ended m [] none = refl
none_ended m (e ∷ es) none = grind (arith, none_ended m es)

pub some_ended : (m : List ℕ) (es : List End) (x : End) → filter (ends_numbered (num m 0 4)) es ≡ x ∷ []
    → is_ended es m ≡ true
some_ended m es x sole = by (is_ended es m) refl
  where
    nothing : (es : List End) → is_ended es m ≡ false → filter (ends_numbered (num m 0 4)) es ≡ []
    nothing [] e = refl
    nothing (e ∷ es) h =
        let p = or_parts (has_number e.reference m) (is_ended es m) h in
        ap (λ b. cond b (e ∷ filter (ends_numbered (num m 0 4)) es) (filter (ends_numbered (num m 0 4)) es))
        (turned (num m 0 4) e.reference false p.0) ∙ nothing es p.1

    by : (b : Bool) → is_ended es m ≡ b → is_ended es m ≡ true
    by b h = grind (arith, some_none, nothing)

-- ---- the ends

-- an end says that its status may come at once, or its command passes none of these
abbrev pub IsClear : List (List ℕ) → End → Decided → Type 0
IsClear aw e d = (is_apart (d.status % 32) ≡ true) ⊎ (overtakes e.reference aw ≡ false)

-- each end, once those before it are gone
abbrev pub AreClear : List (List ℕ) → List End → List Decided → Type 0
AreClear aw [] ds = Unit {0}
AreClear aw (e ∷ es) [] = Unit {0}
AreClear aw (e ∷ es) (d ∷ ds) = IsClear aw e d × AreClear (without e.reference aw) es ds

pub clear_forgotten : (es : List End) (ds : List Decided) → AreClear [] es ds
clear_forgotten (e ∷ es) (d ∷ ds) = (inr refl, clear_forgotten es ds)
clear_forgotten es ds = grind arith

clear_more : (aw : List (List ℕ)) (es fs : List End) (ds gs : List Decided) → length es ≡ length ds
    → AreClear aw es ds → AreClear (unended es aw) fs gs → AreClear aw (es ++ fs) (ds ++ gs)
clear_more aw [] fs [] gs long all more = subst (λ ts. AreClear ts fs gs) (unended_none aw) more
clear_more aw [] fs (d ∷ ds) gs long all more = search (arith, long)
clear_more aw (e ∷ es) fs [] gs long all more = search (arith, long)
clear_more aw (e ∷ es) fs (d ∷ ds) gs long all more = (
  all.0,
  clear_more (without e.reference aw) es fs ds gs (search (arith, long)) all.1 (rw unended_taken more),
)

clear_beside : (m : List ℕ) (aw : List (List ℕ)) (es : List End) (ds : List Decided) → is_ended es m ≡ false
    → AreClear aw es ds → AreClear (aw ++ m ∷ []) es ds
clear_beside m aw (e ∷ es) (d ∷ ds) none all =
    let p = or_parts (has_number e.reference m) (is_ended es m) none in (
      one p.0 all.0,
      rw (filter-append (λ t. not (has_number e.reference t)) aw (m ∷ []) ∙ ap (λ c. without e.reference aw ++ cond
          (not c) (m ∷ []) []) p.0) (clear_beside m (without e.reference aw) es ds p.1 all.1),
    )
  where
    one : has_number e.reference m ≡ false → IsClear aw e d → IsClear (aw ++ m ∷ []) e d
    one apart x = grind (arith, passes_beside)
clear_beside m aw es ds none all = grind arith

-- ---- all that is kept

-- a command that waits is to a unit that is there, and if it was served passes none of these
pub record IsGood (c : Settings) (aw : List (List ℕ)) (n : ℕ) (r : Record) : Type 0 where
  pub known : is_some (unit_found c.units r.command.unit) ≡ true
  pub served : is_in_service r ≡ true → overtakes n aw ≡ false

pub good_as : (c : Settings) (aw aw' : List (List ℕ)) (n : ℕ) (r : Record)
    → (overtakes n aw ≡ false → overtakes n aw' ≡ false) → IsGood c aw n r → IsGood c aw' n r
good_as c aw aw' n r f g = record { known = g.known; served = λ s. f (g.served s) }

pub record Ordered (c : Settings) (aw : List (List ℕ)) (rs : List Record) (es : List End) (ds : List Decided)
    : Type 0 where
  pub lined : InOrder (unended es aw) rs
  pub own : (n : ℕ) (r : Record) → filter (is_numbered n) rs ≡ r ∷ [] → IsGood c (unended es aw) n r
  pub clear : AreClear aw es ds

pub ordered_as : (c : Settings) (aw : List (List ℕ)) (rs rs' : List Record) (es es' : List End) (ds ds' : List Decided)
    → rs' ≡ rs → es' ≡ es → ds' ≡ ds → Ordered c aw rs es ds → Ordered c aw rs' es' ds'
ordered_as c aw rs rs' es es' ds ds' e f g o = grind arith

module _ (c : Settings) (aw : List (List ℕ)) (rs : List Record) (es : List End) (ds : List Decided)
    (o : Ordered c aw rs es ds) where
  -- no message is awaited any more
  pub ordered_forgotten : Ordered c [] rs es ds
  ordered_forgotten = record {
    lined = tt;
    own = λ n r e. record { known = (o.own n r e).known; served = λ s. refl };
    clear = clear_forgotten es ds;
  }

  -- a message comes, and its command is queued
  module _ (m : List ℕ) (none : is_ended es m ≡ false) where
    pub ordered_queued : (r : Record) → filter (is_numbered (num m 0 4)) rs ≡ []
        → list_any (has_number (num m 0 4)) aw ≡ false → is_numbered (num m 0 4) r ≡ true
        → ((n : ℕ) → nat_eq (num m 0 4) n ≡ false → is_numbered n r ≡ false) → is_in_service r ≡ false
        → is_some (unit_found c.units r.command.unit) ≡ true → Ordered c (aw ++ m ∷ []) (rs ++ r ∷ []) es ds
    ordered_queued r free new mine others fresh known = record {
      lined = rw (unended_beside es aw m none) (order_more rs m r free others (unended es aw)
          (any_fewer (has_number (num m 0 4)) (λ t. not (is_ended es t)) aw new) o.lined);
      own = λ n x e. rw (unended_beside es aw m none) (by n x e (nat_eq (num m 0 4) n) refl);
      clear = clear_beside m aw es ds none o.clear;
    }
      where
        by : (n : ℕ) (x : Record) → filter (is_numbered n) (rs ++ r ∷ []) ≡ x ∷ [] → (b : Bool)
            → nat_eq (num m 0 4) n ≡ b → IsGood c (unended es aw ++ m ∷ []) n x
        by n x e false is = good_as c (unended es aw) (unended es aw ++ m ∷ []) n x
            (λ h. passes_beside (has_number n) keeps (unended es aw) m is ∙ h)
            (o.own n x (sym (none_beside (is_numbered n) rs r (others n is)) ∙ e))
        by n x e true is =
            let same : r ≡ x = (first_of_one r x [] (sym (sole_comes (is_numbered (num m 0 4)) rs r free mine)
            ∙ subst (λ k. filter (is_numbered k) (rs ++ r ∷ []) ≡ x ∷ []) (sym (eqb-true (num m 0 4) n is)) e)).0 in
            subst (λ z. IsGood c (unended es aw ++ m ∷ []) n z) same
            (record { known = known; served = λ s. absurd (false≢true (sym fresh ∙ s)) })

  -- ends come
  module _ (rs' : List Record) (fs : List End) (gs : List Decided) (long : length es ≡ length ds)
      (behind : (a b : ℕ) → NoneBehind a b rs → NoneBehind a b rs')
      (good : (n : ℕ) (r : Record) → filter (is_numbered n) rs' ≡ r ∷ [] → IsGood c (unended es aw) n r) where
    abbrev test : List ℕ → Bool
    test = λ t. not (is_ended (es ++ fs) t)

    still_lined : InOrder (filter test (unended es aw)) rs'
    still_lined = order_as rs rs' behind (filter test (unended es aw)) (order_left rs test (unended es aw) o.lined)

    still_good : (n : ℕ) (r : Record) → filter (is_numbered n) rs' ≡ r ∷ []
        → IsGood c (filter test (unended es aw)) n r
    still_good n r e = good_as c (unended es aw) (filter test (unended es aw)) n r
        (λ h. passes_fewer (has_number n) keeps test (unended es aw) h) (good n r e)

    -- by a step
    pub ordered_stepped : AreClear (unended es aw) fs gs → Ordered c aw rs' (es ++ fs) (ds ++ gs)
    ordered_stepped clear = record {
      lined = subst (λ ts. InOrder ts rs') (sym (unended_more es fs aw)) still_lined;
      own = λ n r e. subst (λ ts. IsGood c ts n r) (sym (unended_more es fs aw)) (still_good n r e);
      clear = clear_more aw es fs ds gs long o.clear clear;
    }

    -- or by a message, one of them its own
    pub ordered_answered : (m : List ℕ) → is_ended es m ≡ false → is_ended (es ++ fs) m ≡ true
        → AreClear (unended es (aw ++ m ∷ [])) fs gs → Ordered c (aw ++ m ∷ []) rs' (es ++ fs) (ds ++ gs)
    ordered_answered m none some clear =
        let same = unended_answered (es ++ fs) aw m some ∙ unended_more es fs aw in
        record {
          lined = subst (λ ts. InOrder ts rs') (sym same) still_lined;
          own = λ n r e. subst (λ ts. IsGood c ts n r) (sym same) (still_good n r e);
          clear = clear_more (aw ++ m ∷ []) es fs ds gs long (clear_beside m aw es ds none o.clear) clear;
        }

-- the oldest end is taken
pub ordered_taken : (c : Settings) (aw : List (List ℕ)) (rs : List Record) (e : End) (es : List End)
    (ds : List Decided) → length (e ∷ es) ≡ length ds → Ordered c aw rs (e ∷ es) ds
    → Ordered c (without e.reference aw) rs es (drop 1 ds)
ordered_taken c aw rs e es [] long o = search (arith, long)
ordered_taken c aw rs e es (d ∷ ds) long o = record {
  lined = subst (λ ts. InOrder ts rs) (sym (unended_taken e es aw)) o.lined;
  own = λ n r h. subst (λ ts. IsGood c ts n r) (sym (unended_taken e es aw)) (o.own n r h);
  clear = o.clear.1;
}
