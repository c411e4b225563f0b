-- What a port's log shows: the ends in it are those that go out, and each answers a command that is outstanding.
use Rattle.mscp_logged.proofs.Common.{Call, List, None, Option, Outgoing, Port, ReadsBytes, Some, Stage, WriteIp, [], ap, arith, begins, cond, is_dead, is_foreign, map, message_of, since, sym, true, ℕ, ◌++◌, ◌∙◌, ◌∷◌, ◌≡◌, ◌≢◌, ◌⊎◌}

-- ---- since all was forgotten

pub is_reset : (call : Call) → (call ≡ WriteIp) ⊎ (call ≢ WriteIp)
is_reset call = grind arith

pub since_reset : {X : Type 0} (s : Stage) (call : Call) (xs ys : List X) → call ≡ WriteIp → since s call xs ys ≡ []
since_reset s call xs ys e = grind arith

pub since_dead : {X : Type 0} (s : Stage) (call : Call) (xs ys : List X) → is_dead s ≡ true → since s call xs ys ≡ []
since_dead s call xs ys dead = grind arith

-- ---- what is held

pub last_is : {X : Type 0} (xs ys : List X) (x y : X) → xs ++ x ∷ [] ≡ ys ++ y ∷ [] → x ≡ y
last_is [] [] x y e = search (arith, e)
last_is [] (z ∷ []) x y e = search (arith, e)
last_is [] (z ∷ w ∷ zs) x y e = search (arith, e)
last_is (z ∷ []) [] x y e = search (arith, e)
last_is (z ∷ w ∷ zs) [] x y e = search (arith, e)
last_is (z ∷ zs) (w ∷ ws) x y e = last_is zs ws x y (search (arith, e))

pub none_held : {X : Type 0} (xs ys : List X) → xs ++ ys ≡ [] → ys ≡ []
none_held [] ys e = e
none_held (x ∷ xs) ys e = search (arith, e)

pub begun_none : (old new : Option Outgoing) (o : Outgoing) → old ≡ None → new ≡ Some o → begins old new ≡ [] → ⊥
begun_none old new o none some e =
    search (arith, sym (ap (λ x. begins x new) none ∙ ap (begins None) some) ∙ e)

-- ---- messages

module _ {K : Type 0} (call : Call) (old : Port K) where
  pub no_message : (accepted : List (List ℕ)) → accepted ≡ []
      → cond (is_foreign old.task) [] (map message_of accepted) ≡ []
  no_message accepted e = grind arith

pub reads_before : (call : Call) (calls : List Call) → ReadsBytes (call ∷ calls) → ReadsBytes calls
reads_before call calls reads = grind arith
