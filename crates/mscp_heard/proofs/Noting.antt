-- After each deed at a port what its host may be told fits what the host keeps.
use Rattle.mscp_heard.proofs.Claims.{Claim, IsOwed, Owes, claims, find_left, find_more, find_new}
use Rattle.mscp_heard.proofs.Notes.{FitsAsked, FitsNote, FitsText, Noted, noted_kept}
use Rattle.mscp_heard.proofs.Watching.{AreSmall, Notes}
use Rattle.mscp_heard.proofs.Common.{Account, AllByRecursion, Asked, Bool, List, Option, PortAccount, Said, Some, Watch, [], ap, arith, cond, eq-eqb, eqb-true, every_append, every_weaker, false, find, inl, inr, is_about, is_code_of, is_of, is_poll_of, nat_eq, none-some, num, refl, same_Some, subst, sym, true, watch_after, without_by, ℕ, ◌++◌, ◌<◌, ◌^◌, ◌∙◌, ◌∷◌, ◌≡◌, ◌≤◌}

-- what a host keeps of its commands: the poll in flight is one of them, and their numbers fit their type
pub record IsReady (host : PortAccount) : Type 0 where
  pub watched : (w : Watch) → host.account.watch ≡ Some w
      → (x : Asked) × (find (is_of w.reference) host.asked ≡ Some x)
  pub small : AreSmall host.asked

-- ---- what the host does

small_more : (xs : List Asked) (x : Asked) → x.reference < 2 ^ 32 → AreSmall xs → AreSmall (xs ++ x ∷ [])
small_more [] x small all = (small, tt)
small_more (y ∷ xs) x small all = (all.0, small_more xs x small all.1)

small_left : (n : ℕ) (xs : List Asked) → AreSmall xs → AreSmall (without_by (is_of n) xs)
small_left n [] all = tt
small_left n (x ∷ xs) all = by (is_of n x) (small_left n xs all.1)
  where
    by : (b : Bool) → AreSmall (without_by (is_of n) xs) → AreSmall (cond b xs (x ∷ without_by (is_of n) xs))
    by b rest = grind arith

-- it sends a message
module _ (old new : PortAccount) (m : List ℕ) (s : Notes old new m) (ready : IsReady old) where
  here : find (is_of (num m 0 4)) new.asked ≡ Some s.more
  here = grind (arith, find_new, eq-eqb)

  pub sent_ready : IsReady new
  sent_ready = grind (arith, find_more, same_Some, here, small_more)

  -- what was noted stays so
  sent_keeps : (n endcode other size : ℕ) → (x : Asked) × (find (is_of n) old.asked ≡ Some x)
      → FitsNote old n endcode other size → FitsNote new n endcode other size
  sent_keeps n endcode other size known fits x found =
      let same : known.0 ≡ x = same_Some known.0 x (sym (find_more n old.asked known.0 s.more known.1)
      ∙ ap (find (is_of n)) (sym s.asked) ∙ found) in
      let f = fits known.0 known.1 in
      record {
        code = subst (λ (y : Asked). is_code_of endcode y.opcode ≡ true) same f.code;
        about = λ poll own. elim s.watch [
          | inl still ↦
              let a = f.about poll (subst (λ o. is_poll_of o n ≡ true) still own) in
              (a.0, subst (λ o. is_about o other ≡ true) (sym still) a.1)
          | inr w ↦ absurd (none-some known.0 (sym s.new_number ∙ ap (λ k. find (is_of k) old.asked)
              (sym (sym (eqb-true w.0.reference n (subst (λ o. is_poll_of o n ≡ true) w.1 own)) ∙ w.2 ∙ s.number))
              ∙ known.1))
        ];
      }

  -- and the message fits
  sent_fits : FitsText new m
  sent_fits x found = grind (arith, same_Some, here, eq-eqb, nat_eq, none-some, eqb-true)

  pub sent_noted : (us : List Said) (ts ms : List (List ℕ)) → Owes old.asked (claims us ts ms) → Noted old us ts ms
      → Noted new us ts (ms ++ m ∷ [])
  sent_noted us ts ms owes noted =
      let k = noted_kept old new (λ n. (x : Asked) × (find (is_of n) old.asked ≡ Some x)) sent_keeps us ts ms
      (every_weaker (IsOwed old.asked) (λ (c : Claim). (x : Asked) × (find (is_of c.number) old.asked ≡ Some x))
      (λ c o. (o.0, o.1)) (claims us ts ms) owes.known) noted in
      record {
        said = k.said;
        texts = k.texts;
        messages = every_append (FitsText new) ms (m ∷ []) k.messages (sent_fits, tt);
      }

-- what it keeps doesn't change
pub same_ready : (old new : PortAccount) → new.asked ≡ old.asked → new.account ≡ old.account → IsReady old
    → IsReady new
same_ready old new asked account ready = grind arith

same_keeps : (old new : PortAccount) → new.asked ≡ old.asked → new.account ≡ old.account
    → (n endcode other size : ℕ) → Unit {0} → FitsNote old n endcode other size → FitsNote new n endcode other size
same_keeps old new asked account n endcode other size u fits x found =
    let f = fits x (ap (find (is_of n)) (sym asked) ∙ found) in
    let watch : new.account.watch ≡ old.account.watch = ap (λ (a : Account). a.watch) account in
    record {
      code = f.code;
      about = λ poll own.
          let a = f.about poll (subst (λ o. is_poll_of o n ≡ true) watch own) in
          (a.0, subst (λ o. is_about o other ≡ true) (sym watch) a.1);
    }

every_unit : (cs : List Claim) → AllByRecursion (λ (c : Claim). Unit {0}) cs
every_unit [] = tt
every_unit (c ∷ cs) = (tt, every_unit cs)

pub same_noted : (old new : PortAccount) (us : List Said) (ts ms : List (List ℕ)) → new.asked ≡ old.asked
    → new.account ≡ old.account → Noted old us ts ms → Noted new us ts ms
same_noted old new us ts ms asked account noted = noted_kept old new (λ n. Unit {0})
    (same_keeps old new asked account) us ts ms (every_unit (claims us ts ms)) noted

-- it hears an end
module _ (old new : PortAccount) (m : ℕ) (asked : new.asked ≡ without_by (is_of m) old.asked)
    (watch : new.account.watch ≡ watch_after old.account.watch m) where
  -- the poll in flight was so before, and was not ended
  watched_before : (w : Watch) → new.account.watch ≡ Some w
      → (v : Watch) × (old.account.watch ≡ Some v) × (w.reference ≡ v.reference) × (w.polled ≡ v.polled)
      × (nat_eq v.reference m ≡ false)
  watched_before w is = grind (arith, nat_eq, none-some, same_Some)

  pub heard_ready : IsReady old → IsReady new
  heard_ready ready = grind (arith, watched_before, find_left, small_left)

  heard_keeps : (n endcode other size : ℕ) → nat_eq n m ≡ false → FitsNote old n endcode other size
      → FitsNote new n endcode other size
  heard_keeps n endcode other size apart fits x found =
      let f = fits x (sym (find_left n m old.asked apart) ∙ ap (find (is_of n)) (sym asked) ∙ found) in
      record {
        code = f.code;
        about = λ poll own. by new.account.watch refl poll f own;
      }
    where
      by : (o : Option Watch) → new.account.watch ≡ o → endcode ≡ 0x82 → FitsAsked old n endcode other size x
          → is_poll_of new.account.watch n ≡ true
          → (16 ≤ size) × (is_about new.account.watch other ≡ true)
      by o is poll f own = grind (arith, watched_before, nat_eq)

  pub heard_noted : (us : List Said) (ts ms : List (List ℕ))
      → AllByRecursion (λ (c : Claim). nat_eq c.number m ≡ false) (claims us ts ms) → Noted old us ts ms
      → Noted new us ts ms
  heard_noted us ts ms apart noted =
      noted_kept old new (λ n. nat_eq n m ≡ false) heard_keeps us ts ms apart noted
