-- Each end that waits fits the message whose end it is, after each call of a port.
use Rattle.mscp_ported.proofs.Common.{AllByRecursion, Bool, Buffer, Call, Decided, Dies, End, Leaving, List, Port, Record, Settings, Verdict, [], ap, append-nil, arith, cond, ends_said_by, every_append, false, is_dead, length, length-append, length-map, map, refl, since, subst, sym, taken_by, true, without_ends, ℕ, ◌++◌, ◌∙◌, ◌∷◌, ◌≡◌}
use Rattle.mscp_ported.proofs.Kept.{is_numbered}
use Rattle.mscp_ported.proofs.Awaiting.{IsNoReset}
use Rattle.mscp_ported.proofs.Buffered.{IsKeptEach}
use Rattle.mscp_ported.proofs.Coming.{ends_of}
use Rattle.mscp_ported.proofs.Ending.{Grows, left_with, zip_map, zip_more, zipped}
use Rattle.mscp_ported.proofs.Fitting.{FitsIn}
use Rattle.mscp_ported.proofs.Followed.{AreFollowed, followed_forgotten}
use Rattle.mscp_ported.proofs.Numbered.{some_none}
use Rattle.mscp_ported.proofs.Staying.{Stays}

-- ---- what is kept

pub record Fitting (c : Settings) (Told : Verdict → Record → Type 0) {K : Type 0} (p : Port K)
    (aw : List (List ℕ)) : Type 0 where
  pub long : length (ends_of p.controller) ≡ length p.decided.items
  pub kept : IsKeptEach aw p.controller.waiting p.buffers.items
  pub fits : AllByRecursion (FitsIn c Told aw) (zipped (ends_of p.controller) p.decided.items)
  pub followed : AreFollowed Told aw (ends_of p.controller)

-- all was forgotten
pub nothing_fits : {c : Settings} {Told : Verdict → Record → Type 0} {K : Type 0} (p : Port K) (aw : List (List ℕ))
    → p.controller.waiting ≡ []
    → ends_of p.controller ≡ [] → p.decided.items ≡ [] → p.buffers.items ≡ [] → Fitting c Told p aw
nothing_fits {c} {Told} p aw none no_end nothing no_buffer = grind (arith, some_none, is_numbered, zipped)

-- no message is awaited any more
forget_each : (aw : List (List ℕ)) (rs : List Record) (bs : List Buffer) → IsKeptEach aw rs bs → IsKeptEach [] rs bs
forget_each aw rs bs kept n = record { none = (kept n).none; own = λ r t e f. absurd (search (arith, f)) }

forget_ends : (c : Settings) (Told : Verdict → Record → Type 0) (ls : List Leaving) → AllByRecursion
    (FitsIn c Told []) ls
forget_ends c Told [] = tt
forget_ends c Told (l ∷ ls) = ((λ t e. absurd (search (arith, e))), forget_ends c Told ls)

module _ {c : Settings} {Told : Verdict → Record → Type 0} {K : Type 0} (call : Call) (old new : Port K)
    (aw : List (List ℕ)) (k : Fitting c Told old aw)
    (calm : IsNoReset call) where
  abbrev So : Type 0
  So = Fitting c Told new (since new.stage call (without_ends (ends_said_by call old new) aw) (taken_by call old))

  pub became : (xs : List (List ℕ)) → without_ends (ends_said_by call old new) aw ++ taken_by call old ≡ xs
      → Fitting c Told new xs → So
  became xs e x = subst (λ z. Fitting c Told new z) (sym (calm.texts new.stage _ _)) (by (is_dead new.stage))
    where
      by : (b : Bool) → Fitting c Told new
          (cond b [] (without_ends (ends_said_by call old new) aw ++ taken_by call old))
      by true = record {
        long = x.long;
        kept = forget_each xs new.controller.waiting new.buffers.items x.kept;
        fits = forget_ends c Told (zipped (ends_of new.controller) new.decided.items);
        followed = followed_forgotten Told xs (ends_of new.controller) x.followed;
      }
      by false = subst (λ z. Fitting c Told new z) (sym e) x

  pub died : Dies old new → So
  died d = grind (arith, nothing_fits, ends_of)

  -- nothing changes
  pub unchanged : ends_said_by call old new ≡ [] → taken_by call old ≡ []
      → new.controller.waiting ≡ old.controller.waiting → ends_of new.controller ≡ ends_of old.controller
      → new.decided.items ≡ old.decided.items → new.buffers.items ≡ old.buffers.items → So
  unchanged said taken waiting ends decided buffers = became aw
      (ap (λ xs. without_ends xs aw ++ taken_by call old) said ∙ ap (λ xs. aw ++ xs) taken ∙ append-nil aw) (record {
        long = ap length ends ∙ k.long ∙ sym (ap length decided);
        kept = subst (λ rs. IsKeptEach aw rs new.buffers.items) (sym waiting)
            (subst (λ bs. IsKeptEach aw old.controller.waiting bs) (sym buffers) k.kept);
        fits = subst (λ es. AllByRecursion (FitsIn c Told aw) (zipped es new.decided.items)) (sym ends)
            (subst (λ ds. AllByRecursion (FitsIn c Told aw) (zipped (ends_of old.controller) ds)) (sym decided) k.fits);
        followed = subst (λ es. AreFollowed Told aw es) (sym ends) k.followed;
      })

  pub stays : ends_said_by call old new ≡ [] → taken_by call old ≡ [] → Stays old new → So
  stays said taken either = grind (arith, died, unchanged, ends_of)

-- ---- ends come, with what is decided of each

module _ (c : Settings) (Told : Verdict → Record → Type 0) {K : Type 0} (old new : Port K) (f : End → Decided)
    (g : Grows old new f)
    (long : length (ends_of old.controller) ≡ length old.decided.items) where
  pub grown_long : length (ends_of new.controller) ≡ length new.decided.items
  grown_long = grind (arith, length-append, ends_of, length-map)

  pub grown_fits : (aw : List (List ℕ)) → AllByRecursion
      (FitsIn c Told aw) (zipped (ends_of old.controller) old.decided.items)
      → AllByRecursion (λ e. FitsIn c Told aw (left_with e (f e))) g.brought
      → AllByRecursion (FitsIn c Told aw) (zipped (ends_of new.controller) new.decided.items)
  grown_fits aw before behind = subst (λ ls. AllByRecursion (FitsIn c Told aw) ls)
      (sym (ap (λ es. zipped es new.decided.items) g.ends ∙ ap (zipped (ends_of old.controller ++ g.brought)) g.decided
      ∙ zip_more (ends_of old.controller) g.brought old.decided.items (map f g.brought) long
      ∙ ap (λ ls. zipped (ends_of old.controller) old.decided.items ++ ls) (zip_map f (λ e. left_with e (f e)) g.brought
      (λ e. refl))))
      (every_append (FitsIn c Told aw) (zipped (ends_of old.controller) old.decided.items)
      (map (λ e. left_with e (f e)) g.brought) before (mapped g.brought behind))
    where
      mapped : (es : List End) → AllByRecursion (λ e. FitsIn c Told aw (left_with e (f e))) es
          → AllByRecursion (FitsIn c Told aw) (map (λ e. left_with e (f e)) es)
      mapped [] all = tt
      mapped (e ∷ es) all = (all.0, mapped es all.1)
