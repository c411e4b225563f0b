-- Ends that come by a message or by a step, and go out as something is wanted.
use Rattle.mscp_ported.proofs.Common.{Connection, Decided, End, Hardware, Leaving, List, MayBegin, Option, Port, Says, Shape, Some, Verdict, [], ap, append-nil, append_assoc, arith, decided_ended, drop, end_text, ends_begun, false, inl, inr, is_dead, length, length-append, map, map-append, nat_lt, none-some, refl, same_Some, slice_get, sym, told_end, true, ℕ, ◌++◌, ◌+◌, ◌∙◌, ◌∷◌, ◌≡◌, ◌≤◌}
use Rattle.mscp_ported.proofs.Coming.{brought_for, ends_of}
use Rattle.mscp_ported.proofs.Ending.{Ends, Grows, left_with, zipped}
use Rattle.mscp_ported.proofs.Tables.{decided_by, text_so}
use Rattle.mscp_ported.proofs.Taking.{begun_end, says_is}

-- ---- a step

over : (n m k : ℕ) → nat_lt n 64 ≡ false → m ≡ n → k ≡ m + 1 → k ≤ 64 → ⊥
over n m k e f g few = search (arith, e, f, g)

pub step_decided : {K : Type 0} (verdict : Verdict) (old new : Port K)
    → length (ends_of old.controller) ≡ length old.decided.items → length (ends_of new.controller) ≤ 64
    → (via : Connection) (o : Option End) → ends_of new.controller ≡ ends_of old.controller ++ brought_for via o
    → decided_ended via verdict o old new ≡ old.decided.items ++ map (decided_by verdict old new) (brought_for via o)
step_decided verdict old new long few via o ends =
    grind (arith, nat_lt, decided_by, over, ends_of, length-append, append-nil)

-- the end of the command that is served, if it comes
abbrev pub ended_grows : {K : Type 0} (verdict : Verdict) (old new : Port K)
    → length (ends_of old.controller) ≡ length old.decided.items → length (ends_of new.controller) ≤ 64
    → (via : Connection) (o : Option End) → new.decided.items ≡ decided_ended via verdict o old new
    → ends_of new.controller ≡ ends_of old.controller ++ brought_for via o → Grows old new (decided_by verdict old new)
ended_grows verdict old new long few via o decided ends = record {
  brought = brought_for via o;
  ends = ends;
  decided = decided ∙ step_decided verdict old new long few via o ends;
}

-- ---- what goes out

-- an end of the controller goes out with what was decided of it
module _ {K : Type 0} (h : Hardware) (units : List Shape) (old new : Port K) (came : List Leaving)
    (said : List (List ℕ)) (k : Ends h units old came said) (says : Says old new)
    (hardware : old.hardware ≡ h) (settings : old.controller.settings.units ≡ units)
    (stage : new.stage ≡ old.stage) (lives : is_dead old.stage ≡ false) where
  not_dead : is_dead new.stage ≡ true → ends_of new.controller ≡ []
  not_dead d = search (arith, d, lives, ap is_dead stage)

  taken : (es : List End) (ds : List Decided) → length es ≡ length ds → (e : End) → slice_get es 0 ≡ Some e
      → (d : Decided) × (slice_get ds 0 ≡ Some d) × (zipped es ds ≡ left_with e d ∷ zipped (drop 1 es) (drop 1 ds))
      × (length (drop 1 es) ≡ length (drop 1 ds))
  taken [] ds long e some = absurd (none-some e some)
  taken (x ∷ es) [] long e some = search (arith, long)
  taken (x ∷ es) (d ∷ ds) long e some =
      (d, refl, ap (λ y. left_with y d ∷ zipped es ds) (same_Some x e some), search (arith, long))

  text_of : (e : End) (d : Decided) → slice_get old.decided.items 0 ≡ Some d
      → told_end old e ≡ end_text h units (left_with e d)
  text_of e d some = grind (arith, text_so)

  -- no end is taken
  none_taken : ends_begun old.outgoing new.outgoing ≡ [] → MayBegin old.controller new.controller
      → new.decided ≡ old.decided → Ends h units new came (said ++ ends_begun old.outgoing new.outgoing)
  none_taken none may decided = grind (arith, zipped, ends_of, append-nil, not_dead)

  pub goes_out : Ends h units new came (said ++ ends_begun old.outgoing new.outgoing)
  goes_out = elim (says_is old new says) [
    | inl x ↦
        let t = x.0 in
        let e = t.out.0 in
        let d = taken (ends_of old.controller) old.decided.items k.long e t.out.1 in
        let ends : ends_of new.controller ≡ drop 1 (ends_of old.controller) = ap (λ c. ends_of c) t.controller in
        record {
          gone = k.gone ++ left_with e d.0 ∷ [];
          all = k.all ∙ ap (λ xs. k.gone ++ xs) (d.2 ∙ ap (λ xs. left_with e d.0 ∷ xs)
              (sym (ap (λ es. zipped es new.decided.items) ends
              ∙ ap (zipped (drop 1 (ends_of old.controller))) t.decided)))
              ∙ sym (append_assoc k.gone (left_with e d.0 ∷ []) (zipped (ends_of new.controller) new.decided.items));
          long = ap length ends ∙ d.3 ∙ sym (ap length t.decided);
          texts = ap (λ xs. xs ++ ends_begun old.outgoing new.outgoing) k.texts
              ∙ ap (λ xs. map (end_text h units) k.gone ++ xs)
              (begun_end old new t ∙ ap (λ y. y ∷ []) (text_of e d.0 d.1))
              ∙ sym (map-append (end_text h units) k.gone (left_with e d.0 ∷ []));
          dead = not_dead;
        }
    | inr n ↦ none_taken n.begun n.controller n.decided
  ]
