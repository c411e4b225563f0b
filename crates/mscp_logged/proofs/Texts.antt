-- The texts of the disk's ends that are still to come: of what goes out, and behind it of those that wait in the
-- controller, each with what was decided of it. By each call more come behind them.
use Rattle.mscp_logged.proofs.Common.{Action, Bool, Decided, End, Hardware, List, None, Option, Outgoing, Port, Shape, Some, Wants, [], ap, append-nil, arith, begun_end, drop, end_said, end_told, ends_begun, ends_of, length, map, refl, same_Some, says_is, slice_get, unit_found, zipped, ℕ, ◌++◌, ◌∷◌, ◌≡◌}

-- what waits, with what was decided of each
module _ (h : Hardware) (units : List Shape) where
  abbrev pub text_with : End → Decided → List ℕ
  text_with e d = end_told e d (unit_found units e.unit) h

  abbrev pub texts_of : List End → List Decided → List (List ℕ)
  texts_of [] ds = []
  texts_of (e ∷ es) [] = []
  texts_of (e ∷ es) (d ∷ ds) = text_with e d ∷ texts_of es ds

  abbrev pub waiting : {K : Type 0} → Port K → List (List ℕ)
  waiting p = texts_of (ends_of p.controller) p.decided.items

  pub texts_none : (es : List End) (ds : List Decided) → zipped es ds ≡ [] → texts_of es ds ≡ []
  texts_none [] ds e = refl
  texts_none (x ∷ es) [] e = refl
  texts_none (x ∷ es) (d ∷ ds) e = search (arith, e)

  texts_come : (fs : List End) (f : End → Decided) → texts_of fs (map f fs) ≡ map (λ e. text_with e (f e)) fs
  texts_come [] f = refl
  texts_come (x ∷ fs) f = ap (λ xs. text_with x (f x) ∷ xs) (texts_come fs f)

  pub texts_more : (es fs : List End) (ds : List Decided) (f : End → Decided) → length es ≡ length ds
      → texts_of (es ++ fs) (ds ++ map f fs) ≡ texts_of es ds ++ map (λ e. text_with e (f e)) fs
  texts_more [] fs [] f long = texts_come fs f
  texts_more [] fs (d ∷ ds) f long = search (arith, long)
  texts_more (x ∷ es) fs [] f long = search (arith, long)
  texts_more (x ∷ es) fs (d ∷ ds) f long = grind (arith, texts_more es fs ds f (search (arith, long)))

  module _ {K : Type 0} (old new : Port K) where
    -- what begins to go out is the oldest of them, and these come behind
    abbrev pub Comes : List (List ℕ) → Type 0
    Comes more = ends_begun old.outgoing new.outgoing ++ waiting new ≡ waiting old ++ more

    pub none_come : ends_begun old.outgoing new.outgoing ≡ [] → ends_of new.controller ≡ ends_of old.controller
        → new.decided.items ≡ old.decided.items → Comes []
    none_come none ends decided = grind (arith, append-nil)

    -- ---- as something is wanted

    module _ (picks : List _ → ℕ → Type 0) (blocks : Bool) (action : Action) (r : Wants picks blocks old action new)
        (long : length (ends_of old.controller) ≡ length old.decided.items) (hardware : old.hardware ≡ h)
        (settings : old.controller.settings.units ≡ units) where
      taken : (es : List End) (ds : List Decided) → length es ≡ length ds → (e : End) → slice_get es 0 ≡ Some e
          → (d : Decided) × (slice_get ds 0 ≡ Some d)
          × (texts_of es ds ≡ text_with e d ∷ texts_of (drop 1 es) (drop 1 ds))
      taken (x ∷ es) (d ∷ ds) long e some =
          (d, refl, ap (λ y. text_with y d ∷ texts_of es ds) (same_Some x e some))
      taken es ds long e some = grind arith

      pub next_comes : Comes []
      next_comes = grind (arith, says_is, taken, begun_end, append-nil, none_come)

-- ---- with what goes out

abbrev pub out_texts : Option Outgoing → List (List ℕ)
out_texts None = []
out_texts (Some o) = end_said o.kind o.bytes.items

abbrev pub to_come : Hardware → List Shape → {K : Type 0} → Port K → List (List ℕ)
to_come h units p = out_texts p.outgoing ++ waiting h units p
