-- The ends that came go out with what was decided of them, call by call.
use Rattle.mscp_ported.proofs.Common.{Bool, Call, Decided, End, Hardware, Leaving, List, Port, Shape, [], ap, append-nil, append_assoc, arith, came_by, come, cond, drop-append_seam, end_text, ends_said_by, false, is_dead, length, length-append, length-map, map, refl, since, subst, sym, true, ℕ, ◌++◌, ◌∙◌, ◌∷◌, ◌≡◌}
use Rattle.mscp_ported.proofs.Coming.{ends_of}
use Rattle.mscp_ported.proofs.Tables.{fields_of}

-- ---- ends, with what is decided of them

abbrev pub left_with : End → Decided → Leaving
left_with e d = record { end = e; fields = fields_of d }

abbrev pub zipped : List End → List Decided → List Leaving
zipped [] ds = []
zipped (e ∷ es) [] = []
zipped (e ∷ es) (d ∷ ds) = left_with e d ∷ zipped es ds

pub zip_more : (es fs : List End) (ds gs : List Decided) → length es ≡ length ds
    → zipped (es ++ fs) (ds ++ gs) ≡ zipped es ds ++ zipped fs gs
zip_more [] fs [] gs e = refl
zip_more [] fs (d ∷ ds) gs e = search (arith, e)
zip_more (x ∷ es) fs [] gs e = search (arith, e)
zip_more (x ∷ es) fs (d ∷ ds) gs e = ap (λ xs. left_with x d ∷ xs) (zip_more es fs ds gs (search (arith, e)))

pub zip_map : (f : End → Decided) (g : End → Leaving) (es : List End) → ((e : End) → left_with e (f e) ≡ g e)
    → zipped es (map f es) ≡ map g es
zip_map f g [] same = refl
zip_map f g (e ∷ es) same = ap (λ l. l ∷ zipped es (map f es)) (same e) ∙ ap (λ xs. g e ∷ xs) (zip_map f g es same)

pub zip_ends : (es : List End) (ds : List Decided) → length es ≡ length ds → map (λ l. l.end) (zipped es ds) ≡ es
zip_ends [] ds e = refl
zip_ends (x ∷ es) [] e = search (arith, e)
zip_ends (x ∷ es) (d ∷ ds) e = ap (λ xs. x ∷ xs) (zip_ends es ds (search (arith, e)))

-- ---- what is kept

pub record Ends {K : Type 0} (h : Hardware) (units : List Shape) (p : Port K) (came : List Leaving)
    (said : List (List ℕ)) : Type 0 where
  pub gone : List Leaving
  pub all : came ≡ gone ++ zipped (ends_of p.controller) p.decided.items
  pub long : length (ends_of p.controller) ≡ length p.decided.items
  pub texts : said ≡ map (end_text h units) gone
  pub dead : is_dead p.stage ≡ true → ends_of p.controller ≡ []

-- all was forgotten
pub none_left : {K : Type 0} (h : Hardware) (units : List Shape) (p : Port K) → ends_of p.controller ≡ []
    → p.decided.items ≡ [] → Ends h units p [] []
none_left h units p ends decided = grind arith

no_more : (ds : List Decided) (es : List End) → es ≡ [] → length es ≡ length ds → ds ≡ []
no_more [] es e long = refl
no_more (d ∷ ds) es e long = search (arith, e, long)

-- by a call ends come, behind those that are there, with what is decided of each
pub record Grows {K : Type 0} (old new : Port K) (f : End → Decided) : Type 0 where
  pub brought : List End
  pub ends : ends_of new.controller ≡ ends_of old.controller ++ brought
  pub decided : new.decided.items ≡ old.decided.items ++ map f brought

pub none_come : {K : Type 0} (old new : Port K) (f : End → Decided) → ends_of new.controller ≡ ends_of old.controller
    → new.decided.items ≡ old.decided.items → Grows old new f
none_come old new f ends decided = grind (arith, append-nil, ends_of)

module _ {K : Type 0} (h : Hardware) (units : List Shape) (old new : Port K) (came : List Leaving)
    (said : List (List ℕ)) (k : Ends h units old came said) where
  pub grows : (f : End → Decided) (g : End → Leaving) → Grows old new f → ((e : End) → left_with e (f e) ≡ g e)
      → is_dead new.stage ≡ false → Ends h units new (came ++ map g (come old new)) said
  grows f g r same alive =
      grind (arith, append_assoc, ends_of, zip_map, zip_more, length-append, length-map, drop-append_seam)

  -- nothing comes and nothing is said
  pub stays : (call : Call) → (is_dead new.stage ≡ true → is_dead old.stage ≡ true)
      → ((s : _) (xs ys : List Leaving) → since s call xs ys ≡ cond (is_dead s) [] (xs ++ ys))
      → ((s : _) (xs ys : List (List ℕ)) → since s call xs ys ≡ cond (is_dead s) [] (xs ++ ys))
      → came_by call old new ≡ [] → ends_said_by call old new ≡ [] → ends_of new.controller ≡ ends_of old.controller
      → new.decided.items ≡ old.decided.items
      → Ends h units new (since new.stage call came (came_by call old new))
      (since new.stage call said (ends_said_by call old new))
  stays call dead reset_came reset_said no_came no_said ends decided = by (is_dead new.stage) refl
    where
      both : (xs : List Leaving) (ys : List (List ℕ)) → Ends h units new xs ys
          → since new.stage call came (came_by call old new) ≡ xs
          → since new.stage call said (ends_said_by call old new) ≡ ys
          → Ends h units new (since new.stage call came (came_by call old new))
          (since new.stage call said (ends_said_by call old new))
      both xs ys x e f = subst (λ z. Ends h units new z (since new.stage call said (ends_said_by call old new))) (sym e)
          (subst (λ z. Ends h units new xs z) (sym f) x)

      by : (b : Bool) → is_dead new.stage ≡ b → Ends h units new (since new.stage call came (came_by call old new))
          (since new.stage call said (ends_said_by call old new))
      by true is = grind (arith, both, none_left, no_more, ends_of)
      by false is = grind (arith, both, ends_of, append-nil)
