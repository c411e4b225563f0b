-- What comes of bytes whose parts were read.
use Rattle.mscp_saved.proofs.Common.{All, ◌≡◌, ℕ, zero, suc, ◌+◌, ◌≤◌, List, [], ◌∷◌, drop, length, refl, ap, sym, subst, ◌∙◌, arith, true, Option, Some, None, IfNone, Err, length-append, End, Drive, Name, IsWaitable, Record, IsSound, made_of, IsValid, Settings, RestoreFault, all_waiting_in, drives_in, first_count, first_in, first_place, end_in, held_in, part, parts_in, second_count, second_in, second_place, settings_in, waiting_count, waiting_in, waiting_place, IsSaved, first_of, form_fault, frame_fault, is_framed, parts_fault, restored, settings_fault, unless}
use Rattle.mscp_saved.proofs.Framed.{framed_of}
use Rattle.mscp_saved.proofs.Outcomes.{IsRead, comes, frame_none, held_is, parts_back, sound_read}

-- so many parts are read
pub parts_long : {X : Type 0} (f : List ℕ → X) (size n : ℕ) (b : List ℕ) → length (parts_in f size n b) ≡ n
parts_long f size zero b = refl
parts_long f size (suc n) b =
    search (arith, parts_long f size n b, length-append (parts_in f size n b) (f (part size n b) ∷ []))

-- no more than a controller has
pub parts_few : (b : List ℕ) {rs : List Record} {first second : List End} → is_framed b ≡ true
    → rs ≡ all_waiting_in b → first ≡ first_in b → second ≡ second_in b → length rs + length first + length second ≤ 64
parts_few b {rs} {first} {second} framed w f s = search (
  arith,
  framed_of b framed,
  parts_long waiting_in 41 (waiting_count b) (drop (waiting_place b) b),
  parts_long end_in 48 (first_count b) (drop (first_place b) b),
  parts_long end_in 48 (second_count b) (drop (second_place b) b),
)

module _ {K : Type 0} (number : ℕ) (picker : K) {b : List ℕ} {c : Settings} {ds : List Drive}
    {rs : List Record} {first second : List End} {begun : Option Name} (h : IsRead b c ds rs first second begun)
    (frame : frame_fault b ≡ None) (settings : settings_fault (settings_in b (drives_in b))
    ≡ None) {o : Option RestoreFault} (told : o ≡ first_of (parts_fault c ds rs first second begun)
    (form_fault number b (made_of c rs first second ds begun (tt {0})))) where
  -- what is told of the parts comes of the bytes
  pub parted : restored number picker b ≡ unless (held_in picker b) o
  parted = sym (comes number picker b None None _ _ frame settings refl refl) ∙ ap (unless (held_in picker b))
      ((λ i. first_of (parts_back h i) (form_fault number b (sym (held_is (tt {0}) h) i))) ∙ sym told)

  none_first : (p q : Option RestoreFault) → None ≡ first_of p q → p ≡ None
  none_first None q e = refl
  none_first (Some fault) q e = cc

  -- where there is no fault, they are a controller's
  pub saved_if : IsValid c
      → IfNone o (All (λ r. IsWaitable c.longest c.units r.command) rs) → IfNone o (IsSaved picker b)
  saved_if valid waitable = by o told waitable
    where
      by : (o : Option RestoreFault)
          → o ≡ first_of (parts_fault c ds rs first second begun)
          (form_fault number b (made_of c rs first second ds begun (tt {0})))
          → IfNone o (All (λ r. IsWaitable c.longest c.units r.command) rs) → IfNone o (IsSaved picker b)
      by (Some fault) e w = tt
      by None e w = record {
        framed = frame_none b frame;
        sound = subst IsSound (held_is picker h) (sound_read picker h valid (none_first _ _ e) w);
        settings = settings;
      }

-- what comes of bytes whose settings have a fault
pub settings_refused : {K : Type 0} (number : ℕ) (picker : K) (b : List ℕ) {fault : RestoreFault} → frame_fault b ≡ None
    → settings_fault (settings_in b (drives_in b)) ≡ Some fault → restored number picker b ≡ Err fault
settings_refused number picker b {fault} frame settings =
    sym (comes number picker b None (Some fault) _ _ frame settings refl refl)
