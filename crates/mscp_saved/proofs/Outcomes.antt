-- What comes of bytes, step by step.
use Rattle.mscp_saved.proofs.Common.{All, ◌≡◌, ℕ, zero, suc, List, true, drop, refl, ap, sym, subst, arith, Option, Some, None, slice_index, Ok, All-nil, All-push, BodyKind, End, body_at, kind_of_body, kind_of_code, Drive, Name, IsWaitable, Record, IsSound, made_of, IsValid, Settings, RestoreFault, all_waiting_in, begun_in, drives_in, end_in, end_with, first_count, first_in, first_place, held_in, part, parts_in, second_count, second_in, second_place, settings_in, waiting_count, waiting_in, waiting_place, end_size, waiting_size, first_of, form_fault, frame_fault, is_framed, parts_fault, restored, settings_fault, unless}
use Rattle.mscp_saved.proofs.Sound.{IsReadWaiting, IsShapedIf, next, sound_of}

-- ---- what is read
parts_all : {X : Type 0} (P : X → Type 0) (f : List ℕ → X) → ((b : List ℕ) → P (f b)) → (size n : ℕ) (b : List ℕ)
    → All P (parts_in f size n b)
parts_all P f h size zero b = All-nil P
parts_all P f h size (suc n) b =
    All-push P (parts_in f size n b) (f (part size n b)) (parts_all P f h size n b) (h (part size n b))

read_waiting : (b : List ℕ) → IsReadWaiting (waiting_in b)
read_waiting b = record { weight = refl; good = refl }

kind_back : (kind : BodyKind) (b : List ℕ) → Some kind ≡ Some (kind_of_body (body_at kind b))
kind_back kind b = grind arith

shaped_with : (o : Option BodyKind) (b : List ℕ) → kind_of_code (slice_index b 8) ≡ o → IsShapedIf (end_with o b)
shaped_with o b h2 = grind (arith, kind_back)

shaped_in : (b : List ℕ) → IsShapedIf (end_in b)
shaped_in b = shaped_with (kind_of_code (slice_index b 8)) b refl

-- ---- what is said
-- what is read of these bytes
pub record IsRead (b : List ℕ) (c : Settings) (ds : List Drive) (rs : List Record) (first second : List End)
    (begun : Option Name) : Type 0 where
  pub settings : c ≡ settings_in b ds
  pub drives : ds ≡ drives_in b
  pub waiting : rs ≡ all_waiting_in b
  pub first_ends : first ≡ first_in b
  pub second_ends : second ≡ second_in b
  pub named : begun ≡ begun_in b

module _ {K : Type 0} (picker : K) {b : List ℕ} {c : Settings} {ds : List Drive}
    {rs : List Record} {first second : List End} {begun : Option Name} (h : IsRead b c ds rs first second begun) where
  pub held_is : made_of c rs first second ds begun picker ≡ held_in picker b
  held_is = search arith

  pub sound_read : IsValid c → parts_fault c ds rs first second begun ≡ None
      → All (λ r. IsWaitable c.longest c.units r.command) rs → IsSound (made_of c rs first second ds begun picker)
  sound_read valid none waitable =
      sound_of c ds rs first second begun picker valid (sym (ap (λ (c : Settings). c.units) h.settings))
      none waitable (subst (All IsReadWaiting) (sym h.waiting) (parts_all IsReadWaiting waiting_in read_waiting
      waiting_size (waiting_count b) (drop (waiting_place b) b))) (subst (All IsShapedIf) (sym h.first_ends)
      (parts_all IsShapedIf end_in shaped_in end_size (first_count b) (drop (first_place b) b))) (subst (All IsShapedIf)
      (sym h.second_ends) (parts_all IsShapedIf end_in shaped_in end_size (second_count b) (drop (second_place b) b)))

-- ---- what comes of it
-- a fault, or what there is where there is none
pub ok_is : {X : Type 0} {x y : X} {o : Option RestoreFault} → Ok y ≡ unless x o → (o ≡ None) × (y ≡ x)
ok_is {x = x} {y} {o} e = search arith

pub parts_back : {b : List ℕ} {c : Settings} {ds : List Drive} {rs : List Record} {first second : List End}
    {begun : Option Name} → IsRead b c ds rs first second begun → parts_fault (settings_in b (drives_in b))
    (drives_in b) (all_waiting_in b) (first_in b) (second_in b) (begun_in b) ≡ parts_fault c ds rs first second begun
parts_back {b} h = search arith

-- there is a head
pub frame_none : (b : List ℕ) → frame_fault b ≡ None → is_framed b ≡ true
frame_none b e = (next (is_framed b) RestoreFault.Length _ e).0

-- what comes of bytes with these faults
pub comes : {K : Type 0} (number : ℕ) (picker : K) (b : List ℕ) (frame settings parts form : Option RestoreFault)
    → frame_fault b ≡ frame → settings_fault (settings_in b (drives_in b)) ≡ settings
    → parts_fault (settings_in b (drives_in b)) (drives_in b) (all_waiting_in b) (first_in b) (second_in b) (begun_in b)
    ≡ parts → form_fault number b (held_in picker b) ≡ form
    → unless (held_in picker b) (first_of frame (first_of settings (first_of parts form))) ≡ restored number picker b
comes number picker b frame settings parts form e1 e2 e3 e4 = search arith
