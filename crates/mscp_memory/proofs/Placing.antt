-- What it takes to put a value of either type into a handle's room.
--     one          a value of one type is one machine value
--     big_lit      a constant of many digits
--     unmade       what is room isn't made
--     Goes-blank   nothing is left of a value that was moved, where what is left of it is made of nothing
use Rattle.mscp_memory.proofs.Common.{◌≡◌, ℕ, List, [], ◌∷◌, refl, sym, Bool, true, false, via, guard_i, Lfts, Kept, Last, left, blank, had, Slot, Goes, stay_dropped, Ty, Width, int_big, Val, vint, has_ty, WT, Fits, Env, Item, Opd, Ura, Logic, Typed, Option, is_none, fault_unless}
use lib.Dec.{T}
use Rattle.mscp_memory.specs.declared.fault.RoomFault.{RoomFault}

pub one : (τ : Ty) (vs : List Val) → Typed (τ ∷ []) vs → (v : Val) × (vs ≡ v ∷ []) × (T (has_ty τ v) × WT v)
one τ [] t = absurd t
one τ (v ∷ []) t = (v, refl, t.0)
one τ (v ∷ w ∷ vs) t = absurd t.1

module _ {M : Type 1} {𝓤 : Ura M} {𝓛 : Logic 𝓤} {K : Type 0} {Γ : List (Item 𝓤)} {E : Env 𝓤 𝓛.H} where
  pub big_lit : K → {w : Width} {n : ℕ} → Fits w n → Opd K 𝓛 Γ E (int_big w n) (vint w n)
  big_lit t {w} {n} z = record { go = λ Kt h. via 𝓤 (Kt (vint w n)) h (guard_i 𝓤 (Fits w n) (Kt (vint w n)) z) }

pub unmade : (y z : Bool) (fault : Option RoomFault) → is_none (fault_unless y z fault) ≡ true → y ≡ false
unmade true z fault e = absurd (mathlib.Core.Path.subst T (sym e) tt)
unmade false z fault e = refl

pub Goes-blank : {M : Type 1} {𝓤 : Ura M} (𝓛 : Logic 𝓤) (n : ℕ) (s : Slot n) (k : Kept)
    → ((κs : Lfts n) (x : (s.row κs).Denot) (w : Last ((s.row κs).exit k) x) → T (blank (left ((s.row κs).exit k) x w)))
    → Goes 𝓛 n s k (stay_dropped s k)
Goes-blank {𝓤 = 𝓤} 𝓛 n s k is κs x w vs ok =
    via 𝓤 _ (had 𝓛 (left ((s.row κs).exit k) x w) (is κs x w)) (𝓛.laws.⇛_intro _)
