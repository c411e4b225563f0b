-- One more answer of a controller.
use Rattle.mscp_controller.proofs.Basics.{◌≡◌, ℕ, ◌+◌, ◌<◌, List, [], ◌∷◌, ◌++◌, take, get_or, length, refl, subst, arith, length_push, take_more, Choice, Event, Entry, Answered, Answers, Holdings, owner_kept}

-- one more answer, behind the others
answered_push : {K : Type 0} (picks : List Choice → ℕ → Type 0) (h m h' : Holdings K) (es : List Event)
    (ns : List Entry) (e : Event) (n : Entry) → Answered picks h es ns m → Answers picks m e n h'
    → Answered picks h (es ++ e ∷ []) (ns ++ n ∷ []) h'
answered_push {K} picks h m h' [] [] e n r a = (h', subst (λ (x : Holdings K). Answers picks x e n h') r a, refl)
answered_push picks h m h' (e' ∷ es) (n' ∷ ns) e n r a = (r.0, r.1, answered_push picks r.0 m h' es ns e n r.2 a)
answered_push picks h m h' _ _ e n r a = absurd r

-- what a controller has answered so far
pub record Goes {K : Type 0} (picks : List Choice → ℕ → Type 0) (start now : Holdings K) (events : List Event) (i : ℕ)
    (entries : List Entry) : Type 0 where
  pub answered : Answered picks start (take i events) entries now
  pub picker : now.picker ≡ start.picker
  pub many : length entries ≡ i

pub goes_more : {K : Type 0} (picks : K → List Choice → ℕ → Type 0) (start now next : Holdings K) (all : List Event)
    (i : ℕ) (so_far new : List Entry) (event : Event) (entry : Entry) → i < length all → event ≡ get_or all i event
    → Goes (picks start.picker) start now all i so_far → Answers (picks now.picker) now event entry next
    → new ≡ so_far ++ entry ∷ [] → Goes (picks start.picker) start next all (i + 1) new
goes_more {K} picks start now next all i so_far new event entry l e g a n =
    search (arith, take_more all i event l, length_push so_far entry, answered_push, owner_kept)
