-- What is held after moments that came one after the other, each with a picker of its own, is that of a legal trace.
use Rattle.mscp_judge.proofs.Common.{◌≡◌, [], ◌∷◌, ◌++◌, refl, sym, subst, arith, append-nil, None, Option, append_assoc, Event, Entry, IsValid, Settings, Moment, Trace, Answers, Holdings, fresh, IsLegal, none_held, turns, legal_more, owner_kept, Agrees, Turns, Name, Wanted, IsNamed, Led, with_picker}

-- one more moment
pub led_more : (old mid new : Holdings Wanted) (ms : Trace) (name : Option Name) (e : Event) (n : Entry)
    → Led old ms mid → Answers (IsNamed name) (with_picker mid name) e n new → Led old (ms ++ (e, n) ∷ []) new
led_more old mid new [] name e n l a = search arith
led_more old mid new (m ∷ ms) name e n l a = (l.0, l.1, l.2, led_more l.1 mid new ms name e n l.3 a)

-- what is known after a legal trace
pub record Follow (c : Settings) (t : Trace) (h : Holdings Wanted) : Type 0 where
  pub settings : h.settings ≡ c
  pub legal : IsLegal c t
  pub agrees : Agrees c t h
  pub unbegun : h.begun ≡ None

pub turn_of : (c : Settings) (t : Trace) (h h' : Holdings Wanted) (name : Option Name) (event : Event) (entry : Entry)
    → IsValid c → Follow c t h → Answers (IsNamed name) (with_picker h name) event entry h'
    → Turns c (IsNamed name) t (event, entry) h.begun h'
turn_of c t h h' name event entry v k r =
    let picks = IsNamed name in
    let m : Moment = (event, entry) in
    let g : Holdings Wanted = with_picker h name in
    let a : Agrees c t g = record { follows = k.agrees.follows; driven = k.agrees.driven } in
    subst (λ s. Turns s picks t m h.begun h') k.settings
    (turns picks g h' t event entry (subst IsValid (sym k.settings) v) (subst (λ s. Agrees s t g) (sym k.settings) a) r)

pub follow_more : (c : Settings) (t : Trace) (h h' : Holdings Wanted) (name : Option Name) (event : Event)
    (entry : Entry) → IsValid c → Follow c t h → Answers (IsNamed name) (with_picker h name) event entry h'
    → Follow c (t ++ (event, entry) ∷ []) h'
follow_more c t h h' name event entry v k r =
    search (arith, turn_of c t h h' name event entry v k r, owner_kept, legal_more)

follow_on : (c : Settings) (t : Trace) (h h' : Holdings Wanted) (ms : Trace) → IsValid c → Follow c t h → Led h ms h'
    → Follow c (t ++ ms) h'
follow_on c t h h' [] v k l = search (arith, append-nil t)
follow_on c t h h' (m ∷ ms) v k l =
    subst (λ u. Follow c u h') (append_assoc t (m ∷ []) ms)
    (follow_on c (t ++ m ∷ []) l.1 h' ms v (follow_more c t h l.1 l.0 m.0 m.1 v k l.2) l.3)

pub follow : (c : Settings) (begun : Wanted) (t : Trace) (h : Holdings Wanted) → IsValid c → Led (fresh c begun) t h
    → Follow c t h
follow c begun t h v l =
    follow_on c [] (fresh c begun) h t v
    (record { settings = refl; legal = λ i k. absurd (omega (arith, k)); agrees = none_held c begun; unbegun = refl }) l
