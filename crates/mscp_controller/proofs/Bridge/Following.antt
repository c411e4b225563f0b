-- Every answer is right and picked, and what is then held is that of the run.
use Rattle.mscp_controller.proofs.Bridge.Basics.{◌≡◌, ℕ, suc, ◌≤◌, List, [], ◌∷◌, ◌++◌, map, drop, length, refl, ap, sym, ◌∙◌, subst, append-nil, arith, zip, slice_get, Option, Some, None, option_map, append_assoc, ArrayVec, End, end_bytes, Connection, Block, Report, Choice, figures, Line, Event, Entry, Settings, IsValid, Both, of, put, Trace, Moment, collect, waiting, ends, untaken, IsLegal, IsPicked, IsRight, Answered, Answers, Holdings, Steps, after_take, fresh, owner_kept, unbegun_kept, legal_more, picked_more, known_empty, held_of, figures_held, untaken_taken, driven_fresh, Agrees, IsUntaken, Sends, ends_on, ends_stay, quiet, sends}
use Rattle.mscp_controller.proofs.Bridge.Stepped.{Turns, of_after, turns_at}

-- ---- a look
looks : {K : Type 0} (h : Holdings K) (t : Trace) (list : ArrayVec (Connection × ℕ × ℕ))
    → 1 ≤ h.settings.longest → Agrees h.settings t h
    → list.items ≡ figures h.settings.budget h.waiting → Sends h.settings t (Event.Look, Entry.Looked list) h
looks h t list l a e =
    let m : Moment = (Event.Look, Entry.Looked list) in
    let r = e ∙ (ap (figures h.settings.budget) a.follows.waits ∙ figures_held h.settings t) in
    quiet
    h h t m l (record { unserved = refl; kept = λ r. refl }) refl refl refl (λ via. ends_stay via h t m refl a refl) a r

-- ---- a take
-- the moment of a take of an end, or of none
abbrev taking : Connection → Option End → Moment
taking via end = (Event.Take via, Entry.Taken via (option_map (λ e. record { items = end_bytes e }) end))

-- the ends that are then held, where these are the connection's
all_held : {K : Type 0} (via : Connection) (h : Holdings K) (t : Trace) (u : End) → Agrees h.settings t h
    → IsUntaken h t (taking via (Some u)) (after_take via h)
all_held via h t u h4 h5 = grind (arith, ends_stay, untaken_taken)

put_same : (via : Connection) (us : Both (List End)) → of via us ≡ [] → put via (drop 1 (of via us)) us ≡ us
put_same via us h2 = grind arith

takes_when : {K : Type 0} (via : Connection) (h : Holdings K) (t : Trace) → 1 ≤ h.settings.longest → Agrees h.settings
    t h → (us : List End) → of via h.untaken ≡ us → Sends h.settings t (taking via (slice_get us 0)) (after_take via h)
takes_when {K} via h t l a [] e =
    let m = taking via None in
    let r : IsRight h.settings t m.0 m.1 = search arith in
    subst (λ (us : Both (List End)). Sends h.settings t m (record h { untaken = us }))
    (sym (put_same via h.untaken e)) (quiet h h t
    m l (record { unserved = refl; kept = λ r. refl }) refl refl refl (λ other. ends_stay other h t m refl a refl) a r)
takes_when via h t l a (u ∷ us) e =
    let m = taking via (Some u) in
    let r : IsRight h.settings t m.0 m.1 = search arith in
    quiet
    h (after_take via h) t m l (record { unserved = refl; kept = λ r. refl }) refl refl refl (all_held via h t u a) a r

-- ---- a step
pub none_mapped : {X Y : Type 0} (f : X → Y) (xs : List X) → map f xs ≡ [] → xs ≡ []
none_mapped f [] e = refl
none_mapped f (x ∷ xs) e = absurd (omega (arith, ap length e))

module _ {K : Type 0} (picks : List Choice → ℕ → Type 0) (h h' : Holdings K) (t : Trace) where
  idles : (k : Block) → IsValid h.settings → Agrees h.settings t h
      → Steps picks k h Report.Idle h' → Turns h.settings picks t (Event.Step k, Entry.Stepped Report.Idle) h.begun h'
  idles k v a s =
      let c = h.settings in
      let m : Moment = (Event.Step k, Entry.Stepped Report.Idle) in
      let none : waiting t ≡ [] = none_mapped (held_of t) (waiting t) (sym a.follows.waits ∙ s.serves.0) in
      let ends : IsUntaken h t m h' = search (arith, of_after, ends_on) in
      record {
        sends = quiet h h' t m v.some_blocks (record { unserved = refl; kept = λ r. refl })
            refl (ap (λ (l : Line K). l.waiting) s.serves.2) (ap (λ (l : Line K). l.drives) s.serves.2) ends a none;
        same = λ n b. tt;
        picked = λ b. tt;
      }

  steps : (k : Block) (report : Report) → IsValid h.settings → Agrees h.settings t h
      → Steps picks k h report h' → Turns h.settings picks t (Event.Step k, Entry.Stepped report) h.begun h'
  steps k Report.Idle v a s = idles k v a s
  steps k (Report.Served connection reference unit lbn started seek ended) v a s = turns_at
      picks h h' t k (Report.Served connection reference unit lbn started seek ended) s.serves.0 v a s.serves.1 s.ends

  -- ---- every event
  -- each answer is right and picked, and what is then held is that of the run
  pub turns : (event : Event) (entry : Entry) → IsValid h.settings
      → Agrees h.settings t h → Answers picks h event entry h' → Turns h.settings picks t (event, entry) h.begun h'
  turns (Event.Send via message) (Entry.Sent other sent) v a r = search (arith, sends via h t message v.some_blocks a)
  turns (Event.Take via) (Entry.Taken other end) v a r =
      search (arith, takes_when via h t v.some_blocks a (of via h.untaken) refl, sends)
  turns (Event.Step k) (Entry.Stepped report) v a r = steps k report v a r
  turns Event.Look (Entry.Looked list) v a r = search (arith, looks h t list v.some_blocks a r.0, sends)
  turns _ _ v a r = absurd r

-- ---- a whole history
-- what is known after each part of a history
pub record Comes {K : Type 0} (c : Settings) (picks : List Choice → ℕ → Type 0) (t : Trace) (h : Holdings K) :
    Type 0 where
  pub settings : h.settings ≡ c
  pub legal : IsLegal c t
  pub picked : IsPicked c picks t
  pub agrees : Agrees c t h
  pub unbegun : h.begun ≡ None

module _ {K : Type 0} (c : Settings) (picks : List Choice → ℕ → Type 0) where
  comes_more : (t : Trace) (h h' : Holdings K) (event : Event) (entry : Entry)
      → IsValid c → Answers picks h event entry h' → Comes c picks t h → Comes c picks (t ++ (event, entry) ∷ []) h'
  comes_more t h h' event entry v r k =
      let m : Moment = (event, entry) in
      let turn : Turns c picks t m h.begun h' = subst (λ s. Turns s picks t m h.begun h') k.settings (turns picks
      h h' t event entry (subst IsValid (sym k.settings) v) (subst (λ s. Agrees s t h) (sym k.settings) k.agrees) r) in
      record {
        settings = (owner_kept picks h h' event entry r).0 ∙ k.settings;
        legal = legal_more c t m k.legal turn.sends.right;
        picked = picked_more c picks t m k.picked (turn.picked k.unbegun);
        agrees = turn.sends.agrees;
        unbegun = unbegun_kept picks h h' event entry k.unbegun r;
      }

  comes_after : (t : Trace) (h h' : Holdings K) (es : List Event) (ns : List Entry)
      → IsValid c → Answered picks h es ns h' → Comes c picks t h → Comes c picks (t ++ zip es ns) h'
  comes_after t h h' [] [] v r k = search (arith, append-nil t)
  comes_after t h h' (e ∷ es) (n ∷ ns) v r k = subst (λ u. Comes c picks u h') (append_assoc t
      ((e, n) ∷ []) (zip es ns)) (comes_after (t ++ (e, n) ∷ []) r.0 h' es ns v r.2 (comes_more t h r.0 e n v r.1 k))
  comes_after t h h' _ _ v r k = absurd r

none_untaken : (c : Settings) (via : Connection) → of via (record { first = []; second = [] }) ≡ untaken c via []
unfolding untaken ends collect
none_untaken c via = grind arith

pub none_held : {K : Type 0} (c : Settings) (picker : K) → Agrees c [] (fresh c picker)
unfolding waiting
none_held c picker = search (arith, known_empty c, none_untaken c, driven_fresh c)

-- What a new controller answers to events comes so.
pub comes : {K : Type 0} (c : Settings) (picks : List Choice → ℕ → Type 0) (picker : K) (h : Holdings K) (es : List
    Event) (ns : List Entry) → IsValid c → Answered picks (fresh c picker) es ns h → Comes c picks (zip es ns) h
comes {K} c picks picker h es ns v r = comes_after c picks [] (fresh c picker) h es ns v r (record {
  settings = refl;
  legal = λ i l. absurd (omega (arith, l));
  picked = λ i l. absurd (omega (arith, l));
  agrees = none_held c picker;
  unbegun = refl;
})

-- there is one entry an event
pub as_many : {K : Type 0} (picks : List Choice → ℕ → Type 0) (h h' : Holdings K) (es : List Event) (ns : List Entry)
    → Answered picks h es ns h' → length ns ≡ length es
as_many picks h h' (e ∷ es) (n ∷ ns) r = ap (λ k. suc k) (as_many picks r.0 h' es ns r.2)
as_many picks h h' es ns h5 = grind arith
