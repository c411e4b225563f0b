-- What keeps a step from serving a command, as a controller and as the history have it.
use Rattle.mscp_judge.proofs.Common.{◌≡◌, ◌≢◌, inr, ⊎_elim, ℕ, ◌≤◌, Bool, true, false, List, [], ◌∷◌, map, length, refl, ap, sym, ◌∙◌, subst, arith, All, Contains, filter, find, nat_eq, nat_lt, slice_index_or, Option, Some, None, AllByRecursion, cases_Bool, eq-eqb, true≢false, length-map, take_all, All-contains, All-from_recursion, recursion_from_All, First, Name, Holder, figure_of_name, same_name, IsServing, Record, holders_of_name, is_nobody, every_from, every_mapped, every_parts, every_weaker, filter_none, filter_on, is_differ, is_same, same_is, filter_map_of, find_cases, find_first, find_none, map_map, IsValid, Settings, Trace, done, in_service, is_idle, is_waiting, name, waiting, figure_found, figure_of, EachWaiting, holders, holders_found, holders_of, Holdings, shown, is_startable, startable, figure_of_held, figures_held, held_of, holders_of_held, startable_unheld, all_of, waits_at, record_held, waiting_at, alone, every_split, progress, waits_in, startable_parts, cut_of, waiting_waits, Wanted, IsStepRule, is_open, named, named_in, names, starts_in}
use Rattle.mscp_judge.specs.declared.rules.Rule.TheVariants as rules
use Rattle.mscp_judge.proofs.Leading.{Follow}
use Rattle.mscp_judge.proofs.Unique.{some_same}

-- ---- a command in service

served_at : (t : Trace) (n : Name) (rs : List Record) → rs ≡ map (held_of t) (waiting t) → IsServing n rs
    → (x : ℕ) × (is_waiting t x ≡ true) × (in_service t x ≡ true) × (name t x ≡ n)
served_at t n rs e s = search (arith, length-map (waiting t) (held_of t), held_of t, record_held, waiting_at, waits_at)

pub is_own : (c : Settings) (t : Trace) (h : Holdings Wanted) (n : Name) → Follow c t h → IsServing n h.waiting
    → IsStepRule c t (Some n) rules.Service
is_own c t h n k s = search (arith, served_at t n h.waiting k.agrees.follows.waits s)

pub is_another : (c : Settings) (t : Trace) (h : Holdings Wanted) (wanted : Option Name) (served : Name)
    → Follow c t h → IsServing served h.waiting → wanted ≢ Some served
    → IsStepRule c t wanted (rules.InService served)
is_another c t h wanted served k s differ =
    search (arith, served_at t served h.waiting k.agrees.follows.waits s)

-- ---- no command of the name

-- the figure of a name that waits isn't 0
figured : (c : Settings) (t : Trace) (h : Holdings Wanted) → IsValid c → Follow c t h
    → EachWaiting t (λ x. 1 ≤ figure_of c t (name t x))
figured c t h v k x w = search (arith, progress c t v k.legal, take_all (length t) t (omega arith))

-- ---- a command that is kept back, or may start

idle_held : (t : Trace) (rs : List Record) → rs ≡ map (held_of t) (waiting t) → All (λ r. r.done ≡ 0) rs
    → is_idle t ≡ true
idle_held t rs e h =
    all_of (λ x. nat_eq (done t x) 0) (waiting t)
    (every_weaker (λ x. done t x ≡ 0) (λ x. nat_eq (done t x) 0 ≡ true) (λ x d. eq-eqb (done t x) 0 d) (waiting t)
    (every_mapped (held_of t) (λ (r : Record). r.done ≡ 0) (waiting t)
    (subst (AllByRecursion (λ (r : Record). r.done ≡ 0)) e (recursion_from_All (λ (r : Record). r.done ≡ 0) rs h))))

same_holders : (c : Settings) (t : Trace) (h : Holdings Wanted) (n : Name) → Follow c t h
    → holders_of_name h.settings.budget h.waiting n ≡ holders_of c t n
same_holders c t h n k = search (arith, holders_of_held c t n)

-- no command of the name waits
pub is_nowhere : (c : Settings) (t : Trace) (h : Holdings Wanted) (n : Name) → IsValid c → Follow c t h
    → All (λ r. r.done ≡ 0) h.waiting → figure_of_name h.settings.budget h.waiting n ≡ 0
    → IsStepRule c t (Some n) rules.NotWaiting
is_nowhere c t h n v k idle e = (
  idle_held t h.waiting k.agrees.follows.waits idle,
  λ x w named.
      let same : figure_of_name h.settings.budget h.waiting n ≡ figure_of c t n =
      (λ i. figure_of_name (k.settings i).budget (k.agrees.follows.waits i) n) ∙ figure_of_held c t n in
      let some = figured c t h v k x w in
      omega (arith, some, ap (figure_of c t) (some_same n (name t x) named), same, e),
)

-- or none is named
pub is_unnamed : (c : Settings) (t : Trace) (h : Holdings Wanted) → Follow c t h
    → All (λ r. r.done ≡ 0) h.waiting → IsStepRule c t None rules.NotWaiting
is_unnamed c t h k idle = (idle_held t h.waiting k.agrees.follows.waits idle, λ x w named. cc)

pub is_kept_back : (c : Settings) (t : Trace) (h : Holdings Wanted) (n : Name) (holder : Holder) (rest : List Holder)
    → Follow c t h → All (λ r. r.done ≡ 0) h.waiting
    → holders_of_name h.settings.budget h.waiting n ≡ holder ∷ rest → IsStepRule c t (Some n) (rules.KeptBack holder)
is_kept_back c t h n holder rest k idle e =
    (idle_held t h.waiting k.agrees.follows.waits idle, n, refl, rest, sym (same_holders c t h n k) ∙ e)

pub is_free_to : (c : Settings) (t : Trace) (h : Holdings Wanted) (n : Name) → Follow c t h
    → All (λ r. r.done ≡ 0) h.waiting → figure_of_name h.settings.budget h.waiting n ≢ 0
    → holders_of_name h.settings.budget h.waiting n ≡ [] → IsStepRule c t (Some n) rules.Service
unfolding figure_of holders_of
is_free_to c t h n k idle some none =
    let q : ℕ → Bool = λ x. same_name (name t x) n in
    let figured : figure_of_name h.settings.budget h.waiting n ≡ figure_found c t (find q (waiting t)) =
    (λ i. figure_of_name (k.settings i).budget (k.agrees.follows.waits i) n) ∙ figure_of_held c t n in
    ⊎_elim (λ nobody. absurd (some (figured ∙ ap (figure_found c t) (find_none q (waiting t) nobody)))) (λ found.
    let y = found.1 in
    let f = found.3 in
    let at : find q (waiting t) ≡ Some y = ap (find q) f.is ∙ find_first q found.0 y found.2 f.before f.passed in
    let nobody : holders c t y ≡ [] = sym (ap (holders_found c t) at) ∙ (sym (same_holders c t h n k) ∙ none) in
    let W : ℕ → Type 0 = λ x. is_waiting t x ≡ true in (
      y,
      (every_parts W found.0 (y ∷ found.2) (subst (AllByRecursion W) f.is (waiting_waits t))).1.0,
      inr (startable_unheld c t y (idle_held t h.waiting k.agrees.follows.waits idle) ∙ ap is_nobody nobody),
      ap Some (sym (same_is (name t y) n f.passed)),
    ))
    (find_cases q (waiting t))

abbrev pub no_holder : Holder
no_holder = record { connection = First; reference = 0; fences = false; overdrawn = false }

-- the first of some
pub some_first : (hs : List Holder) → hs ≢ [] → (rest : List Holder) × (hs ≡ slice_index_or hs 0 no_holder ∷ rest)
some_first [] some = absurd (some refl)
some_first (holder ∷ rest) some = (rest, refl)

-- ---- all that may start

-- of the name of a waiting command nobody is told exactly if nobody keeps it back
own_holders : (c : Settings) (t : Trace) (h : Holdings Wanted) → Follow c t h
    → AllByRecursion (λ y. holders_of c t (name t y) ≡ holders c t y) (waiting t)
unfolding holders_of
own_holders c t h k = search (arith, every_split, alone, cut_of, find_first, every_weaker, is_differ, is_same)

pub all_open : (c : Settings) (t : Trace) (h : Holdings Wanted) → Follow c t h → All (λ r. r.done ≡ 0) h.waiting
    → filter (is_open h.settings.budget h.waiting) (names h.settings.budget h.waiting) ≡ starts_in c t
unfolding startable
all_open c t h k idle =
    let W = waiting t in
    let rs = map (held_of t) W in
    let p = is_open c.budget rs in
    let now = idle_held t h.waiting k.agrees.follows.waits idle in
    let named_all : names c.budget rs ≡ map (named_in t) W =
    ap (map named) (figures_held c t) ∙ map_map (shown c t) named W in
    let each = every_weaker (λ y. holders_of c t (name t y) ≡ holders c t y)
    (λ y. p (named_in t y) ≡ is_startable c t y)
    (λ y e. ap is_nobody (holders_of_held c t (name t y) ∙ e) ∙ sym (startable_unheld c t y now)) W
    (own_holders c t h k) in
    search (arith, filter_map_of (named_in t) p W, filter_on)

pub none_open : (c : Settings) (t : Trace) (h : Holdings Wanted) (n : Name) → Follow c t h → IsServing n h.waiting
    → [] ≡ starts_in c t
unfolding startable
none_open c t h n k s =
    let x = served_at t n h.waiting k.agrees.follows.waits s in
    let served : (y : ℕ) → is_startable c t y ≡ true → ⊥ = λ y e.
    let idle = one_in (waiting t) (startable_parts c t y e).idle x.0 (waits_in t x.0 x.1) in
    true≢false (sym x.2 ∙ ap (nat_lt 0) idle) in
    search (arith, filter_none, every_from)
  where
    one_in : (xs : List ℕ) → AllByRecursion (λ z. done t z ≡ 0) xs → (z : ℕ) → Contains xs z → done t z ≡ 0
    one_in xs all z w = All-contains (λ y. done t y ≡ 0) xs z (All-from_recursion (λ y. done t y ≡ 0) xs all) w

    never : (y : ℕ) → (is_startable c t y ≡ true → ⊥) → is_startable c t y ≡ false
    never y cannot = ⊎_elim (λ e. absurd (cannot e)) (λ e. e) (cases_Bool (is_startable c t y))
