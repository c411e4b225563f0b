-- What comes of the times of lines, a line more at a time.
use Rattle.mscpjudge.proofs.Common.{Bool, Connection, First, List, None, Option, Second, Some, Timed, Waiting, [], after_lines, after_said, ap, arith, cond, false, fun_ext, if◌then◌else◌, inl, inr, is_eq, key, line_says, line_time, lines_time, nat_cmp, nat_eq, nat_tests, no_time, refl, same_connection, subst, sym, true, with_waiting, ℕ, ◌&&◌, ◌+◌, ◌<◌, ◌∙◌, ◌∷◌, ◌≡◌, ◌≤◌, ◌⊎◌}

-- ---- the time of each line

same : (n : ℕ) → nat_eq n n ≡ true
same n = grind (arith, nat_tests)

other : (m n : ℕ) → n < m → nat_eq m n ≡ false
other m n h = grind (arith, nat_tests)

pub time_here : (n place : ℕ) (line : List ℕ) (rest : List (List ℕ)) → place ≡ n + 1
    → lines_time n (line ∷ rest) place ≡ line_time place line
unfolding lines_time
time_here n place line rest e =
    subst (λ k. lines_time n (line ∷ rest) k ≡ line_time k line) (sym e)
    (ap (λ b. if b then line_time (n + 1) line else lines_time (n + 1) rest (n + 1)) (same (n + 1)))

pub time_later : (n place number : ℕ) (line : List ℕ) (rest : List (List ℕ)) → place ≡ n + 1 → place < number
    → lines_time n (line ∷ rest) number ≡ lines_time place rest number
unfolding lines_time
time_later n place number line rest e h =
    ap (λ b. if b then line_time number line else lines_time (n + 1) rest number)
    (other number (n + 1) (omega (arith, e)))
    ∙ ap (λ k. lines_time k rest number) (sym e)

pub time_none : (n number : ℕ) → lines_time n [] number ≡ None
unfolding lines_time
time_none n number = refl

-- no line stands before those of which each has a later number
pub time_before : (n number : ℕ) (all : List (List ℕ)) → number ≤ n → lines_time n all number ≡ None
unfolding lines_time
time_before n number [] h = refl
time_before n number (line ∷ rest) h =
    ap (λ b. if b then line_time number line else lines_time (n + 1) rest number)
    (let k : nat_eq number (n + 1) ≡ false = grind (arith, nat_tests) in k)
    ∙ time_before (n + 1) number rest (omega arith)

-- times are known of so many lines of all
pub record Past (n : ℕ) (all rest : List (List ℕ)) (times : ℕ → Option ℕ) : Type 0 where
  pub past : (number : ℕ) → number ≤ n → times number ≡ lines_time 0 all number
  pub none : (number : ℕ) → n < number → times number ≡ None
  pub next : (number : ℕ) → n < number → lines_time 0 all number ≡ lines_time n rest number

below_or_last : (number n : ℕ) → number ≤ n + 1 → (number ≤ n) ⊎ (number ≡ n + 1)
below_or_last number n h = grind arith

pub past_more : (n place : ℕ) (all rest : List (List ℕ)) (line : List ℕ) (old new : ℕ → Option ℕ) → place ≡ n + 1
    → Past n all (line ∷ rest) old → new place ≡ line_time place line
    → ((number : ℕ) → nat_eq place number ≡ false → new number ≡ old number) → Past place all rest new
past_more n place all rest line old new e p here others = record {
  past = λ number h. elim (below_or_last number n (omega (arith, e))) [
    | inl before ↦
        others number (let k : number < place = omega arith in other place number k) ∙ p.past number before
    | inr last ↦
        let k : place ≡ number = e ∙ sym last in
        subst (λ m. new m ≡ lines_time 0 all m) k
        (here ∙ sym (p.next place (omega arith) ∙ time_here n place line rest e))
  ];
  none = λ number h.
      others number (grind (arith, nat_tests)) ∙ p.none number (omega arith);
  next = λ number h. p.next number (omega arith) ∙ time_later n place number line rest e h;
}

compared : (m n : ℕ) → is_eq (nat_cmp m n) ≡ nat_eq m n
compared m n = grind (arith, nat_tests)

-- a time that is put at a line
pub put_here : (old new : ℕ → Option ℕ) (k time : ℕ)
    → ((q : ℕ) → new q ≡ cond (is_eq (nat_cmp k q)) (Some time) (old q)) → new k ≡ Some time
put_here old new k time h = h k ∙ ap (λ b. cond b (Some time) (old k)) (compared k k ∙ same k)

pub put_other : (old new : ℕ → Option ℕ) (k time : ℕ)
    → ((q : ℕ) → new q ≡ cond (is_eq (nat_cmp k q)) (Some time) (old q)) → (number : ℕ) → nat_eq k number ≡ false
    → new number ≡ old number
put_other old new k time h number e =
    h number ∙ ap (λ b. cond b (Some time) (old number)) (compared k number ∙ e)

pub not_some : (o : Option ℕ) → ((x : ℕ) → o ≡ Some x → ⊥) → o ≡ None
not_some None h = refl
not_some (Some x) h = absurd (h x refl)

at_or_behind : (number n : ℕ) → (number ≤ n) ⊎ (n < number)
at_or_behind number n = grind arith

pub past_all : (n : ℕ) (all : List (List ℕ)) (times : ℕ → Option ℕ) → Past n all [] times → times ≡ lines_time 0 all
past_all n all times p = fun_ext (λ number. elim (at_or_behind number n) [
  | inl before ↦ p.past number before
  | inr behind ↦ p.none number behind ∙ sym (p.next number behind ∙ time_none n number)
])

-- ---- how long commands take

pub timed_more : (n place : ℕ) (t : Timed) (line : List ℕ) (rest : List (List ℕ)) → place ≡ n + 1
    → after_lines n t (line ∷ rest)
    ≡ after_lines place (after_said place (line_time place line) t (line_says place line)) rest
unfolding after_lines
timed_more n place t line rest e =
    subst (λ k. after_lines n t (line ∷ rest)
    ≡ after_lines k (after_said k (line_time k line) t (line_says k line)) rest) (sym e) refl

pub timed_none : (n : ℕ) (t : Timed) → after_lines n t [] ≡ t
unfolding after_lines
timed_none n t = refl

-- ---- the commands that wait

same_key : (a b : Connection) (m n : ℕ) → nat_eq (key a m) (key b n) ≡ (same_connection a b && nat_eq m n)
same_key First First m n = grind (arith, nat_tests)
same_key First Second m n = grind (arith, nat_tests)
same_key Second First m n = grind (arith, nat_tests)
same_key Second Second m n = grind (arith, nat_tests)

-- an entry of the map is put or removed
pub put_waiting : (old new : ℕ → Option Waiting) (via : Connection) (reference k : ℕ) (w : Option Waiting)
    → k ≡ key via reference → ((q : ℕ) → new q ≡ cond (is_eq (nat_cmp k q)) w (old q))
    → (λ (o : Connection) (n : ℕ). new (key o n)) ≡ with_waiting (λ o n. old (key o n)) via reference w
put_waiting old new via reference k w e h =
    fun_ext (λ o. fun_ext (λ n. h (key o n)
    ∙ ap (λ b. cond b w (old (key o n)))
    (compared k (key o n) ∙ ap (λ j. nat_eq j (key o n)) e ∙ same_key via o reference n)))

-- nobody of a name that nobody has
chosen : (b : Bool) (x : Option Waiting) → (b ≡ true → x ≡ None) → (if b then None else x) ≡ x
chosen true x h = sym (h refl)
chosen false x h = refl

named : (old : Connection → ℕ → Option Waiting) (via o : Connection) (reference n : ℕ)
    → (same_connection via o && nat_eq reference n) ≡ true → old via reference ≡ old o n
named old First First reference n e = let k : reference ≡ n = grind (arith, nat_tests) in ap (old First) k
named old First Second reference n e = cc
named old Second First reference n e = cc
named old Second Second reference n e = let k : reference ≡ n = grind (arith, nat_tests) in ap (old Second) k

pub nobody_more : (old : Connection → ℕ → Option Waiting) (via : Connection) (reference : ℕ)
    → old via reference ≡ None → old ≡ with_waiting old via reference None
nobody_more old via reference h =
    fun_ext (λ o. fun_ext (λ n. sym (chosen (same_connection via o && nat_eq reference n) (old o n)
    (λ e. sym (named old via o reference n e) ∙ h))))

-- ---- times of lines, at the beginning and where a line tells none

pub past_none : (n : ℕ) (all : List (List ℕ)) (times : ℕ → Option ℕ) → n ≡ 0 → times ≡ no_time → Past n all all times
past_none n all times e h = record {
  past = λ number l. ap (λ (f : ℕ → Option ℕ). f number) h ∙ sym (time_before 0 number all (omega arith));
  none = λ number l. ap (λ (f : ℕ → Option ℕ). f number) h;
  next = λ number l. ap (λ k. lines_time k all number) (sym e);
}

pub past_same : (n place : ℕ) (all rest : List (List ℕ)) (line : List ℕ) (times : ℕ → Option ℕ) → place ≡ n + 1
    → Past n all (line ∷ rest) times → None ≡ line_time place line → Past place all rest times
past_same n place all rest line times e p h =
    past_more n place all rest line times times e p (p.none place (omega (arith, e)) ∙ h) (λ number k. refl)
