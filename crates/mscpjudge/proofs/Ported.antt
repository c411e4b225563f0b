-- What comes of the lines of a log for the ports, a line more at a time.
use Rattle.mscpjudge.proofs.Common.{Bool, Err, Kind, List, None, Ok, OnOk, Option, Part, Result, ScriptFault, Section, Some, [], ap, arith, false, fault_after, fault_in, fault_or, first_fault, get_or, get_or-map, get_or-set_other, get_or-set_same, have_ports, if◌then◌else◌, is_port, kind_by, kind_in, length, length-map, line_kind, map, map-set, nat_eq, nat_lt, nat_tests, no_part, part_after, part_at, part_by, part_in, port_after, refl, said, set, shown, subst, suc, sym, true, with_line, without_time, words, zero, ℕ, ◌++◌, ◌+◌, ◌<◌, ◌||◌, ◌∙◌, ◌∷◌, ◌≡◌, ◌≢◌}
use Rattle.mscp_reader.specs.declared.fault.Cause.TheVariants as causes
use Rattle.mscpjudge.specs.declared.ports.Kind.TheVariants as kinds

-- an empty line says nothing, whatever its number
empty_by : (many : Bool) → kind_in (if many then Err causes.Lines else said []) ≡ kinds.Bare
unfolding said words kind_by without_time
empty_by true = refl
empty_by false = refl

pub kind_empty : (number : ℕ) (line : List ℕ) → length line ≡ 0 → line_kind number line ≡ kinds.Bare
unfolding line_kind
kind_empty number [] h = empty_by (nat_lt 1000000 number)
kind_empty number (b ∷ line) h = absurd (omega arith)

-- whether a line begins with the word `port`
pub have_more : (n place : ℕ) (line : List ℕ) (rest : List (List ℕ)) → place ≡ n + 1
    → have_ports n (line ∷ rest) ≡ (is_port (line_kind place line) || have_ports place rest)
unfolding have_ports
have_more n place line rest e =
    subst (λ k. have_ports n (line ∷ rest) ≡ (is_port (line_kind k line) || have_ports k rest)) (sym e) refl

pub have_none : (n : ℕ) → have_ports n [] ≡ false
unfolding have_ports
have_none n = refl

-- the first of them at fault
pub fault_more : (n place : ℕ) (line : List ℕ) (rest : List (List ℕ)) → place ≡ n + 1
    → fault_in n (line ∷ rest) ≡ fault_or place (line_kind place line) (fault_in place rest)
unfolding fault_in
fault_more n place line rest e =
    subst (λ k. fault_in n (line ∷ rest) ≡ fault_or k (line_kind k line) (fault_in k rest)) (sym e) refl

pub fault_none : (n : ℕ) → fault_in n [] ≡ None
unfolding fault_in
fault_none n = refl

-- what is known so far comes before it
pub first_more : (old : Option ScriptFault) (number : ℕ) (kind : Kind) (rest : Option ScriptFault)
    → first_fault old (fault_or number kind rest) ≡ first_fault (fault_after old number kind) rest
first_more (Some fault) number kind rest = refl
first_more None number (kinds.Faulty cause) rest = refl
first_more None number (kinds.Names n) rest = refl
first_more None number kinds.Bare rest = refl
first_more None number kinds.Says rest = refl

pub first_none : (old : Option ScriptFault) → first_fault old None ≡ old
first_none None = refl
first_none (Some fault) = refl

-- what is known of a port
pub part_more : (port n place at : ℕ) (part : Part) (line : List ℕ) (rest : List (List ℕ)) → place ≡ n + 1
    → part_in port n at part (line ∷ rest)
    ≡ part_in port place (port_after at (line_kind place line))
    (part_after port at place (line_kind place line) line part) rest
unfolding part_in
part_more port n place at part line rest e =
    subst (λ k. part_in port n at part (line ∷ rest)
    ≡ part_in port k (port_after at (line_kind k line)) (part_after port at k (line_kind k line) line part) rest)
    (sym e) refl

pub part_none : (port n at : ℕ) (part : Part) → part_in port n at part [] ≡ part
unfolding part_in
part_none port n at part = refl

-- ---- the sections of all ports

-- no line was read
pub all_none : (xs : List Section) (x : Section) (port : ℕ) → part_by x ≡ no_part
    → ((q : ℕ) → part_at xs q ≡ no_part) → part_at (xs ++ x ∷ []) port ≡ no_part
all_none [] x zero e h = e
all_none [] x (suc n) e h = refl
all_none (y ∷ ys) x zero e h = h 0
all_none (y ∷ ys) x (suc n) e h = all_none ys x n e (λ q. h (suc q))

-- the section that stands at a place
pub part_here : (xs : List Section) (at : ℕ) (x : Section) → at < length xs → x ≡ get_or xs at x
    → part_at xs at ≡ part_by x
part_here xs at x h e = get_or-map part_by xs at x no_part h ∙ ap part_by (sym e)

-- it is changed, and no other
pub part_same : (xs : List Section) (at : ℕ) (new : Section) → at < length xs
    → part_at (set xs at new) at ≡ part_by new
part_same xs at new h =
    ap (λ ys. get_or ys at no_part) (map-set part_by xs at new)
    ∙ get_or-set_same (map part_by xs) at (part_by new) no_part (omega (arith, length-map xs part_by))

pub part_other : (xs : List Section) (at port : ℕ) (new : Section) → port ≢ at
    → part_at (set xs at new) port ≡ part_at xs port
part_other xs at port new ne =
    ap (λ ys. get_or ys port no_part) (map-set part_by xs at new)
    ∙ get_or-set_other (map part_by xs) at port (part_by new) no_part ne

part_by_test : (xs : List Section) (at port : ℕ) (x new : Section) (f : Part → Part) → at < length xs
    → x ≡ get_or xs at x → part_by new ≡ f (part_by x) → (b : Bool) → nat_eq at port ≡ b
    → part_at (set xs at new) port ≡ (if b then f (part_at xs port) else part_at xs port)
part_by_test xs at port x new f h e p true d =
    let same : at ≡ port = grind (arith, nat_tests) in
    subst (λ q. part_at (set xs at new) q ≡ f (part_at xs q)) same
    (part_same xs at new h ∙ p ∙ ap f (sym (part_here xs at x h e)))
part_by_test xs at port x new f h e p false d =
    let ne : port ≢ at = grind (arith, nat_tests) in part_other xs at port new ne

-- one line more
pub parts_said : (xs : List Section) (at number port : ℕ) (kind : Kind) (line : List ℕ) (x new : Section)
    → kind ≡ kinds.Says → at < length xs → x ≡ get_or xs at x
    → part_by new ≡ shown (with_line number line (part_by x))
    → part_at (set xs at new) port ≡ part_after port at number kind line (part_at xs port)
parts_said xs at number port kind line x new k h e p =
    subst (λ y. part_at (set xs at new) port ≡ part_after port at number y line (part_at xs port)) (sym k)
    (part_by_test xs at port x new (λ part. shown (with_line number line part)) h e p (nat_eq at port) refl)

pub parts_named : (xs : List Section) (at named number port : ℕ) (kind : Kind) (line : List ℕ) (x new : Section)
    → kind ≡ kinds.Names named → named < length xs → x ≡ get_or xs named x → part_by new ≡ shown (part_by x)
    → part_at (set xs named new) port ≡ part_after port at number kind line (part_at xs port)
parts_named xs at named number port kind line x new k h e p =
    subst (λ y. part_at (set xs named new) port ≡ part_after port at number y line (part_at xs port)) (sym k)
    (part_by_test xs named port x new shown h e p (nat_eq named port) refl)

-- what follows where a call succeeds
pub on_ok : {T E : Type 0} (r : Result T E) (P Q : Type 0) → OnOk r P → (P → Q) → OnOk r Q
on_ok (Ok x) P Q h f = f h
on_ok (Err x) P Q h f = h
