-- What a message aborts: the same by records and by history.
use Rattle.mscp_controller.proofs.Basics.{◌≡◌, ◌≢◌, ⊎_elim, ℕ, Bool, true, false, not, List, [], ◌∷◌, map, ap, sym, ◌∙◌, subst, arith, filter, find, if◌then◌else◌, Option, Some, None, option_map, option_to_list, slice_get, Ok, AllByRecursion, Command, Order, AreApart, names, Name, aborted_end, Record, aborted_record, has_name, name_of, without, Connection, name_on, same_name, differ_is, is_differ, is_same, same_is, found_once, every_from, every_mapped, every_parts, every_weaker, filter_all, filter_on, filter_map_of, find_cases, find_first, find_none, map_map, Settings, Trace, command, name, reference, waiting, good, ends_in, is_waiting, named, record_aborted, reference_aborted, begun_after, unaborted, Sent, Apart, cut, waits_below}
use Rattle.mscp_controller.specs.declared.entry.Entry.TheVariants as entries
use Rattle.mscp_controller.specs.Ends as history
use Rattle.mscp_controller.proofs.Bridge.Held.{held_of}

-- ---- who is aborted
names_from : (t : Trace) (x : ℕ) (xs : List ℕ) → AllByRecursion (λ y. name t x ≢ name t y) xs
    → AllByRecursion (λ n. n ≢ name t x) (names (map (held_of t) xs))
names_from t x [] h = tt
names_from t x (y ∷ ys) h = ((λ e. h.0 (sym e)), names_from t x ys h.1)

apart_held : (t : Trace) (xs : List ℕ) → Apart t xs → AreApart (names (map (held_of t) xs))
apart_held t [] a = tt
apart_held t (x ∷ xs) a = (names_from t x xs a.0, apart_held t xs a.1)

-- the records of those that an order names
named_held : (via : Connection) (t : Trace) (ws : List Record) (o : Order) → Apart t (waiting t)
    → ws ≡ map (held_of t) (waiting t) → map (held_of t) (named via t o) ≡ option_to_list (record_aborted via ws o)
named_held via t ws (Order.Abort other) a e = sym (filter_map_of (held_of t)
    (has_name (name_on via other)) (waiting t)) ∙ (ap (filter (has_name (name_on via other))) (sym e)
    ∙ found_once (name_on via other) ws (subst (λ rs. AreApart (names rs)) (sym e) (apart_held t (waiting t) a)))
named_held via t ws o h4 h5 = grind arith

aborted_held : (c : Settings) (via : Connection) (t : Trace) (ws : List Record) (k : Command) → Apart t (waiting t)
    → ws ≡ map (held_of t) (waiting t) → map (held_of t) (history.aborted c via t k)
    ≡ option_to_list (record_aborted via ws k.order)
aborted_held c via t ws k a e = grind (arith, named_held)

-- ---- what is told of it
abbrev first_reference : List Record → ℕ
first_reference [] = 0
first_reference (r ∷ rs) = r.command.reference

first_held : (t : Trace) (xs : List ℕ) (o : Option Record) → map (held_of t) xs ≡ option_to_list o
    → option_map (reference t) (slice_get xs 0) ≡ option_map (λ r. r.command.reference) o
first_held t (x ∷ xs) (Some r) e = ap (λ rs. Some (first_reference rs)) e
first_held t xs o h3 = grind arith

-- the reference number that is told
pub reference_told : (c : Settings) (via : Connection) (t : Trace) (ws : List Record) (k : Command)
    → Apart t (waiting t) → ws ≡ map (held_of t) (waiting t)
    → option_map (reference t) (slice_get (history.aborted c via t k) 0) ≡ reference_aborted via ws k.order
reference_told c via t ws k a e = grind (arith, first_held, aborted_held)

mapped_option : (o : Option Record) → map aborted_record (option_to_list o)
    ≡ option_to_list (option_map aborted_record o)
mapped_option o = grind arith

-- the end that is made
pub end_made : (c : Settings) (via : Connection) (t : Trace) (ws : List Record) (k : Command) → Apart t (waiting t)
    → ws ≡ map (held_of t) (waiting t) → option_to_list (option_map aborted_record (record_aborted via ws k.order))
    ≡ map (λ x. aborted_end (command t x) (good t x)) (history.aborted c via t k)
end_made c via t ws k a e = sym (mapped_option (record_aborted via ws k.order)) ∙ (ap (map aborted_record)
    (sym (aborted_held c via t ws k a e)) ∙ map_map (held_of t) aborted_record (history.aborted c via t k))

-- ---- who is left
either_way : (a b : Name) → same_name a b ≡ same_name b a
either_way a b = search (arith, is_same, same_is, is_differ, differ_is)

-- the name that a reference number of a connection tells
abbrev told : Connection → Name → Name
told via n = name_on via n.reference

-- the answer to a message of a connection that aborts the command of this reference number, or none
abbrev pub Answer : Connection → ℕ → Option ℕ → entries.the_data
Answer via q a = entries.Sent via (Ok (Sent.Answered q a))

left_by : (via : Connection) (q other : ℕ) (ws : List Record) → without (name_on via other) ws
    ≡ filter (λ r. not (ends_in (name_of r)
    (Answer via q (option_map (λ r. r.command.reference) (find (has_name (name_on via other)) ws))))) ws
left_by via q other ws =
    let p = has_name (name_on via other) in
    let ends : Option Record → Record → Bool = λ o r.
    ends_in (name_of r) (Answer via q (option_map (λ r. r.command.reference) o)) in
    ⊎_elim
    (λ none.
    filter_on (λ r. not (p r)) (λ r. not (ends None r)) ws
    (every_weaker (λ r. p r ≡ false) (λ r. not (p r) ≡ not (ends None r)) (λ r e. ap not e) ws none)
    ∙ ap (λ o. filter (λ r. not (ends o r)) ws) (sym (find_none p ws none)))
    (λ some.
    let A = some.0 in
    let y = some.1 in
    let B = some.2 in
    let f = some.3 in
    let number : name_on via other ≡ told via (name_of y) =
    ap (told via) (sym (same_is (name_of y) (name_on via other) f.passed)) in
    filter_on (λ r. not (p r)) (λ r. not (ends (Some y) r)) ws
    (every_from (λ r. not (p r) ≡ not (ends (Some y) r))
    (λ r. ap not (either_way (name_of r) (name_on via other) ∙ ap (λ n. same_name n (name_of r)) number)) ws)
    ∙ ap (λ o. filter (λ r. not (ends o r)) ws) (sym (ap (find p) f.is ∙ find_first p A y B f.before f.passed)))
    (find_cases p ws)

none_left : (via : Connection) (q : ℕ) (ws : List Record)
    → ws ≡ filter (λ r. not (ends_in (name_of r) (Answer via q None))) ws
none_left via q ws = search (arith, not false, filter_all, every_from)

-- the others wait on
pub others_wait : (via : Connection) (q : ℕ) (ws : List Record) (o : Order)
    → unaborted via ws o ≡ filter (λ r. not (ends_in (name_of r) (Answer via q (reference_aborted via ws o)))) ws
others_wait via q ws (Order.Abort other) = left_by via q other ws
others_wait via q ws order = none_left via q ws

-- ---- what was begun
with_other : (n other : Name)
    → (if same_name n other then None else Some n) ≡ (if not (same_name other n) then Some n else None)
with_other n other = search (arith, either_way n other, not)

-- it is begun no more where it is aborted
abbrev Left : Connection → ℕ → List Record → Name → Order → Type 0
Left via q ws n o = begun_after via (Some n) o ≡ (if not (ends_in n
    (Answer via q (reference_aborted via ws o))) then Some n else None)

abort_left : (via : Connection) (q other : ℕ) (t : Trace) (ws : List Record) (n : Name) (y : ℕ)
    → ws ≡ map (held_of t) (waiting t) → is_waiting t y ≡ true → name t y ≡ n → Left via q ws n (Order.Abort other)
abort_left via q other t ws n y e w own =
    let p = has_name (name_on via other) in
    let left : Option Record → Option Name = λ o. if not
    (ends_in n (Answer via q (option_map (λ r. r.command.reference) o))) then Some n else None in
    ⊎_elim
    (λ none.
    let all = every_mapped (held_of t) (λ r. p r ≡ false) (waiting t)
    (subst (AllByRecursion (λ r. p r ≡ false)) e none) in
    let c = cut t y (waits_below t y w) w in
    let Other : ℕ → Type 0 = λ x. same_name (name t x) (name_on via other) ≡ false in
    let one : same_name (name t y) (name_on via other) ≡ false =
    (every_parts Other c.0 (y ∷ c.1) (subst (AllByRecursion Other) c.2.is all)).1.0 in
    ap (λ b. if b then None else Some n) (ap (λ k. same_name k (name_on via other)) (sym own) ∙ one)
    ∙ ap left (sym (find_none p ws none)))
    (λ some.
    let A = some.0 in
    let r = some.1 in
    let B = some.2 in
    let f = some.3 in
    with_other n (name_on via other) ∙ (ap (λ k. if not (same_name k n) then Some n else None)
    (ap (told via) (sym (same_is (name_of r) (name_on via other) f.passed)))
    ∙ ap left (sym (ap (find p) f.is ∙ find_first p A r B f.before f.passed))))
    (find_cases p ws)

pub begun_left : (via : Connection) (q : ℕ) (t : Trace) (ws : List Record) (n : Name) (y : ℕ) (o : Order)
    → ws ≡ map (held_of t) (waiting t) → is_waiting t y ≡ true → name t y ≡ n → Left via q ws n o
begun_left via q t ws n y o h7 h8 h9 = grind (arith, abort_left)
