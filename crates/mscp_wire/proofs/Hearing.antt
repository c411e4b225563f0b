-- Which rule a message and an end break.
use Rattle.mscp_wire.proofs.Common.{Answer, ArrayVec, Bool, Connection, Err, IfOk, List, Moment, None, Ok, OnOk, Option, Result, Rule, Seen, Sent, Stepped, Told, answer_by, ap, broken, broken_at, broken_message, if◌then◌else◌, is_long, is_message, is_settled_at, le-leb, length, place_of, seen_of, sent_by, sym, told_nothing, true, unit_before, unless, ℕ, ◌∙◌, ◌≡◌, ◌≤◌}
use Rattle.mscp_wire.specs.declared.moment.Moment.TheVariants as moments
use Rattle.mscp_wire.specs.declared.rule.Rule.TheVariants as rules

-- a message that is long enough breaks the rule that its command breaks
pub long_message : (via : Connection) (b : List ℕ) (credits : Option ℕ) (xs ys : List Sent) (s : Sent)
    (broken : Option Rule) → 12 ≤ length b → s ≡ sent_by via b → ys ≡ xs → broken ≡ broken_message credits ys s
    → broken ≡ unless (is_message b) rules.Message (broken_message credits xs (sent_by via b))
long_message via b credits xs ys s broken long is same h =
    h ∙ (ap (λ zs. broken_message credits zs s) same ∙ (ap (broken_message credits xs) is
    ∙ sym (ap (λ q. unless q rules.Message (broken_message credits xs (sent_by via b))) (le-leb 12 (length b) long))))

-- the rule that an end breaks, as long as its endcode asks
pub ended_rule : (b : List ℕ) (xs ys : List Sent) (units : Connection → ℕ → Told) (known : Option ℕ)
    (via : Connection) (a : Answer) (settled : Bool) (seen : Seen) (p : Option ℕ) (r : Option Rule) → is_long b ≡ true
    → a ≡ answer_by via b → settled ≡ is_settled_at xs a p
    → seen ≡ record { unit = if settled then units a.connection a.unit else told_nothing; controller = known }
    → ys ≡ xs → p ≡ place_of xs a → r ≡ broken_at ys seen a p
    → r ≡ unless (is_long b) rules.Length (broken_at xs
    (record { unit = unit_before xs units (answer_by via b); controller = known })
    (answer_by via b) (place_of xs (answer_by via b)))
ended_rule b xs ys units known via a settled seen p r long is sure here same at h =
    let compared : Answer → Seen = λ z. record { unit = unit_before xs units z; controller = known } in
    let whole : seen ≡ compared a =
    here
    ∙ ap (λ q. record { unit = if q then units a.connection a.unit else told_nothing; controller = known })
    (sure ∙ ap (is_settled_at xs a) at) in
    h
    ∙ (ap (λ zs. broken_at zs seen a p) same
    ∙ (ap (broken_at xs seen a) at
    ∙ (ap (λ z. broken_at xs z a (place_of xs a)) whole
    ∙ (ap (λ z. broken_at xs (compared z) z (place_of xs z)) is
    ∙ sym (ap (λ q. unless q rules.Length (broken_at xs (compared (answer_by via b)) (answer_by via b)
    (place_of xs (answer_by via b)))) long)))))

-- the same by its moment
pub stepped_end : {E : Type 0} (r : Result Stepped E) (credits : Option ℕ) (xs : List Sent)
    (units : Connection → ℕ → Told) (known : Option ℕ) (via : Connection) (b : ArrayVec ℕ) (bytes : List ℕ) (m : Moment)
    → m ≡ moments.End via b → bytes ≡ b.items
    → IfOk r (λ o. o.rule ≡ unless (is_long bytes) rules.Length (broken_at xs
    (record { unit = unit_before xs units (answer_by via bytes); controller = known }) (answer_by via bytes)
    (place_of xs (answer_by via bytes))))
    → IfOk r (λ o. o.rule ≡ broken credits xs (seen_of xs units known m) m)
stepped_end (Ok o) credits xs units known via b bytes m is same h =
    h
    ∙ (ap (λ l. unless (is_long l) rules.Length (broken_at xs
    (record { unit = unit_before xs units (answer_by via l); controller = known }) (answer_by via l)
    (place_of xs (answer_by via l)))) same
    ∙ sym (ap (λ z. broken credits xs (seen_of xs units known z) z) is))
stepped_end (Err e) credits xs units known via b bytes m is same h = h

-- what always holds does so of a value
pub on_ok : {T E P : Type 0} (r : Result T E) → P → OnOk r P
on_ok (Ok x) p = p
on_ok (Err e) p = tt

-- and of what comes of a moment that breaks no rule
pub if_right : {E P : Type 0} (r : Result Stepped E) → P → IfOk r (λ o. o.rule ≡ None → P)
if_right (Ok o) p = λ e. p
if_right (Err e) p = tt
