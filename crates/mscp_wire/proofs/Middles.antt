-- What is kept of a log that begins in the middle, once a packet more came.
use Rattle.mscp_wire.proofs.Common.{Answer, ArrayVec, Bool, Connection, First, History, IsMiddle, List, Middle, Moment, None, Option, Rule, Second, Shows, Some, [], answer_by, ap, broken_by, eqb-true, false, false≢true, has_met, has_other, has_sent, has_turned, if◌then◌else◌, is_about_sent, is_figure, is_initial, is_middle, is_slow, is_some, is_sure, is_unnamed, keeps_unit, kept_name, key, le-leb, length, list_any, name_in, name_with, names, not, num, refl, same_connection, sends, spares, spares_end, subst, sym, true, turns_unit, ℕ, ◌&&◌, ◌++◌, ◌||◌, ◌∙◌, ◌∷◌, ◌≡◌, ◌≤◌}
use Rattle.std.proofs.Common.{nat_eq}
use Rattle.std.specs.HashMap as hashed
use Rattle.mscp_wire.specs.Begun.{is_on}
use Rattle.mscp_wire.specs.Wire.{other_side}
use Rattle.mscp_wire.specs.declared.moment.Moment.TheVariants as moments
use Rattle.mscp_wire.specs.declared.rule.Rule.TheVariants as rules

-- one more may be what is sought
pub any_push : (p : Moment → Bool) (h : History) (m : Moment) → list_any p (h ++ m ∷ []) ≡ (list_any p h || p m)
any_push p [] m = by_test (p m)
  where
    by_test : (b : Bool) → (b || false) ≡ b
    by_test true = refl
    by_test false = refl
any_push p (x ∷ h) m = ap (λ b. p x || b) (any_push p h m) ∙ by_test (p x)
  where
    by_test : (b : Bool) → (b || (list_any p h || p m)) ≡ ((b || list_any p h) || p m)
    by_test true = refl
    by_test false = refl

-- a packet more is of a connection
pub met_more : (h strangers : History) (via : Connection) (m : Moment)
    → (has_met h strangers via || is_on via m) ≡ has_met (h ++ m ∷ []) strangers via
met_more h strangers via m =
    swap (list_any (is_on via) h) (list_any (is_on via) strangers) (is_on via m)
    ∙ sym (ap (λ b. b || list_any (is_on via) strangers) (any_push (is_on via) h m))
  where
    swap : (a b c : Bool) → ((a || b) || c) ≡ ((a || c) || b)
    swap true b c = refl
    swap false true true = refl
    swap false true false = refl
    swap false false true = refl
    swap false false false = refl

pub met_strange : (h strangers : History) (via : Connection) (m : Moment)
    → (has_met h strangers via || is_on via m) ≡ has_met h (strangers ++ m ∷ []) via
met_strange h strangers via m =
    whole (list_any (is_on via) h) (list_any (is_on via) strangers) (is_on via m)
    ∙ sym (ap (λ b. list_any (is_on via) h || b) (any_push (is_on via) strangers m))
  where
    whole : (a b c : Bool) → ((a || b) || c) ≡ (a || (b || c))
    whole true b c = refl
    whole false b c = refl

-- ---- a number

-- it occurs, by what is found of it
abbrev name_of : Bool → Bool → Bool → Option Bool
name_of sent named strange = if sent then Some true else (if named || strange then Some false else None)

sent_more : (s n t : Bool) → name_with true (name_of s n t) ≡ name_of (s || true) (n || true) t
sent_more true n t = refl
sent_more false true t = refl
sent_more false false true = refl
sent_more false false false = refl

ended_more : (s n t : Bool) → name_with false (name_of s n t) ≡ name_of (s || false) (n || true) t
ended_more true n t = refl
ended_more false true t = refl
ended_more false false true = refl
ended_more false false false = refl

strange_more : (s n t : Bool) → name_with false (name_of s n t) ≡ name_of s n (t || true)
strange_more true n t = refl
strange_more false true t = refl
strange_more false false true = refl
strange_more false false false = refl

none_more : (s n : Bool) (t : Bool) → name_of s n t ≡ name_of (s || false) (n || false) t
none_more true n t = refl
none_more false true t = refl
none_more false false t = refl

none_strange : (s n t : Bool) → name_of s n t ≡ name_of s n (t || false)
none_strange s n true = refl
none_strange s n false = refl

-- two names are one
pub same_name : (a b : Connection) (m n : ℕ) → (same_connection a b && nat_eq m n) ≡ true → (a ≡ b) × (m ≡ n)
same_name First First m n h = (refl, eqb-true m n h)
same_name Second Second m n h = (refl, eqb-true m n h)
same_name First Second m n h = cc
same_name Second First m n h = cc

-- what is kept once a packet has a name
abbrev Named : Bool → Connection → ℕ → (Connection → ℕ → Option Bool) → (Connection → ℕ → Option Bool) → Type 0
Named sent other number old new = (via : Connection) (reference : ℕ) → new via reference
    ≡ (if same_connection other via && nat_eq number reference then name_with sent (old other number)
    else old via reference)

module _ (h strangers : History) (other : Connection) (number : ℕ) (old new : Connection → ℕ → Option Bool)
    (was : (via : Connection) (reference : ℕ) → old via reference ≡ name_in h strangers via reference) where
  pub names_more : (sent : Bool) (m : Moment) → Named sent other number old new
      → ((via : Connection) (reference : ℕ)
      → sends via reference m ≡ (sent && (same_connection other via && nat_eq number reference)))
      → ((via : Connection) (reference : ℕ)
      → names via reference m ≡ (same_connection other via && nat_eq number reference))
      → (via : Connection) (reference : ℕ) → new via reference ≡ name_in (h ++ m ∷ []) strangers via reference
  names_more sent m k does has via reference =
      k via reference
      ∙ by_test (same_connection other via && nat_eq number reference) refl sent
      ∙ sym (ap (λ b. name_of b (list_any (names via reference) (h ++ m ∷ [])) t)
      (any_push (sends via reference) h m ∙ ap (λ b. s || b) (does via reference))
      ∙ ap (λ b. name_of (s || (sent && (same_connection other via && nat_eq number reference))) b t)
      (any_push (names via reference) h m ∙ ap (λ b. n || b) (has via reference)))
    where
      s : Bool
      s = list_any (sends via reference) h

      n : Bool
      n = list_any (names via reference) h

      t : Bool
      t = list_any (names via reference) strangers

      by_sent : (x : Bool) → name_with x (name_of s n t) ≡ name_of (s || (x && true)) (n || true) t
      by_sent true = sent_more s n t
      by_sent false = ended_more s n t

      never : (x : Bool) → (x && false) ≡ false
      never true = refl
      never false = refl

      by_test : (b : Bool) → (same_connection other via && nat_eq number reference) ≡ b → (x : Bool)
          → (if b then name_with x (old other number) else old via reference) ≡ name_of (s || (x && b)) (n || b) t
      by_test true e x =
          let p = same_name other via number reference e in
          ap (λ v. name_with x (old v number)) p.0 ∙ ap (λ r. name_with x (old via r)) p.1
          ∙ ap (name_with x) (was via reference) ∙ by_sent x
      by_test false e x =
          was via reference ∙ none_more s n t ∙ ap (λ b. name_of (s || b) (n || false) t) (sym (never x))

  pub strangers_more : (m : Moment) → Named false other number old new
      → ((via : Connection) (reference : ℕ)
      → names via reference m ≡ (same_connection other via && nat_eq number reference))
      → (via : Connection) (reference : ℕ) → new via reference ≡ name_in h (strangers ++ m ∷ []) via reference
  strangers_more m k has via reference =
      k via reference ∙ by_test (same_connection other via && nat_eq number reference) refl
      ∙ sym (ap (name_of s n) (any_push (names via reference) strangers m ∙ ap (λ b. t || b) (has via reference)))
    where
      s : Bool
      s = list_any (sends via reference) h

      n : Bool
      n = list_any (names via reference) h

      t : Bool
      t = list_any (names via reference) strangers

      by_test : (b : Bool) → (same_connection other via && nat_eq number reference) ≡ b
          → (if b then name_with false (old other number) else old via reference) ≡ name_of s n (t || b)
      by_test true e =
          let p = same_name other via number reference e in
          ap (λ v. name_with false (old v number)) p.0 ∙ ap (λ r. name_with false (old via r)) p.1
          ∙ ap (name_with false) (was via reference) ∙ strange_more s n t
      by_test false e = was via reference ∙ none_strange s n t

-- ---- all that is kept

-- what is kept of a unit is the same
same_units : {A : Type 0} (old new : Middle A) → new.units ≡ old.units → (via : Connection) (unit : ℕ)
    → keeps_unit new via unit ≡ keeps_unit old via unit
same_units {A} old new e via unit = ap (λ u. is_some (hashed.get nat_eq u (key via unit))) e

-- and of a number
same_names : {A : Type 0} (old new : Middle A) → new.names ≡ old.names → (via : Connection) (reference : ℕ)
    → kept_name new via reference ≡ kept_name old via reference
same_names {A} old new e via reference = ap (λ n. hashed.get nat_eq n (key via reference)) e

never : (x : Bool) → (x || false) ≡ x
never true = refl
never false = refl

-- a packet has a name: a message, or an end
module _ {A : Type 0} (h strangers : History) (other : Connection) (b : ArrayVec ℕ) (bytes : List ℕ) (number : ℕ)
    (old put met : Middle A) (s : Shows h strangers old) (is : bytes ≡ b.items) (numbered : number ≡ num bytes 0 4)
    (put_units : put.units ≡ old.units) (put_first : put.first ≡ old.first) (put_second : put.second ≡ old.second)
    (met_names : met.names ≡ put.names) (met_units : met.units ≡ put.units)
    (met_first : met.first ≡ (put.first || same_connection other First))
    (met_second : met.second ≡ (put.second || same_connection other Second)) where
  names_put : (sent : Bool) → Named sent other number (kept_name old) (kept_name put)
      → Named sent other (num b.items 0 4) (kept_name old) (kept_name met)
  names_put sent named =
      subst (λ n. Named sent other n (kept_name old) (kept_name met)) (numbered ∙ ap (λ l. num l 0 4) is)
      (λ via reference. same_names put met met_names via reference ∙ named via reference)

  first_met : met.first ≡ (has_met h strangers First || same_connection other First)
  first_met = met_first ∙ ap (λ x. x || same_connection other First) (put_first ∙ s.first)

  second_met : met.second ≡ (has_met h strangers Second || same_connection other Second)
  second_met = met_second ∙ ap (λ x. x || same_connection other Second) (put_second ∙ s.second)

  units_met : (via : Connection) (unit : ℕ) → keeps_unit met via unit ≡ list_any (has_turned via unit) h
  units_met via unit = same_units old met (met_units ∙ put_units) via unit ∙ s.units via unit

  pub sent_shows : (time : Option ℕ) (m : Moment) → m ≡ moments.Message other b time
      → Named true other number (kept_name old) (kept_name put) → Shows (h ++ m ∷ []) strangers met
  sent_shows time m e named =
      let x = moments.Message other b time in
      subst (λ y. Shows (h ++ y ∷ []) strangers met) (sym e) (record {
        names = names_more h strangers other (num b.items 0 4) (kept_name old) (kept_name met) s.names true x
            (names_put true named) (λ via reference. refl) (λ via reference. refl);
        units = λ via unit. units_met via unit ∙ sym (never (list_any (has_turned via unit) h))
            ∙ sym (any_push (has_turned via unit) h x);
        first = first_met ∙ met_more h strangers First x;
        second = second_met ∙ met_more h strangers Second x;
      })

  pub ended_shows : (m : Moment) (a : Answer) (new : Middle A) → m ≡ moments.End other b → a ≡ answer_by other bytes
      → Named false other number (kept_name old) (kept_name put) → new.names ≡ met.names
      → ((via : Connection) (unit : ℕ) → keeps_unit new via unit
      ≡ (keeps_unit met via unit || (same_connection a.connection via && turns_unit unit a)))
      → new.first ≡ met.first → new.second ≡ met.second → Shows (h ++ m ∷ []) strangers new
  ended_shows m a new e answers named names units first second =
      let x = moments.End other b in
      let y = answer_by other b.items in
      let turned = subst (λ z. (via : Connection) (unit : ℕ) → keeps_unit new via unit
      ≡ (keeps_unit met via unit || (same_connection z.connection via && turns_unit unit z)))
      (answers ∙ ap (answer_by other) is) units in
      subst (λ y. Shows (h ++ y ∷ []) strangers new) (sym e) (record {
        names = names_more h strangers other (num b.items 0 4) (kept_name old) (kept_name new) s.names false x
            (λ via reference. same_names met new names via reference ∙ names_put false named via reference)
            (λ via reference. refl) (λ via reference. refl);
        units = λ via unit. turned via unit
            ∙ ap (λ z. z || (same_connection other via && turns_unit unit y)) (units_met via unit)
            ∙ sym (any_push (has_turned via unit) h x);
        first = first ∙ first_met ∙ met_more h strangers First x;
        second = second ∙ second_met ∙ met_more h strangers Second x;
      })

  -- the end of a command that the log doesn't send
  pub strange_shows : (m : Moment) → m ≡ moments.End other b
      → Named false other number (kept_name old) (kept_name put) → Shows h (strangers ++ m ∷ []) met
  strange_shows m e named =
      let x = moments.End other b in
      subst (λ y. Shows h (strangers ++ y ∷ []) met) (sym e) (record {
        names = strangers_more h strangers other (num b.items 0 4) (kept_name old) (kept_name met) s.names x
            (names_put false named) (λ via reference. refl);
        units = units_met;
        first = first_met ∙ met_strange h strangers First x;
        second = second_met ∙ met_strange h strangers Second x;
      })

-- what is no reset leaves it as it was
pub middle_more : (begun : Bool) (h : History) (m : Moment) → is_initial m ≡ false
    → is_middle begun (h ++ m ∷ []) ≡ is_middle begun h
middle_more begun h m e =
    ap (λ b. begun && not b) (any_push is_initial h m ∙ ap (λ b. list_any is_initial h || b) e
    ∙ never (list_any is_initial h))

-- whether the host of an end is alone with its unit
pub other_met : {A : Type 0} (h strangers : History) (middle : Middle A) (via : Connection)
    → Shows h strangers middle → has_other middle via ≡ has_met h strangers (other_side via)
other_met h strangers middle First s = s.second
other_met h strangers middle Second s = s.first

pub sure_by : {A : Type 0} (h strangers : History) (middle : Middle A) (e : Answer) (turned other : Bool)
    → Shows h strangers middle → turned ≡ keeps_unit middle e.connection e.unit
    → other ≡ has_other middle e.connection → (turned && not other) ≡ is_sure h strangers e
sure_by h strangers middle e turned other s t o =
    ap (λ b. b && not other) (t ∙ s.units e.connection e.unit)
    ∙ ap (λ b. list_any (has_turned e.connection e.unit) h && not b)
    (o ∙ other_met h strangers middle e.connection s)

-- ---- which ends are spared

-- a message that has a number names it
sent_named : (via : Connection) (reference : ℕ) (h : History) → list_any (sends via reference) h ≡ true
    → list_any (names via reference) h ≡ true
sent_named via reference [] e = cc
sent_named via reference (m ∷ h) e =
    by_both (sends via reference m) (names via reference m) (one m) e (sent_named via reference h)
  where
    one : (x : Moment) → sends via reference x ≡ true → names via reference x ≡ true
    one (moments.Message other b time) k = k
    one (moments.End other b) k = cc
    one moments.Reset k = cc
    one (moments.Closed other) k = cc

    by_both : (a b : Bool) → (a ≡ true → b ≡ true) → (a || list_any (sends via reference) h) ≡ true
        → (list_any (sends via reference) h ≡ true → list_any (names via reference) h ≡ true)
        → (b || list_any (names via reference) h) ≡ true
    by_both true b k e rest = ap (λ x. x || list_any (names via reference) h) (k refl)
    by_both false true k e rest = refl
    by_both false false k e rest = rest e

pub unnamed_by : {A : Type 0} (h strangers : History) (middle : Middle A) (e : Answer) (found : Option Bool)
    (none : Bool) → Shows h strangers middle → found ≡ kept_name middle e.connection e.reference
    → is_some found ≡ not none → none ≡ is_unnamed h strangers e
unnamed_by h strangers middle e found none s is some =
    not_back none (is_some found) some
    ∙ ap (λ o. not (is_some o)) (is ∙ s.names e.connection e.reference)
    ∙ by_all (list_any (sends e.connection e.reference) h) (list_any (names e.connection e.reference) h)
    (list_any (names e.connection e.reference) strangers) (sent_named e.connection e.reference h)
  where
    not_back : (a b : Bool) → b ≡ not a → a ≡ not b
    not_back true b k = sym (ap not k)
    not_back false b k = sym (ap not k)

    by_all : (x y z : Bool) → (x ≡ true → y ≡ true) → not (is_some (name_of x y z)) ≡ (not y && not z)
    by_all true true z k = refl
    by_all true false z k = absurd (false≢true (k refl))
    by_all false true z k = refl
    by_all false false true k = refl
    by_all false false false k = refl

-- the same by the end's bytes
pub spares_by : (h strangers : History) (m : Moment) (rule : Rule) (via : Connection) (b : ArrayVec ℕ) (bytes : List ℕ)
    (a : Answer) (r : Bool) → m ≡ moments.End via b → 12 ≤ length b.items → bytes ≡ b.items
    → a ≡ answer_by via bytes → r ≡ spares_end h strangers a rule → r ≡ spares h strangers m rule
spares_by h strangers m rule via b bytes a r e long is answers k =
    k ∙ ap (λ z. spares_end h strangers z rule) (answers ∙ ap (answer_by via) is)
    ∙ sym (ap (λ q. q && spares_end h strangers (answer_by via b.items) rule) (le-leb 12 (length b.items) long))
    ∙ sym (ap (λ x. spares h strangers x rule) e)

pub about_by : (h : History) (m : Moment) (via : Connection) (b : ArrayVec ℕ) (bytes : List ℕ) (a : Answer) (r : Bool)
    → m ≡ moments.End via b → 12 ≤ length b.items → bytes ≡ b.items → a ≡ answer_by via bytes
    → r ≡ has_sent h via a.parameter → r ≡ is_about_sent h m
about_by h m via b bytes a r e long is answers k =
    k ∙ ap (λ (z : Answer). has_sent h via z.parameter) (answers ∙ ap (answer_by via) is)
    ∙ sym (ap (λ q. q && has_sent h via (answer_by via b.items).parameter) (le-leb 12 (length b.items) long))
    ∙ sym (ap (is_about_sent h) e)

-- what is kept of a log in the middle
pub of_some : {A : Type 0} (begun : Bool) (h strangers : History) (o : Option (Middle A)) (middle : Middle A)
    → IsMiddle begun h strangers o → o ≡ Some middle → (is_middle begun h ≡ true) × Shows h strangers middle
of_some {A} begun h strangers o middle i e = subst (λ x. IsMiddle {A = A} begun h strangers x) e i

pub slow_by : {A : Type 0} (begun : Bool) (credits : Option ℕ) (h strangers : History) (m : Moment) (rule : Rule)
    (o : Option (Middle A)) (middle : Middle A) (r : Bool) → IsMiddle begun h strangers o → o ≡ Some middle
    → broken_by credits h m ≡ Some rule → rule ≡ rules.Figure
    → (Shows h strangers middle → r ≡ is_about_sent h m) → r ≡ is_slow begun credits h m
slow_by begun credits h strangers m rule o middle r i e broken figure k =
    let p = of_some begun h strangers o middle i e in
    k p.1
    ∙ sym (ap (λ q. q && is_figure (broken_by credits h m) && is_about_sent h m) p.0
    ∙ ap (λ q. is_figure q && is_about_sent h m) (broken ∙ ap (λ x. Some x) figure))
