-- The outcome of all lines is that the script is read, or its first fault.
use Rattle.mscp_reader.proofs.Common.{◌≡◌, ◌≤◌, ◌+◌, ◌++◌, ◌⊎◌, inl, inr, ℕ, List, [], ◌∷◌, length, refl, ap, subst, ◌∙◌, arith, ⊎_elim, Result, Ok, Err, Settings, Event, ◌>>=◌, lines, Cause, ScriptFault, Place, Begins, HasGone, IsInHeader, after_line, after_lines, Reads, IsFault, in_line, lines_outcome, all_read}
use Rattle.mscp_reader.specs.declared.fault.Cause.TheVariants as causes

-- ---- read

ended_ok : (n : ℕ) (p : Place) (s : Settings) (es : List Event) → all_read n p ≡ Ok (s, es) → p ≡ HasGone s es
ended_ok n p s es h1 = search arith

ok_step : (n : ℕ) (rest : List (List ℕ)) (s : Settings) (es : List Event) (r : Result Place Cause)
    → ((q : Place) → lines_outcome (n + 1) q rest ≡ Ok (s, es) → after_lines (n + 1) q rest ≡ Ok (HasGone s es))
    → (in_line (n + 1) r >>= λ after. lines_outcome (n + 1) after rest) ≡ Ok (s, es)
    → (r >>= λ after. after_lines (n + 1) after rest) ≡ Ok (HasGone s es)
ok_step n rest s es r h1 h2 = search arith

pub outcome_ok : (n : ℕ) (p : Place) (all : List (List ℕ)) (s : Settings) (es : List Event)
    → lines_outcome n p all ≡ Ok (s, es) → after_lines n p all ≡ Ok (HasGone s es)
unfolding lines_outcome after_lines
outcome_ok n p [] s es e = ap Ok (ended_ok n p s es e)
outcome_ok n p (line ∷ rest) s es e = ok_step n rest s es (after_line n p line) (λ q. outcome_ok (n + 1) q rest s es) e

-- ---- a fault

-- the first line at fault of lines that so many stand before
record FaultFrom (n : ℕ) (p : Place) (all : List (List ℕ)) (fault : ScriptFault) : Type 0 where
  before : List (List ℕ)
  line : List ℕ
  after : List (List ℕ)
  place : Place
  whole : all ≡ before ++ line ∷ after
  right : after_lines n p before ≡ Ok place
  wrong : after_line (n + length before) place line ≡ Err fault.cause
  number : fault.line ≡ n + length before + 1

record NoGoFrom (n : ℕ) (p : Place) (all : List (List ℕ)) (fault : ScriptFault) : Type 0 where
  place : Place
  right : after_lines n p all ≡ Ok place
  early : IsInHeader place
  cause : fault.cause ≡ causes.Header
  number : fault.line ≡ n + length all + 1

made : (n : ℕ) (fault : ScriptFault) → (let m : ScriptFault = record { line = n + 1; cause = causes.Header } in
    m ≡ fault) → (fault.cause ≡ causes.Header) × (fault.line ≡ n + 0 + 1)
made n fault e = search arith

early : (n : ℕ) (p : Place) (fault : ScriptFault) → IsInHeader p
    → (let m : ScriptFault = record { line = n + 1; cause = causes.Header } in m ≡ fault) → NoGoFrom n p [] fault
unfolding after_lines
early n p fault h e = let q = made n fault e in record { place = p; right = refl; early = h; cause = q.0; number = q.1 }

ended_err : (n : ℕ) (p : Place) (fault : ScriptFault) → all_read n p ≡ Err fault → NoGoFrom n p [] fault
ended_err n p fault h1 = search (arith, early)

-- the fault of the lines after one that is right
later : (n : ℕ) (p q : Place) (line : List ℕ) (rest : List (List ℕ)) (fault : ScriptFault) → after_line n p line ≡ Ok q
    → FaultFrom (n + 1) q rest fault → FaultFrom n p (line ∷ rest) fault
unfolding after_lines
later n p q line rest fault e h = record {
  before = line ∷ h.before;
  line = h.line;
  after = h.after;
  place = h.place;
  whole = ap (λ ls. line ∷ ls) h.whole;
  right = rw e h.right;
  wrong = subst (λ (k : ℕ). after_line k h.place h.line ≡ Err fault.cause) (omega arith) h.wrong;
  number = let k : fault.line ≡ n + 1 + length h.before + 1 = h.number in omega arith;
}

no_go_later : (n : ℕ) (p q : Place) (line : List ℕ) (rest : List (List ℕ)) (fault : ScriptFault)
    → after_line n p line ≡ Ok q → NoGoFrom (n + 1) q rest fault → NoGoFrom n p (line ∷ rest) fault
unfolding after_lines
no_go_later n p q line rest fault e h = search (arith, early)

here : (n : ℕ) (p : Place) (line : List ℕ) (rest : List (List ℕ)) (cause : Cause) (fault : ScriptFault)
    → after_line n p line ≡ Err cause
    → (let m : ScriptFault = record { line = n + 1; cause = cause } in m ≡ fault) → FaultFrom n p (line ∷ rest) fault
unfolding after_lines
here n p line rest cause fault e f = record {
  before = [];
  line = line;
  after = rest;
  place = p;
  whole = refl;
  right = refl;
  wrong = subst (λ (k : ℕ). after_line k p line ≡ Err fault.cause) (omega arith)
      (e ∙ ap (λ (f : ScriptFault). Err f.cause) f);
  number = let q : n + 1 ≡ fault.line = ap (λ (f : ScriptFault). f.line) f in omega arith;
}

err_step : (n : ℕ) (p : Place) (line : List ℕ) (rest : List (List ℕ)) (fault : ScriptFault) (r : Result Place Cause)
    → after_line n p line ≡ r
    → ((q : Place) → lines_outcome (n + 1) q rest ≡ Err fault
    → FaultFrom (n + 1) q rest fault ⊎ NoGoFrom (n + 1) q rest fault)
    → (in_line (n + 1) r >>= λ after. lines_outcome (n + 1) after rest) ≡ Err fault
    → FaultFrom n p (line ∷ rest) fault ⊎ NoGoFrom n p (line ∷ rest) fault
err_step n p line rest fault r h1 h2 h3 = search (arith, later, no_go_later, here)

outcome_err : (n : ℕ) (p : Place) (all : List (List ℕ)) (fault : ScriptFault) → lines_outcome n p all ≡ Err fault
    → FaultFrom n p all fault ⊎ NoGoFrom n p all fault
unfolding lines_outcome
outcome_err n p [] fault e = inr (ended_err n p fault e)
outcome_err n p (line ∷ rest) fault e = err_step n p line rest fault (after_line n p line) refl
    (λ q. outcome_err (n + 1) q rest fault) e

-- ---- the whole

pub is_read : (bytes : List ℕ) (s : Settings) (es : List Event) → length bytes ≤ 16777216
    → lines_outcome 0 Begins (lines bytes) ≡ Ok (s, es) → Reads bytes s es
is_read bytes s es small e = record { small = small; right = outcome_ok 0 Begins (lines bytes) s es e }

pub is_fault : (bytes : List ℕ) (fault : ScriptFault) → length bytes ≤ 16777216
    → lines_outcome 0 Begins (lines bytes) ≡ Err fault → IsFault bytes fault
is_fault bytes fault small e = inr (
  small,
  ⊎_elim
      (λ h. inl (record {
        before = h.before;
        line = h.line;
        after = h.after;
        place = h.place;
        whole = h.whole;
        right = h.right;
        wrong = subst (λ (k : ℕ). after_line k h.place h.line ≡ Err fault.cause) (omega arith) h.wrong;
        number = let k : fault.line ≡ 0 + length h.before + 1 = h.number in omega arith;
      }))
      (λ h. inr (record {
        place = h.place;
        right = h.right;
        early = h.early;
        cause = h.cause;
        number = let k : fault.line ≡ 0 + length (lines bytes) + 1 = h.number in omega arith;
      }))
      (outcome_err 0 Begins (lines bytes) fault e),
)
