-- What is said of the ports below one more.
use Rattle.mscpjudge.proofs.Common.{Answers, Bool, Err, Extent, Goes, IsAt, IsFaultAt, IsFaultBelow, IsFirstBelow, IsFront, List, None, Ok, Option, Outcome, ReadFault, Result, SaysBelow, ScriptFault, Some, Stands, Telling, TellsBy, TellsOne, TellsWire, Told, [], add-one, ap, arith, earlier, eq-or-lt_of_le, false, fault_by, fault_of_log, has_ports, if◌then◌else◌, inl, inr, length, most_read, nat_le, nat_tests, number_by, number_in, occurs, part_of, port_fault, port_log, port_text, refl, subst, suc, sym, true, worse, ℕ, ◌++◌, ◌+◌, ◌<◌, ◌∙◌, ◌≡◌, ◌≤◌, ◌⊎◌}
use Rattle.mscp_reader.specs.declared.fault.ReadFault.TheVariants as reads
use Rattle.mscpjudge.specs.declared.judging.Outcome.TheVariants as outcomes

-- ---- no port

pub says_none : (extent : Extent) (bytes : List ℕ) → SaysBelow 0 extent bytes outcomes.Legal []
unfolding SaysBelow
says_none extent bytes = (refl, refl)

-- ---- one more

pub says_more : (n : ℕ) (extent : Extent) (bytes : List ℕ) (others outcome : Outcome) (before text : List ℕ)
    → SaysBelow n extent bytes others before → Goes (occurs bytes n) extent bytes n before others outcome text
    → SaysBelow (n + 1) extent bytes outcome text
unfolding SaysBelow
says_more n extent bytes others outcome before text s g =
    let k : SaysBelow (suc n) extent bytes outcome text = (others, before, s, g) in
    subst (λ m. SaysBelow m extent bytes outcome text) (sym (add-one n)) k

-- a number below one more
pub below_or_is : (p n : ℕ) → p < n + 1 → (p < n) ⊎ (p ≡ n)
below_or_is p n h = elim (eq-or-lt_of_le {n = p} {m = n} (omega arith)) [ inl same ↦ inr same | inr less ↦ inl less ]

pub below_too : (n : ℕ) (extent : Extent) (bytes : List ℕ) (fault : ScriptFault) → IsFaultBelow n extent bytes fault
    → IsFaultBelow (n + 1) extent bytes fault
below_too n extent bytes fault (inl h) = inl h
below_too n extent bytes fault (inr (p, less, is, h)) = inr (p, omega arith, is, h)

pub below_or_last : (n : ℕ) (extent : Extent) (bytes : List ℕ) (fault : ScriptFault)
    → IsFaultBelow (n + 1) extent bytes fault
    → IsFaultBelow n extent bytes fault ⊎ ((occurs bytes n ≡ true) × IsFaultAt extent bytes n fault)
below_or_last n extent bytes fault (inl h) = inl (inl h)
below_or_last n extent bytes fault (inr (p, less, is, h)) =
    elim (below_or_is p n less) [
      | inl before ↦ inl (inr (p, before, is, h))
      | inr same ↦ inr (subst (λ q. (occurs bytes q ≡ true) × IsFaultAt extent bytes q fault) same (is, h))
    ]

-- ---- what stands

-- no port, where the lines that name ports have this fault first
pub stands_none : (extent : Extent) (bytes : List ℕ) (fault : Option ScriptFault) → fault ≡ port_fault bytes
    → Stands 0 extent bytes fault outcomes.Legal []
stands_none extent bytes None e =
    (says_none extent bytes, λ fault h. elim h [ inl is ↦ cc | inr less ↦ absurd (omega (arith, less.1)) ])
stands_none extent bytes (Some fault) e = (
  inl (sym e),
  λ other h. elim h [
    | inl is ↦ let k : fault ≡ other = cc in omega (arith, ap (λ (f : ScriptFault). f.line) k)
    | inr less ↦ absurd (omega (arith, less.1))
  ],
)

-- a port that doesn't occur
pub below_before : (n : ℕ) (extent : Extent) (bytes : List ℕ) (fault : ScriptFault) → occurs bytes n ≡ false
    → IsFaultBelow (n + 1) extent bytes fault → IsFaultBelow n extent bytes fault
below_before n extent bytes fault e h =
    elim (below_or_last n extent bytes fault h) [
      | inl before ↦ before
      | inr last ↦ let k = last.0 in cc
    ]

pub stands_skipped : (n : ℕ) (extent : Extent) (bytes : List ℕ) (fault : Option ScriptFault) (outcome : Outcome)
    (text : List ℕ) → occurs bytes n ≡ false → Stands n extent bytes fault outcome text
    → Stands (n + 1) extent bytes fault outcome text
stands_skipped n extent bytes None outcome text e s = (
  says_more n extent bytes outcome outcome text text s.0
      (subst (λ b. Goes b extent bytes n text outcome outcome text) (sym e) (refl, refl)),
  λ fault h. s.1 fault (below_before n extent bytes fault e h),
)
stands_skipped n extent bytes (Some fault) outcome text e s = (
  below_too n extent bytes fault s.0,
  λ other h. s.1 other (below_before n extent bytes other e h),
)

-- one that is told
pub stands_told : (n : ℕ) (extent : Extent) (bytes : List ℕ) (fault : Option ScriptFault) (outcome own next : Outcome)
    (text lines more : List ℕ) → occurs bytes n ≡ true → Answers extent (number_in bytes n) (port_log bytes n) own lines
    → ((other : ScriptFault) → IsFaultAt extent bytes n other → ⊥) → next ≡ worse outcome own
    → more ≡ text ++ port_text n ++ lines
    → Stands n extent bytes fault outcome text → Stands (n + 1) extent bytes fault next more
stands_told n extent bytes None outcome own next text lines more e answers none o t s = (
  says_more n extent bytes outcome next text more s.0
      (subst (λ b. Goes b extent bytes n text outcome next more) (sym e)
      (record { own = own; lines = lines; answers = answers; outcome_is = o; text_is = t })),
  λ fault h. elim (below_or_last n extent bytes fault h) [
    | inl before ↦ s.1 fault before
    | inr last ↦ none fault last.1
  ],
)
stands_told n extent bytes (Some fault) outcome own next text lines more e answers none o t s = (
  below_too n extent bytes fault s.0,
  λ other h. elim (below_or_last n extent bytes other h) [
    | inl before ↦ s.1 other before
    | inr last ↦ absurd (none other last.1)
  ],
)

-- one that is at fault
pub stands_first : (n : ℕ) (extent : Extent) (bytes : List ℕ) (fault : ScriptFault) (outcome : Outcome)
    (text : List ℕ) → occurs bytes n ≡ true → IsFaultAt extent bytes n fault
    → ((other : ScriptFault) → IsFaultAt extent bytes n other → other ≡ fault)
    → Stands n extent bytes None outcome text → IsFirstBelow (n + 1) extent bytes fault
stands_first n extent bytes fault outcome text e is only s = (
  inr (n, omega arith, e, is),
  λ other h. elim (below_or_last n extent bytes other h) [
    | inl before ↦ absurd (s.1 other before)
    | inr last ↦ omega (arith, ap (λ (f : ScriptFault). f.line) (only other last.1))
  ],
)

pub stands_earlier : (n : ℕ) (extent : Extent) (bytes : List ℕ) (first fault : ScriptFault) → occurs bytes n ≡ true
    → IsFaultAt extent bytes n fault
    → ((other : ScriptFault) → IsFaultAt extent bytes n other → other ≡ fault)
    → IsFirstBelow n extent bytes first → (b : Bool) → nat_le first.line fault.line ≡ b
    → IsFirstBelow (n + 1) extent bytes (if b then first else fault)
stands_earlier n extent bytes first fault e is only s true d = (
  below_too n extent bytes first s.0,
  λ other h. elim (below_or_last n extent bytes other h) [
    | inl before ↦ s.1 other before
    | inr last ↦
        let k = ap (λ (f : ScriptFault). f.line) (only other last.1) in
        let less : first.line ≤ fault.line = grind (arith, nat_tests) in omega arith
  ],
)
stands_earlier n extent bytes first fault e is only s false d = (
  inr (n, omega arith, e, is),
  λ other h. elim (below_or_last n extent bytes other h) [
    | inl before ↦
        let k = s.1 other before in
        let less : fault.line < first.line = grind (arith, nat_tests) in omega arith
    | inr last ↦ omega (arith, ap (λ (f : ScriptFault). f.line) (only other last.1))
  ],
)

pub stands_fails : (n : ℕ) (extent : Extent) (bytes : List ℕ) (first : Option ScriptFault) (fault : ScriptFault)
    (outcome : Outcome) (text : List ℕ) → occurs bytes n ≡ true → IsFaultAt extent bytes n fault
    → ((other : ScriptFault) → IsFaultAt extent bytes n other → other ≡ fault)
    → Stands n extent bytes first outcome text
    → Stands (n + 1) extent bytes (Some (earlier first fault)) outcome text
stands_fails n extent bytes None fault outcome text e is only s =
    stands_first n extent bytes fault outcome text e is only s
stands_fails n extent bytes (Some first) fault outcome text e is only s =
    stands_earlier n extent bytes first fault e is only s (nat_le first.line fault.line) refl

-- ---- the whole

-- what is said of a log without ports
pub one_is : (extent : Extent) (bytes : List ℕ) (r : Result Told ReadFault) → TellsOne extent (number_by []) r bytes
    → TellsBy false extent r bytes
one_is extent bytes (Ok told) h = h.0
one_is extent bytes (Err (reads.Script fault)) h = h.0
one_is extent bytes (Err reads.OutOfMemory) h = tt

-- a log with ports isn't too large
pub small : (bytes : List ℕ) → has_ports bytes ≡ true → length bytes ≤ 16777216
small bytes h = grind (arith, nat_tests)

-- nothing is written of a log at fault
pub whole_fails : (extent : Extent) (read : ReadFault) (log : List ℕ) (known old new : Option (List ℕ))
    → IsFront most_read known log → TellsBy (has_ports log) extent (Err read) log → new ≡ old
    → TellsWire extent (Err (fault_of_log read)) known old new
whole_fails extent (reads.Script fault) log known old new front h e = (e, (log, front, h))
whole_fails extent reads.OutOfMemory log known old new front h e = e

-- ---- a port more

pub told_at : (n : ℕ) (extent : Extent) (bytes log numbers : List ℕ) (old new : Telling) (told : Told)
    → log ≡ port_log bytes n → numbers ≡ (part_of bytes n).numbers → occurs bytes n ≡ true
    → TellsOne extent (number_by numbers) (Ok told) log → new.fault ≡ old.fault
    → new.told.outcome ≡ worse old.told.outcome told.outcome
    → new.told.text.items ≡ old.told.text.items ++ port_text n ++ told.text.items → IsAt n extent bytes old
    → IsAt (n + 1) extent bytes new
told_at n extent bytes log numbers old new told same by is one f o t s =
    let k = subst (λ l. TellsOne extent (number_in bytes n) (Ok told) l) same
    (subst (λ x. TellsOne extent (number_by x) (Ok told) log) by one) in
    subst (λ x. Stands (n + 1) extent bytes x new.told.outcome new.told.text.items) (sym f)
    (stands_told n extent bytes old.fault old.told.outcome told.outcome new.told.outcome old.told.text.items
    told.text.items new.told.text.items is k.0 (λ other h. k.1 h.0 h.1) o t s)

pub fails_at : (n : ℕ) (extent : Extent) (bytes log numbers : List ℕ) (old new : Telling) (own : ScriptFault)
    → log ≡ port_log bytes n → numbers ≡ (part_of bytes n).numbers → occurs bytes n ≡ true
    → TellsOne extent (number_by numbers) (Err (reads.Script own)) log
    → new.fault ≡ Some (earlier old.fault (fault_by (number_by numbers) own)) → IsAt n extent bytes old
    → IsAt (n + 1) extent bytes new
fails_at n extent bytes log numbers old new own same by is one f s =
    let k = subst (λ l. TellsOne extent (number_in bytes n) (Err (reads.Script own)) l) same
    (subst (λ x. TellsOne extent (number_by x) (Err (reads.Script own)) log) by one) in
    subst (λ x. Stands (n + 1) extent bytes x new.told.outcome new.told.text.items)
    (sym (f ∙ ap (λ x. Some (earlier old.fault (fault_by (number_by x) own))) by))
    (stands_fails n extent bytes old.fault (fault_by (number_in bytes n) own) old.told.outcome old.told.text.items is
    (own, k.0, refl) (λ other h. h.2 ∙ ap (fault_by (number_in bytes n)) (k.1 h.0 h.1)) s)

pub skipped_at : (n : ℕ) (extent : Extent) (bytes : List ℕ) (t : Telling) → occurs bytes n ≡ false
    → IsAt n extent bytes t → IsAt (n + 1) extent bytes t
skipped_at n extent bytes t e s = stands_skipped n extent bytes t.fault t.told.outcome t.told.text.items e s

pub first_at : (extent : Extent) (bytes : List ℕ) (t : Telling) → t.fault ≡ port_fault bytes
    → t.told.outcome ≡ outcomes.Legal → t.told.text.items ≡ [] → IsAt 0 extent bytes t
first_at extent bytes t f o x =
    subst (λ y. Stands 0 extent bytes t.fault t.told.outcome y) (sym x)
    (subst (λ y. Stands 0 extent bytes t.fault y []) (sym o) (stands_none extent bytes t.fault f))
