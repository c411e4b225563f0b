-- Lines that are passed over.
use Rattle.mscp_judge.proofs.Common.{◌≡◌, ℕ, ◌+◌, ◌<◌, ◌≤◌, false, List, [], ◌∷◌, ◌++◌, length, refl, ap, sym, ◌∙◌, subst, arith, true, Bool, append_assoc, append-nil, length-append, codes, drop, OnOk, Some, Result, Ok, Err, AllByRecursion, flat_map, Settings, Event, OutOfMemory, line, asked_next, plain_lines, lines, Judge, Passed, AreAnswers, IsAnswerLine, Log, after_lines, asking, telling, told, Stands, due}
use Rattle.mscp_judge.proofs.Answering.{idle_answers}
use Rattle.mscp_judge.proofs.Exactly.{lines_behind}
use Rattle.mscp_judge.proofs.Marks.{told_append}
use Rattle.mscp_judge.proofs.Reading.{lines_more, tells}
use Rattle.mscp_judge.proofs.Telling.{told_all}
use Rattle.mscp_judge.proofs.Wording.{asked_line, asked_reads}

-- none
pub passed_none : {A : Type 0} (c : Settings) (log : Log) (before : ℕ) (rest : List ℕ) (number : ℕ) (left : List ℕ)
    (judge : Judge A) → number ≡ before → left ≡ rest → Stands c log judge → Passed c before log rest number left judge
unfolding after_lines
passed_none c log before rest number left judge n e s = record {
  front = [];
  next = log;
  whole = ap lines (sym e);
  count = omega (arith, n);
  read = refl;
  stands = s;
}

none_read : (before : ℕ) (log : Log) → after_lines before log [] ≡ Ok log
unfolding after_lines
none_read before log = refl

-- one that asks for events
pub passed_request : {A : Type 0} (r : Result (Unit {0}) OutOfMemory) (old new : Judge A) (what : List Event)
    (before n count : ℕ) (rest left : List ℕ)
    → OnOk r ((c : Settings) (log : Log) → Stands c log old → Stands c (asking log what) new) → n ≡ before + 1
    → count ≡ old.reporter.count + old.owed → asked_next before count (lines rest) ≡ Ok (Some what)
    → lines left ≡ drop 1 (lines rest) → 0 < length what
    → OnOk r ((c : Settings) (log : Log) → Stands c log old → Passed c before log rest n left new)
passed_request (Ok x) old new what before n count rest left stands next k asks whole some = λ c log s.
    let p = asked_line before count (lines rest) what asks in
    let step = asked_reads (before + 1) count log p.0 what (s.count ∙ sym k) p.2 some in
    record {
      front = p.0 ∷ [];
      next = asking log what;
      whole = p.1 ∙ ap (λ ls. p.0 ∷ ls) (sym whole);
      count = omega (arith, next);
      read = lines_more before log [] p.0 log (asking log what) (before + 1) (none_read before log) (omega arith) step;
      stands = stands c log s;
    }
passed_request (Err x) old new what before n count rest left stands next k asks whole some = tt

-- one after the other
pub passed_more : {A : Type 0} (c : Settings) (log : Log) (before n last : ℕ) (rest mid left : List ℕ)
    (judge new : Judge A) (p : Passed c before log rest n mid judge) → Passed c n p.next mid last left new
    → Passed c before log rest last left new
passed_more c log before n last rest mid left judge new p q =
    search (
      arith,
      append_assoc p.front q.front (lines left),
      length-append p.front q.front,
      lines_behind before log p.front q.front p.next p.read,
    )

-- ---- answers

answers_told : (before : ℕ) (log : Log) (all : List (List ℕ)) → AllByRecursion IsAnswerLine all
    → before + length all ≤ 1000000 → after_lines before log all ≡ Ok (telling log (flat_map line all))
unfolding after_lines
answers_told before log [] each few = ap (λ ms. Ok (record log { marks = ms })) (sym (append-nil log.marks))
answers_told before log (bytes ∷ all) each few = search (
  arith,
  answers_told (before + 1) (telling log (line bytes)) all each.1 (omega (arith, few)),
  tells,
  append_assoc,
  told_append,
)

answers_ahead : (all : List (List ℕ)) (left : List ℕ) → AllByRecursion IsAnswerLine all
    → lines (flat_map line all ++ left) ≡ all ++ lines left
answers_ahead [] left each = refl
answers_ahead (bytes ∷ all) left each = search (arith, append_assoc, line, plain_lines, answers_ahead all left each.1)

answers_few : (all : List (List ℕ)) → length all ≤ length (flat_map line all)
answers_few [] = omega arith
answers_few (bytes ∷ all) = search (arith, length-append, line, answers_few all)

-- so many lines have at least as many bytes
pub answers_bytes : (bytes : List ℕ) (count : ℕ) → AreAnswers bytes count → count ≤ length bytes
answers_bytes bytes count a = omega (arith, ap length a.whole, a.many, answers_few a.all)

-- these are told
pub passed_answers : {A : Type 0} (c : Settings) (log : Log) (before n count : ℕ) (rest left bytes : List ℕ)
    (judge : Judge A) → AreAnswers bytes count → rest ≡ bytes ++ left → n ≡ before + count → n ≤ 1000000
    → Stands c (telling log bytes) judge → Passed c before log rest n left judge
passed_answers c log before n count rest left bytes judge a is number few stands =
    grind (arith, answers_ahead, answers_told)

-- the line of an idle step is told
pub passed_idle : {A : Type 0} (c : Settings) (log : Log) (before n : ℕ) (rest left : List ℕ) (judge : Judge A)
    → rest ≡ codes "idle\n" ++ left → n ≡ before + 1 → before < 1000000 → Stands c (telling log (codes "idle\n")) judge
    → Passed c before log rest n left judge
passed_idle c log before n rest left judge is number few stands = search (
  arith,
  passed_answers c log before n 1 rest left (codes "idle\n") judge
      (record {
        all = codes "idle" ∷ [];
        whole = refl;
        many = refl;
        each = (
          idle_answers,
          tt,
        );
      }) is number (omega (arith, number, few)) stands,
)

-- what was due is told, if it stands next; or else it stays
pub passed_cut : {A : Type 0} (c : Settings) (log : Log) (before n count : ℕ) (rest left : List ℕ) (old new : Judge A)
    (is : Bool) → AreAnswers (due old) count → (is ≡ true → rest ≡ due old ++ left) → (is ≡ true → n ≡ before + count)
    → (is ≡ true → n ≤ 1000000) → (is ≡ true → due new ≡ []) → new ≡ record old { told = new.told }
    → (is ≡ false → left ≡ rest) → (is ≡ false → n ≡ before) → (is ≡ false → new ≡ old) → Stands c log old
    → Passed c before log rest n left new
passed_cut c log before n count rest left old new true a cut number most told frame same kept untold s =
    search (arith, passed_answers, told_all)
passed_cut c log before n count rest left old new false a cut number most told frame same kept untold s =
    passed_none c log before rest n left new (kept refl) (same refl) (subst (Stands c log) (sym (untold refl)) s)
