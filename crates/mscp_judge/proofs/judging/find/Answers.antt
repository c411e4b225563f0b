use Rattle.mscp_judge.proofs.Common.{◌≡◌, ℕ, ◌+◌, List, [], ◌∷◌, ◌++◌, length, Ok, Err, refl, ap, sym, ◌∙◌, subst, arith, length-append, append_assoc, append-nil, None, err_from_is_err_and, Settings, progress, lines, words, ReadFault, Judge, Breaks, Hears, IsBroken, Judges, Tells, Log, MayGoOn, after_lines, nothing, whole, Totals, name_in, totals_of, AreTotals}
use Rattle.mscp_judge.proofs.Coming.{held_settings, stands_legal, stands_not, stands_open, stands_settings}
use Rattle.mscp_judge.proofs.Exactly.{lines_behind}
use Rattle.mscp_judge.proofs.Righting.{stands_open_held}
use Rattle.mscp_judge.proofs.Reading.{lines_more}
use Rattle.mscp_judge.proofs.judging.find.Goals as goal

-- a line at fault
judged_fault : {A : Type 0} (c : Settings) (before : ℕ) (all front : List (List ℕ)) (bytes : List ℕ)
    (back : List (List ℕ)) (log : Log) (number : ℕ) (judge : Judge A) (fault : ReadFault) → all ≡ front ++ bytes ∷ back
    → number ≡ before + length front + 1 → after_lines before nothing front ≡ Ok log → MayGoOn c log.marks
    → Hears c number log bytes (Err fault) judge → Judges c before all (Err fault)
judged_fault c before all front bytes back log number judge fault h1 h2 h3 h4 h5 = search arith

pub loop-bytes-init : goal.loop-bytes-init
loop-bytes-init g c = search arith

pub returns-then-not-branch : goal.returns-then-not-branch
returns-then-not-branch g c = λ d s.
    c.in_ok-pass_lines.ensures.wrong (ap Ok c.if-not-branch.true) d nothing s

pub returns-then-not-branch-2 : goal.returns-then-not-branch-2
returns-then-not-branch-2 g c = λ d s.
    let i = c.loop-bytes.invariant.passed d s in
    let k = c.in_ok-rule.ensures.hears d i.next i.stands in
    let wanted = name_in (words c.in-Some.bytes.now) in
    let stands = subst (λ b. Tells d i.next k.0 wanted c.judge_line.new.judge b) c.in_default-2.is k.2 in
    c.in_ok-pass_lines-2.ensures.wrong (ap Ok c.if-not-branch-2.true) d k.0 stands

pub returns-in_err-rule : goal.returns-in_err-rule
returns-in_err-rule g c =
    let p = err_from_is_err_and c.from_residual-in_err-rule.result c.from_residual-in_err-rule.ensures.1 in
    rw (p.1, p.2) (λ d s.
    let i = c.loop-bytes.invariant.passed d s in
    judged_fault d c.args.lines.now.number _ i.front c.in-Some.bytes.now (lines c.cut.new.self.rest.now) i.next
    c.cut.new.self.number c.judge_line.new.judge c.in_err-rule.field-0.0
    (i.whole ∙ ap (λ ls. i.front ++ ls) c.in-Some.ensures.line) (omega (arith, i.count, c.in-Some.ensures.counted))
    i.read (stands_open d i.next c.loop-bytes.judge i.stands) (c.in_err-rule.ensures.hears d i.next i.stands))

pub returns-in-Some-2 : goal.returns-in-Some-2
returns-in-Some-2 g c = λ d s.
    let i = c.loop-bytes.invariant.passed d s in
    let k = c.in_ok-rule.ensures.hears d i.next i.stands in
    let wanted = name_in (words c.in-Some.bytes.now) in
    let told = subst (λ b. Tells d i.next k.0 wanted c.judge_line.new.judge b) c.in-Some-2.is k.2 in
    let breaks = subst (λ b. Breaks c.loop-bytes.judge c.in-Some.bytes.now b c.judge_line.new.judge.starts.items)
    c.in-Some-2.is (c.in_ok-rule.ensures.breaks c.if-not-is_rule_wanted.false) in
    let starts = c.take_starts-starts in
    record {
      front = i.front;
      line = c.in-Some.bytes.now;
      back = lines c.cut.new.self.rest.now;
      log = i.next;
      next = k.0;
      whole = i.whole ∙ ap (λ ls. i.front ++ ls) c.in-Some.ensures.line;
      number = omega (arith, i.count, c.in-Some.ensures.counted);
      read = i.read;
      opens = stands_open d i.next c.loop-bytes.judge i.stands;
      says = k.1;
      wrong = told.0;
      broken = subst (λ ns. IsBroken d i.next c.in-Some.bytes.now c.in-Some-2.rule ns)
          (sym (ap (λ x. x.items) starts.ensures.starts)) (breaks d i.next i.stands);
      right_is = c.in_ok-right.ensures d i.next wanted (starts.ensures.held d i.next wanted told.1);
    }

pub returns-then-not-is_rule_wanted : goal.returns-then-not-is_rule_wanted
returns-then-not-is_rule_wanted g c = λ d s.
    let i = c.loop-bytes.invariant.passed d s in
    let k = c.in_ok-rule.ensures.hears d i.next i.stands in
    let wanted = name_in (words c.in-Some.bytes.now) in
    let told = subst (λ b. Tells d i.next k.0 wanted c.judge_line.new.judge b) c.in-Some-2.is k.2 in
    let known = held_settings d i.next c.judge_line.new.judge told.1.0 in
    (c.if-not-is_rule_wanted.true, known.0, known.1)

pub loop-bytes-preserved : goal.loop-bytes-preserved
loop-bytes-preserved g c = record {
  passed = λ d s.
      let i = c.loop-bytes.invariant.passed d s in
      let before = c.args.lines.now.number in
      let bytes = c.in-Some.bytes.now in
      let number = c.cut.new.self.number in
      let k = c.in_ok-rule.ensures.hears d i.next i.stands in
      let wanted = name_in (words bytes) in
      let stands = subst (λ b. Tells d i.next k.0 wanted c.judge_line.new.judge b) c.in_default-2.is k.2 in
      let p = c.in_ok-pass_lines-2.ensures.passed (ap Ok c.if-not-branch-2.false) d k.0 stands in
      let front = i.front ++ bytes ∷ [] in
      let here : number ≡ before + length front =
      omega (arith, i.count, c.in-Some.ensures.counted, length-append i.front (bytes ∷ [])) in
      let read = lines_more before nothing i.front bytes i.next k.0 number i.read
      (omega (arith, i.count, c.in-Some.ensures.counted)) k.1 in
      record {
        front = front ++ p.front;
        next = p.next;
        whole = i.whole ∙ (ap (λ ls. i.front ++ ls) (c.in-Some.ensures.line ∙ ap (λ ls. bytes ∷ ls) p.whole)
            ∙ (sym (append_assoc i.front (bytes ∷ []) (p.front ++ lines c.pass_lines-in-Some.new.lines.rest.now))
            ∙ sym (append_assoc front p.front (lines c.pass_lines-in-Some.new.lines.rest.now))));
        count = omega (arith, here, p.count, length-append front p.front);
        read = lines_behind before nothing front p.front k.0 read
            ∙ (ap (λ n. after_lines n k.0 p.front) (sym here) ∙ p.read);
        stands = p.stands;
      };
  few = c.in_ok-pass_lines-2.ensures.count;
}

pub returns-then-is_settled : goal.returns-then-is_settled
returns-then-is_settled g c = λ d s.
    let i = c.loop-bytes.invariant.passed d s in
    let all = i.whole ∙ (ap (λ ls. i.front ++ ls) c.in_default.ensures.line ∙ append-nil i.front) in
    let known = stands_legal d i.next c.loop-bytes.judge i.stands (c.is_settled.ensures.yes c.if-is_settled.true) in
    let legal = known.0 in
    record {
      log = i.next;
      read = ap (λ ls. after_lines c.args.lines.now.number nothing ls) all ∙ i.read;
      legal = legal;
      promise = progress d (whole legal.0) i.stands.counted.stood.valid legal.1;
      totals_are = subst (λ (t : Totals). AreTotals d (whole legal.0) t)
          (sym (c.totals.ensures ∙ ap (λ e. totals_of e c.loop-bytes.judge)
          (stands_settings d i.next c.loop-bytes.judge i.stands))) known.1;
    }

pub returns-in_ok-right-2 : goal.returns-in_ok-right-2
returns-in_ok-right-2 g c = λ d s.
    let i = c.loop-bytes.invariant.passed d s in
    let all = i.whole ∙ (ap (λ ls. i.front ++ ls) c.in_default.ensures.line ∙ append-nil i.front) in
    record {
      log = i.next;
      read = ap (λ ls. after_lines c.args.lines.now.number nothing ls) all ∙ i.read;
      opens = stands_open d i.next c.loop-bytes.judge i.stands;
      wrong = stands_not d i.next c.loop-bytes.judge i.stands (c.is_settled.ensures.no c.if-is_settled.false);
      right_is = c.in_ok-right-2.ensures d i.next None
          (stands_open_held d i.next None c.loop-bytes.judge i.stands (λ none some. refl));
    }
