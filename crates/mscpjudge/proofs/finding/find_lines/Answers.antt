use Rattle.mscpjudge.proofs.Common.{Err, Fails, Gathered, Ok, Tells, [], after_line, ap, append-nil, breach_by, breaches_by, broken_of, broken_rules_text, credits_by, err_from_is_err_and, finding_text, flat_map, flat_map-append, found_text, gathered_after, gathered_in, line_breach, lines, lines_found, map, map-append, nothing_gathered, number_by, refl, subst, sym, time_of, ◌++◌, ◌>>=◌, ◌∙◌, ◌∷◌}
use Rattle.mscpjudge.proofs.Going.{beside_is, fails_on, found_fails, found_more, found_none}
use Rattle.mscpjudge.proofs.finding.find_lines.Goals as goal

pub loop-line-init : goal.loop-line-init
loop-line-init c = record {
  gathered = nothing_gathered;
  on = c.new-course.ensures;
  fresh = refl;
  account = c.unknown-account.ensures;
  text = c.new-text.ensures.items;
  broken = c.new-broken.ensures.items;
  read = ap (λ n. gathered_in n nothing_gathered (lines c.args.lines.now.rest.now)) (sym c.requires);
}

pub loop-line-preserved-in-Continue-branch-2 : goal.loop-line-preserved-in-Continue-branch-2
loop-line-preserved-in-Continue-branch-2 c =
    let i = c.loop-line.invariant in
    let x = c.in-Some-found_beside.finding in
    let place = c.cut.new.self.number in
    let line = c.in-Some.line.now in
    let goes = c.in_ok-found.ensures i.gathered.told i.on in
    let breach = c.line-breach.ensures.breach ∙ ap (λ a. line_breach place a line) i.account in
    let more = ap (breaches_by i.gathered.account) (sym (beside_is place i.gathered line goes.0
    c.in_ok-found.found c.line-breach.result i.fresh goes.3 breach) ∙ sym c.found_beside.ensures
    ∙ c.in-Some-found_beside.is) in
    let number = number_by c.args.times.now.numbers.now in
    let time = time_of c.args.times.now.lines in
    let texts = flat_map (finding_text number time) in
    let known = breach_by i.gathered.account x in
    let told = c.told_in-credits.ensures ∙ ap (credits_by x.wrong.rule x.wrong.command) i.account in
    record {
      gathered = gathered_after place i.gathered line goes.0;
      on = goes.2;
      fresh = refl;
      account = c.line-breach.ensures.after ∙ ap (λ a. after_line place a line) i.account;
      text =
          c.in_ok-put_finding.ensures.text
          ∙ ap (λ credits. c.loop-line.text.items
          ++ finding_text number time (record { finding = x; credits = credits })) told
          ∙ ap (λ t. t ++ finding_text number time known) i.text
          ∙ sym (ap (λ xs. texts (i.gathered.all ++ xs)) more
          ∙ flat_map-append (finding_text number time) i.gathered.all (known ∷ [])
          ∙ ap (λ t. texts i.gathered.all ++ t) (append-nil (finding_text number time known)));
      broken =
          c.in_ok-put_finding.ensures.broken ∙ ap (λ t. t ++ x.wrong.rule ∷ []) i.broken
          ∙ sym (ap (λ xs. map broken_of (i.gathered.all ++ xs)) more
          ∙ map-append broken_of i.gathered.all (known ∷ []));
      read =
          i.read ∙ ap (gathered_in c.loop-line.lines.number i.gathered) c.in-Some.ensures.line
          ∙ found_more c.loop-line.lines.number place i.gathered goes.0 line
          (lines c.cut.new.self.rest.now) c.in-Some.ensures.counted goes.1;
    }

pub loop-line-preserved : goal.loop-line-preserved
loop-line-preserved c =
    let i = c.loop-line.invariant in
    let number = number_by c.args.times.now.numbers.now in
    let time = time_of c.args.times.now.lines in
    let place = c.cut.new.self.number in
    let line = c.in-Some.line.now in
    let goes = c.in_ok-found.ensures i.gathered.told i.on in
    let breach = c.line-breach.ensures.breach ∙ ap (λ a. line_breach place a line) i.account in
    let more = ap (breaches_by i.gathered.account) (sym (beside_is place i.gathered line goes.0
    c.in_ok-found.found c.line-breach.result i.fresh goes.3 breach) ∙ sym c.found_beside.ensures
    ∙ c.in_default-found_beside.is) in
    let same = ap (λ xs. i.gathered.all ++ xs) more ∙ append-nil i.gathered.all in
    record {
      gathered = gathered_after place i.gathered line goes.0;
      on = goes.2;
      fresh = refl;
      account = c.line-breach.ensures.after ∙ ap (λ a. after_line place a line) i.account;
      text = i.text ∙ sym (ap (flat_map (finding_text number time)) same);
      broken = i.broken ∙ sym (ap (map broken_of) same);
      read =
          i.read ∙ ap (gathered_in c.loop-line.lines.number i.gathered) c.in-Some.ensures.line
          ∙ found_more c.loop-line.lines.number place i.gathered goes.0 line
          (lines c.cut.new.self.rest.now) c.in-Some.ensures.counted goes.1;
    }

pub returns-in_err-found : goal.returns-in_err-found
returns-in_err-found c =
    let i = c.loop-line.invariant in
    let p = err_from_is_err_and c.from_residual.result c.from_residual.ensures.1 in
    let number = number_by c.args.times.now.numbers.now in
    let time = time_of c.args.times.now.lines in
    subst (λ r. Tells (λ text. text.items) r (lines_found number time (lines c.args.lines.now.rest.now)))
    (sym (p.1 ∙ ap (λ f. Err f) p.2))
    (subst (λ r. Fails c.in_err-found.field-0.0 (r >>= λ (g : Gathered). Ok (found_text number time g.all)))
    (sym (i.read ∙ ap (gathered_in c.loop-line.lines.number i.gathered) c.in-Some.ensures.line))
    (fails_on c.in_err-found.field-0.0 _ (λ (g : Gathered). Ok (found_text number time g.all))
    (found_fails c.loop-line.lines.number c.cut.new.self.number i.gathered c.in-Some.line.now
    (lines c.cut.new.self.rest.now) c.in_err-found.field-0.0 c.line.new.self c.in-Some.ensures.counted
    (c.in_err-found.ensures i.gathered.told i.on))))

pub returns : goal.returns
returns c =
    let i = c.loop-line.invariant in
    let number = number_by c.args.times.now.numbers.now in
    let time = time_of c.args.times.now.lines in
    ap (λ r. r >>= λ (g : Gathered). Ok (found_text number time g.all))
    (i.read ∙ ap (gathered_in c.loop-line.lines.number i.gathered) c.in_default.ensures.line
    ∙ found_none c.loop-line.lines.number i.gathered)
    ∙ ap Ok (sym (c.in_ok-put_counts.ensures
    ∙ ap (λ t. t ++ broken_rules_text c.as_slice.result.now) i.text
    ∙ ap (λ b. flat_map (finding_text number time) i.gathered.all
    ++ broken_rules_text b) (c.as_slice.ensures.value ∙ i.broken)))
