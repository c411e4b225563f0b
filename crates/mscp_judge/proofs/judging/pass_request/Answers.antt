use Rattle.mscp_judge.proofs.Common.{Ok, arith, events_of}
use Rattle.mscp_judge.proofs.Passing.{passed_cut, passed_more, passed_none, passed_request}
use Rattle.mscp_judge.proofs.judging.pass_request.Goals as goal

pub returns-then-not-is_settled-clause-passed : goal.returns-then-not-is_settled-clause-passed
returns-then-not-is_settled-clause-passed g c = search (arith, passed_none)

pub returns-in_default-clause-passed : goal.returns-in_default-clause-passed
returns-in_default-clause-passed g c = search (arith, passed_none)

pub returns-clause-passed : goal.returns-clause-passed
returns-clause-passed g c = λ d log s.
    let seen = c.in-Some.ensures in
    let before = c.args.lines.now.number in
    let rest = c.args.lines.now.rest.now in
    let mid = c.cut_request.new.lines in
    let first = passed_request (Ok tt) c.args.judge.now c.ask.new.self (events_of c.in-Some.request) before mid.number _
    rest mid.rest.now c.in_ok-count.ensures.stands seen.number c.count.ensures seen.asks seen.rest seen.some d log s in
    let new = c.cut_due.new in
    let cut = c.cut_due.ensures in
    passed_more d log before mid.number new.lines.number rest mid.rest.now new.lines.rest.now c.ask.new.self new.judge
    first (passed_cut d first.next mid.number new.lines.number c.in_ok-count.count mid.rest.now new.lines.rest.now
    c.ask.new.self new.judge c.cut_due.result c.in_ok-count.ensures.answers cut.cut cut.number cut.most cut.told
    cut.frame cut.rest cut.kept cut.untold first.stands)
