use Rattle.mscp_judge.proofs.Common.{refl, length, ap, arith, length-drop, Decides-eqb, take_all, starts_is, due}
use Rattle.mscp_judge.proofs.Passing.{answers_bytes}
use Rattle.mscp_judge.proofs.judging.cut_due.Goals as goal

pub overflow_add-lines : goal.overflow_add-lines
overflow_add-lines g c =
    let few = answers_bytes (due c.args.judge.now) c.args.count c.requires in
    omega (arith, few, ap length c.due-due.ensures, c.if-not-starts_with.ensures.bound refl, c.args.lines.now.countable)

pub invariant_of-lines : goal.invariant_of-lines
invariant_of-lines g c =
    let few = answers_bytes (due c.args.judge.now) c.args.count c.requires in
    record {
      countable = omega (
        arith,
        few,
        ap length c.due-due.ensures,
        c.if-not-starts_with.ensures.bound refl,
        c.args.lines.now.countable,
      );
    }

pub returns-clause-cut : goal.returns-clause-cut
returns-clause-cut g c = search (arith, take_all, length-drop, starts_is, Decides-eqb)
