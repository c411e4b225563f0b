use Rattle.std.proofs.Common.{refl, arith}
use Rattle.mscp_wire.proofs.Counting.{totals_none, zero_at}
use Rattle.mscp_wire.proofs.totals.Totals.none.Goals as goal

pub returns-clause-totals : goal.returns-clause-totals
returns-clause-totals c = totals_none _ refl refl refl refl refl refl

pub returns-clause-few : goal.returns-clause-few
returns-clause-few c = record {
  counts = record {
    moments = omega arith;
    messages = omega arith;
    polls = omega arith;
    ends = omega arith;
    resets = omega arith;
  };
  commands = λ k. omega (arith, zero_at 256 k 0);
  statuses = λ k. omega (arith, zero_at 32 k 0);
}
