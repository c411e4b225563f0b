use Rattle.mscp_reader.proofs.Common.{rules, ◌≤◌, arith, get_or}
use Rattle.mscp_reader.proofs.Digits.{value_more, all_more, small_more}
use Rattle.mscp_reader.proofs.numbers.number.Goals as goal

pub loop-digit-preserved : goal.loop-digit-preserved
loop-digit-preserved c =
    let i = c.loop-digit.digit-index in
    let low : 48 ≤ get_or c.args.word.now i 0 = search rules in
    let high : get_or c.args.word.now i 0 ≤ 57 = search rules in
    record {
      digits = all_more c.args.word.now i c.loop-digit-test.true low high c.loop-digit.invariant.digits;
      value = rw c.from.ensures (value_more c.args.word.now i c.loop-digit.value c.loop-digit-test.true low high
          c.loop-digit.invariant.value);
      small = small_more i c.loop-digit.value c.from.result (omega arith) c.loop-digit.invariant.small;
    }
