use Rattle.mscp_reader.proofs.Common.{rules, ◌<◌, ◌≤◌, arith, get_or, length}
use Rattle.mscp_reader.proofs.Digits.{value_more, all_more, small_more}
use Rattle.mscp_reader.proofs.plain.numeral_of.Goals as goal

pub loop-digits-preserved : goal.loop-digits-preserved
loop-digits-preserved c =
    let i = c.loop-digits.digits in
    let seen = c.loop-digits.invariant in
    let inside : i < length c.args.bytes.now = omega (arith, c.loop-digits-test.true, seen.within) in
    let low : 48 ≤ get_or c.args.bytes.now i 0 = search rules in
    let high : get_or c.args.bytes.now i 0 ≤ 57 = search rules in
    record {
      most = omega (arith, c.loop-digits-test.true);
      few = seen.few;
      within = seen.within;
      all = all_more c.args.bytes.now i inside low high seen.all;
      value = rw c.from.ensures (value_more c.args.bytes.now i c.loop-digits.value inside low high seen.value);
      small = small_more i c.loop-digits.value c.from.result (omega arith) seen.small;
    }
