use Rattle.mscp_packet.proofs.Common.{◌≡◌, ◌≤◌, List, ℕ, length, inr, subst, sym, rules, arith, slice_index, end_bytes, kind_of_code, reading_with}
use Rattle.mscp_packet.proofs.Ends.{IsAnswer, answer_is, bytes_span}
use Rattle.mscp_packet.proofs.law.read_written_end.Goals as goal

pub returns-clause-read : goal.returns-clause-read
returns-clause-read c =
    let b = c.as_slice.result.now in
    let answer = c.read_end.result in
    let said = c.read_end.ensures in
    let same : b ≡ end_bytes c.args.end.now = search rules in
    let low : 12 ≤ length b = subst (λ b. 12 ≤ length b) (sym same) (bytes_span c.args.end.now).0 in
    let high : length b ≤ 64 = subst (λ b. length b ≤ 64) (sym same) (omega (arith, (bytes_span c.args.end.now).1)) in
    let given : IsAnswer b answer = record {
      low = low;
      high = high;
      only = said.only;
      code = λ none. said.code.1 (low, high, none);
      under = λ under. said.length.1 (inr (inr under));
    } in
    subst (λ (b : List ℕ). answer ≡ reading_with (kind_of_code (slice_index b 8)) b) same (answer_is b answer given)
