use Rattle.mscpjudge.proofs.Common.{ended_text, slice_index, texts, ◌++◌, ◌≡◌}
use Rattle.mscpjudge.proofs.totals.put_statuses.Given as goal

abbrev pub invariant-loop-code : goal.invariant-loop-code
invariant-loop-code g l =
    l.text.items ≡ l.fn.text.items ++ texts (λ code. ended_text code (slice_index l.statuses code)) l.code
