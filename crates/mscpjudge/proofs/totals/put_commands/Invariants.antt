use Rattle.mscpjudge.proofs.Common.{sent_text, slice_index, texts, ◌++◌, ◌≡◌}
use Rattle.mscpjudge.proofs.totals.put_commands.Given as goal

abbrev pub invariant-loop-opcode : goal.invariant-loop-opcode
invariant-loop-opcode g l =
    l.text.items ≡ l.fn.text.items ++ texts (λ opcode. sent_text opcode (slice_index l.commands opcode)) l.opcode
