use Rattle.std.proofs.Common.{sym, ◌∙◌}
use Rattle.mscp_text.proofs.Hexadecimal.{long_word, no_word}
use Rattle.mscp_text.proofs.packet.message_of.Goals as goal
use Rattle.mscp_text.proofs.packet.message_of.Goals.{then-is_hexadecimal, else-is_hexadecimal}

pub returns-then-count-gt-MOST_MESSAGE_BYTES-clause-value :
    goal.returns-then-count-gt-MOST_MESSAGE_BYTES-clause-value
returns-then-count-gt-MOST_MESSAGE_BYTES-clause-value c =
    elim c.if-is_hexadecimal.branch [
      | then-is_hexadecimal w ↦ rw w.result-is (long_word c.args.word.now c.if-count-gt-MOST_MESSAGE_BYTES.true
          (sym c.is_hexadecimal.ensures ∙ w.if-is_hexadecimal.true))
      | else-is_hexadecimal w ↦ rw w.result-is (no_word c.args.word.now
          (sym c.is_hexadecimal.ensures ∙ w.if-is_hexadecimal.false))
    ]
