use Rattle.mscp_reader.proofs.Common.{arith, ◌≡◌, ◌++◌, sym, take-append-drop}
use Rattle.mscp_reader.proofs.PlainLines.{plain_is}
use Rattle.mscp_reader.proofs.plain.read_plain.Goals as goal

pub returns-in-Some-behind-clause-plain : goal.returns-in-Some-behind-clause-plain
returns-in-Some-behind-clause-plain c =
    let word = c.split_at.result.0.now in
    let rest = c.split_at.result.1.now in
    let whole : c.args.bytes.now ≡ word ++ rest = rw (c.split_at.ensures.front, c.split_at.ensures.back)
    (sym (take-append-drop c.letter_count.result c.args.bytes.now)) in
    search (arith, plain_is)
