use Rattle.mscpjudge.specs.Lengths.{lengths_text}
use Rattle.mscpjudge.proofs.Counted.{joined}
use Rattle.mscpjudge.proofs.lengths.put_lengths.Goals as goal

pub returns : goal.returns
unfolding lengths_text
returns g c =
    joined c.put.result c.args.text.now.items _ _ c.put.new.out.items _ _ _ c.in_ok-put_field.ensures.text
    c.in_ok-put_field-2.ensures.text c.put.ensures.text
