use Rattle.mscpjudge.specs.Timing.{lines_text}
use Rattle.mscpjudge.proofs.Counted.{joined}
use Rattle.mscpjudge.proofs.spans.put_lines.Goals as goal

pub returns : goal.returns
unfolding lines_text
returns g c =
    joined c.put.result c.args.text.now.items _ _ c.put.new.out.items _ _ _ c.in_ok-put_field.ensures.text
    c.in_ok-put_field-2.ensures.text c.put.ensures.text
