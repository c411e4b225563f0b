use Rattle.mscpjudge.proofs.Counted.{joined}
use Rattle.mscpjudge.proofs.totals.put_counts.Goals as goal

pub returns : goal.returns
returns g c =
    joined c.put_ends.result c.args.text.now.items _ _ c.put_ends.new.text.items _ _ _ c.in_ok-put_field.ensures.text
    c.in_ok-put_field-2.ensures.text c.put_ends.ensures
