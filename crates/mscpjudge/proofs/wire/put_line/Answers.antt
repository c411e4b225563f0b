use Rattle.mscpjudge.proofs.Common.{ap, at_text, codes, decimal, line_text, ◌++◌, ◌∙◌}
use Rattle.mscpjudge.proofs.Counted.{joined}
use Rattle.mscpjudge.proofs.wire.put_line.Goals as goal

pub returns : goal.returns
unfolding line_text
returns g c =
    joined c.put.result c.args.text.now.items c.put_field.new.out.items c.put_at.new.text.items
    c.put.new.out.items _ _ _
    (c.in_ok-put_field.ensures.text
    ∙ ap (λ n. c.args.text.now.items ++ (codes "line " ++ decimal n)) c.number_of.ensures)
    (c.in_ok-put_at.ensures ∙ ap (λ t. c.put_field.new.out.items ++ at_text t) c.at.ensures) c.put.ensures.text
