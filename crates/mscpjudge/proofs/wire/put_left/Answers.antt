use Rattle.mscpjudge.specs.Wired.{outstanding_text}
use Rattle.mscpjudge.proofs.Counted.{joined_two}
use Rattle.mscpjudge.proofs.wire.put_left.Goals as goal

pub returns : goal.returns
unfolding outstanding_text
returns g c =
    joined_two c.put_command.result c.args.text.now.items c.put.new.out.items c.put_command.new.text.items _ _
    c.in_ok-put.ensures.text c.put_command.ensures
