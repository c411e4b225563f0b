use Rattle.std.proofs.Common.{◌≡◌, ◌++◌, OnOk, codes, subst}
use Rattle.mscpjudge.specs.Values.{coded_text}
use Rattle.mscpjudge.proofs.values.put_message.Goals as goal

pub returns : goal.returns
returns g c =
    subst (λ code. OnOk c.put_coded.result (c.put_coded.new.text.items
    ≡ c.args.text.now.items ++ coded_text (codes "message: opcode ") code c.args.bytes.now))
    c.code_of.ensures c.put_coded.ensures
