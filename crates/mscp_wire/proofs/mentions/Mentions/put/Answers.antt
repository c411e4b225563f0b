use Rattle.std.specs.Ordering.{nat_cmp}
use Rattle.std.specs.BTreeMap as tree
use Rattle.mscp_wire.proofs.Going.{put_mention}
use Rattle.mscp_wire.proofs.mentions.Mentions.put.Goals as goal

pub returns : goal.returns
returns g c =
    put_mention (tree.get nat_cmp c.args.self.now.lines) (tree.get nat_cmp c.insert.new.self) c.args.connection
    c.args.reference _ c.args.mention c.key.ensures c.in_ok-insert.ensures.updates.0
