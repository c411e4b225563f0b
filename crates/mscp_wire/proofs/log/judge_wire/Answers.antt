use Rattle.mscp_wire.proofs.Once.{only_from}
use Rattle.mscp_wire.proofs.Whole.{whole_right}
use Rattle.mscp_wire.proofs.log.judge_wire.Goals as goal

pub returns-clause-only : goal.returns-clause-only
returns-clause-only g c = only_from c.args.bytes.now c.judged.result c.judged.ensures

pub returns-clause-whole : goal.returns-clause-whole
returns-clause-whole g c = whole_right c.args.bytes.now
