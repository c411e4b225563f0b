use Rattle.mscp_queue.proofs.Ranging.{alike}
use Rattle.mscp_queue.proofs.buckets.Buckets.new.Goals as goal

pub returns : goal.returns
returns c = λ b. alike 64 b 0
