use Rattle.mscp_port.proofs.Known.{part_within}
use Rattle.mscp_port.proofs.port.Port.part.Goals as goal

pub returns-in-Some-Some-clause-inside : goal.returns-in-Some-Some-clause-inside
returns-in-Some-Some-clause-inside g c =
    part_within c.args.self.now c.as_slice.result.now c.find_buffer-buffer.result c.in-Some-Some.buffer
    c.part_with.result c.as_slice.ensures.value c.in-Some-Some.is-1 c.find_buffer-buffer.ensures.among
    c.part_with.ensures.inside
