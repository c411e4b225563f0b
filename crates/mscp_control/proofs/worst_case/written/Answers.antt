use Rattle.mscp_control.proofs.Common.{arith, room}
use Rattle.mscp_control.proofs.Longest.Builds.{moments_enough}
use Rattle.mscp_control.proofs.worst_case.written.Goals as goal

pub push_steps-requires-clause-room : goal.push_steps-requires-clause-room
push_steps-requires-clause-room g c =
    let config = c.args.config.now in
    let some = c.room.ensures.valid.some_blocks in
    let all = moments_enough (room config) config.longest config.budget c.requires.several some in
    search arith
