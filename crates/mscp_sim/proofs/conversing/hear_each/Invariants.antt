use Rattle.mscp_sim.proofs.Common.{◌-◌, length, take, HasRoom}
use Rattle.mscp_sim.proofs.TwoEnds.Talking.{Talks, kept}
use Rattle.mscp_sim.proofs.conversing.hear_each.Given as goal

abbrev pub invariant-loop-turn : goal.invariant-loop-turn
invariant-loop-turn g l =
    record {
      talks : Talks g.K.Picker.picks (kept l.fn.hosts l.fn.controller l.fn.talk) (kept l.hosts l.controller l.talk)
          (take l.turn-index l.turns);
      room : HasRoom l.talk (length l.turns - l.turn-index);
    }
