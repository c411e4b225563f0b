use Rattle.mscp_sim.proofs.Common.{◌≡◌, ◌+◌, ◌-◌, length, arith, subst, take_all, HasRoom}
use Rattle.mscp_sim.proofs.TwoEnds.Talking.{kept, talks_none, talks_more}
use Rattle.mscp_sim.proofs.conversing.hear_each.Goals as goal

pub loop-turn-init : goal.loop-turn-init
loop-turn-init g c = search (arith, talks_none, kept)

pub hear-heard-requires : goal.hear-heard-requires
hear-heard-requires g c = c.loop-turn.invariant.talks.goes.match

pub keep-requires : goal.keep-requires
keep-requires g c = search arith

pub loop-turn-preserved : goal.loop-turn-preserved
loop-turn-preserved g c =
    let left = c.loop-turn-test.true in
    let more : length c.args.turns.now - c.loop-turn.turn-index
    ≡ (length c.args.turns.now - (c.loop-turn.turn-index + 1)) + 1 = omega (arith, left) in
    record {
      talks = talks_more g.K.Picker.picks (kept c.args.hosts.now c.args.controller.now c.args.talk.now)
          (kept c.loop-turn.hosts c.loop-turn.controller c.loop-turn.talk)
          (kept c.hear-heard.new.hosts c.hear-heard.new.controller c.keep.new.self) c.args.turns.now
          c.loop-turn.turn-index c.turn-item.result left c.turn-item.is c.loop-turn.invariant.talks
          (record {
            told = c.hear-heard.result;
            goes = c.hear-heard.ensures;
            heard = c.keep.ensures.heard;
            trace = c.keep.ensures.trace;
          });
      room = c.keep.ensures.room (length c.args.turns.now - (c.loop-turn.turn-index + 1))
          (subst (HasRoom c.loop-turn.talk) more c.loop-turn.invariant.room);
    }

pub returns : goal.returns
returns g c = search (arith, take_all)
