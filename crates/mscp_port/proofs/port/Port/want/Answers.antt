use Rattle.mscp_port.proofs.Common.{rules, ◌≡◌, ap, sym, subst, Port, Says, BeginsBlock, IsDue, IsOfBlock, asks_blocks}
use Rattle.mscp_port.proofs.Begun.{serial_still}
use Rattle.mscp_port.proofs.Known.{keeps_the_same, said_on}
use Rattle.mscp_port.specs.Serials.{serial_after}
use Rattle.mscp_port.proofs.port.Port.want.Goals as goal
use Rattle.mscp_port.proofs.port.Port.want.Goals.{in-Free, in_default}

pub returns : goal.returns
returns g c = record {
  frame = search rules;
  within = c.action_beside.ensures.within;
  packet = search rules;
  dead = search rules;
  rests = search rules;
  wanted = λ alive. c.action_beside.ensures.wanted;
  due = λ alive free. elim c.match-self.branch [
    | in-Free w ↦
        let d = w.choose-task.ensures.due in
        subst (λ (p : Port g.row.K.Denot). IsDue (asks_blocks c.args.ask) p p.task) (sym w.self-is) (record {
          step = d.step;
          still = d.still;
          goes_out = d.goes_out;
          comes_in = d.comes_in;
          first = d.first;
          block = d.block;
          message = d.message;
        })
    | in_default w ↦ absurd (w.in_default.not-Free free)
  ];
  begins = λ alive free of_block. elim c.match-self.branch [
    | in-Free w ↦ subst
        (λ (p : Port g.row.K.Denot). IsOfBlock p.task
        → BeginsBlock (g.K.Picker.picks c.args.self.now.controller.picker) p.task c.args.self.now p)
        (sym w.self-is) (λ is. record { begun = (w.choose-task.ensures.begins is).begun }) of_block
    | in_default w ↦ absurd (w.in_default.not-Free free)
  ];
  says = elim c.match-self.branch [
    | in-Free w ↦ subst (λ (p : Port g.row.K.Denot). Says c.args.self.now p) (sym w.self-is)
        (said_on c.args.self.now w.choose-task.new.self w.choose-task.result.0 w.choose-task.ensures.says)
    | in_default w ↦ record {
      looks = λ is. absurd (w.in_default.not-Free is.free);
      keeps = λ no. keeps_the_same c.args.self.now c.match-self.self w.self-is;
    }
  ];
  begun = elim c.match-self.branch [
    | in-Free w ↦ subst
        (λ (p : Port g.row.K.Denot). (IsOfBlock p.task → ⊥) → p.controller.begun ≡ c.args.self.now.controller.begun)
        (sym w.self-is) w.choose-task.ensures.begun
    | in_default w ↦ λ no. ap (λ p. p.controller.begun) w.self-is
  ];
  serial = elim c.match-self.branch [
    | in-Free w ↦ subst
        (λ (p : Port g.row.K.Denot).
        p.serial ≡ serial_after c.args.self.now.controller.begun p.controller.begun c.args.self.now.serial)
        (sym w.self-is) w.choose-task.ensures.serial
    | in_default w ↦ subst
        (λ (p : Port g.row.K.Denot).
        p.serial ≡ serial_after c.args.self.now.controller.begun p.controller.begun c.args.self.now.serial)
        (sym w.self-is) (serial_still c.args.self.now.controller.begun c.args.self.now.serial)
  ];
  settings = search rules;
  moves = c.action_beside.ensures.moves;
  goes_on = search rules;
}
