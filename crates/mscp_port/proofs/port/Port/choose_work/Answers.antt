use Rattle.mscp_port.proofs.Common.{◌≡◌, ◌⊎◌, inl, ap, sym, subst, First, after_take, Port}
use Rattle.mscp_port.proofs.Begun.{begun_behind}
use Rattle.mscp_port.proofs.port.Port.choose_work.Goals as goal
use Rattle.mscp_port.proofs.port.Port.choose_work.Goals.{then-is_none, else-is_none}

pub returns-clause-begins : goal.returns-clause-begins
returns-clause-begins g c = λ of_block.
    let old = c.args.self.now in
    let between = c.if-is_none.self in
    begun_behind g.K.Picker.picks c.choose_block.result.0 old between c.choose_block.new.self
    (elim c.if-is_none.branch [
      | then-is_none w ↦ subst
          (λ (p : Port g.row.K.Denot). (p.controller ≡ old.controller)
          ⊎ (p.controller ≡ after_take First old.controller))
          (sym w.self-is) w.find_outgoing.ensures.held
      | else-is_none w ↦ inl (ap (λ (p : Port g.row.K.Denot). p.controller) w.self-is)
    ])
    c.choose_block.ensures.begins
