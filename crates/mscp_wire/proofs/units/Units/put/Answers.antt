use Rattle.mscp_wire.proofs.Common.{First, Second, ap, found, if◌then◌else◌, kept, nat_eq, sym, ◌∙◌}
use Rattle.mscp_wire.specs.Messages.{same_connection}
use Rattle.mscp_wire.proofs.Keys.{put_told}
use Rattle.mscp_wire.proofs.units.Units.put.Goals as goal

pub returns-in_ok-put-in-First-clause-told : goal.returns-in_ok-put-in-First-clause-told
returns-in_ok-put-in-First-clause-told g c = λ side number.
    put_told c.args.self.now.others (found c.args.self.now.kept) (found c.put.new.self) First c.args.unit
    c.args.own c.args.others c.in_ok-put-in-First.ensures side number
    ∙ ap (λ v. if nat_eq c.args.unit number then (if same_connection v side then c.args.own else c.args.others)
    else kept c.args.self.now side number) (sym c.in-First.is)

pub returns-in_ok-put-in-Second-clause-told : goal.returns-in_ok-put-in-Second-clause-told
returns-in_ok-put-in-Second-clause-told g c = λ side number.
    put_told c.args.self.now.others (found c.args.self.now.kept) (found c.put-in-Second.new.self) Second c.args.unit
    c.args.own c.args.others c.in_ok-put-in-Second.ensures side number
    ∙ ap (λ v. if nat_eq c.args.unit number then (if same_connection v side then c.args.own else c.args.others)
    else kept c.args.self.now side number) (sym c.in-Second.is)
