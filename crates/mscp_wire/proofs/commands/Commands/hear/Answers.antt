use Rattle.mscp_wire.proofs.Common.{sents, sym, ◌∙◌}
use Rattle.mscp_wire.proofs.Alone.{heard_both}
use Rattle.mscp_wire.proofs.commands.Commands.hear.Goals as goal

pub returns-in-Some : goal.returns-in-Some
returns-in-Some g c =
    heard_both c.args.ended.now c.args.answer.now c.in-Some.other (sents c.args.self.now) (sents c.leave.new.self)
    (sents c.tell.new.self)
    (sym c.asks_oldest.ensures ∙ c.if-not-asks_oldest.false) (sym c.polled_by.ensures ∙ c.in-Some.is) c.leave.ensures
    c.tell.ensures
