use Rattle.mscp_wire.proofs.Common.{ap, besides, command_at, heard, hears, map, place, remove, sents, ◌∙◌}
use Rattle.mscp_wire.proofs.Marking.{heard_all, removed}
use Rattle.mscp_wire.proofs.commands.Commands.take.Goals as goal

pub returns : goal.returns
returns g c =
    let xs = sents c.args.self.now in
    let p = place c.args.self.now c.args.at in
    let y = c.remove-ended.result in
    let e = c.args.answer.now in
    c.mark.ensures
    ∙ (ap (map (besides y)) (c.hear.ensures ∙ ap (map (heard y e)) c.remove-ended.ensures.others)
    ∙ (heard_all y e (remove xs p)
    ∙ (ap (λ z. map (hears z e) (remove xs p)) c.remove-ended.ensures.gone
    ∙ removed (hears (command_at xs p) e) xs p)))
