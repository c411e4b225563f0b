use Rattle.mscp_judge.proofs.Common.{◌++◌, ◌+◌, drop, take, ap, sym, ◌∙◌, codes}
use Rattle.mscp_judge.proofs.Ahead.{names_ahead, spaced}
use Rattle.mscp_judge.proofs.naming.named_ahead.Goals as goal

pub returns-in-Ok : goal.returns-in-Ok
returns-in-Ok c =
    let behind = c.in_ok-behind.behind.now in
    let end = c.in_ok-end.end in
    let at = spaced behind end (sym c.space_in.ensures ∙ c.in_ok-end.was) in
    names_ahead c.args.bytes.now (take end behind) (drop (end + 1) behind) c.in-Ok.reference
    (c.in_ok-behind.ensures ∙ ap (λ bs. codes "serve " ++ bs) at) (sym c.wide.ensures ∙ c.in-Ok.is)
