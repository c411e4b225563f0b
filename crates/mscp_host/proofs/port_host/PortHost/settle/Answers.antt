use Rattle.mscp_host.proofs.Common.{Account, ap, map, name_of_asked, name_of_submission, received, sym, ◌∙◌}
use Rattle.mscp_host.proofs.Ported.{same_ended}
use Rattle.mscp_host.proofs.port_host.PortHost.settle.Goals as goal

pub invariant_of-self : goal.invariant_of-self
invariant_of-self c =
    let host = c.self.inside.host in
    let inv = c.self.invariant in
    let after = c.hear-news.ensures.after ∙ ap (received host) c.as_read.ensures in
    record {
      same = ap (map name_of_asked) c.remove_asked.ensures ∙ (same_ended host c.args.end.now c.self.inside.asked.items
          inv.same ∙ sym (ap (λ (a : Account). map name_of_submission a.outstanding) after));
      room = ap (λ (a : Account). a.credits) after ∙ inv.room;
    }
