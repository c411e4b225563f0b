use Rattle.mscp_queue.proofs.Common.{◌≡◌, ◌||◌, ap, ◌∙◌, arith, Holder, Record, record_at, holder_of}
use Rattle.mscp_queue.proofs.Whys.{holders_more, none_keeps_back}
use Rattle.mscp_queue.proofs.why.put_holders.Goals as goal

pub loop-earlier-preserved : goal.loop-earlier-preserved
loop-earlier-preserved c =
    let rs = c.args.backlog.now.waiting in
    let what : c.holder_of-holder.result ≡ holder_of c.args.budget (record_at rs c.args.place)
    (record_at rs c.loop-earlier.earlier) = c.holder_of-holder.ensures
    ∙ (ap (λ (r : Record). holder_of c.args.budget r c.told.result) c.record-later.ensures
    ∙ ap (holder_of c.args.budget (record_at rs c.args.place)) c.told.ensures) in
    holders_more c.keeps_back.result c.holder_of-holder.result (c.keeps_back.ensures ∙ ap
    (λ (h : Holder). h.fences || h.overdrawn) what) what c.append_if.ensures c.loop-earlier.invariant

pub returns-clause-none : goal.returns-clause-none
returns-clause-none c = search (arith, none_keeps_back)
