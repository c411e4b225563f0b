use Rattle.mscp_queue.proofs.Basics.{ap, sym, ◌∙◌, arith, begun_name, Line, aborting, name_on}
use Rattle.mscp_queue.proofs.Aborts.{aborts_at, aborts_none, none_aborted}
use Rattle.mscp_queue.proofs.Nexts.{named_at}
use Rattle.mscp_queue.proofs.queue.Queue.abort.Goals as goal

pub returns-in_err-place-clause-end : goal.returns-in_err-place-clause-end
returns-in_err-place-clause-end g c = search (arith, aborts_none)

pub returns-in_err-place-clause-after : goal.returns-in_err-place-clause-after
returns-in_err-place-clause-after g c =
    let K = g.row.K.Denot in
    let q = c.self.inside in
    let rs = q.backlog.waiting in
    let name = name_on c.args.connection c.args.reference in
    let none =
    aborts_none name rs (sym (c.place_of.ensures) ∙ c.in_err-place.was) in
    sym c.self.view_is ∙ ((λ i. record {
      room = q.room;
      budget = q.backlog.budget;
      longest = q.longest;
      waiting = sym none.left i;
      drives = q.drives.items;
      begun = (none_aborted q.backlog.budget
          name rs (begun_name rs q.begun) c.self.invariant.ready.held.still none.found) i;
      picker = q.picker;
    }) ∙ ap (λ (l : Line K). aborting name l) c.self.view_is)

pub abort_at-requires : goal.abort_at-requires
abort_at-requires g c = search (arith, aborts_at)

pub returns-clause-end : goal.returns-clause-end
returns-clause-end g c = search (arith, aborts_at)

pub returns-clause-after : goal.returns-clause-after
returns-clause-after g c = search (arith, named_at)
