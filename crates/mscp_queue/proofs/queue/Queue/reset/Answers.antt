use Rattle.mscp_queue.proofs.Basics.{length, refl, ap, subst, sym, ◌∙◌, arith, is_some, map, None, refill, false≢true, Drive, fresh_drive, Waiters, IsReady, begun_name, held_renewed, renewed}
use Rattle.mscp_queue.proofs.Favored.{none_known}
use Rattle.mscp_queue.proofs.queue.Queue.reset.Goals as goal

pub invariant_of-self : goal.invariant_of-self
invariant_of-self g c =
    let q = c.self.inside in
    let drives = renewed q.drives.items c.renew_drives.new.drives
    (c.renew_drives.ensures ∙ ap (map (λ (d : Drive). fresh_drive d.unit)) c.as_mut_slice.ensures.value) in
    let ready = subst (λ (w : Waiters). IsReady q.room q.longest w
    (refill (length q.drives.items) q.drives.items c.renew_drives.new.drives) None None) (sym c.clear.ensures) (record {
      held = held_renewed q.room q.backlog.budget q.longest q.backlog.waiting _ q.drives.items
          _ (begun_name q.backlog.waiting q.begun) (is_some q.serving) c.self.invariant.ready.held refl drives;
      targeted = refl;
      order = tt;
      served = λ place e. absurd (false≢true (ap is_some e));
      waits = λ place e. absurd (false≢true (ap is_some e));
    }) in
    record {
      ready = ready;
      favored = none_known _ _ c.clear-2.new.self c.clear-2.ensures;
    }

pub returns : goal.returns
returns g c = search (arith, renewed)
