use Rattle.mscp_queue.proofs.Basics.{◌≡◌, ℕ, List, ap, subst, sym, true, ◌∙◌, Option, IfSome, position, Name, targets_of, IsHeld, begun_name, units_of, Line, Record, AreApart, names, has_name, Waiters, Drive, begun_back, ready_restored}
use Rattle.mscp_queue.proofs.Favored.{none_known}
use Rattle.mscp_queue.proofs.queue.Queue.restore.Goals as goal

-- the waiting commands as the backlog shows them
waiters : {w : Waiters} {budget : ℕ} {rs : List Record} {ds ds' : List Drive} → ds' ≡ ds
    → w ≡ record { budget = budget; waiting = rs; targets = targets_of (units_of ds') rs }
    → w ≡ record { budget = budget; waiting = rs; targets = targets_of (units_of ds) rs }
waiters {budget = budget} {rs} e f =
    f ∙ λ i. record { budget = budget; waiting = rs; targets = targets_of (units_of (e i)) rs }

-- the place of what was begun, among the waiting commands that are restored
seen_as : {w v : Waiters} (place : Option ℕ) (begun : Option Name) → w ≡ v
    → IfSome begun (λ name. place ≡ position (has_name name) w.waiting)
    → IfSome begun (λ name. place ≡ position (has_name name) v.waiting)
seen_as place begun e some =
    subst (λ (v : Waiters). IfSome begun (λ name. place ≡ position (has_name name) v.waiting)) e some

pub place_begun-self-inside-requires : goal.place_begun-self-inside-requires
place_begun-self-inside-requires g c =
    let K = g.row.K.Denot in
    let rs = c.args.records.now in
    let held = subst (λ (l : Line K). IsHeld l.room l.budget l.longest rs c.args.drives.items c.args.begun true)
    (sym c.self.view_is) c.requires.held in
    record {
      apart = subst (λ (v : Waiters). AreApart (names v.waiting)) (sym c.restore.ensures) held.apart;
    }

pub invariant_of-self : goal.invariant_of-self
invariant_of-self g c =
    let K = g.row.K.Denot in
    let ds = c.args.drives.items in
    let rs = c.args.records.now in
    let held = subst (λ (l : Line K). IsHeld l.room l.budget l.longest rs ds c.args.begun true) (sym c.self.view_is)
    c.requires.held in
    let w = waiters c.as_slice.ensures.value c.restore.ensures in
    let begun = begun_back c.self.inside.backlog.budget rs c.args.begun c.place_begun-self-inside.result held.still
    (seen_as c.place_begun-self-inside.result c.args.begun w c.place_begun-self-inside.ensures.some)
    c.place_begun-self-inside.ensures.none in
    record {
      ready = ready_restored held c.requires.order w begun c.place_served-self-inside.ensures;
      favored = none_known ds _ c.clear.new.self c.clear.ensures;
    }

pub returns : goal.returns
returns g c =
    let K = g.row.K.Denot in
    let ds = c.args.drives.items in
    let rs = c.args.records.now in
    let held = subst (λ (l : Line K). IsHeld l.room l.budget l.longest rs ds c.args.begun true)
    (sym c.self.view_is) c.requires.held in
    let w = waiters c.as_slice.ensures.value c.restore.ensures in
    let begun = begun_back c.self.inside.backlog.budget rs c.args.begun c.place_begun-self-inside.result
    held.still (seen_as c.place_begun-self-inside.result c.args.begun w c.place_begun-self-inside.ensures.some)
    c.place_begun-self-inside.ensures.none in
    (λ i. record {
      room = c.self.inside.room;
      budget = (w i).budget;
      longest = c.self.inside.longest;
      waiting = (w i).waiting;
      drives = ds;
      begun = (ap (λ (v : Waiters). begun_name v.waiting c.place_begun-self-inside.result) w ∙ begun.0) i;
      picker = c.self.inside.picker;
    }) ∙ ap (λ (l : Line K). record l { waiting = rs; drives = ds; begun = c.args.begun }) c.self.view_is
