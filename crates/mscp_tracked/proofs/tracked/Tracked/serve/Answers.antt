use Rattle.mscp_tracked.proofs.Common.{◌≡◌, ◌∙◌, ap, refl, subst, sym, Some, cookie_in, reported, place_begun, IsAlone, IsTracked, Serves, Tracking}
use Rattle.mscp_tracked.proofs.Stepped.{step_reports, step_tells}
use Rattle.mscp_tracked.proofs.tracked.Tracked.serve.Goals as goal

pub report-requires : goal.report-requires
report-requires g c =
    let K = g.row.K.Denot in
    (step_reports (g.K.Picker.picks c.self.inside.controller.picker) c.args.block c.self.inside.controller
    c.step-report.new.self c.self.inside.cookies c.args.place c.step-report.result
    (subst (λ (t : Tracking K). IsAlone t.controller.waiting c.args.place) (sym c.self.view_is) c.requires.alone)
    (subst (λ (t : Tracking K). place_begun t.controller.waiting t.controller.begun ≡ Some c.args.place)
    (sym c.self.view_is) c.requires.place) c.step-report.ensures.step c.step-report.ensures.account
    c.self.invariant).room

pub invariant_of-self : goal.invariant_of-self
invariant_of-self g c =
    let K = g.row.K.Denot in
    subst (λ k. IsTracked {K = K} c.step-report.new.self k) (sym c.report.ensures)
    (step_reports (g.K.Picker.picks c.self.inside.controller.picker) c.args.block c.self.inside.controller
    c.step-report.new.self c.self.inside.cookies c.args.place c.step-report.result
    (subst (λ (t : Tracking K). IsAlone t.controller.waiting c.args.place) (sym c.self.view_is) c.requires.alone)
    (subst (λ (t : Tracking K). place_begun t.controller.waiting t.controller.begun ≡ Some c.args.place)
    (sym c.self.view_is) c.requires.place) c.step-report.ensures.step c.step-report.ensures.account
    c.self.invariant).tracked

pub returns : goal.returns
returns g c =
    let K = g.row.K.Denot in
    let picks = g.K.Picker.picks c.self.inside.controller.picker in
    let h = c.self.inside.controller in
    let k = c.self.inside.cookies in
    let new : Tracking K = record {
      controller = c.step-report.new.self;
      cookies = c.report.new.self;
      beginnings = c.self.inside.beginnings;
    } in
    let report = c.step-report.result in
    let tells = step_tells picks c.args.block h c.step-report.new.self c.args.place report
    (subst (λ (t : Tracking K). IsAlone t.controller.waiting c.args.place) (sym c.self.view_is) c.requires.alone)
    (subst (λ (t : Tracking K). place_begun t.controller.waiting t.controller.begun ≡ Some c.args.place)
    (sym c.self.view_is) c.requires.place) c.step-report.ensures.step in
    subst (λ (t : Tracking K). Serves (g.K.Picker.picks t.controller.picker) c.args.block t
    (record { report = report; cookie = c.at-cookie.result }) new) c.self.view_is (record {
      steps = c.step-report.ensures.step;
      told = tells.told;
      cookie = c.at-cookie.ensures ∙ ap (cookie_in k.waiting) (sym tells.place_is);
      cookies = c.report.ensures ∙ ap (λ p. reported p report k) (sym tells.place_is);
      count = refl;
    })
