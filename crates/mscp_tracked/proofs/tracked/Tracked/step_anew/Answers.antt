use Rattle.mscp_tracked.proofs.Common.{◌≡◌, ◌∙◌, ap, subst, sym, None, IfSome, Steps, cookie_in, place_served, reported, IsAlone, Serves, Tracking}
use Rattle.mscp_tracked.proofs.Stepped.{begun_picker, begun_then_served, begun_waiting, none_told}
use Rattle.mscp_tracked.proofs.tracked.Tracked.step_anew.Goals as goal

pub returns-in-Some : goal.returns-in-Some
returns-in-Some g c =
    let K = g.row.K.Denot in
    let h = c.self.inside.controller in
    let mid = c.begin.new.self in
    let picks = g.K.Picker.picks h.picker in
    let e = c.serve.ensures in
    let report = c.serve.result.report in
    let none = subst (λ (t : Tracking K). t.controller.begun ≡ None) (sym c.self.view_is) c.requires in
    let waits = begun_waiting picks h mid c.begin.result c.begin.ensures.begin in
    let steps = subst (λ p. Steps (g.K.Picker.picks p) c.args.block mid report c.serve.new.self.controller)
    (begun_picker picks h mid c.begin.result c.begin.ensures.begin) e.steps in
    let at = subst (λ o. IfSome o (IsAlone mid.waiting)) c.in-Some.is c.begun_place.ensures.alone in
    subst (λ (t : Tracking K). Serves (g.K.Picker.picks t.controller.picker) c.args.block t
    c.serve.result c.serve.new.self) c.self.view_is (record {
      steps = begun_then_served picks c.args.block h mid c.serve.new.self.controller c.begin.result
          c.begin.ensures.begin none c.in-Some.place at (sym c.begun_place.ensures.place ∙ c.in-Some.is) report steps;
      told = none_told h.drives h.waiting h.begun _ none;
      cookie = e.cookie
          ∙ ap (λ rs. cookie_in c.self.inside.cookies.waiting (place_served rs report)) waits;
      cookies = e.cookies
          ∙ ap (λ rs. reported (place_served rs report) report c.self.inside.cookies) waits;
      count = e.count;
    })
