use Rattle.mscp_script.proofs.Common.{ap, subst, ◌∙◌, IsSweep, Sweep, Answered, Holdings, finished}
use Rattle.mscp_script.proofs.Growing.{runs_none}
use Rattle.mscp_script.proofs.reported.report_lines.Goals as goal

pub returns-clause-told : goal.returns-clause-told
returns-clause-told g c =
    let config = c.in_ok-read_header.field-0 in
    let new = c.new-run.ensures in
    let on = c.in_ok-run_events.ensures.ran config (runs_none config c.new-run.result new.controller new.report) in
    let runs = on.1 in
    let held = c.run_events.new.run.controller in
    let answered = subst (λ (h : Holdings Sweep). Answered IsSweep h on.0 runs.entries held) runs.new runs.answered in
    let run = c.runs_keep_the_promise.ensures config on.0 runs.entries held new.valid answered in (
      config,
      on.0,
      c.in_ok-read_header.ensures.leads ∙ on.2,
      (
        runs.entries,
        new.valid,
        run.headline,
        run.swept (λ view place inside h. h),
        c.in_ok-finish.ensures.value ∙ ap finished runs.report_is,
      ),
    )
