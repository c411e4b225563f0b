use Rattle.mscp_script.proofs.Common.{arith, List, ℕ, ap, subst, ◌∙◌, Err, Appends, IsFault, IsReport}
use Rattle.mscp_script.proofs.Faults.{never_read, never_written, of_script}
use Rattle.mscp_script.proofs.simulation.simulate_in.Goals as goal

pub returns-in_err-script-clause-fault : goal.returns-in_err-script-clause-fault
returns-in_err-script-clause-fault g c = λ fault e.
    absurd (never_read c.from_residual.result c.in_err-script.field-0.0 fault c.from_residual.ensures.1 e)

pub returns-in_err-text-clause-fault : goal.returns-in_err-text-clause-fault
returns-in_err-text-clause-fault g c = λ fault e.
    let from = of_script c.from_residual-in_err-text.result c.in_err-text.field-0.0 fault
    c.from_residual-in_err-text.ensures.1 e in (
      c.in_ok-script.script.items,
      c.in_ok-script.ensures.bytes,
      subst (λ (bytes : List ℕ). IsFault bytes fault) c.deref.ensures.value
          (c.report_script.ensures.fault fault (c.in_err-text.was ∙ ap Err from)),
    )

pub returns-in_err-write_all-clause-fault : goal.returns-in_err-write_all-clause-fault
returns-in_err-write_all-clause-fault g c = λ fault e. search (arith, never_written)

pub returns-clause-written : goal.returns-clause-written
returns-clause-written g c =
    let old = g.W.Sink.contents c.args.writer.now in
    let new = g.W.Sink.contents c.write_all.new.self in (
      c.in_ok-script.script.items,
      c.in_ok-script.ensures.bytes,
      (
        c.in_ok-text.text.items,
        subst (λ (bytes : List ℕ). IsReport bytes c.in_ok-text.text.items) c.deref.ensures.value
            c.in_ok-text.ensures.report,
        subst (Appends old new) c.deref-2.ensures.value c.in_ok-write_all.ensures.bytes,
      ),
    )
