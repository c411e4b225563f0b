use Rattle.mscp_sim.proofs.Common.{arith, outcome_of_read, outcome_of_fault, told_of, meaning_of}
use Rattle.mscp_sim.proofs.reading.read_script_in.Goals as goal

pub returns-clause-found : goal.returns-clause-found
returns-clause-found g c = search (arith, told_of, outcome_of_read)

pub returns-clause-told : goal.returns-clause-told
returns-clause-told g c = λ fault h.
    told_of meaning_of c.read_lines.result c.args.bytes.now _ c.in_ok-lines_of.ensures.small
    (outcome_of_fault _ fault h)
    (rw (c.in_ok-lines_of.ensures.lines.0, c.in_ok-lines_of.ensures.lines.1) at c.read_lines.ensures.outcome)
