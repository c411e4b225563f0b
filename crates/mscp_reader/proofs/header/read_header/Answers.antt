use Rattle.mscp_reader.proofs.Common.{arith, err_from_is_err_and}
use Rattle.mscp_reader.proofs.Headers.{heads_lead}
use Rattle.mscp_reader.proofs.header.read_header.Goals as goal

pub returns-in_err-limits-clause-leads : goal.returns-in_err-limits-clause-leads
returns-in_err-limits-clause-leads c = search (arith, err_from_is_err_and, heads_lead)

pub returns-in_err-read_unit-clause-leads : goal.returns-in_err-read_unit-clause-leads
returns-in_err-read_unit-clause-leads c = search (arith, err_from_is_err_and, heads_lead)

pub returns-in_err-config-clause-leads : goal.returns-in_err-config-clause-leads
returns-in_err-config-clause-leads c = search (arith, err_from_is_err_and, heads_lead)

pub returns-in-Some-clause-leads : goal.returns-in-Some-clause-leads
returns-in-Some-clause-leads c = search (arith, heads_lead)
