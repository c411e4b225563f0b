use Rattle.mscp_host.proofs.Common.{arith, sym, ◌∙◌, answered}
use Rattle.mscp_host.proofs.Hearing.{heard_ok, heard_other, readable}
use Rattle.mscp_host.proofs.host.Host.receive.Goals as goal

pub returns : goal.returns
returns c =
    let read = readable _ c.in_ok-end.end (sym c.end_in.ensures ∙ c.in_ok-end.was) in
    search (arith, answered, heard_ok)

pub returns-then-not-is_code_of : goal.returns-then-not-is_code_of
returns-then-not-is_code_of c =
    let read = readable _ c.in_ok-end.end (sym c.end_in.ensures ∙ c.in_ok-end.was) in
    search (arith, heard_other, answered)
