use Rattle.mscp_packet.proofs.Common.{arith, List, ℕ, subst, sym, end_fields, IsZeroBeside}
use Rattle.mscp_packet.proofs.Ends.{end_bytes_are_messages, end_zeros}
use Rattle.mscp_packet.proofs.writing.write_end.Goals as goal

pub returns-clause-zeros : goal.returns-clause-zeros
returns-clause-zeros c =
    let e = c.args.end.now in
    let P : List ℕ → Type 0 = IsZeroBeside (end_fields e.body) in
    subst P (sym c.bytes_of_end.ensures.items) (end_zeros e.reference e.unit e.code e.status e.body)

pub returns-clause-reads_back : goal.returns-clause-reads_back
returns-clause-reads_back c = search (arith, end_bytes_are_messages)
