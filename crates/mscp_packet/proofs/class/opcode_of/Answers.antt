use Rattle.mscp_packet.proofs.Common.{arith, ◌≡◌, Option, sym, ◌∙◌, rules, tests, nat_eq, option_map, YieldsList-from_slice, YieldsList-from_copied, find_from_yields_List, row_of, opcodes}
use Rattle.mscp_packet.proofs.class.opcode_of.Goals as goal

option_map_same : {X : Type 0} (o : Option X) → option_map (λ x. x) o ≡ o
option_map_same o = search arith

pub returns : goal.returns
returns c =
    sym (option_map_same c.find.result) ∙ find_from_yields_List (λ o. nat_eq (row_of o).byte c.args.byte) _ _
    c.find.result c.find.ensures.ran (YieldsList-from_copied (YieldsList-from_slice opcodes cc))
    (λ x b q k. search (rules, tests))
