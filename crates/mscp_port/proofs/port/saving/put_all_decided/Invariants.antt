use Rattle.mscp_port.proofs.Common.{All, ◌≡◌, ◌+◌, ◌*◌, ◌++◌, take, flat_map, array_vec_len, HasDecidedRange, decided_bytes}
use Rattle.mscp_port.proofs.port.saving.put_all_decided.Given as goal

abbrev pub invariant-loop-decided : goal.invariant-loop-decided
invariant-loop-decided l =
    record {
      items : l.out.items ≡ l.fn.out.items ++ flat_map decided_bytes (take l.decided-index l.all);
      len : array_vec_len l.out ≡ array_vec_len l.fn.out + 13 * l.decided-index;
      range : All HasDecidedRange (take l.decided-index l.all);
    }
