use Rattle.mscp_host.proofs.Common.{All, HasAskedRange, array_vec_len, flat_map, size_bytes, take, ◌*◌, ◌++◌, ◌+◌, ◌≡◌}
use Rattle.mscp_host.proofs.port_saving.put_sizes.Given as goal

abbrev pub invariant-loop-asked : goal.invariant-loop-asked
invariant-loop-asked l =
    record {
      items : l.out.items ≡ l.fn.out.items ++ flat_map size_bytes (take l.asked-index l.commands);
      len : array_vec_len l.out ≡ array_vec_len l.fn.out + 4 * l.asked-index;
      range : All HasAskedRange (take l.asked-index l.commands);
    }
