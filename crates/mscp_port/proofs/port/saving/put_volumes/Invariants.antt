use Rattle.mscp_port.proofs.Common.{All, ◌≡◌, ◌+◌, ◌*◌, ◌++◌, take, flat_map, array_vec_len, HasVolumeRange, volume_bytes}
use Rattle.mscp_port.proofs.port.saving.put_volumes.Given as goal

abbrev pub invariant-loop-volume : goal.invariant-loop-volume
invariant-loop-volume l =
    record {
      items : l.out.items ≡ l.fn.out.items ++ flat_map volume_bytes (take l.volume-index l.volumes);
      len : array_vec_len l.out ≡ array_vec_len l.fn.out + 18 * l.volume-index;
      range : All HasVolumeRange (take l.volume-index l.volumes);
    }
