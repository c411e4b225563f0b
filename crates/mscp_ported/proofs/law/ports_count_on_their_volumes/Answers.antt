use Rattle.mscp_ported.proofs.Volumed.{counts_on}
use Rattle.mscp_ported.proofs.law.ports_count_on_their_volumes.Goals as goal

pub returns : goal.returns
returns g c = λ hardware credits controller start p calls outcome done via reference result kind unit block address
    count bytes units made asks a makes wished few.
    counts_on g.K.Picker.picks hardware credits controller start made p calls outcome done via reference result kind
    unit block address count bytes asks units a makes wished few
