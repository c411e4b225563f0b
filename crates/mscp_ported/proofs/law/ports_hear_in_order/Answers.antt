use Rattle.mscp_ported.proofs.Common.{Commands, StandInOrder, accepted, map, message_slot, subst, sym, talk_of}
use Rattle.mscp_ported.proofs.Following.{accepted_so, in_step}
use Rattle.mscp_ported.proofs.law.ports_hear_in_order.Goals as goal

pub returns : goal.returns
returns g c = λ hardware credits controller start p calls made asks a.
    let k = in_step g.K.Picker.picks hardware credits controller start made p calls asks a in (
      accepted_so p.task (talk_of g.K.Picker.picks start p calls a).turn
          (talk_of g.K.Picker.picks start p calls a).heard (accepted g.K.Picker.picks start p calls a) k.hears,
      subst (λ o. StandInOrder o Commands 0
          (map message_slot (talk_of g.K.Picker.picks start p calls a).heard)) (sym k.names.named_so) k.counts.messages,
    )
