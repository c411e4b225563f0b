use Rattle.mscp_ported.proofs.Common.{Responses, StandInOrder, TellAll, arith, map, packet_slot, subst, sym, talk_of, ℕ, ◌+◌, ◌-◌, ◌≡◌}
use Rattle.mscp_ported.proofs.Credited.{all_but_one}
use Rattle.mscp_ported.proofs.Following.{in_step}
use Rattle.mscp_ported.proofs.law.ports_tell_in_order.Goals as goal

but_one : (more credits : ℕ) → more + 1 ≡ credits → more ≡ credits - 1
but_one more credits e = search (arith, e)

pub returns : goal.returns
returns g c = λ hardware credits controller start p calls made asks a.
    let k = in_step g.K.Picker.picks hardware credits controller start made p calls asks a in
    let told = k.speech.tells in
    let all = but_one p.more credits (all_but_one g.K.Picker.picks hardware credits controller start p calls made
    a) in (
      (
        told.0,
        told.1,
        subst (λ n. TellAll n (talk_of g.K.Picker.picks start p calls a).told told.0) all told.2,
      ),
      subst (λ o. StandInOrder o Responses 0
          (map packet_slot (talk_of g.K.Picker.picks start p calls a).told)) (sym k.names.named_so) k.counts.packets,
    )
