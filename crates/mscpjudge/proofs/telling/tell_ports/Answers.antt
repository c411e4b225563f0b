use Rattle.mscpjudge.proofs.Common.{Stands, ap, arith, port_fault, subst, ◌∙◌, ◌≡◌}
use Rattle.mscpjudge.proofs.Standing.{first_at}
use Rattle.mscpjudge.proofs.telling.tell_ports.Goals as goal

pub loop-port-init : goal.loop-port-init
loop-port-init c =
    first_at c.args.extent c.args.log.items c.new-telling.result
    (c.new-telling.ensures.fault ∙ c.in_ok-sections.ensures.fault ∙ ap port_fault c.deref.ensures.value)
    c.new-telling.ensures.outcome c.new-telling.ensures.text

pub returns-in-Some : goal.returns-in-Some
returns-in-Some c =
    subst (λ x. Stands 8 c.args.extent c.args.log.items x c.loop-port.telling.told.outcome
    c.loop-port.telling.told.text.items) c.in-Some.is
    (let e : c.loop-port.port ≡ 8 = omega arith in
    subst (λ n. Stands n c.args.extent c.args.log.items c.loop-port.telling.fault c.loop-port.telling.told.outcome
    c.loop-port.telling.told.text.items) e c.loop-port.invariant)

pub returns : goal.returns
returns c =
    subst (λ x. Stands 8 c.args.extent c.args.log.items x c.loop-port.telling.told.outcome
    c.loop-port.telling.told.text.items) c.in-None.is
    (let e : c.loop-port.port ≡ 8 = omega arith in
    subst (λ n. Stands n c.args.extent c.args.log.items c.loop-port.telling.fault c.loop-port.telling.told.outcome
    c.loop-port.telling.told.text.items) e c.loop-port.invariant)
