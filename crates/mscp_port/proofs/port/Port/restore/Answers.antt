use Rattle.mscp_port.proofs.Common.{◌≡◌, ◌∙◌, ◌<◌, ◌-◌, IsOk, First, balance_of, ap, sym, subst, arith, Ok, false≢true, Holdings, IsSound, held_in, unless}
use Rattle.mscp_port.proofs.Comes.{bytes_told}
use Rattle.mscp_port.proofs.port.Port.restore.Goals as goal

pub unreachable-requires : goal.unreachable-requires
unreachable-requires g c =
    let balance : balance_of First c.new-controller.result ≡ c.saved_settings.result.credits - 0 =
    ap (balance_of First) c.new-controller.ensures.fresh in
    let some : 1 < balance_of First c.new-controller.result =
    omega (arith, balance, c.new-controller.ensures.valid.some_credits) in
    false≢true (subst IsOk c.in_default-new.is (c.new.ensures.taken.1 (search arith, some)))

pub returns-clause-value : goal.returns-clause-value
returns-clause-value g c =
    let K = g.row.K.Denot in
    let b = c.args.bytes.now in
    let picker = (λ i. (c.in-Ok.ensures.made.over i).picker)
    ∙ ap (λ (h : Holdings K). h.picker) c.new-controller.ensures.fresh in
    let held : c.resume.new.self ≡ held_in c.args.picker b = c.resume.ensures ∙ λ i. held_in (picker i) b in
    ap Ok held ∙ sym (c.restore_fault.ensures.value ∙ ap (unless (held_in c.args.picker b)) c.in_default.is)

pub returns-clause-same : goal.returns-clause-same
returns-clause-same g c =
    bytes_told c.args.number c.args.picker c.args.bytes.now c.resume.new.self (sym (returns-clause-value g c))

pub returns-clause-sound : goal.returns-clause-sound
returns-clause-sound g c =
    let K = g.row.K.Denot in
    let b = c.args.bytes.now in
    let picker = (λ i. (c.in-Ok.ensures.made.over i).picker)
    ∙ ap (λ (h : Holdings K). h.picker) c.new-controller.ensures.fresh in
    let held : c.resume.new.self ≡ held_in c.args.picker b = c.resume.ensures ∙ λ i. held_in (picker i) b in
    subst IsSound (λ i. (sym held i).controller) c.in_default.ensures.saved.controller.sound
