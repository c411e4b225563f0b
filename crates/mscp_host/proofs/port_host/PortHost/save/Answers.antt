use Rattle.mscp_host.proofs.Common.{Account, HasPortRange, IsPorted, Ok, PortAccount, [], ap, flag_byte, flat_map, length, little_bytes, port_frame_bytes, port_restored, restored, rules, saved_bytes, size_bytes, subst, sym, ◌++◌, ◌∙◌, ◌∷◌, ◌≡◌, ◌≤◌}
use Rattle.mscp_host.proofs.PortBack.{port_restored_back}
use Rattle.mscp_host.proofs.port_host.PortHost.save.Goals as goal

pub returns-clause-bytes : goal.returns-clause-bytes
returns-clause-bytes c =
    let a = c.args.self.now in
    let front : c.put_sizes.new.out.items ≡ port_frame_bytes (length a.asked) ++ little_bytes 2 a.credits
    ++ (flag_byte a.is_over ∷ []) ++ (length a.asked ∷ []) ++ flat_map size_bytes a.asked = search rules in
    let host : c.as_slice.result.now ≡ saved_bytes a.account = search rules in
    c.put.ensures.items ∙ (λ i. front i ++ host i)

pub returns-clause-back : goal.returns-clause-back
returns-clause-back c =
    let a = c.args.self.now in
    let range : HasPortRange a = search rules in
    let back = ap restored (sym c.save.ensures.bytes) ∙ c.save.ensures.back in
    let inner = subst (λ (h : Account). restored (saved_bytes h) ≡ Ok h)
    (ap (λ (p : PortAccount). p.account) c.self.view_is) back in
    let few : length a.asked ≤ 64 = search rules in
    let ported : IsPorted a.account a.asked = search rules in
    ap port_restored (returns-clause-bytes c) ∙ port_restored_back a inner few ported range
