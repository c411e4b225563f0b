use Rattle.std.proofs.Common.{true, arith, refl}
use Rattle.mscpjudge.proofs.Ported.{on_ok, parts_named, parts_said}
use Rattle.mscpjudge.proofs.ports.Sections.line.Goals as goal

pub returns-in-Says-clause-parts : goal.returns-in-Says-clause-parts
returns-in-Says-clause-parts c =
    on_ok c.say.result _ _ c.say.ensures
    (λ said port h. parts_said c.args.self.now.ports.items c.args.at c.args.number port c.args.kind
    c.args.line.now c.index_mut.result.now c.say.new.self c.in-Says.is (omega arith) c.index_mut.ensures.value said)

pub returns-in-Names-clause-parts : goal.returns-in-Names-clause-parts
returns-in-Names-clause-parts c =
    λ port h. parts_named c.args.self.now.ports.items c.args.at c.in-Names.port c.args.number port c.args.kind
    c.args.line.now c.index_mut-in-Names.result.now (record c.index_mut-in-Names.result.now { occurs = true })
    c.in-Names.is (omega arith) c.index_mut-in-Names.ensures.value refl
