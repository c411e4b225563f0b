use Rattle.mscp_c.proofs.Common.{◌≡◌, ◌∙◌, map, sym, None, subst, IsUnitList, first_fault, unit_given}
use native.Mathlib.Omega.{arith}
use Rattle.mscp_c.proofs.Ascending.{refused, taken}
use Rattle.mscp_c.proofs.units.read_units.Goals as goal

pub returns-in-Some-fault-clause-fault : goal.returns-in-Some-fault-clause-fault
returns-in-Some-fault-clause-fault c =
    let us = c.args.given.now in
    let n : first_fault us ≡ None = sym c.gather.ensures.fault ∙ c.in_default.is in
    let all : c.as_slice.result.now ≡ map unit_given us = c.as_slice.ensures.value ∙ c.gather.ensures.taken n in
    refused us c.as_slice.result.now c.fault.result c.in-Some-fault.fault c.in-Some-fault.is all (omega arith) n
    c.fault.ensures.many c.fault.ensures.ascending c.fault.ensures.empty

pub returns-in-Some-fault-clause-list : goal.returns-in-Some-fault-clause-list
returns-in-Some-fault-clause-list c = λ good. let e = returns-in-Some-fault-clause-fault c ∙ good in cc

pub returns-clause-fault : goal.returns-clause-fault
returns-clause-fault c =
    let us = c.args.given.now in
    let n : first_fault us ≡ None = sym c.gather.ensures.fault ∙ c.in_default.is in
    let all : c.as_slice.result.now ≡ map unit_given us = c.as_slice.ensures.value ∙ c.gather.ensures.taken n in
    taken us (omega arith) n (subst (λ xs. IsUnitList xs) all (c.fault.ensures.none.0 c.in_default-fault.is))
