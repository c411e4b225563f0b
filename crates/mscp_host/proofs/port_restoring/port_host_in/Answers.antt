use Rattle.mscp_host.proofs.Common.{Account, List, Submission, ap, arith, asked_in, drop, from_place, length, length-drop, map, name_of_asked, name_of_submission, nat_eq, not, slice_index, ℕ, ◌∙◌}
use Rattle.mscp_host.proofs.PortHeads.{names_in, sizes_there}
use Rattle.mscp_host.proofs.port_restoring.port_host_in.Goals as goal

pub asked_in-asked-requires-clause-there : goal.asked_in-asked-requires-clause-there
asked_in-asked-requires-clause-there c =
    let b = c.args.b.now in
    let there = sizes_there b c.args.host c.requires.head c.requires.said in
    let same = c.as_slice.ensures.value ∙ ap (λ (a : Account). a.outstanding) c.host.view_is in
    let few = ap (λ (xs : List Submission). length xs) same in
    let long = ap (λ (xs : List ℕ). length xs) (from_place 16 b) ∙ length-drop 16 b in
    omega (arith, there, few, long)

pub invariant_of-result : goal.invariant_of-result
invariant_of-result c =
    let same = c.as_slice.ensures.value ∙ ap (λ (a : Account). a.outstanding) c.host.view_is in
    record {
      same = ap (map name_of_asked) c.asked_in-asked.ensures ∙ (names_in _ c.as_slice.result.now
          ∙ ap (map name_of_submission) same);
      room = c.requires.room;
    }

pub returns : goal.returns
returns c =
    let b = c.args.b.now in
    let same = c.as_slice.ensures.value ∙ ap (λ (a : Account). a.outstanding) c.host.view_is in
    let asked = c.asked_in-asked.ensures ∙ (ap (λ (xs : List ℕ). asked_in xs c.as_slice.result.now) (from_place 16 b)
    ∙ ap (asked_in (drop 16 b)) same) in
    λ i. record {
      account = c.args.host;
      asked = asked i;
      credits = c.two_at.ensures i;
      is_over = not (nat_eq (slice_index b 14) 0);
    }
