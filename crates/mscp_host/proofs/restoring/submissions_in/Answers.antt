use Rattle.mscp_host.proofs.Common.{◌≡◌, ◌+◌, ◌*◌, ◌++◌, [], ◌∷◌, List, ℕ, suc, ap, sym, ◌∙◌, arith, parts_in, from_place, read_more, Submission, submission_in}
use Rattle.mscp_host.proofs.restoring.submissions_in.Goals as goal

pub loop-place-preserved : goal.loop-place-preserved
loop-place-preserved c =
    let inv = c.loop-place.invariant in
    let b = c.args.b.now in
    let n = c.loop-place.place in
    let said = c.submission_in.ensures ∙ ap submission_in (from_place (12 * n) b) in
    record {
      items = c.push.ensures.items ∙ (ap (λ (xs : List Submission). xs ++ (c.submission_in.result ∷ [])) inv.items
          ∙ (ap (λ (s : Submission). parts_in submission_in 12 n b ++ (s ∷ [])) said
          ∙ (sym (read_more submission_in 12 n b)
          ∙ ap (λ (k : ℕ). parts_in submission_in 12 k b) (let e : suc n ≡ n + 1 = omega arith in e))));
      len = omega (arith, inv.len, c.push.ensures.len);
    }
