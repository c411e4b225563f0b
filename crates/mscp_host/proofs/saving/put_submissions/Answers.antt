use Rattle.mscp_host.proofs.Common.{refl, arith, HasSubmissionRange, submission_bytes, each_more, written_more}
use Rattle.mscp_host.proofs.saving.put_submissions.Goals as goal

pub loop-submission-preserved : goal.loop-submission-preserved
loop-submission-preserved c =
    let inv = c.loop-submission.invariant in
    let xs = c.args.submissions.now in
    let i = c.loop-submission.submission-index in
    let l = c.loop-submission-test.true in
    record {
      items = written_more submission_bytes c.args.out.now.items xs i _ _ l refl inv.items
          c.put_submission.ensures.items;
      len = omega (arith, inv.len, c.put_submission.ensures.len);
      range = each_more HasSubmissionRange xs i _ _ l refl inv.range c.put_submission.ensures.range;
    }
