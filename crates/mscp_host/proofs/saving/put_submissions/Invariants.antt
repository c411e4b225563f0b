use Rattle.mscp_host.proofs.Common.{All, ◌≡◌, ◌+◌, ◌*◌, ◌++◌, take, flat_map, array_vec_len, HasSubmissionRange, submission_bytes}
use Rattle.mscp_host.proofs.saving.put_submissions.Given as goal

abbrev pub invariant-loop-submission : goal.invariant-loop-submission
invariant-loop-submission l =
    record {
      items : l.out.items ≡ l.fn.out.items ++ flat_map submission_bytes (take l.submission-index l.submissions);
      len : array_vec_len l.out ≡ array_vec_len l.fn.out + 12 * l.submission-index;
      range : All HasSubmissionRange (take l.submission-index l.submissions);
    }
