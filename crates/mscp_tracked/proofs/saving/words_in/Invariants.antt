use Rattle.mscp_tracked.proofs.Common.{◌≡◌, array_vec_len, words_in}
use Rattle.mscp_tracked.proofs.saving.words_in.Given as goal

abbrev pub invariant-loop-place : goal.invariant-loop-place
invariant-loop-place l =
    record { items : l.words.items ≡ words_in l.place l.b; len : array_vec_len l.words ≡ l.place }
