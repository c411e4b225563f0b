use Rattle.mscp_tracked.proofs.Common.{All, ◌≡◌, ◌+◌, ◌*◌, ◌++◌, ◌<◌, ◌^◌, take, array_vec_len, words_bytes}
use Rattle.mscp_tracked.proofs.saving.put_words.Given as goal

abbrev pub invariant-loop-place : goal.invariant-loop-place
invariant-loop-place l = record {
  items : l.out.items ≡ l.fn.out.items ++ words_bytes (take l.place l.words);
  len : array_vec_len l.out ≡ array_vec_len l.fn.out + 8 * l.place;
  range : All (λ word. word < 2 ^ 64) (take l.place l.words);
}
