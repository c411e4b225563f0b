use Rattle.mscp_judge.proofs.Common.{◌≡◌, ◌<◌, ◌^◌, ℕ, true, false, length, choice_at, is_wanted}
use Rattle.mscp_judge.proofs.naming.WantedPicker.pick.Given as goal

abbrev pub invariant-loop-place : goal.invariant-loop-place
invariant-loop-place l = record {
  inside : 0 < length l.choices → l.found < length l.choices;
  named : (i : ℕ) → i < l.place → is_wanted l.self.named (choice_at l.choices i) ≡ true
      → is_wanted l.self.named (choice_at l.choices l.found) ≡ true;
  oldest : is_wanted l.self.named (choice_at l.choices l.found) ≡ false → l.found ≡ 0;
  small : (i : ℕ) → i < l.place → (choice_at l.choices i).reference < 2 ^ 32;
}
