use Rattle.mscp_host.proofs.Common.{◌≡◌, ◌≤◌, ◌<◌, ◌-◌, ℕ, false, length, ap, subst, sym, List, ◌∙◌, arith, list_any, Submission, Account, has_reference, is_immediate, are_apart, waiting, are_told, is_watched}
use Rattle.mscp_host.proofs.Watched.{watched_more}
use Rattle.mscp_host.proofs.Told.{spare_more, told_more}
use Rattle.mscp_host.proofs.Apart.{apart_more}
use Rattle.mscp_host.proofs.host.Host.send.Goals as goal

pub invariant_of-self : goal.invariant_of-self
invariant_of-self c =
    let inv = c.self.invariant in
    let s = c.of.result in
    let xs = c.self.inside.outstanding.items in
    let w = c.self.inside.watch in
    let len = c.push.ensures.len in
    let free = subst (λ (a : Account). 1 ≤ a.credits - length a.outstanding) (sym c.self.view_is) c.requires.free in
    let none = subst (λ (a : Account). list_any (has_reference c.args.command.now.reference) a.outstanding ≡ false)
    (sym c.self.view_is) c.requires.new in
    let new = subst (λ (n : ℕ). list_any (has_reference n) xs ≡ false)
    (sym (ap (λ (s : Submission). s.reference) c.of.ensures)) none in
    let spare : is_immediate s.opcode ≡ false → 2 ≤ c.self.inside.credits - length xs = λ no.
    subst (λ (a : Account). 2 ≤ a.credits - length a.outstanding) (sym c.self.view_is)
    (c.requires.spare (sym (ap (λ (s : Submission). is_immediate s.opcode) c.of.ensures) ∙ no)) in
    record {
      some = inv.some;
      few = inv.few;
      covered = omega (arith, len, free);
      spare = subst (λ (n : ℕ). n < c.self.inside.credits) (sym (ap (λ l. length (waiting l)) c.push.ensures.items))
          (spare_more s xs c.self.inside.credits spare inv.spare);
      apart = ap are_apart c.push.ensures.items ∙ apart_more s xs inv.apart new;
      watched = ap (λ (l : List Submission). is_watched l w) c.push.ensures.items ∙ watched_more s xs w inv.watched;
      told = ap are_told c.push.ensures.items ∙ told_more s xs (ap (λ (s : Submission). s.told) c.of.ensures) inv.told;
    }
