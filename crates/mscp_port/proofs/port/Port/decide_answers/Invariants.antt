use Rattle.mscp_port.proofs.Common.{First, answer_of, array_vec_len, drop, length, map, of, take, ◌++◌, ◌-◌, ◌≡◌, ◌≤◌}
use Rattle.mscp_port.proofs.port.Port.decide_answers.Given as goal

abbrev pub invariant-loop-place : goal.invariant-loop-place
invariant-loop-place g l =
    let old = l.fn.self in
    let n = length old.decided.items in
    record {
      frame : l.self ≡ record old { decided = l.self.decided };
      from : n ≤ l.place;
      items : l.self.decided.items
          ≡ old.decided.items ++ map (answer_of old) (take (l.place - n) (drop n (of First old.controller.untaken)));
      len : array_vec_len l.self.decided ≡ l.place;
    }
