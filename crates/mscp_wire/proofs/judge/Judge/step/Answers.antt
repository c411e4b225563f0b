use Rattle.mscp_wire.proofs.Common.{kept, sents}
use Rattle.mscp_wire.proofs.Hearing.{if_right, stepped_end}
use Rattle.mscp_wire.proofs.judge.Judge.step.Goals as goal

pub returns-in-End-clause-rule : goal.returns-in-End-clause-rule
returns-in-End-clause-rule g c =
    stepped_end c.end.result c.args.self.now.credits (sents c.args.self.now.commands) (kept c.args.self.now.units)
    c.args.self.now.controller c.in-End.connection c.in-End.message _ c.args.moment.now c.in-End.is
    c.as_slice-in-End.ensures.value
    c.end.ensures.rule

pub returns-in-Message-clause-rule : goal.returns-in-Message-clause-rule
returns-in-Message-clause-rule g c = rw c.in-Message.is (rw c.as_slice.ensures.value at c.message.ensures.rule)

pub returns-in-Message-clause-command : goal.returns-in-Message-clause-command
returns-in-Message-clause-command g c = rw c.in-Message.is (rw c.as_slice.ensures.value at c.message.ensures.command)

pub returns-in-Message-clause-after : goal.returns-in-Message-clause-after
returns-in-Message-clause-after g c = rw c.in-Message.is (rw c.as_slice.ensures.value at c.message.ensures.after)

pub returns-in-Message-clause-units : goal.returns-in-Message-clause-units
returns-in-Message-clause-units g c = rw c.in-Message.is (rw c.as_slice.ensures.value at c.message.ensures.units)

pub returns-in-Message-clause-fall : goal.returns-in-Message-clause-fall
returns-in-Message-clause-fall g c = rw c.in-Message.is c.message.ensures.fall

pub returns-in-Message-clause-doubtful : goal.returns-in-Message-clause-doubtful
returns-in-Message-clause-doubtful g c = rw c.in-Message.is c.message.ensures.doubtful

pub returns-in-Message-clause-called : goal.returns-in-Message-clause-called
returns-in-Message-clause-called g c = rw c.in-Message.is (if_right c.message.result c.message.ensures.called)

pub returns-in-Message-clause-controller : goal.returns-in-Message-clause-controller
returns-in-Message-clause-controller g c =
    rw c.in-Message.is (if_right c.message.result c.message.ensures.controller)

pub returns-in-Message-clause-timeout : goal.returns-in-Message-clause-timeout
returns-in-Message-clause-timeout g c = rw c.in-Message.is (if_right c.message.result c.message.ensures.timeout)

pub returns-in-End-clause-command : goal.returns-in-End-clause-command
returns-in-End-clause-command g c = rw c.in-End.is (rw c.as_slice-in-End.ensures.value at c.end.ensures.command)

pub returns-in-End-clause-fall : goal.returns-in-End-clause-fall
returns-in-End-clause-fall g c = rw c.in-End.is (rw c.as_slice-in-End.ensures.value at c.end.ensures.fall)

pub returns-in-End-clause-doubtful : goal.returns-in-End-clause-doubtful
returns-in-End-clause-doubtful g c = rw c.in-End.is (rw c.as_slice-in-End.ensures.value at c.end.ensures.doubtful)

pub returns-in-End-clause-after : goal.returns-in-End-clause-after
returns-in-End-clause-after g c = rw c.in-End.is (rw c.as_slice-in-End.ensures.value at c.end.ensures.after)

pub returns-in-End-clause-units : goal.returns-in-End-clause-units
returns-in-End-clause-units g c = rw c.in-End.is (rw c.as_slice-in-End.ensures.value at c.end.ensures.units)

pub returns-in-End-clause-called : goal.returns-in-End-clause-called
returns-in-End-clause-called g c = rw c.in-End.is (rw c.as_slice-in-End.ensures.value at c.end.ensures.called)

pub returns-in-End-clause-controller : goal.returns-in-End-clause-controller
returns-in-End-clause-controller g c =
    rw c.in-End.is (rw c.as_slice-in-End.ensures.value at c.end.ensures.controller)

pub returns-in-End-clause-timeout : goal.returns-in-End-clause-timeout
returns-in-End-clause-timeout g c = rw c.in-End.is (rw c.as_slice-in-End.ensures.value at c.end.ensures.timeout)
