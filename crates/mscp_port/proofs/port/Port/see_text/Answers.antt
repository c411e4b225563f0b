use Rattle.mscp_port.proofs.Common.{arith, rules, ◌≡◌, Ok, Sent, Sends, answered_to}
use Rattle.mscp_controller.specs.declared.entry.Sent.TheVariants as sents
use Rattle.mscp_port.proofs.port.Port.see_text.Goals as goal

pub returns-in-None-clause-sees : goal.returns-in-None-clause-sees
returns-in-None-clause-sees g c = record {
  long = c.requires.short;
  own = search rules;
  own_waits = search rules;
  sent = λ s none. elim s as (λ (s : Sent). answered_to c.args.self.now c.args.message.now ≡ Ok s
      → Sends c.args.slot s c.args.message.now c.args.self.now c.send.new.self) [
        | sents.Queued reference ↦ λ answer. record {
          frame = search (arith, c.seconds-self.ensures, c.send.ensures.sent (sents.Queued reference) answer);
          decided = c.send.ensures.decides (sents.Queued reference) answer;
          kept = c.send.ensures.queued reference answer;
        }
        | sents.Answered reference aborted ↦ λ answer. record {
          frame = search (arith, c.seconds-self.ensures, c.send.ensures.sent (sents.Answered reference aborted) answer);
          decided = c.send.ensures.decides (sents.Answered reference aborted) answer;
          kept = c.send.ensures.answered reference aborted answer;
        }
      ];
  waits = search rules;
}
