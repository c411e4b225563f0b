use Rattle.mscp_port.proofs.Common.{ap, ◌∙◌, slice_index, task_in}
use Rattle.mscp_port.proofs.port.Port.fill.Goals as goal

pub returns : goal.returns
returns g c =
    let b = c.args.b.now in
    λ i. record {
      hardware = c.hardware_in-self.ensures i;
      controller = c.args.self.now.controller;
      more = slice_index b 16;
      untold = slice_index b 17;
      stage = c.stage_of-self.ensures i;
      words = c.words_in-self.ensures i;
      written = c.written_in-self.ensures i;
      rings = c.rings_in-self.ensures i;
      responses = slice_index b 18;
      commands = slice_index b 19;
      task = (c.task_in-self.ensures ∙ ap task_in c.coded_in.ensures) i;
      outgoing = c.outgoing_of-self.ensures i;
      is_polled = c.flag_at-self.ensures i;
      is_stalled = c.flag_at-self-2.ensures i;
      is_full = c.flag_at-self-3.ensures i;
      owes_block = c.flag_at-self-4.ensures i;
      serial = c.eight_at-self.ensures i;
      buffers = record { items = c.buffers_of-self.ensures i };
      decided = record { items = c.all_decided_of-self.ensures i };
      volumes = c.volumes_of-self.ensures i;
      flags = c.two_at-self.ensures i;
      timeout = c.two_at-self-2.ensures i;
      left = c.two_at-self-3.ensures i;
    }
