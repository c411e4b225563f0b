-- What a poll is told: the figure of a command of its own connection (manual, "GET COMMAND STATUS", "Host Command
-- Timeouts").
use Rattle.std.specs.Prelude.{◌≡◌, ◌≤◌, ◌∷◌, [], ℕ, Bool, if◌then◌else◌, List, length, slice_index, Result, Ok, Err}
use Rattle.mscp_packet.specs.EndcodeBytes as endcodes
use Rattle.mscp_packet.specs.Number.{num}
use Rattle.mscp_packet.specs.OpcodeBytes as opcodes
use Rattle.mscp_packet.specs.Statuses as statuses
use Rattle.mscp_packet.specs.declared.end.End.{End}
use Rattle.mscp_packet.specs.declared.end.EndBody.TheVariants as bodies
use Rattle.mscp_drive.specs.declared.connection.Connection.TheVariants.{First}
use Rattle.mscp_queue.specs.Figures.{figure_of_name}
use Rattle.mscp_queue.specs.Names.{name_on}
use Rattle.mscp_controller.specs.Holdings.{Holdings, answer_to_message}
use Rattle.mscp_controller.specs.declared.entry.SendFault.{SendFault}
use Rattle.mscp_controller.specs.declared.entry.Sent.{Sent}
use Rattle.mscp_port.specs.declared.hardware.Hardware.{Hardware}
use Rattle.mscp_port.specs.declared.port.Port.{Port}
use Rattle.mscp_port.specs.Calls.{IsMadeOf}
use Rattle.mscp_port.specs.Histories.{Answered, Call, Picking, WasRead}
use Rattle.mscp_ported.specs.Answers.{is_for_utilities}
use Rattle.mscp_ported.specs.Ends.{come}
use Rattle.mscp_ported.specs.Talk.{AsksAlways, Opened, Slot, talk_of}

-- the end of a GET COMMAND STATUS: the command that it asks for is named in bytes 12 to 15. Its figure is that of the
-- host's own command of this number, and 0 where none of the host's waits that has it
abbrev pub poll_end : {K : Type 0} → Holdings K → List ℕ → End
poll_end h b = record {
  reference = num b 0 4;
  unit = num b 4 2;
  code = endcodes.get_command_status;
  status = statuses.success;
  body = bodies.Status (num b 12 4) (figure_of_name h.settings.budget h.waiting (name_on First (num b 12 4)));
}

-- a poll that the controller takes brings this end alone, and one that it doesn't none
abbrev pub poll_brings : {K : Type 0} → Result Sent SendFault → Holdings K → List ℕ → List End
poll_brings (Ok sent) h b = poll_end h b ∷ []
poll_brings (Err fault) h b = []

-- one of the utilities brings none
abbrev pub polls_bring : {K : Type 0} → Bool → Port K → List ℕ → List End
polls_bring foreign p b =
    if foreign then [] else poll_brings (answer_to_message First p.controller b) p.controller b

-- the law of polls: whoever calls such a port: the text of a poll brings the end with the figure of the command of its
-- own connection
abbrev pub PortsAnswerPolls : {K : Type 0} → Picking K → Type 0
PortsAnswerPolls {K} picks =
    (hardware : Hardware) (credits : ℕ) (controller : Holdings K) (start p : Port K) (calls : List Call)
    (bytes : List ℕ) (done : Unit) (slot : Slot) (header : ℕ) → IsMadeOf hardware credits controller start
    → AsksAlways (WasRead bytes (Ok done) ∷ calls) → (a : Answered picks start (WasRead bytes (Ok done) ∷ calls) p)
    → (talk_of picks start a.0 calls a.1).turn ≡ Opened slot header
    → slice_index bytes 8 ≡ opcodes.get_command_status → 16 ≤ length bytes
    → come a.0 p ≡ polls_bring (is_for_utilities header) a.0 bytes
