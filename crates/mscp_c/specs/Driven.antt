-- What comes of the calls of a driver's account of its port, and how it is told.
use Rattle.std.specs.Prelude.{ℕ, ℤ, if◌then◌else◌, nat_lt, List, ◌++◌, length, take, drop, Option, Some, None, Result, Ok, Err}
use Rattle.mscp_packet.specs.declared.command.Command.{Command}
use Rattle.mscp_packet.specs.declared.end.End.{End}
use Rattle.mscp_packet.specs.declared.reading.PacketFault.{PacketFault}
use Rattle.mscp_host.specs.declared.asked.Asked.{Asked}
use Rattle.mscp_host.specs.declared.heard.Heard.{Heard}
use Rattle.mscp_host.specs.declared.heard.Heard.TheVariants as heards
use Rattle.mscp_host.specs.declared.message.HearFault.{HearFault}
use Rattle.mscp_host.specs.declared.message.HearFault.TheVariants as faults
use Rattle.mscp_host.specs.declared.ticking.Advice.{Advice}
use Rattle.mscp_host.specs.declared.ticking.Advice.TheVariants as advices
use Rattle.mscp_host.specs.declared.ticking.Watch.{Watch}
use Rattle.mscp_host.specs.Messages.{envelope_in}
use Rattle.mscp_host.specs.PortAccounts.{PortAccount, fresh_of_port, hears, port_submits}
use Rattle.mscp_host.specs.Watching.{heard_by}
use Rattle.mscp_memory.specs.declared.fault.RoomFault.{RoomFault}
use Rattle.mscp_memory.specs.DriverHandles.{Handle, placed, room_fault}
use Rattle.mscp_c.specs.declared.status.TheConstants as status
use Rattle.mscp_c.specs.declared.outs.HeardOut.{HeardOut}
use Rattle.mscp_c.specs.Hosted.{message_read, moved_in, size_code, submit_code}
use Rattle.mscp_c.specs.Statuses.{hear_code, room_code}

-- the status of an init, and the handle after it: the first fault, or an account of one credit
abbrev pub driver_init_unless : Option RoomFault → Handle → ℤ × Handle
driver_init_unless (Some fault) h = (room_code fault, h)
driver_init_unless None h = (status.DONE, placed h fresh_of_port)

abbrev pub driver_inits : Handle → ℤ × Handle
driver_inits h = driver_init_unless (room_fault h) h

-- the status of a submission of what was read, and what is kept after it
abbrev pub driver_submits_read : PortAccount → Result Command PacketFault → ℤ × PortAccount
driver_submits_read p (Err fault) = (size_code fault, p)
driver_submits_read p (Ok command) = (submit_code (port_submits p command).0, (port_submits p command).1)

abbrev pub driver_submits : PortAccount → List ℕ → ℤ × PortAccount
driver_submits p b = driver_submits_read p (message_read b)

-- what comes of an envelope of four bytes and the text behind it
abbrev pub driver_hears : PortAccount → List ℕ → Result Heard HearFault × PortAccount
driver_hears p b = if nat_lt (length b) 4 then (Err faults.Cut, p) else hears p (envelope_in b) (drop 4 b)

-- the status of what is heard
abbrev pub heard_code : Result Heard HearFault → ℤ
heard_code (Ok (heards.Ended e asked)) = status.ENDED
heard_code (Ok (heards.MovedTooMuch e asked)) = status.MOVED_TOO_MUCH
heard_code (Ok (heards.First figure)) = status.FIRST
heard_code (Ok (heards.Progress figure)) = status.PROGRESS
heard_code (Ok heards.Late) = status.LATE
heard_code (Ok heards.Reset) = status.NO_PROGRESS
heard_code (Ok heards.Lost) = status.LOST
heard_code (Ok (heards.Refused e)) = status.REFUSED
heard_code (Ok (heards.Available unit)) = status.NOW_AVAILABLE
heard_code (Ok (heards.Attention code unit)) = status.ATTENTION
heard_code (Ok heards.Logged) = status.LOGGED
heard_code (Ok (heards.Credits credits)) = status.CREDITS
heard_code (Err fault) = hear_code fault

abbrev pub nothing_heard : HeardOut
nothing_heard = record {
  figure = 0;
  reference = 0;
  moved = 0;
  asked = 0;
  unit = 0;
  status = 0;
  code = 0;
  opcode = 0;
  credits = 0;
}

-- what is told of an end
abbrev pub end_told : End → HeardOut
end_told e = record nothing_heard {
  reference = e.reference;
  moved = moved_in e.body;
  unit = e.unit;
  status = e.status;
  code = e.code;
}

-- and of what was asked
abbrev pub end_asked : End → Asked → HeardOut
end_asked e asked = record (end_told e) { asked = asked.bytes; opcode = asked.opcode }

-- what is told of what is heard
abbrev pub told_of : Heard → HeardOut
told_of (heards.Ended e asked) = end_asked e asked
told_of (heards.MovedTooMuch e asked) = end_asked e asked
told_of (heards.First figure) = record nothing_heard { figure = figure }
told_of (heards.Progress figure) = record nothing_heard { figure = figure }
told_of (heards.Refused e) = end_told e
told_of (heards.Available unit) = record nothing_heard { unit = unit; code = 0x40 }
told_of (heards.Attention code unit) = record nothing_heard { unit = unit; code = code }
told_of (heards.Credits credits) = record nothing_heard { credits = credits }
told_of heard = nothing_heard

-- of a refusal nothing is told
abbrev pub heard_told : Result Heard HearFault → HeardOut → HeardOut
heard_told (Ok heard) out = told_of heard
heard_told (Err fault) out = out

-- nor does a watch count it
abbrev pub watch_told : Result Heard HearFault → Watch → Watch
watch_told (Ok heard) w = heard_by w heard
watch_told (Err fault) w = w

-- the status of what a watch says
abbrev pub advice_code : Advice → ℤ
advice_code advices.Nothing = status.NOTHING
advice_code advices.Poll = status.POLL
advice_code advices.Reset = status.SILENT

-- as many of what is outstanding as there is room for, and then what was there
abbrev pub asked_told : List Asked → List Asked → List Asked
asked_told xs out = take (length out) xs ++ drop (length xs) out
