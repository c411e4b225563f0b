-- What comes of a host's calls, and how it is told.
use Rattle.std.specs.Prelude.{◌≡◌, ℕ, ◌||◌, ℤ, nat_lt, if◌then◌else◌, List, [], ◌∷◌, length, Option, Some, None, Result, Ok, Err}
use Rattle.arrayvec.specs.ArrayVec.{ArrayVec}
use Rattle.mscp_packet.specs.declared.command.Command.{Command}
use Rattle.mscp_packet.specs.declared.reading.PacketFault.{PacketFault}
use Rattle.mscp_packet.specs.declared.reading.PacketFault.TheVariants as sizes
use Rattle.mscp_packet.specs.declared.end.End.{End}
use Rattle.mscp_packet.specs.declared.end.EndBody.{EndBody}
use Rattle.mscp_packet.specs.declared.end.EndBody.TheVariants as bodies
use Rattle.mscp_packet.specs.Commands.{command_of}
use Rattle.mscp_host.specs.declared.news.HostFault.{HostFault}
use Rattle.mscp_host.specs.declared.news.News.{News}
use Rattle.mscp_host.specs.declared.news.News.TheVariants as news
use Rattle.mscp_host.specs.declared.news.Poll.{Poll}
use Rattle.mscp_host.specs.declared.news.Poll.TheVariants as polls
use Rattle.mscp_host.specs.Accounts.{Account, fresh, submits}
use Rattle.mscp_memory.specs.declared.fault.RoomFault.{RoomFault}
use Rattle.mscp_memory.specs.HostHandles.{Handle, placed, room_fault}
use Rattle.mscp_c.specs.declared.status.TheConstants as status
use Rattle.mscp_c.specs.declared.outs.PacketOut.{PacketOut}
use Rattle.mscp_c.specs.declared.outs.NewsOut.{NewsOut}
use Rattle.mscp_c.specs.Statuses.{host_code, room_code}
use Rattle.mscp_c.specs.Told.{PacketTold}

-- ---- an init

-- the status of an init, and the handle after it: the first fault, or a host to which nothing came so far
abbrev pub init_unless : Option RoomFault → Handle → ℕ → ℤ × Handle
init_unless (Some fault) h credits = (room_code fault, h)
init_unless None h credits =
    if nat_lt credits 2 || nat_lt 64 credits then (status.BAD_CREDITS, h) else (status.DONE, placed h (fresh credits))

abbrev pub inits : Handle → ℕ → ℤ × Handle
inits h credits = init_unless (room_fault h) h credits

-- ---- a submission

-- the status of what was answered to a submission
abbrev pub submit_code : Result (ArrayVec ℕ) HostFault → ℤ
submit_code (Ok message) = status.DONE
submit_code (Err fault) = host_code fault

-- what a message is read as, if its size is right
abbrev pub message_read : List ℕ → Result Command PacketFault
message_read b = if nat_lt (length b) 12 then Err sizes.Short
    else (if nat_lt 64 (length b) then Err sizes.Long else Ok (command_of b))

-- the status of a message of another size
abbrev pub size_code : PacketFault → ℤ
size_code sizes.Short = status.SHORT
size_code sizes.Long = status.LONG

-- the status of a submission of what was read, and what is kept after it
abbrev pub submits_read : Account → Result Command PacketFault → ℤ × Account
submits_read a (Err fault) = (size_code fault, a)
submits_read a (Ok command) = (submit_code (submits a command).0, (submits a command).1)

-- the status of a submission, and what is kept after it
abbrev pub submits_message : Account → List ℕ → ℤ × Account
submits_message a b = submits_read a (message_read b)

-- a submission from C is a moment of this kind in a host's history: bytes that are no message change nothing; else
-- what was answered to it is told
abbrev pub TellsSubmitted : {M : Type 0} → (Command → Result (ArrayVec ℕ) HostFault → M) → Result Command PacketFault
    → ℤ → List M → Type 0
TellsSubmitted moment (Err fault) status next = (next ≡ []) × (status ≡ size_code fault)
TellsSubmitted moment (Ok command) status next =
    (answer : Result (ArrayVec ℕ) HostFault) × (next ≡ moment command answer ∷ []) × (status ≡ submit_code answer)

-- ---- a poll

-- the status of what there is to do
abbrev pub poll_code : Result Poll HostFault → ℤ
poll_code (Ok (polls.Ask message)) = status.DONE
poll_code (Ok polls.Nothing) = status.NOTHING
poll_code (Ok polls.Busy) = status.BUSY
poll_code (Err fault) = host_code fault

-- what is told of it: the message, where one is to be sent
abbrev pub PollTold : Result Poll HostFault → PacketOut → PacketOut → Type 0
PollTold (Ok (polls.Ask message)) old new = PacketTold message.items old new
PollTold answer old new = new ≡ old

-- ---- an end

-- the bytes that a transfer moved, 0 in any other end
abbrev pub moved_in : EndBody → ℕ
moved_in (bodies.Moved bytes) = bytes
moved_in body = 0

-- what is told of an end
abbrev pub ended_told : End → NewsOut
ended_told e = record {
  figure = 0;
  reference = e.reference;
  moved = moved_in e.body;
  unit = e.unit;
  status = e.status;
  code = e.code;
}

-- what is told of a figure
abbrev pub figure_told : ℕ → NewsOut
figure_told figure = record { figure = figure; reference = 0; moved = 0; unit = 0; status = 0; code = 0 }

-- the status of what a received end says
abbrev pub news_code : Result News HostFault → ℤ
news_code (Ok (news.Ended e)) = status.ENDED
news_code (Ok (news.First figure)) = status.FIRST
news_code (Ok (news.Progress figure)) = status.PROGRESS
news_code (Ok news.Late) = status.LATE
news_code (Ok news.Reset) = status.NO_PROGRESS
news_code (Ok news.Lost) = status.LOST
news_code (Err fault) = host_code fault

-- what is told of it. Of a refusal nothing is
abbrev pub news_told : Result News HostFault → NewsOut → NewsOut
news_told (Ok (news.Ended e)) out = ended_told e
news_told (Ok (news.First figure)) out = figure_told figure
news_told (Ok (news.Progress figure)) out = figure_told figure
news_told (Ok said) out = figure_told 0
news_told (Err fault) out = out
