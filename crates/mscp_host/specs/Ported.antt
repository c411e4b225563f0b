-- What is true of every host of a port.
use Rattle.std.specs.Prelude.{◌≡◌, ℕ, List, map}
use Rattle.mscp_host.specs.declared.asked.Asked.{Asked}
use Rattle.mscp_host.specs.declared.submission.Submission.{Submission}
use Rattle.mscp_host.specs.Accounts.{Account}

-- what is kept of a command beside the bytes that it asks for
pub record Name : Type 0 where
  pub reference : ℕ
  pub unit : ℕ
  pub opcode : ℕ

abbrev pub name_of_submission : Submission → Name
name_of_submission s = record { reference = s.reference; unit = s.unit; opcode = s.opcode }

abbrev pub name_of_asked : Asked → Name
name_of_asked a = record { reference = a.reference; unit = a.unit; opcode = a.opcode }

-- the commands whose bytes are kept are those that are outstanding, in that order, and there is room for 64
pub record IsPorted (a : Account) (asked : List Asked) : Type 0 where
  pub same : map name_of_asked asked ≡ map name_of_submission a.outstanding
  pub room : a.credits ≡ 64
