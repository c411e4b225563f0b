-- What register SA shows (port: UQSSP, "Initialization").
use Rattle.std.specs.Prelude.{ℕ, ◌^◌, ◌+◌, ◌*◌, ◌/◌, ◌%◌}
use Rattle.mscp_port.specs.declared.hardware.Bus.{Bus}
use Rattle.mscp_port.specs.declared.hardware.Bus.TheVariants.{Q, Uni}
use Rattle.mscp_port.specs.declared.hardware.Hardware.{Hardware}
use Rattle.mscp_port.specs.declared.stage.Stage.{Stage}
use Rattle.mscp_port.specs.declared.stage.Stage.TheVariants as stages

-- how many addresses a bus has: the Q-bus 22 lines, the Unibus 18
abbrev pub bus_size : Bus → ℕ
bus_size Q = 2 ^ 22
bus_size Uni = 2 ^ 18

-- in the first step: bit 11, and what the port serves: odd addresses (7: not, 6: mapping) and, on the Q-bus,
-- addresses of 22 bits (9)
abbrev pub first_step_on : Bus → ℕ
first_step_on Q = 0x0B40
first_step_on Uni = 0x0940

abbrev pub first_step : Hardware → ℕ
first_step h = first_step_on h.bus

-- in the second: bit 12, and the high byte of the host's first word
abbrev pub second_step : ℕ → ℕ
second_step first = 0x1000 + first / 0x0100

-- in the third: bit 13, and the low byte of that word
abbrev pub third_step : ℕ → ℕ
third_step first = 0x2000 + first % 0x0100

-- in the last: bit 14, the model, and the version of its software
abbrev pub last_step : Hardware → ℕ
last_step h = 0x4000 + h.model % 0x80 * 0x10 + h.software % 0x10

-- what it shows in a stage, where the host's first word was this
abbrev pub shown : Hardware → ℕ → Stage → ℕ
shown h first stages.First = first_step h
shown h first (stages.Wrapped word) = word
shown h first stages.Second = second_step first
shown h first stages.Third = third_step first
shown h first stages.Purging = 0
shown h first stages.Probing = 0
shown h first stages.Clearing = third_step first
shown h first stages.Last = last_step h
shown h first stages.Up = 0
shown h first (stages.Dead code) = 0x8000 + code % 0x8000
