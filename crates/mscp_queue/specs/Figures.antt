-- The figure of a record: how many steps its command may still wait, at most.
use Rattle.std.specs.Prelude.{ℕ, ◌+◌, ◌-◌, if◌then◌else◌, List, length, map, take, drop, filter, sum_by, Option, Some, None}
use Rattle.std.specs.List.{position, range_with_len}
use Rattle.mscp_drive.specs.declared.connection.Connection.{Connection}
use Rattle.mscp_queue.specs.declared.name.Name.{Name}
use Rattle.mscp_queue.specs.Records.{Record, has_name, is_in_service, left_of, record_at}

-- the figure of a record between those before it and those after it, under a budget. In service it is what is left of
-- the command alone. Else it is also what is left of all before it and of a later one in service, and of the budget
-- (profile)
abbrev pub figure_between : ℕ → List Record → Record → List Record → ℕ
figure_between budget front r back =
    if is_in_service r then left_of r else
    (sum_by left_of front + sum_by left_of (filter is_in_service back) + (budget - r.passed) + left_of r)

-- the figure of the record at a place
abbrev pub figure_at : ℕ → List Record → ℕ → ℕ
figure_at budget rs place =
    figure_between budget (take place rs) (record_at rs place) (drop (place + 1) rs)

abbrev pub figure_at_place : ℕ → List Record → Option ℕ → ℕ
figure_at_place budget rs None = 0
figure_at_place budget rs (Some place) = figure_at budget rs place

-- the figure of the waiting command of a name, 0 if there is none (profile)
abbrev pub figure_of_name : ℕ → List Record → Name → ℕ
figure_of_name budget rs name = figure_at_place budget rs (position (has_name name) rs)

-- what a look tells of a record whose figure is this: the connection and the reference number of its command, and the
-- figure
abbrev pub looked_at : Record → ℕ → (Connection × ℕ × ℕ)
looked_at r figure = (r.connection, r.command.reference, figure)

-- what a look tells of the records at these places
abbrev pub figures_from : ℕ → List Record → List ℕ → List (Connection × ℕ × ℕ)
figures_from budget rs places = map (λ place. looked_at (record_at rs place) (figure_at budget rs place)) places

-- connection, reference number and figure of each waiting command, in order of arrival (profile)
abbrev pub figures : ℕ → List Record → List (Connection × ℕ × ℕ)
figures budget rs = figures_from budget rs (range_with_len 0 (length rs))
