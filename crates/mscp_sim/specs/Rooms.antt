-- The room of the lists of a talk.
use Rattle.std.specs.Prelude.{ℕ, ◌+◌, ◌≤◌, vec_capacity, vec_len}
use Rattle.mscp_sim.specs.declared.conversing.Talk.{Talk}

-- what is heard in so many more turns, and their moments, can be kept without more memory
abbrev pub HasRoom : {A : Type 0} → Talk A → ℕ → Type 0
HasRoom talk turns =
    (vec_len talk.heard + turns ≤ vec_capacity talk.heard) × (vec_len talk.trace + turns ≤ vec_capacity talk.trace)
