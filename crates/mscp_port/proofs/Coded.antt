-- What is a number stands for what it is the number of.
use Rattle.mscp_port.proofs.Common.{◌≡◌, ℕ, ◌%◌, ◌≤◌, ◌<◌, Bool, true, nat_eq, nat_le, ap, arith, if◌then◌else◌, Option, Some, None, and_from, eq-eqb, le-leb, lt-ltb, flag_back, Bus, Stage, Task, IsTask, bus_byte, bus_in, coded_task, has_size, number_or_none, optional, some_byte, stage_byte, stage_in, stage_word, task_in, clear_size, text_size}

pub bus_back : (bus : Bus) → bus_in (bus_byte bus) ≡ bus
bus_back bus = grind arith

pub stage_back : (stage : Stage) → stage_in (stage_byte stage) (stage_word stage) ≡ stage
stage_back stage = grind arith

pub optional_back : (o : Option ℕ) → optional (some_byte o) (number_or_none o) ≡ o
optional_back o = grind arith

-- a size that there may be
is_clear_size : (done : ℕ) → done % 64 ≡ 0 → done < 1032 → clear_size done ≡ Some done
is_clear_size done whole few =
    ap (λ (yes : Bool). if yes then Some done else None)
    (and_from (nat_eq (done % 64) 0) _ (eq-eqb _ _ whole) (lt-ltb done 1032 few))

is_text_size : (size : ℕ) → 12 ≤ size → size ≤ 64 → text_size size ≡ Some size
is_text_size size some few =
    ap (λ (yes : Bool). if yes then Some size else None)
    (and_from (nat_le 12 size) _ (le-leb 12 size some) (le-leb size 64 few))

-- the numbers of a task have its size
pub size_back : (task : Task) → IsTask task → has_size (coded_task task) ≡ true
size_back task h1 = grind (arith, is_clear_size, is_text_size)

-- the numbers of a task say that task
pub task_back : (task : Task) → IsTask task → task_in (coded_task task) ≡ task
task_back task h1 = search (arith, is_clear_size, flag_back, is_text_size, le-leb)
