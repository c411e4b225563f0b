-- What was begun is held to, whatever comes in between, until it is aborted.
use Rattle.mscp_trials.proofs.Common.{ℕ, true, false, List, [], ◌∷◌, ◌++◌, map, take, refl, ap, arith, Some, Ok, Err, unwrap_or, replicate, false≢true, First, Good, Upcoming, NotBegun, Moment, cost, swept, Begin, Call, Finish, HoldsToBegun, IsBegunSince, Plain, answers_by}
use Rattle.mscp_queue.specs.declared.report.Report.TheVariants as reports
use Rattle.mscp_trials.proofs.Worked.Literals.{came_online, read, queued, aborted, served, moved, took}

abbrev plain : Moment → Call
plain m = Plain m.0 m.1

-- what is told of a read of one block that had no step
abbrev one_block : ℕ → ℕ → Upcoming
one_block r block = record {
  connection = First;
  command = record { reference = r; unit = 0; order = read 512 block };
  lbn =
      Some block;
  done = 0;
  weight = 1;
}

abbrev not_begun : NotBegun
not_begun = record {}

-- A far read is begun. A near one comes, and changes nothing of that. The far one is aborted: it can't be finished any
-- more, and the near one is begun and finished.
abbrev begun_and_aborted : List Call
begun_and_aborted =
    map plain came_online
    ++ plain (queued 1 0 (read 512 60))
    ∷ Begin (Some (one_block 1 60))
    ∷ plain (queued 2 0 (read 512 0))
    ∷ Begin (Some (one_block 1 60))
    ∷ plain (aborted 3 1)
    ∷ Finish First 1 Good (Err not_begun)
    ∷ Begin (Some (one_block 2 0))
    ∷ Finish First 2 Good (Ok (reports.Served First 2 0 (Some 0) true 0 (moved 2 0 0 512)))
    ∷ []

-- It is begun when the near one has come, though the sweep would start that one.
far_begun : IsBegunSince (take 6 begun_and_aborted) (one_block 1 60) 3 4
unfolding answers_by cost swept
far_begun = record { inside = omega arith; told = refl; own = refl; waited = refl; unstepped = refl; waits = refl }

-- So no begin may tell of the near one then,
near_untold : HoldsToBegun (take 6 begun_and_aborted) (Begin (Some (one_block 2 0))) → ⊥
near_untold h = let e = ap (λ o. (unwrap_or o (one_block 0 0)).command.reference) (h (one_block 1 60) 3 4 far_begun) in
    absurd (omega (arith, e))

-- no step may serve it,
near_unserved : HoldsToBegun (take 6 begun_and_aborted) (plain (served Good 2 0 (Some 0) true 0 (moved 2 0 0 512))) → ⊥
near_unserved h = let e = (h (one_block 1 60) 3 4 far_begun).reference in absurd (omega (arith, e))

-- nor may another block of the far one be served,
other_block_unserved : HoldsToBegun (take 6 begun_and_aborted)
    (plain (served Good 1 0 (Some 0) true 0 (moved 1 0 0 512))) → ⊥
other_block_unserved h = let e = ap (λ o. unwrap_or o 1) (h (one_block 1 60) 3 4 far_begun).lbn in
    absurd (omega (arith, e))

-- and no finish of the far one may fail.
far_can_finish : HoldsToBegun (take 6 begun_and_aborted) (Finish First 1 Good (Err not_begun)) → ⊥
far_can_finish h = h (one_block 1 60) 3 4 far_begun refl

-- ---- a number that is used again

-- The end of the far one is taken, and a third read comes under its number. The old begin isn't of that one: it can't
-- be finished until a begin tells of it.
abbrev number_again : List Call
number_again =
    take 8 begun_and_aborted
    ++ plain (took (1 ∷ 0 ∷ 0 ∷ 0 ∷ 0 ∷ 0 ∷ 0 ∷ 0 ∷ 0xA1 ∷ 0 ∷ 2 ∷ replicate 21 0))
    ∷ plain (queued 1 0 (read 512 80))
    ∷ Finish First 1 Good (Err not_begun)
    ∷ Begin (Some (one_block 1 80))
    ∷ Finish First 1 Good (Ok (reports.Served First 1 0 (Some 80) true 4 (moved 1 0 0 512)))
    ∷ []

-- The old one waits no more.
old_left : IsBegunSince (take 10 number_again) (one_block 1 60) 3 4 → ⊥
unfolding answers_by cost swept
old_left b = false≢true b.waits

-- The new one hadn't come when the old one was begun.
new_unbegun : (upcoming : Upcoming) → IsBegunSince (take 10 number_again) upcoming 7 4 → ⊥
unfolding answers_by cost swept
new_unbegun upcoming b = false≢true b.waited
