-- Rows of the log, worked by hand: what goes out and is gone, and what it shows; and what may be told of a block.
use Rattle.mscp_logged.proofs.Common.{Descriptor, First, List, None, Ok, Outgoing, OutgoingKind, Some, TellsFaults, Went, [], arith, ends_in, false, flat_map, is_foreign, leaves, refl, true, ℕ, ◌∷◌, ◌≡◌}
use Rattle.mscp_port.specs.declared.action.Outcome.TheVariants as outcomes
use Rattle.mscp_port.specs.declared.port.OutgoingKind.TheVariants as kinds
use Rattle.mscp_port.specs.declared.task.Task.TheVariants as tasks
use Rattle.mscp_wire.specs.declared.moment.Moment.TheVariants as moments

-- the end of a FLUSH: number 7, unit 0, code 0x93, Success
flush : List ℕ
flush = 7 ∷ 0 ∷ 0 ∷ 0 ∷ 0 ∷ 0 ∷ 0 ∷ 0 ∷ 0x93 ∷ 0 ∷ 0 ∷ 0 ∷ []

out : OutgoingKind → Outgoing
out kind = record { bytes = record { items = flush }; kind = kind }

end_is_seen_as_it_is_gone : flat_map ends_in (leaves (Some (out kinds.End)) None)
    ≡ moments.End First (record { items = flush }) ∷ []
unfolding out
end_is_seen_as_it_is_gone = refl

end_that_stays_is_not_seen : flat_map ends_in (leaves (Some (out kinds.End)) (Some (out kinds.End))) ≡ []
end_that_stays_is_not_seen = refl

news_are_not_seen : flat_map ends_in (leaves (Some (out kinds.Attention)) None) ≡ []
unfolding out
news_are_not_seen = refl

end_for_the_utilities_is_not_seen : flat_map ends_in (leaves (Some (out kinds.UtilitiesEnd)) None) ≡ []
unfolding out
end_for_the_utilities_is_not_seen = refl

text_for_the_utilities_is_foreign : (slot : Descriptor) → is_foreign (tasks.Text slot 12 true) ≡ true
text_for_the_utilities_is_foreign slot = refl

text_for_the_disks_is_not : (slot : Descriptor) → is_foreign (tasks.Text slot 12 false) ≡ false
text_for_the_disks_is_not slot = refl

-- Data Error (8) is a status that a medium may have, and Success (0) is none
data_error_is_told : TellsFaults (Went (outcomes.Failed 8) (Ok tt) ∷ [])
data_error_is_told = ((omega arith, omega arith, omega arith), tt)

success_of_a_failed_block_is_not : TellsFaults (Went (outcomes.Failed 0) (Ok tt) ∷ []) → ⊥
success_of_a_failed_block_is_not h = omega (arith, h.0.1)

done_is_told : TellsFaults (Went outcomes.Done (Ok tt) ∷ [])
done_is_told = (tt, tt)
