use Rattle.mscp_logged.proofs.Common.{TellsFaults, ⊎_elim}
use Rattle.mscp_logged.proofs.Begun.{IsKeeping, begun}
use Rattle.mscp_logged.proofs.Figured.{known}
use Rattle.mscp_logged.proofs.Kept.{keeps_rules}
use Rattle.mscp_logged.proofs.Logging.{stated}
use Rattle.mscp_logged.proofs.Recalling.{recalled}
use Rattle.mscp_logged.proofs.Tied.{IsEndOf, IsFineUntil, end_of, fine_before, late_of, never_aborted, own_end_of, own_turn, turn_of}
use Rattle.mscp_logged.proofs.law.ports_are_right.Goals as goal

pub returns : goal.returns
returns g c = λ s before controller hardware credits start p calls valid was quiet made asks reads a limit rule sizes
    host faults blocks.
    let F = TellsFaults calls in
    let run = begun g.K.Picker.picks s c.args.picker.now valid before hardware credits controller start was made quiet
    in
    let keeping : IsKeeping run =
    record { keep = c.controllers_keep_the_promise.ensures; sizes = sizes } in
    let state = stated (IsEndOf s F) F (Unit {0}) run c.ports_end_what_they_took.ensures c.ports_tell_in_order.ensures
    (IsFineUntil F) (fine_before F) (end_of run keeping F) (late_of run keeping F)
    (λ old text o own kind faults. never_aborted s old text o own kind) (turn_of run keeping F) (own_turn run keeping F)
    (own_end_of s F) limit in
    let recalling = recalled run keeping c.ports_end_what_they_took.ensures c.ports_tell_in_order.ensures F p calls asks
    reads (λ f. f) a in
    keeps_rules s F limit rule _ _ _ (state p calls asks reads (asks, λ f. f) a host) host faults
    (λ polls. (known (IsEndOf s F) F (Unit {0}) (λ text message tie. tie.fits.code) run
    c.ports_end_what_they_took.ensures c.ports_tell_in_order.ensures c.ports_hold_what_is_awaited.ensures
    c.ports_pass_ends_on.ensures c.ports_lower_figures.ensures sizes limit (IsFineUntil F) (fine_before F) state p calls
    asks reads (asks, λ f. f) a host (⊎_elim (λ serves. serves)
    (λ b. c.ports_serve_who_asks_for_blocks.ensures hardware credits controller start p calls made b a)
    (blocks polls))).each)
    recalling.each recalling.suits
