-- A right step, with all that is known of those that wait; and moments that serve nobody.
use Rattle.mscp_controller.proofs.Basics.{◌≡◌, ℕ, ◌<◌, List, ◌∷◌, ap, sym, ◌∙◌, subst, arith, None, is_some, AllByRecursion, Block, Settings, Trace, Moment, Service, service_in, weight, done, every_weaker, every_parts, waiting_below, earlier_is, Step, startable_of, startable_parts, Steady, idle_others, more_left, done_kept, weight_before, none_starts}
use Rattle.mscp_controller.proofs.Promise.Figured.{marks, made_is}
use Rattle.mscp_controller.proofs.Promise.Falls.{Fit}
use Rattle.mscp_controller.proofs.Promise.Stays.{Leaves}

pub fit_of : (c : Settings) (t : Trace) (m : Moment) (s : Service) (k : Block) (y : ℕ) (front back : List ℕ)
    → Step c t m s k y front back → Steady c t → Fit c t m s front y back
fit_of c t m s k y front back st steady =
    let w = st.serves.among.at.is in
    let idle = idle_others c t y front back w steady.single st.served.next in
    record {
      is = w;
      after = st.changes.waits;
      marks = marks c t m s k y front back st idle.0;
      serves = st.serves.is;
      same = st.serves.same;
      started = st.served.started;
      more = λ b. more_left c t k y (sym (ap is_some st.served.ended) ∙ b);
      unfinished = (every_parts (λ x. done t x < weight t x)
          front (y ∷ back) (subst (AllByRecursion (λ x. done t x < weight t x)) w steady.unfinished)).1.0;
      idle_front = idle.0;
      idle_back = idle.1;
      affordable = grind (arith, earlier_is, startable_parts, startable_of);
    }

pub leaves_of : (t : Trace) (m : Moment) → service_in m.1 ≡ None → Leaves t m
leaves_of t m e = grind (arith, waiting_below, every_weaker, made_is, weight_before, done_kept, none_starts)
