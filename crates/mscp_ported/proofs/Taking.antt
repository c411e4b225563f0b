-- As something is wanted the oldest end of the controller's begins to go out, or no end does.
use Rattle.mscp_ported.proofs.Common.{IsNews, List, MayBegin, None, Option, Outgoing, Port, Says, Shape, Some, TakesEnd, Volume, [], ap, arith, ends_begun, none-some, refl, told_end, ℕ, ◌∙◌, ◌∷◌, ◌≡◌, ◌⊎◌}
use Rattle.mscp_ported.proofs.Loads.{looks_or_not}
use Rattle.mscp_port.specs.declared.stage.Stage.TheVariants as stages

pub record NoEnd {K : Type 0} (old new : Port K) : Type 0 where
  pub begun : ends_begun old.outgoing new.outgoing ≡ []
  pub controller : MayBegin old.controller new.controller
  pub decided : new.decided ≡ old.decided

pub begun_same : (o : Option Outgoing) → ends_begun o o ≡ []
begun_same None = refl
begun_same (Some o) = refl

news_none : (units : List Shape) (before after : List Volume) (place : Option ℕ) (o : Option Outgoing)
    → IsNews units before place o after → ends_begun None o ≡ []
news_none units before after place o n = grind (arith, none-some)

pub begun_end : {K : Type 0} (old new : Port K) (t : TakesEnd old new)
    → ends_begun old.outgoing new.outgoing ≡ told_end old t.out.0 ∷ []
begun_end old new t = ap (λ o. ends_begun o new.outgoing) t.nothing ∙ ap (ends_begun None) t.out.2

pub says_is : {K : Type 0} (old new : Port K) → Says old new
    → (TakesEnd old new × (old.stage ≡ stages.Up)) ⊎ NoEnd old new
says_is old new says = grind (arith, looks_or_not, news_none, begun_same)
