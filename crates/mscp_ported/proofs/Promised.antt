-- What is promised of the controller in a port.
use Rattle.mscp_ported.proofs.Common.{Answered, AnsweredCalls, AnswersCall, AreMade, Begin, Call, Choice, ControllersKeepThePromise, Err, Finish, Hardware, Holdings, IsMadeOf, IsValid, KeepsPromise, Line, List, Made, None, Ok, Picking, Plain, Port, Settings, Some, [], ap, fresh, inl, inr, owner_kept, refl, subst, ℕ, ◌++◌, ◌∙◌, ◌∷◌, ◌≡◌, arith}
use Rattle.mscp_drive.specs.declared.event.Event.TheVariants as events
use Rattle.mscp_controller.specs.declared.entry.Entry.TheVariants as entries
use Rattle.mscp_ported.proofs.Made.{follows}
use Rattle.mscp_ported.proofs.Making.{made_more}

-- no call changes the picker
picker_kept : {K : Type 0} (picks : List Choice → ℕ → Type 0) (old : Holdings K) (call : Made) (new : Holdings K)
    → AnswersCall picks old call new → new.picker ≡ old.picker
picker_kept picks old (Plain event entry) new r = (owner_kept picks old new event entry r).1
picker_kept {K} picks old (Begin None) new r = ap (λ (l : Line K). l.picker) r.begins.2
picker_kept {K} picks old (Begin (Some upcoming)) new r = ap (λ (l : Line K). l.picker) r.begins.1.left
picker_kept picks old (Finish via reference k (Ok report)) new r =
    (owner_kept picks old new (events.Step k) (entries.Stepped report) r.1).1
picker_kept {K} picks old (Finish via reference k (Err not_begun)) new r = ap (λ (h : Holdings K). h.picker) r.1

pub pickers_kept : {K : Type 0} (picks : List Choice → ℕ → Type 0) (old : Holdings K) (calls : List Made)
    (new : Holdings K) → AnsweredCalls picks old calls new → new.picker ≡ old.picker
pickers_kept {K} picks old [] new a = ap (λ (h : Holdings K). h.picker) a
pickers_kept picks old (call ∷ calls) new a =
    pickers_kept picks a.0 calls new a.2 ∙ picker_kept picks old call a.0 a.1

-- the calls that were made so far, which its controller answered
pub record Knows {K : Type 0} (picks : Picking K) (c : Settings) (picker : K) (before : List Made) (start p : Port K)
    (calls : List Call) (a : Answered picks start calls p) : Type 0 where
  pub made : List Made
  pub are : AreMade picks before start p calls a made
  pub answered : AnsweredCalls (picks picker) (fresh c picker) made p.controller

module _ {K : Type 0} (picks : Picking K) (c : Settings) (picker : K)
    (keeps : ControllersKeepThePromise (picks picker) picker) (valid : IsValid c) (before : List Made)
    (hardware : Hardware) (credits : ℕ) (controller : Holdings K) (start : Port K)
    (was : AnsweredCalls (picks picker) (fresh c picker) before controller)
    (made : IsMadeOf hardware credits controller start) where
  pub knows : (p : Port K) (calls : List Call) (a : Answered picks start calls p)
      → Knows picks c picker before start p calls a
  knows p [] a = grind arith
  knows p (call ∷ calls) a =
      let k = knows a.0 calls a.1 in
      let same : a.0.controller.picker ≡ picker =
      pickers_kept (picks picker) (fresh c picker) k.made a.0.controller k.answered in
      let set : a.0.controller.settings ≡ c = (keeps c k.made a.0.controller valid k.answered).settings in
      elim (follows picks call a.0 p a.2) [
        | inl f ↦ record {
          made = [];
          are = inl (f, refl);
          answered = f.1.controller ∙ ap (λ s. fresh s a.0.controller.picker) set ∙ ap (fresh c) same;
        }
        | inr m ↦ record {
          made = k.made ++ m.0;
          are = inr (k.made, m.0, k.are, m.1, refl);
          answered = made_more (picks picker) (fresh c picker) k.made m.0 a.0.controller p.controller k.answered
              (subst (λ x. AnsweredCalls (picks x) a.0.controller m.0 p.controller) same m.2);
        }
      ]

  pub keep_the_promise : (p : Port K) (calls : List Call) (a : Answered picks start calls p)
      → (xs : List Made) × AreMade picks before start p calls a xs × KeepsPromise (picks picker) c xs p.controller
  keep_the_promise p calls a =
      let k = knows p calls a in (k.made, k.are, keeps c k.made p.controller valid k.answered)
