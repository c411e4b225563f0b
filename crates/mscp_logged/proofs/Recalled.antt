-- What was told of a unit, as a log tells it, is borne out by the ends in the log, and by those that are still to come.
use Rattle.mscp_logged.proofs.Common.{Away, Bool, First, History, Identity, List, Moment, None, Option, Shape, Some, State, Told, Volume, [], answer_by, ap, append-nil, append_assoc, arith, cond, each_push, end_of, eq-eqb, false, fold_push, is_known_unit, is_same_unit, length, map, message_of, moment_at, not, num, outstanding, refl, sent_by, settles, standing_after, standing_first, suits_state, sym, take, told, told_after, told_after_message, told_nothing, true, unit_before, unit_found, volume_found, ℕ, ◌++◌, ◌<◌, ◌∙◌, ◌∷◌, ◌≡◌}
use Rattle.mscp_wire.specs.declared.moment.Moment.TheVariants as moments
use Rattle.mscp_logged.proofs.Away.{Denies, IsAway, Placed, away_after, opens, takes_away, told_away}
use Rattle.mscp_logged.proofs.Claims.{claim_bears, claimed_left}
use Rattle.mscp_logged.proofs.Describing.{Bears, Holds, Known, claim, identity_after, voids}

pub told_more : (h : History) (m : Moment) (u : ℕ)
    → told (h ++ m ∷ []) First u ≡ told_after (outstanding h) First u (told h First u) m
told_more h m u = ap (λ s. s.units First u) (fold_push standing_after standing_first h m)

-- a message of the host's tells it nothing
told_message : (u : ℕ) (t : Told) (text : List ℕ) → told_after_message First u t (sent_by First text) ≡ t
told_message u t text = grind arith

-- an end tells what is known of its unit
abbrev pub IsSameUnit : History → Moment → Type 0
IsSameUnit h (moments.End via b) = is_same_unit (unit_before (outstanding h) (told h) (answer_by via b.items))
    (answer_by via b.items) ≡ true
IsSameUnit h m = Unit {0}

-- and suits what was told of whether that is online
abbrev pub IsSuitedUnit : History → Moment → Type 0
IsSuitedUnit h (moments.End via b) = suits_state (unit_before (outstanding h) (told h) (answer_by via b.items)).state
    (answer_by via b.items) ≡ true
IsSuitedUnit h m = Unit {0}

-- so each end does, the latter if drives tell what they may (F)
pub record Recalled (F : Type 0) (units : List Shape) (volumes : List Volume) (h : History) (qs : List (List ℕ))
    : Type 0 where
  pub each : (i : ℕ) → i < length h → IsSameUnit (take i h) (moment_at h i)
  pub suits : (i : ℕ) → i < length h → F → IsSuitedUnit (take i h) (moment_at h i)
  pub now : (u : ℕ) → Known u (unit_found units u) (volume_found units volumes u) (told h First u).identity qs
  pub placed : F → (u : ℕ) → Placed u (volume_found units volumes u) (told_away (told h First u).state) qs

module _ (F : Type 0) (units : List Shape) (volumes : List Volume) where
  pub recalled_as : (h h' : History) (qs qs' : List (List ℕ)) → h' ≡ h → qs' ≡ qs → Recalled F units volumes h qs
      → Recalled F units volumes h' qs'
  recalled_as h h' qs qs' e f r = grind arith

  -- messages come
  message_recalled : (h : History) (qs : List (List ℕ)) (t : List ℕ) → Recalled F units volumes h qs
      → Recalled F units volumes (h ++ message_of t ∷ []) qs
  message_recalled h qs t r = record {
    each = each_push moments.Reset IsSameUnit h (message_of t) r.each tt;
    now = λ u. rw (told_more h (message_of t) u ∙ told_message u (told h First u) t) (r.now u);
    suits = each_push moments.Reset (λ h m. F → IsSuitedUnit h m) h (message_of t) r.suits (λ f. tt);
    placed = λ f u. rw (told_more h (message_of t) u ∙ told_message u (told h First u) t) (r.placed f u);
  }

  pub messages_recalled : (h : History) (qs : List (List ℕ)) (ts : List (List ℕ)) → Recalled F units volumes h qs
      → Recalled F units volumes (h ++ map message_of ts) qs
  messages_recalled h qs [] r = recalled_as h (h ++ []) qs qs (append-nil h) refl r
  messages_recalled h qs (t ∷ ts) r =
      recalled_as ((h ++ message_of t ∷ []) ++ map message_of ts) (h ++ message_of t ∷ map message_of ts) qs qs
      (sym (append_assoc h (message_of t ∷ []) (map message_of ts))) refl
      (messages_recalled (h ++ message_of t ∷ []) qs ts (message_recalled h qs t r))

  -- an end leaves
  module _ (h : History) (q : List ℕ) (qs : List (List ℕ)) (r : Recalled F units volumes h (q ∷ qs)) where
    same_so : IsSameUnit h (end_of q)
    same_so = by (settles (outstanding h) (answer_by First q))
      where
        known : (o : Option Identity) → (told h First (num q 4 2)).identity ≡ o
            → is_same_unit (told h First (num q 4 2)) (answer_by First q) ≡ true
        known None e = ap (λ o. is_known_unit o (answer_by First q)) e
        known (Some x) e = ap (λ o. is_known_unit o (answer_by First q)) e
            ∙ claim_bears (Bears (num q 4 2)) (voids (num q 4 2)) (claim (num q 4 2))
            (Holds (unit_found units (num q 4 2)) (volume_found units volumes (num q 4 2)))
            (told h First (num q 4 2)).identity q qs (r.now (num q 4 2)) x e
            (eq-eqb (num q 4 2) (num q 4 2) refl)

        by : (b : Bool)
            → is_same_unit (cond b (told h First (num q 4 2)) told_nothing) (answer_by First q) ≡ true
        by true = known (told h First (num q 4 2)).identity refl
        by false = refl

    suits_so : F → IsSuitedUnit h (end_of q)
    suits_so f = by (settles (outstanding h) (answer_by First q))
      where
        known : (s : State) → (told h First (num q 4 2)).state ≡ s
            → suits_state (told h First (num q 4 2)).state (answer_by First q) ≡ true
        known Away e = ap (λ s. suits_state s (answer_by First q)) e
            ∙ ap not (claim_bears (Denies (num q 4 2)) (opens (num q 4 2)) (takes_away (num q 4 2))
            (IsAway (volume_found units volumes (num q 4 2))) (told_away (told h First (num q 4 2)).state) q qs
            (r.placed f (num q 4 2)) tt (ap told_away e) (eq-eqb (num q 4 2) (num q 4 2) refl))
        known s e = grind arith

        by : (b : Bool)
            → suits_state (cond b (told h First (num q 4 2)) told_nothing).state (answer_by First q) ≡ true
        by true = known (told h First (num q 4 2)).state refl
        by false = refl

    pub end_recalled : Recalled F units volumes (h ++ end_of q ∷ []) qs
    end_recalled = record {
      each = each_push moments.Reset IsSameUnit h (end_of q) r.each same_so;
      now = λ u. claimed_left (Bears u) (voids u) (claim u) (Holds (unit_found units u) (volume_found units volumes u))
          (told h First u).identity q qs (r.now u) (told (h ++ end_of q ∷ []) First u).identity
          (λ x e. identity_after u (settles (outstanding h) (answer_by First q)) (told h First u) q x
          (ap (λ (t : Told). t.identity) (sym (told_more h (end_of q) u)) ∙ e));
      suits = each_push moments.Reset (λ h m. F → IsSuitedUnit h m) h (end_of q) r.suits suits_so;
      placed = λ f u. claimed_left (Denies u) (opens u) (takes_away u) (IsAway (volume_found units volumes u))
          (told_away (told h First u).state) q qs (r.placed f u)
          (told_away (told (h ++ end_of q ∷ []) First u).state)
          (λ x e. away_after u (outstanding h) (told h First u) q x
          (ap (λ (t : Told). told_away t.state) (sym (told_more h (end_of q) u)) ∙ e));
    }

  pub ends_recalled : (h : History) (ends qs : List (List ℕ)) → Recalled F units volumes h (ends ++ qs)
      → Recalled F units volumes (h ++ map end_of ends) qs
  ends_recalled h [] qs r = recalled_as h (h ++ []) qs qs (append-nil h) refl r
  ends_recalled h (q ∷ ends) qs r =
      recalled_as ((h ++ end_of q ∷ []) ++ map end_of ends) (h ++ end_of q ∷ map end_of ends) qs qs
      (sym (append_assoc h (end_of q ∷ []) (map end_of ends))) refl
      (ends_recalled (h ++ end_of q ∷ []) ends qs (end_recalled h q (ends ++ qs) r))

-- where nothing was said
pub nothing_recalled : (F : Type 0) (units : List Shape) (volumes : List Volume) (h : History) (qs : List (List ℕ))
    → h ≡ [] → qs ≡ [] → Recalled F units volumes h qs
nothing_recalled F units volumes h qs none no_end = grind arith

-- the volume of a unit may go, and ends may come
pub volumes_recalled : (F : Type 0) (units : List Shape) (volumes more : List Volume) (h : History)
    (qs qs' : List (List ℕ))
    → ((u : ℕ) → Known u (unit_found units u) (volume_found units volumes u) (told h First u).identity qs
    → Known u (unit_found units u) (volume_found units more u) (told h First u).identity qs')
    → (F → (u : ℕ) → Placed u (volume_found units volumes u) (told_away (told h First u).state) qs
    → Placed u (volume_found units more u) (told_away (told h First u).state) qs')
    → Recalled F units volumes h qs → Recalled F units more h qs'
volumes_recalled F units volumes more h qs qs' on also r = record {
  each = r.each;
  suits = r.suits;
  now = λ u. on u (r.now u);
  placed = λ f u. also f u (r.placed f u);
}
