-- What is known of a log: each end in it has a tie to the command that it answers.
use Rattle.mscp_logged.proofs.Common.{AllByRecursion, Bool, First, History, IsRight, List, Moment, None, Option, Outgoing, OutgoingKind, Said, Sent, Some, [], aborts, aborts_behind, answer_by, ap, append-nil, arith, begins, command_at, cond, drop, each_push, end_of, end_said, ends_in, eq-eqb, false, filter, filter-append, flat_map, get_or_append_left, has_number, is_new, leaves, length, length-append, list_any, map, message_of, moment_at, nat_eq, not, num, option_to_list, outstanding, passes_none, place_of, refl, said_in, sent_by, slice_index_or, subst, sym, take, take-append-le, true, ℕ, ◌%◌, ◌++◌, ◌+◌, ◌<◌, ◌∙◌, ◌∷◌, ◌≡◌}
use Rattle.mscp_port.specs.declared.port.OutgoingKind.TheVariants as kinds
use Rattle.mscp_wire.specs.declared.moment.Moment.TheVariants as moments
use Rattle.mscp_logged.proofs.Left.{at_front, end_leaves}
use Rattle.mscp_logged.proofs.Lined.{AreLate, AreLined, all_left, late_more, left_by, lined_behind, lined_left, lined_map, lined_more, without_held}
use Rattle.mscp_logged.proofs.Passes.{keeps, overtakes}
use Rattle.mscp_logged.proofs.Seen.{begun_none}
use Rattle.mscp_logged.proofs.Turns.{AreTurned, IsApartOr, turn_lined, turn_more, turn_new, turn_passes}
use Rattle.mscp_logged.proofs.Wired.{AreOwed, Wired, end_begins, front_of, message_answered, message_taken, named, none_any, outstanding_more, stem}

-- ---- each moment behind those before it

module _ {X : Type 0} (R : List X → X → Type 0) (d : X) where
  abbrev pub Each : List X → Type 0
  Each xs = (i : ℕ) → i < length xs → R (take i xs) (slice_index_or xs i d)

  pub each_front : (xs ys : List X) → Each (xs ++ ys) → Each xs
  each_front xs ys each i low = grind (arith, get_or_append_left, take-append-le, length-append)

  pub each_at : (xs : List X) (x : X) (ys : List X) → Each (xs ++ x ∷ ys) → R xs x
  each_at xs x ys each = rw (← at_front xs x ys d) (subst (λ zs. R zs (slice_index_or (xs ++ x ∷ ys) (length xs) d))
      (front_of xs x ys) (each (length xs) (search (arith, length-append xs (x ∷ ys)))))

-- a host's right message has a new number
pub right_new : (credits : Option ℕ) (h : History) (t : List ℕ) → IsRight credits h (message_of t)
    → is_new (outstanding h) (sent_by First t) ≡ true
right_new credits h t e = grind arith

pub new_none : (xs : List Sent) (t : List ℕ) → is_new xs (sent_by First t) ≡ true
    → filter (named (num t 0 4)) xs ≡ []
new_none xs t e = grind (arith, none_any)

module _ (Tie : List ℕ → List ℕ → Type 0) (G O : Type 0) where
  -- an end answers the command of a message at a place, and has its tie to that
  pub record IsTied (xs : List Sent) (text : List ℕ) : Type 0 where
    pub place : ℕ
    pub at : place_of xs (answer_by First text) ≡ Some place
    pub message : List ℕ
    pub command : stem (command_at xs place) ≡ sent_by First message
    pub tie : Tie text message
    pub abort : G → num text 10 2 % 32 ≡ 2 → list_any (aborts (command_at xs place)) (drop (place + 1) xs) ≡ true
    pub order : O → passes_none (take place xs) (command_at xs place) (answer_by First text) ≡ true

  abbrev pub IsSeen : History → Moment → Type 0
  IsSeen h (moments.Message via b time) = Unit {0}
  IsSeen h (moments.End via b) = (via ≡ First) × IsTied (outstanding h) b.items
  IsSeen h m = Unit {0}

  pub record Stated (h : History) (aw : List (List ℕ)) (held : List Said) : Type 0 where
    pub each : (i : ℕ) → i < length h → IsSeen (take i h) (moment_at h i)
    pub wired : Wired Tie (outstanding h) aw held
    pub lined : AreLined (without_held held (outstanding h)) aw
    pub late : AreLate G (outstanding h) held
    pub turned : AreTurned O (outstanding h) held

  pub nothing_stated : Wired Tie [] [] [] → Stated [] [] []
  nothing_stated w = grind arith

  module _ (h : History) (aw : List (List ℕ)) where
    pub as_it_is : (h' : History) (aw' : List (List ℕ)) (held held' : List Said) → h' ≡ h → aw' ≡ aw → held' ≡ held
        → Stated h aw held → Stated h' aw' held'
    as_it_is h' aw' held held' e f g s = grind arith

    -- a message comes
    pub takes : (held : List Said) (t : List ℕ) → Stated h aw held → is_new (outstanding h) (sent_by First t) ≡ true
        → Stated (h ++ message_of t ∷ []) (aw ++ t ∷ []) held
    takes held t s new = record {
      each = each_push moments.Reset IsSeen h (message_of t) s.each tt;
      wired = subst (λ xs. Wired Tie xs (aw ++ t ∷ []) held) (sym (outstanding_more h (message_of t)))
          (message_taken Tie (outstanding h) aw t _ refl (new_none (outstanding h) t new) held s.wired);
      lined = rw (outstanding_more h (message_of t)) (by held s.wired.owed s.lined _ refl);
      late = rw (outstanding_more h (message_of t)) (late_more G (outstanding h) _ held s.late);
      turned = rw (outstanding_more h (message_of t)) (turned_by held s.wired.owed s.turned _ refl);
    }
      where
        xs : List Sent
        xs = outstanding h

        apart : (n : ℕ) (own : Sent) → filter (named n) xs ≡ own ∷ [] → (b : Bool) → nat_eq (num t 0 4) n ≡ b
            → b ≡ false
        apart n own sole b e = grind (arith, new_none)

        beside : (kind : OutgoingKind) (n : ℕ) → (kind ≡ kinds.End → nat_eq (num t 0 4) n ≡ false) → (x : Sent)
            → stem x ≡ sent_by First t → AreLined (left_by kind n xs) aw
            → AreLined (left_by kind n (xs ++ x ∷ [])) (aw ++ t ∷ [])
        beside kind n other x is all = grind (arith, lined_more, filter-append)

        by : (held : List Said) → AreOwed Tie xs aw held → AreLined (without_held held xs) aw → (x : Sent)
            → stem x ≡ sent_by First t → AreLined (without_held held (xs ++ x ∷ [])) (aw ++ t ∷ [])
        by [] owed all x is = lined_more xs aw x t all is
        by (o ∷ held) owed all x is = beside o.kind (num o.text 0 4) (λ kind. let own = owed.0 kind in
            apart (num o.text 0 4) own.own own.sole (nat_eq (num t 0 4) (num o.text 0 4)) refl) x is all

        turned_by : (held : List Said) → AreOwed Tie xs aw held → AreTurned O xs held → (x : Sent)
            → stem x ≡ sent_by First t → AreTurned O (xs ++ x ∷ []) held
        turned_by [] owed all x is = tt
        turned_by (o ∷ held) owed all x is = (
          (λ kind g. let own = owed.0 kind in turn_more xs o.text x (ap (named (num o.text 0 4)) is
              ∙ apart (num o.text 0 4) own.own own.sole (nat_eq (num t 0 4) (num o.text 0 4)) refl) (all.0 kind g)),
          turned_by held owed.1 all.1 x is,
        )

    pub answers : (o : Said) (t : List ℕ) → Stated h aw [] → is_new (outstanding h) (sent_by First t) ≡ true
        → num o.text 0 4 ≡ num t 0 4 → Tie o.text t → o.kind ≡ kinds.End → (G → num o.text 10 2 % 32 ≡ 2 → ⊥)
        → (O → IsApartOr o.text (AllByRecursion (λ u. keeps t u ≡ false) aw))
        → Stated (h ++ message_of t ∷ []) aw (o ∷ [])
    answers o t s new same tie kind never free = record {
      each = each_push moments.Reset IsSeen h (message_of t) s.each tt;
      wired = subst (λ xs. Wired Tie xs aw (o ∷ [])) (sym (outstanding_more h (message_of t)))
          (message_answered Tie (outstanding h) aw t _ refl (new_none (outstanding h) t new) o s.wired same tie);
      lined = rw (outstanding_more h (message_of t)) (here _ refl);
      late = ((λ kind g aborted. absurd (never g aborted)), tt);
      turned = subst (λ xs. AreTurned O xs (o ∷ [])) (sym (outstanding_more h (message_of t)))
          ((λ kind g. turn_new (outstanding h) aw o.text t _ refl none s.lined (free g)), tt);
    }
      where
        xs : List Sent
        xs = outstanding h

        none : filter (named (num o.text 0 4)) xs ≡ []
        none = subst (λ n. filter (named n) xs ≡ []) (sym same) (new_none xs t new)

        by : (x : Sent) → stem x ≡ sent_by First t
            → AreLined (filter (λ y. not (named (num o.text 0 4) y)) (xs ++ x ∷ [])) aw
        by x is = rw (filter-append (λ y. not (named (num o.text 0 4) y)) xs (x ∷ [])
            ∙ ap (λ zs. zs ++ filter (λ y. not (named (num o.text 0 4) y)) (x ∷ [])) (all_left (named (num o.text 0 4))
            xs none) ∙ ap (λ b. xs ++ cond (not b) (x ∷ []) []) (ap (named (num o.text 0 4)) is ∙ eq-eqb (num t 0 4)
            (num o.text 0 4) (sym same)) ∙ append-nil xs) s.lined

        here : (x : Sent) → stem x ≡ sent_by First t
            → AreLined (left_by o.kind (num o.text 0 4) (outstanding h ++ x ∷ [])) aw
        here x is = rw kind (by x is)

    -- something begins to go out
    pub begins_end : (o : Said) (m : List ℕ) → Stated h aw [] → filter (has_number (num o.text 0 4)) aw ≡ m ∷ []
        → Tie o.text m → o.kind ≡ kinds.End
        → (G → num o.text 10 2 % 32 ≡ 2 → (k : ℕ) × (aborts_behind (num o.text 0 4) k aw ≡ true))
        → (O → IsApartOr o.text (overtakes (num o.text 0 4) aw ≡ false))
        → Stated h (filter (λ t. not (has_number (num o.text 0 4) t)) aw) (o ∷ [])
    begins_end o m s only tie kind late turn = record {
      each = s.each;
      wired = end_begins Tie (outstanding h) aw o m s.wired only tie;
      lined = rw kind (lined_left (num o.text 0 4) (outstanding h) aw s.lined);
      late = (
        (λ kind g aborted. let z = late g aborted in
            (z.0, lined_behind (num o.text 0 4) z.0 (outstanding h) aw s.lined z.1)),
        tt,
      );
      turned = ((λ kind g. turn_lined (outstanding h) aw o.text s.lined (turn g)), tt);
    }

    pub begins_other : (o : Said) → Stated h aw [] → (o.kind ≡ kinds.End → ⊥) → Stated h aw (o ∷ [])
    begins_other o s never = grind arith

    -- an end leaves
    pub leaves_end : (o : Said) → Stated h aw (o ∷ []) → o.kind ≡ kinds.End → Stated (h ++ end_of o.text ∷ []) aw []
    leaves_end o s kind =
        let x = end_leaves Tie (outstanding h) aw o s.wired kind in
        let owed = s.wired.owed.0 kind in
        record {
          each = each_push moments.Reset IsSeen h (end_of o.text) s.each (
            refl,
            record {
              place = x.place;
              at = x.at;
              message = owed.message;
              command = x.command;
              tie = owed.tie;
              abort = λ g aborted. let z = s.late.0 kind g aborted in x.aborted z.0 z.1;
              order = λ g. turn_passes (outstanding h) x.place o.text x.turned (s.turned.0 kind g);
            },
          );
          wired = subst (λ xs. Wired Tie xs aw []) (sym (outstanding_more h (end_of o.text)
              ∙ ap (Rattle.mscp_wire.specs.Wire.after_end (outstanding h) (answer_by First o.text)) x.at)) x.left;
          lined = rw (outstanding_more h (end_of o.text) ∙ ap (Rattle.mscp_wire.specs.Wire.after_end (outstanding h)
              (answer_by First o.text)) x.at ∙ x.after) (lined_map _ (λ y. refl) x.others aw
              (subst (λ zs. AreLined zs aw) x.without (subst (λ k. AreLined (left_by k (num o.text 0 4) (outstanding h))
              aw) kind s.lined)));
          late = tt;
          turned = tt;
        }

    pub leaves_other : (o : Said) → Stated h aw (o ∷ []) → (o.kind ≡ kinds.End → ⊥) → Stated h aw []
    leaves_other o s never = grind arith

    -- what goes out stays so, or leaves
    pub left : (old new : Option Outgoing) → Stated h aw (map said_in (option_to_list old)) → begins old new ≡ []
        → ((o x : Outgoing) → old ≡ Some o → new ≡ Some x → said_in o ≡ said_in x)
        → Stated (h ++ flat_map ends_in (leaves old new)) aw (map said_in (option_to_list new))
    left (Some o) (Some x) s none same =
        as_it_is (h ++ []) aw (said_in o ∷ []) (said_in x ∷ []) (append-nil h) refl
        (ap (λ y. y ∷ []) (sym (same o x refl refl))) s
    left (Some o) None s none same = by o.kind refl
      where
        by : (k : OutgoingKind) → o.kind ≡ k → Stated (h ++ (map end_of (end_said o.kind o.bytes.items) ++ [])) aw []
        by kinds.End e = rw e (leaves_end (said_in o) s e)
        by other e = grind (arith, as_it_is, append-nil, leaves_other)
    left old new s none same = grind (arith, as_it_is, append-nil, begun_none)
