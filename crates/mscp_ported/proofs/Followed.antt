-- Behind the end of a command that was aborted waits that of its ABORT, whose message came later.
use Rattle.mscp_ported.proofs.Common.{Bool, Command, Drive, End, First, Holdings, List, None, Option, Order, Record, Settings, Some, Verdict, [], aborted_record, answered_end, ap, arith, block_told, command_of, cond, end_given, eq-eqb, eqb-true, false, false≢true, filter, find, found_is, handed, has_number, inl, inr, is_queued, length, list_any, nat_eq, none-some, not, num, option_map, option_to_list, record_aborted, refl, subst, sym, true, ℕ, ◌++◌, ◌||◌, ◌∙◌, ◌∷◌, ◌≡◌, ◌⊎◌}
use Rattle.mscp_ported.proofs.Kept.{is_numbered, number_of}
use Rattle.std.specs.Prelude.{◌≤◌}
use Rattle.mscp_packet.specs.declared.command.Order.TheVariants as orders
use Rattle.mscp_controller.specs.Outcomes.{own_end}
use Rattle.mscp_ported.proofs.Behind.{aborts_behind, aborts_come, aborts_left, aborts_more, any_more, any_none, handed_abort, is_abort, is_abort_of}
use Rattle.mscp_ported.proofs.Numbered.{AtEach, ends_numbered, first_of_one, none_beside, none_found, other_number, some_none}
use Rattle.mscp_ported.proofs.Sole.{sole_left}

-- ---- the ends

-- an end is a reply to its message
pub record IsReply (e : End) : Type 0 where
  pub settings : Settings
  pub online : Bool
  pub figure : ℕ
  pub text : List ℕ
  pub immediate : is_queued settings (command_of text) ≡ false
  pub is : e ≡ own_end settings online figure (command_of text)

-- or came by a step
pub record IsStepped (Told : Verdict → Record → Type 0) (e : End) : Type 0 where
  pub own : Record
  pub drive : Drive
  pub verdict : Verdict
  pub told : Told verdict own
  pub is : end_given (block_told verdict) drive own ≡ Some e

-- or that of its ABORT waits behind it
pub record IsBehind (aw : List (List ℕ)) (e : End) (es : List End) : Type 0 where
  pub number : ℕ
  pub end : list_any (ends_numbered number) es ≡ true
  pub message : aborts_behind e.reference number aw ≡ true

abbrev pub IsFollowed : (Verdict → Record → Type 0) → List (List ℕ) → End → List End → Type 0
IsFollowed Told aw e es = IsReply e ⊎ IsStepped Told e
    ⊎ ((t : List ℕ) → filter (has_number e.reference) aw ≡ t ∷ [] → IsBehind aw e es)

abbrev pub AreFollowed : (Verdict → Record → Type 0) → List (List ℕ) → List End → Type 0
AreFollowed Told aw [] = Unit {0}
AreFollowed Told aw (e ∷ es) = IsFollowed Told aw e es × AreFollowed Told aw es

module _ (Told : Verdict → Record → Type 0) (aw : List (List ℕ)) where
  pub followed_forgotten : (es : List End) → AreFollowed Told aw es → AreFollowed Told [] es
  followed_forgotten [] all = tt
  followed_forgotten (e ∷ es) all = (one all.0, followed_forgotten es all.1)
    where
      one : IsFollowed Told aw e es → IsFollowed Told [] e es
      one h = grind (arith, some_none)

  pub followed_more : (es fs : List End) → AreFollowed Told aw es → AreFollowed Told aw fs
      → AreFollowed Told aw (es ++ fs)
  followed_more [] fs all behind = behind
  followed_more (e ∷ es) fs all behind = grind (arith, followed_more es fs all.1 behind, any_more, ends_numbered)

  -- a message comes
  pub followed_beside : (t : List ℕ) (es : List End) → filter (ends_numbered (num t 0 4)) es ≡ []
      → AreFollowed Told aw es → AreFollowed Told (aw ++ t ∷ []) es
  followed_beside t [] none all = tt
  followed_beside t (e ∷ es) none all =
      grind (arith, followed_beside t es, nat_eq, ends_numbered, some_none, eq-eqb, eqb-true, none_beside, aborts_more)

  -- the end of a number is taken, of which no other is
  pub followed_left : (k : ℕ) (es : List End) → filter (ends_numbered k) es ≡ [] → AreFollowed Told aw es
      → AreFollowed Told (filter (λ t. not (has_number k t)) aw) es
  followed_left k [] none all = tt
  followed_left k (e ∷ es) none all = by (nat_eq e.reference k) refl none all.0
      (λ h. followed_left k es h all.1)
    where
      by : (b : Bool) → nat_eq e.reference k ≡ b
          → cond b (e ∷ filter (ends_numbered k) es) (filter (ends_numbered k) es) ≡ []
          → IsFollowed Told aw e es
          → (filter (ends_numbered k) es ≡ [] → AreFollowed Told (filter (λ t. not (has_number k t)) aw) es)
          → AreFollowed Told (filter (λ t. not (has_number k t)) aw) (e ∷ es)
      by true is h x rest = absurd (some_none e (filter (ends_numbered k) es) h)
      by false is h x rest = (one x, rest h)
        where
          turned : (a : ℕ) (b : Bool) → nat_eq k a ≡ b → (nat_eq a k ≡ true → ⊥) → b ≡ false
          turned a true x never = absurd (never (eq-eqb a k (sym (eqb-true k a x))))
          turned a false x never = refl

          apart : nat_eq k e.reference ≡ false
          apart = turned e.reference (nat_eq k e.reference) refl (λ x. false≢true (sym is ∙ x))

          one : IsFollowed Told aw e es → IsFollowed Told (filter (λ t. not (has_number k t)) aw) e es
          one (inl x) = inl x
          one (inr (inl x)) = inr (inl x)
          one (inr (inr f)) = inr (inr (λ u only.
              let b = f u (sym (sole_left (has_number e.reference) (λ t. not (has_number k t)) aw
              (λ t. other_number e.reference k apart (num t 0 4))) ∙ only) in
              let other : nat_eq k b.number ≡ false =
              turned b.number (nat_eq k b.number) refl (λ x. any_none (ends_numbered k) es h
              (subst (λ j. list_any (ends_numbered j) es ≡ true) (eqb-true b.number k x) b.end)) in
              record {
                number = b.number;
                end = b.end;
                message = aborts_left e.reference b.number k apart other aw b.message;
              }))

-- ---- what comes as a message is answered

-- no other end has the number of one that waits
pub none_else : (aw : List (List ℕ)) (rs : List Record) (e : End) (es : List End) → AtEach aw rs (e ∷ es)
    → filter (ends_numbered e.reference) es ≡ []
none_else aw rs e es at = grind (arith, ends_numbered, eq-eqb, some_none, first_of_one)

module _ (Told : Verdict → Record → Type 0) {K : Type 0} (h : Holdings K) (aw : List (List ℕ)) (bytes : List ℕ)
    (long : 12 ≤ length bytes) (immediate : is_queued h.settings (command_of (handed h.settings.units bytes)) ≡ false)
    (named : (answered_end First h (command_of (handed h.settings.units bytes))).reference ≡ num bytes 0 4)
    (none : filter (is_numbered (num bytes 0 4)) h.waiting ≡ []) where
  abbrev command : Command
  command = command_of (handed h.settings.units bytes)

  abbrev own : End
  own = answered_end First h command

  reply : IsFollowed Told (aw ++ bytes ∷ []) own []
  reply = grind arith

  behind : (m : ℕ) (x : Record) → command.order ≡ orders.Abort m → find (is_numbered m) h.waiting ≡ Some x
      → IsFollowed Told (aw ++ bytes ∷ []) (aborted_record x) (own ∷ [])
  behind m x order found = inr (inr (λ t only. record {
    number = own.reference;
    end = ap (λ b. b || false) (eq-eqb own.reference own.reference refl);
    message = subst (λ j. aborts_behind x.command.reference j (aw ++ bytes ∷ []) ≡ true) (sym named)
        (aborts_come x.command.reference (num bytes 0 4) aw t bytes
        (sym (none_beside (has_number x.command.reference) aw bytes apart) ∙ only)
        (subst (λ j. is_abort j (num bytes 0 4) bytes ≡ true) (sym number)
        (is_abort_of m bytes (handed_abort h.settings.units bytes m long order))));
  }))
    where
      number : x.command.reference ≡ m
      number = (number_of m x (found_is (is_numbered m) h.waiting x found)).1

      apart : nat_eq (num bytes 0 4) x.command.reference ≡ false
      apart = grind (arith, nat_eq, none-some, none_found, is_numbered, eqb-true, number)

  pub answers_follow : AreFollowed Told (aw ++ bytes ∷ [])
      (option_to_list (option_map aborted_record (record_aborted First h.waiting command.order)) ++ own ∷ [])
  answers_follow = by command.order refl
    where
      found_or : (m : ℕ) → command.order ≡ orders.Abort m → (o : Option Record) → find (is_numbered m) h.waiting ≡ o
          → AreFollowed Told (aw ++ bytes ∷ []) (option_to_list (option_map aborted_record o) ++ own ∷ [])
      found_or m order None found = (reply, tt)
      found_or m order (Some x) found = (behind m x order found, (reply, tt))

      by : (order : Order) → command.order ≡ order → AreFollowed Told (aw ++ bytes ∷ [])
          (option_to_list (option_map aborted_record (record_aborted First h.waiting order)) ++ own ∷ [])
      by (orders.Abort m) order = found_or m order (find (is_numbered m) h.waiting) refl
      by other order = (reply, tt)
