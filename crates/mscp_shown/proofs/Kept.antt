-- What holds after each part of a legal trace, and what a moment has to keep of it.
use Rattle.mscp_shown.proofs.Common.{All-from_recursion, AllByRecursion, Bool, Command, Connection, End, History, Identity, IsRight, Known, List, Moment, None, Option, Settings, Some, Told, Trace, Wired, [], aborted_reference, ap, append-nil, arith, command, each_push, ends, ends_at, ends_in, every_from, false, false≢true, get_or, is_queued, length, name, not, queues, same_connection, shown, shown_by, subst, sym, taken_when, takes, told, told_after, told_push, true, true≢false, unit_shape, untaken, waiting, waiting_by, ℕ, ◌++◌, ◌+◌, ◌<◌, ◌∙◌, ◌∷◌, ◌≡◌}
use Rattle.mscp_controller.specs.declared.entry.Sent.{Sent}
use Rattle.mscp_wire.specs.Wire as wire
use Rattle.mscp_wire.specs.declared.moment.Moment.TheVariants as moments
use Rattle.mscp_shown.proofs.Strict as strict
use Rattle.mscp_shown.proofs.Strict.{AreRight, after, after_end, outstanding}
use Rattle.mscp_shown.proofs.Messages.{HasRoom}
use Rattle.mscp_shown.proofs.Identity.{AreTold, IsOf}
use Rattle.mscp_shown.proofs.Aborted.{Aborts}
use Rattle.mscp_shown.proofs.Owed.{came, owed, owed_more, quiet}
use Rattle.mscp_shown.proofs.Making.{IsEven}
use Rattle.mscp_shown.proofs.Owners.{IsOwed}
use Rattle.mscp_shown.proofs.Owning.{Owners, owners_more}
use Rattle.mscp_shown.proofs.Reading.{IsFit}
use Rattle.mscp_shown.proofs.Shown.{after_more, shown_more, tally}
use Rattle.mscp_shown.proofs.Listening.{Heard, heard_still}
use Rattle.mscp_shown.proofs.Polling.{poll_of}
use Rattle.mscp_shown.proofs.Ordering.{Ordered}
use Rattle.mscp_shown.proofs.Staying.{orders_still}
use Rattle.mscp_shown.proofs.Waiting.{Orders}

-- what holds after each part of a legal trace
pub record Inv (c : Settings) (t : Trace) : Type 0 where
  pub tallied : (via : Connection) (p : ℕ → Bool) → tally via p (outstanding (shown t)) ≡ owed c via t p
  pub owners : Owners c t (outstanding (shown t))
  pub orders : Orders c t (outstanding (shown t))
  pub heard : Heard c t (outstanding (shown t))
  pub queued : AllByRecursion (λ x. is_queued c (command t x) ≡ true) (waiting t)
  pub even : AllByRecursion (IsEven t) (waiting t)
  pub fit : (via : Connection) → AllByRecursion (IsFit c) (ends c via t)
  pub units : AreTold c (shown t)
  pub kept : (credits : Option ℕ) → HasRoom credits c → AreRight credits (shown t)

-- what a moment keeps, before which this holds
pub record More (c : Settings) (t : Trace) (m : Moment) : Type 0 where
  pub tallied : (via : Connection) (p : ℕ → Bool)
      → tally via p (outstanding (shown (t ++ m ∷ []))) ≡ owed c via (t ++ m ∷ []) p
  pub owners : Owners c (t ++ m ∷ []) (outstanding (shown (t ++ m ∷ [])))
  pub orders : Orders c (t ++ m ∷ []) (outstanding (shown (t ++ m ∷ [])))
  pub heard : Heard c (t ++ m ∷ []) (outstanding (shown (t ++ m ∷ [])))
  pub fit : (via : Connection) → AllByRecursion (IsFit c) (ends_at c via t m)
  pub units : AreTold c (shown (t ++ m ∷ []))
  pub kept : (credits : Option ℕ) → HasRoom credits c → AreRight credits (shown (t ++ m ∷ []))

pub none_more : (n : ℕ) → 0 + n ≡ n
none_more n = omega arith

pub same_sides : (a b : Connection) → wire.same_connection a b ≡ same_connection a b
same_sides a b = grind arith

pub every_at : {X : Type 0} (P : X → Type 0) (xs : List X) → AllByRecursion P xs → (i : ℕ) (d : X) → i < length xs
    → P (get_or xs i d)
every_at P xs h i d l = All-from_recursion P xs h i d l

-- ---- what is shown
is_answer : Sent → Bool
is_answer (Sent.Queued r) = false
is_answer (Sent.Answered r a) = true

aborted_of : Sent → Option ℕ
aborted_of (Sent.Queued r) = None
aborted_of (Sent.Answered r a) = a

pub taken_as_answer : (c : Settings) (via : Connection) (t : Trace) (command : Command) (q : Bool) (r : ℕ)
    (a : Option ℕ)
    → Sent.Answered r a ≡ taken_when c via t command q → a ≡ aborted_reference c via t command
unfolding is_answer aborted_of
taken_as_answer c via t command q r a h = grind (arith, true≢false, is_answer, aborted_of)

pub isnt_queued : (c : Settings) (via : Connection) (t : Trace) (command : Command) (q : Bool) (r : ℕ) (a : Option ℕ)
    → Sent.Answered r a ≡ taken_when c via t command q → q ≡ false
unfolding is_answer
isnt_queued c via t command q r a h = grind arith

kept_more : (credits : Option ℕ) (h : History) (m : Wired) → AreRight credits h → strict.IsRight credits h m
    → AreRight credits (h ++ m ∷ [])
kept_more credits h m all last = each_push moments.Reset (strict.IsRight credits) h m all last

module _ (c : Settings) (t : Trace) (m : Moment) (h : Inv c t) where
  -- a moment that shows nothing
  pub shows_none : shown_by m.0 m.1 ≡ [] → ((via : Connection) (p : ℕ → Bool) → owed c via
      (t ++ m ∷ []) p ≡ owed c via t p)
      → Owners c (t ++ m ∷ []) (outstanding (shown t)) → Orders c (t ++ m ∷ []) (outstanding (shown t))
      → Heard c (t ++ m ∷ []) (outstanding (shown t))
      → ((via : Connection) → AllByRecursion (IsFit c) (ends_at c via t m)) → More c t m
  shows_none e same owners orders heard fit =
      let is : shown (t ++ m ∷ []) ≡ shown t = shown_more t m ∙ ap (λ w. shown t ++ w) e ∙ append-nil (shown t) in
      record {
        tallied = λ via p. ap (λ w. tally via p (outstanding w)) is ∙ h.tallied via p ∙ sym (same via p);
        owners = subst (λ w. Owners c (t ++ m ∷ []) (outstanding w)) (sym is) owners;
        orders = subst (λ w. Orders c (t ++ m ∷ []) (outstanding w)) (sym is) orders;
        heard = subst (λ w. Heard c (t ++ m ∷ []) (outstanding w)) (sym is) heard;
        fit = fit;
        units = subst (AreTold c) (sym is) h.units;
        kept = λ credits covers. subst (AreRight credits) (sym is) (h.kept credits covers);
      }

  -- a moment that shows this
  pub shows_one : (w : Wired) → shown_by m.0 m.1 ≡ w ∷ []
      → ((via : Connection) (p : ℕ → Bool)
      → tally via p (after (outstanding (shown t)) w) ≡ owed c via (t ++ m ∷ []) p)
      → ((credits : Option ℕ) → HasRoom credits c → strict.IsRight credits (shown t) w)
      → Owners c (t ++ m ∷ []) (after (outstanding (shown t)) w)
      → Orders c (t ++ m ∷ []) (after (outstanding (shown t)) w)
      → Heard c (t ++ m ∷ []) (after (outstanding (shown t)) w)
      → ((via : Connection) → AllByRecursion (IsFit c) (ends_at c via t m))
      → ((via : Connection) (unit : ℕ) (i : Identity)
      → (told_after (wire.outstanding (shown t)) via unit (told (shown t) via unit) w).identity ≡ Some i
      → IsOf (unit_shape c unit) i)
      → More c t m
  shows_one w e same right owners orders heard fit units =
      let is : shown (t ++ m ∷ []) ≡ shown t ++ w ∷ [] = shown_more t m ∙ ap (λ l. shown t ++ l) e in
      let there : outstanding (shown (t ++ m ∷ [])) ≡ after (outstanding (shown t)) w =
      ap outstanding is ∙ after_more (shown t) w in
      record {
        tallied = λ via p. ap (tally via p) there ∙ same via p;
        owners = subst (Owners c (t ++ m ∷ [])) (sym there) owners;
        orders = subst (Orders c (t ++ m ∷ [])) (sym there) orders;
        heard = subst (Heard c (t ++ m ∷ [])) (sym there) heard;
        fit = fit;
        units = subst (AreTold c) (sym is)
            (λ via unit i k. units via unit i
            (ap (λ (z : Told). z.identity) (sym (told_push (shown t) w via unit)) ∙ k));
        kept = λ credits covers. subst (AreRight credits) (sym is)
            (kept_more credits (shown t) w (h.kept credits covers) (right credits covers));
      }

  -- one that ends nobody and queues nobody changes nothing of a connection
  pub still : Known c t → (via : Connection) (p : ℕ → Bool) → takes via m.1 ≡ false → came c via t m p ≡ 0
      → AllByRecursion (λ x. not (ends_in (name t x) m.1) ≡ true) (waiting_by via t) → ends_at c via t m ≡ []
      → owed c via (t ++ m ∷ []) p ≡ owed c via t p
  still k via p q n all e =
      let more = owed_more c via t m p 0 q (k.room.taken via) (quiet c via t m p all e) in
      omega (arith, more, n)

  pub stills : Known c t → IsRight c t m.0 m.1 → shown_by m.0 m.1 ≡ []
      → ((via : Connection) (p : ℕ → Bool) → (takes via m.1 ≡ false) × (came c via t m p ≡ 0))
      → ((n : ℕ) → not (ends_in (name t n) m.1) ≡ true) → queues m.1 ≡ false
      → ((via : Connection) → ends_at c via t m ≡ []) → More c t m
  stills k r e q stay n none =
      let xs = outstanding (shown t) in
      shows_none e
      (λ via p. still k via p (q via p).0 (q via p).1
      (every_from (λ x. not (ends_in (name t x) m.1) ≡ true) stay (waiting_by via t)) (none via))
      (owners_more c t m xs (λ via. k.room.taken via) (λ via. (q via (λ n. true)).0) h.owners.waits
      (λ e. absurd (false≢true (sym n ∙ e))) h.owners.owed
      (λ via. subst (AllByRecursion (IsOwed via xs)) (sym (none via)) tt)
      h.owners.aborts (λ via. subst (Aborts via xs) (sym (none via)) tt))
      (orders_still c t m xs k.steady.apart (λ via. k.room.taken via) r n (λ via. (q via (λ n. true)).0)
      (λ via. subst (Ordered via xs (untaken c via t)) (sym (none via)) tt) h.orders)
      (heard_still c t m xs (λ via. k.room.taken via) (λ via. (q via (λ n. true)).0) n
      (λ via. subst (AllByRecursion (λ (e : End). poll_of e ≡ None)) (sym (none via)) tt) h.heard)
      (λ via. subst (AllByRecursion (IsFit c)) (sym (none via)) tt)
