-- The answer to a poll has one end, which tells the figure of the command that the poll is about.
use Rattle.mscp_shown.proofs.Common.{AllByRecursion, Bool, Command, Connection, End, List, None, Option, Order, Sent, Settings, Some, Trace, [], aborted, aborted_end, aborted_unless, answer, ap, command, command_of, every_append, false, fault_of, figure_asked, figure_of, good, is_online, is_queued, map, name_on, own_end, refl, sent_by, ℕ, ◌++◌, ◌∙◌, ◌∷◌, ◌≡◌}
use Rattle.mscp_packet.specs.declared.command.Order.TheVariants as orders
use Rattle.mscp_shown.proofs.Making.{Facts, aborted_silent}
use Rattle.mscp_shown.proofs.Owners.{IsNew}
use Rattle.mscp_shown.proofs.Owning.{Owners}
use Rattle.mscp_shown.proofs.Polling.{asked_by, figure_told, own_polls, poll_of}
use Rattle.mscp_shown.proofs.Saying.{sent_says}

pub asked_order : (o : Order) (n : ℕ) → asked_by o ≡ Some n → o ≡ orders.Status n
asked_order (orders.Status other) n h = ap (some_order (orders.Status other)) h
  where
    some_order : Order → Option ℕ → Order
    some_order d None = d
    some_order d (Some other) = orders.Status other
asked_order order n h = cc

aborts_none : (own : Connection) (t : Trace) (n : ℕ) (f : Option ℕ) → aborted_unless own t (orders.Status n) f ≡ []
aborts_none own t n None = refl
aborts_none own t n (Some fault) = refl

figure_own : (c : Settings) (online : Bool) (figure reference unit n : ℕ)
    → figure_told (own_end c online figure (record { reference = reference; unit = unit; order = orders.Status n }))
    ≡ figure
figure_own c online figure reference unit n = refl

figure_with : (c : Settings) (online : Bool) (figure : ℕ) (k : Command) (n : ℕ) → k.order ≡ orders.Status n
    → figure_told (own_end c online figure k) ≡ figure
figure_with c online figure k n h = rw h (figure_own c online figure k.reference k.unit n)

module _ (c : Settings) (own : Connection) (t : Trace) (b : List ℕ) where
  -- the end of its own
  abbrev pub its_end : End
  its_end = own_end c (is_online t (command_of b).unit) (figure_asked c own t (command_of b).order) (command_of b)

  pub poll_answer : (n : ℕ) → (command_of b).order ≡ orders.Status n → answer c own t b ≡ its_end ∷ []
  unfolding answer
  poll_answer n h =
      let k = command_of b in
      let none : aborted c own t k ≡ [] =
      ap (λ o. aborted_unless own t o (fault_of c k)) h ∙ aborts_none own t n (fault_of c k) in
      ap (λ xs. map (λ x. aborted_end (command t x) (good t x)) xs ++ its_end ∷ []) none

  pub poll_figure : (n : ℕ) → (command_of b).order ≡ orders.Status n
      → figure_told its_end ≡ figure_of c t (name_on own n)
  poll_figure n h =
      figure_with c (is_online t (command_of b).unit) (figure_asked c own t (command_of b).order) (command_of b) n h
      ∙ ap (figure_asked c own t) h

  pub poll_about : is_queued c (command_of b) ≡ false → poll_of its_end ≡ asked_by (command_of b).order
  poll_about q = own_polls c (is_online t (command_of b).unit) (figure_asked c own t (command_of b).order)
      (command_of b)
      (sent_by own b) q (sent_says own b)

  pub silent_answer : (xs : List Sent) → IsNew c own t xs (sent_by own b) → Owners c t xs → Facts c t
      → poll_of its_end ≡ None → AllByRecursion (λ (e : End). poll_of e ≡ None) (answer c own t b)
  unfolding answer
  silent_answer xs new owners facts n =
      every_append (λ (e : End). poll_of e ≡ None)
      (map (λ x. aborted_end (command t x) (good t x)) (aborted c own t (command_of b))) (its_end ∷ [])
      (aborted_silent c own t xs b new owners facts) (n, tt)
