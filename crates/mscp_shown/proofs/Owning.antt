-- Each moment keeps it that a name on the wire is that of the command that waits or ended under it.
use Rattle.mscp_shown.proofs.Common.{AllByRecursion, Bool, Connection, End, List, Moment, Sent, Settings, Trace, [], answer_by, arith, command, command_of, cond, connection, connection_of, count_by, end_bytes, ends, ends_at, ends_in, every_append, every_both, every_from, every_kept, every_weaker, false, filter, is_named, length, moment_before, moment_last, name, not, one_side, queues, reference, refl, same_connection, sent_by, sent_bytes, subst, sym, takes, true, true≢false, untaken, untaken_more, waiting, waiting_below, waiting_more, ℕ, ◌++◌, ◌<◌, ◌∙◌, ◌∷◌, ◌≡◌, ◌≤◌}
use Rattle.mscp_shown.proofs.Aborted.{Aborts, aborts_append, aborts_push}
use Rattle.mscp_shown.proofs.Keeping.{keeps}
use Rattle.mscp_shown.proofs.Owners.{Fits, IsNew, IsOnly, IsOwed, IsOwn, message, only_push, same_sides, untold}
use Rattle.mscp_shown.proofs.Polling.{asked_by, poll_of, polled_says}
use Rattle.mscp_shown.proofs.Reading.{IsFit, reads}
use Rattle.mscp_shown.proofs.Saying.{sent_long, sent_says}
use Rattle.mscp_shown.proofs.Suiting.{Ends}

-- an end that suits its command keeps the rules that look at both alone
pub fits : (c : Settings) (via : Connection) (b : List ℕ) (e : End) → Ends (command_of b) e → IsFit c e
    → poll_of e ≡ asked_by (command_of b).order → Fits via e (sent_by via b)
unfolding command_of
fits c via b e h f poll =
    let a = answer_by via (end_bytes e) in
    let r = reads c via e f in
    record {
      keeps = keeps (sent_by via b) a (command_of b).order e.status e.body (sent_says via b) (sent_long via b) h.suits
          h.fine (r.unit ∙ h.unit) (r.code ∙ h.code) r.status r.body;
      poll = polled_says (command_of b).order (sent_by via b) a e.status e.body (sent_says via b) h.suits r.status
          (r.code ∙ h.code) ∙ sym poll;
    }

-- whose the names are
pub record Owners (c : Settings) (t : Trace) (xs : List Sent) : Type 0 where
  pub waits : AllByRecursion (IsOwn t xs) (waiting t)
  pub owed : (via : Connection) → AllByRecursion (IsOwed via xs) (untaken c via t)
  pub aborts : (via : Connection) → Aborts via xs (untaken c via t)

module _ (t : Trace) (m : Moment) (xs : List Sent) where
  -- the same by the moment of the command
  abbrev OwnOf : Moment → Type 0
  OwnOf n = IsOnly (connection_of n.0) (command_of (sent_bytes n.0)).reference xs
      (λ s. s ≡ sent_by (connection_of n.0) (sent_bytes n.0))

  own_before : (x : ℕ) → x < length t → IsOwn t xs x → IsOwn (t ++ m ∷ []) xs x
  unfolding command
  own_before x l h = subst OwnOf (sym (moment_before t m x l)) h

  pub own_last : OwnOf m → IsOwn (t ++ m ∷ []) xs (length t)
  unfolding command
  own_last h = subst OwnOf (sym (moment_last t m)) h

  pub waits_more : AllByRecursion (IsOwn t xs) (waiting t)
      → (queues m.1 ≡ true → IsOwn (t ++ m ∷ []) xs (length t))
      → AllByRecursion (IsOwn (t ++ m ∷ []) xs) (waiting (t ++ m ∷ []))
  waits_more h q =
      let keep : ℕ → Bool = λ x. not (ends_in (name t x) m.1) in
      let P = IsOwn (t ++ m ∷ []) xs in
      let here : (b : Bool) → queues m.1 ≡ b → AllByRecursion P (cond b (length t ∷ []) []) = λ b. elim b as
      (λ b. queues
      m.1 ≡ b → AllByRecursion P (cond b (length t ∷ []) [])) [
        | true ↦ λ e. (q e, tt)
        | false ↦ λ e. tt
      ] in
      subst (AllByRecursion P) (sym (waiting_more t m))
      (every_append P (filter keep (waiting t)) (cond (queues m.1) (length t ∷ []) [])
      (every_kept P keep (waiting t)
      (every_weaker (λ x. (x < length t) × IsOwn t xs x) P (λ x k. own_before x k.0 k.1) (waiting t)
      (every_both (λ x. x < length t) (IsOwn t xs) (waiting t) (waiting_below t) h)))
      (here (queues m.1) refl))

module _ (c : Settings) (t : Trace) (m : Moment) (xs : List Sent)
    (room : (via : Connection) → count_by (λ (n : Moment). takes via n.1) t ≤ length (ends c via t)) where
  -- a moment that takes nothing
  pub owners_more : ((via : Connection) → takes via m.1 ≡ false) → AllByRecursion (IsOwn t xs) (waiting t)
      → (queues m.1 ≡ true → IsOwn (t ++ m ∷ []) xs (length t))
      → ((via : Connection) → AllByRecursion (IsOwed via xs) (untaken c via t))
      → ((via : Connection) → AllByRecursion (IsOwed via xs) (ends_at c via t m))
      → ((via : Connection) → Aborts via xs (untaken c via t))
      → ((via : Connection) → Aborts via xs (ends_at c via t m)) → Owners c (t ++ m ∷ []) xs
  owners_more n waits q owed new aborts more = record {
    waits = waits_more t m xs waits q;
    owed = λ via. subst (AllByRecursion (IsOwed via xs)) (sym (untaken_more c via t m (n via) (room via)))
        (every_append (IsOwed via xs) (untaken c via t) (ends_at c via t m) (owed via) (new via));
    aborts = λ via. subst (Aborts via xs) (sym (untaken_more c via t m (n via) (room via)))
        (aborts_append via xs (untaken c via t) (ends_at c via t m) (aborts via) (more via));
  }

-- ---- a message
module _ (c : Settings) (own : Connection) (t : Trace) (xs : List Sent) (b : List ℕ)
    (new : IsNew c own t xs (sent_by own b)) (h : Owners c t xs) where
  abbrev pub longer : List Sent
  longer = xs ++ sent_by own b ∷ []

  pub still_own : AllByRecursion (IsOwn t longer) (waiting t)
  still_own = every_weaker
      (λ x. IsOwn t xs x × (is_named (connection t x) (reference t x) (sent_by own b) ≡ false))
      (IsOwn t longer)
      (λ x k. only_push (connection t x) (reference t x) xs (sent_by own b) (λ s. s ≡ message t x) k.0
      (λ e. absurd (true≢false (sym e ∙ k.1))))
      (waiting t)
      (every_both (IsOwn t xs) (λ x. is_named (connection t x) (reference t x) (sent_by own b) ≡ false) (waiting t)
      h.waits new.waits)

  -- an end of the other connection has no such name
  other_named : (via : Connection) (n : ℕ) → same_connection own via ≡ false
      → is_named via n (sent_by own b) ≡ false
  other_named via n e = search (arith, same_sides)

  owed_on : (via : Connection) (e : End) → IsOwed via xs e → is_named via e.reference (sent_by own b) ≡ false
      → IsOwed via longer e
  owed_on via e k n = only_push via e.reference xs (sent_by own b) (Fits via e) k (λ q. absurd (true≢false (sym q ∙ n)))

  -- no end that wasn't taken has its name
  pub new_ends : (via : Connection) → AllByRecursion (λ (e : End). is_named via e.reference (sent_by own b) ≡ false)
      (untaken c via t)
  new_ends via =
      let P : Bool → Type 0 = λ s. same_connection own via ≡ s
      → AllByRecursion (λ (e : End). is_named via e.reference (sent_by own b) ≡ false) (untaken c via t) in
      elim (same_connection own via) as P [
        | true ↦ λ e. rw (← one_side own via e) new.ended
        | false ↦ λ e. every_from (λ (k : End). is_named via k.reference (sent_by own b) ≡ false)
            (λ k. other_named via k.reference e) (untaken c via t)
      ] refl

  pub still_owed : (via : Connection) → AllByRecursion (IsOwed via longer) (untaken c via t)
  still_owed via =
      every_weaker (λ (e : End). IsOwed via xs e × (is_named via e.reference (sent_by own b) ≡ false))
      (IsOwed via longer)
      (λ e k. owed_on via e k.0 k.1) (untaken c via t)
      (every_both (IsOwed via xs) (λ (e : End). is_named via e.reference (sent_by own b) ≡ false) (untaken c via t)
      (h.owed via) (new_ends via))

  pub still_aborts : (via : Connection) → Aborts via longer (untaken c via t)
  still_aborts via = aborts_push via xs (sent_by own b) (untaken c via t) (new_ends via) (h.aborts via)

  -- a command under a new number
  pub only_new : (P : Sent → Type 0) → P (sent_by own b)
      → IsOnly own (sent_by own b).reference longer P
  only_new P h' = only_push own (sent_by own b).reference xs (sent_by own b) P
      (every_weaker (λ s. is_named own (sent_by own b).reference s ≡ false)
      (λ s. is_named own (sent_by own b).reference s ≡ true → P (untold s))
      (λ s n e. absurd (true≢false (sym e ∙ n))) xs new.outstanding)
      (λ e. h')
