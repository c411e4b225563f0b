-- What is known of the figures of a port's log, over a whole list of calls.
use Rattle.mscp_logged.proofs.Common.{All, AllByRecursion, Answered, AsksAlways, Bool, Call, Deals, First, History, HoldsAwaited, HostIsRight, IsAnswering, IsCodeFor, IsServedSince, IsTaking, List, None, Option, Outgoing, OutgoingKind, PassesOn, Picking, Port, PortsEndWhatTheyTook, PortsHoldWhatIsAwaited, PortsLowerFigures, PortsPassEndsOn, PortsTellInOrder, ReadsBytes, Sent, ServesBetweenPolls, Some, TakesPoll, TellsStep, WriteIp, [], accepted_by, ap, append-nil, append_assoc, arith, asked_before, asking, awaited, begins, begun_one, cond, end_kind, end_of, end_said, ends_in, ends_said_by, false, figure_on, filter, flat_map, four_in, has_number, held, inl, inr, is_foreign, leaves, list_any, logged, map, message_of, messages_by, nat_eq, none_beside, num, option_to_list, outstanding, own_answer, pending_held, pending_in, pending_said, refl, said_in, sent_by, slice_index, subst, sym, taken_by, timed, timeout, true, volume_named, ℕ, ◌++◌, ◌<◌, ◌∙◌, ◌∷◌, ◌≡◌, ◌≢◌, ◌≤◌, ◌⊎◌}
use Rattle.mscp_logged.proofs.Begun.{Begun, same_held}
use Rattle.mscp_port.specs.declared.port.OutgoingKind.TheVariants as kinds
use Rattle.mscp_logged.proofs.Figuring.{coming, ending_lowers, lowers_by, not_poll, plain_figured, poll_figured, quiet_lowers, same_figured}
use Rattle.mscp_logged.proofs.Figures.{Figured, apart_from, begun_of, end_figured, figured_as, four_is, goes_on, message_comes, no_step, out_of, takes_poll}
use Rattle.mscp_logged.proofs.Logging.{small_of}
use Rattle.mscp_logged.proofs.Own.{IsOwn, answers_so, of_disk, own_named}
use Rattle.mscp_logged.proofs.Polled.{IsFigured, Lowers, figure_of}
use Rattle.mscp_logged.proofs.Seen.{reads_before}
use Rattle.mscp_logged.proofs.Walking.{IsCall, awaited_is, host_before, is_new_now, log_is, none_by, walk}
use Rattle.mscp_logged.proofs.Stated.{Stated, as_it_is, takes, new_none}
use Rattle.mscp_logged.proofs.Wired.{named, outstanding_more}

-- ---- calls

module _ {K : Type 0} (Tie : List ℕ → List ℕ → Type 0) (G O : Type 0) (code_of : (text message : List ℕ)
    → Tie text message → IsCodeFor (slice_index text 8) message) {picks : Picking K} (run : Begun picks)
    (ends : PortsEndWhatTheyTook picks run.picker) (tell : PortsTellInOrder picks)
    (holds : PortsHoldWhatIsAwaited picks run.picker) (passes : PortsPassEndsOn picks run.picker)
    (lowers : PortsLowerFigures picks run.picker) (sizes : All (λ unit. 0 < unit.size) run.c.units)
    (limit : Option ℕ) where
  open run use {c, valid, before, hardware, credits, controller, start, was, made, quiet}

  abbrev pub Known : (p : Port K) (calls : List Call) → Answered picks start calls p → Type 0
  Known p calls a =
      Figured (logged picks start p calls a) (coming p) (figure_on p) (IsServedSince picks start p calls a)

  nothing_known : (p : Port K) (calls : List Call) (a : Answered picks start calls p)
      → logged picks start p calls a ≡ [] → Known p calls a
  nothing_known p calls a none = grind arith

  served_or : (p : Port K) (call : Call) (calls : List Call) (a : Answered picks start (call ∷ calls) p) (n : ℕ)
      → call ≢ WriteIp → IsServedSince picks start p (call ∷ calls) a n
      → TellsStep call a.0 ⊎ ((TakesPoll n call a.0 → ⊥) × IsServedSince picks start a.0 calls a.1 n)
  served_or p WriteIp calls a n never s = absurd (never refl)
  served_or p call calls a n never s = s

  module _ (p : Port K) (call : Call) (calls : List Call) (a : Answered picks start (call ∷ calls) p)
      (is : IsCall picks start p call calls a) (s : Stated Tie G O (logged picks start a.0 calls a.1)
      (awaited picks start a.0 calls a.1) (held a.0)) (host : HostIsRight limit (logged picks start p (call ∷ calls) a))
      (serves : (n : ℕ) → TakesPoll n call a.0 → 1 ≤ figure_on a.0 n → IsServedSince picks start a.0 calls a.1 n)
      (f : Known a.0 calls a.1) where
    abbrev h : History
    h = logged picks start a.0 calls a.1

    abbrev xs : List Sent
    xs = outstanding (logged picks start a.0 calls a.1)

    abbrev aw : List (List ℕ)
    aw = awaited picks start a.0 calls a.1

    abbrev aw' : List (List ℕ)
    aw' = awaited picks start p (call ∷ calls) a

    abbrev S : ℕ → Type 0
    S = IsServedSince picks start a.0 calls a.1

    abbrev S' : ℕ → Type 0
    S' = IsServedSince picks start p (call ∷ calls) a

    passing : PassesOn call a.0 p
    passing = passes c before controller hardware credits start p call calls valid sizes was quiet made is.asks
        is.reads a is.never is.lives

    was_held : (n : ℕ) → HoldsAwaited a.0 aw n
    was_held n = holds c before controller hardware credits start a.0 calls valid was quiet made
        (reads_before call calls is.reads) a.1 n

    is_held : (n : ℕ) → HoldsAwaited p aw' n
    is_held n = holds c before controller hardware credits start p (call ∷ calls) valid was quiet made is.reads a n

    falls : (n : ℕ) → 1 ≤ figure_on a.0 n → (figure_on p n ≤ figure_on a.0 n)
        × (S' n → S n ⊎ (figure_on p n < figure_on a.0 n))
    falls n some =
        let low = lowers c before controller hardware credits start p call calls valid was made is.asks a n in (
          low.never_rises some,
          λ x. elim (served_or p call calls a n is.never x) [
            | inl step ↦ inr (low.falls some step)
            | inr y ↦ inl y.1
          ],
        )

    abbrev Mid : History → Type 0
    Mid ms = Figured (h ++ ms) (coming a.0 ++ passing.more) (figure_on p) S'

    -- nothing begins to go out, or something does
    calm : (ms : History) (ts : List (List ℕ)) → messages_by call a.0 ≡ ms → begins a.0.outgoing p.outgoing ≡ []
        → Stated Tie G O (h ++ ms) ts (held a.0) → Mid ms → Known p (call ∷ calls) a
    calm ms ts e none s1 mid = by a.0.outgoing p.outgoing refl refl passing.behind none s1 mid
      where
        to_log : (x y : Option Outgoing) → a.0.outgoing ≡ x → p.outgoing ≡ y
            → Figured ((h ++ ms) ++ flat_map ends_in (leaves x y)) (out_of y ++ pending_held p) (figure_on p) S'
            → Known p (call ∷ calls) a
        to_log x y was_out is_out g = grind (arith, figured_as, log_is is)

        leaving : (o : Outgoing) (k : OutgoingKind) → o.kind ≡ k
            → Stated Tie G O (h ++ ms) ts (map said_in (option_to_list (Some o)))
            → Figured (h ++ ms) ((pending_said k o.bytes.items ++ []) ++ pending_held p) (figure_on p) S'
            → Figured ((h ++ ms) ++ (map end_of (end_said k o.bytes.items) ++ [])) (pending_held p) (figure_on p) S'
        leaving o kinds.End is s1 g = end_figured Tie code_of (h ++ ms) ts (figure_on p) S' (pending_held p) (said_in o)
            is s1.wired g
        leaving o kind is s1 g = grind (arith, figured_as, append-nil)

        by : (x y : Option Outgoing) → a.0.outgoing ≡ x → p.outgoing ≡ y
            → begun_of a.0.outgoing p.outgoing ++ pending_held p ≡ pending_held a.0 ++ passing.more
            → begins a.0.outgoing p.outgoing ≡ [] → Stated Tie G O (h ++ ms) ts (held a.0) → Mid ms
            → Known p (call ∷ calls) a
        by (Some o) (Some x) was_out is_out b none s1 mid = to_log (Some o) (Some x) was_out is_out
            (figured_as (h ++ ms) ((h ++ ms) ++ []) (coming a.0 ++ passing.more) (out_of (Some x) ++ pending_held p)
            (figure_on p) S' (append-nil (h ++ ms))
            (goes_on (said_in o) (said_in x) (pending_held a.0) (pending_held p) passing.more
            (same_held run tell p call calls is.asks a is.never is.lives o x was_out is_out)
            (ap (λ os. flat_map pending_in (map said_in os) ++ pending_held p) (sym none) ∙ b)
            ∙ ap (λ z. (out_of z ++ pending_held a.0) ++ passing.more) (sym was_out)) mid)
        by (Some o) None was_out is_out b none s1 mid =
            grind (arith, to_log, leaving, figured_as, passing, append_assoc)
        by x y was_out is_out b none s1 mid = grind (arith, to_log, figured_as, passing, append-nil)

    begun : (ms : History) (o : Outgoing) → messages_by call a.0 ≡ ms → a.0.outgoing ≡ None → p.outgoing ≡ Some o
        → Mid ms → Known p (call ∷ calls) a
    begun ms o e nothing some mid = grind (arith, figured_as, passing, log_is is, append-nil, begun_one)

    -- ---- what it deals with

    mid_none : ((n : ℕ) → Lowers (figure_on a.0) S (figure_on p) S' n) → Mid []
    mid_none low = figured_as h (h ++ []) (coming a.0 ++ passing.more) (coming a.0 ++ passing.more) (figure_on p) S'
        (append-nil h) refl (record {
          each = f.each;
          now = same_figured Tie call a.0 p xs aw aw' s.wired S S' was_held is_held passing falls f.now low;
        })

    quiet_low : begun_of a.0.outgoing p.outgoing ≡ [] → (n : ℕ)
        → filter (has_number n) aw' ≡ filter (has_number n) aw → Lowers (figure_on a.0) S (figure_on p) S' n
    quiet_low = quiet_lowers Tie call a.0 p xs aw aw' s.wired S S' was_held is_held passing falls f.now

    same_awaited : ends_said_by call a.0 p ≡ [] → taken_by call a.0 ≡ [] → (n : ℕ)
        → filter (has_number n) aw' ≡ filter (has_number n) aw
    same_awaited ended took n = ap (filter (has_number n)) (awaited_is is [] [] ended took ∙ append-nil aw)

    begun_is : (o : Outgoing) → a.0.outgoing ≡ None → p.outgoing ≡ Some o → (k : OutgoingKind) → o.kind ≡ k
        → begun_of a.0.outgoing p.outgoing ≡ pending_said k o.bytes.items ++ []
    begun_is o nothing some k kind = grind arith

    come_in : (t : List ℕ) → AllByRecursion (IsFigured (xs ++ asking (timeout h) xs (timed None (sent_by First t)) ∷ [])
        (coming a.0 ++ passing.more) (figure_on p) S')
        (xs ++ asking (timeout h) xs (timed None (sent_by First t)) ∷ []) → Mid (message_of t ∷ [])
    come_in t now = message_comes h t (coming a.0) (coming a.0 ++ passing.more) (figure_on a.0) (figure_on p) S S' f (rw
        (outstanding_more h (message_of t)) now)

    taking : IsTaking call a.0 p → Known p (call ∷ calls) a
    taking q = calm (message_of q.message ∷ []) (aw ++ q.message ∷ []) shown q.begun
        (takes Tie G O h aw (held a.0) q.message s (is_new_now is limit host q.message shown))
        (come_in q.message (poll_figured Tie call a.0 p xs aw aw' s.wired S S' was_held is_held passing falls f.now
        (timeout h) q.message fresh low polls))
      where
        shown : messages_by call a.0 ≡ message_of q.message ∷ []
        shown = grind arith

        fresh : filter (named (num q.message 0 4)) xs ≡ []
        fresh = new_none xs q.message (is_new_now is limit host q.message shown)

        low : (n : ℕ) → list_any (named n) xs ≡ true → Lowers (figure_on a.0) S (figure_on p) S' n
        low n any = quiet_low (ap (λ os. flat_map pending_in (map said_in os)) q.begun) n
            (ap (filter (has_number n)) (awaited_is is [] (q.message ∷ []) q.ended q.taken)
            ∙ none_beside (has_number n) aw q.message (apart_from xs (num q.message 0 4) n fresh any))

        polls : (other : ℕ) → slice_index q.message 8 ≡ 2 → four_in q.message 12 ≡ Some other
            → (passing.more ≡ record { number = num q.message 0 4; figure = figure_on a.0 other } ∷ [])
            × (1 ≤ figure_on a.0 other → S other) × (S' other → ⊥)
        polls other code parameter =
            let x = four_is q.message other parameter in
            let takes = takes_poll a.0 call q.message q.read.0 q.read.1 q.taken code x.0 in
            subst (λ k. (passing.more ≡ record { number = num q.message 0 4; figure = figure_on a.0 k } ∷ [])
            × (1 ≤ figure_on a.0 k → S k) × (S' k → ⊥)) x.1 (
              passing.poll q.message q.read.0 q.read.1 takes,
              serves (num q.message 12 4) takes,
              λ z. elim (served_or p call calls a (num q.message 12 4) is.never z) [
                | inl step ↦ no_step a.0 call q.message q.read.0 q.read.1 step
                | inr y ↦ y.0 takes
              ],
            )

    answering : IsAnswering call a.0 p → Known p (call ∷ calls) a
    answering q = by own.foreign own.task own.kind
      where
        own : IsOwn a.0 q.message q.out
        own = answers_so picks call a.0 p a.2 q

        by : (foreign : Bool) → is_foreign a.0.task ≡ foreign → q.out.kind ≡ end_kind foreign → Known p (call ∷ calls) a
        by true task kind = begun [] q.out (ap (λ b. cond b [] (map message_of (accepted_by call a.0))) task) q.nothing
            q.begun (mid_none (λ n. quiet_low (begun_is q.out q.nothing q.begun kinds.UtilitiesEnd kind) n
            (same_awaited q.ended q.taken n)))
        by false task kind = begun (message_of q.message ∷ []) q.out shown q.nothing q.begun
            (come_in q.message (plain_figured Tie call a.0 p xs aw aw' s.wired S S' was_held is_held passing falls f.now
            (timeout h) q.message fresh low (not_poll (volume_named a.0 q.message) q.message own.own.0
            (ap (λ x. own_answer x (volume_named a.0 q.message) q.message)
            (sym (of_disk a.0 q.message q.out own kind)) ∙ own.own.1))))
          where
            shown : messages_by call a.0 ≡ message_of q.message ∷ []
            shown = ap (λ b. cond b [] (map message_of (accepted_by call a.0))) task ∙ ap (map message_of) q.accepted

            fresh : filter (named (num q.message 0 4)) xs ≡ []
            fresh = new_none xs q.message (is_new_now is limit host q.message shown)

            low : (n : ℕ) → list_any (named n) xs ≡ true → Lowers (figure_on a.0) S (figure_on p) S' n
            low n any = lowers_by Tie call a.0 p xs aw aw' s.wired S S' was_held is_held passing falls f.now n
                (same_awaited q.ended q.taken n) (λ g e. sym (ap (λ b. cond b
                (Some (cond (nat_eq (slice_index q.out.bytes.items 8) 0x82) (num q.out.bytes.items 16 4) 0))
                (figure_of n (pending_held p))) (ap (λ k. nat_eq k n) (own_named a.0 q.message q.out own
                (small_of call calls q.message q.read.0 is.reads q.read.1))
                ∙ apart_from xs (num q.message 0 4) n fresh any))
                ∙ ap (λ es. figure_of n (es ++ pending_held p))
                (sym (begun_is q.out q.nothing q.begun kinds.End kind)) ∙ e)

    deals_so : Deals aw call a.0 p → Known p (call ∷ calls) a
    deals_so (inl q) = calm [] aw (none_by is q.accepted) q.begun
        (as_it_is Tie G O h aw (h ++ []) aw (held a.0) (held a.0) (append-nil h) refl refl s)
        (mid_none (λ n. quiet_low (ap (λ os. flat_map pending_in (map said_in os)) q.begun) n
        (same_awaited q.ended q.taken n)))
    deals_so (inr (inl q)) = begun [] q.out (none_by is q.accepted) q.nothing q.begun (mid_none (λ n. quiet_low
        (begun_is q.out q.nothing q.begun kinds.Attention q.kind) n (same_awaited q.ended q.taken n)))
    deals_so (inr (inr (inl q))) = begun [] q.out (none_by is q.accepted) q.nothing q.begun (mid_none (λ n.
        ending_lowers Tie call a.0 p xs aw aw' s.wired S S' was_held is_held passing falls f.now
        (num q.out.bytes.items 0 4) (record {
          number = num q.out.bytes.items 0 4;
          figure = cond (nat_eq (slice_index q.out.bytes.items 8) 0x82) (num q.out.bytes.items 16 4) 0;
        }) (begun_is q.out q.nothing q.begun kinds.End q.kind) refl
        (awaited_is is (q.out.bytes.items ∷ []) [] q.ended q.taken ∙ append-nil _) n))
    deals_so (inr (inr (inr (inl q)))) = taking q
    deals_so (inr (inr (inr (inr q)))) = answering q

  -- ---- all of them

  module _ (Fine : List Call → Type 0) (fine_before : (call : Call) (calls : List Call) → Fine (call ∷ calls)
      → Fine calls) (state : (p : Port K) (calls : List Call) → AsksAlways calls → ReadsBytes calls → Fine calls
      → (a : Answered picks start calls p) → HostIsRight limit (logged picks start p calls a)
      → Stated Tie G O (logged picks start p calls a) (awaited picks start p calls a) (held p)) where
    pub known : (p : Port K) (calls : List Call) → AsksAlways calls → ReadsBytes calls → Fine calls
        → (a : Answered picks start calls p) → HostIsRight limit (logged picks start p calls a)
        → ServesBetweenPolls picks start p calls a → Known p calls a
    known p calls asks reads fine a host serves = walk run ends (λ p calls a. Fine calls
        → HostIsRight limit (logged picks start p calls a) → ServesBetweenPolls picks start p calls a → Known p calls a)
        (λ p calls asks a none fine host serves. nothing_known p calls a none.logged)
        (λ p call calls a is so_far fine host serves. deals_so p call calls a is
        (state a.0 calls (asked_before call calls is.asks) (reads_before call calls is.reads)
        (fine_before call calls fine) a.1 (host_before is limit host)) host serves.0
        (so_far (fine_before call calls fine) (host_before is limit host) serves.1) is.deals)
        p calls asks reads a fine host serves
