-- Where a step lies between two polls about one command, the second is told less.
use Rattle.mscp_sim.proofs.Common.{◌≡◌, inl, inr, ⊎_elim, ℕ, zero, suc, ◌+◌, ◌-◌, ◌<◌, ◌≤◌, true, [], ◌∷◌, ◌++◌, take, length, refl, ap, sym, ◌∙◌, subst, arith, append-nil, option_or, not, ◌&&◌, Option, Some, None, is_some, option_to_list, unwrap_or, and_parts, cases_lt, false≢true, true≢false, Connection, Name, name_on, same_connection, own_side, Settings, Moment, Trace, connection_of, is_step, queues, Both, queues_by, sent_command, figure, figure_of, Promise, Account, History, asked_for, asks_about, end_heard, figure_from, figure_in, handed_over, is_end_of, is_it, is_outstanding, is_poll, is_sent, last_told, moment, reference, reference_found, told_at, Stands, found_before, found_out, last_then, out_below, out_new, out_old, was_out, it_is, Turn, Talk, accounts_at, history, said, trace_of, IsHeard, IsStepTurn, StepsSincePolls}
use Rattle.mscp_host.specs.Histories as host
use Rattle.mscp_sim.proofs.TwoEnds.Figured.{AtMost, contains_waiting, most_moment, part_of, waits_at}
use Rattle.mscp_sim.proofs.TwoEnds.Parts.{moment_is, own_part}
use Rattle.mscp_sim.proofs.TwoEnds.Tracing.{trace_more}
use Rattle.mscp_sim.proofs.TwoEnds.Turning.{Tells}

-- what is known of each turn, and of the trace after it
pub record Known (c : Settings) (talk : Talk) (j : ℕ) : Type 0 where
  pub tells : Tells c talk j
  pub promise : Promise c (trace_of (take (j + 1) talk))

abbrev AllKnown : Settings → Talk → Type 0
AllKnown c talk = (i : ℕ) → i < length talk → Known c talk i

-- ---- where the last answer came from

-- at k the end of the poll p about the command i was heard, and told l
record Came (h : History) (j i l : ℕ) : Type 0 where
  pub turn : ℕ
  pub poll : ℕ
  pub early : turn < j
  pub handed : handed_over h turn ≡ Some poll
  pub about : asks_about h i poll ≡ true
  pub told : figure_in (end_heard (moment h turn)) ≡ Some l

came_now : (h : History) (j k i l : ℕ) (o : Option ℕ) → k < j → handed_over h k ≡ o → figure_from h i k o ≡ Some l
    → Came h j i l
came_now h j k i l None m q e = absurd (false≢true (ap is_some e))
came_now h j k i l (Some p) m q e = search (arith, false≢true)

came_of : (h : History) (j i l : ℕ) (o : Option ℕ) → (last_told h j i ≡ Some l → Came h j i l) → told_at h i j ≡ o
    → option_or o (last_told h j i) ≡ Some l → Came h (suc j) i l
came_of h j i l o h1 h2 h3 = search (arith, came_now)

came_from : (h : History) (j i l : ℕ) → last_told h j i ≡ Some l → Came h j i l
came_from h zero i l e = absurd (false≢true (ap is_some e))
came_from h (suc j) i l e =
    let more : suc j ≡ j + 1 = omega arith in
    came_of h j i l (told_at h i j) (came_from h j i l) refl
    (sym (last_then h j i) ∙ subst (λ k. last_told h k i ≡ Some l) more e)

-- ---- what was outstanding

stood_by : (h : History) (m i d : ℕ) → i < m → is_outstanding h (m + d) i ≡ true → is_outstanding h m i ≡ true
stood_by h m i zero l e = search arith
stood_by h m i (suc d) l e = let same : m + suc d ≡ m + d + 1 = omega arith in
    stood_by h m i d l (was_out h (m + d) i (subst (λ k. is_outstanding h k i ≡ true) same e) (omega (arith, l)))

stood : (h : History) (m j i : ℕ) → m ≤ j → i < m → is_outstanding h j i ≡ true → is_outstanding h m i ≡ true
stood h m j i l b e = let same : j ≡ m + (j - m) = omega (arith, l) in
    stood_by h m i (j - m) b (subst (λ k. is_outstanding h k i ≡ true) same e)

-- a command whose end was heard is outstanding no more
gone : (h : History) (j k p : ℕ) → k < j → handed_over h k ≡ Some p → is_outstanding h j p ≡ true → ⊥
gone h j k p l e o =
    let own = found_out h k p _ e in
    let b = out_below h k p own.0 in
    let stays = stood h (k + 1) j p (omega (arith, l)) (omega (arith, b)) o in
    true≢false (sym stays ∙ (out_old h k p b ∙ (λ i. own.0 i && not (own.1 i))))

-- ---- the first poll came first

-- the end of the poll p is heard at k
record EndsPoll (h : History) (k p : ℕ) : Type 0 where
  pub handed : handed_over h k ≡ Some p
  pub asked : is_poll (moment h p) ≡ true

sent_no_end : (m : host.Moment) → is_sent m ≡ true → end_heard m ≡ None
sent_no_end m e = grind (arith, false≢true)

step_moment : (talk : Talk) (m : ℕ) (a a' : Both Account) (t : Turn) → IsStepTurn t → IsHeard a t (said talk m) a'
    → (n : Moment) × ((said talk m).moment ≡ Some n) × (is_step n.0 ≡ true)
step_moment talk m a a' t w s = grind arith

-- of a talk each turn of which is known, the history of the host of one connection
module _ (c : Settings) (via : Connection) (talk : Talk) (known : AllKnown c talk) where
  abbrev h : History
  h = history via talk

  order_of : (j k p q : ℕ) → j < length talk → k < j → EndsPoll h k p → EndsPoll h j q → p < q
  order_of j k p q l m first second =
      let pk = found_before h k p _ first.handed in
      let out_p = (found_out h k p _ first.handed).0 in
      let out_q = (found_out h j q _ second.handed).0 in
      ⊎_elim (λ less. less) (λ more.
      let one = ((known p (omega (arith, pk, m, l))).tells.on via).goes.apart in
      let same = one.polls p q (stood h (p + 1) k p (omega (arith, pk)) (omega arith) out_p)
      (stood h (p + 1) j q (omega (arith, pk, m)) (omega (arith, more)) out_q) (first.asked, second.asked) in
      absurd (gone h j k p m first.handed (subst (λ x. is_outstanding h j x ≡ true) (sym same) out_q))) (cases_lt p q)

  -- ---- figures

  -- the name of the command i
  abbrev own_name : ℕ → Name
  own_name i = name_on via (reference h i)

  abbrev trace_at : ℕ → Trace
  trace_at m = trace_of (take m talk)

  -- no figure of it is over g before turn m
  abbrev Most : ℕ → ℕ → ℕ → Type 0
  Most m i g = AtMost c (trace_at m) (own_name i) g

  first_most : (p i : ℕ) → p < length talk → Most p i (figure_of c (trace_at p) (own_name i))
  first_most p i l x w r =
      let t = trace_at p in
      let promise = subst (Promise c) (trace_more talk p l) (known p l).promise in
      let own = part_of c t (option_to_list (said talk p).moment) promise x (contains_waiting t x w) in
      search (arith, figure_of, figure)

  -- ---- from poll to poll

  -- the command i is outstanding before turn m
  record Standing (m i : ℕ) : Type 0 where
    pub inside : m < length talk
    pub stands : is_outstanding h m i ≡ true

  sooner : (m q i : ℕ) → m ≤ q → i < m → Standing q i → Standing m i
  sooner m q i l b s = search (arith, stood)

  -- what a moment queues has another name
  new_name : (m i : ℕ) (n : Moment) → Standing m i → i < m → (said talk m).moment ≡ Some n → queues n.1 ≡ true
      → name_on (connection_of n.0) (sent_command n).reference ≡ own_name i → ⊥
  new_name m i n s b e q same =
      let by : connection_of n.0 ≡ via = ap (λ (k : Name). k.connection) same in
      let own : queues_by via n ≡ true = (λ i. q i && same_connection (by i) via) ∙ own_side via in
      let tells = (known m s.inside).tells.on via in
      let sent = tells.sent n e own in
      let at = moment_is via talk m s.inside in
      let still = out_old h m i b ∙ (λ k. s.stands k && not (is_end_of (reference h i)
      ((ap end_heard at ∙ sent_no_end (own_part via (said talk m)) sent.0) k))) in
      let one : i ≡ m = tells.goes.apart.names i m still (out_new h m ∙ (ap is_sent at ∙ sent.0))
      (sym (ap (λ (k : Name). k.reference) same) ∙ sent.1) in
      absurd (omega (arith, one, b))

  most_same_with : (m i g : ℕ) (o : Option Moment) → Standing m i → i < m → (said talk m).moment ≡ o → Most m i g
      → AtMost c (trace_at m ++ option_to_list o) (own_name i) g
  most_same_with m i g None s b e most = search (arith, append-nil (trace_at m))
  most_same_with m i g (Some n) s b e most =
      let promise = subst (λ o. Promise c (trace_at m ++ option_to_list o)) e
      (subst (Promise c) (trace_more talk m s.inside) (known m s.inside).promise) in
      most_moment c (trace_at m) n (own_name i) g g promise (new_name m i n s b e) (inl refl) most

  -- a turn raises no figure of a command that is outstanding
  most_same : (m i g : ℕ) → Standing m i → i < m → Most m i g → Most (m + 1) i g
  most_same m i g s b most = subst (λ t. AtMost c t (own_name i) g) (sym (trace_more talk m s.inside))
      (most_same_with m i g (said talk m).moment s b refl most)

  -- a step lowers it
  most_step : (m i g : ℕ) → Standing m i → i < m → IsStepTurn (said talk m).turn → Most m i g → Most (m + 1) i (g - 1)
  most_step m i g s b w most =
      let k = known m s.inside in
      let n = step_moment talk m (accounts_at c talk m) (accounts_at c talk (m + 1))
      (said talk m).turn w k.tells.says in
      let more : trace_at (m + 1) ≡ trace_at m ++ n.0 ∷ [] =
      trace_more talk m s.inside ∙ ap (λ o. trace_at m ++ option_to_list o) n.1 in
      subst (λ t. AtMost c t (own_name i) (g - 1)) (sym more) (most_moment c (trace_at m) n.0 (own_name i) g (g - 1)
      (subst (Promise c) more k.promise) (new_name m i n.0 s b n.1) (inr (n.2, refl)) most)

  most_by : (m q i g d : ℕ) → Standing q i → m + d ≤ q → i < m → Most m i g → Most (m + d) i g
  most_by m q i g zero s e b most = let same : m ≡ m + 0 = omega arith in subst (λ k. Most k i g) same most
  most_by m q i g (suc d) s e b most =
      let same : m + d + 1 ≡ m + suc d = omega arith in
      let inside : i < m + d = omega (arith, b) in
      subst (λ k. Most k i g) same (most_same (m + d) i g (sooner (m + d) q i (omega (arith, e)) inside s) inside
      (most_by m q i g d s (omega (arith, e)) b most))

  most_until : (m n q i g : ℕ) → Standing q i → m ≤ n → n ≤ q → i < m → Most m i g → Most n i g
  most_until m n q i g s a e b most =
      let same : m + (n - m) ≡ n = omega (arith, a) in
      search (arith, most_by m q i g (n - m) s (omega (arith, a, e)) b most)

  -- an end tells the figure of its poll
  tells : (j i p f : ℕ) → j < length talk → handed_over h j ≡ Some p → asks_about h i p ≡ true
      → figure_in (end_heard (moment h j)) ≡ Some f → f ≡ figure_of c (trace_at p) (own_name i)
  tells j i p f l q about e = search (arith, moment_is, figure_of, it_is, and_parts)

  pub never_reset : (j : ℕ) → j < length talk → (st : Stands h j) → StepsSincePolls via talk st.command st.poll → ⊥
  never_reset j l st steps =
      let i = st.command in
      let q = st.poll in
      let told = st.is_told in
      let came = came_from h j i st.last st.before in
      let p = came.poll in
      let early = came.early in
      let asked_p = and_parts (is_poll (moment h p)) (is_it i (asked_for h p)) came.about in
      let asked_q = and_parts (is_poll (moment h q)) (is_it i (asked_for h q)) told.about in
      let less = order_of j came.turn p q l early (record { handed = came.handed; asked = asked_p.0 })
      (record { handed = told.handed; asked = asked_q.0 }) in
      let qj : q < j = found_before h j q _ told.handed in
      let ip : i < p = found_before h p i _ (it_is i (asked_for h p) asked_p.1) in
      let step = steps p less came.about in
      let pk = step.1 in
      let kq = step.2 in
      let s : Standing q i = sooner q j i (omega (arith, qj)) (omega (arith, ip, less))
      (record { inside = l; stands = told.outstanding }) in
      let g = figure_of c (trace_at p) (own_name i) in
      let first : st.last ≡ g =
      tells came.turn i p st.last (omega (arith, early, l)) came.handed came.about came.told in
      let second : st.figure ≡ figure_of c (trace_at q) (own_name i) =
      tells j i q st.figure l told.handed told.about told.tells in
      let at_k = most_until p step.0 q i g s (omega (arith, pk)) (omega (arith, kq)) ip
      (first_most p i (omega (arith, less, qj, l))) in
      let after = most_step step.0 i g (sooner step.0 q i (omega (arith, kq)) (omega (arith, ip, pk)) s)
      (omega (arith, ip, pk)) step.3 at_k in
      let at_q = most_until (step.0 + 1) q q i (g - 1) s (omega (arith, kq)) (omega arith)
      (omega (arith, ip, pk)) after in
      let some : 1 ≤ figure_of c (trace_at q) (own_name i) =
      subst (λ o. 1 ≤ figure_of c (trace_at q) (name_on via (reference_found h o))) (it_is i (asked_for h q) asked_q.1)
      ((((known j l).tells.on via).figures i q told.handed told.about).1 told.outstanding) in
      let x = waits_at c (trace_at q) (own_name i) some in
      search arith

  -- the answer of the poll q about the command i doesn't stand where a step lies between it and each one before
  pub never_stands : (j : ℕ) → j < length talk → (i q : ℕ) → handed_over h j ≡ Some q → asks_about h i q ≡ true
      → StepsSincePolls via talk i q → Stands h j → ⊥
  never_stands j l i q f a steps st =
      let poll : q ≡ st.poll = ap (λ o. unwrap_or o q) (sym f ∙ st.is_told.handed) in
      let at = (and_parts (is_poll (moment h q)) _ a).1 in
      let at' = (and_parts (is_poll (moment h st.poll)) _ st.is_told.about).1 in
      let command : i ≡ st.command = grind (arith, it_is, poll, at, at) in
      never_reset j l st (subst (λ k. StepsSincePolls via talk k st.poll) command
      (subst (StepsSincePolls via talk i) poll steps))
