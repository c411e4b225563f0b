-- A whole talk: what is heard in each turn.
use Rattle.mscp_sim.proofs.Common.{◌≡◌, ⊎_elim, ℕ, ◌+◌, ◌<◌, ◌≤◌, true, false, List, [], ◌∷◌, ◌++◌, map, take, drop, length, refl, ap, sym, ◌∙◌, subst, arith, zip, Option, Some, None, is_some, option_to_list, cases_eq, false≢true, drop-drop, length-drop, get_or-drop, End, Connection, First, Second, one_side, Choice, Both, of, IsLegal, IsPicked, IsSweeping, Settings, IsValid, credits_of, AnsweredCalls, ControllersKeepThePromise, KeepsPromise, Promise, Moment, Trace, Holdings, RunsKeepThePromise, Account, fresh, end_heard, handed_over, is_end_of, reference, Stands, found_before, found_out, start, Turn, Heard, Flight, Match, Matches, Said, Talk, heard_by, history, said, trace_of, Converses, AnswersTurn, Says, AreTwoEnds}
use Rattle.mscp_controller.specs.Holdings as holdings
use Rattle.mscp_sim.specs.declared.conversing.Turn.TheVariants as turns
use Rattle.mscp_sim.specs.declared.conversing.Heard.TheVariants as hears
use Rattle.mscp_sim.proofs.TwoEnds.Between.{Known, never_reset, never_stands}
use Rattle.mscp_sim.proofs.TwoEnds.Parts.{moment_is, own_part}
use Rattle.mscp_sim.proofs.TwoEnds.Talking.{GoesTo, Kept}
use Rattle.mscp_sim.proofs.TwoEnds.Tracing.{answered_calls, calls_of, entries_of, events_of, history_of, zipped}
use Rattle.mscp_sim.proofs.TwoEnds.Turning.{At, Comes, Side, turn}

-- ---- lists

abbrev nothing : Said
nothing = record { turn = turns.Take First; heard = hears.Quiet; moment = None }

drop_next : {X : Type 0} (j : ℕ) (xs : List X) → drop (j + 1) xs ≡ drop 1 (drop j xs)
drop_next j xs = sym (drop-drop 1 j xs)

-- ---- all turns

drop_more : (talk : Talk) (j : ℕ) (s : Said) (rest : Talk) → drop j talk ≡ s ∷ rest
    → (j < length talk) × (said talk j ≡ s) × (drop (j + 1) talk ≡ rest)
drop_more talk j s rest e = search (arith, length-drop j talk, get_or-drop j talk 0 nothing, drop_next j talk)

-- what is promised of a controller with these settings and this picker, whatever it answered
abbrev Keeps : {K : Type 0} → Settings → (List Choice → ℕ → Type 0) → K → Type 0
Keeps {K} c picks picker = (t : Trace) (h : Holdings K) → AnsweredCalls picks (holdings.fresh c picker) (calls_of t) h
    → KeepsPromise picks c (calls_of t) h

-- the rest of a talk from turn j on: what host and controller keep before it is what the talk says, and it goes on so
record Rest {K : Type 0} (c : Settings) (picks : List Choice → ℕ → Type 0) (picker : K) (talk : Talk) (j : ℕ)
    (rest : Talk) : Type 0 where
  pub is : drop j talk ≡ rest
  pub hosts : Both Account
  pub controller : Holdings K
  pub at : At c picks picker talk j hosts controller
  pub goes : (a' : Both Account) × (h' : Holdings K) × Converses picks hosts controller rest a' h'

turns_from : {K : Type 0} (c : Settings) (picks : List Choice → ℕ → Type 0) (picker : K) (talk : Talk) (j : ℕ)
    (rest : Talk) → Keeps c picks picker → Rest c picks picker talk j rest → (i : ℕ) → j ≤ i → i < length talk
    → Known c talk i
turns_from c picks picker talk j [] keeps x i l k = search (arith, length-drop j talk)
turns_from {K} c picks picker talk j (s ∷ rest) keeps x i l k =
    let d = drop_more talk j s rest x.is in
    let r = x.goes.2 in
    let comes : Comes c picks picker talk j r.0 r.1 = record {
      hosts = x.hosts;
      controller = x.controller;
      inside = d.0;
      at = x.at;
      keeps = keeps (trace_of (take j talk)) x.controller x.at.reached;
      says = subst (λ q. Says picks x.hosts x.controller q r.0 r.1) (sym d.1) r.2;
    } in
    let now = turn comes in
    let t = trace_of (take (j + 1) talk) in
    let promise = subst (Promise c) (history_of t) (keeps t r.1 now.next.reached).promise in
    ⊎_elim (λ same. subst (Known c talk) same (record { tells = now.tells; promise = promise }))
    (λ other. turns_from c picks picker talk (j + 1) rest keeps (record {
      is = d.2;
      hosts = r.0;
      controller = r.1;
      at = now.next;
      goes = (x.goes.0, x.goes.1, r.3);
    }) i (omega (arith, l, other)) k)
    (cases_eq j i)

-- ---- the start

abbrev pub no_flight_yet : Flight
no_flight_yet = record { figure = 0; waited = false }

-- the accounts of new hosts
abbrev pub new_hosts : Settings → Both Account
new_hosts c = record { first = fresh c.credits; second = fresh c.second }

match_first : {K : Type 0} (c : Settings) (picker : K)
    → Matches First (fresh c.credits) (holdings.fresh c picker) no_flight_yet
match_first c picker = search arith

match_second : {K : Type 0} (c : Settings) (picker : K)
    → Matches Second (fresh c.second) (holdings.fresh c picker) no_flight_yet
match_second c picker = search arith

pub match_new : {K : Type 0} (c : Settings) (picker : K) → Match (new_hosts c) (holdings.fresh c picker)
match_new c picker First = (no_flight_yet, match_first c picker)
match_new c picker Second = (no_flight_yet, match_second c picker)

side_of : {K : Type 0} (c : Settings) (picker : K) (talk : Talk) (via : Connection) (credits : ℕ)
    → credits_of c via ≡ credits → Matches via (fresh credits) (holdings.fresh c picker) no_flight_yet
    → Side c via talk 0 (fresh credits) (holdings.fresh c picker)
side_of c picker talk via credits e m =
    let s = start (credits_of c via) (history via talk) in
    search (arith, s, found_before)

side_new : {K : Type 0} (c : Settings) (picker : K) (talk : Talk) (via : Connection)
    → Side c via talk 0 (of via (new_hosts c)) (holdings.fresh c picker)
side_new c picker talk First = side_of c picker talk First _ refl (match_first c picker)
side_new c picker talk Second = side_of c picker talk Second _ refl (match_second c picker)

at_start : {K : Type 0} (c : Settings) (picks : List Choice → ℕ → Type 0) (picker : K) (talk : Talk)
    → At c picks picker talk 0 (new_hosts c) (holdings.fresh c picker)
at_start c picks picker talk = record { side = side_new c picker talk; reached = refl }

-- ---- the whole trace

calls_front : {K : Type 0} (picks : List Choice → ℕ → Type 0) (h m h' : Holdings K) (o : Option Moment) (t : Trace)
    → AnswersTurn picks h o m → AnsweredCalls picks m (calls_of t) h'
    → AnsweredCalls picks h (calls_of (option_to_list o ++ t)) h'
calls_front {K} picks h m h' None t r a = subst (λ (x : Holdings K). AnsweredCalls picks x (calls_of t) h') r a
calls_front picks h m h' (Some n) t r a = (m, r, a)

whole_calls : {K : Type 0} (picks : List Choice → ℕ → Type 0) (a a' : Both Account) (h h' : Holdings K) (talk : Talk)
    → Converses picks a h talk a' h' → AnsweredCalls picks h (calls_of (trace_of talk)) h'
whole_calls {K} picks a a' h h' [] r = r.1
whole_calls picks a a' h h' (s ∷ talk) r = search (arith, calls_front, whole_calls picks r.0 a' r.1 h' talk r.3)

-- ---- whose end it is

one_hears : (via other : Connection) (t : Turn) (heard : Heard) (m : Option Moment)
    → is_some (end_heard (heard_by via t heard m)) ≡ true → is_some (end_heard (heard_by other t heard m)) ≡ true
    → other ≡ via
one_hears via other t heard m h k = grind (arith, one_side, false≢true)

some_end : (r : ℕ) (o : Option End) → is_end_of r o ≡ true → is_some o ≡ true
some_end r o e = grind (arith, false≢true)

heard_handed : (via : Connection) (talk : Talk) (j p : ℕ) → j < length talk
    → handed_over (history via talk) j ≡ Some p → is_some (end_heard (own_part via (said talk j))) ≡ true
heard_handed via talk j p l e =
    ap (λ x. is_some (end_heard x)) (sym (moment_is via talk j l)) ∙ some_end (reference (history via talk) p) _
    (found_out (history via talk) j p _ e).1

-- ---- two ends

-- the hosts and the controller are new, and nothing was heard yet
pub record AreNew {K : Type 0} (c : Settings) (picker : K) (old : Kept K) : Type 0 where
  pub hosts : old.hosts ≡ new_hosts c
  pub controller : old.controller ≡ holdings.fresh c picker
  pub heard : old.lists.0 ≡ []
  pub trace : old.lists.1 ≡ []

pub two_ends : {K : Type 0} (c : Settings) (picks : List Choice → ℕ → Type 0) (picker : K) (old new : Kept K)
    (ts : List Turn) → IsValid c → RunsKeepThePromise picks picker → ControllersKeepThePromise picks picker
    → AreNew c picker old → GoesTo picks old ts new → AreTwoEnds picks c ts new.lists.0 new.lists.1
two_ends {K} c picks picker old new ts v runs law n g =
    let talk = g.talk in
    let t = trace_of talk in
    let h : Holdings K = holdings.fresh c picker in
    let says : Converses picks (new_hosts c) h talk new.hosts new.controller = search arith in
    let answered = answered_calls picks h new.controller t
    (whole_calls picks (new_hosts c) new.hosts h new.controller talk says) in
    let run = runs c (events_of t) (entries_of t) new.controller v answered in
    let trace : trace_of talk ≡ new.lists.1 = ap (λ xs. xs ++ t) (sym n.trace) ∙ sym g.trace in
    let whole : zip (events_of t) (entries_of t) ≡ new.lists.1 = zipped t ∙ trace in
    let rest : Rest c picks picker talk 0 talk = search (arith, at_start c picks picker talk) in
    let known : (i : ℕ) → i < length talk → Known c talk i = λ i l.
    turns_from c picks picker talk 0 talk (λ t k r. law c (calls_of t) k v r) rest i (omega arith) l in
    record {
      talk = talk;
      turns = g.turns;
      heard = ap (λ xs. xs ++ map (λ (s : Said). s.heard) talk) (sym n.heard) ∙ sym g.heard;
      trace = trace;
      legal = subst (IsLegal c) whole run.headline.legal;
      promise = subst (Promise c) whole run.headline.promise;
      picked = subst (IsPicked c picks) whole run.picked;
      swept = λ w. subst (IsSweeping c) whole (run.swept w);
      says = λ j l. (known j l).tells.says;
      figures = grind (arith, moment_is, talk, h, known);
      resets = λ j l. (known j l).tells.resets;
      no_lost = λ j l. (known j l).tells.no_lost;
      falls = λ via j i q l h a b e.
          let st = (known j l).tells.resets.0 e in
          let same : st.0 ≡ via = one_hears via st.0 (said talk j).turn (said talk j).heard (said talk j).moment
          (heard_handed via talk j q l h) (heard_handed st.0 talk j st.1.poll l st.1.is_told.handed) in
          let own = subst (λ v. Stands (history v talk) j) same st.1 in
          never_stands c via talk known j l i q h a b own;
      no_reset = λ b j l e.
          let both = (known j l).tells.resets.0 e in
          let via = both.0 in
          let st = both.1 in
          let below = found_before (history via talk) j st.poll _ st.is_told.handed in
          never_reset c via talk known j l st (b via st.command st.poll (omega (arith, below, l)) st.is_told.about);
    }
