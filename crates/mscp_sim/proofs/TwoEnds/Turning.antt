-- One turn of a talk: what is heard is what the rules of a host say of what the talk says so far.
use Rattle.mscp_sim.proofs.Common.{◌≡◌, ◌↔◌, ℕ, ◌+◌, ◌<◌, ◌≤◌, Bool, true, false, List, [], ◌∷◌, map, take, length, refl, ap, sym, ◌∙◌, subst, arith, ◌≢◌, nat_eq, Option, Some, option_map, list_any, and_parts, eqb-true, eq-eqb, false≢true, true_from_ne_false, End, Connection, First, Second, Settings, credits_of, Both, of, Choice, names, name_on, same_name, Record, AnsweredCalls, name, sent_command, waiting, KeepsPromise, figure_of, Promise, Moment, Trace, Holdings, numbers, waiting_on, queues_by, Submission, Account, oldest, History, asked_for, asks_about, end_heard, figure_in, found_stands, handed_over, in_flight, is_end_of, is_it, is_outstanding, is_poll, is_sent, moment, news_heard, reference, reference_found, reference_in, submission_at, watch_at, Answers, Stands, found_out, oldest_is, it_is, losses_if, resets_if, IsApart, flies, flight_back, flight_new, step, Flight, IsFlight, Match, Matches, Talk, account_at, accounts_at, figure_told, history, said, trace_of, Says, IsHeard}
use Rattle.mscp_controller.specs.Holdings.{fresh}
use Rattle.mscp_host.proofs.Stepping.{Goes}
use Rattle.mscp_host.specs.declared.news.News.TheVariants as news
use Rattle.mscp_sim.specs.declared.conversing.Heard.TheVariants as hears
use Rattle.mscp_sim.proofs.TwoEnds.Figured.{some_figure}
use Rattle.mscp_sim.proofs.TwoEnds.Handing.{alone, first_is}
use Rattle.mscp_sim.proofs.TwoEnds.Parts.{answers, moment_is, news_of, own_part, said_news}
use Rattle.mscp_sim.proofs.TwoEnds.Sending.{told_now}
use Rattle.mscp_sim.proofs.TwoEnds.Tracing.{calls_of, history_of, reached_more, trace_more}
use Rattle.mscp_sim.proofs.TwoEnds.Turned.{first_of, says_keeps, sent_of, told_after, told_then}

-- what is told of the poll p: this figure, which is at least 1 if its command waited then
abbrev pub IsFigured : Settings → Connection → Talk → Flight → ℕ → Type 0
IsFigured c via talk told p = (told.figure ≡ figure_told c via talk p) × (told.waited ≡ true → 1 ≤ told.figure)

-- what the host of a connection keeps before turn j is what the talk says, and the controller holds what matches it
pub record Side {K : Type 0} (c : Settings) (via : Connection) (talk : Talk) (j : ℕ) (a : Account) (h : Holdings K) :
    Type 0 where
  pub account : a ≡ account_at c via talk j
  pub apart : IsApart (credits_of c via) (history via talk) j
  -- what the poll in flight is told
  pub told : Flight
  pub match : Matches via a h told
  pub flight : (p : ℕ) → in_flight (history via talk) j ≡ Some p → IsFigured c via talk told p

-- what the hosts and the controller keep before turn j is what the talk says
pub record At {K : Type 0} (c : Settings) (picks : List Choice → ℕ → Type 0) (picker : K) (talk : Talk) (j : ℕ)
    (a : Both Account) (h : Holdings K) : Type 0 where
  pub side : (via : Connection) → Side c via talk j (of via a) h
  pub reached : AnsweredCalls picks (fresh c picker) (calls_of (trace_of (take j talk))) h

-- turn j comes: what the hosts and the controller keep before it, what is promised of the controller then, and what is
-- said in it. After it they keep a' and h'
pub record Comes {K : Type 0} (c : Settings) (picks : List Choice → ℕ → Type 0) (picker : K) (talk : Talk) (j : ℕ)
    (a' : Both Account) (h' : Holdings K) : Type 0 where
  pub hosts : Both Account
  pub controller : Holdings K
  pub inside : j < length talk
  pub at : At c picks picker talk j hosts controller
  pub keeps : KeepsPromise picks c (calls_of (trace_of (take j talk))) controller
  pub says : Says picks hosts controller (said talk j) a' h'

-- what turn j says of a connection
pub record TellsOn (c : Settings) (via : Connection) (talk : Talk) (j : ℕ) : Type 0 where
  -- of its host
  pub goes : Goes (credits_of c via) (history via talk) j (account_at c via talk (j + 1))
  -- a command that is queued is one that its host sends
  pub sent : (m : Moment) → (said talk j).moment ≡ Some m → queues_by via m ≡ true
      → (is_sent (own_part via (said talk j)) ≡ true) × ((sent_command m).reference ≡ reference (history via talk) j)
  -- an end tells the figure of its poll, which is at least 1 if the command stands
  pub figures : (i p : ℕ) → handed_over (history via talk) j ≡ Some p → asks_about (history via talk) i p ≡ true
      → (figure_in (end_heard (own_part via (said talk j))) ≡ Some (figure_told c via talk p))
      × (is_outstanding (history via talk) j i ≡ true → 1 ≤ figure_told c via talk p)

-- what is heard in turn j
pub record Tells (c : Settings) (talk : Talk) (j : ℕ) : Type 0 where
  pub says : IsHeard (accounts_at c talk j) (said talk j).turn (said talk j) (accounts_at c talk (j + 1))
  pub resets : ((said talk j).heard ≡ hears.News news.Reset) ↔ ((via : Connection) × Stands (history via talk) j)
  pub no_lost : (said talk j).heard ≢ hears.News news.Lost
  pub on : (via : Connection) → TellsOn c via talk j

pub record Turns {K : Type 0} (c : Settings) (picks : List Choice → ℕ → Type 0) (picker : K) (talk : Talk) (j : ℕ)
    (a' : Both Account) (h' : Holdings K) : Type 0 where
  pub tells : Tells c talk j
  pub next : At c picks picker talk (j + 1) a' h'

-- the same of one connection
pub record TurnsOn {K : Type 0} (c : Settings) (via : Connection) (talk : Talk) (j : ℕ) (a' : Account)
    (h' : Holdings K) : Type 0 where
  pub tells : TellsOn c via talk j
  pub next : Side c via talk (j + 1) a' h'

-- ---- what is said

both_at : (c : Settings) (talk : Talk) (j : ℕ) (both : Both Account)
    → ((via : Connection) → of via both ≡ account_at c via talk j) → both ≡ accounts_at c talk j
both_at c talk j both e = λ i. record { first = e First i; second = e Second i }

-- the news of a connection's host are those that are heard
resets_of : (c : Settings) (talk : Talk) (j : ℕ) (a a' : Both Account) → j < length talk
    → IsHeard a (said talk j).turn (said talk j) a' → ((via : Connection) → TellsOn c via talk j)
    → ((said talk j).heard ≡ hears.News news.Reset) ↔ ((via : Connection) × Stands (history via talk) j)
resets_of c talk j a a' l says on = (
  (λ q.
      let s = said_news a a' (said talk j) (said talk j).turn news.Reset says q in
      (s.0, (resets_if (history s.0 talk) j (on s.0).goes.ends).0 (ap news_heard (moment_is s.0 talk j l) ∙ s.1))),
  (λ st. news_of st.0 (said talk j).turn _ _ news.Reset (sym (ap news_heard (moment_is st.0 talk j l))
      ∙ (resets_if (history st.0 talk) j (on st.0).goes.ends).1 st.1)),
)

never_lost : (c : Settings) (talk : Talk) (j : ℕ) (a a' : Both Account) → j < length talk
    → IsHeard a (said talk j).turn (said talk j) a' → ((via : Connection) → TellsOn c via talk j)
    → (said talk j).heard ≢ hears.News news.Lost
never_lost c talk j a a' l says on q =
    let s = said_news a a' (said talk j) (said talk j).turn news.Lost says q in
    let lost = (losses_if (history s.0 talk) j (on s.0).goes.ends).0 (ap news_heard (moment_is s.0 talk j l) ∙ s.1) in
    let told = (on s.0).figures lost.command lost.poll lost.is_told.handed lost.is_told.about in
    search (arith, figure_told, moment_is)

-- ---- a poll

-- what the controller tells now of a number
figure_now : {K : Type 0} (c : Settings) (via : Connection) (picks : List Choice → ℕ → Type 0) (t : Trace)
    (h : Holdings K) (s : Submission) → KeepsPromise picks c (calls_of t) h
    → (told_now via h s).figure ≡ figure_of c t (name_on via s.reference)
figure_now c via picks t h s k = search (arith, history_of t)

-- a number waits among those of its connection where its name waits
named_on : (via : Connection) (n : ℕ) (rs : List Record) → list_any (λ x. nat_eq x n) (numbers (waiting_on via rs))
    ≡ list_any (λ m. same_name m (name_on via n)) (names rs)
named_on via n [] = refl
named_on via n (r ∷ rs) = search (arith, named_on via n rs)

some_now : {K : Type 0} (c : Settings) (via : Connection) (picks : List Choice → ℕ → Type 0) (t : Trace)
    (h : Holdings K) (s : Submission) → KeepsPromise picks c (calls_of t) h → (told_now via h s).waited ≡ true
    → 1 ≤ figure_of c t (name_on via s.reference)
some_now c via picks t h s k w =
    let promise = subst (Promise c) (history_of t) k.promise in
    let waits = subst (λ u. names h.waiting ≡ map (name u) (waiting u)) (history_of t) k.waiting in
    some_figure c t (name_on via s.reference) promise (ap (list_any (λ m. same_name m (name_on via s.reference)))
    (sym waits) ∙ (sym (named_on via s.reference h.waiting) ∙ w))

-- ---- an end

-- where the end is that of the poll p, it tells of its command what the poll was told
answer_is : {K : Type 0} {c : Settings} {via : Connection} {talk : Talk} {j : ℕ} {a : Account} {h : Holdings K}
    → (s : Side c via talk j a h) → (e : End) (rest : List End) → of via h.untaken ≡ e ∷ rest → (i p : ℕ)
    → in_flight (history via talk) j ≡ Some p → reference (history via talk) p ≡ e.reference
    → asked_for (history via talk) p ≡ Some i → (figure_in (Some e) ≡ Some (figure_told c via talk p))
    × (is_outstanding (history via talk) j i ≡ true → 1 ≤ figure_told c via talk p)
answer_is {K} {c} {via} {talk} {j} {a} {h} s e rest u i p f named about =
    let w = watch_at (history via talk) j p in
    let es = e ∷ rest in
    let m = subst (λ (x : Account). Matches via x h s.told) s.account s.match in
    let flight : IsFlight es w s.told = grind (arith, w, es, m) in
    let first = first_is e rest w s.told flight (alone via (account_at c via talk j) h s.told e rest m u).1 named in
    let told = s.flight p f in
    let code = ap (λ (x : End). x.code) (sym first.1) ∙ flight.code in
    let body = ap (λ (x : End). x.body) (sym first.1) ∙ flight.body in (
      rw (eq-eqb e.code 0x82 code, body) (ap Some told.0),
      λ st. subst (λ k. 1 ≤ k) told.0 (told.1 (true_from_ne_false s.told.waited (λ q. false≢true
          (ap (list_any (λ (x : End). nat_eq x.reference w.polled)) (sym first.0)
          ∙ flight.ended (ap (found_stands (history via talk) j) about ∙ st) q)))),
    )

some_end : (r : ℕ) (o : Option End) → is_end_of r o ≡ true → (e : End) × (o ≡ Some e) × (r ≡ e.reference)
some_end r o h1 = search (arith, false≢true, eqb-true)

-- ---- the turn

module _ {K : Type 0} {c : Settings} {picks : List Choice → ℕ → Type 0} {picker : K} {talk : Talk} {j : ℕ}
    {a' : Both Account} {h' : Holdings K} (x : Comes c picks picker talk j a' h') where
  reached_next : AnsweredCalls picks (fresh c picker) (calls_of (trace_of (take (j + 1) talk))) h'
  reached_next = grind (arith, trace_more, reached_more, calls_of)

  match_at : Match x.hosts x.controller
  match_at via = ((x.at.side via).told, (x.at.side via).match)

  -- a turn, of what it says of each connection
  turns_of : ((via : Connection) → TurnsOn c via talk j (of via a') h') → Turns c picks picker talk j a' h'
  turns_of on =
      let old : x.hosts ≡ accounts_at c talk j = both_at c talk j x.hosts (λ via. (x.at.side via).account) in
      let new : a' ≡ accounts_at c talk (j + 1) = both_at c talk (j + 1) a' (λ via. (on via).next.account) in
      let tells = λ (via : Connection). (on via).tells in
      record {
        tells = record {
          says = grind (arith, old, new);
          resets = resets_of c talk j x.hosts a' x.inside x.says.0 tells;
          no_lost = never_lost c talk j x.hosts a' x.inside x.says.0 tells;
          on = tells;
        };
        next = record { side = λ via. (on via).next; reached = reached_next };
      }

  -- what is known of one connection: its history is h, and the turn is this moment of it
  module _ (via : Connection) where
    abbrev h : History
    h = history via talk

    at : moment h j ≡ own_part via (said talk j)
    at = moment_is via talk j x.inside

    goes_of : Goes (credits_of c via) h j (of via a')
    goes_of = step (credits_of c via) h j (x.at.side via).apart (of via a') _ at
        (subst (λ a. Answers a (own_part via (said talk j)) (of via a')) (x.at.side via).account
        (answers x.hosts a' (said talk j) (said talk j).turn x.says.0 via))

    -- what the poll of this turn is told
    told_figure : (i : ℕ) → asked_for h j ≡ Some i
        → IsFigured c via talk (told_then true (oldest (of via x.hosts)) via x.controller (x.at.side via).told) j
    told_figure i about =
        let t = trace_of (take j talk) in
        let s = submission_at h j i in
        let old : oldest (of via x.hosts) ≡ Some s = ap oldest (x.at.side via).account
        ∙ (oldest_is (credits_of c via) h j ∙ ap (option_map (submission_at h j)) about) in
        let figure = figure_now c via picks t x.controller s x.keeps in
        rw old (
          figure ∙ ap (λ o. figure_of c t (name_on via (reference_found h o))) (sym about),
          λ w. subst (λ y. 1 ≤ y) (sym figure) (some_now c via picks t x.controller s x.keeps w),
        )

    flight_then : (b : Bool) → is_poll (own_part via (said talk j)) ≡ b → (p : ℕ) → in_flight h (j + 1) ≡ Some p
        → IsFigured c via talk (told_then b (oldest (of via x.hosts)) via x.controller (x.at.side via).told) p
    flight_then true n p f =
        subst (IsFigured c via talk _) (sym (flight_new (credits_of c via) h j p goes_of.apart (ap is_poll at ∙ n) f))
        (told_figure (goes_of.polls (ap is_poll at ∙ n)).1 (goes_of.polls (ap is_poll at ∙ n)).2)
    flight_then false n p f = (x.at.side via).flight p
        (flight_back (credits_of c via) h j p (x.at.side via).apart (ap is_poll at ∙ n) f)

    figures_of : (i p : ℕ) → handed_over h j ≡ Some p → asks_about h i p ≡ true
        → (figure_in (end_heard (own_part via (said talk j))) ≡ Some (figure_told c via talk p))
        × (is_outstanding h j i ≡ true → 1 ≤ figure_told c via talk p)
    figures_of i p f about =
        let side = x.at.side via in
        let own = found_out h j p _ f in
        let end = some_end (reference h p) _ own.1 in
        let heard = ap end_heard (sym at) ∙ end.1 in
        let first = first_of picks x.hosts a' x.controller h' (said talk j) x.says match_at via end.0 heard in
        let parts = and_parts (is_poll (moment h p)) (is_it i (asked_for h p)) about in
        let told = answer_is side end.0 first.0 first.1 i p (flies (credits_of c via) h j p side.apart own.0 parts.0)
        end.2 (it_is i (asked_for h p) parts.1) in
        (ap figure_in heard ∙ told.0, told.1)

    turn_on : TurnsOn c via talk j (of via a') h'
    turn_on = record {
      tells = record {
        goes = subst (Goes (credits_of c via) h j) goes_of.kept goes_of;
        sent = λ m f q.
            let by = sent_of x.hosts a' x.controller (said talk j) (said talk j).turn x.says.0 x.says.2 match_at
            via m f q in (by.0, by.1 ∙ sym (ap reference_in at));
        figures = figures_of;
      };
      next = record {
        account = goes_of.kept;
        apart = goes_of.apart;
        told = told_after x.hosts x.controller (said talk j) (said talk j).turn via (x.at.side via).told;
        match = says_keeps picks x.hosts a' x.controller h' (said talk j) x.says via (x.at.side via).told
            (x.at.side via).match;
        flight = flight_then _ refl;
      };
    }

  pub turn : Turns c picks picker talk j a' h'
  turn = turns_of turn_on
