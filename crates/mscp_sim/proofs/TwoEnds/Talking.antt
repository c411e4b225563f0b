-- A talk that goes on by one turn.
use Rattle.mscp_sim.proofs.Common.{◌≡◌, ℕ, ◌+◌, ◌<◌, List, [], ◌∷◌, ◌++◌, take, length, get_or, refl, ap, ◌∙◌, append_assoc, append-nil, arith, Option, option_to_list, flat_map-append, map-append, take_more, Choice, Both, Moment, Trace, Holdings, owner_kept, Account, Lists, Turn, Heard, Match, Said, Talk, Converses, Goes, GoesOn, AnswersTurn, Says}

converses_push : {K : Type 0} (picks : List Choice → ℕ → Type 0) (a m a' : Both Account) (h n h' : Holdings K)
    (talk : Talk) (s : Said) → Converses picks a h talk m n → Says picks m n s a' h'
    → Converses picks a h (talk ++ s ∷ []) a' h'
converses_push {K} picks a m a' h n h' [] s r one =
    let both : Says picks a h s a' h' = search arith in
    (a', h', both, (refl, refl))
converses_push picks a m a' h n h' (t ∷ talk) s r one =
    (r.0, r.1, r.2, converses_push picks r.0 m a' r.1 n h' talk s r.3 one)

same_picker : {K : Type 0} (picks : List Choice → ℕ → Type 0) (h h' : Holdings K) (o : Option Moment)
    → AnswersTurn picks h o h' → h'.picker ≡ h.picker
same_picker picks h h' o h1 = search (arith, owner_kept)

-- what the hosts and the controller keep, and what was heard and the trace so far
pub record Kept (K : Type 0) : Type 0 where
  pub hosts : Both Account
  pub controller : Holdings K
  pub lists : List Heard × Trace

abbrev pub kept : {K A : Type 0} → Both Account → Holdings K → Lists A → Kept K
kept hosts controller talk =
    record { hosts = hosts; controller = controller; lists = (talk.heard.items, talk.trace.items) }

-- these turns go on so from the one to the other
abbrev pub GoesTo : {K : Type 0} → (List Choice → ℕ → Type 0) → Kept K → List Turn → Kept K → Type 0
GoesTo picks old ts new = GoesOn picks old.hosts old.controller ts old.lists new.lists new.hosts new.controller

-- what was said so far
pub record Talks {K : Type 0} (picks : K → List Choice → ℕ → Type 0) (old new : Kept K) (ts : List Turn) : Type 0 where
  pub goes : GoesTo (picks old.controller.picker) old ts new
  pub picker : new.controller.picker ≡ old.controller.picker

pub talks_none : {K : Type 0} (picks : K → List Choice → ℕ → Type 0) (old : Kept K) → Match old.hosts old.controller
    → Talks picks old old []
talks_none picks old m = search (arith, append-nil old.lists.0, append-nil old.lists.1)

-- one more turn, of which this was returned: the lists grow by it
pub record Grows {K : Type 0} (picks : List Choice → ℕ → Type 0) (old new : Kept K) (turn : Turn) : Type 0 where
  pub told : Heard × Option Moment
  pub goes : Goes picks old.hosts old.controller turn told new.hosts new.controller
  pub heard : new.lists.0 ≡ old.lists.0 ++ told.0 ∷ []
  pub trace : new.lists.1 ≡ old.lists.1 ++ option_to_list told.1

goes_more : {K : Type 0} (picks : List Choice → ℕ → Type 0) (old now new : Kept K) (ts : List Turn) (turn : Turn)
    → GoesTo picks old ts now → Grows picks now new turn → GoesTo picks old (ts ++ turn ∷ []) new
goes_more picks old now new ts turn g x =
    let heard = x.told.0 in
    let moment = x.told.1 in
    let s : Said = record { turn = turn; heard = heard; moment = moment } in
    record {
      talk = g.talk ++ s ∷ [];
      turns = map-append (λ (x : Said). x.turn) g.talk (s ∷ []) ∙ ap (λ xs. xs ++ turn ∷ []) g.turns;
      heard = grind (arith, append_assoc, map-append, heard, s);
      trace = grind (arith, append_assoc, flat_map-append, append-nil, moment, s);
      says = grind (arith, converses_push, s);
      match = x.goes.1;
    }

pub talks_more : {K : Type 0} (picks : K → List Choice → ℕ → Type 0) (old now new : Kept K) (all : List Turn) (i : ℕ)
    (turn : Turn) → i < length all → turn ≡ get_or all i turn → Talks picks old now (take i all)
    → Grows (picks now.controller.picker) now new turn → Talks picks old new (take (i + 1) all)
talks_more {K} picks old now new all i turn l e t x = search (arith, take_more all i turn l, goes_more, same_picker)
