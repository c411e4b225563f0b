-- Each call of a list tells the cookies that were sent.
use Rattle.mscp_controller.specs.declared.entry.Sent.TheVariants as sents
use Rattle.mscp_tracked.proofs.Common.{Bool, true, false, List, [], ◌∷◌, ◌++◌, ℕ, ◌≡◌, ◌∙◌, refl, sym, ap, subst, Option, Some, None, Result, Ok, Err, if◌then◌else◌, get_or, is_some, unwrap_or, option_map, drop, position, slice_get, true≢false, false≢true, position-Some, drop-map, find, AreApart, names, command_of, Block, Connection, First, Second, of, put, End, Record, has_name, name_of, name_on, no_record, record_at, same_is, Name, Choice, Upcoming, Drive, Holdings, SendFault, Sent, cookie_in, taken, refusal, outstanding_of, balance_of, is_queued, held_unless, sent_unless, aborts_none, queued, aborting, answered_end, with_end, reference_aborted, after_message, answer_to_message, upcoming_begun, begun_step, place_begun, upcoming_name, Beginning, Finished, Tracking, BeginsAfter, Serves, beginning_of, cookies_sent, new_after, AnswersCall, Call, CookiesAreKept, HasCookie, SoundlyAnswered, TellsCookies, cookie_since, cookie_with, Ended, oldest_end, end_taken, end_bytes, IsEndWith, Taken}
use Rattle.mscp_tracked.proofs.Begun.{named_so}
use Rattle.mscp_tracked.proofs.Cookied.{AreOwn, arrived_owns, own, own_at, own_ends, own_sent, sent_with, still_own, step_owns, unheld}
use Rattle.mscp_tracked.proofs.Serials.{same_ok}
use Rattle.mscp_tracked.proofs.Stepped.{begun_waiting}

-- ---- a message
module _ {K : Type 0} (f : Name → ℕ) (t : Tracking K) (via : Connection) (b : List ℕ) (cookie : ℕ)
    (apart : AreApart (names t.controller.waiting)) (o : AreOwn f t.controller t.cookies) where
  abbrev H : Holdings K
  H = t.controller

  abbrev Came : Result Sent SendFault → Holdings K → Type 0
  Came became new = AreOwn (cookie_with f (Call.Send via b cookie became)) new (cookies_sent via t b cookie became)

  arrived : (q : Bool) → AreOwn (sent_with f (name_on via (command_of b).reference) cookie) H t.cookies
      → Came (Ok (if q then sents.Queued (command_of b).reference
      else sents.Answered (command_of b).reference (reference_aborted via H.waiting (command_of b).order)))
      (if q then queued via H (command_of b)
      else with_end via (aborting via H (command_of b).order) (answered_end via H (command_of b)))
  arrived true s = arrived_owns (sent_with f (name_on via (command_of b).reference) cookie) H t.cookies via apart s
      (command_of b) cookie true (sym (own_sent f (name_on via (command_of b).reference) cookie))
  arrived false s = arrived_owns (sent_with f (name_on via (command_of b).reference) cookie) H t.cookies via apart s
      (command_of b) cookie false (sym (own_sent f (name_on via (command_of b).reference) cookie))

  unless : (fault : Option SendFault) → refusal (balance_of via H) (outstanding_of via H) b ≡ fault
      → Came (sent_unless via H (command_of b) fault) (held_unless via H (command_of b) fault)
  unless (Some fault) e = record { waiting = o.waiting; first = o.first; second = o.second }
  unless None e = arrived (is_queued H.settings (command_of b)) (still_own f H t.cookies via (command_of b).reference
      cookie (unheld (balance_of via H) (outstanding_of via H) b e) o)

  pub came : Came (answer_to_message via H b) (after_message via H b)
  came = unless (refusal (balance_of via H) (outstanding_of via H) b) refl

-- ---- what is begun
cookie_at : (f : Name → ℕ) (rs : List Record) (ks : List ℕ) (name : Name) (place : Option ℕ)
    → place ≡ position (has_name name) rs → ks ≡ own f rs → (r : Record) → find (has_name name) rs ≡ Some r
    → cookie_in ks place ≡ f name
cookie_at f rs ks name None e o r found =
    absurd (false≢true (ap is_some (sym (aborts_none name rs (sym e)).found ∙ found)))
cookie_at f rs ks name (Some k) e o r found =
    let at = position-Some (has_name name) rs k no_record (sym e) in
    ap (λ ws. get_or ws k 0) o ∙ (own_at f rs k at.0 ∙ ap f (same_is (name_of (record_at rs k)) name at.1))

begun_cookie : (f : Name → ℕ) (ds : List Drive) (rs : List Record) (ks : List ℕ) (begun : Option Name) (u : Upcoming)
    → ks ≡ own f rs → upcoming_begun ds rs begun ≡ Some u
    → cookie_in ks (place_begun rs begun) ≡ f (upcoming_name u)
begun_cookie f ds rs ks None u o e = absurd (false≢true (ap is_some e))
begun_cookie f ds rs ks (Some name) u o e =
    let found = named_so ds rs name u (find (has_name name) rs) refl e in
    cookie_at f rs ks name (position (has_name name) rs) refl o found.0 found.1
    ∙ ap f (sym (ap upcoming_name (sym found.2) ∙ found.3))

told_cookie : {K : Type 0} (f : Name → ℕ) (t : Tracking K) (told : Beginning) (u : Option Upcoming)
    → u ≡ begun_step t.controller → Some told ≡ option_map (beginning_of t) u → AreOwn f t.controller t.cookies
    → told.cookie ≡ f (upcoming_name told.upcoming)
told_cookie f t told None e s o = absurd (true≢false (ap is_some s))
told_cookie f t told (Some u) e s o =
    let is : told ≡ beginning_of t u = ap (λ z. unwrap_or z told) s in
    let h = t.controller in
    ap (λ z. z.cookie) is ∙ (begun_cookie f h.drives h.waiting t.cookies.waiting h.begun u o.waiting (sym e)
    ∙ ap (λ z. f (upcoming_name z.upcoming)) (sym is))

-- ---- the oldest end
looked : (f : Name → ℕ) (via : Connection) (es : List End) (ks : List ℕ) (e : Ended) → ks ≡ own_ends f via es
    → Some e ≡ option_map (λ end. record { end = end; cookie = get_or ks 0 0 }) (slice_get es 0)
    → e.cookie ≡ f (name_on via e.end.reference)
looked f via [] ks e o s = absurd (true≢false (ap is_some s))
looked f via (x ∷ xs) ks e o s =
    let is : e ≡ record { end = x; cookie = get_or ks 0 0 } = ap (λ z. unwrap_or z e) s in
    ap (λ z. z.cookie) is ∙ (ap (λ z. get_or z 0 0) o ∙ ap (λ z. f (name_on via z.end.reference)) (sym is))

took : (f : Name → ℕ) (via : Connection) (es : List End) (ks : List ℕ) (t : Taken) → ks ≡ own_ends f via es
    → Some t ≡ option_map (λ bytes. record { end = bytes; cookie = get_or ks 0 0 })
    (option_map (λ e. record { items = end_bytes e }) (slice_get es 0)) → IsEndWith f via t.end.items t.cookie
took f via [] ks t o s = absurd (true≢false (ap is_some s))
took f via (x ∷ xs) ks t o s =
    let is : t ≡ record { end = record { items = end_bytes x }; cookie = get_or ks 0 0 } = ap (λ z. unwrap_or z t) s in
    (x, ap (λ z. z.end.items) is, ap (λ z. z.cookie) is ∙ ap (λ z. get_or z 0 0) o)

-- ---- a call
module _ {K : Type 0} (picks : List Choice → ℕ → Type 0) where
  abbrev Owns : (Name → ℕ) → Tracking K → Type 0
  Owns f t = AreOwn f t.controller t.cookies

  same_owns : (f : Name → ℕ) (old new : Tracking K) → new ≡ old → Owns f old → Owns f new
  same_owns f old new e o = subst (Owns f) (sym e) o

  begins_own : (f : Name → ℕ) (begun : Option Name) (told : Option Beginning) (old new : Tracking K)
      → BeginsAfter begun picks old told new → Owns f old → Owns f new
  begins_own f (Some name) told old new a o = same_owns f old new a o
  begins_own f None told old new a o = record {
    waiting = ap (λ z. z.waiting) a.cookies ∙ (o.waiting
        ∙ ap (own f) (sym (begun_waiting picks old.controller new.controller _ a.begins)));
    first = ap (λ z. z.untaken.first) a.cookies ∙ (o.first
        ∙ ap (λ z. own_ends f First z.first) (sym a.begins.untaken));
    second = ap (λ z. z.untaken.second) a.cookies ∙ (o.second
        ∙ ap (λ z. own_ends f Second z.second) (sym a.begins.untaken));
  }

  module _ (f : Name → ℕ) (old new : Tracking K) (apart : AreApart (names old.controller.waiting))
      (o : Owns f old) where
    serves_own : (k : Block) (finished : Finished) → Serves picks k old finished new
        → HasCookie f finished.report finished.cookie × Owns f new
    serves_own k finished a = step_owns f picks k old.controller new.controller old.cookies new.cookies o apart
        finished.report finished.cookie a.steps a.cookie a.cookies

    takes_own : (via : Connection) → Owns f (record old {
      controller = record old.controller {
        untaken = put via (drop 1 (of via old.controller.untaken))
            old.controller.untaken;
      };
      cookies = taken via old.cookies;
    })
    takes_own First = record {
      waiting = o.waiting;
      first = ap (drop 1) o.first ∙ drop-map (λ e. f (name_on First e.reference)) 1 old.controller.untaken.first;
      second = o.second;
    }
    takes_own Second = record {
      waiting = o.waiting;
      first = o.first;
      second = ap (drop 1) o.second ∙ drop-map (λ e. f (name_on Second e.reference)) 1 old.controller.untaken.second;
    }

    looks_own : (via : Connection) (e : Ended) → Some e ≡ oldest_end via old
        → e.cookie ≡ f (name_on via e.end.reference)
    looks_own First e s = looked f First old.controller.untaken.first old.cookies.untaken.first e o.first s
    looks_own Second e s = looked f Second old.controller.untaken.second old.cookies.untaken.second e o.second s

    took_own : (via : Connection) (t : Taken) → Some t ≡ end_taken via old → IsEndWith f via t.end.items t.cookie
    took_own First t s = took f First old.controller.untaken.first old.cookies.untaken.first t o.first s
    took_own Second t s = took f Second old.controller.untaken.second old.cookies.untaken.second t o.second s

    call_owns : (call : Call) → AnswersCall picks old call new → TellsCookies f call × Owns (cookie_with f call) new
    call_owns (Call.Send via b cookie became) a = (
      tt,
      subst (Owns (cookie_with f (Call.Send via b cookie became)))
          (sym a.1) (subst (λ r. AreOwn (cookie_with f (Call.Send via b cookie r)) (after_message via old.controller b)
          (cookies_sent via old b cookie (answer_to_message via old.controller b))) (sym a.0)
          (came f old via b cookie apart o)),
    )
    call_owns (Call.Look via None) a = (tt, same_owns f old new a.1 o)
    call_owns (Call.Look via (Some e)) a = (looks_own via e a.0, same_owns f old new a.1 o)
    call_owns (Call.Take via None) a = (tt, subst (Owns f) (sym a.1) (takes_own via))
    call_owns (Call.Take via (Some t)) a = (took_own via t a.0, subst (Owns f) (sym a.1) (takes_own via))
    call_owns (Call.Begin None) a = (tt, begins_own f old.controller.begun None old new a.left o)
    call_owns (Call.Begin (Some told)) a =
        let owns = begins_own f old.controller.begun (Some told) old new a.left o in
        (told_cookie f new told (begun_step new.controller) refl a.tells owns, owns)
    call_owns (Call.FinishBegun serial k (Ok finished)) a = serves_own k finished a.1
    call_owns (Call.FinishBegun serial k (Err failure)) a = (tt, same_owns f old new a.1 o)
    call_owns (Call.Finish via reference k (Ok finished)) a = serves_own k finished a.1
    call_owns (Call.Finish via reference k (Err failure)) a = (tt, same_owns f old new a.1 o)
    call_owns (Call.Step k finished) a = serves_own k finished a
    call_owns Call.Reset a = (tt, subst (Owns f) (sym a) (record { waiting = refl; first = refl; second = refl }))
    call_owns (Call.Restore number) a = (tt, same_owns f old new (same_ok _ old new a.0 a.1) o)

  run_owns : (before behind : List Call) (call : Call) (f : Name → ℕ) (old held : Tracking K)
      → AreApart (names old.controller.waiting) → Owns f old
      → SoundlyAnswered picks old (before ++ call ∷ behind) held → TellsCookies (cookie_since f before) call
  run_owns [] behind call f old held apart o a = (call_owns f old a.0 apart o call a.1).0
  run_owns (x ∷ before) behind call f old held apart o a =
      run_owns before behind call (cookie_with f x) a.0 held a.2.queue.apart (call_owns f old a.0 apart o x a.1).1 a.3

pub cookies_are_kept : {K : Type 0} (picks : List Choice → ℕ → Type 0) (picker : K) → CookiesAreKept picks picker
cookies_are_kept picks picker = λ beginnings c held before behind call a.
    run_owns picks before behind call (λ name. 0) (new_after beginnings c picker) held tt
    (record { waiting = refl; first = refl; second = refl }) a
