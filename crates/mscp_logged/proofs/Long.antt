-- Each end of a port's log is as long as its endcode asks.
use Rattle.mscp_logged.proofs.Common.{All-from_recursion, AllByRecursion, Answered, AsksAlways, BodyKind, Bool, Call, Deals, IsWhole, Keeps, List, Moment, None, Option, Outgoing, Picking, Port, PortsEndWhatTheyTook, PortsTellInOrder, ReadsBytes, Said, Seen, Sent, Some, [], ap, arith, asked_before, awaited, begins, begun_one, cond, end_length, ends_in, every_append, every_parts, false, flat_map, held, inl, inr, is_long, kind_of_code, le-leb, least_end, leaves, length, logged, map, message_of, moment_at, nat_le, option_to_list, outstanding, refl, said, said_in, since_alive, slice_index, subst, sym, take, true, ℕ, ◌∷◌, ◌≡◌, ◌≤◌}
use Rattle.mscp_logged.proofs.Begun.{Begun}
use Rattle.mscp_packet.specs.Ends.{least_with}
use Rattle.mscp_port.specs.declared.port.OutgoingKind.TheVariants as kinds
use Rattle.mscp_wire.specs.declared.rule.Rule.TheVariants as rules
use Rattle.mscp_wire.specs.declared.moment.Moment.TheVariants as moments
use Rattle.mscp_logged.proofs.Breaking.{keeps_so, moment_holds}
use Rattle.mscp_logged.proofs.Own.{answers_so, own_is_whole}
use Rattle.mscp_logged.proofs.Seen.{reads_before}
use Rattle.mscp_logged.proofs.Walking.{IsCall, walk}

-- ---- a whole end is long

-- an endcode asks for no more than 12 bytes, or for as many as the body has that is its own
least_none : (code : ℕ) → kind_of_code code ≡ None → least_end code ≤ 12
least_none code e = omega (arith, ap least_with e)

least_some : (code : ℕ) (kind : BodyKind) → kind_of_code code ≡ Some kind → least_end code ≤ end_length kind
least_some code kind e = omega (arith, ap least_with e)

pub whole_long : (text : List ℕ) → IsWhole text → is_long text ≡ true
whole_long text whole = by (kind_of_code (slice_index text 8)) refl
  where
    at_least : (n : ℕ) → n ≤ length text → nat_le n (length text) ≡ true
    at_least n low = le-leb n (length text) low

    long : least_end (slice_index text 8) ≤ length text → is_long text ≡ true
    long low = grind (arith, at_least)

    by : (o : Option BodyKind) → kind_of_code (slice_index text 8) ≡ o → is_long text ≡ true
    by None e = long (search (arith, whole.long, least_none (slice_index text 8) e))
    by (Some kind) e = long (search (arith, whole.body kind e, least_some (slice_index text 8) kind e))

-- ---- all that is said

abbrev IsLong : Said → Type 0
IsLong s = s.kind ≡ kinds.End → is_long s.text ≡ true

-- and all moments of a log
abbrev IsLongMoment : Moment → Type 0
IsLongMoment (moments.Message via b time) = Unit {0}
IsLongMoment (moments.End via b) = is_long b.items ≡ true
IsLongMoment m = Unit {0}

module _ {K : Type 0} {picks : Picking K} (run : Begun picks) (ends : PortsEndWhatTheyTook picks run.picker)
    (tell : PortsTellInOrder picks) where
  open run use {c, valid, before, hardware, credits, controller, start, was, made, quiet}

  -- what begins to go out by a call
  begun_long : (p : Port K) (call : Call) (calls : List Call) (a : Answered picks start (call ∷ calls) p)
      → Deals (awaited picks start a.0 calls a.1) call a.0 p
      → AllByRecursion IsLong (map said_in (begins a.0.outgoing p.outgoing))
  begun_long p call calls a (inl q) = subst (λ os. AllByRecursion IsLong (map said_in os)) (sym q.begun) tt
  begun_long p call calls a (inr (inl q)) = grind arith
  begun_long p call calls a (inr (inr (inl q))) = grind (arith, begun_one, whole_long)
  begun_long p call calls a (inr (inr (inr (inl q)))) = grind arith
  begun_long p call calls a (inr (inr (inr (inr q)))) =
      subst (λ os. AllByRecursion IsLong (map said_in os))
      (sym (begun_one a.0.outgoing p.outgoing q.out q.nothing q.begun)) (
        (λ kind. whole_long q.out.bytes.items
            (own_is_whole a.0 q.message q.out (answers_so picks call a.0 p a.2 q) kind)),
        tt,
      )

  said_long : (p : Port K) (calls : List Call) → AsksAlways calls → ReadsBytes calls
      → (a : Answered picks start calls p) → AllByRecursion IsLong (said picks start p calls a)
  said_long = walk run ends (λ p calls a. AllByRecursion IsLong (said picks start p calls a))
      (λ p calls asks a none. rw none.said tt) (λ p call calls a is so_far. rw (since_alive p.stage call _ _ is.never
      is.lives) (every_append IsLong (said picks start a.0 calls a.1) (map said_in (begins a.0.outgoing p.outgoing))
      so_far (begun_long p call calls a is.deals)))

  -- what goes out is of that
  held_long : (p : Port K) (calls : List Call) → AsksAlways calls → ReadsBytes calls
      → (a : Answered picks start calls p) → AllByRecursion IsLong (held p)
  held_long p calls asks reads a =
      let t = (tell hardware credits controller start p calls made asks a).0 in
      (every_parts IsLong t.0 (held p)
      (subst (λ ss. AllByRecursion IsLong ss) (sym t.1) (said_long p calls asks reads a))).1

  -- ---- all that is logged

  messages_long : (b : Bool) (ts : List (List ℕ)) → AllByRecursion IsLongMoment (cond b [] (map message_of ts))
  messages_long false (t ∷ ts) = (tt, messages_long false ts)
  messages_long b ts = grind arith

  left_long : (old new : Option Outgoing) → AllByRecursion IsLong (map said_in (option_to_list old))
      → AllByRecursion IsLongMoment (flat_map ends_in (leaves old new))
  left_long old new long = grind arith

  moment_long : (p : Port K) (call : Call) (calls : List Call) (a : Answered picks start (call ∷ calls) p)
      → IsCall picks start p call calls a → AllByRecursion IsLongMoment (logged picks start a.0 calls a.1)
      → AllByRecursion IsLongMoment (logged picks start p (call ∷ calls) a)
  moment_long p call calls a is so_far =
      grind (arith, since_alive, every_append, messages_long, left_long, held_long, asked_before, reads_before)

  pub logged_long : (p : Port K) (calls : List Call) → AsksAlways calls → ReadsBytes calls
      → (a : Answered picks start calls p) → AllByRecursion IsLongMoment (logged picks start p calls a)
  logged_long = walk run ends (λ p calls a. AllByRecursion IsLongMoment (logged picks start p calls a))
      (λ p calls asks a none. rw none.logged tt) (λ p call calls a is so_far. moment_long p call calls a is so_far)

  -- ---- the law

  pub keeps_length : (p : Port K) (calls : List Call) (limit : Option ℕ) → AsksAlways calls → ReadsBytes calls
      → (a : Answered picks start calls p) → Keeps rules.Length limit (logged picks start p calls a)
  keeps_length p calls limit asks reads a = keeps_so limit (logged picks start p calls a) rules.Length
      (λ i low unit. by (outstanding (take i (logged picks start p calls a))) unit
      (moment_at (logged picks start p calls a) i)
      (All-from_recursion IsLongMoment (logged picks start p calls a) (logged_long p calls asks reads a) i moments.Reset
      low))
    where
      by : (xs : List Sent) (unit : Seen) (m : Moment) → IsLongMoment m → moment_holds xs unit m rules.Length ≡ true
      by xs unit m long = grind arith
