-- What is outstanding on the wire after one more moment.
use Rattle.mscp_shown.proofs.Common.{Answer, Bool, Connection, First, History, List, Moment, Option, Sent, Some, Trace, Wired, [], and_parts, ap, append-nil, arith, command_at, cond, count_by, eqb-true, false≢true, flat_map-append, fold_push, is_named, length, num, place_of, polled_by, position-Some, sent_by, shown, shown_by, sum_by_push, sym, true, ℕ, ◌&&◌, ◌++◌, ◌+◌, ◌<◌, ◌∙◌, ◌∷◌, ◌≡◌}
use Rattle.mscp_wire.specs.Wire.{same_connection}
use Rattle.mscp_shown.proofs.Strict.{after, after_end, hears, outstanding}
use Rattle.mscp_shown.proofs.Counts.{removed}

pub shown_more : (t : Trace) (m : Moment) → shown (t ++ m ∷ []) ≡ shown t ++ shown_by m.0 m.1
unfolding shown
shown_more t m = search (arith, flat_map-append, append-nil (shown_by m.0 m.1))

pub after_more : (h : History) (m : Wired) → outstanding (h ++ m ∷ []) ≡ after (outstanding h) m
after_more h m = fold_push after [] h m

-- how many of the outstanding commands of a connection have a reference number that passes
abbrev pub tally : Connection → (ℕ → Bool) → List Sent → ℕ
tally via p xs = count_by (λ s. same_connection s.connection via && p s.reference) xs

pub tally_sent : (via own : Connection) (p : ℕ → Bool) (xs : List Sent) (b : List ℕ)
    → tally via p (xs ++ sent_by own b ∷ [])
    ≡ tally via p xs + cond (same_connection own via && p (num b 0 4)) 1 0
tally_sent via own p xs b = grind (arith, sum_by_push)

pub one_side : (a b : Connection) → same_connection a b ≡ true → a ≡ b
one_side a b h = grind (arith, false≢true)

-- what a command hears changes nothing of its name
pub hears_apart : (e : Answer) (o : Option ℕ) (via : Connection) (p : ℕ → Bool) (s : Sent)
    → (same_connection (hears e o s).connection via && p (hears e o s).reference)
    ≡ (same_connection s.connection via && p s.reference)
hears_apart e o via p s = grind arith

-- the command that an end answers has its name
pub record IsPlace (xs : List Sent) (e : Answer) (i : ℕ) : Type 0 where
  pub low : i < length xs
  pub connection : (command_at xs i).connection ≡ e.connection
  pub reference : (command_at xs i).reference ≡ e.reference

pub placed : (xs : List Sent) (e : Answer) (i : ℕ) → place_of xs e ≡ Some i → IsPlace xs e i
placed xs e i h =
    let p = position-Some (is_named e.connection e.reference) xs i (sent_by First []) h in
    let n = and_parts _ _ p.1 in
    record {
      low = p.0;
      connection = one_side (command_at xs i).connection e.connection n.0;
      reference = eqb-true (command_at xs i).reference e.reference n.1;
    }

pub tally_end : (via : Connection) (p : ℕ → Bool) (xs : List Sent) (e : Answer) (i : ℕ) → place_of xs e ≡ Some i
    → tally via p (after_end xs e (Some i)) + cond (same_connection e.connection via && p e.reference) 1 0
    ≡ tally via p xs
tally_end via p xs e i h =
    let at = placed xs e i h in
    let o = polled_by (command_at xs i) e in
    let gone = removed (λ (s : Sent). same_connection s.connection via && p s.reference) (hears e o) xs i
    (sent_by First []) (hears_apart e o via p) at.low in
    let named : cond (same_connection (command_at xs i).connection via && p (command_at xs i).reference) 1 0
    ≡ cond (same_connection e.connection via && p e.reference) 1 0 =
    ap (λ v. cond (same_connection v via && p (command_at xs i).reference) 1 0) at.connection
    ∙ ap (λ n. cond (same_connection e.connection via && p n) 1 0) at.reference in
    ap (λ n. tally via p (after_end xs e (Some i)) + n) (sym named) ∙ gone
