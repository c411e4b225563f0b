-- Moments that serve nobody: what is held after them.
use Rattle.mscp_controller.proofs.Basics.{◌≡◌, ℕ, ◌+◌, ◌<◌, ◌≤◌, true, false, cond, not, List, [], ◌∷◌, ◌++◌, map, drop, length, ap, sym, ◌∙◌, append-nil, arith, count_by, filter, None, AllByRecursion, drop-drop, map-append, End, command_of, Connection, Name, Record, fresh_record, name_of, Settings, Both, of, Trace, Moment, connection_of, queues, sent_bytes, takes, service_in, waiting, done, good, ends_in, passed, ends_at, ends, untaken, IsRight, every_kept, every_weaker, every_from, filter_all, filter_map_of, map_on, command_before, command_last, connection_before, connection_last, done_last, good_before, waiting_more, taken_more, ends_more, waiting_below, passed_last, done_kept, none_starts, drop_last}
use Rattle.mscp_controller.proofs.Promise.Known.{known_more}
use Rattle.mscp_controller.proofs.Bridge.Held.{held_of, Follows}

-- the moment serves nobody and ends nobody
pub record IsQuiet (m : Moment) : Type 0 where
  pub unserved : service_in m.1 ≡ None
  pub kept : (r : Name) → ends_in r m.1 ≡ false

-- ---- one command
-- a record of which nothing changes
pub held_same : (t : Trace) (m : Moment) (x : ℕ) → x < length t → done (t ++ m ∷ []) x ≡ done t x
    → good (t ++ m ∷ []) x ≡ good t x → passed (t ++ m ∷ []) x ≡ passed t x → held_of (t ++ m ∷ []) x ≡ held_of t x
held_same t m x l d g p = search (arith, command_before t m x l, connection_before t m x l)

-- the record of each that waits stays
abbrev pub Keeps : Trace → Trace → ℕ → Type 0
Keeps t t' x = held_of t' x ≡ held_of t x

keeps : (t : Trace) (m : Moment) → service_in m.1 ≡ None → AllByRecursion (Keeps t (t ++ m ∷ [])) (waiting t)
keeps t m e = search (arith, waiting_below t, every_weaker, held_same, done_kept, good_before, none_starts)

pub records_kept : (t t' : Trace) (xs : List ℕ) → AllByRecursion (Keeps t t') xs
    → map (held_of t') xs ≡ map (held_of t) xs
records_kept t t' xs k = map_on (held_of t') (held_of t) xs k

-- ---- nobody comes
-- What is held after a moment that serves nobody and queues nobody: the records of the commands that it doesn't end.
pub follows_left : (c : Settings) (t : Trace) (m : Moment) (ws ws' : List Record) (us us' : Both (List End))
    → 1 ≤ c.longest → IsRight c t m.0 m.1 → service_in m.1 ≡ None → queues m.1 ≡ false → ws'
    ≡ filter (λ r. not (ends_in (name_of r) m.1)) ws → ((via : Connection) → of via us' ≡ untaken c via (t ++ m ∷ []))
    → Follows c t ws us → Follows c (t ++ m ∷ []) ws' us'
follows_left c t m ws ws' us us' l r unserved n left e f =
    search (arith, waiting_more, keeps, append-nil, every_kept, known_more, filter_map_of, records_kept)

-- ---- a command comes
-- What is held after a command was queued: its record comes last.
pub follows_queued : (c : Settings) (t : Trace) (m : Moment) (ws : List Record) (us us' : Both (List End))
    → 1 ≤ c.longest → IsRight c t m.0 m.1 → IsQuiet m
    → queues m.1 ≡ true → ((via : Connection) → of via us' ≡ untaken c via (t ++ m ∷ [])) → Follows c t ws us
    → Follows c (t ++ m ∷ []) (ws ++ fresh_record (connection_of m.0) (command_of (sent_bytes m.0)) ∷ []) us'
unfolding good
follows_queued c t m ws us us' l r q n e f = search (
  arith,
  keeps,
  known_more c l t m r f.known,
  records_kept,
  map-append,
  waiting_more,
  filter_all,
  every_from,
  command_last,
  connection_last,
  done_last,
  passed_last,
  drop_last,
)

-- ---- an end is taken
-- Where an end is taken, the others stay.
pub untaken_taken : (c : Settings) (via : Connection) (t : Trace) (m : Moment) → takes via m.1 ≡ true
    → ends_at c via t m ≡ [] → untaken c via (t ++ m ∷ []) ≡ drop 1 (untaken c via t)
unfolding untaken
untaken_taken c via t m e n =
    let k = count_by (λ (n : Moment). takes via n.1) t in
    let one : count_by (λ (n : Moment). takes via n.1) (t ++ m ∷ []) ≡ k + 1 =
    taken_more via t m ∙ ap (λ b. k + cond b 1 0) e in
    let same : ends c via (t ++ m ∷ []) ≡ ends c via t = grind (arith, ends_more, append-nil) in
    ap (λ j. drop j (ends c via (t ++ m ∷ []))) one ∙ (ap (drop (k + 1)) same ∙ sym (drop-drop 1 k (ends c via t)))
