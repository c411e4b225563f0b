-- What comes from the host of one connection leaves the account of the other's as it was.
use Rattle.mscp_controller.proofs.Basics.{◌≡◌, ◌≢◌, ℕ, Bool, true, false, not, [], ◌∷◌, ◌++◌, length, ap, ◌∙◌, append-nil, arith, filter, cond, Some, true≢false, Connection, Name, same_connection, every_from, every_filter, every_weaker, every_kept, filter_all, one_side, map_on, Event, Entry, Settings, Trace, Moment, comes_by, takes, connection, name, waiting, waiting_by, ends_in, ends_at, balance, outstanding, IsRight, IsUntouched, LeavesOther, command_before, untaken_more, some_same, queues_by, waiting_by_more, waiting_below}
use Rattle.mscp_controller.proofs.Promise.Room.{Room}

-- they are two
pub differ_sides : (a b : Connection) → b ≢ a → same_connection a b ≡ false
differ_sides a b n = search (arith, one_side)

-- the moment says nothing of the connection
record IsForeign (c : Settings) (via : Connection) (t : Trace) (m : Moment) : Type 0 where
  queues : queues_by via m ≡ false
  takes : takes via m.1 ≡ false
  ends : ends_at c via t m ≡ []
  kept : (n : Name) → same_connection n.connection via ≡ true → ends_in n m.1 ≡ false

-- a command of the other connection isn't aborted
foreign_sent : (c : Settings) (own via : Connection) (t : Trace) (event : Event) (entry : Entry) → comes_by event
    ≡ Some own → same_connection own via ≡ false → IsRight c t event entry → IsForeign c via t (event, entry)
foreign_sent c own via t event entry h6 h7 h8 = grind (arith, some_same, true≢false, one_side)

module _ (c : Settings) (via : Connection) (t : Trace) (m : Moment) where
  same_waits : IsForeign c via t m → waiting_by via (t ++ m ∷ []) ≡ waiting_by via t
  same_waits f =
      let on : ℕ → Bool = λ x. same_connection (connection t x) via in
      let keep : ℕ → Bool = λ x. not (ends_in (name t x) m.1) in
      waiting_by_more via t m ∙ (ap (λ b. filter keep (waiting_by via t) ++ cond b (length t ∷ []) []) f.queues
      ∙ (append-nil (filter keep (waiting_by via t)) ∙ filter_all keep (waiting_by via t) (every_weaker (λ x. Unit
      {0} × (on x ≡ true)) (λ x. keep x ≡ true) (λ x h. ap not (f.kept (name t x) h.1)) (waiting_by via t)
      (every_filter (λ x. Unit {0}) on (waiting t) (every_from (λ x. Unit {0}) (λ x. tt) (waiting t))))))

  untouched : Room c t → IsForeign c via t m → IsUntouched c via t (t ++ m ∷ [])
  unfolding balance outstanding
  untouched room f = search
      (arith, same_waits, untaken_more, append-nil, waiting_below, every_kept, map_on, every_weaker, command_before)

pub leaves_other : (c : Settings) (t : Trace) (m : Moment) → IsRight c t m.0 m.1 → Room c t
    → LeavesOther c t m (t ++ m ∷ [])
leaves_other c t m r room own via from n =
    untouched c via t m room (foreign_sent c own via t m.0 m.1 from (differ_sides own via n) r)
