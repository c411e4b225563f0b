-- What a turn in which an end is handed over leaves, and one in which there is none.
use Rattle.mscp_sim.proofs.Common.{◌≡◌, ℕ, List, [], ◌∷◌, drop, refl, ap, sym, ◌∙◌, subst, option_map, Option, Some, None, is_some, slice_get, unwrap_or, Ok, false≢true, ArrayVec, End, end_bytes, IsEnd, Moment, Connection, of, put, Holdings, after_take, end_taken, Account, answered, heard, news_with, received, Flight, Matches}
use Rattle.mscp_drive.specs.declared.event.Event.TheVariants as events
use Rattle.mscp_controller.specs.declared.entry.Entry.TheVariants as entries
use Rattle.mscp_sim.proofs.TwoEnds.Handing.{first_heard, received_match}

-- an end as bytes
abbrev end_of : Option End → Option (ArrayVec ℕ)
end_of o = option_map (λ e. record { items = end_bytes e }) o

-- the end that was handed over
pub record Handed {K : Type 0} (via : Connection) (a : Account) (h : Holdings K) (told : Flight)
    (b : List ℕ) : Type 0 where
  pub end : End
  pub rest : List End
  pub untaken : of via h.untaken ≡ end ∷ rest
  pub heard : heard a b ≡ (Ok (news_with a end (answered a.watch end)), received a end)
  pub match : Matches via (received a end) (after_take via h) told

some_when : {K : Type 0} (via : Connection) (a : Account) (h : Holdings K) (told : Flight) (us : List End)
    (b : ArrayVec ℕ) → of via h.untaken ≡ us → end_taken via h ≡ Some b
    → ((e : End) → slice_get (of via h.untaken) 0 ≡ Some e → IsEnd b.items e) → Matches via a h told
    → Handed via a h told b.items
some_when via a h told [] b u e r m = absurd (false≢true (ap is_some (ap (λ xs. end_of (slice_get xs 0)) (sym u) ∙ e)))
some_when {K} via a h told (x ∷ us) b u e r m =
    record {
      end = x;
      rest = us;
      untaken = u;
      heard = first_heard via a h told x us b.items m u (r x (ap (λ xs. slice_get xs 0) u));
      match = subst (λ xs. Matches via (received a x) (record h { untaken = put via xs h.untaken }) told)
          (ap (drop 1) (sym u)) (received_match via a h told x us m u);
    }

pub taken_some : {K : Type 0} (via : Connection) (a : Account) (h : Holdings K) (told : Flight) (b : ArrayVec ℕ)
    → end_taken via h ≡ Some b → ((e : End) → slice_get (of via h.untaken) 0 ≡ Some e → IsEnd b.items e)
    → Matches via a h told → Handed via a h told b.items
taken_some via a h told b e r m = some_when via a h told (of via h.untaken) b refl e r m

-- the bytes that a moment hands over
abbrev pub handed_in : Option Moment → Option (ArrayVec ℕ)
handed_in (Some (event, entries.Taken via end)) = end
handed_in moment = None

-- the moment that hands over this end, or none
abbrev pub handing : Connection → Option (ArrayVec ℕ) → Option Moment
handing via end = Some (events.Take via, entries.Taken via end)

pub no_bytes : (via : Connection) (b : ArrayVec ℕ) → handing via None ≡ handing via (Some b) → ⊥
no_bytes via b e = false≢true (ap (λ o. is_some (handed_in o)) e)

pub same_bytes : (via : Connection) (a b : ArrayVec ℕ) → handing via (Some a) ≡ handing via (Some b) → a ≡ b
same_bytes via a b e = ap (λ o. unwrap_or (handed_in o) a) e
