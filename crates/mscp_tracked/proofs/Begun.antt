-- What a call leaves of what is begun.
use Rattle.mscp_controller.specs.declared.entry.Sent.TheVariants.{Answered}
use Rattle.mscp_tracked.proofs.Common.{Bool, true, false, not, List, [], ◌∷◌, ◌++◌, ℕ, ◌≡◌, ◌⊎◌, refl, ap, arith, IfSome, Option, Some, None, Result, Ok, if◌then◌else◌, is_some, find, filter, option_map, false≢true, Command, Order, command_of, Block, Connection, found_is, differ_is, is_differ, is_same, same_is, Record, has_name, name_of, name_on, same_name, without, Name, Report, Choice, Upcoming, upcoming_begun, Drive, upcoming_of, drive_of, SendFault, Sent, Holdings, Steps, after_message, answer_to_message, begun_after, begun_step, held_unless, outstanding_of, balance_of, refusal, sent_unless, upcoming_name}

-- ---- a step
-- after a step nothing is begun
pub step_unbegun : {K : Type 0} (picks : List Choice → ℕ → Type 0) (k : Block) (old : Holdings K) (report : Report)
    (new : Holdings K) → Steps picks k old report new → new.begun ≡ None
step_unbegun picks k old o new s = grind arith

-- ---- a message
-- what has a name is found among others too
find_left : {X : Type 0} (p q : X → Bool) (xs : List X) → ((x : X) → p x ≡ true → q x ≡ true)
    → find p (filter q xs) ≡ find p xs
find_left p q [] f = refl
find_left p q (x ∷ xs) f = grind (arith, find_left p q xs f, f x)

-- the waiting commands after one more came
find_before : {X : Type 0} (p : X → Bool) (xs ys : List X) (x : X) → find p xs ≡ Some x → find p (xs ++ ys) ≡ Some x
find_before p [] ys x e = absurd (false≢true (ap is_some e))
find_before p (z ∷ zs) ys x e = grind (arith, find_before p zs ys x)

-- where nothing was begun nothing is
unbegun_after : (via : Connection) (order : Order) → begun_after via None order ≡ None
unbegun_after via order = grind arith

pub message_unbegun : {K : Type 0} (h : Holdings K) (via : Connection) (b : List ℕ) → h.begun ≡ None
    → (after_message via h b).begun ≡ None
message_unbegun h via b e = grind (arith, unbegun_after)

-- ---- what a message leaves of what was begun
-- a command of this name is told so
pub named_so : (ds : List Drive) (rs : List Record) (name : Name) (u : Upcoming) (found : Option Record)
    → found ≡ find (has_name name) rs → option_map (λ r. upcoming_of (drive_of ds r.command.unit) r) found ≡ Some u
    → (r : Record) × (find (has_name name) rs ≡ Some r) × (upcoming_of (drive_of ds r.command.unit) r ≡ u)
    × (name_of r ≡ name)
named_so ds rs name u o f e = grind (arith, false≢true, same_is, found_is)

-- what was begun is so still, or was let go
abbrev pub Stays : Upcoming → Bool → List Drive → List Record → Option Name → Type 0
Stays u goes ds rs begun =
    ((goes ≡ false) × (upcoming_begun ds rs begun ≡ Some u)) ⊎ ((goes ≡ true) × (begun ≡ None))

-- an ABORT of the command at this name lets go what is begun exactly where it is that
abbrev goes_by : Upcoming → Connection → Option ℕ → Bool
goes_by u via None = false
goes_by u via (Some other) = same_name (name_on via other) (upcoming_name u)

goes_own : (u : Upcoming) (via : Connection) (other : ℕ) (z : Record) → name_of z ≡ name_on via other
    → upcoming_name u ≡ name_on via other → goes_by u via (Some z.command.reference) ≡ true
goes_own u via other z e f = grind (arith, is_same)

goes_other : (u : Upcoming) (via : Connection) (other : ℕ) (found : Option Record)
    → IfSome found (λ z. name_of z ≡ name_on via other) → same_name (upcoming_name u) (name_on via other) ≡ false
    → goes_by u via (option_map (λ r. r.command.reference) found) ≡ false
goes_other u via other o e d = grind (arith, is_differ, differ_is)

-- the name is another one
not_gone : (name gone : Name) (r : Record) → same_name name gone ≡ false → has_name name r ≡ true
    → not (has_name gone r) ≡ true
not_gone name gone r d h = grind (arith, same_is)

abort_stays : (ds : List Drive) (rs : List Record) (name : Name) (u : Upcoming) (via : Connection) (other : ℕ)
    (same : Bool) → same_name name (name_on via other) ≡ same → upcoming_begun ds rs (Some name) ≡ Some u
    → Stays u (goes_by u via (option_map (λ r. r.command.reference) (find (has_name (name_on via other)) rs)))
    ds (without (name_on via other) rs) (if same then None else Some name)
abort_stays ds rs name u via other o e t =
    grind (arith, named_so, same_is, goes_own, goes_other, find_left, not_gone, found_is)

-- a command that comes behind
-- what became of a message lets go what is begun
abbrev pub goes_with : Upcoming → Connection → Result Sent SendFault → Bool
goes_with u via (Ok (Answered reference aborted)) = goes_by u via aborted
goes_with u via became = false

module _ {K : Type 0} (h : Holdings K) (via : Connection) (u : Upcoming) where
  abbrev pub After : Result Sent SendFault → Holdings K → Type 0
  After became new = Stays u (goes_with u via became) new.drives new.waiting new.begun

  unless_stays : (command : Command) (fault : Option SendFault) → begun_step h ≡ Some u
      → After (sent_unless via h command fault) (held_unless via h command fault)
  unless_stays command o t = grind (arith, false≢true, abort_stays, named_so, find_before)

  pub message_stays : (b : List ℕ) → begun_step h ≡ Some u → After (answer_to_message via h b) (after_message via h b)
  message_stays b t = unless_stays (command_of b) (refusal (balance_of via h) (outstanding_of via h) b) t
