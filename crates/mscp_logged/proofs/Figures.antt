-- What is known of the figures that a log tells, beside what comes.
use Rattle.mscp_logged.proofs.Common.{Answer, Call, First, History, IsCodeFor, List, Moment, Ok, Option, Outgoing, Pending, Port, Said, Sent, Some, TakesPoll, TellsStep, WasRead, [], after_end, answer_by, ap, arith, begins, command_at, cond, each_push, end_of, false, filter, flat_map, four_in, has_endcode, hears, is_known, length, list_any, map, message_of, moment_at, nat_eq, num, option_to_list, outstanding, pending_in, refl, said_in, slice_index, subst, sym, take, taken_by, true, ℕ, ◌++◌, ◌<◌, ◌∙◌, ◌∷◌, ◌≡◌, ◌≤◌}
use Rattle.mscp_port.specs.declared.port.OutgoingKind.TheVariants as kinds
use Rattle.mscp_wire.specs.declared.moment.Moment.TheVariants as moments
use Rattle.mscp_logged.proofs.Coded.{endcode_right}
use Rattle.mscp_logged.proofs.Heard.{IsShown, figured_left, is_shown}
use Rattle.mscp_logged.proofs.Left.{end_leaves}
use Rattle.mscp_logged.proofs.Passes.{none_any}
use Rattle.mscp_logged.proofs.Polled.{AreFigured}
use Rattle.mscp_logged.proofs.Wired.{Wired, named, outstanding_more}

-- of each end of a history what it tells of a figure may be told
abbrev pub IsShownAt : History → Moment → Type 0
IsShownAt h (moments.Message via b time) = Unit {0}
IsShownAt h (moments.End via b) = IsShown (outstanding h) b.items
IsShownAt h m = Unit {0}

pub record Figured (h : History) (P : List Pending) (F : ℕ → ℕ) (S : ℕ → Type 0) : Type 0 where
  pub each : (i : ℕ) → i < length h → IsShownAt (take i h) (moment_at h i)
  pub now : AreFigured (outstanding h) P F S

pub figured_as : (h h' : History) (P P' : List Pending) (F : ℕ → ℕ) (S : ℕ → Type 0) → h' ≡ h → P' ≡ P → Figured h P F S
    → Figured h' P' F S
figured_as h h' P P' F S e f x = subst (λ z. Figured z P' F S) (sym e) (subst (λ z. Figured h z F S) (sym f) x)

-- a message comes
pub message_comes : (h : History) (t : List ℕ) (P P' : List Pending) (F F' : ℕ → ℕ) (S S' : ℕ → Type 0)
    → Figured h P F S → AreFigured (outstanding (h ++ message_of t ∷ [])) P' F' S'
    → Figured (h ++ message_of t ∷ []) P' F' S'
message_comes h t P P' F F' S S' f now =
    record { each = each_push moments.Reset IsShownAt h (message_of t) f.each tt; now = now }

-- an end leaves
pub coded_so : (y : Sent) (e : Answer) → has_endcode y e ≡ true → y.opcode ≡ 2 → is_known e ≡ true → e.code ≡ 0x82
coded_so y e right code known = grind arith

module _ (Tie : List ℕ → List ℕ → Type 0) (code_of : (text message : List ℕ) → Tie text message
    → IsCodeFor (slice_index text 8) message) (h : History) (aw : List (List ℕ)) (F : ℕ → ℕ) (S : ℕ → Type 0)
    (P : List Pending) (o : Said) (kind : o.kind ≡ kinds.End) (w : Wired Tie (outstanding h) aw (o ∷ []))
    (f : Figured h (record {
      number = num o.text 0 4;
      figure = cond (nat_eq (slice_index o.text 8) 0x82) (num o.text 16 4) 0;
    } ∷ P) F S) where
  pub end_figured : Figured (h ++ end_of o.text ∷ []) P F S
  end_figured =
      let x = end_leaves Tie (outstanding h) aw o w kind in
      let owed = w.owed.0 kind in
      let coded = coded_so (command_at (outstanding h) x.place) (answer_by First o.text)
      (endcode_right (command_at (outstanding h) x.place) (answer_by First o.text) owed.message
      (ap (λ (s : Sent). s.opcode) x.command) (code_of o.text owed.message owed.tie)) in
      record {
        each = each_push moments.Reset IsShownAt h (end_of o.text) f.each
            (is_shown F S (outstanding h) P _ o.text x.place x.at refl refl coded f.now);
        now = rw (outstanding_more h (end_of o.text) ∙ ap (after_end (outstanding h) (answer_by First o.text)) x.at
            ∙ x.after ∙ ap (map (hears (command_at (outstanding h) x.place) (answer_by First o.text))) (sym x.without))
            (figured_left F S (outstanding h) P _ o.text x.place x.at refl refl coded f.now);
      }

-- ---- what goes out

abbrev pub out_of : Option Outgoing → List Pending
out_of x = flat_map pending_in (map said_in (option_to_list x))

abbrev pub begun_of : Option Outgoing → Option Outgoing → List Pending
begun_of x y = flat_map pending_in (map said_in (begins x y))

pub goes_on : (o : Said) (z : Said) (was now more : List Pending) → o ≡ z → now ≡ was ++ more
    → (pending_in z ++ []) ++ now ≡ ((pending_in o ++ []) ++ was) ++ more
goes_on o z was now more same e = grind arith

pub four_is : (t : List ℕ) (other : ℕ) → four_in t 12 ≡ Some other → (16 ≤ length t) × (num t 12 4 ≡ other)
four_is t other e = grind arith

pub takes_poll : {K : Type 0} (old : Port K) (call : Call) (t : List ℕ) (done : Unit) → call ≡ WasRead t (Ok done)
    → taken_by call old ≡ t ∷ [] → slice_index t 8 ≡ 2 → 16 ≤ length t → TakesPoll (num t 12 4) call old
takes_poll old call t done is took poll long = grind arith

pub no_step : {K : Type 0} (old : Port K) (call : Call) (t : List ℕ) (done : Unit) → call ≡ WasRead t (Ok done)
    → TellsStep call old → ⊥
no_step old call t done is s = subst (λ x. TellsStep x old) is s

pub apart_from : (xs : List Sent) (m n : ℕ) → filter (named m) xs ≡ [] → list_any (named n) xs ≡ true
    → nat_eq m n ≡ false
apart_from xs m n none any = grind (arith, none_any)
