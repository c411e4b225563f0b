-- Each moment of a legal trace keeps what its parts keep, so that the whole trace does.
use Rattle.mscp_shown.proofs.Common.{All, AllByRecursion, ArrayVec, Block, Bool, Command, Connection, Covers, End, Entry, Err, Event, IsLegal, IsOfKind, IsPatient, IsPossible, IsRight, IsValid, Known, LegalTracesAreRight, Moment, Name, None, Ok, Option, Report, Settings, Some, Trace, [], answer, ap, append-nil, arith, arrival, arrives, bound, collect, command_of, count_by, drop, each_queued, ends, ends_at, ends_more, every_append, every_parts, false, figure, figure_found, figure_of, find, get_or-take, if◌then◌else◌, is_online_empty, is_queued, known, length, length-take-le, moment, more_at, name, one_side, progress, recursion_from_All, reference, refl, same_connection, same_name, shaped, shown, subst, suc, sym, take, take-append-drop, take-take, take_all, takes, true, untaken, waiting, waits_below, zero, ℕ, ◌++◌, ◌+◌, ◌<◌, ◌^◌, ◌∙◌, ◌∷◌, ◌≡◌, ◌≤◌}
use Rattle.mscp_controller.specs.declared.entry.Sent.{Sent}
use Rattle.mscp_shown.proofs.Judged.{lenient}
use Rattle.mscp_shown.proofs.Standing.{Stands, message_stands, quiet_stands}
use Rattle.mscp_shown.proofs.Stepping.{step_stands}
use Rattle.mscp_shown.proofs.Strict.{AreRight, AreStated}
use Rattle.mscp_shown.proofs.Taken.{Holds, answer_effects, take_stands}
use Rattle.mscp_shown.proofs.Messages.{has_room}
use Rattle.mscp_shown.proofs.Ending.{took_more}
use Rattle.mscp_shown.proofs.Kept.{Inv, More, isnt_queued, stills}
use Rattle.mscp_shown.proofs.Sending.{answered_more, queued_more}
use Rattle.mscp_shown.proofs.Serving.{served_more}
use Rattle.mscp_shown.proofs.Making.{Facts, even_more}
use Rattle.mscp_shown.proofs.Owners.{every_drop}
use Rattle.mscp_shown.proofs.Reading.{IsFit}
use Rattle.mscp_shown.proofs.Small.{all_bytes}
use Rattle.mscp_shown.proofs.Suiting.{IsFault}
use Rattle.mscp_shown.proofs.Taking.{first_taken}

-- what holds of all ends of a connection holds of those that weren't taken
untaken_all : (P : End → Type 0) (c : Settings) (via : Connection) (t : Trace) → AllByRecursion P (ends c via t)
    → AllByRecursion P (untaken c via t)
unfolding untaken
untaken_all P c via t h = every_drop P (count_by (λ (m : Moment). takes via m.1) t) (ends c via t) h

fault_of : (k : Block) → IsPossible (Event.Step k) → IsFault k
fault_of k h = grind arith

module _ (c : Settings) (t : Trace) (k : Known c t)
    (kinds : (via : Connection) → AllByRecursion IsOfKind (ends c via t)) (facts : Facts c t) (h : Inv c t) where
  take_one : (own : Connection) (b : ArrayVec ℕ) → IsRight c t (Event.Take own) (Entry.Taken own (Some b))
      → More c t (Event.Take own, Entry.Taken own (Some b))
  take_one own b r =
      let first = first_taken (untaken c own t) b r.1 in
      let e = first.0 in
      let is = first.2.is in
      let kind = subst (AllByRecursion IsOfKind) is (untaken_all IsOfKind c own t (kinds own)) in
      let fit = subst (AllByRecursion (IsFit c)) is (untaken_all (IsFit c) c own t (h.fit own)) in
      took_more c t own b k h e first.1 r first.2 kind.0 fit.0

  more : (event : Event) (entry : Entry) → IsPossible event → IsPatient (t ++ (event, entry) ∷ [])
      → IsRight c t event entry → More c t (event, entry)
  more (Event.Send own b) (Entry.Sent other (Err fault)) may patient r =
      stills c t (Event.Send own b, Entry.Sent other (Err fault)) h k r refl (λ via p. (refl, refl)) (λ n. refl) refl
      (λ via. refl)
  more (Event.Send own b) (Entry.Sent other (Ok (Sent.Queued q))) may patient r = rw r.0
      (queued_more c t own b k q h r.1)
  more (Event.Send own b) (Entry.Sent other (Ok (Sent.Answered q a))) may patient r =
      subst (λ o. More c t (Event.Send own b, Entry.Sent o (Ok (Sent.Answered q a)))) (sym r.0)
      (answered_more c t own b k q a h facts
      (subst (λ o. IsPatient (t ++ (
        Event.Send own b,
        Entry.Sent o
            (Ok (Sent.Answered q a)),
      ) ∷ [])) r.0 patient) may r.1)
  more (Event.Step block) (Entry.Stepped Report.Idle) may patient r =
      stills c t (Event.Step block, Entry.Stepped Report.Idle) h k r refl (λ via p. (refl, refl)) (λ n. refl) refl
      (λ via. refl)
  more (Event.Step block) (Entry.Stepped (Report.Served other reference unit lbn started seek ended)) may patient r =
      let report = Report.Served other reference unit lbn started seek ended in
      served_more c t block k h _ report refl r ended refl r.0 r.1 (fault_of block may) facts refl (λ via. refl)
  more (Event.Take own) (Entry.Taken other None) may patient r =
      stills c t (Event.Take own, Entry.Taken other None) h k r refl (λ via p. (refl, refl)) (λ n. refl) refl
      (λ via. refl)
  more (Event.Take own) (Entry.Taken other (Some b)) may patient r = rw r.0 (take_one own b (refl, r.1))
  more Event.Look (Entry.Looked list) may patient r =
      stills c t (Event.Look, Entry.Looked list) h k r refl (λ via p. (refl, refl)) (λ n. refl) refl (λ via. refl)
  more event entry may patient r = absurd r

-- what is told of the states of units
module _ (c : Settings) (t : Trace) (k : Known c t)
    (kinds : (via : Connection) → AllByRecursion IsOfKind (ends c via t)) (h : Inv c t) (s : Stands c t) where
  take_told : (own : Connection) (b : ArrayVec ℕ) → IsRight c t (Event.Take own) (Entry.Taken own (Some b))
      → Stands c (t ++ (Event.Take own, Entry.Taken own (Some b)) ∷ [])
  take_told own b r =
      let first = first_taken (untaken c own t) b r.1 in
      let e = first.0 in
      let is = first.2.is in
      let kind = subst (AllByRecursion IsOfKind) is (untaken_all IsOfKind c own t (kinds own)) in
      let fit = subst (AllByRecursion (IsFit c)) is (untaken_all (IsFit c) c own t (h.fit own)) in
      take_stands c t own b k s e first.1 is (ap (λ (v : ArrayVec ℕ). v.items) first.2.bytes) kind.0 fit.0

  answer_told : (own : Connection) (b : ArrayVec ℕ) (q : ℕ) (a : Option ℕ)
      → Ok (Sent.Answered q a) ≡ arrival c own t b.items
      → Stands c (t ++ (Event.Send own b, Entry.Sent own (Ok (Sent.Answered q a))) ∷ [])
  answer_told own b q a r =
      let m : Moment = (Event.Send own b, Entry.Sent own (Ok (Sent.Answered q a))) in
      let z = arrives c own t b.items (Sent.Answered q a) r in
      let isnt = isnt_queued c own t (command_of b.items) (is_queued c (command_of b.items)) q a z.is in
      let effects = answer_effects c own t b.items s isnt in
      message_stands c t m k s own b refl refl (λ via. refl)
      (λ via. by_side via (same_connection own via) refl effects) (λ e. refl)
    where
      by_side : (via : Connection) (here : Bool) → same_connection own via ≡ here
          → AllByRecursion (Holds c own t b.items s) (answer c own t b.items)
          → AllByRecursion (Holds c own t b.items s) ((if here then answer c via t b.items else []) ++ [])
      by_side via true e all = rw (← one_side own via e) (subst (AllByRecursion (Holds c own t b.items s))
          (sym (append-nil (answer c own t b.items))) all)
      by_side via false e all = tt

  stands_more : (event : Event) (entry : Entry) → IsPossible event → IsRight c t event entry
      → Stands c (t ++ (event, entry) ∷ [])
  stands_more (Event.Send own b) (Entry.Sent other (Err fault)) may r =
      quiet_stands c t (Event.Send own b, Entry.Sent other (Err fault)) k s refl refl (λ via. refl) (λ via. refl) refl
  stands_more (Event.Send own b) (Entry.Sent other (Ok (Sent.Queued q))) may r =
      message_stands c t (Event.Send own b, Entry.Sent other (Ok (Sent.Queued q))) k s own b refl refl (λ via. refl)
      (λ via. tt) (λ e. refl)
  stands_more (Event.Send own b) (Entry.Sent other (Ok (Sent.Answered q a))) may r = rw r.0 (answer_told own b q a r.1)
  stands_more (Event.Step block) (Entry.Stepped Report.Idle) may r =
      quiet_stands c t (Event.Step block, Entry.Stepped Report.Idle) k s refl refl (λ via. refl) (λ via. refl) refl
  stands_more (Event.Step block) (Entry.Stepped (Report.Served other reference unit lbn started seek ended)) may r =
      step_stands c t (Event.Step block, Entry.Stepped (Report.Served other reference unit lbn started seek ended)) k s
      h.queued _ block r.0 refl r.1 (fault_of block may) refl (λ via. refl) (λ via. refl) refl
  stands_more (Event.Take own) (Entry.Taken other None) may r =
      quiet_stands c t (Event.Take own, Entry.Taken other None) k s refl refl (λ via. refl) (λ via. refl) refl
  stands_more (Event.Take own) (Entry.Taken other (Some b)) may r = rw r.0 (take_told own b (refl, r.1))
  stands_more Event.Look (Entry.Looked list) may r =
      quiet_stands c t (Event.Look, Entry.Looked list) k s refl refl (λ via. refl) (λ via. refl) refl
  stands_more event entry may r = absurd r

stands_empty : (c : Settings) → Stands c []
unfolding shown waiting ends untaken collect
stands_empty c = grind (arith, is_online_empty)

inv_more : (c : Settings) (t : Trace) (m : Moment) → Known c t
    → ((via : Connection) → AllByRecursion IsOfKind (ends c via t)) → Facts c t → IsPossible m.0
    → IsPatient (t ++ m ∷ []) → IsRight c t m.0 m.1 → Inv c t → Inv c (t ++ m ∷ [])
inv_more c t m k kinds facts may patient r h =
    let one = more c t k kinds facts h m.0 m.1 may patient r in
    record {
      tallied = one.tallied;
      owners = one.owners;
      orders = one.orders;
      heard = one.heard;
      queued = each_queued c (λ (k : Command). is_queued c k ≡ true) (λ k q. q) t m r h.queued;
      even = even_more c t m r h.even;
      fit = λ via. subst (AllByRecursion (IsFit c)) (sym (ends_more c via t m))
          (every_append (IsFit c) (ends c via t) (ends_at c via t m) (h.fit via) (one.fit via));
      units = one.units;
      kept = one.kept;
    }

inv_empty : (c : Settings) → Inv c []
unfolding shown waiting ends untaken collect
inv_empty c = record {
  tallied = λ via p. refl;
  owners = record { waits = tt; owed = λ via. tt; aborts = λ via. tt };
  orders = record {
    single = λ via n. omega arith;
    placed = λ x y wx wy. tt;
    free = λ y w q. absurd (omega (arith, waits_below [] y w));
    ordered = λ via. tt;
  };
  heard = record { chains = λ via. tt; lasts = λ x w. tt; stands = λ via. tt };
  queued = tt;
  even = tt;
  fit = λ via. tt;
  units = λ via unit i k. cc;
  kept = λ credits covers i low. absurd (omega (arith, low));
}

-- ---- parts of a legal trace
legal_part : (c : Settings) (t : Trace) (j : ℕ) → j ≤ length t → IsLegal c t → IsLegal c (take j t)
unfolding moment
legal_part c t j h legal i low = grind (arith, length-take-le, take-take, get_or-take)

module _ (c : Settings) (t : Trace) (valid : IsValid c) (legal : IsLegal c t)
    (may : AllByRecursion (λ (m : Moment). IsPossible m.0) t)
    (patient : IsPatient t) where
  abbrev May : Moment → Type 0
  May m = IsPossible m.0

  may_part : (i : ℕ) → i < length t → AllByRecursion May (take i t) × May (moment t i)
  may_part i h =
      let parts = every_parts May (take (i + 1) t) (drop (i + 1) t)
      (subst (AllByRecursion May) (sym (take-append-drop (i + 1) t)) may) in
      let both = every_parts May (take i t) (moment t i ∷ [])
      (subst (AllByRecursion May) (more_at t i h) parts.0) in
      (both.0, both.1.0)

  -- no figure needs more than four bytes
  figure_part : (i : ℕ) → i ≤ length t → (n : Name) → figure_of c (take i t) n < 2 ^ 32
  unfolding figure_of
  figure_part i h n =
      let p = take i t in
      found_small p (find (λ x. same_name (name p x) n) (waiting p)) ((progress c t valid legal).small i h)
    where
      found_small : (p : Trace) (o : Option ℕ) → ((x : ℕ) → figure c p x ≤ bound c) → figure_found c p o < 2 ^ 32
      found_small p o all = grind arith

  patient_part : (j : ℕ) → j ≤ length t → IsPatient (take j t)
  unfolding moment
  patient_part j h x i k lx l m w p q = grind (arith, length-take-le, get_or-take, take-take)

  inv_at : (i : ℕ) → i ≤ length t → Inv c (take i t)
  inv_at zero h = inv_empty c
  inv_at (suc i) h =
      let low : i < length t = omega (arith, h) in
      let before = known c valid.some_blocks t legal i (omega (arith, h)) in
      let parts = may_part i low in
      let kinds = λ (via : Connection). recursion_from_All IsOfKind (ends c via (take i t))
      (shaped c via (take i t) (legal_part c t i (omega (arith, h)) legal)) in
      let one : suc i ≡ i + 1 = omega arith in
      let e : take (suc i) t ≡ take i t ++ moment t i ∷ [] =
      ap (λ n. take n t) one ∙ more_at t i low in
      let there = inv_at i (omega (arith, h)) in
      let facts : Facts c (take i t) = record {
        bytes = all_bytes (take i t) parts.0;
        figures = figure_part i (omega (arith, h));
        promise = progress c (take i t) valid (legal_part c t i (omega (arith, h)) legal);
        queued = there.queued;
        even = there.even;
      } in
      subst (Inv c) (sym e)
      (inv_more c (take i t) (moment t i) before kinds facts parts.1
      (subst IsPatient e (patient_part (suc i) h)) (legal i low) there)

  stands_at : (i : ℕ) → i ≤ length t → Stands c (take i t)
  stands_at zero h = stands_empty c
  stands_at (suc i) h =
      let low : i < length t = omega (arith, h) in
      let before = known c valid.some_blocks t legal i (omega (arith, h)) in
      let kinds = λ (via : Connection). recursion_from_All IsOfKind (ends c via (take i t))
      (shaped c via (take i t) (legal_part c t i (omega (arith, h)) legal)) in
      let one : suc i ≡ i + 1 = omega arith in
      let e : take (suc i) t ≡ take i t ++ moment t i ∷ [] =
      ap (λ n. take n t) one ∙ more_at t i low in
      subst (Stands c) (sym e)
      (stands_more c (take i t) before kinds (inv_at i (omega (arith, h))) (stands_at i (omega (arith, h)))
      (moment t i).0 (moment t i).1 (may_part i low).1 (legal i low))

-- the stricter rules are kept
strictly_right : (c : Settings) (t : Trace) (credits : Option ℕ) → IsValid c → IsLegal c t
    → All (λ m. IsPossible m.0) t → IsPatient t → Covers credits c → AreRight credits (shown t)
strictly_right c t credits valid legal may patient covers =
    let all = inv_at c t valid legal (recursion_from_All (λ (m : Moment). IsPossible m.0) t may) patient (length t)
    (omega arith) in
    subst (λ s. AreRight credits (shown s)) (take_all (length t) t (omega arith))
    (all.kept credits (has_room credits c valid covers))

pub are_right : LegalTracesAreRight
are_right c t credits valid legal may patient covers =
    let all = stands_at c t valid legal (recursion_from_All (λ (m : Moment). IsPossible m.0) t may) patient (length t)
    (omega arith) in
    lenient credits (shown t) (strictly_right c t credits valid legal may patient covers)
    (subst (λ s. AreStated (shown s)) (take_all (length t) t (omega arith)) all.are)
