-- What is held after one more moment of a run that is written out: a message that is queued, a take, or a good step.
use Rattle.mscp_control.proofs.Common.{◌≡◌, ℕ, ◌+◌, ◌-◌, ◌<◌, ◌≤◌, ◌^◌, true, false, not, List, [], ◌∷◌, ◌++◌, map, drop, length, refl, ap, sym, ◌∙◌, arith, find, slice_index, slice_get, if◌then◌else◌, Option, Some, None, is_some, option_map, Ok, eq-eqb, ne_eqb, le-ltb, true≢false, false≢true, ArrayVec, Command, End, HasCommandRange, IsCommand, IsValidOrder, command_bytes, command_of, end_bytes, num, class, is_immediate_class, command_bytes_are_messages, Shape, Good, Drive, Connection, Name, Choice, drive_of, fresh_drive, has_number, replaced, ServesAt, Record, fresh_record, name_of, no_record, passed_by, record_at, remains, step_charge, IsServable, drive_after, drives_after, end_given, report_of, waiting_after, is_same, at_place, Settings, IsValid, credits_of, unit_found, Both, of, put, holds, is_queued, refusal, Moment, Trace, Holdings, aborting, after_message, after_take, answer_to_message, answered_end, balance_of, ends_after, fresh, held_unless, line_of, numbers, numbers_ended, outstanding_of, queued, reference_aborted, sent_unless, waiting_on, with_end, IsLegal, handing, queueing, some_same, Driven, find_map, none_held, turns, Follows, legal_more, Agrees, sends, turns_at}
use Rattle.mscp_drive.specs.declared.event.Event.TheVariants as events
use Rattle.mscp_controller.specs.declared.entry.Entry.TheVariants as entries
use Rattle.mscp_controller.specs.declared.entry.Sent.TheVariants as sents

-- no end is untaken
abbrev pub nothing : Both (List End)
nothing = record { first = []; second = [] }

-- a picker that may pick any place
abbrev any : List Choice → ℕ → Type 0
any view place = Unit {0}

-- a unit of a configuration
pub record IsUnit (c : Settings) (s : Shape) : Type 0 where
  pub valid : IsValid c
  pub found : unit_found c s.number ≡ Some s
  pub small : s.number < 2 ^ 16

-- after the run t, which is legal, these wait, these ends are untaken, and the unit has this drive
pub record Holds (c : Settings) (s : Shape) (t : Trace) (rs : List Record) (us : Both (List End)) (d : Drive) :
    Type 0 where
  pub legal : IsLegal c t
  pub drives : List Drive
  pub follows : Follows c t rs us
  pub driven : Driven c t drives
  pub here : drive_of drives s.number ≡ d

-- what is held then, where this was begun
abbrev holding : Settings → List Record → Both (List End) → List Drive → Option Name → Holdings (Unit {0})
holding c rs us ds begun = record { settings = c; waiting = rs; untaken = us; drives = ds; begun = begun; picker = tt }

-- ---- at first

pub holds_none : (c : Settings) (s : Shape) → IsUnit c s → Holds c s [] [] nothing (fresh_drive s)
holds_none c s w =
    let none : Unit {0} = tt in
    let a : Agrees c [] (fresh c none) = none_held c none in
    search (arith, find_map)

-- ---- a message

-- a message is what was written into it
message_is : (k : Command) → IsCommand (command_bytes k) k → command_of (command_bytes k) ≡ k
unfolding command_of
message_is k m = λ i. record { reference = sym m.reference i; unit = sym m.unit i; order = sym m.order i }

-- what a connection with two free credits and another reference number sends isn't refused
unrefused : (credit : ℕ) (references b : List ℕ) (reference : ℕ) → 12 ≤ length b → length b ≤ 64 → 2 ≤ credit
    → reference ≡ num b 0 4 → holds references reference ≡ false → refusal credit references b ≡ None
unrefused credit references b reference low high two same new =
    search (arith, not (is_immediate_class (class (slice_index b 8))), le-ltb, ne_eqb)

-- what may be sent: its numbers fit, there are two free credits, and its own number is free
pub record MaySend (c : Settings) (rs : List Record) (us : Both (List End)) (via : Connection) (k : Command) :
    Type 0 where
  pub order : IsValidOrder k.order
  pub range : HasCommandRange k
  pub queued : is_queued c k ≡ true
  pub credit : 2 ≤ credits_of c via - (length (waiting_on via rs) + length (of via us))
  pub new : holds (numbers (waiting_on via rs) ++ numbers_ended (of via us)) k.reference ≡ false

-- what may be sent is read as it is
pub message_sent : (c : Settings) (rs : List Record) (us : Both (List End)) (via : Connection) (k : Command)
    → MaySend c rs us via k → command_of (command_bytes k) ≡ k
message_sent c rs us via k may = message_is k (command_bytes_are_messages k may.order may.range)

pub holds_queued : (c : Settings) (s : Shape) (t : Trace) (rs : List Record) (us : Both (List End)) (d : Drive)
    (via : Connection) (k : Command) → IsUnit c s → MaySend c rs us via k → Holds c s t rs us d
    → Holds c s (t ++ queueing via k ∷ []) (rs ++ fresh_record via k ∷ []) us d
holds_queued c s t rs us d via k w may h =
    let b = command_bytes k in
    let m = command_bytes_are_messages k may.order may.range in
    let same = message_is k m in
    let held = holding c rs us h.drives None in
    let message : ArrayVec ℕ = record { items = b } in
    let credit = balance_of via held in
    let used = outstanding_of via held in
    let none : refusal credit used b ≡ None = unrefused credit used b k.reference m.low m.high may.credit m.reference
    may.new in
    let told : answer_to_message via held b ≡ Ok (sents.Queued k.reference) =
    (λ i. sent_unless via held (same i) (none i))
    ∙ ap (λ q. Ok (if q then sents.Queued k.reference else sents.Answered k.reference
    (reference_aborted via rs k.order))) may.queued in
    let left : after_message via held b ≡ queued via held k = (λ i. held_unless via held (same i) (none i)) ∙ ap
    (λ q. if q then queued via held k else with_end via (aborting via held k.order) (answered_end via held k))
    may.queued in
    let first = sends via held t message w.valid.some_blocks (record { follows = h.follows; driven = h.driven }) in
    search (arith, queued, legal_more)

-- ---- a take

pub holds_taken : (c : Settings) (s : Shape) (t : Trace) (rs : List Record) (us : Both (List End)) (d : Drive)
    (via : Connection) (end : End) → IsUnit c s → of via us ≡ end ∷ [] → put via (drop 1 (of via us)) us ≡ nothing
    → Holds c s t rs us d → Holds c s (t ++ handing via end ∷ []) rs nothing d
holds_taken c s t rs us d via end w one rest h =
    let held = holding c rs us h.drives None in
    let told = ap (λ es. option_map (λ e. record { items = end_bytes e }) (slice_get es 0)) (sym one) in
    let turn = turns any held (after_take via held) t (events.Take via) (handing via end).1 w.valid
    (record { follows = h.follows; driven = h.driven }) (refl, told, refl) in
    search (arith, legal_more)

-- ---- a good step

-- the drive that was put in place of the unit's
put_back : (number : ℕ) (d : Drive) (ds : List Drive) → d.unit.number ≡ number
    → is_some (find (has_number number) ds) ≡ true → drive_of (replaced number d ds) number ≡ d
put_back number d [] own h = absurd (false≢true h)
put_back number d (x ∷ xs) own h = search (arith, put_back number d xs own, eq-eqb d.unit.number number own)

-- what a good step of a record on this drive reports, as a moment
abbrev pub stepped : Drive → Record → Moment
stepped d r = (events.Step Good, entries.Stepped (report_of Good d r))

pub holds_stepped : (c : Settings) (s : Shape) (t : Trace) (A : List Record) (r : Record) (B : List Record)
    (us : Both (List End)) (d : Drive) → IsUnit c s → r.command.unit ≡ s.number → d.unit.number ≡ s.number
    → IsServable c.budget (A ++ r ∷ B) (length A) → Holds c s t (A ++ r ∷ B) us d → Holds c s (t ++ stepped d r ∷ [])
    (map (passed_by (step_charge r)) A ++ (remains r (end_given Good d r) ++ B)) (ends_after us (report_of Good d r))
    (drive_after Good d r)
holds_stepped c s t A r B us d w unit own can h =
    let rs = A ++ r ∷ B in
    let place = length A in
    let ds = h.drives in
    let name = name_of r in
    let report = report_of Good d r in
    let at = at_place rs A r B place no_record refl refl in
    let q = record_at rs place in
    let drive : drive_of ds q.command.unit ≡ d = ap (λ (r : Record). drive_of ds r.command.unit) at.item
    ∙ (ap (drive_of ds) unit ∙ h.here) in
    let old = holding c rs us ds (Some name) in
    let new : Holdings (Unit {0}) = record {
      settings = c;
      waiting = waiting_after Good (drive_of ds q.command.unit) rs place;
      untaken = ends_after us report;
      drives = drives_after Good ds rs place;
      begun = None;
      picker = tt;
    } in
    let serves : ServesAt any Good (line_of old) report (line_of new) place =
    search (arith, is_same, some_same, true≢false) in
    let turn = turns_at any old new t Good report place w.valid
    (record { follows = h.follows; driven = h.driven }) serves refl in
    search (arith, legal_more, put_back, find_map)
