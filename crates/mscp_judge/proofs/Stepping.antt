-- How a judge stands after a step was answered.
use Rattle.mscp_judge.proofs.Common.{◌≡◌, ℕ, List, [], ◌∷◌, ◌++◌, ap, sym, ◌∙◌, subst, append_assoc, append-nil, arith, Option, Block, Event, Entry, Settings, Moment, Trace, Answers, Holdings, fresh, IsRight, words, entry_lines, Name, Wanted, Asked, Mark, answers_in, events_in, told, transcript, whole, IsNamed, name_in, Held, Led, Stood, with_picker}
use Rattle.mscp_drive.specs.declared.event.Event.TheVariants as events
use Rattle.mscp_controller.specs.declared.entry.Entry.TheVariants as entries
use Rattle.mscp_judge.proofs.Feeds.{entry_ends}
use Rattle.mscp_judge.proofs.Leading.{follow, led_more, turn_of}
use Rattle.mscp_judge.proofs.Marks.{answers_append, events_append, lead, lead_told, right_among, some_asked, told_append}
use Rattle.mscp_judge.proofs.Spoken.{line_says}
use Rattle.mscp_judge.proofs.Unique.{one_report}
use Rattle.mscp_judge.proofs.Standing.{goes, leads, told_line}

-- the moment of a step is right, and no other is, if it is the line's command that starts
pub step_is : (c : Settings) (marks : List Mark) (h h' : Holdings Wanted) (k : Block) (owed : List Event)
    (line : List ℕ) (entry : Entry) (s : Stood c marks h [] (events.Step k ∷ owed) [])
    → Answers (IsNamed (name_in (words line))) (with_picker h (name_in (words line))) (events.Step k) entry h'
    → (other : Entry) (X Y : List ℕ) → IsRight c (whole s.parts ++ s.now) (events.Step k) other
    → line ++ 10 ∷ X ≡ entry_lines other ++ Y → entry ≡ other
step_is c marks h h' k owed line (entries.Stepped report) s a (entries.Stepped other) X Y r e =
    let T = whole s.parts ++ s.now in
    let f = follow c s.begun T h s.valid s.led in
    let turn = turn_of c T h h' (name_in (words line)) (events.Step k) (entries.Stepped report) s.valid f a in
    ap (λ x. entries.Stepped x) (one_report c T k (name_in (words line)) report other f.agrees.follows.known
    turn.sends.right (turn.picked f.unbegun) r (line_says line X Y other e))
step_is c marks h h' k owed line entry s h9 other X Y h13 h14 = grind arith

-- what is said of an answer more
pub said_more : (marks : List Mark) (P : List Mark) (now : Trace) (m : Moment) (owed : List Event)
    → marks ++ told [] ≡ P ++ Asked (events_in now ++ (m.0 ∷ owed)) ∷ told (answers_in now) → marks ++ told
    (entry_lines m.1) ≡ P ++ Asked (events_in (now ++ m ∷ []) ++ owed) ∷ told (answers_in (now ++ m ∷ []))
said_more marks P now m owed e = grind (arith, append_assoc, events_append, told_append, append-nil, answers_append)

-- a step is answered, at which the command starts that the line names, if it may
unfoldable pub step_on : (c : Settings) (marks : List Mark) (h h' : Holdings Wanted) (k : Block) (owed : List Event)
    (line : List ℕ) (entry : Entry) → Stood c marks h [] (events.Step k ∷ owed) []
    → Answers (IsNamed (name_in (words line))) (with_picker h (name_in (words line))) (events.Step k) entry h'
    → Stood c marks h' (entry_lines entry) owed (told_line line)
step_on c marks h h' k owed line entry s a =
    let m : Moment = (events.Step k, entry) in
    let T = whole s.parts ++ s.now in
    record {
      parts = s.parts;
      now = s.now ++ m ∷ [];
      begun = s.begun;
      valid = s.valid;
      led = subst (λ t. Led (fresh c s.begun) t h') (append_assoc (whole s.parts) s.now (m ∷ []))
          (led_more (fresh c s.begun) h h' T (name_in (words line)) (events.Step k) entry s.led a);
      said = said_more marks (transcript s.parts) s.now m owed s.said;
      ends = entry_ends entry;
      only = λ others more l e.
          let g = goes c marks h [] (events.Step k ∷ owed) [] s others (told_line line ++ more) l e in
          let q = some_asked g.next (events.Step k) owed g.asks in
          let n = q.0 in
          let are : others ≡ s.parts ++ (s.now ++ n ∷ q.1) ∷ g.rest =
          g.are ∙ ap (λ (t : Trace). s.parts ++ (s.now ++ t) ∷ g.rest) q.2 in
          let right = right_among c s.parts s.now n q.1 g.rest others are l in
          let told_first : told_line line ++ more
          ≡ told [] ++ (told (answers_in (n ∷ q.1)) ++ transcript g.rest) =
          g.left_is ∙ ap (λ (t : Trace). told (answers_in t) ++ transcript g.rest) q.2 in
          let same = leads line [] more (told (answers_in (n ∷ q.1)) ++ transcript g.rest) told_first
          ∙ (lead_told (answers_in (n ∷ q.1)) (transcript g.rest)
          ∙ append_assoc (entry_lines n.1) (answers_in q.1) (lead (transcript g.rest))) in
          let it = step_is c marks h h' k owed line entry s a n.1 (lead more)
          (answers_in q.1 ++ lead (transcript g.rest)) (subst (λ ev. IsRight c T ev n.1) q.3 right) same in
          let own : n ≡ m = λ i. (q.3 i, sym it i) in (
            q.1,
            g.rest,
            q.4,
            are ∙ (ap (λ (x : Moment). s.parts ++ (s.now ++ x ∷ q.1) ∷ g.rest) own
                ∙ ap (λ (t : Trace). s.parts ++ t ∷ g.rest) (sym (append_assoc s.now (m ∷ []) q.1))),
          );
    }

-- a step that is missing is answered
pub step_held : (c : Settings) (marks : List Mark) (h h' : Holdings Wanted) (k : Block) (owed : List Event)
    (name : Option Name) (entry : Entry) → Held c marks h [] (events.Step k ∷ owed)
    → Answers (IsNamed name) (with_picker h name) (events.Step k) entry h' → Held c marks h' (entry_lines entry) owed
step_held c marks h h' k owed name entry s a =
    let m : Moment = (events.Step k, entry) in
    let T = whole s.parts ++ s.now in
    record {
      parts = s.parts;
      now = s.now ++ m ∷ [];
      begun = s.begun;
      valid = s.valid;
      led = subst (λ t. Led (fresh c s.begun) t h') (append_assoc (whole s.parts) s.now (m ∷ []))
          (led_more (fresh c s.begun) h h' T name (events.Step k) entry s.led a);
      said = said_more marks (transcript s.parts) s.now m owed s.said;
    }
