-- How a judge stands after a line that asks.
use Rattle.mscp_judge.proofs.Common.{◌≡◌, inl, false, List, [], ◌∷◌, ◌++◌, refl, ap, sym, ◌∙◌, subst, append_assoc, append-nil, arith, Option, Event, Entry, Settings, Moment, Trace, is_step, Answers, Holdings, fresh, IsLegal, IsRight, entry_lines, Name, Wanted, Asked, Mark, answers_in, events_in, told, transcript, whole, IsNamed, Led, Stood, with_picker}
use Rattle.mscp_judge.proofs.Feeds.{entry_ends}
use Rattle.mscp_judge.proofs.Leading.{follow, led_more, turn_of}
use Rattle.mscp_judge.proofs.Marks.{asked_parts, none_asked, right_among, some_asked, transcript_append, whole_append}
use Rattle.mscp_judge.proofs.Unique.{one_answer}
use Rattle.mscp_judge.proofs.Standing.{goes}
use Rattle.mscp_judge.proofs.Stepping.{said_more}

-- the parts, with the last one whole
parts_more : (parts : List Trace) (now next : Trace) (rest : List Trace)
    → parts ++ now ∷ (next ∷ rest) ≡ (parts ++ now ∷ []) ++ next ∷ rest
parts_more parts now next rest = sym (append_assoc parts (now ∷ []) (next ∷ rest))

pub whole_more : (parts : List Trace) (now : Trace) → whole (parts ++ now ∷ []) ≡ whole parts ++ now
whole_more parts now = whole_append parts (now ∷ []) ∙ ap (λ t. whole parts ++ t) (append-nil now)

pub transcript_more : (marks : List Mark) (parts : List Trace) (now : Trace)
    → marks ++ told [] ≡ transcript parts ++ Asked (events_in now ++ []) ∷ told (answers_in now)
    → marks ≡ transcript (parts ++ now ∷ [])
transcript_more marks parts now e = grind (arith, append-nil, transcript_append)

-- a legal log that begins so, and then asks for events
pub asks_next : (c : Settings) (marks : List Mark) (h : Holdings Wanted) (es : List Event)
    (s : Stood c marks h [] [] []) (others : List Trace) (more : List Mark) → IsLegal c (whole others)
    → (marks ++ Asked es ∷ []) ++ more ≡ transcript others
    → (p : Trace) × (rest : List Trace) × (events_in p ≡ es) × (others ≡ (s.parts ++ s.now ∷ []) ++ p ∷ rest)
asks_next c marks h es s others more l e = search (
  arith,
  goes c marks h [] [] [] s others (Asked es ∷ more) l (sym (append_assoc marks (Asked es ∷ []) more) ∙ e),
  append-nil s.now,
  none_asked,
  asked_parts,
  parts_more,
)

pub said_asked : (marks : List Mark) (parts : List Trace) (now : Trace) (es : List Event)
    → marks ++ told [] ≡ transcript parts ++ Asked (events_in now ++ []) ∷ told (answers_in now)
    → (marks ++ Asked es ∷ []) ++ told [] ≡ transcript (parts ++ now ∷ []) ++ Asked es ∷ told []
said_asked marks parts now es e = search (arith, append-nil (marks ++ Asked es ∷ []), transcript_more marks parts now e)

-- steps are asked for
unfoldable pub steps_on : (c : Settings) (marks : List Mark) (h : Holdings Wanted) (es : List Event)
    → Stood c marks h [] [] []
    → Stood c (marks ++ Asked es ∷ []) h [] es []
steps_on c marks h es s = record {
  parts = s.parts ++ s.now ∷ [];
  now = [];
  begun = s.begun;
  valid = s.valid;
  led = subst (λ t. Led (fresh c s.begun) t h) (sym (append-nil (whole (s.parts ++ s.now ∷ []))
      ∙ whole_more s.parts s.now)) s.led;
  said = said_asked marks s.parts s.now es s.said;
  ends = inl refl;
  only = λ others more l e. asks_next c marks h es s others more l e;
}

-- another event is asked for, which is answered at once
unfoldable pub event_on : (c : Settings) (marks : List Mark) (h h' : Holdings Wanted) (name : Option Name)
    (event : Event) (entry : Entry) → is_step event ≡ false → Stood c marks h [] [] []
    → Answers (IsNamed name) (with_picker h name) event entry h'
    → Stood c (marks ++ Asked (event ∷ []) ∷ []) h' (entry_lines entry) [] []
event_on c marks h h' name event entry o s a =
    let m : Moment = (event, entry) in
    let T = whole s.parts ++ s.now in
    let f = follow c s.begun T h s.valid s.led in
    let right = (turn_of c T h h' name event entry s.valid f a).sends.right in
    let parts = s.parts ++ s.now ∷ [] in
    record {
      parts = parts;
      now = m ∷ [];
      begun = s.begun;
      valid = s.valid;
      led = subst (λ t. Led (fresh c s.begun) (t ++ m ∷ []) h') (sym (whole_more s.parts s.now))
          (led_more (fresh c s.begun) h h' T name event entry s.led a);
      said = said_more (marks ++ Asked (event ∷ []) ∷ []) (transcript parts) [] m []
          (said_asked marks s.parts s.now (event ∷ []) s.said);
      ends = entry_ends entry;
      only = λ others more l e.
          let q = asks_next c marks h (event ∷ []) s others more l e in
          let p = some_asked q.0 event [] q.2 in
          let none = none_asked p.1 p.4 in
          let n = p.0 in
          let are : others ≡ parts ++ (n ∷ p.1) ∷ q.1 = q.3 ∙ ap (λ (t : Trace). parts ++ t ∷ q.1) p.2 in
          let there = right_among c parts [] n p.1 q.1 others are l in
          let here : IsRight c T event n.1 =
          subst (λ t. IsRight c t event n.1) (append-nil (whole parts) ∙ whole_more s.parts s.now)
          (subst (λ ev. IsRight c (whole parts ++ []) ev n.1) p.3 there) in
          let it = one_answer c T event entry n.1 o right here in
          let own : n ≡ m = λ i. (p.3 i, sym it i) in (
            [],
            q.1,
            refl,
            are ∙ (ap (λ (t : Trace). parts ++ (n ∷ t) ∷ q.1) none
                ∙ ap (λ (x : Moment). parts ++ (x ∷ []) ∷ q.1) own),
          );
    }
