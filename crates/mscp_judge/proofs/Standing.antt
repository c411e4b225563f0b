-- How a judge stands after one more line.
use Rattle.mscp_judge.proofs.Common.{◌≡◌, ◌≢◌, inl, ℕ, List, [], ◌∷◌, ◌++◌, refl, ap, sym, ◌∙◌, append_assoc, append-nil, arith, append_cancel_left, Event, Settings, Trace, Holdings, IsLegal, Wanted, Mark, answers_in, events_in, told, transcript, whole, BeginsWith, Held, Stood}
use Rattle.mscp_judge.proofs.Feeds.{NoFeed, ends_behind, first_line, some_none}
use Rattle.mscp_judge.proofs.Marks.{GoesOn, answers_append, events_append, lead, lead_told, lead_transcript, none_asked, told_append, transcript_append}

-- the marks of a line's answer
abbrev pub told_line : List ℕ → List Mark
told_line line = told (line ++ 10 ∷ [])

-- ---- a legal log that begins so

-- what is left of one, behind what is known of it
pub record Goes (c : Settings) (parts : List Trace) (now : Trace) (due : List ℕ) (owed : List Event)
    (others : List Trace) (left : List Mark) : Type 0 where
  pub next : Trace
  pub rest : List Trace
  pub asks : events_in next ≡ owed
  pub are : others ≡ parts ++ (now ++ next) ∷ rest
  pub left_is : left ≡ told due ++ (told (answers_in next) ++ transcript rest)

pub held_of : (c : Settings) (marks : List Mark) (h : Holdings Wanted) (due : List ℕ) (owed : List Event)
    (ahead : List Mark) → Stood c marks h due owed ahead → Held c marks h due owed
held_of c marks h due owed ahead s = search arith

-- the marks of a trace that goes on so
pub known_marks : (c : Settings) (marks : List Mark) (h : Holdings Wanted) (due : List ℕ) (owed : List Event)
    (s : Held c marks h due owed) (next : Trace) (rest : List Trace) → events_in next ≡ owed → transcript
    (s.parts ++ (s.now ++ next) ∷ rest) ≡ marks ++ (told due ++ (told (answers_in next) ++ transcript rest))
known_marks c marks h due owed s next rest asks =
    grind (arith, events_append, answers_append, told_append, transcript_append, append_assoc)

pub goes : (c : Settings) (marks : List Mark) (h : Holdings Wanted) (due : List ℕ) (owed : List Event)
    (ahead : List Mark) (s : Stood c marks h due owed ahead) (others : List Trace) (more : List Mark)
    → IsLegal c (whole others) → marks ++ (ahead ++ more) ≡ transcript others
    → Goes c s.parts s.now due owed others (ahead ++ more)
unfolding held_of
goes c marks h due owed ahead s others more l e =
    let k = s.only others more l e in
    record {
      next = k.0;
      rest = k.1;
      asks = k.2;
      are = k.3;
      left_is = append_cancel_left marks (ahead ++ more) (told due ++ (told (answers_in k.0) ++ transcript k.1))
          (e ∙ (ap transcript k.3 ∙ known_marks c marks h due owed (held_of c marks h due owed ahead s) k.0 k.1 k.2));
    }

-- what is told first of it
pub leads : (line due : List ℕ) (more : List Mark) (X : List Mark) → told_line line ++ more ≡ told due ++ X
    → line ++ 10 ∷ lead more ≡ due ++ lead X
leads line due more X e =
    sym (append_assoc line (10 ∷ []) (lead more)) ∙ (sym (lead_told (line ++ 10 ∷ []) more)
    ∙ (ap lead e ∙ lead_told due X))

-- ---- a line that tells

-- with the line ahead
unfoldable pub ahead_of : (c : Settings) (marks : List Mark) (h : Holdings Wanted) (due : List ℕ) (owed : List Event)
    (ahead : List Mark) → Stood c marks h due owed [] → Stood c marks h due owed ahead
ahead_of c marks h due owed ahead s = record {
  parts = s.parts;
  now = s.now;
  begun = s.begun;
  valid = s.valid;
  led = s.led;
  said = s.said;
  ends = s.ends;
  only = λ others more l e. s.only others (ahead ++ more) l e;
}

-- the line was due
unfoldable pub told_on : (c : Settings) (marks : List Mark) (h : Holdings Wanted) (due : List ℕ) (owed : List Event)
    (line rest : List ℕ) → Stood c marks h due owed (told_line line) → due ≡ line ++ 10 ∷ rest
    → Stood c (marks ++ told_line line) h rest owed []
told_on c marks h due owed line rest s e =
    let whole_due : due ≡ (line ++ 10 ∷ []) ++ rest = e ∙ sym (append_assoc line (10 ∷ []) rest) in
    record {
      parts = s.parts;
      now = s.now;
      begun = s.begun;
      valid = s.valid;
      led = s.led;
      said = append_assoc marks (told_line line) (told rest)
          ∙ (ap (λ ms. marks ++ ms) (sym (ap told whole_due ∙ told_append (line ++ 10 ∷ []) rest)) ∙ s.said);
      ends = ends_behind due line rest s.ends e;
      only = λ others more l f. s.only others more l (sym (append_assoc marks (told_line line) more) ∙ f);
    }

-- all that was due was told
unfoldable pub told_all_on : (c : Settings) (marks : List Mark) (h : Holdings Wanted) (due : List ℕ) (owed : List Event)
    → Stood c marks h due owed [] → Stood c (marks ++ told due) h [] owed []
told_all_on c marks h due owed s = record {
  parts = s.parts;
  now = s.now;
  begun = s.begun;
  valid = s.valid;
  led = s.led;
  said = append-nil (marks ++ told due) ∙ s.said;
  ends = inl refl;
  only = λ others more l f. s.only others (told due ++ more) l (sym (append_assoc marks (told due) more) ∙ f);
}

-- another line was due
pub refused : (c : Settings) (marks : List Mark) (h : Holdings Wanted) (due : List ℕ) (owed : List Event)
    (line : List ℕ) → Stood c marks h due owed (told_line line) → due ≢ [] → NoFeed line → ¬ (BeginsWith due line)
    → ¬ (GoesOn c (marks ++ told_line line))
refused c marks h due owed line s some fed not_it g =
    let e = sym (append_assoc marks (told_line line) g.0) ∙ g.3 in
    let k = goes c marks h due owed (told_line line) s g.1 g.0 g.2 e in
    let X = told (answers_in k.next) ++ transcript k.rest in
    let same = leads line due g.0 X k.left_is in
    search (arith, first_line)

-- nothing was due, and no step is missing
pub unasked : (c : Settings) (marks : List Mark) (h : Holdings Wanted) (line : List ℕ) → Stood c marks h [] [] []
    → ¬ (GoesOn c (marks ++ told_line line))
unasked c marks h line s g =
    let e = sym (append_assoc marks (told_line line) g.0) ∙ g.3 in
    let k = goes c marks h [] [] [] s g.1 (told_line line ++ g.0) g.2 e in
    let none = none_asked k.next k.asks in
    let same = leads line [] g.0 (told (answers_in k.next) ++ transcript k.rest) k.left_is in
    search (arith, some_none, told, lead_transcript)
