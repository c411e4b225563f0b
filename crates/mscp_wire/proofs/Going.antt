-- What counts as told, and what a log tells once such a moment came.
use Rattle.mscp_wire.proofs.Common.{ArrayVec, Bool, Cause, Connection, Course, Err, Finding, Findings, History, IsMiddleOf, IsOn, List, Log, Mention, Moment, None, Ok, Option, Seen, Sent, Some, [], after, answer_by, ap, arith, broken, broken_at, broken_by, called_after, cond, controller, controller_after, count_on, counts, false, findings_with, first_in, first_or, four_in, has_credit, has_name, has_place, has_room, if◌then◌else◌, in_line, is_eq, is_first, is_fresh, is_immediate, is_long, is_message, is_named_in, is_new, is_none, is_stranger, kept, kept_called, key, le-leb, length, length-append, limit_of, line_says, mention_after, mention_of, mentions_after, mentions_counted, nat_cmp, nat_lt, nat_tests, or_no_mention, outstanding, place_of, refl, same_connection, seen_of, sent_by, sents, subst, sym, tells_of, timeout_after, told, told_after, told_in, true, unless, with_counted, with_moment, with_told, ℕ, ◌&&◌, ◌++◌, ◌+◌, ◌>>=◌, ◌||◌, ◌∙◌, ◌∷◌, ◌≡◌, ◌≤◌}
use Rattle.std.proofs.Common.{nat_eq}
use Rattle.mscp_reader.specs.declared.fault.Cause.TheVariants as causes
use Rattle.mscp_wire.specs.declared.line.Said.TheVariants as says
use Rattle.mscp_wire.specs.declared.moment.Moment.TheVariants as moments
use Rattle.mscp_wire.specs.declared.rule.Rule.TheVariants as rules
use Rattle.mscp_wire.proofs.Doubting.{called_more}
use Rattle.mscp_wire.proofs.Keys.{same_key}
use Rattle.mscp_wire.proofs.Passing.{controller_more, pushed, timeout_more, told_more}

-- a message that is long enough counts if its command has a place
pub counts_long : (xs : List Sent) (via : Connection) (b : ArrayVec ℕ) (bytes : List ℕ) (time : Option ℕ) (s : Sent)
    (m : Moment) (r : Bool) → 12 ≤ length b.items → m ≡ moments.Message via b time → bytes ≡ b.items
    → s ≡ sent_by via bytes → r ≡ (is_new xs s && has_room xs s) → r ≡ counts xs m
counts_long xs via b bytes time s m r long is same at h =
    h
    ∙ (ap (λ z. is_new xs z && has_room xs z) (at ∙ ap (sent_by via) same)
    ∙ (sym (ap (λ q. q && (is_new xs (sent_by via b.items) && has_room xs (sent_by via b.items)))
    (le-leb 12 (length b.items) long))
    ∙ sym (ap (counts xs) is)))

-- the keys that a map compares equal
compared : (m n : ℕ) → is_eq (nat_cmp m n) ≡ nat_eq m n
compared m n = grind (arith, nat_tests)

-- where a command is mentioned once a map was updated at its name
pub put_mention : (old new : ℕ → Option Mention) (via : Connection) (reference k : ℕ) (mention : Mention)
    → k ≡ key via reference → ((q : ℕ) → new q ≡ cond (is_eq (nat_cmp k q)) (Some mention) (old q))
    → (other : Connection) (number : ℕ) → or_no_mention (new (key other number))
    ≡ (if same_connection via other && nat_eq reference number then mention else or_no_mention (old (key other number)))
put_mention old new via reference k mention e h other number =
    ap or_no_mention (h (key other number))
    ∙ ap (λ b. or_no_mention (cond b (Some mention) (old (key other number))))
    (compared k (key other number) ∙ ap (λ j. nat_eq j (key other number)) e ∙ same_key via other reference number)
    ∙ by_test (same_connection via other && nat_eq reference number)
  where
    by_test : (b : Bool) → or_no_mention (cond b (Some mention) (old (key other number)))
        ≡ (if b then mention else or_no_mention (old (key other number)))
    by_test true = refl
    by_test false = refl

-- the credits are told before anything else
pub credits_first : (number c : ℕ) (f : Findings) (b : Bool) → b ≡ is_fresh f.log → b ≡ true
    → findings_with number f (says.Credits c) ≡ Ok (record f { log = record f.log { credits = Some c } })
credits_first number c f b e h = rw (sym e ∙ h) refl

pub begun_first : (number : ℕ) (f : Findings) → is_first f.log ≡ true
    → findings_with number f says.Begun ≡ Ok (record f { log = record f.log { begun = true; strangers = [] } })
begun_first number f h = rw h refl

-- ---- the first moment that isn't right

-- no line
pub first_none : (n : ℕ) (f : Findings) → first_in n f [] ≡ Ok None
unfolding first_in
first_none n f = refl

-- a line in which nothing is wrong
pub first_more : (n number : ℕ) (f next : Findings) (line : List ℕ) (rest : List (List ℕ)) → number ≡ n + 1
    → (line_says number line >>= findings_with number f) ≡ Ok next → next.found ≡ []
    → first_in n f (line ∷ rest) ≡ first_in number next rest
unfolding first_in
first_more n number f next line rest e h none =
    subst (λ k. (in_line k (line_says k line >>= findings_with k f)
    >>= λ x. first_or x.found (first_in k x rest)) ≡ first_in number next rest) e
    (ap (λ r. in_line number r >>= λ x. first_or x.found (first_in number x rest)) h
    ∙ ap (λ xs. first_or xs (first_in number next rest)) none)

-- one in which something is
pub first_found : (n number : ℕ) (f next : Findings) (line : List ℕ) (rest : List (List ℕ)) (finding : Finding)
    → number ≡ n + 1 → (line_says number line >>= findings_with number f) ≡ Ok next
    → next.found ≡ finding ∷ [] → first_in n f (line ∷ rest) ≡ Ok (Some finding)
unfolding first_in
first_found n number f next line rest finding e h one =
    subst (λ k. (in_line k (line_says k line >>= findings_with k f)
    >>= λ x. first_or x.found (first_in k x rest)) ≡ Ok (Some finding)) e
    (ap (λ r. in_line number r >>= λ x. first_or x.found (first_in number x rest)) h
    ∙ ap (λ xs. first_or xs (first_in number next rest)) one)

-- and one that is at fault
pub first_faults : (n number : ℕ) (f : Findings) (line : List ℕ) (rest : List (List ℕ)) (cause : Cause)
    → number ≡ n + 1 → (line_says number line >>= findings_with number f) ≡ Err cause
    → first_in n f (line ∷ rest) ≡ Err (record { line = number; cause = cause })
unfolding first_in
first_faults n number f line rest cause e h =
    subst (λ k. (in_line k (line_says k line >>= findings_with k f)
    >>= λ x. first_or x.found (first_in k x rest)) ≡ Err (record { line = number; cause = cause })) e
    (ap (λ r. in_line number r >>= λ x. first_or x.found (first_in number x rest)) h)

-- ---- a moment that is right counts

-- so few credits has a host
few : (credits : Option ℕ) → limit_of credits ≤ 1024
few None = omega arith
few (Some c) = omega arith

room : (n l : ℕ) (i : Bool) → l ≤ 1024 → (nat_lt (n + 1) l || (nat_eq (n + 1) l && i)) ≡ true → nat_lt n 1024 ≡ true
room n l i few h = grind (arith, nat_tests)

right_counts : (credits : Option ℕ) (xs : List Sent) (unit : Seen) (m : Moment)
    → broken credits xs unit m ≡ None → counts xs m ≡ true
right_counts credits xs unit (moments.Message via b time) h =
    by_rules (is_message b.items) (is_new xs (sent_by via b.items)) (has_credit credits xs (sent_by via b.items)) refl h
  where
    by_rules : (x y z : Bool) → has_credit credits xs (sent_by via b.items) ≡ z
        → unless x rules.Message (unless y rules.Number (unless z rules.Credits None)) ≡ None
        → (x && (y && has_room xs (sent_by via b.items))) ≡ true
    by_rules true true true e k =
        room (count_on via xs) (limit_of credits) (is_immediate (sent_by via b.items).opcode) (few credits) e
    by_rules true true false e k = cc
    by_rules true false z e k = cc
    by_rules false y z e k = cc
right_counts credits xs unit (moments.End via b) h =
    by_long (is_long b.items) refl h
  where
    by_long : (x : Bool) → is_long b.items ≡ x → unless x rules.Length (broken_at xs unit (answer_by via b.items)
        (place_of xs (answer_by via b.items))) ≡ None → (is_message b.items && true) ≡ true
    by_long true e k = grind (arith, nat_tests)
    by_long false e k = cc
right_counts credits xs unit moments.Reset h = refl
right_counts credits xs unit (moments.Closed via) h = refl

pub right_told : (log : Log) (m : Moment) → broken_by log.credits log.moments m ≡ None
    → counts (outstanding log.moments) m ≡ true
right_told log m h =
    right_counts log.credits (outstanding log.moments)
    (seen_of (outstanding log.moments) (told log.moments) (controller log.moments) m) m h

-- ---- a moment more counts

-- where commands are mentioned then is the same for the same mentions
told_same : (old mentions : Connection → ℕ → Mention)
    → ((via : Connection) (reference : ℕ) → old via reference ≡ mentions via reference) → (via : Connection)
    (o : Option ℕ) → told_in old via o ≡ told_in mentions via o
told_same old mentions h via None = refl
told_same old mentions h via (Some reference) = ap (λ (x : Mention). x.told) (h via reference)

pub mention_same : (number : ℕ) (old mentions : Connection → ℕ → Mention) (m : Moment)
    → ((via : Connection) (reference : ℕ) → old via reference ≡ mentions via reference) → (via : Connection)
    (reference : ℕ) → mention_after number old m via reference ≡ mention_after number mentions m via reference
mention_same number old mentions (moments.Message other b time) h via reference =
    ap (λ (t : Option ℕ). if has_name other b.items via reference
    then record { sent = Some number; told = None; asked = t } else old via reference)
    (told_same old mentions h other (four_in b.items 12))
    ∙ ap (λ (x : Mention). if has_name other b.items via reference
    then record { sent = Some number; told = None; asked = told_in mentions other (four_in b.items 12) } else x)
    (h via reference)
mention_same number old mentions (moments.End other b) h via reference =
    ap (λ (x : Mention). if tells_of other b.items via reference then record x { told = Some number } else (
    if has_name other b.items via reference then record x { told = None } else x)) (h via reference)
mention_same number old mentions moments.Reset h via reference = h via reference
mention_same number old mentions (moments.Closed other) h via reference = h via reference

-- nothing may come before what counts
stale : (n : ℕ) (credits : Option ℕ) (h : History) (m : Moment)
    → (is_none credits && nat_eq (length (h ++ m ∷ [])) 0) ≡ false
stale n credits h m = grind (arith, nat_tests, length-append)

-- what a course is once a moment more counts
pub advanced : {A : Type 0} (number : ℕ) (log : Log) (mentions : Connection → ℕ → Mention) (m : Moment)
    (old new : Course A) → IsOn log mentions old → new.judge.credits ≡ old.judge.credits
    → sents new.judge.commands ≡ after old.judge.timeout (sents old.judge.commands) m
    → ((via : Connection) (unit : ℕ) → kept new.judge.units via unit
    ≡ told_after (sents old.judge.commands) via unit (kept old.judge.units via unit) m)
    → ((identifier : ℕ) → kept_called new.judge.units identifier
    ≡ called_after identifier (kept_called old.judge.units identifier) m)
    → new.judge.controller ≡ controller_after old.judge.controller m
    → new.judge.timeout ≡ timeout_after old.judge.timeout m → new.fresh ≡ false
    → ((via : Connection) (reference : ℕ) → mention_of new.mentions.lines via reference
    ≡ mention_after number (mention_of old.mentions.lines) m via reference)
    → IsMiddleOf (with_moment number log m) new.middle → counts (outstanding log.moments) m ≡ true
    → IsOn (with_counted number log m) (mentions_counted number log mentions m) new
advanced number log mentions m old new s credits commands units called controller timeout fresh mentioned middle does =
    rw does record {
      credits = credits ∙ s.credits;
      commands = pushed log.moments m _ _ _ s.timeout s.commands commands;
      units = told_more log.moments m _ _ _ s.commands s.units units;
      controller = controller_more log.moments m _ _ s.controller controller;
      timeout = timeout_more log.moments m _ _ s.timeout timeout;
      called = called_more log.moments m _ _ s.called called;
      fresh = fresh ∙ sym (stale number log.credits log.moments m);
      mentions = λ via reference. mentioned via reference
          ∙ mention_same number (mention_of old.mentions.lines) mentions m s.mentions via reference;
      middle = middle;
    }

-- one that is no stranger counts if it can
pub counted_told : {A : Type 0} (number : ℕ) (log : Log) (mentions : Connection → ℕ → Mention) (m : Moment)
    (new : Course A) → is_stranger log m ≡ false
    → IsOn (with_counted number log m) (mentions_counted number log mentions m) new
    → IsOn (with_told number log m) (mentions_after number log mentions m) new
counted_told number log mentions m new h s = rw h s
