-- What each moment of a host makes of the poll in flight, and which ends a host takes.
use Rattle.mscp_heard.proofs.Common.{AllByRecursion, ArrayVec, Asked, Bool, Command, End, Envelope, Err, HearFault, Heard, List, Message, None, Ok, Option, PortAccount, Result, Some, Submission, Watch, [], ap, arith, as_read, asked_of, command_bytes, cond, end_says, ended, ends_of, eq-eqb, eqb-true, false, find, four, granted, heard_of, hears, inl, inr, is_about, is_code_of, is_immediate, is_of, is_poll_of, length, map, may_be_of, message_in, nat_eq, none-some, not, num, oldest, poll_of, port_polls, port_submits, refl, same_Some, slice_index, submission_of, subst, sym, true, watch_after, without_by, ℕ, ◌++◌, ◌<◌, ◌^◌, ◌∙◌, ◌∷◌, ◌≡◌, ◌≤◌, ◌⊎◌}
use Rattle.mscp_packet.specs.declared.end.EndBody.TheVariants as bodies
use Rattle.mscp_host.specs.declared.message.HearFault.TheVariants as faults
use Rattle.mscp_host.specs.declared.message.Message.TheVariants as messages
use Rattle.mscp_host.specs.declared.news.Poll.TheVariants as polls
use Rattle.mscp_heard.proofs.Hosts.{SameNumbers, Settles, unused}
use Rattle.mscp_heard.proofs.Asking.{IsSent, poll_is, submit_is}

-- ---- a message is sent

-- a command of this number and opcode is outstanding then, and a poll is in flight, or the poll that was is still
pub record Notes (old new : PortAccount) (message : List ℕ) : Type 0 where
  pub more : Asked
  pub asked : new.asked ≡ old.asked ++ more ∷ []
  pub new_number : find (is_of (num message 0 4)) old.asked ≡ None
  pub number : more.reference ≡ num message 0 4
  pub small : more.reference < 2 ^ 32
  pub opcode : more.opcode ≡ slice_index message 8
  pub submission : Submission
  pub outstanding : new.account.outstanding ≡ old.account.outstanding ++ submission ∷ []
  pub untold : submission.told ≡ None
  pub watch : (new.account.watch ≡ old.account.watch) ⊎ ((w : Watch) × (new.account.watch ≡ Some w)
      × (w.reference ≡ more.reference) × (w.polled ≡ num message 12 4) × (16 ≤ length message)
      × (slice_index message 8 ≡ 2) × ((y : Asked) × (find (is_of w.polled) old.asked ≡ Some y)))

notes : (old new : PortAccount) (message : ArrayVec ℕ) (c : Command) → c.reference < 2 ^ 32 → SameNumbers old
    → IsSent old new message c
    → (new.account.watch ≡ old.account.watch) ⊎ ((w : Watch) × (new.account.watch ≡ Some w)
    × (w.reference ≡ c.reference) × (w.polled ≡ num (command_bytes c) 12 4) × (16 ≤ length (command_bytes c))
    × (slice_index (command_bytes c) 8 ≡ 2) × ((y : Asked) × (find (is_of w.polled) old.asked ≡ Some y)))
    → Notes old new message.items
notes old new message c small same s watch =
    let number : num message.items 0 4 ≡ c.reference = ap (λ b. num b 0 4) s.is ∙ four c.reference small in
    record {
      more = asked_of c;
      asked = s.asked;
      new_number = subst (λ n. find (is_of n) old.asked ≡ None) (sym number) (unused old c.reference same s.free);
      number = sym number;
      small = small;
      opcode = sym (ap (λ b. slice_index b 8) s.is);
      submission = submission_of c;
      outstanding = s.outstanding;
      untold = refl;
      watch = elim watch [
        | inl e ↦ inl e
        | inr w ↦ inr (
          w.0,
          w.1,
          w.2,
          w.3 ∙ ap (λ b. num b 12 4) (sym s.is),
          subst (λ b. 16 ≤ length b) (sym s.is) w.4,
          ap (λ b. slice_index b 8) s.is ∙ w.5,
          w.6,
        )
      ];
    }

pub submit_notes : (old new : PortAccount) (c : Command) (message : ArrayVec ℕ) → c.reference < 2 ^ 32
    → SameNumbers old → port_submits old c ≡ (Ok message, new) → Notes old new message.items
submit_notes old new c message small same e =
    let x = submit_is old new c message e in notes old new message c small same x.0 (inl x.1)

-- what is found is as all are
all_found : (P : Submission → Type 0) (f : Submission → Bool) (xs : List Submission) (x : Submission)
    → AllByRecursion P xs → find f xs ≡ Some x → P x
all_found P f [] x all e = absurd (none-some x e)
all_found P f (y ∷ ys) x all e = grind (arith, all_found P f ys x all.1, same_Some)

abbrev pub AreSmall : List Asked → Type 0
AreSmall asked = AllByRecursion (λ (n : ℕ). n < 2 ^ 32) (map (λ (x : Asked). x.reference) asked)

mapped : (xs : List Submission) → AllByRecursion (λ (n : ℕ). n < 2 ^ 32) (map (λ (s : Submission). s.reference) xs)
    → AllByRecursion (λ (s : Submission). s.reference < 2 ^ 32) xs
mapped [] all = tt
mapped (x ∷ xs) all = (all.0, mapped xs all.1)

-- each number of a command is found
abbrev pub Found : List Asked → ℕ → Type 0
Found asked n = (y : Asked) × (find (is_of n) asked ≡ Some y)

found_each : (asked : List Asked) → AllByRecursion (Found asked) (map (λ (x : Asked). x.reference) asked)
found_each [] = tt
found_each (a ∷ asked) = (
  (a, ap (λ b. cond b (Some a) (find (is_of a.reference) asked)) (eq-eqb a.reference a.reference refl)),
  more (map (λ (x : Asked). x.reference) asked) (found_each asked),
)
  where
    more : (ns : List ℕ) → AllByRecursion (Found asked) ns → AllByRecursion (Found (a ∷ asked)) ns
    more [] all = tt
    more (n ∷ ns) all = (by (nat_eq a.reference n) all.0, more ns all.1)
      where
        by : (b : Bool) → Found asked n → (y : Asked) × (cond b (Some a) (find (is_of n) asked) ≡ Some y)
        by true y = (a, refl)
        by false y = y

found_mapped : (asked : List Asked) (xs : List Submission)
    → AllByRecursion (Found asked) (map (λ (s : Submission). s.reference) xs)
    → AllByRecursion (λ (s : Submission). Found asked s.reference) xs
found_mapped asked [] all = tt
found_mapped asked (x ∷ xs) all = (all.0, found_mapped asked xs all.1)

-- so is that of each submission
pub found_submissions : (old : PortAccount) → SameNumbers old
    → AllByRecursion (λ (s : Submission). Found old.asked s.reference) old.account.outstanding
found_submissions old same = grind (arith, found_mapped, found_each)

module _ (old new : PortAccount) (n : ℕ) (small : n < 2 ^ 32) (same : SameNumbers old) (smalls : AreSmall old.asked)
  where
    about_small : (s : Submission) → oldest old.account ≡ Some s → s.reference < 2 ^ 32
    about_small s at = all_found (λ (x : Submission). x.reference < 2 ^ 32)
        (λ x. Rattle.std.specs.Prelude.not (is_immediate x.opcode)) old.account.outstanding s
        (mapped old.account.outstanding (subst (λ ns. AllByRecursion (λ (k : ℕ). k < 2 ^ 32) ns) same smalls)) at

    pub poll_notes : (message : ArrayVec ℕ) → port_polls old n ≡ (Ok (polls.Ask message), new)
        → Notes old new message.items
    poll_notes message e =
        let x = poll_is old new n message e in
        let s = x.0 in
        notes old new message (poll_of n s) small same x.2 (inr (
          record { reference = n; polled = s.reference; is_outstanding = true },
          x.3,
          refl,
          sym (four s.reference (about_small s x.1)),
          search arith,
          refl,
          all_found (λ (x : Submission). Found old.asked x.reference)
              (λ x. Rattle.std.specs.Prelude.not (is_immediate x.opcode)) old.account.outstanding s
              (found_submissions old same) x.1,
        ))

-- ---- something is heard

pub read_number : (e : End) → (as_read e).reference ≡ e.reference
read_number e = grind arith

-- what is outstanding and in flight stays so, or the command of an end is outstanding no more
abbrev pub SettlesWatch : PortAccount → PortAccount → Result Message HearFault → Type 0
SettlesWatch old new r =
    ((new.asked ≡ old.asked) × (new.account ≡ old.account))
    ⊎ ((e : End) × (r ≡ Ok (messages.End e)) × (new.asked ≡ without_by (is_of e.reference) old.asked)
    × (new.account.watch ≡ watch_after old.account.watch e.reference))

pub hear_watch : (old new : PortAccount) (v : Envelope) (b : List ℕ) (answer : Result Heard HearFault)
    → hears old v b ≡ (answer, new) → SettlesWatch old new (message_in v b)
hear_watch old new v b answer e = by (message_in v b) e
  where
    judged : (end : End) (x : Asked) (c : Bool)
        → ◌≡◌ {A = Result Heard HearFault × PortAccount} (cond c (
          Ok (end_says old end x),
          granted v.credits (ended old end),
        )
        (Err faults.Unknown, old)) (answer, new)
        → SettlesWatch old new (Ok (messages.End end))
    judged end x c h = grind (arith, read_number)

    found : (end : End) (o : Option Asked) → ends_of old v.credits end o ≡ (answer, new)
        → SettlesWatch old new (Ok (messages.End end))
    found end o h = grind (arith, judged)

    by : (r : Result Message HearFault) → heard_of old v.credits r ≡ (answer, new) → SettlesWatch old new r
    by r h = grind (arith, found)

pub settles : (old new : PortAccount) (r : Result Message HearFault) → SettlesWatch old new r
    → Settles old.asked new.asked r
settles old new r h = grind arith

-- an end of the code of its command, and a poll's about the polled one, is that of the command
pub may_be : (old : PortAccount) (e : End) (x : Asked) → is_code_of e.code x.opcode ≡ true
    → ((other figure : ℕ) → e.code ≡ 0x82 → e.body ≡ bodies.Status other figure
    → is_poll_of old.account.watch e.reference ≡ true → is_about old.account.watch other ≡ true)
    → may_be_of old e x ≡ true
may_be old e x code about = grind (arith, nat_eq, eqb-true)

-- and so it isn't refused
pub hears_ok : (old new : PortAccount) (v : Envelope) (b : List ℕ) (m : Message) (fault : HearFault)
    → message_in v b ≡ Ok m
    → ((e : End) → message_in v b ≡ Ok (messages.End e) → (x : Asked) × (find (is_of e.reference) old.asked ≡ Some x)
    × (may_be_of old e x ≡ true))
    → hears old v b ≡ (Err fault, new) → ⊥
hears_ok old new v b m fault is own h = grind arith
