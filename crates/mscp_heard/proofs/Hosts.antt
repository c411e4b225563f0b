-- What each moment of a host makes of the commands whose ends it hasn't heard.
use Rattle.mscp_heard.proofs.Common.{ArrayVec, Asked, Bool, Command, End, Envelope, Err, HearFault, Heard, List, Message, News, None, Ok, Option, Order, PortAccount, Result, Some, Submission, [], ap, arith, bytes_in, bytes_of, command_bytes, cond, end_says, ended, ends_of, false, find, four, granted, has_reference, heard_of, hears, is_of, is_too_much, list_any, map, message_in, nat_eq, news_said, num, poll_of, port_polls, port_submits, refl, subst, true, without_by, ℕ, ◌*◌, ◌++◌, ◌+◌, ◌/◌, ◌<◌, ◌^◌, ◌||◌, ◌∷◌, ◌≡◌, ◌≤◌, ◌⊎◌, asked_of, sym, ◌∙◌}
use Rattle.std.proofs.Common.{◌%◌}
use Rattle.mscp_host.specs.declared.heard.Heard.TheVariants as heards
use Rattle.mscp_host.specs.declared.message.HearFault.TheVariants as faults
use Rattle.mscp_host.specs.declared.message.Message.TheVariants as messages
use Rattle.mscp_host.specs.declared.news.Poll.TheVariants as polls
use Rattle.mscp_packet.specs.Opcodes.{is_transfer_opcode}
use Rattle.mscp_heard.proofs.Asking.{IsSent, poll_is, submit_is}

-- ---- the message of a command

message_number : (c : Command) → c.reference < 2 ^ 32 → num (command_bytes c) 0 4 ≡ c.reference
message_number c small = four c.reference small

few_bytes : (x : ℕ)
    → 0 + x % 256 * 1 + x / 256 % 256 * 256 + x / 65536 % 256 * 65536 + x / 16777216 % 256 * 16777216 ≤ x
few_bytes x = omega arith

order_bytes : (reference unit : ℕ) (order : Order)
    → bytes_in (command_bytes (record { reference = reference; unit = unit; order = order })) ≤ bytes_of order
unfolding is_transfer_opcode
order_bytes reference unit order = grind (arith, few_bytes)

-- ---- what is found

none_any : (n : ℕ) (asked : List Asked) → list_any (λ r. nat_eq r n) (map (λ a. a.reference) asked) ≡ false
    → find (is_of n) asked ≡ None
none_any n [] e = refl
none_any n (a ∷ asked) e = grind (arith, none_any n asked, nat_eq)

any_same : (n : ℕ) (xs : List Submission)
    → list_any (has_reference n) xs ≡ list_any (λ r. nat_eq r n) (map (λ s. s.reference) xs)
any_same n [] = refl
any_same n (x ∷ xs) = ap (λ b. nat_eq x.reference n || b) (any_same n xs)

-- the commands are those of the account, by number
abbrev pub SameNumbers : PortAccount → Type 0
SameNumbers p = map (λ a. a.reference) p.asked ≡ map (λ s. s.reference) p.account.outstanding

pub unused : (p : PortAccount) (n : ℕ) → SameNumbers p → list_any (has_reference n) p.account.outstanding ≡ false
    → find (is_of n) p.asked ≡ None
unused p n same e = grind (arith, none_any, nat_eq, any_same)

-- ---- a command is sent

pub record Sends (old new : PortAccount) (message : List ℕ) : Type 0 where
  pub more : Asked
  pub asked : new.asked ≡ old.asked ++ more ∷ []
  pub new_number : find (is_of (num message 0 4)) old.asked ≡ None
  pub number : more.reference ≡ num message 0 4
  pub bytes : bytes_in message ≤ more.bytes

sends : (old new : PortAccount) (message : ArrayVec ℕ) (c : Command) → c.reference < 2 ^ 32 → SameNumbers old
    → IsSent old new message c → Sends old new message.items
sends old new message c small same s = record {
  more = asked_of c;
  asked = s.asked;
  new_number = subst (λ n. find (is_of n) old.asked ≡ None) (sym at) (unused old c.reference same s.free);
  number = sym at;
  bytes = subst (λ b. bytes_in b ≤ bytes_of c.order) (sym s.is) (order_bytes c.reference c.unit c.order);
}
  where
    at : num message.items 0 4 ≡ c.reference
    at = ap (λ b. num b 0 4) s.is ∙ message_number c small

pub submit_sends : (old new : PortAccount) (c : Command) (message : ArrayVec ℕ) → c.reference < 2 ^ 32
    → SameNumbers old → port_submits old c ≡ (Ok message, new) → Sends old new message.items
submit_sends old new c message small same e = sends old new message c small same (submit_is old new c message e).0

pub poll_sends : (old new : PortAccount) (n : ℕ) → n < 2 ^ 32 → SameNumbers old → (message : ArrayVec ℕ)
    → port_polls old n ≡ (Ok (polls.Ask message), new) → Sends old new message.items
poll_sends old new n small same message e =
    let x = poll_is old new n message e in sends old new message (poll_of n x.0) small same x.2

-- ---- something is heard

-- what is outstanding stays so, or the command of an end is it no more
abbrev pub Settles : List Asked → List Asked → Result Message HearFault → Type 0
Settles old new r = (new ≡ old) ⊎ ((e : End) × (r ≡ Ok (messages.End e)) × (new ≡ without_by (is_of e.reference) old))

abbrev is_it : Result Heard HearFault × PortAccount → Bool
is_it (Ok (heards.MovedTooMuch x y), p) = true
is_it (r, p) = false

-- too many bytes are said of an end that counts them
pub hears_too_much : (old new : PortAccount) (v : Envelope) (b : List ℕ) (e : End) (asked : Asked)
    → hears old v b ≡ (Ok (heards.MovedTooMuch e asked), new)
    → (end : End) × (x : Asked) × (message_in v b ≡ Ok (messages.End end))
    × (find (is_of end.reference) old.asked ≡ Some x) × (is_too_much end.body x.bytes ≡ true)
hears_too_much old new v b e asked h = by (message_in v b) h
  where
    says : (end : End) (x : Asked) (poll c : Bool) → is_too_much end.body x.bytes ≡ c → (n : News)
        → is_it (Ok (news_said poll end x n), old) ≡ true → is_too_much end.body x.bytes ≡ true
    says end x poll c is n h = grind arith

    judged : (end : End) (x : Asked) (c : Bool)
        → ◌≡◌ {A = Result Heard HearFault × PortAccount} (cond c (
          Ok (end_says old end x),
          granted v.credits (ended old end),
        )
        (Err faults.Unknown, old))
        (Ok (heards.MovedTooMuch e asked), new) → is_too_much end.body x.bytes ≡ true
    judged end x c h = grind (arith, says)

    found : (end : End) (o : Option Asked) → find (is_of end.reference) old.asked ≡ o
        → ends_of old v.credits end o ≡ (Ok (heards.MovedTooMuch e asked), new)
        → (x : Asked) × (find (is_of end.reference) old.asked ≡ Some x) × (is_too_much end.body x.bytes ≡ true)
    found end o is h = grind (arith, judged)

    by : (r : Result Message HearFault) → heard_of old v.credits r ≡ (Ok (heards.MovedTooMuch e asked), new)
        → (end : End) × (x : Asked) × (r ≡ Ok (messages.End end))
        × (find (is_of end.reference) old.asked ≡ Some x) × (is_too_much end.body x.bytes ≡ true)
    by r h = grind (arith, found, nat_eq)

-- a message that is read is refused only as an end that is Unknown
pub hears_refused : (old new : PortAccount) (v : Envelope) (b : List ℕ) (m : Message) (fault : HearFault)
    → message_in v b ≡ Ok m → hears old v b ≡ (Err fault, new)
    → (fault ≡ faults.Unknown) × ((e : End) × (message_in v b ≡ Ok (messages.End e)))
hears_refused old new v b m fault is h =
    by m is (subst (λ r. heard_of old v.credits r ≡ (Err fault, new)) is h)
  where
    judged : (end : End) (x : Asked) (c : Bool)
        → ◌≡◌ {A = Result Heard HearFault × PortAccount} (cond c (
          Ok (end_says old end x),
          granted v.credits (ended old end),
        )
        (Err faults.Unknown, old)) (Err fault, new) → fault ≡ faults.Unknown
    judged end x c h = grind arith

    found : (end : End) (o : Option Asked) → ends_of old v.credits end o ≡ (Err fault, new) → fault ≡ faults.Unknown
    found end o h = grind (arith, judged)

    by : (m : Message) → message_in v b ≡ Ok m → heard_of old v.credits (Ok m) ≡ (Err fault, new)
        → (fault ≡ faults.Unknown) × ((e : End) × (message_in v b ≡ Ok (messages.End e)))
    by m is h = grind (arith, found)
