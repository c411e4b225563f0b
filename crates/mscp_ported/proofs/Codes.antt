-- The endcode of a command is that of its message's opcode, and a poll is about the command that its message names.
use Rattle.mscp_ported.proofs.Common.{Bool, Command, End, EndBody, IsCodeFor, List, None, Opcode, Option, Order, Settings, Shape, Some, arith, bit_or, command_of, cond, endcode, eqb-true, false, fault_of, found_is, handed, inl, is_formality, is_queued, least, length, nat_eq, nat_lt, num, opcode_of, opcodes, order_with, own_end_with, parameters, refl, refused_body, row_of, slice_index, stand_in, subst, sym, true, ℕ, ◌+◌, ◌<◌, ◌∙◌, ◌≡◌, ◌≤◌, ◌⊎◌, false≢true}
use Rattle.mscp_packet.specs.declared.class.Opcode.TheVariants as codes
use Rattle.mscp_packet.specs.declared.command.Order.TheVariants as orders
use Rattle.mscp_packet.specs.declared.end.EndBody.TheVariants as bodies
use Rattle.mscp_ported.proofs.Handed.{handed_cases, renamed, renamed_about, renamed_byte, renamed_long}

-- ---- codes

row_coded : (o : Opcode) → bit_or (row_of o).byte 0x80 ≡ (row_of o).byte + 0x80
row_coded o = grind arith

parameters_coded : (o : Opcode) (b : List ℕ) → endcode (parameters o b) ≡ bit_or (row_of o).byte 0x80
parameters_coded codes.Abort b = refl
parameters_coded code b = refl

order_coded : (o : Option Opcode) (b : List ℕ) → opcode_of (slice_index b 8) ≡ o
    → IsCodeFor (endcode (order_with o b)) b
order_coded None b e = inl (refl, e)
order_coded (Some o) b e = grind (arith, nat_lt, eqb-true, found_is, nat_eq, row_coded, parameters_coded)

command_coded : (b : List ℕ) → IsCodeFor (endcode (command_of b).order) b
unfolding command_of
command_coded b = order_coded (opcode_of (slice_index b 8)) b refl

pub handed_coded : (units : List Shape) (b : List ℕ) → 12 ≤ length b → is_formality (slice_index b 8) ≡ false
    → IsCodeFor (endcode (command_of (handed units b)).order) b
handed_coded units b long plain = handed_cases (λ x. IsCodeFor (endcode (command_of x).order) b) units b
    (λ formal. absurd (false≢true (sym plain ∙ formal)))
    (λ other asks n. subst (λ x. ((endcode (command_of (renamed b n)).order ≡ 0x80) × (opcode_of x ≡ None))
    ⊎ (endcode (command_of (renamed b n)).order ≡ x + 0x80)) (renamed_byte b n long) (command_coded (renamed b n)))
    (λ other. command_coded b)

-- ---- an end that is answered at once

-- the command that the body of an end is about: of an ABORT and of a poll
abbrev pub about_in : EndBody → Option ℕ
about_in (bodies.Abort other) = Some other
about_in (bodies.Status other figure) = Some other
about_in body = None

-- the code of the end of an ABORT or of a poll
abbrev pub IsAboutCode : ℕ → Type 0
IsAboutCode code = (code ≡ 0x81) ⊎ (code ≡ 0x82)

-- it is the one that the message names, and the end succeeds
abbrev pub Succeeds : List ℕ → End → ℕ → Type 0
Succeeds b e other = (other ≡ num b 12 4) × (e.status ≡ 0) × IsAboutCode e.code

abbrev IsAbout : List ℕ → End → Type 0
IsAbout b e = (other : ℕ) → about_in e.body ≡ Some other → Succeeds b e other

short_about : (o : Opcode) (b : List ℕ) (byte : ℕ) → (row_of o).byte ≡ byte → least o ≤ 16 → 16 ≤ length b
    → nat_lt (length b) (least o) ≡ true → ⊥
short_about o b byte at small long short = search (arith, small, long, short)

other_about : (o : Opcode) (b : List ℕ) (byte : ℕ) → (row_of o).byte ≡ byte → 16 < least o → (other : ℕ)
    → about_in (refused_body (bit_or byte 0x80)) ≡ Some other → ⊥
other_about o b byte at more other is = grind arith

abbrev own_of : Settings → Bool → ℕ → Command → End
own_of c online figure command = own_end_with c online figure command (fault_of c command)

-- what the controller answers a command at once is about none, whatever the fault is
abbrev Untold : Settings → Bool → ℕ → Command → Type 0
Untold c online figure command = (o : Option ℕ) (other : ℕ)
    → about_in (own_end_with c online figure command o).body ≡ Some other → ⊥

abbrev commanded : ℕ → ℕ → Order → Command
commanded unit reference order = record { reference = reference; unit = unit; order = order }

-- so are the ends of all orders but an ABORT, a poll, and those of unknown opcodes
abbrev IsTold : Order → Type 0
IsTold (orders.Abort other) = ⊥
IsTold (orders.Status other) = ⊥
IsTold (orders.Invalid byte why) = ⊥
IsTold order = Unit {0}

order_untold : (c : Settings) (online : Bool) (figure unit reference : ℕ) (order : Order) → IsTold order
    → Untold c online figure (commanded unit reference order)
order_untold c online figure unit reference order told k other h = grind arith

parameters_about : (c : Settings) (online : Bool) (figure unit reference : ℕ) (b : List ℕ) (o : Opcode)
    → IsAbout b (own_of c online figure (commanded unit reference (parameters o b)))
parameters_about c online figure unit reference b o other is = grind (arith, order_untold)

answered_with : (c : Settings) (online : Bool) (figure unit reference : ℕ) (b : List ℕ) (o : Option Opcode)
    → opcode_of (slice_index b 8) ≡ o → 16 ≤ length b
    → IsAbout b (own_of c online figure (record { reference = reference; unit = unit; order = order_with o b }))
answered_with c online figure unit reference b None e long = λ other is. absurd (search (arith, is))
answered_with c online figure unit reference b (Some o) e long = by (nat_lt (length b) (least o)) refl
  where
    at : (row_of o).byte ≡ slice_index b 8
    at = eqb-true (row_of o).byte (slice_index b 8)
        (found_is (λ x. nat_eq (row_of x).byte (slice_index b 8)) opcodes o e)

    refused : nat_lt (length b) (least o) ≡ true → (n other : ℕ) → least o ≡ n
        → about_in (refused_body (bit_or (slice_index b 8) 0x80)) ≡ Some other → ⊥
    refused short n other same h = grind (arith, short_about, at, other_about)

    by : (x : Bool) → nat_lt (length b) (least o) ≡ x
        → IsAbout b (own_of c online figure (record {
          reference = reference;
          unit = unit;
          order = cond x
              (orders.Invalid (slice_index b 8) Rattle.mscp_packet.specs.Statuses.invalid_length) (parameters o b);
        }))
    by true short other h = absurd (refused short (least o) other refl h)
    by false enough other h = parameters_about c online figure unit reference b o other h

answered_command : (c : Settings) (online : Bool) (figure : ℕ) (b : List ℕ) → 16 ≤ length b
    → IsAbout b (own_of c online figure (command_of b))
unfolding command_of
answered_command c online figure b long =
    answered_with c online figure (num b 4 2) (num b 0 4) b (opcode_of (slice_index b 8)) refl long

stood_about : (c : Settings) (online : Bool) (figure : ℕ) (b : List ℕ) → 16 ≤ length b
    → (other : ℕ) → about_in (own_of c online figure (command_of (stand_in b))).body ≡ Some other → ⊥
unfolding command_of
stood_about c online figure b long other is = grind arith

pub answered_about : (c : Settings) (online : Bool) (figure : ℕ) (units : List Shape) (b : List ℕ) → 16 ≤ length b
    → IsAbout b (own_of c online figure (command_of (handed units b)))
answered_about c online figure units b long =
    handed_cases (λ x. IsAbout b (own_of c online figure (command_of x))) units b
    (λ formal other h. absurd (stood_about c online figure b long other h))
    (λ plain asks n other h.
    let a = answered_command c online figure (renamed b n) (renamed_long b n long) other h in
    (a.0 ∙ renamed_about b n (search (arith, long)), a.1, a.2))
    (λ plain. answered_command c online figure b long)

-- it has the code and the unit of its command
pub answered_code : (s : Settings) (online : Bool) (figure : ℕ) (x : Command) (o : Option ℕ)
    → (own_end_with s online figure x o).code ≡ endcode x.order
answered_code s online figure x None = refl
answered_code s online figure x (Some status) = refl

pub answered_unit : (s : Settings) (online : Bool) (figure : ℕ) (x : Command) (o : Option ℕ)
    → (own_end_with s online figure x o).unit ≡ x.unit
answered_unit s online figure x None = refl
answered_unit s online figure x (Some status) = refl

-- ---- a command that is queued

-- there is room for what is kept of it
pub under_64 : (m : ℕ) → m < 64 → nat_lt m 64 ≡ true
under_64 m less = search (arith, less)

-- it is about none
pub queued_no_about : (c : Settings) (command : Command) → is_queued c command ≡ true → (other : ℕ)
    → about_in (refused_body (endcode command.order)) ≡ Some other → ⊥
queued_no_about c command q other is = grind arith
