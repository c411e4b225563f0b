-- An end that suits what a command asks for keeps the rules that look at that command alone.
use Rattle.mscp_shown.proofs.Common.{Answer, Bool, EndBody, MoveKind, None, Opcode, Option, Order, Sent, Some, ap, arith, bit_or, count_of, endcode, eq-eqb, eqb-true, false, has_code, has_count, has_status, if◌then◌else◌, inl, inr, is_about, is_about_another, is_counted, is_it, is_known, is_refused, is_required, is_short, is_some, is_transfer, is_unknown, least_of, lt-ltb, may_have_status, move_byte, moves, names_unit, nat_eq, nat_le, nat_lt, not, opcode_byte, refl, refused_body, row_of, status_code, subst, succeeds, sym, true, was_online, ℕ, ⊎_elim, ◌%◌, ◌&&◌, ◌+◌, ◌/◌, ◌<◌, ◌||◌, ◌∙◌, ◌≡◌, ◌≢◌, ◌≤◌, ◌⊎◌}
use Rattle.mscp_packet.specs.EndcodeBytes as endcodes
use Rattle.mscp_packet.specs.OpcodeBytes as opcodes
use Rattle.mscp_packet.specs.declared.class.Opcode.TheVariants as opcode
use Rattle.mscp_packet.specs.declared.command.Order.TheVariants as orders
use Rattle.mscp_shown.proofs.Reading.{BodyReads}
use Rattle.mscp_shown.proofs.Saying.{IsLong, IsShort, Says}
use Rattle.mscp_shown.proofs.Suited.{IsApt, IsFine, Keeps, Suits}

-- what is told of the command that a command is about, if it is about one
abbrev asked : ℕ → Sent → Option ℕ
asked op s = if is_about_another op then s.parameter else None

-- unless a modifier is why it is refused
abbrev other_when : Bool → Bool → Bool → Option ℕ → Option ℕ
other_when known about refused p = if known && about && not refused then p else None

-- and of the bytes of a transfer
abbrev wanted : ℕ → Sent → Option ℕ
wanted op s = if is_transfer op then s.parameter else None

-- the opcode of a transfer
move_of_none : (kind : MoveKind) → is_about_another (move_byte kind) ≡ false
move_of_none kind = grind arith

move_is : (kind : MoveKind) → is_transfer (move_byte kind) ≡ true
move_is kind = grind arith

move_apart : (kind : MoveKind) → nat_eq (move_byte kind) 17 ≡ false
move_apart kind = grind arith

move_top : (kind : MoveKind) → not (nat_eq (bit_or (move_byte kind) 0x80) 0x80) ≡ true
move_top kind = grind arith

move_code : (kind : MoveKind) → nat_eq (bit_or (move_byte kind) 0x80) (move_byte kind + 0x80) ≡ true
move_code kind = grind arith

module _ (s : Sent) (a : Answer) where
  -- an end of its command's unit
  its_unit : a.unit ≡ s.unit → names_unit s a ≡ true
  its_unit e = grind arith

  -- an end that keeps a rule of the command that its command is about, if it isn't refused
  unless_refused : (P : Option ℕ → Bool) (k about : Bool) → k ≡ true → P None ≡ true
      → P (if about then s.parameter else None) ≡ true → P (other_when k about (is_refused s a) s.parameter) ≡ true
  unless_refused P k about e none some = grind arith

  -- and one of an opcode that isn't known keeps it
  by_nobody : (P : Option ℕ → Bool) (k about refused : Bool) → k ≡ false → P None ≡ true
      → P (other_when k about refused s.parameter) ≡ true
  by_nobody P k about refused e none = ap (λ b. P (other_when b about refused s.parameter)) e ∙ none

  or_false : (b : Bool) → (b || false) ≡ b
  or_false b = grind arith

  may_too : (b c : Bool) → c ≡ true → (b || c) ≡ true
  may_too b c h = grind arith

  -- what is asked of a status beside its code
  has_all : has_code s a ≡ true → IsApt s a → has_status s a ≡ true
  has_all code apt = grind arith

  or_true : (b : Bool) → (b || true) ≡ true
  or_true b = grind arith

  -- of a message that is long enough: its Success has no sub-code, or is an ONLINE's
  long_apt : (n : ℕ) → is_short s ≡ false → n ≤ s.bytes
      → ((a.status % 32 ≡ 0 → a.status ≡ 0) ⊎ (s.opcode ≡ 9)) → (a.status % 32 ≡ 1 → a.status / 256 < n) → IsApt s a
  long_apt n long span plain points = grind (arith, lt-ltb, eqb-true)

  -- of one that is too short
  short_apt : is_short s ≡ true → status_code a ≡ 1 → IsApt s a
  short_apt short one = grind arith

  -- and of one whose opcode isn't known: the sub-code is that of its byte 8
  unknown_apt : a.status ≡ 0x0801 → IsApt s a
  unknown_apt is = record {
    whole = ap (λ n. not (is_short s) || not (nat_eq (n % 32) 0)) is ∙ or_true (not (is_short s));
    plain = ap (λ n. not (nat_eq (n % 32) 0) || not (was_online a) || nat_eq s.opcode 9 || is_unknown s.opcode) is
        ∙ first (not (was_online a)) (nat_eq s.opcode 9) (is_unknown s.opcode);
    points = ap (λ n. not (nat_eq (n % 32) 1) || is_short s || nat_lt (n / 256) s.bytes) is
        ∙ short_or (least_of s.opcode) s.bytes (least_low s.opcode);
  }
    where
      first : (x y z : Bool) → (true || x || y || z) ≡ true
      first x y z = grind arith

      least_low : (op : ℕ) → 12 ≤ least_of op
      least_low op = grind arith

      short_or : (least n : ℕ) → 12 ≤ least → (nat_lt n least || nat_lt 8 n) ≡ true
      short_or least n h = grind arith

  -- an opcode that is known
  known : (op : ℕ) → s.opcode ≡ op → a.unit ≡ s.unit → is_known a ≡ true → nat_eq a.code (op + 0x80) ≡ true
      → may_have_status op (status_code a) ≡ true → IsApt s a → succeeds a (asked op s) ≡ true
      → is_about a (asked op s) ≡ true → has_count a (wanted op s) ≡ true → nat_eq op 17 ≡ false → Keeps s a
  known op e unit k code status apt success about count apart =
      let other : asked s.opcode s ≡ asked op s = ap (λ o. asked o s) e in
      let whole : count_of s a ≡ wanted op s =
      ap (λ b. if b && is_counted s.opcode a.parameter then s.parameter else None) k
      ∙ (ap (λ o. if is_counted o a.parameter then s.parameter else None) e
      ∙ (ap (λ b. if is_transfer op || (b && is_some a.parameter) then s.parameter else None) apart
      ∙ ap (λ b. if b then s.parameter else None) (or_false (is_transfer op)))) in
      record {
        unit = its_unit unit;
        endcode = ap (λ b. if b then nat_eq a.code (s.opcode + 0x80) else not (is_required s.opcode)) k
            ∙ (ap (λ o. nat_eq a.code (o + 0x80)) e ∙ code);
        status = has_all
            (ap (λ b. if b then is_unknown s.opcode || may_have_status s.opcode (status_code a)
            else nat_eq (status_code a) 1) k
            ∙ may_too (is_unknown s.opcode) (may_have_status s.opcode (status_code a))
            (ap (λ o. may_have_status o (status_code a)) e ∙ status)) apt;
        success = unless_refused (succeeds a) (is_known a) (is_about_another s.opcode) k refl
            (ap (succeeds a) other ∙ success);
        about = unless_refused (is_about a) (is_known a) (is_about_another s.opcode) k refl
            (ap (is_about a) other ∙ about);
        count = ap (has_count a) whole ∙ count;
      }

  -- one that isn't
  unknown : a.unit ≡ s.unit → is_known a ≡ false → a.status ≡ 0x0801 → is_required s.opcode ≡ false → Keeps s a
  unknown unit k is apart = grind (arith, its_unit, has_all, unknown_apt, by_nobody)

  -- an opcode that is about no command and moves nothing
  plain : (op code : ℕ) → s.opcode ≡ op → a.unit ≡ s.unit → a.code ≡ code → nat_eq code 0x80 ≡ false
      → nat_eq code (op + 0x80) ≡ true → is_about_another op ≡ false → is_transfer op ≡ false
      → nat_eq op 17 ≡ false
      → may_have_status op (status_code a) ≡ true → IsApt s a → Keeps s a
  plain op code e unit c k right none moves_none apart status apt = grind (arith, known)

  -- one about another command
  about_other : (op code other : ℕ) → s.opcode ≡ op → a.unit ≡ s.unit → a.code ≡ code → nat_eq code 0x80 ≡ false
      → nat_eq code (op + 0x80) ≡ true → is_about_another op ≡ true → is_transfer op ≡ false
      → nat_eq op 17 ≡ false
      → s.parameter ≡ Some other → a.parameter ≡ Some other → may_have_status op 0 ≡ true → status_code a ≡ 0
      → IsApt s a → Keeps s a
  about_other op code other e unit c k right some moves_none apart p q status zero apt =
      let o : asked op s ≡ Some other = ap (λ b. if b then s.parameter else None) some ∙ p in
      let w : wanted op s ≡ None = ap (λ b. if b then s.parameter else None) moves_none in
      known op e unit (ap (λ n. not (nat_eq n 0x80)) c ∙ ap not k) (ap (λ n. nat_eq n (op + 0x80)) c ∙ right)
      (ap (may_have_status op) zero ∙ status) apt (ap (succeeds a) o ∙ eq-eqb (status_code a) 0 zero)
      (ap (is_about a) o ∙ (ap (λ f. is_it f other) q ∙ eq-eqb other other refl))
      (ap (has_count a) w) apart

  moved_right : (moved count code : ℕ) → moved ≤ count → (code ≡ 0 → moved ≡ count)
      → (nat_le moved count && (nat_eq moved count || not (nat_eq code 0))) ≡ true
  moved_right moved count code h all = grind arith

  -- a transfer, of which so many bytes were to be moved
  transfer : (kind : MoveKind) (moved count : ℕ) → s.opcode ≡ move_byte kind → a.unit ≡ s.unit
      → a.code ≡ bit_or (move_byte kind) 0x80 → s.parameter ≡ Some count → a.parameter ≡ Some moved
      → may_have_status (move_byte kind) (status_code a) ≡ true → IsApt s a → moved ≤ count
      → (status_code a ≡ 0 → moved ≡ count) → Keeps s a
  transfer kind moved count e unit c p q status apt few all =
      let op = move_byte kind in
      let code = bit_or op 0x80 in
      let o : asked op s ≡ None = ap (λ b. if b then s.parameter else None) (move_of_none kind) in
      let w : wanted op s ≡ Some count = ap (λ b. if b then s.parameter else None) (move_is kind) ∙ p in
      known op e unit (ap (λ n. not (nat_eq n 0x80)) c ∙ move_top kind)
      (ap (λ n. nat_eq n (op + 0x80)) c ∙ move_code kind) status apt
      (ap (succeeds a) o) (ap (is_about a) o)
      (ap (has_count a) w ∙ ap (λ f. moves a f count) q ∙ moved_right moved count (status_code a) few all)
      (move_apart kind)

  -- a command that is shorter than its opcode asks
  short_about : (o : Opcode) (code : ℕ) → s.opcode ≡ (row_of o).byte → a.unit ≡ s.unit → status_code a ≡ 1
      → (is_about_another (row_of o).byte ≡ true → s.parameter ≡ None) → a.code ≡ bit_or (row_of o).byte 0x80
      → has_count a (wanted (row_of o).byte s) ≡ true → is_short s ≡ true → Keeps s a
  short_about o code e unit one none c count short =
      let op = (row_of o).byte in
      let P : Bool → Type 0 = λ b. is_about_another op ≡ b → (if b then s.parameter else None) ≡ None in
      let nobody : asked op s ≡ None = elim (is_about_another op) as P [
        | true ↦ λ h. none h
        | false ↦ λ h. refl
      ] refl in
      known op e unit (ap (λ n. not (nat_eq n 0x80)) c ∙ top o) (ap (λ n. nat_eq n (op + 0x80)) c ∙ right o)
      (ap (may_have_status op) one ∙ refused o) (short_apt short one) (ap (succeeds a) nobody)
      (ap (is_about a) nobody) count (apart o)
    where
      top : (o : Opcode) → not (nat_eq (bit_or (row_of o).byte 0x80) 0x80) ≡ true
      top (opcode.Move kind) = move_top kind
      top o = grind arith

      right : (o : Opcode) → nat_eq (bit_or (row_of o).byte 0x80) ((row_of o).byte + 0x80) ≡ true
      right (opcode.Move kind) = move_code kind
      right o = grind arith

      apart : (o : Opcode) → nat_eq (row_of o).byte 17 ≡ false
      apart (opcode.Move kind) = move_apart kind
      apart o = grind arith

      refused : (o : Opcode) → may_have_status (row_of o).byte 1 ≡ true
      refused o = grind arith

  -- none of its bytes were moved
  none_moved : (o : Opcode) → status_code a ≡ 1
      → BodyReads (refused_body (bit_or (row_of o).byte 0x80)) a → has_count a (wanted (row_of o).byte s) ≡ true
  none_moved code one q = grind arith

  short_keeps : (o : Opcode) (byte fault status : ℕ) (body : EndBody) → IsShort o byte fault s
      → a.unit ≡ s.unit → status ≡ fault → body ≡ refused_body (endcode (orders.Invalid byte fault))
      → a.code ≡ endcode (orders.Invalid byte fault) → a.status ≡ status → BodyReads body a → Keeps s a
  short_keeps o byte fault status body h unit is whole c st q =
      let code : endcode (orders.Invalid byte fault) ≡ bit_or (row_of o).byte 0x80 =
      ap (λ f. endcode (orders.Invalid byte f)) h.why ∙ ap (λ b. bit_or b 0x80) h.byte in
      let one : status_code a ≡ 1 = ap (λ n. n % 32) (st ∙ is ∙ h.why) in
      let read = subst (λ b. BodyReads b a) (whole ∙ ap refused_body code) q in
      short_about o (bit_or (row_of o).byte 0x80) h.opcode unit one h.about (c ∙ code) (none_moved o one read)
      h.short

  -- the sub-codes of those that suit an order
  abbrev Fine : ℕ → ℕ → Type 0
  Fine n status = (status % 32 ≡ 0 → status ≡ 0) × (status % 32 ≡ 1 → status / 256 < n)

  apt_by : (n status : ℕ) → a.status ≡ status → (is_short s ≡ false) × (n ≤ s.bytes) → Fine n status → IsApt s a
  apt_by n status st long fine =
      let own = subst (Fine n) (sym st) fine in long_apt n long.0 long.1 (inl own.0) own.1

  apt_never : (n status : ℕ) → a.status ≡ status → (is_short s ≡ false) × (n ≤ s.bytes)
      → (status % 32 ≡ 0 → status ≡ 0) × (status % 32 ≢ 1) → IsApt s a
  apt_never n status st long fine = apt_by n status st long (fine.0, λ z. absurd (fine.1 z))

  -- an end that suits the order of a command keeps its rules
  pub keeps : (o : Order) (status : ℕ) (body : EndBody) → Says o s → IsLong o s → Suits o status body
      → IsFine o status → a.unit ≡ s.unit → a.code ≡ endcode o → a.status ≡ status → BodyReads body a → Keeps s a
  keeps (orders.Abort other) status body says long suits fine unit c st q =
      about_other opcodes.abort endcodes.abort other says.0 unit c refl refl refl refl refl says.1
      (subst (λ b. BodyReads b a) suits.1 q) refl (ap (λ n. n % 32) st ∙ suits.0) (apt_never 16 status st long fine)
  keeps (orders.Status other) status body says long suits fine unit c st q =
      about_other opcodes.get_command_status endcodes.get_command_status other says.0 unit c refl refl refl refl refl
      says.1 (subst (λ b. BodyReads b a) suits.2 q).0 refl (ap (λ n. n % 32) st ∙ suits.0)
      (apt_never 16 status st long fine)
  keeps (orders.SetController version) status body says long suits fine unit c st q =
      plain opcodes.set_controller_characteristics endcodes.set_controller_characteristics says unit c refl refl refl
      refl refl (ap (λ n. may_have_status opcodes.set_controller_characteristics (n % 32)) st ∙ suits)
      (apt_by 14 status st long fine)
  keeps orders.Online status body says long suits fine unit c st q =
      plain opcodes.online endcodes.online says unit c refl refl refl refl refl
      (ap (λ n. may_have_status opcodes.online (n % 32)) st ∙ suits)
      (long_apt 12 long.0 long.1 (inr says) (λ z. absurd (fine (ap (λ n. n % 32) (sym st) ∙ z))))
  keeps (orders.Move kind count block) status body says long suits fine unit c st q =
      transfer kind suits.1 count says.0 unit c says.1 (subst (λ b. BodyReads b a) suits.2 q)
      (ap (λ n. may_have_status (move_byte kind) (n % 32)) st ∙ suits.0) (apt_by 32 status st long fine) suits.3
      (λ z. suits.4 (ap (λ n. n % 32) (sym st) ∙ z))
  keeps (orders.Invalid byte fault) status body says long suits fine unit c st q = ⊎_elim
      (λ e. unknown unit
      (ap (λ n. not (nat_eq n 0x80)) (c ∙ ap (λ f. endcode (orders.Invalid byte f)) e.0))
      (st ∙ (suits.0 ∙ e.0)) e.1)
      (λ short. short_keeps short.0 byte fault status body short.1 unit suits.0 suits.1 c st q)
      says
  keeps order status body says long suits fine unit c st q =
      plain (opcode_byte order) (endcode order) says unit c refl refl refl refl refl
      (ap (λ n. may_have_status (opcode_byte order) (n % 32)) st ∙ suits) (apt_never 12 status st long fine)
