-- What an end tells of its unit, and how the rules of the wire read it.
use Rattle.mscp_shown.proofs.Common.{Answer, Away, BodyKind, Bool, Connection, End, EndBody, History, Identity, IsOfKind, List, None, Noted, Open, Option, Sent, Settings, Shape, Some, State, Told, agrees, and_parts, answer_by, ap, arith, brings, end_bytes, eq-eqb, eqb-true, false, fits, if◌then◌else◌, is_known_unit, is_same_unit, is_single, kind_of_body, kind_of_code, later_of, learns, leaves, little_bytes, nat_eq, not, noted_other, noted_own, num, refl, says_away, status_code, subst, sym, tells_unit, told, told_after_end, told_after_message, true, turned, unit_shape, was_online, ℕ, ◌%◌, ◌&&◌, ◌||◌, ◌∙◌, ◌≡◌}
use Rattle.mscp_packet.specs.declared.end.BodyKind.TheVariants as kinds
use Rattle.mscp_packet.specs.declared.end.EndBody.TheVariants as bodies
use Rattle.mscp_wire.specs.Wire.{same_connection}

-- a body tells of a unit what it is
abbrev pub BodyTells : Shape → EndBody → Type 0
BodyTells s (bodies.Online id media size serial) = (id ≡ s.id) × (media ≡ s.media) × (size ≡ s.size)
BodyTells s (bodies.UnitStatus id media track group cylinder) = (id ≡ s.id) × (media ≡ s.media)
BodyTells s body = Unit {0}

-- an end that succeeded does
abbrev pub Tells : Settings → End → Type 0
Tells c e = e.status % 32 ≡ 0 → BodyTells (unit_shape c e.unit) e.body

-- a body tells of the controller what it is, and so does an end that succeeded
abbrev pub BodyControls : Settings → EndBody → Type 0
BodyControls c (bodies.Controller timeout id) = id ≡ c.id
BodyControls c body = Unit {0}

abbrev pub Controls : Settings → End → Type 0
Controls c e = e.status % 32 ≡ 0 → BodyControls c e.body

-- ---- as it is read
abbrev identity : ℕ → ℕ → Option ℕ → Identity
identity id media size = record {
  identifier = num (little_bytes 8 id) 0 8;
  media = num (little_bytes 4 media) 0 4;
  size = size;
}

-- this is what a unit of this shape is, as far as it says
abbrev pub IsOf : Shape → Identity → Type 0
IsOf s i =
    (i.identifier ≡ num (little_bytes 8 s.id) 0 8) × (i.media ≡ num (little_bytes 4 s.media) 0 4)
    × ((n : ℕ) → i.size ≡ Some n → n ≡ num (little_bytes 4 s.size) 0 4)

-- and it is there
abbrev pub HasOf : Shape → Option Identity → Type 0
HasOf s o = (i : Identity) × (o ≡ Some i) × IsOf s i

module _ (via : Connection) (r u code status : ℕ) (s : Shape) where
  abbrev read : EndBody → Answer
  read body =
      answer_by via (end_bytes (record { reference = r; unit = u; code = code; status = status; body = body }))

  -- what an end of ONLINE or SET UNIT CHARACTERISTICS tells
  online_read : (body : EndBody) → kinds.Online ≡ kind_of_body body → BodyTells s body
      → HasOf s (read body).identity
  online_read (bodies.Online id media size serial) k t = grind arith
  online_read body k t = cc

  -- and one of GET UNIT STATUS
  status_read : nat_eq code 0x83 ≡ true → (body : EndBody) → kinds.UnitStatus ≡ kind_of_body body → BodyTells s body
      → HasOf s (read body).identity
  status_read q (bodies.UnitStatus id media track group cylinder) k t = grind arith
  status_read q body k t = cc

-- two that are told of a unit agree
agrees_same : (s : Shape) (i j : Identity) → IsOf s i → IsOf s j → agrees (Some i) j ≡ true
agrees_same s i j h k = grind (arith, eq-eqb)

some_kind : (a b : BodyKind) → Some a ≡ Some b → a ≡ b
some_kind a b h = cc

-- ---- an end of a kind
module _ (c : Settings) (via : Connection) (e : End) (kind : IsOfKind e) (tells : Tells c e) where
  abbrev a : Answer
  a = answer_by via (end_bytes e)

  of_code : (code : ℕ) (k : BodyKind) → e.code ≡ code → kind_of_code code ≡ Some k → k ≡ kind_of_body e.body
  of_code code k h is = some_kind k (kind_of_body e.body) (sym is ∙ ap kind_of_code (sym h) ∙ kind)

  -- it says what its unit is
  pub told_right : a.status ≡ e.status → tells_unit a ≡ true → HasOf (unit_shape c e.unit) a.identity
  told_right st h =
      let brought = nat_eq a.code 0x89 && was_online a in
      let p = and_parts (nat_eq (status_code a) 0) (nat_eq a.code 0x83 || brought || nat_eq a.code 0x8A) h in
      let zero : e.status % 32 ≡ 0 = ap (λ n. n % 32) (sym st) ∙ eqb-true (status_code a) 0 p.0 in
      let s = unit_shape c e.unit in
      let online : (code : ℕ) → e.code ≡ code → kind_of_code code ≡ Some kinds.Online → HasOf s a.identity =
      λ code q is.
      online_read via e.reference e.unit e.code e.status s e.body (of_code code kinds.Online q is) (tells zero) in
      by_code (nat_eq e.code 0x83) brought (nat_eq e.code 0x8A) p.1
      (λ q. status_read via e.reference e.unit e.code e.status s q e.body
      (of_code 0x83 kinds.UnitStatus (eqb-true e.code 0x83 q) refl) (tells zero))
      (λ q. online 0x89 (eqb-true e.code 0x89 (and_parts (nat_eq e.code 0x89) (was_online a) q).0) refl)
      (λ q. online 0x8A (eqb-true e.code 0x8A q) refl)
    where
      by_code : {P : Type 0} (x y z : Bool) → (x || y || z) ≡ true → (x ≡ true → P) → (y ≡ true → P)
          → (z ≡ true → P) → P
      by_code x y z h p q r = grind arith

  -- and so does what brings it online
  pub brought_right : a.status ≡ e.status → brings a ≡ true → HasOf (unit_shape c e.unit) a.identity
  brought_right st h =
      let p = and_parts (nat_eq a.code 0x89) (nat_eq (status_code a) 0) h in
      let zero : e.status % 32 ≡ 0 = ap (λ n. n % 32) (sym st) ∙ eqb-true (status_code a) 0 p.1 in
      online_read via e.reference e.unit e.code e.status (unit_shape c e.unit) e.body
      (of_code 0x89 kinds.Online (eqb-true e.code 0x89 p.0) refl) (tells zero)

-- what an end says of its unit is what that is
abbrev pub IsTold : Settings → Answer → Type 0
IsTold c a =
    (tells_unit a ≡ true → HasOf (unit_shape c a.unit) a.identity)
    × (brings a ≡ true → HasOf (unit_shape c a.unit) a.identity)

pub is_told : (c : Settings) (via : Connection) (b : List ℕ) (e : End) → b ≡ end_bytes e → IsOfKind e → Tells c e
    → (answer_by via (end_bytes e)).status ≡ e.status → (answer_by via (end_bytes e)).unit ≡ e.unit
    → IsTold c (answer_by via b)
is_told c via b e is kind tells st unit =
    let a = answer_by via (end_bytes e) in
    subst (λ l. IsTold c (answer_by via l)) (sym is) (
      λ h. subst (λ n. HasOf (unit_shape c n) a.identity) (sym unit) (told_right c via e kind tells st h),
      λ h. subst (λ n. HasOf (unit_shape c n) a.identity) (sym unit) (brought_right c via e kind tells st h),
    )

-- ---- what is known of the controller
abbrev pub own_identifier : Settings → ℕ
own_identifier c = num (little_bytes 8 c.id) 0 8

-- what an end tells of it is what it is
pub controller_read : (c : Settings) (via : Connection) (e : End) → IsOfKind e → Controls c e
    → (answer_by via (end_bytes e)).status ≡ e.status → (n : ℕ)
    → (answer_by via (end_bytes e)).controller ≡ Some n → n ≡ own_identifier c
controller_read c via e kind controls st n h = grind (arith, some_kind, eqb-true)

-- what is known of it fits that
pub fits_controller : (c : Settings) (known told : Option ℕ)
    → ((n : ℕ) → known ≡ Some n → n ≡ own_identifier c) → ((n : ℕ) → told ≡ Some n → n ≡ own_identifier c)
    → fits known told ≡ true
fits_controller c known told p q = grind arith

pub later_controller : (c : Settings) (told known : Option ℕ)
    → ((n : ℕ) → told ≡ Some n → n ≡ own_identifier c) → ((n : ℕ) → known ≡ Some n → n ≡ own_identifier c)
    → (n : ℕ) → later_of told known ≡ Some n → n ≡ own_identifier c
later_controller c told known p q n h = grind arith

-- ---- what is known of units
-- what is known of each unit is what it is
abbrev pub AreTold : Settings → History → Type 0
AreTold c h =
    (via : Connection) (unit : ℕ) (i : Identity) → (told h via unit).identity ≡ Some i → IsOf (unit_shape c unit) i

-- an end of a unit keeps that
pub told_more : (c : Settings) (h : History) (a : Answer) (settled : Bool) → AreTold c h → IsTold c a
    → (via : Connection) (unit : ℕ) (i : Identity)
    → (told_after_end via unit settled (told h via unit) a).identity ≡ Some i
    → IsOf (unit_shape c unit) i
told_more c h a settled known is via unit i =
    let t = told h via unit in
    by_cases (nat_eq a.unit unit) (leaves a) (brings a) (learns t a) (same_connection a.connection via && settled)
    (was_online a) t a.identity
    (not (leaves a) && (brings a || t.sure || (learns t a && nat_eq a.code 0x83)))
    (if says_away a then turned t.state Away else (if brings a then turned t.state Open else t.state))
    (noted_own t.noted a) (noted_other t.noted a) (known via unit i)
    (λ q. subst (λ n. HasOf (unit_shape c n) a.identity) (eqb-true a.unit unit q))
    is.1 (λ l. is.0 (and_parts (tells_unit a) (not t.sure && is_single t.state) (grouped (tells_unit a) (not t.sure)
    (is_single t.state) l)).0)
  where
    grouped : (x y z : Bool) → (x && y && z) ≡ true → (x && (y && z)) ≡ true
    grouped x y z h = grind arith

    there : (o : Option Identity) → HasOf (unit_shape c unit) o → o ≡ Some i → IsOf (unit_shape c unit) i
    there o has e = grind arith

    by_cases : (here gone on learn side was : Bool) (old : Told) (new : Option Identity) (sure : Bool) (s : State)
        (mine others : Noted)
        → (old.identity ≡ Some i → IsOf (unit_shape c unit) i)
        → (here ≡ true → HasOf (unit_shape c a.unit) new → HasOf (unit_shape c unit) new)
        → (on ≡ true → HasOf (unit_shape c a.unit) new) → (learn ≡ true → HasOf (unit_shape c a.unit) new)
        → (if not here then old else (if side then record {
          identity = if gone then None else (if on || learn then new else old.identity);
          sure = sure;
          state = s;
          noted = mine;
        } else record old {
          identity = if gone || (on && not was) then None else old.identity;
          sure = not (gone || (on && not was)) && old.sure;
          noted = others;
        })).identity ≡ Some i
        → IsOf (unit_shape c unit) i
    by_cases false gone on learn side was old new sure s mine others k f n l h = k h
    by_cases true true on learn true was old new sure s mine others k f n l h = cc
    by_cases true true on learn false was old new sure s mine others k f n l h = cc
    by_cases true false true learn true was old new sure s mine others k f n l h = there new (f refl (n refl)) h
    by_cases true false false true true was old new sure s mine others k f n l h = there new (f refl (l refl)) h
    by_cases true false false false true was old new sure s mine others k f n l h = k h
    by_cases true false false learn false was old new sure s mine others k f n l h = k h
    by_cases true false true learn false true old new sure s mine others k f n l h = k h
    by_cases true false true learn false false old new sure s mine others k f n l h = cc

-- and a command does
pub told_sent : (t : Told) (via : Connection) (unit : ℕ) (s : Sent)
    → (told_after_message via unit t s).identity ≡ t.identity
told_sent t via unit s = grind arith

-- and an end of it says the same
pub same_right : (s : Shape) (was : Told) (a : Answer) → ((i : Identity) → was.identity ≡ Some i → IsOf s i)
    → (tells_unit a ≡ true → HasOf s a.identity) → is_same_unit was a ≡ true
same_right s was a known tells = by_identity was.identity known
  where
    by_identity : (o : Option Identity) → ((i : Identity) → o ≡ Some i → IsOf s i) → is_known_unit o a ≡ true
    by_identity None k = refl
    by_identity (Some j) k = grind (arith, agrees_same)
