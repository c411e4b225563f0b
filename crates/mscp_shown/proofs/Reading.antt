-- An end as the rules of the wire read its bytes.
use Rattle.mscp_shown.proofs.Common.{Answer, Connection, End, EndBody, Settings, Some, answer_by, ap, end_bytes, four, refl, two, ℕ, ◌<◌, ◌^◌, ◌≡◌}
use Rattle.mscp_packet.specs.declared.end.EndBody.TheVariants as bodies
use Rattle.mscp_shown.proofs.Identity.{Controls, Tells}

-- the numbers of a body that the rules read fit their places
abbrev pub IsBodyFit : EndBody → Type 0
IsBodyFit (bodies.Abort other) = other < 2 ^ 32
IsBodyFit (bodies.Status other figure) = (other < 2 ^ 32) × (figure < 2 ^ 32)
IsBodyFit (bodies.Moved count) = count < 2 ^ 32
IsBodyFit body = Unit {0}

-- and so do those of the end, which tells of its unit what it is
pub record IsFit (c : Settings) (e : End) : Type 0 where
  pub reference : e.reference < 2 ^ 32
  pub unit : e.unit < 2 ^ 16
  pub status : e.status < 2 ^ 16
  pub body : IsBodyFit e.body
  pub tells : Tells c e
  pub controls : Controls c e

-- what is read of a body
abbrev pub BodyReads : EndBody → Answer → Type 0
BodyReads (bodies.Abort other) a = a.parameter ≡ Some other
BodyReads (bodies.Status other figure) a = (a.parameter ≡ Some other) × (a.figure ≡ Some figure)
BodyReads (bodies.Moved count) a = a.parameter ≡ Some count
BodyReads body a = Unit {0}

pub record Reads (e : End) (a : Answer) : Type 0 where
  pub reference : a.reference ≡ e.reference
  pub unit : a.unit ≡ e.unit
  pub code : a.code ≡ e.code
  pub status : a.status ≡ e.status
  pub body : BodyReads e.body a

abbrev end : ℕ → ℕ → ℕ → ℕ → EndBody → End
end r u code status body = record { reference = r; unit = u; code = code; status = status; body = body }

body_read : (via : Connection) (r u code status : ℕ) (body : EndBody) → IsBodyFit body
    → BodyReads body (answer_by via (end_bytes (end r u code status body)))
body_read via r u code status (bodies.Abort other) h = ap Some (four other h)
body_read via r u code status (bodies.Status other figure) h = (ap Some (four other h.0), ap Some (four figure h.1))
body_read via r u code status (bodies.Moved count) h = ap Some (four count h)
body_read via r u code status body h = tt

pub reads : (c : Settings) (via : Connection) (e : End) → IsFit c e → Reads e (answer_by via (end_bytes e))
reads c via e h = record {
  reference = four e.reference h.reference;
  unit = two e.unit h.unit;
  code = refl;
  status = two e.status h.status;
  body = body_read via e.reference e.unit e.code e.status e.body h.body;
}
