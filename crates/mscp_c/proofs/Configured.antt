-- A refusal's answer says what it must.
use Rattle.mscp_c.proofs.Common.{Option, Some, None, IsSome, OnErr, false≢true, PortInitFault, port_init_answer}

pub refused_answer : (o : Option PortInitFault) (P : Type 0) → IsSome o → OnErr (port_init_answer o) P → P
refused_answer (Some fault) P some p = p
refused_answer None P some p = absurd (false≢true some)
