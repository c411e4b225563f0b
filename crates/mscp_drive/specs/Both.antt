-- One thing for each connection.
use Rattle.mscp_drive.specs.declared.connection.Connection.{Connection}
use Rattle.mscp_drive.specs.declared.connection.Connection.TheVariants.{First, Second}

pub record Both (X : Type 0) : Type 0 where
  pub first : X
  pub second : X

-- that of a connection
abbrev pub of : {X : Type 0} → Connection → Both X → X
of First both = both.first
of Second both = both.second

-- both, where a connection has this instead
abbrev pub put : {X : Type 0} → Connection → X → Both X → Both X
put First x both = record both { first = x }
put Second x both = record both { second = x }
