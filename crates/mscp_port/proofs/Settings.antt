-- The settings of a port's controller stay, whatever is sent to it.
use Rattle.mscp_port.proofs.Common.{◌≡◌, ℕ, List, arith, Connection, Holdings, after_message}

pub settings_after : {K : Type 0} (via : Connection) (h : Holdings K) (b : List ℕ)
    → (after_message via h b).settings ≡ h.settings
settings_after via h b = search arith
