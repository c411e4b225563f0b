-- Outstanding submissions whose numbers differ.
use Rattle.std.specs.Prelude.{Bool, true, not, ◌&&◌, List, [], ◌∷◌}
use Rattle.std.specs.List.{list_any}
use Rattle.mscp_host.specs.declared.submission.Submission.{Submission}
use Rattle.mscp_host.specs.Accounts.{has_reference}

-- no two have one reference number
abbrev pub are_apart : List Submission → Bool
are_apart [] = true
are_apart (s ∷ rest) = not (list_any (has_reference s.reference) rest) && are_apart rest
