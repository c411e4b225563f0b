-- What the code of this crate takes from specifications.
pub use Rattle.arrayvec.specs.ArrayString.{array_string_len}
pub use Rattle.mscp_packet.specs.Steps.{Gives}
pub use Rattle.mscpjudge.specs.Chosen.{asked_of, call_flagged, call_named, chosen, flagged, seen}
pub use Rattle.mscpjudge.specs.Endings.{error_line, exit_status, fault_text}
pub use Rattle.mscpjudge.specs.Heard.{TellsHeard, counts_text, heard_outcome}
pub use Rattle.mscpjudge.specs.Said.{Says, WritesOnce, has_starts, holder_text, legal_text, name_text, outcome_of, peaks_text, right_text, rule_text, served_text, spaced_name, starts_text, unanswered_text, verdict_text, wrong_text}
pub use Rattle.mscpjudge.specs.Found.{breaks, broken_of, broken_rules_text, finding_text, lines_found, log_found}
pub use Rattle.mscpjudge.specs.Places.{place_text, places_text}
pub use Rattle.mscpjudge.specs.Wired.{breaker_name, broken_text, command_text, connection_name, meant_text, outstanding_text, wire_outcome, wire_text, breach_text}
pub use Rattle.std.specs.Fmt.{decimal}
pub use Rattle.std.specs.List.{flat_map}
pub use Rattle.std.specs.String.{string_bytes}
