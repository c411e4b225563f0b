-- What is written of all that is wrong in a log of the wire: each moment, and how many break each rule.
use Rattle.std.specs.Prelude.{ℕ, zero, suc, ◌+◌, Bool, nat_lt, if◌then◌else◌, List, [], ◌∷◌, ◌++◌, codes, length, map, count_by, Option, Some, None, Result, Ok, Err}
use Rattle.std.specs.List.{flat_map}
use Rattle.std.specs.Fmt.{decimal}
use Rattle.std.specs.Str.{bytes_eq}
use Rattle.mscp_packet.specs.Steps.{◌>>=◌}
use Rattle.mscp_reader.specs.Lexical.{lines}
use Rattle.mscp_reader.specs.declared.fault.Cause.TheVariants as causes
use Rattle.mscp_reader.specs.declared.fault.ScriptFault.{ScriptFault}
use Rattle.mscp_reader.specs.Outcome.{in_line}
use Rattle.mscp_wire.specs.Course.{Findings, findings_with, no_findings, nowhere}
use Rattle.mscp_wire.specs.Log.{Log, line_says}
use Rattle.mscp_wire.specs.declared.course.Finding.{Finding}
use Rattle.mscp_wire.specs.declared.log.Verdict.{Verdict}
use Rattle.mscp_wire.specs.declared.log.Verdict.TheVariants as verdicts
use Rattle.mscp_wire.specs.declared.rule.Rule.{Rule}
use Rattle.mscp_wire.specs.declared.rule.Rule.TheVariants as rules
use Rattle.mscp_wire.specs.declared.wrong.Wrong.{Wrong}
use Rattle.mscpjudge.specs.Credits.{after_line, credits_by, line_breach, unknown}
use Rattle.mscpjudge.specs.Times.{log_time}
use Rattle.mscpjudge.specs.Wired.{breach_text, came_text, rule_name, wire_text}
use Rattle.mscpjudge.specs.declared.credits.Account.{Account}
use Rattle.mscpjudge.specs.declared.credits.Credits.{Credits}

-- what is found in a line, and the credits of its host, if it breaks the rule on them
pub record Breach : Type 0 where
  pub finding : Finding
  pub credits : Option Credits

-- the lines of it, where lines have these numbers among all, and tell these times
unfoldable pub finding_text : (ℕ → ℕ) → (ℕ → Option ℕ) → Breach → List ℕ
finding_text number time breach =
    breach_text number time breach.credits breach.finding.wrong breach.finding.places

-- the rule that it breaks
abbrev pub broken_of : Breach → Rule
broken_of breach = breach.finding.wrong.rule

-- all rules, in the order in which they are asked
abbrev pub rules_in_order : List Rule
rules_in_order =
    rules.Message ∷ rules.Number ∷ rules.Credits ∷ rules.Length ∷ rules.Outstanding ∷ rules.Unit ∷ rules.Endcode
    ∷ rules.Status ∷ rules.Aborted ∷ rules.Order ∷ rules.Success ∷ rules.About ∷ rules.Figure ∷ rules.Count
    ∷ rules.Identity ∷ rules.State ∷ rules.Controller ∷ []

-- a rule has this name
abbrev pub breaks : List ℕ → Rule → Bool
breaks name rule = bytes_eq (rule_name rule) name

-- the line of a rule that so many moments break, if some do
abbrev pub count_text : Rule → ℕ → List ℕ
count_text rule zero = []
count_text rule (suc n) = codes "wrong: " ++ decimal (suc n) ++ codes " " ++ rule_name rule ++ codes "\n"

-- the lines of all rules, where these were broken
unfoldable pub rule_text : List Rule → Rule → List ℕ
rule_text broken rule = count_text rule (count_by (breaks (rule_name rule)) broken)

abbrev pub broken_rules_text : List Rule → List ℕ
broken_rules_text broken = flat_map (rule_text broken) rules_in_order

-- ---- line by line

-- what counts as told so far, the credits of hosts, and all that is wrong
pub record Gathered : Type 0 where
  pub told : Findings
  pub account : Account
  pub all : List Breach

abbrev pub nothing_gathered : Gathered
nothing_gathered = record { told = no_findings; account = unknown; all = [] }

-- what the judge of the wire found in a line, if it found something
abbrev pub newest : List Finding → Option Finding
newest [] = None
newest (finding ∷ found) = Some finding

-- or else a message without a credit
abbrev pub found_beside : Option Finding → Option Wrong → Option Finding
found_beside (Some finding) breach = Some finding
found_beside None None = None
found_beside None (Some wrong) = Some (record { wrong = wrong; places = nowhere })

-- the same by an account of the lines before, one more if there is one
abbrev pub breach_by : Account → Finding → Breach
breach_by account finding =
    record { finding = finding; credits = credits_by finding.wrong.rule finding.wrong.command account }

abbrev pub breaches_by : Account → Option Finding → List Breach
breaches_by account None = []
breaches_by account (Some finding) = breach_by account finding ∷ []

-- once the line of this number was read, where the wire has this to tell
abbrev pub gathered_after : ℕ → Gathered → List ℕ → Findings → Gathered
gathered_after number g line next = record {
  told = record next { found = [] };
  account = after_line number g.account line;
  all =
      g.all ++ breaches_by g.account (found_beside (newest next.found) (line_breach number g.account line));
}

-- the same of lines that so many stand before, or the first fault
unfoldable pub gathered_in : ℕ → Gathered → List (List ℕ) → Result Gathered ScriptFault
gathered_in before g [] = Ok g
gathered_in before g (line ∷ rest) =
    in_line (before + 1) (line_says (before + 1) line >>= findings_with (before + 1) g.told)
    >>= λ next. gathered_in (before + 1) (gathered_after (before + 1) g line next) rest

-- ---- all

-- all that is found
abbrev pub found_text : (ℕ → ℕ) → (ℕ → Option ℕ) → List Breach → List ℕ
found_text number time found = flat_map (finding_text number time) found ++ broken_rules_text (map broken_of found)

-- what is found in lines, or their first fault
abbrev pub lines_found : (ℕ → ℕ) → (ℕ → Option ℕ) → List (List ℕ) → Result (List ℕ) ScriptFault
lines_found number time lines = gathered_in 0 nothing_gathered lines >>= λ g. Ok (found_text number time g.all)

-- the same of a log
abbrev pub log_found : (ℕ → ℕ) → List ℕ → Result (List ℕ) ScriptFault
log_found number bytes =
    if nat_lt 16777216 (length bytes) then Err (record { line = 0; cause = causes.Size })
    else lines_found number (log_time bytes) (lines bytes)

-- what is written of what came of a log: all that is wrong, if something is
abbrev pub all_text : (ℕ → ℕ) → List ℕ → Result Log Wrong → Result (List ℕ) ScriptFault
all_text number bytes (Ok log) = Ok (came_text number bytes (Ok log))
all_text number bytes (Err wrong) = log_found number bytes

-- and of a verdict on it
abbrev pub verdict_found : {A : Type 0} → (ℕ → ℕ) → List ℕ → Verdict A → Result (List ℕ) ScriptFault
verdict_found number bytes (verdicts.Right totals doubts commands) =
    Ok (wire_text number bytes (verdicts.Right totals doubts commands))
verdict_found number bytes (verdicts.Wrong wrong) = log_found number bytes
