use Rattle.mscpjudge.proofs.Common.{Gathered, IsOn, [], broken_of, finding_text, flat_map, gathered_in, length, lines, map, nothing_gathered, number_by, time_of, ◌≡◌}
use Rattle.mscpjudge.proofs.finding.find_lines.Given as goal

abbrev pub invariant-loop-line : goal.invariant-loop-line
invariant-loop-line l = record {
  gathered : Gathered;
  on : IsOn gathered.told.log gathered.told.mentions l.course;
  fresh : gathered.told.found ≡ [];
  account : l.account ≡ gathered.account;
  text : l.text.items ≡ flat_map (finding_text (number_by l.times.numbers.now) (time_of l.times.lines)) gathered.all;
  broken : l.broken.items ≡ map broken_of gathered.all;
  read : gathered_in 0 nothing_gathered (lines l.fn.lines.rest.now)
      ≡ gathered_in l.lines.number gathered (lines l.lines.rest.now);
}

abbrev pub decreases-loop-line : goal.decreases-loop-line
decreases-loop-line l = length l.lines.rest.now
