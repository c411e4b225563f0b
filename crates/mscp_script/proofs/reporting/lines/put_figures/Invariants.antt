use Rattle.mscp_script.proofs.Common.{◌≡◌, ◌++◌, take, flat_map, figure_line}
use Rattle.mscp_script.proofs.reporting.lines.put_figures.Given as goal

abbrev pub invariant-loop-command : goal.invariant-loop-command
invariant-loop-command g l =
    g.O.Out.text l.out ≡ g.O.Out.text l.initial.out ++ flat_map figure_line (take l.command-index l.shown)
