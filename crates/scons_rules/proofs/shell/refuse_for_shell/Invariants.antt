use Rattle.std.proofs.Common.{◌≡◌, drop}
use Rattle.scons_rules.specs.Shell.{all_in_line}
use Rattle.scons_rules.proofs.shell.refuse_for_shell.Given as goal

abbrev pub invariant-loop-path : goal.invariant-loop-path
invariant-loop-path l = all_in_line l.paths ≡ all_in_line (drop l.path-index l.paths)
