use Rattle.std.proofs.Common.{◌≡◌, [], drop, map, string_bytes}
use Rattle.scons_report.specs.Walks.{margin_of, side_of}
use Rattle.scons_report.proofs.tree.margin_text.Given as goal

abbrev pub invariant-loop-level : goal.invariant-loop-level
invariant-loop-level l = margin_of (string_bytes l.text) (map side_of (drop l.level-index l.levels)) ≡ margin_of [] (map side_of l.levels)
