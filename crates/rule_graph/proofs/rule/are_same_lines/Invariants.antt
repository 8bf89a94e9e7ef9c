use Rattle.std.proofs.Common.{◌≡◌, drop, length}
use Rattle.std.specs.Cmp.Lexicographic.{pointwise}
use Rattle.rule_graph.specs.Rules.{line_eq}
use Rattle.rule_graph.proofs.rule.are_same_lines.Given as goal

-- the lines passed are alike
abbrev pub invariant-loop-place : goal.invariant-loop-place
invariant-loop-place l =
    (length l.lines ≡ length l.others)
    × (pointwise line_eq (drop l.place l.lines) (drop l.place l.others) ≡ pointwise line_eq l.lines l.others)
