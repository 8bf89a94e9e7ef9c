use Rattle.std.proofs.Common.{◌+◌, ◌*◌, length, map}
use Rattle.py_tree.specs.Tree.{branch_tree, line_tree}
use Rattle.py_parse.proofs.Blocks.{BranchesGoOn, LinesGoOn}
use Rattle.py_parse.proofs.lines.+line.Given as goal

abbrev pub decreases-parse_block : goal.decreases-parse_block
decreases-parse_block l = 8 * l.depth + 5

abbrev pub decreases-parse_indented : goal.decreases-parse_indented
decreases-parse_indented l = 8 * l.depth + 4

abbrev pub decreases-parse_line : goal.decreases-parse_line
decreases-parse_line l = 8 * l.depth + 3

abbrev pub decreases-parse_if : goal.decreases-parse_if
decreases-parse_if l = 8 * l.depth + 2

abbrev pub decreases-parse_branch : goal.decreases-parse_branch
decreases-parse_branch l = 8 * l.depth + 1

abbrev pub decreases-parse_else : goal.decreases-parse_else
decreases-parse_else l = 8 * l.depth + 1

abbrev pub decreases-parse_for : goal.decreases-parse_for
decreases-parse_for l = 8 * l.depth + 1

abbrev pub decreases-parse_while : goal.decreases-parse_while
decreases-parse_while l = 8 * l.depth + 1

abbrev pub decreases-parse_def : goal.decreases-parse_def
decreases-parse_def l = 8 * l.depth + 1

abbrev pub invariant-parse_if-branches : goal.invariant-parse_if-branches
invariant-parse_if-branches l = BranchesGoOn l.depth l.site l.initial.line l.tokens (map branch_tree l.branches.items) l.line l.rest

abbrev pub decreases-parse_if-branches : goal.decreases-parse_if-branches
decreases-parse_if-branches l = length l.rest

abbrev pub invariant-parse_indented-lines : goal.invariant-parse_indented-lines
invariant-parse_indented-lines l = LinesGoOn l.depth l.site l.tokens (map line_tree l.lines.items) l.rest

abbrev pub decreases-parse_indented-lines : goal.decreases-parse_indented-lines
decreases-parse_indented-lines l = length l.rest
