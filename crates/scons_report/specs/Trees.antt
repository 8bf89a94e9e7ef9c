-- The tree of what a word asks for: the word, its children, and below each of them its own, as a list of lines.
use Rattle.std.specs.Prelude.{ℕ, zero, suc, Bool, true, false, List, [], ◌∷◌, ◌++◌, Option, Some, None, codes, flat_map, get_or, length, replicate, slice_set}
use Rattle.scons_base.specs.declared.ids.NodeId.{NodeId}
use Rattle.rule_graph.specs.Graphs.{RuleGraph, path_of}
use Rattle.rule_graph.specs.Rules.{rule_of}
use Rattle.task_plan.specs.Plans.{Planned}
use Rattle.task_plan.specs.Settled.{Kept, deps_of}
use Rattle.report_texts.specs.Texts.{line_text}
use Rattle.scons_report.specs.declared.tree.Form.{Form}
use Rattle.scons_report.specs.declared.tree.Form.TheVariants.{Leaf, Open, Pruned}

-- the paths of the nodes by their numbers, and the children of each
pub record Shown : Type 0 where
  pub nodes : List (List ℕ)
  pub children : NodeId → List NodeId

abbrev pub deps_at : List Kept → Option ℕ → List NodeId
deps_at rules None = []
deps_at rules (Some rule) = deps_of rules rule

-- The children of what a rule makes are the rule's dependencies, those that were found among them. A file without a rule has none.
abbrev pub children_of : RuleGraph → Planned → NodeId → List NodeId
children_of g plan n = deps_at plan.rules (rule_of g.rules n.0)

abbrev pub shown_in : RuleGraph → Planned → Shown
shown_in g plan = record { nodes = g.nodes; children = children_of g plan }

-- How a node stands: with its children below it, and in brackets without them where it stood with them before in the tree.
abbrev pub form_of : List NodeId → Bool → Form
form_of [] was_open = Leaf
form_of (child ∷ children) true = Pruned
form_of (child ∷ children) false = Open

abbrev pub name_text : Form → List ℕ → List ℕ
name_text Leaf path = path
name_text Open path = path
name_text Pruned path = codes "[" ++ path ++ codes "]"

abbrev pub row_text : List ℕ → List ℕ → List ℕ
row_text margin name = margin ++ codes "+-" ++ name

-- what the margin of a node's children has besides the node's own: a bar where further nodes stand beside it
abbrev pub piece : Bool → List ℕ
piece true = codes "  "
piece false = codes "| "

-- lines that were written, and by the numbers of the nodes which of them stood with their children by then
pub record Written : Type 0 where
  pub lines : List (List ℕ)
  pub open_nodes : List Bool

abbrev pub nothing : List Bool → Written
nothing marks = record { lines = []; open_nodes = marks }

-- one behind the other
abbrev pub followed : Written → (List Bool → Written) → Written
followed first rest = record { lines = first.lines ++ (rest first.open_nodes).lines; open_nodes = (rest first.open_nodes).open_nodes }

-- what writes some nodes side by side, at a margin, where so many stood with their children before
abbrev pub Writer : Type 0
Writer = List ℕ → List Bool → List NodeId → Written

abbrev pub one_line : List ℕ → List Bool → Written
one_line line marks = record { lines = line ∷ []; open_nodes = marks }

-- a node, and what stands below it
abbrev pub row_by : Form → Shown → Writer → List ℕ → Bool → NodeId → List Bool → Written
row_by Leaf shown below margin is_last n marks = one_line (row_text margin (name_text Leaf (path_of shown.nodes n))) marks
row_by Pruned shown below margin is_last n marks = one_line (row_text margin (name_text Pruned (path_of shown.nodes n))) marks
row_by Open shown below margin is_last n marks =
    followed (one_line (row_text margin (name_text Open (path_of shown.nodes n))) (slice_set marks n.0 true))
    (λ opened. below (margin ++ piece is_last) opened (shown.children n))

abbrev pub row : Shown → Writer → List ℕ → Bool → NodeId → List Bool → Written
row shown below margin is_last n marks = row_by (form_of (shown.children n) (get_or marks n.0 false)) shown below margin is_last n marks

abbrev pub is_last : List NodeId → Bool
is_last [] = true
is_last (n ∷ rest) = false

abbrev pub rows : Shown → Writer → List ℕ → List Bool → List NodeId → Written
rows shown below margin marks [] = nothing marks
rows shown below margin marks (n ∷ rest) =
    followed (row shown below margin (is_last rest) n marks) (λ opened. rows shown below margin opened rest)

-- So deep a tree below a node. Each node that stands with its children does so once, so it is never deeper than there are nodes.
abbrev pub below : Shown → ℕ → Writer
below shown zero margin marks children = nothing marks
below shown (suc depth) margin marks children = rows shown (below shown depth) margin marks children

-- the word, and what it stands for below it
abbrev pub tree_lines : Shown → List ℕ → List NodeId → List (List ℕ)
tree_lines shown word children =
    row_text [] word ∷ (rows shown (below shown (length shown.nodes)) (piece true) (replicate (length shown.nodes) false) children).lines

-- lines as they are printed
abbrev pub text_of : List (List ℕ) → List ℕ
text_of lines = flat_map line_text lines

abbrev pub tree_text : Shown → List ℕ → List NodeId → List ℕ
tree_text shown word children = text_of (tree_lines shown word children)
