-- Syntax trees as plain data, and the tree that each value of `src/` stands for. A list of trees is a tree too.
use Rattle.std.specs.Prelude.{ℕ, Bool, List, [], ◌∷◌, map, Some, None}
use Rattle.std.specs.declared.option.Option.{Option}
use Rattle.std.specs.declared.boxed.Box.{Box}
use Rattle.std.specs.declared.alloc.Global.{Global}
use Rattle.py_tree.specs.declared.expr.Constant.{Constant}
use Rattle.py_tree.specs.declared.expr.Operator.{Operator}
use Rattle.py_tree.specs.declared.expr.Comparison.{Comparison}
use Rattle.py_tree.specs.declared.expr.Expr.{Expr, fold-Expr}
use Rattle.py_tree.specs.declared.expr.Link.{Link, fold-Link}
use Rattle.py_tree.specs.declared.expr.Argument.{Argument, fold-Argument}
use Rattle.py_tree.specs.declared.expr.Operation.{Operation, fold-Operation}
use Rattle.py_tree.specs.declared.expr.Pair.{Pair, fold-Pair}
use Rattle.py_tree.specs.declared.expr.Piece.{Piece, fold-Piece}
use Rattle.py_tree.specs.declared.expr.Argument.TheOpen as open'
use Rattle.py_tree.specs.declared.line.Line.{Line, fold-Line}
use Rattle.py_tree.specs.declared.line.Branch.{Branch, fold-Branch}
use Rattle.py_tree.specs.declared.line.Line.TheOpen as lines'
use Rattle.py_tree.specs.declared.line.Script.{Script}
use Rattle.py_tree.specs.declared.line.Parameter.{Parameter}
use Rattle.py_tree.specs.declared.line.Simple.{Simple}
use Rattle.py_tree.specs.declared.line.Simple.TheVariants as simple'

pub data Tree : Type 0 where
  -- a list of trees, nothing in the place of a part that may be left out, a name in a list of names
  nil : Tree
  cons : Tree → Tree → Tree
  absent : Tree
  word : List ℕ → Tree
  -- atoms
  name : ℕ → List ℕ → Tree
  integer : ℕ → ℕ → Tree
  text : ℕ → List ℕ → Tree
  -- texts behind one another: the characters of each, and the fields of f-texts
  joined : ℕ → Tree → Tree
  field : ℕ → Tree → Tree
  constant : ℕ → Constant → Tree
  group : ℕ → Tree → Tree
  tuple : ℕ → Tree → Bool → Tree
  list : ℕ → Tree → Tree
  comprehension : ℕ → Tree → Tree → Tree → Tree → Tree
  dict : ℕ → Tree → Tree
  pair : ℕ → Tree → Tree → Tree
  -- what stands behind an atom
  post : Tree → Tree → Tree
  attribute : ℕ → List ℕ → Tree
  call : ℕ → Tree → Tree
  named : ℕ → List ℕ → Tree → Tree
  index : ℕ → Tree → Tree
  slice : ℕ → Tree → Tree → Tree
  -- operators
  negative : ℕ → Tree → Tree
  not : ℕ → Tree → Tree
  chain : Tree → Tree → Tree
  operation : ℕ → Operator → Tree → Tree
  compare : ℕ → Comparison → Tree → Tree → Tree
  -- the value, the test and the other value of a conditional expression
  choice : ℕ → Tree → Tree → Tree → Tree
  -- statements without a block
  assign : ℕ → Tree → Tree → Tree
  augment : ℕ → Operator → Tree → Tree → Tree
  expression : Tree → Tree
  pass : ℕ → Tree
  break : ℕ → Tree
  continue : ℕ → Tree
  return : ℕ → Tree → Tree
  imports : ℕ → Tree
  -- lines
  simple : Tree → Tree
  branching : Tree → Tree → Tree
  branch : ℕ → Tree → Tree → Tree
  for' : ℕ → Tree → Tree → Tree → Tree
  while' : ℕ → Tree → Tree → Tree
  def : ℕ → List ℕ → Tree → Tree → Tree
  parameter : ℕ → List ℕ → Tree → Tree

-- a list of trees as one tree
abbrev pub trees : List Tree → Tree
trees [] = nil
trees (t ∷ ts) = cons t (trees ts)

-- a list of names as one tree
abbrev pub words : List (List ℕ) → Tree
words ws = trees (map word ws)

-- a part that may be left out
abbrev pub optional : Option (Box Tree Global) → Tree
optional None = absent
optional (Some t) = t.value

abbrev pub expr_step : open'.Expr-F Tree Tree Tree Tree Tree Tree → Tree
expr_step (open'.Name l n) = name l n
expr_step (open'.Integer l n) = integer l n
expr_step (open'.Text l t) = text l t
expr_step (open'.Joined l ps) = joined l (trees ps.items)
expr_step (open'.Constant l k) = constant l k
expr_step (open'.Group l t) = group l t.value
expr_step (open'.Tuple l ts b) = tuple l (trees ts.items) b
expr_step (open'.List l ts) = list l (trees ts.items)
expr_step (open'.Comprehension l t ns s ts) = comprehension l t.value (words ns.items) s.value (trees ts.items)
expr_step (open'.Dict l ps) = dict l (trees ps.items)
expr_step (open'.Post a ls) = post a.value (trees ls.items)
expr_step (open'.Negative l t) = negative l t.value
expr_step (open'.Not l t) = not l t.value
expr_step (open'.Chain t os) = chain t.value (trees os.items)
expr_step (open'.Compare l k t u) = compare l k t.value u.value
expr_step (open'.Choice l t c u) = choice l t.value c.value u.value

abbrev pub link_step : open'.Link-F Tree Tree Tree Tree Tree Tree → Tree
link_step (open'.Attribute l n) = attribute l n
link_step (open'.Call l as') = call l (trees as'.items)
link_step (open'.Index l t) = index l t.value
link_step (open'.Slice l t u) = slice l (optional t) (optional u)

abbrev pub argument_step : open'.Argument-F Tree Tree Tree Tree Tree Tree → Tree
argument_step (open'.Positional t) = t
argument_step (open'.Named l n t) = named l n t

abbrev pub operation_step : open'.Operation-F Tree Tree Tree Tree Tree Tree → Tree
operation_step o = operation o.line o.operator o.operand

abbrev pub pair_step : open'.Pair-F Tree Tree Tree Tree Tree Tree → Tree
pair_step p = pair p.line p.key p.value

abbrev pub piece_step : open'.Piece-F Tree Tree Tree Tree Tree Tree → Tree
piece_step (open'.Part l t) = text l t
piece_step (open'.Field l t) = field l t

-- the tree that an expression stands for, and so for its parts
unfoldable pub expr_tree : Expr → Tree
expr_tree = fold-Expr Tree Tree Tree Tree Tree Tree argument_step expr_step link_step piece_step operation_step pair_step

unfoldable pub link_tree : Link → Tree
link_tree = fold-Link Tree Tree Tree Tree Tree Tree argument_step expr_step link_step piece_step operation_step pair_step

unfoldable pub argument_tree : Argument → Tree
argument_tree = fold-Argument Tree Tree Tree Tree Tree Tree argument_step expr_step link_step piece_step operation_step pair_step

unfoldable pub operation_tree : Operation → Tree
operation_tree = fold-Operation Tree Tree Tree Tree Tree Tree argument_step expr_step link_step piece_step operation_step pair_step

unfoldable pub pair_tree : Pair → Tree
pair_tree = fold-Pair Tree Tree Tree Tree Tree Tree argument_step expr_step link_step piece_step operation_step pair_step

unfoldable pub piece_tree : Piece → Tree
piece_tree = fold-Piece Tree Tree Tree Tree Tree Tree argument_step expr_step link_step piece_step operation_step pair_step

-- an expression that may be left out
abbrev pub optional_tree : Option Expr → Tree
optional_tree None = absent
optional_tree (Some e) = expr_tree e

abbrev pub simple_tree : Simple → Tree
simple_tree (simple'.Assign l t e) = assign l (expr_tree t) (expr_tree e)
simple_tree (simple'.Augment l k t e) = augment l k (expr_tree t) (expr_tree e)
simple_tree (simple'.Expression e) = expression (expr_tree e)
simple_tree (simple'.Pass l) = pass l
simple_tree (simple'.Break l) = break l
simple_tree (simple'.Continue l) = continue l
simple_tree (simple'.Return l e) = return l (optional_tree e)
simple_tree (simple'.ImportScons l) = imports l

abbrev pub parameter_tree : Parameter → Tree
parameter_tree p = parameter p.line p.name (optional_tree p.default)

abbrev pub line_step : lines'.Line-F Tree Tree → Tree
line_step (lines'.Simple ss) = simple (trees (map simple_tree ss.items))
line_step (lines'.If bs ls) = branching (trees bs.items) (trees ls.items)
line_step (lines'.For l ns e ls) = for' l (words ns.items) (expr_tree e) (trees ls.items)
line_step (lines'.While l e ls) = while' l (expr_tree e) (trees ls.items)
line_step (lines'.Def l n ps ls) = def l n (trees (map parameter_tree ps.items)) (trees ls.value.items)

abbrev pub branch_step : lines'.Branch-F Tree Tree → Tree
branch_step b = branch b.line (expr_tree b.test) (trees b.block.items)

-- the tree that a line stands for
unfoldable pub line_tree : Line → Tree
line_tree = fold-Line Tree Tree line_step branch_step

unfoldable pub branch_tree : Branch → Tree
branch_tree = fold-Branch Tree Tree line_step branch_step

-- the tree that a script stands for: its lines
abbrev pub script_tree : Script → Tree
script_tree s = trees (map line_tree s.lines.items)
