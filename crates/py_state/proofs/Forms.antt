-- What the tree of an expression isn't.
use Rattle.std.proofs.Common.{arith, ◌≡◌, ◌<◌, ◌≤◌, ℕ, List, ◌∷◌, ◌++◌, [], Bool, map, length, get_or, ap, sym, refl, subst}
use Rattle.std.specs.declared.vec.Vec.{Vec}
use Rattle.std.specs.declared.alloc.Global.{Global}
use Rattle.py_tree.specs.declared.expr.Expr.{Expr, roll-Expr, out-Expr, roll-out-Expr, fold-roll-Expr}
use Rattle.py_tree.specs.declared.expr.Expr.TheVariants as expr'
use Rattle.py_tree.specs.declared.expr.Link.{Link}
use Rattle.py_tree.specs.declared.expr.Argument.{Argument}
use Rattle.py_tree.specs.declared.expr.Operation.{Operation}
use Rattle.py_tree.specs.declared.expr.Pair.{Pair}
use Rattle.py_tree.specs.declared.expr.Piece.{Piece}
use Rattle.py_tree.specs.declared.expr.Argument.TheOpen as open'
use Rattle.py_tree.specs.declared.expr.Operator.{Operator}
use Rattle.py_tree.specs.Tree.{Tree, tuple, branch, trees, expr_tree, line_tree, branch_tree, argument_step, expr_step, link_step, operation_step, pair_step, piece_step}
use Rattle.py_tree.specs.declared.expr.Operator.TheVariants as operator'
use Rattle.py_tree.specs.declared.line.Branch.{Branch}
use Rattle.py_tree.proofs.Views.{branch_tree-Branch}
use Rattle.py_heap.specs.declared.value.Value.{Value}
use Rattle.py_heap.specs.declared.value.Value.TheVariants as value
use Rattle.py_heap.specs.declared.ids.ListId.{ListId}
use Rattle.py_heap.specs.Heap.{Objects}
use Rattle.py_heap.specs.Units.{Units}
use Rattle.py_operators.specs.Binary.{binary_of}
use Rattle.py_meaning.specs.Lines.{first_line}
use Rattle.py_meaning.specs.Statements.{operator_op, augmented_of}
use Rattle.py_host.specs.Calls.{Arguments}
use Rattle.py_meaning.specs.Arguments.{with_argument}
use Rattle.py_meaning.specs.LocalNames.{target_names}

positional_at : (o : open'.Expr-F Argument Expr Link Piece Operation Pair) (given : Arguments) (v : Value) → with_argument given (expr_tree (roll-Expr o)) v ≡ record given { positional = given.positional ++ v ∷ [] }
unfolding expr_tree
positional_at (open'.Name l n) given v = ap (λ t. with_argument given t v) (fold-roll-Expr Tree Tree Tree Tree Tree Tree argument_step expr_step link_step piece_step operation_step pair_step (open'.Name l n))
positional_at o given v = ap (λ t. with_argument given t v) (fold-roll-Expr Tree Tree Tree Tree Tree Tree argument_step expr_step link_step piece_step operation_step pair_step o)

-- an argument without a name goes behind the positional ones
pub positional : (e : Expr) (given : Arguments) (v : Value) → with_argument given (expr_tree e) v ≡ record given { positional = given.positional ++ v ∷ [] }
positional e given v =
    let P : Expr → Type 0 = λ x. with_argument given (expr_tree x) v ≡ record given { positional = given.positional ++ v ∷ [] } in
    subst P (roll-out-Expr e) (positional_at (out-Expr e) given v)

abbrev pub NotName : Expr → Type 0
NotName e = (l : ℕ) (n : List ℕ) → e ≡ expr'.Name l n → ⊥

abbrev pub NotTuple : Expr → Type 0
NotTuple e = (l : ℕ) (ts : Vec Expr Global) (b : Bool) → e ≡ expr'.Tuple l ts b → ⊥

no_target_at : (o : open'.Expr-F Argument Expr Link Piece Operation Pair) (names : List (List ℕ)) → NotName (roll-Expr o) → NotTuple (roll-Expr o) → target_names names (expr_tree (roll-Expr o)) ≡ names
unfolding expr_tree
no_target_at (open'.Name l n) names h k = absurd (h l n (expr'.rolls-Name l n))
no_target_at (open'.Tuple l ts b) names h k = absurd (k l ts b (expr'.rolls-Tuple l ts b))
no_target_at o names h k = ap (target_names names) (fold-roll-Expr Tree Tree Tree Tree Tree Tree argument_step expr_step link_step piece_step operation_step pair_step o)

-- a target that is neither a name nor several ones binds none
pub no_target : (e : Expr) (names : List (List ℕ)) → NotName e → NotTuple e → target_names names (expr_tree e) ≡ names
no_target e names =
    let P : Expr → Type 0 = λ x. NotName x → NotTuple x → target_names names (expr_tree x) ≡ names in
    subst P (roll-out-Expr e) (no_target_at (out-Expr e) names)

pub branch_parts : (b : Branch) → branch_tree b ≡ branch b.line (expr_tree b.test) (trees (map line_tree b.block.items))
branch_parts b = branch_tree-Branch b.line b.test b.block

-- the line of several items is that of the first
pub line_of_none : (l : ℕ) (xs : List Expr) (b : Bool) → length xs < 1 → first_line (tuple l (trees (map expr_tree xs)) b) ≡ l
line_of_none l [] b h = refl
line_of_none l (x ∷ xs) b h = absurd (omega arith)

pub line_of_first : (l : ℕ) (xs : List Expr) (b : Bool) (x : Expr) → 1 ≤ length xs → x ≡ get_or xs 0 x → first_line (tuple l (trees (map expr_tree xs)) b) ≡ first_line (expr_tree x)
line_of_first l [] b x h e = absurd (omega arith)
line_of_first l (y ∷ ys) b x h e = ap (λ z. first_line (expr_tree z)) (sym e)

-- an operator that is no list's own
abbrev pub NotList : Value → Type 0
NotList x = (id : ListId) → x ≡ value.List id → ⊥

pub augmented_other : (k : Operator) (h : Objects) (u : Units) (x y : Value) → NotList x → augmented_of k h u x y ≡ binary_of (operator_op k) h u x y
augmented_other operator'.Add h u (value.List id) y n = absurd (n id refl)
augmented_other operator'.Multiply h u (value.List id) y n = absurd (n id refl)
augmented_other k h u x y n = refl
