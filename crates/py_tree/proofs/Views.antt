-- What each form of `src/` stands for: one equation a form.
use Rattle.std.proofs.Common.{◌≡◌, ℕ, Bool, List, map, sym, ap, ◌∙◌, Some, None}
use Rattle.std.specs.declared.option.Option.{Option}
use Rattle.std.specs.declared.boxed.Box.{Box}
use Rattle.std.specs.declared.vec.Vec.{Vec}
use Rattle.std.specs.declared.rc.Rc.{Rc}
use Rattle.std.specs.declared.alloc.Global.{Global}
use Rattle.py_tree.specs.declared.expr.Constant.{Constant}
use Rattle.py_tree.specs.declared.expr.Operator.{Operator}
use Rattle.py_tree.specs.declared.expr.Comparison.{Comparison}
use Rattle.py_tree.specs.declared.expr.Expr.{Expr, fold-roll-Expr}
use Rattle.py_tree.specs.declared.expr.Expr.TheVariants as expr'
use Rattle.py_tree.specs.declared.expr.Link.{Link, fold-roll-Link}
use Rattle.py_tree.specs.declared.expr.Link.TheVariants as link'
use Rattle.py_tree.specs.declared.expr.Argument.{Argument, fold-roll-Argument}
use Rattle.py_tree.specs.declared.expr.Argument.TheVariants as argument'
use Rattle.py_tree.specs.declared.expr.Operation.{Operation, fold-roll-Operation, rolls-Operation'}
use Rattle.py_tree.specs.declared.expr.Pair.{Pair, fold-roll-Pair, rolls-Pair'}
use Rattle.py_tree.specs.declared.expr.Piece.{Piece, fold-roll-Piece}
use Rattle.py_tree.specs.declared.expr.Piece.TheVariants as piece'
use Rattle.py_tree.specs.declared.expr.Argument.TheOpen as open'
use Rattle.py_tree.specs.declared.line.Line.{Line, fold-roll-Line}
use Rattle.py_tree.specs.declared.line.Line.TheVariants as line'
use Rattle.py_tree.specs.declared.line.Branch.{Branch, fold-roll-Branch, rolls-Branch'}
use Rattle.py_tree.specs.declared.line.Line.TheOpen as lines'
use Rattle.py_tree.specs.declared.line.Parameter.{Parameter}
use Rattle.py_tree.specs.declared.line.Simple.{Simple}
use Rattle.py_tree.specs.Tree.{Tree, absent, name, integer, text, joined, field, constant, group, tuple, list, comprehension, dict, pair, post, attribute, call, named, index, slice, negative, not, chain, operation, compare, choice, simple, branching, branch, for', while', def, trees, words, argument_step, expr_step, link_step, operation_step, pair_step, piece_step, expr_tree, link_tree, argument_tree, operation_tree, pair_tree, piece_tree, simple_tree, parameter_tree, line_step, branch_step, line_tree, branch_tree}

pub expr_tree-Name : (l : ℕ) (n : List ℕ) → expr_tree (expr'.Name l n) ≡ name l n
unfolding expr_tree link_tree argument_tree operation_tree pair_tree piece_tree line_tree branch_tree
expr_tree-Name l n = ap expr_tree (sym (expr'.rolls-Name l n)) ∙ fold-roll-Expr Tree Tree Tree Tree Tree Tree argument_step expr_step link_step piece_step operation_step pair_step (open'.Name l n)

pub expr_tree-Integer : (l : ℕ) (n : ℕ) → expr_tree (expr'.Integer l n) ≡ integer l n
unfolding expr_tree link_tree argument_tree operation_tree pair_tree piece_tree line_tree branch_tree
expr_tree-Integer l n = ap expr_tree (sym (expr'.rolls-Integer l n)) ∙ fold-roll-Expr Tree Tree Tree Tree Tree Tree argument_step expr_step link_step piece_step operation_step pair_step (open'.Integer l n)

pub expr_tree-Text : (l : ℕ) (n : List ℕ) → expr_tree (expr'.Text l n) ≡ text l n
unfolding expr_tree link_tree argument_tree operation_tree pair_tree piece_tree line_tree branch_tree
expr_tree-Text l n = ap expr_tree (sym (expr'.rolls-Text l n)) ∙ fold-roll-Expr Tree Tree Tree Tree Tree Tree argument_step expr_step link_step piece_step operation_step pair_step (open'.Text l n)

pub expr_tree-Joined : (l : ℕ) (ps : Vec Piece Global) → expr_tree (expr'.Joined l ps) ≡ joined l (trees (map piece_tree ps.items))
unfolding expr_tree link_tree argument_tree operation_tree pair_tree piece_tree line_tree branch_tree
expr_tree-Joined l ps = ap expr_tree (sym (expr'.rolls-Joined l ps)) ∙ fold-roll-Expr Tree Tree Tree Tree Tree Tree argument_step expr_step link_step piece_step operation_step pair_step (open'.Joined l ps)

pub expr_tree-Constant : (l : ℕ) (k : Constant) → expr_tree (expr'.Constant l k) ≡ constant l k
unfolding expr_tree link_tree argument_tree operation_tree pair_tree piece_tree line_tree branch_tree
expr_tree-Constant l k = ap expr_tree (sym (expr'.rolls-Constant l k)) ∙ fold-roll-Expr Tree Tree Tree Tree Tree Tree argument_step expr_step link_step piece_step operation_step pair_step (open'.Constant l k)

pub expr_tree-Group : (l : ℕ) (t : Box Expr Global) → expr_tree (expr'.Group l t) ≡ group l (expr_tree t.value)
unfolding expr_tree link_tree argument_tree operation_tree pair_tree piece_tree line_tree branch_tree
expr_tree-Group l t = ap expr_tree (sym (expr'.rolls-Group l t)) ∙ fold-roll-Expr Tree Tree Tree Tree Tree Tree argument_step expr_step link_step piece_step operation_step pair_step (open'.Group l t)

pub expr_tree-Tuple : (l : ℕ) (ts : Vec Expr Global) (b : Bool) → expr_tree (expr'.Tuple l ts b) ≡ tuple l (trees (map expr_tree ts.items)) b
unfolding expr_tree link_tree argument_tree operation_tree pair_tree piece_tree line_tree branch_tree
expr_tree-Tuple l ts b = ap expr_tree (sym (expr'.rolls-Tuple l ts b)) ∙ fold-roll-Expr Tree Tree Tree Tree Tree Tree argument_step expr_step link_step piece_step operation_step pair_step (open'.Tuple l ts b)

pub expr_tree-List : (l : ℕ) (ts : Vec Expr Global) → expr_tree (expr'.List l ts) ≡ list l (trees (map expr_tree ts.items))
unfolding expr_tree link_tree argument_tree operation_tree pair_tree piece_tree line_tree branch_tree
expr_tree-List l ts = ap expr_tree (sym (expr'.rolls-List l ts)) ∙ fold-roll-Expr Tree Tree Tree Tree Tree Tree argument_step expr_step link_step piece_step operation_step pair_step (open'.List l ts)

pub expr_tree-Comprehension : (l : ℕ) (t : Box Expr Global) (ns : Vec (List ℕ) Global) (s : Box Expr Global) (ts : Vec Expr Global) → expr_tree (expr'.Comprehension l t ns s ts) ≡ comprehension l (expr_tree t.value) (words ns.items) (expr_tree s.value) (trees (map expr_tree ts.items))
unfolding expr_tree link_tree argument_tree operation_tree pair_tree piece_tree line_tree branch_tree
expr_tree-Comprehension l t ns s ts = ap expr_tree (sym (expr'.rolls-Comprehension l t ns s ts)) ∙ fold-roll-Expr Tree Tree Tree Tree Tree Tree argument_step expr_step link_step piece_step operation_step pair_step (open'.Comprehension l t ns s ts)

pub expr_tree-Dict : (l : ℕ) (ps : Vec Pair Global) → expr_tree (expr'.Dict l ps) ≡ dict l (trees (map pair_tree ps.items))
unfolding expr_tree link_tree argument_tree operation_tree pair_tree piece_tree line_tree branch_tree
expr_tree-Dict l ps = ap expr_tree (sym (expr'.rolls-Dict l ps)) ∙ fold-roll-Expr Tree Tree Tree Tree Tree Tree argument_step expr_step link_step piece_step operation_step pair_step (open'.Dict l ps)

pub expr_tree-Post : (t : Box Expr Global) (ls : Vec Link Global) → expr_tree (expr'.Post t ls) ≡ post (expr_tree t.value) (trees (map link_tree ls.items))
unfolding expr_tree link_tree argument_tree operation_tree pair_tree piece_tree line_tree branch_tree
expr_tree-Post t ls = ap expr_tree (sym (expr'.rolls-Post t ls)) ∙ fold-roll-Expr Tree Tree Tree Tree Tree Tree argument_step expr_step link_step piece_step operation_step pair_step (open'.Post t ls)

pub expr_tree-Negative : (l : ℕ) (t : Box Expr Global) → expr_tree (expr'.Negative l t) ≡ negative l (expr_tree t.value)
unfolding expr_tree link_tree argument_tree operation_tree pair_tree piece_tree line_tree branch_tree
expr_tree-Negative l t = ap expr_tree (sym (expr'.rolls-Negative l t)) ∙ fold-roll-Expr Tree Tree Tree Tree Tree Tree argument_step expr_step link_step piece_step operation_step pair_step (open'.Negative l t)

pub expr_tree-Not : (l : ℕ) (t : Box Expr Global) → expr_tree (expr'.Not l t) ≡ not l (expr_tree t.value)
unfolding expr_tree link_tree argument_tree operation_tree pair_tree piece_tree line_tree branch_tree
expr_tree-Not l t = ap expr_tree (sym (expr'.rolls-Not l t)) ∙ fold-roll-Expr Tree Tree Tree Tree Tree Tree argument_step expr_step link_step piece_step operation_step pair_step (open'.Not l t)

pub expr_tree-Chain : (t : Box Expr Global) (os : Vec Operation Global) → expr_tree (expr'.Chain t os) ≡ chain (expr_tree t.value) (trees (map operation_tree os.items))
unfolding expr_tree link_tree argument_tree operation_tree pair_tree piece_tree line_tree branch_tree
expr_tree-Chain t os = ap expr_tree (sym (expr'.rolls-Chain t os)) ∙ fold-roll-Expr Tree Tree Tree Tree Tree Tree argument_step expr_step link_step piece_step operation_step pair_step (open'.Chain t os)

pub expr_tree-Compare : (l : ℕ) (k : Comparison) (t : Box Expr Global) (u : Box Expr Global) → expr_tree (expr'.Compare l k t u) ≡ compare l k (expr_tree t.value) (expr_tree u.value)
unfolding expr_tree link_tree argument_tree operation_tree pair_tree piece_tree line_tree branch_tree
expr_tree-Compare l k t u = ap expr_tree (sym (expr'.rolls-Compare l k t u)) ∙ fold-roll-Expr Tree Tree Tree Tree Tree Tree argument_step expr_step link_step piece_step operation_step pair_step (open'.Compare l k t u)

pub expr_tree-Choice : (l : ℕ) (t : Box Expr Global) (c : Box Expr Global) (u : Box Expr Global) → expr_tree (expr'.Choice l t c u) ≡ choice l (expr_tree t.value) (expr_tree c.value) (expr_tree u.value)
unfolding expr_tree link_tree argument_tree operation_tree pair_tree piece_tree line_tree branch_tree
expr_tree-Choice l t c u = ap expr_tree (sym (expr'.rolls-Choice l t c u)) ∙ fold-roll-Expr Tree Tree Tree Tree Tree Tree argument_step expr_step link_step piece_step operation_step pair_step (open'.Choice l t c u)

pub piece_tree-Part : (l : ℕ) (t : List ℕ) → piece_tree (piece'.Part l t) ≡ text l t
unfolding expr_tree link_tree argument_tree operation_tree pair_tree piece_tree line_tree branch_tree
piece_tree-Part l t = ap piece_tree (sym (piece'.rolls-Part l t)) ∙ fold-roll-Piece Tree Tree Tree Tree Tree Tree argument_step expr_step link_step piece_step operation_step pair_step (open'.Part l t)

pub piece_tree-Field : (l : ℕ) (e : Expr) → piece_tree (piece'.Field l e) ≡ field l (expr_tree e)
unfolding expr_tree link_tree argument_tree operation_tree pair_tree piece_tree line_tree branch_tree
piece_tree-Field l e = ap piece_tree (sym (piece'.rolls-Field l e)) ∙ fold-roll-Piece Tree Tree Tree Tree Tree Tree argument_step expr_step link_step piece_step operation_step pair_step (open'.Field l e)

pub link_tree-Attribute : (l : ℕ) (n : List ℕ) → link_tree (link'.Attribute l n) ≡ attribute l n
unfolding expr_tree link_tree argument_tree operation_tree pair_tree piece_tree line_tree branch_tree
link_tree-Attribute l n = ap link_tree (sym (link'.rolls-Attribute l n)) ∙ fold-roll-Link Tree Tree Tree Tree Tree Tree argument_step expr_step link_step piece_step operation_step pair_step (open'.Attribute l n)

pub link_tree-Call : (l : ℕ) (as' : Vec Argument Global) → link_tree (link'.Call l as') ≡ call l (trees (map argument_tree as'.items))
unfolding expr_tree link_tree argument_tree operation_tree pair_tree piece_tree line_tree branch_tree
link_tree-Call l as' = ap link_tree (sym (link'.rolls-Call l as')) ∙ fold-roll-Link Tree Tree Tree Tree Tree Tree argument_step expr_step link_step piece_step operation_step pair_step (open'.Call l as')

pub link_tree-Index : (l : ℕ) (t : Box Expr Global) → link_tree (link'.Index l t) ≡ index l (expr_tree t.value)
unfolding expr_tree link_tree argument_tree operation_tree pair_tree piece_tree line_tree branch_tree
link_tree-Index l t = ap link_tree (sym (link'.rolls-Index l t)) ∙ fold-roll-Link Tree Tree Tree Tree Tree Tree argument_step expr_step link_step piece_step operation_step pair_step (open'.Index l t)

-- a part that may be left out
abbrev pub optional_box : Option (Box Expr Global) → Tree
optional_box None = absent
optional_box (Some e) = expr_tree e.value

pub link_tree-Slice : (l : ℕ) (t u : Option (Box Expr Global)) → link_tree (link'.Slice l t u) ≡ slice l (optional_box t) (optional_box u)
unfolding expr_tree link_tree argument_tree operation_tree pair_tree piece_tree line_tree branch_tree
link_tree-Slice l None None = ap link_tree (sym (link'.rolls-Slice l None None)) ∙ fold-roll-Link Tree Tree Tree Tree Tree Tree argument_step expr_step link_step piece_step operation_step pair_step (open'.Slice l None None)
link_tree-Slice l None (Some u) = ap link_tree (sym (link'.rolls-Slice l None (Some u))) ∙ fold-roll-Link Tree Tree Tree Tree Tree Tree argument_step expr_step link_step piece_step operation_step pair_step (open'.Slice l None (Some u))
link_tree-Slice l (Some t) None = ap link_tree (sym (link'.rolls-Slice l (Some t) None)) ∙ fold-roll-Link Tree Tree Tree Tree Tree Tree argument_step expr_step link_step piece_step operation_step pair_step (open'.Slice l (Some t) None)
link_tree-Slice l (Some t) (Some u) = ap link_tree (sym (link'.rolls-Slice l (Some t) (Some u))) ∙ fold-roll-Link Tree Tree Tree Tree Tree Tree argument_step expr_step link_step piece_step operation_step pair_step (open'.Slice l (Some t) (Some u))

pub argument_tree-Positional : (e : Expr) → argument_tree (argument'.Positional e) ≡ expr_tree e
unfolding expr_tree link_tree argument_tree operation_tree pair_tree piece_tree line_tree branch_tree
argument_tree-Positional e = ap argument_tree (sym (argument'.rolls-Positional e)) ∙ fold-roll-Argument Tree Tree Tree Tree Tree Tree argument_step expr_step link_step piece_step operation_step pair_step (open'.Positional e)

pub argument_tree-Named : (l : ℕ) (n : List ℕ) (e : Expr) → argument_tree (argument'.Named l n e) ≡ named l n (expr_tree e)
unfolding expr_tree link_tree argument_tree operation_tree pair_tree piece_tree line_tree branch_tree
argument_tree-Named l n e = ap argument_tree (sym (argument'.rolls-Named l n e)) ∙ fold-roll-Argument Tree Tree Tree Tree Tree Tree argument_step expr_step link_step piece_step operation_step pair_step (open'.Named l n e)

pub operation_tree-Operation : (l : ℕ) (k : Operator) (e : Expr) → operation_tree (record { line = l; operator = k; operand = e }) ≡ operation l k (expr_tree e)
unfolding expr_tree link_tree argument_tree operation_tree pair_tree piece_tree line_tree branch_tree
operation_tree-Operation l k e =
    let r : open'.Operation-F Argument Expr Link Piece Operation Pair = record { line = l; operator = k; operand = e } in
    ap operation_tree (sym (rolls-Operation' r)) ∙ fold-roll-Operation Tree Tree Tree Tree Tree Tree argument_step expr_step link_step piece_step operation_step pair_step r

pub pair_tree-Pair : (l : ℕ) (k : Expr) (e : Expr) → pair_tree (record { line = l; key = k; value = e }) ≡ pair l (expr_tree k) (expr_tree e)
unfolding expr_tree link_tree argument_tree operation_tree pair_tree piece_tree line_tree branch_tree
pair_tree-Pair l k e =
    let r : open'.Pair-F Argument Expr Link Piece Operation Pair = record { line = l; key = k; value = e } in
    ap pair_tree (sym (rolls-Pair' r)) ∙ fold-roll-Pair Tree Tree Tree Tree Tree Tree argument_step expr_step link_step piece_step operation_step pair_step r

pub branch_tree-Branch : (l : ℕ) (e : Expr) (ls : Vec Line Global) → branch_tree (record { line = l; test = e; block = ls }) ≡ branch l (expr_tree e) (trees (map line_tree ls.items))
unfolding expr_tree link_tree argument_tree operation_tree pair_tree piece_tree line_tree branch_tree
branch_tree-Branch l e ls =
    let r : lines'.Branch-F Line Branch = record { line = l; test = e; block = ls } in
    ap branch_tree (sym (rolls-Branch' r)) ∙ fold-roll-Branch Tree Tree line_step branch_step r

pub line_tree-Simple : (ss : Vec Simple Global) → line_tree (line'.Simple ss) ≡ simple (trees (map simple_tree ss.items))
unfolding expr_tree link_tree argument_tree operation_tree pair_tree piece_tree line_tree branch_tree
line_tree-Simple ss = ap line_tree (sym (line'.rolls-Simple ss)) ∙ fold-roll-Line Tree Tree line_step branch_step (lines'.Simple ss)

pub line_tree-If : (bs : Vec Branch Global) (ls : Vec Line Global) → line_tree (line'.If bs ls) ≡ branching (trees (map branch_tree bs.items)) (trees (map line_tree ls.items))
unfolding expr_tree link_tree argument_tree operation_tree pair_tree piece_tree line_tree branch_tree
line_tree-If bs ls = ap line_tree (sym (line'.rolls-If bs ls)) ∙ fold-roll-Line Tree Tree line_step branch_step (lines'.If bs ls)

pub line_tree-For : (l : ℕ) (ns : Vec (List ℕ) Global) (e : Expr) (ls : Vec Line Global) → line_tree (line'.For l ns e ls) ≡ for' l (words ns.items) (expr_tree e) (trees (map line_tree ls.items))
unfolding expr_tree link_tree argument_tree operation_tree pair_tree piece_tree line_tree branch_tree
line_tree-For l ns e ls = ap line_tree (sym (line'.rolls-For l ns e ls)) ∙ fold-roll-Line Tree Tree line_step branch_step (lines'.For l ns e ls)

pub line_tree-While : (l : ℕ) (e : Expr) (ls : Vec Line Global) → line_tree (line'.While l e ls) ≡ while' l (expr_tree e) (trees (map line_tree ls.items))
unfolding expr_tree link_tree argument_tree operation_tree pair_tree piece_tree line_tree branch_tree
line_tree-While l e ls = ap line_tree (sym (line'.rolls-While l e ls)) ∙ fold-roll-Line Tree Tree line_step branch_step (lines'.While l e ls)

pub line_tree-Def : (l : ℕ) (n : List ℕ) (ps : Vec Parameter Global) (ls : Rc (Vec Line Global) Global) → line_tree (line'.Def l n ps ls) ≡ def l n (trees (map parameter_tree ps.items)) (trees (map line_tree ls.value.items))
unfolding expr_tree link_tree argument_tree operation_tree pair_tree piece_tree line_tree branch_tree
line_tree-Def l n ps ls = ap line_tree (sym (line'.rolls-Def l n ps ls)) ∙ fold-roll-Line Tree Tree line_step branch_step (lines'.Def l n ps ls)

pub ruleset tree_views = (expr_tree-Name, expr_tree-Integer, expr_tree-Text, expr_tree-Joined, expr_tree-Constant, expr_tree-Group, expr_tree-Tuple, expr_tree-List, expr_tree-Comprehension, expr_tree-Dict, expr_tree-Post, expr_tree-Negative, expr_tree-Not, expr_tree-Chain, expr_tree-Compare, expr_tree-Choice, piece_tree-Part, piece_tree-Field, link_tree-Attribute, link_tree-Call, link_tree-Index, link_tree-Slice, argument_tree-Positional, argument_tree-Named, operation_tree-Operation, pair_tree-Pair, branch_tree-Branch, line_tree-Simple, line_tree-If, line_tree-For, line_tree-While, line_tree-Def)
