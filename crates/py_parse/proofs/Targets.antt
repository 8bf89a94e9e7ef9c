-- What may stand on the left of an assignment: the trees that the code takes for it.
use Rattle.std.proofs.Common.{◌≡◌, ℕ, ◌≤◌, List, [], ◌∷◌, ◌++◌, Bool, true, false, ◌&&◌, length, map, refl, sym, ap, subst, arith}
use Rattle.std.specs.List.{list_all}
use Rattle.std.specs.declared.boxed.Box.{Box}
use Rattle.std.specs.declared.vec.Vec.{Vec}
use Rattle.std.specs.declared.alloc.Global.{Global}
use Rattle.py_tree.specs.declared.expr.Expr.{Expr, roll-Expr, out-Expr, roll-out-Expr, fold-roll-Expr}
use Rattle.py_tree.specs.declared.expr.Expr.TheVariants as expr'
use Rattle.py_tree.specs.declared.expr.Link.{Link, roll-Link, out-Link, roll-out-Link, fold-roll-Link}
use Rattle.py_tree.specs.declared.expr.Link.TheVariants as link'
use Rattle.py_tree.specs.declared.expr.Argument.{Argument}
use Rattle.py_tree.specs.declared.expr.Operation.{Operation}
use Rattle.py_tree.specs.declared.expr.Pair.{Pair}
use Rattle.py_tree.specs.declared.expr.Piece.{Piece}
use Rattle.py_tree.specs.declared.expr.Argument.TheOpen as open'
use Rattle.py_tree.specs.Tree.{Tree, cons, tuple, trees, expr_tree, link_tree, argument_step, expr_step, link_step, operation_step, pair_step, piece_step}
use Rattle.py_parse.specs.Grammar.{is_index, ends_in_index, is_place, is_name, are_names, is_targets}

abbrev pub NotName : Expr → Type 0
NotName e = (l : ℕ) (n : List ℕ) → e ≡ expr'.Name l n → ⊥

abbrev pub NotPost : Expr → Type 0
NotPost e = (t : Box Expr Global) (ls : Vec Link Global) → e ≡ expr'.Post t ls → ⊥

abbrev pub NotIndex : Link → Type 0
NotIndex k = (l : ℕ) (t : Box Expr Global) → k ≡ link'.Index l t → ⊥

name_at : (o : open'.Expr-F Argument Expr Link Piece Operation Pair) → NotName (roll-Expr o) → false ≡ is_name (expr_tree (roll-Expr o))
unfolding expr_tree link_tree
name_at (open'.Name l n) h = absurd (h l n (expr'.rolls-Name l n))
name_at o h = ap is_name (sym (fold-roll-Expr Tree Tree Tree Tree Tree Tree argument_step expr_step link_step piece_step operation_step pair_step o))

pub no_name : (e : Expr) → NotName e → false ≡ is_name (expr_tree e)
no_name e = let P : Expr → Type 0 = λ x. NotName x → false ≡ is_name (expr_tree x) in subst P (roll-out-Expr e) (name_at (out-Expr e))

place_at : (o : open'.Expr-F Argument Expr Link Piece Operation Pair) → NotName (roll-Expr o) → NotPost (roll-Expr o) → false ≡ is_place (expr_tree (roll-Expr o))
unfolding expr_tree link_tree
place_at (open'.Name l n) h k = absurd (h l n (expr'.rolls-Name l n))
place_at (open'.Post t ls) h k = absurd (k t ls (expr'.rolls-Post t ls))
place_at o h k = ap is_place (sym (fold-roll-Expr Tree Tree Tree Tree Tree Tree argument_step expr_step link_step piece_step operation_step pair_step o))

pub no_place : (e : Expr) → NotName e → NotPost e → false ≡ is_place (expr_tree e)
no_place e = let P : Expr → Type 0 = λ x. NotName x → NotPost x → false ≡ is_place (expr_tree x) in subst P (roll-out-Expr e) (place_at (out-Expr e))

abbrev pub NotTuple : Expr → Type 0
NotTuple e = (l : ℕ) (ts : Vec Expr Global) (b : Bool) → e ≡ expr'.Tuple l ts b → ⊥

targets_at : (o : open'.Expr-F Argument Expr Link Piece Operation Pair) → NotTuple (roll-Expr o) → is_place (expr_tree (roll-Expr o)) ≡ is_targets (expr_tree (roll-Expr o))
unfolding expr_tree link_tree
targets_at (open'.Tuple l ts b) h = absurd (h l ts b (expr'.rolls-Tuple l ts b))
targets_at o h = rw (fold-roll-Expr Tree Tree Tree Tree Tree Tree argument_step expr_step link_step piece_step operation_step pair_step o) refl

pub one_target : (e : Expr) → NotTuple e → is_place (expr_tree e) ≡ is_targets (expr_tree e)
one_target e = let P : Expr → Type 0 = λ x. NotTuple x → is_place (expr_tree x) ≡ is_targets (expr_tree x) in subst P (roll-out-Expr e) (targets_at (out-Expr e))

-- a comma behind the last of them
pub no_targets : (l : ℕ) (t : Tree) → false ≡ is_targets (tuple l t true)
no_targets l (cons t (cons u us)) = refl
no_targets l (cons t us) = refl
no_targets l t = refl

link_at : (o : open'.Link-F Argument Expr Link Piece Operation Pair) → NotIndex (roll-Link o) → false ≡ is_index (link_tree (roll-Link o))
unfolding expr_tree link_tree
link_at (open'.Index l t) h = absurd (h l t (link'.rolls-Index l t))
link_at o h = ap is_index (sym (fold-roll-Link Tree Tree Tree Tree Tree Tree argument_step expr_step link_step piece_step operation_step pair_step o))

pub no_index : (k : Link) → NotIndex k → false ≡ is_index (link_tree k)
no_index k = let P : Link → Type 0 = λ x. NotIndex x → false ≡ is_index (link_tree x) in subst P (roll-out-Link k) (link_at (out-Link k))

-- a list is told by its last part
ends_at : (ys : List Link) (x : Link) → ends_in_index (trees (map link_tree (ys ++ x ∷ []))) ≡ is_index (link_tree x)
ends_at [] x = refl
ends_at (y ∷ []) x = refl
ends_at (y ∷ (z ∷ ys)) x = ends_at (z ∷ ys) x

pub ends_as_last : (xs ys : List Link) (x : Link) → xs ≡ ys ++ x ∷ [] → ends_in_index (trees (map link_tree xs)) ≡ is_index (link_tree x)
ends_as_last xs ys x e = rw e (ends_at ys x)

pub ends_nowhere : (xs : List Link) → length xs ≡ 0 → false ≡ ends_in_index (trees (map link_tree xs))
ends_nowhere [] e = refl
ends_nowhere (x ∷ xs) e = cc

pub names_all : (xs : List Expr) → are_names (trees (map expr_tree xs)) ≡ list_all (λ e. is_name (expr_tree e)) xs
names_all [] = refl
names_all (x ∷ xs) = ap (λ b. is_name (expr_tree x) && b) (names_all xs)

pub several_targets : (l : ℕ) (xs : List Expr) → 2 ≤ length xs → is_targets (tuple l (trees (map expr_tree xs)) false) ≡ list_all (λ e. is_name (expr_tree e)) xs
several_targets l [] h = absurd (omega (arith, h))
several_targets l (x ∷ []) h = absurd (omega (arith, h))
several_targets l (x ∷ (y ∷ xs)) h = names_all (x ∷ (y ∷ xs))

pub few_targets : (l : ℕ) (xs : List Expr) → length xs ≤ 1 → false ≡ is_targets (tuple l (trees (map expr_tree xs)) false)
few_targets l [] h = refl
few_targets l (x ∷ []) h = refl
few_targets l (x ∷ (y ∷ xs)) h = absurd (omega (arith, h))
