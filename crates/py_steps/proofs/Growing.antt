-- What is made of texts and fields that are put behind one another.
use Rattle.std.proofs.Common.{◌≡◌, ◌∙◌, ℕ, false, List, [], ◌∷◌, ◌++◌, Ok, Err, Result, ap, sym, refl, subst, length, drop, map, get_or, ◌<◌, ◌+◌, suc-ne-zero}
use Rattle.std.proofs.lemmas.List.{append_assoc, append-nil}
use Rattle.scons_base.specs.declared.limits.TheConstants.{TEXT_LIMIT}
use Rattle.py_tree.specs.Tree.{Tree, cons, text, field, trees, piece_tree, expr_tree}
use Rattle.py_tree.specs.declared.expr.Piece.{Piece}
use Rattle.py_tree.specs.declared.expr.Piece.TheVariants as piece'
use Rattle.py_tree.specs.declared.expr.Expr.{Expr}
use Rattle.py_tree.proofs.Views.{piece_tree-Part, piece_tree-Field}
use Rattle.py_heap.specs.declared.value.Value.{Value}
use Rattle.py_heap.specs.declared.fault.ValueFault.{ValueFault}
use Rattle.py_heap.specs.Heap.{Objects, with_text}
use Rattle.py_heap.specs.Given.{next_text}
use Rattle.py_heap.specs.Units.{Units, room, limited}
use Rattle.py_compare.specs.Growing.{Growth, not_begun, grown, whole_of}
use Rattle.py_compare.specs.Outcomes.{then_by}
use Rattle.py_compare.specs.Showing.{show_of}
use Rattle.py_compare.proofs.Growths.{grow, grow-behind, grow_nothing, whole-grow}
use Rattle.py_meaning.specs.Joined.{shown_field, characters_in, text_of, joined_text}
use Rattle.py_state.proofs.LocalTurns.{trees_first}
use Rattle.py_steps.specs.Growths.{put_pieces}
use Rattle.py_steps.proofs.Displays.{no_room, within}

-- one piece at the front of what is put behind a text
one_put : (h : Objects) (t more : List ℕ) (ps : Tree) (xs : List Value) →
    put_pieces h (grow (t ++ more)) ps xs ≡ grow ((t ++ more) ++ characters_in h ps xs) → put_pieces h (grown (grow t) more) ps xs ≡ grow (t ++ (more ++ characters_in h ps xs))
one_put h t more ps xs e =
    ap (λ g. put_pieces h g ps xs) (sym (grow-behind t more)) ∙ e ∙ ap grow (append_assoc t more (characters_in h ps xs))

put_all : (h : Objects) (t : List ℕ) (ps : Tree) (xs : List Value) → put_pieces h (grow t) ps xs ≡ grow (t ++ characters_in h ps xs)
put_all h t (cons (field l e) ps) (x ∷ xs) = one_put h t (text_of h x) ps xs (put_all h (t ++ text_of h x) ps xs)
put_all h t (cons (field l e) ps) [] = one_put h t [] ps [] (put_all h (t ++ []) ps [])
put_all h t (cons (text l s) ps) xs = one_put h t s ps xs (put_all h (t ++ s) ps xs)
put_all h t (cons other ps) xs = put_all h t ps xs
put_all h t other xs = ap grow (sym (append-nil t))

module _ (h : Objects) (u : Units) (ps : Tree) (xs : List Value) (g : Growth) (grew : g ≡ put_pieces h not_begun ps xs) where
  is_grown : g ≡ grow (characters_in h ps xs)
  is_grown = grew ∙ ap (λ k. put_pieces h k ps xs) (sym grow_nothing) ∙ put_all h [] ps xs

  told : (r : Result (List ℕ) ValueFault) → whole_of g ≡ r → limited TEXT_LIMIT (length (characters_in h ps xs)) (characters_in h ps xs) ≡ r
  told r e = sym (whole-grow (characters_in h ps xs)) ∙ ap whole_of (sym is_grown) ∙ e

  unmade : (e : ValueFault) → room TEXT_LIMIT u (length (characters_in h ps xs)) ≡ Err e → joined_text h u ps xs ≡ Err e
  unmade e r = rw r refl

  pub joined_too_big : (e : ValueFault) → whole_of g ≡ Err e → joined_text h u ps xs ≡ Err e
  joined_too_big e w = unmade e (no_room TEXT_LIMIT (length (characters_in h ps xs)) (characters_in h ps xs) u e (told (Err e) w))

  module _ (t : List ℕ) (whole : whole_of g ≡ Ok t) where
    is_text : characters_in h ps xs ≡ t
    is_text = within TEXT_LIMIT (length (characters_in h ps xs)) (characters_in h ps xs) t (told (Ok t) whole)

    pub joined_unpaid : (e : ValueFault) → room TEXT_LIMIT u (length t) ≡ Err e → joined_text h u ps xs ≡ Err e
    joined_unpaid e r = unmade e (ap (λ (s : List ℕ). room TEXT_LIMIT u (length s)) is_text ∙ r)

    pub joined_made : (h1 : Objects) (x : Value) (left : Units) → room TEXT_LIMIT u (length t) ≡ Ok left → x ≡ next_text h → h1 ≡ with_text h t → joined_text h u ps xs ≡ Ok (x, h1, left)
    joined_made h1 x left r a b =
        let paid : room TEXT_LIMIT u (length (characters_in h ps xs)) ≡ Ok left = ap (λ (s : List ℕ). room TEXT_LIMIT u (length s)) is_text ∙ r in
        rw (paid, a, b, is_text) refl

-- a piece is put, and those behind it come
pub pieces_turn : (h : Objects) (ps : List Piece) (i : ℕ) (p : Piece) (g g' whole : Growth) (chars : List ℕ) (xs left : List Value) → i < length ps → p ≡ get_or ps i p →
    put_pieces h g (trees (map piece_tree (drop i ps))) xs ≡ whole → g' ≡ grown g chars →
    ((k : Growth) (more : Tree) → put_pieces h k (cons (piece_tree p) more) xs ≡ put_pieces h (grown k chars) more left) →
    put_pieces h g' (trees (map piece_tree (drop (i + 1) ps))) left ≡ whole
pieces_turn h ps i p g g' whole chars xs left l e w put f =
    let more = trees (map piece_tree (drop (i + 1) ps)) in
    ap (λ k. put_pieces h k more left) put ∙ sym (f g more) ∙ ap (λ t. put_pieces h g t xs) (sym (trees_first piece_tree ps i p l e)) ∙ w

-- a field's text
pub shown_made : (h h1 : Objects) (u left : Units) (x y : Value) (t : List ℕ) → show_of h u x false ≡ Ok (t, left) → y ≡ next_text h → h1 ≡ with_text h t → shown_field h u x ≡ Ok (y, h1, left)
shown_made h h1 u left x y t e a b = rw (e, a, b) refl

pub not_shown : (h : Objects) (u : Units) (x : Value) (e : ValueFault) → show_of h u x false ≡ Err e → shown_field h u x ≡ Err e
not_shown h u x e r = rw r refl

-- the characters of one piece
pub part_put : (h : Objects) (p : Piece) (l : ℕ) (t s : List ℕ) (xs : List Value) → p ≡ piece'.Part l t → s ≡ t → (g : Growth) (ps : Tree) → put_pieces h g (cons (piece_tree p) ps) xs ≡ put_pieces h (grown g s) ps xs
part_put h p l t s xs i e g ps =
    ap (λ (u : Tree). put_pieces h g (cons u ps) xs) (ap piece_tree i ∙ piece_tree-Part l t) ∙ ap (λ (c : List ℕ). put_pieces h (grown g c) ps xs) (sym e)

pub field_put : (h : Objects) (p : Piece) (l : ℕ) (e : Expr) (x : Value) (s : List ℕ) (xs rest : List Value) → p ≡ piece'.Field l e → xs ≡ x ∷ rest → s ≡ text_of h x → (g : Growth) (ps : Tree) → put_pieces h g (cons (piece_tree p) ps) xs ≡ put_pieces h (grown g s) ps rest
field_put h p l e x s xs rest i f q g ps =
    ap (λ (u : Tree). put_pieces h g (cons u ps) xs) (ap piece_tree i ∙ piece_tree-Field l e) ∙ ap (λ (ys : List Value). put_pieces h g (cons (field l (expr_tree e)) ps) ys) f
    ∙ ap (λ (c : List ℕ). put_pieces h (grown g c) ps rest) (sym q)

pub no_field_put : (h : Objects) (p : Piece) (l : ℕ) (e : Expr) (xs : List Value) → p ≡ piece'.Field l e → length xs ≡ 0 → (g : Growth) (ps : Tree) → put_pieces h g (cons (piece_tree p) ps) xs ≡ put_pieces h (grown g []) ps xs
no_field_put h p l e [] i z g ps = ap (λ (u : Tree). put_pieces h g (cons u ps) []) (ap piece_tree i ∙ piece_tree-Field l e)
no_field_put h p l e (x ∷ xs) i z g ps = absurd (suc-ne-zero _ z)
