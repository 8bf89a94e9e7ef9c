-- A walk over a tree writes the tree's lines.
use Rattle.std.proofs.Common.{◌≡◌, ◌∙◌, ◌<◌, ◌≤◌, ℕ, zero, suc, ◌+◌, ◌-◌, Bool, true, false, cond, not, List, [], ◌∷◌, ◌++◌, length, get_or, take, drop, map, replicate, Some, None, Option, refl, sym, ap, subst, append_assoc, append-nil, arith, length-append}
use Rattle.std.specs.Prelude.{nat_eq, slice_set, MatchOption}
use Rattle.std.specs.List.{count_by}
use Rattle.std.proofs.Math.Nat.{sub-zero}
use Rattle.std.proofs.Math.Seq.{take-length}
use Rattle.std.proofs.lemmas.Bool.Decides.{nat_tests}
use Rattle.std.proofs.lemmas.List.{length-set, map-append}
use Rattle.std.proofs.lemmas.List.Sums.{sum_by-set}
use Rattle.std.proofs.lemmas.List.Folds.{sum_by-replicate}
use Rattle.scons_base.specs.declared.ids.NodeId.{NodeId}
use Rattle.rule_graph.specs.Graphs.{path_of}
use Rattle.report_texts.specs.Texts.{line_text}
use Rattle.scons_report.specs.declared.tree.Form.{Form}
use Rattle.scons_report.specs.declared.tree.Form.TheVariants.{Leaf, Open, Pruned}
use Rattle.scons_report.specs.declared.tree.Level.{Level}
use Rattle.scons_report.specs.declared.tree.Next.{Next}
use Rattle.scons_report.specs.declared.tree.Walk.{Walk}
use Rattle.scons_report.specs.Trees.{Shown, Written, Writer, followed, nothing, piece, row, row_by, row_text, name_text, form_of, rows, below, is_last, text_of, tree_text}
use Rattle.scons_report.specs.Walks.{Side, side, side_of, sides_of, margin_of, over, remaining, text_left, with_next, Takes, IsOver, IsWithin, IsBegun, GoesBelow}

same_lines : (a b : Written) → a.lines ≡ b.lines → a.open_nodes ≡ b.open_nodes → a ≡ b
same_lines a b p q =
    let by_lines : List (List ℕ) → Written = λ ls. record { lines = ls; open_nodes = a.open_nodes } in
    let by_marks : List Bool → Written = λ m. record { lines = b.lines; open_nodes = m } in
    ap by_lines p ∙ ap by_marks q

followed_nothing : (a : Written) → followed a nothing ≡ a
followed_nothing a = same_lines (followed a nothing) a (append-nil a.lines) refl

followed_assoc : (a : Written) (f g : List Bool → Written) → followed (followed a f) g ≡ followed a (λ m. followed (f m) g)
followed_assoc a f g = same_lines _ _ (append_assoc a.lines (f a.open_nodes).lines (g (f a.open_nodes).open_nodes).lines) refl

-- what follows counts only as far as it follows these
followed_same : (a : Written) (f g : List Bool → Written) → f a.open_nodes ≡ g a.open_nodes → followed a f ≡ followed a g
followed_same a f g e = same_lines _ _ (ap (λ (w : Written). a.lines ++ w.lines) e) (ap (λ (w : Written). w.open_nodes) e)

pub margin_push : (margin : List ℕ) (sides : List Side) (s : Side) → margin_of margin (sides ++ s ∷ []) ≡ margin_of margin sides ++ piece s.under_last
margin_push margin [] s = refl
margin_push margin (t ∷ sides) s = margin_push (margin ++ piece t.under_last) sides s

-- what stands on the innermost level is written before all else
over_push : (shown : Shown) (depth : ℕ) (margin : List ℕ) (sides : List Side) (s : Side) (marks : List Bool) →
    over shown depth margin (sides ++ s ∷ []) marks
    ≡ followed (rows shown (below shown (depth - length sides)) (margin_of margin (sides ++ s ∷ [])) marks s.left) (λ opened. over shown depth margin sides opened)
over_push shown depth margin [] s marks =
    let deep : depth - 0 ≡ depth = sub-zero depth in
    rw deep (sym (followed_nothing (rows shown (below shown depth) (margin ++ piece s.under_last) marks s.left)))
over_push shown depth margin (t ∷ sides) s marks =
    let last : List Bool → Written = λ opened. rows shown (below shown depth) (margin ++ piece t.under_last) opened t.left in
    let inner = margin ++ piece t.under_last in
    let deep : depth - 1 - length sides ≡ depth - suc (length sides) = omega arith in
    let first = over_push shown (depth - 1) inner sides s marks in
    ap (λ (w : Written). followed w last) first
    ∙ (followed_assoc (rows shown (below shown (depth - 1 - length sides)) (margin_of inner (sides ++ s ∷ [])) marks s.left) (λ opened. over shown (depth - 1) inner sides opened) last
    ∙ ap (λ (d : ℕ). followed (rows shown (below shown d) (margin_of inner (sides ++ s ∷ [])) marks s.left) (λ opened. followed (over shown (depth - 1) inner sides opened) last)) deep)

length_push : (sides : List Side) (s : Side) → length (sides ++ s ∷ []) ≡ suc (length sides)
length_push sides s = omega (arith, length-append {A = Side})

-- what is left once a node was taken is the node and what is left behind it
module _ (shown : Shown) (depth : ℕ) (old new : Walk) (next : Next) (t : Takes old new next) where
  taken_here : remaining shown depth old ≡ with_next shown depth next new
  taken_here =
      let n = next.node in
      let before = t.front ++ side (n ∷ t.rest) t.under_last ∷ [] in
      let after = t.front ++ side t.rest t.under_last ∷ [] in
      let marks = new.is_open.items in
      let writer = below shown (depth - length t.front) in
      let same : old.is_open.items ≡ marks = ap (λ v. v.items) (sym t.marks) in
      let margin : margin_of [] before ≡ margin_of [] after = margin_push [] t.front (side (n ∷ t.rest) t.under_last) ∙ sym (margin_push [] t.front (side t.rest t.under_last)) in
      let tail : List Bool → Written = λ opened. over shown depth [] t.front opened in
      let first = t.before shown depth [] old.is_open.items ∙ ap (λ (m : List Bool). over shown depth [] before m) same in
      let push = over_push shown depth [] t.front (side (n ∷ t.rest) t.under_last) marks in
      let moved = ap (λ (m : List ℕ). followed (rows shown writer m marks (n ∷ t.rest)) tail) margin in
      let split = followed_assoc (row shown writer (margin_of [] after) (is_last t.rest) n marks) (λ opened. rows shown writer (margin_of [] after) opened t.rest) tail in
      let head = row shown writer (margin_of [] after) (is_last t.rest) n marks in
      let joined = followed_same head (λ m. followed (rows shown writer (margin_of [] after) m t.rest) tail) (λ m. over shown depth [] after m)
      (sym (over_push shown depth [] t.front (side t.rest t.under_last) head.open_nodes)) in
      let whole = first ∙ (push ∙ (moved ∙ (split ∙ joined))) in
      let count : length (sides_of new) ≡ suc (length t.front) = ap length t.after ∙ length_push t.front (side t.rest t.under_last) in
      let deep : depth + 1 - length (sides_of new) ≡ depth - length t.front = omega arith in
      rw (deep, t.after, t.last) whole

pub taken : (shown : Shown) (depth : ℕ) (old new : Walk) (next : Next) → Takes old new next → text_left shown depth old ≡ text_of (with_next shown depth next new).lines
taken shown depth old new next t = ap (λ (w : Written). text_of w.lines) (taken_here shown depth old new next t)

-- the line of the next node stands first
pub record Leads (line whole : List ℕ) : Type 0 where
  pub more : List ℕ
  pub parts : whole ≡ line ++ more

-- a node's line stands first, whatever stands below it and behind it
row_leads : (form : Form) (shown : Shown) (writer : Writer) (margin : List ℕ) (last : Bool) (n : NodeId) (marks : List Bool) (rest : List Bool → Written) →
    Leads (line_text (row_text margin (name_text form (path_of shown.nodes n)))) (text_of (followed (row_by form shown writer margin last n marks) rest).lines)
row_leads Leaf shown writer margin last n marks rest = record { more = text_of (rest marks).lines; parts = refl }
row_leads Pruned shown writer margin last n marks rest = record { more = text_of (rest marks).lines; parts = refl }
row_leads Open shown writer margin last n marks rest =
    let under = writer (margin ++ piece last) (slice_set marks n.0 true) (shown.children n) in
    record { more = text_of (under.lines ++ (rest under.open_nodes).lines); parts = refl }

-- a node that stands with its children didn't before
open_new : (children : List NodeId) (was_open : Bool) → form_of children was_open ≡ Open → was_open ≡ false
open_new [] was_open e = cc
open_new (n ∷ children) true e = cc
open_new (n ∷ children) false e = refl

-- one node less doesn't stand with its children
count_open : (marks : List Bool) (n : ℕ) → n < length marks → get_or marks n false ≡ false → count_by not (slice_set marks n true) + 1 ≡ count_by not marks
count_open marks n lt e =
    let f : Bool → ℕ = λ x. cond (not x) 1 0 in
    let h = sum_by-set f marks n true false lt in
    let one : f (get_or marks n false) ≡ 1 = ap f e in
    omega (arith, h, one)

count_none : (n : ℕ) → count_by not (replicate n false) ≡ n
count_none n = omega (arith, sum_by-replicate (λ x. cond (not x) 1 0) n false)

within_new : (nodes : ℕ) (old new : Walk) → IsWithin nodes old → sides_of new ≡ sides_of old → new.is_open ≡ old.is_open → IsWithin nodes new
within_new nodes old new w s m = record {
  marks = rw m w.marks;
  deep = rw (s, m) w.deep;
}

-- what is left is the same
left_new : (shown : Shown) (nodes : ℕ) (old new : Walk) → sides_of new ≡ sides_of old → new.is_open ≡ old.is_open → remaining shown nodes new ≡ remaining shown nodes old
left_new shown nodes old new s m = rw (s, m) refl

module _ (shown : Shown) (nodes : ℕ) (old new : Walk) (next : Next) (w : IsWithin nodes old) (lt : next.node.0 < nodes) where
  abbrev line : Form → List ℕ
  line form = line_text (row_text (margin_of [] (sides_of old)) (name_text form (path_of shown.nodes next.node)))

  -- what is next and behind it, where the node stands so
  abbrev as_form : Form → Written
  as_form form =
      followed (row_by form shown (below shown (nodes + 1 - length (sides_of old))) (margin_of [] (sides_of old)) next.is_last next.node old.is_open.items)
      (λ opened. over shown nodes [] (sides_of old) opened)

  still_by : (form : Form) → form ≡ form_of (shown.children next.node) (get_or old.is_open.items next.node.0 false)
      → GoesBelow form old new next (shown.children next.node) → IsWithin nodes new
  still_by Leaf is g = within_new nodes old new w g.0 g.1
  still_by Pruned is g = within_new nodes old new w g.0 g.1
  still_by Open is g =
      let marks = old.is_open.items in
      let n = next.node.0 in
      let here : n < length marks = rw w.marks lt in
      let closed : get_or marks n false ≡ false = open_new (shown.children next.node) (get_or marks n false) (sym is) in
      let count = count_open marks n here closed in
      let longer : length (sides_of new) ≡ suc (length (sides_of old)) = ap length g.0 ∙ length_push (sides_of old) (side (shown.children next.node) next.is_last) in
      let fewer : count_by not new.is_open.items ≡ count_by not (slice_set marks n true) = ap (λ (m : List Bool). count_by not m) g.1 in
      let deep = w.deep in
      let long : length new.is_open.items ≡ length marks = ap length g.1 ∙ length-set marks n true in
      record { marks = long ∙ w.marks; deep = omega (arith, count, longer, fewer, deep) }

  goes_by : (form : Form) → form ≡ form_of (shown.children next.node) (get_or old.is_open.items next.node.0 false)
      → GoesBelow form old new next (shown.children next.node) → text_of (as_form form).lines ≡ line form ++ text_left shown nodes new
  goes_by Leaf is g = ap (λ (x : Written). line Leaf ++ text_of x.lines) (sym (left_new shown nodes old new g.0 g.1))
  goes_by Pruned is g = ap (λ (x : Written). line Pruned ++ text_of x.lines) (sym (left_new shown nodes old new g.0 g.1))
  goes_by Open is g =
      let marks = old.is_open.items in
      let n = next.node.0 in
      let sides = sides_of old in
      let opened = slice_set marks n true in
      let children = shown.children next.node in
      let here : n < length marks = rw w.marks lt in
      let closed : get_or marks n false ≡ false = open_new children (get_or marks n false) (sym is) in
      let count = count_open marks n here closed in
      let deep = w.deep in
      let room : nodes + 1 - length sides ≡ suc (nodes - length sides) = omega (arith, count, deep) in
      let margin = margin_of [] sides ++ piece next.is_last in
      let tail : List Bool → Written = λ m. over shown nodes [] sides m in
      let first : below shown (nodes + 1 - length sides) margin opened children ≡ rows shown (below shown (nodes - length sides)) margin opened children =
      ap (λ (d : ℕ). below shown d margin opened children) room in
      let pushed : remaining shown nodes new ≡ followed (rows shown (below shown (nodes - length sides)) margin opened children) tail =
      ap (λ (s : List Side). over shown nodes [] s new.is_open.items) g.0
      ∙ (ap (λ (m : List Bool). over shown nodes [] (sides ++ side children next.is_last ∷ []) m) g.1
      ∙ (over_push shown nodes [] sides (side children next.is_last) opened
      ∙ ap (λ (m : List ℕ). followed (rows shown (below shown (nodes - length sides)) m opened children) tail) (margin_push [] sides (side children next.is_last)))) in
      ap (λ (x : Written). line Open ++ text_of (followed x tail).lines) first ∙ ap (λ (x : Written). line Open ++ text_of x.lines) (sym pushed)

-- What is next and behind it is its line, and what is left once its children are next.
module _ (shown : Shown) (nodes : ℕ) (old new : Walk) (next : Next) (form : Form)
    (is : form ≡ form_of (shown.children next.node) (get_or old.is_open.items next.node.0 false)) (w : IsWithin nodes old) (lt : next.node.0 < nodes) where
  pub leads : Leads (line_text (row_text (margin_of [] (sides_of old)) (name_text form (path_of shown.nodes next.node)))) (text_of (with_next shown nodes next old).lines)
  leads =
      let first = row_leads form shown (below shown (nodes + 1 - length (sides_of old))) (margin_of [] (sides_of old)) next.is_last next.node old.is_open.items (λ opened. over shown nodes [] (sides_of old) opened) in
      subst (λ (f : Form). Leads (line_text (row_text (margin_of [] (sides_of old)) (name_text form (path_of shown.nodes next.node)))) (text_of (as_form shown nodes old new next w lt f).lines)) is first

  pub goes : GoesBelow form old new next (shown.children next.node) →
      text_of (with_next shown nodes next old).lines
      ≡ line_text (row_text (margin_of [] (sides_of old)) (name_text form (path_of shown.nodes next.node))) ++ text_left shown nodes new
  goes g = sym (ap (λ (f : Form). text_of (as_form shown nodes old new next w lt f).lines) is) ∙ goes_by shown nodes old new next w lt form is g

  pub still : GoesBelow form old new next (shown.children next.node) → IsWithin nodes new
  still g = still_by shown nodes old new next w lt form is g

-- as a walk begins it has room, and all that stands below the word is left
pub begun_within : (nodes : ℕ) (children : List NodeId) (walk : Walk) → IsBegun nodes children walk → IsWithin nodes walk
begun_within nodes children walk b = record {
  marks = rw b.marks (length_none nodes);
  deep =
      let one : length (sides_of walk) ≡ 1 = ap length b.sides in
      let all : count_by not walk.is_open.items ≡ nodes = ap (λ (m : List Bool). count_by not m) b.marks ∙ count_none nodes in
      omega (arith, one, all);
}
  where
    length_none : (n : ℕ) → length (replicate n false) ≡ n
    length_none zero = refl
    length_none (suc n) = ap suc (length_none n)

pub begun_left : (shown : Shown) (word : List ℕ) (children : List NodeId) (walk : Walk) → IsBegun (length shown.nodes) children walk →
    tree_text shown word children ≡ line_text (row_text [] word) ++ text_left shown (length shown.nodes) walk
begun_left shown word children walk b =
    let nodes = length shown.nodes in
    let left : remaining shown nodes walk ≡ rows shown (below shown nodes) (piece true) (replicate nodes false) children =
    ap (λ (s : List Side). over shown nodes [] s walk.is_open.items) b.sides
    ∙ ap (λ (m : List Bool). over shown nodes [] (side children true ∷ []) m) b.marks in
    ap (λ (x : Written). line_text (row_text [] word) ++ text_of x.lines) (sym left)

-- nothing is left
pub over_left : (shown : Shown) (nodes : ℕ) (walk : Walk) → IsOver walk → text_left shown nodes walk ≡ []
over_left shown nodes walk o = ap (λ (x : Written). text_of x.lines) (o.nothing_left shown nodes [] walk.is_open.items)

-- ---- the next node

module _ (old new : List Level) (level : Level) (is : old ≡ new ++ level ∷ []) where
  sides_push : map side_of old ≡ map side_of new ++ side_of level ∷ []
  sides_push = ap (λ (ls : List Level). map side_of ls) is ∙ map-append side_of new (level ∷ [])

-- what a slice's length says of it
pub none_of : {A : Type 0} (xs : List A) → length xs < 1 → xs ≡ []
none_of [] h = refl
none_of (x ∷ xs) h = absurd (omega arith)

-- all that stands behind the first
pub cons_of : {A : Type 0} (d : A) (xs : List A) → 1 ≤ length xs → xs ≡ get_or xs 0 d ∷ take (length xs - 1) (drop 1 xs)
cons_of d [] h = absurd (omega arith)
cons_of {A = A} d (x ∷ xs) h =
    let all : suc (length xs) - 1 ≡ length xs = omega arith in
    ap (λ (ys : List A). x ∷ ys) (sym (ap (λ (n : ℕ). take n xs) all ∙ take-length xs))

not_none : (n : ℕ) → nat_eq (suc n) 0 ≡ false
not_none n = grind (arith, nat_tests)

pub last_of : (rest : List NodeId) → nat_eq (length rest) 0 ≡ is_last rest
last_of [] = refl
last_of (n ∷ rest) = not_none (length rest)

-- a level with nothing left is nothing
pub dropped : (old new : List Level) (level : Level) → old ≡ new ++ level ∷ [] → level.left.now ≡ [] →
    (shown : Shown) (depth : ℕ) (margin : List ℕ) (marks : List Bool) → over shown depth margin (map side_of old) marks ≡ over shown depth margin (map side_of new) marks
dropped old new level is empty shown depth margin marks =
    let sides = map side_of new in
    ap (λ (s : List Side). over shown depth margin s marks) (sides_push old new level is)
    ∙ (over_push shown depth margin sides (side_of level) marks
    ∙ ap (λ (left : List NodeId). followed (rows shown (below shown (depth - length sides)) (margin_of margin (sides ++ side_of level ∷ [])) marks left) (λ opened. over shown depth margin sides opened)) empty)

pub fewer_dropped : (old new : List Level) (level : Level) → old ≡ new ++ level ∷ [] → length (map side_of new) ≤ length (map side_of old)
fewer_dropped old new level is =
    let more = ap length (sides_push old new level is) ∙ length_push (map side_of new) (side_of level) in
    omega (arith, more)

-- a node is taken off the innermost level
pub takes : (first old new : Walk) (mid : List Level) (level last : Level) (n : NodeId) (rest : List NodeId) (next : Next) →
    ((shown : Shown) (depth : ℕ) (margin : List ℕ) (marks : List Bool) → over shown depth margin (sides_of first) marks ≡ over shown depth margin (sides_of old) marks) →
    length (sides_of old) ≤ length (sides_of first) → old.is_open ≡ first.is_open →
    old.levels.items ≡ mid ++ level ∷ [] → level.left.now ≡ n ∷ rest → new.levels.items ≡ mid ++ last ∷ [] →
    last.left.now ≡ rest → last.is_under_last ≡ level.is_under_last → next.node ≡ n → next.is_last ≡ is_last rest → new.is_open ≡ old.is_open → Takes first new next
takes first old new mid level last n rest next same fewer marks popped left pushed left2 under node lasts marks2 =
    let sides = map side_of mid in
    let side_new : side_of last ≡ side rest level.is_under_last = rw (left2, under) refl in
    let side_old : side_of level ≡ side (next.node ∷ rest) level.is_under_last = rw (left, node) refl in
    let after = sides_push new.levels.items mid last pushed ∙ ap (λ (s : Side). sides ++ s ∷ []) side_new in
    let here = sides_push old.levels.items mid level popped ∙ ap (λ (s : Side). sides ++ s ∷ []) side_old in
    let count_new = ap length after ∙ length_push sides (side rest level.is_under_last) in
    let count_old = ap length here ∙ length_push sides (side (next.node ∷ rest) level.is_under_last) in
    record {
      front = sides;
      rest = rest;
      under_last = level.is_under_last;
      after = after;
      before = λ shown depth margin m. same shown depth margin m ∙ ap (λ (s : List Side). over shown depth margin s m) here;
      last = lasts;
      fewer = omega (arith, count_new, count_old, fewer);
      marks = marks2 ∙ marks;
    }

pub takes_some : (old new : Walk) (o : Option Next) (next : Next) → o ≡ Some next → MatchOption o (IsOver old) (Takes old new) → Takes old new next
takes_some old new o next is h = subst (λ (x : Option Next). MatchOption x (IsOver old) (Takes old new)) is h

pub over_none : (old new : Walk) (o : Option Next) → o ≡ None → MatchOption o (IsOver old) (Takes old new) → IsOver old
over_none old new o is h = subst (λ (x : Option Next). MatchOption x (IsOver old) (Takes old new)) is h

pub take_within : (nodes : ℕ) (old new : Walk) (next : Next) → Takes old new next → IsWithin nodes old → IsWithin nodes new
take_within nodes old new next t w =
    let fewer = t.fewer in
    let deep = w.deep in
    record {
      marks = rw t.marks w.marks;
      deep = let same : count_by not new.is_open.items ≡ count_by not old.is_open.items = rw t.marks refl in omega (arith, fewer, deep, same);
    }

pub take_inner : (old new : Walk) (next : Next) → Takes old new next → 0 < length (sides_of new)
take_inner old new next t =
    let count = ap length t.after ∙ length_push t.front (side t.rest t.under_last) in
    omega (arith, count)
