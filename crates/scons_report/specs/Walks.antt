-- How far a tree is written: the levels that the walk is within, and what is still to be written of them.
use Rattle.std.specs.Prelude.{◌≡◌, ◌≤◌, ◌+◌, ◌-◌, ℕ, Bool, not, true, false, List, [], ◌∷◌, ◌++◌, Result, Ok, Err, length, map, replicate, slice_set}
use Rattle.std.specs.List.{count_by}
use Rattle.scons_base.specs.declared.ids.NodeId.{NodeId}
use Rattle.rule_graph.specs.declared.build_fault.BuildFault.TheVariants as fault
use Rattle.build_files.specs.declared.end.ListEnd.{ListEnd}
use Rattle.build_files.specs.declared.end.ListEnd.TheVariants as look
use Rattle.world_api.specs.Printed.{SinkMeaning}
use Rattle.world_api.specs.Printing.{Prints, PrintsPart, Cuts}
use Rattle.scons_report.specs.declared.tree_end.TreeEnd.{TreeEnd}
use Rattle.scons_report.specs.declared.tree_end.TreeEnd.TheVariants as end
use Rattle.scons_report.specs.declared.tree.Form.{Form}
use Rattle.scons_report.specs.declared.tree.Form.TheVariants.{Leaf, Open, Pruned}
use Rattle.scons_report.specs.declared.tree.Level.{Level}
use Rattle.scons_report.specs.declared.tree.Next.{Next}
use Rattle.scons_report.specs.declared.tree.Walk.{Walk}
use Rattle.scons_report.specs.Trees.{Shown, Written, followed, nothing, piece, row, rows, below, is_last, text_of}

-- nodes side by side that aren't written, and whether the node above them is the last beside its own
pub record Side : Type 0 where
  pub left : List NodeId
  pub under_last : Bool

abbrev pub side : List NodeId → Bool → Side
side left under_last = record { left = left; under_last = under_last }

abbrev pub side_of : Level → Side
side_of level = side level.left.now level.is_under_last

abbrev pub sides_of : Walk → List Side
sides_of walk = map side_of walk.levels.items

-- the margin of the innermost level, behind the one of what stands round these
abbrev pub margin_of : List ℕ → List Side → List ℕ
margin_of margin [] = margin
margin_of margin (s ∷ sides) = margin_of (margin ++ piece s.under_last) sides

-- what is still to be written of some levels, from the outermost on: of the inner ones first
abbrev pub over : Shown → ℕ → List ℕ → List Side → List Bool → Written
over shown depth margin [] marks = nothing marks
over shown depth margin (s ∷ sides) marks =
    followed (over shown (depth - 1) (margin ++ piece s.under_last) sides marks)
    (λ opened. rows shown (below shown depth) (margin ++ piece s.under_last) opened s.left)

-- what is still to be written in a walk over a tree that is so deep at most
abbrev pub remaining : Shown → ℕ → Walk → Written
remaining shown depth walk = over shown depth [] (sides_of walk) walk.is_open.items

abbrev pub text_left : Shown → ℕ → Walk → List ℕ
text_left shown depth walk = text_of (remaining shown depth walk).lines

-- a node of the innermost level is next, and what is still to be written of the walk stands behind it
abbrev pub with_next : Shown → ℕ → Next → Walk → Written
with_next shown depth next walk =
    followed (row shown (below shown (depth + 1 - length (sides_of walk))) (margin_of [] (sides_of walk)) next.is_last next.node walk.is_open.items)
    (λ opened. over shown depth [] (sides_of walk) opened)

-- the next node was taken off a level, behind further levels
pub record Takes (old new : Walk) (next : Next) : Type 0 where
  pub front : List Side
  pub rest : List NodeId
  pub under_last : Bool
  pub after : sides_of new ≡ front ++ side rest under_last ∷ []
  pub before : (shown : Shown) (depth : ℕ) (margin : List ℕ) (marks : List Bool) →
      over shown depth margin (sides_of old) marks ≡ over shown depth margin (front ++ side (next.node ∷ rest) under_last ∷ []) marks
  pub last : next.is_last ≡ is_last rest
  pub fewer : length (sides_of new) ≤ length (sides_of old)
  pub marks : new.is_open ≡ old.is_open

-- nothing is left of a walk
pub record IsOver (old : Walk) : Type 0 where
  pub nothing_left : (shown : Shown) (depth : ℕ) (margin : List ℕ) (marks : List Bool) → over shown depth margin (sides_of old) marks ≡ nothing marks

-- there is room for as many levels as nodes that don't stand with their children yet, and for the outermost one
pub record IsWithin (nodes : ℕ) (walk : Walk) : Type 0 where
  pub marks : length walk.is_open.items ≡ nodes
  pub deep : length (sides_of walk) + count_by not walk.is_open.items ≤ nodes + 1

-- a walk begins at these
pub record IsBegun (nodes : ℕ) (children : List NodeId) (walk : Walk) : Type 0 where
  pub sides : sides_of walk ≡ side children true ∷ []
  pub marks : walk.is_open.items ≡ replicate nodes false

-- below a node that stands with its children these are next, and nothing else has changed
abbrev pub GoesBelow : Form → Walk → Walk → Next → List NodeId → Type 0
GoesBelow Leaf old new next children = (sides_of new ≡ sides_of old) × (new.is_open ≡ old.is_open)
GoesBelow Pruned old new next children = (sides_of new ≡ sides_of old) × (new.is_open ≡ old.is_open)
GoesBelow Open old new next children =
    (sides_of new ≡ sides_of old ++ side children next.is_last ∷ []) × (new.is_open.items ≡ slice_set old.is_open.items next.node.0 true)

-- A text is printed. Where the sink refuses, or memory is wanting, a front of it stands printed.
abbrev pub PrintsTree : {O T : Type 0} → SinkMeaning O → List ℕ → O → O → Result T TreeEnd → Type 0
PrintsTree m text old new (Ok value) = Prints m old new text
PrintsTree m text old new (Err (end.Fault fault.OutFault)) = Cuts m old new text
PrintsTree m text old new (Err (end.Fault other)) = ⊥
PrintsTree m text old new (Err end.Memory) = PrintsPart m old new text

-- the line of the next node is printed, and what is still to be written then is what the walk has left
pub record WritesLine {O : Type 0} (m : SinkMeaning O) (whole : List ℕ) (old new : O) (left : List ℕ) : Type 0 where
  pub line : List ℕ
  pub parts : whole ≡ line ++ left
  pub prints : Prints m old new line

abbrev pub WritesBy : {O T : Type 0} → SinkMeaning O → List ℕ → List ℕ → O → O → Result T TreeEnd → Type 0
WritesBy m whole left old new (Ok value) = WritesLine m whole old new left
WritesBy {T = T} m whole left old new (Err e) = PrintsTree {T = T} m whole old new (Err e)

-- So it is of a walk over a tree that is so deep at most, unless it ends there.
abbrev pub Writes : {O T : Type 0} → SinkMeaning O → Shown → ℕ → Next → Walk → Walk → O → O → Result T TreeEnd → Type 0
Writes m shown depth next before after old new result =
    WritesBy m (text_of (with_next shown depth next before).lines) (text_left shown depth after) old new result

-- what ends a look ends a tree
abbrev pub tree_end_of : ListEnd → TreeEnd
tree_end_of (look.Fault fault) = end.Fault fault
tree_end_of look.Memory = end.Memory
