-- Which rules were looked at, and which files were looked for: where a rule is looked at, so are the copy rules of all that it names.
use Rattle.std.specs.Prelude.{◌≡◌, ◌≢◌, ◌<◌, ◌⊎◌, ◌++◌, ℕ, Bool, true, false, not, List, [], Some, None, length, slice_get, get_or, nat_eq}
use Rattle.std.specs.List.{list_any}
use Rattle.scons_base.specs.declared.ids.NodeId.{NodeId}
use Rattle.scons_base.specs.declared.ids.RuleId.{RuleId}
use Rattle.variant_dirs.specs.declared.variants.Variant.{Variant}
use Rattle.rule_graph.specs.declared.rule.Rule.{Rule}
use Rattle.rule_graph.specs.Graphs.{RuleGraph}
use Rattle.rule_graph.specs.Rules.{rule_of}
use Rattle.build_means.specs.Rules.{keeps_sources}
use Rattle.build_files.specs.Seen.{seen_at}
use Rattle.build_files.specs.declared.inputs.Inputs.{Inputs}

-- whether a node stands among these
abbrev pub is_among : List NodeId → NodeId → Bool
is_among nodes n = list_any (λ m. nat_eq n.0 m.0) nodes

-- whether the rule of this number stands among these
abbrev pub is_listed : List RuleId → ℕ → Bool
is_listed rules number = list_any (λ r. nat_eq number r.0) rules

-- whether the rule of this number was looked at
abbrev pub is_marked : Inputs → ℕ → Bool
is_marked inputs number = get_or inputs.looked_at.items number false

-- whether the copy rule of the file of this number was looked for
abbrev pub was_settled : Inputs → ℕ → Bool
was_settled inputs node = (seen_at inputs.files.seen.items node).is_settled

-- whether some variant directory has copies
abbrev pub copies_somewhere : RuleGraph → Bool
copies_somewhere g = list_any (λ (v : Variant). v.duplicate) g.variants

-- A rule names a file: it requires it, or has it among its sources, what it depends on or its libraries, and doesn't ignore it. The
-- sources of a rule that copies or writes count though they are ignored.
pub data IsNamedBy (of : Rule) (n : NodeId) : Type 0 where
  is_required : is_among of.required n ≡ true → IsNamedBy of n
  is_source : is_among of.sources n ≡ true → (keeps_sources of.work ≡ true) ⊎ (is_among of.ignored n ≡ false) → IsNamedBy of n
  is_needed : is_among of.depends n ≡ true → is_among of.ignored n ≡ false → IsNamedBy of n
  is_library : is_among of.libs n ≡ true → is_among of.ignored n ≡ false → IsNamedBy of n

-- A file was looked for: its rule was looked at, or it has none and is settled.
pub record IsSought (g : RuleGraph) (inputs : Inputs) (n : NodeId) : Type 0 where
  pub marked : (number : ℕ) → rule_of g.rules n.0 ≡ Some number → is_marked inputs number ≡ true
  pub settled : rule_of g.rules n.0 ≡ None → was_settled inputs n.0 ≡ true

-- so it is of each of these
abbrev pub AreAllSought : RuleGraph → Inputs → List NodeId → Type 0
AreAllSought g inputs nodes = (n : NodeId) → is_among nodes n ≡ true → IsSought g inputs n

-- of each where some variant directory has copies; else no file has a copy rule, and none is looked for
abbrev pub AreSought : RuleGraph → Inputs → List NodeId → Type 0
AreSought g inputs nodes = copies_somewhere g ≡ true → AreAllSought g inputs nodes

-- of each that a rule names
abbrev pub AreNamedSought : RuleGraph → Inputs → Rule → Type 0
AreNamedSought g inputs of = (n : NodeId) → IsNamedBy of n → IsSought g inputs n

-- of each that the rule of this number doesn't leave out
abbrev pub AreKeptSought : RuleGraph → Inputs → ℕ → List NodeId → Type 0
AreKeptSought g inputs number nodes = copies_somewhere g ≡ true → (x : Rule) (n : NodeId) → slice_get g.rules number ≡ Some x
    → is_among nodes n ≡ true → is_among x.ignored n ≡ false → is_among x.targets n ≡ false → IsSought g inputs n

-- The rules that were looked at are the graph's, and all that they name was looked for, but for these rules, which are still to do.
pub record AreGoneOverBut (g : RuleGraph) (inputs : Inputs) (todo : List RuleId) : Type 0 where
  pub known : (number : ℕ) → is_marked inputs number ≡ true → number < length g.rules
  pub named : (number : ℕ) (of : Rule) → is_marked inputs number ≡ true → is_listed todo number ≡ false
      → slice_get g.rules number ≡ Some of → AreNamedSought g inputs of

-- where some variant directory has copies, and none is still to do
abbrev pub AreGoneOver : RuleGraph → Inputs → Type 0
AreGoneOver g inputs = copies_somewhere g ≡ true → AreGoneOverBut g inputs []

-- all that was looked at is gone over, and these were looked for
pub record AreGoneOverWith (g : RuleGraph) (inputs : Inputs) (nodes : List NodeId) : Type 0 where
  pub over : AreGoneOver g inputs
  pub these : AreSought g inputs nodes

-- and of these each that the rule of this number doesn't leave out
pub record AreGoneOverFor (g : RuleGraph) (inputs : Inputs) (number : ℕ) (found : List NodeId) : Type 0 where
  pub over : AreGoneOver g inputs
  pub these : AreKeptSought g inputs number found

-- what was looked for still is
abbrev pub KeepsSought : RuleGraph → Inputs → RuleGraph → Inputs → Type 0
KeepsSought g old h new = (n : NodeId) → IsSought g old n → IsSought h new n

-- No rule was looked at. Files that were settled are, a node keeps its rule, and a settled file that has none gets none.
pub record KeepsMarks (g : RuleGraph) (old : Inputs) (h : RuleGraph) (new : Inputs) : Type 0 where
  pub marked : new.looked_at ≡ old.looked_at
  pub settled : (node : ℕ) → was_settled old node ≡ true → was_settled new node ≡ true
  pub ruled : (node number : ℕ) → rule_of g.rules node ≡ Some number → rule_of h.rules node ≡ Some number
  pub unruled : (node : ℕ) → was_settled old node ≡ true → rule_of g.rules node ≡ None → rule_of h.rules node ≡ None

-- The rules that were looked at for the first time were put behind others, and what was looked for still is.
pub record PutsBehind (g : RuleGraph) (old : Inputs) (h : RuleGraph) (new : Inputs) (before after : List RuleId) : Type 0 where
  pub more : List RuleId
  pub is : after ≡ before ++ more
  pub sought : KeepsSought g old h new
  pub marked : (number : ℕ) → is_marked new number ≡ true → (is_marked old number ≡ true) ⊎ (is_listed more number ≡ true)
  pub known : (number : ℕ) → is_listed more number ≡ true → number < length h.rules

-- the rule of a node was looked at, where it has one
abbrev pub IsRuleMarked : RuleGraph → Inputs → ℕ → Type 0
IsRuleMarked g inputs node = (number : ℕ) → rule_of g.rules node ≡ Some number → is_marked inputs number ≡ true

-- The rule of this number was looked at, and no other; it hadn't been where that is told.
pub record Marks (old new : Inputs) (number : ℕ) (is_new : Bool) : Type 0 where
  pub this : is_marked new number ≡ true
  pub others : (other : ℕ) → other ≢ number → is_marked new other ≡ is_marked old other
  pub was : is_new ≡ not (is_marked old number)

-- each other node has the rule that it had
abbrev pub KeepsRules : RuleGraph → RuleGraph → ℕ → Type 0
KeepsRules g h node = (other : ℕ) → other ≢ node → rule_of h.rules other ≡ rule_of g.rules other
