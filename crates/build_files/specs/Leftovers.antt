-- Which copies are left over: nothing makes them any more, and they aren't sources themselves. What is copied into variant
-- directories is told by the chapter on variant directories of the SCons User Guide; that a copy goes with its source is
-- this project's own.
use Rattle.std.specs.Prelude.{◌≡◌, Bool, true, false, not, ℕ, List, [], ◌∷◌, ◌&&◌, ◌||◌, Option, Some, None, Contains, is_some, length, nat_lt, if◌then◌else◌}
use Rattle.node_tree.specs.Nodes.{number_of}
use Rattle.variant_dirs.specs.Variants.{variant_of, source_of}
use Rattle.variant_dirs.specs.declared.variants.Variant.{Variant}
use Rattle.rule_graph.specs.Graphs.{RuleGraph}
use Rattle.rule_graph.specs.Rules.{rule_of}
use Rattle.rule_graph.specs.declared.rule.Rule.{Rule}
use Rattle.world_api.specs.Around.{Around}
use Rattle.world_api.specs.Meaning.{Meaning}
use Rattle.world_api.specs.declared.job.Work.TheVariants.{Copy}
use Rattle.deciders.specs.declared.recorded.Dep.{Dep}
use Rattle.deciders.specs.declared.recorded.Rec.{Rec}

abbrev pub has_rule : List Rule → Option ℕ → Bool
has_rule rules (Some node) = is_some (rule_of rules node)
has_rule rules None = false

-- whether a rule makes the path
abbrev pub is_made : RuleGraph → List ℕ → Bool
is_made g path = has_rule g.rules (number_of g.nodes path)

abbrev pub has_copies : Option Variant → Bool
has_copies (Some variant) = variant.duplicate
has_copies None = false

-- whether the path lies in a variant directory with copies
abbrev pub is_copied : RuleGraph → List ℕ → Bool
is_copied g path = has_copies (variant_of g.variants path)

-- the world tells, and nothing runs
abbrev pub AtRest : {W : Type 0} → Meaning W → W → Type 0
AtRest m world = m.tells world × ((m.around world).running ≡ [])

-- whether a file stands at the path
abbrev pub stands : Around → List ℕ → Bool
stands around path = is_some (around.tree path)

abbrev pub is_before : ℕ → Option ℕ → Bool
is_before count (Some rule) = nat_lt rule count
is_before count None = false

abbrev pub declared_for : ℕ → List Rule → Option ℕ → Bool
declared_for count rules (Some node) = is_before count (rule_of rules node)
declared_for count rules None = false

-- whether one of the first so many rules makes the path: one that was declared, and no copy rule that was added since
abbrev pub is_declared : RuleGraph → ℕ → List ℕ → Bool
is_declared g count path = declared_for count g.rules (number_of g.nodes path)

-- whether it is copied: a declared rule makes it, or it is a file outside of such directories. A copy is never copied further.
abbrev pub is_source : RuleGraph → ℕ → Around → List ℕ → Bool
is_source g count around source = is_declared g count source || (not (is_copied g source) && stands around source)

abbrev pub source_among : RuleGraph → ℕ → Around → Option (List ℕ) → Option (List ℕ)
source_among g count around (Some source) = if is_source g count around source then Some source else None
source_among g count around None = None

-- the path that a path is copied from where no rule makes it, and so many rules were declared
abbrev pub copied_from : RuleGraph → ℕ → Around → List ℕ → Option (List ℕ)
copied_from g count around path =
    if is_copied g path then source_among g count around (source_of g.variants g.top path) else None

-- the record of the path says that it was copied from its source
pub record IsOfCopy (g : RuleGraph) (rec : Rec) (path : List ℕ) : Type 0 where
  pub copies : rec.work ≡ Copy
  pub copied : is_copied g path ≡ true
  pub dep : Dep
  pub deps : rec.deps ≡ dep ∷ []
  pub source : source_of g.variants g.top path ≡ Some dep.name

-- the record is of a file that was copied, and that nothing makes or copies now
pub record IsLeftover (g : RuleGraph) (around : Around) (rec : Rec) : Type 0 where
  pub path : List ℕ
  pub targets : rec.targets ≡ path ∷ []
  pub copy : IsOfCopy g rec path
  pub unmade : is_made g path ≡ false
  pub uncopied : copied_from g (length g.rules) around path ≡ None
  pub stands : stands around path ≡ true

-- these are, of some records, those of leftover copies, and no others
pub record AreLeftovers (g : RuleGraph) (around : Around) (among : Rec → Type 0) (left : List Rec) : Type 0 where
  pub each : (rec : Rec) → Contains left rec → among rec × IsLeftover g around rec
  pub all : (rec : Rec) → among rec → IsLeftover g around rec → Contains left rec
