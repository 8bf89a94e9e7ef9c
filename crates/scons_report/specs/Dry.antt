-- Which rules a dry run lists. The manual page of SCons says under `-n` that the commands are printed that would be executed to build what
-- is out of date, and that none is. What a command would make isn't known before it runs: so a rule counts as out of date, too, where it
-- depends on what a listed rule makes, though that might come out as it stands. That is this project's own, and so is the order.
use Rattle.std.specs.Prelude.{◌≡◌, ◌<◌, true, List, [], ◌∷◌, length, All, Contains, Some, Result, IfOk}
use Rattle.std.specs.List.{list_any}
use Rattle.std.specs.Str.{bytes_eq}
use Rattle.scons_base.specs.declared.ids.NodeId.{NodeId}
use Rattle.scons_base.specs.declared.ids.RuleId.{RuleId}
use Rattle.world_api.specs.Around.{Around}
use Rattle.world_api.specs.Meaning.{Meaning}
use Rattle.world_api.specs.declared.hash.Hash.{Hash}
use Rattle.deciders.specs.declared.recorded.Rec.{Rec}
use Rattle.sign_store.specs.Copies.{IsCopyIn}
use Rattle.sign_store.specs.Tables.{Map}
use Rattle.rule_graph.specs.Graphs.{RuleGraph}
use Rattle.rule_graph.specs.Rules.{are_below}
use Rattle.build_model.specs.Rules.{Path, Tree, Stamps, Rule, Records, Setting, Among}
use Rattle.build_model.specs.Contents.{in_tree, found_in, dependencies}
use Rattle.build_model.specs.Records.{record_of}
use Rattle.build_model.specs.Needs.{Needed, NeedsThrough, IsBuildOrder, with_rule}
use Rattle.build_model.specs.Steps.{IsMissing}
use Rattle.build_means.specs.Grown.{Begun, begun_setting, rule_numbered}
use Rattle.build_means.specs.Records.{records_in}
use Rattle.build_means.specs.Rules.{paths_of}
use Rattle.build_files.specs.Dueness.{HaveOwnDigests}
use Rattle.build_files.specs.Kept.{past, stamp_past}
use Rattle.build_files.specs.Leftovers.{IsLeftover}
use Rattle.build_files.specs.declared.end.ListEnd.{ListEnd}

-- A rule is listed: by the files, stamps and records as they stand it is due, where its record of now is the one over these files; or the
-- rule of one of its dependencies is listed.
pub data IsListed (s : Setting) (t : Tree) (stamps : Stamps) (m : Records) : Rule → Type 0 where
  is_due : {r : Rule} → s.is_due r t stamps m (record_of s r (in_tree t) stamps) ≡ true → IsListed s t stamps m r
  is_fed : {r : Rule} (p : Path) (q : Rule) → Among p (dependencies s (in_tree t) r) → s.rule_of p ≡ Some q → IsListed s t stamps m q →
      IsListed s t stamps m r

-- of some rules those of which this is so, in their order
pub data AreThose (IsSo : Rule → Type 0) : List Rule → List Rule → Type 0 where
  none_left : AreThose IsSo [] []
  takes : {r : Rule} {rules those : List Rule} → IsSo r → AreThose IsSo rules those → AreThose IsSo (r ∷ rules) (r ∷ those)
  leaves : {r : Rule} {rules those : List Rule} → (IsSo r → ⊥) → AreThose IsSo rules those → AreThose IsSo (r ∷ rules) those

-- The list of a dry run: of the needed rules, in the order in which a build at one job takes them, those that are listed. No needed rule
-- needs itself, and none lacks a dependency: else there is no list. What files include is what they include as they stand.
pub record IsDryOrder (s : Setting) (t : Tree) (stamps : Stamps) (m : Records) (requested : List Path) (list : List Rule) : Type 0 where
  pub order : List Rule
  pub is_order : IsBuildOrder s.rule_of s.limit (found_in s (in_tree t)) requested order
  pub no_cycle : (r : Rule) → Needed s.rule_of (found_in s (in_tree t)) requested r → NeedsThrough s.rule_of (found_in s (in_tree t)) r r → ⊥
  pub no_lack : (r : Rule) (p : Path) → Among r order → Among p (dependencies s (in_tree t) r) → IsMissing s t p → ⊥
  pub those : AreThose (IsListed s t stamps m) order list

-- the rules with these numbers
abbrev pub rules_with : Begun → RuleGraph → List RuleId → List Rule
rules_with b g [] = []
rules_with b g (id ∷ ids) = with_rule (rule_numbered b g id.0) (rules_with b g ids)

-- numbers of rules of a graph, which are that list
pub record IsDryList (b : Begun) (g : RuleGraph) (stamps : Stamps) (m : Records) (requested : List NodeId) (list : List RuleId) : Type 0 where
  pub known : All (λ id. id.0 < length g.rules) list
  pub order : IsDryOrder (begun_setting b) b.tree stamps m (paths_of g requested) (rules_with b g list)

-- a leftover copy stands at a path
pub record IsLeftoverAt (g : RuleGraph) (kept : Map) (around : Around) (path : Path) : Type 0 where
  pub rec : Rec
  pub copied : IsCopyIn kept rec
  pub left : IsLeftover g around rec
  pub stands : Contains rec.targets path

-- these paths are those of the leftover copies, and no others
pub record AreGone (g : RuleGraph) (kept : Map) (around : Around) (gone : List Path) : Type 0 where
  pub each : (path : Path) → list_any (bytes_eq path) gone ≡ true → IsLeftoverAt g kept around path
  pub all : (path : Path) → IsLeftoverAt g kept around path → list_any (bytes_eq path) gone ≡ true

-- what a build begins with over these files: it takes leftover copies away before it looks at anything
abbrev pub begun_past : RuleGraph → Hash → Around → List Path → Begun
begun_past g hash around gone = record { graph = g; law = around.law; hash = hash; tree = past gone around.tree }

-- A dry run over these records and files lists these rules. The graph as it was read has grown by the copy rules that came up.
pub record ListsDry (g h : RuleGraph) (hash : Hash) (kept : Map) (around : Around) (requested : List NodeId) (rules : List RuleId) : Type 0 where
  pub gone : List Path
  pub are_gone : AreGone g kept around gone
  pub list : IsDryList (begun_past g hash around gone) h (stamp_past gone around) (records_in kept) requested rules

-- So it does in a world that tells and where nothing runs.
abbrev pub DryLists : {W : Type 0} → Meaning W → RuleGraph → RuleGraph → Hash → Map → List NodeId → W → W → Result (List RuleId) ListEnd → Type 0
DryLists m g h hash kept requested old new result =
    m.tells new → (m.around old).running ≡ [] → are_below (length g.nodes) requested ≡ true → HaveOwnDigests kept →
    IfOk result (ListsDry g h hash kept (m.around old) requested)
