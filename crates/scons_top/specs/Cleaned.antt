-- What a run removed that cleans.
use Rattle.std.specs.Prelude.{◌≡◌, ◌≢◌, ◌⊎◌, ℕ, Bool, false, true, List, [], ◌∷◌, ◌++◌, All, Contains, None, Result, Ok, Err}
use Rattle.scons_base.specs.declared.ids.NodeId.{NodeId}
use Rattle.scons_base.specs.declared.ids.RuleId.{RuleId}
use Rattle.world_api.specs.Around.{Around}
use Rattle.world_api.specs.Looks.{Looks}
use Rattle.world_api.specs.Meaning.{Meaning}
use Rattle.world_api.specs.declared.world.Kind.{Kind}
use Rattle.world_api.specs.declared.world.Kind.TheVariants.{Absent, File, Dir}
use Rattle.rule_graph.specs.Graphs.{RuleGraph}
use Rattle.build_model.specs.Rules.{Path, Rule}
use Rattle.scons_report.specs.Cleaning.{IsCleanList, rules_numbered}
use Rattle.scons_words.specs.declared.words.Words.{Words}
use Rattle.scons_top.specs.declared.report.Report.{Report}
use Rattle.scons_top.specs.declared.step.Step.{Step}
use Rattle.scons_top.specs.declared.step.Step.TheVariants as step
use Rattle.scons_top.specs.declared.stop.Stop.{Stop}

-- the targets of some rules, in their order
abbrev pub targets_of : List Rule → List Path
targets_of [] = []
targets_of (r ∷ rules) = r.targets ++ targets_of rules

abbrev pub is_file_kind : Kind → Bool
is_file_kind File = true
is_file_kind Absent = false
is_file_kind Dir = false

-- Of all that stands around only files at these paths went.
pub record IsCleared (paths : List Path) (old new : Around) : Type 0 where
  pub files : (path : Path) → (new.tree path ≡ old.tree path) ⊎ (new.tree path ≡ None)
  pub others : (path : Path) → (Contains paths path → ⊥) → new.tree path ≡ old.tree path
  pub stamps : (path : Path) → (Contains paths path → ⊥) → new.stamps path ≡ old.stamps path
  pub dirs : (dir : Path) → new.dirs dir ≡ old.dirs dir
  pub running : new.running ≡ old.running
  pub log : new.log ≡ old.log
  pub met : new.met ≡ old.met
  pub law : new.law ≡ old.law
  pub top : new.top ≡ old.top

-- the same of a world that tells
abbrev pub Cleared : {W : Type 0} → Meaning W → List Path → W → W → Type 0
Cleared m paths old new = m.tells new → IsCleared paths (m.around old) (m.around new)

-- none of these is a file
abbrev pub AreNone : {W : Type 0} → Meaning W → List Path → W → Type 0
AreNone m paths world = m.tells world → All (λ path. (m.around world).tree path ≡ None) paths

-- unless files are only to be named
abbrev pub AreRemoved : {W : Type 0} → Meaning W → Words → List Path → W → Type 0
AreRemoved m said paths world = said.dry ≡ false → AreNone m paths world

-- Nodes of a graph were cleaned: only targets of the rules of the clean list went, and where it went well none of them is a file.
pub record CleansNodes {W : Type 0} (m : Meaning W) (said : Words) (g : RuleGraph) (requested : List NodeId) (old new : W) (well : Type 0) : Type 0 where
  pub list : List RuleId
  pub is : IsCleanList g requested list
  pub cleared : Cleared m (targets_of (rules_numbered g list)) old new
  pub gone : well → AreRemoved m said (targets_of (rules_numbered g list)) new

-- The same of a step that may stop: it did so before anything went, or in the midst.
abbrev pub CleansAsked : {W : Type 0} → Meaning W → Words → RuleGraph → List NodeId → W → W → Result Report Stop → Type 0
CleansAsked m said g requested old new (Ok report) = CleansNodes m said g requested old new (report.status ≡ 0)
CleansAsked m said g requested old new (Err s) = CleansNodes m said g requested old new ⊥ ⊎ Looks m old new

-- a run cleaned nodes of a graph
pub record HasCleaned {W : Type 0} (m : Meaning W) (said : Words) (old new : W) (well : Type 0) : Type 0 where
  pub graph : RuleGraph
  pub requested : List NodeId
  pub cleans : CleansNodes m said graph requested old new well

-- A run that ended as it cleaned did so, or it only looked, and its status says so.
abbrev pub Cleans : {W : Type 0} → Meaning W → Words → W → W → Report → Type 0
Cleans m said old new report =
    report.step ≡ step.Cleaning → HasCleaned m said old new (report.status ≡ 0) ⊎ ((report.status ≢ 0) × Looks m old new)

-- The same of its steps: where one stops, there is no report yet.
abbrev pub CleansOrStops : {W : Type 0} → Meaning W → Words → W → W → Result Report Stop → Type 0
CleansOrStops m said old new (Ok report) = HasCleaned m said old new (report.status ≡ 0)
CleansOrStops m said old new (Err s) = HasCleaned m said old new ⊥ ⊎ Looks m old new

abbrev pub RunCleans : {W : Type 0} → Meaning W → Words → Step → W → W → Result Report Stop → Type 0
RunCleans m said at old new result = at ≡ step.Cleaning → CleansOrStops m said old new result
