-- What a build prints on standard output: of each rule whose action starts its text, in the order of the starts.
use Rattle.std.specs.Prelude.{◌≡◌, ◌⊎◌, ◌≤◌, ℕ, Bool, true, false, List, [], ◌∷◌, ◌++◌, Some, None, slice_get}
use Rattle.scons_base.specs.Rising.{Rose}
use Rattle.world_api.specs.Around.{Around, Entry, Started, Finished}
use Rattle.world_api.specs.Counts.{Counts}
use Rattle.world_api.specs.Printed.{SinkMeaning}
use Rattle.world_api.specs.Reads.{stamp_of}
use Rattle.world_api.specs.declared.decider.Decider.{Decider}
use Rattle.world_api.specs.declared.job.Job.{Job}
use Rattle.world_api.specs.declared.job.Outcome.{Outcome}
use Rattle.deciders.specs.declared.recorded.Rec.{Rec}
use Rattle.rule_graph.specs.declared.rule.Rule.{Rule}
use Rattle.rule_graph.specs.Graphs.{RuleGraph}
use Rattle.build_model.specs.Rules as model
use Rattle.build_model.specs.Rules.{Path, Among}
use Rattle.build_model.specs.Steps.{Step, Fresh, Began, Ended, Lacks, Halts}
use Rattle.build_means.specs.Logs.{IsNewId}
use Rattle.explain_report.specs.declared.reason.Reason.{Reason}
use Rattle.explain_report.specs.Rules.{IsReasonOfRule}
use Rattle.explain_report.specs.Texts.{reason_text}
use Rattle.turn_means.specs.Standing.{Outset, setting_at}
use Rattle.turn_means.specs.Recording.{IsRecordOf}
use Rattle.build_run.specs.Whys.{is_told, old_of, started_text}
use Rattle.build_run.specs.declared.building.Options.{Options}

-- ---- the text of a rule

-- The line of the reason that a rule runs for: over the files, stamps and records that the build began with, and the record of
-- the rule over what its dependencies hold around.
pub record IsReasonLine (o : Outset) (around : Around) (r : model.Rule) (decider : Decider) (line : List ℕ) : Type 0 where
  pub now : Rec
  pub is : IsRecordOf o around r now
  pub reason : Reason
  pub of_rule : IsReasonOfRule r o.before.tree (stamp_of o.before) o.kept decider now reason
  pub told : line ≡ reason_text reason now (old_of o.kept now reason)

-- such a line where it is to be told, and none else
abbrev pub IsLineIf : Bool → (List ℕ → Type 0) → List ℕ → Type 0
IsLineIf true IsLine why = IsLine why
IsLineIf false IsLine why = why ≡ []

-- the text of this rule of a graph: the line of its reason, where that is told, and its lines
pub record IsTextOf (g : RuleGraph) (options : Options) (x : Rule) (IsLine : List ℕ → Type 0) (text : List ℕ) : Type 0 where
  pub why : List ℕ
  pub is : IsLineIf (is_told options x) IsLine why
  pub whole : text ≡ started_text g options x why

-- The text of the rule with this number, which is this one of the model: one that was declared. The copy rule of a path, for which
-- none was, has none.
pub data IsOwnText (o : Outset) (options : Options) (around : Around) (number : ℕ) (r : model.Rule) (text : List ℕ) : Type 0 where
  of_declared : (x : Rule) → slice_get o.wanted.graph.rules number ≡ Some x →
      IsTextOf o.wanted.graph options x (IsReasonLine o around r x.decider) text → IsOwnText o options around number r text
  of_copy : slice_get o.wanted.graph.rules number ≡ None → text ≡ [] → IsOwnText o options around number r text

-- the text of a job: that of the rule that makes its targets
pub record IsJobText (o : Outset) (options : Options) (around : Around) (job : Job) (text : List ℕ) : Type 0 where
  pub rule : model.Rule
  pub target : Path
  pub among : Among target job.targets
  pub makes : (path : Path) → Among path job.targets → (setting_at o).rule_of path ≡ Some rule
  pub own : IsOwnText o options around job.id rule text

-- ---- of a build

-- The texts of the jobs that these entries start, one behind the other.
pub data AreTexts (IsText : Job → List ℕ → Type 0) : List Entry → List ℕ → Type 0 where
  no_text : AreTexts IsText [] []
  of_start : {entries : List Entry} {text : List ℕ} (job : Job) (counts : Counts) (own : List ℕ) → IsText job own →
      AreTexts IsText entries text → AreTexts IsText (entries ++ Started job counts ∷ []) (text ++ own)
  of_ending : {entries : List Entry} {text : List ℕ} (id : ℕ) (outcome : Outcome) → AreTexts IsText entries text →
      AreTexts IsText (entries ++ Finished id outcome ∷ []) text

-- The same by the steps of a build, the latest first: of each rule whose action began its text, behind those of the rules that
-- began before. Nothing is printed of a rule that is up to date, that lacks a dependency, or whose action ends.
pub data AreStepTexts (IsText : model.Rule → List ℕ → Type 0) : List Step → List ℕ → Type 0 where
  no_step : AreStepTexts IsText [] []
  of_fresh : {past : List Step} {text : List ℕ} (r : model.Rule) → AreStepTexts IsText past text → AreStepTexts IsText (Fresh r ∷ past) text
  of_begun : {past : List Step} {text : List ℕ} (r : model.Rule) (own : List ℕ) → IsText r own → AreStepTexts IsText past text →
      AreStepTexts IsText (Began r ∷ past) (text ++ own)
  -- it couldn't be started
  of_refused : {past : List Step} {text : List ℕ} (r : model.Rule) → AreStepTexts IsText past text →
      AreStepTexts IsText (Ended r false ∷ Began r ∷ past) text
  of_ended : {past : List Step} {text : List ℕ} (r : model.Rule) (well : Bool) → AreStepTexts IsText past text →
      AreStepTexts IsText (Ended r well ∷ past) text
  of_lacking : {past : List Step} {text : List ℕ} (r : model.Rule) (p : Path) → AreStepTexts IsText past text →
      AreStepTexts IsText (Lacks r p ∷ past) text
  of_halt : {past : List Step} {text : List ℕ} → AreStepTexts IsText past text → AreStepTexts IsText (Halts ∷ past) text

-- the text of a rule, by its number
pub record HasOwnText (o : Outset) (options : Options) (around : Around) (r : model.Rule) (text : List ℕ) : Type 0 where
  pub number : ℕ
  pub own : IsOwnText o options around number r text

-- What stands behind them: nothing, or the text of one rule for which these entries have no job, where standard output refused
-- maybe only a front of it.
pub data IsRest (o : Outset) (options : Options) (refused : Type 0) (entries : List Entry) : List ℕ → Type 0 where
  no_more : IsRest o options refused entries []
  one_more : {front : List ℕ} (around : Around) (number : ℕ) (r : model.Rule) (back : List ℕ) → IsNewId entries number →
      IsOwnText o options around number r (front ++ back) → (back ≡ []) ⊎ refused → IsRest o options refused entries front

-- A build that began there printed on standard output the texts of the rules whose actions started, each of them whole and no
-- other, and behind them at most that of one whose action didn't.
pub record HasPrinted {O : Type 0} (p : SinkMeaning O) (o : Outset) (options : Options) (around : Around) (out new : O) : Type 0 where
  pub entries : List Entry
  pub grown : around.log ≡ o.before.log ++ entries
  pub text : List ℕ
  pub are : AreTexts (IsJobText o options around) entries text
  pub rest : List ℕ
  pub is_rest : IsRest o options (Rose (p.faults out) (p.faults new)) entries rest
  pub printed : p.text new ≡ p.text out ++ (text ++ rest)
  pub later : p.faults out ≤ p.faults new

-- And it printed no more than the texts of these, unless a fault came after which nothing new starts.
pub record EndsPrinted {O : Type 0} (p : SinkMeaning O) (o : Outset) (options : Options) (around : Around) (out new : O) (ended : Bool) : Type 0 where
  pub has : HasPrinted p o options around out new
  pub none : ended ≡ false → has.rest ≡ []
