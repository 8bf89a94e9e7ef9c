-- The line that says why a rule runs, and what is printed of a rule as it starts.
use Rattle.std.specs.Prelude.{◌≡◌, ◌++◌, ◌&&◌, ℕ, Bool, not, true, false, List, [], Option, Some, None, is_some, length, slice_get}
use Rattle.std.specs.Option.{option_and_then}
use Rattle.deciders.specs.declared.recorded.Rec.{Rec}
use Rattle.rule_graph.specs.declared.rule.Rule.{Rule}
use Rattle.rule_graph.specs.Graphs.{RuleGraph}
use Rattle.report_texts.specs.Lines.{rule_text}
use Rattle.world_api.specs.Around.{Around}
use Rattle.world_api.specs.Reads.{stamp_of}
use Rattle.world_api.specs.declared.job.Work.{Work}
use Rattle.world_api.specs.declared.job.Work.TheVariants as work
use Rattle.sign_store.specs.Tables.{Map}
use Rattle.build_model.specs.Rules.{Path}
use Rattle.build_model.specs.Rules as model
use Rattle.build_model.specs.Stale.{first_stamp}
use Rattle.build_means.specs.Due.{is_due}
use Rattle.build_means.specs.Grown.{Begun, IsGrown, rule_numbered}
use Rattle.build_means.specs.Records.{record_in, records_in}
use Rattle.explain_report.specs.declared.reason.Reason.{Reason}
use Rattle.explain_report.specs.Laws.{AreRecords}
use Rattle.explain_report.specs.Order.{place_of}
use Rattle.explain_report.specs.Reasons.{IsReason}
use Rattle.explain_report.specs.Rules.{IsReasonOfRule, least_of}
use Rattle.explain_report.specs.Texts.{reason_text}
use Rattle.build_run.specs.declared.building.Options.{Options}

-- a rule that copies a file into a variant directory: it has no lines
abbrev is_copy_by : Work → List ℕ → Bool
is_copy_by work.Copy [] = true
is_copy_by other builder = false

abbrev pub is_copy : Rule → Bool
is_copy x = is_copy_by x.work x.builder

-- whether it is said why a rule runs
abbrev pub is_told : Options → Rule → Bool
is_told options x = options.explain && not options.silent && not (is_copy x)

-- what was recorded of the target that a reason is about
abbrev pub old_of : Map → Rec → Reason → Option Rec
old_of kept now reason = option_and_then kept (slice_get now.targets (place_of reason))

-- an answer for each of the first so many targets of a rule by its record of now, over the files and stamps around and these records
pub record AreAnswersOf (x : Rule) (kept : Map) (now : Rec) (around : Around) (count : ℕ) (answers : List (Option Reason)) : Type 0 where
  pub as_many : length answers ≡ count
  pub each : (place : ℕ) (p : Path) (answer : Option Reason) → slice_get now.targets place ≡ Some p → slice_get answers place ≡ Some answer →
      IsReason x.decider x.always now place (is_some (around.tree p)) (first_stamp (stamp_of around) now.targets) (kept p) answer

-- the least of these answers
pub record IsLeastSoFar (x : Rule) (kept : Map) (now : Rec) (around : Around) (count : ℕ) (reason : Option Reason) : Type 0 where
  pub answers : List (Option Reason)
  pub are : AreAnswersOf x kept now around count answers
  pub least : reason ≡ least_of answers

-- the least of those for all targets
abbrev pub IsLeastReason : Rule → Map → Rec → Around → Option Reason → Type 0
IsLeastReason x kept now around = IsLeastSoFar x kept now around (length now.targets)

-- Where a rule of this number is to be told of, a text is the line of the least answer; else it is empty.
abbrev pub line_for : Map → Rec → Option Reason → List ℕ
line_for kept now None = []
line_for kept now (Some reason) = reason_text reason now (old_of kept now reason)

pub record IsLine (x : Rule) (kept : Map) (now : Rec) (around : Around) (text : List ℕ) : Type 0 where
  pub reason : Option Reason
  pub is : IsLeastReason x kept now around reason
  pub line : text ≡ line_for kept now reason

abbrev pub IsWhyBy : Bool → Rule → Map → Rec → Around → List ℕ → Type 0
IsWhyBy false x kept now around text = text ≡ []
IsWhyBy true x kept now around text = IsLine x kept now around text

abbrev pub IsWhyText : RuleGraph → Options → ℕ → Map → Rec → Around → List ℕ → Type 0
IsWhyText g options number kept now around text = (x : Rule) → slice_get g.rules number ≡ Some x → IsWhyBy (is_told options x) x kept now around text

-- So, by the law on the least answer, it is the line of the rule's reason where the rule is due: the rule of the model by this
-- number, with valid records, has the reason that the line tells.
abbrev pub TellsReason : RuleGraph → Options → ℕ → Map → Rec → Around → List ℕ → Type 0
TellsReason g options number kept now around text =
    (b : Begun) (r : model.Rule) (x : Rule) → IsGrown b g → rule_numbered b g number ≡ Some r → slice_get g.rules number ≡ Some x →
    is_told options x ≡ true → AreRecords r x.decider kept now → is_due r around.tree (stamp_of around) (records_in kept) (record_in now) ≡ true →
    (reason : Reason) × IsReasonOfRule r around.tree (stamp_of around) kept x.decider now reason × (text ≡ reason_text reason now (old_of kept now reason))

-- what is printed of a rule as it starts
abbrev started_by : Bool → List ℕ → List ℕ → List ℕ
started_by true why lines = []
started_by false why lines = why ++ lines

abbrev pub started_text : RuleGraph → Options → Rule → List ℕ → List ℕ
started_text g options x why = started_by options.silent why (rule_text g x)
