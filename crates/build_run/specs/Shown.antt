-- What is printed as a rule is made: nothing where it is fresh, and as its action starts why it does, and its lines.
use Rattle.std.specs.Prelude.{◌≡◌, List, ℕ, Some, slice_get, Result, Ok, Err}
use Rattle.scons_base.specs.declared.ids.RuleId.{RuleId}
use Rattle.deciders.specs.declared.recorded.Rec.{Rec}
use Rattle.rule_graph.specs.declared.rule.Rule.{Rule}
use Rattle.sign_store.specs.Stores.{map_of}
use Rattle.task_plan.specs.declared.want.PlanEvent.{PlanEvent}
use Rattle.task_plan.specs.declared.want.PlanEvent.TheVariants.{Started}
use Rattle.world_api.specs.Meaning.{Meaning}
use Rattle.world_api.specs.Printed.{SinkMeaning}
use Rattle.world_api.specs.Printing.{Prints}
use Rattle.build_files.specs.Dueness.{AreIdle}
use Rattle.build_files.specs.declared.end.ListEnd.{ListEnd}
use Rattle.build_run.specs.Whys.{IsWhyText, TellsReason, started_text}
use Rattle.build_run.specs.declared.site.Site.{Site}

-- the lines of a rule stand printed behind this text
abbrev pub PrintsStart : {W O E : Type 0} → SinkMeaning O → Site W O E → Site W O E → RuleId → List ℕ → Type 0
PrintsStart o old new rule why = (x : Rule) → slice_get old.graph.now.rules rule.0 ≡ Some x →
    Prints o old.out.now new.out.now (started_text old.graph.now old.options x why)

-- and the text says, of the files and records as they were, why the rule with this record runs
pub record ShowsStart {W O E : Type 0} (m : Meaning W) (o : SinkMeaning O) (old new : Site W O E) (rule : RuleId) (now : Rec) : Type 0 where
  pub why : List ℕ
  pub prints : PrintsStart o old new rule why
  pub is : m.tells new.world.now → AreIdle (m.around old.world.now) now.targets →
      IsWhyText old.graph.now old.options rule.0 (map_of old.store.now) now (m.around old.world.now) why
  pub tells : m.tells new.world.now → AreIdle (m.around old.world.now) now.targets →
      TellsReason old.graph.now old.options rule.0 (map_of old.store.now) now (m.around old.world.now) why

abbrev pub ShowsMade : {W O E : Type 0} → Meaning W → SinkMeaning O → Site W O E → Site W O E → RuleId → Rec → Result PlanEvent ListEnd → Type 0
ShowsMade m o old new rule now (Ok (Started started)) = ShowsStart m o old new rule now
ShowsMade m o old new rule now (Ok other) = new.out.now ≡ old.out.now
ShowsMade m o old new rule now (Err end) = Unit {0}
