-- How a run ends before its last text is printed.
use Rattle.std.specs.Prelude.{◌≡◌, ℕ, List, Result, Ok, Err}
use Rattle.world_api.specs.Meaning.{Meaning}
use Rattle.world_api.specs.Printed.{SinkMeaning}
use Rattle.one_rule.specs.declared.rule.Rule.{Rule}
use Rattle.one_rule.specs.declared.stops.ReadStop.{ReadStop}
use Rattle.one_rule.specs.declared.stops.ReadStop.TheVariants as read
use Rattle.one_rule.specs.declared.stops.BuildStop.{BuildStop}
use Rattle.one_rule.specs.declared.stops.BuildStop.TheVariants as build
use Rattle.one_rule.specs.declared.ending.Ending.{Ending}
use Rattle.one_rule.specs.declared.ending.Ending.TheVariants.{Refused, Misread, Stopped, Failed, Built, Unprinted, NoMemory}
use Rattle.one_rule.specs.Course as way
use Rattle.world_api.specs.Printing.{Prints, PrintsPart, Cuts}
use Rattle.one_rule.specs.Run.{Takes, MayPrint}

abbrev pub read_ending : ReadStop → Ending
read_ending (read.Fault fault) = Misread fault
read_ending read.Unprinted = Unprinted
read_ending read.NoMemory = NoMemory

abbrev pub build_ending : Result (Unit {0}) BuildStop → Ending
build_ending (Ok done) = Built
build_ending (Err (build.Stopped fault)) = Stopped fault
build_ending (Err (build.Failed fault)) = Failed fault
build_ending (Err build.Unprinted) = Unprinted
build_ending (Err build.NoMemory) = NoMemory

module _ {W O : Type 0} (world : Meaning W) (out : SinkMeaning O) (words : List (List ℕ)) (old_world new_world : W) (old_out new_out : O) where
  -- a course is taken, and all of its output but the last line is printed
  pub record Comes (course : way.Course) : Type 0 where
    pub takes : Takes world words old_world new_world course
    pub printed : Prints out old_out new_out (way.begun_text course)

  -- nothing was started
  abbrev pub IsUnstarted : Type 0
  IsUnstarted = world.tells new_world → (world.around new_world).log ≡ (world.around old_world).log

  -- no course is taken to its end, and a front of some course's output is printed
  pub record BreaksOff (Printed : List ℕ → Type 0) : Type 0 where
    pub course : way.Course
    pub may : world.tells new_world → MayPrint words (world.around old_world).tree course
    pub counts : world.counts new_world ≡ world.counts old_world
    pub printed : Printed (way.begun_text course)

  abbrev pub EndsAs : Ending → Type 0
  EndsAs (Refused fault) = Comes (way.Refused fault)
  EndsAs (Misread fault) = Comes (way.Misread fault)
  EndsAs (Stopped fault) = Comes (way.Stopped fault)
  EndsAs (Failed fault) = (rule : Rule) × Comes (way.Failed rule fault)
  EndsAs Built = (rule : Rule) × Comes (way.Built rule)
  EndsAs Unprinted = IsUnstarted × BreaksOff (Cuts out old_out new_out)
  EndsAs NoMemory = BreaksOff (PrintsPart out old_out new_out)
