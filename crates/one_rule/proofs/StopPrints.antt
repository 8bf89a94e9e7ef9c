-- What a step has printed where it stopped.
use Rattle.std.proofs.Common.{◌≢◌, [], inl, inr, refl, subst, sym, append-nil, Result, Ok, Err, IfErr}
use Rattle.world_api.specs.Printed.{SinkMeaning}
use Rattle.one_rule.specs.declared.stops.ReadStop.{ReadStop}
use Rattle.one_rule.specs.declared.stops.ReadStop.TheVariants as read
use Rattle.one_rule.specs.declared.stops.BuildStop.{BuildStop}
use Rattle.one_rule.specs.declared.stops.BuildStop.TheVariants as build
use Rattle.one_rule.specs.declared.rule.Rule.{Rule}
use Rattle.one_rule.specs.BuildSteps.{IsNoPrintStop, IsFailStop, LinePrints}
use Rattle.one_rule.specs.Course.{announced_text, body_text}
use Rattle.one_rule.specs.Ends.{ReadPrints, BuildPrints}
use Rattle.world_api.specs.Printing.{Prints, PrintsPart}
use Rattle.one_rule.specs.Texts.{reading_text, line_text}
use Rattle.world_api.proofs.PrintRuns.{part_of, prints_both, cut_second}

pub read_stop_prints : {S : Type 0} (meaning : SinkMeaning S) (old new : S) (stop : ReadStop) → stop ≢ read.Unprinted → Prints meaning old new reading_text → ReadPrints meaning old new (Err stop)
read_stop_prints meaning old new (read.Fault fault) other printed = printed
read_stop_prints meaning old new read.Unprinted other printed = absurd (other refl)
read_stop_prints meaning old new read.NoMemory other printed = printed

pub read_prints : {S : Type 0} (meaning : SinkMeaning S) (old new : S) (result : Result Rule ReadStop) → IfErr result (λ stop. stop ≢ read.Unprinted) → Prints meaning old new reading_text → ReadPrints meaning old new result
read_prints meaning old new (Ok rule) other printed = printed
read_prints meaning old new (Err stop) other printed = read_stop_prints meaning old new stop other printed

module _ {S : Type 0} (meaning : SinkMeaning S) (rule : Rule) where
  -- a stop before the line
  pub step_stop_prints : (old new : S) (stop : BuildStop) → IsNoPrintStop stop → Prints meaning old new announced_text → BuildPrints meaning rule old new (Err stop)
  step_stop_prints old new (build.Stopped fault) how printed = printed
  step_stop_prints old new (build.Failed fault) how printed = elim how [ ]
  step_stop_prints old new build.Unprinted how printed = elim how [ ]
  step_stop_prints old new build.NoMemory how printed = part_of meaning old new announced_text (line_text rule.line) printed

  -- a stop at the line
  pub line_stop_prints : (old mid new : S) (stop : BuildStop) → Prints meaning old mid announced_text → LinePrints meaning rule mid new (Err stop) → BuildPrints meaning rule old new (Err stop)
  line_stop_prints old mid new stop first (inl (is, cut)) = subst (λ s. BuildPrints meaning rule old new (Err s)) (sym is) (cut_second meaning old mid new announced_text (line_text rule.line) first cut)
  line_stop_prints old mid new stop first (inr (is, none)) =
      let both = subst (Prints meaning old new) (append-nil announced_text) (prints_both meaning old mid new announced_text [] first none) in
      subst (λ s. BuildPrints meaning rule old new (Err s)) (sym is) (part_of meaning old new announced_text (line_text rule.line) both)

  -- the line is printed, and the action is run
  pub made_prints : (old new : S) (result : Result (Unit {0}) BuildStop) → IfErr result (IsFailStop rule) → Prints meaning old new (body_text rule) → BuildPrints meaning rule old new result
  made_prints old new (Ok done) how printed = printed
  made_prints old new (Err (build.Stopped fault)) how printed = elim how [ ]
  made_prints old new (Err (build.Failed fault)) how printed = printed
  made_prints old new (Err build.Unprinted) how printed = elim how [ ]
  made_prints old new (Err build.NoMemory) how printed = subst (PrintsPart meaning old new) (append-nil (body_text rule)) (part_of meaning old new (body_text rule) [] printed)
