use Rattle.std.proofs.Common.{◌≡◌, ◌++◌, ◌-◌}
use Rattle.build_model.specs.Reach.{breadth_first}
use Rattle.model_trials.specs.Plain.{included}
use Rattle.model_trials.proofs.reach.breadth_first.Given as goal

abbrev pub invariant-loop-taken : goal.invariant-loop-taken
invariant-loop-taken l =
    l.found.items ++ breadth_first (included l.scans) (l.room - l._taken) l.seen.items l.waiting.items
    ≡ breadth_first (included l.scans) l.room l.initial.seen.items l.initial.waiting.items
