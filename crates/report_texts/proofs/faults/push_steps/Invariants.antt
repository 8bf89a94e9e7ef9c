use Rattle.std.proofs.Common.{◌≡◌, ◌++◌, drop, string_bytes}
use Rattle.report_texts.specs.Faults.{steps_text}
use Rattle.report_texts.proofs.faults.push_steps.Given as goal

abbrev pub invariant-loop-path : goal.invariant-loop-path
invariant-loop-path l = string_bytes l.text ++ steps_text (drop l.path-index l.paths) ≡ string_bytes l.initial.text ++ steps_text l.paths
