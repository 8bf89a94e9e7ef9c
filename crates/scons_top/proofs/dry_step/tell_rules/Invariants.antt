use Rattle.std.proofs.Common.{◌≡◌, take}
use Rattle.scons_top.specs.Sinks.{Printed}
use Rattle.scons_top.specs.RunLines.{rules_text}
use Rattle.scons_top.proofs.dry_step.tell_rules.Given as goal

abbrev pub invariant-loop-rule : goal.invariant-loop-rule
invariant-loop-rule g l =
    let m = g.O.Sink.meaning in
    record {
      faults : m.faults l.out ≡ m.faults l.fn.out;
      prints : Printed m l.fn.out l.out (rules_text l.fn.words l.fn.graph (take l.rule-index l.rules));
    }
