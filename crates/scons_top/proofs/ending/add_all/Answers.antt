use Rattle.std.proofs.Common.{◌∙◌, ◌++◌, sym, ap, subst, map, length, List, Contains, append-nil}
use Rattle.std.specs.Prelude.{All}
use Rattle.std.proofs.lemmas.Iterator.Adapters.{YieldsList-from_vec}
use Rattle.std.proofs.lemmas.Iterator.Consumers.{YieldsList-end}
use Rattle.rule_graph.specs.declared.build_fault.BuildFault.{BuildFault}
use Rattle.scons_top.specs.Stops.{top_of}
use Rattle.scons_top.specs.Endings.{AddsFew}
use Rattle.scons_top.proofs.Counting.{more_few, none_few}
use Rattle.scons_top.proofs.Reporting.{all_added, each_added, none_added, whole}
use Rattle.scons_top.proofs.ending.add_all.Goals as goal

pub loop-fault-init : goal.loop-fault-init
loop-fault-init c = record { late = λ e. e; added = λ is. sym (append-nil _); each = none_added _; few = none_few c.args.faults.now }

pub loop-fault-preserved : goal.loop-fault-preserved
loop-fault-preserved c = record {
  late = λ e. c.add-lost.ensures.late (c.loop-fault.invariant.late e);
  added = λ is.
      let t = c.has_lost-lacks.ensures is in
      all_added _ _ _ _ _ c.from.result c.from.ensures.1 (c.add-lost.ensures.added t.1) (c.loop-fault.invariant.added t.0);
  each = each_added _ _ _ _ _ c.from.result _ c.from.ensures.1 c.add-lost.ensures.added c.add-lost.ensures.lost c.loop-fault.invariant.each;
  few = more_few c.args.faults.now c.loop-fault.faults c.add-lost.new.faults c.loop-fault.yielded c.in-Some.fault c.from.result _ c.from.ensures.1 c.add-lost.ensures.added c.add-lost.ensures.lost c.loop-fault.invariant.few;
}

pub returns-clause-added : goal.returns-clause-added
returns-clause-added c = λ is.
    let t = YieldsList-end (YieldsList-from_vec c.args.found (c.into_iter-fault-iterator.ensures.into_iter_gives.0 ∙ c.into_vec-fault-items.ensures) (c.into_iter-fault-iterator.ensures.into_iter_gives.1 ∙ (c.into_vec-fault-items.result.ok.0 ∙ ap length c.into_vec-fault-items.ensures))) c.loop-fault.yielded _ c.loop-fault.yielded_by _ c.next.new.self c.in-None.is c.next.ensures.steps in
    c.loop-fault.invariant.added is ∙ ap (λ (ys : List BuildFault). c.args.faults.now ++ map top_of ys) (whole _ _ t.0)

pub returns-clause-each : goal.returns-clause-each
returns-clause-each c =
    let t = YieldsList-end (YieldsList-from_vec c.args.found (c.into_iter-fault-iterator.ensures.into_iter_gives.0 ∙ c.into_vec-fault-items.ensures) (c.into_iter-fault-iterator.ensures.into_iter_gives.1 ∙ (c.into_vec-fault-items.result.ok.0 ∙ ap length c.into_vec-fault-items.ensures))) c.loop-fault.yielded _ c.loop-fault.yielded_by _ c.next.new.self c.in-None.is c.next.ensures.steps in
    subst (λ (ys : List BuildFault). All (Contains (c.args.faults.now ++ map top_of ys)) c.loop-fault.faults) (whole _ _ t.0) c.loop-fault.invariant.each

pub returns-clause-few : goal.returns-clause-few
returns-clause-few c =
    let t = YieldsList-end (YieldsList-from_vec c.args.found (c.into_iter-fault-iterator.ensures.into_iter_gives.0 ∙ c.into_vec-fault-items.ensures) (c.into_iter-fault-iterator.ensures.into_iter_gives.1 ∙ (c.into_vec-fault-items.result.ok.0 ∙ ap length c.into_vec-fault-items.ensures))) c.loop-fault.yielded _ c.loop-fault.yielded_by _ c.next.new.self c.in-None.is c.next.ensures.steps in
    subst (λ (ys : List BuildFault). AddsFew ys c.args.faults.now c.loop-fault.faults) (whole _ _ t.0) c.loop-fault.invariant.few
