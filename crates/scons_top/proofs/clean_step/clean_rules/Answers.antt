use Rattle.std.proofs.Common.{◌++◌, ◌<◌, ap, drop, length, subst, sym, true, List}
use Rattle.std.proofs.lemmas.List.Elements.{All-get_or}
use Rattle.rule_graph.specs.Rules.{are_below}
use Rattle.scons_base.specs.declared.ids.NodeId.{NodeId}
use Rattle.scons_base.specs.declared.ids.RuleId.{RuleId}
use Rattle.build_means.specs.Rules.{paths_of}
use Rattle.scons_report.specs.Cleaning.{rules_numbered}
use Rattle.scons_top.specs.Cleaned.{targets_of}
use Rattle.scons_top.proofs.Removing.{all_as, front_as, leaves_as, leaves_here, leaves_on, next_stopped, none_removed, removed_on, targets_next, targets_parts}
use Rattle.scons_top.specs.declared.step.Step.TheVariants as step
use Rattle.scons_top.proofs.Stepping.{stops_exit}
use Rattle.scons_top.proofs.Clearing.{as_cleared, as_removed, cleared_same, no_rule_gone, rule_cleared, rule_gone, rules_gone}
use Rattle.std.proofs.lemmas.List.{take_all}
use Rattle.scons_top.proofs.Stopping.{steps_here, steps_on}
use Rattle.scons_top.proofs.Remembered.{banks_here, banks_on}
use Rattle.std.proofs.Common.{arith, ◌≡◌, ◌∙◌, ◌+◌, refl, take}
use Rattle.build_run.proofs.Goings.{stays_here, stays_on}
use Rattle.scons_top.proofs.Watching.{idle_on, watches_on, watches_same}
use Rattle.scons_top.proofs.Causing.{exit_step, stop_back}
use Rattle.scons_top.proofs.clean_step.clean_rules.Goals as goal

pub rule-requires : goal.rule-requires
rule-requires g c =
    All-get_or (λ (rule : RuleId). rule.0 < length c.args.graph.now.rules) c.args.rules.now c.loop-rule.rule-index _ c.loop-rule-test.true c.requires.known

pub clean_all-requires : goal.clean_all-requires
clean_all-requires g c = record {
  idle = idle_on _ _ _ c.loop-rule.invariant.stays.goes c.requires.idle;
  nodes = subst (λ (nodes : List NodeId). are_below (length c.args.graph.now.nodes) nodes ≡ true) (sym c.as_slice-targets.ensures) c.rule.ensures.valid.targets;
}

pub returns-in_err-clean_all-clause-stays : goal.returns-in_err-clean_all-clause-stays
returns-in_err-clean_all-clause-stays g c = stays_on _ _ _ _ c.loop-rule.invariant.stays c.clean_all.ensures.stays

pub returns-in_err-clean_all-clause-dry : goal.returns-in_err-clean_all-clause-dry
returns-in_err-clean_all-clause-dry g c = λ is. watches_on _ _ _ _ (c.loop-rule.invariant.dry is) (c.clean_all.ensures.dry is)

pub loop-rule-preserved : goal.loop-rule-preserved
loop-rule-preserved g c = record {
  stays = stays_on _ _ _ _ c.loop-rule.invariant.stays c.clean_all.ensures.stays;
  same = λ err. c.in_ok-clean_all.ensures.steps err ∙ c.loop-rule.invariant.same err;
  safe = steps_on _ _ _ _ c.clean_all.ensures.stays.goes.passes.told c.loop-rule.invariant.safe c.clean_all.ensures.safe;
  moments = banks_on _ _ _ _ c.loop-rule.invariant.moments c.clean_all.ensures.moments;
  dry = λ is. watches_on _ _ _ _ (c.loop-rule.invariant.dry is) (c.clean_all.ensures.dry is);
  cleared = rule_cleared g.W.Disk.meaning c.args.graph.now c.args.rules.now c.loop-rule.rule-index _ _ c.args.world.now c.loop-rule.world c.clean_all.new.world
      c.loop-rule-test.true c.rule.ensures.at c.clean_all.ensures.stays.goes.passes.told.told c.loop-rule.invariant.cleared
      (as_cleared g.W.Disk.meaning c.args.graph.now _ _ c.loop-rule.world c.clean_all.new.world c.as_slice-targets.ensures c.clean_all.ensures.cleared);
  gone = rule_gone g.W.Disk.meaning c.args.words.now c.args.graph.now c.args.rules.now c.loop-rule.rule-index _ _ c.loop-rule.world c.clean_all.new.world
      c.loop-rule-test.true c.rule.ensures.at c.clean_all.ensures.stays.goes.passes.told.told
      (as_cleared g.W.Disk.meaning c.args.graph.now _ _ c.loop-rule.world c.clean_all.new.world c.as_slice-targets.ensures c.clean_all.ensures.cleared)
      (as_removed g.W.Disk.meaning c.args.words.now c.args.graph.now _ _ c.clean_all.new.world c.as_slice-targets.ensures c.in_ok-clean_all.ensures.gone) c.loop-rule.invariant.gone;
  left =
      let m = g.W.Disk.meaning in
      let words = c.args.words.now in
      let graph = c.args.graph.now in
      let i = c.loop-rule.invariant in
      let one = leaves_as m words _ _ c.loop-rule.world c.clean_all.new.world (ap (paths_of graph) c.as_slice-targets.ensures) c.in_ok-clean_all.ensures.left in
      leaves_as m words _ _ c.args.world.now c.clean_all.new.world (targets_next graph c.args.rules.now c.loop-rule.rule-index _ _ c.loop-rule-test.true c.rule.ensures.at)
      (leaves_on m words (targets_of (rules_numbered graph (take c.loop-rule.rule-index c.args.rules.now))) (paths_of graph c.rule.result.now.targets) c.args.world.now c.loop-rule.world c.clean_all.new.world c.clean_all.ensures.stays.goes.passes.told.told i.left one);
  prints =
      let m = g.W.Disk.meaning in
      let o = g.O.Sink.meaning in
      let words = c.args.words.now in
      let graph = c.args.graph.now in
      let i = c.loop-rule.invariant in
      let one = all_as m o words _ _ c.loop-rule.world c.clean_all.new.world _ _ (ap (paths_of graph) c.as_slice-targets.ensures) c.in_ok-clean_all.ensures.prints in
      all_as m o words _ _ c.args.world.now c.clean_all.new.world _ _ (targets_next graph c.args.rules.now c.loop-rule.rule-index _ _ c.loop-rule-test.true c.rule.ensures.at)
      (removed_on m o words _ _ c.args.world.now c.loop-rule.world c.clean_all.new.world _ _ _ c.clean_all.ensures.stays.goes.passes.told.told i.left i.prints one);
}

pub returns-in_err-clean_all-clause-steps : goal.returns-in_err-clean_all-clause-steps
returns-in_err-clean_all-clause-steps g c = λ err.
    let r = c.from_residual in
    exit_step _ _ r.result _ r.ensures.1 (stop_back _ _ _ _ (c.loop-rule.invariant.same err) (c.in_err-clean_all.ensures.steps err))

pub returns-clause-steps : goal.returns-clause-steps
returns-clause-steps g c = λ err. c.loop-rule.invariant.same err

pub returns-in_err-clean_all-clause-safe : goal.returns-in_err-clean_all-clause-safe
returns-in_err-clean_all-clause-safe g c =
    steps_on _ _ _ _ c.clean_all.ensures.stays.goes.passes.told c.loop-rule.invariant.safe c.clean_all.ensures.safe

pub returns-in_err-clean_all-clause-moments : goal.returns-in_err-clean_all-clause-moments
returns-in_err-clean_all-clause-moments g c =
    banks_on _ _ _ _ c.loop-rule.invariant.moments c.clean_all.ensures.moments

pub loop-rule-init : goal.loop-rule-init
loop-rule-init g c = record {
  stays = stays_here g.W.Disk.meaning c.args.world.now;
  same = λ err. refl;
  safe = steps_here g.W.Disk.meaning g.met.W.Disk.only_now c.args.world.now;
  moments = banks_here g.W.Disk.meaning g.met.W.Disk.only_now c.args.world.now;
  dry = λ is. watches_same g.W.Disk.meaning c.args.world.now;
  cleared = λ t. cleared_same _ _;
  gone = no_rule_gone g.W.Disk.meaning c.args.words.now c.args.graph.now c.args.rules.now c.args.world.now;
  left = leaves_here g.W.Disk.meaning c.args.words.now c.args.world.now;
  prints = none_removed g.W.Disk.meaning g.O.Sink.meaning c.args.words.now c.args.world.now c.args.out.now;
}

pub returns-in_err-clean_all-clause-stops : goal.returns-in_err-clean_all-clause-stops
returns-in_err-clean_all-clause-stops g c =
    let r = c.from_residual in
    stops_exit step.Cleaning r.result _ r.ensures.1 c.in_err-clean_all.ensures.stops

pub returns-in_err-clean_all-clause-cleared : goal.returns-in_err-clean_all-clause-cleared
returns-in_err-clean_all-clause-cleared g c =
    rule_cleared g.W.Disk.meaning c.args.graph.now c.args.rules.now c.loop-rule.rule-index _ _ c.args.world.now c.loop-rule.world c.clean_all.new.world
    c.loop-rule-test.true c.rule.ensures.at c.clean_all.ensures.stays.goes.passes.told.told c.loop-rule.invariant.cleared
    (as_cleared g.W.Disk.meaning c.args.graph.now _ _ c.loop-rule.world c.clean_all.new.world c.as_slice-targets.ensures c.clean_all.ensures.cleared)

pub returns-clause-gone : goal.returns-clause-gone
returns-clause-gone g c =
    let whole : take c.loop-rule.rule-index c.args.rules.now ≡ c.args.rules.now = take_all c.loop-rule.rule-index c.args.rules.now (omega arith) in
    rules_gone g.W.Disk.meaning c.args.words.now c.args.graph.now c.args.rules.now c.loop-rule.rule-index c.loop-rule.world whole c.loop-rule.invariant.gone

pub returns-clause-left : goal.returns-clause-left
returns-clause-left g c =
    let whole : take c.loop-rule.rule-index c.args.rules.now ≡ c.args.rules.now = take_all c.loop-rule.rule-index c.args.rules.now (omega arith) in
    leaves_as g.W.Disk.meaning c.args.words.now _ _ c.args.world.now c.loop-rule.world (ap (λ (l : List RuleId). targets_of (rules_numbered c.args.graph.now l)) whole) c.loop-rule.invariant.left

pub returns-clause-prints : goal.returns-clause-prints
returns-clause-prints g c =
    let whole : take c.loop-rule.rule-index c.args.rules.now ≡ c.args.rules.now = take_all c.loop-rule.rule-index c.args.rules.now (omega arith) in
    all_as g.W.Disk.meaning g.O.Sink.meaning c.args.words.now _ _ c.args.world.now c.loop-rule.world _ _ (ap (λ (l : List RuleId). targets_of (rules_numbered c.args.graph.now l)) whole) c.loop-rule.invariant.prints

pub returns-in_err-clean_all-clause-prints : goal.returns-in_err-clean_all-clause-prints
returns-in_err-clean_all-clause-prints g c =
    let graph = c.args.graph.now in
    let rules = c.args.rules.now in
    let index = c.loop-rule.rule-index in
    let named = ap (paths_of graph) c.as_slice-targets.ensures in
    let next = targets_next graph rules index _ _ c.loop-rule-test.true c.rule.ensures.at in
    let r = c.from_residual in
    next_stopped g.W.Disk.meaning g.O.Sink.meaning c.args.words.now _ _ _ _ c.args.world.now c.loop-rule.world c.clean_all.new.world _ _ _ r.result _
    (targets_parts graph rules (index + 1) ∙ ap (λ l. l ++ targets_of (rules_numbered graph (drop (index + 1) rules))) (sym next))
    c.clean_all.ensures.stays.goes.passes.told.told c.loop-rule.invariant.left c.loop-rule.invariant.prints r.ensures.1
    (front_as g.W.Disk.meaning g.O.Sink.meaning c.args.words.now _ _ _ c.loop-rule.world c.clean_all.new.world _ _ named c.in_err-clean_all.ensures.prints)
