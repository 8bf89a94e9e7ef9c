use Rattle.std.proofs.Common.{◌∙◌, ◌≡◌, ◌<◌, ◌+◌, [], List, length, get_or, take, arith, refl, sym, ap, subst}
use Rattle.std.proofs.lemmas.List.{get_or_default}
use Rattle.scons_base.specs.declared.ids.NodeId.{NodeId}
use Rattle.deciders.specs.declared.recorded.Dep.{Dep}
use Rattle.deciders.specs.declared.recorded.Rec.{Rec}
use Rattle.rule_graph.specs.Graphs.{path_of}
use Rattle.world_api.proofs.Looking.{looks_same, looks_joined}
use Rattle.build_means.specs.Rules.{IsReading, paths_of}
use Rattle.build_files.specs.Kept.{past, stamp_past}
use Rattle.build_files.proofs.Marking.{marks_none, marks_joined}
use Rattle.build_files.proofs.Presence.{AreThere, none_there, there_more, first_absent, is_present, among_ids, at_path, still_on, seen_since, ok_same, not_missing, is_missing}
use Rattle.build_files.proofs.Reading.{reads_next, reads_none}
use Rattle.build_files.proofs.RuleAt.{of_rule}
use Rattle.build_files.proofs.inputs.Inputs.present.Goals as goal

pub returns-in_err-dep-clause-looks : goal.returns-in_err-dep-clause-looks
returns-in_err-dep-clause-looks g c = looks_joined _ _ _ _ c.loop-node.invariant.looks c.dep.ensures.looks

pub returns-in_err-push-clause-looks : goal.returns-in_err-push-clause-looks
returns-in_err-push-clause-looks g c = looks_joined _ _ _ _ c.loop-node.invariant.looks c.dep.ensures.looks

pub returns-then-is_lacking-clause-looks : goal.returns-then-is_lacking-clause-looks
returns-then-is_lacking-clause-looks g c = looks_joined _ _ _ _ c.loop-node.invariant.looks c.dep.ensures.looks

pub returns-in_err-dep-clause-only : goal.returns-in_err-dep-clause-only
returns-in_err-dep-clause-only g c =
    reads_next c.args.nodes.now c.loop-node.node-index (record { 0 = 0 }) c.args.self.now c.loop-node.self c.dep.new.self (omega (arith, c.loop-node-test.true))
    c.loop-node.invariant.only c.dep.ensures.only

pub returns-in_err-push-clause-only : goal.returns-in_err-push-clause-only
returns-in_err-push-clause-only g c =
    reads_next c.args.nodes.now c.loop-node.node-index (record { 0 = 0 }) c.args.self.now c.loop-node.self c.dep.new.self (omega (arith, c.loop-node-test.true))
    c.loop-node.invariant.only c.dep.ensures.only

pub returns-then-is_lacking-clause-only : goal.returns-then-is_lacking-clause-only
returns-then-is_lacking-clause-only g c =
    reads_next c.args.nodes.now c.loop-node.node-index (record { 0 = 0 }) c.args.self.now c.loop-node.self c.dep.new.self (omega (arith, c.loop-node-test.true))
    c.loop-node.invariant.only c.dep.ensures.only

pub returns-in_err-dep-clause-marks : goal.returns-in_err-dep-clause-marks
returns-in_err-dep-clause-marks g c = marks_joined _ _ _ _ _ _ c.loop-node.invariant.marks c.dep.ensures.marks

pub returns-in_err-push-clause-marks : goal.returns-in_err-push-clause-marks
returns-in_err-push-clause-marks g c = marks_joined _ _ _ _ _ _ c.loop-node.invariant.marks c.dep.ensures.marks

pub returns-then-is_lacking-clause-marks : goal.returns-then-is_lacking-clause-marks
returns-then-is_lacking-clause-marks g c = marks_joined _ _ _ _ _ _ c.loop-node.invariant.marks c.dep.ensures.marks

pub returns-in_err-dep-clause-truth : goal.returns-in_err-dep-clause-truth
returns-in_err-dep-clause-truth g c = λ still told b is.
    let graph = c.args.graph.now in
    let within : c.loop-node.node-index < length c.args.nodes.now = omega (arith, c.loop-node-test.true) in
    let node : NodeId = get_or c.args.nodes.now c.loop-node.node-index (record { 0 = 0 }) in
    let is_node : node ≡ get_or c.args.nodes.now c.loop-node.node-index node = get_or_default c.args.nodes.now c.loop-node.node-index (record { 0 = 0 }) node within in
    let among = among_ids c.args.nodes.now c.loop-node.node-index node within is_node in
    let before = c.dep.ensures.looks.told.told told in
    c.dep.ensures.truth (still_on graph _ _ node.0 (c.loop-node.invariant.looks.around before) (still node among)) told b (c.loop-node.invariant.truth still before b is)

pub returns-in_err-push-clause-truth : goal.returns-in_err-push-clause-truth
returns-in_err-push-clause-truth g c = λ still told b is.
    let graph = c.args.graph.now in
    let within : c.loop-node.node-index < length c.args.nodes.now = omega (arith, c.loop-node-test.true) in
    let node : NodeId = get_or c.args.nodes.now c.loop-node.node-index (record { 0 = 0 }) in
    let is_node : node ≡ get_or c.args.nodes.now c.loop-node.node-index node = get_or_default c.args.nodes.now c.loop-node.node-index (record { 0 = 0 }) node within in
    let among = among_ids c.args.nodes.now c.loop-node.node-index node within is_node in
    let before = c.dep.ensures.looks.told.told told in
    c.dep.ensures.truth (still_on graph _ _ node.0 (c.loop-node.invariant.looks.around before) (still node among)) told b (c.loop-node.invariant.truth still before b is)

pub returns-then-is_lacking-clause-truth : goal.returns-then-is_lacking-clause-truth
returns-then-is_lacking-clause-truth g c = λ still told b is.
    let graph = c.args.graph.now in
    let within : c.loop-node.node-index < length c.args.nodes.now = omega (arith, c.loop-node-test.true) in
    let node : NodeId = get_or c.args.nodes.now c.loop-node.node-index (record { 0 = 0 }) in
    let is_node : node ≡ get_or c.args.nodes.now c.loop-node.node-index node = get_or_default c.args.nodes.now c.loop-node.node-index (record { 0 = 0 }) node within in
    let among = among_ids c.args.nodes.now c.loop-node.node-index node within is_node in
    let before = c.dep.ensures.looks.told.told told in
    c.dep.ensures.truth (still_on graph _ _ node.0 (c.loop-node.invariant.looks.around before) (still node among)) told b (c.loop-node.invariant.truth still before b is)

pub loop-node-init : goal.loop-node-init
loop-node-init g c = record {
  looks = looks_same _ _;
  counts = refl;
  gone = refl;
  only = reads_none c.args.nodes.now c.args.self.now;
  marks = marks_none _ _;
  truth = λ still told b is. is;
  there = λ still told b is r same.
      subst (λ (deps : List Dep). AreThere b r (past c.args.self.now.gone.keys (g.W.Disk.meaning.around c.args.world.now).tree)
      (stamp_past c.args.self.now.gone.keys (g.W.Disk.meaning.around c.args.world.now)) [] deps)
      (sym c.in_ok-deps.ensures.items) (none_there b r _ _);
}

pub loop-node-preserved : goal.loop-node-preserved
loop-node-preserved g c =
    let graph = c.args.graph.now in
    let within : c.loop-node.node-index < length c.args.nodes.now = omega (arith, c.loop-node-test.true) in
    let node : NodeId = get_or c.args.nodes.now c.loop-node.node-index (record { 0 = 0 }) in
    let is_node : node ≡ get_or c.args.nodes.now c.loop-node.node-index node = get_or_default c.args.nodes.now c.loop-node.node-index (record { 0 = 0 }) node within in
    let among = among_ids c.args.nodes.now c.loop-node.node-index node within is_node in
    let now : IsReading graph = record { apart = c.laws.ensures.apart; single = c.laws.ensures.single; named = c.laws.ensures.named } in
    record {
      looks = looks_joined _ _ _ _ c.loop-node.invariant.looks c.dep.ensures.looks;
      counts = c.in_ok-dep.ensures.cause ∙ c.loop-node.invariant.counts;
      gone = c.dep.ensures.gone ∙ c.loop-node.invariant.gone;
      only = reads_next c.args.nodes.now c.loop-node.node-index (record { 0 = 0 }) c.args.self.now c.loop-node.self c.dep.new.self within c.loop-node.invariant.only c.dep.ensures.only;
      marks = marks_joined _ _ _ _ _ _ c.loop-node.invariant.marks c.dep.ensures.marks;
      truth = λ still told b is.
          let before = c.dep.ensures.looks.told.told told in
          c.dep.ensures.truth (still_on graph _ _ node.0 (c.loop-node.invariant.looks.around before) (still node among)) told b (c.loop-node.invariant.truth still before b is);
      there = λ still told b is r same.
          let before = c.dep.ensures.looks.told.told told in
          let asks = c.loop-node.invariant.looks.around before in
          let around = g.W.Disk.meaning.around c.args.world.now in
          let gone = c.args.self.now.gone.keys in
          let at = at_path graph node c.in_ok-dep.dep.name c.in_ok-dep.ensures.node in
          let found = c.in_ok-dep.ensures.dep (still_on graph _ _ node.0 asks (still node among)) told b (c.loop-node.invariant.truth still before b is) r same in
          let seen = seen_since b r c.args.self.now c.loop-node.self around (g.W.Disk.meaning.around c.loop-node.world) (path_of graph.nodes node) c.in_ok-dep.dep (still node among (path_of graph.nodes node) at) asks
          c.loop-node.invariant.gone found in
          let stays = not_missing b graph is.reading now is.grown (past gone around.tree) node.0 (path_of graph.nodes node) c.in_ok-dep.dep.digest c.is_lacking.result at seen.digest
          c.is_lacking.ensures c.if-is_lacking.false in
          subst (λ (deps : List Dep). AreThere b r (past gone around.tree) (stamp_past gone around) (paths_of graph (take (c.loop-node.node-index + 1) c.args.nodes.now)) deps)
          (sym c.in_ok-push.ensures.items)
          (there_more b r (past gone around.tree) (stamp_past gone around) graph c.args.nodes.now c.loop-node.node-index node within is_node c.loop-node.deps.items c.in_ok-dep.dep
          (c.loop-node.invariant.there still before b is r same) seen stays);
    }

pub returns-then-is_lacking-clause-present : goal.returns-then-is_lacking-clause-present
returns-then-is_lacking-clause-present g c = λ still told b is r numbered.
    let graph = c.args.graph.now in
    let within : c.loop-node.node-index < length c.args.nodes.now = omega (arith, c.loop-node-test.true) in
    let node : NodeId = get_or c.args.nodes.now c.loop-node.node-index (record { 0 = 0 }) in
    let is_node : node ≡ get_or c.args.nodes.now c.loop-node.node-index node = get_or_default c.args.nodes.now c.loop-node.node-index (record { 0 = 0 }) node within in
    let among = among_ids c.args.nodes.now c.loop-node.node-index node within is_node in
    let now : IsReading graph = record { apart = c.laws.ensures.apart; single = c.laws.ensures.single; named = c.laws.ensures.named } in
    let same = (of_rule b graph is.grown c.args.rule.0 c.in_ok-decider.field-0.now r c.in_ok-decider.ensures.at numbered).decider in
    let before = c.dep.ensures.looks.told.told told in
    let asks = c.loop-node.invariant.looks.around before in
    let around = g.W.Disk.meaning.around c.args.world.now in
    let gone = c.args.self.now.gone.keys in
    let at = at_path graph node c.in_ok-dep.dep.name c.in_ok-dep.ensures.node in
    let found = c.in_ok-dep.ensures.dep (still_on graph _ _ node.0 asks (still node among)) told b (c.loop-node.invariant.truth still before b is) r same in
    let seen = seen_since b r c.args.self.now c.loop-node.self around (g.W.Disk.meaning.around c.loop-node.world) (path_of graph.nodes node) c.in_ok-dep.dep (still node among (path_of graph.nodes node) at) asks
    c.loop-node.invariant.gone found in (
      among,
      λ looked.
          let missing = is_missing b graph is.reading now is.grown (past gone around.tree) node c.in_ok-dep.dep.digest c.is_lacking.result seen.digest c.is_lacking.ensures c.if-is_lacking.true looked in
          first_absent b r (past gone around.tree) (stamp_past gone around) graph c.args.nodes.now c.loop-node.node-index node within is_node c.loop-node.deps.items
          (c.loop-node.invariant.there still before b is r same) missing,
    )

pub returns-clause-present : goal.returns-clause-present
returns-clause-present g c = λ still told b is r numbered.
    let graph = c.args.graph.now in
    let around = g.W.Disk.meaning.around c.args.world.now in
    let gone = c.args.self.now.gone.keys in
    let same = (of_rule b graph is.grown c.args.rule.0 c.in_ok-decider.field-0.now r c.in_ok-decider.ensures.at numbered).decider in
    let after = c.loop-node.invariant.truth still told b is in
    let there = c.loop-node.invariant.there still told b is r same in
    let is_rec : c.in_ok-rec.rec ≡ record {
      work = c.in_ok-named.named.now.work;
      hash = c.loop-node.self.hash;
      targets = c.in_ok-targets.targets;
      signed = c.in_ok-signed.signed;
      deps = c.new.result;
    } = ok_same c.rec_of.result c.in_ok-rec.was c.rec_of.ensures in
    is_present b graph c.args.rule.0 c.in_ok-named.named.now r (past gone around.tree) (stamp_past gone around) c.args.nodes.now c.loop-node.node-index c.in_ok-rec.rec is.grown
    c.in_ok-named.ensures.at numbered (omega arith)
    (subst (λ (deps : List Dep). AreThere b r (past gone around.tree) (stamp_past gone around) (paths_of graph (take c.loop-node.node-index c.args.nodes.now)) deps)
    (sym (ap (λ (rec : Rec). rec.deps) is_rec ∙ c.new.ensures)) there)
    (ap (λ (rec : Rec). rec.work) is_rec) (ap (λ (rec : Rec). rec.hash) is_rec ∙ after.hash) (ap (λ (rec : Rec). rec.signed) is_rec ∙ c.in_ok-signed.ensures)
    (ap (λ (rec : Rec). rec.targets) is_rec ∙ c.in_ok-targets.ensures ∙ ap (λ (nodes : List NodeId). paths_of graph nodes) c.as_slice.ensures)
