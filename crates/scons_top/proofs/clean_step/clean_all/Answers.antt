use Rattle.std.proofs.Common.{◌++◌, ◌∷◌, [], ap, drop, sym}
use Rattle.scons_top.proofs.Requesting.{below_at}
use Rattle.build_means.specs.Rules.{paths_of}
use Rattle.scons_top.proofs.Removing.{all_as, leaves_as, leaves_here, leaves_on, leaves_one, next_stopped, none_removed, paths_next, paths_parts, removed_on}
use Rattle.scons_top.specs.declared.step.Step.TheVariants as step
use Rattle.scons_top.proofs.Stepping.{stops_exit}
use Rattle.scons_top.proofs.Clearing.{cleared_same, none_gone, target_cleared, target_gone, targets_gone}
use Rattle.std.proofs.lemmas.List.{take_all}
use Rattle.scons_top.proofs.Stopping.{steps_here, steps_on}
use Rattle.scons_top.proofs.Remembered.{banks_here, banks_on}
use Rattle.std.proofs.Common.{arith, ◌≡◌, ◌∙◌, ◌+◌, refl, take}
use Rattle.build_run.proofs.Goings.{stays_here, stays_on}
use Rattle.scons_top.proofs.Watching.{idle_on, watches_on, watches_same}
use Rattle.scons_top.proofs.Causing.{exit_step, stop_back}
use Rattle.scons_top.proofs.clean_step.clean_all.Goals as goal

pub path-requires : goal.path-requires
path-requires g c = below_at c.args.graph.now c.args.targets.now c.loop-target.target-index _ c.loop-target-test.true c.requires.nodes

pub clean-requires : goal.clean-requires
clean-requires g c = record { idle = idle_on _ _ _ c.loop-target.invariant.stays.goes c.requires.idle }

pub returns-in_err-clean-clause-stays : goal.returns-in_err-clean-clause-stays
returns-in_err-clean-clause-stays g c = stays_on _ _ _ _ c.loop-target.invariant.stays c.clean.ensures.stays

pub returns-in_err-clean-clause-dry : goal.returns-in_err-clean-clause-dry
returns-in_err-clean-clause-dry g c = λ is. watches_on _ _ _ _ (c.loop-target.invariant.dry is) (c.clean.ensures.dry is)

pub loop-target-preserved : goal.loop-target-preserved
loop-target-preserved g c = record {
  stays = stays_on _ _ _ _ c.loop-target.invariant.stays c.clean.ensures.stays;
  same = λ err. c.in_ok-clean.ensures.steps err ∙ c.loop-target.invariant.same err;
  safe = steps_on _ _ _ _ c.clean.ensures.stays.goes.passes.told c.loop-target.invariant.safe c.clean.ensures.safe;
  moments = banks_on _ _ _ _ c.loop-target.invariant.moments c.clean.ensures.moments;
  dry = λ is. watches_on _ _ _ _ (c.loop-target.invariant.dry is) (c.clean.ensures.dry is);
  cleared = target_cleared g.W.Disk.meaning c.args.graph.now c.args.targets.now c.loop-target.target-index _ _ c.args.world.now c.loop-target.world c.clean.new.world
      c.loop-target-test.true c.path.ensures.at c.clean.ensures.stays.goes.passes.told.told c.loop-target.invariant.cleared c.clean.ensures.cleared;
  gone = target_gone g.W.Disk.meaning c.args.words.now c.args.graph.now c.args.targets.now c.loop-target.target-index _ _ c.loop-target.world c.clean.new.world
      c.loop-target-test.true c.path.ensures.at c.clean.ensures.stays.goes.passes.told.told c.clean.ensures.cleared c.in_ok-clean.ensures.gone c.loop-target.invariant.gone;
  left =
      let m = g.W.Disk.meaning in
      let words = c.args.words.now in
      let i = c.loop-target.invariant in
      let path = c.path in
      let one = leaves_one m words _ c.loop-target.world c.clean.new.world (idle_on _ _ _ i.stays.goes c.requires.idle) c.clean.ensures.stays.goes.passes.told.told c.clean.ensures.cleared c.in_ok-clean.ensures.gone c.clean.ensures.dry in
      leaves_as m words _ _ c.args.world.now c.clean.new.world (paths_next c.args.graph.now c.args.targets.now c.loop-target.target-index _ _ c.loop-target-test.true path.ensures.at)
      (leaves_on m words (paths_of c.args.graph.now (take c.loop-target.target-index c.args.targets.now)) (path.result.now ∷ []) c.args.world.now c.loop-target.world c.clean.new.world c.clean.ensures.stays.goes.passes.told.told i.left one);
  prints =
      let m = g.W.Disk.meaning in
      let o = g.O.Sink.meaning in
      let words = c.args.words.now in
      let i = c.loop-target.invariant in
      all_as m o words _ _ c.args.world.now c.clean.new.world _ _ (paths_next c.args.graph.now c.args.targets.now c.loop-target.target-index _ _ c.loop-target-test.true c.path.ensures.at)
      (removed_on m o words _ _ c.args.world.now c.loop-target.world c.clean.new.world _ _ _ c.clean.ensures.stays.goes.passes.told.told i.left i.prints c.in_ok-clean.ensures.prints);
}

pub returns-in_err-clean-clause-steps : goal.returns-in_err-clean-clause-steps
returns-in_err-clean-clause-steps g c = λ err.
    let r = c.from_residual in
    exit_step _ _ r.result _ r.ensures.1 (stop_back _ _ _ _ (c.loop-target.invariant.same err) (c.in_err-clean.ensures.steps err))

pub returns-clause-steps : goal.returns-clause-steps
returns-clause-steps g c = λ err. c.loop-target.invariant.same err

pub returns-in_err-clean-clause-safe : goal.returns-in_err-clean-clause-safe
returns-in_err-clean-clause-safe g c =
    steps_on _ _ _ _ c.clean.ensures.stays.goes.passes.told c.loop-target.invariant.safe c.clean.ensures.safe

pub returns-in_err-clean-clause-moments : goal.returns-in_err-clean-clause-moments
returns-in_err-clean-clause-moments g c =
    banks_on _ _ _ _ c.loop-target.invariant.moments c.clean.ensures.moments

pub loop-target-init : goal.loop-target-init
loop-target-init g c = record {
  stays = stays_here g.W.Disk.meaning c.args.world.now;
  same = λ err. refl;
  safe = steps_here g.W.Disk.meaning g.met.W.Disk.only_now c.args.world.now;
  moments = banks_here g.W.Disk.meaning g.met.W.Disk.only_now c.args.world.now;
  dry = λ is. watches_same g.W.Disk.meaning c.args.world.now;
  cleared = λ t. cleared_same _ _;
  gone = none_gone g.W.Disk.meaning c.args.words.now c.args.graph.now c.args.targets.now c.args.world.now;
  left = leaves_here g.W.Disk.meaning c.args.words.now c.args.world.now;
  prints = none_removed g.W.Disk.meaning g.O.Sink.meaning c.args.words.now c.args.world.now c.args.out.now;
}

pub returns-in_err-clean-clause-stops : goal.returns-in_err-clean-clause-stops
returns-in_err-clean-clause-stops g c =
    let r = c.from_residual in
    stops_exit step.Cleaning r.result _ r.ensures.1 c.in_err-clean.ensures.stops

pub returns-in_err-clean-clause-cleared : goal.returns-in_err-clean-clause-cleared
returns-in_err-clean-clause-cleared g c =
    target_cleared g.W.Disk.meaning c.args.graph.now c.args.targets.now c.loop-target.target-index _ _ c.args.world.now c.loop-target.world c.clean.new.world
    c.loop-target-test.true c.path.ensures.at c.clean.ensures.stays.goes.passes.told.told c.loop-target.invariant.cleared c.clean.ensures.cleared

pub returns-clause-gone : goal.returns-clause-gone
returns-clause-gone g c =
    let whole : take c.loop-target.target-index c.args.targets.now ≡ c.args.targets.now = take_all c.loop-target.target-index c.args.targets.now (omega arith) in
    targets_gone g.W.Disk.meaning c.args.words.now c.args.graph.now c.args.targets.now c.loop-target.target-index c.loop-target.world whole c.loop-target.invariant.gone

pub returns-clause-left : goal.returns-clause-left
returns-clause-left g c =
    let whole : take c.loop-target.target-index c.args.targets.now ≡ c.args.targets.now = take_all c.loop-target.target-index c.args.targets.now (omega arith) in
    leaves_as g.W.Disk.meaning c.args.words.now _ _ c.args.world.now c.loop-target.world (ap (paths_of c.args.graph.now) whole) c.loop-target.invariant.left

pub returns-clause-prints : goal.returns-clause-prints
returns-clause-prints g c =
    let whole : take c.loop-target.target-index c.args.targets.now ≡ c.args.targets.now = take_all c.loop-target.target-index c.args.targets.now (omega arith) in
    all_as g.W.Disk.meaning g.O.Sink.meaning c.args.words.now _ _ c.args.world.now c.loop-target.world _ _ (ap (paths_of c.args.graph.now) whole) c.loop-target.invariant.prints

pub returns-in_err-clean-clause-prints : goal.returns-in_err-clean-clause-prints
returns-in_err-clean-clause-prints g c =
    let graph = c.args.graph.now in
    let targets = c.args.targets.now in
    let index = c.loop-target.target-index in
    let next = paths_next graph targets index _ _ c.loop-target-test.true c.path.ensures.at in
    let r = c.from_residual in
    next_stopped g.W.Disk.meaning g.O.Sink.meaning c.args.words.now _ _ _ _ c.args.world.now c.loop-target.world c.clean.new.world _ _ _ r.result _
    (paths_parts graph targets (index + 1) ∙ ap (λ l. l ++ paths_of graph (drop (index + 1) targets)) (sym next))
    c.clean.ensures.stays.goes.passes.told.told c.loop-target.invariant.left c.loop-target.invariant.prints r.ensures.1 c.in_err-clean.ensures.prints
