use Rattle.std.proofs.Common.{◌∙◌, inl, inr, ap, subst, Ok, Err, IfErr}
use Rattle.std.proofs.lemmas.Result.{err_from_is_err_and}
use Rattle.one_rule.specs.declared.report.Top.TheVariants.{TreeFault}
use Rattle.one_rule.specs.declared.stops.BuildStop.TheVariants.{Stopped}
use Rattle.one_rule.specs.Building.{Idles, Leaves}
use Rattle.one_rule.specs.BuildSteps.{IsFailStop, LinePrints}
use Rattle.one_rule.specs.Ends.{BuildMakes}
use Rattle.one_rule.specs.Course.{announced_text}
use Rattle.one_rule.specs.Texts.{line_text}
use Rattle.one_rule.proofs.Builds.{no_change, unchanged_idles, two_steps, idle_leaves, step_leaves, kept, made_gives, made_after}
use Rattle.world_api.proofs.PrintRuns.{prints_both, cut_longer}
use Rattle.one_rule.proofs.StopPrints.{line_stop_prints, made_prints}
use Rattle.one_rule.proofs.building.build.Goals as goal

pub returns-in_err-announce-clause-leaves : goal.returns-in_err-announce-clause-leaves
returns-in_err-announce-clause-leaves g c told =
    inl (no_change (g.W.Disk.meaning.around c.args.world.now) (c.requires.idle told))

pub returns-in_err-announce-clause-printed : goal.returns-in_err-announce-clause-printed
returns-in_err-announce-clause-printed g c =
    let stop = err_from_is_err_and c.from_residual.result c.from_residual.ensures.1 in
    rw (stop.1, stop.2) (cut_longer g.O.Sink.meaning c.args.out.now c.announce.new.out announced_text (line_text c.args.rule.line) c.in_err-announce.ensures.err)

pub returns-in_err-rule-clause-leaves : goal.returns-in_err-rule-clause-leaves
returns-in_err-rule-clause-leaves g c told =
    inl (c.find_source.ensures.unchanged told)

pub returns-in_err-rule-2-clause-leaves : goal.returns-in_err-rule-2-clause-leaves
returns-in_err-rule-2-clause-leaves g c told =
    let around = g.W.Disk.meaning.around in
    let second = c.remove_target.ensures in
    let removed = subst (λ rule. Idles rule (around c.find_source.new.world) (around c.remove_target.new.world)) c.in_ok-rule.ensures.same (second.idles told) in
    inr (
      c.in_ok-rule.ensures.gives (second.told.told told),
      idle_leaves c.args.rule (g.W.Disk.meaning.counts c.args.world.now) (around c.args.world.now) (around c.remove_target.new.world)
          (two_steps c.args.rule (around c.args.world.now) (around c.find_source.new.world) (around c.remove_target.new.world) (unchanged_idles c.args.rule (around c.args.world.now) (around c.find_source.new.world) (c.find_source.ensures.unchanged (second.told.told told))) removed),
    )

pub returns-in_err-rule-2-clause-gives : goal.returns-in_err-rule-2-clause-gives
returns-in_err-rule-2-clause-gives g c told =
    let stop = err_from_is_err_and c.from_residual-in_err-rule-2.result c.from_residual-in_err-rule-2.ensures.1 in
    let source = c.in_ok-rule.ensures.gives (c.remove_target.ensures.told.told told) in
    rw (stop.1, stop.2) (kept c.args.rule (g.W.Disk.meaning.around c.args.world.now).tree source c.in_err-rule-2.field-0.0
    (c.in_err-rule-2.ensures.stop ∙ ap (λ rule. Stopped (TreeFault rule.target)) c.in_ok-rule.ensures.same))

pub returns-in_err-print_line-clause-leaves : goal.returns-in_err-print_line-clause-leaves
returns-in_err-print_line-clause-leaves g c told =
    let around = g.W.Disk.meaning.around in
    let second = c.remove_target.ensures in
    let removed = subst (λ rule. Idles rule (around c.find_source.new.world) (around c.remove_target.new.world)) c.in_ok-rule.ensures.same (second.idles told) in
    inr (
      c.in_ok-rule.ensures.gives (second.told.told told),
      idle_leaves c.args.rule (g.W.Disk.meaning.counts c.args.world.now) (around c.args.world.now) (around c.remove_target.new.world)
          (two_steps c.args.rule (around c.args.world.now) (around c.find_source.new.world) (around c.remove_target.new.world) (unchanged_idles c.args.rule (around c.args.world.now) (around c.find_source.new.world) (c.find_source.ensures.unchanged (second.told.told told))) removed),
    )

pub returns-in_err-print_line-clause-printed : goal.returns-in_err-print_line-clause-printed
returns-in_err-print_line-clause-printed g c =
    let stop = err_from_is_err_and c.from_residual-in_err-print_line.result c.from_residual-in_err-print_line.ensures.1 in
    let rule = c.in_ok-rule-2.ensures.same ∙ c.in_ok-rule.ensures.same in
    rw (stop.1, stop.2)
    (line_stop_prints g.O.Sink.meaning c.args.rule c.args.out.now c.announce.new.out c.print_line.new.out c.in_err-print_line.field-0.0
    c.in_ok-announce.ensures.ok
    (subst (λ r. LinePrints g.O.Sink.meaning r c.announce.new.out c.print_line.new.out (Err c.in_err-print_line.field-0.0)) rule c.in_err-print_line.ensures))

-- the rule and the counts that the action is run with are those of the call
pub returns-clause-leaves : goal.returns-clause-leaves
returns-clause-leaves g c told =
    let around = g.W.Disk.meaning.around in
    let second = c.remove_target.ensures in
    let cleared = c.make.ensures.told.told told in
    let rule = c.in_ok-rule-2.ensures.same ∙ c.in_ok-rule.ensures.same in
    let counts = c.in_ok-rule-2.ensures.cause ∙ c.in_ok-rule.ensures.cause in
    let removed = subst (λ r. Idles r (around c.find_source.new.world) (around c.remove_target.new.world)) c.in_ok-rule.ensures.same (second.idles cleared) in
    let made = subst (λ n. Leaves c.args.rule n (around c.remove_target.new.world) (around c.make.new.world)) counts
    (subst (λ r. Leaves r (g.W.Disk.meaning.counts c.remove_target.new.world) (around c.remove_target.new.world) (around c.make.new.world)) rule (c.make.ensures.leaves told)) in
    inr (
      c.in_ok-rule.ensures.gives (second.told.told cleared),
      step_leaves c.args.rule (g.W.Disk.meaning.counts c.args.world.now) (around c.args.world.now) (around c.remove_target.new.world) (around c.make.new.world)
          (two_steps c.args.rule (around c.args.world.now) (around c.find_source.new.world) (around c.remove_target.new.world) (unchanged_idles c.args.rule (around c.args.world.now) (around c.find_source.new.world) (c.find_source.ensures.unchanged (second.told.told cleared))) removed)
          made,
    )

pub returns-clause-gives : goal.returns-clause-gives
returns-clause-gives g c told =
    let rule = c.in_ok-rule-2.ensures.same ∙ c.in_ok-rule.ensures.same in
    let source = c.in_ok-rule.ensures.gives (c.remove_target.ensures.told.told (c.make.ensures.told.told told)) in
    made_gives c.args.rule (g.W.Disk.meaning.around c.args.world.now).tree source c.make.result (subst (λ r. IfErr c.make.result (IsFailStop r)) rule c.make.ensures.stop)

pub returns-clause-makes : goal.returns-clause-makes
returns-clause-makes g c told =
    let around = g.W.Disk.meaning.around in
    let sure = g.W.Disk.meaning.sure c.make.new.world in
    let second = c.remove_target.ensures in
    let cleared = c.make.ensures.told.told told in
    let rule = c.in_ok-rule-2.ensures.same ∙ c.in_ok-rule.ensures.same in
    let counts = c.in_ok-rule-2.ensures.cause ∙ c.in_ok-rule.ensures.cause in
    let removed = subst (λ r. Idles r (around c.find_source.new.world) (around c.remove_target.new.world)) c.in_ok-rule.ensures.same (second.idles cleared) in
    let made = subst (λ n. BuildMakes sure c.args.rule n (around c.remove_target.new.world) (around c.make.new.world) c.make.result) counts
    (subst (λ r. BuildMakes sure r (g.W.Disk.meaning.counts c.remove_target.new.world) (around c.remove_target.new.world) (around c.make.new.world) c.make.result) rule (c.make.ensures.makes told)) in
    made_after c.args.rule c.requires.others sure (g.W.Disk.meaning.counts c.args.world.now) (around c.args.world.now) (around c.remove_target.new.world) (around c.make.new.world)
    (two_steps c.args.rule (around c.args.world.now) (around c.find_source.new.world) (around c.remove_target.new.world) (unchanged_idles c.args.rule (around c.args.world.now) (around c.find_source.new.world) (c.find_source.ensures.unchanged (second.told.told cleared))) removed)
    c.make.result made

pub returns-clause-printed : goal.returns-clause-printed
returns-clause-printed g c =
    let rule = c.in_ok-rule-2.ensures.same ∙ c.in_ok-rule.ensures.same in
    let line = subst (λ r. LinePrints g.O.Sink.meaning r c.announce.new.out c.print_line.new.out (Ok c.in_ok-print_line.field-0)) rule c.in_ok-print_line.ensures in
    made_prints g.O.Sink.meaning c.args.rule c.args.out.now c.print_line.new.out c.make.result (subst (λ r. IfErr c.make.result (IsFailStop r)) rule c.make.ensures.stop)
    (prints_both g.O.Sink.meaning c.args.out.now c.announce.new.out c.print_line.new.out announced_text (line_text c.args.rule.line) c.in_ok-announce.ensures.ok line)
