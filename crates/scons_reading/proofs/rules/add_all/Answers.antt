use Rattle.std.proofs.Common.{arith, ◌∙◌, ◌+◌, refl, sym, subst}
use Rattle.std.specs.Prelude.{Err}
use Rattle.std.proofs.lemmas.Result.{err_from_is_err_and}
use Rattle.scons_host.specs.declared.stop.Stop.{Stop}
use Rattle.scons_host.specs.Shown.{IsTold}
use Rattle.scons_decls.specs.State.{Declared}
use Rattle.scons_host.proofs.Showing.{front, rest}
use Rattle.scons_reading.specs.Graphs.{IsWithin, Puts, IsRuleStop, Graphs}
use Rattle.scons_reading.proofs.Putting.{within_none, put_none, put_more, put_stop}
use Rattle.scons_rules.specs.PathGraphs.{graph_by}
use Rattle.world_api.proofs.Looking.{files_same, files_joined}
use Rattle.scons_reading.proofs.rules.add_all.Goals as goal

pub returns-in_err-add-clause-looks : goal.returns-in_err-add-clause-looks
returns-in_err-add-clause-looks g c = files_joined g.W.Disk.meaning c.args.world.now c.loop-number.world c.add.new.world c.loop-number.invariant.looks c.add.ensures.looks

pub loop-number-preserved : goal.loop-number-preserved
loop-number-preserved g c =
    let m = g.W.Disk.meaning in
    let there = c.loop-number.invariant.looks in
    let on = c.add.ensures.looks in
    let d = c.loop-number.reading.declared in
    record {
      looks = files_joined m c.args.world.now c.loop-number.world c.add.new.world there on;
      same = c.in_ok-add.ensures.cause ∙ c.loop-number.invariant.same;
      rest = c.add.ensures.rest ∙ c.loop-number.invariant.rest;
      within = subst (λ (e : Declared). IsWithin e c.add.new.locals) (sym c.add.ensures.rest) c.in_ok-add.ensures.still;
      puts = λ f s.
          subst (λ (e : Declared). Puts f e (c.loop-number.number + 1) (graph_by c.add.new.reading.graph)) (sym c.add.ensures.rest)
          (put_more f d c.loop-number.number (graph_by c.loop-number.reading.graph) (graph_by c.add.new.reading.graph)
          (c.loop-number.invariant.puts f (front m c.args.world.now c.loop-number.world c.add.new.world f on s))
          (c.in_ok-add.ensures.ok f (rest m c.args.world.now c.loop-number.world c.add.new.world f there on s)));
    }

pub loop-number-init : goal.loop-number-init
loop-number-init g c = record {
  looks = files_same g.W.Disk.meaning c.args.world.now;
  same = refl;
  rest = refl;
  within = within_none c.args.reading.now.declared c.in_ok-locals.locals c.in_ok-locals.ensures;
  puts = λ f s. put_none f c.args.reading.now.declared c.args.reading.now.graph c.requires;
}

pub returns-in_err-add-clause-fault : goal.returns-in_err-add-clause-fault
returns-in_err-add-clause-fault g c = λ f s.
    let m = g.W.Disk.meaning in
    let there = c.loop-number.invariant.looks in
    let on = c.add.ensures.looks in
    let d = c.args.reading.now.declared in
    let at = graph_by c.loop-number.reading.graph in
    let told = err_from_is_err_and c.from_residual-in_err-add.result c.from_residual-in_err-add.ensures.1 in
    rw told.1 (λ t.
    subst (λ (e : Stop). Graphs f d c.args.scripts.now (Err e)) (sym told.2)
    (put_stop f d c.args.scripts.now c.loop-number.number at c.in_err-add.field-0.0 (omega (arith, c.count-number-end.ensures))
    (subst (λ (e : Declared). Puts f e c.loop-number.number at) c.loop-number.invariant.rest (c.loop-number.invariant.puts f (front m c.args.world.now c.loop-number.world c.add.new.world f on s)))
    (subst (λ (e : Declared). IsRuleStop f e c.args.scripts.now c.loop-number.number at c.in_err-add.field-0.0) c.loop-number.invariant.rest
    (c.in_err-add.ensures.fault f (rest m c.args.world.now c.loop-number.world c.add.new.world f there on s) (subst IsTold told.2 t)))))
