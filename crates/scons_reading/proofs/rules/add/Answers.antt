use Rattle.std.proofs.Common.{◌∙◌, Ok, Err, ap, subst, map}
use Rattle.scons_host.specs.Shown.{IsTold}
use Rattle.scons_reading.specs.Graphs.{found, rule_stop, standing_in}
use Rattle.scons_rules.specs.declared.fault.RuleReadFault.{RuleReadFault}
use Rattle.scons_rules.specs.declared.libraries.Wanted.{Wanted}
use Rattle.scons_rules.specs.Libraries.{found_in}
use Rattle.scons_rules.specs.PathGraphs.{graph_by}
use Rattle.scons_decls.specs.State.{Declared}
use Rattle.std.specs.Prelude.{List}
use Rattle.scons_reading.proofs.Putting.{adds}
use Rattle.scons_reading.proofs.rules.add.Goals as goal

pub returns-in-Ok-add-clause-ok : goal.returns-in-Ok-add-clause-ok
returns-in-Ok-add-clause-ok g c = λ f s.
    adds f c.args.reading.now.declared c.args.number (graph_by c.args.reading.now.graph) c.wanted.new.locals c.in-Ok.wanted c.in_ok-libraries.libraries (Ok (graph_by c.add.new.self.graph))
    c.in-Ok.ensures.known (c.in-Ok.ensures.ok f)
    (c.in_ok-libraries.ensures.ok f s ∙ ap (λ (w : List Wanted). found (map (found_in (standing_in f)) w)) c.as_slice.ensures) c.in-Ok-add.ensures.ok

pub returns-clause-fault : goal.returns-clause-fault
returns-clause-fault g c = λ f s t.
    let d = c.args.reading.now.declared in
    let told = c.rule_stop-in-Err-add.ensures.told t ∙ ap (λ (e : Declared). rule_stop c.args.scripts.now e c.args.number c.in-Err-add.fault) c.add.ensures.rest in (
      c.in-Err-add.fault,
      adds f d c.args.number (graph_by c.args.reading.now.graph) c.wanted.new.locals c.in-Ok.wanted c.in_ok-libraries.libraries (Err c.in-Err-add.fault)
          c.in-Ok.ensures.known (c.in-Ok.ensures.ok f)
          (c.in_ok-libraries.ensures.ok f s ∙ ap (λ (w : List Wanted). found (map (found_in (standing_in f)) w)) c.as_slice.ensures)
          (c.in-Err-add.ensures.fault (λ short. subst (λ (e : RuleReadFault). IsTold (rule_stop c.args.scripts.now d c.args.number e)) short (subst IsTold told t))),
      told,
    )
