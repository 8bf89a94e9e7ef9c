use Rattle.std.proofs.Common.{◌∙◌, ap}
use Rattle.std.specs.Prelude.{Ok, Err}
use Rattle.scons_decls.specs.State.{declared_of}
use Rattle.scons_rules.specs.Expanding.{expanding}
use Rattle.scons_rules.specs.PathGraphs.{graph_by}
use Rattle.scons_rules.specs.Ruling.{spoken}
use Rattle.scons_rules.proofs.Walking.{on_ok}
use Rattle.scons_rules.proofs.Finding.{on_err}
use Rattle.scons_rules.proofs.Ruled.{rule_there, no_rule, nothing_added, put_is_added}
use Rattle.scons_rules.proofs.reading.RuleReading.add.Goals as goal

pub returns-in-Some-clause-ok : goal.returns-in-Some-clause-ok
returns-in-Some-clause-ok c =
    rw (← c.self.view_is, ← c.locals.view_is)
    (on_ok c.add_said.result c.add_said.ensures.ok (λ put.
    put_is_added (expanding c.in-Some.rule) (declared_of c.self.inside.state) c.args.number c.locals.inside.locals c.args.libraries.now (graph_by c.self.inside.graph) (Ok (graph_by c.add_said.new.graph))
    (rule_there c.self.inside.state.rules.items c.args.number c.in-Some.rule.declared.now c.in-Some.ensures.0)
    (ap declared_of c.in-Some.ensures.1) c.in-Some.ensures.2 (put (spoken (declared_of c.self.inside.state)) c.self.invariant.1)))

pub returns-in-Some-clause-fault : goal.returns-in-Some-clause-fault
returns-in-Some-clause-fault c =
    rw (← c.self.view_is, ← c.locals.view_is)
    (on_err c.add_said.result c.add_said.ensures.fault (λ e put other.
    put_is_added (expanding c.in-Some.rule) (declared_of c.self.inside.state) c.args.number c.locals.inside.locals c.args.libraries.now (graph_by c.self.inside.graph) (Err e)
    (rule_there c.self.inside.state.rules.items c.args.number c.in-Some.rule.declared.now c.in-Some.ensures.0)
    (ap declared_of c.in-Some.ensures.1) c.in-Some.ensures.2 (put other (spoken (declared_of c.self.inside.state)) c.self.invariant.1)))

pub returns-in-None-clause-ok : goal.returns-in-None-clause-ok
returns-in-None-clause-ok c =
    rw (← c.self.view_is, ← c.locals.view_is)
    (nothing_added (declared_of c.self.inside.state) c.args.number c.locals.inside.locals c.args.libraries.now (graph_by c.self.inside.graph)
    (no_rule c.self.inside.state.rules.items c.args.number c.in-None.ensures))
