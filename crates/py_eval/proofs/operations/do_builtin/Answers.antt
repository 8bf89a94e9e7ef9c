use Rattle.std.proofs.Common.{[], sym, subst}
use Rattle.py_heap.specs.declared.value.Value.TheVariants as v
use Rattle.py_heap.specs.declared.value.Builtin.{Builtin}
use Rattle.py_meaning.specs.Jobs.{a_value}
use Rattle.py_meaning.specs.Calls.{plan_perform}
use Rattle.py_state.specs.Stores.{state_of}
use Rattle.py_eval.specs.Bodies.{GivesOrHalts}
use Rattle.py_eval.proofs.Giving.{builtin_gives}
use Rattle.py_eval.proofs.operations.do_builtin.Goals as goal

pub returns-in-Print-clause-gives : goal.returns-in-Print-clause-gives
returns-in-Print-clause-gives g c = λ calls.
    subst (λ (b : Builtin). GivesOrHalts g.H.Host.meaning calls (plan_perform c.args.line (a_value (v.Builtin b)) (record { positional = c.args.args.now; named = [] }) (state_of c.args.machine.now c.args.frame.now)) c.args.host.now c.print.result (state_of c.print.new.machine c.args.frame.now) c.print.new.host)
    (sym c.in-Print.is) (c.print.ensures.gives calls)

pub returns-in_default-clause-gives : goal.returns-in_default-clause-gives
returns-in_default-clause-gives g c = λ calls.
    builtin_gives g.H.Host.meaning calls c.args.builtin c.args.line c.args.args.now (state_of c.args.machine.now c.args.frame.now) (state_of c.do_alone.new.machine c.args.frame.now) c.do_alone.result c.args.host.now c.in_default.not-Print c.do_alone.ensures
