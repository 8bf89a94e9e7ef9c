use Rattle.py_state.specs.Stores.{state_of}
use Rattle.py_steps.proofs.Stepping.{on_leads, on_steps, on_statements, on_return}
use Rattle.py_steps.proofs.steps.step.Goals as goal

pub returns-in-Statements-clause-flows : goal.returns-in-Statements-clause-flows
returns-in-Statements-clause-flows g c = λ k. on_statements g.H.Host.meaning k c.args.task _ c.args.desk.now c.run_statements.new.desk c.args.machine.now c.run_statements.new.machine c.args.frame.now c.args.host.now c.run_statements.result c.in-Statements.is c.run_statements.ensures

pub returns-in-Return-clause-flows : goal.returns-in-Return-clause-flows
returns-in-Return-clause-flows g c = λ k. on_return g.H.Host.meaning k c.args.task c.args.desk.now c.args.machine.now c.args.frame.now c.args.host.now c.take.result c.in-Return.is c.take.ensures.value

pub returns-in-Evaluate-clause-flows : goal.returns-in-Evaluate-clause-flows
returns-in-Evaluate-clause-flows g c = λ k. on_leads g.H.Host.meaning k c.args.task _ c.args.desk.now c.evaluate.new.desk c.args.machine.now c.evaluate.new.machine c.args.frame.now c.args.frame.now c.args.host.now c.evaluate.new.host c.evaluate.result c.on.result c.in-Evaluate.is c.on.ensures (c.evaluate.ensures.leads k)

pub returns-in-EvaluateAll-clause-flows : goal.returns-in-EvaluateAll-clause-flows
returns-in-EvaluateAll-clause-flows g c = λ k. on_steps g.H.Host.meaning k c.args.task _ c.args.desk.now c.evaluate_all.new.desk c.args.machine.now c.args.machine.now c.args.frame.now c.args.frame.now c.args.host.now c.evaluate_all.result c.on-in-EvaluateAll.result c.in-EvaluateAll.is c.on-in-EvaluateAll.ensures (c.evaluate_all.ensures (state_of c.args.machine.now c.args.frame.now))

pub returns-in-Pairs-clause-flows : goal.returns-in-Pairs-clause-flows
returns-in-Pairs-clause-flows g c = λ k. on_steps g.H.Host.meaning k c.args.task _ c.args.desk.now c.evaluate_pairs.new.desk c.args.machine.now c.args.machine.now c.args.frame.now c.args.frame.now c.args.host.now c.evaluate_pairs.result c.on-in-Pairs.result c.in-Pairs.is c.on-in-Pairs.ensures (c.evaluate_pairs.ensures (state_of c.args.machine.now c.args.frame.now))

pub returns-in-Arguments-clause-flows : goal.returns-in-Arguments-clause-flows
returns-in-Arguments-clause-flows g c = λ k. on_steps g.H.Host.meaning k c.args.task _ c.args.desk.now c.evaluate_arguments.new.desk c.args.machine.now c.args.machine.now c.args.frame.now c.args.frame.now c.args.host.now c.evaluate_arguments.result c.on-in-Arguments.result c.in-Arguments.is c.on-in-Arguments.ensures (c.evaluate_arguments.ensures (state_of c.args.machine.now c.args.frame.now))

pub returns-in-Defaults-clause-flows : goal.returns-in-Defaults-clause-flows
returns-in-Defaults-clause-flows g c = λ k. on_steps g.H.Host.meaning k c.args.task _ c.args.desk.now c.evaluate_defaults.new.desk c.args.machine.now c.args.machine.now c.args.frame.now c.args.frame.now c.args.host.now c.evaluate_defaults.result c.on-in-Defaults.result c.in-Defaults.is c.on-in-Defaults.ensures (c.evaluate_defaults.ensures (state_of c.args.machine.now c.args.frame.now))

pub returns-in-Tuple-clause-flows : goal.returns-in-Tuple-clause-flows
returns-in-Tuple-clause-flows g c = λ k. on_steps g.H.Host.meaning k c.args.task _ c.args.desk.now c.display.new.desk c.args.machine.now c.display.new.machine c.args.frame.now c.args.frame.now c.args.host.now c.display.result c.on-in-Tuple.result c.in-Tuple.is c.on-in-Tuple.ensures c.display.ensures

pub returns-in-List-clause-flows : goal.returns-in-List-clause-flows
returns-in-List-clause-flows g c = λ k. on_steps g.H.Host.meaning k c.args.task _ c.args.desk.now c.display-in-List.new.desk c.args.machine.now c.display-in-List.new.machine c.args.frame.now c.args.frame.now c.args.host.now c.display-in-List.result c.on-in-List.result c.in-List.is c.on-in-List.ensures c.display-in-List.ensures

pub returns-in-Dict-clause-flows : goal.returns-in-Dict-clause-flows
returns-in-Dict-clause-flows g c = λ k. on_steps g.H.Host.meaning k c.args.task _ c.args.desk.now c.display-in-Dict.new.desk c.args.machine.now c.display-in-Dict.new.machine c.args.frame.now c.args.frame.now c.args.host.now c.display-in-Dict.result c.on-in-Dict.result c.in-Dict.is c.on-in-Dict.ensures c.display-in-Dict.ensures

pub returns-in-Negate-clause-flows : goal.returns-in-Negate-clause-flows
returns-in-Negate-clause-flows g c = λ k. on_steps g.H.Host.meaning k c.args.task _ c.args.desk.now c.negated.new.desk c.args.machine.now c.negated.new.machine c.args.frame.now c.args.frame.now c.args.host.now c.negated.result c.on-in-Negate.result c.in-Negate.is c.on-in-Negate.ensures c.negated.ensures

pub returns-in-Not-clause-flows : goal.returns-in-Not-clause-flows
returns-in-Not-clause-flows g c = λ k. on_steps g.H.Host.meaning k c.args.task _ c.args.desk.now c.turned.new.desk c.args.machine.now c.args.machine.now c.args.frame.now c.args.frame.now c.args.host.now c.turned.result c.on-in-Not.result c.in-Not.is c.on-in-Not.ensures (c.turned.ensures c.args.frame.now)

pub returns-in-Binary-clause-flows : goal.returns-in-Binary-clause-flows
returns-in-Binary-clause-flows g c = λ k. on_steps g.H.Host.meaning k c.args.task _ c.args.desk.now c.operated.new.desk c.args.machine.now c.operated.new.machine c.args.frame.now c.args.frame.now c.args.host.now c.operated.result c.on-in-Binary.result c.in-Binary.is c.on-in-Binary.ensures c.operated.ensures

pub returns-in-Operations-clause-flows : goal.returns-in-Operations-clause-flows
returns-in-Operations-clause-flows g c = λ k. on_steps g.H.Host.meaning k c.args.task _ c.args.desk.now c.operations.new.desk c.args.machine.now c.args.machine.now c.args.frame.now c.args.frame.now c.args.host.now c.operations.result c.on-in-Operations.result c.in-Operations.is c.on-in-Operations.ensures (c.operations.ensures c.args.frame.now)

pub returns-in-Links-clause-flows : goal.returns-in-Links-clause-flows
returns-in-Links-clause-flows g c = λ k. on_leads g.H.Host.meaning k c.args.task _ c.args.desk.now c.link.new.desk c.args.machine.now c.link.new.machine c.args.frame.now c.args.frame.now c.args.host.now c.link.new.host c.link.result c.on-in-Links.result c.in-Links.is c.on-in-Links.ensures (c.link.ensures.leads k)

pub returns-in-Index-clause-flows : goal.returns-in-Index-clause-flows
returns-in-Index-clause-flows g c = λ k. on_leads g.H.Host.meaning k c.args.task _ c.args.desk.now c.indexed.new.desk c.args.machine.now c.indexed.new.machine c.args.frame.now c.args.frame.now c.args.host.now c.indexed.new.host c.indexed.result c.on-in-Index.result c.in-Index.is c.on-in-Index.ensures (c.indexed.ensures.leads k)

pub returns-in-Slice-clause-flows : goal.returns-in-Slice-clause-flows
returns-in-Slice-clause-flows g c = λ k. on_steps g.H.Host.meaning k c.args.task _ c.args.desk.now c.sliced.new.desk c.args.machine.now c.sliced.new.machine c.args.frame.now c.args.frame.now c.args.host.now c.sliced.result c.on-in-Slice.result c.in-Slice.is c.on-in-Slice.ensures c.sliced.ensures

pub returns-in-Comprehend-clause-flows : goal.returns-in-Comprehend-clause-flows
returns-in-Comprehend-clause-flows g c = λ k. on_steps g.H.Host.meaning k c.args.task _ c.args.desk.now c.comprehend.new.desk c.args.machine.now c.args.machine.now c.args.frame.now c.comprehend.new.frame c.args.host.now c.comprehend.result c.on-in-Comprehend.result c.in-Comprehend.is c.on-in-Comprehend.ensures c.comprehend.ensures

pub returns-in-Collect-clause-flows : goal.returns-in-Collect-clause-flows
returns-in-Collect-clause-flows g c = λ k. on_steps g.H.Host.meaning k c.args.task _ c.args.desk.now c.collect.new.desk c.args.machine.now c.collect.new.machine c.args.frame.now c.collect.new.frame c.args.host.now c.collect.result c.on-in-Collect.result c.in-Collect.is c.on-in-Collect.ensures c.collect.ensures

pub returns-in-Tests-clause-flows : goal.returns-in-Tests-clause-flows
returns-in-Tests-clause-flows g c = λ k. on_steps g.H.Host.meaning k c.args.task _ c.args.desk.now c.test.new.desk c.args.machine.now c.test.new.machine c.args.frame.now c.args.frame.now c.args.host.now c.test.result c.on-in-Tests.result c.in-Tests.is c.on-in-Tests.ensures c.test.ensures

pub returns-in-Tested-clause-flows : goal.returns-in-Tested-clause-flows
returns-in-Tested-clause-flows g c = λ k. on_steps g.H.Host.meaning k c.args.task _ c.args.desk.now c.tested.new.desk c.args.machine.now c.args.machine.now c.args.frame.now c.args.frame.now c.args.host.now c.tested.result c.on-in-Tested.result c.in-Tested.is c.on-in-Tested.ensures (c.tested.ensures c.args.frame.now)

pub returns-in-Lines-clause-flows : goal.returns-in-Lines-clause-flows
returns-in-Lines-clause-flows g c = λ k. on_steps g.H.Host.meaning k c.args.task _ c.args.desk.now c.run_lines.new.desk c.args.machine.now c.run_lines.new.machine c.args.frame.now c.args.frame.now c.args.host.now c.run_lines.result c.on-in-Lines.result c.in-Lines.is c.on-in-Lines.ensures c.run_lines.ensures

pub returns-in-Forget-clause-flows : goal.returns-in-Forget-clause-flows
returns-in-Forget-clause-flows g c = λ k. on_steps g.H.Host.meaning k c.args.task _ c.args.desk.now c.forget.new.desk c.args.machine.now c.args.machine.now c.args.frame.now c.args.frame.now c.args.host.now c.forget.result c.on-in-Forget.result c.in-Forget.is c.on-in-Forget.ensures (c.forget.ensures (state_of c.args.machine.now c.args.frame.now))

pub returns-in-Branches-clause-flows : goal.returns-in-Branches-clause-flows
returns-in-Branches-clause-flows g c = λ k. on_steps g.H.Host.meaning k c.args.task _ c.args.desk.now c.next_branch.new.desk c.args.machine.now c.args.machine.now c.args.frame.now c.args.frame.now c.args.host.now c.next_branch.result c.on-in-Branches.result c.in-Branches.is c.on-in-Branches.ensures (c.next_branch.ensures (state_of c.args.machine.now c.args.frame.now))

pub returns-in-Choose-clause-flows : goal.returns-in-Choose-clause-flows
returns-in-Choose-clause-flows g c = λ k. on_steps g.H.Host.meaning k c.args.task _ c.args.desk.now c.choose.new.desk c.args.machine.now c.args.machine.now c.args.frame.now c.args.frame.now c.args.host.now c.choose.result c.on-in-Choose.result c.in-Choose.is c.on-in-Choose.ensures (c.choose.ensures c.args.frame.now)

pub returns-in-Begin-clause-flows : goal.returns-in-Begin-clause-flows
returns-in-Begin-clause-flows g c = λ k. on_steps g.H.Host.meaning k c.args.task _ c.args.desk.now c.begin.new.desk c.args.machine.now c.args.machine.now c.args.frame.now c.args.frame.now c.args.host.now c.begin.result c.on-in-Begin.result c.in-Begin.is c.on-in-Begin.ensures c.begin.ensures

pub returns-in-Turns-clause-flows : goal.returns-in-Turns-clause-flows
returns-in-Turns-clause-flows g c = λ k. on_steps g.H.Host.meaning k c.args.task _ c.args.desk.now c.turn.new.desk c.args.machine.now c.turn.new.machine c.args.frame.now c.turn.new.frame c.args.host.now c.turn.result c.on-in-Turns.result c.in-Turns.is c.on-in-Turns.ensures c.turn.ensures

pub returns-in-Define-clause-flows : goal.returns-in-Define-clause-flows
returns-in-Define-clause-flows g c = λ k. on_steps g.H.Host.meaning k c.args.task _ c.args.desk.now c.define.new.desk c.args.machine.now c.define.new.machine c.args.frame.now c.define.new.frame c.args.host.now c.define.result c.on-in-Define.result c.in-Define.is c.on-in-Define.ensures c.define.ensures

pub returns-in-Assign-clause-flows : goal.returns-in-Assign-clause-flows
returns-in-Assign-clause-flows g c = λ k. on_steps g.H.Host.meaning k c.args.task _ c.args.desk.now c.assign.new.desk c.args.machine.now c.assign.new.machine c.args.frame.now c.assign.new.frame c.args.host.now c.assign.result c.on-in-Assign.result c.in-Assign.is c.on-in-Assign.ensures c.assign.ensures

pub returns-in-Bind-clause-flows : goal.returns-in-Bind-clause-flows
returns-in-Bind-clause-flows g c = λ k. on_steps g.H.Host.meaning k c.args.task _ c.args.desk.now c.bind.new.desk c.args.machine.now c.bind.new.machine c.args.frame.now c.bind.new.frame c.args.host.now c.bind.result c.on-in-Bind.result c.in-Bind.is c.on-in-Bind.ensures c.bind.ensures

pub returns-in-Load-clause-flows : goal.returns-in-Load-clause-flows
returns-in-Load-clause-flows g c = λ k. on_leads g.H.Host.meaning k c.args.task _ c.args.desk.now c.load.new.desk c.args.machine.now c.load.new.machine c.args.frame.now c.args.frame.now c.args.host.now c.load.new.host c.load.result c.on-in-Load.result c.in-Load.is c.on-in-Load.ensures (c.load.ensures.leads k)

pub returns-in-Augment-clause-flows : goal.returns-in-Augment-clause-flows
returns-in-Augment-clause-flows g c = λ k. on_steps g.H.Host.meaning k c.args.task _ c.args.desk.now c.combine.new.desk c.args.machine.now c.combine.new.machine c.args.frame.now c.args.frame.now c.args.host.now c.combine.result c.on-in-Augment.result c.in-Augment.is c.on-in-Augment.ensures c.combine.ensures

pub returns-in-StoreBelow-clause-flows : goal.returns-in-StoreBelow-clause-flows
returns-in-StoreBelow-clause-flows g c = λ k. on_leads g.H.Host.meaning k c.args.task _ c.args.desk.now c.store_below.new.desk c.args.machine.now c.store_below.new.machine c.args.frame.now c.args.frame.now c.args.host.now c.store_below.new.host c.store_below.result c.on-in-StoreBelow.result c.in-StoreBelow.is c.on-in-StoreBelow.ensures (c.store_below.ensures.leads k)

pub returns-in-StoreAbove-clause-flows : goal.returns-in-StoreAbove-clause-flows
returns-in-StoreAbove-clause-flows g c = λ k. on_leads g.H.Host.meaning k c.args.task _ c.args.desk.now c.store_above.new.desk c.args.machine.now c.store_above.new.machine c.args.frame.now c.args.frame.now c.args.host.now c.store_above.new.host c.store_above.result c.on-in-StoreAbove.result c.in-StoreAbove.is c.on-in-StoreAbove.ensures (c.store_above.ensures.leads k)

pub returns-in-Fields-clause-flows : goal.returns-in-Fields-clause-flows
returns-in-Fields-clause-flows g c = λ k. on_steps g.H.Host.meaning k c.args.task _ c.args.desk.now c.evaluate_fields.new.desk c.args.machine.now c.args.machine.now c.args.frame.now c.args.frame.now c.args.host.now c.evaluate_fields.result c.on-in-Fields.result c.in-Fields.is c.on-in-Fields.ensures (c.evaluate_fields.ensures (state_of c.args.machine.now c.args.frame.now))

pub returns-in-Show-clause-flows : goal.returns-in-Show-clause-flows
returns-in-Show-clause-flows g c = λ k. on_steps g.H.Host.meaning k c.args.task _ c.args.desk.now c.show_field.new.desk c.args.machine.now c.show_field.new.machine c.args.frame.now c.args.frame.now c.args.host.now c.show_field.result c.on-in-Show.result c.in-Show.is c.on-in-Show.ensures c.show_field.ensures

pub returns-in-Join-clause-flows : goal.returns-in-Join-clause-flows
returns-in-Join-clause-flows g c = λ k. on_steps g.H.Host.meaning k c.args.task _ c.args.desk.now c.join.new.desk c.args.machine.now c.join.new.machine c.args.frame.now c.args.frame.now c.args.host.now c.join.result c.on-in-Join.result c.in-Join.is c.on-in-Join.ensures c.join.ensures

pub returns-in-Pick-clause-flows : goal.returns-in-Pick-clause-flows
returns-in-Pick-clause-flows g c = λ k. on_steps g.H.Host.meaning k c.args.task _ c.args.desk.now c.pick.new.desk c.args.machine.now c.args.machine.now c.args.frame.now c.args.frame.now c.args.host.now c.pick.result c.on-in-Pick.result c.in-Pick.is c.on-in-Pick.ensures (c.pick.ensures c.args.frame.now)

pub returns-in-Rounds-clause-flows : goal.returns-in-Rounds-clause-flows
returns-in-Rounds-clause-flows g c = λ k. on_steps g.H.Host.meaning k c.args.task _ c.args.desk.now c.next_round.new.desk c.args.machine.now c.args.machine.now c.args.frame.now c.args.frame.now c.args.host.now c.next_round.result c.on-in-Rounds.result c.in-Rounds.is c.on-in-Rounds.ensures (c.next_round.ensures (state_of c.args.machine.now c.args.frame.now))

pub returns-in-Round-clause-flows : goal.returns-in-Round-clause-flows
returns-in-Round-clause-flows g c = λ k. on_steps g.H.Host.meaning k c.args.task _ c.args.desk.now c.run_round.new.desk c.args.machine.now c.run_round.new.machine c.args.frame.now c.args.frame.now c.args.host.now c.run_round.result c.on-in-Round.result c.in-Round.is c.on-in-Round.ensures c.run_round.ensures
