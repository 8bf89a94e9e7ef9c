use Rattle.std.proofs.Common.{arith, sym, subst}
use Rattle.std.specs.Prelude.{map}
use Rattle.std.proofs.lemmas.List.{length-map}
use Rattle.task_plan.specs.Settled.{kept_of}
use Rattle.task_plan.specs.Noted.{lists_of}
use Rattle.task_plan.specs.Holding.{IsBlankHeld}
use Rattle.task_plan.proofs.HeldLemmas.{found_nothing, found_at, all_found}
use Rattle.task_plan.proofs.held.held_by.Goals as goal

pub loop-fault-init : goal.loop-fault-init
loop-fault-init c =
    let blank = subst (λ n. IsBlankHeld n c.args.faulty.now c.in_ok-held.held) (sym (length-map c.args.tasks.now kept_of)) c.in_ok-held.ensures in
    found_nothing c.args.states.now (map kept_of c.args.tasks.now) (lists_of c.args.files.now.waiters.items) c.args.faulty.now c.in_ok-held.held blank

pub loop-fault-preserved : goal.loop-fault-preserved
loop-fault-preserved c =
    found_at c.args.states.now (map kept_of c.args.tasks.now) (lists_of c.args.files.now.waiters.items) c.args.faulty.now c.loop-fault.fault-index _ c.loop-fault.held c.add_held.new.self (omega arith) c.loop-fault.invariant
    c.in_ok-add_held.ensures

pub returns-clause-real : goal.returns-clause-real
returns-clause-real c = c.loop-fault.invariant.found.held

pub returns-clause-all : goal.returns-clause-all
returns-clause-all c =
    all_found c.args.states.now (map kept_of c.args.tasks.now) (lists_of c.args.files.now.waiters.items) c.args.faulty.now c.loop-fault.fault-index c.loop-fault.held.seen.items c.loop-fault.held.pairs.items c.loop-fault.invariant
    (omega arith)

pub returns-clause-once : goal.returns-clause-once
returns-clause-once c = c.loop-fault.invariant.found.once

pub returns-clause-first : goal.returns-clause-first
returns-clause-first c = c.loop-fault.invariant.found.first
