use Rattle.std.proofs.Common.{◌≡◌, ◌∙◌, ◌++◌, ◌∷◌, [], List, sym, ap, subst, refl, rules}
use Rattle.mem_banks.specs.AsStore.{store_of}
use Rattle.world_api.specs.Act.{Given}
use Rattle.world_api.specs.Around.{Running, given_of}
use Rattle.world_api.specs.declared.job.Job.{Job}
use Rattle.world_mem.specs.AsAround.{around_of}
use Rattle.world_mem.specs.Kept.{counts_of}
use Rattle.world_mem.specs.Past.{Machine}
use Rattle.act_table.specs.declared.table.ActRow.{ActRow}
use Rattle.world_mem.specs.declared.calls.Call.TheVariants.{Start}
use Rattle.world_mem.proofs.Passing.{refused, idle_recalls, idle_tree}
use Rattle.thread_world.proofs.Entered.{step_entered}
use Rattle.thread_world.proofs.Kept.{step_same, spared_counted, spared_same}
use Rattle.thread_world.proofs.Passed.{time_passed, recalls_passed, banks_same}
use Rattle.thread_world.proofs.Spared.{blocked}
use Rattle.thread_world.proofs.Started.{started_over}
use Rattle.thread_world.specs.Handed.{IsSlipFor}
use Rattle.thread_world.proofs.tree.ThreadWorldWorld.start.Goals as goal

pub hand_on-requires : goal.hand_on-requires
hand_on-requires g c = c.requires.free tt

pub returns-in_err-entering-clause-refused : goal.returns-in_err-entering-clause-refused
returns-in_err-entering-clause-refused g c = λ told. refused _ (around_of c.args.self.now.world.state) (around_of c.hand_on.new.world.state) (ap (λ (m : Machine). m.course.around) c.hand_on.ensures.machine)

pub returns-in_err-entering-clause-banks : goal.returns-in_err-entering-clause-banks
returns-in_err-entering-clause-banks g c = λ told bank. let kept = banks_same c.args.self.now.world c.hand_on.new.world (ap (λ (m : Machine). m.store) c.hand_on.ensures.machine) bank in record { same = kept.same; no_more = kept.no_more }

pub returns-in_err-entering-clause-told : goal.returns-in_err-entering-clause-told
returns-in_err-entering-clause-told g c = record { told = λ told. told; sure = λ told sure. sure; closed = refl }

pub returns-in_err-entering-clause-recalls : goal.returns-in_err-entering-clause-recalls
returns-in_err-entering-clause-recalls g c = let r = idle_recalls c.args.self.now.world c.hand_on.new.world (record { turns = c.hand_on.ensures.turns; horizon = c.hand_on.ensures.horizon; machine = c.hand_on.ensures.machine }) in record { later = r.later; keeps = r.keeps }

pub returns-in_err-entering-clause-time : goal.returns-in_err-entering-clause-time
returns-in_err-entering-clause-time g c = let t = idle_tree c.args.self.now.world c.hand_on.new.world (record { turns = c.hand_on.ensures.turns; horizon = c.hand_on.ensures.horizon; machine = c.hand_on.ensures.machine }) in record { told = t.told; each = t.each; before = t.before; now = t.now }

pub invariant_of-self-2 : goal.invariant_of-self-2
invariant_of-self-2 g c =
    let old = c.args.self.now.world.state in
    let mid = c.hand_on.new.world.state in
    let entering = c.in_ok-entering.entering in
    let handed = c.in_ok-entering.ensures.handed in
    let run : Running = record { job = entering.run.job; given = given_of (around_of mid).tree entering.run.job.deps } in
    let table = c.enter.ensures.keeps.table ∙ c.hand_on.ensures.keeps.table in
    record {
      shared = c.args.self.now.shared ∙ sym table;
      step = step_same old.table c.enter.new.self.state.table (around_of c.enter.new.self.state).running (around_of c.enter.new.self.state).running _ table refl
          (step_entered old.table (around_of mid).tree entering.run.job handed.number handed.slip (around_of old).running (around_of c.enter.new.self.state).running _ _
          (subst (λ (rows : List ActRow). IsSlipFor rows (around_of mid).tree entering.run.job handed.slip) c.args.self.now.shared handed.is)
          c.args.self.now.step
          ((c.enter.ensures.started handed.event).running ∙ ap (λ (runs : List Running). runs ++ run ∷ []) (ap (λ (m : Machine). m.course.around.running) c.hand_on.ensures.machine))
          handed.list);
      spared = spared_same c.hand_on.new.world.calls c.enter.new.self.calls c.enter.ensures.calls (spared_counted Start c.args.self.now.world.calls c.hand_on.new.world.calls c.hand_on.ensures.counted c.args.self.now.spared);
    }

pub returns-clause-started : goal.returns-clause-started
returns-clause-started g c = λ told.
    let handed = c.in_ok-entering.ensures.handed in
    started_over c.in_ok-entering.entering.run.job c.args.job (counts_of c.hand_on.new.world.faults) (counts_of c.args.self.now.world.faults) (around_of c.hand_on.new.world.state) (around_of c.args.self.now.world.state) (around_of c.enter.new.self.state)
    handed.job (ap counts_of (c.in_ok-entering.ensures.kept (λ bad. cc bad))) (ap (λ (m : Machine). m.course.around) c.hand_on.ensures.machine)
    (c.enter.ensures.started handed.event)

pub returns-in_err-entering-clause-only : goal.returns-in_err-entering-clause-only
returns-in_err-entering-clause-only g c = search (rules, blocked, c.in_err-entering.ensures.only)

pub returns-clause-keeps : goal.returns-clause-keeps
returns-clause-keeps g c = record {
  banks = c.enter.ensures.keeps.banks ∙ c.hand_on.ensures.keeps.banks;
  table = c.enter.ensures.keeps.table ∙ c.hand_on.ensures.keeps.table;
  orders = c.enter.ensures.keeps.orders ∙ c.hand_on.ensures.keeps.orders;
  removals = c.enter.ensures.keeps.removals ∙ c.hand_on.ensures.keeps.removals;
}

pub returns-clause-banks : goal.returns-clause-banks
returns-clause-banks g c = λ told bank. let kept = banks_same c.args.self.now.world c.enter.new.self (ap store_of c.enter.ensures.keeps.banks ∙ ap (λ (m : Machine). m.store) c.hand_on.ensures.machine) bank in record { same = kept.same; no_more = kept.no_more }

pub returns-clause-told : goal.returns-clause-told
returns-clause-told g c = record { told = λ told. told; sure = λ told sure. sure; closed = refl }

pub returns-clause-recalls : goal.returns-clause-recalls
returns-clause-recalls g c = let r = recalls_passed c.args.self.now.world c.hand_on.new.world c.enter.new.self (record { turns = c.hand_on.ensures.turns; horizon = c.hand_on.ensures.horizon; machine = c.hand_on.ensures.machine }) c.enter.ensures.recalls in record { later = r.later; keeps = r.keeps }

pub returns-clause-time : goal.returns-clause-time
returns-clause-time g c = let t = time_passed c.args.self.now.world c.hand_on.new.world c.enter.new.self (record { turns = c.hand_on.ensures.turns; horizon = c.hand_on.ensures.horizon; machine = c.hand_on.ensures.machine }) c.enter.ensures.time in record { told = t.told; each = t.each; before = t.before; now = t.now }

pub returns-clause-kept : goal.returns-clause-kept
returns-clause-kept g c = λ well. ap counts_of (c.enter.ensures.faults ∙ c.in_ok-entering.ensures.kept (λ bad. cc bad))
