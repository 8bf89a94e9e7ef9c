use Rattle.task_plan.proofs.SettleLemmas.{tells}
use Rattle.task_plan.proofs.LeaveLemmas.{leaves_told}
use Rattle.task_plan.proofs.plan.Plan.has_need_less.Goals as goal

pub returns-clause-tells : goal.returns-clause-tells
returns-clause-tells c =
    tells c.args.self.now c.pass.new.self c.find_ready.new.self c.note_decidable.new.self c.args.rule.0 c.scan_start_with-start.result c.args.node c.pass.ensures.passes c.find_ready.ensures.readies
    c.note_decidable.ensures.offers c.scan_start_with-start.ensures

pub returns-clause-leaves : goal.returns-clause-leaves
returns-clause-leaves c =
    leaves_told c.args.self.now c.pass.new.self c.find_ready.new.self c.note_decidable.new.self c.args.rule.0 c.scan_start_with-start.result c.pass.ensures.passes c.find_ready.ensures.readies c.note_decidable.ensures.offers
