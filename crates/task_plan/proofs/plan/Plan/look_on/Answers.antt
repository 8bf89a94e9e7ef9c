use Rattle.std.proofs.Common.{◌∙◌, ap, sym}
use Rattle.task_plan.specs.Plans.{Planned}
use Rattle.task_plan.proofs.LeaveLemmas.{put_offers}
use Rattle.task_plan.proofs.LookLemmas.{looked_on}
use Rattle.task_plan.proofs.RootLemmas.{reached_same}
use Rattle.task_plan.proofs.plan.Plan.look_on.Goals as goal

pub returns-clause-complete : goal.returns-clause-complete
returns-clause-complete c =
    let a = c.args.self.now in
    let b = c.put_in_order.new.self in
    let d = c.note_decidable.new.self in
    let s = c.put_in_order.ensures.stays in
    let o = c.note_decidable.ensures.offers in
    λ reached. looked_on a b d c.args.rule.0
    (c.in_ok-put_in_order.ensures.orders
    (reached_same d a (sym (ap (λ (x : Planned). x.states) o.rest ∙ s.states)) (sym (ap (λ (x : Planned). x.rules) o.rest ∙ s.rules)) (sym (ap (λ (x : Planned). x.origins) o.rest ∙ s.origins))
    (sym (ap (λ (x : Planned). x.notes.roots) o.rest ∙ c.in_ok-put_in_order.ensures.puts.roots)) reached)) o

pub returns-clause-puts : goal.returns-clause-puts
returns-clause-puts c = put_offers c.args.self.now c.put_in_order.new.self c.note_decidable.new.self c.args.rule.0 c.in_ok-put_in_order.ensures.puts c.note_decidable.ensures.offers
