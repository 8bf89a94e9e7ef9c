use Rattle.std.proofs.Common.{arith, ◌≡◌, ◌∙◌, length}
use Rattle.rule_graph.specs.Rules.{rule_at}
use Rattle.rule_graph.proofs.RuleLemmas.{longer, entered_as}
use Rattle.rule_graph.proofs.table.RuleTable.push.Goals as goal

pub invariant_of-self-2 : goal.invariant_of-self-2
invariant_of-self-2 c =
    let rules = c.self.inside.rules.items in
    let table = c.self.inside.rule_at.items in
    let targets = c.as_slice-3.ensures.value ∙ (c.in_ok-targets.ensures {u = tt}).items ∙ c.as_slice.ensures in
    let place : c.len.result ≡ length rules = omega arith in
    let free = rw (← c.self.view_is) at c.requires.free in
    let room = rw (← c.self.view_is) at c.requires.room in
    rw ((c.in_ok-push.ensures {u = tt}).items)
    (longer table c.enter.new.table.items rules c.args.rule c.self.invariant free room
    (λ n. entered_as c.as_slice-3.result.now c.args.rule.targets c.len.result (length rules) (rule_at c.cover.new.table.items n) (rule_at table n) (rule_at c.enter.new.table.items n) n
    (c.enter.ensures n) targets place ((c.in_ok-cover.ensures {u = tt}).same n)))
