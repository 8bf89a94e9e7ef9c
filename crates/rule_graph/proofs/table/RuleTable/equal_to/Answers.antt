use Rattle.std.proofs.Common.{◌≡◌, ◌∙◌, ◌∷◌, ℕ, Some, None, sym, get_or}
use Rattle.std.specs.Prelude.{slice_get}
use Rattle.rule_graph.specs.Rules.{rule_of}
use Rattle.rule_graph.proofs.RuleLemmas.{equal_none, equal_some, equal_other, first_and_rest, rule_there, rule_below}
use Rattle.rule_graph.proofs.table.RuleTable.equal_to.Goals as goal

pub returns-in-None : goal.returns-in-None
returns-in-None c =
    let targets = c.args.rule.now.targets in
    let first = get_or targets 0 record { 0 = 0 } in
    let split = first_and_rest targets record { 0 = 0 } c.requires in
    let of : rule_of c.self.inside.rules.items first.0 ≡ None = sym (c.self.invariant.agrees first.0) ∙ sym (rw (c.as_slice.ensures, c.as_slice-2.ensures.value) at (c.in-None.ensures {u = tt})) in
    rw (← c.self.view_is) (sym (equal_none c.self.inside.rule_at.items c.self.inside.rules.items c.args.rule.now first split.0 c.self.invariant split.1 of))

pub is_rule_at-requires : goal.is_rule_at-requires
is_rule_at-requires c =
    let first = get_or c.args.rule.now.targets 0 record { 0 = 0 } in
    let of : rule_of c.self.inside.rules.items first.0 ≡ Some c.in-Some.id.0 = sym (c.self.invariant.agrees first.0) ∙ sym (rw (c.as_slice.ensures, c.as_slice-2.ensures.value) at (c.in-Some.ensures {u = tt})) in
    rw (← c.self.view_is) (rule_below c.self.inside.rules.items first.0 c.in-Some.id.0 of)

pub returns-then-is_rule_at : goal.returns-then-is_rule_at
returns-then-is_rule_at c =
    let targets = c.args.rule.now.targets in
    let rules = c.self.inside.rules.items in
    let first = get_or targets 0 record { 0 = 0 } in
    let split = first_and_rest targets record { 0 = 0 } c.requires in
    let of : rule_of rules first.0 ≡ Some c.in-Some.id.0 = sym (c.self.invariant.agrees first.0) ∙ sym (rw (c.as_slice.ensures, c.as_slice-2.ensures.value) at (c.in-Some.ensures {u = tt})) in
    let there = rule_there rules first.0 c.in-Some.id.0 of in
    let same = sym (c.is_rule_at.ensures there.0 (rw (← c.self.view_is) there.1)) ∙ c.if-is_rule_at.true in
    rw (← c.self.view_is) (sym (equal_some c.self.inside.rule_at.items rules c.args.rule.now there.0 first split.0 c.in-Some.id.0 c.self.invariant split.1 of there.1 same))

pub returns-else-is_rule_at : goal.returns-else-is_rule_at
returns-else-is_rule_at c =
    let targets = c.args.rule.now.targets in
    let rules = c.self.inside.rules.items in
    let first = get_or targets 0 record { 0 = 0 } in
    let split = first_and_rest targets record { 0 = 0 } c.requires in
    let of : rule_of rules first.0 ≡ Some c.in-Some.id.0 = sym (c.self.invariant.agrees first.0) ∙ sym (rw (c.as_slice.ensures, c.as_slice-2.ensures.value) at (c.in-Some.ensures {u = tt})) in
    let there = rule_there rules first.0 c.in-Some.id.0 of in
    let other = sym (c.is_rule_at.ensures there.0 (rw (← c.self.view_is) there.1)) ∙ c.if-is_rule_at.false in
    rw (← c.self.view_is) (sym (equal_other c.self.inside.rule_at.items rules c.args.rule.now there.0 first split.0 c.in-Some.id.0 c.self.invariant split.1 of there.1 other))
