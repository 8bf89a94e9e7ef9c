use Rattle.std.proofs.Common.{ℕ, List, [], map, nat_eq, sym, ap, ◌∙◌, Ok}
use Rattle.std.specs.List.{list_any}
use Rattle.model_trials.proofs.Visiting.{begins, passes_at, ends_at, stays, enters_at, among_map, read_at}
use Rattle.model_trials.proofs.order.+visit.Goals as goal

pub visit-loop-rule-init : goal.visit-loop-rule-init
visit-loop-rule-init t c = λ name needs_of named. begins name needs_of c.args.rules.now c.args.met.now.items c.args.order.now.items

pub visit-loop-rule-preserved : goal.visit-loop-rule-preserved
visit-loop-rule-preserved t c = λ name needs_of named.
    passes_at name needs_of c.args.rules.now c.loop-rule.rule-index 0 c.loop-rule-test.true
    (c.in_ok-is_whole.ensures (ap Ok c.if-not-is_whole.false) name needs_of named)
    (c.loop-rule.invariant name needs_of named)

pub visit-returns : goal.visit-returns
visit-returns t c = λ e name needs_of named.
    ends_at name needs_of c.args.rules.now c.loop-rule.rule-index c.loop-rule-test.false (c.loop-rule.invariant name needs_of named)

pub visit_one-returns-then-is_met : goal.visit_one-returns-then-is_met
visit_one-returns-then-is_met t c = λ e name needs_of named.
    let seen = ap (λ (l : List ℕ). list_any (λ y. nat_eq y c.args.rule) l) (sym c.deref.ensures.value) in
    stays name needs_of c.args.order.now.items
    (among_map name c.args.rule c.args.met.now.items (seen ∙ (sym c.contains-is_met.ensures.value ∙ c.if-is_met.true)))

pub visit_one-returns : goal.visit_one-returns
visit_one-returns t c = λ e name needs_of named.
    let seen = ap (λ (l : List ℕ). list_any (λ y. nat_eq y c.args.rule) l) (sym c.deref.ensures.value) in
    let read = read_at c.args.needs.now c.args.rule [] c.index-needs-rule.result c.if-rule-needs.false in
    enters_at name needs_of c.as_slice-below.result.now named.own_number (seen ∙ (sym c.contains-is_met.ensures.value ∙ c.if-is_met.false))
    (named.needed c.args.rule c.if-rule-needs.false ∙ ap (λ (l : List ℕ). map name l) (read ∙ (sym c.index-needs-rule.is ∙ sym c.as_slice-below.ensures)))
    c.in_ok-insert.ensures.items c.in_ok-push.ensures.items (c.in_ok-is_whole.ensures e name needs_of named)
