use Rattle.std.proofs.Common.{ℕ, List, sym, ap, ◌∙◌, nat_eq}
use Rattle.std.specs.List.{list_any}
use Rattle.model_trials.proofs.Leading.{passes_at, meets_at}
use Rattle.model_trials.proofs.loops.take_last.Goals as goal

pub returns-in_ok-extend_from_slice : goal.returns-in_ok-extend_from_slice
returns-in_ok-extend_from_slice c = λ roots under_way.
    meets_at c.args.needs.now roots _ c.in-Some.number c.in-Some.ensures.items c.in_ok-push.ensures.items c.list_at.ensures
    c.in_ok-extend_from_slice.ensures.items under_way

pub returns-else-not-is_met : goal.returns-else-not-is_met
returns-else-not-is_met c = λ roots under_way.
    let seen = ap (λ (l : List ℕ). list_any (λ y. nat_eq y c.in-Some.number) l) (sym c.deref.ensures.value) in
    passes_at c.args.needs.now roots _ c.in-Some.number (seen ∙ (sym c.contains-is_met.ensures.value ∙ c.if-not-is_met.false)) c.in-Some.ensures.items
    under_way
