use Rattle.std.proofs.Common.{ℕ, List, sym, ap, ◌∙◌, nat_eq}
use Rattle.std.specs.List.{list_any}
use Rattle.model_trials.proofs.Leading.{said_by, led_back, never_back}
use Rattle.model_trials.proofs.loops.leads_back.Goals as goal

pub returns-clause-back : goal.returns-clause-back
returns-clause-back c = λ is.
    let seen = ap (λ (l : List ℕ). list_any (λ y. nat_eq y c.args.number) l) (sym c.deref.ensures.value) in
    led_back c.args.needs.now c.list_at.ensures (rw c.in-Some.is at c.in_ok-all.ensures) (ap (λ r. said_by r) is) (seen ∙ sym c.contains-is_back.ensures.value)

pub returns-clause-never : goal.returns-clause-never
returns-clause-never c = λ is.
    let seen = ap (λ (l : List ℕ). list_any (λ y. nat_eq y c.args.number) l) (sym c.deref.ensures.value) in
    never_back c.args.needs.now c.list_at.ensures (rw c.in-Some.is at c.in_ok-all.ensures) (ap (λ r. said_by r) is) (seen ∙ sym c.contains-is_back.ensures.value)
