use Rattle.std.proofs.Common.{◌≡◌, None, Some, refl, rules, sym, ap, ◌∙◌, eqb-true, get_or}
use Rattle.std.specs.Prelude.{position}
use Rattle.std.specs.Arc.{arc_value}
use Rattle.std.proofs.lemmas.Bool.{true≢false}
use Rattle.std.proofs.lemmas.List.Quantifiers.{position-Some}
use Rattle.job_runner.specs.declared.entry.Numbered.{Numbered}
use Rattle.job_runner.proofs.Found.{own_at, absent, other, none_at, has, if_none}
use Rattle.job_runner.proofs.Places.{one_taken}
use Rattle.job_runner.proofs.board.Board.place_of.Goals as goal

pub returns-in_err-place-clause-none : goal.returns-in_err-place-clause-none
returns-in_err-place-clause-none c =
    let taken = c.args.self.now.taken.items in
    let none : position (has c.args.number) taken ≡ None = ap (position (has c.args.number)) (sym c.as_slice.ensures.value) ∙ (sym c.place_of_number.ensures ∙ c.in_err-place.was) in
    if_none _ _ (absent taken c.args.number c.args.slip.now (none_at c.args.number taken none))

pub returns-then-is_equal-clause-own : goal.returns-then-is_equal-clause-own
returns-then-is_equal-clause-own c =
    let taken = c.args.self.now.taken.items in
    let some : position (has c.args.number) taken ≡ Some c.in_ok-place.place = ap (position (has c.args.number)) (sym c.as_slice.ensures.value) ∙ (sym c.place_of_number.ensures ∙ c.in_ok-place.was) in
    let at = position-Some (has c.args.number) taken c.in_ok-place.place c.index.result.now some in
    let own = ap (λ (x : Numbered). arc_value x.slip) (sym c.index.ensures) ∙ (sym c.deref.ensures ∙ c.is_equal.ensures.0 c.if-is_equal.true) in
    own_at taken c.in_ok-place.place c.args.number c.args.slip.now c.index.result.now at.0 (eqb-true _ _ at.1) own

pub returns-else-is_equal-clause-none : goal.returns-else-is_equal-clause-none
returns-else-is_equal-clause-none c =
    let taken = c.args.self.now.taken.items in
    let few = one_taken _ c.args.number c.args.self.now.once in
    let some : position (has c.args.number) taken ≡ Some c.in_ok-place.place = ap (position (has c.args.number)) (sym c.as_slice.ensures.value) ∙ (sym c.place_of_number.ensures ∙ c.in_ok-place.was) in
    let at = position-Some (has c.args.number) taken c.in_ok-place.place c.index.result.now some in
    let is = ap (λ (x : Numbered). arc_value x.slip) (sym c.index.ensures) ∙ sym c.deref.ensures in
    other taken c.in_ok-place.place c.args.number c.args.slip.now c.index.result.now few at.0 (eqb-true _ _ at.1)
    (λ same. true≢false (sym (c.is_equal.ensures.1 (sym is ∙ same)) ∙ c.if-is_equal.false))
