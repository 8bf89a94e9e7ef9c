use Rattle.std.proofs.Common.{◌≡◌, ◌∙◌, ap, List, ◌∷◌, ◌++◌, Contains, sym, subst, position}
use Rattle.std.specs.List.{remove}
use Rattle.std.proofs.lemmas.List.Elements.{Contains-get_or}
use Rattle.build_run.specs.Holds.{Busy, holds_in, without}
use Rattle.build_run.specs.Outs.{AreOut}
use Rattle.build_run.proofs.Holding.{has_id, within, taken_at, none_there, found_id}
use Rattle.build_run.proofs.Outs.{outs_taken_behind, removed_in}
use Rattle.build_run.proofs.tickets.Tickets.take.Goals as goal

pub returns-in_err-place-clause-left : goal.returns-in_err-place-clause-left
returns-in_err-place-clause-left c =
    subst (λ bs. holds_in bs ≡ without c.args.id (holds_in bs)) c.self.view_is (sym (none_there c.args.id c.self.inside.busy.items (ap (λ bs. position (has_id c.args.id) bs) (sym c.as_slice.ensures.value) ∙ (sym c.place_of.ensures ∙ c.in_err-place.was))))

pub returns-clause-left : goal.returns-clause-left
returns-clause-left c = ap holds_in c.remove.ensures.items ∙ taken_at c.args.id c.self.inside.busy.items c.in_ok-place.place (ap (λ bs. position (has_id c.args.id) bs) (sym c.as_slice.ensures.value) ∙ (sym c.place_of.ensures ∙ c.in_ok-place.was)) ∙ ap (λ bs. without c.args.id (holds_in bs)) c.self.view_is

pub returns-clause-rule : goal.returns-clause-rule
returns-clause-rule c = ap (λ (b : Busy). b.hold.rule.0) c.remove.ensures.value ∙ found_id c.args.id c.self.inside.busy.items c.in_ok-place.place c.remove.result (ap (λ bs. position (has_id c.args.id) bs) (sym c.as_slice.ensures.value) ∙ (sym c.place_of.ensures ∙ c.in_ok-place.was))

pub returns-clause-among : goal.returns-clause-among
returns-clause-among c =
    let lt = within c.args.id c.self.inside.busy.items c.in_ok-place.place (ap (λ bs. position (has_id c.args.id) bs) (sym c.as_slice.ensures.value) ∙ (sym c.place_of.ensures ∙ c.in_ok-place.was)) in
    subst (λ bs. Contains bs c.remove.result) c.self.view_is (subst (Contains c.self.inside.busy.items) (sym c.remove.ensures.value) (Contains-get_or c.self.inside.busy.items c.in_ok-place.place c.remove.result lt))

pub returns-clause-outs : goal.returns-clause-outs
returns-clause-outs c = λ store held outs.
    let busies = c.self.inside.busy.items in
    let lt = within c.args.id busies c.in_ok-place.place (ap (λ bs. position (has_id c.args.id) bs) (sym c.as_slice.ensures.value) ∙ (sym c.place_of.ensures ∙ c.in_ok-place.was)) in
    let taken = outs_taken_behind store held busies c.in_ok-place.place c.remove.result lt (subst (λ (all : List Busy). AreOut store (held ++ all)) (sym c.self.view_is) outs) in
    subst (λ (left : List Busy). AreOut store (held ++ c.remove.result ∷ left)) (sym c.remove.ensures.items)
    (subst (λ (busy : Busy). AreOut store (held ++ busy ∷ remove busies c.in_ok-place.place)) (sym c.remove.ensures.value) taken)

pub returns-clause-fewer : goal.returns-clause-fewer
returns-clause-fewer c = λ busy h.
    let busies = c.self.inside.busy.items in
    let lt = within c.args.id busies c.in_ok-place.place (ap (λ bs. position (has_id c.args.id) bs) (sym c.as_slice.ensures.value) ∙ (sym c.place_of.ensures ∙ c.in_ok-place.was)) in
    subst (λ bs. Contains bs busy) c.self.view_is
    (removed_in busies c.in_ok-place.place busy lt (subst (λ (left : List Busy). Contains left busy) c.remove.ensures.items h))

pub returns-in_err-place-clause-fewer : goal.returns-in_err-place-clause-fewer
returns-in_err-place-clause-fewer c = λ busy h. h
