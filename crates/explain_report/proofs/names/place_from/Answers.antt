use Rattle.std.proofs.Common.{◌≡◌, ◌∙◌, Some, refl, sym, ap}
use Rattle.std.specs.Prelude.{slice_get}
use Rattle.std.proofs.lemmas.Option.{slice_get-get_or}
use Rattle.deciders.specs.declared.recorded.Dep.{Dep}
use Rattle.explain_report.proofs.Firsts.{found_there}
use Rattle.explain_report.proofs.names.place_from.Goals as goal

pub returns-in-Some : goal.returns-in-Some
returns-in-Some c =
    let looked = c.in-Some.ensures.lookup in
    let there : slice_get c.args.others.now c.args.expected ≡ Some c.in-Some.other.now =
    slice_get-get_or c.args.others.now c.args.expected c.in-Some.other.now looked.3.0 ∙ ap Some (sym looked.1) in (
      (λ new. new (found_there (λ (other : Dep). c.args.dep.now.name ≡ other.name) c.args.others.now c.args.expected c.in-Some.other.now there (c.if-is_same_name.ensures.0 refl))),
      looked.3.0,
    )
