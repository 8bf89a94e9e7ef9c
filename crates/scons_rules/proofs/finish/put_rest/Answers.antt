use Rattle.std.proofs.Common.{List, ℕ, ◌∙◌, ◌++◌, ap, sym}
use Rattle.std.specs.Prelude.{Err}
use Rattle.std.proofs.lemmas.Result.{err_from_is_err_and}
use Rattle.scons_decls.specs.State.{declared_of}
use Rattle.scons_rules.specs.Finishing.{with_variants, with_aliases}
use Rattle.scons_rules.specs.PathGraphs.{graph_by}
use Rattle.scons_rules.proofs.Closing.{closed, aliases_stop}
use Rattle.scons_rules.proofs.finish.put_rest.Goals as goal

pub returns-in_err-add_aliases-clause-fault : goal.returns-in_err-add_aliases-clause-fault
returns-in_err-add_aliases-clause-fault c =
    let told = err_from_is_err_and c.from_residual-in_err-add_aliases.result c.from_residual-in_err-add_aliases.ensures.1 in
    let d = declared_of c.args.state.now in
    rw told.1 (λ other.
    aliases_stop d c.args.graph.now c.add_variants.new.graph told.0 c.in_ok-refuse_unmade.ensures.ok
    (ap (λ v. with_variants v (graph_by c.args.graph.now)) (sym c.as_slice.ensures) ∙ c.in_ok-add_variants.ensures.ok)
    (ap (λ l. with_aliases d l d.aliases 0 (graph_by c.add_variants.new.graph)) (sym c.requires)
    ∙ c.in_err-add_aliases.ensures.fault (λ h. other (told.2 ∙ h)) ∙ ap Err (sym told.2)))

pub returns-clause-ok : goal.returns-clause-ok
returns-clause-ok c =
    let d = declared_of c.args.state.now in
    closed d c.args.graph.now c.add_variants.new.graph c.add_aliases.new.graph c.add_defaults.new.graph c.add_helps.new.graph c.in_ok-refuse_unmade.ensures.ok
    (ap (λ v. with_variants v (graph_by c.args.graph.now)) (sym c.as_slice.ensures) ∙ c.in_ok-add_variants.ensures.ok)
    (ap (λ l. with_aliases d l d.aliases 0 (graph_by c.add_variants.new.graph)) (sym c.requires) ∙ c.in_ok-add_aliases.ensures.ok)
    c.in_ok-add_defaults.ensures
    (c.in_ok-add_helps.ensures
    ∙ ap (λ (h : List (List ℕ)). record c.add_defaults.new.graph { helps = c.add_defaults.new.graph.helps ++ h }) c.as_slice-2.ensures)
