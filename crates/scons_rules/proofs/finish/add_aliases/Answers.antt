use Rattle.std.proofs.Common.{arith, ◌<◌, ◌∙◌, ap, sym, length}
use Rattle.std.specs.Prelude.{Err}
use Rattle.std.proofs.lemmas.Result.{err_from_is_err_and}
use Rattle.scons_decls.specs.State.{declared_of}
use Rattle.scons_rules.specs.PathGraphs.{graph_by}
use Rattle.scons_rules.proofs.Closing.{alias_step, alias_stop, name_of, name_at}
use Rattle.scons_rules.proofs.finish.add_aliases.Goals as goal

pub returns-in_err-add_alias-clause-fault : goal.returns-in_err-add_alias-clause-fault
returns-in_err-add_alias-clause-fault c =
    let told = err_from_is_err_and c.from_residual.result c.from_residual.ensures.1 in
    let table = c.args.state.now.aliases in
    let within : c.aliases.place < length c.args.state.now.aliases = omega (arith, c.len-place-end.ensures) in
    rw told.1 (λ other.
    alias_stop (declared_of c.args.state.now) c.args.aliases.now table c.aliases.place (name_of table c.aliases.place) within (name_at table c.aliases.place within)
    (graph_by c.aliases.graph) c.in_err-add_alias.field-0.0 _ c.aliases.invariant
    (c.in_err-add_alias.ensures.fault (λ h. other (told.2 ∙ h)) (name_of table c.aliases.place) (name_at table c.aliases.place within)) ∙ ap Err (sym told.2))

pub aliases-preserved : goal.aliases-preserved
aliases-preserved c =
    let table = c.args.state.now.aliases in
    let within : c.aliases.place < length c.args.state.now.aliases = omega (arith, c.len-place-end.ensures) in
    alias_step (declared_of c.args.state.now) c.args.aliases.now table c.aliases.place (name_of table c.aliases.place) within (name_at table c.aliases.place within)
    (graph_by c.aliases.graph) (graph_by c.add_alias.new.graph) _ c.aliases.invariant
    (c.in_ok-add_alias.ensures.ok (name_of table c.aliases.place) (name_at table c.aliases.place within))
