use Rattle.std.proofs.Common.{◌≡◌, ap, sym, refl, ◌∙◌, [], ◌∷◌}
use Rattle.std.specs.Prelude.{Ok}
use Rattle.env_subst.specs.Contents.{said, held_or_nothing}
use Rattle.scons_decls.specs.Faults.{or_subst}
use Rattle.scons_decls.specs.Environs.{variable_of, setting_in}
use Rattle.scons_decls.proofs.Searching.{no_search_path}
use Rattle.scons_decls.proofs.environments.Environments.header_dirs.Goals as goal

pub returns-then-has_no_items-clause-ok : goal.returns-then-has_no_items-clause-ok
returns-then-has_no_items-clause-ok c =
    let locals = c.args.locals.now in
    let none : said locals (held_or_nothing (variable_of c.args.self.now c.args.env.0 (67 ∷ 80 ∷ 80 ∷ 80 ∷ 65 ∷ 84 ∷ 72 ∷ []))) ≡ [] =
    ap (λ value. said locals (held_or_nothing value)) (sym c.get.ensures) ∙ c.if-has_no_items.ensures {u = tt} refl locals in
    ap (λ r. or_subst r) (no_search_path (setting_in c.args.self.now locals c.args.env.0) _ refl none)
    ∙ ap Ok (sym (c.new-then-has_no_items.ensures ∙ c.new.ensures.items))
