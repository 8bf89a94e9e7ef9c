use Rattle.std.proofs.Common.{◌≡◌, ◌∙◌, ap, sym, false, Some, None, []}
use Rattle.std.specs.Prelude.{unwrap_or}
use Rattle.std.specs.List.{list_any}
use Rattle.std.specs.Str.{bytes_eq}
use Rattle.scons_base.specs.Parts.{dir_of}
use Rattle.scons_decls.specs.Tables.{value_at, rows_of}
use Rattle.scons_decls.proofs.Rows.{value_at_is}
use Rattle.scons_decls.proofs.made.Made.contains.Goals as goal

pub returns-in-Some : goal.returns-in-Some
returns-in-Some c =
    let rows = rows_of c.self.inside.by_dir.entries in
    let there : value_at rows (dir_of c.args.path.now) ≡ Some c.in-Some.targets.now =
    ap (value_at rows) (sym c.dir.ensures) ∙ sym (c.in-Some.ensures.value ∙ value_at_is c.self.inside.by_dir.entries c.dir.result.now) in
    rw (← c.self.view_is) (c.contains.ensures ∙ ap (λ held. list_any (bytes_eq c.args.path.now) (unwrap_or held [])) (sym there))

pub returns-in-None : goal.returns-in-None
returns-in-None c =
    let rows = rows_of c.self.inside.by_dir.entries in
    let there : value_at rows (dir_of c.args.path.now) ≡ None =
    ap (value_at rows) (sym c.dir.ensures) ∙ sym (c.in-None.ensures.value ∙ value_at_is c.self.inside.by_dir.entries c.dir.result.now) in
    rw (← c.self.view_is) (ap (λ held. list_any (bytes_eq c.args.path.now) (unwrap_or held [])) (sym there))
