use Rattle.std.proofs.Common.{◌≡◌, ◌∙◌, ap, sym, string_bytes}
use Rattle.std.specs.Prelude.{unwrap_or}
use Rattle.scons_decls.specs.Tables.{rows_of, put}
use Rattle.scons_decls.specs.Aliased.{no_parts, with_role}
use Rattle.scons_decls.proofs.Rows.{put_is}
use Rattle.scons_decls.proofs.aliases.Aliases.add_first.Goals as goal

pub returns : goal.returns
returns c =
    let self = c.args.self.now in
    let name : string_bytes c.in_ok-name.name ≡ c.args.name.now = (c.in_ok-name.ensures {u = tt}).ok ∙ c.as_str.ensures in
    let parts : c.add.new.self ≡ with_role c.args.role c.args.nodes.now no_parts = c.in_ok-add.ensures {u = tt} ∙ ap (with_role c.args.role c.args.nodes.now) c.none-parts.ensures in
    ap rows_of (c.in_ok-insert.ensures {u = tt}).entries ∙ put_is c.self.inside.aliases.entries c.in_ok-name.name c.add.new.self
    ∙ ap (λ rows. put rows (string_bytes c.in_ok-name.name) c.add.new.self) c.self.view_is
    ∙ ap (λ n. put self n c.add.new.self) name
    ∙ ap (put self c.args.name.now) (parts ∙ ap (λ there. with_role c.args.role c.args.nodes.now (unwrap_or there no_parts)) (sym c.requires))
