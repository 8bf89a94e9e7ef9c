use Rattle.std.proofs.Common.{◌≡◌, ◌∙◌, ap, sym, None, Some, string_bytes}
use Rattle.std.specs.Prelude.{unwrap_or}
use Rattle.std.specs.Map.{lookup}
use Rattle.std.specs.Str.{bytes_eq}
use Rattle.scons_decls.specs.Tables.{rows_of, put, value_at}
use Rattle.scons_decls.specs.Aliased.{no_parts, with_role}
use Rattle.scons_decls.proofs.Rows.{value_at_is, written_is, on_ok}
use Rattle.scons_decls.proofs.aliases.Aliases.add.Goals as goal

pub add_first-requires : goal.add_first-requires
add_first-requires c =
    let entries = c.self.inside.aliases.entries in
    let same = c.get_mut.follows.holds-at-none in
    rw same (ap (value_at (rows_of entries)) (sym c.as_str.ensures) ∙ sym (c.in-None.ensures.value ∙ value_at_is entries c.as_str.result.now))

pub returns-in-Some : goal.returns-in-Some
returns-in-Some c =
    let self = c.args.self.now in
    let entries = c.self.inside.aliases.entries in
    let key = c.as_str.result.now in
    let new = c.add.new.self in
    let there : lookup (λ k. bytes_eq key (string_bytes k)) entries ≡ Some c.in-Some.parts.now = sym c.in-Some.ensures.value in
    let at : value_at self c.args.name.now ≡ Some c.in-Some.parts.now =
    ap (value_at self) (sym c.as_str.ensures) ∙ ap (λ rows. value_at rows key) (sym c.self.view_is) ∙ sym (value_at_is entries key) ∙ there in
    on_ok c.add.result c.add.ensures (λ parts.
    ap rows_of (c.get_mut.follows.holds new).0 ∙ written_is entries key new c.in-Some.parts.now there
    ∙ ap (λ rows. put rows key new) c.self.view_is
    ∙ ap (λ n. put self n new) c.as_str.ensures
    ∙ ap (put self c.args.name.now) (parts ∙ ap (λ held. with_role c.args.role c.args.nodes.now (unwrap_or held no_parts)) (sym at)))
