use Rattle.std.proofs.Common.{◌≡◌, ◌∙◌, ap, sym, None, Some, [], string_bytes}
use Rattle.std.specs.Prelude.{unwrap_or}
use Rattle.std.specs.Map.{lookup}
use Rattle.std.specs.Str.{bytes_eq}
use Rattle.indexmap.specs.IndexSet.{insert_key}
use Rattle.scons_base.specs.Parts.{dir_of}
use Rattle.scons_decls.specs.Tables.{rows_of, put, value_at}
use Rattle.scons_decls.proofs.Rows.{value_at_is, written_is, on_ok}
use Rattle.scons_decls.proofs.Noted.{above_kept}
use Rattle.scons_decls.proofs.made.Made.add.Goals as goal

pub add_first-requires-clause-none : goal.add_first-requires-clause-none
add_first-requires-clause-none c =
    let entries = c.self.inside.by_dir.entries in
    let same = c.get_mut.follows.holds-at-none in
    rw same (ap (value_at (rows_of entries)) (sym c.dir.ensures) ∙ sym (c.in-None.ensures.value ∙ value_at_is entries c.dir.result.now))

pub returns-in-Some : goal.returns-in-Some
returns-in-Some c =
    let self = c.args.self.now in
    let path = c.args.path.now in
    let entries = c.self.inside.by_dir.entries in
    let key = c.dir.result.now in
    let new = c.add.new.self in
    let there : lookup (λ k. bytes_eq key (string_bytes k)) entries ≡ Some c.in-Some.targets.now = sym c.in-Some.ensures.value in
    let at : value_at self (dir_of path) ≡ Some c.in-Some.targets.now =
    ap (value_at self) (sym c.dir.ensures) ∙ ap (λ rows. value_at rows key) (sym c.self.view_is) ∙ sym (value_at_is entries key) ∙ there in
    on_ok c.add.result c.add.ensures (λ targets.
    ap rows_of (c.get_mut.follows.holds new).0 ∙ written_is entries key new c.in-Some.targets.now there
    ∙ ap (λ rows. put rows key new) c.self.view_is
    ∙ ap (λ n. put self n new) c.dir.ensures
    ∙ ap (put self (dir_of path)) (targets ∙ ap (λ one. insert_key bytes_eq c.in-Some.targets.now one) (c.in_ok-copy.ensures {u = tt})
    ∙ ap (λ held. insert_key bytes_eq (unwrap_or held []) path) (sym at)))

pub invariant_of-self : goal.invariant_of-self
invariant_of-self c =
    let entries = c.self.inside.by_dir.entries in
    let key = c.dir.result.now in
    let there : lookup (λ k. bytes_eq key (string_bytes k)) entries ≡ Some c.in-Some.targets.now = sym c.in-Some.ensures.value in
    above_kept c.self.inside.dirs.keys (rows_of entries) _ key c.add.new.self c.in-Some.targets.now c.self.invariant (sym (value_at_is entries key) ∙ there)
    (ap rows_of (c.get_mut.follows.holds c.add.new.self).0 ∙ written_is entries key c.add.new.self c.in-Some.targets.now there)
