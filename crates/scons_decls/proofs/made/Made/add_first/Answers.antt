use Rattle.std.proofs.Common.{◌≡◌, ◌∙◌, ap, sym, [], false}
use Rattle.std.specs.Prelude.{unwrap_or, is_err}
use Rattle.std.specs.Str.{bytes_eq}
use Rattle.indexmap.specs.IndexSet.{insert_key}
use Rattle.scons_base.specs.Parts.{dir_of}
use Rattle.scons_decls.specs.Tables.{put}
use Rattle.scons_decls.proofs.Rows.{on_ok}
use Rattle.scons_decls.proofs.Noted.{closed, above_new, on_no_error}
use Rattle.scons_decls.proofs.made.Made.add_first.Goals as goal

pub note-noted-requires : goal.note-noted-requires
note-noted-requires c = closed _ _ c.self.invariant

pub invariant_of-self-else-is_err : goal.invariant_of-self-else-is_err
invariant_of-self-else-is_err c =
    let fine : is_err c.note-noted.result ≡ false = sym c.is_err.ensures.value ∙ c.if-is_err.false in
    above_new _ _ _ _ (dir_of c.args.path.now) _ c.self.invariant (on_no_error _ c.note-noted.ensures.above fine) (on_no_error _ c.note-noted.ensures.rows fine)

pub returns-else-is_err : goal.returns-else-is_err
returns-else-is_err c =
    let path = c.args.path.now in
    let self = c.args.self.now in
    let targets : c.add.new.self ≡ insert_key bytes_eq [] path =
    c.in_ok-add.ensures {u = tt} ∙ ap (λ old. insert_key bytes_eq old c.args.copy) c.new-targets.ensures ∙ ap (insert_key bytes_eq []) c.requires.copy in
    on_ok c.note-noted.result c.note-noted.ensures.rows (λ rows.
    rows ∙ ap (λ before. put before (dir_of path) c.add.new.self) c.self.view_is
    ∙ ap (put self (dir_of path)) (targets ∙ ap (λ there. insert_key bytes_eq (unwrap_or there []) path) (sym c.requires.none)))
