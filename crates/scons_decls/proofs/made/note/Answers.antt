use Rattle.std.proofs.Common.{◌∙◌, ap}
use Rattle.scons_decls.specs.Tables.{rows_of, put}
use Rattle.scons_decls.proofs.Rows.{put_is}
use Rattle.scons_decls.proofs.made.note.Goals as goal

pub returns-clause-rows : goal.returns-clause-rows
returns-clause-rows c =
    let before = c.args.by_dir.now.entries in
    ap rows_of (c.in_ok-insert.ensures {u = tt}).entries ∙ put_is before c.in_ok-name.name c.args.targets
    ∙ ap (λ n. put (rows_of before) n c.args.targets) ((c.in_ok-name.ensures {u = tt}).ok ∙ c.dir.ensures)
