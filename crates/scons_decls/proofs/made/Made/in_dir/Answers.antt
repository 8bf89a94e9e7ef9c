use Rattle.std.proofs.Common.{◌∙◌, ap}
use Rattle.scons_decls.specs.Tables.{value_at, rows_of}
use Rattle.scons_decls.proofs.Rows.{value_at_is}
use Rattle.scons_decls.proofs.made.Made.in_dir.Goals as goal

pub returns : goal.returns
returns c =
    rw (← c.self.view_is) (c.get.ensures.value ∙ value_at_is c.self.inside.by_dir.entries c.as_str.result.now ∙ ap (value_at (rows_of c.self.inside.by_dir.entries)) c.as_str.ensures)
