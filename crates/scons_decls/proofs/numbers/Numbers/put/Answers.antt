use Rattle.std.proofs.Common.{◌∙◌, ap}
use Rattle.scons_decls.specs.Tables.{rows_of}
use Rattle.scons_decls.proofs.Rows.{put_is}
use Rattle.scons_decls.proofs.numbers.Numbers.put.Goals as goal

pub returns : goal.returns
returns c =
    rw (← c.self.view_is) (ap rows_of (c.in_ok-insert.ensures {u = tt}).entries ∙ put_is c.self.inside.numbers.entries c.args.name c.args.number)
