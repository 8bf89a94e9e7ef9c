use Rattle.std.specs.Prelude.{option_copied}
use Rattle.scons_decls.specs.Globs.{found}
use Rattle.scons_decls.proofs.Globbing.{found_next, found_all}
use Rattle.scons_decls.proofs.glob.add_found.Goals as goal

pub loop-path-preserved : goal.loop-path-preserved
loop-path-preserved c =
    found_next (found c.args.search.now (option_copied c.args.source)) _ _ c.args.some.now c.loop-path.path-index c.path-item.result c.in_ok-found.found _
    c.loop-path-test.true c.path-item.is (c.in_ok-found.ensures {u = tt}) (c.in_ok-add.ensures {u = tt}) c.loop-path.invariant

pub returns : goal.returns
returns c =
    found_all (found c.args.search.now (option_copied c.args.source)) c.loop-path.paths.keys c.args.some.now c.loop-path.path-index _ c.loop-path-test.false c.loop-path.invariant
