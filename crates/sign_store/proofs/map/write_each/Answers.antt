use Rattle.std.proofs.lemmas.List.{take_more}
use Rattle.sign_store.proofs.TableLemmas.{writes_one_more}
use Rattle.sign_store.proofs.map.write_each.Goals as goal

pub loop-path-preserved : goal.loop-path-preserved
loop-path-preserved c =
    rw (take_more c.args.paths.now c.loop-path.path-index c.path-item.result c.loop-path-test.true, ← c.path-item.is)
    (writes_one_more _ c.path-item.result c.args.value c.args.table.now c.loop-path.table c.write.new.table c.loop-path.invariant c.write.ensures)
