use Rattle.std.proofs.Common.{◌∙◌}
use Rattle.std.proofs.lemmas.List.{take_more}
use Rattle.sign_store.proofs.TableLemmas.{enters_one_more}
use Rattle.sign_store.proofs.map.enter_each.Goals as goal

pub loop-path-preserved : goal.loop-path-preserved
loop-path-preserved c =
    rw (take_more c.args.paths.now c.loop-path.path-index c.path-item.result c.loop-path-test.true, ← c.path-item.is) (record {
      same = λ path. c.enter.ensures.same path ∙ c.loop-path.invariant.same path;
      places = enters_one_more _ c.path-item.result c.loop-path.table c.enter.new.table c.loop-path.invariant.places c.in_ok-enter.ensures.place c.enter.ensures.stay;
      stay = λ path has. c.enter.ensures.stay path (c.loop-path.invariant.stay path has);
    })
