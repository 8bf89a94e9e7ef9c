use Rattle.world_api.proofs.PrintRuns.{prints_some, prints_rest, cut_rest}
use Rattle.world_api.proofs.printing.print.Goals as goal

pub loop-rest-preserved : goal.loop-rest-preserved
loop-rest-preserved g c =
    let wrote = prints_some g.S.Sink.meaning c.loop-rest.sink c.write.new.self c.in_ok-count.count c.loop-rest.rest.now c.in_ok-count.ensures.told c.in_ok-count.ensures.printed c.in_ok-count.ensures.kept in
    record {
      prints = λ new more. c.loop-rest.invariant.prints new (prints_rest g.S.Sink.meaning c.loop-rest.sink c.write.new.self new c.in_ok-count.count c.loop-rest.rest.now wrote (rw c.split_at.ensures.back at more));
      cuts = λ new more. c.loop-rest.invariant.cuts new (cut_rest g.S.Sink.meaning c.loop-rest.sink c.write.new.self new c.in_ok-count.count c.loop-rest.rest.now wrote (rw c.split_at.ensures.back at more));
    }
