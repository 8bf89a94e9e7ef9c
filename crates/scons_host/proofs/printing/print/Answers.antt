use Rattle.std.proofs.Common.{refl, ◌∙◌, ◌++◌, ap, append_assoc, take, drop}
use Rattle.std.proofs.lemmas.List.{take-append-drop}
use Rattle.scons_host.specs.Laws.{prints_same, prints_joined, prints_write}
use Rattle.scons_host.proofs.printing.print.Goals as goal

pub loop-rest-init : goal.loop-rest-init
loop-rest-init g c =
    let m = g.S.Sink.meaning in
    record { prints = prints_same m _; text = λ t. ap (λ bytes. m.text c.args.sink.now ++ bytes) c.as_bytes-rest.ensures.value; faults = refl }

pub loop-rest-preserved : goal.loop-rest-preserved
loop-rest-preserved g c =
    let m = g.S.Sink.meaning in
    let w = c.write.ensures in
    let old = m.text c.loop-rest.sink in
    let rest = c.loop-rest.rest.now in
    let n = c.in_ok-count.count in
    record {
      prints = prints_joined m _ _ _ c.loop-rest.invariant.prints (prints_write m _ _ _ c.write.result w.told w.printed w.kept w.rose);
      text = λ t.
          ap (λ bytes. m.text c.write.new.self ++ bytes) c.split_at.ensures.back
          ∙ ap (λ bytes. bytes ++ drop n rest) (c.in_ok-count.ensures.printed t)
          ∙ append_assoc old (take n rest) (drop n rest)
          ∙ ap (λ bytes. old ++ bytes) (take-append-drop n rest)
          ∙ c.loop-rest.invariant.text (w.told t);
      faults = c.in_ok-count.ensures.kept ∙ c.loop-rest.invariant.faults;
    }
