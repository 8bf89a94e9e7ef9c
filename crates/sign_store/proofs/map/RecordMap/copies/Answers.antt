use Rattle.std.proofs.Common.{List, inl, inr, ap, length, arith}
use Rattle.deciders.specs.declared.recorded.Rec.{Rec}
use Rattle.sign_store.proofs.CopyLemmas.{numbered, all_so_far}
use Rattle.sign_store.proofs.map.RecordMap.copies.Goals as goal

pub loop-number-preserved : goal.loop-number-preserved
loop-number-preserved c =
    let before = c.loop-number.invariant in
    let step = c.in_ok-add_copy.ensures in
    record {
      each = λ rec h. elim (step.each rec h) [
        | inl old ↦ before.each rec old
        | inr is ↦ is
      ];
      all = all_so_far c.args.self.now c.loop-number.number c.loop-number.copies c.add_copy.new.copies step.kept step.at before.all;
    }

pub returns : goal.returns
returns c = record {
  each = c.loop-number.invariant.each;
  all = λ rec is.
      let n = numbered c.args.self.now rec is in
      let below = n.below in
      let len = ap (λ (records : List Rec). length records) c.records-number-end.ensures in
      let past = c.loop-number-test.false in
      c.loop-number.invariant.all n.number rec (omega (arith, below, len, past)) n.got is.copies n.any;
}
