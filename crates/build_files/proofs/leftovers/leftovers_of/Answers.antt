use Rattle.std.proofs.Common.{◌∙◌, ◌++◌, ◌∷◌, ◌+◌, [], List, sym, ap, subst, arith}
use Rattle.std.proofs.lemmas.Bool.{false≢true}
use Rattle.deciders.specs.declared.recorded.Rec.{Rec}
use Rattle.build_files.proofs.Left.{AreLeftSoFar, rest_before, so_far_on, so_far_past, so_far_with, all_left}
use Rattle.build_files.proofs.leftovers.leftovers_of.Goals.{then-branch+in_ok-copy+in_ok-push, else-branch}
use Rattle.world_api.proofs.Looking.{looks_joined}
use Rattle.build_files.proofs.leftovers.leftovers_of.Goals as goal

pub returns-in_err-is_leftover-clause-looks : goal.returns-in_err-is_leftover-clause-looks
returns-in_err-is_leftover-clause-looks g c = looks_joined _ _ _ _ c.loop-rec.invariant.looks c.is_leftover.ensures.looks

pub returns-in_err-copy-clause-looks : goal.returns-in_err-copy-clause-looks
returns-in_err-copy-clause-looks g c = looks_joined _ _ _ _ c.loop-rec.invariant.looks c.is_leftover.ensures.looks

pub returns-in_err-push-clause-looks : goal.returns-in_err-push-clause-looks
returns-in_err-push-clause-looks g c = looks_joined _ _ _ _ c.loop-rec.invariant.looks c.is_leftover.ensures.looks

pub loop-rec-preserved : goal.loop-rec-preserved
loop-rec-preserved g c =
    let m = g.W.Disk.meaning in
    let looks = c.is_leftover.ensures.looks in
    let graph = c.args.graph.now in
    let around = m.around c.is_leftover.new.world in
    let recs = c.args.copies.now in
    let n = c.loop-rec.rec-index in
    record {
      looks = looks_joined _ _ _ _ c.loop-rec.invariant.looks looks;
      counts = c.in_ok-is_leftover.ensures.cause ∙ c.loop-rec.invariant.counts;
      left = λ at.
          let rest = rest_before m _ _ looks at in
          let before = so_far_on graph (m.around c.loop-rec.world) around recs n c.loop-rec.left rest.1 (looks.around at.0) (c.loop-rec.invariant.left rest) in
          elim c.if-branch.branch [
            | then-branch+in_ok-copy+in_ok-push w ↦
                let pushed = w.left-is ∙ (w.in_ok-push.ensures.ok ∙ ap (λ (rec : Rec). c.loop-rec.left ++ rec ∷ []) w.in_ok-copy.ensures) in
                so_far_with graph around recs n c.loop-rec.left c.if-branch.left c.rec-item.result (omega (arith, c.loop-rec-test.true)) c.rec-item.is (c.in_ok-is_leftover.ensures.is at w.if-branch.true) pushed before
            | else-branch w ↦
                let other = so_far_past graph around recs n c.loop-rec.left c.rec-item.result (omega (arith, c.loop-rec-test.true)) c.rec-item.is
                (λ is. false≢true (sym w.if-branch.false ∙ c.in_ok-is_leftover.ensures.all at is)) before in
                subst (λ (left : List Rec). AreLeftSoFar graph around recs (n + 1) left) (sym w.left-is) other
          ];
    }

pub returns-clause-left : goal.returns-clause-left
returns-clause-left g c = λ at.
    all_left c.args.graph.now (g.W.Disk.meaning.around c.loop-rec.world) c.args.copies.now c.loop-rec.rec-index c.loop-rec.left (omega arith) (c.loop-rec.invariant.left at)
