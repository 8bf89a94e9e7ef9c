use Rattle.std.proofs.Common.{◌∙◌}
use Rattle.world_api.proofs.Looking.{looks_joined}
use Rattle.scons_report.proofs.Ending.{inside_exit}
use Rattle.scons_report.proofs.over.scan_all.Goals as goal
use Rattle.scons_report.proofs.over.scan_all.Goals.{in-Scan+in_ok-scan-in-Scan, in-Decide+in_ok-settle-in-Decide}

pub returns-in_err-scan-in-Scan-clause-looks : goal.returns-in_err-scan-in-Scan-clause-looks
returns-in_err-scan-in-Scan-clause-looks g c = looks_joined g.W.Disk.meaning _ _ _ c.loop-turn.invariant.looks c.scan.ensures.looks

pub returns-in_err-settle-in-Decide-clause-cause : goal.returns-in_err-settle-in-Decide-clause-cause
returns-in_err-settle-in-Decide-clause-cause g c =
    let r = c.from_residual-in_err-settle-in-Decide in
    inside_exit _ _ r.result c.loop-turn.invariant.counts r.ensures.1

pub loop-turn-preserved : goal.loop-turn-preserved
loop-turn-preserved g c =
    let m = g.W.Disk.meaning in
    let was = c.loop-turn.invariant in
    elim c.match-next.branch [
      | in-Scan+in_ok-scan-in-Scan w ↦
          let ok = w.in_ok-scan-in-Scan.ensures in
          rw (w.graph-is, w.inputs-is, w.plan-is, w.world-is)
          (record {
            looks = looks_joined m _ _ _ was.looks w.scan.ensures.looks;
            counts = ok.cause ∙ was.counts;
            gone = w.scan.ensures.gone ∙ was.gone;
            over = λ tells b requested t is.
                ok.over (c.next.ensures.scan _ _ w.in-Scan.is) tells b requested t (was.over (w.scan.ensures.looks.told.told tells) b requested t is);
          })
      | in-Decide+in_ok-settle-in-Decide w ↦
          rw (w.graph-is, w.inputs-is, w.plan-is, w.world-is)
          (record {
            looks = was.looks;
            counts = was.counts;
            gone = was.gone;
            over = λ tells b requested t is.
                w.in_ok-settle-in-Decide.ensures.over (c.next.ensures.decide _ w.in-Decide.is) b requested t _ _ (was.over tells b requested t is);
          })
    ]
