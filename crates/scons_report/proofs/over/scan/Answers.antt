use Rattle.std.proofs.Common.{refl, false}
use Rattle.scons_report.proofs.Ending.{exit_ok, inside_exit}
use Rattle.scons_report.proofs.Going.{goes_on, none_runs, scans_over}
use Rattle.scons_report.proofs.over.scan.Goals as goal

pub returns-in_err-found-clause-over : goal.returns-in_err-found-clause-over
returns-in_err-found-clause-over g c = λ next tells b requested t is. exit_ok _ _ c.from_residual.result c.from_residual.ensures.1

pub returns-in_err-step-clause-looks : goal.returns-in_err-step-clause-looks
returns-in_err-step-clause-looks g c = c.scanned.ensures.looks

pub returns-in_err-step-clause-cause : goal.returns-in_err-step-clause-cause
returns-in_err-step-clause-cause g c =
    let r = c.from_residual-in_err-step in
    inside_exit _ _ r.result c.in_ok-found.ensures.cause r.ensures.1

pub returns-in_err-step-clause-over : goal.returns-in_err-step-clause-over
returns-in_err-step-clause-over g c = λ next tells b requested t is.
    exit_ok _ _ c.from_residual-in_err-step.result c.from_residual-in_err-step.ensures.1

pub returns-clause-looks : goal.returns-clause-looks
returns-clause-looks g c = c.scanned.ensures.looks

pub returns-clause-over : goal.returns-clause-over
returns-clause-over g c = λ next tells b requested t is.
    let m = g.W.Disk.meaning in
    let seen = c.scanned.ensures in
    let ok = c.in_ok-found.ensures in
    let took = c.in_ok-step.ensures in
    let old = m.around c.args.world.now in
    scans_over b requested t c.args.graph.now c.args.inputs.now c.args.plan.now old is c.args.rule c.args.file next c.scanned.new.graph c.scanned.new.self
    (m.around c.scanned.new.world) c.in_ok-found.found c.step.new.self (seen.looks.around tells) seen.grows
    (record { apart = c.laws.ensures.apart; single = c.laws.ensures.single; named = c.laws.ensures.named }) c.laws.ensures.room seen.gone
    (seen.truth (λ path at. none_runs old is.idle path) tells b is.truth) (ok.looked is.looked) (λ x path at_rule at_file. ok.found (λ p at. none_runs old is.idle p) x path at_rule at_file tells b is.truth)
    (record {
      states = took.states;
      knows = took.knows;
      fits = took.fits;
      follow = took.follow;
      origins = took.origins;
      needs = took.needs;
      only = took.only;
      sought = took.sought;
      roots = took.roots;
      complete = took.complete;
      order = took.order;
    })
    (goes_on c.args.plan.now.halted _ false false is.goes refl refl took.halted)
