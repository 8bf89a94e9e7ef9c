use Rattle.std.proofs.Common.{◌∙◌, refl, sym, subst}
use Rattle.world_api.specs.Around.{IsRunningTarget}
use Rattle.build_files.proofs.Truths.{asked, kept_same, kept_stamp}
use Rattle.build_files.proofs.Reading.{reads_by}
use Rattle.build_files.proofs.inputs.Inputs.stamp.Goals as goal

pub returns-in-Some-clause-stamp : goal.returns-in-Some-clause-stamp
returns-in-Some-clause-stamp g c = λ told b path at is. (is.seen _ path at).now.stamp c.in-Some.stamp (sym c.stamp.ensures ∙ c.in-Some.is)

pub returns-in_err-stamp-clause-truth : goal.returns-in_err-stamp-clause-truth
returns-in_err-stamp-clause-truth g c = λ still told b is. asked b _ _ _ _ (c.stamp_past.ensures.looks.around told) is

pub returns-in_err-keep_stamp-clause-truth : goal.returns-in_err-keep_stamp-clause-truth
returns-in_err-keep_stamp-clause-truth g c = λ still told b is.
    kept_same b _ _ _ _ c.in_err-keep_stamp.ensures.same (asked b _ _ _ _ (c.stamp_past.ensures.looks.around told) is)

pub returns-clause-truth : goal.returns-clause-truth
returns-clause-truth g c = λ still told b is.
    let asks = c.stamp_past.ensures.looks.around told in
    let at = c.in_ok-path_of.ensures.at in
    kept_stamp b _ _ _ _ _ _ at (asked b _ _ _ _ asks is)
    (λ running. still _ at (subst (λ r. IsRunningTarget r c.in_ok-path_of.field-0.now) asks.running running))
    (c.in_ok-stamp.ensures.stamp told) c.in_ok-keep_stamp.ensures.done

pub returns-clause-only : goal.returns-clause-only
returns-clause-only g c =
    reads_by c.args.node c.args.self.now (record c.args.self.now { files = c.keep_stamp.new.self }) refl c.in_ok-keep_stamp.ensures.done.others
