use Rattle.std.proofs.Common.{ap}
use Rattle.build_files.specs.declared.inputs.Inputs.{Inputs}
use Rattle.build_files.proofs.Reading.{reads_by}
use Rattle.build_files.proofs.Truths.{asked, read_true}
use Rattle.build_files.proofs.inputs.Inputs.read.Goals as goal

pub returns-clause-truth : goal.returns-clause-truth
returns-clause-truth g c = λ still told b is.
    read_true b _ _ _ _ _ _ _ _ (c.content.ensures.looks.around told) c.in_ok-path.ensures.at still (c.in_ok-content.ensures.content told) c.keep.ensures.keeps is

pub returns-in_err-content-clause-truth : goal.returns-in_err-content-clause-truth
returns-in_err-content-clause-truth g c = λ still told b is. asked b _ _ _ _ (c.content.ensures.looks.around told) is

pub returns-in_err-keep-clause-truth : goal.returns-in_err-keep-clause-truth
returns-in_err-keep-clause-truth g c = λ still told b is.
    read_true b _ _ _ _ _ _ _ _ (c.content.ensures.looks.around told) c.in_ok-path.ensures.at still (c.in_ok-content.ensures.content told) c.keep.ensures.keeps is

pub returns-in_err-keep-clause-only : goal.returns-in_err-keep-clause-only
returns-in_err-keep-clause-only g c =
    reads_by c.args.node c.args.self.now c.keep.new.self (ap (λ (i : Inputs). i.found) c.keep.ensures.keeps.rest) c.keep.ensures.keeps.others

pub returns-clause-only : goal.returns-clause-only
returns-clause-only g c =
    reads_by c.args.node c.args.self.now c.keep.new.self (ap (λ (i : Inputs). i.found) c.keep.ensures.keeps.rest) c.keep.ensures.keeps.others
