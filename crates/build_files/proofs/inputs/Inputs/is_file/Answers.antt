use Rattle.std.proofs.Common.{◌∙◌, ap, sym, is_some}
use Rattle.build_means.proofs.Lists.{some_same}
use Rattle.build_files.proofs.Truths.{asked, file_stood, kept_same, kept_is_file}
use Rattle.build_files.proofs.inputs.Inputs.is_file.Goals as goal

pub returns-in-Some-clause-file : goal.returns-in-Some-clause-file
returns-in-Some-clause-file g c = λ told b path at unmade is. (is.seen _ path at).is_file c.in-Some.is_file (sym c.is_file.ensures ∙ c.in-Some.is)

pub returns-in_err-is_file-clause-truth : goal.returns-in_err-is_file-clause-truth
returns-in_err-is_file-clause-truth g c = λ unmade told b is. asked b _ _ _ _ (c.stands.ensures.looks.around told) is

pub returns-in_err-keep_is_file-clause-truth : goal.returns-in_err-keep_is_file-clause-truth
returns-in_err-keep_is_file-clause-truth g c = λ unmade told b is.
    kept_same b _ _ _ _ c.in_err-keep_is_file.ensures.same (asked b _ _ _ _ (c.stands.ensures.looks.around told) is)

pub returns-clause-truth : goal.returns-clause-truth
returns-clause-truth g c = λ unmade told b is.
    let there = c.in_ok-path_of.ensures.at in
    kept_is_file b _ _ _ _ _ _ there (asked b _ _ _ _ (c.stands.ensures.looks.around told) is)
    (unmade _ there) (c.in_ok-is_file.ensures.stands told) c.in_ok-keep_is_file.ensures.done

pub returns-clause-file : goal.returns-clause-file
returns-clause-file g c = λ told b path at unmade is.
    let there = c.in_ok-path_of.ensures.at in
    c.in_ok-is_file.ensures.stands told
    ∙ file_stood b c.args.graph.now c.args.self.now _ _ _ (c.stands.ensures.looks.around told) (unmade _ there) is
    ∙ ap (λ p. is_some (b.tree p)) (some_same (sym there ∙ at))
