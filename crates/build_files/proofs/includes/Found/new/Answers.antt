use Rattle.std.proofs.Common.{◌∙◌, ap, sym}
use Rattle.std.specs.Map.{lookup}
use Rattle.build_means.proofs.Lists.{none_some}
use Rattle.build_files.specs.Kept.{same_scan}
use Rattle.build_files.proofs.includes.Found.new.Goals as goal

pub returns-clause-truth : goal.returns-clause-truth
returns-clause-truth c = λ b g gone around. record {
  each = λ scan nodes kept. none_some (sym (ap (λ entries. lookup (same_scan scan) entries) c.new-files.ensures.empty) ∙ kept);
  last = λ rule list noted. none_some noted;
}
