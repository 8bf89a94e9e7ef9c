use Rattle.plan_means.proofs.Scanning.{scans_keep}
use Rattle.plan_means.proofs.laws.scans_keep_ties.Goals as goal

pub returns : goal.returns
returns c = λ b g requested t past old new rule file found now ties next is_found is. scans_keep b g requested t past old new rule file found now ties next is_found is
