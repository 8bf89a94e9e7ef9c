use Rattle.build_means.proofs.Readings.{rule_is}
use Rattle.build_means.proofs.laws.rules_are_these.Goals as goal

pub returns : goal.returns
returns c = λ g law hash tree reading p. rule_is g reading law hash tree p
