use Rattle.build_means.proofs.Readings.{known_is}
use Rattle.build_means.proofs.laws.known_are_these.Goals as goal

pub returns : goal.returns
returns c = λ g law hash tree reading p. known_is g reading law hash tree p
