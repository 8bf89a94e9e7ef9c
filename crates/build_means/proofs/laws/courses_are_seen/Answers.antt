use Rattle.build_means.proofs.Succeeding.{are_seen}
use Rattle.build_means.proofs.laws.courses_are_seen.Goals as goal

pub returns : goal.returns
returns c = are_seen c.graphs_are_lawful.ensures c.courses_are_builds.ensures
