use Rattle.build_means.proofs.Readings.{is_graph}
use Rattle.build_means.proofs.laws.readings_are_graphs.Goals as goal

pub returns : goal.returns
returns c = λ g law hash tree reading. is_graph g reading law hash tree
