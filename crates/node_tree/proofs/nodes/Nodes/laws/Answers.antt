use Rattle.node_tree.proofs.Places.{own_place}
use Rattle.node_tree.proofs.nodes.Nodes.laws.Goals as goal

pub returns : goal.returns
returns c = rw (← c.self.view_is) (own_place c.self.inside.paths.keys c.as_slice-paths.ensures.unique)
