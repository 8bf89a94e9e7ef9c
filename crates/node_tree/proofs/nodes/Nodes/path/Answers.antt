use Rattle.node_tree.proofs.Places.{own_number}
use Rattle.node_tree.proofs.nodes.Nodes.path.Goals as goal

pub returns-clause-back : goal.returns-clause-back
returns-clause-back c =
    rw (← c.self.view_is) (own_number c.self.inside.paths.keys c.args.id.0 c.index-as_slice-id.result c.as_slice.ensures.unique
    (rw c.self.view_is c.requires) (rw c.as_slice.ensures.keys at c.index-as_slice-id.is))
